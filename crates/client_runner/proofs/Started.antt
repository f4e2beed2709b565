-- A client before the first call of its script.
use Rattle.std.proofs.Common.{◌≡◌, ℕ, ◌+◌, List, [], length, Option, Some, None, refl, sym, ap, subst, ◌∙◌}
use Rattle.std.specs.Prelude.{Ok}
use Rattle.base.specs.Zeros.{zeros}
use Rattle.client_play.specs.Calls.{Sessions}
use Rattle.client_play.specs.Played.{no_storage, stopped_by, text_by}
use Rattle.client_text.specs.Sound.{IsSoundScript}
use Rattle.client_text.specs.declared.script.Script.{Script}
use Rattle.client_text.specs.declared.script.ScriptCall.{ScriptCall}
use Rattle.core_port.specs.CorePort.{CoreView}
use Rattle.core_port.specs.Smcs.{smcs_in}
use Rattle.event_journal.specs.declared.event.Event.{Event}
use Rattle.kernel_model.specs.Application.{Booted, Native, booted}
use Rattle.kernel_model.specs.History.{kernel_after}
use Rattle.kernel_model.specs.Kernel.{first_kernel}
use Rattle.play_model.specs.Play.{filled}
use Rattle.ports.specs.PortLaws.{Appends-nil}
use Rattle.ta_isa.specs.declared.boot.Boot.{Boot}
use Rattle.teec.specs.Client.{Calling}
use Rattle.trace_player.specs.Starting.{uuids_of}
use Rattle.trace_text.specs.declared.trace.Fill.{Fill}
use Rattle.word_parts.specs.Answer.{IsTold}
use Rattle.client_runner.specs.Playing.{IsAtStart, IsOver, player_of, script_of}
use Rattle.client_runner.specs.Told.{IsToldOf}

-- ---- a script

pub script_is : (script : Script) (boot : Boot) (fills : List Fill) (calls : List ScriptCall) → script.boot ≡ Some boot
    → fills ≡ script.fills → calls ≡ script.calls → script_of boot fills calls ≡ script
script_is script boot fills calls is filled_by called_by = λ i. record { boot = sym is i; fills = filled_by i; calls = called_by i }

-- of one without a boot nothing is written
pub none_told : (natives : List Native) (script : Script) (out : Option (List ℕ)) → script.boot ≡ None
    → IsToldOf natives script (Ok tt) out out
none_told natives script out none =
    subst (λ (boot : Option Boot). IsTold (stopped_by natives script boot) (text_by natives script boot) (Ok tt) out out) (sym none)
    (refl, Appends-nil out)

-- ---- the client

-- over a port on which nothing has happened
abbrev pub first_port : List Native → Boot → List Fill → CoreView
first_port natives boot fills = record { boot = booted boot natives; history = []; ram = filled (zeros 0x400000) fills }

abbrev pub first_calling : CoreView → Calling CoreView
first_calling port = record { world = port; storage = no_storage; retries = 1; rounds = 65536; failed = None }

pub at_start : (natives : List Native) (boot : Boot) (fills : List Fill) (calls : List ScriptCall) (on : Booted)
    (calling : Calling CoreView) (names : Sessions) (port : CoreView) → booted boot natives ≡ on
    → IsSoundScript (uuids_of natives) (script_of boot fills calls) → IsOver on calling.world → port ≡ first_port natives boot fills
    → calling ≡ first_calling port → names ≡ []
    → IsAtStart on natives (script_of boot fills calls) calls (player_of calling names)
at_start natives boot fills calls on calling names port of sound over is_port is_calling no_names =
    let world : calling.world ≡ first_port natives boot fills = ap (λ (c : Calling CoreView). c.world) is_calling ∙ is_port in
    let empty : calling.world.history ≡ [] = ap (λ (p : CoreView). p.history) world in
    record {
      sound = sound;
      same = refl;
      boot = boot;
      has_boot = refl;
      of_boot = of;
      stands = record {
        over = over;
        kernel = ap (λ (history : List Event). kernel_after on history) empty;
        standing = λ i. record {
          kernel = first_kernel on;
          history = sym empty i;
          ram = (sym world i).ram;
          storage = (sym is_calling i).storage;
        };
        room = ap (λ (history : List Event). length (smcs_in calling.world.boot history) + 32768) empty;
        alive = record {
          tries = ap (λ (c : Calling CoreView). c.retries) is_calling;
          answers = ap (λ (c : Calling CoreView). c.rounds) is_calling;
          alive = ap (λ (c : Calling CoreView). c.failed) is_calling;
        };
        names = no_names;
      };
    }
