use Rattle.std.proofs.Common.{◌≡◌, List, [], ◌∷◌, ◌++◌, inr, refl, sym, ap, ◌∙◌, append-nil, rules}
use Rattle.std.specs.Prelude.{codes}
use Rattle.base.specs.Zeros.{zeros}
use Rattle.hex.proofs.OnLiterals.{hex_on_literals}
use Rattle.hex.specs.Hex.{decode_pairs}
use Rattle.notif.specs.Desk.{driver_values, signal_values}
use Rattle.notify_text.specs.Rules.{after_line, line_rules}
use Rattle.std.specs.Fmt.{digits}
use Rattle.ta_isa.specs.Reading.{front_instruction, word_at}
use Rattle.text_lines.specs.Lines.{is_skipped}
use Rattle.trace_text.specs.Forms.{bytes, decimal, hexadecimal, is_decimal, is_hex, is_hexadecimal, is_last, is_register, is_uuid, register, uuid}
use Rattle.trace_text.specs.Limits.{inside_after, lies_in_ram}
use Rattle.trace_text.specs.Rules.{added, counts, kind_named, rules_behind}
use Rattle.trace_text.specs.Rules.{after_line as after_trace_line}
use Rattle.uuid.specs.Text.{by_index}
use Rattle.kernel_model.specs.Application.{IsBooted, booted}
use Rattle.line_port.specs.History.{Event, Input, Says}
use Rattle.line_port.specs.History as heard
use Rattle.notify_play.specs.Duty.{Enables, Nothing, Offers}
use Rattle.notify_text.specs.Rules.{no_lines}
use Rattle.ta_isa.specs.declared.boot.Boot.{Boot}
use Rattle.trace_text.specs.Limits.{no_key}
use Rattle.live_play.specs.Conversation.{conversation, said_to}
use Rattle.live_play.specs.Examples.{hears, on, said_ok}
use Rattle.live_play.proofs.laws.worked_examples.Goals as goal

abbrev small : Boot
small = record { cpus = 1; threads = 1; frames = 1; apps = []; key = no_key }

small_boots : IsBooted (booted small on.natives)
small_boots = record { boot = small; natives = on.natives; is_boot = search rules; are_natives = search rules; same = refl }

-- ---- what is no conversation that ends with its input

left_out : (inputs : List Input) → hears (codes "# a") ∷ [] ≡ conversation on no_lines inputs → ⊥
left_out [] e = cc
left_out (input ∷ inputs) e = cc

late : (inputs : List Input)
    → hears (codes "# a") ∷ hears (codes "# b") ∷ said_ok ∷ said_ok ∷ [] ≡ conversation on no_lines inputs → ⊥
late [] e = cc
late (input ∷ inputs) e = cc

twice : (inputs : List Input) → hears (codes "# a") ∷ said_ok ∷ said_ok ∷ [] ≡ conversation on no_lines inputs → ⊥
twice [] e = cc
twice (input ∷ []) e = cc
twice (input ∷ (next ∷ inputs)) e = cc

-- `ok` to a line that breaks a rule
bad_place : said_to on no_lines (heard.Line (codes "leave 0")) ≡ codes "bad place" ++ 10 ∷ []
unfolding after_line line_rules is_skipped bytes decimal hexadecimal is_decimal is_hex is_hexadecimal is_last is_register register uuid inside_after lies_in_ram added counts rules_behind after_trace_line kind_named
bad_place = refl

wrong : (inputs : List Input) → hears (codes "leave 0") ∷ said_ok ∷ [] ≡ conversation on no_lines inputs → ⊥
wrong [] e = cc
wrong (input ∷ inputs) e =
    let is : input ≡ heard.Line (codes "leave 0") = cc in
    let said : said_to on no_lines input ≡ codes "ok" ++ 10 ∷ [] = cc in
    let same : codes "bad place" ++ 10 ∷ [] ≡ codes "ok" ++ 10 ∷ [] =
    sym bad_place ∙ sym (ap (said_to on no_lines) is) ∙ said in
    cc

-- what such a conversation has heard
none_left : (events rest talk : List Event) → events ≡ talk ++ rest → rest ≡ [] → events ≡ talk
none_left events rest talk e none = e ∙ ap (λ (l : List Event). talk ++ l) none ∙ append-nil talk

pub returns : goal.returns
unfolding zeros digits driver_values signal_values hex_on_literals decode_pairs after_line line_rules is_skipped bytes decimal hexadecimal is_decimal is_hex is_hexadecimal is_last is_register register is_uuid uuid inside_after lies_in_ram added counts rules_behind after_trace_line kind_named by_index front_instruction word_at
returns c = record {
  nothing = refl;
  of_a_page = refl;
  before_the_boot = refl;
  of_a_signal = refl;
  of_a_last_answer = refl;
  of_no_line = refl;
  of_rules = refl;
  of_two = refl;
  of_a_late_signal = refl;
  nothing_heard = record { inputs = []; rest = []; history = refl; ended = refl; played = tt };
  over = record { inputs = heard.Line (codes "# a") ∷ []; rest = []; history = refl; ended = refl; played = tt };
  over_inside = record {
    inputs = heard.Line (codes "boot 1 1 1") ∷ heard.Line (codes "enter 0 1 bf00ff01 0 0 0 0 0 0 0") ∷ [];
    rest = [];
    history = refl;
    ended = refl;
    played = (small_boots, refl);
  };
  unread = record { inputs = heard.Line (codes "# a") ∷ []; rest = []; history = refl; ended = refl; played = tt };
  half_said = record {
    inputs = [];
    rest = hears (codes "# a") ∷ Says (codes "o") ∷ [];
    history = refl;
    ended = (heard.Line (codes "# a"), 1, refl, tt);
    played = tt;
  };
  without_answer = record {
    inputs = [];
    rest = hears (codes "# a") ∷ [];
    history = refl;
    ended = inr (heard.Line (codes "# a"), refl);
    played = tt;
  };
  left_out = λ talk. left_out talk.inputs (none_left _ talk.rest _ talk.history talk.ended);
  late = λ talk. late talk.inputs (none_left _ talk.rest _ talk.history talk.ended);
  twice = λ talk. twice talk.inputs (none_left _ talk.rest _ talk.history talk.ended);
  wrong = λ talk. wrong talk.inputs (none_left _ talk.rest _ talk.history talk.ended);
  statuses = refl;
  status_unread = refl;
  status_unsaid = refl;
  status_memory = refl;
  done = refl;
  broken = refl;
  full = refl;
  uid = (refl, tt);
  enable = λ asks. let no : Enables ≡ Nothing = asks.0 in cc;
  capabilities = λ asks. let no : Offers ≡ Nothing = asks.0 in cc;
}
