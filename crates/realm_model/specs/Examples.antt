-- The machine of a group over the events of one session: what it answers is what the session was answered. Computed on
-- worked histories of sessions.
use Rattle.std.specs.Prelude.{◌≡◌, ℕ, false, true, List, [], ◌∷◌, ◌++◌, Option, Some, None, is_some}
use Rattle.std.specs.Option.{option_map, option_and_then}
use Rattle.event_journal.specs.declared.event.Event.{Event}
use Rattle.job_model.specs.Point.{no_params}
use Rattle.kernel_model.specs.Application.{Application, Booted}
use Rattle.kernel_model.specs.Worked.{Move, Leaves, boot, boot_native, add, panic, wait, wait_unmasked}
use Rattle.kernel_model.specs.Worked.{create_fails, open_fails, open_panics, adds, invokes}
use Rattle.kernel_model.specs.Worked.{invokes_by, cancels, closes, call, call_of, offer, opens, resume, history_of}
use Rattle.own_model.specs.Examples.{adds_inside, asks_in_area, asks_in_buffer, at_once, back_to, dies_awaited, masked_in_area}
use Rattle.own_model.specs.Examples.{nobody, numbers, one_panics, opened_in_area, step_by_step, turned_away, woken}
use Rattle.own_model.specs.Own.{own_app}
use Rattle.own_model.specs.declared.own_event.OwnInput.TheVariants.{Copied}
use Rattle.own_model.specs.declared.own_reply.OwnReply.TheVariants as reply
use Rattle.group_model.specs.Group.{group_machine_replies}
use Rattle.group_model.specs.declared.group_event.GroupEvent.TheVariants.{Invoke, Open, Out}
use Rattle.group_model.specs.declared.group_reply.GroupReply.{GroupReply}
use Rattle.realm_model.specs.Realm.{OneSession}
use Rattle.realm_model.specs.Reading.{happened, realm_events, realm_replies}
use Rattle.realm_model.specs.declared.realm_event.RealmEvent.{RealmEvent}
use Rattle.realm_model.specs.declared.realm_event.RealmEvent.TheVariants.{Comes as Happens}

-- the session as a realm by moves from the boot on: what happens to it, what it is answered, and what the machine of a group
-- of its application answers
abbrev pub happened_of : Booted → List Move → ℕ → Option (List RealmEvent)
happened_of on moves session = option_map (λ history. happened on history (OneSession session)) (history_of on moves)

abbrev pub replies_of : Booted → List Move → ℕ → Option (List GroupReply)
replies_of on moves session = option_map (λ history. realm_replies on history (OneSession session)) (history_of on moves)

abbrev pub machine_of : Booted → List Move → ℕ → Option (List GroupReply)
machine_of on moves session =
    let answers = λ (history : List Event) (app : Application).
    group_machine_replies 1000 app on.key (realm_events on history (OneSession session)) in
    option_and_then (λ history. option_and_then (answers history) (own_app on history session)) (history_of on moves)

-- there is an answer, and it is the same
abbrev pub Agrees : Booted → List Move → ℕ → Type 0
Agrees on moves session =
    (is_some (replies_of on moves session) ≡ true) × (machine_of on moves session ≡ replies_of on moves session)

pub record Examples : Type 0 where
  -- what happens to one session, with the numbers of a realm
  pub events : happened_of (boot 1 1 1 add) at_once 1
      ≡ Some (Happens (Open (Copied no_params) nobody false false) ∷ Happens (Out 0)
      ∷ Happens (Invoke 0 0 (Copied (numbers 5 7)) false) ∷ Happens (Out 1) ∷ [])
  pub replies : replies_of (boot 1 1 1 add) at_once 1
      ≡ Some (record { reply = reply.Ended 0 4 no_params; opened = Some 0 }
      ∷ record { reply = reply.Ended 0 4 (numbers 12 0); opened = None } ∷ [])
  -- the machine agrees with worked histories of sessions
  pub at_once_agrees : Agrees (boot 1 1 1 add) at_once 1
  pub stepwise : Agrees (boot 1 1 1 add) step_by_step 1
  pub woken_agrees : Agrees (boot 2 2 1 wait) woken 1
  pub first : Agrees (boot 1 1 2 panic) one_panics 1
  pub second : Agrees (boot 1 1 2 panic) one_panics 2
  pub seen : Agrees (boot 2 2 1 wait_unmasked)
      (opens ++ call 0 1 (invokes_by 1 250 9) ++ call 1 9 (cancels 1 9) ++ resume 0 1 0 ++ resume 0 1 0 ++ resume 0 1 0
      ++ resume 0 1 0) 1
  pub seen_waiting : Agrees (boot 3 3 1 wait_unmasked)
      (opens ++ call 0 9 (invokes 1 250) ++ call 1 9 (invokes_by 1 250 9) ++ call 2 9 (cancels 1 9) ++ back_to 0
      ++ resume 1 1 1 ++ resume 1 1 1 ++ resume 1 9 1) 1
  pub session_gone : Agrees (boot 3 3 1 add)
      (adds_inside ++ call 1 9 (closes 1) ++ call 2 9 (adds 1 2) ++ Leaves 0 ∷ offer 0 9 0 0x40010000 0x77
      ++ back_to 1 ++ back_to 2 ++ back_to 0 ++ back_to 0 ++ back_to 1) 1
  pub dead : Agrees (boot 3 3 1 panic) (dies_awaited ++ back_to 2 ++ back_to 0 ++ back_to 2 ++ back_to 1) 1
  pub sleepless : Agrees (boot 2 2 1 add) (adds_inside ++ call 1 9 (closes 1) ++ back_to 1 ++ Leaves 0
      ∷ call 1 9 (adds 1 2)) 1
  pub limited : Agrees (boot 2 1 1 add) (turned_away (call_of 0)) 1
  pub area_agrees : Agrees (boot 1 1 1 wait) asks_in_area 1
  pub named_agrees : Agrees (boot 1 1 1 wait) asks_in_buffer 1
  pub masked : Agrees (boot 2 2 1 wait) masked_in_area 1
  pub opened_in_area_agrees : Agrees (boot 1 1 1 add) opened_in_area 1
  pub woken_before : Agrees (boot 3 3 1 add)
      (adds_inside ++ call 1 9 (adds 1 2) ++ Leaves 0 ∷ back_to 1 ++ call 1 1 (adds 3 4) ++ offer 0 9 0 0x40010000 0x77
      ++ back_to 0 ++ back_to 0 ++ back_to 1) 1
  pub open_failed : Agrees (boot 1 1 1 open_fails) (opens ++ opens) 2
  pub create_failed : Agrees (boot 1 1 1 create_fails) opens 1
  pub open_panicked : Agrees (boot 1 1 1 open_panics) opens 1
  pub built_in : Agrees (boot_native 1 1 1 7) (opens ++ opens ++ call 0 1 (invokes 1 5) ++ call 0 1 (closes 1)
      ++ call 0 1 (invokes 2 5)) 1
