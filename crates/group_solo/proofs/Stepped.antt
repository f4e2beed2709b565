-- What a step of the machine of a group tells of its event.
use Rattle.std.proofs.Common.{◌⊎◌, inl, inr, ◌≡◌, ◌≤◌, ℕ, Bool, false, Option, Some, None, sym, ap, subst, ◌∙◌}
use Rattle.std.specs.Option.{option_and_then, option_map}
use Rattle.base.specs.NumberMap.{get}
use Rattle.group_model.specs.Group.{Answered, Group, GroupCall, Home, closes, comes_back, finds_room, goes_out, home, invokes, opens_tested, sees, settles, silent, step}
use Rattle.group_model.specs.declared.group_event.GroupEvent.{GroupEvent}
use Rattle.group_model.specs.declared.group_event.GroupEvent.TheVariants as event
use Rattle.group_model.specs.declared.group_reply.GroupReply.{GroupReply}
use Rattle.begin_call.specs.Begins.{IsValidApp}
use Rattle.kernel_model.specs.Application.{Application}
use Rattle.kernel_model.specs.Codes.{success}
use Rattle.kernel_state.specs.Setup.{application_of}
use Rattle.own_model.specs.declared.own_event.BackInput.{BackInput}
use Rattle.own_model.specs.declared.own_event.OwnInput.{OwnInput}
use Rattle.solo.proofs.Stepped.{some_found, some_map}
use Rattle.group_solo.proofs.Numbered.{numbered_after}
use Rattle.group_solo.proofs.ShortGroup.{more_group, short_after}
use Rattle.group_solo.specs.Standing.{IsGroup, IsShortGroup, StandsFor, app_in, entered_in}
use Rattle.group_solo.specs.Stepping.{HasNumber, HasStepped, IsShortEvent, IsSilent}
use Rattle.group_solo.specs.declared.group.GroupSolo.{GroupSolo}
use Rattle.ta_params.specs.declared.login.Login.{Login}

-- a silent step has no reply
pub silent_step : (o : Option Group) (next : Group) (told : Option GroupReply) → option_map silent o ≡ Some (next, told) → (o ≡ Some next) × (None ≡ told)
silent_step None next told e = absurd cc
silent_step (Some g) next told e =
    let same : silent g ≡ (next, told) = cc in
    (ap (λ (a : Answered). Some a.0) same, ap (λ (a : Answered). a.1) same)

-- one of those that aren't answered
abbrev IsUnanswered : GroupEvent → Type 0
IsUnanswered came = ((input : OwnInput) × (login : Login) × (limited : Bool) × (area : Bool) × (came ≡ event.Open input login limited area))
    ⊎ (((session : ℕ) × (func : ℕ) × (input : OwnInput) × (area : Bool) × (came ≡ event.Invoke session func input area))
    ⊎ (((session : ℕ) × (area : Bool) × (came ≡ event.Close session area))
    ⊎ (((session : ℕ) × (came ≡ event.Cancel session))
    ⊎ (((call : ℕ) × (done_by_now : ℕ) × (came ≡ event.Seen call done_by_now))
    ⊎ (((call : ℕ) × (enough : Bool) × (came ≡ event.Room call enough))
    ⊎ ((call : ℕ) × (input : BackInput) × (came ≡ event.Back call input)))))))

pub silent_then : (came : GroupEvent) → IsUnanswered came → IsSilent came
silent_then came (inl comes) = subst IsSilent (sym comes.4) tt
silent_then came (inr (inl invoke)) = subst IsSilent (sym invoke.4) tt
silent_then came (inr (inr (inl close))) = subst IsSilent (sym close.2) tt
silent_then came (inr (inr (inr (inl cancel)))) = subst IsSilent (sym cancel.1) tt
silent_then came (inr (inr (inr (inr (inl seen))))) = subst IsSilent (sym seen.2) tt
silent_then came (inr (inr (inr (inr (inr (inl room)))))) = subst IsSilent (sym room.2) tt
silent_then came (inr (inr (inr (inr (inr (inr back)))))) = subst IsSilent (sym back.2) tt

-- ---- what each event finds

pub opened : (most : ℕ) (app : Application) (g next : Group) (came : GroupEvent) (input : OwnInput) (login : Login) (limited area : Bool)
    (told : Option GroupReply) → came ≡ event.Open input login limited area → step most app g came ≡ Some (next, told) →
    (opens_tested app g input (record { login = login; area = area }) limited ≡ Some next) × (None ≡ told)
opened most app g next came input login limited area told is e =
    silent_step (opens_tested app g input (record { login = login; area = area }) limited) next told (ap (step most app g) (sym is) ∙ e)

pub invoked : (most : ℕ) (app : Application) (g next : Group) (came : GroupEvent) (session func : ℕ) (input : OwnInput) (area : Bool) (told : Option GroupReply) →
    came ≡ event.Invoke session func input area → step most app g came ≡ Some (next, told) →
    (option_and_then (invokes app g func input area) (home g session) ≡ Some next) × (None ≡ told)
invoked most app g next came session func input area told is e =
    silent_step (option_and_then (invokes app g func input area) (home g session)) next told (ap (step most app g) (sym is) ∙ e)

pub closed : (most : ℕ) (app : Application) (g next : Group) (came : GroupEvent) (session : ℕ) (area : Bool) (told : Option GroupReply) → came ≡ event.Close session area →
    step most app g came ≡ Some (next, told) → (at : Home) × ((home g session ≡ Some at) × ((closes app g area at ≡ next) × (None ≡ told)))
closed most app g next came session area told is e =
    let found = some_map (λ (at : Home). silent (closes app g area at)) (home g session) (next, told) (ap (step most app g) (sym is) ∙ e) in
    (found.0, (found.1.0, (ap (λ (a : Answered). a.0) found.1.1, ap (λ (a : Answered). a.1) found.1.1)))

pub cancelled : (most : ℕ) (app : Application) (g next : Group) (came : GroupEvent) (session : ℕ) (told : Option GroupReply) → came ≡ event.Cancel session →
    step most app g came ≡ Some (next, told) → (settles g false success ≡ next) × (None ≡ told)
cancelled most app g next came session told is e =
    let found = some_map (λ (at : Home). silent (settles g false success)) (home g session) (next, told) (ap (step most app g) (sym is) ∙ e) in
    (ap (λ (a : Answered). a.0) found.1.1, ap (λ (a : Answered). a.1) found.1.1)

-- a call of that number is there, and does this
pub record CallDoes (g next : Group) (number : ℕ) (told : Option GroupReply) (does : GroupCall → Option Group) : Type 0 where
  pub call : GroupCall
  pub there : get g.calls number ≡ Some call
  pub does_so : does call ≡ Some next
  pub silent_so : None ≡ told

call_does : (g next : Group) (number : ℕ) (told : Option GroupReply) (does : GroupCall → Option Group) →
    option_map silent (option_and_then does (get g.calls number)) ≡ Some (next, told) → CallDoes g next number told does
call_does g next number told does e =
    let so = silent_step (option_and_then does (get g.calls number)) next told e in
    let found = some_found does (get g.calls number) next so.0 in
    record { call = found.0; there = found.1.0; does_so = found.1.1; silent_so = so.1 }

pub saw : (most : ℕ) (app : Application) (g next : Group) (came : GroupEvent) (number done_by_now : ℕ) (told : Option GroupReply) →
    came ≡ event.Seen number done_by_now → step most app g came ≡ Some (next, told) → CallDoes g next number told (sees g number done_by_now)
saw most app g next came number done_by_now told is e = call_does g next number told (sees g number done_by_now) (ap (step most app g) (sym is) ∙ e)

pub found_room : (most : ℕ) (app : Application) (g next : Group) (came : GroupEvent) (number : ℕ) (enough : Bool) (told : Option GroupReply) →
    came ≡ event.Room number enough → step most app g came ≡ Some (next, told) → CallDoes g next number told (finds_room g number enough)
found_room most app g next came number enough told is e = call_does g next number told (finds_room g number enough) (ap (step most app g) (sym is) ∙ e)

pub came_back : (most : ℕ) (app : Application) (g next : Group) (came : GroupEvent) (number : ℕ) (input : BackInput) (told : Option GroupReply) →
    came ≡ event.Back number input → step most app g came ≡ Some (next, told) → CallDoes g next number told (comes_back app g number input)
came_back most app g next came number input told is e = call_does g next number told (comes_back app g number input) (ap (step most app g) (sym is) ∙ e)

pub went_out : (most : ℕ) (app : Application) (g next : Group) (came : GroupEvent) (number : ℕ) (told : Option GroupReply) → came ≡ event.Out number →
    step most app g came ≡ Some (next, told) → (call : GroupCall) × ((get g.calls number ≡ Some call) × (goes_out most g number call ≡ Some (next, told)))
went_out most app g next came number told is e =
    some_found (goes_out most g number) (get g.calls number) (next, told) (ap (step most app g) (sym is) ∙ e)

-- ---- the machine then

-- no buffer of its calls is longer
abbrev with_longest : GroupSolo → ℕ → GroupSolo
with_longest s longest = record s { longest = longest }

still_stands : (longest : ℕ) (s : GroupSolo) (g : Group) → StandsFor s g → StandsFor (with_longest s longest) g
still_stands longest s g stands = record { beside = stands.beside; calls = stands.calls }

-- it stands for the machine then, and something can happen to that
pub stepped : (most longest : ℕ) (s new : GroupSolo) (g next : Group) (came : GroupEvent) (answer told : Option GroupReply) → IsGroup s g →
    HasNumber (entered_in s) came → IsShortGroup longest g → IsShortEvent longest came → step most (app_in s) g came ≡ Some (next, told) →
    new.app ≡ s.app → answer ≡ told → StandsFor new next → HasStepped (with_longest new longest) answer next told
stepped most longest s new g next came answer told is few shorts short e same says stands = (
  says,
  record {
    stands = still_stands longest new next stands;
    numbered = numbered_after most (app_in s) g next came told is.numbered
        (subst (λ (entered : ℕ). HasNumber entered came) (sym (ap (λ (base : Group). base.entered) is.stands.beside)) few) e;
    short = short_after longest most (app_in s) g next came told shorts short e;
    valid = subst IsValidApp (sym (ap application_of same)) is.valid;
  },
)

-- at want of memory it stands for the machine that it stood for
pub still_group : (longest : ℕ) (s new : GroupSolo) (g : Group) → IsGroup s g → s.longest ≤ longest → new.app ≡ s.app → StandsFor new g →
    IsGroup (with_longest new longest) g
still_group longest s new g is more same stands = record {
  stands = still_stands longest new g stands;
  numbered = is.numbered;
  short = more_group s.longest longest more g is.short;
  valid = subst IsValidApp (sym (ap application_of same)) is.valid;
}
