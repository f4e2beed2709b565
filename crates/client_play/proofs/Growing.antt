-- Histories only grow: what a call or a script comes to has the history before it in front.
use Rattle.std.proofs.Common.{◌≡◌, ℕ, zero, suc, List, [], ◌∷◌, ◌++◌, length, take, Option, Some, None, refl, ap, subst, sym, ◌∙◌}
use Rattle.std.proofs.Common.{append_assoc}
use Rattle.std.specs.Option.{option_and_then, option_map_or}
use Rattle.std.proofs.Math.Seq.{take-append_seam}
use Rattle.std.proofs.lemmas.List.{append-nil}
use Rattle.std.proofs.lemmas.Option.{option_and_then_some}
use Rattle.client_text.specs.declared.script.ScriptCall.{ScriptCall}
use Rattle.event_journal.specs.declared.event.Event.{Event}
use Rattle.event_journal.specs.declared.event.Event.TheVariants.{Exit}
use Rattle.kernel_model.specs.Application.{Booted}
use Rattle.play_model.specs.Play.{Play, enters, entry_event, leaves, unless_refused}
use Rattle.play_model.proofs.Adds.{some_is}
use Rattle.play_model.proofs.Entries.{CameIn, Entered, WasRefused, entered, event_made, left}
use Rattle.smc_abi.specs.declared.regs.Regs.{Regs}
use Rattle.teec.specs.Calls.{Call}
use Rattle.teec.specs.Rounds.{Calls, Cancels, Ended, Failed, Resumes, Stage}
use Rattle.teec.specs.Answers.{call_with_arg, return_from_rpc}
use Rattle.teec.specs.Places.{argument_at, cancel_at}
use Rattle.client_play.specs.Calls.{call_of, cancelled_after}
use Rattle.client_play.specs.Played.{Client, ClientPlay, after_call, call_made, calls_made, ended, goes_on}
use Rattle.client_play.specs.Standing.{Came, Fails, Returned, Standing, Stopped, after_smc, answer_of, call_from, next_stage, play_of, prepared, standing_after, unless_full, visit_with}

-- the whole begins with this front
pub record Extends (front whole : List Event) : Type 0 where
  pub more : List Event
  pub is : whole ≡ front ++ more

pub extends_same : (front whole : List Event) → whole ≡ front → Extends front whole
extends_same front whole e = record { more = []; is = e ∙ sym (append-nil front) }

pub extends_on : (front middle whole : List Event) → Extends front middle → Extends middle whole → Extends front whole
extends_on front middle whole first second = record {
  more = first.more ++ second.more;
  is = second.is ∙ ap (λ (h : List Event). h ++ second.more) first.is ∙ append_assoc front first.more second.more;
}

-- which is as long as it is
pub front_of : (front whole : List Event) → Extends front whole → take (length front) whole ≡ front
front_of front whole e = ap (λ (h : List Event). take (length front) h) e.is ∙ take-append_seam front e.more

-- ---- an SMC

went_on : (boot : Booted) (between play : Play) → leaves boot 0 between ≡ Some play → Extends between.history play.history
went_on boot between play e =
    let out = left boot 0 between play e in
    let made = event_made boot (Exit 0 (record { a = out.exited.regs })) between out.gone out.came in
    record {
      more = Exit 0 (record { a = out.exited.regs }) ∷ [];
      is = ap (λ (p : Play). p.history) (sym out.is) ∙ made.0;
    }

smc_by : (boot : Booted) (regs : Regs) (asked : Standing) (between play : Play)
    → Entered boot (visit_with regs) (play_of asked) between → unless_refused (leaves boot 0) between ≡ Some play
    → Extends asked.history play.history
smc_by boot regs asked between play (CameIn reads few came) e =
    let made = event_made boot (entry_event (visit_with regs) reads) (play_of asked) between came in
    let gone : leaves boot 0 between ≡ Some play =
    sym (ap (λ (o : Option ℕ). option_map_or (λ more. Some between) o (leaves boot 0 between)) made.1) ∙ e in
    extends_on asked.history between.history play.history
    (record { more = entry_event (visit_with regs) reads ∷ []; is = made.0 }) (went_on boot between play gone)
smc_by boot regs asked between play (WasRefused reads much same) e =
    let stays : Some between ≡ Some play =
    sym (ap (λ (p : Play). option_map_or (λ more. Some between) p.refused (leaves boot 0 between)) (sym same)) ∙ e in
    extends_same asked.history play.history
    (ap (λ (p : Play). p.history) (sym (some_is between play stays)) ∙ ap (λ (p : Play). p.history) (sym same))

pub smc_grows : (boot : Booted) (regs : Regs) (asked : Standing) (play : Play) → after_smc boot regs asked ≡ Some play
    → Extends asked.history play.history
smc_grows boot regs asked play e =
    option_and_then_some (unless_refused (leaves boot 0)) (enters boot (play_of asked) (visit_with regs)) play e
    (λ (between : Play) there onward.
    smc_by boot regs asked between play (entered boot (visit_with regs) (play_of asked) between there) onward)

-- ---- a call

abbrev pub GrownTo : List Event → Came → Type 0
GrownTo history (Returned room after) = Extends history after.history
GrownTo history (Stopped more last) = Extends history last
GrownTo history (Fails fault) = Unit {0}

grown_on : (front middle : List Event) (came : Came) → Extends front middle → GrownTo middle came → GrownTo front came
grown_on front middle (Returned room after) first second = extends_on front middle after.history first second
grown_on front middle (Stopped more last) first second = extends_on front middle last first second
grown_on front middle (Fails fault) first second = tt

-- nothing more comes
as_it_is : (history : List Event) (comes came : Came) → GrownTo history comes → Some comes ≡ Some came → GrownTo history came
as_it_is history comes came grown e =
    let same : comes ≡ came = cc in
    subst (GrownTo history) same grown

stage_grows : (boot : Booted) (regs : Regs) (asked : Standing) (onward : Play → Option Came) (came : Came)
    → ((play : Play) → onward play ≡ Some came → GrownTo play.history came)
    → option_and_then (unless_full onward) (after_smc boot regs asked) ≡ Some came → GrownTo asked.history came
stage_grows boot regs asked onward came rest e =
    option_and_then_some (unless_full onward) (after_smc boot regs asked) came e
    (λ (play : Play) there on.
    grown_on asked.history play.history came (smc_grows boot regs asked play there) (by_refusal play play.refused refl on))
  where
    by_refusal : (play : Play) (refused : Option ℕ) → play.refused ≡ refused
        → option_map_or (λ bytes. Some (Stopped bytes play.history)) refused (onward play) ≡ Some came → GrownTo play.history came
    by_refusal play (Some bytes) is on =
        as_it_is play.history (Stopped bytes play.history) came (extends_same play.history play.history refl) on
    by_refusal play None is on = rest play on

pub call_grows : (boot : Booted) (cancel_after : Option ℕ) (call : Call) (room : ℕ) (stage : Stage) (at : Standing) (came : Came)
    → call_from boot cancel_after call room stage at ≡ Some came → GrownTo at.history came
call_grows boot cancel_after call zero Ended at came e = as_it_is at.history (Returned 0 at) came (extends_same at.history at.history refl) e
call_grows boot cancel_after call zero (Failed fault) at came e = as_it_is at.history (Fails fault) came tt e
call_grows boot cancel_after call zero (Calls refused) at came e =
    as_it_is at.history (Stopped 0 at.history) came (extends_same at.history at.history refl) e
call_grows boot cancel_after call zero (Cancels returns rpc) at came e =
    as_it_is at.history (Stopped 0 at.history) came (extends_same at.history at.history refl) e
call_grows boot cancel_after call zero (Resumes returns rpc) at came e =
    as_it_is at.history (Stopped 0 at.history) came (extends_same at.history at.history refl) e
call_grows boot cancel_after call (suc room) Ended at came e =
    as_it_is at.history (Returned (suc room) at) came (extends_same at.history at.history refl) e
call_grows boot cancel_after call (suc room) (Failed fault) at came e = as_it_is at.history (Fails fault) came tt e
call_grows boot cancel_after call (suc room) (Calls refused) at came e =
    let stage = Calls refused in
    let asked = prepared call stage at in
    stage_grows boot (call_with_arg argument_at) asked _ came
    (λ play on. call_grows boot cancel_after call room (next_stage cancel_after stage (answer_of play)) (standing_after play asked.storage) came on) e
call_grows boot cancel_after call (suc room) (Cancels returns rpc) at came e =
    let stage = Cancels returns rpc in
    let asked = prepared call stage at in
    stage_grows boot (call_with_arg cancel_at) asked _ came
    (λ play on. call_grows boot cancel_after call room (next_stage cancel_after stage (answer_of play)) (standing_after play asked.storage) came on) e
call_grows boot cancel_after call (suc room) (Resumes returns rpc) at came e =
    let stage = Resumes returns rpc in
    let asked = prepared call stage at in
    stage_grows boot (return_from_rpc rpc) asked _ came
    (λ play on. call_grows boot cancel_after call room (next_stage cancel_after stage (answer_of play)) (standing_after play asked.storage) came on) e

-- ---- its first SMC

-- one whose entry isn't refused adds an event, at least
smc_adds : (boot : Booted) (regs : Regs) (asked : Standing) (between play : Play)
    → Entered boot (visit_with regs) (play_of asked) between → unless_refused (leaves boot 0) between ≡ Some play
    → play.refused ≡ None → (event : Event) × Extends (asked.history ++ event ∷ []) play.history
smc_adds boot regs asked between play (CameIn reads few came) e going =
    let event = entry_event (visit_with regs) reads in
    let made = event_made boot event (play_of asked) between came in
    let gone : leaves boot 0 between ≡ Some play =
    sym (ap (λ (o : Option ℕ). option_map_or (λ more. Some between) o (leaves boot 0 between)) made.1) ∙ e in
    (event, subst (λ (h : List Event). Extends h play.history) made.0 (went_on boot between play gone))
smc_adds boot regs asked between play (WasRefused reads much same) e going =
    let stays : Some between ≡ Some play =
    sym (ap (λ (p : Play). option_map_or (λ more. Some between) p.refused (leaves boot 0 between)) (sym same)) ∙ e in
    let full = ap (λ (p : Play). p.refused) same ∙ ap (λ (p : Play). p.refused) (some_is between play stays) ∙ going in
    absurd cc

no_return : (more left : ℕ) (history : List Event) (after : Standing) → Some (Stopped more history) ≡ Some (Returned left after) → ⊥
no_return more left history after e = cc

-- so a call that returns has a history in which an event, at least, stands behind those before it
pub call_adds : (boot : Booted) (cancel_after : Option ℕ) (call : Call) (room left : ℕ) (at after : Standing)
    → call_from boot cancel_after call room (Calls 0) at ≡ Some (Returned left after)
    → (event : Event) × Extends (at.history ++ event ∷ []) after.history
call_adds boot cancel_after call zero left at after e = absurd (no_return 0 left at.history after e)
call_adds boot cancel_after call (suc room) left at after e =
    let asked = prepared call (Calls 0) at in
    let regs = call_with_arg argument_at in
    let onward = λ (play : Play).
    call_from boot cancel_after call room (next_stage cancel_after (Calls 0) (answer_of play)) (standing_after play asked.storage) in
    option_and_then_some (unless_full onward) (after_smc boot regs asked) (Returned left after) e
    (λ (play : Play) there on. by_refusal asked onward play play.refused refl there on
    (λ (goes : onward play ≡ Some (Returned left after)).
    call_grows boot cancel_after call room (next_stage cancel_after (Calls 0) (answer_of play)) (standing_after play asked.storage)
    (Returned left after) goes))
  where
    by_refusal : (asked : Standing) (onward : Play → Option Came) (play : Play) (refused : Option ℕ) → play.refused ≡ refused
        → after_smc boot (call_with_arg argument_at) asked ≡ Some play
        → option_map_or (λ bytes. Some (Stopped bytes play.history)) refused (onward play) ≡ Some (Returned left after)
        → (onward play ≡ Some (Returned left after) → Extends play.history after.history)
        → (event : Event) × Extends (asked.history ++ event ∷ []) after.history
    by_refusal asked onward play (Some bytes) is there on grows = absurd (no_return bytes left play.history after on)
    by_refusal asked onward play None is there on grows =
        option_and_then_some (unless_refused (leaves boot 0)) (enters boot (play_of asked) (visit_with (call_with_arg argument_at))) play
        there
        (λ (between : Play) came goes.
        let added = smc_adds boot (call_with_arg argument_at) asked between play
        (entered boot (visit_with (call_with_arg argument_at)) (play_of asked) between came) goes is in
        (added.0, extends_on (asked.history ++ added.0 ∷ []) play.history after.history added.1 (grows on)))

-- where just one stands behind another front, the first is in that front
never_empty : (front : List Event) (event : Event) (more : List Event) → front ++ event ∷ more ≡ [] → ⊥
never_empty [] event more e = cc
never_empty (first ∷ front) event more e = cc

pub before_last : (front : List Event) (event : Event) (more earlier : List Event) (last : Event)
    → front ++ event ∷ more ≡ earlier ++ last ∷ [] → Extends front earlier
before_last [] event more earlier last e = record { more = earlier; is = refl }
before_last (first ∷ front) event more [] last e =
    let tail : front ++ event ∷ more ≡ [] = cc in
    absurd (never_empty front event more tail)
before_last (first ∷ front) event more (other ∷ earlier) last e =
    let head : other ≡ first = cc in
    let tail : front ++ event ∷ more ≡ earlier ++ last ∷ [] = cc in
    let rest = before_last front event more earlier last tail in
    record {
      more = rest.more;
      is = ap (λ (o : Event). o ∷ earlier) head ∙ ap (λ (h : List Event). first ∷ h) rest.is;
    }

-- ---- calls

calls_by : (client : Client) (call : ScriptCall) (onward : Client → Option ClientPlay) (play : ClientPlay) (came : Came)
    → ((next : Client) → onward next ≡ Some play → Extends next.standing.history play.history)
    → goes_on onward client call came ≡ Some play → GrownTo client.standing.history came
    → Extends client.standing.history play.history
calls_by client call onward play (Returned room after) rest e grown =
    extends_on client.standing.history after.history play.history grown (rest (after_call client call room after) e)
calls_by client call onward play (Stopped bytes last) rest e grown =
    let made : ClientPlay = record { history = last; lines = client.lines; stopped = Some bytes } in
    let same : made ≡ play = cc in
    subst (λ (p : ClientPlay). Extends client.standing.history p.history) same grown
calls_by client call onward play (Fails fault) rest e grown = absurd cc

pub calls_grow : (boot : Booted) (calls : List ScriptCall) (client : Client) (play : ClientPlay)
    → calls_made boot calls client ≡ Some play → Extends client.standing.history play.history
calls_grow boot [] client play e =
    let made : ClientPlay = ended client in
    let same : made ≡ play = cc in
    extends_same client.standing.history play.history (ap (λ (p : ClientPlay). p.history) (sym same))
calls_grow boot (call ∷ calls) client play e =
    option_and_then_some (goes_on (λ next. calls_made boot calls next) client call) (call_made boot client call) play e
    (λ (came : Came) there on.
    calls_by client call (λ next. calls_made boot calls next) play came (λ next e. calls_grow boot calls next play e) on
    (call_grows boot (cancelled_after call) (call_of client.sessions call) client.room (Calls 0) client.standing came there))
