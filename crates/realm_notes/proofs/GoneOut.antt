-- What is noted of a processor that goes out.
use Rattle.std.proofs.Common.{◌≡◌, ℕ, ◌<◌, List, length, Option, Some, None, refl, ap, sym, subst, ◌∙◌, arith}
use Rattle.std.proofs.Math.Logic.{∥∥₁_elim, ∥∥₁_map₂}
use Rattle.std.proofs.Props.{props}
use Rattle.std.proofs.lemmas.Option.{same_Some, slice_get-map, slice_get_within}
use Rattle.std.specs.Prelude.{IfOk, IsSomeAnd, Result, Ok, Err, slice_get}
use Rattle.std.specs.Option.{option_and_then, option_map, option_map_or}
use Rattle.base.specs.NumberMap.{get}
use Rattle.base.specs.declared.no_memory.NoMemory.{NoMemory}
use Rattle.event_journal.specs.declared.event.Event.TheVariants.{Exit}
use Rattle.realm_notes.specs.Noted.{AreNoted, HasFinishedAs, IsLeft, ended_in, opened_by, opened_so}
use Rattle.realm_notes.specs.Meaning.{IsExitNoted}
use Rattle.realm_notes.specs.Replaying.{errand_at, left_at}
use Rattle.realm_notes.specs.Realms.{realm_of}
use Rattle.realm_notes.specs.Telling.{reply_with, told_at_end}
use Rattle.realm_notes.specs.declared.notes.Notes.{Notes}
use Rattle.realm_notes.proofs.Decided.{noted_out, noted_out_answered}
use Rattle.realm_notes.proofs.CarriedOut.{CodeSlot, carried_told, is_free, is_left, must_end, told_so}
use Rattle.kernel_exit.proofs.ByLaws.{ExitsFrom, exits_from}
use Rattle.kernel_exit.proofs.FoundInside.{CarriesIt, GoesOut, carries_it, processors_are, stands_for}
use Rattle.kernel_model.proofs.Parts.{set_found}
use Rattle.kernel_model.specs.Exit.{Exited, goes_out_from, progress_held, progress_in_slot, progress_of, slot_left}
use Rattle.kernel_model.specs.Kernel.{Active, Kernel, PendingCall, Progress, Tables, ThreadSlot, Visit}
use Rattle.kernel_model.specs.Kernel as model
use Rattle.kernel_model.specs.Leaving.{leaving_of}
use Rattle.kernel_state.proofs.CoreEvents.{journals_legal, some_kernel}
use Rattle.kernel_state.specs.Laws.{CoreExit}
use Rattle.kernel_state.specs.Leaving.{CanLeave, HasLeft}
use Rattle.kernel_state.specs.Meaning.{booted_of, events_of, kernel_of}
use Rattle.kernel_state.specs.Processors.{errand_of, processor_of}
use Rattle.kernel_state.specs.Replay.{Replays}
use Rattle.kernel_state.specs.StandsFor.{IsSlotAt, StandsFor}
use Rattle.kernel_state.specs.Work.{IsCarriedIn, IsRanFor, IsWorkIn}
use Rattle.kernel_state.specs.declared.cancellation.Cancellation.{Cancellation}
use Rattle.kernel_state.specs.declared.kernel_core.Core.{Core}
use Rattle.kernel_state.specs.declared.processor.Errand.{Errand}
use Rattle.kernel_state.specs.declared.processor.Errand.TheVariants.{Fixed, InSlot}
use Rattle.kernel_state.specs.declared.processor.Processor.{Processor}
use Rattle.kernel_state.specs.declared.processor.Processor.TheVariants.{Outside, Inside}
use Rattle.kernel_state.specs.declared.work.Ran.{Ran}
use Rattle.group_model.specs.declared.group_reply.GroupReply.{GroupReply}
use Rattle.job_model.specs.declared.call_kind.CallKind.{CallKind}
use Rattle.kernel_exit.specs.GoingOut.{IsCarriedOut, call_carried}
use Rattle.kernel_model.proofs.SoundExits.{exits_all}
use Rattle.kernel_model.specs.Application.{Booted}
use Rattle.kernel_state.specs.declared.carried.Carried.{Carried}
use Rattle.kernel_state.specs.declared.carried.Carried.TheVariants.{Nothing, Resting, Running}
use Rattle.realm_model.specs.Reading as realm
use Rattle.realm_model.specs.Realm.{Realm}
use Rattle.rpc_cont.specs.declared.stop.ContStop.{ContStop}
use Rattle.std.specs.Global.{Box}
use Rattle.own_model.specs.declared.own_reply.OwnReply.{OwnReply}
use Rattle.rpc_cont.specs.declared.cont.Cont.{Cont}
use Rattle.smc_abi.specs.declared.answer.Answer.{Answer}
use Rattle.smc_abi.specs.declared.regs.Regs.{Regs}

-- ---- notes are bare facts

logged_set : IsSet realm.Logged
logged_set = Prim.hlevel props

pub noted_prop : (code : Notes) (notes : realm.Notes) → IsProp (AreNoted code notes)
noted_prop code notes = Prim.hlevel (props, logged_set)

pub log_prop : (xs ys : List realm.Logged) → IsProp (xs ≡ ys)
log_prop xs ys = Prim.hlevel (props, logged_set)

-- ---- what a processor came for

-- it is inside, with these registers and steps, for this
pub record InsideFor (there : Option model.Processor) (errand : model.Errand) : Type 0 where
  pub came : List ℕ
  pub steps : ℕ
  pub inside : there ≡ Some (model.Inside came steps errand)

inside_as : (there : Option Processor) (errand : Errand) → errand_at there ≡ Some errand
    → InsideFor (option_map processor_of there) (errand_of errand)
inside_as None errand e = absurd cc
inside_as (Some Outside) errand e = absurd cc
inside_as (Some (Inside regs steps its)) errand e =
    let same : its ≡ errand = cc in
    record {
      came = regs.a;
      steps = steps;
      inside = ap (λ (for : Errand). Some (model.Inside regs.a steps (errand_of for))) same;
    }

-- what a processor came for, by what it goes out with
pub came_for : (core : Core) (ran : Ran) (cpu : ℕ) (errand : Option Errand) → ran.cpu ≡ cpu
    → errand_at (slice_get core.parts.processors.items cpu) ≡ errand → errand_at (slice_get core.parts.processors.items ran.cpu) ≡ errand
came_for core ran cpu errand same is = ap (λ (n : ℕ). errand_at (slice_get core.parts.processors.items n)) same ∙ is

-- the kernel's is inside for what the code's is
pub inside_for : (core : Core) (kernel : Kernel) (cpu : ℕ) (errand : Errand) → kernel_of core ≡ Some kernel
    → errand_at (slice_get core.parts.processors.items cpu) ≡ Some errand
    → InsideFor (slice_get kernel.processors cpu) (errand_of errand)
inside_for core kernel cpu errand at is =
    let for = inside_as (slice_get core.parts.processors.items cpu) errand is in
    record {
      came = for.came;
      steps = for.steps;
      inside = ap (λ (ps : List model.Processor). slice_get ps cpu)
          (sym (processors_are core.parts kernel (stands_for core.parts kernel core.replay at)))
          ∙ slice_get-map processor_of core.parts.processors.items cpu ∙ for.inside;
    }

within_there : (items : List Processor) (cpu : ℕ) (there : Option Processor) (errand : Errand) → slice_get items cpu ≡ there
    → errand_at there ≡ Some errand → cpu < length items
within_there items cpu None errand e is = absurd cc
within_there items cpu (Some one) errand e is = slice_get_within items cpu one e

-- there are eight at most
pub few_processors : (core : Core) (cpu : ℕ) (errand : Errand) → errand_at (slice_get core.parts.processors.items cpu) ≡ Some errand
    → cpu < 8
few_processors core cpu errand is =
    let there = within_there core.parts.processors.items cpu (slice_get core.parts.processors.items cpu) errand refl is in
    ∥∥₁_elim core.replay (Prim.hlevel props) (λ (so : Replays core.parts).
    let few = so.is_boot.few_processors in
    let cpus = so.stands.cpus in
    omega (arith, there, few, cpus))

-- one that can leave came for something
ran_for : (core : Core) (ran : Ran) → IsSomeAnd (kernel_of core) (λ k. IsRanFor k ran) → IsRanFor (some_kernel core).0 ran
ran_for core ran is = subst (λ (o : Option Kernel). IsSomeAnd o (λ k. IsRanFor k ran)) (some_kernel core).1 is

not_outside : (there : Option Processor) (kernel : Kernel) (ran : Ran) (is : IsRanFor kernel ran)
    → IsWorkIn kernel is.work (option_map processor_of there) → errand_at there ≡ None → ⊥
not_outside None kernel ran is fits e = fits
not_outside (Some Outside) kernel ran is fits e = fits
not_outside (Some (Inside regs steps errand)) kernel ran is fits e = cc

pub comes_for : (core : Core) (ran : Ran) → CanLeave core ran → errand_at (slice_get core.parts.processors.items ran.cpu) ≡ None → ⊥
comes_for core ran can none = ∥∥₁_elim can (Prim.hlevel props) (λ (so : IsSomeAnd (kernel_of core) (λ k. IsRanFor k ran)).
    let kernel : Kernel = (some_kernel core).0 in
    let is : IsRanFor kernel ran = ran_for core ran so in
    let there : slice_get kernel.processors is.work.cpu ≡ option_map processor_of (slice_get core.parts.processors.items ran.cpu) =
    ap (λ (cpu : ℕ). slice_get kernel.processors cpu) (sym is.has_run.cpu)
    ∙ ap (λ (ps : List model.Processor). slice_get ps ran.cpu)
    (sym (processors_are core.parts kernel (stands_for core.parts kernel core.replay (some_kernel core).1)))
    ∙ slice_get-map processor_of core.parts.processors.items ran.cpu in
    not_outside (slice_get core.parts.processors.items ran.cpu) kernel ran is (subst (IsWorkIn kernel is.work) there is.fits) none)

-- ---- the slot of its call

-- the call of a slot that a processor carries
carries_there : (kernel : Kernel) (ran : Ran) (slot : ℕ) → IsRanFor kernel ran → (for : InsideFor (slice_get kernel.processors ran.cpu) (model.InSlot slot))
    → CarriesIt kernel ran slot for.steps
carries_there kernel ran slot is for =
    let fits : IsWorkIn kernel is.work (Some (model.Inside for.came for.steps (model.InSlot slot))) =
    subst (IsWorkIn kernel is.work) (ap (λ (cpu : ℕ). slice_get kernel.processors cpu) (sym is.has_run.cpu) ∙ for.inside) is.fits in
    let goes : GoesOut kernel ran for.came (model.InSlot slot) = record {
      steps = for.steps;
      inside = for.inside;
      work = is.work;
      granted = fits.0;
      carried = subst (λ (cpu : ℕ). IsCarriedIn kernel cpu is.work.call (model.InSlot slot)) (sym is.has_run.cpu) fits.1;
      has_run = is.has_run;
    } in
    carries_it kernel ran for.came slot goes

slot_within : (slots : List CodeSlot) (slot : ℕ) (there : Option CodeSlot) (beside : Option Cancellation) (held : ThreadSlot)
    → slice_get slots slot ≡ there → IsSlotAt there beside (Some held) → slot < length slots
slot_within slots slot None None held e is = absurd is
slot_within slots slot None (Some beside) held e is = absurd is
slot_within slots slot (Some one) beside held e is = slice_get_within slots slot one e

-- there are sixteen at most
pub few_slots : (core : Core) (ran : Ran) (slot : ℕ) → CanLeave core ran
    → errand_at (slice_get core.parts.processors.items ran.cpu) ≡ Some (InSlot slot) → slot < 16
few_slots core ran slot can is = ∥∥₁_elim can (Prim.hlevel props) (λ (so : IsSomeAnd (kernel_of core) (λ k. IsRanFor k ran)).
    let kernel : Kernel = (some_kernel core).0 in
    let for = inside_for core kernel ran.cpu (InSlot slot) (some_kernel core).1 is in
    let carries = carries_there kernel ran slot (ran_for core ran so) for in
    ∥∥₁_elim core.replay (Prim.hlevel props) (λ (replays : Replays core.parts).
    ∥∥₁_elim (stands_for core.parts kernel core.replay (some_kernel core).1) (Prim.hlevel props) (λ (stands : StandsFor core.parts kernel).
    let there : IsSlotAt (slice_get core.parts.slots slot) (slice_get core.parts.cancellations.items slot) (Some (Active ran.cpu carries.call)) =
    subst (IsSlotAt (slice_get core.parts.slots slot) (slice_get core.parts.cancellations.items slot)) carries.active (stands.slots slot) in
    let within = slot_within core.parts.slots slot (slice_get core.parts.slots slot) (slice_get core.parts.cancellations.items slot)
    (Active ran.cpu carries.call) refl there in
    let few = replays.is_boot.few_threads in
    let threads = stands.threads in
    omega (arith, within, few, threads))))

-- ---- the kind and the session of a call stay

record StaysAs (call now : PendingCall) : Type 0 where
  kind : now.kind ≡ call.kind
  session : now.session ≡ call.session

stays_as : (tables : Tables) (call : PendingCall) (steps : ℕ) (progress : Progress) → progress_of tables call steps ≡ Some progress
    → StaysAs call progress.call
stays_as tables call steps progress comes = exits_all tables call steps (λ (p : Progress). StaysAs call p.call) progress (record {
  left = λ its later is so. record { kind = refl; session = refl };
  ends = λ its used end is so. record { kind = refl; session = refl };
  panics = λ its used code is so. record { kind = refl; session = refl };
  asks = λ its later used wanted payload is so. record { kind = refl; session = refl };
  asked = λ its wanted payload is. record { kind = refl; session = refl };
  waits = λ params is. record { kind = refl; session = refl };
  told = λ result params wakes is. record { kind = refl; session = refl };
  tells = λ result params wakes is. record { kind = refl; session = refl };
}) comes

record IsAbout (cont : Cont (List ℕ)) (call : PendingCall) : Type 0 where
  kind : cont.kind ≡ call.kind
  session : cont.session ≡ call.session

about : (cont : Cont (List ℕ)) (why : Option ContStop) (call : PendingCall) (steps : ℕ) → IsCarriedOut cont why call steps → IsAbout cont call
about cont None call steps is = record { kind = is.0.kind; session = is.0.session }
about cont (Some why) call steps is = record {
  kind = ap (λ (c : Cont (List ℕ)). c.kind) is.ran.stays ∙ is.is.kind;
  session = ap (λ (c : Cont (List ℕ)). c.session) is.ran.stays ∙ is.is.session;
}

carried_opened : (carried : Carried) (cont : Box (Cont (List ℕ))) (told : OwnReply) → call_carried carried ≡ Some cont
    → opened_by carried told ≡ opened_so cont.value.kind cont.value.session told
carried_opened Nothing cont told e = absurd cc
carried_opened (Resting held) cont told e =
    let same : held ≡ cont = cc in ap (λ (b : Box (Cont (List ℕ))). opened_so b.value.kind b.value.session told) same
carried_opened (Running held) cont told e =
    let same : held ≡ cont = cc in ap (λ (b : Box (Cont (List ℕ))). opened_so b.value.kind b.value.session told) same

-- ---- an exit from the call of a slot

module _ (old new : Core) (ran : Ran) (lane now : List ℕ) (told : Regs) (has : HasLeft old new ran lane now told) (can : CanLeave old ran)
    (slot : ℕ) (for : errand_at (slice_get old.parts.processors.items ran.cpu) ≡ Some (InSlot slot)) where
  module _ (kernel next : Kernel) (before : kernel_of old ≡ Some kernel) (after : kernel_of new ≡ Some next) where
    abbrev pub its : InsideFor (slice_get kernel.processors ran.cpu) (model.InSlot slot)
    its = inside_for old kernel ran.cpu (InSlot slot) before for

    -- the call that it carried, what that has come to, and what it left in its slot
    pub record Gone : Type 0 where
      pub carries : CarriesIt kernel ran slot its.steps
      pub exits : ExitsFrom kernel ran.cpu slot its.steps its.came carries.call
      pub comes : progress_in_slot kernel its.steps slot ≡ Some exits.progress
      pub left : IsSlotAt (slice_get new.parts.slots slot) (slice_get new.parts.cancellations.items slot)
          (Some (slot_left exits.progress.call (leaving_of slot exits.progress.call)))

    gone_so : IsRanFor kernel ran → StandsFor new.parts next → Gone
    gone_so is stands =
        let carries : CarriesIt kernel ran slot its.steps = carries_there kernel ran slot is its in
        let exits : ExitsFrom kernel ran.cpu slot its.steps its.came carries.call = exits_from (booted_of old) (events_of old) kernel ran.cpu slot
        its.steps its.came carries.call (journals_legal.legal old).boots before its.inside carries.active in
        let visit : Visit = record { cpu = ran.cpu; regs = its.came; steps = its.steps } in
        let core_exit : CoreExit = record {
          old = old;
          new = new;
          ran = ran;
          lane = lane;
          now = now;
          told = told;
          has_left = has;
          kernel = kernel;
          next = next;
          before = before;
          after = after;
        } in
        let same : has.exited ≡ goes_out_from kernel visit slot exits.progress =
        same_Some has.exited (goes_out_from kernel visit slot exits.progress) (sym (journals_legal.exits core_exit) ∙ exits.exits) in
        let held : ThreadSlot = slot_left exits.progress.call (leaving_of slot exits.progress.call) in
        let there : slice_get next.slots slot ≡ Some held =
        ap (λ (k : Kernel). slice_get k.slots slot) (journals_legal.left core_exit ∙ ap (λ (e : Exited). e.kernel) same)
        ∙ set_found kernel.slots slot held (Active ran.cpu carries.call) carries.active in
        record {
          carries = carries;
          exits = exits;
          comes = ap (λ (o : Option ThreadSlot). option_and_then (progress_held kernel.tables its.steps) o) carries.active ∙ exits.comes;
          left = subst (IsSlotAt (slice_get new.parts.slots slot) (slice_get new.parts.cancellations.items slot)) there (stands.slots slot);
        }

    pub gone : ∥ Gone ∥₁
    gone = ∥∥₁_map₂ can (stands_for new.parts next new.replay after)
        (λ (is : IsSomeAnd (kernel_of old) (λ k. IsRanFor k ran)) (stands : StandsFor new.parts next).
        gone_so (subst (λ (o : Option Kernel). IsSomeAnd o (λ k. IsRanFor k ran)) before is) stands)

    -- the call has finished, so something is told
    pub tells_end : (g : Gone) → told_at_end ran.call ≡ ended_in g.exits.progress.call.phase
    tells_end g = carried_told ran.call g.carries.cont g.carries.there
        ∙ told_so kernel.tables g.carries.cont.value g.carries.call its.steps ran.stop g.carries.is g.exits.progress g.exits.comes

    pub finished : (g : Gone) → left_at (slice_get new.parts.slots slot) ≡ None → slot_left g.exits.progress.call (leaving_of slot g.exits.progress.call) ≡ model.Free
    finished g left = is_free (slice_get new.parts.slots slot) (slice_get new.parts.cancellations.items slot) slot g.exits.progress.call g.left left

    -- what the carried call has opened, the kernel's has
    opened_is : (g : Gone) (reply : OwnReply) → opened_by ran.call reply ≡ opened_so g.exits.progress.call.kind g.exits.progress.call.session reply
    opened_is g reply =
        let cont = g.carries.cont.value in
        let of = about cont ran.stop g.carries.call its.steps g.carries.is in
        let stays = stays_as kernel.tables g.carries.call its.steps g.exits.progress g.exits.comes in
        carried_opened ran.call g.carries.cont reply g.carries.there
        ∙ ap (λ (k : CallKind). opened_so k cont.session reply) (of.kind ∙ sym stays.kind)
        ∙ ap (λ (n : ℕ). opened_so g.exits.progress.call.kind n reply) (of.session ∙ sym stays.session)

    module _ (boot : Booted) (of : Realm) (notes : realm.Notes) where
      abbrev noted_now : realm.Notes
      noted_now = realm.event_noted boot of kernel next notes (Exit ran.cpu told)

      -- what is noted, where the slot has this number
      noted_is : (g : Gone) (number : Option ℕ) → number ≡ get notes.numbering.in_slots slot
          → noted_now ≡ option_map_or (realm.exit_noted of notes slot g.exits.progress.call) number notes
      noted_is g number has_number =
          noted_out boot of kernel next ran.cpu its.steps its.came told notes slot g.exits.progress its.inside g.comes
          ∙ ap (λ (o : Option ℕ). option_map_or (realm.exit_noted of notes slot g.exits.progress.call) o notes) (sym has_number)

      -- the slot holds no call of the realm
      noted_of_other : (code : Notes) → AreNoted code notes → None ≡ get notes.numbering.in_slots slot → AreNoted code noted_now
      noted_of_other code are none = ∥∥₁_elim gone (noted_prop code noted_now)
          (λ (g : Gone). subst (λ (n : realm.Notes). AreNoted code n) (sym (noted_is g None none)) are)

      -- it holds this one
      noted_of_own : (code : Notes) (number : ℕ) → Some number ≡ get notes.numbering.in_slots slot
          → ((g : Gone) → AreNoted code (realm.exit_noted of notes slot g.exits.progress.call number)) → AreNoted code noted_now
      noted_of_own code number has_number is = ∥∥₁_elim gone (noted_prop code noted_now)
          (λ (g : Gone). subst (λ (n : realm.Notes). AreNoted code n) (sym (noted_is g (Some number) has_number)) (is g))

  -- its number in the code's notes
  abbrev HasNumber : Notes → Option ℕ → Type 0
  HasNumber code number = (notes : realm.Notes) → AreNoted code notes → number ≡ get notes.numbering.in_slots slot

  pub exit_of_other : (code : Notes) → HasNumber code None → IsExitNoted old new code code ran.cpu lane now
  exit_of_other code number = record {
    ran = ran;
    its_own = refl;
    told = told;
    has_left = has;
    noted = λ kernel next notes before after are.
        noted_of_other kernel next before after (booted_of old) (realm_of code.realm) notes code are (number notes are);
  }

  pub exit_waiting : (code later : Notes) (result : Result (Unit {0}) NoMemory) (number : ℕ) (cont : Cont (List ℕ)) → HasNumber code (Some number)
      → left_at (slice_get new.parts.slots slot) ≡ Some cont
      → ((notes : realm.Notes) (call : PendingCall) → AreNoted code notes → IsLeft slot call cont
      → IfOk result (λ _. AreNoted later (realm.exit_noted (realm_of code.realm) notes slot call number)))
      → IfOk result (λ _. IsExitNoted old new code later ran.cpu lane now)
  exit_waiting code later (Err error) number cont has_number left is = tt
  exit_waiting code later (Ok done) number cont has_number left is = record {
    ran = ran;
    its_own = refl;
    told = told;
    has_left = has;
    noted = λ kernel next notes before after are.
        noted_of_own kernel next before after (booted_of old) (realm_of code.realm) notes later number (has_number notes are)
        (λ g. is notes g.exits.progress.call are (is_left (slice_get new.parts.slots slot) (slice_get new.parts.cancellations.items slot) slot
        g.exits.progress.call g.left cont left));
  }

  -- the reply, with the number of what was opened
  end_tells : (opened : Option ℕ) (ends : Option OwnReply) (told : GroupReply) → option_map (reply_with opened) ends ≡ Some told
      → (ends ≡ Some told.reply) × (told.opened ≡ opened)
  end_tells opened None told e = absurd cc
  end_tells opened (Some reply) told e =
      let same : reply_with opened reply ≡ told = cc in (
        ap (λ (r : GroupReply). Some r.reply) same,
        ap (λ (r : GroupReply). r.opened) (sym same),
      )

  pub exit_ended : (code later : Notes) (result : Result (Unit {0}) NoMemory) (number : ℕ) (opened : Option ℕ) (reply : GroupReply)
      → HasNumber code (Some number) → left_at (slice_get new.parts.slots slot) ≡ None
      → option_map (reply_with opened) (told_at_end ran.call) ≡ Some reply
      → ((notes : realm.Notes) → AreNoted code notes
      → opened ≡ option_and_then (realm.number_of (realm_of code.realm) notes) (option_and_then (opened_by ran.call) (told_at_end ran.call)))
      → ((notes : realm.Notes) (call : PendingCall) → AreNoted code notes → HasFinishedAs (realm_of code.realm) notes slot call reply
      → IfOk result (λ _. AreNoted later (realm.exit_noted (realm_of code.realm) notes slot call number)))
      → IfOk result (λ _. IsExitNoted old new code later ran.cpu lane now)
  exit_ended code later (Err error) number opened reply has_number left tells opens is = tt
  exit_ended code later (Ok done) number opened reply has_number left tells opens is =
      let ends = end_tells opened (told_at_end ran.call) reply tells in
      record {
        ran = ran;
        its_own = refl;
        told = told;
        has_left = has;
        noted = λ kernel next notes before after are.
            noted_of_own kernel next before after (booted_of old) (realm_of code.realm) notes later number (has_number notes are)
            (λ g. is notes g.exits.progress.call are (record {
              finished = record {
                free = finished kernel next before after g left;
                told = sym (tells_end kernel next before after g) ∙ ends.0;
              };
              opened = ends.1 ∙ opens notes are
                  ∙ ap (λ (o : Option OwnReply). option_and_then (realm.number_of (realm_of code.realm) notes)
                  (option_and_then (opened_by ran.call) o)) ends.0
                  ∙ ap (option_and_then (realm.number_of (realm_of code.realm) notes)) (opened_is kernel next before after g reply.reply);
            }));
      }

  -- where it has finished, something is told
  pub must_tell : (opened : Option ℕ) → left_at (slice_get new.parts.slots slot) ≡ None
      → option_map (reply_with opened) (told_at_end ran.call) ≡ None → ⊥
  must_tell opened left none =
      let kernel = some_kernel old in
      let next = some_kernel new in
      ∥∥₁_elim (gone kernel.0 next.0 kernel.1 next.1) (Prim.hlevel props) (λ (g : Gone kernel.0 next.0 kernel.1 next.1).
      must_end slot g.exits.progress.call g.exits.progress.call.phase (finished kernel.0 next.0 kernel.1 next.1 g left)
      (sym (tells_end kernel.0 next.0 kernel.1 next.1 g) ∙ nothing (told_at_end ran.call) none))
    where
      nothing : (ends : Option OwnReply) → option_map (reply_with opened) ends ≡ None → ends ≡ None
      nothing None e = refl
      nothing (Some reply) e = absurd cc

-- ---- an exit with an answer that was fixed

pub exit_answered : (old new : Core) (ran : Ran) (lane now : List ℕ) (told : Regs) (answer : Answer) (code later : Notes)
    (result : Result (Unit {0}) NoMemory) → HasLeft old new ran lane now told
    → errand_at (slice_get old.parts.processors.items ran.cpu) ≡ Some (Fixed answer)
    → ((notes : realm.Notes) → AreNoted code notes → IfOk result (λ _. AreNoted later (realm.limit_noted notes ran.cpu)))
    → IfOk result (λ _. IsExitNoted old new code later ran.cpu lane now)
exit_answered old new ran lane now told answer code later (Err error) has for is = tt
exit_answered old new ran lane now told answer code later (Ok done) has for is = record {
  ran = ran;
  its_own = refl;
  told = told;
  has_left = has;
  noted = λ kernel next notes before after are.
      (let its = inside_for old kernel ran.cpu (Fixed answer) before for in
      subst (λ (n : realm.Notes). AreNoted later n)
      (sym (noted_out_answered (booted_of old) (realm_of code.realm) kernel next ran.cpu its.steps its.came told notes answer its.inside))
      (is notes are));
}
