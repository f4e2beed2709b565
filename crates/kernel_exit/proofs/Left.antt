-- A processor has left: the core is that of one event more.
use Rattle.std.proofs.Common.{◌≡◌, ℕ, ◌-◌, ◌≤◌, ◌<◌, ◌^◌, List, [], ◌∷◌, ◌++◌, length, Option, Some, None, refl, sym, ◌∙◌, ap, subst}
use Rattle.std.proofs.Math.Logic.{∥∥₁_elim, ∥∥₁_map, ∥∥₁_map₂, ∥∥₁_prop}
use Rattle.std.proofs.Props.{props}
use Rattle.std.proofs.lemmas.Option.{none-some, same_Some, slice_get-map, slice_get_within}
use Rattle.std.specs.Prelude.{IsSomeAnd, slice_get, slice_set}
use Rattle.std.specs.List.{AllByRecursion}
use Rattle.std.specs.Option.{option_and_then, option_map}
use Rattle.std.specs.Global.{Box}
use Rattle.event_journal.specs.Journal.{copied_bytes}
use Rattle.event_journal.specs.declared.event.Event.{Event}
use Rattle.event_journal.specs.declared.event.Event.TheVariants.{Exit}
use Rattle.event_log.specs.Log.{Contents}
use Rattle.job_model.specs.Job.{Job}
use Rattle.kernel_model.specs.Application.{AreNatives, IsBooted}
use Rattle.kernel_model.specs.Exit.{Exited, exit, exit_of, goes_out, goes_out_from, kernel_left, progress_in}
use Rattle.kernel_model.specs.History.{exit_after, kernel_after}
use Rattle.kernel_model.specs.Kernel as model
use Rattle.kernel_model.specs.Leaving.{leaving_of}
use Rattle.kernel_model.specs.Sound.{unmarked_in, unmarked}
use Rattle.kernel_model.specs.SoundPlaces.{HasItsPlaces}
use Rattle.kernel_model.specs.SoundRequests.{HasFittingRequest}
use Rattle.kernel_model.proofs.SoundPlaces.{calls_placed}
use Rattle.kernel_model.proofs.SoundRequests.{calls_fit}
use Rattle.kernel_state.specs.Leaving.{HasLeft}
use Rattle.kernel_state.specs.Meaning.{booted_of, events_of, terms_of}
use Rattle.kernel_state.specs.Processors.{errand_of, processor_of}
use Rattle.kernel_state.specs.Replay.{Replays}
use Rattle.kernel_state.specs.Setup.{boot_of, booted_of_setup, natives_of}
use Rattle.kernel_state.specs.StandsFor.{StandsFor}
use Rattle.kernel_state.specs.Tables.{tables_of}
use Rattle.kernel_state.specs.Work.{IsRanFor}
use Rattle.kernel_state.specs.declared.kernel_core.Core.{Core}
use Rattle.kernel_state.specs.declared.parts.Parts.{Parts}
use Rattle.kernel_state.specs.declared.processor.Errand.{Errand}
use Rattle.kernel_state.specs.declared.processor.Errand.TheVariants.{Fixed, InSlot}
use Rattle.kernel_state.specs.declared.processor.Processor.{Processor}
use Rattle.kernel_state.specs.declared.processor.Processor.TheVariants.{Outside}
use Rattle.kernel_state.specs.declared.setup.Setup.{Setup}
use Rattle.kernel_state.specs.declared.work.Ran.{Ran}
use Rattle.kernel_state.proofs.Told.{is_legal}
use Rattle.kernel_state.specs.Reads.{ReadsAgree}
use Rattle.ns_ram.specs.Lane.{IsInRam}
use Rattle.ns_ram.specs.Writes.{lane_after}
use Rattle.param_copy.specs.Places.{IsWritable}
use Rattle.param_copy.specs.declared.copied.Place.{Place}
use Rattle.rpc_cont.specs.declared.cont.Cont.{Cont}
use Rattle.rpc_msgs.specs.declared.rpc.Rpc.{Rpc}
use Rattle.smc_abi.specs.Answer.{registers_of}
use Rattle.smc_abi.specs.declared.answer.Answer.{Answer}
use Rattle.smc_abi.specs.declared.regs.Regs.{Regs}
use Rattle.ta_isa.specs.Boots.{IsBoot}
use Rattle.kernel_exit.specs.GoingOut.{CanCome, CanExitWith, CanGoFrom, CanTell, CarriesCall, HasExitedWith, HasGoneFrom, HasGoneOut, IsInsideFor}
use Rattle.kernel_exit.proofs.ByLaws.{ExitsFrom, asks_there, can_come, can_tell, exits_from, stays_so}
use Rattle.kernel_exit.proofs.FoundInside.{CarriesIt, GoesOut, carries_it, found, goes_out_for, is_active, pages_are, processors_are, stands_for, tables_are}
use Rattle.kernel_exit.proofs.OneWay.{exit_prop}
use Rattle.kernel_exit.proofs.StandsAfter.{agree_behind, comes_behind, few_behind, left_stands, out_stands, some_inside}

-- ---- what is known as a processor goes out

-- the call is carried, and the kernel's events came to this
abbrev pub CanGo : Parts → Ran → Type 0
CanGo parts ran = IsSomeAnd (kernel_after (booted_of_setup parts.setup) parts.journal.events) (λ kernel. IsRanFor kernel ran)

pub record Goes (parts : Parts) (ran : Ran) (came : Regs) (errand : Errand) : Type 0 where
  pub kernel : model.Kernel
  pub comes : kernel_after (booted_of_setup parts.setup) parts.journal.events ≡ Some kernel
  pub booted : IsBooted (booted_of_setup parts.setup)
  pub stands : ∥ StandsFor parts kernel ∥₁
  pub goes : GoesOut kernel ran came.a (errand_of errand)

goes_so : (parts : Parts) (ran : Ran) (came : Regs) (errand : Errand) → ∥ Replays parts ∥₁ → CanGo parts ran →
    IsSomeAnd (slice_get parts.processors.items ran.cpu) (IsInsideFor came errand) → Goes parts ran came errand
goes_so parts ran came errand fact can for =
    let f = found parts ran can in
    let stands = stands_for parts f.kernel fact f.comes in
    record {
      kernel = f.kernel;
      comes = f.comes;
      booted = (is_legal parts fact).boots;
      stands = stands;
      goes = goes_out_for parts ran f.kernel came errand stands f.is for;
    }

pub goes_truly : (parts : Parts) (ran : Ran) (came : Regs) (errand : Errand) → ∥ Replays parts ∥₁ → ∥ CanGo parts ran ∥₁ →
    IsSomeAnd (slice_get parts.processors.items ran.cpu) (IsInsideFor came errand) → ∥ Goes parts ran came errand ∥₁
goes_truly parts ran came errand fact can for = ∥∥₁_map can (λ (is : CanGo parts ran). goes_so parts ran came errand fact is for)

-- one with the call of a slot
pub record GoesFromSlot (parts : Parts) (ran : Ran) (came : Regs) (slot : ℕ) : Type 0 where
  pub its : Goes parts ran came (InSlot slot)
  pub carries : CarriesIt its.kernel ran slot its.goes.steps
  pub exits : ExitsFrom its.kernel ran.cpu slot its.goes.steps came.a carries.call
  pub can : CanTell exits.progress.call (leaving_of slot exits.progress.call)

next_asks : (parts : Parts) (ran : Ran) (came : Regs) (slot : ℕ) (its : Goes parts ran came (InSlot slot)) (call : model.PendingCall)
    (active : slice_get its.kernel.slots slot ≡ Some (model.Active ran.cpu call))
    (exits : ExitsFrom its.kernel ran.cpu slot its.goes.steps came.a call) (asking : Job) (wanted : Rpc) (payload : List ℕ) →
    exits.progress.call.phase ≡ model.Asks asking wanted payload → HasFittingRequest (unmarked exits.progress.call)
next_asks parts ran came slot its call active exits asking wanted payload is =
    let visit : model.Visit = record { cpu = ran.cpu; regs = came.a; steps = its.goes.steps } in
    let exited : Exited = goes_out_from its.kernel visit slot exits.progress in
    let told : Regs = record { a = exited.regs } in
    calls_fit (booted_of_setup parts.setup) (parts.journal.events ++ Exit ran.cpu told ∷ []) exited.kernel its.booted
    (comes_behind (booted_of_setup parts.setup) parts.journal.events its.kernel ran.cpu told exited its.comes exits.exits refl)
    slot (unmarked exits.progress.call)
    (asks_there its.kernel.slots slot (model.Active ran.cpu call) exits.progress.call asking wanted payload active is)

pub goes_from_slot : (parts : Parts) (ran : Ran) (came : Regs) (slot : ℕ) → Goes parts ran came (InSlot slot) → GoesFromSlot parts ran came slot
goes_from_slot parts ran came slot its =
    let carries = carries_it its.kernel ran came.a slot its.goes in
    let boot = booted_of_setup parts.setup in
    let exits = exits_from boot parts.journal.events its.kernel ran.cpu slot its.goes.steps came.a carries.call its.booted its.comes its.goes.inside carries.active in
    let stays = stays_so its.kernel.tables carries.call its.goes.steps exits.progress exits.comes in
    let has : HasItsPlaces (unmarked carries.call) =
    calls_placed boot parts.journal.events its.kernel its.booted its.comes slot (unmarked carries.call) (ap (option_and_then unmarked_in) carries.active) in
    record {
      its = its;
      carries = carries;
      exits = exits;
      can = can_tell slot exits.progress.call
          (subst (λ (arg : ℕ). IsInRam arg 32) (sym stays.arg) has.argument)
          (subst (λ (arg : ℕ). AllByRecursion (IsWritable arg) exits.progress.call.places) (sym stays.arg)
          (subst (λ (places : List Place). AllByRecursion (IsWritable carries.call.arg) places) (sym stays.places) has.places))
          (λ area there. has.area area (sym stays.area ∙ there))
          (λ place there. has.buffer place (sym stays.buffer ∙ there))
          (λ asking wanted payload is.
          let fits = next_asks parts ran came slot its carries.call carries.active exits asking wanted payload is in
          (fits.request asking wanted payload is, fits.payload asking wanted payload is));
    }

-- ---- what it asks for

-- what it carries can go out
can_go : (parts : Parts) (ran : Ran) (came : Regs) (slot : ℕ) → GoesFromSlot parts ran came slot → CanExitWith parts (InSlot slot) ran.call ran.stop
can_go parts ran came slot so =
    let same : so.its.kernel.tables ≡ tables_of parts.tables = sym (tables_are parts so.its.kernel so.its.stands) in
    subst (λ (carried : Option (Box (Cont (List ℕ)))). IsSomeAnd carried (λ cont. CanGoFrom parts slot cont.value ran.stop)) (sym so.carries.there) (record {
      active = is_active parts so.its.kernel slot ran.cpu so.carries.call so.its.stands so.carries.active;
      can = subst (λ (tables : model.Tables). CanCome (booted_of_setup parts.setup) tables so.carries.cont.value ran.stop) same
          (can_come (booted_of_setup parts.setup) parts.journal.events so.its.kernel ran.cpu slot so.carries.call so.carries.cont.value ran.stop so.its.goes.steps
          so.its.booted so.its.comes so.carries.active so.carries.is);
      pages = pages_are parts so.its.kernel so.its.stands;
      call = ∣ subst (λ (tables : model.Tables). CarriesCall tables slot so.carries.cont.value ran.stop) same (record {
        call = so.carries.call;
        steps = so.its.goes.steps;
        is = so.carries.is;
        told = subst (λ (there : Option model.Progress). IsSomeAnd there (λ progress. CanTell progress.call (leaving_of slot progress.call))) (sym so.exits.comes) so.can;
      }) ∣₁;
    })

can_exit : (parts : Parts) (ran : Ran) (came : Regs) (errand : Errand) → Goes parts ran came errand → CanExitWith parts errand ran.call ran.stop
can_exit parts ran came (Fixed answer) its = tt
can_exit parts ran came (InSlot slot) its = can_go parts ran came slot (goes_from_slot parts ran came slot its)

pub can_truly : (parts : Parts) (ran : Ran) (came : Regs) (errand : Errand) → ∥ Goes parts ran came errand ∥₁ → CanExitWith parts errand ran.call ran.stop
can_truly parts ran came errand its = ∥∥₁_elim its (exit_prop parts errand ran.call ran.stop) (can_exit parts ran came errand)

processor_is : (parts : Parts) (ran : Ran) (came : Regs) (errand : Errand) → Goes parts ran came errand → ran.cpu < length parts.processors.items
processor_is parts ran came errand so = by (slice_get parts.processors.items ran.cpu) refl
    (sym (slice_get-map processor_of parts.processors.items ran.cpu) ∙ ap (λ (all : List model.Processor). slice_get all ran.cpu) (processors_are parts so.kernel so.stands) ∙ so.goes.inside)
  where
    by : (there : Option Processor) → slice_get parts.processors.items ran.cpu ≡ there →
        option_map processor_of there ≡ Some (model.Inside came.a so.goes.steps (errand_of errand)) → ran.cpu < length parts.processors.items
    by None e is = absurd cc
    by (Some processor) e is = slice_get_within parts.processors.items ran.cpu processor e

pub processor_there : (parts : Parts) (ran : Ran) (came : Regs) (errand : Errand) → ∥ Goes parts ran came errand ∥₁ → ran.cpu < length parts.processors.items
processor_there parts ran came errand its = ∥∥₁_elim its (Prim.hlevel props) (processor_is parts ran came errand)

room_is : (parts : Parts) (ran : Ran) (came : Regs) (errand : Errand) → Goes parts ran came errand → 0 < parts.journal.spare
room_is parts ran came errand so = ∥∥₁_elim so.stands (Prim.hlevel props) (λ (stands : StandsFor parts so.kernel).
    some_inside so.kernel.processors ran.cpu came.a so.goes.steps parts.journal.spare (errand_of errand) so.goes.inside stands.room)

pub room_there : (parts : Parts) (ran : Ran) (came : Regs) (errand : Errand) → ∥ Goes parts ran came errand ∥₁ → 0 < parts.journal.spare
room_there parts ran came errand its = ∥∥₁_elim its (Prim.hlevel props) (room_is parts ran came errand)

-- ---- what it leaves

-- what is made of the parts as the processor goes
pub record IsOut (mid new : Parts) (cpu : ℕ) (told : Regs) : Type 0 where
  pub processors : new.processors.items ≡ slice_set mid.processors.items cpu Outside
  pub journal : new.journal ≡ record mid.journal { events = mid.journal.events ++ Exit cpu told ∷ []; spare = mid.journal.spare - 1 }
  pub stays : new ≡ record mid { processors = new.processors; journal = new.journal }

-- the core replays its events where its parts stand for the kernel behind the exit
replays_behind : (old new : Parts) (kernel : model.Kernel) (cpu : ℕ) (told : Regs) (exited : Exited) → new.setup ≡ old.setup →
    new.journal.events ≡ old.journal.events ++ Exit cpu told ∷ [] → new.journal.keeps ≡ old.journal.keeps →
    kernel_after (booted_of_setup old.setup) old.journal.events ≡ Some kernel → exit kernel cpu ≡ Some exited → told.a ≡ exited.regs → Replays old → StandsFor new exited.kernel → Replays new
replays_behind old new kernel cpu told exited setup events keeps comes is same so stands = record {
  kernel = exited.kernel;
  is_boot = subst (λ (s : Setup). IsBoot (boot_of s)) (sym setup) so.is_boot;
  are_natives = subst (λ (s : Setup). AreNatives (boot_of s) (natives_of s)) (sym setup) so.are_natives;
  comes_to = subst (λ (s : Setup). kernel_after (booted_of_setup s) new.journal.events ≡ Some exited.kernel) (sym setup)
      (subst (λ (all : List Event). kernel_after (booted_of_setup old.setup) all ≡ Some exited.kernel) (sym events)
      (comes_behind (booted_of_setup old.setup) old.journal.events kernel cpu told exited comes is same));
  stands = stands;
  keeps = keeps ∙ so.keeps ∙ ap (λ (s : Setup). s.terms.keeps) (sym setup);
  few = subst (λ (s : Setup). copied_bytes new.journal.events ≤ s.terms.most) (sym setup)
      (subst (λ (n : ℕ). n ≤ old.setup.terms.most) (sym (ap copied_bytes events ∙ few_behind old.journal.events cpu told)) so.few);
  bounded = subst (λ (s : Setup). s.terms.most ≤ 2 ^ 63) (sym setup) so.bounded;
  agree = subst (AllByRecursion ReadsAgree) (sym events) (agree_behind old.journal.events cpu told so.agree);
}

-- ---- a fixed answer

fixed_exit : (parts : Parts) (ran : Ran) (came : Regs) (answer : Answer) (so : Goes parts ran came (Fixed answer)) →
    exit so.kernel ran.cpu ≡ Some (goes_out so.kernel (record { cpu = ran.cpu; regs = came.a; steps = so.goes.steps }) answer [])
fixed_exit parts ran came answer so = ap (λ (p : Option model.Processor). option_and_then (exit_of so.kernel ran.cpu) p) so.goes.inside

fixed_replays : (old new : Parts) (ran : Ran) (came told : Regs) (answer : Answer) → ∥ Replays old ∥₁ → Goes old ran came (Fixed answer) →
    told.a ≡ registers_of answer came.a → IsOut old new ran.cpu told → ∥ Replays new ∥₁
fixed_replays old new ran came told answer fact so encoded out = ∥∥₁_map₂ fact so.stands (λ (was : Replays old) (stands : StandsFor old so.kernel).
    let visit : model.Visit = record { cpu = ran.cpu; regs = came.a; steps = so.goes.steps } in
    replays_behind old new so.kernel ran.cpu told (goes_out so.kernel visit answer []) (ap (λ (p : Parts). p.setup) out.stays)
    (ap (λ (j : Contents). j.events) out.journal) (ap (λ (j : Contents). j.keeps) out.journal) so.comes (fixed_exit old ran came answer so) encoded was
    (out_stands old new so.kernel visit (model.Fixed answer) told stands so.goes.inside out.processors out.journal out.stays))

fixed_left : (old new : Core) (ran : Ran) (came told : Regs) (answer : Answer) (lane : List ℕ) → Goes old.parts ran came (Fixed answer) →
    told.a ≡ registers_of answer came.a → IsOut old.parts new.parts ran.cpu told → HasLeft old new ran lane lane told
fixed_left old new ran came told answer lane so encoded out = record {
  boot = ap (λ (p : Parts). booted_of_setup p.setup) out.stays;
  terms = ap (λ (p : Parts). p.setup.terms) out.stays;
  events = ap (λ (j : Contents). j.events) out.journal;
  exited = goes_out so.kernel (record { cpu = ran.cpu; regs = came.a; steps = so.goes.steps }) answer [];
  is_exit = ap (λ (o : Option model.Kernel). option_and_then (λ kernel. exit kernel ran.cpu) o) so.comes ∙ fixed_exit old.parts ran came answer so;
  answer = encoded;
  writes = refl;
}

-- ---- the call of a slot

gone_progress : (old mid : Parts) (ran : Ran) (came : Regs) (slot : ℕ) (so : GoesFromSlot old ran came slot) (lane now : List ℕ) (answer : Answer) →
    HasGoneFrom old mid slot so.carries.cont.value ran.stop lane now answer → HasGoneOut old mid slot lane now answer so.exits.progress
gone_progress old mid ran came slot so lane now answer gone =
    let there : progress_in (tables_of old.tables) so.carries.call so.its.goes.steps so.carries.call.phase ≡ Some so.exits.progress =
    ap (λ (tables : model.Tables). progress_in tables so.carries.call so.its.goes.steps so.carries.call.phase) (tables_are old so.its.kernel so.its.stands) ∙ so.exits.comes in
    subst (λ (found : Option model.Progress). IsSomeAnd found (HasGoneOut old mid slot lane now answer)) there
    (gone.gone so.carries.call so.its.goes.steps so.carries.is)

slot_replays : (old mid new : Parts) (ran : Ran) (came told : Regs) (slot : ℕ) (lane now : List ℕ) (answer : Answer) →
    ∥ Replays old ∥₁ → (so : GoesFromSlot old ran came slot) → HasGoneFrom old mid slot so.carries.cont.value ran.stop lane now answer →
    mid ≡ record old { slots = mid.slots; tables = mid.tables; blanks = mid.blanks } → told.a ≡ registers_of answer came.a → IsOut mid new ran.cpu told → ∥ Replays new ∥₁
slot_replays old mid new ran came told slot lane now answer fact so left stays encoded out = ∥∥₁_map₂ fact so.its.stands (λ (was : Replays old) (stands : StandsFor old so.its.kernel).
    let visit : model.Visit = record { cpu = ran.cpu; regs = came.a; steps = so.its.goes.steps } in
    let progress = so.exits.progress in
    let gone = gone_progress old mid ran came slot so lane now answer left in
    let between : StandsFor mid (kernel_left so.its.kernel slot progress (leaving_of slot progress.call)) =
    left_stands old mid so.its.kernel slot ran.cpu so.carries.call progress lane now answer stands so.carries.active
    (stays_so so.its.kernel.tables so.carries.call so.its.goes.steps progress so.exits.comes) gone left.pages stays in
    replays_behind old new so.its.kernel ran.cpu told (goes_out_from so.its.kernel visit slot progress)
    (ap (λ (p : Parts). p.setup) out.stays ∙ ap (λ (p : Parts). p.setup) stays)
    (ap (λ (j : Contents). j.events) out.journal ∙ ap (λ (p : Parts). p.journal.events ++ Exit ran.cpu told ∷ []) stays)
    (ap (λ (j : Contents). j.keeps) out.journal ∙ ap (λ (p : Parts). p.journal.keeps) stays)
    so.its.comes so.exits.exits (encoded ∙ ap (λ (a : Answer). registers_of a came.a) gone.answered) was
    (out_stands mid new (kernel_left so.its.kernel slot progress (leaving_of slot progress.call)) visit (model.InSlot slot) told between so.its.goes.inside
    out.processors out.journal out.stays))

slot_left_so : (old new : Core) (mid : Parts) (ran : Ran) (came told : Regs) (slot : ℕ) (lane now : List ℕ) (answer : Answer) →
    (so : GoesFromSlot old.parts ran came slot) → HasGoneFrom old.parts mid slot so.carries.cont.value ran.stop lane now answer →
    mid ≡ record old.parts { slots = mid.slots; tables = mid.tables; blanks = mid.blanks } → told.a ≡ registers_of answer came.a → IsOut mid new.parts ran.cpu told →
    HasLeft old new ran lane now told
slot_left_so old new mid ran came told slot lane now answer so left stays encoded out =
    let gone = gone_progress old.parts mid ran came slot so lane now answer left in
    record {
      boot = ap (λ (p : Parts). booted_of_setup p.setup) out.stays ∙ ap (λ (p : Parts). booted_of_setup p.setup) stays;
      terms = ap (λ (p : Parts). p.setup.terms) out.stays ∙ ap (λ (p : Parts). p.setup.terms) stays;
      events = ap (λ (j : Contents). j.events) out.journal ∙ ap (λ (p : Parts). p.journal.events ++ Exit ran.cpu told ∷ []) stays;
      exited = goes_out_from so.its.kernel (record { cpu = ran.cpu; regs = came.a; steps = so.its.goes.steps }) slot so.exits.progress;
      is_exit = ap (λ (o : Option model.Kernel). option_and_then (λ kernel. exit kernel ran.cpu) o) so.its.comes ∙ so.exits.exits;
      answer = encoded ∙ ap (λ (a : Answer). registers_of a came.a) gone.answered;
      writes = gone.written;
    }

-- ---- by what it came in for

its_own : (old mid : Parts) (ran : Ran) (came : Regs) (slot : ℕ) (so : GoesFromSlot old ran came slot) (lane now : List ℕ) (answer : Answer) →
    HasExitedWith old mid (InSlot slot) ran.call ran.stop lane now answer → HasGoneFrom old mid slot so.carries.cont.value ran.stop lane now answer
its_own old mid ran came slot so lane now answer exited =
    subst (λ (carried : Option (Box (Cont (List ℕ)))). IsSomeAnd carried (λ cont. HasGoneFrom old mid slot cont.value ran.stop lane now answer)) so.carries.there exited

replays_by : (old mid new : Parts) (ran : Ran) (came told : Regs) (errand : Errand) (lane now : List ℕ) (answer : Answer) →
    ∥ Replays old ∥₁ → Goes old ran came errand → HasExitedWith old mid errand ran.call ran.stop lane now answer →
    mid ≡ record old { slots = mid.slots; tables = mid.tables; blanks = mid.blanks } → told.a ≡ registers_of answer came.a → IsOut mid new ran.cpu told → ∥ Replays new ∥₁
replays_by old mid new ran came told (Fixed fixed) lane now answer fact its exited stays encoded out =
    fixed_replays old new ran came told fixed fact its (encoded ∙ ap (λ (a : Answer). registers_of a came.a) exited.0)
    (subst (λ (p : Parts). IsOut p new ran.cpu told) exited.1 out)
replays_by old mid new ran came told (InSlot slot) lane now answer fact its exited stays encoded out =
    let so = goes_from_slot old ran came slot its in
    slot_replays old mid new ran came told slot lane now answer fact so (its_own old mid ran came slot so lane now answer exited) stays encoded out

left_by : (old new : Core) (mid : Parts) (ran : Ran) (came told : Regs) (errand : Errand) (lane now : List ℕ) (answer : Answer) →
    Goes old.parts ran came errand → HasExitedWith old.parts mid errand ran.call ran.stop lane now answer →
    mid ≡ record old.parts { slots = mid.slots; tables = mid.tables; blanks = mid.blanks } → told.a ≡ registers_of answer came.a → IsOut mid new.parts ran.cpu told →
    HasLeft old new ran lane now told
left_by old new mid ran came told (Fixed fixed) lane now answer its exited stays encoded out =
    subst (λ (l : List ℕ). HasLeft old new ran lane l told) (sym exited.2)
    (fixed_left old new ran came told fixed lane its (encoded ∙ ap (λ (a : Answer). registers_of a came.a) exited.0)
    (subst (λ (p : Parts). IsOut p new.parts ran.cpu told) exited.1 out))
left_by old new mid ran came told (InSlot slot) lane now answer its exited stays encoded out =
    let so = goes_from_slot old.parts ran came slot its in
    slot_left_so old new mid ran came told slot lane now answer so (its_own old.parts mid ran came slot so lane now answer exited) stays encoded out

pub replays_after : (old mid new : Parts) (ran : Ran) (came told : Regs) (errand : Errand) (lane now : List ℕ) (answer : Answer) →
    ∥ Replays old ∥₁ → ∥ Goes old ran came errand ∥₁ → HasExitedWith old mid errand ran.call ran.stop lane now answer →
    mid ≡ record old { slots = mid.slots; tables = mid.tables; blanks = mid.blanks } → told.a ≡ registers_of answer came.a → IsOut mid new ran.cpu told → ∥ Replays new ∥₁
replays_after old mid new ran came told errand lane now answer fact its exited stays encoded out = ∥∥₁_elim its ∥∥₁_prop (λ (goes : Goes old ran came errand).
    replays_by old mid new ran came told errand lane now answer fact goes exited stays encoded out)

-- its exit is one, whichever way it has left
left_so : (old new : Core) (ran : Ran) (lane now : List ℕ) (told : Regs) → booted_of new ≡ booted_of old →
    terms_of new ≡ terms_of old → events_of new ≡ events_of old ++ Exit ran.cpu told ∷ [] → ∥ HasLeft old new ran lane now told ∥₁ → HasLeft old new ran lane now told
left_so old new ran lane now told boot terms events left = by (exit_after (booted_of old) (events_of old) ran.cpu) refl
  where
    by : (found : Option Exited) → exit_after (booted_of old) (events_of old) ran.cpu ≡ found → HasLeft old new ran lane now told
    by None e = absurd (∥∥₁_elim left (Prim.hlevel props) (λ (has : HasLeft old new ran lane now told).
        let no : None ≡ Some has.exited = sym e ∙ has.is_exit in none-some has.exited no))
    by (Some exited) e = record {
      boot = boot;
      terms = terms;
      events = events;
      exited = exited;
      is_exit = e;
      answer = ∥∥₁_elim left (Prim.hlevel props) (λ (has : HasLeft old new ran lane now told).
          has.answer ∙ ap (λ (x : Exited). x.regs) (same_Some has.exited exited (sym has.is_exit ∙ e)));
      writes = ∥∥₁_elim left (Prim.hlevel props) (λ (has : HasLeft old new ran lane now told).
          has.writes ∙ ap (λ (x : Exited). lane_after lane x.writes) (same_Some has.exited exited (sym has.is_exit ∙ e)));
    }

pub left_after : (old new : Core) (mid : Parts) (ran : Ran) (came told : Regs) (errand : Errand) (lane now : List ℕ) (answer : Answer) →
    ∥ Goes old.parts ran came errand ∥₁ → HasExitedWith old.parts mid errand ran.call ran.stop lane now answer →
    mid ≡ record old.parts { slots = mid.slots; tables = mid.tables; blanks = mid.blanks } → told.a ≡ registers_of answer came.a → IsOut mid new.parts ran.cpu told →
    HasLeft old new ran lane now told
left_after old new mid ran came told errand lane now answer its exited stays encoded out =
    left_so old new ran lane now told (ap (λ (p : Parts). booted_of_setup p.setup) out.stays ∙ ap (λ (p : Parts). booted_of_setup p.setup) stays)
    (ap (λ (p : Parts). p.setup.terms) out.stays ∙ ap (λ (p : Parts). p.setup.terms) stays)
    (ap (λ (j : Contents). j.events) out.journal ∙ ap (λ (p : Parts). p.journal.events ++ Exit ran.cpu told ∷ []) stays)
    (∥∥₁_map its (λ (goes : Goes old.parts ran came errand). left_by old new mid ran came told errand lane now answer goes exited stays encoded out))
