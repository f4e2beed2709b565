-- A call that goes on: what its resume keeps of it, and what the parts stand for then.
use Rattle.std.proofs.Common.{◌≡◌, ℕ, zero, suc, Bool, true, false, List, [], ◌∷◌, Some, refl, sym, ap, ap₂, ◌∙◌, subst}
use Rattle.std.specs.Prelude.{if◌then◌else◌, slice_get, slice_set, Ok, Result}
use Rattle.std.specs.Global.{Box}
use Rattle.std.specs.Option.{option_map}
use Rattle.kernel_model.proofs.SoundResumes.{resumes_all}
use Rattle.kernel_model.specs.Argument.{thread_in}
use Rattle.kernel_model.specs.Decision.{works_on}
use Rattle.kernel_model.specs.Given.{Given, Nothing, Buffer, NoBuffer, Reply, call_given}
use Rattle.kernel_model.specs.Kernel.{PendingCall, Progress, ThreadSlot}
use Rattle.kernel_model.specs.Resume.{Resumed, call_resumed_by, onward_of, resumed_call, sees}
use Rattle.kernel_state.specs.Calls.{IsCall}
use Rattle.kernel_state.specs.Setup.{booted_of_setup}
use Rattle.kernel_state.specs.StandsFor.{AreSlots, IsBeside}
use Rattle.kernel_state.specs.Tables.{HasFreePages, tables_of}
use Rattle.kernel_state.specs.declared.cancellation.Cancellation.{Cancellation}
use Rattle.kernel_state.specs.declared.parts.Parts.{Parts}
use Rattle.kernel_state.specs.declared.processor.Errand.TheVariants.{InSlot}
use Rattle.kernel_state.specs.declared.tables.Tables.{Tables}
use Rattle.ns_ram.specs.declared.read.Read.{Read}
use Rattle.resumed_calls.proofs.Taking.{slot_resumed}
use Rattle.resumed_calls.specs.Deciding.{IsHandedOut}
use Rattle.resumed_calls.specs.Giving.{given_as}
use Rattle.resumed_calls.specs.Onward.{HasCome}
use Rattle.resumed_calls.specs.declared.deciding.Decided.{Decided}
use Rattle.rpc_cont.specs.declared.cont.Cont.{Cont}
use Rattle.thread_slots.specs.declared.bad_resume.BadResume.{BadResume}
use Rattle.thread_slots.specs.declared.slot.Slot.TheVariants.{Active}
use Rattle.kernel_entry.specs.Resuming.{HasGoneOn, goes_on_as}
use Rattle.kernel_entry.specs.Visiting.{IsInside}
use Rattle.kernel_entry.specs.declared.visitor.Visitor.{Visitor}
use Rattle.kernel_entry.proofs.Standing.{TakesSlot}

-- ---- what stands beside a slot stays

-- what stands beside its slot is the same of both calls
pub record StaysBeside (before after : PendingCall) : Type 0 where
  pub session : after.session ≡ before.session
  pub cancel_id : after.cancel_id ≡ before.cancel_id
  pub marked : after.marked ≡ before.marked

stays_onward : (r : Resumed) → StaysBeside r.call (onward_of r).call
stays_onward r = resumes_all r (λ (progress : Progress). StaysBeside r.call progress.call) (record {
  runs = λ job is. record { session = refl; cancel_id = refl; marked = refl };
  asks_still = λ job wanted payload is. record { session = refl; cancel_id = refl; marked = refl };
  answered = λ job wanted payload answer advance is so. record { session = refl; cancel_id = refl; marked = refl };
  ends = λ result params told wakes still is. record { session = refl; cancel_id = refl; marked = refl };
  fails = λ params code is. record { session = refl; cancel_id = refl; marked = refl };
  sleeps = λ params is. record { session = refl; cancel_id = refl; marked = refl };
  opens = λ params session app instance ready alive is found. record { session = refl; cancel_id = refl; marked = refl };
  opens_new = λ params session app awake gone is found pages. record { session = refl; cancel_id = refl; marked = refl };
  invokes = λ params session instance func ready alive is. record { session = refl; cancel_id = refl; marked = refl };
  closes = λ params session instance ready is. record { session = refl; cancel_id = refl; marked = refl };
})

stays_given : (given : Given) (call : PendingCall) → StaysBeside call (call_given given call)
stays_given Nothing call = record { session = refl; cancel_id = refl; marked = refl }
stays_given (Buffer buffer) call = record { session = refl; cancel_id = refl; marked = refl }
stays_given NoBuffer call = record { session = refl; cancel_id = refl; marked = refl }
stays_given (Reply reply) call = record { session = refl; cancel_id = refl; marked = refl }

stays_seen : (call seen : PendingCall) (marked : Bool) → StaysBeside call seen → StaysBeside call (if marked then seen else call)
stays_seen call seen true stays = stays
stays_seen call seen false stays = record { session = refl; cancel_id = refl; marked = refl }

stays_sees : (call : PendingCall) → StaysBeside call (sees call)
stays_sees call = stays_seen call _ call.marked (record { session = refl; cancel_id = refl; marked = refl })

in_turn : (one other last : PendingCall) → StaysBeside one other → StaysBeside other last → StaysBeside one last
in_turn one other last first second = record {
  session = second.session ∙ first.session;
  cancel_id = second.cancel_id ∙ first.cancel_id;
  marked = second.marked ∙ first.marked;
}

stays_beside : (parts : Parts) (regs : List ℕ) (decided : Decided) (call : PendingCall) → StaysBeside call (goes_on_as parts regs decided call).call
stays_beside parts regs decided call =
    let given : Given = given_as decided.given in
    let r = resumed_call (booted_of_setup parts.setup) (tables_of parts.tables) (thread_in regs) call given in
    in_turn call (sees call) (onward_of r).call (stays_sees call)
    (in_turn (sees call) (call_given given (sees call)) (onward_of r).call (stays_given given (sees call)) (stays_onward r))

still_beside : (beside : Cancellation) (before after : PendingCall) → IsBeside beside before → StaysBeside before after → IsBeside beside after
still_beside beside before after is stays = record {
  session = is.session ∙ sym stays.session;
  cancel_id = is.cancel_id ∙ sym stays.cancel_id;
  marked = is.marked ∙ sym stays.marked;
}

-- ---- as it is resumed

set_same : {X : Type 0} (xs : List X) (i : ℕ) (x : X) → slice_get xs i ≡ Some x → slice_set xs i x ≡ xs
set_same [] i x there = absurd cc
set_same (first ∷ xs) zero x there = let same : first ≡ x = cc in ap (λ one. one ∷ xs) (sym same)
set_same (first ∷ xs) (suc i) x there = ap (λ rest. first ∷ rest) (set_same xs i x there)

same_ok : (one cont : Box (Cont (List ℕ))) → ◌≡◌ {A = Result (Box (Cont (List ℕ))) BadResume} (Ok one) (Ok cont) → one ≡ cont
same_ok one cont is = cc

same_mark : (one other : Bool) → Some one ≡ Some other → one ≡ other
same_mark one other is = cc

-- the call that was handed out has come so far, by its slot and its mark as they are read
pub come_so : (parts : Parts) (regs : List ℕ) (decided : Decided) (tables : Tables) (after : Cont (List ℕ)) (slot : ℕ) (marked : Bool) (one cont : Box (Cont (List ℕ)))
    (view : Cont (List ℕ)) (besides : List Cancellation) (beside : Cancellation) (call : PendingCall) → slot ≡ thread_in regs → besides ≡ parts.cancellations.items →
    option_map (λ (beside : Cancellation). beside.marked) (slice_get besides slot) ≡ Some marked → IsHandedOut parts.slots regs one → view ≡ one.value →
    ((call : PendingCall) → IsCall view call → call.marked ≡ marked →
    HasCome (tables_of tables) after (onward_of (resumed_call (booted_of_setup parts.setup) (tables_of parts.tables) slot call (given_as decided.given)))) →
    IsHandedOut parts.slots regs cont → slice_get parts.cancellations.items (thread_in regs) ≡ Some beside → IsCall cont.value call → call.marked ≡ beside.marked →
    HasCome (tables_of tables) after (goes_on_as parts regs decided call)
come_so parts regs decided tables after slot marked one cont view besides beside call named same read out shown comes handed there is mark =
    let mine : one ≡ cont = same_ok one cont (sym out ∙ handed) in
    let its : marked ≡ beside.marked = same_mark marked beside.marked (sym read
    ∙ ap₂ (λ (besides : List Cancellation) (n : ℕ). option_map (λ (beside : Cancellation). beside.marked) (slice_get besides n)) same named
    ∙ ap (option_map (λ (beside : Cancellation). beside.marked)) there) in
    subst (λ (n : ℕ). HasCome (tables_of tables) after (onward_of (resumed_call (booted_of_setup parts.setup) (tables_of parts.tables) n call (given_as decided.given)))) named
    (comes call (subst (λ (cont : Cont (List ℕ)). IsCall cont call) (sym (shown ∙ ap (λ (box : Box (Cont (List ℕ))). box.value) mine)) is) (mark ∙ sym its))

-- ---- the parts

-- what goes on in the parts as the call of a slot is resumed
pub record GoesOn (old mid : Parts) (regs : List ℕ) (cpu : ℕ) (decided : Decided) (after : Cont (List ℕ)) : Type 0 where
  pub slots : mid.slots ≡ slice_set old.slots (thread_in regs) (Active cpu)
  pub call : HasGoneOn old regs decided mid.tables after
  pub pages : HasFreePages old.setup mid.tables
  pub stays : mid ≡ record old { slots = mid.slots; tables = mid.tables }

-- the call of the kernel's slot has come so far
pub has_come : (old mid : Parts) (regs : List ℕ) (cpu : ℕ) (decided : Decided) (after : Cont (List ℕ)) (held : List ThreadSlot) (call : PendingCall) →
    GoesOn old mid regs cpu decided after → AreSlots old.slots old.cancellations.items held → call_resumed_by held regs ≡ Some call →
    HasCome (tables_of mid.tables) after (goes_on_as old regs decided call)
has_come old mid regs cpu decided after held call goes are found =
    let its = slot_resumed old.slots old.cancellations.items held regs call are found in
    goes.call its.cont its.cancellation call its.resumes its.there its.is (sym its.fits.marked)

-- the slot is taken for what its call comes to
pub resume_takes : (old mid new : Parts) (visitor : Visitor) (slot : ℕ) (decided : Decided) (after : Cont (List ℕ)) (reads : List Read) (held : List ThreadSlot) (call : PendingCall) →
    GoesOn old mid visitor.regs.a visitor.cpu decided after → AreSlots old.slots old.cancellations.items held → call_resumed_by held visitor.regs.a ≡ Some call →
    IsInside mid new visitor (InSlot slot) reads →
    (beside : Cancellation) × TakesSlot old new visitor (thread_in visitor.regs.a) beside (works_on (goes_on_as old visitor.regs.a decided call))
resume_takes old mid new visitor slot decided after reads held call goes are found inside =
    let regs = visitor.regs.a in
    let its = slot_resumed old.slots old.cancellations.items held regs call are found in
    let has = has_come old mid regs visitor.cpu decided after held call goes are found in
    let tables : new.tables ≡ mid.tables = ap (λ (parts : Parts). parts.tables) inside.stays in (
      its.cancellation,
      record {
        setup = ap (λ (parts : Parts). parts.setup) inside.stays ∙ ap (λ (parts : Parts). parts.setup) goes.stays;
        slots = ap (λ (parts : Parts). parts.slots) inside.stays ∙ goes.slots;
        cancellations = ap (λ (parts : Parts). parts.cancellations.items) inside.stays ∙ ap (λ (parts : Parts). parts.cancellations.items) goes.stays
            ∙ sym (set_same old.cancellations.items (thread_in regs) its.cancellation its.there);
        beside_is = still_beside its.cancellation call (goes_on_as old regs decided call).call its.fits (stays_beside old regs decided call);
        tables = ap tables_of tables ∙ has.tables;
        pages = subst (λ (tables : Tables). HasFreePages old.setup tables) (sym tables) goes.pages;
      },
    )
