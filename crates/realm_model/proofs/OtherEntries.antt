-- An entry with a new call that isn't the realm's leaves kernel and machine tied.
use Rattle.std.proofs.Common.{◌≡◌, ℕ, List, Option, Some, None, refl, ap, subst, sym, ◌∙◌, ◌≤◌, ◌<◌, arith}
use Rattle.std.specs.Prelude.{slice_get, slice_set}
use Rattle.std.specs.Option.{option_and_then, option_map_or}
use Rattle.base.specs.NumberMap.{get}
use Rattle.event_journal.specs.declared.event.Event.TheVariants.{Entry}
use Rattle.realm_model.specs.Tied.{Members}
use Rattle.kernel_model.specs.Decision.{Taken, Takes}
use Rattle.kernel_model.specs.Entry.{after_decision}
use Rattle.kernel_model.specs.Application.{Booted}
use Rattle.kernel_model.specs.Kernel.{Active, Free, InSlot, Inside, Kernel, PendingCall, Processor, Tables, ThreadSlot, Visit}
use Rattle.kernel_model.specs.Kernel.{cancelled_slots}
use Rattle.kernel_model.specs.Located.{Located, cookie_of}
use Rattle.own_model.proofs.BelowNumbers.{AreBelow, below_numbers}
use Rattle.own_model.proofs.BelowNumbers.{below_pinned}
use Rattle.ns_ram.specs.declared.read.Read.{Read}
use Rattle.smc_abi.specs.declared.regs.Regs.{Regs}
use Rattle.shm_registry.specs.Registered.{Registered}
use Rattle.own_model.specs.Own.{Entering}
use Rattle.own_model.specs.Tied.{call_in}
use Rattle.group_model.specs.Laws.{IsSound}
use Rattle.realm_model.specs.Realm.{Realm}
use Rattle.kernel_model.specs.NewCall.{new_call_of}
use Rattle.own_model.proofs.Marks.{cancels_mark}
use Rattle.group_model.specs.Group.{Group}
use Rattle.realm_model.specs.Reading.{Notes, Watched, call_noted, entry_noted, event_noted, event_of, numbered, slot_noted}
use Rattle.group_model.specs.declared.group_event.GroupEvent.{GroupEvent}
use Rattle.realm_model.specs.Laws.{About, AreTied, GoesAlong, IsRealm, OtherCallsKeepTied, names_of}
use Rattle.group_model.specs.Tied.{Names}
use Rattle.realm_model.specs.Tied.{Tied}
use Rattle.group_model.proofs.Begins.{others_marked}
use Rattle.group_model.proofs.Kept.{KeepsSlots}
use Rattle.realm_model.proofs.Kept.{stays_tied}
use Rattle.group_model.proofs.NewEntries.{new_call_taken}
use Rattle.realm_model.proofs.OtherCalls.{Within, IfUnnoted, TakesOther, forms_other, registered_keep}
use Rattle.group_model.proofs.OtherExits.{held_other, slot_keeps}
use Rattle.realm_model.proofs.OtherExits.{goes_silently, tied_keeps}

pub positive : (n : ℕ) → 1 ≤ n → 0 < n
positive n le = omega arith

-- other registered buffers make no difference
pub registered_else : (members : Members) (names : Names) (slots : List ThreadSlot) (tables : Tables) (g : Group)
    (registered : Registered) → Tied members names slots tables g
    → Tied members names slots (record tables { registered = registered }) g
registered_else members names slots tables g registered tied = record {
  sessions = tied.sessions;
  named = tied.named;
  instances = tied.instances;
  calls = tied.calls;
  waiters = tied.waiters;
  kept = tied.kept;
  others = tied.others;
  entered = tied.entered;
  next_session = tied.next_session;
  session_names = tied.session_names;
  instance_names = tied.instance_names;
  key = tied.key;
}

-- a free slot has no number
pub no_number : (members : Members) (names : Names) (slots : List ThreadSlot) (tables : Tables) (g : Group) (slot : ℕ)
    (found : Option ℕ) → get names.numbering.in_slots slot ≡ found → slice_get slots slot ≡ Some Free
    → Tied members names slots tables g → found ≡ None
no_number members names slots tables g slot None is free tied = refl
no_number members names slots tables g slot (Some number) is free tied =
    let its = tied.calls.own slot number is in
    let no : None ≡ Some its.call =
    sym (ap (λ (o : Option ThreadSlot). option_and_then call_in o) free) ∙ its.in_slot in absurd cc

abbrev pub within : (boot : Booted) (about : About) (kernel : Kernel) (notes : Notes) (g : Group) (regs : List ℕ) (slot : ℕ)
    → IsRealm boot about.members → IsSound kernel → AreTied about kernel.slots kernel.tables notes g
    → slice_get kernel.slots slot ≡ Some Free → (at : Located) (bytes : List ℕ)
    → Within about notes kernel.slots g (new_call_of boot kernel.tables regs slot at bytes)
within boot about kernel notes g regs slot shares sound tied free at bytes =
    let below : AreBelow kernel.slots kernel.tables = below_numbers kernel sound.numbers in
    record {
      of_boot = shares.of_boot;
      shares = shares.shares;
      from_one = positive kernel.tables.next_session below.session_from_one;
      below = λ other call there. (below.calls other call there).0;
      numbers = below_pinned kernel.slots kernel.tables (cookie_of at) slot below;
      sessions_rising = sound.order.sessions.rising;
      rising = sound.order.instances;
      free = free;
      none = no_number about.members (names_of about notes tied.instances) kernel.slots kernel.tables g slot
          (get notes.numbering.in_slots slot) refl free tied.tied;
      instances = tied.instances;
      tied = registered_else about.members (names_of about notes tied.instances) kernel.slots kernel.tables g _ tied.tied;
      as_realm = tied.as_realm;
    }

-- what is noted of it
pub new_call_noted : (boot : Booted) (realm : Realm) (kernel next : Kernel) (cpu steps slot : ℕ) (regs : Regs)
    (reads : List Read) (now : PendingCall) (notes : Notes)
    → slice_get next.processors cpu ≡ Some (Inside regs.a steps (InSlot slot)) → slice_get kernel.slots slot ≡ Some Free
    → slice_get next.slots slot ≡ Some (Active cpu now)
    → event_noted boot realm kernel next notes (Entry cpu regs steps reads) ≡ call_noted realm next.tables notes slot now
new_call_noted boot realm kernel next cpu steps slot regs reads now notes inside was is =
    let visit : Visit = record { cpu = cpu; regs = regs.a; steps = steps } in
    let entering : Entering = record { kernel = kernel; next = next; visit = visit; reads = reads } in
    let w : Watched = record { boot = boot; realm = realm; entering = entering } in
    ap (λ (p : Option Processor). entry_noted w notes p) inside
    ∙ ap (λ (o : Option ThreadSlot). slot_noted w slot notes o (slice_get next.slots slot)) was
    ∙ ap (λ (o : Option ThreadSlot). slot_noted w slot notes (Some Free) o) is

taken_tied : (members : Members) (names : Names) (kernel : Kernel) (visit : Visit) (slot : ℕ) (taken : Taken) (g : Group)
    → get names.numbering.in_slots slot ≡ None → Tied members names kernel.slots kernel.tables g
    → TakesOther members names kernel.tables taken
    → Tied members names (after_decision kernel visit (Takes slot taken)).slots
    (after_decision kernel visit (Takes slot taken)).tables g
taken_tied members names kernel visit slot taken g none tied takes =
    let marked : List ThreadSlot = cancelled_slots kernel.slots taken.cancels in
    let held : ThreadSlot = Active visit.cpu taken.call in
    let set = slot_keeps names marked slot held none (λ now in_it. held_other names taken.call now in_it takes.other)
    (others_marked names.sessions names.instances names.numbering.in_slots kernel.slots taken.cancels tied.others) in
    let slots : KeepsSlots names kernel.slots (slice_set marked slot held) = record {
      calls = λ at number has. set.calls at number has ∙ cancels_mark kernel.slots taken.cancels at;
      others = set.others;
    } in
    stays_tied members names kernel.slots (slice_set marked slot held) kernel.tables taken.tables g slots takes.kept tied

pub other_call : OtherCallsKeepTied
other_call boot about kernel next cpu steps slot regs reads now notes g shares sound is inside there none e at =
    let names : Names = names_of about notes at.instances in
    let found =
    new_call_taken (λ number (taken : Taken). IfUnnoted about notes names kernel.tables taken) boot kernel next cpu steps
    slot regs reads now is
    (λ number free place bytes.
    forms_other about notes kernel.slots g (new_call_of boot kernel.tables regs.a number place bytes)
    (within boot about kernel notes g regs.a number shares sound at free place bytes) kernel.tables
    (registered_keep about.members names kernel.tables kernel.tables
    (tied_keeps about.members names kernel.slots kernel.tables g at.tied) _) at.tied.session_names)
    inside there e in
    let tables : found.taken.tables ≡ next.tables = ap (λ (k : Kernel). k.tables) found.gives in
    let takes = found.holds
    (ap (λ (t : Tables). event_of about.members.realm t notes found.taken.call found.taken.call.kind) tables
    ∙ ap (λ (c : PendingCall). event_of about.members.realm next.tables notes c c.kind) found.call_is ∙ none) in
    let unnumbered = no_number about.members names kernel.slots kernel.tables g slot (get notes.numbering.in_slots slot) refl
    found.free at.tied in
    let visit : Visit = record { cpu = cpu; regs = regs.a; steps = steps } in
    let still : AreTied about next.slots next.tables notes g = record {
      instances = at.instances;
      tied = subst (λ (k : Kernel). Tied about.members names k.slots k.tables g) found.gives
          (taken_tied about.members names kernel visit slot found.taken g unnumbered at.tied takes);
      as_realm = at.as_realm;
    } in
    let same : event_noted boot about.members.realm kernel next notes (Entry cpu regs steps reads) ≡ notes =
    new_call_noted boot about.members.realm kernel next cpu steps slot regs reads now notes inside found.free there
    ∙ ap (λ (o : Option GroupEvent). option_map_or (numbered notes slot now) o notes) none in
    subst (GoesAlong about notes g next) (sym same) (goes_silently about notes g next still)
