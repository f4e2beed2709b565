-- A cancel marks the calls of the kernel that are meant, active and suspended ones alike.
use Rattle.std.proofs.Common.{ℕ, List, Option, Some, None, refl}
use Rattle.std.proofs.lemmas.Option.{slice_get-map}
use Rattle.std.specs.Prelude.{map, slice_get, ◌||◌, Bool}
use Rattle.std.specs.Option.{option_map}
use Rattle.std.specs.Global.{Box}
use Rattle.kernel_model.specs.Kernel.{Cancel, PendingCall, ThreadSlot, cancelled_call, cancelled_slot, cancelled_slots, is_meant}
use Rattle.kernel_model.specs.Kernel as model
use Rattle.rpc_cont.specs.declared.cont.Cont.{Cont}
use Rattle.thread_slots.specs.declared.slot.Slot.{Slot}
use Rattle.thread_slots.specs.declared.slot.Slot.TheVariants.{Free, Active, Suspended}
use Rattle.kernel_state.specs.Calls.{IsCall}
use Rattle.kernel_state.specs.Cancelling.{marked_by}
use Rattle.kernel_state.specs.StandsFor.{AreSlots, IsBeside, IsSlot, IsSlotAt}
use Rattle.kernel_state.specs.declared.cancellation.Cancellation.{Cancellation}

is_beside_marked : (cancel : Cancel) (beside : Cancellation) (call : PendingCall) → IsBeside beside call →
    IsBeside (marked_by cancel beside) (cancelled_call cancel call)
is_beside_marked cancel beside call is = record {
  session = is.session;
  cancel_id = is.cancel_id;
  marked = rw (is.session, is.cancel_id, is.marked) refl;
}

-- a mark is no part of the call as data
pub is_call_with_mark : (marked : Bool) (cont : Cont (List ℕ)) (call : PendingCall) → IsCall cont call →
    IsCall cont (record call { marked = marked })
is_call_with_mark marked cont call is = record {
  client = is.client;
  kind = is.kind;
  app = is.app;
  login = is.login;
  arg = is.arg;
  area = is.area;
  places = is.places;
  session = is.session;
  instance = is.instance;
  seen = is.seen;
  steps = is.steps;
  buffer = is.buffer;
  phase = is.phase;
}

pub is_call_marked : (cancel : Cancel) (cont : Cont (List ℕ)) (call : PendingCall) → IsCall cont call →
    IsCall cont (cancelled_call cancel call)
is_call_marked cancel cont call is = is_call_with_mark (is_meant cancel call || call.marked) cont call is

is_slot_marked : (cancel : Cancel) (slot : Slot (Box (Cont (List ℕ)))) (beside : Cancellation) (held : ThreadSlot) →
    IsSlot slot beside held → IsSlot slot (marked_by cancel beside) (cancelled_slot cancel held)
is_slot_marked cancel Free beside model.Free is = tt
is_slot_marked cancel Free beside (model.Active worker call) is = absurd is
is_slot_marked cancel Free beside (model.Suspended owner call) is = absurd is
is_slot_marked cancel (Active cpu) beside model.Free is = absurd is
is_slot_marked cancel (Active cpu) beside (model.Active worker call) is = (is.0, is_beside_marked cancel beside call is.1)
is_slot_marked cancel (Active cpu) beside (model.Suspended owner call) is = absurd is
is_slot_marked cancel (Suspended client cont) beside model.Free is = absurd is
is_slot_marked cancel (Suspended client cont) beside (model.Active worker call) is = absurd is
is_slot_marked cancel (Suspended client cont) beside (model.Suspended owner call) is =
    (is.0, is_beside_marked cancel beside call is.1, is_call_marked cancel cont.value call is.2)

is_slot_at_marked : (cancel : Cancel) (slot : Option (Slot (Box (Cont (List ℕ))))) (beside : Option Cancellation) (held : Option ThreadSlot) →
    IsSlotAt slot beside held → IsSlotAt slot (option_map (marked_by cancel) beside) (option_map (cancelled_slot cancel) held)
is_slot_at_marked cancel None None None is = tt
is_slot_at_marked cancel (Some slot) (Some beside) (Some held) is = is_slot_marked cancel slot beside held is
is_slot_at_marked cancel None None (Some held) is = absurd is
is_slot_at_marked cancel None (Some beside) held is = absurd is
is_slot_at_marked cancel (Some slot) None held is = absurd is
is_slot_at_marked cancel (Some slot) (Some beside) None is = absurd is

pub are_slots_marked : (cancel : Cancel) (slots : List (Slot (Box (Cont (List ℕ))))) (beside : List Cancellation) (held : List ThreadSlot) →
    AreSlots slots beside held → AreSlots slots (map (marked_by cancel) beside) (cancelled_slots held (Some cancel))
are_slots_marked cancel slots beside held are slot =
    rw (slice_get-map (marked_by cancel) beside slot, slice_get-map (cancelled_slot cancel) held slot)
    (is_slot_at_marked cancel (slice_get slots slot) (slice_get beside slot) (slice_get held slot) (are slot))
