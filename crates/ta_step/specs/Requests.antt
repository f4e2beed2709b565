-- Which bytes of memory a request names.
use Rattle.std.specs.Prelude.{◌≡◌, ℕ, true}
use Rattle.ta_params.specs.declared.object_call.ObjectCall.{ObjectCall}
use Rattle.ta_params.specs.declared.object_call.ObjectCall.TheVariants.{Create, Opened, Read, Write, Seek, Close, Delete}
use Rattle.ta_step.specs.State.{State}
use Rattle.ta_step.specs.Addresses.{is_range}
use Rattle.ta_step.specs.declared.stop.Request.{Request}
use Rattle.ta_step.specs.declared.stop.Request.TheVariants as request
use Rattle.ta_step.specs.declared.stop.Stop.{Stop}
use Rattle.ta_step.specs.declared.stop.Stop.TheVariants as stop

-- where the bytes stand that a call on an object names, and how many they are
abbrev pub object_span : ObjectCall → ℕ × ℕ
object_span (Create id len) = (id, len)
object_span (Opened id len) = (id, len)
object_span (Read handle addr len) = (addr, len)
object_span (Write handle addr len) = (addr, len)
object_span (Seek handle position) = (0, 0)
object_span (Close handle) = (0, 0)
object_span (Delete handle) = (0, 0)

-- where the bytes stand that a request names, and how many they are
abbrev pub span_of : Request → ℕ × ℕ
span_of request.Time = (0, 0)
span_of (request.Suspend ms) = (0, 0)
span_of (request.Object call) = object_span call

-- those that a machine stopped for are all in one range
abbrev pub NamesRange : Stop → State → Type 0
NamesRange (stop.Ended result context) s = Unit {0}
NamesRange (stop.Panicked code) s = Unit {0}
NamesRange (stop.Asks request) s = let span = span_of request in is_range s span.0 span.1 ≡ true
NamesRange stop.Interrupted s = Unit {0}
