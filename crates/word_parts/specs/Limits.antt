-- How much a trace may hold.
use Rattle.std.specs.Prelude.{◌^◌, ◌<◌, Bool, true, false, List}
use Rattle.std.specs.List.{count_by}
use Rattle.trace_text.specs.declared.item.Item.{Item}
use Rattle.trace_text.specs.declared.item.Item.TheVariants as item

-- an item that makes a processor come in
abbrev pub is_smc : Item → Bool
is_smc (item.Smc cpu steps regs) = true
is_smc (item.Enter cpu steps regs) = true
is_smc (item.Leave cpu) = false
is_smc (item.Write cpu addr bytes) = false
is_smc (item.Show cpu addr len) = false

-- more of these than a trace may have
abbrev pub HasTooMany : List Item → Type 0
HasTooMany items = 2 ^ 16 < count_by is_smc items
