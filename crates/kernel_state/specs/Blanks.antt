-- Boxes of calls of which nothing is there.
use Rattle.std.specs.Prelude.{◌≡◌, ℕ, ◌+◌, ◌<◌, false, if◌then◌else◌, List, [], All, None, nat_lt, vec_capacity}
use Rattle.std.specs.Global.{Box, Vec}
use Rattle.rpc_cont.specs.Beginning.{IsFresh}
use Rattle.rpc_cont.specs.declared.cont.Cont.{Cont}

-- nothing of the call is there yet, and no memory of one
pub record IsBlank (cont : Cont (List ℕ)) : Type 0 where
  pub fresh : IsFresh cont
  pub buffer : cont.buffer ≡ None
  pub cancelled : cont.cancelled ≡ false
  pub steps : cont.steps ≡ 0
  pub done : cont.done ≡ false
  pub objects : cont.objects ≡ []
  -- the lists in these have memory of their own
  pub places : cont.places.items ≡ []

-- nothing is there of any of these, and there is room for one
pub record HoldsBlanks (boxes : Vec (Box (Cont (List ℕ)))) : Type 0 where
  pub blank : All (λ box. IsBlank box.value) boxes.items
  pub room : 0 < vec_capacity boxes

-- how many boxes are kept, and for how many there is room
pub record Boxes : Type 0 where
  pub kept : ℕ
  pub room : ℕ

-- one more, where there is room for it
abbrev pub with_box : Boxes → Boxes
with_box boxes = if nat_lt boxes.kept boxes.room then record boxes { kept = boxes.kept + 1 } else boxes
