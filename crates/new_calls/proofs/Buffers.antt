-- A walk over page lists gives a buffer that can be registered.
use Rattle.std.proofs.Common.{◌≡◌, ℕ, ◌<◌, ◌≤◌, ◌-◌, List, length, Some, Ok, arith}
use Rattle.kernel_model.specs.NewCall.{listed_pages, offset_in, pages_touched}
use Rattle.msg_args.specs.declared.param.MsgParam.{MsgParam}
use Rattle.ns_ram.specs.Reader.{over_lane}
use Rattle.ns_ram.specs.declared.read.Read.{Read}
use Rattle.param_copy.proofs.GoodPages.{walk-good}
use Rattle.shm_registry.specs.Pieces.{IsBuffer}

pub walked_buffer : (param : MsgParam) (lane : List ℕ) (before after : List Read) (pages : List ℕ) → offset_in param < 4096 → pages_touched param ≤ 1024 →
    over_lane (listed_pages param) lane before ≡ Some (Ok pages, after) →
    IsBuffer (record { pages = pages; offset = offset_in param; size = param.q })
walked_buffer param lane before after pages inside few e =
    let good = walk-good (param.p - offset_in param) (pages_touched param) lane before after pages e in
    let many : length pages ≡ pages_touched param = omega (arith, good.many) in
    record { offset = inside; count = many; few = rw many few; pages = good.all }
