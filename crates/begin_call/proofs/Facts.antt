-- That a call can begin is a fact: there is one way at most in which it holds.
use Rattle.std.proofs.Common.{ℕ, List}
use Rattle.std.proofs.Props.{props}
use Rattle.begin_call.specs.Begins.{CanBegin}
use Rattle.rpc_cont.specs.declared.cont.Cont.{Cont}

pub can_begin_prop : (cont : Cont (List ℕ)) → IsProp (CanBegin cont)
can_begin_prop cont = Prim.hlevel props
