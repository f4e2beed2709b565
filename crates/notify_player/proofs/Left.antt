-- Where the result of a duty is written.
use Rattle.std.proofs.Common.{◌≡◌, ℕ, ◌+◌, List, [], ◌∷◌, Option, None, Some, ap, subst, sym, arith}
use Rattle.std.specs.Option.{ForSome}
use Rattle.desk_answers.specs.Duties.{writes_of}
use Rattle.desk_answers.specs.declared.answering.ResultIn.{ResultIn}
use Rattle.notif.specs.Desk.{DeskState}
use Rattle.notify_play.specs.Duty.{Duty, Enables, Nothing, Offers, RunsBottomHalf, Stops, TellsValue}
use Rattle.notify_play.specs.NotifyPlay.{Drivers}
use Rattle.notify_play.specs.Told.{told_writes}
use Rattle.ns_ram.specs.Lane.{IsInRam}
use Rattle.ns_ram.specs.Writes.{Write}
use Rattle.notify_player.specs.Asking.{HasArgument}

-- the address of the first write
abbrev first_addr : List Write → ℕ
first_addr [] = 0
first_addr (write ∷ writes) = write.addr

same_place : (arg other : ℕ) → arg + 20 ≡ other + 20 → arg ≡ other
same_place arg other e = omega (arith, e)

-- a result that is written lies where its argument does
pub argument-there : (drivers : Drivers) (desk : DeskState) (asked : Duty) (result : Option ResultIn) → HasArgument asked
    → writes_of result ≡ told_writes drivers desk asked → ForSome result (λ wanted. IsInRam wanted.arg 32)
argument-there drivers desk asked None has e = λ wanted is. absurd cc
argument-there drivers desk Nothing (Some told) has e = absurd cc
argument-there drivers desk TellsValue (Some told) has e = absurd cc
argument-there drivers desk Enables (Some told) has e = absurd cc
argument-there drivers desk Offers (Some told) has e = absurd cc
argument-there drivers desk (RunsBottomHalf arg) (Some told) has e = λ wanted is.
    let same : wanted ≡ told = cc in
    subst (λ (r : ResultIn). IsInRam r.arg 32) (sym same)
    (subst (λ (n : ℕ). IsInRam n 32) (sym (same_place told.arg arg (ap first_addr e))) has)
argument-there drivers desk (Stops arg) (Some told) has e = λ wanted is.
    let same : wanted ≡ told = cc in
    subst (λ (r : ResultIn). IsInRam r.arg 32) (sym same)
    (subst (λ (n : ℕ). IsInRam n 32) (sym (same_place told.arg arg (ap first_addr e))) has)
