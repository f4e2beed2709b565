-- The waiters are a line: each waits in a slot of its own, of which there are at most sixteen.
use Rattle.std.proofs.Common.{◌≡◌, ℕ, zero, suc, ◌<◌, ◌≤◌, List, [], ◌∷◌, length, Some, ap, subst, sym, arith}
use Rattle.std.proofs.lemmas.List.Elements.{All-weaker}
use Rattle.session_table.specs.declared.waiters.Waiter.{Waiter}
use Rattle.session_table.specs.Waiters.{IsLine}
use Rattle.kernel_model.specs.Application.{Booted, IsBooted}
use Rattle.kernel_model.specs.Kernel.{ThreadSlot}
use Rattle.kernel_model.specs.Sound.{Always, unmarked_at}
use Rattle.kernel_model.specs.SoundWaiters.{Awaited, IsWaiter, awaited}
use Rattle.kernel_model.proofs.SoundSteps.{as_many}
use Rattle.kernel_model.proofs.SoundWaiters.{waiting}

there_below : (slots : List ThreadSlot) (slot : ℕ) (wanted : Awaited) → awaited (unmarked_at slots slot) ≡ Some wanted → slot < length slots
there_below [] slot wanted e = absurd cc
there_below (first ∷ slots) zero wanted e = omega arith
there_below (first ∷ slots) (suc slot) wanted e = let rest = there_below slots slot wanted e in omega arith

few_threads : (boot : Booted) → IsBooted boot → boot.threads ≤ 16
few_threads boot booted = subst (λ (n : ℕ). n ≤ 16) (sym (ap (λ (b : Booted). b.threads) booted.same)) booted.is_boot.few_threads

below_few : (slot count threads : ℕ) → slot < count → count ≡ threads → threads ≤ 16 → slot < 16
below_few slot count threads lt same few = omega arith

pub kernels_in_line : Always (λ boot kernel. IsLine kernel.tables.waiters)
kernels_in_line boot history kernel booted e =
    let line = waiting boot history kernel e in
    let many = as_many boot history kernel booted e in
    record {
      apart = line.apart;
      in_range = All-weaker (IsWaiter (unmarked_at kernel.slots)) (λ (waiter : Waiter). waiter.slot < 16) (λ waiter is.
          below_few waiter.slot (length kernel.slots) boot.threads (there_below kernel.slots waiter.slot (waiter.instance, Some waiter.uuid) is)
          many.slots (few_threads boot booted)) kernel.tables.waiters line.each;
    }
