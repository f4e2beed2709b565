-- What a faultless history begins with is faultless, so a journal has one verdict at most.
use Rattle.std.proofs.Common.{◌≡◌, ℕ, ◌+◌, ◌<◌, List, [], ◌∷◌, ◌++◌, take, drop, append_assoc, Option, Some, None, refl, sym, subst, ap, inl, inr, arith}
use Rattle.std.specs.Prelude.{IsSome}
use Rattle.std.specs.Option.{option_and_then}
use Rattle.std.proofs.lemmas.Bool.{cases_lt}
use Rattle.std.proofs.lemmas.List.{take-append-drop, take-take}
use Rattle.event_journal.specs.declared.event.Event.{Event}
use Rattle.kernel_model.specs.Application.{Booted}
use Rattle.kernel_model.specs.History.{after_events}
use Rattle.kernel_model.specs.Kernel.{Kernel, first_kernel}
use Rattle.kernel_model.proofs.Past.{after_events-append}
use Rattle.audit_model.specs.declared.verdict.Verdict.TheVariants.{Legal, Illegal}
use Rattle.audit_model.specs.Laws.{OneVerdict, PrefixesCanBe}
use Rattle.audit_model.specs.Verdicts.{CanBegin, IsFaultless, IsIllegalAt, IsSteady}

some_before : (f : Kernel → Option Kernel) (o : Option Kernel) → IsSome (option_and_then f o) → IsSome o
some_before f None some = absurd cc
some_before f (Some kernel) some = refl

steady_front : (events more : List Event) → IsSteady (events ++ more) → IsSteady events
steady_front [] more all = tt
steady_front (event ∷ events) more (here, all) = (here, steady_front events more all)

pub prefixes_can_be : PrefixesCanBe
prefixes_can_be boot events can =
    let whole = can.faultless in
    record {
      legal = record {
        boots = whole.legal.boots;
        follows = some_before (λ kernel. after_events boot kernel can.more) (after_events boot (first_kernel boot) events) (subst IsSome (after_events-append boot (first_kernel boot) events can.more) whole.legal.follows);
      };
      steady = steady_front events can.more whole.steady;
    }

-- what can begin, without its last events
front_can_begin : (boot : Booted) (front back : List Event) → CanBegin boot (front ++ back) → CanBegin boot front
front_can_begin boot front back can = record { more = back ++ can.more; faultless = subst (λ (events : List Event). IsFaultless boot events) (append_assoc front back can.more) can.faultless }

pub taken_can_begin : (boot : Booted) (events : List Event) (count : ℕ) → CanBegin boot events → CanBegin boot (take count events)
taken_can_begin boot events count can = front_can_begin boot (take count events) (drop count events) (subst (λ (es : List Event). CanBegin boot es) (sym (take-append-drop count events)) can)

-- the first event that can't be is no later than any other that would be
not_before : (boot : Booted) (events : List Event) (one other : ℕ) → IsIllegalAt boot events one → IsIllegalAt boot events other → one < other → ⊥
not_before boot events one other first then earlier =
    first.with_it (subst (λ (es : List Event). CanBegin boot es) (take-take (one + 1) other events (omega arith)) (taken_can_begin boot (take other events) (one + 1) then.before))

pub same_place : (boot : Booted) (events : List Event) (one other : ℕ) → IsIllegalAt boot events one → IsIllegalAt boot events other → one ≡ other
same_place boot events one other first then =
    elim (cases_lt one other) [
      | inl lt ↦ absurd (not_before boot events one other first then lt)
      | inr le ↦
          elim (cases_lt other one) [
            | inl gt ↦ absurd (not_before boot events other one then first gt)
            | inr ge ↦ omega arith
          ]
    ]

-- a journal that can be has no event that can't
pub cannot_fail : (boot : Booted) (events : List Event) (at : ℕ) → CanBegin boot events → IsIllegalAt boot events at → ⊥
cannot_fail boot events at can fails = fails.with_it (taken_can_begin boot events (at + 1) can)

pub one_verdict : OneVerdict
one_verdict boot events Legal Legal can may = refl
one_verdict boot events Legal (Illegal at) can fails = absurd (cannot_fail boot events at can fails)
one_verdict boot events (Illegal at) Legal fails can = absurd (cannot_fail boot events at can fails)
one_verdict boot events (Illegal one) (Illegal other) first then = ap (λ (n : ℕ). Illegal n) (same_place boot events one other first then)
