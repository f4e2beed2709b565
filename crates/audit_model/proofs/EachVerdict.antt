-- Each journal of a boot that a core can have has a verdict.
use Rattle.std.proofs.Common.{◌≡◌, ◌+◌, ◌<◌, List, [], ◌∷◌, ◌++◌, length, take, append_assoc, length-append, refl, sym, subst, ap, ◌∙◌, inl, inr, arith}
use Rattle.std.proofs.lemmas.List.{append-nil, take_more}
use Rattle.std.proofs.Math.Seq.{get_or-append_seam, take-append_seam}
use Rattle.event_journal.specs.declared.event.Event.{Event}
use Rattle.kernel_model.specs.Application.{Booted}
use Rattle.audit_model.specs.Laws.{EachHasAVerdict, HasVerdict}
use Rattle.audit_model.specs.Verdicts.{CanBegin, IsFaultless}
use Rattle.audit_model.specs.declared.verdict.Verdict.TheVariants.{Legal, Illegal}
use Rattle.audit_model.proofs.Deciding.{Told, tell_next}
use Rattle.audit_model.proofs.Prefixes.{prefixes_can_be}

-- a faultless history begins with itself
pub faultless_can_begin : (boot : Booted) (events : List Event) → IsFaultless boot events → CanBegin boot events
faultless_can_begin boot events faultless = record { more = []; faultless = subst (IsFaultless boot) (sym (append-nil events)) faultless }

-- the first events with the next
taken_next : (before : List Event) (event : Event) (events : List Event) →
    length before < length (before ++ event ∷ events) → take (length before + 1) (before ++ event ∷ events) ≡ before ++ event ∷ []
taken_next before event events there =
    take_more (before ++ event ∷ events) (length before) event there
    ∙ ap (λ (e : Event). take (length before) (before ++ event ∷ events) ++ e ∷ []) (get_or-append_seam before event events event)
    ∙ ap (λ (es : List Event). es ++ event ∷ []) (take-append_seam before (event ∷ events))

-- by whether the next event can be
by_next : (boot : Booted) (before : List Event) (event : Event) (events : List Event) → IsFaultless boot before
    → Told (IsFaultless boot (before ++ event ∷ []))
    → (IsFaultless boot (before ++ event ∷ []) → HasVerdict boot ((before ++ event ∷ []) ++ events))
    → HasVerdict boot (before ++ event ∷ events)
by_next boot before event events had (inl next) onward = subst (HasVerdict boot) (append_assoc before (event ∷ []) events) (onward next)
by_next boot before event events had (inr not) onward =
    let long = length-append before (event ∷ events) in
    let there : length before < length (before ++ event ∷ events) = omega (arith, long) in
    record {
      verdict = Illegal (length before);
      is_verdict = record {
        there = there;
        before = subst (CanBegin boot) (sym (take-append_seam before (event ∷ events))) (faultless_can_begin boot before had);
        with_it = λ can. not (subst (IsFaultless boot) (taken_next before event events there)
            (prefixes_can_be boot (take (length before + 1) (before ++ event ∷ events)) can));
      };
    }

verdict_behind : (boot : Booted) (before events : List Event) → IsFaultless boot before → HasVerdict boot (before ++ events)
verdict_behind boot before [] had =
    record { verdict = Legal; is_verdict = faultless_can_begin boot (before ++ []) (subst (IsFaultless boot) (sym (append-nil before)) had) }
verdict_behind boot before (event ∷ events) had =
    by_next boot before event events had (tell_next boot before event had) (λ next. verdict_behind boot (before ++ event ∷ []) events next)

pub each_has_a_verdict : EachHasAVerdict
each_has_a_verdict boot events boots =
    verdict_behind boot [] events (record { legal = record { boots = boots; follows = refl }; steady = tt })
