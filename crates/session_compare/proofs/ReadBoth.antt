-- Two journals that are read event by event.
use Rattle.std.proofs.Common.{◌≡◌, ℕ, ◌+◌, ◌<◌, ◌≤◌, ◌^◌, List, [], ◌∷◌, ◌++◌, take, drop, length, get_or, Option, refl, ap, sym, subst, ◌∙◌, arith}
use Rattle.std.proofs.lemmas.List.{append-nil, take-append-drop, take_all, take_more}
use Rattle.std.proofs.lemmas.List.Sums.{sum_by-append}
use Rattle.audit_model.proofs.Prefixes.{prefixes_can_be}
use Rattle.audit_model.specs.Verdicts.{CanBegin, IsFaultless, IsIllegalAt}
use Rattle.compare_model.specs.Comparing.{Shown}
use Rattle.event_journal.specs.Event.{copied_by}
use Rattle.event_journal.specs.Journal.{copied_bytes}
use Rattle.event_journal.specs.declared.event.Event.{Event}
use Rattle.kernel_model.specs.Application.{Booted}
use Rattle.kernel_state.specs.declared.setup.Application.{Application}
use Rattle.session_compare.specs.Logs.{IsLoggedAs}
use Rattle.session_compare.specs.Reading.{IsReadUpTo, SoFar}

module _ {W E R : Type 0} (begun : SoFar W E R) where
  -- ---- a journal of which so many events were read

  module _ (events : List Event) (place : ℕ) (now : SoFar W E R) (read : IsReadUpTo begun (take place events) now) where
    read_faultless : IsFaultless begun.boot (take place events)
    read_faultless =
        subst (λ (b : Booted). IsFaultless b (take place events)) read.boot (subst (IsFaultless now.boot) read.events read.faultless)

    can_begin : CanBegin begun.boot (take place events)
    can_begin = record { more = []; faultless = subst (IsFaultless begun.boot) (sym (append-nil (take place events))) read_faultless }

    -- all were read
    pub all_read : length events ≤ place → IsReadUpTo begun events now
    all_read all = subst (λ (h : List Event). IsReadUpTo begun h now) (take_all place events all) read

    -- and the next one
    module _ (event : Event) (below : place < length events) (is : event ≡ get_or events place event) where
      read_more : now.events ++ event ∷ [] ≡ take (place + 1) events
      read_more = ap (λ (h : List Event). h ++ event ∷ []) read.events
          ∙ sym (take_more events place event below ∙ ap (λ (e : Event). take place events ++ e ∷ []) (sym is))

      pub few_with_next : copied_bytes events ≤ 2 ^ 28 → copied_bytes (now.events ++ event ∷ []) ≤ 2 ^ 28
      few_with_next few =
          let next = ap copied_bytes read_more in
          let whole = sum_by-append copied_by (take (place + 1) events) (drop (place + 1) events) in
          let parts = ap copied_bytes (take-append-drop (place + 1) events) in
          omega (arith, few, next, whole, parts)

      -- it can't be
      pub illegal_here : (IsFaultless now.boot (now.events ++ event ∷ []) → ⊥) → IsIllegalAt begun.boot events place
      illegal_here cannot = record {
        there = below;
        before = can_begin;
        with_it = λ can. cannot (subst (λ (b : Booted). IsFaultless b (now.events ++ event ∷ [])) (sym read.boot)
            (subst (IsFaultless begun.boot) (sym read_more) (prefixes_can_be begun.boot (take (place + 1) events) can)));
      }

      -- it was read
      pub read_on : (new : SoFar W E R) → IsReadUpTo now (now.events ++ event ∷ []) new → IsReadUpTo begun (take (place + 1) events) new
      read_on new more = record {
        boot = more.boot ∙ read.boot;
        whose = more.whose ∙ read.whose;
        events = more.events ∙ read_more;
        fits = more.fits;
        faultless = more.faultless;
      }

  -- ---- one that is read on from there

  module _ (history : List Event) (now : SoFar W E R) (read : IsReadUpTo begun history now) where
    pub from_here : IsReadUpTo now history now
    from_here = record { boot = refl; whose = refl; events = read.events; fits = read.fits; faultless = read.faultless }

    pub read_through : (more : List Event) (new : SoFar W E R) → IsReadUpTo now more new → IsReadUpTo begun more new
    read_through more new further = record {
      boot = further.boot ∙ read.boot;
      whose = further.whose ∙ read.whose;
      events = further.events;
      fits = further.fits;
      faultless = further.faultless;
    }

-- a journal that was read whole
pub whole_can_begin : {W E R : Type 0} (boot : Booted) (events done : List Event) (begun now : SoFar W E R) → begun.boot ≡ boot
    → done ≡ events → IsReadUpTo begun done now → CanBegin boot events
whole_can_begin boot events done begun now is_boot are read = record {
  more = [];
  faultless = subst (IsFaultless boot) (sym (append-nil events))
      (subst (λ (b : Booted). IsFaultless b events) (read.boot ∙ is_boot) (subst (IsFaultless now.boot) (read.events ∙ are) read.faultless));
}

-- what is shown of whom it is, by what was read of a journal, is what the journal shows
pub shown_whole : {W E R : Type 0} (shown : Booted → List Event → W → Shown E R) (boot : Booted) (events done : List Event)
    (begun now : SoFar W E R) (app : Option Application) → begun.boot ≡ boot → done ≡ events → IsReadUpTo begun done now
    → IsLoggedAs (shown now.boot now.events now.whose) app now.log → IsLoggedAs (shown boot events begun.whose) app now.log
shown_whole {W} shown boot events done begun now app is_boot are read logged =
    subst (λ (b : Booted). IsLoggedAs (shown b events begun.whose) app now.log) (read.boot ∙ is_boot)
    (subst (λ (h : List Event). IsLoggedAs (shown now.boot h begun.whose) app now.log) (read.events ∙ are)
    (subst (λ (w : W). IsLoggedAs (shown now.boot now.events w) app now.log) read.whose logged))
