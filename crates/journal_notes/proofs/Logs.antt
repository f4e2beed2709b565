-- A log with one event more.
use Rattle.std.proofs.Common.{◌≡◌, List, [], ◌∷◌, ◌++◌, Option, Some, None, refl, ap, ◌∙◌}
use Rattle.std.proofs.lemmas.List.Elements.{filter_map-append}
use Rattle.std.specs.Option.{option_to_list}
use Rattle.journal_notes.specs.Logs.{replies_in}

module _ {E R : Type 0} where
  -- there is its reply more, if it has one
  pub replies_more : (log : List (E × Option R)) (logged : E × Option R) → replies_in (log ++ logged ∷ []) ≡ replies_in log ++ option_to_list logged.1
  replies_more log logged = filter_map-append (λ (one : E × Option R). one.1) log (logged ∷ [])
      ∙ ap (λ (rest : List R). replies_in log ++ rest) (its logged.0 logged.1)
    where
      its : (event : E) (told : Option R) → replies_in ((event, told) ∷ []) ≡ option_to_list told
      its event None = refl
      its event (Some reply) = refl
