-- The scene of a trace behind what is added to it.
use Rattle.std.proofs.Common.{◌≡◌, Bool, false, List, [], ◌∷◌, ◌++◌, refl, sym, ap, ◌∙◌}
use Rattle.trace_text.specs.declared.item.Item.{Item}
use Rattle.trace_text.specs.Limits.{Front, SceneState, has_no_item, inside_after, moved, scene_of, with_item}
use Rattle.trace_text.proofs.Inside.{inside_push}

some_item : (items : List Item) (i : Item) → false ≡ has_no_item (items ++ i ∷ [])
some_item [] i = refl
some_item (j ∷ items) i = refl

pub scene_with_item : (front : Front) (i : Item) → record (scene_of front) { is_open = false; inside = moved (inside_after front.items) i } ≡ scene_of (with_item front i)
scene_with_item front i =
    ap (λ (inside : List Bool). record (scene_of front) { is_open = false; inside = inside }) (sym (inside_push front.items i))
    ∙ ap (λ (is_open : Bool). record (scene_of front) { is_open = is_open; inside = inside_after (front.items ++ i ∷ []) }) (some_item front.items i)

-- a builder's scene behind an item
pub tracked_push : (front : Front) (i : Item) (old now : SceneState) (inside : List Bool) (items : List Item) → old ≡ scene_of front → inside ≡ moved old.inside i → now ≡ record old { is_open = false; inside = inside } → items ≡ front.items ++ i ∷ []
    → now ≡ scene_of (record front { items = items })
tracked_push front i old now inside items is inside_is now_is items_are =
    now_is
    ∙ ap (λ (l : List Bool). record old { is_open = false; inside = l }) inside_is
    ∙ ap (λ (s : SceneState). record s { is_open = false; inside = moved s.inside i }) is
    ∙ scene_with_item front i
    ∙ ap (λ (l : List Item). scene_of (record front { items = l })) (sym items_are)
