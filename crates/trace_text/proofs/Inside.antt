-- Which processors are inside after one more item.
use Rattle.std.proofs.Common.{◌≡◌, List, [], ◌∷◌, ◌++◌, refl}
use Rattle.std.specs.List.{fold}
use Rattle.trace_text.specs.declared.item.Item.{Item}
use Rattle.trace_text.specs.Limits.{inside_after, moved, outside}

fold_push : {A B : Type 0} (f : B → A → B) (b : B) (xs : List A) (x : A) → fold f b (xs ++ x ∷ []) ≡ f (fold f b xs) x
fold_push f b [] x = refl
fold_push f b (y ∷ xs) x = fold_push f (f b y) xs x

pub inside_push : (items : List Item) (i : Item) → inside_after (items ++ i ∷ []) ≡ moved (inside_after items) i
unfolding inside_after
inside_push items i = fold_push moved outside items i
