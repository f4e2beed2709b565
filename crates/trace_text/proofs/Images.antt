-- Bytes that are an image, and bytes that are none.
use Rattle.std.proofs.Common.{◌≡◌, ℕ, true, false, List, [], ◌∷◌, Option, Some, None, is_none, Result, Ok, Err, refl, ⊎_elim}
use Rattle.ta_isa.specs.declared.image.Image as image
use Rattle.ta_isa.specs.declared.image_fault.ImageFault.{ImageFault}
use Rattle.ta_isa.specs.declared.image_fault.ImageFault.TheVariants.{BadHeader, TooLarge, BadEntry, BadOp, Memory}
use Rattle.ta_isa.specs.Reading.{answer, decoded, fault_of, image_of, IsUnlessMemory}
use Rattle.trace_text.specs.declared.fault.BadKind.TheVariants.{Image}
use Rattle.trace_text.specs.Judging.{Judged, of_image}
use Rattle.trace_text.specs.Limits.{first_broken, is_image}

err_is : {A : Type 0} (x y : Result A ImageFault) (e f : ImageFault) → x ≡ Err e → y ≡ Err f → x ≡ y → e ≡ f
err_is x y e f p q h = cc

some_fault : (o : Option ImageFault) (image : image.Image) (e : ImageFault) → Err e ≡ answer o image → is_none o ≡ false
some_fault None image e h = absurd cc
some_fault (Some fault) image e h = refl

not_image : (bytes : List ℕ) (e : ImageFault) → IsUnlessMemory (Err e) (decoded bytes) → (e ≡ Memory → ⊥) → is_image bytes ≡ false
unfolding is_image
not_image bytes e exact other =
    ⊎_elim (λ h. some_fault (fault_of bytes) (image_of bytes) e h) (λ h. let same : e ≡ Memory = err_is (Err e) (Err Memory) e Memory refl refl h in absurd (other same)) exact

broken : (bytes : List ℕ) → is_image bytes ≡ false → first_broken ((Image, is_image bytes) ∷ []) ≡ Some Image
broken bytes bad = rw bad refl

pub image_fault : (bytes : List ℕ) (e : ImageFault) → IsUnlessMemory (Err e) (decoded bytes) → Judged {X = image.Image} (λ i. i) (Err (of_image e)) ((Image, is_image bytes) ∷ []) (image_of bytes)
image_fault bytes (BadHeader n) exact = broken bytes (not_image bytes (BadHeader n) exact (λ h. absurd cc))
image_fault bytes TooLarge exact = broken bytes (not_image bytes TooLarge exact (λ h. absurd cc))
image_fault bytes (BadEntry n) exact = broken bytes (not_image bytes (BadEntry n) exact (λ h. absurd cc))
image_fault bytes (BadOp n) exact = broken bytes (not_image bytes (BadOp n) exact (λ h. absurd cc))
image_fault bytes Memory exact = tt

some_image : (o : Option ImageFault) (wanted found : image.Image) → Ok found ≡ answer o wanted → (is_none o ≡ true) × (found ≡ wanted)
some_image None wanted found h = (refl, cc)
some_image (Some fault) wanted found h = absurd cc

an_image : (bytes : List ℕ) (found : image.Image) → IsUnlessMemory (Ok found) (decoded bytes) → (is_image bytes ≡ true) × (found ≡ image_of bytes)
unfolding is_image
an_image bytes found exact = ⊎_elim (λ h. some_image (fault_of bytes) (image_of bytes) found h) (λ h. absurd cc) exact

pub image_read : (bytes : List ℕ) (found : image.Image) → IsUnlessMemory (Ok found) (decoded bytes) → Judged {X = image.Image} (λ i. i) (Ok found) ((Image, is_image bytes) ∷ []) (image_of bytes)
image_read bytes found exact = let is = an_image bytes found exact in (rw is.0 refl, is.1)
