-- A header behind one line more.
use Rattle.std.proofs.Common.{◌≡◌, ℕ, ◌⊎◌, inl, inr, List, [], ◌∷◌, ◌++◌, Option, Some, None, refl, sym, ap, subst, ◌∙◌}
use Rattle.live_player.specs.Header.{IsHeaderOf, boot_in}
use Rattle.live_player.specs.declared.header.Header.{Header}
use Rattle.notify_text.specs.Statement.{with_statement}
use Rattle.trace_text.specs.declared.statement.Statement.{Statement}
use Rattle.trace_text.specs.declared.statement.Statement.TheVariants as says
use Rattle.notify_text.specs.Rules.{NotifyFront}
use Rattle.ta_isa.specs.declared.boot.App.{App}
use Rattle.ta_isa.specs.declared.boot.Boot.{Boot}
use Rattle.trace_text.specs.Judging.{booted}
use Rattle.trace_text.specs.Limits.{with_app, with_key}
use Rattle.trace_text.specs.declared.item.Item.{Item}
use Rattle.trace_text.specs.declared.limits.Size.{Size}
use Rattle.trace_text.specs.declared.trace.Fill.{Fill}

booted_app : (size : Option Size) (apps : List App) (key : Option (List ℕ)) (app : App)
    → booted size (apps ++ app ∷ []) key ≡ with_app (booted size apps key) app
booted_app None apps key app = refl
booted_app (Some size) apps key app = refl

booted_key : (size : Option Size) (apps : List App) (old : Option (List ℕ)) (key : List ℕ)
    → booted size apps (Some key) ≡ with_key (booted size apps old) key
booted_key None apps old key = refl
booted_key (Some size) apps old key = refl

pub heads_boot : (lines : NotifyFront) (size : Size) (old new : Header) → IsHeaderOf old lines → new.size ≡ Some size
    → new.apps.items ≡ [] → new.key ≡ None → new.fills.items ≡ old.fills.items
    → IsHeaderOf new (with_statement lines (says.Boot size))
heads_boot lines size old new is sized none keyless fills = record {
  boot = ap (λ (s : Option Size). booted s new.apps.items new.key) sized
      ∙ ap (λ (apps : List App). booted (Some size) apps new.key) none
      ∙ ap (λ (key : Option (List ℕ)). booted (Some size) [] key) keyless;
  fills = fills ∙ is.fills;
}

pub heads_app : (lines : NotifyFront) (app : App) (old new : Header) → IsHeaderOf old lines → new.size ≡ old.size
    → new.apps.items ≡ old.apps.items ++ app ∷ [] → new.key ≡ old.key → new.fills.items ≡ old.fills.items
    → IsHeaderOf new (with_statement lines (says.App app))
heads_app lines app old new is sized apps keyed fills = record {
  boot = ap (λ (s : Option Size). booted s new.apps.items new.key) sized
      ∙ ap (λ (l : List App). booted old.size l new.key) apps
      ∙ ap (λ (key : Option (List ℕ)). booted old.size (old.apps.items ++ app ∷ []) key) keyed
      ∙ booted_app old.size old.apps.items old.key app
      ∙ ap (λ (b : Option Boot). with_app b app) is.boot;
  fills = fills ∙ is.fills;
}

pub heads_fill : (lines : NotifyFront) (fill : Fill) (old new : Header) → IsHeaderOf old lines → boot_in new ≡ boot_in old
    → new.fills.items ≡ old.fills.items ++ fill ∷ [] → IsHeaderOf new (with_statement lines (says.Fill fill))
heads_fill lines fill old new is same fills =
    record { boot = same ∙ is.boot; fills = fills ∙ ap (λ (l : List Fill). l ++ fill ∷ []) is.fills }

pub heads_key : (lines : NotifyFront) (key : List ℕ) (old new : Header) → IsHeaderOf old lines → new.size ≡ old.size
    → new.apps.items ≡ old.apps.items → new.key ≡ Some key → new.fills.items ≡ old.fills.items
    → IsHeaderOf new (with_statement lines (says.Key key))
heads_key lines key old new is sized apps keyed fills = record {
  boot = ap (λ (s : Option Size). booted s new.apps.items new.key) sized
      ∙ ap (λ (l : List App). booted old.size l new.key) apps
      ∙ ap (λ (k : Option (List ℕ)). booted old.size old.apps.items k) keyed
      ∙ booted_key old.size old.apps.items old.key key
      ∙ ap (λ (b : Option Boot). with_key b key) is.boot;
  fills = fills ∙ is.fills;
}

-- a line that is blank, an item and a signal add nothing
pub heads_none : (lines : NotifyFront) (said : Statement) (header : Header) → IsHeaderOf header lines
    → (said ≡ says.Blank) ⊎ (((i : Item) × (said ≡ says.Item i)) ⊎ ((value : ℕ) × (said ≡ says.Signal value)))
    → IsHeaderOf header (with_statement lines said)
heads_none lines said header is (inl blank) =
    subst (λ (s : Statement). IsHeaderOf header (with_statement lines s)) (sym blank) is
heads_none lines said header is (inr (inl (i, item))) =
    subst (λ (s : Statement). IsHeaderOf header (with_statement lines s)) (sym item)
    (record { boot = is.boot; fills = is.fills })
heads_none lines said header is (inr (inr (value, signal))) =
    subst (λ (s : Statement). IsHeaderOf header (with_statement lines s)) (sym signal)
    (record { boot = is.boot; fills = is.fills })
