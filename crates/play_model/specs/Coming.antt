-- Which items can come to a play: what an item of a sound trace finds, where all before it were taken. This project's
-- own.
use Rattle.std.specs.Prelude.{◌≡◌, ℕ, ◌≤◌, List, ◌∷◌, ◌++◌, length, Some, None, All, IfSome, IsSome, slice_get}
use Rattle.kernel_model.specs.Application.{Booted, IsBooted, Native, booted}
use Rattle.kernel_model.specs.History.{IsLegal, kernel_after}
use Rattle.kernel_model.specs.Kernel.{Errand, Inside, Kernel, Outside}
use Rattle.ta_isa.specs.declared.boot.Boot.{Boot}
use Rattle.trace_text.specs.Sound.{IsSound, IsSoundItem}
use Rattle.trace_text.specs.declared.item.Item.{Item}
use Rattle.trace_text.specs.declared.item.Item.TheVariants as item
use Rattle.trace_text.specs.declared.trace.Trace.{Trace}
use Rattle.play_model.specs.Play.{Play, after_item, after_items, first_play, played_over}
use Rattle.play_model.specs.Text.{text_of}

-- the processor is inside
pub record IsInside (kernel : Kernel) (cpu : ℕ) : Type 0 where
  pub regs : List ℕ
  pub steps : ℕ
  pub errand : Errand
  pub inside : slice_get kernel.processors cpu ≡ Some (Inside regs steps errand)

-- the item's processor is outside where it is to come in, and inside where it is to go out
abbrev pub IsReadyFor : Kernel → Item → Type 0
IsReadyFor kernel (item.Smc cpu steps regs) = slice_get kernel.processors cpu ≡ Some Outside
IsReadyFor kernel (item.Enter cpu steps regs) = slice_get kernel.processors cpu ≡ Some Outside
IsReadyFor kernel (item.Leave cpu) = IsInside kernel cpu
IsReadyFor kernel (item.Write cpu addr bytes) = Unit {0}
IsReadyFor kernel (item.Show cpu addr len) = Unit {0}

-- it has each byte of RAM
abbrev pub IsWhole : List ℕ → Type 0
IsWhole lane = 0x400000 ≤ length lane

-- RAM for each of so many processors
pub record AreLanes (cpus : ℕ) (lanes : List (List ℕ)) : Type 0 where
  pub count : length lanes ≡ cpus
  pub whole : All IsWhole lanes

-- the item can come: its processor is ready for it, and what it says is within its limits
pub record CanCome (boot : Booted) (i : Item) (play : Play) : Type 0 where
  pub legal : IsLegal boot play.history
  pub kernel : kernel_after boot play.history ≡ Some play.kernel
  pub ready : IsReadyFor play.kernel i
  pub sound : IsSoundItem boot.cpus i
  pub lanes : AreLanes boot.cpus play.lanes

-- behind the first items of a sound trace, none of which was refused, the next one can come
abbrev pub ItemsCanCome : Type 0
ItemsCanCome =
    (ram : List ℕ) (natives : List Native) (uuids : List (List ℕ)) (boot : Boot) (trace : Trace)
    (taken rest : List Item) (i : Item) (play : Play) →
    IsWhole ram → IsBooted (booted boot natives) → IsSound uuids trace → trace.boot ≡ Some boot →
    trace.items ≡ taken ++ i ∷ rest →
    after_items (booted boot natives) taken (first_play ram (booted boot natives) trace.fills) ≡ Some play →
    play.refused ≡ None → CanCome (booted boot natives) i play

-- what can come comes, so that each sound trace has a play, whatever RAM holds at first, and a text
pub record TracesHavePlays : Type 0 where
  pub comes : (boot : Booted) (i : Item) (play : Play) → CanCome boot i play → IsSome (after_item boot i play)
  pub played : (ram : List ℕ) (natives : List Native) (uuids : List (List ℕ)) (boot : Boot) (trace : Trace) →
      IsWhole ram → IsBooted (booted boot natives) → IsSound uuids trace → trace.boot ≡ Some boot →
      IsSome (played_over ram natives boot trace)
  pub told : (natives : List Native) (uuids : List (List ℕ)) (trace : Trace) →
      IfSome trace.boot (λ boot. IsBooted (booted boot natives)) → IsSound uuids trace →
      IsSome (text_of natives trace)
