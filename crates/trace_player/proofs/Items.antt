-- An item of a play of whatever kind: what comes up to its exit, and then that.
use Rattle.std.proofs.Common.{◌≡◌, ℕ, List, ◌++◌, Option, Some, None, refl, sym, ap, subst, ◌∙◌}
use Rattle.std.specs.Prelude.{Result, Ok, Err, IfErr}
use Rattle.std.specs.Option.{option_and_then, option_map, option_map_or}
use Rattle.core_machine.specs.Panics.{panic_of}
use Rattle.kernel_model.specs.Application.{Booted}
use Rattle.play_model.specs.Line.{Line}
use Rattle.play_model.specs.Play.{Play}
use Rattle.trace_text.specs.declared.item.Item.{Item}
use Rattle.trace_player.specs.Items.{Begins, HasExit, HasNoExit, after_item_of, exit_by, goes_out_by, panic_at_exit, up_to_exit}
use Rattle.trace_player.specs.Kinds.{IsKind, Kind, play_in}
use Rattle.trace_player.specs.Playing.{Plays, Prints, text_of_lines}
use Rattle.trace_player.specs.Position.{Position, StandsAt}
use Rattle.trace_player.specs.declared.exit.Exit.{Exit}
use Rattle.trace_player.specs.declared.player.Player.{Player}
use Rattle.word_parts.specs.declared.stop.Stop.{Stop}
use Rattle.word_parts.specs.declared.stop.Stop.TheVariants.{Full, Failed, Memory}

-- nothing behind it
pub then-nothing : {P : Type 0} (kind : Kind P) (o : Option P) → option_and_then (exit_by kind None) o ≡ o
then-nothing kind None = refl
then-nothing kind (Some p) = refl

-- an exit behind a play that goes on
pub then-exit : {P : Type 0} (kind : Kind P) (cpu : ℕ) (p : P) → (play_in kind p).refused ≡ None
    → exit_by kind (Some cpu) p ≡ kind.goes_out cpu p
then-exit kind cpu p going = ap (λ (o : Option ℕ). option_map_or (λ more. Some p) o (kind.goes_out cpu p)) going

-- and none behind one that a refused entry has ended
then-ended : {P : Type 0} (kind : Kind P) (out : Option ℕ) (p : P) (more : ℕ) → (play_in kind p).refused ≡ Some more
    → exit_by kind out p ≡ Some p
then-ended kind None p more is = refl
then-ended kind (Some cpu) p more is = ap (λ (o : Option ℕ). option_map_or (λ more. Some p) o (kind.goes_out cpu p)) is

-- ---- the panic in which its call has ended

module _ (boot : Booted) (at : Position) (i : Item) where
  -- none without an exit
  pub panic-alone : (player : Player) (old new : List ℕ) → HasNoExit boot at i player old new → None ≡ panic_at_exit boot at i
  panic-alone player old new alone =
      ap (option_and_then (λ (cpu : ℕ). option_and_then (λ (inside : Play). panic_of inside.kernel cpu) (up_to_exit boot at i)))
      (sym alone.no_exit)

  -- that of the exit
  pub panic-exit : (exit : Exit) (player : Player) (old new : List ℕ) → HasExit boot at i exit player old new
      → exit.panic ≡ panic_at_exit boot at i
  panic-exit exit player old new out =
      out.panic
      ∙ ap (option_and_then (λ (inside : Play). panic_of inside.kernel exit.answer.cpu)) (sym out.comes)
      ∙ ap (option_and_then (λ (cpu : ℕ). option_and_then (λ (inside : Play). panic_of inside.kernel cpu) (up_to_exit boot at i)))
      (sym out.cpu)

-- ---- what follows

module _ {P : Type 0} (kind : Kind P) (are : IsKind kind) (HasCome : P → Type 0) (before : P) (i : Item) where
  -- by what comes up to its exit
  item-from : (next : Play) → up_to_exit kind.boot (kind.position before) i ≡ Some next
      → after_item_of kind i before ≡ exit_by kind (goes_out_by i) (kind.over before next)
  item-from next e = ap (λ (o : Option Play). option_and_then (exit_by kind (goes_out_by i)) (option_map (kind.over before) o)) e

  -- it has none
  pub plays-alone : (player : Player) (old new : List ℕ) → (alone : HasNoExit kind.boot (kind.position before) i player old new)
      → HasCome (kind.over before alone.next) → Plays kind HasCome before (after_item_of kind i before) (Ok tt) old new
  plays-alone player old new alone come = (
    kind.over before alone.next,
    item-from alone.next alone.comes ∙ ap (λ (o : Option ℕ). exit_by kind o (kind.over before alone.next)) alone.no_exit,
    come,
    subst (λ (p : Play). Prints (play_in kind before) p old new) (sym (are.over before alone.next)) alone.prints,
  )

  -- its exit follows
  pub plays-exit : (exit : Exit) (result : Result (Unit {0}) Stop) (player : Player) (old middle new : List ℕ)
      → (out : HasExit kind.boot (kind.position before) i exit player old middle)
      → Plays kind HasCome (kind.over before out.between) (kind.goes_out exit.answer.cpu (kind.over before out.between)) result middle new
      → IfErr result (λ stop. stop ≡ Memory) → Plays kind HasCome before (after_item_of kind i before) result old new
  plays-exit exit (Ok done) player old middle new out follows memory =
      let between = kind.over before out.between in
      let same = are.over before out.between in
      let prints = follows.3 in (
        follows.0,
        item-from out.between out.comes ∙ ap (λ (o : Option ℕ). exit_by kind o between) out.cpu
            ∙ then-exit kind exit.answer.cpu between (ap (λ (p : Play). p.refused) same ∙ out.goes_on) ∙ follows.1,
        follows.2,
        (
          prints.0,
          prints.1 ∙ ap (λ (ls : List Line). ls ++ prints.0) (ap (λ (p : Play). p.lines) same ∙ out.lines),
          prints.2 ∙ ap (λ (t : List ℕ). t ++ text_of_lines prints.0) out.prints,
        ),
      )
  plays-exit exit (Err Full) player old middle new out follows memory = absurd cc
  plays-exit exit (Err Failed) player old middle new out follows memory = absurd cc
  plays-exit exit (Err Memory) player old middle new out follows memory = tt

  -- it is not begun
  pub plays-stop : (stop : Stop) (player : Player) (old new : List ℕ)
      → Begins kind.boot (kind.position before) i (Err stop) player old new
      → (StandsAt kind.boot (kind.position before) player → HasCome before)
      → Plays kind HasCome before (after_item_of kind i before) (Err stop) old new
  plays-stop Full player old new begun come =
      let ended : Play = record (play_in kind before) { refused = Some begun.more } in (
        begun.more,
        item-from ended begun.comes
            ∙ then-ended kind (goes_out_by i) (kind.over before ended) begun.more (ap (λ (p : Play). p.refused) (are.over before ended)),
        begun.prints,
        come begun.stands,
      )
  plays-stop Failed player old new begun come = absurd begun
  plays-stop Memory player old new begun come = tt
