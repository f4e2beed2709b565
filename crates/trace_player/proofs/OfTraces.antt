-- The play of a trace, in which the kernel's answer is told.
use Rattle.std.proofs.Common.{◌≡◌, ℕ, List, [], ◌∷◌, ◌++◌, Option, Some, None, refl, sym, ap, subst, ◌∙◌}
use Rattle.std.specs.Prelude.{◌==◌, if◌then◌else◌, OnOk, Result, Ok, Err, IfErr}
use Rattle.std.specs.Option.{option_and_then, option_map}
use Rattle.core_machine.specs.Serving.{line_of}
use Rattle.kernel_model.specs.Application.{Booted}
use Rattle.ns_ram.specs.Lane.{bytes_at}
use Rattle.play_model.specs.Line.{Mem, ret_line}
use Rattle.play_model.specs.Play.{Play, after_item, enters, lane_of, last_answer, leaves, unless_refused, visit_of, with_line, with_writes}
use Rattle.trace_text.specs.declared.item.Item.{Item}
use Rattle.trace_text.specs.declared.item.Item.TheVariants as item
use Rattle.trace_player.specs.Items.{Begins, HasExit, HasNoExit, after_item_of, up_to_exit}
use Rattle.trace_player.specs.Kinds.{IsKind, of_trace}
use Rattle.trace_player.specs.Playing.{Follows, IsPlayedTo}
use Rattle.trace_player.specs.Position.{StandsAt, position_of, told_too}
use Rattle.trace_player.specs.declared.exit.Exit.{Exit}
use Rattle.trace_player.specs.declared.player.Player.{Player}
use Rattle.word_parts.specs.declared.stop.Stop.{Stop}
use Rattle.word_parts.specs.declared.stop.Stop.TheVariants.{Full, Failed, Memory}
use Rattle.trace_player.proofs.Answers.{enters-last, leaves-last, same-told}
use Rattle.trace_player.proofs.Items.{plays-alone, plays-exit, plays-stop, then-exit, then-nothing}
use Rattle.trace_player.proofs.Played.{one-line}

is-kind : (boot : Booted) → IsKind (of_trace boot)
is-kind boot = record { over = λ before next. refl }

same-play : (o : Option Play) → option_map (λ (next : Play). next) o ≡ o
same-play None = refl
same-play (Some play) = refl

module _ (boot : Booted) (play : Play) where
  -- its items are those of the kind
  same-item : (i : Item) → play.refused ≡ None → after_item_of (of_trace boot) i play ≡ after_item boot i play
  same-item (item.Smc cpu steps regs) going =
      ap (option_and_then (unless_refused (leaves boot cpu))) (same-play (enters boot play (visit_of play.history cpu steps regs)))
  same-item (item.Enter cpu steps regs) going =
      let o = enters boot play (visit_of play.history cpu steps regs) in
      then-nothing (of_trace boot) (option_map (λ (next : Play). next) o) ∙ same-play o
  same-item (item.Leave cpu) going = then-exit (of_trace boot) cpu play going
  same-item (item.Write cpu addr bytes) going = refl
  same-item (item.Show cpu addr len) going = refl

  follows-so : (i : Item) (result : Result (Unit {0}) Stop) (player : Player) (old new : List ℕ) → play.refused ≡ None
      → Follows boot play (after_item_of (of_trace boot) i play) result player old new
      → Follows boot play (after_item boot i play) result player old new
  follows-so i result player old new going follows =
      subst (λ (o : Option Play). Follows boot play o result player old new) (same-item i going) follows

  -- ---- what was told

  -- up to its exit an item tells nothing
  up-to-told : (i : Item) (next : Play) (cpu : ℕ) → up_to_exit boot (position_of play) i ≡ Some next → next.refused ≡ None
      → last_answer play.history cpu ≡ last_answer next.history cpu
  up-to-told (item.Smc own steps regs) next cpu e going =
      enters-last boot (visit_of play.history own steps regs) play next cpu e going
  up-to-told (item.Enter own steps regs) next cpu e going =
      enters-last boot (visit_of play.history own steps regs) play next cpu e going
  up-to-told (item.Leave own) next cpu e going =
      let here : play ≡ next = cc in ap (λ (p : Play). last_answer p.history cpu) here
  up-to-told (item.Write own addr bytes) next cpu e going =
      let here : with_writes own (record { addr = addr; bytes = bytes } ∷ []) play ≡ next = cc in
      ap (λ (p : Play). last_answer p.history cpu) here
  up-to-told (item.Show own addr len) next cpu e going =
      let here : with_line (Mem own addr (bytes_at (lane_of play own) addr len)) play ≡ next = cc in
      ap (λ (p : Play). last_answer p.history cpu) here

  -- the processor that went out was told the kernel's answer
  told-so : (i : Item) (exit : Exit) (between player : Player) (old middle : List ℕ)
      → (out : HasExit boot (position_of play) i exit between old middle)
      → StandsAt boot (told_too exit.answer.cpu exit.answer.regs.a (record { play = out.goes.next; told = last_answer play.history })) player
      → IsPlayedTo boot out.goes.next player
  told-so i exit between player old middle out stands =
      let told = exit.answer in
      same-told boot out.goes.next
      (λ other. if told.cpu == other then told.regs.a else last_answer play.history other)
      (last_answer out.goes.next.history) player
      (λ cpu below.
      ap (λ (a : List ℕ). if told.cpu == cpu then told.regs.a else a) (up-to-told i out.between cpu out.comes out.goes_on)
      ∙ leaves-last boot told.cpu out.between out.goes.next told.regs cpu out.goes.leaves out.goes.line)
      stands

  -- ---- what follows

  pub alone-follows : (i : Item) (player : Player) (old new : List ℕ) → play.refused ≡ None
      → HasNoExit boot (position_of play) i player old new → Follows boot play (after_item boot i play) (Ok tt) player old new
  alone-follows i player old new going alone =
      follows-so i (Ok tt) player old new going
      (plays-alone (of_trace boot) (is-kind boot) (λ p. IsPlayedTo boot p player) play i player old new alone
      (same-told boot alone.next (last_answer play.history) (last_answer alone.next.history) player
      (λ cpu below. up-to-told i alone.next cpu alone.comes alone.stands.machine.goes_on) alone.stands))

  exit-told : (i : Item) (exit : Exit) (result : Result (Unit {0}) Stop) (between player : Player) (old middle new : List ℕ)
      → (out : HasExit boot (position_of play) i exit between old middle) → IsPlayedTo boot out.goes.next player
      → OnOk result (new ≡ middle ++ ret_line exit.answer.cpu exit.answer.regs.a) → IfErr result (λ stop. stop ≡ Memory)
      → Follows boot out.between (leaves boot exit.answer.cpu out.between) result player middle new
  exit-told i exit (Ok done) between player old middle new out stands put memory = (
    out.goes.next,
    out.goes.leaves,
    stands,
    (line_of exit.answer ∷ [], out.goes.line, put ∙ ap (λ (t : List ℕ). middle ++ t) (sym (one-line (line_of exit.answer)))),
  )
  exit-told i exit (Err Full) between player old middle new out stands put memory = absurd cc
  exit-told i exit (Err Failed) between player old middle new out stands put memory = absurd cc
  exit-told i exit (Err Memory) between player old middle new out stands put memory = tt

  pub exit-follows : (i : Item) (exit : Exit) (result : Result (Unit {0}) Stop) (between player : Player)
      (old middle new : List ℕ) → play.refused ≡ None → (out : HasExit boot (position_of play) i exit between old middle)
      → StandsAt boot (told_too exit.answer.cpu exit.answer.regs.a (record { play = out.goes.next; told = last_answer play.history })) player
      → OnOk result (new ≡ middle ++ ret_line exit.answer.cpu exit.answer.regs.a) → IfErr result (λ stop. stop ≡ Memory)
      → Follows boot play (after_item boot i play) result player old new
  exit-follows i exit result between player old middle new going out stands put memory =
      follows-so i result player old new going
      (plays-exit (of_trace boot) (is-kind boot) (λ p. IsPlayedTo boot p player) play i exit result between old middle new out
      (exit-told i exit result between player old middle new out (told-so i exit between player old middle out stands) put memory)
      memory)

  pub stop-follows : (i : Item) (stop : Stop) (player : Player) (old new : List ℕ) → play.refused ≡ None
      → Begins boot (position_of play) i (Err stop) player old new
      → Follows boot play (after_item boot i play) (Err stop) player old new
  stop-follows i stop player old new going begun =
      follows-so i (Err stop) player old new going
      (plays-stop (of_trace boot) (is-kind boot) (λ p. IsPlayedTo boot p player) play i stop player old new begun (λ stands. stands))

-- an item whose entry is refused leaves the player where it was
pub stays : (boot : Booted) (play : Play) (after : Option Play) (result : Result (Unit {0}) Stop) (player : Player)
    (old new : List ℕ) → result ≡ Err Full → Follows boot play after result player old new → IsPlayedTo boot play player
stays boot play after (Ok done) player old new e follows = absurd cc
stays boot play after (Err Full) player old new e follows = follows.3
stays boot play after (Err Failed) player old new e follows = absurd follows
stays boot play after (Err Memory) player old new e follows = absurd cc
