-- Steps played one after the other, whose lines are gathered before they are put.
use Rattle.std.proofs.Common.{◌≡◌, ℕ, ◌+◌, ◌<◌, inr, List, [], ◌++◌, drop, get_or, length, Option, Some, refl, sym, ap, subst, ◌∙◌, append_assoc}
use Rattle.std.specs.Prelude.{IsSomeAnd, Ok, Err, Result}
use Rattle.kernel_model.specs.Application.{Booted, Native}
use Rattle.notify_play.specs.NotifyPlay.{Drivers, NotifyPlay, after_item}
use Rattle.notify_play.specs.Text.{notify_text_of}
use Rattle.notify_player.specs.Playing.{Follows, IsPlayedTo}
use Rattle.notify_player.specs.Signalling.{behind_at, front_at, signalled_by}
use Rattle.notify_player.specs.declared.player.NotifyPlayer.{NotifyPlayer}
use Rattle.notify_text.specs.declared.notify_trace.NotifyTrace.{NotifyTrace}
use Rattle.notify_text.specs.declared.notify_trace.Signal.{Signal}
use Rattle.ports.specs.Port.{Appends}
use Rattle.ports.specs.PortLaws.{Appends-nil, Appends-trans}
use Rattle.trace_text.specs.declared.item.Item.{Item}
use Rattle.word_parts.specs.Gathering.{EndsAs, PutsBut, PutsLines, PutsOrKeeps}
use Rattle.word_parts.specs.Output.{AppendsPart}
use Rattle.word_parts.specs.declared.stop.Stop.{Stop}
use Rattle.word_parts.specs.declared.stop.Stop.TheVariants.{Full, Failed, Memory}
use Rattle.word_parts.proofs.PuttingLemmas.{AppendsPart-nothing, AppendsPart-then, put-none}
use Rattle.notify_runner.specs.Run.{IsToldOf}
use Rattle.notify_runner.specs.Starting.{IsAtStart}
use Rattle.notify_runner.proofs.Playable.{Playing, Taking, playing-ended, playing-first, playing-part, playing-signalled, taking-more, taking-part, taking-refused}

-- ---- what was told

has-text : (natives : List Native) (drivers : Drivers) (told : NotifyTrace) (text : List ℕ) (P : List ℕ → Type 0)
    → notify_text_of natives drivers told ≡ Some text → P text → IsSomeAnd (notify_text_of natives drivers told) P
has-text natives drivers told text P is p = subst (λ (o : Option (List ℕ)). IsSomeAnd o P) (sym is) p

-- the steps so far were played, and of their text all was put but these lines
pub record Gathering (natives : List Native) (drivers : Drivers) (told : NotifyTrace) (items : List Item) (at : ℕ)
    (signals : List Signal) (player : NotifyPlayer) (lines : List ℕ) (old new : Option (List ℕ)) : Type 0 where
  pub text : List ℕ
  pub playing : Playing natives drivers told items at signals player (text ++ lines)
  pub put : Appends old new text

-- and the signals in front of the next item
pub record Waiting (natives : List Native) (drivers : Drivers) (told : NotifyTrace) (items : List Item) (at : ℕ) (i : Item)
    (signals : List Signal) (player : NotifyPlayer) (lines : List ℕ) (old new : Option (List ℕ)) : Type 0 where
  pub text : List ℕ
  pub taking : Taking natives drivers told items at i signals player (text ++ lines)
  pub put : Appends old new text

pub gathering-first : (natives : List Native) (drivers : Drivers) (told : NotifyTrace) (items : List Item)
    (signals : List Signal) (player : NotifyPlayer) (lines : List ℕ) (a : Option (List ℕ))
    → IsAtStart natives drivers told items signals player → lines ≡ []
    → Gathering natives drivers told items 0 signals player lines a a
gathering-first natives drivers told items signals player lines a start none = record {
  text = [];
  playing = subst (Playing natives drivers told items 0 signals player) (sym none)
      (playing-first natives drivers told items signals player start);
  put = Appends-nil a;
}

module _ (natives : List Native) (drivers : Drivers) (told : NotifyTrace) (items : List Item) where
  -- an item was played, and lines were put or kept
  pub gathering-more : (at : ℕ) (i : Item) (signals : List Signal) (before after : NotifyPlayer)
      (lines more kept : List ℕ) (a b c : Option (List ℕ))
      → Waiting natives drivers told items at i signals before lines a b
      → ((boot : Booted) (now : NotifyPlay) → IsPlayedTo boot drivers now before
      → Follows boot drivers now (after_item boot drivers i now) (Ok tt) after lines more)
      → PutsBut kept b c more → Gathering natives drivers told items (at + 1) signals after kept a c
  gathering-more at i signals before after lines more kept a b c w follows puts = record {
    text = w.text ++ puts.part;
    playing =
        subst (Playing natives drivers told items (at + 1) signals after)
        (ap (λ (l : List ℕ). w.text ++ l) puts.cut ∙ sym (append_assoc w.text puts.part kept))
        (taking-more natives drivers told items at i signals before after w.text lines more w.taking follows);
    put = Appends-trans a b c w.text puts.part w.put puts.put;
  }

  -- a part of the gathered lines was put
  gathering-part : (at : ℕ) (signals : List Signal) (player : NotifyPlayer) (lines : List ℕ) (a b c : Option (List ℕ))
      → Gathering natives drivers told items at signals player lines a b
      → AppendsPart b c lines → IsSomeAnd (notify_text_of natives drivers told) (AppendsPart a c)
  gathering-part at signals player lines a b c g part =
      let rest = playing-part natives drivers told items at signals player (g.text ++ lines) g.playing in
      has-text natives drivers told (g.text ++ (lines ++ rest.0)) (AppendsPart a c)
      (rest.1 ∙ ap (λ (t : List ℕ). Some t) (append_assoc g.text lines rest.0))
      (AppendsPart-then a b c g.text lines rest.0 (g.text ++ (lines ++ rest.0)) g.put refl part)

  waiting-part : (at : ℕ) (i : Item) (signals : List Signal) (player : NotifyPlayer) (lines : List ℕ)
      (a b c : Option (List ℕ)) → Waiting natives drivers told items at i signals player lines a b
      → AppendsPart b c lines → IsSomeAnd (notify_text_of natives drivers told) (AppendsPart a c)
  waiting-part at i signals player lines a b c w part =
      let rest = taking-part natives drivers told items at i signals player (w.text ++ lines) w.taking in
      has-text natives drivers told (w.text ++ (lines ++ rest.0)) (AppendsPart a c)
      (rest.1 ∙ ap (λ (t : List ℕ). Some t) (append_assoc w.text lines rest.0))
      (AppendsPart-then a b c w.text lines rest.0 (w.text ++ (lines ++ rest.0)) w.put refl part)

  -- an item was played, and then the sink failed or memory ran out
  pub gathering-unput : (at : ℕ) (i : Item) (signals : List Signal) (before after : NotifyPlayer)
      (lines more kept : List ℕ) (stop : Stop) (a b c : Option (List ℕ))
      → Waiting natives drivers told items at i signals before lines a b
      → ((boot : Booted) (now : NotifyPlay) → IsPlayedTo boot drivers now before
      → Follows boot drivers now (after_item boot drivers i now) (Ok tt) after lines more)
      → PutsOrKeeps more (Err stop) kept b c → IsToldOf natives drivers told (Err stop) a c
  gathering-unput at i signals before after lines more kept Full a b c w follows puts = absurd puts
  gathering-unput at i signals before after lines more kept Failed a b c w follows puts =
      gathering-part (at + 1) signals after more a b c
      (gathering-more at i signals before after lines more more a b b w follows (put-none more b)) puts
  gathering-unput at i signals before after lines more kept Memory a b c w follows puts =
      inr (gathering-part (at + 1) signals after more a b c
      (gathering-more at i signals before after lines more more a b b w follows (put-none more b)) puts)

  -- all text was put
  all-put : (text lines : List ℕ) (a b c : Option (List ℕ))
      → notify_text_of natives drivers told ≡ Some (text ++ lines) → Appends a b text → Appends b c lines
      → IsSomeAnd (notify_text_of natives drivers told) (Appends a c)
  all-put text lines a b c is first then =
      has-text natives drivers told (text ++ lines) (Appends a c) is (Appends-trans a b c text lines first then)

  -- an item stopped the play
  pub gathering-stopped : (at : ℕ) (i : Item) (signals : List Signal) (before after : NotifyPlayer)
      (lines left : List ℕ) (stop end : Stop) (a b c : Option (List ℕ))
      → Waiting natives drivers told items at i signals before lines a b
      → ((boot : Booted) (now : NotifyPlay) → IsPlayedTo boot drivers now before
      → Follows boot drivers now (after_item boot drivers i now) (Err stop) after lines left)
      → EndsAs stop left end b c → IsToldOf natives drivers told (Err end) a c
  gathering-stopped at i signals before after lines left Full Full a b c w follows ends =
      let whole = taking-refused natives drivers told items at i signals before after (w.text ++ lines) lines left w.taking
      follows in
      (whole.0, all-put w.text lines a b c whole.1 w.put (subst (Appends b c) whole.2 ends))
  gathering-stopped at i signals before after lines left Full Failed a b c w follows ends =
      let whole = taking-refused natives drivers told items at i signals before after (w.text ++ lines) lines left w.taking
      follows in
      waiting-part at i signals before lines a b c w (subst (AppendsPart b c) whole.2 ends)
  gathering-stopped at i signals before after lines left Full Memory a b c w follows ends =
      let whole = taking-refused natives drivers told items at i signals before after (w.text ++ lines) lines left w.taking
      follows in
      inr (waiting-part at i signals before lines a b c w (subst (AppendsPart b c) whole.2 ends))
  gathering-stopped at i signals before after lines left Failed end a b c w follows ends = absurd ends
  gathering-stopped at i signals before after lines left Memory Full a b c w follows ends = absurd ends
  gathering-stopped at i signals before after lines left Memory Failed a b c w follows ends = absurd ends
  gathering-stopped at i signals before after lines left Memory Memory a b c w follows ends =
      inr (waiting-part at i signals before lines a b c w
      (subst (λ (x : Option (List ℕ)). AppendsPart b x lines) (sym ends) (AppendsPart-nothing b lines)))

  -- all steps were played
  pub gathering-ended : (at : ℕ) (signals : List Signal) (player : NotifyPlayer) (lines : List ℕ)
      (result : Result (Unit {0}) Stop) (a b c : Option (List ℕ)) → drop at items ≡ []
      → Gathering natives drivers told items at signals player lines a b
      → PutsLines lines result b c → IsToldOf natives drivers told result a c
  gathering-ended at signals player lines (Ok done) a b c all g puts =
      let whole = playing-ended natives drivers told items at signals player (g.text ++ lines) all g.playing in
      (whole.0, all-put g.text lines a b c whole.1 g.put puts)
  gathering-ended at signals player lines (Err Full) a b c all g puts = absurd puts
  gathering-ended at signals player lines (Err Failed) a b c all g puts =
      gathering-part at signals player lines a b c g puts
  gathering-ended at signals player lines (Err Memory) a b c all g puts =
      inr (gathering-part at signals player lines a b c g puts)

  -- the signals in front of an item were taken
  pub gathering-signalled : (at : ℕ) (i : Item) (signals rest : List Signal) (before after : NotifyPlayer)
      (lines : List ℕ) (a b : Option (List ℕ)) → at < length items → i ≡ get_or items at i
      → Gathering natives drivers told items at signals before lines a b → rest ≡ behind_at at signals
      → ((boot : Booted) (ds : Drivers) (now : NotifyPlay) → IsPlayedTo boot ds now before
      → IsPlayedTo boot ds (signalled_by (front_at at signals) now) after)
      → Waiting natives drivers told items at i rest after lines a b
  gathering-signalled at i signals rest before after lines a b lt is g left takes = record {
    text = g.text;
    taking =
        subst (λ (l : List Signal). Taking natives drivers told items at i l after (g.text ++ lines)) (sym left)
        (playing-signalled natives drivers told items at i signals before after (g.text ++ lines) lt is g.playing takes);
    put = g.put;
  }
