-- Items played one after the other, whose lines are gathered before they are put.
use Rattle.std.proofs.Common.{◌≡◌, ℕ, ◌+◌, ◌<◌, ◌≤◌, inr, List, [], ◌++◌, length, get_or, Option, Some, refl, sym, ap, subst, ◌∙◌, append_assoc}
use Rattle.std.specs.Prelude.{IsSomeAnd, Result, Ok, Err}
use Rattle.kernel_model.specs.Application.{Booted, Native, booted}
use Rattle.play_model.specs.Play.{Play, after_item}
use Rattle.play_model.specs.Text.{text_of}
use Rattle.ports.specs.Port.{Appends}
use Rattle.ports.specs.PortLaws.{Appends-nil, Appends-trans}
use Rattle.trace_text.specs.declared.item.Item.{Item}
use Rattle.trace_text.specs.declared.trace.Trace.{Trace}
use Rattle.word_parts.specs.Gathering.{EndsAs, PutsBut, PutsLines, PutsOrKeeps}
use Rattle.word_parts.specs.Output.{AppendsPart}
use Rattle.trace_player.specs.Playing.{Follows, IsPlayedTo}
use Rattle.alone_runner.specs.Run.{IsToldOf}
use Rattle.trace_player.specs.Starting.{IsAtStart}
use Rattle.trace_player.specs.declared.player.Player.{Player}
use Rattle.word_parts.specs.declared.stop.Stop.{Stop}
use Rattle.word_parts.specs.declared.stop.Stop.TheVariants.{Full, Failed, Memory}
use Rattle.trace_player.proofs.Playable.{Playing, playing-ended, playing-first, playing-more, playing-part, playing-refused}
use Rattle.word_parts.proofs.PuttingLemmas.{AppendsPart-nothing, AppendsPart-then, put-none}

-- ---- what was told

has-text : (natives : List Native) (trace : Trace) (text : List ℕ) (P : List ℕ → Type 0)
    → text_of natives trace ≡ Some text → P text → IsSomeAnd (text_of natives trace) P
has-text natives trace text P is p = subst (λ (o : Option (List ℕ)). IsSomeAnd o P) (sym is) p

-- the items so far were played, and of their text all was put but these lines
pub record Gathering (natives : List Native) (trace : Trace) (items : List Item) (at : ℕ) (player : Player)
    (lines : List ℕ) (old new : Option (List ℕ)) : Type 0 where
  pub text : List ℕ
  pub playing : Playing natives trace items at player (text ++ lines)
  pub put : Appends old new text

pub gathering-first : (natives : List Native) (trace : Trace) (items : List Item) (player : Player) (lines : List ℕ)
    (a : Option (List ℕ)) → IsAtStart natives trace items player → lines ≡ []
    → Gathering natives trace items 0 player lines a a
gathering-first natives trace items player lines a start none = record {
  text = [];
  playing = subst (Playing natives trace items 0 player) (sym none) (playing-first natives trace items player start);
  put = Appends-nil a;
}

-- an item was played, and lines were put or kept
pub gathering-more : (natives : List Native) (trace : Trace) (items : List Item) (at : ℕ) (i : Item)
    (before after : Player) (lines more kept : List ℕ) (a b c : Option (List ℕ)) → at < length items
    → i ≡ get_or items at i → Gathering natives trace items at before lines a b
    → ((boot : Booted) (play : Play) → IsPlayedTo boot play before
    → Follows boot play (after_item boot i play) (Ok tt) after lines more)
    → PutsBut kept b c more → Gathering natives trace items (at + 1) after kept a c
gathering-more natives trace items at i before after lines more kept a b c lt is g follows puts = record {
  text = g.text ++ puts.part;
  playing =
      subst (Playing natives trace items (at + 1) after)
      (ap (λ (l : List ℕ). g.text ++ l) puts.cut ∙ sym (append_assoc g.text puts.part kept))
      (playing-more natives trace items at i before after g.text lines more lt is g.playing follows);
  put = Appends-trans a b c g.text puts.part g.put puts.put;
}

-- a part of the gathered lines was put
pub gathering-part : (natives : List Native) (trace : Trace) (items : List Item) (at : ℕ) (player : Player)
    (lines : List ℕ) (a b c : Option (List ℕ)) → Gathering natives trace items at player lines a b
    → AppendsPart b c lines → IsSomeAnd (text_of natives trace) (AppendsPart a c)
gathering-part natives trace items at player lines a b c g part =
    let rest = playing-part natives trace items at player (g.text ++ lines) g.playing in
    has-text natives trace (g.text ++ (lines ++ rest.0)) (AppendsPart a c)
    (rest.1 ∙ ap (λ (t : List ℕ). Some t) (append_assoc g.text lines rest.0))
    (AppendsPart-then a b c g.text lines rest.0 (g.text ++ (lines ++ rest.0)) g.put refl part)

-- an item was played, and then the sink failed or memory ran out
pub gathering-unput : (natives : List Native) (trace : Trace) (items : List Item) (at : ℕ) (i : Item)
    (before after : Player) (lines more kept : List ℕ) (stop : Stop) (a b c : Option (List ℕ)) → at < length items
    → i ≡ get_or items at i → Gathering natives trace items at before lines a b
    → ((boot : Booted) (play : Play) → IsPlayedTo boot play before
    → Follows boot play (after_item boot i play) (Ok tt) after lines more)
    → PutsOrKeeps more (Err stop) kept b c → IsToldOf natives trace (Err stop) a c
gathering-unput natives trace items at i before after lines more kept Full a b c lt is g follows puts = absurd puts
gathering-unput natives trace items at i before after lines more kept Failed a b c lt is g follows puts =
    gathering-part natives trace items (at + 1) after more a b c
    (gathering-more natives trace items at i before after lines more more a b b lt is g follows (put-none more b)) puts
gathering-unput natives trace items at i before after lines more kept Memory a b c lt is g follows puts =
    inr (gathering-part natives trace items (at + 1) after more a b c
    (gathering-more natives trace items at i before after lines more more a b b lt is g follows (put-none more b)) puts)

-- all text was put
all-put : (natives : List Native) (trace : Trace) (text lines : List ℕ) (a b c : Option (List ℕ))
    → text_of natives trace ≡ Some (text ++ lines) → Appends a b text → Appends b c lines
    → IsSomeAnd (text_of natives trace) (Appends a c)
all-put natives trace text lines a b c is first then =
    has-text natives trace (text ++ lines) (Appends a c) is (Appends-trans a b c text lines first then)

-- an item stopped the play
pub gathering-stopped : (natives : List Native) (trace : Trace) (items : List Item) (at : ℕ) (i : Item)
    (before after : Player) (lines left : List ℕ) (stop end : Stop) (a b c : Option (List ℕ)) → at < length items
    → i ≡ get_or items at i → Gathering natives trace items at before lines a b
    → ((boot : Booted) (play : Play) → IsPlayedTo boot play before
    → Follows boot play (after_item boot i play) (Err stop) after lines left)
    → EndsAs stop left end b c → IsToldOf natives trace (Err end) a c
gathering-stopped natives trace items at i before after lines left Full Full a b c lt is g follows ends =
    let p = g.playing in
    let none : left ≡ lines = (follows (booted p.boot natives) p.written.play p.written.stands).2 in
    let whole = playing-refused natives trace items at i before after (g.text ++ lines) lines left lt is p follows in
    (whole.0, all-put natives trace g.text lines a b c whole.1 g.put (subst (Appends b c) none ends))
gathering-stopped natives trace items at i before after lines left Full Failed a b c lt is g follows ends =
    let p = g.playing in
    let none : left ≡ lines = (follows (booted p.boot natives) p.written.play p.written.stands).2 in
    gathering-part natives trace items at before lines a b c g (subst (AppendsPart b c) none ends)
gathering-stopped natives trace items at i before after lines left Full Memory a b c lt is g follows ends =
    let p = g.playing in
    let none : left ≡ lines = (follows (booted p.boot natives) p.written.play p.written.stands).2 in
    inr (gathering-part natives trace items at before lines a b c g (subst (AppendsPart b c) none ends))
gathering-stopped natives trace items at i before after lines left Failed end a b c lt is g follows ends = absurd ends
gathering-stopped natives trace items at i before after lines left Memory Full a b c lt is g follows ends = absurd ends
gathering-stopped natives trace items at i before after lines left Memory Failed a b c lt is g follows ends = absurd ends
gathering-stopped natives trace items at i before after lines left Memory Memory a b c lt is g follows ends =
    inr (gathering-part natives trace items at before lines a b c g
    (subst (λ (x : Option (List ℕ)). AppendsPart b x lines) (sym ends) (AppendsPart-nothing b lines)))

-- the last item was played, and its lines were put
pub gathering-ended : (natives : List Native) (trace : Trace) (items : List Item) (at : ℕ) (player : Player)
    (lines : List ℕ) (result : Result (Unit {0}) Stop) (a b c : Option (List ℕ)) → length items ≤ at
    → Gathering natives trace items at player lines a b → PutsLines lines result b c → IsToldOf natives trace result a c
gathering-ended natives trace items at player lines (Ok done) a b c whole g puts =
    let told = playing-ended natives trace items at player (g.text ++ lines) whole g.playing in
    (told.0, all-put natives trace g.text lines a b c told.1 g.put puts)
gathering-ended natives trace items at player lines (Err Full) a b c whole g puts = absurd puts
gathering-ended natives trace items at player lines (Err Failed) a b c whole g puts =
    gathering-part natives trace items at player lines a b c g puts
gathering-ended natives trace items at player lines (Err Memory) a b c whole g puts =
    inr (gathering-part natives trace items at player lines a b c g puts)
