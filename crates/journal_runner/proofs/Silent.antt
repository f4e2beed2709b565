-- Items played one after the other, whose lines are let go.
use Rattle.std.proofs.Common.{◌≡◌, ℕ, ◌+◌, ◌<◌, ◌≤◌, List, [], ◌++◌, length, get_or, Some, refl, sym, ap, subst, ◌∙◌}
use Rattle.std.specs.Prelude.{Ok, Err}
use Rattle.std.proofs.lemmas.List.{append-nil, take_all}
use Rattle.base.specs.Zeros.{zeros}
use Rattle.kernel_model.specs.Application.{Booted, Native, booted}
use Rattle.play_model.specs.Play.{Play, after_item, after_items, first_play}
use Rattle.trace_player.specs.Playing.{Follows, IsPlayedTo, StaysAt}
use Rattle.trace_player.specs.Starting.{IsAtStart}
use Rattle.trace_player.specs.declared.player.Player.{Player}
use Rattle.trace_player.proofs.Playable.{Playing, playing-first, playing-more}
use Rattle.trace_player.proofs.Played.{Written-refused}
use Rattle.trace_text.specs.declared.item.Item.{Item}
use Rattle.trace_text.specs.declared.trace.Trace.{Trace}
use Rattle.word_parts.specs.Answer.{status_of_play}
use Rattle.word_parts.specs.declared.status.Status.TheVariants.{TooLong}
use Rattle.word_parts.specs.declared.status.Status.TheVariants as status
use Rattle.word_parts.specs.declared.stop.Stop.{Stop}
use Rattle.word_parts.specs.declared.stop.Stop.TheVariants.{Full}
use Rattle.journal_runner.specs.Recorded.{StandsAtEnd}

-- the items so far were played, and no line is held
pub record Silent (natives : List Native) (trace : Trace) (items : List Item) (at : ℕ) (player : Player) (held : List ℕ)
    : Type 0 where
  pub text : List ℕ
  pub playing : Playing natives trace items at player text
  pub empty : held ≡ []

pub silent-first : (natives : List Native) (trace : Trace) (items : List Item) (player : Player) (held : List ℕ)
    → IsAtStart natives trace items player → held ≡ [] → Silent natives trace items 0 player held
silent-first natives trace items player held start empty =
    record { text = []; playing = playing-first natives trace items player start; empty = empty }

pub silent-more : (natives : List Native) (trace : Trace) (items : List Item) (at : ℕ) (i : Item) (before after : Player)
    (held line left : List ℕ) → at < length items → i ≡ get_or items at i → Silent natives trace items at before held
    → ((boot : Booted) (play : Play) → IsPlayedTo boot play before
    → Follows boot play (after_item boot i play) (Ok tt) after held line)
    → left ≡ [] → Silent natives trace items (at + 1) after left
silent-more natives trace items at i before after held line left lt is s follows empty = record {
  text = s.text ++ line;
  playing = playing-more natives trace items at i before after s.text [] line lt is
      (subst (Playing natives trace items at before) (sym (append-nil s.text)) s.playing)
      (λ boot play stands.
      subst (λ (h : List ℕ). Follows boot play (after_item boot i play) (Ok tt) after h line) s.empty
      (follows boot play stands));
  empty = empty;
}

-- an entry was refused
pub silent-full : (natives : List Native) (trace : Trace) (items : List Item) (at : ℕ) (i : Item) (before after : Player)
    (stop : Stop) (held line : List ℕ) → at < length items → i ≡ get_or items at i → Silent natives trace items at before held
    → stop ≡ Full
    → ((boot : Booted) (play : Play) → IsPlayedTo boot play before
    → Follows boot play (after_item boot i play) (Err stop) after held line)
    → StaysAt before after → StandsAtEnd natives trace after TooLong
silent-full natives trace items at i before after stop held line lt is s full follows stays =
    let p = s.playing in
    let w = p.written in
    let on = booted p.boot natives in
    let ended = subst (λ (st : Stop). Follows on w.play (after_item on i w.play) (Err st) after held line) full
    (follows on w.play w.stands) in
    let stayed = stays on w.play w.stands in
    record {
      boot = p.boot;
      has_boot = p.is;
      play = record w.play { refused = Some ended.0 };
      is_play = Written-refused on (first_play (zeros 0x400000) on trace.fills) trace.items at i before s.text ended.0
          (subst (λ (l : List Item). at < length l) p.same lt) (subst (λ (l : List Item). i ≡ get_or l at i) p.same is) w ended.1;
      booted = stayed.machine.booted;
      history = stayed.machine.history;
      stands_for = refl;
    }

-- the last item was played
pub silent-ended : (natives : List Native) (trace : Trace) (items : List Item) (at : ℕ) (player : Player) (held : List ℕ)
    → length items ≤ at → Silent natives trace items at player held → StandsAtEnd natives trace player status.Ok
silent-ended natives trace items at player held whole s =
    let p = s.playing in
    let w = p.written in
    let on = booted p.boot natives in
    let all : length trace.items ≤ at = subst (λ (l : List Item). length l ≤ at) p.same whole in
    record {
      boot = p.boot;
      has_boot = p.is;
      play = w.play;
      is_play = sym (ap (λ (l : List Item). after_items on l (first_play (zeros 0x400000) on trace.fills))
          (take_all at trace.items all)) ∙ w.taken;
      booted = w.stands.machine.booted;
      history = w.stands.machine.history;
      stands_for = sym (ap status_of_play w.stands.machine.goes_on);
    }
