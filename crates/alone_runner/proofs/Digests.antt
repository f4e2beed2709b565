-- Items played one after the other, whose answers are counted, and whose lines go to a digest and aren't kept.
use Rattle.std.proofs.Common.{◌≡◌, ℕ, ◌+◌, ◌<◌, ◌≤◌, List, [], ◌++◌, length, get_or, sym, ap, subst, ◌∙◌}
use Rattle.std.specs.Prelude.{IsSome, Ok, Err}
use Rattle.std.proofs.lemmas.List.{append-nil, take_all}
use Rattle.kernel_model.specs.Application.{Booted, Native, booted}
use Rattle.play_model.specs.Play.{Play, after_item, after_items, first_play}
use Rattle.base.specs.Zeros.{zeros}
use Rattle.event_journal.specs.declared.event.Event.{Event}
use Rattle.sha2.specs.Hashers.{Holds256}
use Rattle.sha2.specs.Sha256.{sha256}
use Rattle.sha2.specs.declared.Sha256.{Sha256}
use Rattle.trace_text.specs.declared.item.Item.{Item}
use Rattle.trace_text.specs.declared.trace.Trace.{Trace}
use Rattle.trace_player.specs.Refused.{refused_in}
use Rattle.alone_runner.specs.Counts.{AreBelow, AreCounts}
use Rattle.alone_runner.specs.Digesting.{IsDigested}
use Rattle.trace_player.specs.Playing.{Follows, IsPlayedTo, history_of}
use Rattle.trace_player.specs.Starting.{IsAtStart}
use Rattle.alone_runner.specs.declared.digesting.Digested.{Digested}
use Rattle.alone_runner.specs.declared.summary.AnswerCounts.{AnswerCounts}
use Rattle.trace_player.specs.declared.player.Player.{Player}
use Rattle.word_parts.specs.declared.stop.Stop.{Stop}
use Rattle.word_parts.specs.declared.stop.Stop.TheVariants.{Full}
use Rattle.trace_player.proofs.Playable.{Playing, playing-first, playing-more, playing-refused}

-- the items so far were played, their answers are counted, the hasher holds their text, and no line is held
pub record Digesting (natives : List Native) (trace : Trace) (items : List Item) (at : ℕ) (player : Player)
    (hasher : Sha256) (counted : AnswerCounts) (held : List ℕ) : Type 0 where
  pub text : List ℕ
  pub playing : Playing natives trace items at player text
  pub counts : AreCounts (history_of player) counted
  pub few : AreBelow (at + 1) counted
  pub holds : Holds256 hasher text
  pub empty : held ≡ []

pub digesting-first : (natives : List Native) (trace : Trace) (items : List Item) (player : Player) (hasher : Sha256)
    (counts : AnswerCounts) (held : List ℕ) → IsAtStart natives trace items player → AreCounts [] counts → AreBelow 1 counts
    → Holds256 hasher [] → held ≡ [] → Digesting natives trace items 0 player hasher counts held
digesting-first natives trace items player hasher counts held start none few holds empty = record {
  text = [];
  playing = playing-first natives trace items player start;
  counts = subst (λ (history : List Event). AreCounts history counts) (sym start.stands.machine.history) none;
  few = few;
  holds = holds;
  empty = empty;
}

pub digesting-more : (natives : List Native) (trace : Trace) (items : List Item) (at : ℕ) (i : Item)
    (before after : Player) (hasher next : Sha256) (counts more : AnswerCounts) (held line left : List ℕ) → at < length items
    → i ≡ get_or items at i → Digesting natives trace items at before hasher counts held
    → ((boot : Booted) (play : Play) → IsPlayedTo boot play before
    → Follows boot play (after_item boot i play) (Ok tt) after held line)
    → ((boot : Booted) (play : Play) → IsPlayedTo boot play before → AreCounts play.history counts
    → AreCounts (history_of after) more)
    → ((bound : ℕ) → AreBelow bound counts → AreBelow (bound + 1) more)
    → ((message : List ℕ) → Holds256 hasher message → Holds256 next (message ++ line)) → left ≡ []
    → Digesting natives trace items (at + 1) after next more left
digesting-more natives trace items at i before after hasher next counts more held line left lt is d follows counted few updated empty =
    let w = d.playing.written in
    record {
      text = d.text ++ line;
      playing = playing-more natives trace items at i before after d.text [] line lt is
          (subst (Playing natives trace items at before) (sym (append-nil d.text)) d.playing)
          (λ boot play stands.
          subst (λ (h : List ℕ). Follows boot play (after_item boot i play) (Ok tt) after h line) d.empty
          (follows boot play stands));
      counts = counted (booted d.playing.boot natives) w.play w.stands
          (subst (λ (history : List Event). AreCounts history counts) w.stands.machine.history d.counts);
      few = few (at + 1) d.few;
      holds = updated d.text d.holds;
      empty = empty;
    }

-- an entry was refused
pub digesting-full : (natives : List Native) (trace : Trace) (items : List Item) (at : ℕ) (i : Item)
    (before after : Player) (stop : Stop) (hasher : Sha256) (counts : AnswerCounts) (held line : List ℕ)
    → at < length items → i ≡ get_or items at i
    → Digesting natives trace items at before hasher counts held → stop ≡ Full
    → ((boot : Booted) (play : Play) → IsPlayedTo boot play before
    → Follows boot play (after_item boot i play) (Err stop) after held line)
    → IsSome (refused_in natives trace)
digesting-full natives trace items at i before after stop hasher counts held line lt is d full follows =
    (playing-refused natives trace items at i before after d.text held line lt is d.playing
    (λ boot play stands. subst (λ (s : Stop). Follows boot play (after_item boot i play) (Err s) after held line) full
    (follows boot play stands))).0

-- the last item was played
pub digesting-ended : (natives : List Native) (trace : Trace) (items : List Item) (at : ℕ) (player : Player)
    (hasher : Sha256) (held : List ℕ) (digested : Digested) → length items ≤ at
    → Digesting natives trace items at player hasher digested.counts held
    → ((message : List ℕ) → Holds256 hasher message → digested.digest ≡ sha256 message)
    → IsDigested natives trace digested
digesting-ended natives trace items at player hasher held digested whole d told =
    let p = d.playing in
    let w = p.written in
    let on = booted p.boot natives in
    let all : length trace.items ≤ at = subst (λ (l : List Item). length l ≤ at) p.same whole in
    record {
      boot = p.boot;
      has_boot = p.is;
      play = w.play;
      is_play = sym (ap (λ (l : List Item). after_items on l (first_play (zeros 0x400000) on trace.fills))
          (take_all at trace.items all)) ∙ w.taken;
      counts = subst (λ (history : List Event). AreCounts history digested.counts) w.stands.machine.history d.counts;
      digest = told d.text d.holds ∙ ap sha256 w.printed;
    }
