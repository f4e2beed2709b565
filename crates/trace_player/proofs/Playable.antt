-- From a sound trace to a player that can play it, and from its play to what was told.
use Rattle.std.proofs.Common.{◌≡◌, ℕ, ◌+◌, ◌<◌, ◌≤◌, List, [], ◌++◌, length, take, drop, get_or, Option, Some, None, refl, sym, ap, subst, ◌∙◌, append_assoc, arith}
use Rattle.std.specs.Prelude.{Ok, Err, IfSome, IsSome}
use Rattle.std.specs.Option.{option_and_then, option_map}
use Rattle.std.proofs.lemmas.List.{take_all}
use Rattle.base.specs.Zeros.{zeros}
use Rattle.kernel_model.specs.Application.{Booted, IsBooted, Native, booted}
use Rattle.play_model.specs.Coming as coming
use Rattle.play_model.specs.Play.{Play, after_item, after_items, first_play, played}
use Rattle.play_model.specs.Text.{text_by, text_of, text_of_play}
use Rattle.play_model.proofs.Coming.{items_can_come}
use Rattle.play_model.proofs.PlaysThere.{traces_have_plays}
use Rattle.play_model.proofs.WholeLanes.{zeros-whole}
use Rattle.ta_isa.specs.declared.boot.Boot.{Boot}
use Rattle.trace_text.specs.Sound.{IsSound, IsSoundBoot, IsSoundItem}
use Rattle.trace_text.specs.declared.item.Item.{Item}
use Rattle.trace_text.specs.declared.item.Item.TheVariants as item
use Rattle.trace_text.specs.declared.trace.Fill.{Fill}
use Rattle.trace_text.specs.declared.trace.Trace.{Trace}
use Rattle.core_machine.specs.Laws.{MachinesStand}
use Rattle.trace_player.specs.Refused.{refused_by, refused_in}
use Rattle.trace_player.specs.Playing.{CanBeTaken, CanTake, Follows, IsPlayedTo, Prints, text_of_lines}
use Rattle.trace_player.specs.Starting.{uuids_of}
use Rattle.trace_player.specs.Starting.{IsAtStart, trace_of}
use Rattle.core_machine.specs.Standing.{IsAt}
use Rattle.core_machine.specs.declared.machine.Machine.{Machine}
use Rattle.trace_player.specs.declared.player.Player.{Player}
use Rattle.word_parts.specs.declared.stop.Stop.TheVariants.{Full}
use Rattle.trace_player.proofs.Played.{Written, Written-more, Written-part, Written-refused, items-split}

-- ---- what a play told

-- the text of a trace whose play is this
pub text-played : (natives : List Native) (trace : Trace) (boot : Boot) (play : Play) → trace.boot ≡ Some boot
    → played natives boot trace ≡ Some play
    → text_of natives trace ≡ Some (text_of_play play)
text-played natives trace boot play is e =
    ap (text_by natives trace) is ∙ ap (option_map text_of_play) e

pub refused-played : (natives : List Native) (trace : Trace) (boot : Boot) (play : Play) → trace.boot ≡ Some boot
    → played natives boot trace ≡ Some play
    → refused_in natives trace ≡ play.refused
refused-played natives trace boot play is e =
    ap (refused_by natives trace) is ∙ ap (option_and_then (λ (p : Play). p.refused)) e

-- ---- what can be taken

-- a machine can take an item whose processor is ready for it
pub can_take : (boot : Booted) (play : Play) (machine : Machine) (i : Item) → MachinesStand → boot.cpus ≤ 8
    → IsAt boot play machine → coming.IsReadyFor play.kernel i → IsSoundItem boot.cpus i → CanBeTaken machine i
can_take boot play machine (item.Smc cpu steps regs) stand few at ready sound = record {
  few = let there = sound.processor in omega (arith, there, few);
  lane = subst (λ (on : Booted). cpu < on.cpus) (sym at.booted) sound.processor;
  comes = λ given. stand.can_come boot play machine (record { cpu = cpu; regs = given; steps = steps }) at
      ready sound.some_step sound.few_steps;
  sound = sound.registers;
}
can_take boot play machine (item.Enter cpu steps regs) stand few at ready sound = record {
  few = let there = sound.processor in omega (arith, there, few);
  lane = subst (λ (on : Booted). cpu < on.cpus) (sym at.booted) sound.processor;
  comes = λ given. stand.can_come boot play machine (record { cpu = cpu; regs = given; steps = steps }) at
      ready sound.some_step sound.few_steps;
  sound = sound.registers;
}
can_take boot play machine (item.Leave cpu) stand few at ready sound = record {
  few = omega (arith, sound, few);
  lane = subst (λ (on : Booted). cpu < on.cpus) (sym at.booted) sound;
  leaves = stand.can_leave boot play machine cpu ready.regs ready.steps ready.errand at ready.inside;
}
can_take boot play machine (item.Write cpu addr bytes) stand few at ready sound =
    (subst (λ (on : Booted). cpu < on.cpus) (sym at.booted) sound.0, sound.1)
can_take boot play machine (item.Show cpu addr len) stand few at ready sound =
    (subst (λ (on : Booted). cpu < on.cpus) (sym at.booted) sound.0, sound.1)

-- ---- the beginning

module _ (natives : List Native) (uuids : List (List ℕ)) (boot : Boot) (trace : Trace)
    (boots : IsBooted (booted boot natives)) (sound : IsSound uuids trace)
    (is : trace.boot ≡ Some boot) where
  abbrev pub start : Play
  start = first_play (zeros 0x400000) (booted boot natives) trace.fills

  -- nothing was printed yet
  pub Written-none : (player : Player) → IsPlayedTo (booted boot natives) start player
      → Written (booted boot natives) start trace.items 0 player []
  Written-none player stands = record { play = start; taken = refl; stands = stands; printed = refl }

  -- the next item can be taken
  pub next-taken : (at : ℕ) (i : Item) (player : Player) (text : List ℕ) → MachinesStand → boot.cpus ≤ 8
      → at < length trace.items → i ≡ get_or trace.items at i
      → (w : Written (booted boot natives) start trace.items at player text) → CanTake player i
  next-taken at i player text stand few lt same w =
      let can = items_can_come (zeros 0x400000) natives uuids boot trace (take at trace.items)
      (drop (at + 1) trace.items) i w.play zeros-whole boots sound is
      (sym (items-split trace.items at i lt same)) w.taken w.stands.machine.goes_on in
      can_take (booted boot natives) w.play player.machine i stand few w.stands.machine can.ready can.sound

  there : (o : Option Play) → played natives boot trace ≡ o → IsSome o → (play : Play)
      × (played natives boot trace ≡ Some play)
  there (Some play) e some = (play, e)
  there None e some = absurd cc

  -- an entry was refused
  pub refused : (at : ℕ) (i : Item) (before after : Player) (text lines : List ℕ)
      → at < length trace.items → i ≡ get_or trace.items at i
      → (w : Written (booted boot natives) start trace.items at before text)
      → Follows (booted boot natives) w.play (after_item (booted boot natives) i w.play) (Err Full) after text lines
      → IsSome (refused_in natives trace) × (text_of natives trace ≡ Some text)
  refused at i before after text lines lt same w follows =
      let ended = record w.play { refused = Some follows.0 } in
      let final = Written-refused (booted boot natives) start trace.items at i before text follows.0 lt same w follows.1 in (
        subst IsSome (sym (refused-played natives trace boot ended is final)) refl,
        text-played natives trace boot ended is final ∙ ap (λ (t : List ℕ). Some t) (sym w.printed),
      )

  -- the text so far is a part of the trace's
  pub part : (at : ℕ) (player : Player) (text : List ℕ)
      → (w : Written (booted boot natives) start trace.items at player text)
      → (rest : List ℕ) × (text_of natives trace ≡ Some (text ++ rest))
  part at player text w =
      let final = there (played natives boot trace) refl
      (traces_have_plays.played (zeros 0x400000) natives uuids boot trace zeros-whole boots sound is) in
      let more = Written-part (booted boot natives) start trace.items at player text final.0 w final.1 in (
        more.0,
        text-played natives trace boot final.0 is final.1 ∙ ap (λ (t : List ℕ). Some t) more.1,
      )

  -- the last item was played
  pub ended : (at : ℕ) (player : Player) (text : List ℕ) → length trace.items ≤ at
      → (w : Written (booted boot natives) start trace.items at player text)
      → (refused_in natives trace ≡ None) × (text_of natives trace ≡ Some text)
  ended at player text whole w =
      let final : played natives boot trace ≡ Some w.play =
      sym (ap (λ (l : List Item). after_items (booted boot natives) l start) (take_all at trace.items whole))
      ∙ w.taken in (
        refused-played natives trace boot w.play is final ∙ w.stands.machine.goes_on,
        text-played natives trace boot w.play is final ∙ ap (λ (t : List ℕ). Some t) (sym w.printed),
      )

-- ---- all of it

-- the items so far were played, on a core of the trace's boot, and this is the text of their lines
pub record Playing (natives : List Native) (trace : Trace) (items : List Item) (at : ℕ) (player : Player)
    (text : List ℕ) : Type 0 where
  pub sound : IsSound (uuids_of natives) trace
  pub boot : Boot
  pub is : trace.boot ≡ Some boot
  pub boots : IsBooted (booted boot natives)
  pub same : items ≡ trace.items
  pub written : Written (booted boot natives)
      (first_play (zeros 0x400000) (booted boot natives) trace.fills) trace.items at player text

few-there : (uuids : List (List ℕ)) (trace : Trace) (boot : Boot) → IsSound uuids trace → trace.boot ≡ Some boot
    → boot.cpus ≤ 8
few-there uuids trace boot sound is =
    (subst (λ (o : Option Boot). IfSome o (IsSoundBoot uuids)) is sound.boot).boots.few_processors

-- a trace that has a boot is that of its boot, its fills and its items
pub same-trace : (trace : Trace) (boot : Boot) (fills : List Fill) (items : List Item) → trace.boot ≡ Some boot
    → fills ≡ trace.fills → items ≡ trace.items → trace_of boot fills items ≡ trace
same-trace trace boot fills items is filled_by same =
    ap (λ (fs : List Fill). trace_of boot fs items) filled_by ∙ ap (λ (l : List Item). trace_of boot trace.fills l) same
    ∙ ap (λ (o : Option Boot). record { boot = o; fills = trace.fills; items = trace.items }) (sym is)

-- a first player stands before the items of its trace
pub at-start : (natives : List Native) (boot : Boot) (fills : List Fill) (items : List Item) (player : Player)
    → IsSound (uuids_of natives) (trace_of boot fills items) → IsBooted (booted boot natives)
    → IsPlayedTo (booted boot natives) (first_play (zeros 0x400000) (booted boot natives) fills) player
    → IsAtStart natives (trace_of boot fills items) items player
at-start natives boot fills items player sound boots stands =
    record { sound = sound; same = refl; boot = boot; has_boot = refl; boots = boots; stands = stands }

pub playing-first : (natives : List Native) (trace : Trace) (items : List Item) (player : Player)
    → IsAtStart natives trace items player → Playing natives trace items 0 player []
playing-first natives trace items player start = record {
  sound = start.sound;
  boot = start.boot;
  is = start.has_boot;
  boots = start.boots;
  same = start.same;
  written = Written-none natives (uuids_of natives) start.boot trace start.boots start.sound start.has_boot player
      start.stands;
}

in-trace : (items all : List Item) (at : ℕ) (i : Item) → items ≡ all → at < length items → i ≡ get_or items at i
    → (at < length all) × (i ≡ get_or all at i)
in-trace items all at i same lt is =
    (subst (λ (l : List Item). at < length l) same lt, subst (λ (l : List Item). i ≡ get_or l at i) same is)

pub playing-takes : (natives : List Native) (trace : Trace) (items : List Item) (at : ℕ) (i : Item) (player : Player)
    (text : List ℕ) → MachinesStand → at < length items → i ≡ get_or items at i
    → Playing natives trace items at player text → CanTake player i
playing-takes natives trace items at i player text stand lt is p =
    let there = in-trace items trace.items at i p.same lt is in
    next-taken natives (uuids_of natives) p.boot trace p.boots p.sound p.is at i player text stand
    (few-there (uuids_of natives) trace p.boot p.sound p.is) there.0 there.1 p.written

-- what an item prints behind a part of the text it prints behind all of it
prints-behind : (before after : Play) (text old new : List ℕ) → Prints before after old new
    → Prints before after (text ++ old) (text ++ new)
prints-behind before after text old new p = (
  p.0,
  p.1,
  ap (λ (t : List ℕ). text ++ t) p.2 ∙ sym (append_assoc text old (text_of_lines p.0)),
)

pub playing-more : (natives : List Native) (trace : Trace) (items : List Item) (at : ℕ) (i : Item)
    (before after : Player) (text old new : List ℕ) → at < length items → i ≡ get_or items at i
    → Playing natives trace items at before (text ++ old)
    → ((boot : Booted) (play : Play) → IsPlayedTo boot play before
    → Follows boot play (after_item boot i play) (Ok tt) after old new)
    → Playing natives trace items (at + 1) after (text ++ new)
playing-more natives trace items at i before after text old new lt is p follows =
    let there = in-trace items trace.items at i p.same lt is in
    let next = follows (booted p.boot natives) p.written.play p.written.stands in
    record {
      sound = p.sound;
      boot = p.boot;
      is = p.is;
      boots = p.boots;
      same = p.same;
      written = Written-more (booted p.boot natives)
          (first_play (zeros 0x400000) (booted p.boot natives) trace.fills) trace.items at i before after
          (text ++ old) (text ++ new) there.0 there.1
          p.written next.0 next.1 next.2 (prints-behind p.written.play next.0 text old new next.3);
    }

pub playing-refused : (natives : List Native) (trace : Trace) (items : List Item) (at : ℕ) (i : Item)
    (before after : Player) (text old new : List ℕ)
    → at < length items → i ≡ get_or items at i → Playing natives trace items at before text
    → ((boot : Booted) (play : Play) → IsPlayedTo boot play before
    → Follows boot play (after_item boot i play) (Err Full) after old new)
    → IsSome (refused_in natives trace) × (text_of natives trace ≡ Some text)
playing-refused natives trace items at i before after text old new lt is p follows =
    let there = in-trace items trace.items at i p.same lt is in
    let f = follows (booted p.boot natives) p.written.play p.written.stands in
    refused natives (uuids_of natives) p.boot trace p.boots p.sound p.is at i before after text text there.0 there.1
    p.written (f.0, f.1, refl, f.3)

pub playing-part : (natives : List Native) (trace : Trace) (items : List Item) (at : ℕ) (player : Player)
    (text : List ℕ) → Playing natives trace items at player text
    → (rest : List ℕ) × (text_of natives trace ≡ Some (text ++ rest))
playing-part natives trace items at player text p =
    part natives (uuids_of natives) p.boot trace p.boots p.sound p.is at player text p.written

pub playing-ended : (natives : List Native) (trace : Trace) (items : List Item) (at : ℕ) (player : Player)
    (text : List ℕ) → length items ≤ at → Playing natives trace items at player text
    → (refused_in natives trace ≡ None) × (text_of natives trace ≡ Some text)
playing-ended natives trace items at player text whole p =
    ended natives (uuids_of natives) p.boot trace p.boots p.sound p.is at player text
    (subst (λ (l : List Item). length l ≤ at) p.same whole) p.written
