-- What of a list has been served, one after the other.
use Rattle.std.proofs.Common.{◌≡◌, ℕ, suc, ◌+◌, ◌<◌, ◌≤◌, List, [], ◌∷◌, ◌++◌, length, take, drop, get_or, Option}
use Rattle.std.proofs.Common.{Some, None, refl, ap, sym, subst, ◌∙◌, arith}
use Rattle.std.specs.Prelude.{map, IsSomeAnd, Ok, Err, Result}
use Rattle.std.specs.Option.{option_and_then, option_map_or}
use Rattle.std.proofs.lemmas.List.{append-nil, append_assoc, map-append, map_push, take_more}
use Rattle.std.proofs.Math.Seq.{drop-cons}
use Rattle.core_machine.specs.Moving.{EntersAt, LeavesAt}
use Rattle.core_machine.specs.Serving.{Extends, HasCome, IsWhy, Serves, ServesOne, item_of}
use Rattle.core_machine.specs.Serving.{line_of}
use Rattle.core_machine.specs.Standing.{CanAllCome, IsAt, play_of}
use Rattle.core_at_work.specs.Insides.{insides}
use Rattle.core_machine.specs.Turns.{ComeInTurn, MayCome, inside_after}
use Rattle.core_machine.specs.declared.machine.Machine.{Machine}
use Rattle.core_machine.specs.declared.smc.Smc.{Smc}
use Rattle.core_machine.specs.declared.smc.Smc.TheVariants.{Comes, Leaves}
use Rattle.core_machine.specs.declared.smc.Told.{Told}
use Rattle.core_machine.proofs.Stands.{stands, turns_are_taken}
use Rattle.event_journal.specs.declared.event.Event.{Event}
use Rattle.event_journal.specs.declared.event.Event.TheVariants.{Entry, Exit}
use Rattle.core_at_work.specs.Visiting.{coming_of}
use Rattle.core_at_work.specs.Visitor.{Visitor}
use Rattle.kernel_model.specs.Application.{Booted}
use Rattle.kernel_model.specs.Kernel.{Kernel, Visit}
use Rattle.kernel_state.specs.Entering.{visit_of}
use Rattle.kernel_state.specs.Meaning.{booted_of, events_of, kernel_of, terms_of}
use Rattle.kernel_state.specs.declared.enter_refusal.EnterRefusal.{EnterRefusal}
use Rattle.kernel_state.specs.declared.enter_refusal.EnterRefusal.TheVariants.{Full, Memory}
use Rattle.kernel_state.proofs.CoreEvents.{core_is_legal, some_kernel}
use Rattle.play_model.specs.Line.{Line}
use Rattle.play_model.specs.Play.{Play, after_item, after_items, enters, last_answer, leaves, number_in}
use Rattle.play_model.proofs.Entries.{Entered, CameIn, WasRefused, entered, event_made, left}
use Rattle.play_model.proofs.LinesStay.{event_prints, plays_go_on}
use Rattle.smc_abi.specs.declared.regs.Regs.{Regs}
use Rattle.trace_text.specs.declared.item.Item.{Item}
use Rattle.trace_text.specs.declared.item.Reg.TheVariants.{Num}

-- ---- items

numbers_read : (answer regs : List ℕ) → map (number_in answer) (map (λ number. Num number) regs) ≡ regs
numbers_read answer [] = refl
numbers_read answer (first ∷ regs) = ap (λ rest. first ∷ rest) (numbers_read answer regs)

-- the item of an entry is that entry
pub entry_item : (boot : Booted) (play : Play) (visitor : Visitor) →
    after_item boot (item_of (Comes visitor)) play ≡ enters boot play (visit_of (coming_of visitor))
entry_item boot play visitor =
    ap (λ (regs : List ℕ). enters boot play (record { cpu = visitor.cpu; regs = regs; steps = visitor.steps }))
    (numbers_read (last_answer play.history visitor.cpu) visitor.regs.a)

-- one item, where no entry was refused
pub one_item : (boot : Booted) (item : Item) (play : Play) → play.refused ≡ None →
    after_items boot (item ∷ []) play ≡ after_item boot item play
one_item boot item play going =
    ap (λ (refused : Option ℕ). option_and_then (λ next. Some next)
    (option_map_or (λ more. Some play) refused (after_item boot item play))) going
    ∙ same (after_item boot item play)
  where
    same : (o : Option Play) → option_and_then (λ next. Some next) o ≡ o
    same None = refl
    same (Some next) = refl

-- ---- some, and then one more

pub come_more : (boot : Booted) (play : Play) (done : List Smc) (smc : Smc) (mid new : Machine)
    (answers more : List Told)
    (have : HasCome boot play done mid answers) → HasCome boot have.next (smc ∷ []) new more →
    HasCome boot play (done ++ smc ∷ []) new (answers ++ more)
come_more boot play done smc mid new answers more have one = record {
  next = one.next;
  comes = ap (λ (items : List Item). after_items boot items play) (map_push item_of done smc)
      ∙ plays_go_on.onward boot (map item_of done) (item_of smc ∷ []) play
      ∙ ap (λ (o : Option Play). option_and_then (λ next. after_items boot (item_of smc ∷ []) next) o) have.comes
      ∙ one.comes;
  at = one.at;
  lines = one.lines ∙ ap (λ (lines : List Line). lines ++ map line_of more) have.lines
      ∙ append_assoc play.lines (map line_of answers) (map line_of more)
      ∙ ap (λ (lines : List Line). play.lines ++ lines) (sym (map-append line_of answers more));
}

-- ---- what one makes of who is inside, and of the events

-- the core keeps its terms
abbrev pub KeepsTerms : Machine → Machine → Type 0
KeepsTerms old new = terms_of new.at_work.core ≡ terms_of old.at_work.core

-- what an entry or an exit makes of a play
record Moves (play next : Play) (smc : Smc) : Type 0 where
  inside : insides next.kernel ≡ inside_after (insides play.kernel) smc
  event : Event
  history : next.history ≡ play.history ++ event ∷ []

entry_moves : (boot : Booted) (play next : Play) (visitor : Visitor) →
    Entered boot (visit_of (coming_of visitor)) play next → next.refused ≡ None →
    (event : Event) × (next.history ≡ play.history ++ event ∷ [])
entry_moves boot play next visitor (WasRefused reads much same) going =
    let none : None ≡ Some _ = sym going ∙ ap (λ (p : Play). p.refused) (sym same) in absurd cc
entry_moves boot play next visitor (CameIn reads few came) going =
    let event = Entry visitor.cpu (record { a = visitor.regs.a }) visitor.steps reads in
    (event, (event_made boot event play next came).0)

moves : (boot : Booted) (play next : Play) (smc : Smc) → after_item boot (item_of smc) play ≡ Some next →
    next.refused ≡ None → Moves play next smc
moves boot play next (Comes visitor) e going =
    let came = sym (entry_item boot play visitor) ∙ e in
    let added = entry_moves boot play next visitor (entered boot (visit_of (coming_of visitor)) play next came) going in
    record {
      inside = turns_are_taken.entry boot play next (visit_of (coming_of visitor)) came going;
      event = added.0;
      history = added.1;
    }
moves boot play next (Leaves cpu) e going =
    let out = left boot cpu play next e in
    let event = Exit cpu (record { a = out.exited.regs }) in
    record {
      inside = turns_are_taken.exit boot play next cpu e;
      event = event;
      history = ap (λ (p : Play). p.history) (sym out.is) ∙ (event_made boot event play out.gone out.came).0;
    }

-- the play of a machine, and the one after an entry or an exit that has come to it
record Onward (old new : Machine) (smc : Smc) : Type 0 where
  terms : KeepsTerms old new
  kernel : Kernel
  there : kernel_of old.at_work.core ≡ Some kernel
  next : Play
  at : IsAt (booted_of old.at_work.core) next new
  moved : Moves (play_of old kernel) next smc

onward : (old new : Machine) (before after : List Told) (smc : Smc) → ServesOne old new before after smc (Ok tt) →
    Onward old new smc
onward old new before after smc one =
    let kernel = some_kernel old.at_work.core in
    let play = play_of old kernel.0 in
    let come = one.at (booted_of old.at_work.core) play (stands old kernel.0 kernel.1) in
    record {
      terms = one.terms;
      kernel = kernel.0;
      there = kernel.1;
      next = come.next;
      at = come.at;
      moved = moves (booted_of old.at_work.core) play come.next smc (sym (one_item (booted_of old.at_work.core) (item_of smc) play
          refl) ∙ come.comes) come.at.goes_on;
    }

-- ---- the events

pub same_events : (old new : Machine) (boot : booted_of new.at_work.core ≡ booted_of old.at_work.core) →
    KeepsTerms old new → events_of new.at_work.core ≡ events_of old.at_work.core → Extends old new
same_events old new boot terms same = record {
  boot = boot;
  terms = terms;
  more = [];
  events = same ∙ sym (append-nil (events_of old.at_work.core));
  legal = core_is_legal new.at_work.core;
}

pub further : (old mid new : Machine) → Extends old mid → Extends mid new → Extends old new
further old mid new first second = record {
  boot = second.boot ∙ first.boot;
  terms = second.terms ∙ first.terms;
  more = first.more ++ second.more;
  events = second.events ∙ ap (λ (events : List Event). events ++ second.more) first.events
      ∙ append_assoc (events_of old.at_work.core) first.more second.more;
  legal = core_is_legal new.at_work.core;
}

extends_one : (old new : Machine) (smc : Smc) → Onward old new smc → Extends old new
extends_one old new smc on = record {
  boot = on.at.booted;
  terms = on.terms;
  more = on.moved.event ∷ [];
  events = on.at.history ∙ on.moved.history;
  legal = core_is_legal new.at_work.core;
}

-- ---- so many of a list

pub record ServedSo (old now : Machine) (before answers : List Told) (smcs : List Smc) (count : ℕ) : Type 0 where
  pub told : List Told
  pub added : answers ≡ before ++ told
  pub at : (boot : Booted) (play : Play) → IsAt boot play old → HasCome boot play (take count smcs) now told
  pub can : CanAllCome now (drop count smcs)
  pub extends : Extends old now

pub served_none : (old : Machine) (before : List Told) (smcs : List Smc) → CanAllCome old smcs →
    ServedSo old old before before smcs 0
served_none old before smcs can = record {
  told = [];
  added = sym (append-nil before);
  at = λ boot play at. record { next = play; comes = refl; at = at; lines = sym (append-nil play.lines) };
  can = can;
  extends = same_events old old refl refl refl;
}

-- the next of the list, where it stands
pub record IsNext (smcs : List Smc) (count : ℕ) (smc : Smc) : Type 0 where
  pub taken : take (count + 1) smcs ≡ take count smcs ++ smc ∷ []
  pub left : drop count smcs ≡ smc ∷ drop (count + 1) smcs

can_next : (now : Machine) (smcs : List Smc) (count : ℕ) (smc : Smc) → IsNext smcs count smc →
    CanAllCome now (drop count smcs) →
    IsSomeAnd (kernel_of now.at_work.core) (λ kernel. MayCome (insides kernel) smc × ComeInTurn
    (inside_after (insides kernel) smc) (drop (count + 1) smcs))
can_next now smcs count smc is can = subst (λ (rest : List Smc). CanAllCome now rest) is.left can

rest_can : (now new : Machine) (smcs : List Smc) (count : ℕ) (smc : Smc) → IsNext smcs count smc →
    CanAllCome now (drop count smcs) → Onward now new smc →
    CanAllCome new (drop (count + 1) smcs)
rest_can now new smcs count smc is can on =
    let both = subst (λ (o : Option Kernel). IsSomeAnd o (λ k. MayCome (insides k) smc × ComeInTurn
    (inside_after (insides k) smc) (drop (count + 1) smcs)))
    on.there (can_next now smcs count smc is can) in
    subst (λ (o : Option Kernel). IsSomeAnd o (λ k. ComeInTurn (insides k) (drop (count + 1) smcs))) (sym on.at.kernel)
    (subst (λ inside. ComeInTurn inside (drop (count + 1) smcs)) (sym on.moved.inside) both.1)

pub served_more : (old now new : Machine) (before answers after : List Told) (smcs : List Smc) (count : ℕ) (smc : Smc) →
    ServedSo old now before answers smcs count → IsNext smcs count smc → ServesOne now new answers after smc (Ok tt) →
    ServedSo old new before after smcs (count + 1)
served_more old now new before answers after smcs count smc so is one =
    let on = onward now new answers after smc one in
    record {
      told = so.told ++ one.told;
      added = one.added ∙ ap (λ (told : List Told). told ++ one.told) so.added ∙ append_assoc before so.told one.told;
      at = λ boot play at.
          let have = so.at boot play at in
          subst (λ (done : List Smc). HasCome boot play done new (so.told ++ one.told)) (sym is.taken)
          (come_more boot play (take count smcs) smc now new so.told one.told have (one.at boot have.next have.at));
      can = rest_can now new smcs count smc is so.can on;
      extends = further old now new so.extends (extends_one now new smc on);
    }

-- ---- the answer

pub served_all : (old now : Machine) (before answers : List Told) (smcs : List Smc) (count : ℕ) →
    ServedSo old now before answers smcs count →
    take count smcs ≡ smcs → Serves old now before answers smcs (Ok tt)
served_all old now before answers smcs count so whole = record {
  told = so.told;
  added = so.added;
  at = λ boot play at. subst (λ (done : List Smc). HasCome boot play done now so.told) whole (so.at boot play at);
}

why_rest : (boot : Booted) (play : Play) (smc : Smc) (rest : List Smc) (why : EnterRefusal) →
    IsWhy boot play (smc ∷ []) why → IsWhy boot play (smc ∷ rest) why
why_rest boot play (Comes visitor) rest (Full copied more) is = is
why_rest boot play (Leaves cpu) rest (Full copied more) is = absurd is
why_rest boot play smc rest Memory is = tt

pub served_part : (old now new : Machine) (before answers after : List Told) (smcs : List Smc) (count : ℕ)
    (smc : Smc) (why : EnterRefusal) →
    ServedSo old now before answers smcs count → IsNext smcs count smc → count ≤ length smcs → ServesOne now new
    answers after smc (Err why) →
    Serves old new before after smcs (Err (record { served = count; why = why }))
served_part old now new before answers after smcs count smc why so is few one = record {
  told = so.told ++ one.told;
  added = one.added ∙ ap (λ (told : List Told). told ++ one.told) so.added ∙ append_assoc before so.told one.told;
  at = λ boot play at.
      let have = so.at boot play at in
      let not = one.at boot have.next have.at in
      record {
        few = few;
        come = record {
          next = have.next;
          comes = have.comes;
          at = not.0;
          lines = have.lines ∙ ap (λ (told : List Told). play.lines ++ map line_of told) (sym (append-nil so.told)
              ∙ ap (λ (more : List Told). so.told ++ more) (sym not.1));
        };
        why = subst (λ (rest : List Smc). IsWhy boot have.next rest why) (sym is.left)
            (why_rest boot have.next smc (drop (count + 1) smcs) why not.2);
      };
}

-- one that has not come changes no event
pub extends_none : (old new : Machine) (before after : List Told) (smc : Smc) (why : EnterRefusal) →
    ServesOne old new before after smc (Err why) → Extends old new
extends_none old new before after smc why one =
    let kernel = some_kernel old.at_work.core in
    let not = one.at (booted_of old.at_work.core) (play_of old kernel.0) (stands old kernel.0 kernel.1) in
    same_events old new not.0.booted one.terms not.0.history

-- ---- an entry and an exit, as one of a list

found_in : (o : Option Play) (P : Play → Type 0) → IsSomeAnd o P → (next : Play) × (o ≡ Some next) × P next
found_in None P has = absurd has
found_in (Some next) P has = (next, refl, has)

prints_none : (boot : Booted) (visit : Visit) (play next : Play) → Entered boot visit play next →
    next.lines ≡ play.lines
prints_none boot visit play next (CameIn reads few came) = event_prints boot
    (Entry visit.cpu (record { a = visit.regs }) visit.steps reads) play next came
prints_none boot visit play next (WasRefused reads much same) = ap (λ (p : Play). p.lines) (sym same)

entry_come : (boot : Booted) (play : Play) (visitor : Visitor) (machine : Machine) → IsAt boot play machine →
    (new : Machine) →
    IsSomeAnd (enters boot play (visit_of (coming_of visitor))) (λ next. IsAt boot next new) → HasCome boot play
    (Comes visitor ∷ []) new []
entry_come boot play visitor machine at new has =
    let found = found_in (enters boot play (visit_of (coming_of visitor))) (λ next. IsAt boot next new) has in
    record {
      next = found.0;
      comes = one_item boot (item_of (Comes visitor)) play at.goes_on ∙ entry_item boot play visitor ∙ found.1;
      at = found.2;
      lines = prints_none boot (visit_of (coming_of visitor)) play found.0
          (entered boot (visit_of (coming_of visitor)) play found.0 found.1)
          ∙ sym (append-nil play.lines);
    }

pub one_entry : (old new : Machine) (answers : List Told) (visitor : Visitor)
    (result : Result (Unit {0}) EnterRefusal) →
    ((boot : Booted) (play : Play) → IsAt boot play old → EntersAt boot play visitor new result) → KeepsTerms old new →
    ServesOne old new answers answers (Comes visitor) result
one_entry old new answers visitor (Ok done) enters terms = record {
  told = [];
  added = sym (append-nil answers);
  terms = terms;
  at = λ boot play at. entry_come boot play visitor old at new (enters boot play at);
}
one_entry old new answers visitor (Err (Full copied more)) enters terms = record {
  told = [];
  added = sym (append-nil answers);
  terms = terms;
  at = λ boot play at. let not = enters boot play at in (not.1, refl, not.0);
}
one_entry old new answers visitor (Err Memory) enters terms = record {
  told = [];
  added = sym (append-nil answers);
  terms = terms;
  at = λ boot play at. (enters boot play at, refl, tt);
}

pub one_exit : (old new : Machine) (before after : List Told) (cpu : ℕ) (regs : Regs) →
    ((boot : Booted) (play : Play) → IsAt boot play old → LeavesAt boot play cpu new regs) → KeepsTerms old new →
    after ≡ before ++ record { cpu = cpu; regs = regs } ∷ [] → ServesOne old new before after (Leaves cpu) (Ok tt)
one_exit old new before after cpu regs leaves_it terms added = record {
  told = record { cpu = cpu; regs = regs } ∷ [];
  added = added;
  terms = terms;
  at = λ boot play at.
      let found = found_in (leaves boot cpu play) _ (leaves_it boot play at) in
      record {
        next = found.0;
        comes = one_item boot (item_of (Leaves cpu)) play at.goes_on ∙ found.1;
        at = found.2.0;
        lines = found.2.1;
      };
}

-- ---- places in a list

pub is_next : (smcs : List Smc) (count : ℕ) (other : Smc) → count < length smcs →
    IsNext smcs count (get_or smcs count other)
is_next smcs count other below = record {
  taken = take_more smcs count other below;
  left = drop-cons smcs count other below ∙ ap (λ (n : ℕ). get_or smcs count other ∷ drop n smcs) one_more;
}
  where
    one_more : suc count ≡ count + 1
    one_more = omega arith
