-- From the play of a trace on threads to what the top call says.
use Rattle.std.proofs.Common.{◌≡◌, ℕ, ◌⊎◌, inl, inr, Bool, true, false, List, [], ◌∷◌, length, Option, Some, None, refl, sym, ap, subst, ◌∙◌, arith}
use Rattle.std.specs.Prelude.{IfNone, IfSome, replicate}
use Rattle.std.proofs.lemmas.List.{length-replicate}
use Rattle.base.specs.Zeros.{zeros}
use Rattle.event_journal.specs.declared.event.Event.{Event}
use Rattle.kernel_model.specs.Application.{Booted, IsBooted, Native, booted}
use Rattle.ordered_play.specs.Blocks.{blocks_in}
use Rattle.ordered_play.specs.Merge.{order_with, setting_of}
use Rattle.ordered_play.specs.Ordered.{OrderedPlay, played_in}
use Rattle.ordered_play.specs.Act.{Act, Comes, Leaves, Writes as Puts, Shows, acts_for}
use Rattle.ordered_play.specs.Places.{ComeAndGo, ComesAndGoes}
use Rattle.ordered_play.proofs.NamedOrder.{blocks_name_the_order, has_blocks}
use Rattle.ordered_play.proofs.PartsOfPlay.{plays_have_parts}
use Rattle.ordered_play.proofs.PlacesOfPlays.{places_are_each_once}
use Rattle.play_model.specs.Play.{filled}
use Rattle.play_model.proofs.Realms.{histories_have_realms}
use Rattle.play_model.proofs.Returns.{alone_in, no_call_in, no_slot_in, returns_in, together_in}
use Rattle.ports.specs.Port.{Appends, Rose}
use Rattle.ta_isa.specs.declared.boot.Boot.{Boot}
use Rattle.threads_play.specs.InTurn.{AreInTurn}
use Rattle.threads_play.specs.Played.{IsOfTrace, TakeTurns, WasPlayed}
use Rattle.trace_text.specs.Sound.{IsSound}
use Rattle.trace_text.specs.declared.item.Item.{Item}
use Rattle.trace_text.specs.declared.trace.Fill.{Fill}
use Rattle.trace_text.specs.declared.trace.Trace.{Trace}
use Rattle.alone_runner.specs.Content.{Spells}
use Rattle.alone_runner.specs.Plays.{IsUnplayed}
use Rattle.alone_runner.specs.Run.{WasRead, reading}
use Rattle.word_parts.specs.Word.{CanBeRefused, IsBad, IsRefusedWhole, IsUnservedAs, RanAs}
use Rattle.trace_player.specs.Starting.{trace_of, uuids_of}
use Rattle.trace_runner.specs.Commands.{DoesOnThreads}
use Rattle.trace_runner.specs.Threads.{AnsweredOnThreads, AreBlocks, BlocksOf, CanBePlayedOnThreads, IsPlayedInOrder, IsPlayedOnThreads, IsServedByThreads, IsTrueInOrder, PrintsBlocks, RanOnThreads, ThreadStatuses, WritesPartOnThreads, status_where}
use Rattle.alone_runner.specs.declared.content.Content.{Content}
use Rattle.alone_runner.specs.declared.content.Content.TheVariants as content
use Rattle.alone_runner.specs.declared.command.Grammar.TheVariants.{Text}
use Rattle.word_parts.specs.declared.status.Status.{Status}
use Rattle.word_parts.specs.declared.status.Status.TheVariants.{BadTrace, ReadFault, WriteFault, Memory, TooLong}
use Rattle.word_parts.specs.declared.status.Status.TheVariants as status
use Rattle.play_model.proofs.TrueToKernel.{exits_in, refused_in}
use Rattle.alone_runner.proofs.Readings.{one_meaning}
use Rattle.word_parts.specs.Answer.{Writes}
use Rattle.word_parts.specs.Call.{Call}
use Rattle.word_parts.specs.Input.{IsReadWhole, IsTooLong}
use Rattle.word_parts.specs.Limits.{HasTooMany}
use Rattle.word_parts.specs.Line.{bad_trace_line}
use Rattle.word_parts.proofs.Answering.{is-short, writes-named, writes-part}
use Rattle.word_parts.proofs.Worded.{ran-read, told-answered}

-- ---- a play

-- what a processor does by turns
comes-and-goes : (inside : Bool) (acts : List Act) → AreInTurn inside acts → ComesAndGoes inside acts
comes-and-goes inside [] turns = turns
comes-and-goes inside (Comes steps regs ∷ acts) turns = (turns.0, comes-and-goes true acts turns.2)
comes-and-goes inside (Leaves ∷ acts) turns = (turns.0, comes-and-goes false acts turns.1)
comes-and-goes inside (Puts addr bytes ∷ acts) turns = comes-and-goes inside acts turns.1
comes-and-goes inside (Shows addr len ∷ acts) turns = comes-and-goes inside acts turns.1

come-and-go : (natives : List Native) (boot : Boot) (items : List Item) → IsBooted (booted boot natives) → TakeTurns items
    → ComeAndGo boot.cpus items
come-and-go natives boot items boots turns = λ cpu below.
    let few = boots.is_boot.few_processors in
    let same : boot.cpus ≡ boots.boot.cpus = ap (λ (b : Booted). b.cpus) boots.same in
    comes-and-goes false (acts_for cpu items) (turns cpu (omega (arith, below, few, same)))

true-in-order : (natives : List Native) (boot : Boot) (trace : Trace) (order text : List ℕ) (play : OrderedPlay)
    → IsBooted (booted boot natives) → trace.boot ≡ Some boot → TakeTurns trace.items
    → played_in natives boot trace order ≡ Some play → blocks_in natives trace order ≡ Some text
    → IsTrueInOrder natives boot trace order play
true-in-order natives boot trace order text play boots has turns is blocks =
    let on = booted boot natives in
    let of = plays_have_parts (setting_of natives boot trace) order play boots is in
    let by_turns = come-and-go natives boot trace.items boots turns in
    record {
      is_play = is;
      of_parts = of;
      exits = exits_in on play.history of.legal;
      resumes = returns_in on play.history of.legal;
      refused_resumes = no_call_in on play.history of.legal;
      change_nothing = refused_in on play.history of.legal;
      thread_limit = no_slot_in on play.history of.legal;
      alone = alone_in on play.history of.legal;
      together = together_in on play.history of.legal;
      realms = histories_have_realms on play.history of.legal;
      places = places_are_each_once (setting_of natives boot trace) play of by_turns
          (has_blocks natives boot trace order text play has is blocks).ended;
      named = λ none other same few own others.
          blocks_name_the_order natives boot trace order other same play boots has by_turns is none few own others;
    }

-- what the threads have played is true to the written kernel
pub played-in-order : (natives : List Native) (boot : Boot) (trace : Trace) (history : List Event) (text : List ℕ)
    (refused : Bool) → IsBooted (booted boot natives) → trace.boot ≡ Some boot → TakeTurns trace.items
    → WasPlayed natives boot trace history text refused → IsPlayedInOrder natives boot trace text refused
played-in-order natives boot trace history text refused boots has turns was =
    let blocks = subst (λ (h : List Event). blocks_in natives trace (order_with was.places boot.cpus 0 h) ≡ Some text)
    (sym was.is_history) was.blocks in
    record {
      play = was.play;
      places = was.places;
      is_true = true-in-order natives boot trace (order_with was.places boot.cpus 0 was.play.history) text was.play boots has
          turns
          (subst (λ (h : List Event). played_in natives boot trace (order_with was.places boot.cpus 0 h) ≡ Some was.play)
          (sym was.is_history) was.is_play) blocks;
      blocks = blocks;
      one_refused = was.one_refused;
    }

-- ---- what the threads are given

-- a lane for each processor of the core
pub lanes-there : (natives : List Native) (boot : Boot) (on : Booted) (lanes : List (List ℕ)) (lane : List ℕ)
    → on ≡ booted boot natives → lanes ≡ replicate boot.cpus lane → length lanes ≡ on.cpus
lanes-there natives boot on lanes lane is same =
    ap (λ (ls : List (List ℕ)). length ls) same ∙ length-replicate boot.cpus lane ∙ sym (ap (λ (b : Booted). b.cpus) is)

-- the items, the lanes and the core are those of the trace with this boot
pub of-trace : (natives : List Native) (boot : Boot) (fills : List Fill) (items : List Item) (on : Booted)
    (lanes : List (List ℕ)) → on ≡ booted boot natives → lanes ≡ replicate boot.cpus (filled (zeros 0x400000) fills)
    → IsOfTrace on lanes items natives boot (trace_of boot fills items)
of-trace natives boot fills items on lanes is same = record { boots = refl; core = is; items_are = refl; rams = same }

-- ---- answering

-- without a boot there are no items, and nothing is printed
none-items : (P : Type 0) (boot : Option Boot) → boot ≡ None → IfNone boot P → P
none-items P None is given = given
none-items P (Some boot) is given = absurd cc

pub served-none : (natives : List Native) (trace : Trace) (uuids : List (List ℕ)) (old new : Option (List ℕ))
    → IsSound uuids trace → trace.boot ≡ None → (HasTooMany trace.items → ⊥) → Appends old new []
    → IsServedByThreads natives trace status.Ok old new
served-none natives trace uuids old new sound is few put =
    let none = none-items ((trace.fills ≡ []) × (trace.items ≡ [])) trace.boot is sound.no_boot in
    inr (
      few,
      inr (
        record {
          text = [];
          refused = false;
          are_blocks = subst (AreBlocks natives trace [] false) (sym is) (none.1, refl, refl);
        },
        inl (refl, put),
      ),
    )

pub served-some : (natives : List Native) (trace same : Trace) (boot : Boot) (text : List ℕ) (refused : Bool)
    (result : Status) (old new : Option (List ℕ)) → same ≡ trace → same.boot ≡ Some boot
    → (HasTooMany trace.items → ⊥) → IsPlayedInOrder natives boot same text refused
    → Writes (status_where refused) text result old new → IsServedByThreads natives trace result old new
served-some natives trace same boot text refused result old new is has few played writes =
    subst (λ (t : Trace). (HasTooMany t.items → ⊥) → IsServedByThreads natives t result old new) is
    (λ less. inr (
      less,
      inr (
        record {
          text = text;
          refused = refused;
          are_blocks = subst (AreBlocks natives same text refused) (sym has) played;
        },
        writes,
      ),
    )) few

-- ---- reading

-- an input that was read whole is served
pub threads-served : (natives : List Native) (told left : Option (List ℕ)) (bytes : List ℕ) (read : Content) (trace : Trace)
    (result : Status) (old new : Option (List ℕ)) → IsReadWhole bytes told left → WasRead Text natives bytes read
    → read ≡ content.Trace trace → IsServedByThreads natives trace result old new
    → IfSome told (λ input. RanOnThreads natives input left result old new)
threads-served natives told left bytes read trace result old new whole was is served =
    ran-read (λ input. AnsweredOnThreads natives input result old new) told left bytes result old new whole (inr (inr (record {
      trace = trace;
      spelled = subst (Spells Text (uuids_of natives) bytes) is was.spelled;
      served = served;
    })))

-- one that isn't served is answered as without threads
pub threads-unserved : (natives : List Native) (told left : Option (List ℕ)) (result : Status) (old new : Option (List ℕ))
    → IfSome told (λ input. RanAs input (IsUnservedAs (reading Text natives) input result old new) left result old new)
    → IfSome told (λ input. RanOnThreads natives input left result old new)
threads-unserved natives told left result old new ran =
    told-answered (λ input. IsUnservedAs (reading Text natives) input result old new)
    (λ input. AnsweredOnThreads natives input result old new) told left result old new by_answer ran
  where
    by_answer : (input : List ℕ) → IsUnservedAs (reading Text natives) input result old new
        → AnsweredOnThreads natives input result old new
    by_answer input (inl want) = inl want
    by_answer input (inr refused) = inr (inl refused)

-- ---- each status

not-bad : (refused : Bool) → BadTrace ≡ status_where refused → ⊥
not-bad false e = absurd cc
not-bad true e = absurd cc

other-where : (refused : Bool) (result : Status) → (result ≡ status.Ok → ⊥) × (result ≡ BadTrace → ⊥)
    × (result ≡ TooLong → ⊥) → result ≡ status_where refused → ⊥
other-where false result other e = other.0 e
other-where true result other e = other.2 e

-- the status is none at which a text may be cut short, and not that of a bad trace
record IsPlays (result : Status) : Type 0 where
  no_read : result ≡ ReadFault → ⊥
  no_write : result ≡ WriteFault → ⊥
  no_want : result ≡ Memory → ⊥
  no_fault : result ≡ BadTrace → ⊥

-- a text was played, or it was too much to be played
abbrev Printed : List Native → List ℕ → Option (List ℕ) → Status → Option (List ℕ) → Option (List ℕ) → Type 0
Printed natives input left result old new =
    ((result ≡ TooLong) × IsUnplayed Text natives input × Appends old new [])
    ⊎ ((left ≡ Some []) × IsPlayedOnThreads natives input result old new)

served-printed : (natives : List Native) (input : List ℕ) (left : Option (List ℕ)) (trace : Trace) (result : Status)
    (old new : Option (List ℕ)) → IsPlays result → (IsTooLong input → ⊥) → left ≡ Some []
    → Spells Text (uuids_of natives) input (content.Trace trace) → IsServedByThreads natives trace result old new
    → Printed natives input left result old new
served-printed natives input left trace result old new plays short ended spelled (inl many) =
    inl (many.1, inr (trace, spelled, many.0), many.2)
served-printed natives input left trace result old new plays short ended spelled (inr (few, inl want)) =
    absurd (plays.no_want want.0)
served-printed natives input left trace result old new plays short ended spelled (inr (few, inr (of, writes))) =
    let put = writes-named (status_where of.refused) of.text result old new writes plays.no_write plays.no_want in
    inr (
      ended,
      record {
        trace = trace;
        can = record { short = short; spelled = spelled; few = few };
        printed = (of, put.0, put.1);
      },
    )

ran-printed : (natives : List Native) (input : List ℕ) (left : Option (List ℕ)) (result : Status)
    (old new : Option (List ℕ)) → IsPlays result → RanOnThreads natives input left result old new
    → Printed natives input left result old new
ran-printed natives input left result old new plays (inl ((inl fault), nothing)) = absurd (plays.no_read fault)
ran-printed natives input left result old new plays (inl ((inr want), nothing)) = absurd (plays.no_want want)
ran-printed natives input left result old new plays (inr (inl long)) = inl (long.0, inl long.1, long.2)
ran-printed natives input left result old new plays (inr (inr (short, ended, inl want))) = absurd (plays.no_want want.0)
ran-printed natives input left result old new plays (inr (inr (short, ended, inr (inl refused)))) =
    let put = writes-named BadTrace (bad_trace_line refused.place refused.kind) result old new refused.line
    plays.no_write plays.no_want in
    absurd (plays.no_fault put.0)
ran-printed natives input left result old new plays (inr (inr (short, ended, inr (inr served)))) =
    served-printed natives input left served.trace result old new plays (λ long. absurd (omega (arith, long, short))) ended
    served.spelled served.served

-- at BadTrace
served-not-bad : (natives : List Native) (trace : Trace) (old new : Option (List ℕ))
    → IsServedByThreads natives trace BadTrace old new → ⊥
served-not-bad natives trace old new (inl many) = let e = many.1 in absurd cc
served-not-bad natives trace old new (inr (few, inl want)) = let e = want.0 in absurd cc
served-not-bad natives trace old new (inr (few, inr (of, writes))) =
    not-bad of.refused (writes-named (status_where of.refused) of.text BadTrace old new writes
    (λ e. absurd cc) (λ e. absurd cc)).0

ran-bad : (natives : List Native) (input : List ℕ) (left old new : Option (List ℕ))
    → RanOnThreads natives input left BadTrace old new → IsBad (reading Text natives) input old new
ran-bad natives input left old new (inl ((inl e), nothing)) = absurd cc
ran-bad natives input left old new (inl ((inr e), nothing)) = absurd cc
ran-bad natives input left old new (inr (inl long)) = let e = long.0 in absurd cc
ran-bad natives input left old new (inr (inr (short, ended, inl want))) = let e = want.0 in absurd cc
ran-bad natives input left old new (inr (inr (short, ended, inr (inl refused)))) =
    let whole = writes-named BadTrace (bad_trace_line refused.place refused.kind) BadTrace old new refused.line
    (λ e. absurd cc) (λ e. absurd cc) in
    (λ long. absurd (omega (arith, long, short)), (refused.place, refused.kind, refused.first, whole.1))
ran-bad natives input left old new (inr (inr (short, ended, inr (inr served)))) =
    absurd (served-not-bad natives served.trace old new served.served)

-- at WriteFault and Memory
served-part : (natives : List Native) (input : List ℕ) (trace : Trace) (result : Status) (old new : Option (List ℕ))
    → Spells Text (uuids_of natives) input (content.Trace trace) → (result ≡ WriteFault) ⊎ (result ≡ Memory)
    → IsServedByThreads natives trace result old new → WritesPartOnThreads natives input old new
served-part natives input trace result old new spelled short (inl many) = inl many.2
served-part natives input trace result old new spelled short (inr (few, inl want)) = inl want.1
served-part natives input trace result old new spelled short (inr (few, inr (of, writes))) =
    inr (inr (
      trace,
      spelled,
      (
        of,
        writes-part (status_where of.refused) of.text result old new writes
            (other-where of.refused result (is-short result short)),
      ),
    ))

ran-part : (natives : List Native) (input : List ℕ) (left : Option (List ℕ)) (result : Status)
    (old new : Option (List ℕ)) → RanOnThreads natives input left result old new
    → (result ≡ WriteFault) ⊎ (result ≡ Memory) → WritesPartOnThreads natives input old new
ran-part natives input left result old new (inl unread) short = inl unread.1
ran-part natives input left result old new (inr (inl long)) short = inl long.2
ran-part natives input left result old new (inr (inr (few, ended, inl want))) short = inl want.1
ran-part natives input left result old new (inr (inr (few, ended, inr (inl refused)))) short =
    inr (inl (
      refused.place,
      refused.kind,
      refused.first,
      writes-part BadTrace (bad_trace_line refused.place refused.kind) result old new refused.line
          (is-short result short).1,
    ))
ran-part natives input left result old new (inr (inr (few, ended, inr (inr served)))) short =
    served-part natives input served.trace result old new served.spelled short served.served

ran-statuses : (natives : List Native) (input : List ℕ) (left : Option (List ℕ)) (result : Status)
    (old new : Option (List ℕ)) → RanOnThreads natives input left result old new
    → ThreadStatuses natives input left result old new
ran-statuses natives input left result old new ran = record {
  ok = λ e. at-ok e (ran-printed natives input left result old new (record {
    no_read = λ f. absurd cc;
    no_write = λ f. absurd cc;
    no_want = λ f. absurd cc;
    no_fault = λ f. absurd cc;
  }) ran);
  too_long = λ e. at-long (ran-printed natives input left result old new (record {
    no_read = λ f. absurd cc;
    no_write = λ f. absurd cc;
    no_want = λ f. absurd cc;
    no_fault = λ f. absurd cc;
  }) ran);
  bad_trace = λ e. ran-bad natives input left old new
      (subst (λ (s : Status). RanOnThreads natives input left s old new) e ran);
  part = ran-part natives input left result old new ran;
}
  where
    at-ok : result ≡ status.Ok → Printed natives input left result old new
        → (left ≡ Some []) × IsPlayedOnThreads natives input result old new
    at-ok e (inl unplayed) = let long = unplayed.0 in absurd cc
    at-ok e (inr played) = played

    at-long : Printed natives input left result old new
        → (IsUnplayed Text natives input × Appends old new []) ⊎ IsPlayedOnThreads natives input result old new
    at-long (inl unplayed) = inl (unplayed.1, unplayed.2)
    at-long (inr played) = inr played.1

-- over an input that the source tells
pub threads-statuses : (natives : List Native) (told left : Option (List ℕ)) (result : Status) (old new : Option (List ℕ))
    → IfSome told (λ input. RanOnThreads natives input left result old new)
    → IfSome told (λ input. ThreadStatuses natives input left result old new)
threads-statuses natives (Some input) left result old new ran = ran-statuses natives input left result old new ran
threads-statuses natives None left result old new ran = tt

-- ---- completeness

blocks-whole : (natives : List Native) (trace : Trace) (result : Status) (old new : Option (List ℕ)) (of : BlocksOf natives trace)
    → (result ≡ WriteFault → ⊥) → Writes (status_where of.refused) of.text result old new
    → PrintsBlocks natives trace result old new ⊎ (result ≡ Memory)
blocks-whole natives trace result old new of no_write (inl whole) = inl (of, whole.0, whole.1)
blocks-whole natives trace result old new of no_write (inr ((inl fault), part)) = absurd (no_write fault)
blocks-whole natives trace result old new of no_write (inr ((inr want), part)) = inr want

served-whole : (natives : List Native) (trace : Trace) (result : Status) (old new : Option (List ℕ))
    → (HasTooMany trace.items → ⊥) → (result ≡ WriteFault → ⊥) → IsServedByThreads natives trace result old new
    → PrintsBlocks natives trace result old new ⊎ (result ≡ Memory)
served-whole natives trace result old new few no_write (inl many) = absurd (few many.0)
served-whole natives trace result old new few no_write (inr (less, inl want)) = inr want.0
served-whole natives trace result old new few no_write (inr (less, inr (of, writes))) =
    blocks-whole natives trace result old new of no_write writes

ran-whole : (natives : List Native) (input : List ℕ) (left : Option (List ℕ)) (result : Status) (old new : Option (List ℕ))
    (trace : Trace) → CanBePlayedOnThreads natives input trace → (result ≡ ReadFault → ⊥) → (result ≡ WriteFault → ⊥)
    → RanOnThreads natives input left result old new → PrintsBlocks natives trace result old new ⊎ (result ≡ Memory)
ran-whole natives input left result old new trace can no_read no_write (inl ((inl fault), nothing)) = absurd (no_read fault)
ran-whole natives input left result old new trace can no_read no_write (inl ((inr want), nothing)) = inr want
ran-whole natives input left result old new trace can no_read no_write (inr (inl long)) = absurd (can.short long.1)
ran-whole natives input left result old new trace can no_read no_write (inr (inr (short, ended, inl want))) = inr want.0
ran-whole natives input left result old new trace can no_read no_write (inr (inr (short, ended, inr (inl refused)))) =
    absurd ((one_meaning Text natives input).not_both (content.Trace trace) refused.place refused.kind can.spelled
    refused.first)
ran-whole natives input left result old new trace can no_read no_write (inr (inr (short, ended, inr (inr served)))) =
    let both = (one_meaning Text natives input).one_content (content.Trace served.trace) (content.Trace trace)
    served.spelled can.spelled in
    let same : served.trace ≡ trace = cc in
    served-whole natives trace result old new can.few no_write
    (subst (λ (t : Trace). IsServedByThreads natives t result old new) same served.served)

-- a trace that can be played is, where no port has failed
pub threads-whole : (natives : List Native) (told left : Option (List ℕ)) (result : Status) (old new : Option (List ℕ))
    (a b c d : ℕ) → (result ≡ ReadFault → Rose a b) → (result ≡ WriteFault → Rose c d)
    → IfSome told (λ input. RanOnThreads natives input left result old new)
    → IfSome told (λ input. (trace : Trace) → CanBePlayedOnThreads natives input trace → (Rose a b → ⊥) × (Rose c d → ⊥)
    → PrintsBlocks natives trace result old new ⊎ (result ≡ Memory))
threads-whole natives (Some input) left result old new a b c d read write ran = λ trace can quiet.
    ran-whole natives input left result old new trace can (λ e. quiet.0 (read e)) (λ e. quiet.1 (write e)) ran
threads-whole natives None left result old new a b c d read write ran = tt

-- ---- inputs that leave their grammar

ran-refused : (natives : List Native) (input : List ℕ) (left : Option (List ℕ)) (result : Status) (old new : Option (List ℕ))
    → CanBeRefused (reading Text natives) input → (result ≡ ReadFault → ⊥) → (result ≡ WriteFault → ⊥)
    → RanOnThreads natives input left result old new
    → IsRefusedWhole (reading Text natives) input result old new ⊎ (result ≡ Memory)
ran-refused natives input left result old new can no_read no_write (inl ((inl fault), nothing)) = absurd (no_read fault)
ran-refused natives input left result old new can no_read no_write (inl ((inr want), nothing)) = inr want
ran-refused natives input left result old new can no_read no_write (inr (inl long)) = absurd (can.short long.1)
ran-refused natives input left result old new can no_read no_write (inr (inr (short, ended, inl want))) = inr want.0
ran-refused natives input left result old new can no_read no_write (inr (inr (short, ended, inr (inl refused)))) =
    by_line refused.line
  where
    by_line : Writes BadTrace (bad_trace_line refused.place refused.kind) result old new
        → IsRefusedWhole (reading Text natives) input result old new ⊎ (result ≡ Memory)
    by_line (inl whole) = inl (whole.0, (can.short, (refused.place, refused.kind, refused.first, whole.1)))
    by_line (inr ((inl fault), part)) = absurd (no_write fault)
    by_line (inr ((inr want), part)) = inr want
ran-refused natives input left result old new can no_read no_write (inr (inr (short, ended, inr (inr served)))) =
    absurd (can.spells_nothing (content.Trace served.trace) served.spelled)

-- an input that leaves its grammar is answered by its first fault, where no port has failed
pub threads-refused : (natives : List Native) (told left : Option (List ℕ)) (result : Status) (old new : Option (List ℕ))
    (a b c d : ℕ) → (result ≡ ReadFault → Rose a b) → (result ≡ WriteFault → Rose c d)
    → IfSome told (λ input. RanOnThreads natives input left result old new)
    → IfSome told (λ input. CanBeRefused (reading Text natives) input → (Rose a b → ⊥) × (Rose c d → ⊥)
    → IsRefusedWhole (reading Text natives) input result old new ⊎ (result ≡ Memory))
threads-refused natives (Some input) left result old new a b c d read write ran = λ can quiet.
    ran-refused natives input left result old new can (λ e. quiet.0 (read e)) (λ e. quiet.1 (write e)) ran
threads-refused natives None left result old new a b c d read write ran = tt

-- ---- a call

-- all of that
pub does-on-threads : (natives : List Native) (call : Call) → (call.result ≡ ReadFault → Rose call.source_old call.source_new)
    → (call.result ≡ WriteFault → Rose call.sink_old call.sink_new) → (call.result ≡ Memory → call.new ≡ call.old)
    → IfSome call.told (λ input. RanOnThreads natives input call.left call.result call.old call.new) → DoesOnThreads natives call
does-on-threads natives call read write memory ran = record {
  ran = ran;
  statuses = threads-statuses natives call.told call.left call.result call.old call.new ran;
  memory = memory;
  complete = threads-whole natives call.told call.left call.result call.old call.new call.source_old call.source_new
      call.sink_old call.sink_new read write ran;
  refuses = threads-refused natives call.told call.left call.result call.old call.new call.source_old call.source_new
      call.sink_old call.sink_new read write ran;
}
