-- From what was answered to the play that was printed.
use Rattle.std.proofs.Common.{◌≡◌, ℕ, ◌^◌, ◌≤◌, ◌⊎◌, inl, inr, List, [], Option, Some, None, refl, subst}
use Rattle.std.specs.Option.{option_and_then, option_map}
use Rattle.kernel_model.specs.Application.{IsBooted, Native, booted}
use Rattle.made_play.specs.Summary.{made_play, summary_of, summary_of_play}
use Rattle.made_play.proofs.Ends.{law as made_plays_end}
use Rattle.made_play.proofs.Sound.{law as made_traces_are_sound}
use Rattle.play_model.specs.Play.{Play, played}
use Rattle.play_model.specs.Text.{text_by, text_of_play}
use Rattle.play_model.proofs.TrueToKernel.{plays_are_true}
use Rattle.ports.specs.Port.{Appends}
use Rattle.ta_isa.specs.declared.boot.Boot.{Boot}
use Rattle.ta_isa.specs.declared.image.Image.{Image}
use Rattle.trace_text.specs.declared.trace.Trace.{Trace}
use Rattle.workload.specs.Work.{made_boot, made_trace}
use Rattle.journal_runner.specs.Known.{CanBootWith}
use Rattle.alone_runner.specs.Content.{CanBePlayed, IsTooLarge, Spells, refused_for, text_for}
use Rattle.trace_player.specs.Refused.{refused_by}
use Rattle.alone_runner.specs.Plays.{IsPlayed, IsPrinted, IsPrintedBy, IsSummedUp, IsUnplayed, Plays, SpellsTraces}
use Rattle.alone_runner.specs.Run.{Worked, reading}
use Rattle.word_parts.specs.Word.{Ran}
use Rattle.trace_player.specs.Starting.{uuids_of}
use Rattle.word_parts.specs.Answer.{Writes, status_of_play}
use Rattle.alone_runner.specs.declared.content.Content.{Content}
use Rattle.alone_runner.specs.declared.content.Content.TheVariants as content
use Rattle.alone_runner.specs.declared.command.Grammar.{Grammar}
use Rattle.alone_runner.specs.declared.command.Grammar.TheVariants.{Text, Records, Assembler}
use Rattle.word_parts.specs.declared.status.Status.{Status}
use Rattle.word_parts.specs.declared.status.Status.TheVariants as status
use Rattle.word_parts.proofs.Ended.{IsUnserved, WasServed, ran-served, ran-served-or-not}
use Rattle.word_parts.proofs.Worded.{some-and}
use Rattle.word_parts.proofs.Answering.{writes-named}

-- ---- a trace

-- the play whose text was written
printed-play : (natives : List Native) (boot : Boot) (trace : Trace) (result : Status) (text : List ℕ)
    (old new : Option (List ℕ)) (o : Option Play) → played natives boot trace ≡ o → IsBooted (booted boot natives)
    → option_map text_of_play o ≡ Some text → result ≡ status_of_play (option_and_then (λ (p : Play). p.refused) o)
    → Appends old new text → IsPrinted natives boot trace result old new
printed-play natives boot trace result text old new None e boots is same put = absurd cc
printed-play natives boot trace result text old new (Some play) e boots is same put =
    let text_is : text ≡ text_of_play play = cc in
    record {
      play = play;
      is_true = plays_are_true natives boot trace play boots e;
      text = subst (Appends old new) text_is put;
      status = same;
    }

-- by the boot of the trace
printed-by : (natives : List Native) (trace : Trace) (result : Status) (text : List ℕ) (old new : Option (List ℕ))
    (boot : Option Boot) → CanBootWith natives trace boot → text_by natives trace boot ≡ Some text
    → result ≡ status_of_play (refused_by natives trace boot) → Appends old new text
    → IsPrintedBy natives trace result old new boot
printed-by natives trace result text old new None none is same put =
    let text_is : text ≡ [] = cc in (none, same, subst (Appends old new) text_is put)
printed-by natives trace result text old new (Some boot) boots is same put =
    printed-play natives boot trace result text old new (played natives boot trace) refl boots is same put

-- ---- an input

no_image : (grammar : Grammar) (natives : List (List ℕ)) (input : List ℕ) (image : Image) → SpellsTraces grammar
    → Spells grammar natives input (content.Image image) → ⊥
no_image Text natives input image traces spelled = spelled
no_image Records natives input image traces spelled = spelled
no_image Assembler natives input image traces spelled = traces

served-played : (grammar : Grammar) (natives : List Native) (input : List ℕ) (content : Content) (result : Status)
    (text : List ℕ) (old new : Option (List ℕ)) → SpellsTraces grammar → Spells grammar (uuids_of natives) input content
    → (IsTooLarge content → ⊥) → CanBePlayed natives content → text_for natives content ≡ Some text
    → result ≡ status_of_play (refused_for natives content) → Appends old new text
    → IsPlayed grammar natives input result old new
served-played grammar natives input (content.Image image) result text old new traces spelled few can is same put =
    absurd (no_image grammar (uuids_of natives) input image traces spelled)
served-played grammar natives input (content.Trace trace) result text old new traces spelled few can is same put = record {
  trace = trace;
  spelled = spelled;
  few = few;
  printed = printed-by natives trace result text old new trace.boot can is same put;
}

-- what was served is what was played
was-played : (grammar : Grammar) (natives : List Native) (input : List ℕ) (result : Status) (old new : Option (List ℕ))
    → SpellsTraces grammar → WasServed (reading grammar natives) input result old new
    → IsPlayed grammar natives input result old new
was-played grammar natives input result old new traces served =
    served-played grammar natives input served.content result served.text old new traces served.spelled served.few served.known
    served.is_text served.stands_for served.put

-- or it was too much to be played
was-unplayed : (grammar : Grammar) (natives : List Native) (input : List ℕ) → SpellsTraces grammar
    → IsUnserved (reading grammar natives) input → IsUnplayed grammar natives input
was-unplayed grammar natives input traces (inl long) = inl long
was-unplayed grammar natives input traces (inr (content.Trace trace, spelled, many)) = inr (trace, spelled, many)
was-unplayed grammar natives input traces (inr (content.Image image, spelled, many)) = absurd many

-- what a call that keeps to the word shows
pub ran-plays : (grammar : Grammar) (natives : List Native) (input : List ℕ) (left : Option (List ℕ)) (result : Status)
    (old new : Option (List ℕ)) → SpellsTraces grammar → Ran (reading grammar natives) input left result old new
    → Plays grammar natives input result old new
ran-plays grammar natives input left result old new traces ran = record {
  ok = λ e. was-played grammar natives input result old new traces
      (ran-served (reading grammar natives) input left result old new ran e);
  too_long = λ e. by_end (ran-served-or-not (reading grammar natives) input left result old new ran e);
}
  where
    by_end : IsUnserved (reading grammar natives) input ⊎ WasServed (reading grammar natives) input result old new
        → IsUnplayed grammar natives input ⊎ IsPlayed grammar natives input result old new
    by_end (inl unserved) = inl (was-unplayed grammar natives input traces unserved)
    by_end (inr served) = inr (was-played grammar natives input result old new traces served)

-- ---- a made trace

summed : (seed count : ℕ) (line : List ℕ) (old new : Option (List ℕ)) (o : Option Play) → made_play seed count ≡ o
    → option_map (summary_of_play seed count) o ≡ Some line → ((play : Play) → o ≡ Some play → play.refused ≡ None)
    → Appends old new line → IsSummedUp seed count old new
summed seed count line old new None e is ends put = absurd cc
summed seed count line old new (Some play) e is ends put =
    let line_is : line ≡ summary_of_play seed count play = cc in
    record {
      play = play;
      is_true = plays_are_true [] made_boot (made_trace seed count) play made_traces_are_sound.boots e;
      goes_on = ends play refl;
      summary = subst (Appends old new) line_is put;
    }

refuses-none : (seed count : ℕ) → count ≤ 2 ^ 16 → (play : Play) → made_play seed count ≡ Some play
    → play.refused ≡ None
refuses-none seed count few play is =
    let ended = some-and (λ (p : Play). p.refused ≡ None) (made_play seed count) (made_plays_end.ends seed count few) in
    let same : ended.0 ≡ play = cc in
    subst (λ (p : Play). p.refused ≡ None) same ended.2

pub worked-plays : (seed count : ℕ) (old new : Option (List ℕ)) → count ≤ 2 ^ 16
    → Worked seed count status.Ok old new → IsSummedUp seed count old new
worked-plays seed count old new few (inl want) = let e = want.0 in absurd cc
worked-plays seed count old new few (inr worked) =
    let line = some-and (λ (l : List ℕ). Writes status.Ok l status.Ok old new) (summary_of seed count) worked in
    let put = writes-named status.Ok line.0 status.Ok old new line.2 (λ e. absurd cc) (λ e. absurd cc) in
    summed seed count line.0 old new (made_play seed count) refl line.1 (refuses-none seed count few) put.1
