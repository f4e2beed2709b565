-- From what was read, played and answered to what the top call says.
use Rattle.std.proofs.Common.{◌≡◌, ℕ, ◌^◌, ◌≤◌, ◌⊎◌, inl, inr, List, [], Option, Some, None, refl, sym, ap, subst}
use Rattle.std.specs.Prelude.{IsSomeAnd, Ok}
use Rattle.std.specs.Option.{option_map}
use Rattle.kernel_model.specs.Application.{Native}
use Rattle.play_model.specs.Play.{Play}
use Rattle.play_model.specs.Text.{text_by}
use Rattle.ports.specs.Port.{Appends, Rose}
use Rattle.trace_text.specs.declared.trace.Trace.{Trace}
use Rattle.made_play.specs.Summary.{made_play, summary_of, summary_of_play}
use Rattle.made_play.proofs.Ends.{law as made_plays_end}
use Rattle.trace_player.specs.Refused.{refused_by}
use Rattle.word_parts.specs.Answer.{Writes}
use Rattle.word_parts.specs.Call.{Call}
use Rattle.word_parts.specs.Output.{AppendsPart}
use Rattle.word_parts.proofs.Answering.{is-short, writes-named, writes-part, writes-whole}
use Rattle.word_parts.proofs.Worded.{some-and}
use Rattle.word_parts.specs.declared.status.Status.{Status}
use Rattle.word_parts.specs.declared.status.Status.TheVariants.{WriteFault, Memory}
use Rattle.word_parts.specs.declared.status.Status.TheVariants as status
use Rattle.alone_runner.specs.Commands.{SumsUp}
use Rattle.alone_runner.specs.Run.{IsToldOf, WorkStatuses, Worked, WritesSummary}
use Rattle.alone_runner.proofs.Plays.{worked-plays}

-- ---- playing

-- without a boot there is nothing to play
pub told-none : (natives : List Native) (trace : Trace) (old new : Option (List ℕ)) → trace.boot ≡ None
    → Appends old new [] → IsToldOf natives trace (Ok tt) old new
told-none natives trace old new is put = (
  ap (refused_by natives trace) is,
  subst (λ (o : Option (List ℕ)). IsSomeAnd o (Appends old new)) (sym (ap (text_by natives trace) is)) put,
)

-- ---- made traces

-- each has a summary
summary-there : (seed count : ℕ) (P : List ℕ → Type 0) → count ≤ 2 ^ 16 → ((line : List ℕ) → P line)
    → IsSomeAnd (summary_of seed count) P
summary-there seed count P few each =
    let play = some-and (λ (p : Play). p.refused ≡ None) (made_play seed count) (made_plays_end.ends seed count few) in
    subst (λ (o : Option Play). IsSomeAnd (option_map (summary_of_play seed count) o) P) (sym play.1)
    (each (summary_of_play seed count play.0))

pub worked-statuses : (seed count : ℕ) (result : Status) (old new : Option (List ℕ)) → count ≤ 2 ^ 16
    → Worked seed count result old new → WorkStatuses seed count result old new
worked-statuses seed count result old new few (inl (want, nothing)) = record {
  ok = λ e. absurd cc;
  part = λ short. summary-there seed count (AppendsPart old new) few
      (λ line. record { part = []; rest = line; cut = refl; put = nothing });
  no_other = inr (inr want);
}
worked-statuses seed count result old new few (inr worked) =
    let line = some-and (λ (l : List ℕ). Writes status.Ok l result old new) (summary_of seed count) worked in
    record {
      ok = λ e. subst (λ (o : Option (List ℕ)). IsSomeAnd o (Appends old new)) (sym line.1)
          (writes-named status.Ok line.0 result old new line.2 (λ f. absurd cc) (λ f. absurd cc)).1;
      part = λ short. subst (λ (o : Option (List ℕ)). IsSomeAnd o (AppendsPart old new)) (sym line.1)
          (writes-part status.Ok line.0 result old new line.2 (is-short result short).0);
      no_other = writes-status line.0 result old new line.2;
    }
  where
    writes-status : (text : List ℕ) (result : Status) (old new : Option (List ℕ)) → Writes status.Ok text result old new
        → (result ≡ status.Ok) ⊎ ((result ≡ WriteFault) ⊎ (result ≡ Memory))
    writes-status text result old new (inl whole) = inl whole.0
    writes-status text result old new (inr part) = inr part.0

pub worked-whole : (seed count : ℕ) (result : Status) (old new : Option (List ℕ)) → (result ≡ WriteFault → ⊥)
    → Worked seed count result old new
    → ((result ≡ status.Ok) × WritesSummary seed count old new) ⊎ (result ≡ Memory)
worked-whole seed count result old new no_fault (inl (want, nothing)) = inr want
worked-whole seed count result old new no_fault (inr worked) =
    let line = some-and (λ (l : List ℕ). Writes status.Ok l result old new) (summary_of seed count) worked in
    by_end line.0 line.1 (writes-whole line.0 result old new line.2 no_fault)
  where
    by_end : (text : List ℕ) → summary_of seed count ≡ Some text
        → ((result ≡ status.Ok) × Appends old new text) ⊎ (result ≡ Memory)
        → ((result ≡ status.Ok) × WritesSummary seed count old new) ⊎ (result ≡ Memory)
    by_end text is (inl whole) =
        inl (whole.0, subst (λ (o : Option (List ℕ)). IsSomeAnd o (Appends old new)) (sym is) whole.1)
    by_end text is (inr want) = inr want

-- all of that
pub sums-up : (seed count : ℕ) (call : Call) → count ≤ 2 ^ 16 → (call.result ≡ WriteFault → Rose call.sink_old call.sink_new)
    → Worked seed count call.result call.old call.new → SumsUp seed count call
sums-up seed count call few failed worked = record {
  worked = worked;
  statuses = worked-statuses seed count call.result call.old call.new few worked;
  plays = λ ok. worked-plays seed count call.old call.new few
      (subst (λ (s : Status). Worked seed count s call.old call.new) ok worked);
  complete = λ quiet. worked-whole seed count call.result call.old call.new (λ e. quiet (failed e)) worked;
}
