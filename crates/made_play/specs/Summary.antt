-- The summary of a made trace: how many of its answers were of which kind, and the digest of what its play prints. This
-- project's own.
use Rattle.std.specs.Prelude.{ℕ, ◌/◌, ◌^◌, ◌==◌, ◌&&◌, not, Bool, false, List, [], ◌∷◌, ◌++◌, codes, None, Some, Option}
use Rattle.std.specs.Fmt.{decimal}
use Rattle.std.specs.List.{count_by}
use Rattle.std.specs.Option.{option_map, option_map_or}
use Rattle.event_journal.specs.declared.event.Event.{Event}
use Rattle.event_journal.specs.declared.event.Event.TheVariants.{Entry, Exit}
use Rattle.hex.specs.Hex.{encode_lower}
use Rattle.kernel_model.specs.Argument.{reg}
use Rattle.play_model.specs.Play.{Play, played}
use Rattle.play_model.specs.Text.{text_of_play}
use Rattle.sha2.specs.Sha256.{sha256}
use Rattle.workload.specs.Work.{made_boot, made_trace}

-- ---- answers

-- OPTEE_SMC_RETURN_OK, _ETHREAD_LIMIT and _ERESUME
abbrev pub is_ok : ℕ → Bool
is_ok a0 = a0 == 0

abbrev pub is_limit : ℕ → Bool
is_limit a0 = a0 == 1

abbrev pub is_resume : ℕ → Bool
is_resume a0 = a0 == 3

-- one that asks for something: its upper half is FFFF, but all ones are the answer to an unknown function
abbrev pub is_rpc : ℕ → Bool
is_rpc a0 = (a0 / 2 ^ 16 == 0xffff) && not (a0 == 0xffff_ffff)

-- the a0 of an answer
abbrev pub a0_told : Event → Option ℕ
a0_told (Entry cpu regs steps reads) = None
a0_told (Exit cpu told) = Some (reg told.a 0)

-- the event is an answer whose a0 passes the test
abbrev pub answers : (ℕ → Bool) → Event → Bool
answers test event = option_map_or test (a0_told event) false

-- how many answers of a history do
abbrev pub answers_in : List Event → (ℕ → Bool) → ℕ
answers_in history test = count_by (answers test) history

-- ---- the line

-- a word and a number behind it, each behind a space
abbrev pub counted : List ℕ → ℕ → List ℕ
counted word count = 32 ∷ word ++ 32 ∷ decimal count

-- how many answers were of each kind
abbrev pub answer_counts : List Event → List ℕ
answer_counts history =
    counted (codes "ok") (answers_in history is_ok)
    ++ counted (codes "limit") (answers_in history is_limit)
    ++ counted (codes "resume") (answers_in history is_resume)
    ++ counted (codes "rpc") (answers_in history is_rpc)

-- `work SEED COUNT ok N limit N resume N rpc N sha256 HEX`, of a history and of the digest of what was printed
abbrev pub summary_line : ℕ → ℕ → List Event → List ℕ → List ℕ
summary_line seed count history digest =
    codes "work " ++ decimal seed ++ 32 ∷ decimal count ++ answer_counts history
    ++ codes " sha256 " ++ encode_lower digest ++ 10 ∷ []

-- of a play
abbrev pub summary_of_play : ℕ → ℕ → Play → List ℕ
summary_of_play seed count play = summary_line seed count play.history (sha256 (text_of_play play))

-- the play of the trace that a seed makes with so many calls, without built-in applications
abbrev pub made_play : ℕ → ℕ → Option Play
made_play seed count = played [] made_boot (made_trace seed count)

-- its summary
abbrev pub summary_of : ℕ → ℕ → Option (List ℕ)
summary_of seed count = option_map (summary_of_play seed count) (made_play seed count)
