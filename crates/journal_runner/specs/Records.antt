-- What was played where `record` ends with 0, or with TooLong by a refused entry.
use Rattle.std.specs.Prelude.{◌≡◌, ◌⊎◌, ℕ, List, [], Option, None, Some}
use Rattle.audit_model.specs.Verdicts.{IsSteady}
use Rattle.audit_model.specs.declared.verdict.Verdict.TheVariants.{Legal}
use Rattle.journal_bytes.specs.Spelling.{whole_with}
use Rattle.kernel_model.specs.Application.{Native}
use Rattle.play_model.specs.Play.{Play}
use Rattle.play_model.specs.TrueToKernel.{IsTrueToKernel}
use Rattle.ports.specs.Port.{Appends}
use Rattle.ta_isa.specs.declared.boot.Boot.{Boot}
use Rattle.trace_player.specs.Starting.{uuids_of}
use Rattle.trace_text.specs.Grammar.{Spells}
use Rattle.trace_text.specs.declared.trace.Trace.{Trace}
use Rattle.word_parts.specs.Answer.{status_of_play}
use Rattle.word_parts.specs.Input.{IsTooLong}
use Rattle.word_parts.specs.Limits.{HasTooMany}
use Rattle.word_parts.specs.declared.status.Status.{Status}
use Rattle.word_parts.specs.declared.status.Status.TheVariants.{TooLong}
use Rattle.word_parts.specs.declared.status.Status.TheVariants as status
use Rattle.journal_runner.specs.Auditing.{SpellsAudited}
use Rattle.journal_runner.specs.Recording.{journal_of}

-- of a trace that has this boot: just the bytes of the boot and of the history of its play were written, and the status is 0, or
-- TooLong where the play refuses an entry. That play is true to the written kernel: its history is legal; and it is steady. So
-- what was written spells, for `audit`, that boot and these events with the verdict Legal
pub record IsRecorded (natives : List Native) (boot : Boot) (trace : Trace) (result : Status) (old new : Option (List ℕ)) : Type 0
  where
    pub play : Play
    pub is_true : IsTrueToKernel natives boot trace play
    pub steady : IsSteady play.history
    pub bytes : Appends old new (journal_of boot play)
    pub audited : SpellsAudited natives (journal_of boot play) (record { whole = whole_with boot play.history; verdict = Legal })
    pub status : result ≡ status_of_play play.refused

-- of one without a boot, which has no items: nothing was written, and the status is 0
abbrev pub IsRecordedWith : List Native → Trace → Status → Option (List ℕ) → Option (List ℕ) → Option Boot → Type 0
IsRecordedWith natives trace result old new None = (trace.items ≡ []) × (result ≡ status.Ok) × Appends old new []
IsRecordedWith natives trace result old new (Some boot) = IsRecorded natives boot trace result old new

-- there is a trace that the input spells, which was played and recorded
pub record WasRecorded (natives : List Native) (input : List ℕ) (result : Status) (old new : Option (List ℕ)) : Type 0 where
  pub trace : Trace
  pub spelled : Spells (uuids_of natives) input trace
  pub few : HasTooMany trace.items → ⊥
  pub recorded : IsRecordedWith natives trace result old new trace.boot

-- it isn't played, since it is too long, or spells a trace of too many SMC items
abbrev pub IsUnrecorded : List Native → List ℕ → Type 0
IsUnrecorded natives input = IsTooLong input ⊎ ((trace : Trace) × Spells (uuids_of natives) input trace × HasTooMany trace.items)

-- where it was, by the status
pub record Records (natives : List Native) (input : List ℕ) (result : Status) (old new : Option (List ℕ)) : Type 0 where
  pub ok : result ≡ status.Ok → WasRecorded natives input result old new
  pub too_long : result ≡ TooLong → IsUnrecorded natives input ⊎ WasRecorded natives input result old new
