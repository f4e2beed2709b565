-- The word `threads`: each processor of a trace plays its items in a thread of its own. What is written then, and when each
-- status comes.
use Rattle.std.specs.Prelude.{◌≡◌, ℕ, ◌^◌, ◌<◌, ◌⊎◌, Bool, true, false, List, [], length, Option, Some, None}
use Rattle.kernel_model.specs.Application.{Native, booted}
use Rattle.kernel_model.specs.Laws.{FindsNoCall, FindsNoSlot}
use Rattle.ordered_play.specs.Blocks.{blocks_in, has_refused}
use Rattle.ordered_play.specs.Merge.{IsOfParts, order_with, setting_of}
use Rattle.ordered_play.specs.Ordered.{OrderedPlay, played_in}
use Rattle.ordered_play.specs.Places.{PlacesCountUp}
use Rattle.play_model.specs.Laws.{AloneIn, ReturnsIn, TogetherIn, ToldIn}
use Rattle.play_model.specs.Realms.{RealmsIn}
use Rattle.play_model.specs.TrueToKernel.{ExitsIn, RefusedIn}
use Rattle.ports.specs.Port.{Appends}
use Rattle.ta_isa.specs.declared.boot.Boot.{Boot}
use Rattle.trace_text.specs.declared.fault.BadKind.{BadKind}
use Rattle.trace_text.specs.declared.trace.Trace.{Trace}
use Rattle.alone_runner.specs.Content.{IsFirstFault, Spells}
use Rattle.alone_runner.specs.Plays.{IsUnplayed}
use Rattle.alone_runner.specs.Run.{reading}
use Rattle.trace_player.specs.Starting.{uuids_of}
use Rattle.alone_runner.specs.declared.content.Content.TheVariants as content
use Rattle.alone_runner.specs.declared.command.Grammar.TheVariants.{Text}
use Rattle.word_parts.specs.Answer.{Writes}
use Rattle.word_parts.specs.Input.{IsTooLong}
use Rattle.word_parts.specs.Limits.{HasTooMany}
use Rattle.word_parts.specs.Line.{bad_trace_line}
use Rattle.word_parts.specs.Output.{AppendsPart}
use Rattle.word_parts.specs.Word.{IsBad, IsRefused, RanAs}
use Rattle.word_parts.specs.declared.status.Status.{Status}
use Rattle.word_parts.specs.declared.status.Status.TheVariants.{BadTrace, WriteFault, Memory, TooLong}
use Rattle.word_parts.specs.declared.status.Status.TheVariants as status

-- ---- the play

-- the play of the trace on this boot, in this order of its processors' entries and exits, is true to the written kernel
pub record IsTrueInOrder (natives : List Native) (boot : Boot) (trace : Trace) (order : List ℕ) (play : OrderedPlay) : Type 0
  where
    -- it is what the items of each processor, in that processor's order, make of the kernel of that boot and of RAM of zeros
    -- with the fills, where the order says whose next entry or exit comes
    pub is_play : played_in natives boot trace order ≡ Some play
    -- its one history is the written kernel's, legal from a boot that a core can have, and its entries have read at most
    -- 2^28 bytes; each processor has its part of it: its items in their order, all of them or those before a refused entry,
    -- and its lines, of which each return is an exit there, with the places of its entry and of itself
    pub of_parts : IsOfParts (setting_of natives boot trace) play
    -- each exit is the written kernel's at its place
    pub exits : ExitsIn (booted boot natives) play.history
    -- RETURN_FROM_RPC resumes exactly the call that is suspended in its slot for its client
    pub resumes : ReturnsIn (booted boot natives) play.history
    -- it is answered ERESUME, which is 3, exactly where there is none, and changes nothing but the history then
    pub refused_resumes : ToldIn (booted boot natives) play.history 3 FindsNoCall
    pub change_nothing : RefusedIn (booted boot natives) play.history
    -- ETHREAD_LIMIT, which is 1, comes exactly where a new call finds no slot free
    pub thread_limit : ToldIn (booted boot natives) play.history 1 FindsNoSlot
    -- a session of an application whose sessions share no instance was answered as its own machine answers to its own
    -- events alone; that is said of each such session that was kept on its instance at any place of the history
    pub alone : AloneIn (booted boot natives) play.history
    -- the sessions of an application that share an instance, a group, were answered as the group's machine answers to what
    -- happens to the group alone; each such session that was kept on its instance at any place of the history has its number
    -- in the group from there on
    pub together : TogetherIn (booted boot natives) play.history
    -- each session that was kept at any place of the history, whatever became of its instance, is in a realm from there on,
    -- which is one session or all sessions of an application; and each realm was answered as the machine of a group which has
    -- what happened to the realm alone
    pub realms : RealmsIn (booted boot natives) play.history
    -- for the m SMCs of its history the places 0 to 2m - 1 are printed, each once, by the processor whose entry or exit stands there
    pub places : PlacesCountUp (booted boot natives) play
    -- and so they name this order: where it refuses no entry, its blocks, of fewer than 2^64 bytes, are those of no other order
    pub named : has_refused play ≡ false → (other text : List ℕ) → length text < 2 ^ 64 →
        blocks_in natives trace order ≡ Some text → blocks_in natives trace other ≡ Some text → order ≡ other

-- the text is the blocks of a trace that has this boot, in the order in which the entries and exits of its play came, refused
-- entries among them; this says whether there was a refused one
pub record IsPlayedInOrder (natives : List Native) (boot : Boot) (trace : Trace) (text : List ℕ) (refused : Bool) : Type 0
  where
    pub play : OrderedPlay
    -- behind how many events of its history each processor's entry was refused, where one was
    pub places : ℕ → Option ℕ
    pub is_true : IsTrueInOrder natives boot trace (order_with places boot.cpus 0 play.history) play
    pub blocks : blocks_in natives trace (order_with places boot.cpus 0 play.history) ≡ Some text
    pub one_refused : has_refused play ≡ refused

-- a trace without a boot has no items, and nothing is printed of it
abbrev pub AreBlocks : List Native → Trace → List ℕ → Bool → Option Boot → Type 0
AreBlocks natives trace text refused None = (trace.items ≡ []) × (text ≡ []) × (refused ≡ false)
AreBlocks natives trace text refused (Some boot) = IsPlayedInOrder natives boot trace text refused

-- the blocks of a trace in some such order, and whether an entry is refused in it
pub record BlocksOf (natives : List Native) (trace : Trace) : Type 0 where
  pub text : List ℕ
  pub refused : Bool
  pub are_blocks : AreBlocks natives trace text refused trace.boot

-- the status of a play by whether it refuses an entry
abbrev pub status_where : Bool → Status
status_where false = status.Ok
status_where true = TooLong

-- ---- an input

-- the trace has too many SMC items, and nothing is written; or there is want of memory, for a thread's work too, and nothing
-- is; or its blocks are, or a part of them where the sink failed or memory ran out
abbrev pub IsServedByThreads : List Native → Trace → Status → Option (List ℕ) → Option (List ℕ) → Type 0
IsServedByThreads natives trace result old new =
    (HasTooMany trace.items × (result ≡ TooLong) × Appends old new [])
    ⊎ ((HasTooMany trace.items → ⊥)
    × (((result ≡ Memory) × Appends old new [])
    ⊎ ((of : BlocksOf natives trace) × Writes (status_where of.refused) of.text result old new)))

-- the input spells a trace, which is served
pub record IsServedOnThreads (natives : List Native) (input : List ℕ) (result : Status) (old new : Option (List ℕ)) : Type 0
  where
    pub trace : Trace
    pub spelled : Spells Text (uuids_of natives) input (content.Trace trace)
    pub served : IsServedByThreads natives trace result old new

-- what an input within the limit is answered, and what is written for it
abbrev pub AnsweredOnThreads : List Native → List ℕ → Status → Option (List ℕ) → Option (List ℕ) → Type 0
AnsweredOnThreads natives input result old new =
    ((result ≡ Memory) × Appends old new [])
    ⊎ IsRefused (reading Text natives) input result old new
    ⊎ IsServedOnThreads natives input result old new

-- what the call comes to over an input that the source tells, and what the source has left
abbrev pub RanOnThreads : List Native → List ℕ → Option (List ℕ) → Status → Option (List ℕ) → Option (List ℕ) → Type 0
RanOnThreads natives input left result old new =
    RanAs input (AnsweredOnThreads natives input result old new) left result old new

-- ---- each status

-- the whole input was read, and it spells a trace within the limits
pub record CanBePlayedOnThreads (natives : List Native) (input : List ℕ) (trace : Trace) : Type 0 where
  pub short : IsTooLong input → ⊥
  pub spelled : Spells Text (uuids_of natives) input (content.Trace trace)
  pub few : HasTooMany trace.items → ⊥

-- just its blocks in an order of its play are written, and the status is that of this play
abbrev pub PrintsBlocks : List Native → Trace → Status → Option (List ℕ) → Option (List ℕ) → Type 0
PrintsBlocks natives trace result old new =
    (of : BlocksOf natives trace) × (result ≡ status_where of.refused) × Appends old new of.text

pub record IsPlayedOnThreads (natives : List Native) (input : List ℕ) (result : Status) (old new : Option (List ℕ)) : Type 0
  where
    pub trace : Trace
    pub can : CanBePlayedOnThreads natives input trace
    pub printed : PrintsBlocks natives trace result old new

-- a part of what the input is answered with, also none of it; of a trace, a part of its blocks
abbrev pub WritesPartOnThreads : List Native → List ℕ → Option (List ℕ) → Option (List ℕ) → Type 0
WritesPartOnThreads natives input old new =
    Appends old new []
    ⊎ ((place : ℕ) × (kind : BadKind) × IsFirstFault Text (uuids_of natives) input place kind
    × AppendsPart old new (bad_trace_line place kind))
    ⊎ ((trace : Trace) × Spells Text (uuids_of natives) input (content.Trace trace)
    × ((of : BlocksOf natives trace) × AppendsPart old new of.text))

-- what each status says of an input that the source tells
pub record ThreadStatuses (natives : List Native) (input : List ℕ) (left : Option (List ℕ)) (result : Status)
    (old new : Option (List ℕ)) : Type 0 where
  -- all was read, and a play that refuses no entry is printed
  pub ok : result ≡ status.Ok → (left ≡ Some []) × IsPlayedOnThreads natives input result old new
  -- the input has too many bytes, or its trace too many SMC items, and nothing is written; or a play that refuses an entry
  -- is printed whole
  pub too_long : result ≡ TooLong →
      (IsUnplayed Text natives input × Appends old new []) ⊎ IsPlayedOnThreads natives input result old new
  pub bad_trace : result ≡ BadTrace → IsBad (reading Text natives) input old new
  pub part : ((result ≡ WriteFault) ⊎ (result ≡ Memory)) → WritesPartOnThreads natives input old new
