-- Programs that are left at a turn.
use Rattle.std.proofs.Common.{◌≡◌, ℕ, List, [], ◌∙◌, arith}
use Rattle.tee_storage.specs.declared.turn.Turn.{Turn}
use Rattle.tee_storage.specs.declared.waits.DataRead.{DataRead}
use Rattle.tee_storage.specs.declared.waits.Waits.{Waits}
use Rattle.tee_storage.specs.declared.waits.Waits.TheVariants as waiting
use Rattle.tee_storage.specs.declared.waits.Waits.TheVariants.{Nothing, Created, HeaderWritten, Opened, HeaderRead, PieceRead, ReadChecked, WriteChecked, PieceWritten, TagWritten, NewHeaderWritten, Closed, ClosedToDelete, Removed}
use Rattle.tee_storage.specs.Program.{Now, Program}
use Rattle.tee_storage.specs.States.{IsLeft, IsReady, Taken, TakesNothing, left_at}
use Rattle.tee_storage.specs.Transfers.{IsDataRead}

-- what is left of the same program
pub IsLeft-same : {p q : Program} {turn : Turn} {key : List ℕ} {now : Now} → p ≡ q → IsLeft q turn key now → IsLeft p turn key now
IsLeft-same e left = record { content = left.content; is = e ∙ left.is; hashes = left.hashes }

-- where no data are to be taken in
pub IsLeft-alone : {p : Program} {turn : Turn} {now : Now} (taken : Taken) → TakesNothing turn.waits → p ≡ left_at turn taken now → IsLeft p turn taken.key now
IsLeft-alone {now = now} taken nothing e = record { content = taken.content; is = e; hashes = nothing taken now.range }

no_room : (read : DataRead) → IsDataRead read [] → ⊥
no_room read ready =
    let some = ready.some in
    let room = ready.room in
    absurd (omega arith)

-- as of a state that can go on over any range
pub takes_nothing : (waits : Waits) → ((range : List ℕ) → IsReady waits range) → TakesNothing waits
takes_nothing Nothing ready taken range = tt
takes_nothing (Created new key) ready taken range = tt
takes_nothing (HeaderWritten new fd) ready taken range = tt
takes_nothing (Opened new) ready taken range = tt
takes_nothing (HeaderRead new fd) ready taken range = tt
takes_nothing (PieceRead t) ready taken range = tt
takes_nothing (waiting.DataRead read) ready taken range = absurd (no_room read (ready []))
takes_nothing (ReadChecked t tag) ready taken range = tt
takes_nothing (WriteChecked t tag new) ready taken range = tt
takes_nothing (PieceWritten t tag) ready taken range = tt
takes_nothing (TagWritten t) ready taken range = tt
takes_nothing (NewHeaderWritten t) ready taken range = tt
takes_nothing (Closed handle) ready taken range = tt
takes_nothing (ClosedToDelete handle name) ready taken range = tt
takes_nothing Removed ready taken range = tt
