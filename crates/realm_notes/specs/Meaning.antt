-- What the notes of a realm mean, as notes of events that are done again.
use Rattle.std.specs.Prelude.{ℕ, List, [], refl}
use Rattle.journal_notes.specs.Meaning.{Meaning}
use Rattle.journal_notes.specs.Meaning as kept
use Rattle.kernel_model.specs.Kernel.{Kernel}
use Rattle.kernel_state.specs.Meaning.{booted_of}
use Rattle.kernel_state.specs.StandsFor.{StandsFor}
use Rattle.kernel_state.specs.declared.kernel_core.Core.{Core}
use Rattle.realm_model.specs.Reading as realm
use Rattle.realm_model.specs.Reading.{noted}
use Rattle.realm_notes.specs.Arriving.{IsArrival, watch}
use Rattle.realm_notes.specs.Noted.{AreNoted, listing}
use Rattle.realm_notes.specs.Realms.{realm_of}
use Rattle.realm_notes.specs.Replaying.{IsNoted}
use Rattle.realm_notes.specs.declared.arriving.Arrival.{Arrival}
use Rattle.realm_notes.specs.declared.notes.Notes.{Notes}
use Rattle.realm_notes.specs.declared.realm.Realm.{Realm as CodeRealm}

-- what an entry with these registers is over this lane for the realm of these notes, by the core before it
abbrev pub IsArrivalOn : Notes → Core → List ℕ → List ℕ → Arrival → Type 0
IsArrivalOn code core regs lane came = (kernel : Kernel) (notes : realm.Notes) → StandsFor core.parts kernel → AreNoted code notes →
    IsArrival (watch (booted_of core) (realm_of code.realm) notes kernel) regs lane came

-- what the notes of a realm mean: those of this realm, which list what is noted of it
abbrev pub meaning : Meaning Notes realm.Logged
meaning = record {
  Subject = CodeRealm;
  subject = λ notes. notes.realm;
  log = λ of boot history. (noted boot history (realm_of of)).log;
  none = λ of boot. refl;
  AreOf = λ notes boot history. ∥ AreNoted notes (listing (noted boot history (realm_of notes.realm)) []) ∥₁;
  NotesOn = IsNoted;
}

-- a processor has gone out with what it carried, and that is noted
abbrev pub IsExitNoted : Core → Core → Notes → Notes → ℕ → List ℕ → List ℕ → Type 0
IsExitNoted old new before after cpu lane now = kept.IsExitNoted meaning old new before after cpu lane now
