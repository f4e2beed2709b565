-- What the processors were last told, as they are told more and as a history goes on.
use Rattle.std.proofs.Common.{◌≡◌, ℕ, ◌<◌, ◌≤◌, Bool, true, false, List, [], ◌∷◌, ◌++◌, Some, None, refl, sym, ap, subst, ◌∙◌, arith}
use Rattle.std.specs.Prelude.{◌==◌, if◌then◌else◌, slice_get, slice_set}
use Rattle.std.proofs.lemmas.Bool.Decides.{Decides-eqb}
use Rattle.std.proofs.lemmas.List.{append_cancel_left}
use Rattle.event_journal.specs.declared.event.Event.{Event}
use Rattle.event_journal.specs.declared.event.Event.TheVariants.{Entry, Exit}
use Rattle.kernel_model.specs.Application.{Booted}
use Rattle.kernel_model.specs.Kernel.{Visit}
use Rattle.kernel_model.proofs.Parts.{set_found, set_other}
use Rattle.play_model.specs.Line.{Line, Ret}
use Rattle.play_model.specs.Play.{Play, enters, last_answer, leaves}
use Rattle.play_model.proofs.Entries.{CameIn, Entered, Left, WasRefused, entered, event_made, left}
use Rattle.play_model.proofs.LastAnswers.{last_answer-entry, last_answer-exit}
use Rattle.play_model.proofs.LinesStay.{event_prints}
use Rattle.smc_abi.specs.declared.regs.Regs.{Regs}
use Rattle.trace_player.specs.Position.{AreTold, StandsAt}
use Rattle.trace_player.specs.declared.player.Player.{Player}

-- ---- told more

-- of fewer processors
pub fewer-told : (count many : ℕ) (told : ℕ → List ℕ) (answers : List Regs) → count ≤ many → AreTold many told answers
    → AreTold count told answers
fewer-told count many told answers few are cpu below = are cpu (omega (arith, few, below))

-- the same registers
pub same-told : (boot : Booted) (play : Play) (one other : ℕ → List ℕ) (player : Player)
    → ((cpu : ℕ) → cpu < boot.cpus → one cpu ≡ other cpu)
    → StandsAt boot (record { play = play; told = one }) player → StandsAt boot (record { play = play; told = other }) player
same-told boot play one other player same stands = record {
  machine = stands.machine;
  answers = λ cpu below. stands.answers cpu below ∙ ap (λ (a : List ℕ). Some (record { a = a })) (same cpu below);
}

-- one was told these
pub told-more : (count : ℕ) (told : ℕ → List ℕ) (answers : List Regs) (cpu : ℕ) (regs : Regs) → cpu < count
    → AreTold count told answers
    → AreTold count (λ other. if cpu == other then regs.a else told other) (slice_set answers cpu regs)
told-more count told answers cpu regs within are other below = by (cpu == other) refl
  where
    by : (own : Bool) → (cpu == other) ≡ own
        → slice_get (slice_set answers cpu regs) other ≡ Some (record { a = (if own then regs.a else told other) })
    by true e =
        let one : cpu ≡ other = (Decides-eqb cpu other).0 e in
        subst (λ (n : ℕ). slice_get (slice_set answers cpu regs) n ≡ Some (record { a = regs.a })) one
        (set_found answers cpu regs _ (are cpu within))
    by false e =
        let apart : cpu ≡ other → ⊥ = λ one. let also : (cpu == other) ≡ true = (Decides-eqb cpu other).1 one in absurd cc in
        set_other answers cpu other regs apart ∙ are other below

-- ---- by the kernel

entered-last : (boot : Booted) (visit : Visit) (play next : Play) (cpu : ℕ) → Entered boot visit play next
    → next.refused ≡ None → last_answer play.history cpu ≡ last_answer next.history cpu
entered-last boot visit play next cpu (CameIn reads few came) going =
    let given : Regs = record { a = visit.regs } in
    let made = event_made boot (Entry visit.cpu given visit.steps reads) play next came in
    sym (ap (λ (h : List Event). last_answer h cpu) made.0
    ∙ last_answer-entry play.history visit.cpu given visit.steps reads cpu)
entered-last boot visit play next cpu (WasRefused reads much is) going =
    let none : None ≡ Some _ = sym going ∙ ap (λ (p : Play). p.refused) (sym is) in absurd cc

-- an entry tells nothing
pub enters-last : (boot : Booted) (visit : Visit) (play next : Play) (cpu : ℕ) → enters boot play visit ≡ Some next
    → next.refused ≡ None → last_answer play.history cpu ≡ last_answer next.history cpu
enters-last boot visit play next cpu e going =
    entered-last boot visit play next cpu (entered boot visit play next e) going

left-last : (boot : Booted) (went : ℕ) (play next : Play) (told : Regs) (cpu : ℕ) → Left boot went play next
    → next.lines ≡ play.lines ++ Ret went told.a ∷ []
    → (if went == cpu then told.a else last_answer play.history cpu) ≡ last_answer next.history cpu
left-last boot went play next told cpu out lines =
    let event : Event = Exit went (record { a = out.exited.regs }) in
    let gone = event_prints boot event play out.gone out.came in
    let here : play.lines ++ Ret went out.exited.regs ∷ [] ≡ next.lines =
    ap (λ (ls : List Line). ls ++ Ret went out.exited.regs ∷ []) (sym gone) ∙ ap (λ (p : Play). p.lines) out.is in
    let cut = append_cancel_left play.lines (Ret went out.exited.regs ∷ []) (Ret went told.a ∷ []) (here ∙ lines) in
    let same : out.exited.regs ≡ told.a = cc in
    let made = event_made boot event play out.gone out.came in
    let history : next.history ≡ play.history ++ Exit went told ∷ [] =
    ap (λ (p : Play). p.history) (sym out.is) ∙ made.0
    ∙ ap (λ (a : List ℕ). play.history ++ Exit went (record { a = a }) ∷ []) same in
    sym (ap (λ (h : List Event). last_answer h cpu) history ∙ last_answer-exit play.history went told cpu)

-- an exit tells its own processor
pub leaves-last : (boot : Booted) (went : ℕ) (play next : Play) (told : Regs) (cpu : ℕ) → leaves boot went play ≡ Some next
    → next.lines ≡ play.lines ++ Ret went told.a ∷ []
    → (if went == cpu then told.a else last_answer play.history cpu) ≡ last_answer next.history cpu
leaves-last boot went play next told cpu e lines =
    left-last boot went play next told cpu (left boot went play next e) lines
