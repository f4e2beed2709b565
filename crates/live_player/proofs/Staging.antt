-- A stage behind one line more.
use Rattle.std.proofs.Common.{◌≡◌, ℕ, ◌^◌, ◌≤◌, ◌⊎◌, inl, inr, Bool, true, List, [], ◌∷◌, ◌++◌, length, Option, Some, None, refl, sym, ap, subst, ◌∙◌, arith}
use Rattle.std.specs.Prelude.{All, IfNone, IfOk, IfSome, OnOk, Result, Ok, Err, is_some}
use Rattle.std.specs.List.{AllByRecursion}
use Rattle.std.proofs.lemmas.List.{length-append}
use Rattle.std.proofs.lemmas.List.Elements.{All-from_recursion, recursion_from_All}
use Rattle.base.specs.Zeros.{zeros}
use Rattle.base.specs.declared.no_memory.NoMemory.{NoMemory}
use Rattle.kernel_model.specs.Application.{Booted, IsBooted, Native, booted}
use Rattle.kernel_model.proofs.Parts.{some_of}
use Rattle.kernel_state.specs.Meaning.{booted_of, terms_of}
use Rattle.kernel_state.specs.declared.kernel_core.Core.{Core}
use Rattle.kernel_state.specs.declared.terms.Terms.{Terms}
use Rattle.live_play.specs.Answer.{Platform, answer_between, platform_within, play_at, refused_at, uuids_in}
use Rattle.live_play.specs.Showing.{within}
use Rattle.live_play.proofs.Effects.{IsHeader}
use Rattle.live_play.proofs.Talking.{no_steps, printed_by, quiet, refused_by, start, with_boot}
use Rattle.live_player.specs.Header.{IsHeaderOf, boot_in, terms_where}
use Rattle.live_player.specs.Panicking.{EndsIn, taken_as}
use Rattle.live_player.specs.Standing.{CanBegin, IsOpen, IsPlayedBehind, StageAt}
use Rattle.live_player.specs.Taking.{Answers, IsNext, IsPlaced, PlaysOn, StagePlays, counted, played}
use Rattle.live_player.specs.Watching.{cpu_going_out}
use Rattle.live_player.specs.declared.header.Header.{Header}
use Rattle.live_player.specs.declared.stage.Stage.{Stage}
use Rattle.live_player.specs.declared.stage.Stage.TheVariants as stage
use Rattle.live_player.specs.declared.taken.Played.{Played}
use Rattle.live_player.specs.declared.taken.Played.TheVariants as outcome
use Rattle.live_player.specs.declared.taken.Taken.{Taken}
use Rattle.live_player.specs.declared.taken.Taken.TheVariants as taken
use Rattle.live_player.proofs.Answering.{answers-nothing}
use Rattle.live_player.proofs.Panics.{no_panic}
use Rattle.live_player.proofs.Playing.{signal_done, signal_played}
use Rattle.notify_text.specs.Statement.{HasItsBoot, IsEmpty}
use Rattle.notify_text.specs.Statement.{with_statement}
use Rattle.trace_text.specs.declared.statement.Statement.{Statement}
use Rattle.trace_text.specs.declared.statement.Statement.TheVariants as says
use Rattle.notif.specs.History as desk
use Rattle.notify_play.specs.NotifyPlay.{Drivers, after_steps, first_notify_play}
use Rattle.notify_player.specs.Playing.{IsPlayedTo}
use Rattle.notify_player.specs.declared.player.NotifyPlayer.{NotifyPlayer}
use Rattle.notify_text.specs.Rules.{NotifyFront}
use Rattle.notify_text.specs.Sound.{IsSoundSignal}
use Rattle.notify_text.specs.Steps.{Step}
use Rattle.notify_text.specs.declared.notify_trace.Signal.{Signal}
use Rattle.play_model.specs.Play.{first_play_within}
use Rattle.ta_isa.specs.declared.boot.App.{App}
use Rattle.ta_isa.specs.declared.boot.Boot.{Boot}
use Rattle.trace_text.specs.Sound.{IsSoundBoot}
use Rattle.trace_text.specs.declared.item.Item.{Item}
use Rattle.trace_text.specs.declared.limits.Size.{Size}
use Rattle.trace_text.specs.declared.trace.Fill.{Fill}

-- ---- lines of a header alone

not_empty : {A : Type 0} (xs : List A) (x : A) → xs ++ x ∷ [] ≡ [] → ⊥
not_empty xs x e =
    let none : length (xs ++ x ∷ []) ≡ 0 = ap (λ l. length l) e in omega (arith, none, length-append xs (x ∷ []))

pub closed_item : (lines : NotifyFront) (i : Item) → IsOpen (with_statement lines (says.Item i)) → ⊥
closed_item lines i is_open = not_empty lines.trace.items i is_open.items

pub closed_signal : (lines : NotifyFront) (value : ℕ) → IsOpen (with_statement lines (says.Signal value)) → ⊥
closed_signal lines value is_open = not_empty lines.signals _ is_open.signals

-- without items and signals they are a header
pub header_of : (lines : NotifyFront) → IsOpen lines → IsHeader lines
header_of lines is_open = record { items = is_open.items; signals = is_open.signals }

pub begun : (on : Platform) (boot : Boot) (lines : NotifyFront) → lines.trace.boot ≡ Some boot → IsOpen lines
    → play_at on lines ≡ Some (start on boot lines)
begun on boot lines there is_open =
    with_boot on boot lines there
    ∙ ap (λ (steps : List Step). after_steps (booted boot on.natives) on.drivers steps (start on boot lines))
    (no_steps lines (header_of lines is_open))

-- one line of a header more prints nothing
pub heads : (on : Platform) (before after : NotifyFront) (text : List ℕ) → IsOpen before → IsOpen after
    → Answers (answer_between on before after) taken.Done text text
heads on before after text was is_open =
    let earlier = quiet on before (header_of before was) in
    let later = quiet on after (header_of after is_open) in
    answers-nothing on before after text later.going (later.printed ∙ sym earlier.printed)

-- ---- a core is booted

pub boot_there : (most : ℕ) (natives : List Native) (drivers : Drivers) (lines : NotifyFront) (header : Header)
    → CanBegin (platform_within most natives drivers) lines header → (boot : Boot) × (boot_in header ≡ Some boot) × (lines.trace.boot ≡ Some boot)
boot_there most natives drivers lines header can =
    let there = some_of lines.trace.boot can.boots in
    (there.0, can.header_is.boot ∙ there.1, there.1)

-- a core's terms are the header's
first_on : (most natives_most : ℕ) → natives_most ≡ most → (boot : Booted) (drivers : Drivers) (fills : List Fill) (player : NotifyPlayer)
    → IsPlayedTo boot drivers (first_notify_play boot (first_play_within natives_most (zeros 0x400000) boot fills)) player
    → IsPlayedTo boot drivers (first_notify_play boot (first_play_within most (zeros 0x400000) boot fills)) player
first_on most natives_most same boot drivers fills player stands =
    subst (λ (n : ℕ). IsPlayedTo boot drivers (first_notify_play boot (first_play_within n (zeros 0x400000) boot fills)) player)
    same stands

first_behind : (most : ℕ) (natives : List Native) (drivers : Drivers) (lines : NotifyFront) (header : Header) (boot : Boot)
    (fills : List Fill) (player : NotifyPlayer) → CanBegin (platform_within most natives drivers) lines header → boot_in header ≡ Some boot
    → fills ≡ header.fills.items → IsBooted (booted boot natives)
    → IsPlayedTo (booted boot natives) drivers (first_notify_play (booted boot natives)
    (first_play_within most (zeros 0x400000) (booted boot natives) fills)) player
    → IsPlayedBehind (platform_within most natives drivers) lines player
first_behind most natives drivers lines header boot fills player can is filled boots stands =
    let there : lines.trace.boot ≡ Some boot = sym can.header_is.boot ∙ is in
    record {
      boot = boot;
      there = there;
      boots = boots;
      told = start (platform_within most natives drivers) boot lines;
      play = begun (platform_within most natives drivers) boot lines there can.open_there;
      stands =
          subst (λ (fs : List Fill). IsPlayedTo (booted boot natives) drivers (first_notify_play (booted boot natives)
          (first_play_within most (zeros 0x400000) (booted boot natives) fs)) player)
          (filled ∙ can.header_is.fills) stands;
    }

-- what it is booted with is within the limits
pub boot_sound : (on : Platform) (lines : NotifyFront) (header : Header) (boot : Boot) → CanBegin on lines header
    → boot_in header ≡ Some boot → IsSoundBoot (uuids_in on) boot
boot_sound on lines header boot can is =
    let P : Option Boot → Type 0 = λ o. IfSome o (IsSoundBoot (uuids_in on)) in
    subst P (sym can.header_is.boot ∙ is) can.within.sound.boot

-- where memory was there for it: by a core of the header's boot, on its terms
pub first_ok : (most : ℕ) (natives : List Native) (drivers : Drivers) (lines : NotifyFront) (header : Header) (boot : Boot)
    (core : Core) (fills : List Fill) (result : Result NotifyPlayer NoMemory)
    → CanBegin (platform_within most natives drivers) lines header → boot_in header ≡ Some boot → fills ≡ header.fills.items
    → IsBooted (booted boot natives) → booted_of core ≡ booted boot natives → terms_of core ≡ terms_where header.is_history_off
    → IfOk result (λ player. IsPlayedTo (booted_of core) drivers (first_notify_play (booted_of core)
    (first_play_within (terms_of core).most (zeros 0x400000) (booted_of core) fills)) player)
    → IfOk result (IsPlayedBehind (platform_within most natives drivers) lines)
first_ok most natives drivers lines header boot core fills (Ok player) can is filled boots same terms stands =
    let P : Booted → Type 0 = λ b. IsPlayedTo b drivers (first_notify_play b
    (first_play_within (terms_of core).most (zeros 0x400000) b fills)) player in
    first_behind most natives drivers lines header boot fills player can is filled boots
    (first_on most (terms_of core).most (ap (λ (t : Terms). t.most) terms ∙ can.most) (booted boot natives) drivers fills player
    (subst P same stands))
first_ok most natives drivers lines header boot core fills (Err e) can is filled boots same terms stands = tt

-- behind an item or a signal there is a boot
pub boot_by : (lines : NotifyFront) (boot : Option Boot) → lines.trace.boot ≡ boot → HasItsBoot lines → (IsOpen lines → ⊥)
    → is_some lines.trace.boot ≡ true
boot_by lines None there has closed =
    let P : Option Boot → Type 0 = λ o. IfNone o (IsEmpty lines) in
    let empty : IsEmpty lines = subst P there has in
    absurd (closed (record { items = empty.items; signals = empty.signals }))
boot_by lines (Some boot) there has closed = ap is_some there

pub can_begin : (on : Platform) (lines : NotifyFront) (said : Statement) (header : Header)
    → IsHeaderOf header lines → IsOpen lines → (terms_where header.is_history_off).most ≡ on.most_bytes → IsNext on lines said
    → (IsOpen (with_statement lines said) → ⊥) → (with_statement lines said).trace.boot ≡ lines.trace.boot
    → CanBegin on lines header
can_begin on lines said header is is_open most next closed same = record {
  header_is = is;
  open_there = is_open;
  within = next.within;
  boots =
      subst (λ (o : Option Boot). is_some o ≡ true) same
      (boot_by (with_statement lines said) (with_statement lines said).trace.boot refl next.next.sound.no_boot closed);
  most = most;
}

-- ---- a stage

-- a core that has played an item, or refused its entry
core_item : (on : Platform) (lines : NotifyFront) (i : Item) (how : Taken) (player : NotifyPlayer) → (IsOpen lines → ⊥)
    → IsPlayedBehind on (counted how lines (with_statement lines (says.Item i))) player
    → StageAt on (counted how lines (with_statement lines (says.Item i))) (stage.Core player)
core_item on lines i taken.Done player closed p = (p, closed_item lines i)
core_item on lines i (taken.Full copied) player closed p = (p, closed)

pub core_plays : (on : Platform) (lines : NotifyFront) (i : Item) (result : Result Played NoMemory) (player : NotifyPlayer)
    (old new : List ℕ) → (IsOpen lines → ⊥) → IfOk result (λ how. PlaysOn on lines (says.Item i) (taken_as how) player old new)
    → IfOk result (λ how. StagePlays on lines (says.Item i) (taken_as how) (stage.Core player) old new)
core_plays on lines i (Ok how) player old new closed p =
    record { answers = p.answers; stands = core_item on lines i (taken_as how) player closed p.stands }
core_plays on lines i (Err e) player old new closed p = tt

-- one that was booted for it
pub begun_plays : (on : Platform) (lines : NotifyFront) (i : Item) (player : NotifyPlayer) (old new : List ℕ)
    → PlaysOn on lines (says.Item i) taken.Done player old new
    → StagePlays on lines (says.Item i) taken.Done (stage.Core player) old new
begun_plays on lines i player old new p = record { answers = p.answers; stands = (p.stands, closed_item lines i) }

-- and was let go of, since the entry was refused
pub refused_plays : (on : Platform) (lines : NotifyFront) (i : Item) (copied : ℕ) (player : NotifyPlayer) (now : Stage)
    (old new : List ℕ) → PlaysOn on lines (says.Item i) (taken.Full copied) player old new → StageAt on lines now
    → StagePlays on lines (says.Item i) (taken.Full copied) now old new
refused_plays on lines i copied player now old new p at = record { answers = p.answers; stands = at }

-- a core that was signalled
pub core_signal : (most : ℕ) (natives : List Native) (drivers : Drivers) (lines : NotifyFront) (value : ℕ) (before after : NotifyPlayer)
    (text : List ℕ) → (p : IsPlayedBehind (platform_within most natives drivers) lines before)
    → IsPlayedTo (booted p.boot natives) drivers (record p.told { calls = desk.Signal value ∷ p.told.calls }) after
    → StagePlays (platform_within most natives drivers) lines (says.Signal value) taken.Done (stage.Core after) text text
core_signal most natives drivers lines value before after text p stands =
    let is = signal_played most natives drivers lines value before p in
    record {
      answers =
          answers-nothing (platform_within most natives drivers) lines (with_statement lines (says.Signal value)) text
          (ap refused_by is ∙ stands.at.machine.goes_on) (ap printed_by is ∙ sym (ap printed_by p.play));
      stands = (signal_done most natives drivers lines value before after p stands, closed_signal lines value);
    }

-- its value is one that the hardware signals
last_signal : (most : ℕ) (signals : List Signal) (signal : Signal) → AllByRecursion (IsSoundSignal most) (signals ++ signal ∷ [])
    → IsSoundSignal most signal
last_signal most [] signal all = all.0
last_signal most (first ∷ signals) signal all = last_signal most signals signal all.1

pub signal_sound : (on : Platform) (lines : NotifyFront) (value : ℕ) → IsNext on lines (says.Signal value)
    → IsSoundSignal (length lines.trace.items) (record { at = length lines.trace.items; value = value })
signal_sound on lines value next =
    let count : ℕ = length lines.trace.items in
    let signal : Signal = record { at = count; value = value } in
    last_signal count lines.signals signal
    (recursion_from_All (IsSoundSignal count) (lines.signals ++ signal ∷ []) next.next.signals)

-- alone, before the first item
pub one_sound : (value : ℕ) → 1 ≤ value → value ≤ 63 → All (IsSoundSignal 0) (record { at = 0; value = value } ∷ [])
one_sound value least most =
    All-from_recursion (IsSoundSignal 0) (record { at = 0; value = value } ∷ [])
    (record { some = least; few = most; there = omega arith }, tt)

-- ---- what waits in the header

pub stage_going : (on : Platform) (lines : NotifyFront) (now : Stage) → StageAt on lines now → refused_at on lines ≡ None
stage_going on lines (stage.Header header) at = (quiet on lines (header_of lines at.1)).going
stage_going on lines (stage.Core player) at = ap refused_by at.0.play ∙ at.0.stands.at.machine.goes_on

-- neither an item nor a signal is said
abbrev pub Waits : Statement → Type 0
Waits said = (said ≡ says.Blank)
    ⊎ (((size : Size) × (said ≡ says.Boot size))
    ⊎ (((app : App) × (said ≡ says.App app))
    ⊎ (((fill : Fill) × (said ≡ says.Fill fill)) ⊎ ((key : List ℕ) × (said ≡ says.Key key)))))

abbrev IsWaiting : Statement → Type 0
IsWaiting says.Blank = Unit {0}
IsWaiting (says.Boot size) = Unit {0}
IsWaiting (says.App app) = Unit {0}
IsWaiting (says.Fill fill) = Unit {0}
IsWaiting (says.Key key) = Unit {0}
IsWaiting (says.Item i) = ⊥
IsWaiting (says.Signal value) = ⊥

waiting : (said : Statement) → Waits said → IsWaiting said
waiting said (inl is) = subst IsWaiting (sym is) tt
waiting said (inr (inl (size, is))) = subst IsWaiting (sym is) tt
waiting said (inr (inr (inl (app, is)))) = subst IsWaiting (sym is) tt
waiting said (inr (inr (inr (inl (fill, is))))) = subst IsWaiting (sym is) tt
waiting said (inr (inr (inr (inr (key, is))))) = subst IsWaiting (sym is) tt

waits_by : (on : Platform) (lines : NotifyFront) (said : Statement) (now : Stage) (text : List ℕ) → IsWaiting said
    → IsPlaced lines said → StageAt on lines now → StagePlays on lines said taken.Done now text text
waits_by on lines says.Blank now text waiting placed at =
    record { answers = answers-nothing on lines lines text (stage_going on lines now at) refl; stands = at }
waits_by on lines (says.Boot size) now text waiting placed at = record {
  answers = heads on lines (with_statement lines (says.Boot size)) text placed
      (record { items = placed.items; signals = placed.signals });
  stands = at;
}
waits_by on lines (says.App app) now text waiting placed at = record {
  answers = heads on lines (with_statement lines (says.App app)) text placed
      (record { items = placed.items; signals = placed.signals });
  stands = at;
}
waits_by on lines (says.Fill fill) now text waiting placed at = record {
  answers = heads on lines (with_statement lines (says.Fill fill)) text placed
      (record { items = placed.items; signals = placed.signals });
  stands = at;
}
waits_by on lines (says.Key key) now text waiting placed at = record {
  answers = heads on lines (with_statement lines (says.Key key)) text placed
      (record { items = placed.items; signals = placed.signals });
  stands = at;
}
waits_by on lines (says.Item i) now text waiting placed at = absurd waiting
waits_by on lines (says.Signal value) now text waiting placed at = absurd waiting

pub waits : (on : Platform) (lines : NotifyFront) (said : Statement) (now : Stage) (text : List ℕ) → Waits said
    → IsPlaced lines said → StageAt on lines now → StagePlays on lines said taken.Done now text text
waits on lines said now text which placed at = waits_by on lines said now text (waiting said which) placed at

-- by which no call ends
unended_by : (on : Platform) (lines : NotifyFront) (said : Statement) → IsWaiting said → EndsIn on lines said (outcome.Done None)
unended_by on lines says.Blank waiting = no_panic on lines lines refl
unended_by on lines (says.Boot size) waiting = no_panic on lines (with_statement lines (says.Boot size)) refl
unended_by on lines (says.App app) waiting = no_panic on lines (with_statement lines (says.App app)) refl
unended_by on lines (says.Fill fill) waiting = no_panic on lines (with_statement lines (says.Fill fill)) refl
unended_by on lines (says.Key key) waiting = no_panic on lines (with_statement lines (says.Key key)) refl
unended_by on lines (says.Item i) waiting = absurd waiting
unended_by on lines (says.Signal value) waiting = absurd waiting

pub waits_unended : (on : Platform) (lines : NotifyFront) (said : Statement) → Waits said → EndsIn on lines said (outcome.Done None)
waits_unended on lines said which = unended_by on lines said (waiting said which)

-- nor any processor goes out
stays_by : (said : Statement) (cpu : ℕ) → IsWaiting said → cpu_going_out said ≡ Some cpu → ⊥
stays_by says.Blank cpu waiting out = cc
stays_by (says.Boot size) cpu waiting out = cc
stays_by (says.App app) cpu waiting out = cc
stays_by (says.Fill fill) cpu waiting out = cc
stays_by (says.Key key) cpu waiting out = cc
stays_by (says.Item i) cpu waiting out = waiting
stays_by (says.Signal value) cpu waiting out = cc

pub waits_inside : (said : Statement) (cpu : ℕ) → Waits said → cpu_going_out said ≡ Some cpu → ⊥
waits_inside said cpu which out = stays_by said cpu (waiting said which) out

pub none_out : (said : Statement) (value cpu : ℕ) → said ≡ says.Signal value → cpu_going_out said ≡ Some cpu → ⊥
none_out said value cpu is out =
    let none : cpu_going_out (says.Signal value) ≡ Some cpu = subst (λ (s : Statement). cpu_going_out s ≡ Some cpu) is out in cc

-- it is added there
on_ok : {A E P Q : Type 0} (result : Result A E) → (P → Q) → OnOk result P → OnOk result Q
on_ok (Ok x) then p = then p
on_ok (Err e) then p = tt

most_stays : (on : Platform) (old new : Header) → new.is_history_off ≡ old.is_history_off
    → (terms_where old.is_history_off).most ≡ on.most_bytes → (terms_where new.is_history_off).most ≡ on.most_bytes
most_stays on old new same most = ap (λ (off : Bool). (terms_where off).most) same ∙ most

pub header_added : (on : Platform) (lines : NotifyFront) (said : Statement) (old new : Header)
    (result : Result (Unit {0}) NoMemory)
    → ((before : NotifyFront) → IsHeaderOf old before → OnOk result (IsHeaderOf new (with_statement before said)))
    → new.is_history_off ≡ old.is_history_off → StageAt on (played lines said) (stage.Header old)
    → OnOk result (StageAt on (with_statement lines said) (stage.Header new))
header_added on lines says.Blank old new result adds same at =
    on_ok result (λ is. (is, at.1, most_stays on old new same at.2)) (adds lines at.0)
header_added on lines (says.Boot size) old new result adds same at =
    on_ok result (λ is. (is, record { items = at.1.items; signals = at.1.signals }, most_stays on old new same at.2)) (adds lines at.0)
header_added on lines (says.App app) old new result adds same at =
    on_ok result (λ is. (is, record { items = at.1.items; signals = at.1.signals }, most_stays on old new same at.2)) (adds lines at.0)
header_added on lines (says.Fill fill) old new result adds same at =
    on_ok result (λ is. (is, record { items = at.1.items; signals = at.1.signals }, most_stays on old new same at.2)) (adds lines at.0)
header_added on lines (says.Key key) old new result adds same at =
    on_ok result (λ is. (is, record { items = at.1.items; signals = at.1.signals }, most_stays on old new same at.2)) (adds lines at.0)
header_added on lines (says.Item i) old new result adds same at = absurd (closed_item lines i at.1)
header_added on lines (says.Signal value) old new result adds same at = absurd (closed_signal lines value at.1)

-- a core has played it before
pub core_added : (on : Platform) (lines : NotifyFront) (said : Statement) (player : NotifyPlayer) → IsPlaced lines said
    → StageAt on (played lines said) (stage.Core player) → StageAt on (with_statement lines said) (stage.Core player)
core_added on lines says.Blank player placed at = at
core_added on lines (says.Boot size) player placed at = absurd (at.1 placed)
core_added on lines (says.App app) player placed at = absurd (at.1 placed)
core_added on lines (says.Fill fill) player placed at = absurd (at.1 placed)
core_added on lines (says.Key key) player placed at = absurd (at.1 placed)
core_added on lines (says.Item i) player placed at = at
core_added on lines (says.Signal value) player placed at = at

-- ---- history off

-- of the lines of a header
pub forgotten : (on : Platform) (lines : NotifyFront) (old new : Header) → new ≡ record old { is_history_off = true }
    → StageAt on lines (stage.Header old) → StageAt (within on (2 ^ 63)) lines (stage.Header new)
forgotten on lines old new is at =
    subst (λ (header : Header). StageAt (within on (2 ^ 63)) lines (stage.Header header)) (sym is)
    (record { boot = at.0.boot; fills = at.0.fills }, at.1, refl)
