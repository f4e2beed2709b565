-- An entry of a play has one list of reads, and an exit comes where there is one.
use Rattle.std.proofs.Common.{◌≡◌, Bool, Some, None, [], ◌∷◌, ◌++◌, refl, ◌∙◌, List, Option, ap}
use Rattle.std.specs.Prelude.{if◌then◌else◌}
use Rattle.std.proofs.lemmas.Slice.Eq.{bytes_eq-Decides}
use Rattle.event_journal.specs.declared.event.Event.TheVariants.{Exit}
use Rattle.kernel_model.specs.Exit.{Exited}
use Rattle.kernel_model.specs.History.{after_event, exit_to}
use Rattle.play_model.specs.Line.{Ret}
use Rattle.std.specs.Option.{option_and_then, option_map}
use Rattle.kernel_model.specs.Entry.{entry}
use Rattle.kernel_model.specs.Kernel.{Kernel}
use Rattle.kernel_model.proofs.Parts.{some_of}
use Rattle.ns_ram.proofs.ReaderLaws.{over_lane-reading}
use Rattle.ns_ram.specs.declared.read.Read.{Read}
use Rattle.own_model.proofs.FixedAnswers as fixed
use Rattle.play_model.specs.Laws.{EntriesAreRead, ExitsCome}
use Rattle.play_model.specs.Play.{Play, enters_with, lane_of, leaves_with, with_line, with_writes}

pub entries_are_read : EntriesAreRead
entries_are_read boot play visit reads is =
    let next = some_of _ is.follows in
    let came = fixed.entered boot play.kernel next.0 visit.cpu visit.steps (record { a = visit.regs }) reads next.1 in
    let over = (over_lane-reading (entry boot play.kernel visit) (lane_of play visit.cpu) reads next.0).1
    (came, is.holds) in
    ap (λ (o : Option (Kernel × List Read)). option_and_then (enters_with boot play visit)
    (option_map (λ end. end.1) o)) over

pub exits_come : ExitsCome
exits_come boot play cpu exited e =
    let gone = λ (next : Kernel). record play
    { kernel = next; history = play.history ++ Exit cpu (record { a = exited.regs }) ∷ [] } in
    let tells = λ (next : Play). with_line (Ret cpu exited.regs) (with_writes cpu exited.writes next) in
    let same = (bytes_eq-Decides exited.regs exited.regs).1 refl in
    let after : after_event boot play.kernel (Exit cpu (record { a = exited.regs })) ≡ Some exited.kernel =
    ap (λ (o : Option Exited). option_and_then (exit_to exited.regs) o) e
    ∙ ap (λ (b : Bool). if b then Some exited.kernel else None) same in
    ap (λ (o : Option Exited). option_and_then (leaves_with boot play cpu) o) e
    ∙ ap (λ (o : Option Kernel). option_map tells (option_map gone o)) after
