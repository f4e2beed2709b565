-- The blocks of a trace in the order of a history of which its processors have their parts.
use Rattle.std.proofs.Common.{◌≡◌, ℕ, Bool, List, [], Option, Some, None, refl, ◌∙◌, ap}
use Rattle.std.specs.Prelude.{if◌then◌else◌}
use Rattle.std.specs.Option.{option_and_then}
use Rattle.ordered_play.proofs.BlocksOfSeats.{all_done, in_blocks}
use Rattle.ordered_play.proofs.Merged.{refusals_merge}
use Rattle.ordered_play.specs.Blocks.{blocks_by, blocks_of, blocks_of_ended}
use Rattle.ordered_play.specs.Laws.{BlocksMerge}
use Rattle.ordered_play.specs.Merge.{IsDone, IsRefusedIf, Part, order_with, role_in, seat_in, seat_with, setting_of}
use Rattle.ordered_play.specs.Ordered.{OrderedPlay}
use Rattle.ordered_play.specs.Part.{Role}

-- a seat whose part is done has no act to come
nothing_left : (of : Role) (part : Part of) (place : Option ℕ) (refused : IsRefusedIf of part place)
    → IsDone part.is_part.left place → (seat_with of part place refused).acts ≡ []
nothing_left of part None refused done = done
nothing_left of part (Some place) refused done = refl

pub blocks_merge : BlocksMerge
blocks_merge natives boot trace history apart texts is legal few done are =
    let on = setting_of natives boot trace in
    let merged = refusals_merge on history apart legal few in
    let ended = all_done on.boot history (seat_in apart) merged.0 merged.2 (λ cpu below.
    nothing_left (role_in on history cpu) (apart.parts cpu below) (apart.places cpu) (apart.refusals cpu below) (done cpu below)) in
    let texts_are = in_blocks on.boot history (seat_in apart) merged.0 merged.2 texts are.0 are.1 in
    ap (blocks_by natives trace (order_with apart.places boot.cpus 0 history)) is
    ∙ ap (λ (o : Option OrderedPlay). option_and_then blocks_of_ended o) merged.1
    ∙ ap (λ (b : Bool). if b then Some (blocks_of merged.0) else None) ended
    ∙ ap (λ (text : List ℕ). Some text) texts_are
