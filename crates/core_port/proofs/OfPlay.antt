-- An SMC that the play refuses at which a port stands.
use Rattle.std.proofs.Common.{◌≡◌, ◌⊎◌, inl, inr, ℕ, ◌+◌, ◌≤◌, Bool, true, false, List, [], ◌∷◌, length, Option, Some, None, refl, sym, ap, ◌∙◌}
use Rattle.std.specs.Prelude.{◌^◌, nat_lt, not, ◌&&◌, slice_get, if◌then◌else◌}
use Rattle.std.specs.Option.{option_and_then, option_map, option_map_or}
use Rattle.std.proofs.lemmas.Bool.{ltb-false}
use Rattle.event_journal.specs.Journal.{copied_bytes}
use Rattle.kernel_model.specs.Entry.{entry}
use Rattle.kernel_model.specs.Kernel.{Kernel}
use Rattle.kernel_model.proofs.Parts.{option_map_some}
use Rattle.kernel_state.specs.Entering.{bytes_read}
use Rattle.ns_ram.specs.Reader.{over_lane}
use Rattle.ns_ram.specs.Reads.{total_bytes}
use Rattle.ns_ram.specs.declared.read.Read.{Read}
use Rattle.play_model.specs.Play.{Play, enters, enters_with, entry_event, lane_of, leaves, reads_of, unless_refused, with_event}
use Rattle.smc_abi.specs.declared.regs.Regs.{Regs}
use Rattle.core_port.specs.CorePort.{CoreView, IsRefusedIn, NoRoomIsThePlays, StandsAt, bytes_wanted, is_full, smcs_made, visit_with}

-- the processor sees this RAM
pub sees : (play : Play) (ram : List ℕ) → slice_get play.lanes 0 ≡ Some ram → lane_of play 0 ≡ ram
sees play ram there = by play.lanes refl
  where
    by : (lanes : List (List ℕ)) → play.lanes ≡ lanes → lane_of play 0 ≡ ram
    by [] is = let none = sym there ∙ ap (λ (lanes : List (List ℕ)). slice_get lanes 0) is in absurd cc
    by (lane ∷ lanes) is =
        let found = sym there ∙ ap (λ (lanes : List (List ℕ)). slice_get lanes 0) is in
        let same : ram ≡ lane = cc in
        ap (λ (lanes : List (List ℕ)). let at : Play = record play { lanes = lanes } in lane_of at 0) is ∙ sym same

-- ---- a refusal

-- the entry would read so many bytes, more than there may be
refuses : (port : CoreView) (play : Play) (regs : Regs) (more : ℕ) → StandsAt port play → bytes_wanted port regs ≡ Some more
    → nat_lt (2 ^ 28) (copied_bytes port.history + more) ≡ true → IsRefusedIn port.boot play regs
refuses port play regs more at wants much =
    let visit = visit_with regs in
    let reads : bytes_read port.boot port.ram visit play.kernel ≡ Some more =
    sym (ap (λ (o : Option Kernel). option_and_then (bytes_read port.boot port.ram visit) o) at.kernel) ∙ wants in
    let found = option_map_some (λ (end : Kernel × List Read). total_bytes end.1)
    (over_lane (entry port.boot play.kernel visit) port.ram []) more reads in
    let theirs : reads_of port.boot play visit ≡ Some found.0.1 =
    ap (λ (l : List ℕ). option_map (λ (end : Kernel × List Read). end.1) (over_lane (entry port.boot play.kernel visit) l [])) (sees play port.ram at.ram)
    ∙ ap (option_map (λ (end : Kernel × List Read). end.1)) found.1 in
    let above : nat_lt play.most_bytes (copied_bytes play.history + total_bytes found.0.1) ≡ true =
    ap (λ (n : ℕ). nat_lt play.most_bytes (copied_bytes play.history + n)) found.2
    ∙ ap (λ (most : ℕ). nat_lt most (copied_bytes play.history + more)) at.limit
    ∙ ap (λ history. nat_lt (2 ^ 28) (copied_bytes history + more)) at.history ∙ much in
    let ends : enters port.boot play visit ≡ Some (record play { refused = Some more }) =
    ap (λ (o : Option (List Read)). option_and_then (enters_with port.boot play visit) o) theirs
    ∙ ap (λ (is : Bool). if is then Some (record play { refused = Some (total_bytes found.0.1) })
    else with_event port.boot (entry_event visit found.0.1) play) above
    ∙ ap (λ (n : ℕ). Some (record play { refused = Some n })) found.2 in
    (more, ap (λ (o : Option Play). option_and_then (unless_refused (leaves port.boot 0)) o) ends)

full : (port : CoreView) (play : Play) (regs : Regs) (wanted : Option ℕ) → StandsAt port play → bytes_wanted port regs ≡ wanted
    → option_map_or (λ more. nat_lt (2 ^ 28) (copied_bytes port.history + more)) wanted false ≡ true → IsRefusedIn port.boot play regs
full port play regs None at is much = absurd cc
full port play regs (Some more) at is much = refuses port play regs more at is much

pub no_room : NoRoomIsThePlays
no_room port play regs at none = by (nat_lt (length (smcs_made port)) 32768) (is_full port regs) refl refl none
  where
    by : (some full_now : Bool) → nat_lt (length (smcs_made port)) 32768 ≡ some → is_full port regs ≡ full_now
        → (some && not full_now) ≡ false → (32768 ≤ length (smcs_made port)) ⊎ IsRefusedIn port.boot play regs
    by false full_now few is none = inl (ltb-false (length (smcs_made port)) 32768 few)
    by true true few is none = inr (full port play regs (bytes_wanted port regs) at refl is)
    by true false few is none = absurd cc
