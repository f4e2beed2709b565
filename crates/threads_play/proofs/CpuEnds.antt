-- A player before its first act, and what it gives back.
use Rattle.std.proofs.Common.{◌≡◌, ℕ, ◌<◌, length, ◌≤◌, arith, false, List, [], ◌∷◌, ◌++◌, Option, Some, None, Result, Ok, Err, take, refl, ap, sym, subst, ◌∙◌}
use Rattle.std.proofs.Math.Seq.{take-length}
use Rattle.std.specs.Prelude.{codes, IfSome, OnOk}
use Rattle.std.specs.Fmt.{decimal}
use Rattle.std.specs.Option.{is_some}
use Rattle.core_lock.specs.Counts.{made_by}
use Rattle.core_lock.specs.Passes.{count_of, made, number, seen}
use Rattle.event_journal.specs.Journal.{copied_bytes}
use Rattle.event_journal.specs.declared.event.Event.{Event}
use Rattle.kernel_model.specs.Application.{Booted}
use Rattle.kernel_model.specs.Turns.{cpu_of}
use Rattle.kernel_state.specs.declared.enter_refusal.EnterRefusal.TheVariants.{Full}
use Rattle.kernel_state.specs.declared.work.Work.{Work}
use Rattle.normal_cpus.specs.Sharing.{CpuPass, IsCpuOf, boot_of, end_inside, is_inside}
use Rattle.normal_cpus.specs.declared.shared_core.SharedCore.{SharedCore}
use Rattle.normal_cpus.proofs.OwnEvents.{others_behind}
use Rattle.ns_ram.specs.Reads.{total_bytes}
use Rattle.ordered_play.specs.Act.{acts_for}
use Rattle.ordered_play.specs.Blocks.{block_of, full_line}
use Rattle.ordered_play.specs.Merge.{role_of, seat_of}
use Rattle.ordered_play.specs.Seat.{Refusal, Seat, fresh_seat, ready_for}
use Rattle.trace_text.specs.declared.item.Item.{Item}
use Rattle.threads_play.specs.Ending.{HasDoneAll, WasRefused, end_of}
use Rattle.threads_play.specs.Standing.{HasComeTo, IsNew, IsOn, IsReady, IsRefused, share_in}
use Rattle.threads_play.specs.declared.player.CpuPlayer.{CpuPlayer}
use Rattle.threads_play.proofs.Blocks.{block_at_first, block_with_full}
use Rattle.threads_play.proofs.Parts.{begins, stays}

-- what holds behind a line that was printed
pub if_ok : {E : Type 0} (result : Result (Unit {0}) E) (P Q : Type 0) → (P → Q) → OnOk result P → OnOk result Q
if_ok (Ok done) P Q so held = so held
if_ok (Err why) P Q so held = tt

-- ---- outside

pub outside_unused : (pass : CpuPass) → made pass ≡ [] → is_inside pass ≡ false
outside_unused pass unused = ap end_inside unused

pub outside_without_work : (boot : Booted) (pass : CpuPass) (work : Option Work) → is_some work ≡ false → IsReady boot pass work
    → is_inside pass ≡ false
outside_without_work boot pass None none ready = ready
outside_without_work boot pass (Some work) none ready = absurd cc

-- ---- a player that begins with this pass

pub on_first : (shared : SharedCore) (pass : CpuPass) (player : CpuPlayer) → player.pass ≡ pass → player.work ≡ None
    → made pass ≡ [] → IsCpuOf shared pass → count_of shared.lock ≤ 8 → IsOn shared player
on_first shared pass player is none unused own few =
    let below = own.0.below in
    let number_few : number pass < 8 = omega (arith, below, few) in
    record {
      own = subst (IsCpuOf shared) (sym is) own;
      few = subst (λ (p : CpuPass). number p < 8) (sym is) number_few;
      ready = subst (λ (w : Option Work). IsReady (boot_of shared) player.pass w) (sym none)
          (outside_unused player.pass (ap made is ∙ unused));
    }

-- ---- before the first act

-- it has printed the head of its block
pub first : (boot : Booted) (items : List Item) (lane : List ℕ) (old new : CpuPlayer) → new ≡ record old { block = new.block }
    → new.block.items ≡ old.block.items ++ codes "cpu " ++ decimal (number old.pass) ++ 10 ∷ [] → IsNew lane old
    → made old.pass ≡ [] → made old.pass ≡ made_by cpu_of (number old.pass) (seen old.pass)
    → HasComeTo boot items lane (acts_for (number old.pass) items) new
first boot items lane old new is printed starts unused own =
    let cpu = number old.pass in
    let none : List Event = [] in
    let others = others_behind cpu none (seen old.pass) (sym own ∙ unused) in
    let here : HasComeTo boot items lane (acts_for cpu items) (record old { block = new.block }) = record {
      seat = fresh_seat lane;
      stands = record {
        part = stays boot cpu items lane (ready_for (acts_for cpu items) (fresh_seat lane)) none (seen old.pass)
            (seen old.pass) refl others (begins boot cpu items lane);
        goes_on = refl;
        sees = starts.sees;
        was_told = starts.was_told;
        entered = subst (λ (w : Option Work). IfSome w (λ work. work.entry_at ≡ 0)) (sym starts.no_work) tt;
      };
      prints = printed ∙ ap (λ (t : List ℕ). t ++ codes "cpu " ++ decimal cpu ++ 10 ∷ []) starts.no_lines
          ∙ block_at_first cpu lane;
    } in
    subst (HasComeTo boot items lane (acts_for cpu items)) (sym is) here

-- ---- the end

pub all_done : (boot : Booted) (items : List Item) (lane : List ℕ) (player : CpuPlayer) → HasComeTo boot items lane [] player
    → HasDoneAll (role_of (share_in boot player) items lane) (end_of player (Ok tt))
all_done boot items lane player has =
    let part = has.stands.part in
    record {
      part = part.part;
      all = ap (λ (s : Seat). s.acts) part.comes_to;
      sees = has.stands.sees ∙ sym (ap (λ (s : Seat). s.lane) part.comes_to);
      block = has.prints ∙ ap (block_of (number player.pass)) (sym part.comes_to);
    }

pub full_told : (boot : Booted) (items : List Item) (lane : List ℕ) (copied more : ℕ) (old new : CpuPlayer)
    → new ≡ record old { block = new.block }
    → new.block.items ≡ old.block.items ++ full_line (record { copied = copied; more = more })
    → IsRefused (role_of (share_in boot old) items lane) copied more old
    → WasRefused (role_of (share_in boot new) items lane) copied more (end_of new (Err (Full copied more)))
full_told boot items lane copied more old new is printed was =
    let cpu = number old.pass in
    let of = role_of (share_in boot old) items lane in
    let now : CpuPlayer = record old { block = new.block } in
    let refusal : Refusal = record { copied = copied_bytes (take (length of.share.history) of.share.history); more = total_bytes was.refused.reads } in
    let so_far = was.so_far ∙ ap copied_bytes (sym (take-length of.share.history)) in
    let of_entry = was.of_entry in
    let numbers : full_line (record { copied = copied; more = more }) ≡ full_line refusal =
    ap (λ (n : ℕ). full_line (record { copied = n; more = more })) so_far
    ∙ ap (λ (n : ℕ). full_line (record { copied = refusal.copied; more = n })) of_entry in
    let here : WasRefused of copied more (end_of now (Err (Full copied more))) = record {
      part = was.part;
      refused = was.refused;
      so_far = was.so_far;
      of_entry = was.of_entry;
      sees = was.sees;
      block = printed ∙ ap (λ (t : List ℕ). old.block.items ++ t) numbers
          ∙ ap (λ (t : List ℕ). t ++ full_line refusal) was.prints
          ∙ sym (block_with_full cpu refusal (seat_of was.part) was.goes_on);
    } in
    subst (λ (p : CpuPlayer). WasRefused (role_of (share_in boot p) items lane) copied more (end_of p (Err (Full copied more))))
    (sym is) here
