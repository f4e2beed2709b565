-- What a player has come to behind each of its acts.
use Rattle.std.proofs.Common.{◌≡◌, ◌^◌, ℕ, List, [], ◌∷◌, ◌++◌, Option, Some, None, Err, length, map, refl, ap, sym, subst, ◌∙◌}
use Rattle.std.specs.Prelude.{IfSome}
use Rattle.core_lock.specs.Counts.{made_by}
use Rattle.core_lock.specs.Passes.{made, number, seen}
use Rattle.event_journal.specs.declared.event.Event.{Event}
use Rattle.event_journal.specs.declared.event.Event.TheVariants.{Entry, Exit}
use Rattle.kernel_model.specs.Application.{Booted}
use Rattle.kernel_model.specs.Turns.{cpu_of}
use Rattle.kernel_state.specs.Work.{IsRanOf}
use Rattle.kernel_state.specs.declared.enter_refusal.EnterRefusal.{EnterRefusal}
use Rattle.kernel_state.specs.declared.enter_refusal.EnterRefusal.TheVariants.{Full, Memory}
use Rattle.kernel_state.specs.declared.work.Ran.{Ran}
use Rattle.kernel_state.specs.declared.work.Work.{Work}
use Rattle.kernel_state.specs.Entering.{IsTooMuchAfter}
use Rattle.normal_cpus.specs.Entering.{ComesIn, HasCome, coming}
use Rattle.normal_cpus.specs.Leaving.{GoesOut}
use Rattle.normal_cpus.specs.Sharing.{CpuPass}
use Rattle.normal_cpus.specs.declared.cpu_answer.CpuAnswer.{CpuAnswer}
use Rattle.ns_ram.specs.Lane.{bytes_at, bytes_put}
use Rattle.ns_ram.specs.Reads.{HoldsReads}
use Rattle.ns_ram.specs.Writes.{lane_after}
use Rattle.ordered_play.specs.Act.{Act, Comes, Leaves, Writes, Shows}
use Rattle.ordered_play.specs.Blocks.{block_of, placed_ret_line, text_of_placed}
use Rattle.ordered_play.specs.Merge.{role_of, share_of}
use Rattle.ordered_play.specs.Seat.{PlacedLine, Seat, Shown, Told, ready_for, with_line, with_writes}
use Rattle.play_model.specs.Line.{mem_line}
use Rattle.play_model.specs.Play.{number_in}
use Rattle.smc_abi.specs.declared.regs.Regs.{Regs}
use Rattle.trace_text.specs.declared.item.Item.{Item}
use Rattle.trace_text.specs.declared.item.Reg.{Reg}
use Rattle.threads_play.specs.Standing.{ComesToSeat, HasComeTo, HasGoneOut, IsRefused, LeadsTo}
use Rattle.threads_play.specs.declared.player.CpuPlayer.{CpuPlayer}
use Rattle.threads_play.proofs.Blocks.{block_with_line}
use Rattle.threads_play.proofs.Others.{others_before, others_seen}
use Rattle.threads_play.proofs.Parts.{comes, goes, refuses, stays}

module _ (boot : Booted) (items : List Item) (lane : List ℕ) (acts : List Act) where
  -- the part of another history, of the same number
  moved : (seat : Seat) (cpu new_cpu : ℕ) (history new_history : List Event) → new_cpu ≡ cpu → new_history ≡ history
      → ComesToSeat (role_of (share_of boot history cpu) items lane) seat → ComesToSeat (role_of (share_of boot new_history new_cpu) items lane) seat
  moved seat cpu new_cpu history new_history same is part =
      subst (λ (n : ℕ). ComesToSeat (role_of (share_of boot new_history n) items lane) seat) (sym same)
      (subst (λ (h : List Event). ComesToSeat (role_of (share_of boot h cpu) items lane) seat) (sym is) part)

  module _ (old : CpuPlayer) (pass : CpuPass) (own : made old.pass ≡ made_by cpu_of (number old.pass) (seen old.pass))
      (same : number pass ≡ number old.pass) where
    -- ---- an entry

    module _ (steps : ℕ) (regs : List Reg) (given : Regs) (given_is : given.a ≡ map (number_in old.answer.a) regs)
        (was : HasComeTo boot items lane (Comes steps regs ∷ acts) old) where
      given_to : given.a ≡ map (number_in was.seat.answer) regs
      given_to = given_is ∙ ap (λ (answer : List ℕ). map (number_in answer) regs) was.stands.was_told

      pub came_in : (work : Work) (kept : Option Work) → kept ≡ Some work
          → HasCome boot old.pass pass (coming (number old.pass) given steps) old.lane work
          → HasComeTo boot items lane acts (record old { pass = pass; work = kept })
      came_in work kept is has =
          let seat = was.seat in
          let cpu = number old.pass in
          let event = Entry cpu given steps has.reads in
          let others = others_before boot old.pass pass own has.before event refl has.makes in
          let at = stays boot cpu items lane (ready_for (Comes steps regs ∷ acts) seat) (seen old.pass) has.makes.begins.0
          has.before has.makes.begins.1 others was.stands.part in
          let behind = comes boot cpu items lane has.before acts seat steps regs has.reads at
          (subst (λ (l : List ℕ). HoldsReads l has.reads) was.stands.sees has.from_lane) in
          let regs_are : given ≡ record { a = map (number_in seat.answer) regs } =
          ap (λ (a : List ℕ). record { a = a }) given_to in
          let ends : seen pass
          ≡ has.before ++ Entry cpu (record { a = map (number_in seat.answer) regs }) steps has.reads ∷ [] =
          has.makes.ends ∙ ap (λ (r : Regs). has.before ++ Entry cpu r steps has.reads ∷ []) regs_are in
          record {
            seat = record seat { entry_at = length has.before };
            stands = record {
              part = moved (ready_for acts (record seat { entry_at = length has.before })) cpu (number pass)
                  (has.before ++ Entry cpu (record { a = map (number_in seat.answer) regs }) steps has.reads ∷ []) (seen pass)
                  same ends behind;
              goes_on = was.stands.goes_on;
              sees = was.stands.sees;
              was_told = was.stands.was_told;
              entered = subst (λ (w : Option Work). IfSome w (λ work. work.entry_at ≡ length has.before)) (sym is)
                  has.entry_at;
            };
            prints = was.prints ∙ ap (λ (n : ℕ). block_of n seat) (sym same);
          }

      pub stays_out : (why : EnterRefusal)
          → ComesIn boot old.pass pass (coming (number old.pass) given steps) old.lane (Err why)
          → LeadsTo boot items lane acts (record old { pass = pass }) (Err why)
      stays_out Memory has = tt
      stays_out (Full copied more) has =
          let seat = was.seat in
          let cpu = number old.pass in
          let at = stays boot cpu items lane (ready_for (Comes steps regs ∷ acts) seat) (seen old.pass) has.0.begins.0
          (seen pass) has.0.begins.1 (others_seen boot old.pass pass own has.0) was.stands.part in
          let much = subst (λ (l : List ℕ). IsTooMuchAfter boot (2 ^ 28) (seen pass) (coming cpu given steps) l copied more)
          was.stands.sees has.1 in
          let not = refuses boot cpu items lane (seen pass) acts seat steps regs given copied more at given_to much in
          let here : IsRefused (role_of (share_of boot (seen pass) cpu) items lane) copied more (record old { pass = pass }) = record {
            part = at.part;
            refused = not.0;
            so_far = not.1;
            of_entry = not.2;
            goes_on = ap (λ (s : Seat). s.refused) at.comes_to ∙ was.stands.goes_on;
            sees = was.stands.sees ∙ sym (ap (λ (s : Seat). s.lane) at.comes_to);
            prints = was.prints ∙ ap (block_of cpu) (sym at.comes_to);
          } in
          subst (λ (n : ℕ). IsRefused (role_of (share_of boot (seen pass) n) items lane) copied more (record old { pass = pass }))
          (sym same) here

    -- ---- an exit

    pub gone_out : (now : List ℕ) (answer : CpuAnswer) (calls : ℕ) (ran : Ran) (work : Work) (kept : Option Work)
        → old.work ≡ Some work → kept ≡ None → IsRanOf work ran → GoesOut boot old.pass pass ran old.lane now answer
        → HasComeTo boot items lane (Leaves ∷ acts) old
        → HasGoneOut boot items lane acts
        (record old { pass = pass; lane = now; answer = answer.regs; work = kept; calls = calls }) answer
    gone_out now answer calls ran work kept had none run has was =
        let seat = was.seat in
        let cpu = number old.pass in
        let exited = has.exited in
        let others = others_before boot old.pass pass own has.before (Exit cpu answer.regs) refl has.makes in
        let at = stays boot cpu items lane (ready_for (Leaves ∷ acts) seat) (seen old.pass) has.makes.begins.0 has.before
        has.makes.begins.1 others was.stands.part in
        let behind = goes boot cpu items lane has.before acts seat exited at has.is_exit in
        let regs_are : answer.regs ≡ record { a = exited.regs } = ap (λ (a : List ℕ). record { a = a }) has.answer_is in
        let ends : seen pass ≡ has.before ++ Exit cpu (record { a = exited.regs }) ∷ [] =
        has.makes.ends ∙ ap (λ (r : Regs). has.before ++ Exit cpu r ∷ []) regs_are in
        let entered : work.entry_at ≡ seat.entry_at =
        subst (λ (w : Option Work). IfSome w (λ work. work.entry_at ≡ seat.entry_at)) had was.stands.entered in
        let entry_at : seat.entry_at ≡ answer.entry_at = sym entered ∙ sym run.entry_at ∙ sym has.entry_at in
        let answer_is = sym has.answer_is in
        let exit_at = sym has.exit_at in
        let line : Told exited.regs seat.entry_at (length has.before) ≡ Told answer.regs.a answer.entry_at answer.exit_at = cc in
        let left : Seat = with_writes exited.writes (record seat { answer = exited.regs }) in
        record {
          seat = left;
          stands = record {
            part = moved (ready_for acts (with_line (Told answer.regs.a answer.entry_at answer.exit_at) left)) cpu
                (number pass) (has.before ++ Exit cpu (record { a = exited.regs }) ∷ []) (seen pass) same ends
                (subst (λ (l : PlacedLine). ComesToSeat
                (role_of (share_of boot (has.before ++ Exit cpu (record { a = exited.regs }) ∷ []) cpu) items lane)
                (ready_for acts (with_line l left))) line behind);
            goes_on = was.stands.goes_on;
            sees = has.writes ∙ ap (λ (l : List ℕ). lane_after l exited.writes) was.stands.sees;
            was_told = has.answer_is;
            entered = subst (λ (w : Option Work). IfSome w (λ work. work.entry_at ≡ seat.entry_at)) (sym none) tt;
          };
          prints = was.prints ∙ ap (λ (n : ℕ). block_of n seat) (sym same);
        }

  -- the line of an exit is printed
  pub told : (old new : CpuPlayer) (answer : CpuAnswer) → new ≡ record old { block = new.block }
      → new.block.items ≡ old.block.items ++ placed_ret_line (number old.pass) answer.regs.a answer.entry_at answer.exit_at
      → HasGoneOut boot items lane acts old answer → HasComeTo boot items lane acts new
  told old new answer is printed was =
      let line = Told answer.regs.a answer.entry_at answer.exit_at in
      let cpu = number old.pass in
      let here : HasComeTo boot items lane acts (record old { block = new.block }) = record {
        seat = with_line line was.seat;
        stands = record {
          part = was.stands.part;
          goes_on = was.stands.goes_on;
          sees = was.stands.sees;
          was_told = was.stands.was_told;
          entered = was.stands.entered;
        };
        prints = printed ∙ ap (λ (t : List ℕ). t ++ text_of_placed cpu line) was.prints
            ∙ sym (block_with_line cpu line was.seat was.stands.goes_on);
      } in
      subst (HasComeTo boot items lane acts) (sym is) here

  -- bytes of its RAM are printed
  pub shown : (old new : CpuPlayer) (addr len : ℕ) (bytes : List ℕ) → new ≡ record old { block = new.block }
      → new.block.items ≡ old.block.items ++ mem_line (number old.pass) addr bytes → bytes ≡ bytes_at old.lane addr len
      → HasComeTo boot items lane (Shows addr len ∷ acts) old → HasComeTo boot items lane acts new
  shown old new addr len bytes is printed are was =
      let seat = was.seat in
      let cpu = number old.pass in
      let line = Shown addr (bytes_at seat.lane addr len) in
      let there : bytes ≡ bytes_at seat.lane addr len =
      are ∙ ap (λ (l : List ℕ). bytes_at l addr len) was.stands.sees in
      let here : HasComeTo boot items lane acts (record old { block = new.block }) = record {
        seat = with_line line seat;
        stands = record {
          part = was.stands.part;
          goes_on = was.stands.goes_on;
          sees = was.stands.sees;
          was_told = was.stands.was_told;
          entered = was.stands.entered;
        };
        prints = printed ∙ ap (λ (b : List ℕ). old.block.items ++ mem_line cpu addr b) there
            ∙ ap (λ (t : List ℕ). t ++ text_of_placed cpu line) was.prints
            ∙ sym (block_with_line cpu line seat was.stands.goes_on);
      } in
      subst (HasComeTo boot items lane acts) (sym is) here

  -- bytes are written to its RAM
  pub wrote : (old new : CpuPlayer) (addr : ℕ) (bytes : List ℕ) → new ≡ record old { lane = bytes_put old.lane addr bytes }
      → HasComeTo boot items lane (Writes addr bytes ∷ acts) old → HasComeTo boot items lane acts new
  wrote old new addr bytes is was =
      let here : HasComeTo boot items lane acts (record old { lane = bytes_put old.lane addr bytes }) = record {
        seat = with_writes (record { addr = addr; bytes = bytes } ∷ []) was.seat;
        stands = record {
          part = was.stands.part;
          goes_on = was.stands.goes_on;
          sees = ap (λ (l : List ℕ). bytes_put l addr bytes) was.stands.sees;
          was_told = was.stands.was_told;
          entered = was.stands.entered;
        };
        prints = was.prints;
      } in
      subst (HasComeTo boot items lane acts) (sym is) here
