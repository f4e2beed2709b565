-- Each printed result of a session whose application's sessions share no instance, and the outputs behind it, are told by the session's
-- own machine: its call is in the first slot from its first entry to the exit that ends it, with the places where its client looks.
use Rattle.std.proofs.Common.{◌≡◌, ℕ, zero, suc, ◌+◌, ◌≤◌, ◌<◌, false, List, [], ◌∷◌, ◌++◌, length, take, Option, Some, None, refl, ap, subst, sym, ◌∙◌, arith}
use Rattle.std.specs.Prelude.{All, is_some, slice_get, slice_index_or, slice_set, ◌^◌, ◌==◌}
use Rattle.std.specs.Option.{option_and_then, option_map_or}
use Rattle.std.proofs.lemmas.List.{append_assoc, length-append}
use Rattle.std.proofs.lemmas.List.Elements.{All-head, All-nil, All-push, All-tail}
use Rattle.std.proofs.lemmas.Option.{option_and_then_some}
use Rattle.base.specs.Zeros.{zeros}
use Rattle.base.proofs.MapLemmas.{All-get}
use Rattle.client_text.specs.Sound.{IsSoundCall, IsSoundNamed}
use Rattle.client_text.specs.declared.script.ScriptCall.{ScriptCall}
use Rattle.client_text.specs.declared.script.ScriptCall.TheVariants.{Close, Invoke, Open}
use Rattle.client_text.specs.declared.script.ScriptParam.{ScriptParam}
use Rattle.event_journal.specs.declared.event.Event.{Event}
use Rattle.event_journal.specs.declared.event.Event.TheVariants.{Exit}
use Rattle.kernel_model.specs.Application.{Application, Booted, IsBooted, booted}
use Rattle.kernel_model.specs.Argument.{reg}
use Rattle.kernel_model.specs.Decision.{Taken}
use Rattle.kernel_model.specs.Entry.{decision_of}
use Rattle.kernel_model.specs.Exit.{output_writes, progress_held, result_writes, session_writes, word32, writes_of}
use Rattle.kernel_model.specs.Exit as exit
use Rattle.kernel_model.specs.History.{kernel_after}
use Rattle.kernel_model.specs.Instances.{app_of, is_single}
use Rattle.kernel_model.specs.Kernel.{Active, Free, Kernel, PendingCall, Suspended, ThreadSlot, first_kernel, lowest_free}
use Rattle.kernel_model.specs.Leaving.{Finishes, Leaving, leaving_of}
use Rattle.kernel_model.specs.SoundNumbers.{IsNumberedSession}
use Rattle.kernel_model.proofs.Parts.{if-both}
use Rattle.kernel_model.proofs.SoundNumbers.{numbered}
use Rattle.msg_args.specs.Layout.{origin_at, ret_at}
use Rattle.ns_ram.specs.Writes.{lane_after}
use Rattle.ns_ram.proofs.WriteList.{lane_after-append}
use Rattle.own_model.specs.Parameters.{outputs_with}
use Rattle.own_model.specs.Own.{Notes, call_noted, event_in, event_of, no_notes, noted, numbered as with_number, own_app, own_replies}
use Rattle.own_model.specs.Tied.{call_in}
use Rattle.own_model.specs.declared.own_event.OwnEvent.{OwnEvent}
use Rattle.own_model.specs.declared.own_reply.OwnReply.{OwnReply}
use Rattle.realm_model.proofs.SessionsKnown.{kept_sessions_known, noted-append}
use Rattle.own_model.proofs.NewEntries.{new_call_noted}
use Rattle.own_model.proofs.NotedCalls.{noted_is}
use Rattle.own_model.proofs.WholeHistories.{goes_from}
use Rattle.play_model.specs.Play.{Play, entry_event}
use Rattle.smc_abi.specs.Answer.{registers_of}
use Rattle.smc_abi.specs.Call as smc
use Rattle.smc_abi.specs.declared.regs.Regs.{Regs}
use Rattle.supplicant.specs.Supplicant.{Storage}
use Rattle.ta_params.specs.declared.call_result.CallResult.{CallResult}
use Rattle.ta_params.specs.declared.copied_params.CopiedParams.{CopiedParams}
use Rattle.teec.specs.Calls.{Call}
use Rattle.teec.specs.Rounds.{Calls, Cancels, Ended, Failed, Resumes, Stage, after_cancel, after_resume, before_answer}
use Rattle.teec.specs.Rounds as rounds
use Rattle.teec.specs.declared.fault.TeecFault.TheVariants.{Rounds}
use Rattle.teec.specs.Answers.{call_with_arg, return_from_rpc, said}
use Rattle.teec.specs.Places.{argument_at, cancel_at}
use Rattle.teec.specs.Results.{result_in}
use Rattle.teec.specs.declared.answer.RpcKind.{RpcKind}
use Rattle.teec.specs.declared.answer.RpcReturn.{RpcReturn}
use Rattle.teec.specs.declared.answer.Said.{Said}
use Rattle.teec.specs.declared.answer.Said.TheVariants.{Finished}
use Rattle.teec.specs.declared.answer.Said.TheVariants as says
use Rattle.client_play.specs.Calls.{call_of, cancelled_after, operation_of, session_of}
use Rattle.client_play.specs.Outputs.{TellsOutputs}
use Rattle.client_play.specs.PlayLaws.{IsCallIn, IsInSession, IsToldAlone, OpensSession, ResultsAreToldAlone, TellsAlone, end_of}
use Rattle.client_play.specs.Played.{Client, ClientPlay, after_call, call_made, calls_made, ended, first_client, first_standing, goes_on, line_of}
use Rattle.client_play.specs.Printed.{CallLine}
use Rattle.client_play.specs.Standing.{Came, Fails, Returned, Standing, Stopped, after_smc, answer_of, call_from, most_returns, next_stage, prepared, standing_after, steps_granted, tries, unless_full, visit_with}
use Rattle.client_play.proofs.Bringing.{Brings, Follows}
use Rattle.client_play.proofs.Ending.{EndsCall, in_words, result_told, told_alone}
use Rattle.client_play.proofs.Entering.{HasSession, IsOfClient, IsOurs, close_taken, invoke_taken, open_taken}
use Rattle.client_play.proofs.Growing.{Extends, before_last, call_adds, call_grows, calls_grow, extends_on, front_of, smc_grows}
use Rattle.client_play.proofs.NewCalls.{IsSettled, Lasting, OnLane, TakesSlot, lasting}
use Rattle.client_play.proofs.NoFaults.{Comes, Full, Made, Stands, Took, call_turns, cancel_turns, first_out, in_first, inside, smc_comes, whole_after}
use Rattle.client_play.proofs.OutputsWritten.{Sending, back_in, brought, finished_brings, written_told}
use Rattle.client_play.proofs.OwnNumbers.{call_numbered, session_given}
use Rattle.client_play.proofs.RepliesStay.{replies_stay}
use Rattle.client_play.proofs.ScriptsPlayed.{Holds, IsMade, IsWellDone, asked_stands, call_comes, calls_are_made, cancel_comes, first_stands, resume_comes}
use Rattle.client_play.proofs.Sendable.{sendable, sends}
use Rattle.client_play.proofs.Turns.{Asked, GoesOut, Over, Turned, exit_follows, first_lowest}

-- ---- an application that is known stays so

known_on : (boot : Booted) → IsBooted boot → (session : ℕ) (app : Application) (front whole : List Event) (kernel : Kernel)
    → Extends front whole → kernel_after boot whole ≡ Some kernel → own_app boot front session ≡ Some app
    → own_app boot whole session ≡ Some app
known_on boot boots session app front whole kernel extends there known =
    subst (λ (h : List Event). own_app boot h session ≡ Some app) (sym extends.is)
    (kept_sessions_known.stays boot front extends.more session app (record {
      boots = boots;
      follows = ap is_some (ap (kernel_after boot) (sym extends.is) ∙ there);
    }) known)

-- ---- the exit of the first slot's call

module _ (boot : Booted) (boots : IsBooted boot) (n : ℕ) (session : ℕ) (app : Application) (alone : is_single app ≡ false) (sending : Sending) where
  -- a call of client 0 in the session, whose argument stands in front
  abbrev ours : Lasting
  ours = record { client = 0; session = session; arg = argument_at }

  -- the call has ended, with a result and outputs that the session's machine tells
  abbrev EndsTold : Standing → Type 0
  EndsTold at = IsToldAlone boot at.history session app (record { result = result_in at.ram; params = back_in sending at.ram })

  -- it is in the first slot, suspended behind this RPC return
  record IsInside (rpc : RpcReturn) (at : Standing) : Type 0 where
    holds : Holds boot n rpc at
    same : lasting holds.pending ≡ ours
    brings : Brings (brought sending) holds.pending
    known : own_app boot at.history session ≡ Some app

  data Went (answer : Regs) (at : Standing) : Type 0 where
    HasEnded : said answer ≡ Finished → EndsTold at → Went answer at
    IsAsked : (kind : RpcKind) → said answer ≡ says.Returned (record { kind = kind; thread = 0 })
        → IsInside (record { kind = kind; thread = 0 }) at → Went answer at

  module _ (regs : Regs) (asked : Standing) (was : ThreadSlot) (P : Taken → Type 0) (after : Play) (storage : Storage)
      (stands : Stands boot was n asked) (made : Made boot asked regs 0 P after) (same : lasting made.taken.call ≡ ours)
      (brings : Brings (brought sending) made.taken.call) (known : own_app boot made.between.history session ≡ Some app) where
    abbrev o : GoesOut boot made.between after 0 made.taken.call regs
    o = first_out boot asked regs was n P after storage stands made

    abbrev told : Regs
    told = record { a = registers_of (exit.answer_of 0 (leaving_of 0 o.progress.call)) regs.a }

    there : slice_get made.between.kernel.slots 0 ≡ Some (Active 0 made.taken.call)
    there = in_first boot asked regs was n P after storage stands made

    follows : Follows made.taken.call o.progress.call
    follows = exit_follows made.between.kernel.tables made.taken.call steps_granted o.progress o.comes

    lasts : lasting o.progress.call ≡ ours
    lasts = follows.same ∙ same

    ends_call : (result : CallResult) (params : CopiedParams) → leaving_of 0 o.progress.call ≡ Finishes result params
        → EndsCall boot made.between.history session told result params
    ends_call result params leaves =
        let number = call_numbered boot made.between.history made.between.kernel session 0 app made.taken.call boots made.comes known alone
        (ap (λ (held : Option ThreadSlot). option_and_then call_in held) there) (ap (λ (l : Lasting). l.session) same) in
        record {
          kernel = made.between.kernel;
          there = made.comes;
          next = after.kernel;
          goes = o.event;
          came = regs.a;
          steps = steps_granted;
          slot = 0;
          inside = inside boot asked regs 0 P after stands.outside stands.whole made there;
          number = number.0;
          has = number.1;
          progress = o.progress;
          comes = ap (λ (held : Option ThreadSlot). option_and_then (progress_held made.between.kernel.tables steps_granted) held) there
              ∙ o.comes;
          leaves = leaves;
        }

    -- RAM then
    ram_is : (result : CallResult) (params : CopiedParams) → leaving_of 0 o.progress.call ≡ Finishes result params
        → (standing_after after storage).ram ≡ lane_after asked.ram (result_writes o.progress.call result params)
    ram_is result params leaves =
        ap (λ (lanes : List (List ℕ)). slice_index_or lanes 0 []) (o.lanes
        ∙ ap (λ (lanes : List (List ℕ)). slice_set lanes 0
        (lane_after (slice_index_or lanes 0 []) (writes_of o.progress.call (leaving_of 0 o.progress.call)))) made.lanes)
        ∙ ap (λ (leaving : Leaving). lane_after asked.ram (writes_of o.progress.call leaving)) leaves

    -- what it has of its result
    result_is : (result : CallResult) (params : CopiedParams) → leaving_of 0 o.progress.call ≡ Finishes result params
        → result_in (standing_after after storage).ram ≡ in_words result
    result_is result params leaves =
        let before = output_writes o.progress.call result params ++ session_writes o.progress.call o.progress.call.kind result in
        let words = λ (arg : ℕ). word32 (ret_at arg) result.result ∷ word32 (origin_at arg) result.origin ∷ [] in
        let whole = whole_after asked.ram before stands.whole in
        ap result_in (ram_is result params leaves)
        ∙ ap result_in (lane_after-append asked.ram before (words o.progress.call.arg))
        ∙ ap (λ (arg : ℕ). result_in (lane_after (lane_after asked.ram before) (words arg))) (ap (λ (l : Lasting). l.arg) lasts)
        ∙ result_told (lane_after asked.ram before) whole result

    -- and of its outputs
    outputs_are : (result : CallResult) (params : CopiedParams) → leaving_of 0 o.progress.call ≡ Finishes result params
        → result.origin ≡ 4 → TellsOutputs (back_in sending (standing_after after storage).ram) (outputs_with result params)
    outputs_are result params leaves origin =
        subst (λ (ram : List ℕ). TellsOutputs (back_in sending ram) (outputs_with result params)) (sym (ram_is result params leaves))
        (written_told sending asked.ram o.progress.call result params stands.whole (ap (λ (l : Lasting). l.arg) lasts)
        (finished_brings (brought sending) 0 o.progress.call result params leaves (follows.brings (brought sending) brings) origin) origin)

    ends_told : (result : CallResult) (params : CopiedParams) → leaving_of 0 o.progress.call ≡ Finishes result params
        → EndsTold (standing_after after storage)
    ends_told result params leaves =
        let back = back_in sending (standing_after after storage).ram in
        subst (λ (found : CallResult). IsToldAlone boot after.history session app (record { result = found; params = back }))
        (sym (result_is result params leaves))
        (subst (λ (h : List Event). IsToldAlone boot h session app (record { result = in_words result; params = back })) (sym o.history)
        (told_alone boot made.between.history session told result params (ends_call result params leaves) app boots known alone back
        (outputs_are result params leaves)))

    turned_so : (held : ThreadSlot) → Turned made.taken.call (leaving_of 0 o.progress.call) held (answer_of after)
        → Stands boot held n (standing_after after storage) → Went (answer_of after) (standing_after after storage)
    turned_so held (Over result params leaves free fin) still = HasEnded fin (ends_told result params leaves)
    turned_so held (Asked pending suspended kept kind ret) still =
        IsAsked kind ret (record {
          holds = record {
            pending = pending;
            client = ap (λ (l : Lasting). l.client) (kept.same ∙ same);
            stands = subst (λ (h : ThreadSlot). Stands boot h n (standing_after after storage)) suspended still;
            thread = refl;
          };
          same = kept.same ∙ same;
          brings = kept.brings (brought sending) brings;
          known = known_on boot boots session app made.between.history after.history after.kernel
              (record { more = Exit 0 told ∷ []; is = o.history }) still.comes known;
        })

    went : Went (answer_of after) (standing_after after storage)
    went =
        let turned = call_turns boot asked regs was n P after storage stands made (ap (λ (l : Lasting). l.client) same) in
        turned_so turned.0 turned.1 turned.2

-- ---- from a stage on

-- what comes behind an SMC that came
onward_is : (boot : Booted) (regs : Regs) (asked : Standing) (play : Play) (onward : Play → Option Came) (came : Came)
    → after_smc boot regs asked ≡ Some play → play.refused ≡ None
    → option_and_then (unless_full onward) (after_smc boot regs asked) ≡ Some came → onward play ≡ Some came
onward_is boot regs asked play onward came is going e =
    sym (ap (λ (o : Option Play). option_and_then (unless_full onward) o) is
    ∙ ap (λ (o : Option ℕ). option_map_or (λ bytes. Some (Stopped bytes play.history)) o (onward play)) going) ∙ e

-- and one that is refused doesn't return
not_full : (boot : Booted) (regs : Regs) (asked : Standing) (play : Play) (onward : Play → Option Came) (more left : ℕ) (after : Standing)
    → after_smc boot regs asked ≡ Some play → play.refused ≡ Some more
    → option_and_then (unless_full onward) (after_smc boot regs asked) ≡ Some (Returned left after) → ⊥
not_full boot regs asked play onward more left after is full e =
    let stops : Some (Stopped more play.history) ≡ Some (Returned left after) =
    sym (ap (λ (o : Option Play). option_and_then (unless_full onward) o) is
    ∙ ap (λ (o : Option ℕ). option_map_or (λ bytes. Some (Stopped bytes play.history)) o (onward play)) full) ∙ e in cc

module _ (boot : Booted) (boots : IsBooted boot) (n : ℕ) (cancel_after : Option ℕ) (call : Call) (made : IsMade call)
    (session : ℕ) (app : Application) (alone : is_single app ≡ false) (sending : Sending) where
  abbrev Ends : Standing → Type 0
  Ends at = EndsTold boot boots n session app alone sending at

  abbrev Inside : RpcReturn → Standing → Type 0
  Inside rpc at = IsInside boot boots n session app alone sending rpc at

  abbrev Fits : Stage → Standing → Type 0
  Fits (Calls refused) at = ⊥
  Fits (Cancels returns rpc) at = Inside rpc at
  Fits (Resumes returns rpc) at = Inside rpc at
  Fits Ended at = Ends at
  Fits (Failed fault) at = Unit {0}

  abbrev returning : ℕ → RpcReturn → Stage
  returning returns rpc = rounds.after_return (record { retries = tries; rounds = most_returns; cancel_after = cancel_after }) returns rpc

  fits_return : (returns : ℕ) (rpc : RpcReturn) (at : Standing) → Inside rpc at → Fits (returning returns rpc) at
  fits_return returns rpc at within =
      if-both (λ (stage : Stage). Fits stage at) (returns == most_returns) (Failed (Rounds most_returns))
      (before_answer (record { retries = tries; rounds = most_returns; cancel_after = cancel_after }) (suc returns) rpc) tt
      (if-both (λ (stage : Stage). Fits stage at) (option_map_or (λ after. after == suc returns) cancel_after false)
      (Cancels (suc returns) rpc) (Resumes (suc returns) rpc) within within)

  abbrev called_so : Regs → Said → Stage
  called_so answer s = rounds.after_call (record { retries = tries; rounds = most_returns; cancel_after = cancel_after }) 0 answer s

  abbrev resumed_so : ℕ → Regs → Said → Stage
  resumed_so returns answer s =
      after_resume (record { retries = tries; rounds = most_returns; cancel_after = cancel_after }) returns answer s

  after_first : (answer : Regs) (at : Standing) → Went boot boots n session app alone sending answer at
      → Fits (next_stage cancel_after (Calls 0) answer) at
  after_first answer at (HasEnded fin ends) = subst (λ (s : Said). Fits (called_so answer s) at) (sym fin) ends
  after_first answer at (IsAsked kind ret within) =
      subst (λ (s : Said). Fits (called_so answer s) at) (sym ret) (fits_return 0 (record { kind = kind; thread = 0 }) at within)

  after_another : (returns : ℕ) (rpc : RpcReturn) (answer : Regs) (at : Standing) → Went boot boots n session app alone sending answer at
      → Fits (next_stage cancel_after (Resumes returns rpc) answer) at
  after_another returns rpc answer at (HasEnded fin ends) =
      subst (λ (s : Said). Fits (resumed_so returns answer s) at) (sym fin) ends
  after_another returns rpc answer at (IsAsked kind ret within) =
      subst (λ (s : Said). Fits (resumed_so returns answer s) at) (sym ret)
      (fits_return returns (record { kind = kind; thread = 0 }) at within)

  -- its client
  client_is : (pending : PendingCall) → lasting pending ≡ ours boot boots n session app alone sending → pending.client ≡ 0
  client_is pending same = ap (λ (l : Lasting). l.client) same

  -- whatever stage fits, with less room
  abbrev Tells : ℕ → Type 0
  Tells room = (stage : Stage) (at : Standing) → Fits stage at → (left : ℕ) (after : Standing)
      → call_from boot cancel_after call room stage at ≡ Some (Returned left after) → Ends after

  abbrev onward_from : ℕ → Stage → Standing → Play → Option Came
  onward_from room stage asked play =
      call_from boot cancel_after call room (next_stage cancel_after stage (answer_of play)) (standing_after play asked.storage)

  by_resume : (returns room : ℕ) (rpc : RpcReturn) (at : Standing) (within : Inside rpc at) (play : Play) (left : ℕ) (after : Standing)
      → Tells room
      → (let asked = prepared call (Resumes returns rpc) at in after_smc boot (return_from_rpc rpc) asked ≡ Some play
      → Comes boot asked (return_from_rpc rpc) 0 (λ taken. Follows within.holds.pending taken.call) play
      → option_and_then (unless_full (onward_from room (Resumes returns rpc) asked)) (after_smc boot (return_from_rpc rpc) asked)
      ≡ Some (Returned left after) → Ends after)
  by_resume returns room rpc at within play left after rest is (Full more full) e =
      absurd (not_full boot (return_from_rpc rpc) (prepared call (Resumes returns rpc) at) play
      (onward_from room (Resumes returns rpc) (prepared call (Resumes returns rpc) at)) more left after is full e)
  by_resume returns room rpc at within play left after rest is (Took going made_so) e =
      let asked = prepared call (Resumes returns rpc) at in
      let held = Suspended 0 within.holds.pending in
      let stands = asked_stands boot boots n cancel_after call made held (Resumes returns rpc) at within.holds.stands in
      let known = known_on boot boots session app at.history made_so.between.history made_so.between.kernel
      (record { more = entry_event (visit_with (return_from_rpc rpc)) made_so.reads ∷ []; is = made_so.history }) made_so.comes within.known in
      let gone = went boot boots n session app alone sending (return_from_rpc rpc) asked held
      (λ taken. Follows within.holds.pending taken.call) play asked.storage stands made_so (made_so.holds.same ∙ within.same)
      (made_so.holds.brings (brought sending) within.brings) known in
      rest (next_stage cancel_after (Resumes returns rpc) (answer_of play)) (standing_after play asked.storage)
      (after_another returns rpc (answer_of play) (standing_after play asked.storage) gone) left after
      (onward_is boot (return_from_rpc rpc) asked play (onward_from room (Resumes returns rpc) asked) (Returned left after) is going e)

  by_cancel : (returns room : ℕ) (rpc : RpcReturn) (at : Standing) (within : Inside rpc at) (play : Play) (left : ℕ) (after : Standing)
      → Tells room
      → (let asked = prepared call (Cancels returns rpc) at in after_smc boot (call_with_arg cancel_at) asked ≡ Some play
      → Comes boot asked (call_with_arg cancel_at) 1 (λ taken. IsSettled taken.call) play
      → option_and_then (unless_full (onward_from room (Cancels returns rpc) asked)) (after_smc boot (call_with_arg cancel_at) asked)
      ≡ Some (Returned left after) → Ends after)
  by_cancel returns room rpc at within play left after rest is (Full more full) e =
      absurd (not_full boot (call_with_arg cancel_at) (prepared call (Cancels returns rpc) at) play
      (onward_from room (Cancels returns rpc) (prepared call (Cancels returns rpc) at)) more left after is full e)
  by_cancel returns room rpc at within play left after rest is (Took going made_so) e =
      let asked = prepared call (Cancels returns rpc) at in
      let later = standing_after play asked.storage in
      let turned = cancel_turns boot asked (call_with_arg cancel_at) within.holds.pending n play asked.storage
      (asked_stands boot boots n cancel_after call made (Suspended 0 within.holds.pending) (Cancels returns rpc) at within.holds.stands)
      made_so in
      let fits : Inside rpc later = record {
        holds = record {
          pending = turned.0;
          client = client_is turned.0 (turned.1.same ∙ within.same);
          stands = turned.3;
          thread = within.holds.thread;
        };
        same = turned.1.same ∙ within.same;
        brings = turned.1.brings (brought sending) within.brings;
        known = known_on boot boots session app at.history play.history play.kernel
            (smc_grows boot (call_with_arg cancel_at) asked play is) turned.3.comes within.known;
      } in
      rest (next_stage cancel_after (Cancels returns rpc) (answer_of play)) later
      (subst (λ (s : Said). Fits (after_cancel returns rpc (answer_of play) s) later) (sym turned.2) fits) left after
      (onward_is boot (call_with_arg cancel_at) asked play (onward_from room (Cancels returns rpc) asked) (Returned left after) is going e)

  -- where nothing more comes
  ended_here : (room left : ℕ) (at after : Standing) → Ends at → Some (Returned room at) ≡ Some (Returned left after) → Ends after
  ended_here room left at after ends e =
      let same : at ≡ after = cc in
      subst Ends same ends

  not_stopped : (more left : ℕ) (history : List Event) (after : Standing) → Some (Stopped more history) ≡ Some (Returned left after) → ⊥
  not_stopped more left history after e = cc

  told_from : (room : ℕ) → Tells room
  told_from zero (Calls refused) at fits left after e = absurd fits
  told_from zero (Cancels returns rpc) at fits left after e = absurd (not_stopped 0 left at.history after e)
  told_from zero (Resumes returns rpc) at fits left after e = absurd (not_stopped 0 left at.history after e)
  told_from zero Ended at fits left after e = ended_here 0 left at after fits e
  told_from zero (Failed fault) at fits left after e = absurd cc
  told_from (suc room) (Calls refused) at fits left after e = absurd fits
  told_from (suc room) (Cancels returns rpc) at fits left after e =
      let comes = cancel_comes boot boots n cancel_after call made returns rpc at fits.holds in
      by_cancel returns room rpc at fits comes.0 left after (told_from room) comes.1 comes.2 e
  told_from (suc room) (Resumes returns rpc) at fits left after e =
      let comes = resume_comes boot boots n cancel_after call made returns rpc at fits.holds in
      by_resume returns room rpc at fits comes.0 left after (told_from room) comes.1 comes.2 e
  told_from (suc room) Ended at fits left after e = ended_here (suc room) left at after fits e
  told_from (suc room) (Failed fault) at fits left after e = absurd cc

  -- ---- the first SMC

  -- what is to be shown of its entry, where the call's history has it in front
  abbrev BeginsSo : Standing → Standing → (Taken → Type 0) → Type 0
  BeginsSo at after P = (play : Play) (begun : Made boot (prepared call (Calls 0) at) (call_with_arg argument_at) 0 P play)
      → Extends begun.between.history after.history
      → (lasting begun.taken.call ≡ ours boot boots n session app alone sending) × Brings (brought sending) begun.taken.call
      × (own_app boot begun.between.history session ≡ Some app)

  by_first : (room : ℕ) (at : Standing) (P : Taken → Type 0) (left : ℕ) (after : Standing) → Stands boot Free n at → BeginsSo at after P
      → (play : Play) → (let asked = prepared call (Calls 0) at in after_smc boot (call_with_arg argument_at) asked ≡ Some play
      → Comes boot asked (call_with_arg argument_at) 0 P play
      → option_and_then (unless_full (onward_from room (Calls 0) asked)) (after_smc boot (call_with_arg argument_at) asked)
      ≡ Some (Returned left after) → Ends after)
  by_first room at P left after stands begins play is (Full more full) e =
      absurd (not_full boot (call_with_arg argument_at) (prepared call (Calls 0) at) play
      (onward_from room (Calls 0) (prepared call (Calls 0) at)) more left after is full e)
  by_first room at P left after stands begins play is (Took going begun) e =
      let asked = prepared call (Calls 0) at in
      let ready = asked_stands boot boots n cancel_after call made Free (Calls 0) at stands in
      let on = onward_is boot (call_with_arg argument_at) asked play (onward_from room (Calls 0) asked) (Returned left after) is going e in
      let out = first_out boot asked (call_with_arg argument_at) Free n P play asked.storage ready begun in
      let gone : Extends begun.between.history play.history = record { more = _; is = out.history } in
      let grown : Extends play.history after.history =
      call_grows boot cancel_after call room (next_stage cancel_after (Calls 0) (answer_of play)) (standing_after play asked.storage)
      (Returned left after) on in
      let so = begins play begun (extends_on begun.between.history play.history after.history gone grown) in
      let first = went boot boots n session app alone sending (call_with_arg argument_at) asked Free P play asked.storage ready begun so.0 so.1
      so.2 in
      told_from room (next_stage cancel_after (Calls 0) (answer_of play)) (standing_after play asked.storage)
      (after_first (answer_of play) (standing_after play asked.storage) first) left after on

  first_told : (room : ℕ) (at : Standing) (P : Taken → Type 0) (left : ℕ) (after : Standing) → Stands boot Free n at
      → OnLane (prepared call (Calls 0) at).ram (TakesSlot 0 P)
      (decision_of boot at.kernel (call_with_arg argument_at).a (smc.call_of (reg (call_with_arg argument_at).a 0)))
      → BeginsSo at after P → call_from boot cancel_after call room (Calls 0) at ≡ Some (Returned left after) → Ends after
  first_told zero at P left after stands taken begins e = absurd (not_stopped 0 left at.history after e)
  first_told (suc room) at P left after stands taken begins e =
      let asked = prepared call (Calls 0) at in
      let ready = asked_stands boot boots n cancel_after call made Free (Calls 0) at stands in
      let comes = smc_comes boot asked (call_with_arg argument_at) 0 P boots ready.comes ready.outside ready.whole taken in
      by_first room at P left after stands begins comes.0 comes.1 comes.2 e

-- ---- a call in a session that was opened

kernel_is : (boot : Booted) (one other : List Event) (kernel found : Kernel) → one ≡ other → kernel_after boot one ≡ Some kernel
    → kernel_after boot other ≡ Some found → kernel ≡ found
kernel_is boot one other kernel found same there is =
    let both : Some kernel ≡ Some found = sym there ∙ ap (kernel_after boot) same ∙ is in cc

module _ (boot : Booted) (boots : IsBooted boot) (n : ℕ) (at after : Standing) (whole : List Event) (stands : Stands boot Free n at)
    (grown : Extends at.history after.history) (rest : Extends after.history whole) (session : ℕ) (app : Application) (sending : Sending)
  where
    front : take (length at.history) whole ≡ at.history
    front = front_of at.history whole (extends_on at.history after.history whole grown rest)

    module _ (in_session : IsInSession boot whole (length at.history) session app) where
      same_kernel : in_session.kernel ≡ at.kernel
      same_kernel = kernel_is boot _ at.history in_session.kernel at.kernel front in_session.begins stands.comes

      has_session : HasSession at.kernel session
      has_session =
          let numbers = numbered boot (take (length at.history) whole) in_session.kernel in_session.begins in
          let number : IsNumberedSession in_session.kernel.tables (session, in_session.kept.kept) =
          All-get (IsNumberedSession in_session.kernel.tables) in_session.kernel.tables.sessions session in_session.kept.kept numbers.sessions
          in_session.kept.there in
          let given : session < in_session.kernel.tables.next_session = number.0.1 in
          let few : in_session.kernel.tables.next_session ≤ 4294967296 = numbers.few in
          let fits : session < 2 ^ 32 = omega (arith, given, few) in
          subst (λ (k : Kernel). lowest_free k.slots ≡ Some 0 → HasSession k session) same_kernel (λ lowest. record {
            lowest = lowest;
            fits = fits;
            kept = in_session.kept.kept;
            opened = in_session.opened;
            instance = in_session.kept.instance;
            has = in_session.kept.has;
          }) (ap lowest_free stands.slots ∙ first_lowest n)

      app_known : own_app boot at.history session ≡ Some app
      app_known =
          subst (λ (h : List Event). own_app boot h session ≡ Some app) front
          (kept_sessions_known.known boot (take (length at.history) whole) in_session.kernel session app in_session.begins in_session.kept)

      session_told : (cancel_after : Option ℕ) (call : Call) (made : IsMade call) (room left : ℕ)
          → OnLane (prepared call (Calls 0) at).ram (TakesSlot 0 (IsOurs (brought sending) session))
          (decision_of boot at.kernel (call_with_arg argument_at).a (smc.call_of (reg (call_with_arg argument_at).a 0)))
          → call_from boot cancel_after call room (Calls 0) at ≡ Some (Returned left after)
          → IsToldAlone boot after.history session app (record { result = result_in after.ram; params = back_in sending after.ram })
      session_told cancel_after call made room left taken e =
          first_told boot boots n cancel_after call made session app in_session.kept.shares_none sending room at
          (IsOurs (brought sending) session) left after stands taken
          (λ play begun extends. (
            begun.holds.0,
            begun.holds.1,
            known_on boot boots session app at.history begun.between.history begun.between.kernel
                (record { more = entry_event (visit_with (call_with_arg argument_at)) begun.reads ∷ []; is = begun.history }) begun.comes
                app_known,
          )) e

    -- ---- an open

    module _ (opens : OpensSession boot whole (length at.history) session app) where
      -- the number isn't given before
      not_given : own_app boot at.history session ≡ Some app → ⊥
      not_given known =
          let same = kernel_is boot _ at.history opens.kernel at.kernel front opens.begins stands.comes in
          let lt = session_given boot at.history at.kernel session app boots stands.comes known opens.shares_none in
          let next : session ≡ at.kernel.tables.next_session = opens.next ∙ ap (λ (k : Kernel). k.tables.next_session) same in
          omega (arith, lt, next)

      module _ (call : Call) (play : Play)
          (begun : Made boot (prepared call (Calls 0) at) (call_with_arg argument_at) 0 (IsOfClient (brought sending)) play)
          (ready : Stands boot Free n (prepared call (Calls 0) at)) (extends : Extends begun.between.history after.history) where
        abbrev entry : Event
        entry = entry_event (visit_with (call_with_arg argument_at)) begun.reads

        -- the application is known behind the entry
        known_then : own_app boot begun.between.history session ≡ Some app
        known_then =
            let long : length begun.between.history ≡ length at.history + 1 =
            ap length begun.history ∙ length-append at.history (entry ∷ []) in
            subst (λ (h : List Event). own_app boot h session ≡ Some app)
            (ap (λ (count : ℕ). take count whole) (sym long)
            ∙ front_of begun.between.history whole (extends_on begun.between.history after.history whole extends rest))
            opens.of_app

        notes_then : noted boot begun.between.history session
            ≡ call_noted session (noted boot at.history session) 0 begun.taken.call
        notes_then =
            ap (λ (h : List Event). noted boot h session) begun.history
            ∙ noted-append boot session (first_kernel boot) at.kernel no_notes at.history (entry ∷ []) stands.comes
            ∙ goes_from boot session at.kernel begun.between.kernel (noted boot at.history session) entry [] begun.entered
            ∙ new_call_noted session at.kernel begun.between.kernel 0 steps_granted 0 (call_with_arg argument_at) begun.reads begun.taken.call
            (noted boot at.history session)
            (inside boot (prepared call (Calls 0) at) (call_with_arg argument_at) 0 (IsOfClient (brought sending)) play ready.outside ready.whole
            begun there)
            (ap (λ (slots : List ThreadSlot). slice_get slots 0) stands.slots) there
          where
            there : slice_get begun.between.kernel.slots 0 ≡ Some (Active 0 begun.taken.call)
            there = in_first boot (prepared call (Calls 0) at) (call_with_arg argument_at) Free n (IsOfClient (brought sending)) play at.storage ready
                begun

        by_event : (found : Option OwnEvent) → event_of session begun.taken.call ≡ found → begun.taken.call.session ≡ session
        by_event (Some came) is =
            (noted_is begun.taken.call.session session
            (event_in (is_some begun.taken.call.area) begun.taken.call.settled begun.taken.call.kind begun.taken.call.phase) came is).0
        by_event None none =
            absurd (not_given (
            ap (λ (notes : Notes). option_and_then (app_of boot) notes.uuid) (sym (notes_then
            ∙ ap (λ (o : Option OwnEvent). option_map_or (with_number (noted boot at.history session) 0 begun.taken.call) o
            (noted boot at.history session)) none))
            ∙ known_then))

        begins_open : (lasting begun.taken.call ≡ record { client = 0; session = session; arg = argument_at })
            × Brings (brought sending) begun.taken.call × (own_app boot begun.between.history session ≡ Some app)
        begins_open = (
          (λ i. record {
            client = begun.holds.0 i;
            session = by_event (event_of session begun.taken.call) refl i;
            arg = begun.holds.1 i;
          }),
          begun.holds.2,
          known_then,
        )

      open_told : (cancel_after : Option ℕ) (call : Call) (made : IsMade call) (room left : ℕ)
          → OnLane (prepared call (Calls 0) at).ram (TakesSlot 0 (IsOfClient (brought sending)))
          (decision_of boot at.kernel (call_with_arg argument_at).a (smc.call_of (reg (call_with_arg argument_at).a 0)))
          → call_from boot cancel_after call room (Calls 0) at ≡ Some (Returned left after)
          → IsToldAlone boot after.history session app (record { result = result_in after.ram; params = back_in sending after.ram })
      open_told cancel_after call made room left taken e =
          first_told boot boots n cancel_after call made session app opens.shares_none sending room at (IsOfClient (brought sending)) left after
          stands taken
          (λ play begun extends. begins_open call play begun (asked_stands boot boots n cancel_after call made Free (Calls 0) at stands) extends) e

-- ---- a call of the script

-- the operation of one with such parameters
abbrev sending_of : (before : ℕ) → before ≤ 2 → (name : List ℕ) (params : List ScriptParam) (cancel_after : Option ℕ)
    → IsSoundNamed name params → Sending
sending_of before few name params cancel_after named = record {
  before = before;
  op = operation_of params cancel_after;
  sent = length params;
  few = few;
  sendable = sendable params cancel_after named.lengths;
  sends = sends params cancel_after named.few;
}

-- that of a close has none
abbrev nothing_sent : Sending
nothing_sent = record {
  before = 0;
  op = operation_of [] None;
  sent = 0;
  few = omega arith;
  sendable = (tt, (tt, (tt, (tt, tt))));
  sends = sends [] None (omega arith);
}

call_told : (boot : Booted) → IsBooted boot → (n : ℕ) (client : Client) (call : ScriptCall) (left : ℕ) (after : Standing)
    (whole : List Event) → Stands boot Free n client.standing → IsSoundCall call → call_made boot client call ≡ Some (Returned left after)
    → Extends after.history whole → (session : ℕ) (app : Application)
    → IsCallIn boot whole (line_of client call after) session app call
    → IsToldAlone boot after.history session app (end_of (line_of client call after))
call_told boot boots n client (Open name uuid params) left after whole stands sound e rest session app opens =
    let op = operation_of params None in
    let sending = sending_of 2 (omega arith) name params None sound.0 in
    let grown = call_grows boot None (call_of client.sessions (Open name uuid params)) client.room (Calls 0) client.standing
    (Returned left after) e in
    open_told boot boots n client.standing after whole stands grown rest session app sending opens None
    (call_of client.sessions (Open name uuid params)) (calls_are_made client.sessions (Open name uuid params)) client.room left
    (open_taken boot client.standing.kernel client.standing.ram uuid op (length params)
    (ap lowest_free stands.slots ∙ first_lowest n) stands.whole (sendable params None sound.0.lengths) (sends params None sound.0.few)) e
call_told boot boots n client (Invoke name func cancel_after params) left after whole stands sound e rest session app (named, in_session) =
    let its = session_of client.sessions name in
    let call = Invoke name func cancel_after params in
    let sending = sending_of 0 (omega arith) name params cancel_after sound.0 in
    let grown = call_grows boot cancel_after (call_of client.sessions call) client.room (Calls 0) client.standing (Returned left after) e in
    let in_its : IsInSession boot whole (length client.standing.history) its app =
    subst (λ n. IsInSession boot whole (length client.standing.history) n app) named in_session in
    subst (λ n. IsToldAlone boot after.history n app (end_of (line_of client call after))) (sym named)
    (session_told boot boots n client.standing after whole stands grown rest its app sending in_its cancel_after (call_of client.sessions call)
    (calls_are_made client.sessions call) client.room left
    (invoke_taken boot client.standing.kernel client.standing.ram its func (operation_of params cancel_after) (length params)
    (has_session boot boots n client.standing after whole stands grown rest its app sending in_its) stands.whole
    (sendable params cancel_after sound.0.lengths) (sends params cancel_after sound.0.few)) e)
call_told boot boots n client (Close name) left after whole stands sound e rest session app (named, in_session) =
    let its = session_of client.sessions name in
    let call = Close name in
    let grown = call_grows boot None (call_of client.sessions call) client.room (Calls 0) client.standing (Returned left after) e in
    let in_its : IsInSession boot whole (length client.standing.history) its app =
    subst (λ n. IsInSession boot whole (length client.standing.history) n app) named in_session in
    subst (λ n. IsToldAlone boot after.history n app (end_of (line_of client call after))) (sym named)
    (session_told boot boots n client.standing after whole stands grown rest its app nothing_sent in_its None (call_of client.sessions call)
    (calls_are_made client.sessions call) client.room left
    (close_taken boot client.standing.kernel client.standing.ram its
    (has_session boot boots n client.standing after whole stands grown rest its app nothing_sent in_its)) e)

-- its line
line_told : (boot : Booted) → IsBooted boot → (n : ℕ) (client : Client) (call : ScriptCall) (left : ℕ) (after : Standing)
    (whole : List Event) → Stands boot Free n client.standing → IsSoundCall call → call_made boot client call ≡ Some (Returned left after)
    → Extends after.history whole → TellsAlone boot whole (line_of client call after)
line_told boot boots n client call left after whole stands sound e rest session app in_call =
    let line = line_of client call after in
    let old = client.standing.history in
    let grown = call_grows boot (cancelled_after call) (call_of client.sessions call) client.room (Calls 0) client.standing
    (Returned left after) e in
    let front = front_of old whole (extends_on old after.history whole grown rest) in
    let HasBegun : List Event → Type 0 = λ h.
    (told : IsToldAlone boot h session app (end_of line))
    × (since : List OwnReply)
    × (told.before ≡ own_replies boot (take line.from whole) session ++ since) in
    let told = call_told boot boots n client call left after whole stands sound e rest session app in_call in
    let added = call_adds boot (cancelled_after call) (call_of client.sessions call) client.room left client.standing after e in
    let inside = before_last old added.0 added.1.more told.earlier (Exit 0 told.went)
    (sym (append_assoc old (added.0 ∷ []) added.1.more) ∙ sym added.1.is ∙ told.last_exit) in
    let replies = replies_stay boot old inside.more session client.standing.kernel stands.comes in
    let has : HasBegun after.history = (
      told,
      replies.0,
      sym told.had ∙ ap (λ (h : List Event). own_replies boot h session) inside.is ∙ replies.1
          ∙ ap (λ (h : List Event). own_replies boot h session ++ replies.0) (sym front),
    ) in
    let there = subst HasBegun (sym (front_of after.history whole rest)) has in
    record { told = there.0; since = there.1; began = there.2 }

-- ---- scripts

same_came : (one other : Came) → Some one ≡ Some other → one ≡ other
same_came one other e = cc

module _ (boot : Booted) (boots : IsBooted boot) (n : ℕ) (play : ClientPlay) where
  abbrev AllTell : Client → Type 0
  AllTell client = All (TellsAlone boot play.history) client.lines

  -- where the next calls tell
  abbrev Goes : (Client → Option ClientPlay) → Client → Type 0
  Goes onward next = Stands boot Free n next.standing → next.room ≤ 32768 → onward next ≡ Some play → AllTell next
      → All (TellsAlone boot play.history) play.lines

  few_left : (left room : ℕ) → left ≤ room → room ≤ 32768 → left ≤ 32768
  few_left left room less few = omega arith

  lines_by : (calls : List ScriptCall) (client : Client) (call : ScriptCall) (came : Came)
      → ((next : Client) → Goes (λ next. calls_made boot calls next) next)
      → IsSoundCall call → Stands boot Free n client.standing → client.room ≤ 32768 → call_made boot client call ≡ Some came
      → IsWellDone boot n client.room came → goes_on (λ next. calls_made boot calls next) client call came ≡ Some play → AllTell client
      → All (TellsAlone boot play.history) play.lines
  lines_by calls client call (Returned left after) rest sound stands few there well on all =
      let next = after_call client call left after in
      rest next well.0 (few_left left client.room well.1 few) on
      (All-push (TellsAlone boot play.history) client.lines (line_of client call after) all
      (line_told boot boots n client call left after play.history stands sound there (calls_grow boot calls next play on)))
  lines_by calls client call (Stopped bytes history) rest sound stands few there well on all =
      let stopped : ClientPlay = record { history = history; lines = client.lines; stopped = Some bytes } in
      let same : stopped ≡ play = cc in
      subst (λ (lines : List CallLine). All (TellsAlone boot play.history) lines) (ap (λ (p : ClientPlay). p.lines) same) all
  lines_by calls client call (Fails fault) rest sound stands few there well on all = absurd cc

  lines_tell : (calls : List ScriptCall) → All IsSoundCall calls → (client : Client) → Goes (λ next. calls_made boot calls next) client
  lines_tell [] sound client stands few e all =
      let done : ClientPlay = ended client in
      let same : done ≡ play = cc in
      subst (λ (lines : List CallLine). All (TellsAlone boot play.history) lines) (ap (λ (p : ClientPlay). p.lines) same) all
  lines_tell (call ∷ calls) sound client stands few e all =
      let comes = call_comes boot boots n (cancelled_after call) (call_of client.sessions call) (calls_are_made client.sessions call)
      client.room few (Calls 0) client.standing stands in
      option_and_then_some (goes_on (λ next. calls_made boot calls next) client call) (call_made boot client call) play e
      (λ (came : Came) there on.
      lines_by calls client call came (λ next. lines_tell calls (All-tail IsSoundCall call calls sound) next)
      (All-head IsSoundCall call calls sound) stands few there
      (subst (IsWellDone boot n client.room) (same_came comes.0 came (sym comes.1 ∙ there)) comes.2) on all)

pub results_are_told_alone : ResultsAreToldAlone
results_are_told_alone natives uuids boot script play boots sound is e =
    let on = booted boot natives in
    let first = first_stands natives uuids boot script boots sound is in
    lines_tell on boots first.0 play script.calls sound.calls (first_client (first_standing (zeros 0x400000) on script)) first.1 (omega arith) e
    (All-nil (TellsAlone on play.history))
