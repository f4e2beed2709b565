-- The exit that ends a call of a session: what is noted of it, what the session's own machine replies there, and what RAM then
-- has of its result.
use Rattle.std.proofs.Common.{◌≡◌, ℕ, ◌%◌, ◌^◌, ◌≤◌, ◌<◌, List, [], ◌∷◌, ◌++◌, length, take, drop, false, Option, Some, refl, ap, subst, ◌∙◌, arith}
use Rattle.std.proofs.Common.{append_assoc}
use Rattle.std.specs.Prelude.{is_some, slice_get}
use Rattle.std.specs.Int.{byte_at, from_le_bytes, to_le_bytes, w32}
use Rattle.std.specs.Option.{option_map_or}
use Rattle.std.proofs.Math.Seq.{drop-append_seam, take-append_seam}
use Rattle.std.proofs.lemmas.List.{length-append, length-take}
use Rattle.std.proofs.lemmas.List.Elements.{filter_map-append}
use Rattle.std.proofs.lemmas.Nat.{from_le_bytes-to_le_bytes_4}
use Rattle.base.specs.NumberMap.{get}
use Rattle.event_journal.specs.declared.event.Event.{Event}
use Rattle.event_journal.specs.declared.event.Event.TheVariants.{Exit}
use Rattle.kernel_model.specs.Application.{Application, Booted, IsBooted}
use Rattle.kernel_model.specs.Exit.{progress_in_slot, word32}
use Rattle.kernel_model.specs.History.{IsLegal, after_event, kernel_after}
use Rattle.kernel_model.specs.Instances.{is_single}
use Rattle.kernel_model.specs.Kernel.{InSlot, Inside, Kernel, Processor, Progress, first_kernel}
use Rattle.kernel_model.specs.Leaving.{Finishes, Leaving, leaving_of}
use Rattle.msg_args.specs.Layout.{origin_at, ret_at}
use Rattle.ns_ram.specs.Lane.{bytes_at, bytes_put}
use Rattle.ns_ram.specs.Writes.{lane_after}
use Rattle.ns_ram.proofs.LaneBytes.{bytes_at-is}
use Rattle.own_model.specs.Own.{Logged, Notes, ended, exit_noted, no_notes, noted, out_noted, own_app, own_replies}
use Rattle.own_model.specs.Own.{replies_in, reply_of, wake_kept, wake_of, with_reply}
use Rattle.own_model.specs.Parameters.{outputs_with}
use Rattle.own_model.specs.declared.own_event.OwnEvent.TheVariants.{Out}
use Rattle.own_model.proofs.WholeHistories.{goes_from, one_more}
use Rattle.realm_model.proofs.AloneAnswered.{alone_answered}
use Rattle.realm_model.proofs.SessionsKnown.{kept_sessions_known, noted-append}
use Rattle.smc_abi.specs.declared.regs.Regs.{Regs}
use Rattle.ta_params.specs.declared.call_result.CallResult.{CallResult}
use Rattle.ta_params.specs.declared.copied_params.CopiedParams.{CopiedParams}
use Rattle.teec.specs.Places.{argument_at}
use Rattle.teec.specs.Results.{result_in}
use Rattle.client_play.specs.Outputs.{TellsOutputs, in_word}
use Rattle.client_play.specs.PlayLaws.{IsToldAlone}

-- ---- what is noted

-- behind this history processor 0 goes out, and ends with this a call of the session
pub record EndsCall (boot : Booted) (history : List Event) (session : ℕ) (told : Regs) (result : CallResult) (params : CopiedParams)
    : Type 0 where
  pub kernel : Kernel
  pub there : kernel_after boot history ≡ Some kernel
  pub next : Kernel
  pub goes : after_event boot kernel (Exit 0 told) ≡ Some next
  pub came : List ℕ
  pub steps : ℕ
  pub slot : ℕ
  pub inside : slice_get kernel.processors 0 ≡ Some (Inside came steps (InSlot slot))
  pub number : ℕ
  pub has : get (noted boot history session).numbering.in_slots slot ≡ Some number
  pub progress : Progress
  pub comes : progress_in_slot kernel steps slot ≡ Some progress
  pub leaves : leaving_of slot progress.call ≡ Finishes result params

-- a result as RAM tells it
abbrev pub in_words : CallResult → CallResult
in_words result = record { result = in_word result.result; origin = in_word result.origin }

module _ (boot : Booted) (history : List Event) (session : ℕ) (told : Regs) (result : CallResult) (params : CopiedParams)
    (end : EndsCall boot history session told result params) where
  abbrev notes : Notes
  notes = noted boot history session

  abbrev entry_told : Logged
  entry_told = (Out end.number, Some (ended result params))

  log_after : (noted boot (history ++ Exit 0 told ∷ []) session).log ≡ notes.log ++ entry_told ∷ []
  log_after =
      let by_progress = λ (progress : Progress).
      option_map_or (exit_noted notes end.slot progress.call) (get notes.numbering.in_slots end.slot) notes in
      ap (λ (n : Notes). n.log)
      (noted-append boot session (first_kernel boot) end.kernel no_notes history (Exit 0 told ∷ []) end.there
      ∙ goes_from boot session end.kernel end.next notes (Exit 0 told) [] end.goes)
      ∙ ap (λ (p : Option Processor). (out_noted end.kernel notes 0 p).log) end.inside
      ∙ ap (λ (p : Option Progress). (option_map_or by_progress p notes).log) end.comes
      ∙ ap (λ (n : Option ℕ). (option_map_or (exit_noted notes end.slot end.progress.call) n notes).log) end.has
      ∙ ap (λ (leaving : Leaving). (option_map_or (with_reply end.number notes)
      (reply_of (wake_kept notes.numbering end.slot (wake_of end.progress.call.phase)) end.progress.call.phase leaving) notes).log)
      end.leaves

  -- the session's last reply is this result
  replies_after : own_replies boot (history ++ Exit 0 told ∷ []) session ≡ own_replies boot history session ++ ended result params ∷ []
  replies_after =
      ap replies_in log_after
      ∙ filter_map-append (λ (logged : Logged). logged.1) notes.log (entry_told ∷ [])

  -- where its client finds these parameters
  pub told_alone : (app : Application) → IsBooted boot → own_app boot history session ≡ Some app → is_single app ≡ false
      → (back : CopiedParams) → (result.origin ≡ 4 → TellsOutputs back (outputs_with result params))
      → IsToldAlone boot (history ++ Exit 0 told ∷ []) session app (record { result = in_words result; params = back })
  told_alone app boots of_app alone back outputs_told =
      let legal : IsLegal boot (history ++ Exit 0 told ∷ []) = record {
        boots = boots;
        follows = ap is_some (one_more boot history end.kernel end.next (Exit 0 told) end.there end.goes);
      } in
      let still = kept_sessions_known.stays boot history (Exit 0 told ∷ []) session app legal of_app in
      record {
        of_app = still;
        earlier = history;
        went = told;
        last_exit = refl;
        before = own_replies boot history session;
        had = refl;
        told = result;
        outputs = outputs_with result params;
        replies = replies_after;
        alone = alone_answered boot (history ++ Exit 0 told ∷ []) session app
            (record { legal = legal; of_app = still; shares_none = alone });
        printed = refl;
        printed_outputs = outputs_told;
      }

-- ---- what RAM has of the result

bytes_of_word : (number : ℕ) → to_le_bytes w32 number ≡ to_le_bytes w32 (in_word number)
bytes_of_word number =
    let a : number % 256 ≡ in_word number % 256 = omega arith in
    let b : byte_at 1 number ≡ byte_at 1 (in_word number) = omega arith in
    let c : byte_at 2 number ≡ byte_at 2 (in_word number) = omega arith in
    let d : byte_at 3 number ≡ byte_at 3 (in_word number) = omega arith in
    λ i. a i ∷ b i ∷ c i ∷ d i ∷ []

pub word_told : (number : ℕ) → from_le_bytes w32 (to_le_bytes w32 number) ≡ in_word number
word_told number =
    let fits : in_word number < 2 ^ 32 = omega arith in
    ap (from_le_bytes w32) (bytes_of_word number) ∙ from_le_bytes-to_le_bytes_4 (in_word number) fits

module _ (lane : List ℕ) (whole : 0x400000 ≤ length lane) (result : CallResult) where
  abbrev code : List ℕ
  code = to_le_bytes w32 result.result

  abbrev origin : List ℕ
  origin = to_le_bytes w32 result.origin

  abbrev front : List ℕ
  front = take 20 lane

  -- RAM with the code, and then with both
  abbrev first : List ℕ
  first = bytes_put lane (ret_at argument_at) code

  abbrev both : List ℕ
  both = bytes_put first (origin_at argument_at) origin

  abbrev behind : List ℕ
  behind = drop 28 first

  front_long : length front ≡ 20
  front_long = omega (arith, length-take 20 lane)

  front_and_code : length (front ++ code) ≡ 24
  front_and_code = omega (arith, front_long, length-append front code)

  both_is : both ≡ (front ++ code) ++ (origin ++ behind)
  both_is =
      let cut : take 24 first ≡ front ++ code =
      subst (λ n. take n ((front ++ code) ++ drop 24 lane) ≡ front ++ code) front_and_code (take-append_seam (front ++ code) (drop 24 lane)) in
      ap (λ (before : List ℕ). before ++ origin ++ behind) cut ∙ append_assoc (front ++ code) origin behind

  origin_there : bytes_at both (origin_at argument_at) 4 ≡ origin
  origin_there =
      bytes_at-is both (origin_at argument_at) 4 (omega arith)
      ∙ ap (λ (all : List ℕ). take 4 (drop 24 all)) both_is
      ∙ ap (λ (all : List ℕ). take 4 all)
      (subst (λ n. drop n ((front ++ code) ++ (origin ++ behind)) ≡ origin ++ behind) front_and_code
      (drop-append_seam (front ++ code) (origin ++ behind)))

  code_there : bytes_at both (ret_at argument_at) 4 ≡ code
  code_there =
      bytes_at-is both (ret_at argument_at) 4 (omega arith)
      ∙ ap (λ (all : List ℕ). take 4 (drop 20 all)) (both_is ∙ append_assoc front code (origin ++ behind))
      ∙ ap (λ (all : List ℕ). take 4 all)
      (subst (λ n. drop n (front ++ (code ++ (origin ++ behind))) ≡ code ++ (origin ++ behind)) front_long
      (drop-append_seam front (code ++ (origin ++ behind))))

  -- the words of a result are the last that are written
  pub result_told : result_in (lane_after lane (word32 (ret_at argument_at) result.result ∷ word32 (origin_at argument_at) result.origin ∷ []))
      ≡ in_words result
  result_told =
      ap (λ (bytes : List ℕ). record { result = from_le_bytes w32 bytes; origin = from_le_bytes w32 (bytes_at both (origin_at argument_at) 4) })
      code_there
      ∙ ap (λ (bytes : List ℕ). record { result = from_le_bytes w32 code; origin = from_le_bytes w32 bytes }) origin_there
      ∙ ap (λ (number : ℕ). record { result = number; origin = from_le_bytes w32 origin }) (word_told result.result)
      ∙ ap (λ (number : ℕ). record { result = in_word result.result; origin = number }) (word_told result.origin)
