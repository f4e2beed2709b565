-- The definitions of this crate at small values.
use Rattle.std.specs.Prelude.{◌≡◌, true, false, [], ◌∷◌, Some, None}
use Rattle.ports.specs.declared.sink.Put.TheVariants.{Done, Failed as PutFailed, Memory}
use Rattle.ports.specs.declared.source.Taken.TheVariants.{Bytes, End, Failed}
use Rattle.ports.specs.FaultPlan.{Plan, failed, fresh, is_failing, passed}
use Rattle.ports.specs.MemSink.{after_put}
use Rattle.ports.specs.MemSource.{after_take}
use Rattle.ports.specs.Port.{Appends, Moves, Rose, risen}
use Rattle.ports.specs.StdSource.{Reading, after_stop, answer_of_stop}
use Rattle.ports.specs.declared.interruption.TheConstants.{MOST_TRIES}
use Rattle.ports.specs.declared.std_source.Stop.TheVariants.{End as AtEnd, Fault}

-- a reader of no kind, which stopped at its end
abbrev ended : Reading (Unit {0})
ended = record { reader = tt; faults = 3; stopped = Some AtEnd }

-- the calls 0 and 2 fail
abbrev first_and_third : Plan
first_and_third = fresh (0 ∷ 2 ∷ [])

pub record Examples : Type 0 where
  pub most_tries : MOST_TRIES ≡ 1000
  pub rises : risen 6 ≡ 7
  pub stays : risen 18446744073709551615 ≡ 18446744073709551615
  pub rose : Rose 6 7
  pub rose_at_its_end : Rose 18446744073709551615 18446744073709551615
  pub moves : Moves (Some (1 ∷ 2 ∷ 3 ∷ [])) (Some (3 ∷ [])) (1 ∷ 2 ∷ [])
  pub moves_untold : Moves None None (1 ∷ 2 ∷ [])
  pub appends : Appends (Some (1 ∷ [])) (Some (1 ∷ 2 ∷ 3 ∷ [])) (2 ∷ 3 ∷ [])
  pub call_0_fails : is_failing first_and_third ≡ true
  pub call_1_passes : is_failing (failed first_and_third) ≡ false
  pub call_2_fails : is_failing (passed (failed first_and_third)) ≡ true
  pub call_3_passes : is_failing (failed (passed (failed first_and_third))) ≡ false
  pub takes_two : after_take (record { left = 1 ∷ 2 ∷ 3 ∷ []; plan = fresh [] }) (Bytes 2)
      ≡ record { left = 3 ∷ []; plan = record { fails = []; calls = 1; faults = 0 } }
  pub takes_none : after_take (record { left = 1 ∷ []; plan = fresh (0 ∷ []) }) Failed
      ≡ record { left = 1 ∷ []; plan = record { fails = 0 ∷ []; calls = 1; faults = 1 } }
  pub ends : after_take (record { left = []; plan = fresh [] }) End
      ≡ record { left = []; plan = record { fails = []; calls = 1; faults = 0 } }
  pub puts_two : after_put (record { held = 1 ∷ []; plan = fresh [] }) (2 ∷ 3 ∷ []) Done
      ≡ record { held = 1 ∷ 2 ∷ 3 ∷ []; plan = record { fails = []; calls = 1; faults = 0 } }
  pub puts_none : after_put (record { held = 1 ∷ []; plan = fresh (0 ∷ []) }) (2 ∷ []) PutFailed
      ≡ record { held = 1 ∷ []; plan = record { fails = 0 ∷ []; calls = 1; faults = 1 } }
  pub has_no_room : after_put (record { held = 1 ∷ []; plan = fresh [] }) (2 ∷ []) Memory
      ≡ record { held = 1 ∷ []; plan = record { fails = []; calls = 1; faults = 0 } }
  pub answers_the_end : answer_of_stop AtEnd ≡ End
  pub answers_a_fault : answer_of_stop Fault ≡ Failed
  pub behind_the_end : after_stop ended AtEnd ≡ record { reader = tt; faults = 3; stopped = None }
  pub behind_a_fault : after_stop ended Fault ≡ record { reader = tt; faults = 4; stopped = None }
