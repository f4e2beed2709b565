-- The definitions of this crate at small values.
use Rattle.std.specs.Prelude.{◌≡◌, ℕ, List, [], ◌∷◌, ◌++◌, codes, length, false, Some, None}
use Rattle.line_port.specs.Faults.{faults_behind, no_faults}
use Rattle.line_port.specs.Finish.{finish_of_heard, finish_of_said}
use Rattle.line_port.specs.Gathering.{IsGathered, MOST, TakesLine}
use Rattle.line_port.specs.History.{Adds, Hears, Line, Long, Says, heard_events}
use Rattle.line_port.specs.Told.{Closes, HappenInTurn, Happens, Told}
use Rattle.line_port.specs.declared.finish.Finish.TheVariants as finish
use Rattle.line_port.specs.declared.gathering.TheConstants.{LONGEST_LINE}
use Rattle.line_port.specs.declared.port.Heard.TheVariants as heard
use Rattle.line_port.specs.declared.port.Said.TheVariants as said
use Rattle.text_lines.specs.Lines.{Lacks}

-- a port that keeps no history
abbrev pub telling : List ℕ → List ℕ → Told
telling left held = record { history = None; left = Some left; held = Some held }

pub record Examples : Type 0 where
  pub longest : LONGEST_LINE ≡ MOST
  -- what a call adds to the history
  pub a_line : heard_events heard.Line (codes "leave 0") ≡ Hears (Line (codes "leave 0")) ∷ []
  pub a_long_line : heard_events heard.Long [] ≡ Hears Long ∷ []
  pub an_end : heard_events heard.End (codes "leave 0") ≡ []
  pub adds : Adds (Some (Says (codes "ok") ∷ [])) (Some (Says (codes "ok") ∷ Hears (Line []) ∷ [])) (Hears (Line []) ∷ [])
  pub adds_untold : Adds None None (Hears Long ∷ [])
  pub forgets : Adds (Some []) None [] → ⊥
  -- which calls end it
  pub cut_off : finish_of_heard heard.Cut ≡ None
  pub over : finish_of_heard heard.End ≡ Some finish.Over
  pub unread : finish_of_heard heard.Failed ≡ Some finish.ReadFault
  pub unsaid : finish_of_said said.Failed ≡ Some finish.WriteFault
  -- what is counted by it
  pub read_fault : faults_behind (finish_of_heard heard.Failed) no_faults ≡ record { reads = 1; writes = 0 }
  pub write_fault : faults_behind (finish_of_said said.Failed) (record { reads = 1; writes = 6 }) ≡ record { reads = 1; writes = 7 }
  pub at_its_end : faults_behind (Some finish.ReadFault) (record { reads = 18446744073709551615; writes = 0 })
      ≡ record { reads = 18446744073709551615; writes = 0 }
  pub no_fault : faults_behind (finish_of_heard heard.End) no_faults ≡ no_faults
  pub no_memory : faults_behind (finish_of_said said.Memory) no_faults ≡ no_faults
  -- what a reader has left before and after
  pub whole : TakesLine heard.Line (codes "ab") (Some (codes "ab" ++ 10 ∷ codes "c")) (Some (codes "c"))
  pub empty : TakesLine heard.Line [] (Some (10 ∷ [])) (Some [])
  pub cut : TakesLine heard.Cut [] (Some (codes "ab")) (Some [])
  pub ended : TakesLine heard.End [] (Some []) (Some [])
  pub lost : TakesLine heard.Failed [] (Some (codes "ab" ++ 10 ∷ [])) (Some (codes "b" ++ 10 ∷ []))
  pub at_the_limit : (line : List ℕ) → Lacks 10 line → length line ≡ 8388736 →
      TakesLine heard.Line line (Some (line ++ 10 ∷ [])) (Some [])
  pub past_the_limit : (line : List ℕ) → Lacks 10 line → length line ≡ 8388737 →
      TakesLine heard.Long [] (Some (line ++ 10 ∷ [])) (Some [])
  -- and what isn't so
  pub no_line_feed : TakesLine heard.Line (codes "ab") (Some (codes "ab")) (Some []) → ⊥
  pub two_lines : TakesLine heard.Line (codes "a" ++ 10 ∷ codes "b") (Some (codes "a" ++ 10 ∷ codes "b" ++ 10 ∷ [])) (Some []) → ⊥
  pub more_left : TakesLine heard.End [] (Some (codes "ab")) (Some (codes "ab")) → ⊥
  pub nothing_cut : TakesLine heard.Cut [] (Some []) (Some []) → ⊥
  pub lost_line : TakesLine heard.Memory [] (Some (codes "ab" ++ 10 ∷ codes "c")) (Some (codes "c")) → ⊥
  pub short : TakesLine heard.Long [] (Some (codes "ab" ++ 10 ∷ [])) (Some []) → ⊥
  pub too_long : (line : List ℕ) → length line ≡ 8388737 →
      TakesLine heard.Line line (Some (line ++ 10 ∷ [])) (Some []) → ⊥
  -- what happens over a port that tells what it has left and has written
  pub a_turn : HappenInTurn (Hears (Line (codes "ab")) ∷ Says (codes "ok") ∷ []) (telling (codes "ab" ++ 10 ∷ codes "c") (codes "x"))
      (telling (codes "c") (codes "xok"))
  pub a_line_kept : Happens (Hears (Line (codes "ab"))) (telling (codes "ab" ++ 10 ∷ []) []) (telling (codes "ab" ++ 10 ∷ []) []) → ⊥
  pub unwritten : Happens (Says (codes "ok")) (telling [] (codes "x")) (telling [] (codes "x")) → ⊥
  pub closes : Closes finish.Over (telling [] (codes "x")) (telling [] (codes "x"))
  pub closes_early : Closes finish.Over (telling (codes "c") []) (telling (codes "c") []) → ⊥
  pub loses_part : Closes finish.ReadFault (telling (codes "abc") []) (telling (codes "c") [])
  pub leaves_others : Closes finish.Memory (telling (codes "a") []) (telling (codes "b") []) → ⊥
  pub gathered : IsGathered false (1 ∷ 2 ∷ []) (1 ∷ 2 ∷ [])
