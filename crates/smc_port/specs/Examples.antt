-- The definitions on small inputs.
use Rattle.std.specs.Prelude.{◌≡◌, ℕ, true, false, List, [], ◌∷◌}
use Rattle.smc_abi.specs.declared.regs.Regs.{Regs}
use Rattle.smc_port.specs.declared.turn.Turn.{Turn}
use Rattle.smc_port.specs.ListedPort.{Listed, after_turn, has_turn, smcs_made}

-- eight registers, of which the first alone isn't 0
abbrev pub first_is : ℕ → Regs
first_is number = record { a = number ∷ 0 ∷ 0 ∷ 0 ∷ 0 ∷ 0 ∷ 0 ∷ 0 ∷ [] }

-- answers OK, and writes a byte at the start of RAM; answers anything
abbrev pub writes_a_byte : Turn
writes_a_byte = record { answer = first_is 0; writes = record { addr = 0x40000000; bytes = 7 ∷ [] } ∷ [] }

abbrev pub answers_anything : Turn
answers_anything = record { answer = first_is 0xfffffffe; writes = [] }

-- RAM cut down to two bytes, two turns, and these SMCs made
abbrev pub port : List ℕ → List Regs → Listed
port ram made = record { ram = ram; turns = writes_a_byte ∷ answers_anything ∷ []; made = made }

abbrev pub call : Regs
call = first_is 0x32000004

pub record Examples : Type 0 where
  pub first_turn : after_turn (port (0 ∷ 1 ∷ []) []) call writes_a_byte ≡ port (7 ∷ 1 ∷ []) (call ∷ [])
  pub second_turn : after_turn (port (7 ∷ 1 ∷ []) (call ∷ [])) call answers_anything ≡ port (7 ∷ 1 ∷ []) (call ∷ call ∷ [])
  pub none_made : smcs_made (port [] []) ≡ []
  pub one_made : smcs_made (port [] (call ∷ []))
      ≡ record { regs = call; reads = []; answer = first_is 0; writes = writes_a_byte.writes } ∷ []
  pub has_one_left : has_turn (port [] (call ∷ [])) ≡ true
  pub has_none_left : has_turn (port [] (call ∷ call ∷ [])) ≡ false
