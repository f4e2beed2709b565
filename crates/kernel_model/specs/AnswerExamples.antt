-- Each answer of a call that has no slot, and of one that is interrupted.
use Rattle.std.specs.Prelude.{◌≡◌, ℕ, [], ◌∷◌, ◌++◌, Some, None, List, replicate}
use Rattle.ns_ram.specs.Examples.{read_of}
use Rattle.ns_ram.specs.declared.read.Read.{Read}
use Rattle.kernel_model.specs.Worked.{add, boot, adds, head, Comes, Leaves, Return, call_of, both, call, resume, opens}
use Rattle.kernel_model.specs.Worked.{returns_of, returns_after, interrupt, refused}

-- a call alone with these registers
abbrev pub Answers : List ℕ → Return → Type 0
Answers regs return = returns_of (boot 1 1 1 add) (both 0 1 regs []) ≡ Some (return ∷ [])

-- a call alone with its argument at this address, which has these reads
abbrev pub AnswersAt : ℕ → List Read → Return → Type 0
AnswersAt addr reads return =
    returns_of (boot 1 1 1 add) (both 0 1 (0x32000004 ∷ 0 ∷ addr ∷ replicate 5 0) reads) ≡ Some (return ∷ [])

-- a0 and a1
abbrev pub fast : ℕ → ℕ → List ℕ
fast a0 a1 = a0 ∷ a1 ∷ replicate 6 0

abbrev pub answered : ℕ → ℕ → Return
answered a0 a1 = (fast a0 a1, [])

pub record AnswerExamples : Type 0 where
  pub uid : Answers (fast 0xbf00ff01 0) (0x384fb3e0 ∷ 0xe7f811e3 ∷ 0xaf630002 ∷ 0xa5d5c51b ∷ replicate 4 0, [])
  pub thread_count : Answers (fast 0xb200000f 0) (answered 0 1)
  pub unknown_function : Answers (fast 0x32000063 0) (refused 0xffffffff)
  pub no_reserved_memory : Answers (fast 0xb2000007 0) (refused 7)
  pub bad_capability : Answers (fast 0xb2000009 3) (answered 7 0x54)
  pub capabilities : Answers (fast 0xb2000009 1) (0 ∷ 0x54 ∷ 0 ∷ 4 ∷ replicate 4 0, [])
  pub no_cache : Answers (fast 0xb200000a 0) (refused 7)
  -- a resume: of no slot, of a free one, of an active one
  pub absent_slot : returns_of (boot 1 1 1 add) (resume 0 1 1) ≡ Some (refused 3 ∷ [])
  pub free_slot : returns_of (boot 1 1 1 add) (resume 0 1 0) ≡ Some (refused 3 ∷ [])
  pub active_slot : returns_after (boot 2 1 1 add) (opens ++ Comes 0 (call_of 0) 1 (adds 5 7) ∷ []) (resume 1 1 0)
      ≡ Some (refused 3 ∷ [])
  -- an address that is no multiple of 8, and one whose head doesn't lie in RAM, above it or below
  pub unaligned : AnswersAt 0x40000004 [] (refused 4)
  pub past_ram : AnswersAt 0x403fffe8 [] (refused 4)
  pub below_ram : AnswersAt 0x3ffffff8 [] (refused 4)
  pub upper_half : Answers (0x32000004 ∷ 1 ∷ 0x40000000 ∷ replicate 5 0) (refused 4)
  -- a count of 7, and an argument whose last parameter doesn't lie in RAM
  pub count : AnswersAt 0x40000000 (read_of 0x40000000 (head 0 0 0 7) ∷ []) (refused 4)
  pub count_before_command : AnswersAt 0x40000000 (read_of 0x40000000 (head 6 0 0 7) ∷ []) (refused 4)
  pub params_past_ram : AnswersAt 0x403fffe0 (read_of 0x403fffe0 (head 0 0 0 1) ∷ []) (refused 4)
  -- commands that aren't served
  pub bottom_half : AnswersAt 0x40000000 (read_of 0x40000000 (head 6 0 0 0) ∷ []) (refused 5)
  pub command_eight : AnswersAt 0x40000000 (read_of 0x40000000 (head 8 0 0 0) ∷ []) (refused 5)
  -- five of the six steps of an invoke
  pub interrupted : returns_after (boot 1 1 1 add) opens (call 0 5 (adds 5 7)) ≡ Some (interrupt 0 ∷ [])
  -- a processor that is inside doesn't come in, and one that is outside doesn't go out
  pub comes_twice : returns_of (boot 1 1 1 add)
      (Comes 0 (fast 0xbf00ff01 0) 1 [] ∷ Comes 0 (fast 0xbf00ff01 0) 1 [] ∷ []) ≡ None
  pub leaves_twice : returns_of (boot 1 1 1 add) (both 0 1 (fast 0xbf00ff01 0) [] ++ Leaves 0 ∷ []) ≡ None
  pub no_processor : returns_of (boot 1 1 1 add) (both 1 1 (fast 0xbf00ff01 0) []) ≡ None
  pub no_steps : returns_of (boot 1 1 1 add) (both 0 0 (fast 0xbf00ff01 0) []) ≡ None
  pub many_steps : returns_of (boot 1 1 1 add) (both 0 1000001 (fast 0xbf00ff01 0) []) ≡ None
  -- a history whose reads aren't those that the call asks for
  pub reads_too_many : returns_of (boot 1 1 1 add)
      (both 0 1 (fast 0xbf00ff01 0) (read_of 0x40000000 (head 0 0 0 0) ∷ [])) ≡ None
  pub reads_too_few : returns_of (boot 1 1 1 add) (call 0 1 (read_of 0x40000000 (head 0 0 0 2) ∷ [])) ≡ None
