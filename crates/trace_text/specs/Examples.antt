-- What the rules of lines and the limits of traces say of a few small inputs.
use Rattle.std.specs.Prelude.{◌≡◌, ℕ, List, [], ◌∷◌, ◌++◌, true, false, Some, codes, replicate}
use Rattle.std.specs.List.{flat_map}
use Rattle.trace_text.specs.declared.fault.BadKind.TheVariants as bad
use Rattle.trace_text.specs.declared.fault.TraceFault.TheVariants.{Bad}
use Rattle.trace_text.specs.declared.item.Item.TheVariants.{Enter, Leave}
use Rattle.trace_text.specs.declared.item.Reg.{Reg}
use Rattle.trace_text.specs.declared.item.Reg.TheVariants.{Num, Last}
use Rattle.trace_text.specs.declared.trace.Trace.{Trace}
use Rattle.trace_text.specs.Fault.{fault_text}
use Rattle.trace_text.specs.Forms.{is_decimal, decimal, is_hexadecimal, hexadecimal, is_register, register, is_uuid, uuid, is_hex, bytes}
use Rattle.trace_text.specs.Grammar.{Spells, IsFirstFault}
use Rattle.trace_text.specs.Limits.{inside_after, lies_in_ram, no_front, no_key, outside, trace_in}
use Rattle.text_lines.specs.Lines.{is_skipped}
use Rattle.trace_text.specs.Sound.{can_come, IsPartOfRam, IsSound, IsSoundBoot, IsSoundItem, IsSoundReg}

-- the text of these lines, each with its line feed
abbrev pub text_of : List (List ℕ) → List ℕ
text_of lines = flat_map (λ line. line ++ 10 ∷ []) lines

abbrev pub boot_line : List ℕ
boot_line = codes "boot 2 1 1"

abbrev pub enter_line : List ℕ
enter_line = codes "enter 1 5 =7 0 0 0 0 0 0 a"

-- the registers of that line
abbrev pub entered : List Reg
entered = Last 7 ∷ Num 0 ∷ Num 0 ∷ Num 0 ∷ Num 0 ∷ Num 0 ∷ Num 0 ∷ Num 10 ∷ []

abbrev pub small_trace : Trace
small_trace = record {
  boot = Some (record { cpus = 2; threads = 1; frames = 1; apps = []; key = no_key });
  fills = record { addr = 0x4000_0000; bytes = 0 ∷ 255 ∷ [] } ∷ [];
  items = Enter 1 5 entered ∷ Leave 1 ∷ [];
}

-- a line with a key, and the trace of it behind a boot
abbrev pub key_line : List ℕ
key_line = codes "key 07070707070707070707070707070707FF070707070707070707070707070707"

abbrev pub key : List ℕ
key = replicate 16 7 ++ 255 ∷ replicate 15 7

abbrev pub keyed_trace : Trace
keyed_trace = record { boot = Some (record { cpus = 2; threads = 1; frames = 1; apps = []; key = key }); fills = []; items = [] }

abbrev pub hyphenated : List ℕ
hyphenated = codes "11111111-2222-3333-4444-5555555555aB"

pub record Examples : Type 0 where
  pub ten : is_decimal (codes "10") ≡ true
  pub tens_value : decimal (codes "10") ≡ 10
  pub leading_zero : is_decimal (codes "01") ≡ false
  pub sign : is_decimal (codes "+1") ≡ false
  pub nine_digits : is_hexadecimal 8 (codes "000000001") ≡ false
  pub either_case : hexadecimal (codes "aF") ≡ 175
  pub last : register (codes "=7") ≡ Last 7
  pub no_eighth : is_register (codes "=8") ≡ false
  pub eight_digits : register (codes "bF00Ff01") ≡ Num 0xbf00_ff01
  pub id : uuid hyphenated ≡ 17 ∷ 17 ∷ 17 ∷ 17 ∷ 34 ∷ 34 ∷ 51 ∷ 51 ∷ 68 ∷ 68 ∷ 85 ∷ 85 ∷ 85 ∷ 85 ∷ 85 ∷ 171 ∷ []
  pub braces : is_uuid (codes "{" ++ hyphenated ++ codes "}") ≡ false
  pub two_bytes : bytes (codes "00fF") ≡ 0 ∷ 255 ∷ []
  pub odd : is_hex (codes "0") ≡ false
  pub last_byte : lies_in_ram 0x403f_ffff 1 ≡ true
  pub past_ram : lies_in_ram 0x403f_ffff 2 ≡ false
  pub comment : is_skipped (codes "# boot") ≡ true
  pub inside : inside_after (Enter 1 5 entered ∷ []) ≡ false ∷ true ∷ false ∷ false ∷ false ∷ false ∷ false ∷ false ∷ []
  pub nothing : Spells [] [] (trace_in no_front)
  pub small : Spells [] (text_of (codes "# small" ∷ [] ∷ boot_line ∷ codes "mem 40000000 00fF" ∷ enter_line ∷ codes "leave 1" ∷ [])) small_trace
  pub keyed : Spells [] (text_of (boot_line ∷ key_line ∷ [])) keyed_trace
  pub second_key : IsFirstFault [] (text_of (boot_line ∷ key_line ∷ key_line ∷ [])) 3 bad.Place
  pub key_before_boot : IsFirstFault [] (text_of (key_line ∷ [])) 1 bad.Place
  pub key_behind_item : IsFirstFault [] (text_of (boot_line ∷ enter_line ∷ key_line ∷ [])) 3 bad.Place
  pub short_key : IsFirstFault [] (text_of (boot_line ∷ codes "key 0707" ∷ [])) 2 bad.Range
  pub early : IsFirstFault [] (text_of (codes "leave 1" ∷ [])) 1 bad.Place
  pub second_boot : IsFirstFault [] (text_of (boot_line ∷ boot_line ∷ [])) 2 bad.Place
  pub two_spaces : IsFirstFault [] (text_of (codes "boot 1  1 1" ∷ [])) 1 bad.Count
  pub cut : IsFirstFault [] (text_of (boot_line ∷ []) ++ codes "leave x") 2 bad.Cut
  pub range_before_cpu : IsFirstFault [] (text_of (boot_line ∷ codes "show 2 40000000 0" ∷ [])) 2 bad.Range
  pub twice_inside : IsFirstFault [] (text_of (boot_line ∷ enter_line ∷ enter_line ∷ [])) 3 bad.Inside
  pub within_limits : IsSound [] small_trace
  pub empty_within_limits : IsSound [] (trace_in no_front)
  pub nine_processors : ¬ (IsSoundBoot [] (record { cpus = 9; threads = 1; frames = 1; apps = []; key = no_key }))
  pub no_bytes : ¬ (IsPartOfRam 0x4000_0000 0)
  pub above_ram : ¬ (IsPartOfRam 0x4040_0000 1)
  pub no_eighth_register : ¬ (IsSoundReg (Last 8))
  pub no_steps : ¬ (IsSoundItem 2 (Enter 1 0 entered))
  pub no_such_processor : ¬ (IsSoundItem 2 (Leave 2))
  pub enters : can_come outside (Enter 1 5 entered) ≡ true
  pub leaves_from_outside : can_come outside (Leave 1) ≡ false
  pub printed : fault_text (Bad 12 bad.Unended) ≡ codes "bad trace 12 unended"
  pub unended : IsFirstFault [] (text_of (boot_line ∷ enter_line ∷ [])) 3 bad.Unended
