-- What the rules of lines say of a few small scripts.
use Rattle.std.specs.Prelude.{◌≡◌, ℕ, List, [], ◌∷◌, ◌++◌, Some, codes, replicate}
use Rattle.client_text.specs.Forms.{param_of}
use Rattle.client_text.specs.Grammar.{IsFirstFault, Spells}
use Rattle.client_text.specs.Rules.{no_lines, script_in}
use Rattle.client_text.specs.declared.script.Script.{Script}
use Rattle.client_text.specs.declared.script.ScriptCall.TheVariants.{Open, Invoke, Close}
use Rattle.client_text.specs.declared.script.ScriptParam.TheVariants.{Empty, ValueIn, ValueOut, ValueInout, MemoryIn, MemoryOut, MemoryInout}
use Rattle.trace_text.specs.Examples.{text_of}
use Rattle.trace_text.specs.Limits.{no_key}
use Rattle.trace_text.specs.declared.fault.BadKind.{BadKind}
use Rattle.trace_text.specs.declared.fault.BadKind.TheVariants as bad

abbrev pub boot_line : List ℕ
boot_line = codes "boot 1 2 1"

-- an application by 16 bytes of 17
abbrev pub id : List ℕ
id = codes "11111111-1111-1111-1111-111111111111"

-- `open NAME` with that application, and parameters
abbrev pub open_line : List ℕ → List ℕ → List ℕ
open_line name params = codes "open " ++ name ++ codes " " ++ id ++ params

abbrev pub s : List ℕ
s = codes "s"

-- a boot, a session s, and these lines
abbrev pub opened : List (List ℕ) → List ℕ
opened lines = text_of (boot_line ∷ open_line s [] ∷ lines)

-- the first fault stands in the line behind that
abbrev pub Breaks : List ℕ → BadKind → Type 0
Breaks line kind = IsFirstFault [] (opened (line ∷ [])) 3 kind

abbrev pub small_lines : List (List ℕ)
small_lines =
    boot_line
    ∷ codes "mem 40000000 00fF"
    ∷ codes "# a session"
    ∷ open_line s (codes " none vo")
    ∷ codes "invoke s fA cancel:1000 vio:5:7"
    ∷ codes "close s"
    ∷ []

abbrev pub small_script : Script
small_script = record {
  boot = Some (record { cpus = 1; threads = 2; frames = 1; apps = []; key = no_key });
  fills = record { addr = 0x4000_0000; bytes = 0 ∷ 255 ∷ [] } ∷ [];
  calls = Open s (replicate 16 17) (Empty ∷ ValueOut ∷ []) ∷ Invoke s 250 (Some 1000) (ValueInout 5 7 ∷ []) ∷ Close s ∷ [];
}

pub record Examples : Type 0 where
  pub nothing : Spells [] [] (script_in no_lines)
  pub small : Spells [] (text_of small_lines) small_script
  -- parameters
  pub numbers : param_of (codes "vi:a:0000000B") ≡ ValueIn 10 11
  pub bytes : param_of (codes "mi:00fF") ≡ MemoryIn (0 ∷ 255 ∷ [])
  pub room : param_of (codes "mo:65536") ≡ MemoryOut 65536
  pub bytes_both_ways : param_of (codes "mio:07") ≡ MemoryInout (7 ∷ [])
  -- the header: one thread alone, a line behind a call, and lines of a trace
  pub one_thread : IsFirstFault [] (text_of (codes "boot 1 1 1" ∷ [])) 1 bad.Range
  pub late_fill : Breaks (codes "mem 40000000 00") bad.Place
  pub second_boot : Breaks boot_line bad.Place
  pub no_smc : Breaks (codes "leave 0") bad.Item
  pub early : IsFirstFault [] (text_of (codes "close s" ∷ [])) 1 bad.Place
  pub cut : IsFirstFault [] (text_of (boot_line ∷ []) ++ open_line s []) 2 bad.Cut
  -- counts of words: a close of two names, five parameters, and no function
  pub two_names : Breaks (codes "close s s") bad.Count
  pub five : Breaks (codes "invoke s 0 none none none none none") bad.Count
  pub five_cancelled : Breaks (codes "invoke s 0 cancel:1 none none none none none") bad.Count
  pub no_function : Breaks (codes "invoke s") bad.Count
  -- names, and numbers of another form
  pub upper_case : Breaks (open_line (codes "S") []) bad.Number
  pub long_name : Breaks (open_line (codes "abcdefghijklmnopq") []) bad.Number
  pub nine_digits : Breaks (codes "invoke s 000000000") bad.Number
  pub no_second : Breaks (codes "invoke s 0 vi:1:") bad.Number
  pub third : Breaks (codes "invoke s 0 vi:1:2:3") bad.Number
  pub colon : Breaks (codes "invoke s 0 vo:") bad.Number
  pub no_bytes : Breaks (codes "invoke s 0 mi:") bad.Number
  pub half : Breaks (codes "invoke s 0 mi:0") bad.Number
  pub no_digits : Breaks (codes "invoke s 0 mio:zz") bad.Number
  pub unknown : Breaks (codes "invoke s 0 memory:1") bad.Number
  pub late_cancel : Breaks (codes "invoke s 0 none cancel:1") bad.Number
  pub zeros : Breaks (codes "invoke s 0 cancel:01") bad.Number
  -- limits
  pub never : Breaks (codes "invoke s 0 cancel:0") bad.Range
  pub too_late : Breaks (codes "invoke s 0 cancel:1001") bad.Range
  pub empty : Breaks (codes "invoke s 0 mo:0") bad.Range
  pub too_long : Breaks (codes "invoke s 0 mo:65537") bad.Range
  pub far_too_long : Breaks (codes "invoke s 0 mo:99999999999999999999") bad.Range
  -- names of sessions
  pub opened_twice : Breaks (open_line s []) bad.Name
  pub not_opened : Breaks (codes "close t") bad.Name
  -- the order of faults
  pub count_before_place : IsFirstFault [] (text_of (codes "close" ∷ [])) 1 bad.Count
  pub place_before_number : IsFirstFault [] (text_of (codes "close S" ∷ [])) 1 bad.Place
  pub number_before_uuid : Breaks (codes "open t 1 mi:") bad.Number
  pub uuid_before_range : Breaks (codes "open t 1 mo:0") bad.Uuid
  pub range_before_name : Breaks (open_line s (codes " mo:0")) bad.Range
