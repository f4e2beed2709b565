-- The rules of a line, in the order in which a fault is looked for, and what a line says. The rules look at the line as a whole
-- and at the scene of the lines before it; what it says it says by itself.
use Rattle.std.specs.Prelude.{ℕ, ◌+◌, List, [], ◌∷◌, ◌++◌, codes, drop, length, map, slice_index_or, nat_lt, nat_le, Bool, false, ◌&&◌, not, ◌==◌, if◌then◌else◌, Option, None, Some}
use Rattle.std.specs.List.{list_all}
use Rattle.std.specs.Str.{bytes_eq}
use Rattle.ta_isa.specs.declared.boot.App.{App}
use Rattle.ta_isa.specs.Reading.{image_of}
use Rattle.trace_text.specs.declared.fault.BadKind.{BadKind}
use Rattle.trace_text.specs.declared.fault.BadKind.TheVariants as bad
use Rattle.trace_text.specs.declared.item.Item.TheVariants as item
use Rattle.trace_text.specs.declared.limits.Size.{Size}
use Rattle.trace_text.specs.declared.line_kind.LineKind.{LineKind}
use Rattle.trace_text.specs.declared.line_kind.LineKind.TheVariants as kind
use Rattle.trace_text.specs.declared.statement.Statement.{Statement}
use Rattle.trace_text.specs.declared.statement.Statement.TheVariants as says
use Rattle.trace_text.specs.declared.trace.Fill.{Fill}
use Rattle.trace_text.specs.Limits.{Front, SceneState, app_limits, boot_limits, call_limits, comes_in, cpu_limits, fill_limits, goes_out, key_limits, key_place, scene_of, show_limits, write_limits}
use Rattle.trace_text.specs.Forms.{is_decimal, decimal, is_hexadecimal, hexadecimal, is_register, register, is_uuid, uuid, is_hex, bytes}
use Rattle.text_lines.specs.Lines.{is_skipped}
use Rattle.text_lines.specs.Words.{words_of}
use Rattle.trace_text.specs.Statement.{with_statement}

-- ---- what a line is told by

-- the first word of each kind of line
abbrev pub line_table : List (List ℕ × LineKind)
line_table =
    (codes "boot", kind.Boot)
    ∷ (codes "ta", kind.Ta)
    ∷ (codes "mem", kind.Mem)
    ∷ (codes "key", kind.Key)
    ∷ (codes "smc", kind.Smc)
    ∷ (codes "enter", kind.Enter)
    ∷ (codes "leave", kind.Leave)
    ∷ (codes "write", kind.Write)
    ∷ (codes "show", kind.Show)
    ∷ []

-- the kind beside the first row of this word
abbrev pub kind_in : List (List ℕ × LineKind) → List ℕ → Option LineKind
kind_in [] word = None
kind_in (row ∷ rows) word = if bytes_eq word row.0 then Some row.1 else kind_in rows word

unfoldable pub kind_named : List ℕ → Option LineKind
kind_named word = kind_in line_table word

-- how many words stand behind the first one
abbrev pub words_behind : LineKind → ℕ
words_behind kind.Boot = 3
words_behind kind.Ta = 2
words_behind kind.Mem = 2
words_behind kind.Key = 1
words_behind kind.Smc = 10
words_behind kind.Enter = 10
words_behind kind.Leave = 1
words_behind kind.Write = 3
words_behind kind.Show = 3

-- ---- the rules of each kind of line, on the words behind the first

abbrev pub boot_rules : List ℕ → List ℕ → List ℕ → List (BadKind × Bool)
boot_rules cpus threads frames =
    (bad.Number, is_decimal cpus)
    ∷ (bad.Number, is_decimal threads)
    ∷ (bad.Number, is_decimal frames)
    ∷ boot_limits (decimal cpus) (decimal threads) (decimal frames)

abbrev pub ta_rules : List (List ℕ) → List (List ℕ) → List ℕ → List ℕ → List (BadKind × Bool)
ta_rules natives apps id image =
    (bad.Uuid, is_uuid id)
    ∷ (bad.Hex, is_hex image)
    ∷ app_limits natives apps (uuid id) (bytes image)

abbrev pub mem_rules : List ℕ → List ℕ → List (BadKind × Bool)
mem_rules addr hex =
    (bad.Number, is_hexadecimal 16 addr)
    ∷ (bad.Hex, is_hex hex)
    ∷ fill_limits (hexadecimal addr) (length (bytes hex))

abbrev pub key_rules : List ℕ → List (BadKind × Bool)
key_rules hex = (bad.Hex, is_hex hex) ∷ key_limits (length (bytes hex))

-- of `smc` and `enter`, but for who is inside
abbrev pub call_rules : ℕ → List ℕ → List ℕ → List (List ℕ) → List (BadKind × Bool)
call_rules cpus cpu steps regs =
    (bad.Number, is_decimal cpu)
    ∷ (bad.Number, is_decimal steps)
    ∷ (bad.Number, list_all is_register regs)
    ∷ call_limits cpus (decimal cpu) (decimal steps)

-- of `leave`, but for who is inside
abbrev pub cpu_rules : ℕ → List ℕ → List (BadKind × Bool)
cpu_rules cpus cpu = (bad.Number, is_decimal cpu) ∷ cpu_limits cpus (decimal cpu)

abbrev pub write_rules : ℕ → List ℕ → List ℕ → List ℕ → List (BadKind × Bool)
write_rules cpus cpu addr hex =
    (bad.Number, is_decimal cpu)
    ∷ (bad.Number, is_hexadecimal 16 addr)
    ∷ (bad.Hex, is_hex hex)
    ∷ write_limits cpus (decimal cpu) (hexadecimal addr) (length (bytes hex))

abbrev pub show_rules : ℕ → List ℕ → List ℕ → List ℕ → List (BadKind × Bool)
show_rules cpus cpu addr len =
    (bad.Number, is_decimal cpu)
    ∷ (bad.Number, is_hexadecimal 16 addr)
    ∷ (bad.Number, is_decimal len)
    ∷ show_limits cpus (decimal cpu) (hexadecimal addr) (decimal len)

-- of `smc` and `enter`: a processor that is outside comes in
abbrev pub entry_rules : SceneState → List ℕ → List ℕ → List (List ℕ) → List (BadKind × Bool)
entry_rules scene cpu steps regs =
    (bad.Place, scene.is_booted) ∷ call_rules scene.cpus cpu steps regs ++ comes_in scene.inside (decimal cpu)

-- a word by its number, behind the first one
abbrev pub word : List (List ℕ) → ℕ → List ℕ
word words n = slice_index_or words n []

-- where a line of this kind may stand in a scene, and then the rules of its words
abbrev pub rules_in : LineKind → List (List ℕ) → SceneState → List (List ℕ) → List (BadKind × Bool)
rules_in kind.Boot natives scene ws = (bad.Place, not scene.is_booted) ∷ boot_rules (word ws 0) (word ws 1) (word ws 2)
rules_in kind.Ta natives scene ws =
    (bad.Place, scene.is_booted) ∷ (bad.Place, scene.is_open) ∷ ta_rules natives scene.apps (word ws 0) (word ws 1)
rules_in kind.Mem natives scene ws = (bad.Place, scene.is_booted) ∷ (bad.Place, scene.is_open) ∷ mem_rules (word ws 0) (word ws 1)
rules_in kind.Key natives scene ws = key_place scene ++ key_rules (word ws 0)
rules_in kind.Smc natives scene ws = entry_rules scene (word ws 0) (word ws 1) (drop 2 ws)
rules_in kind.Enter natives scene ws = entry_rules scene (word ws 0) (word ws 1) (drop 2 ws)
rules_in kind.Leave natives scene ws = (bad.Place, scene.is_booted) ∷ cpu_rules scene.cpus (word ws 0) ++ goes_out scene.inside (decimal (word ws 0))
rules_in kind.Write natives scene ws = (bad.Place, scene.is_booted) ∷ write_rules scene.cpus (word ws 0) (word ws 1) (word ws 2)
rules_in kind.Show natives scene ws = (bad.Place, scene.is_booted) ∷ show_rules scene.cpus (word ws 0) (word ws 1) (word ws 2)

-- as many words as the kind has, and none of them empty
unfoldable pub counts : ℕ → List (List ℕ) → Bool
counts behind words = (length words == behind + 1) && list_all (λ w. nat_lt 0 (length w)) words

abbrev pub rules_of_words : Option LineKind → List (List ℕ) → SceneState → List (List ℕ) → List (BadKind × Bool)
rules_of_words None natives scene words = (bad.Item, false) ∷ []
rules_of_words (Some kind) natives scene words = (bad.Count, counts (words_behind kind) words) ∷ rules_in kind natives scene (drop 1 words)

-- ---- whole lines

-- 20 to 7e, hexadecimal
abbrev pub is_text_byte : ℕ → Bool
is_text_byte byte = nat_le 32 byte && nat_le byte 126

-- the rules of a line in a scene, given whether a line feed ends it
abbrev pub rules_at : List (List ℕ) → SceneState → Bool → List ℕ → List (BadKind × Bool)
rules_at natives scene ended line =
    (bad.Byte, list_all is_text_byte line)
    ∷ (bad.Cut, ended)
    ∷ (if is_skipped line then [] else rules_of_words (kind_named (word (words_of line) 0)) natives scene (words_of line))

-- ---- behind the trace so far

unfoldable pub rules_behind : LineKind → List (List ℕ) → Front → List (List ℕ) → List (BadKind × Bool)
rules_behind kind natives before ws = rules_in kind natives (scene_of before) ws

abbrev pub rules_of_kind : Option LineKind → List (List ℕ) → Front → List (List ℕ) → List (BadKind × Bool)
rules_of_kind named natives before words = rules_of_words named natives (scene_of before) words

unfoldable pub line_rules : List (List ℕ) → Front → Bool → List ℕ → List (BadKind × Bool)
line_rules natives before ended line = rules_at natives (scene_of before) ended line

-- ---- what a line that keeps its rules says, and what that adds

abbrev pub app_of : List ℕ → List ℕ → App
app_of id image = record { uuid = uuid id; image = image_of (bytes image) }

abbrev pub size_of : List ℕ → List ℕ → List ℕ → Size
size_of cpus threads frames = record { cpus = decimal cpus; threads = decimal threads; frames = decimal frames }

abbrev pub fill_of : List ℕ → List ℕ → Fill
fill_of addr hex = record { addr = hexadecimal addr; bytes = bytes hex }

abbrev pub said_by : LineKind → List (List ℕ) → Statement
said_by kind.Boot ws = says.Boot (size_of (word ws 0) (word ws 1) (word ws 2))
said_by kind.Ta ws = says.App (app_of (word ws 0) (word ws 1))
said_by kind.Mem ws = says.Fill (fill_of (word ws 0) (word ws 1))
said_by kind.Key ws = says.Key (bytes (word ws 0))
said_by kind.Smc ws = says.Item (item.Smc (decimal (word ws 0)) (decimal (word ws 1)) (map register (drop 2 ws)))
said_by kind.Enter ws = says.Item (item.Enter (decimal (word ws 0)) (decimal (word ws 1)) (map register (drop 2 ws)))
said_by kind.Leave ws = says.Item (item.Leave (decimal (word ws 0)))
said_by kind.Write ws = says.Item (item.Write (decimal (word ws 0)) (hexadecimal (word ws 1)) (bytes (word ws 2)))
said_by kind.Show ws = says.Item (item.Show (decimal (word ws 0)) (hexadecimal (word ws 1)) (decimal (word ws 2)))

abbrev pub said_by_words : Option LineKind → List (List ℕ) → Statement
said_by_words None words = says.Blank
said_by_words (Some kind) words = said_by kind (drop 1 words)

-- what a whole line says
unfoldable pub said_in : List ℕ → Statement
said_in line = if is_skipped line then says.Blank else said_by_words (kind_named (word (words_of line) 0)) (words_of line)

unfoldable pub added : LineKind → Front → List (List ℕ) → Front
added kind before ws = with_statement before (said_by kind ws)

abbrev pub added_by_kind : Option LineKind → Front → List (List ℕ) → Front
added_by_kind None before words = before
added_by_kind (Some kind) before words = added kind before (drop 1 words)

-- the trace that the lines before and this one spell
unfoldable pub after_line : Front → List ℕ → Front
after_line before line = if is_skipped line then before else added_by_kind (kind_named (word (words_of line) 0)) before (words_of line)
