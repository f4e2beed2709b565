-- The rules of a line of a client's script, in the order in which a fault is looked for, and what a line adds. The header is
-- that of a trace, but for a boot with at least two threads, and behind it stand the client's calls. This project's own.
use Rattle.std.specs.Prelude.{ℕ, ◌+◌, List, [], ◌∷◌, ◌++◌, codes, drop, length, map, nat_le, nat_lt, Bool, true, false, ◌&&◌, not}
use Rattle.std.specs.Prelude.{if◌then◌else◌, Option, None, Some, is_some}
use Rattle.std.specs.List.{list_all, list_any}
use Rattle.std.specs.Option.{option_map, option_map_or}
use Rattle.std.specs.Str.{bytes_eq}
use Rattle.client_text.specs.declared.call_kind.CallKind.{CallKind}
use Rattle.client_text.specs.declared.call_kind.CallKind.TheVariants as call
use Rattle.client_text.specs.declared.script.Script.{Script}
use Rattle.client_text.specs.declared.script.ScriptCall.{ScriptCall}
use Rattle.client_text.specs.declared.script.ScriptCall.TheVariants.{Open, Invoke, Close}
use Rattle.client_text.specs.Forms.{cancel_number, has_length, is_name, is_param, param_of, small}
use Rattle.text_lines.specs.Lines.{is_skipped}
use Rattle.text_lines.specs.Words.{words_of}
use Rattle.trace_text.specs.Forms.{decimal, hexadecimal, is_decimal, is_hexadecimal, is_uuid, uuid}
use Rattle.trace_text.specs.Limits.{Front, is_within, no_front}
use Rattle.trace_text.specs.Rules.{counts, is_text_byte, kind_named, rules_behind, word, words_behind}
use Rattle.trace_text.specs.Rules as trace
use Rattle.trace_text.specs.declared.fault.BadKind.{BadKind}
use Rattle.trace_text.specs.declared.fault.BadKind.TheVariants as bad
use Rattle.trace_text.specs.declared.line_kind.LineKind.{LineKind}
use Rattle.trace_text.specs.declared.line_kind.LineKind.TheVariants as kind

-- what the lines so far give: of the header, which has no items, and the calls
pub record ScriptFront : Type 0 where
  pub header : Front
  pub calls : List ScriptCall

-- the script of all of them
abbrev pub script_in : ScriptFront → Script
script_in front = record { boot = front.header.boot; fills = front.header.fills; calls = front.calls }

-- before the first of them
abbrev pub no_lines : ScriptFront
no_lines = record { header = no_front; calls = [] }

-- no call stands yet
abbrev pub has_no_call : List ScriptCall → Bool
has_no_call [] = true
has_no_call (call ∷ calls) = false

-- ---- names

-- the call opens a session under this name
abbrev pub opens : List ℕ → ScriptCall → Bool
opens name (Open opened uuid params) = bytes_eq opened name
opens name (Invoke other func cancel_after params) = false
opens name (Close other) = false

-- one of them does
abbrev pub is_opened : List ScriptCall → List ℕ → Bool
is_opened calls name = list_any (opens name) calls

-- ---- words

-- at least and at most so many words, and none of them empty
unfoldable pub has_between : ℕ → ℕ → List (List ℕ) → Bool
has_between least most words = is_within least most (length words) && list_all (λ w. nat_lt 0 (length w)) words

-- the number of the word by which an invoke is cancelled, where its fourth word is one
abbrev pub cancel_in : List (List ℕ) → Option (List ℕ)
cancel_in words = cancel_number (word words 3)

-- how many words stand before the parameters of an invoke, and these
abbrev pub before_params : List (List ℕ) → ℕ
before_params words = if is_some (cancel_in words) then 4 else 3

abbrev pub params_behind : List (List ℕ) → List (List ℕ)
params_behind words = drop (before_params words) words

-- ---- the rules of calls, which stand behind a boot

-- the words of an open: its name, its application and its parameters
abbrev pub open_words : List ℕ → List ℕ → List (List ℕ) → List (BadKind × Bool)
open_words name id params =
    (bad.Number, is_name name)
    ∷ (bad.Number, list_all is_param params)
    ∷ (bad.Uuid, is_uuid id)
    ∷ (bad.Range, list_all has_length (map param_of params))
    ∷ []

-- `open NAME UUID` with at most four parameters
abbrev pub open_rules : ScriptFront → List (List ℕ) → List (BadKind × Bool)
open_rules before words =
    (bad.Count, has_between 3 7 words)
    ∷ (bad.Place, is_some before.header.boot)
    ∷ open_words (word words 1) (word words 2) (drop 3 words) ++ (bad.Name, not (is_opened before.calls (word words 1))) ∷ []

-- the words of an invoke: its name, its function, the number that cancels it, and its parameters
abbrev pub invoke_words : List ℕ → List ℕ → Option (List ℕ) → List (List ℕ) → List (BadKind × Bool)
invoke_words name func cancel params =
    (bad.Number, is_name name)
    ∷ (bad.Number, is_hexadecimal 8 func)
    ∷ (bad.Number, option_map_or is_decimal cancel true)
    ∷ (bad.Number, list_all is_param params)
    ∷ (bad.Range, option_map_or (λ number. is_within 1 1000 (small number)) cancel true)
    ∷ (bad.Range, list_all has_length (map param_of params))
    ∷ []

-- `invoke NAME FUNC` or `invoke NAME FUNC cancel:K`, with at most four parameters
abbrev pub invoke_rules : ScriptFront → List (List ℕ) → List (BadKind × Bool)
invoke_rules before words =
    (bad.Count, has_between 3 (before_params words + 4) words)
    ∷ (bad.Place, is_some before.header.boot)
    ∷ invoke_words (word words 1) (word words 2) (cancel_in words) (params_behind words)
    ++ (bad.Name, is_opened before.calls (word words 1)) ∷ []

-- `close NAME`
abbrev pub close_rules : ScriptFront → List (List ℕ) → List (BadKind × Bool)
close_rules before words =
    (bad.Count, counts 1 words)
    ∷ (bad.Place, is_some before.header.boot)
    ∷ (bad.Number, is_name (word words 1))
    ∷ (bad.Name, is_opened before.calls (word words 1))
    ∷ []

-- the first word of each kind of call
abbrev pub call_table : List (List ℕ × CallKind)
call_table = (codes "open", call.Open) ∷ (codes "invoke", call.Invoke) ∷ (codes "close", call.Close) ∷ []

-- the kind beside the first row of this word
abbrev pub call_in : List (List ℕ × CallKind) → List ℕ → Option CallKind
call_in [] first = None
call_in (row ∷ rows) first = if bytes_eq first row.0 then Some row.1 else call_in rows first

unfoldable pub call_named : List ℕ → Option CallKind
call_named first = call_in call_table first

abbrev pub call_rules : CallKind → ScriptFront → List (List ℕ) → List (BadKind × Bool)
call_rules call.Open before words = open_rules before words
call_rules call.Invoke before words = invoke_rules before words
call_rules call.Close before words = close_rules before words

-- ---- the rules of the header, which stands before all calls

abbrev pub is_header : LineKind → Bool
is_header kind.Boot = true
is_header kind.Ta = true
is_header kind.Mem = true
is_header kind.Key = true
is_header kind.Smc = false
is_header kind.Enter = false
is_header kind.Leave = false
is_header kind.Write = false
is_header kind.Show = false

-- a number from 2 on
abbrev pub is_two_or_more : List ℕ → Bool
is_two_or_more number = is_decimal number && nat_le 2 (decimal number)

-- a boot has at least two threads, one for a call and one for its cancellation
abbrev pub thread_limits : LineKind → List (List ℕ) → List (BadKind × Bool)
thread_limits kind.Boot words = (bad.Range, is_two_or_more (word words 2)) ∷ []
thread_limits _ words = []

abbrev pub header_rules : Option LineKind → List (List ℕ) → ScriptFront → List (List ℕ) → List (BadKind × Bool)
header_rules None natives before words = (bad.Item, false) ∷ []
header_rules (Some kind) natives before words =
    (bad.Item, is_header kind)
    ∷ (bad.Count, counts (words_behind kind) words)
    ∷ (bad.Place, has_no_call before.calls)
    ∷ rules_behind kind natives before.header (drop 1 words) ++ thread_limits kind words

-- ---- whole lines

abbrev pub rules_of_words : Option CallKind → List (List ℕ) → ScriptFront → List (List ℕ) → List (BadKind × Bool)
rules_of_words None natives before words = header_rules (kind_named (word words 0)) natives before words
rules_of_words (Some kind) natives before words = call_rules kind before words

-- the rules of a line, given whether a line feed ends it
unfoldable pub line_rules : List (List ℕ) → ScriptFront → Bool → List ℕ → List (BadKind × Bool)
line_rules natives before ended line =
    (bad.Byte, list_all is_text_byte line)
    ∷ (bad.Cut, ended)
    ∷ (if is_skipped line then [] else rules_of_words (call_named (word (words_of line) 0)) natives before (words_of line))

-- ---- what a line that keeps its rules adds

abbrev pub open_of : List (List ℕ) → ScriptCall
open_of words = Open (word words 1) (uuid (word words 2)) (map param_of (drop 3 words))

abbrev pub invoke_of : List (List ℕ) → ScriptCall
invoke_of words =
    Invoke (word words 1) (hexadecimal (word words 2)) (option_map small (cancel_in words)) (map param_of (params_behind words))

abbrev pub call_of : CallKind → List (List ℕ) → ScriptCall
call_of call.Open words = open_of words
call_of call.Invoke words = invoke_of words
call_of call.Close words = Close (word words 1)

abbrev pub with_call : ScriptFront → ScriptCall → ScriptFront
with_call before call = record before { calls = before.calls ++ call ∷ [] }

abbrev pub with_line : Option CallKind → ScriptFront → List ℕ → ScriptFront
with_line None before line = record before { header = trace.after_line before.header line }
with_line (Some kind) before line = with_call before (call_of kind (words_of line))

-- the script that the lines before and this one spell
unfoldable pub after_line : ScriptFront → List ℕ → ScriptFront
after_line before line = if is_skipped line then before else with_line (call_named (word (words_of line) 0)) before line
