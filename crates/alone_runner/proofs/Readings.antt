-- What an input spells is one thing, in each grammar, and words ask for one command.
use Rattle.std.proofs.Common.{◌≡◌, ℕ, ◌^◌, ◌<◌, List, [], get_or, ap, subst, sym, ◌∙◌, arith}
use Rattle.std.specs.Prelude.{String, codes, if◌then◌else◌, map, string_bytes}
use Rattle.std.specs.Fmt.{decimal}
use Rattle.std.specs.Str.{bytes_eq}
use Rattle.std.specs.Str.Parse.{digits_value}
use Rattle.std.proofs.lemmas.Fmt.{decimal_is_IsNumeral}
use Rattle.std.specs.Global.{Global}
use Rattle.compare_model.specs.declared.subject.Subject.{Subject}
use Rattle.compare_model.specs.declared.subject.Subject.TheVariants.{Session, Group}
use Rattle.ta_asm.proofs.Meanings as asm
use Rattle.ta_isa.specs.declared.image.Image.{Image}
use Rattle.trace_bin.proofs.GrammarLaws as records
use Rattle.trace_text.proofs.GrammarLaws as text
use Rattle.trace_text.specs.Forms.{is_uuid, uuid}
use Rattle.trace_text.specs.declared.fault.BadKind.{BadKind}
use Rattle.trace_text.specs.declared.trace.Trace.{Trace}
use Rattle.kernel_model.specs.Application.{Native}
use Rattle.trace_player.specs.Starting.{uuids_of}
use Rattle.word_parts.specs.Word.{HasOneMeaning}
use Rattle.alone_runner.specs.Content.{IsFirstFault, Spells}
use Rattle.alone_runner.specs.Run.{reading}
use Rattle.alone_runner.specs.Words.{Asks, IsNumbered, Names, Say}
use Rattle.alone_runner.proofs.Commands.{no_uuid}
use Rattle.alone_runner.specs.declared.command.Command.{Command}
use Rattle.alone_runner.specs.declared.command.Command.TheVariants.{Serve, Record, Audit, Compare, Notify, Client, Work}
use Rattle.alone_runner.specs.declared.content.Content.{Content}
use Rattle.alone_runner.specs.declared.content.Content.TheVariants as variant
use Rattle.alone_runner.specs.declared.command.Grammar.{Grammar}
use Rattle.alone_runner.specs.declared.command.Grammar.TheVariants.{Text, Records, Assembler}

-- ---- inputs

same_content : (grammar : Grammar) (natives : List (List ℕ)) (input : List ℕ) (one other : Content)
    → Spells grammar natives input one → Spells grammar natives input other → one ≡ other
same_content Text natives input (variant.Trace a) (variant.Trace b) p q =
    ap (λ (t : Trace). variant.Trace t) ((text.every_text natives input).one_value a b p q)
same_content Text natives input (variant.Trace a) (variant.Image b) p q = absurd q
same_content Text natives input (variant.Image a) other p q = absurd p
same_content Records natives input (variant.Trace a) (variant.Trace b) p q =
    ap (λ (t : Trace). variant.Trace t) ((records.meaning natives input).one_value a b p q)
same_content Records natives input (variant.Trace a) (variant.Image b) p q = absurd q
same_content Records natives input (variant.Image a) other p q = absurd p
same_content Assembler natives input (variant.Image a) (variant.Image b) p q =
    ap (λ (i : Image). variant.Image i) ((asm.every_text input).one_image a b p q)
same_content Assembler natives input (variant.Image a) (variant.Trace b) p q = absurd q
same_content Assembler natives input (variant.Trace a) other p q = absurd p

never_both : (grammar : Grammar) (natives : List (List ℕ)) (input : List ℕ) (content : Content) (place : ℕ)
    (kind : BadKind) → Spells grammar natives input content → IsFirstFault grammar natives input place kind → ⊥
never_both Text natives input (variant.Trace a) place kind p q =
    (text.every_text natives input).not_both a place kind p q
never_both Text natives input (variant.Image a) place kind p q = absurd p
never_both Records natives input (variant.Trace a) place kind p q =
    (records.meaning natives input).not_both a place kind p q
never_both Records natives input (variant.Image a) place kind p q = absurd p
never_both Assembler natives input (variant.Image a) place kind p q =
    (asm.every_text input).not_both a q.0 p q.1
never_both Assembler natives input (variant.Trace a) place kind p q = absurd p

-- an input spells one trace or image, or it has a fault, and not both
pub one_meaning : (grammar : Grammar) (natives : List Native) (input : List ℕ) → HasOneMeaning (reading grammar natives) input
one_meaning grammar natives input = record {
  one_content = same_content grammar (uuids_of natives) input;
  not_both = never_both grammar (uuids_of natives) input;
}

-- ---- words

-- the words of a command are told apart by the first of them; a number is read back from its digits
abbrev first_word : List (List ℕ) → List ℕ
first_word words = get_or words 0 []

abbrev number_at : ℕ → List (List ℕ) → ℕ
number_at place words = digits_value 10 (get_or words place [])

abbrev subject_in : List ℕ → Subject
subject_in word = if is_uuid word then Group (uuid word) else Session (digits_value 10 word)

abbrev command_in : List (List ℕ) → Command
command_in words =
    if bytes_eq (first_word words) (codes "run") then Serve Text else
    if bytes_eq (first_word words) (codes "run-binary") then Serve Records else
    if bytes_eq (first_word words) (codes "asm") then Serve Assembler else
    if bytes_eq (first_word words) (codes "record") then Record else
    if bytes_eq (first_word words) (codes "audit") then Audit else
    if bytes_eq (first_word words) (codes "compare") then Compare (subject_in (get_or words 1 [])) else
    if bytes_eq (first_word words) (codes "notify") then Notify else
    if bytes_eq (first_word words) (codes "client") then Client else
    Work (number_at 1 words) (number_at 2 words)

read_back : (n : ℕ) → n < 2 ^ 64 → digits_value 10 (decimal n) ≡ n
read_back n below = (decimal_is_IsNumeral n below).1

subject_back : (subject : Subject) (word : List ℕ) → IsNumbered subject → Names subject word → subject_in word ≡ subject
subject_back (Session number) word small is =
    rw (no_uuid number word small is) (ap (λ (w : List ℕ). Session (digits_value 10 w)) is ∙ ap (λ (n : ℕ). Session n) (read_back number (omega (arith, small))))
subject_back (Group id) word numbered named = rw named.0 (ap (λ (u : List ℕ). Group u) (sym named.1))

command_back : (texts : List (List ℕ)) (command : Command) → Say texts command → command_in texts ≡ command
command_back texts (Serve Text) said = ap command_in said.words
command_back texts (Serve Records) said = ap command_in said.words
command_back texts (Serve Assembler) said = ap command_in said.words
command_back texts Record said = ap command_in said.words
command_back texts Audit said = ap command_in said.words
command_back texts (Compare subject) said =
    ap command_in said.words.2 ∙ ap (λ (s : Subject). Compare s) (subject_back subject said.words.0 said.within said.words.1)
command_back texts Notify said = ap command_in said.words
command_back texts Client said = ap command_in said.words
command_back texts (Work seed count) said =
    let few = said.within.1 in
    ap command_in said.words
    ∙ ap (λ (n : ℕ). Work n (digits_value 10 (decimal count))) (read_back seed said.within.0)
    ∙ ap (λ (n : ℕ). Work seed n) (read_back count (omega (arith, few)))

-- so words say one command
same_command : (texts : List (List ℕ)) (one other : Command) → Say texts one → Say texts other → one ≡ other
same_command texts one other p q =
    sym (command_back texts one p) ∙ command_back texts other q

-- words ask for one command
pub one_command : (words : List (String Global)) (one other : Command) → Asks words one → Asks words other → one ≡ other
one_command words one other p q = same_command (map string_bytes words) one other p q
