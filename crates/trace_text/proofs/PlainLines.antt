-- Lines `smc` and `write` read in one pass: their words, and what these write.
use Rattle.std.proofs.Common.{◌≡◌, ℕ, ◌+◌, ◌-◌, ◌*◌, ◌^◌, ◌<◌, ◌≤◌, Bool, true, false, not, ◌&&◌, eqb, ltb, leb, Bor, List, [], ◌∷◌, ◌++◌, length, map, get_or, take, drop, set, Option, Some, None, Result, Ok, Err, refl, sym, ap, ◌∙◌, arith}
use Rattle.std.specs.Prelude.{codes, is_some, IfSome}
use Rattle.std.specs.Char.{digit_value}
use Rattle.std.specs.List.{list_all}
use Rattle.std.specs.Result.{result_ok}
use Rattle.std.specs.Str.Parse.{AllDigits, digits_value}
use Rattle.std.proofs.Math.Path.{subst}
use Rattle.std.proofs.Math.Nat.{pow-le-pow_left, pow-le-pow_right, mul-le-mul_left}
use Rattle.std.proofs.lemmas.Bool.{and_from, and_parts, cond-false, cond_both, eq-eqb, eqb-true, false_from_ne_true, le-leb, leb-true, ltb-false, ltb-true, lt-ltb, ne_eqb, not_from_false, or_from, or_right}
use Rattle.std.proofs.lemmas.Int.Digits.{digits_value-lt}
use Rattle.std.proofs.lemmas.List.{append_assoc, drop_more, get_or_append_left, length-set, length-take, take-append-drop, take_all, take_more_set, take_rest}
use Rattle.std.proofs.lemmas.List.Elements.{All-cons, All-nil}
use Rattle.std.proofs.lemmas.List.Folds.{list_all-append}
use Rattle.std.proofs.lemmas.List.Sums.{list_all-from_AllPass}
use Rattle.std.proofs.lemmas.List.Splits.{slice_split_at, slice_split_none}
use Rattle.hex.specs.Hex.{decode_of, is_hex_digit}
use Rattle.hex.proofs.HexLemmas.{decode_of-ok}
use Rattle.text_lines.proofs.Options.{guard_some}
use Rattle.text_lines.specs.Lines.{IsCutAt, Lacks, is_skipped}
use Rattle.text_lines.specs.Words.{words_of}
use Rattle.trace_text.specs.declared.fault.BadKind.{BadKind}
use Rattle.trace_text.specs.declared.fault.BadKind.TheVariants as bad
use Rattle.trace_text.specs.declared.fault.LineFault.{LineFault}
use Rattle.trace_text.specs.declared.item.Item.{Item}
use Rattle.trace_text.specs.declared.item.Item.TheVariants as item
use Rattle.trace_text.specs.declared.item.Reg.{Reg}
use Rattle.trace_text.specs.declared.item.Reg.TheVariants.{Last, Num}
use Rattle.trace_text.specs.declared.statement.Statement.TheVariants as says
use Rattle.trace_text.specs.Forms.{bytes, decimal, hexadecimal, is_decimal, is_hex, is_hexadecimal, is_last, is_register, register}
use Rattle.trace_text.specs.Judging.{Judged}
use Rattle.trace_text.specs.Limits.{SceneState, first_broken, is_within, lies_in_ram}
use Rattle.trace_text.specs.Plain.{AreRegisters, BeginsWithDecimal, BeginsWithNumber, IsPlain, IsPlainWrite, SaysItem, Writes}
use Rattle.trace_text.specs.Reading.{are_digits, has_leading_zero, hexadecimal_at}
use Rattle.trace_text.specs.Rules.{counts, is_text_byte, kind_named, rules_at, said_in}
use Rattle.trace_text.proofs.Digits.{are_digits_from, digits_from_tests}
use Rattle.trace_text.proofs.SoundLaws.{one_kept}
use Rattle.trace_text.proofs.SoundWords.{ok_is, within}

-- ---- digits

-- a hexadecimal digit is a byte of a text, and no equals sign
record IsTextDigit (c : ℕ) : Type 0 where
  low : 48 ≤ c
  high : c ≤ 102
  other : c ≡ 61 → ⊥

text_digit : (c : ℕ) → digit_value c < 16 → IsTextDigit c
text_digit c =
    cond_both (ltb c 48) 36 _ (λ v. v < 16 → IsTextDigit c) (λ _ h. absurd (omega (arith, h)))
    (λ a. cond_both (ltb c 58) (c - 48) _ (λ v. v < 16 → IsTextDigit c) (λ b _. let low = ltb-false _ _ a in let high = ltb-true _ _ b in record { low = omega arith; high = omega arith; other = λ e. omega (arith, e) })
    (λ _. cond_both (ltb c 65) 36 _ (λ v. v < 16 → IsTextDigit c) (λ _ h. absurd (omega (arith, h)))
    (λ d. cond_both (ltb c 91) (c - 55) _ (λ v. v < 16 → IsTextDigit c) (λ b _. let low = ltb-false _ _ d in let high = ltb-true _ _ b in record { low = omega arith; high = omega arith; other = λ e. omega (arith, e) })
    (λ _. cond_both (ltb c 97) 36 _ (λ v. v < 16 → IsTextDigit c) (λ _ h. absurd (omega (arith, h)))
    (λ f. cond_both (ltb c 123) (c - 87) 36 (λ v. v < 16 → IsTextDigit c) (λ _ h. let low = ltb-false _ _ f in record { low = omega arith; high = omega (arith, h); other = λ e. omega (arith, e) })
    (λ _ h. absurd (omega (arith, h))))))))

digits_lack : (radix : ℕ) (word : List ℕ) → radix ≤ 16 → AllDigits radix word → Lacks 32 word
digits_lack radix [] small d = All-nil (λ b. eqb b 32 ≡ false)
digits_lack radix (c ∷ cs) small d =
    let digit = text_digit c (omega (arith, d.0)) in
    All-cons (λ b. eqb b 32 ≡ false) c cs (ne_eqb c 32 (λ e. omega (arith, e, digit.low))) (digits_lack radix cs small d.1)

digits_are_text : (radix : ℕ) (word : List ℕ) → radix ≤ 16 → AllDigits radix word → list_all is_text_byte word ≡ true
digits_are_text radix [] small d = refl
digits_are_text radix (c ∷ cs) small d =
    let digit = text_digit c (omega (arith, d.0)) in
    and_from (is_text_byte c) _ (and_from _ _ (le-leb 32 c (omega (arith, digit.low))) (le-leb c 126 (omega (arith, digit.high)))) (digits_are_text radix cs small d.1)

digits_from : (radix : ℕ) (word : List ℕ) → are_digits radix word ≡ true → (0 < length word) × AllDigits radix word
digits_from radix word e =
    let p = and_parts (ltb 0 (length word)) _ e in
    (ltb-true 0 (length word) p.0, digits_from_tests radix word p.1)

-- seven digits leave room for one more in 32 bits
pub room_for_one : (radix : ℕ) (word : List ℕ) (i number : ℕ) → radix ≤ 16 → i < 8 → AllDigits radix (take i word) → number ≡ digits_value radix (take i word) → number * radix ≤ (16 ^ 7 - 1) * 16
room_for_one radix word i number small lt d is =
    let below = digits_value-lt radix (take i word) d in
    let short : length (take i word) ≤ 7 = omega (arith, length-take i word) in
    let in_seven : number ≤ 16 ^ 7 - 1 = omega (arith, below, is, pow-le-pow_left small (length (take i word)), pow-le-pow_right {n = 16} (omega arith) short) in
    omega (arith, in_seven, mul-le-mul_left number small)

-- ---- words

-- the first word, which holds digits alone, is cut off
record IsCutOff (line word rest : List ℕ) : Type 0 where
  words : words_of line ≡ word ∷ words_of rest
  text : list_all is_text_byte line ≡ list_all is_text_byte rest
  filled : ltb 0 (length word) ≡ true

cut_off : (radix : ℕ) (line word rest : List ℕ) → radix ≤ 16 → IsCutAt 32 line word rest → are_digits radix word ≡ true → IsCutOff line word rest
cut_off radix line word rest small cut form =
    let d = digits_from radix word form in
    record {
      words = ap words_of cut.1 ∙ slice_split_at (λ b. eqb b 32) word 32 rest cut.0 refl;
      text =
          ap (list_all is_text_byte) cut.1
          ∙ list_all-append is_text_byte word (32 ∷ rest)
          ∙ ap (λ (b : Bool). b && list_all is_text_byte (32 ∷ rest)) (digits_are_text radix word small d.1);
      filled = lt-ltb 0 (length word) d.0;
    }

-- digits up to a space
pub number_cut : (radix : ℕ) (line : List ℕ) (count number : ℕ) → radix ≤ 16 → AllDigits radix (take count line) → number ≡ digits_value radix (take count line) → 0 < count → count ≤ 8 → count < length line → get_or line count 0 ≡ 32
    → BeginsWithNumber radix line number (take (length line - (count + 1)) (drop (count + 1) line))
number_cut radix line count number small d is some few lt here =
    let long : length (take count line) ≡ count = omega (arith, length-take count line) in
    let behind : drop count line ≡ 32 ∷ drop (count + 1) line = drop_more line count 0 lt ∙ ap (λ (b : ℕ). b ∷ drop (count + 1) line) here in
    let parts : line ≡ take count line ++ 32 ∷ drop (count + 1) line = sym (take-append-drop count line) ∙ ap (λ (bs : List ℕ). take count line ++ bs) behind in
    record {
      word = take count line;
      cut = (digits_lack radix (take count line) small d, rw take_rest parts);
      digits = are_digits_from radix (take count line) (omega (arith, long)) d;
      short = omega (arith, long);
      value = is;
    }

-- ---- decimal numbers

pub zero_alone : (line rest : List ℕ) → line ≡ 48 ∷ 32 ∷ rest → BeginsWithDecimal line 0 rest
unfolding is_decimal decimal
zero_alone line rest is = record { word = 48 ∷ []; cut = (All-cons (λ b. eqb b 32 ≡ false) 48 [] refl (All-nil (λ b. eqb b 32 ≡ false)), is); form = refl; value = refl }

decimal_first : (line : List ℕ) (number : ℕ) (rest : List ℕ) → (get_or line 0 0 ≡ 48 → ⊥) → BeginsWithNumber 10 line number rest → BeginsWithDecimal line number rest
unfolding is_decimal decimal
decimal_first line number rest no_zero b =
    let d = digits_from 10 b.word b.digits in
    let first : get_or line 0 0 ≡ get_or b.word 0 0 = ap (λ (bs : List ℕ). get_or bs 0 0) b.cut.1 ∙ get_or_append_left b.word (32 ∷ rest) 0 0 d.0 in
    let lead : has_leading_zero b.word ≡ false =
    false_from_ne_true _ (λ e. no_zero (first ∙ eqb-true _ _ (and_parts (eqb (get_or b.word 0 0) 48) (ltb 1 (length b.word)) e).0))
    in
    record {
      word = b.word;
      cut = b.cut;
      form = and_from _ _ b.digits (not_from_false _ lead);
      value = b.value;
    }

pub decimal_front : (line : List ℕ) (result : Option (ℕ × Bor (List ℕ))) → (get_or line 0 0 ≡ 48 → ⊥) → IfSome result (λ x. BeginsWithNumber 10 line x.0 x.1.now) → IfSome result (λ x. BeginsWithDecimal line x.0 x.1.now)
decimal_front line None no_zero b = tt
decimal_front line (Some x) no_zero b = decimal_first line x.0 x.1.now no_zero b

decimal_digits : (word : List ℕ) → is_decimal word ≡ true → are_digits 10 word ≡ true
unfolding is_decimal
decimal_digits word e = (and_parts (are_digits 10 word) (not (has_leading_zero word)) e).0

-- ---- registers

no_last : (word : List ℕ) → AllDigits 16 word → is_last word ≡ false
unfolding is_last
no_last [] d = refl
no_last (c ∷ cs) d =
    let digit = text_digit c d.0 in
    let second = get_or (c ∷ cs) 1 0 in
    false_from_ne_true _
    (λ e. let p = and_parts ((eqb (length (c ∷ cs)) 2 && eqb c 61) && leb 48 second) (leb second 55) e in
    let q = and_parts (eqb (length (c ∷ cs)) 2 && eqb c 61) (leb 48 second) p.0 in
    let r = and_parts (eqb (length (c ∷ cs)) 2) (eqb c 61) q.0 in
    digit.other (eqb-true c 61 r.1))

-- a word of up to eight hexadecimal digits is a register
number_register : (word : List ℕ) (number : ℕ) → are_digits 16 word ≡ true → length word ≤ 8 → number ≡ digits_value 16 word → (is_register word ≡ true) × (register word ≡ Num number)
unfolding is_register register is_hexadecimal hexadecimal
number_register word number form short is =
    let d = digits_from 16 word form in
    let number_alone = no_last word d.1 in
    (or_right (is_last word) _ (and_from _ _ form (le-leb _ _ short)), cond-false (is_last word) (Last (get_or word 1 0 - 48)) (Num (digits_value 16 word)) number_alone ∙ ap (λ (n : ℕ). Num n) (sym is))

all_behind : {X : Type 0} (p : X → Bool) (x : X) (xs whole : List X) → whole ≡ x ∷ xs → p x ≡ true → list_all p whole ≡ list_all p xs
all_behind p x xs whole is passes = ap (list_all p) is ∙ ap (λ (b : Bool). b && list_all p xs) passes

-- so many registers of a line were read, and these bytes stand behind them
pub record HasRead (line : List ℕ) (place : ℕ) (regs : List Reg) (rest : List ℕ) : Type 0 where
  pub whole : length regs ≡ 8
  pub left : place + length (words_of rest) ≡ length (words_of line)
  pub text : list_all is_text_byte rest ≡ list_all is_text_byte line
  pub filled : list_all (λ w. ltb 0 (length w)) (words_of rest) ≡ list_all (λ w. ltb 0 (length w)) (words_of line)
  pub form : list_all is_register (words_of rest) ≡ list_all is_register (words_of line)
  pub read : take place regs ++ map register (words_of rest) ≡ map register (words_of line)

pub has_read_more : (line : List ℕ) (place : ℕ) (regs : List Reg) (rest : List ℕ) (number : ℕ) (behind : List ℕ) → place < 7 → HasRead line place regs rest → BeginsWithNumber 16 rest number behind
    → HasRead line (place + 1) (set regs place (Num number)) behind
has_read_more line place regs rest number behind lt h b =
    let first = cut_off 16 rest b.word behind (omega arith) b.cut b.digits in
    let is = number_register b.word number b.digits b.short b.value in
    let room : place < length regs = omega (arith, h.whole) in
    let one_fewer : map register (words_of rest) ≡ Num number ∷ map register (words_of behind) = ap (map register) first.words ∙ ap (λ (r : Reg). r ∷ map register (words_of behind)) is.1 in
    record {
      whole = length-set regs place (Num number) ∙ h.whole;
      left = omega (arith, h.left, ap length first.words);
      text = sym first.text ∙ h.text;
      filled = sym (all_behind (λ w. ltb 0 (length w)) b.word (words_of behind) (words_of rest) first.words first.filled) ∙ h.filled;
      form = sym (all_behind is_register b.word (words_of behind) (words_of rest) first.words is.0) ∙ h.form;
      read =
          ap (λ (rs : List Reg). rs ++ map register (words_of behind)) (take_more_set regs place (Num number) room)
          ∙ append_assoc (take place regs) (Num number ∷ []) (map register (words_of behind))
          ∙ ap (λ (rs : List Reg). take place regs ++ rs) (sym one_fewer)
          ∙ h.read;
    }

pub has_read_all : (line : List ℕ) (place : ℕ) (regs : List Reg) (rest : List ℕ) (number : ℕ) → place ≡ 7 → HasRead line place regs rest → Some number ≡ hexadecimal_at 8 rest → AreRegisters line (set regs 7 (Num number))
unfolding hexadecimal_at
has_read_all line place regs rest number is h e =
    let g = guard_some (are_digits 16 rest && leb (length rest) 8) (digits_value 16 rest) number (sym e) in
    let p = and_parts (are_digits 16 rest) (leb (length rest) 8) g.0 in
    let d = digits_from 16 rest p.0 in
    let last : words_of rest ≡ rest ∷ [] = slice_split_none (λ b. eqb b 32) rest (digits_lack 16 rest (omega arith) d.1) in
    let reg = number_register rest number p.0 (leb-true _ _ p.1) (sym g.1) in
    let room : 7 < length regs = omega (arith, h.whole) in
    let front : take 8 (set regs 7 (Num number)) ≡ take 7 regs ++ Num number ∷ [] = take_more_set regs 7 (Num number) room in
    let all : take 8 (set regs 7 (Num number)) ≡ set regs 7 (Num number) = take_all 8 (set regs 7 (Num number)) (omega (arith, length-set regs 7 (Num number), h.whole)) in
    let read : take 7 regs ++ map register (words_of rest) ≡ map register (words_of line) = rw is at h.read in
    let one : map register (words_of rest) ≡ Num number ∷ [] = ap (map register) last ∙ ap (λ (r : Reg). r ∷ []) reg.1 in
    record {
      text = sym h.text ∙ digits_are_text 16 rest (omega arith) d.1;
      count = omega (arith, is, h.left, ap length last);
      filled = sym h.filled ∙ all_behind (λ w. ltb 0 (length w)) rest [] (words_of rest) last (lt-ltb 0 (length rest) d.0);
      form = sym h.form ∙ all_behind is_register rest [] (words_of rest) last reg.0;
      value = sym all ∙ front ∙ ap (λ (rs : List Reg). take 7 regs ++ rs) (sym one) ∙ read;
    }

-- ---- whole lines

plain_line_front : (rest behind_cpu regs_text : List ℕ) (cpu steps : ℕ) (regs : List Reg) → BeginsWithDecimal rest cpu behind_cpu → BeginsWithDecimal behind_cpu steps regs_text → AreRegisters regs_text regs
    → IsPlain (115 ∷ 109 ∷ 99 ∷ 32 ∷ rest) cpu steps regs
unfolding counts is_skipped
plain_line_front rest behind_cpu regs_text cpu steps regs c s r =
    let cut_cpu = cut_off 10 rest c.word behind_cpu (omega arith) c.cut (decimal_digits c.word c.form) in
    let cut_steps = cut_off 10 behind_cpu s.word regs_text (omega arith) s.cut (decimal_digits s.word s.form) in
    let line : List ℕ = 115 ∷ 109 ∷ 99 ∷ 32 ∷ rest in
    let words : words_of line ≡ codes "smc" ∷ c.word ∷ s.word ∷ words_of regs_text =
    ap (λ (ws : List (List ℕ)). codes "smc" ∷ ws) (cut_cpu.words ∙ ap (λ (ws : List (List ℕ)). c.word ∷ ws) cut_steps.words)
    in
    let filled : list_all (λ w. ltb 0 (length w)) (words_of line) ≡ true =
    ap (list_all (λ w. ltb 0 (length w))) words
    ∙ and_from (ltb 0 (length c.word)) _ cut_cpu.filled (and_from (ltb 0 (length s.word)) _ cut_steps.filled r.filled)
    in
    record {
      cpu_word = c.word;
      steps_word = s.word;
      reg_words = words_of regs_text;
      words = words;
      text = cut_cpu.text ∙ cut_steps.text ∙ r.text;
      told = or_from (eqb (length line) 0) _ (ne_eqb _ _ (λ e. omega (arith, e))) refl;
      counted = and_from _ _ (eq-eqb _ _ (omega (arith, ap length words, r.count))) filled;
      cpu_form = c.form;
      cpu_is = c.value;
      steps_form = s.form;
      steps_is = s.value;
      regs_form = r.form;
      regs_are = r.value;
    }

pub plain_line : (line rest behind_cpu regs_text : List ℕ) (cpu steps : ℕ) (regs : List Reg) → line ≡ codes "smc " ++ rest → BeginsWithDecimal rest cpu behind_cpu → BeginsWithDecimal behind_cpu steps regs_text → AreRegisters regs_text regs
    → IsPlain line cpu steps regs
plain_line line rest behind_cpu regs_text cpu steps regs is c s r =
    subst (λ (l : List ℕ). IsPlain l cpu steps regs) (sym is) (plain_line_front rest behind_cpu regs_text cpu steps regs c s r)

-- such a line keeps its rules in a scene where its processor is there and outside, and says its item
plain_kept : (scene : SceneState) (natives : List (List ℕ)) (is_open : Bool) (line : List ℕ) (cpu steps : ℕ) (regs : List Reg) → IsPlain line cpu steps regs → scene.is_booted ≡ true → is_within 1 1000000 steps ≡ true → ltb cpu scene.cpus ≡ true
    → get_or scene.inside cpu false ≡ false → first_broken (rules_at natives (record scene { is_open = is_open }) true line) ≡ None
unfolding kind_named
plain_kept scene natives is_open line cpu steps regs p booted granted there outside =
    let counted : counts 10 (codes "smc" ∷ p.cpu_word ∷ p.steps_word ∷ p.reg_words) ≡ true = rw p.words at p.counted in
    let granted_by : is_within 1 1000000 (decimal p.steps_word) ≡ true = rw p.steps_is at granted in
    let there_by : ltb (decimal p.cpu_word) scene.cpus ≡ true = rw p.cpu_is at there in
    let outside_by : get_or scene.inside (decimal p.cpu_word) false ≡ false = rw p.cpu_is at outside in
    rw (p.text, p.told, p.words, counted, booted, p.cpu_form, p.steps_form, p.regs_form, granted_by, there_by, outside_by) refl

plain_said : (line : List ℕ) (cpu steps : ℕ) (regs : List Reg) → IsPlain line cpu steps regs → said_in line ≡ says.Item (item.Smc cpu steps regs)
unfolding said_in kind_named
plain_said line cpu steps regs p = rw (p.told, p.words, p.cpu_is, p.steps_is, p.regs_are) refl

pub plain_says : (scene : SceneState) (line : List ℕ) (cpus cpu steps : ℕ) (regs : List Reg) → scene.is_booted ≡ true → cpus ≡ scene.cpus → IsPlain line cpu steps regs → ltb cpu cpus ≡ true → is_within 1 1000000 steps ≡ true
    → false ≡ get_or scene.inside cpu false → SaysItem scene line (item.Smc cpu steps regs)
plain_says scene line cpus cpu steps regs booted count p there granted outside = record {
  kept = λ natives is_open. plain_kept scene natives is_open line cpu steps regs p booted granted (rw count at there) (sym outside);
  said = plain_said line cpu steps regs p;
}

-- ---- writes

pub judged_ok : {X Y : Type 0} (view : X → Y) (result : Result X LineFault) (rules : List (BadKind × Bool)) (value : Y) (read : X) → Some read ≡ result_ok result → Judged view result rules value → (first_broken rules ≡ None) × (view read ≡ value)
judged_ok view (Ok x) rules value read is judged = let same : read ≡ x = cc in (judged.0, ap view same ∙ judged.1)
judged_ok view (Err fault) rules value read is judged = absurd cc

hex_digit : (c : ℕ) → is_hex_digit c ≡ true → IsTextDigit c
hex_digit c =
    let Told : Option ℕ → Type 0 = λ v. is_some v ≡ true → IsTextDigit c in
    cond_both (leb 65 c && leb c 70) (Some (c - 55)) _ Told
    (λ a _. let p = within 65 70 c a in record { low = omega (arith, p.0); high = omega (arith, p.1); other = λ e. omega (arith, e, p.0) })
    (λ _. cond_both (leb 97 c && leb c 102) (Some (c - 87)) _ Told
    (λ a _. let p = within 97 102 c a in record { low = omega (arith, p.0); high = p.1; other = λ e. omega (arith, e, p.0) })
    (λ _. cond_both (leb 48 c && leb c 57) (Some (c - 48)) None Told
    (λ a _. let p = within 48 57 c a in record { low = p.0; high = omega (arith, p.1); other = λ e. omega (arith, e, p.1) })
    (λ _ h. absurd cc)))

hex_digits_lack : (word : List ℕ) → list_all is_hex_digit word ≡ true → Lacks 32 word
hex_digits_lack [] all = All-nil (λ b. eqb b 32 ≡ false)
hex_digits_lack (c ∷ cs) all =
    let p = and_parts (is_hex_digit c) (list_all is_hex_digit cs) all in
    let digit = hex_digit c p.0 in
    All-cons (λ b. eqb b 32 ≡ false) c cs (ne_eqb c 32 (λ e. omega (arith, e, digit.low))) (hex_digits_lack cs p.1)

hex_digits_are_text : (word : List ℕ) → list_all is_hex_digit word ≡ true → list_all is_text_byte word ≡ true
hex_digits_are_text [] all = refl
hex_digits_are_text (c ∷ cs) all =
    let p = and_parts (is_hex_digit c) (list_all is_hex_digit cs) all in
    let digit = hex_digit c p.0 in
    and_from (is_text_byte c) _ (and_from _ _ (le-leb 32 c (omega (arith, digit.low))) (le-leb c 126 (omega (arith, digit.high)))) (hex_digits_are_text cs p.1)

hex_digits : (word : List ℕ) → is_hex word ≡ true → list_all is_hex_digit word ≡ true
unfolding is_hex
hex_digits word form = list_all-from_AllPass is_hex_digit word (decode_of-ok word _ (ok_is (decode_of word) form)).1

-- a word of up to eight hexadecimal digits is an address
short_address : (word : List ℕ) (number : ℕ) → are_digits 16 word ≡ true → length word ≤ 8 → number ≡ digits_value 16 word → (is_hexadecimal 16 word ≡ true) × (number ≡ hexadecimal word)
unfolding is_hexadecimal hexadecimal
short_address word number form short is =
    (and_from (are_digits 16 word) (leb (length word) 16) form (le-leb (length word) 16 (omega arith)), is)

write_line_front : (rest behind_cpu hex : List ℕ) (cpu addr : ℕ) (written : List ℕ) → BeginsWithDecimal rest cpu behind_cpu → BeginsWithNumber 16 behind_cpu addr hex → 0 < length hex → is_hex hex ≡ true → written ≡ bytes hex
    → IsPlainWrite (codes "write " ++ rest) cpu addr written
unfolding counts is_skipped
write_line_front rest behind_cpu hex cpu addr written c a some hex_form written_is =
    let cut_cpu = cut_off 10 rest c.word behind_cpu (omega arith) c.cut (decimal_digits c.word c.form) in
    let cut_addr = cut_off 16 behind_cpu a.word hex (omega arith) a.cut a.digits in
    let address = short_address a.word addr a.digits a.short a.value in
    let digits = hex_digits hex hex_form in
    let last : words_of hex ≡ hex ∷ [] = slice_split_none (λ b. eqb b 32) hex (hex_digits_lack hex digits) in
    let line : List ℕ = codes "write " ++ rest in
    let words : words_of line ≡ codes "write" ∷ c.word ∷ a.word ∷ hex ∷ [] =
    ap (λ (ws : List (List ℕ)). codes "write" ∷ ws) (cut_cpu.words ∙ ap (λ (ws : List (List ℕ)). c.word ∷ ws) (cut_addr.words ∙ ap (λ (ws : List (List ℕ)). a.word ∷ ws) last))
    in
    let filled : list_all (λ w. ltb 0 (length w)) (words_of line) ≡ true =
    ap (list_all (λ w. ltb 0 (length w))) words
    ∙ and_from (ltb 0 (length c.word)) _ cut_cpu.filled (and_from (ltb 0 (length a.word)) _ cut_addr.filled (and_from (ltb 0 (length hex)) true (lt-ltb 0 (length hex) some) refl))
    in
    record {
      cpu_word = c.word;
      addr_word = a.word;
      hex_word = hex;
      words = words;
      text = cut_cpu.text ∙ cut_addr.text ∙ hex_digits_are_text hex digits;
      told = or_from (eqb (length line) 0) _ (ne_eqb _ _ (λ e. omega (arith, e))) refl;
      counted = and_from _ _ (eq-eqb _ _ (omega (arith, ap length words))) filled;
      cpu_form = c.form;
      cpu_is = c.value;
      addr_form = address.0;
      addr_is = address.1;
      hex_form = hex_form;
      written_is = written_is;
    }

pub write_line : (line rest behind_cpu hex : List ℕ) (cpu addr : ℕ) (written : List ℕ) → line ≡ codes "write " ++ rest → BeginsWithDecimal rest cpu behind_cpu → BeginsWithNumber 16 behind_cpu addr hex
    → 0 < length hex → (first_broken ((bad.Hex, is_hex hex) ∷ []) ≡ None) × (written ≡ bytes hex) → IsPlainWrite line cpu addr written
write_line line rest behind_cpu hex cpu addr written is c a some decoded =
    subst (λ (l : List ℕ). IsPlainWrite l cpu addr written) (sym is) (write_line_front rest behind_cpu hex cpu addr written c a some (one_kept bad.Hex (is_hex hex) None decoded.0).0 decoded.1)

write_kept : (scene : SceneState) (natives : List (List ℕ)) (is_open : Bool) (line : List ℕ) (cpu addr : ℕ) (written : List ℕ) → IsPlainWrite line cpu addr written → scene.is_booted ≡ true → ltb cpu scene.cpus ≡ true → lies_in_ram addr (length written) ≡ true
    → first_broken (rules_at natives (record scene { is_open = is_open }) true line) ≡ None
unfolding kind_named
write_kept scene natives is_open line cpu addr written p booted there ram =
    let counted : counts 3 (codes "write" ∷ p.cpu_word ∷ p.addr_word ∷ p.hex_word ∷ []) ≡ true = rw p.words at p.counted in
    let there_by : ltb (decimal p.cpu_word) scene.cpus ≡ true = rw p.cpu_is at there in
    let ram_by : lies_in_ram (hexadecimal p.addr_word) (length (bytes p.hex_word)) ≡ true = rw (p.addr_is, p.written_is) at ram in
    rw (p.text, p.told, p.words, counted, booted, p.cpu_form, p.addr_form, p.hex_form, ram_by, there_by) refl

write_said : (line : List ℕ) (cpu addr : ℕ) (written : List ℕ) → IsPlainWrite line cpu addr written → said_in line ≡ says.Item (item.Write cpu addr written)
unfolding said_in kind_named
write_said line cpu addr written p = rw (p.told, p.words, p.cpu_is, p.addr_is, p.written_is) refl

writes_says : (scene : SceneState) (line : List ℕ) (cpus : ℕ) (i : Item) → scene.is_booted ≡ true → cpus ≡ scene.cpus → Writes cpus line i → SaysItem scene line i
writes_says scene line cpus (item.Write cpu addr written) booted count (p, there, ram) = record {
  kept = λ natives is_open. write_kept scene natives is_open line cpu addr written p booted (rw count at there) ram;
  said = write_said line cpu addr written p;
}
writes_says scene line cpus (item.Smc cpu steps regs) booted count w = absurd w
writes_says scene line cpus (item.Enter cpu steps regs) booted count w = absurd w
writes_says scene line cpus (item.Leave cpu) booted count w = absurd w
writes_says scene line cpus (item.Show cpu addr len) booted count w = absurd w

pub write_says : (scene : SceneState) (line : List ℕ) (cpus : ℕ) (result : Option Item) → scene.is_booted ≡ true → cpus ≡ scene.cpus → IfSome result (Writes cpus line) → IfSome result (SaysItem scene line)
write_says scene line cpus None booted count w = tt
write_says scene line cpus (Some i) booted count w = writes_says scene line cpus i booted count w
