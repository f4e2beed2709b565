-- Numbers among words, and which command words ask for.
use Rattle.std.proofs.Common.{◌≡◌, ℕ, ◌^◌, ◌<◌, ◌≤◌, ◌==◌, false, List, [], ◌∷◌, length, refl, sym, ap, ◌∙◌, arith}
use Rattle.std.specs.Fmt.{decimal}
use Rattle.std.specs.Str.{bytes_eq}
use Rattle.std.proofs.lemmas.Bool.Decides.{nat_tests}
use Rattle.std.proofs.lemmas.Fmt.{decimal_injective, length-decimal-le}
use Rattle.std.proofs.lemmas.Slice.Eq.{bytes_eq-Decides}
use Rattle.compare_model.specs.declared.subject.Subject.{Subject}
use Rattle.compare_model.specs.declared.subject.Subject.TheVariants.{Session, Group}
use Rattle.trace_text.specs.Forms.{is_uuid}
use Rattle.alone_runner.specs.Words.{IsNumbered, Names, SayNothing}
use Rattle.alone_runner.specs.declared.command.Command.TheVariants.{Serve, Record, Audit, Compare, Notify, Client, Work}

-- texts that differ are not one number's
pub other_text : (text word : List ℕ) (one other : ℕ) → bytes_eq text word ≡ false → text ≡ decimal one → one ≡ other
    → word ≡ decimal other → ⊥
other_text text word one other differs is same said =
    let both : text ≡ word = is ∙ ap decimal same ∙ sym said in
    let equal = (bytes_eq-Decides text word).1 both in
    absurd cc

-- more calls than there may be
pub too_many : (word seed count : List ℕ) (number : ℕ) → number < 2 ^ 64 → 2 ^ 16 < number → count ≡ decimal number
    → SayNothing (word ∷ seed ∷ count ∷ [])
too_many word seed count number below many is (Serve grammar) say = let e = say.words in absurd cc
too_many word seed count number below many is Record say = let e = say.words in absurd cc
too_many word seed count number below many is Audit say = let e = say.words in absurd cc
too_many word seed count number below many is (Compare subject) say = let e = say.words.2 in absurd cc
too_many word seed count number below many is Notify say = let e = say.words in absurd cc
too_many word seed count number below many is Client say = let e = say.words in absurd cc
too_many word seed count number below many is (Work s n) say =
    let e = say.words in
    let said : count ≡ decimal n = cc in
    let few = say.within.1 in
    let same = decimal_injective number n below (omega (arith, few)) (sym is ∙ said) in
    absurd (omega (arith, same, few, many))

-- a number of no session, where no UUID is named
pub too_large : (word : List ℕ) (number : ℕ) → is_uuid word ≡ false → number < 2 ^ 64 → 2 ^ 32 ≤ number → word ≡ decimal number
    → (subject : Subject) → IsNumbered subject → Names subject word → ⊥
too_large word number none below large is (Session n) small named =
    let same = decimal_injective number n below (omega (arith, small)) (sym is ∙ named) in
    omega (arith, same, small, large)
too_large word number none below large is (Group id) numbered named = let yes = named.0 in absurd cc

-- digits alone are no UUID
pub no_uuid : (number : ℕ) (word : List ℕ) → number < 2 ^ 32 → word ≡ decimal number → is_uuid word ≡ false
unfolding is_uuid
no_uuid number word small is =
    let short : length (decimal number) ≤ 10 = length-decimal-le 10 number (omega arith) (omega (arith, small)) (omega (arith, small)) in
    let differs : (length word == 36) ≡ false = grind (arith, nat_tests, ap length is, short) in
    rw differs refl
