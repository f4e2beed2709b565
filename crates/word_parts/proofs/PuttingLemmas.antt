-- How the lines of a text join as they are written.
use Rattle.std.proofs.Common.{◌≡◌, ℕ, List, [], ◌++◌, take, drop, Option, refl, sym, ap, subst, ◌∙◌, append_assoc}
use Rattle.std.proofs.lemmas.List.{take-append-drop}
use Rattle.ports.specs.Port.{Appends}
use Rattle.ports.specs.declared.sink.Put.{Put}
use Rattle.ports.specs.declared.sink.Put.TheVariants.{Done, Failed, Memory}
use Rattle.word_parts.specs.Gathering.{PutsBut}
use Rattle.word_parts.specs.Output.{AppendsPart, Puts}
use Rattle.ports.specs.PortLaws.{Appends-nil, Appends-trans}

-- nothing is a part of any text
pub AppendsPart-nothing : (a : Option (List ℕ)) (text : List ℕ) → AppendsPart a a text
AppendsPart-nothing a text = record { part = []; rest = text; cut = refl; put = Appends-nil a }

-- the front of the bytes is a part of them
pub AppendsPart-take : (a b : Option (List ℕ)) (text : List ℕ) (n : ℕ) → Appends a b (take n text) → AppendsPart a b text
AppendsPart-take a b text n put = record { part = take n text; rest = drop n text; cut = sym (take-append-drop n text); put = put }

-- a part of what is left, behind what was put whole, is a part of all
pub AppendsPart-then : (a b c : Option (List ℕ)) (text line rest whole : List ℕ) → Appends a b text → text ++ (line ++ rest) ≡ whole → AppendsPart b c line → AppendsPart a c whole
AppendsPart-then a b c text line rest whole put all p =
    record {
      part = text ++ p.part;
      rest = p.rest ++ rest;
      cut = sym all ∙ ap (λ (l : List ℕ). text ++ (l ++ rest)) p.cut ∙ ap (λ (l : List ℕ). text ++ l) (append_assoc p.part p.rest rest) ∙ sym (append_assoc text p.part (p.rest ++ rest));
      put = Appends-trans a b c text p.part put p.put;
    }

-- what the sink says of one call, in one word
pub Puts-of : (text : List ℕ) (r : Put) (a b : Option (List ℕ)) → (r ≡ Done → Appends a b text) → (r ≡ Failed → (n : ℕ) × Appends a b (take n text)) → (r ≡ Memory → b ≡ a) → Puts text r a b
Puts-of text Done a b done failed memory = done refl
Puts-of text Failed a b done failed memory = let p = failed refl in AppendsPart-take a b text p.0 p.1
Puts-of text Memory a b done failed memory = subst (λ (x : Option (List ℕ)). AppendsPart a x text) (sym (memory refl)) (AppendsPart-nothing a text)

-- ---- gathered lines

-- none was
pub put-none : (lines : List ℕ) (a : Option (List ℕ)) → PutsBut lines a a lines
put-none lines a = record { part = []; cut = refl; put = Appends-nil a }
