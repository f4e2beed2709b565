-- Registers and the fixed part of an entry are read as they were written.
use Rattle.std.proofs.Common.{◌≡◌, ℕ, ◌+◌, ◌^◌, ◌<◌, ◌≤◌, true, cond, eqb, leb, List, [], ◌∷◌, ◌++◌, length, get_or, map, refl, ap, ◌∙◌, arith}
use Rattle.std.specs.Prelude.{◌||◌, slice_index}
use Rattle.std.specs.List.{AllByRecursion, list_all}
use Rattle.std.proofs.lemmas.Bool.{and_from, le-leb}
use Rattle.byteorder.specs.Endian.{little_bytes, little_number}
use Rattle.byteorder.specs.Numbers.{little_number-reads_back}
use Rattle.trace_text.specs.declared.item.Reg.{Reg}
use Rattle.trace_text.specs.declared.item.Reg.TheVariants.{Num, Last}
use Rattle.trace_text.specs.Sound.{IsSoundReg}
use Rattle.trace_bin.specs.Record.{has_form, is_register, number, register, register_places}
use Rattle.trace_bin.specs.Rules.{registers_in, steps_in}
use Rattle.trace_bin.specs.Spelling.{call_bytes, form_of, number_of}

-- a list of eight, written out
pub eight_are : {X : Type 0} (xs : List X) (d : X) → length xs ≡ 8
    → xs ≡ get_or xs 0 d ∷ get_or xs 1 d ∷ get_or xs 2 d ∷ get_or xs 3 d ∷ get_or xs 4 d ∷ get_or xs 5 d ∷ get_or xs 6 d ∷ get_or xs 7 d ∷ []
eight_are [] d e = absurd (omega arith)
eight_are (r0 ∷ []) d e = absurd (omega arith)
eight_are (r0 ∷ r1 ∷ []) d e = absurd (omega arith)
eight_are (r0 ∷ r1 ∷ r2 ∷ []) d e = absurd (omega arith)
eight_are (r0 ∷ r1 ∷ r2 ∷ r3 ∷ []) d e = absurd (omega arith)
eight_are (r0 ∷ r1 ∷ r2 ∷ r3 ∷ r4 ∷ []) d e = absurd (omega arith)
eight_are (r0 ∷ r1 ∷ r2 ∷ r3 ∷ r4 ∷ r5 ∷ []) d e = absurd (omega arith)
eight_are (r0 ∷ r1 ∷ r2 ∷ r3 ∷ r4 ∷ r5 ∷ r6 ∷ []) d e = absurd (omega arith)
eight_are (r0 ∷ r1 ∷ r2 ∷ r3 ∷ r4 ∷ r5 ∷ r6 ∷ r7 ∷ []) d e = refl
eight_are (r0 ∷ r1 ∷ r2 ∷ r3 ∷ r4 ∷ r5 ∷ r6 ∷ r7 ∷ r8 ∷ rest) d e = absurd (omega arith)

-- a register of a body
record IsBack (body : List ℕ) (place : ℕ) (r : Reg) : Type 0 where
  form : has_form body place ≡ true
  fits : is_register body place ≡ true
  value : register body place ≡ r

number_fits : (r : Reg) → IsSoundReg r → number_of r < 2 ^ 32
number_fits (Num n) sound = sound
number_fits (Last i) sound = omega (arith, sound)

back : (body : List ℕ) (place : ℕ) (r : Reg) → IsSoundReg r → slice_index body place ≡ form_of r → number 4 (place + 1) body ≡ number_of r → IsBack body place r
unfolding has_form is_register register
back body place (Num n) sound form is = record {
  form = le-leb (slice_index body place) 1 (omega (arith, form));
  fits = ap (λ (f : ℕ). eqb f 0 || leb (number 4 (place + 1) body) 7) form;
  value = ap (λ (f : ℕ). cond (eqb f 0) (Num (number 4 (place + 1) body)) (Last (number 4 (place + 1) body))) form ∙ ap (λ (k : ℕ). Num k) is;
}
back body place (Last i) sound form is = record {
  form = le-leb (slice_index body place) 1 (omega (arith, form));
  fits = ap (λ (f : ℕ). eqb f 0 || leb (number 4 (place + 1) body) 7) form ∙ le-leb (number 4 (place + 1) body) 7 (omega (arith, is, sound));
  value = ap (λ (f : ℕ). cond (eqb f 0) (Num (number 4 (place + 1) body)) (Last (number 4 (place + 1) body))) form ∙ ap (λ (k : ℕ). Last k) is;
}

same_cons : {X : Type 0} (x y : X) (xs ys : List X) → x ≡ y → xs ≡ ys → x ∷ xs ≡ y ∷ ys
same_cons {X} x y xs ys e f = ap (λ (z : X). z ∷ xs) e ∙ ap (λ (zs : List X). y ∷ zs) f

-- the registers of a body are these, place by place
abbrev AreBack : List ℕ → List ℕ → List Reg → Type 0
AreBack body [] [] = Unit {0}
AreBack body [] (r ∷ regs) = ⊥
AreBack body (place ∷ places) [] = ⊥
AreBack body (place ∷ places) (r ∷ regs) = IsBack body place r × AreBack body places regs

forms_back : (body places : List ℕ) (regs : List Reg) → AreBack body places regs → list_all (has_form body) places ≡ true
forms_back body [] [] h = refl
forms_back body [] (r ∷ regs) h = absurd h
forms_back body (place ∷ places) [] h = absurd h
forms_back body (place ∷ places) (r ∷ regs) (b, more) = and_from _ _ b.form (forms_back body places regs more)

fits_back : (body places : List ℕ) (regs : List Reg) → AreBack body places regs → list_all (is_register body) places ≡ true
fits_back body [] [] h = refl
fits_back body [] (r ∷ regs) h = absurd h
fits_back body (place ∷ places) [] h = absurd h
fits_back body (place ∷ places) (r ∷ regs) (b, more) = and_from _ _ b.fits (fits_back body places regs more)

values_back : (body places : List ℕ) (regs : List Reg) → AreBack body places regs → map (register body) places ≡ regs
values_back body [] [] h = refl
values_back body [] (r ∷ regs) h = absurd h
values_back body (place ∷ places) [] h = absurd h
values_back body (place ∷ places) (r ∷ regs) (b, more) = same_cons _ _ _ _ b.value (values_back body places regs more)

-- what a body of an entry says
pub record IsEntry (body rest : List ℕ) (steps : ℕ) (regs : List Reg) : Type 0 where
  pub long : 45 ≤ length body
  pub steps_are : steps_in body ≡ steps
  pub forms : list_all (has_form body) register_places ≡ true
  pub fit : list_all (is_register body) register_places ≡ true
  pub regs_are : registers_in body ≡ regs

pub entry_body : (cpu steps : ℕ) (r0 r1 r2 r3 r4 r5 r6 r7 : Reg) (rest : List ℕ) → steps < 2 ^ 32 → AllByRecursion IsSoundReg (r0 ∷ r1 ∷ r2 ∷ r3 ∷ r4 ∷ r5 ∷ r6 ∷ r7 ∷ [])
    → IsEntry (call_bytes cpu steps (r0 ∷ r1 ∷ r2 ∷ r3 ∷ r4 ∷ r5 ∷ r6 ∷ r7 ∷ []) ++ rest) rest steps (r0 ∷ r1 ∷ r2 ∷ r3 ∷ r4 ∷ r5 ∷ r6 ∷ r7 ∷ [])
unfolding registers_in
entry_body cpu steps r0 r1 r2 r3 r4 r5 r6 r7 rest few (s0, (s1, (s2, (s3, (s4, (s5, (s6, (s7, _)))))))) =
    let regs : List Reg = r0 ∷ r1 ∷ r2 ∷ r3 ∷ r4 ∷ r5 ∷ r6 ∷ r7 ∷ [] in
    let body : List ℕ = call_bytes cpu steps regs ++ rest in
    let again : (r : Reg) → IsSoundReg r → little_number 4 (little_bytes 4 (number_of r)) ≡ number_of r = λ r s. little_number-reads_back 4 (number_of r) [] (number_fits r s) in
    let are : AreBack body register_places regs = (
      back body 5 r0 s0 refl (again r0 s0),
      (
        back body 10 r1 s1 refl (again r1 s1),
        (
          back body 15 r2 s2 refl (again r2 s2),
          (
            back body 20 r3 s3 refl (again r3 s3),
            (
              back body 25 r4 s4 refl (again r4 s4),
              (
                back body 30 r5 s5 refl (again r5 s5),
                (
                  back body 35 r6 s6 refl (again r6 s6),
                  (
                    back body 40 r7 s7 refl (again r7 s7),
                    tt,
                  ),
                ),
              ),
            ),
          ),
        ),
      ),
    ) in
    record {
      long = omega arith;
      steps_are = little_number-reads_back 4 steps [] few;
      forms = forms_back body register_places regs are;
      fit = fits_back body register_places regs are;
      regs_are = values_back body register_places regs are;
    }
