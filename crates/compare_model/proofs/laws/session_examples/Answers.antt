use Rattle.std.proofs.Common.{◌≡◌, ℕ, List, ap, length, replicate, [], ◌∷◌, ◌++◌, lit<, lit≤, Option, Some, None, refl, rules, false, true, inl, inr}
use Rattle.std.specs.Prelude.{AllPairs}
use Rattle.base.specs.Zeros.{zeros}
use Rattle.kernel_model.specs.Application.{Application, BuiltIn, Booted, IsBooted, OfImage, booted}
use Rattle.kernel_model.specs.Worked.{add, adds, app_with, boot_with, head, mark, names, open_argument, param}
use Rattle.ns_ram.specs.Examples.{read_of}
use Rattle.ta_params.specs.declared.copied_params.GpParam.{GpParam}
use Rattle.ta_params.specs.declared.copied_params.GpParam.TheVariants.{Value}
use Rattle.kernel_state.specs.Reads.{Agree}
use Rattle.own_model.specs.declared.own_event.OwnEvent.{OwnEvent}
use Rattle.own_model.specs.declared.own_event.OwnEvent.TheVariants.{Invoke, Out}
use Rattle.own_model.specs.declared.own_event.OwnInput.TheVariants.{Copied}
use Rattle.own_model.specs.Examples.{numbers}
use Rattle.ta_isa.specs.InstructionTable.{is_instruction}
use Rattle.ta_isa.specs.Spelling.{are_allowed}
use Rattle.compare_model.specs.SessionExamples.{done, invoked, keyed, opened, step_by_step}
use Rattle.audit_model.specs.VerdictExamples.{answered, asks}
use Rattle.audit_model.specs.Verdicts.{CanBegin}
use Rattle.audit_model.proofs.Prefixes.{prefixes_can_be}
use Rattle.audit_model.proofs.Disjoint.{none_agrees, two_agree}
use Rattle.compare_model.proofs.laws.session_examples.Goals as goal

abbrev adder : Booted
adder = booted (boot_with 1 1 1 (app_with add ∷ [])) []

abbrev marker : Booted
marker = booted (boot_with 1 1 1 (app_with mark ∷ [])) []

adder_boots : IsBooted adder
unfolding is_instruction are_allowed
adder_boots = record { boot = boot_with 1 1 1 (app_with add ∷ []); natives = []; is_boot = search rules; are_natives = search rules; same = refl }

abbrev keyed_adder : Booted
keyed_adder = booted keyed.boot []

keyed_boots : IsBooted keyed_adder
unfolding is_instruction are_allowed
keyed_boots = record { boot = keyed.boot; natives = []; is_boot = search rules; are_natives = search rules; same = refl }

marker_boots : IsBooted marker
unfolding is_instruction are_allowed
marker_boots = record { boot = boot_with 1 1 1 (app_with mark ∷ []); natives = []; is_boot = search rules; are_natives = search rules; same = refl }

-- ---- each journal can be

open_agrees : AllPairs Agree open_argument
open_agrees = two_agree (read_of 0x40000000 (head 0 0 0 2)) (read_of 0x40000020 names) (lit≤ tt)

adds_agrees : (number : ℕ) → AllPairs Agree (adds number 7)
adds_agrees number = two_agree (read_of 0x40000000 (head 1 0 1 1)) (read_of 0x40000020 (param 3 number 7 0)) (lit≤ tt)

asked_can : CanBegin adder (asks ∷ [])
asked_can = record { more = []; faultless = record { legal = record { boots = adder_boots; follows = refl }; steady = (none_agrees, tt) } }

answered_can : CanBegin adder (asks ∷ answered 0xa5d5c51b ∷ [])
answered_can = record { more = []; faultless = record { legal = record { boots = adder_boots; follows = refl }; steady = (none_agrees, (tt, tt)) } }

opened_can : CanBegin adder opened
unfolding zeros
opened_can = record { more = []; faultless = record { legal = record { boots = adder_boots; follows = refl }; steady = (open_agrees, (tt, tt)) } }

marked_can : CanBegin marker opened
unfolding zeros
marked_can = record { more = []; faultless = record { legal = record { boots = marker_boots; follows = refl }; steady = (open_agrees, (tt, tt)) } }

keyed_can : CanBegin keyed_adder opened
unfolding zeros
keyed_can = record { more = []; faultless = record { legal = record { boots = keyed_boots; follows = refl }; steady = (open_agrees, (tt, tt)) } }

invoked_can : CanBegin adder (opened ++ invoked 5)
unfolding zeros
invoked_can = record { more = []; faultless = record { legal = record { boots = adder_boots; follows = refl }; steady = (open_agrees, (tt, (adds_agrees 5, tt))) } }

done_can : CanBegin adder (opened ++ invoked 5 ++ done)
unfolding zeros
done_can = record { more = []; faultless = record { legal = record { boots = adder_boots; follows = refl }; steady = (open_agrees, (tt, (adds_agrees 5, (tt, tt)))) } }

another_can : CanBegin adder (opened ++ invoked 6 ++ done)
unfolding zeros
another_can = record { more = []; faultless = record { legal = record { boots = adder_boots; follows = refl }; steady = (open_agrees, (tt, (adds_agrees 6, (tt, tt)))) } }

stepped_can : CanBegin adder (opened ++ step_by_step)
unfolding zeros
stepped_can = record {
  more = [];
  faultless = record {
    legal = record { boots = adder_boots; follows = refl };
    steady = (open_agrees, (tt, (adds_agrees 5, (tt, (none_agrees, (tt, (none_agrees, (tt, (none_agrees, (tt, (none_agrees, (tt, (none_agrees, (tt, tt))))))))))))));
  };
}

-- ---- what differs

no_such : false ≡ true → ⊥
no_such e = cc

five_or_six : ◌≡◌ {A = ℕ} 5 6 → ⊥
five_or_six e = cc

value_in : GpParam → ℕ
value_in (Value way a b) = a
value_in _ = 0

-- the first number that an invoke brings
first_number : Option OwnEvent → ℕ
first_number (Some (Invoke func (Copied params) area)) = value_in params.p0
first_number _ = 0

not_six : Some (Invoke 0 (Copied (numbers 5 7)) false) ≡ Some (Invoke 0 (Copied (numbers 6 7)) false) → ⊥
unfolding first_number value_in
not_six e = five_or_six (ap first_number e)

seven_or_six : ◌≡◌ {A = ℕ} 7 6 → ⊥
seven_or_six e = cc

instructions : Application → ℕ
instructions (OfImage app) = length app.image.code
instructions (BuiltIn uuid relation) = 0

not_marker : OfImage (app_with add) ≡ OfImage (app_with mark) → ⊥
unfolding instructions
not_marker e = seven_or_six (ap instructions e)

no_one : ◌≡◌ {A = ℕ} 0 1 → ⊥
no_one e = cc

first_byte : List ℕ → ℕ
first_byte [] = 0
first_byte (byte ∷ bytes) = byte

other_keys : replicate {A = ℕ} 32 0 ≡ replicate {A = ℕ} 32 1 → ⊥
unfolding first_byte
other_keys e = no_one (ap first_byte e)

one_is_missing : (event : OwnEvent) → Some event ≡ None → ⊥
one_is_missing event e = cc

one_is_more : (event : OwnEvent) → None ≡ Some event → ⊥
one_is_more event e = cc

pub returns : goal.returns
unfolding zeros
returns c = record {
  same = ((done_can, stepped_can), record { app = OfImage (app_with add); in_one = refl; in_two = refl; keys = refl }, refl, refl);
  another_invoke = ((done_can, another_can), record { app = OfImage (app_with add); in_one = refl; in_two = refl; keys = refl }, record { same_before = refl; differ = not_six });
  shorter = ((done_can, invoked_can), record { app = OfImage (app_with add); in_one = refl; in_two = refl; keys = refl }, record { same_before = refl; differ = one_is_missing (Out 1) });
  longer = ((opened_can, done_can), record { app = OfImage (app_with add); in_one = refl; in_two = refl; keys = refl }, record { same_before = refl; differ = one_is_more (Invoke 0 (Copied (numbers 5 7)) false) });
  absent = ((done_can, done_can), inl (refl, refl));
  absent_in_two = ((done_can, answered_can), inr (refl, refl, refl));
  other = (
    (done_can, marked_can),
    record {
      app = OfImage (app_with add);
      other = OfImage (app_with mark);
      in_one = refl;
      in_two = refl;
      differ = inl not_marker;
    },
  );
  other_key = (
    (done_can, keyed_can),
    record {
      app = OfImage (app_with add);
      other = OfImage (app_with add);
      in_one = refl;
      in_two = refl;
      differ = inr other_keys;
    },
  );
  illegal_in_two = inr (
    refl,
    done_can,
    record {
      there = lit< tt;
      before = asked_can;
      with_it = λ can. no_such (prefixes_can_be adder (asks ∷ answered 0xa5d5c51a ∷ []) can).legal.follows;
    },
  );
  illegal_in_both = inl (
    refl,
    record {
      there = lit< tt;
      before = asked_can;
      with_it = λ can. no_such (prefixes_can_be adder (asks ∷ answered 0xa5d5c51a ∷ []) can).legal.follows;
    },
  );
}
