use Rattle.std.proofs.Common.{◌≡◌, ℕ, List, ap, length, replicate, [], ◌∷◌, ◌++◌, lit<, lit≤, Some, None, refl, rules, false, true, inl, inr}
use Rattle.std.specs.Prelude.{AllPairs}
use Rattle.audit_model.proofs.Disjoint.{none_agrees, two_agree}
use Rattle.audit_model.proofs.Prefixes.{prefixes_can_be}
use Rattle.audit_model.specs.VerdictExamples.{answered, asks}
use Rattle.audit_model.specs.Verdicts.{CanBegin}
use Rattle.base.specs.Zeros.{zeros}
use Rattle.compare_model.proofs.laws.group_examples.Goals as goal
use Rattle.compare_model.specs.GroupExamples.{beside_other, keyed, other_opened}
use Rattle.compare_model.specs.SessionExamples.{done, invoked, opened, step_by_step}
use Rattle.group_model.specs.Examples.{copied, opens_other, shared}
use Rattle.group_model.specs.declared.group_event.GroupEvent.{GroupEvent}
use Rattle.group_model.specs.declared.group_event.GroupEvent.TheVariants.{Invoke}
use Rattle.kernel_model.specs.Application.{Application, BuiltIn, Booted, IsBooted, OfImage, booted}
use Rattle.kernel_model.specs.Worked.{add, adds, app_with, boot_with, head, mark, names, open_argument, param}
use Rattle.kernel_state.specs.Reads.{Agree}
use Rattle.ns_ram.specs.Examples.{read_of}
use Rattle.own_model.specs.Examples.{numbers}
use Rattle.own_model.specs.declared.own_event.OwnInput.TheVariants.{Copied}
use Rattle.ta_isa.specs.InstructionTable.{is_instruction}
use Rattle.ta_isa.specs.Spelling.{are_allowed}

-- ---- boots

abbrev sharer : Booted
sharer = booted (boot_with 1 1 1 (app_with (shared add) ∷ [])) []

sharer_boots : IsBooted sharer
unfolding is_instruction are_allowed
sharer_boots = record {
  boot = boot_with 1 1 1 (app_with (shared add) ∷ []);
  natives = [];
  is_boot = search rules;
  are_natives = search rules;
  same = refl;
}

abbrev neighbours : Booted
neighbours = booted (beside_other []).boot []

neighbours_boot : IsBooted neighbours
unfolding is_instruction are_allowed
neighbours_boot = record { boot = (beside_other []).boot; natives = []; is_boot = search rules; are_natives = search rules; same = refl }

abbrev marker : Booted
marker = booted (boot_with 1 1 1 (app_with (shared mark) ∷ [])) []

marker_boots : IsBooted marker
unfolding is_instruction are_allowed
marker_boots = record {
  boot = boot_with 1 1 1 (app_with (shared mark) ∷ []);
  natives = [];
  is_boot = search rules;
  are_natives = search rules;
  same = refl;
}

abbrev keyed_sharer : Booted
keyed_sharer = booted keyed.boot []

keyed_boots : IsBooted keyed_sharer
unfolding is_instruction are_allowed
keyed_boots = record { boot = keyed.boot; natives = []; is_boot = search rules; are_natives = search rules; same = refl }

-- the adder with an instance for each session
abbrev apart : Booted
apart = booted (boot_with 1 1 1 (app_with add ∷ [])) []

apart_boots : IsBooted apart
unfolding is_instruction are_allowed
apart_boots = record { boot = boot_with 1 1 1 (app_with add ∷ []); natives = []; is_boot = search rules; are_natives = search rules; same = refl }

-- ---- each journal can be

open_agrees : AllPairs Agree open_argument
open_agrees = two_agree (read_of 0x40000000 (head 0 0 0 2)) (read_of 0x40000020 names) (lit≤ tt)

other_agrees : AllPairs Agree opens_other
other_agrees = two_agree (read_of 0x40000000 (head 0 0 0 2))
    (read_of 0x40000020 (param 0x101 0x2222222222222222 0x2222222222222222 0 ++ param 0x101 0 0 0)) (lit≤ tt)

adds_agrees : AllPairs Agree (adds 5 7)
adds_agrees = two_agree (read_of 0x40000000 (head 1 0 1 1)) (read_of 0x40000020 (param 3 5 7 0)) (lit≤ tt)

nothing_can : CanBegin sharer []
nothing_can = record { more = []; faultless = record { legal = record { boots = sharer_boots; follows = refl }; steady = tt } }

asked_can : CanBegin sharer (asks ∷ [])
asked_can = record { more = []; faultless = record { legal = record { boots = sharer_boots; follows = refl }; steady = (none_agrees, tt) } }

opened_can : CanBegin sharer opened
unfolding zeros
opened_can = record { more = []; faultless = record { legal = record { boots = sharer_boots; follows = refl }; steady = (open_agrees, (tt, tt)) } }

one_can : CanBegin sharer (opened ++ invoked 5 ++ done)
unfolding zeros
one_can = record {
  more = [];
  faultless = record {
    legal = record { boots = sharer_boots; follows = refl };
    steady = (open_agrees, (tt, (adds_agrees, (tt, tt))));
  };
}

two_can : CanBegin sharer (opened ++ opened ++ invoked 5 ++ done)
unfolding zeros
two_can = record {
  more = [];
  faultless = record {
    legal = record { boots = sharer_boots; follows = refl };
    steady = (open_agrees, (tt, (open_agrees, (tt, (adds_agrees, (tt, tt))))));
  };
}

stepped_can : CanBegin sharer (opened ++ opened ++ step_by_step)
unfolding zeros
stepped_can = record {
  more = [];
  faultless = record {
    legal = record { boots = sharer_boots; follows = refl };
    steady = (open_agrees, (tt, (open_agrees, (tt, (adds_agrees, (tt, (none_agrees, (tt, (none_agrees, (tt, (none_agrees, (tt, (none_agrees, (tt, (none_agrees, (tt, tt))))))))))))))));
  };
}

alone_can : CanBegin neighbours opened
unfolding zeros
alone_can = record { more = []; faultless = record { legal = record { boots = neighbours_boot; follows = refl }; steady = (open_agrees, (tt, tt)) } }

both_can : CanBegin neighbours (opened ++ other_opened)
unfolding zeros
both_can = record {
  more = [];
  faultless = record {
    legal = record { boots = neighbours_boot; follows = refl };
    steady = (open_agrees, (tt, (other_agrees, (tt, tt))));
  };
}

marked_can : CanBegin marker opened
unfolding zeros
marked_can = record { more = []; faultless = record { legal = record { boots = marker_boots; follows = refl }; steady = (open_agrees, (tt, tt)) } }

keyed_can : CanBegin keyed_sharer opened
unfolding zeros
keyed_can = record { more = []; faultless = record { legal = record { boots = keyed_boots; follows = refl }; steady = (open_agrees, (tt, tt)) } }

apart_can : CanBegin apart opened
unfolding zeros
apart_can = record { more = []; faultless = record { legal = record { boots = apart_boots; follows = refl }; steady = (open_agrees, (tt, tt)) } }

-- ---- what differs

no_such : false ≡ true → ⊥
no_such e = cc

not_an_open : Some copied ≡ Some (Invoke 0 0 (Copied (numbers 5 7)) false) → ⊥
not_an_open e = cc

one_is_missing : (event : GroupEvent) → Some event ≡ None → ⊥
one_is_missing event e = cc

seven_or_six : ◌≡◌ {A = ℕ} 7 6 → ⊥
seven_or_six e = cc

instructions : Application → ℕ
instructions (OfImage app) = length app.image.code
instructions (BuiltIn uuid relation) = 0

not_marker : OfImage (app_with (shared add)) ≡ OfImage (app_with (shared mark)) → ⊥
unfolding instructions
not_marker e = seven_or_six (ap instructions e)

no_one : ◌≡◌ {A = ℕ} 0 1 → ⊥
no_one e = cc

first_byte : List ℕ → ℕ
first_byte [] = 0
first_byte (byte ∷ bytes) = byte

other_keys : replicate {A = ℕ} 32 0 ≡ replicate {A = ℕ} 32 1 → ⊥
unfolding first_byte
other_keys e = no_one (ap first_byte e)

-- the adder, in both under one key
abbrev adder : Application
adder = OfImage (app_with (shared add))

pub returns : goal.returns
unfolding zeros
returns c = record {
  same = ((two_can, stepped_can), record { app = adder; in_one = refl; in_two = refl; keys = refl }, refl, refl);
  of_others = ((both_can, alone_can), record { app = adder; in_one = refl; in_two = refl; keys = refl }, refl, refl);
  left_out = ((two_can, one_can), record { app = adder; in_one = refl; in_two = refl; keys = refl }, record { same_before = refl; differ = not_an_open });
  shorter = ((two_can, opened_can), record { app = adder; in_one = refl; in_two = refl; keys = refl }, record { same_before = refl; differ = one_is_missing copied });
  absent = ((apart_can, two_can), inl (refl, refl));
  absent_in_two = ((one_can, apart_can), inr (refl, refl, refl));
  not_there = ((one_can, one_can), inl (refl, refl));
  nothing = ((nothing_can, nothing_can), record { app = adder; in_one = refl; in_two = refl; keys = refl }, refl, refl);
  other = (
    (one_can, marked_can),
    record { app = adder; other = OfImage (app_with (shared mark)); in_one = refl; in_two = refl; differ = inl not_marker },
  );
  other_key = ((one_can, keyed_can), record { app = adder; other = adder; in_one = refl; in_two = refl; differ = inr other_keys });
  illegal_in_two = inr (
    refl,
    one_can,
    record {
      there = lit< tt;
      before = asked_can;
      with_it = λ can. no_such (prefixes_can_be sharer (asks ∷ answered 0xa5d5c51a ∷ []) can).legal.follows;
    },
  );
}
