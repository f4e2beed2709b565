use Rattle.std.proofs.Common.{◌≡◌, ℕ, [], ◌∷◌, lit<, refl, rules, false, true}
use Rattle.kernel_model.specs.Application.{IsBooted}
use Rattle.kernel_state.specs.Reads.{ReadsAgree}
use Rattle.ns_ram.specs.Examples.{read_of}
use Rattle.audit_model.specs.VerdictExamples.{answered, asks, registers_itself, small, small_boot}
use Rattle.audit_model.specs.Verdicts.{CanBegin}
use Rattle.audit_model.proofs.Prefixes.{prefixes_can_be}
use Rattle.audit_model.proofs.Disjoint.{none_agrees}
use Rattle.audit_model.proofs.laws.verdict_examples.Goals as goal

small_boots : IsBooted small
small_boots = record { boot = small_boot; natives = []; is_boot = search rules; are_natives = search rules; same = refl }

nothing_can : CanBegin small []
nothing_can = record { more = []; faultless = record { legal = record { boots = small_boots; follows = refl }; steady = tt } }

asked_can : CanBegin small (asks ∷ [])
asked_can = record { more = []; faultless = record { legal = record { boots = small_boots; follows = refl }; steady = (none_agrees, tt) } }

answered_can : CanBegin small (asks ∷ answered 0xa5d5c51b ∷ [])
answered_can = record { more = []; faultless = record { legal = record { boots = small_boots; follows = refl }; steady = (none_agrees, (tt, tt)) } }

no_such : false ≡ true → ⊥
no_such e = cc

four_or_five : ◌≡◌ {A = ℕ} 4 5 → ⊥
four_or_five e = cc

-- the first byte of the argument and the first of the list have one address
not_agreed : ReadsAgree (registers_itself 5) → ⊥
not_agreed agree = four_or_five (agree 0 2 (read_of 0 []) (lit< tt) (lit< tt) 0 0 4 5 refl refl refl)

pub returns : goal.returns
returns c = record {
  legal = refl;
  begun = refl;
  wrong_answer = refl;
  no_such_processor = refl;
  no_steps = refl;
  most_steps = refl;
  too_many_steps = refl;
  twice_inside = refl;
  goes_out_from_outside = refl;
  goes_out_twice = refl;
  reads_too_much = refl;
  a_whole_one = refl;
  is_legal = answered_can;
  is_illegal = record {
    there = lit< tt;
    before = asked_can;
    with_it = λ can. no_such (prefixes_can_be small (asks ∷ answered 0xa5d5c51a ∷ []) can).legal.follows;
  };
  nothing = nothing_can;
  agreed_follows = refl;
  unsteady_follows = refl;
  unsteady = record {
    there = lit< tt;
    before = nothing_can;
    with_it = λ can. not_agreed (prefixes_can_be small (registers_itself 5 ∷ []) can).steady.0;
  };
  unsteady_behind_others = record {
    there = lit< tt;
    before = answered_can;
    with_it = λ can. not_agreed (prefixes_can_be small (asks ∷ answered 0xa5d5c51b ∷ registers_itself 5 ∷ []) can).steady.1.1.0;
  };
}
