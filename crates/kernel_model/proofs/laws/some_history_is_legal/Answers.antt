use Rattle.std.proofs.Common.{rules, refl, [], ◌∷◌}
use Rattle.ta_isa.specs.InstructionTable.{is_instruction}
use Rattle.ta_isa.specs.Spelling.{are_allowed}
use Rattle.kernel_model.specs.Worked.{add, app_with, boot_with}
use Rattle.kernel_model.proofs.laws.some_history_is_legal.Goals as goal

pub returns : goal.returns
unfolding is_instruction are_allowed
returns c = record {
  boots = record {
    boot = boot_with 2 1 1 (app_with add ∷ []);
    natives = [];
    is_boot = search rules;
    are_natives = search rules;
    same = refl;
  };
  follows = search rules;
}
