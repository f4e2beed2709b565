-- What a call finds of the sessions and the instance.
use Rattle.std.specs.Prelude.{ℕ}
use Rattle.group_model.specs.Group.{Home}
use Rattle.kernel_model.specs.Instances.{is_held}
use Rattle.kernel_model.specs.Kernel.{Instance}
use Rattle.group_solo.specs.declared.found.Found.{Found}
use Rattle.group_solo.specs.declared.found.Home as code
use Rattle.group_solo.specs.declared.found.There.{There}

-- at an instance
abbrev pub found_at : Instance → Found
found_at instance = record { dead = instance.dead; held = is_held instance }

-- at the instance that is there
abbrev pub found_there : ℕ × Instance → There
found_there there = record { number = there.0; found = found_at there.1 }

-- at home
abbrev pub found_home : Home → code.Home
found_home home = record { instance = home.session.instance; found = found_at home.instance }
