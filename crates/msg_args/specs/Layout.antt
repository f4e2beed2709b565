-- Where the parts of an argument at an address stand, by struct optee_msg_arg of optee_msg.h: a head, and then the
-- parameters.
use Rattle.std.specs.Prelude.{ℕ, ◌+◌, ◌*◌}

-- how many bytes a head has, so many parameters, and an argument of so many parameters
abbrev pub head_len : ℕ
head_len = 32

abbrev pub params_len : ℕ → ℕ
params_len count = 32 * count

abbrev pub argument_len : ℕ → ℕ
argument_len count = 32 + 32 * count

-- the session, the result and where it comes from
abbrev pub session_at : ℕ → ℕ
session_at arg = arg + 8

abbrev pub ret_at : ℕ → ℕ
ret_at arg = arg + 20

abbrev pub origin_at : ℕ → ℕ
origin_at arg = arg + 24

-- the parameters, the one of a number, and its numbers p and q
abbrev pub params_at : ℕ → ℕ
params_at arg = arg + 32

abbrev pub param_place : ℕ → ℕ → ℕ
param_place arg number = arg + 32 + 32 * number

abbrev pub p_at : ℕ → ℕ → ℕ
p_at arg number = param_place arg number + 8

abbrev pub q_at : ℕ → ℕ → ℕ
q_at arg number = param_place arg number + 16
