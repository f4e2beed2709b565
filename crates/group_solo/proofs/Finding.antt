-- What a group's code finds of its sessions and its instance is the machine's.
use Rattle.std.proofs.Common.{◌≡◌, ℕ, true, false, Option, Some, None, sym, ap, ◌∙◌}
use Rattle.std.specs.Prelude.{if◌then◌else◌}
use Rattle.std.specs.Option.{option_and_then, option_map}
use Rattle.base.specs.NumberMap.{get}
use Rattle.group_model.specs.Group.{Group, GroupSession, home, home_of, instance_at}
use Rattle.kernel_model.specs.Kernel.{Instance}
use Rattle.group_solo.specs.Found.{found_at, found_home}
use Rattle.group_solo.specs.Standing.{session_of}
use Rattle.group_solo.specs.declared.found.Found.{Found}
use Rattle.group_solo.specs.declared.kept_session.KeptSession.{KeptSession}

-- the session that is there, opened or not
home_at : (g : Group) (number : ℕ) (found : Option GroupSession) → found ≡ get g.sessions number →
    option_and_then (λ (session : GroupSession). if session.opened then home_of g number session else None) found ≡ home g number
home_at g number found is = ap (option_and_then (λ (session : GroupSession). if session.opened then home_of g number session else None)) is

pub no_session : (g : Group) (number : ℕ) → None ≡ get g.sessions number → None ≡ option_map found_home (home g number)
no_session g number is = ap (option_map found_home) (home_at g number None is)

-- where it is opened
opened_at : (g : Group) (number : ℕ) (session : KeptSession) → Some (session_of session) ≡ get g.sessions number → session.opened ≡ true →
    home_of g number (session_of session) ≡ home g number
opened_at g number session is opened =
    ap (λ b. if b then home_of g number (session_of session) else None) (sym opened) ∙ home_at g number (Some (session_of session)) is

pub not_opened : (g : Group) (number : ℕ) (session : KeptSession) → Some (session_of session) ≡ get g.sessions number → session.opened ≡ false →
    None ≡ option_map found_home (home g number)
not_opened g number session is closed =
    ap (option_map found_home)
    (ap (λ b. if b then home_of g number (session_of session) else None) (sym closed) ∙ home_at g number (Some (session_of session)) is)

found_by : (g : Group) (number : ℕ) (session : KeptSession) (found : Option Found) (o : Option Instance) → found ≡ option_map found_at o →
    option_map (λ (f : Found). record { instance = session.instance; found = f }) found
    ≡ option_map found_home (option_map (λ instance. record { number = number; session = session_of session; instance = instance }) o)
found_by g number session found None is = ap (option_map (λ (f : Found). record { instance = session.instance; found = f })) is
found_by g number session found (Some instance) is = ap (option_map (λ (f : Found). record { instance = session.instance; found = f })) is

pub is_home : (g : Group) (number : ℕ) (session : KeptSession) (found : Found) → Some (session_of session) ≡ get g.sessions number → session.opened ≡ true →
    Some found ≡ option_map found_at (instance_at g session.instance) →
    Some (record { instance = session.instance; found = found }) ≡ option_map found_home (home g number)
is_home g number session found is opened there =
    found_by g number session (Some found) (instance_at g session.instance) there ∙ ap (option_map found_home) (opened_at g number session is opened)

pub no_instance : (g : Group) (number : ℕ) (session : KeptSession) → Some (session_of session) ≡ get g.sessions number → session.opened ≡ true →
    None ≡ option_map found_at (instance_at g session.instance) → None ≡ option_map found_home (home g number)
no_instance g number session is opened there =
    found_by g number session None (instance_at g session.instance) there ∙ ap (option_map found_home) (opened_at g number session is opened)
