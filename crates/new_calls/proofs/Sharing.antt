-- What an open asks of the instance that it shares.
use Rattle.std.proofs.Common.{◌≡◌, ℕ, zero, suc, ◌<◌, Bool, true, false, nat_lt, Option, Some, None, sym, ap, ◌∙◌, subst, arith}
use Rattle.std.proofs.lemmas.Bool.Decides.{nat_tests}
use Rattle.std.specs.List.{count_by}
use Rattle.std.specs.Option.{option_map, option_map_or}
use Rattle.base.specs.NumberMap.{NumberMap}
use Rattle.begin_call.proofs.Maps.{none_counted, some_counted}
use Rattle.begin_call.specs.Asking.{shown}
use Rattle.begin_call.specs.declared.asking.SharedInstance.{SharedInstance}
use Rattle.kernel_model.specs.Kernel.{Instance}
use Rattle.kernel_model.specs.Sessions.{has_session}
use Rattle.session_table.specs.Session.{is_of}
use Rattle.session_table.specs.declared.session.Session.{Session}

pub shared_number : (o : Option (ℕ × Instance)) (shared : SharedInstance) (test : ℕ → Bool) → Some shared ≡ option_map shown o →
    option_map_or (λ (kept : ℕ × Instance). test kept.0) o false ≡ test shared.number
shared_number None shared test e = absurd (cc)
shared_number (Some kept) shared test e = let same : shared ≡ shown kept = cc in ap (λ (s : SharedInstance). test s.number) (sym same)

positive : (n : ℕ) → nat_lt 0 (suc n) ≡ true
positive n = grind (arith, nat_tests)

-- the sessions of an instance are counted
pub has_counted : (sessions : NumberMap Session) (number count : ℕ) → count ≡ count_by (λ (entry : ℕ × Session). is_of number entry.1) sessions →
    has_session sessions number ≡ nat_lt 0 count
has_counted sessions number zero is = none_counted (λ (entry : ℕ × Session). is_of number entry.1) sessions (sym is)
has_counted sessions number (suc count) is =
    some_counted (λ (entry : ℕ × Session). is_of number entry.1) sessions (subst (λ (n : ℕ). 0 < n) is (omega arith)) ∙ sym (positive count)
