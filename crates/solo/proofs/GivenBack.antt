-- The instance after a call has given it back.
use Rattle.std.proofs.Common.{◌≡◌, Bool, Option, Some, None, refl, sym, ap, subst, ◌∙◌}
use Rattle.std.specs.Option.{option_and_then, option_map}
use Rattle.kernel_model.specs.Kernel.{Instance}
use Rattle.own_model.specs.Solo.{OwnSession, gives_back, instance_back}
use Rattle.solo.specs.Standing.{without_calls}
use Rattle.solo.specs.declared.solo_session.SoloSession.{SoloSession}

changed_then : (back : Instance → Option Instance) (change : Instance → Instance) (found : Option Instance) →
    option_and_then back (option_map change found) ≡ option_and_then (λ (instance : Instance). back (change instance)) found
changed_then back change None = refl
changed_then back change (Some instance) = refl

-- put back, and then removed where it goes
pub given_so : (s put new : SoloSession) (is_last : Bool) (change : Instance → Instance) → put ≡ record s { instance = put.instance } →
    new ≡ record put { instance = new.instance } → (without_calls put).instance ≡ option_map change (without_calls s).instance →
    (without_calls new).instance ≡ option_and_then (instance_back (without_calls put).session is_last) (without_calls put).instance →
    without_calls new ≡ gives_back (without_calls s) (without_calls s).session is_last change
given_so s put new is_last change first second back goes =
    let both : new ≡ record s { instance = new.instance } = second ∙ ap (λ (p : SoloSession). record p { instance = new.instance }) first in
    let session : (without_calls put).session ≡ (without_calls s).session = ap (λ (p : SoloSession). (without_calls p).session) first in
    let instance : (without_calls new).instance
    ≡ option_and_then (λ (instance : Instance). instance_back (without_calls s).session is_last (change instance)) (without_calls s).instance =
    goes ∙ ap (λ (session : Option OwnSession). option_and_then (instance_back session is_last) (without_calls put).instance) session
    ∙ ap (option_and_then (instance_back (without_calls s).session is_last)) back
    ∙ changed_then (instance_back (without_calls s).session is_last) change (without_calls s).instance in
    let shape : without_calls new ≡ record (without_calls s) { instance = (without_calls new).instance } =
    subst (λ (n : SoloSession). without_calls n ≡ record (without_calls s) { instance = (without_calls n).instance }) (sym both) refl in
    shape ∙ ap (λ (found : Option Instance). record (without_calls s) { instance = found }) instance
