use Rattle.std.proofs.Common.{Bool, Option, refl, ap, sym, ◌∙◌}
use Rattle.std.specs.Option.{option_and_then, option_map}
use Rattle.kernel_model.specs.Application.{Application}
use Rattle.kernel_state.specs.Setup.{application_of}
use Rattle.realm_notes.specs.Realms.{realm_of}
use Rattle.realm_notes.specs.declared.realm.Realm.{Realm as CodeRealm}
use Rattle.session_compare.specs.Realms.{if_compared, is_of_one}
use Rattle.session_compare.proofs.realms.LogReaderReadsLog.compared_app.Goals as goal

pub into_app-requires : goal.into_app-requires
into_app-requires c = c.requires

pub returns : goal.returns
returns c =
    let realm = realm_of c.args.self.notes.realm in
    record {
      app_is = ap (λ (o : Option Application). option_and_then (if_compared (is_of_one realm)) o) c.in_ok-app.ensures
          ∙ ap (λ (r : CodeRealm). option_and_then (if_compared (is_of_one (realm_of r))) (option_map application_of c.in_ok-app.app)) (sym c.realm.ensures)
          ∙ ap (λ (b : Bool). option_and_then (if_compared b) (option_map application_of c.in_ok-app.app)) (sym c.is_of_one-one.ensures)
          ∙ c.if_compared.ensures;
      events_are = refl;
      replies_are = refl;
    }
