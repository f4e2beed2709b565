use Rattle.std.proofs.Common.{sym, ◌∙◌}
use Rattle.realm_notes.proofs.RealmApps.{app_so, uuid_so}
use Rattle.realm_notes.proofs.log_reader.LogReader.into_app.Goals as goal

pub returns-in-OneSession : goal.returns-in-OneSession
returns-in-OneSession c =
    app_so c.args.self c.in-OneSession.field-0 c.uuid-uuid.result c.app_of.result (sym c.into_realm.ensures ∙ c.in-OneSession.is)
    (uuid_so c.args.self c.uuid-uuid.result c.requires c.uuid-uuid.ensures) c.app_of.ensures
