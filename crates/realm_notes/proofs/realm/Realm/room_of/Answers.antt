use Rattle.kernel_entry.proofs.Entered.{has_pages}
use Rattle.realm_notes.proofs.realm.Realm.room_of.Goals as goal

pub has_pages_for-requires : goal.has_pages_for-requires
has_pages_for-requires c = has_pages c.args.core.now.parts c.args.core.now.replay
