use Rattle.std.proofs.Common.{subst}
use Rattle.std.specs.Prelude.{IfOk}
use Rattle.compare_model.specs.Comparing.{AreShownAs, core_of}
use Rattle.kernel_model.specs.Application.{booted}
use Rattle.native_tas.specs.Table.{entries}
use Rattle.realm_notes.specs.declared.realm.Realm.{Realm as CodeRealm}
use Rattle.realm_notes.specs.declared.realm.Realm.TheVariants.{OneSession}
use Rattle.session_compare.proofs.RealmReading.{begun_so}
use Rattle.session_compare.proofs.SessionTold.{session_compared}
use Rattle.session_compare.specs.Pairs.{pair_of}
use Rattle.session_compare.specs.Realms.{shown_of}
use Rattle.session_compare.proofs.sessions.compare_session.Goals as goal

pub of_session-requires-clause-limits : goal.of_session-requires-clause-limits
of_session-requires-clause-limits g c = c.requires.one.boot.limits

pub of_session-requires-clause-apart : goal.of_session-requires-clause-apart
of_session-requires-clause-apart g c = c.requires.one.boot.apart

pub of_session-requires-2-clause-limits : goal.of_session-requires-2-clause-limits
of_session-requires-2-clause-limits g c = c.requires.two.boot.limits

pub of_session-requires-2-clause-apart : goal.of_session-requires-2-clause-apart
of_session-requires-2-clause-apart g c = c.requires.two.boot.apart

pub compare_by-requires-clause-one : goal.compare_by-requires-clause-one
compare_by-requires-clause-one g c = c.requires.one

pub compare_by-requires-clause-two : goal.compare_by-requires-clause-two
compare_by-requires-clause-two g c = c.requires.two

pub compare_by-requires-clause-first : goal.compare_by-requires-clause-first
compare_by-requires-clause-first g c =
    begun_so (booted c.args.one.now.boot (entries c.args.natives.now)) (OneSession c.args.session) c.in_ok-first.first c.in_ok-first.ensures

pub compare_by-requires-clause-second : goal.compare_by-requires-clause-second
compare_by-requires-clause-second g c =
    begun_so (booted c.args.two.now.boot (entries c.args.natives.now)) (OneSession c.args.session) c.in_ok-second.second c.in_ok-second.ensures

pub returns : goal.returns
returns g c =
    let pair = pair_of (entries c.args.natives.now) c.args.one.now c.args.two.now in
    let one = core_of pair pair.one in
    let two = core_of pair pair.two in
    session_compared pair c.args.session c.compare_by.result
    (subst (λ (its : CodeRealm). IfOk c.compare_by.result
    (AreShownAs pair (shown_of one pair.one.events its) (shown_of two pair.two.events (OneSession c.args.session))))
    c.in_ok-first.ensures.of_realm
    (subst (λ (its : CodeRealm). IfOk c.compare_by.result
    (AreShownAs pair (shown_of one pair.one.events c.in_ok-first.first.notes.realm) (shown_of two pair.two.events its)))
    c.in_ok-second.ensures.of_realm c.compare_by.ensures))
