use Rattle.std.proofs.Common.{ℕ, ap, subst, sym, ◌∙◌}
use Rattle.std.specs.Prelude.{IfOk}
use Rattle.compare_model.specs.Comparing.{AreShownAs, IsComparedAs, core_of}
use Rattle.compare_model.specs.declared.compared.Compared.TheVariants.{Absent}
use Rattle.compare_model.specs.declared.subject.Subject.TheVariants.{Group}
use Rattle.kernel_model.specs.Application.{booted}
use Rattle.kernel_state.specs.Setup.{application_of}
use Rattle.native_tas.specs.Table.{entries}
use Rattle.realm_notes.specs.Realms.{realm_of}
use Rattle.realm_notes.specs.declared.realm.Realm.{Realm as CodeRealm}
use Rattle.realm_notes.specs.declared.realm.Realm.TheVariants.{AllSessions}
use Rattle.session_compare.proofs.GroupTold.{group_compared}
use Rattle.session_compare.proofs.Logs.{absent_in_one, absent_in_two}
use Rattle.session_compare.proofs.RealmReading.{begun_so, made_so, no_app}
use Rattle.session_compare.specs.Pairs.{pair_of}
use Rattle.session_compare.specs.Realms.{absent_by, shown_of}
use Rattle.session_compare.proofs.groups.compare_group.Goals as goal

pub of_sessions-requires-clause-limits : goal.of_sessions-requires-clause-limits
of_sessions-requires-clause-limits g c = c.requires.one.boot.limits

pub of_sessions-requires-clause-apart : goal.of_sessions-requires-clause-apart
of_sessions-requires-clause-apart g c = c.requires.one.boot.apart

pub of_sessions-requires-2-clause-limits : goal.of_sessions-requires-2-clause-limits
of_sessions-requires-2-clause-limits g c = c.requires.two.boot.limits

pub of_sessions-requires-2-clause-apart : goal.of_sessions-requires-2-clause-apart
of_sessions-requires-2-clause-apart g c = c.requires.two.boot.apart

pub compare_by-requires-clause-one : goal.compare_by-requires-clause-one
compare_by-requires-clause-one g c = c.requires.one

pub compare_by-requires-clause-two : goal.compare_by-requires-clause-two
compare_by-requires-clause-two g c = c.requires.two

pub compare_by-requires-clause-first : goal.compare_by-requires-clause-first
compare_by-requires-clause-first g c =
    let boot = booted c.args.one.now.boot (entries c.args.natives.now) in
    let is = made_so boot c.args.uuid c.in_ok-made.made c.in_ok-made.ensures c.in-Some.reader c.in-Some.is in
    begun_so boot (AllSessions is.app) c.in-Some.reader is.reads

pub compare_by-requires-clause-second : goal.compare_by-requires-clause-second
compare_by-requires-clause-second g c =
    let boot = booted c.args.two.now.boot (entries c.args.natives.now) in
    let is = made_so boot c.args.uuid c.in_ok-other_made.other_made c.in_ok-other_made.ensures c.in-Some-other_made.other_reader
    c.in-Some-other_made.is in
    begun_so boot (AllSessions is.app) c.in-Some-other_made.other_reader is.reads

pub returns : goal.returns
returns g c =
    let pair = pair_of (entries c.args.natives.now) c.args.one.now c.args.two.now in
    let one = core_of pair pair.one in
    let two = core_of pair pair.two in
    let uuid = c.args.uuid in
    let told = c.compare_by.result in
    let is = made_so one uuid c.in_ok-made.made c.in_ok-made.ensures c.in-Some.reader c.in-Some.is in
    let is_too = made_so two uuid c.in_ok-other_made.other_made c.in_ok-other_made.ensures c.in-Some-other_made.other_reader
    c.in-Some-other_made.is in
    group_compared pair uuid (application_of is.app) (application_of is_too.app) is.there is_too.there told
    (subst (λ (its : CodeRealm). IfOk told
    (AreShownAs pair (shown_of one pair.one.events its) (shown_of two pair.two.events (AllSessions is_too.app))))
    is.reads.of_realm
    (subst (λ (its : CodeRealm). IfOk told
    (AreShownAs pair (shown_of one pair.one.events c.in-Some.reader.notes.realm) (shown_of two pair.two.events its)))
    is_too.reads.of_realm c.compare_by.ensures))

pub returns-in-None-other_made : goal.returns-in-None-other_made
returns-in-None-other_made g c =
    let pair = pair_of (entries c.args.natives.now) c.args.one.now c.args.two.now in
    let uuid = c.args.uuid in
    let is = made_so (core_of pair pair.one) uuid c.in_ok-made.made c.in_ok-made.ensures c.in-Some.reader c.in-Some.is in
    let none = no_app (core_of pair pair.two) uuid c.in_ok-other_made.other_made c.in_ok-other_made.ensures c.in-None-other_made.is in
    c.unless_illegal-in-None-other_made.ensures (Group uuid) (λ can.
    subst (λ (of : ℕ). IsComparedAs pair (Group uuid) (Absent of))
    (sym (c.absent_in-of.ensures ∙ ap (λ (r : CodeRealm). absent_by (realm_of r)) (c.realm.ensures ∙ is.reads.of_realm)))
    (absent_in_two pair uuid (application_of is.app) is.there none can))

pub returns-in-None : goal.returns-in-None
returns-in-None g c =
    let pair = pair_of (entries c.args.natives.now) c.args.one.now c.args.two.now in
    c.unless_illegal.ensures (Group c.args.uuid)
    (λ can. absent_in_one pair c.args.uuid (no_app (core_of pair pair.one) c.args.uuid c.in_ok-made.made c.in_ok-made.ensures c.in-None.is) can)
