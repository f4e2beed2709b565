use Rattle.std.proofs.Common.{◌≡◌, ◌<◌, sym, ap, ◌∙◌, subst}
use Rattle.std.specs.Prelude.{All}
use Rattle.std.proofs.lemmas.List.Elements.{All-weaker}
use mathlib.Core.Option.{some-injective}
use Rattle.core_lock.specs.Passes.{count_of, IsIn, Tells}
use Rattle.core_lock.proofs.Ending.{ends}
use Rattle.core_lock.proofs.lock.CoreLock.close.Goals as goal

pub unreachable-requires : goal.unreachable-requires
unreachable-requires g c =
    let s = c.gather-seat.ensures in
    let e = ends g.T.Logged.entries g.T.Logged.maker g.T.Logged.basis _ _ _ _ _ _ s.outside s.numbers c.close_with-closed.ensures.values.2 in
    let found = some-injective _ _ (sym e.there ∙ c.in_default.ensures.value) in
    absurd (cc found)

pub returns-clause-basis : goal.returns-clause-basis
returns-clause-basis g c =
    let s = c.gather-seat.ensures in
    let e = ends g.T.Logged.entries g.T.Logged.maker g.T.Logged.basis _ _ _ _ _ _ s.outside s.numbers c.close_with-closed.ensures.values.2 in
    let found = some-injective _ _ (sym e.there ∙ c.in-Some.ensures.value) in
    let one : e.value ≡ c.into_inner.result = cc found ∙ sym c.into_inner.ensures in
    ap g.T.Logged.basis (sym one) ∙ e.basis_is

pub returns-clause-passes : goal.returns-clause-passes
returns-clause-passes g c =
    let s = c.gather-seat.ensures in
    let e = ends g.T.Logged.entries g.T.Logged.maker g.T.Logged.basis _ _ _ _ _ _ s.outside s.numbers c.close_with-closed.ensures.values.2 in
    let found = some-injective _ _ (sym e.there ∙ c.in-Some.ensures.value) in
    let one : e.value ≡ c.into_inner.result = cc found ∙ sym c.into_inner.ensures in
    subst (λ x. All (IsIn g.T.Logged.maker (g.T.Logged.entries x)) c.args.passes.items) one
    (All-weaker (Tells g.T.Logged.maker c.gather-seat.result.me.0) (IsIn g.T.Logged.maker (g.T.Logged.entries e.value)) (λ p tells. tells _ e.records) c.args.passes.items s.tells)

pub returns-clause-makers : goal.returns-clause-makers
returns-clause-makers g c =
    let s = c.gather-seat.ensures in
    let e = ends g.T.Logged.entries g.T.Logged.maker g.T.Logged.basis _ _ _ _ _ _ s.outside s.numbers c.close_with-closed.ensures.values.2 in
    let found = some-injective _ _ (sym e.there ∙ c.in-Some.ensures.value) in
    let one : e.value ≡ c.into_inner.result = cc found ∙ sym c.into_inner.ensures in
    subst (λ x. All (λ y. g.T.Logged.maker y < count_of c.args.self) (g.T.Logged.entries x)) one e.makers
