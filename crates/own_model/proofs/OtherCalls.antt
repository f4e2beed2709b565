-- The session that a new call names is there, and so is its instance.
use Rattle.std.proofs.Common.{◌≡◌, ℕ, Bool, true, false, Some, None, ap, sym, ◌∙◌}
use Rattle.std.proofs.Common.{arith}
use Rattle.std.specs.Prelude.{◌&&◌, if◌then◌else◌, ◌==◌, ◌<◌}
use Rattle.std.specs.Option.{option_map}
use Rattle.std.proofs.lemmas.Option.{option_and_then_some}
use Rattle.base.specs.NumberMap.{get}
use Rattle.session_table.specs.declared.session.Session.{Session}
use Rattle.kernel_model.specs.Kernel.{Instance}
use Rattle.kernel_model.specs.NewCall.{NewCall}
use Rattle.kernel_model.specs.NewCall.{named_session}
use Rattle.kernel_model.specs.Sessions.{opened_by}
use Rattle.kernel_model.proofs.Parts.{option_map_some}

-- ---- what is given

pub less : (m n : ℕ) → m < n → n ≡ m → ⊥
less m n lt e = grind (arith)

-- ---- invoke and close

-- the named session is there, and so is its instance
pub named_parts : (c : NewCall) (named : Session × Instance) → named_session c ≡ Some named
    → (get c.tables.sessions c.head.session ≡ Some named.0) × (get c.tables.instances named.0.instance ≡ Some named.1)
named_parts c named e =
    option_and_then_some (λ (session : Session). option_map (λ instance. (session, instance))
    (get c.tables.instances session.instance))
    (opened_by c.tables.sessions c.head.session c.client) named e
    (λ session opened beside.
    option_and_then_some (λ (s : Session). if s.opened && (s.client == c.client) then Some s else None)
    (get c.tables.sessions c.head.session) session opened
    (λ kept there own.
    let paired = option_map_some (λ (instance : Instance). (session, instance))
    (get c.tables.instances session.instance) named beside in
    let first : session ≡ named.0 = ap (λ (n : Session × Instance). n.0) paired.2 in
    let second : paired.0 ≡ named.1 = ap (λ (n : Session × Instance). n.1) paired.2 in
    let same : kept ≡ session = kept_is kept session (kept.opened && (kept.client == c.client)) own in (
      there ∙ ap (λ (s : Session). Some s) (same ∙ first),
      ap (λ (s : Session). get c.tables.instances s.instance) (sym first) ∙ paired.1
          ∙ ap (λ (i : Instance). Some i) second,
    )))
  where
    kept_is : (kept session : Session) (test : Bool) → (if test then Some kept else None) ≡ Some session
        → kept ≡ session
    kept_is kept session true e = cc
    kept_is kept session false e = absurd cc
