-- What the end of a call makes of the sessions is what the machine makes of its own.
use Rattle.std.proofs.Common.{◌≡◌, ℕ, Bool, true, false, Option, Some, None, refl, ap, subst, sym, ◌∙◌}
use Rattle.std.specs.Prelude.{◌==◌, if◌then◌else◌}
use Rattle.std.specs.Option.{option_map_or}
use Rattle.std.proofs.lemmas.Bool.Decides.{Decides-eqb}
use Rattle.base.specs.NumberMap.{NumberMap, IsRising, IsRising-insert, IsRising-remove, get, insert, remove}
use Rattle.job_model.specs.declared.call_kind.CallKind.{CallKind}
use Rattle.job_model.specs.declared.call_kind.CallKind.TheVariants as kind
use Rattle.job_model.specs.Steps.{End}
use Rattle.session_table.specs.declared.session.Session.{Session}
use Rattle.session_table.specs.Session.{opened_with}
use Rattle.session_table.specs.Sessions.{settled}
use Rattle.kernel_model.specs.Codes.{success}
use Rattle.kernel_model.specs.Kernel.{Instance, PendingCall}
use Rattle.kernel_model.specs.Sessions.{sessions_after, sessions_after_panic, sessions_unrun}
use Rattle.own_model.proofs.InOrder.{by_numbers}
use Rattle.own_model.proofs.Maps.{get-insert-other, get-insert-same, get-inserted}
use Rattle.own_model.specs.Tied.{FoundAlike}
use Rattle.group_model.specs.Group.{GroupCall, GroupSession}
use Rattle.group_model.specs.Group as machine
use Rattle.group_model.specs.Tied.{AreTiedSessions, HomesAlike, SessionsAlike}
use Rattle.group_model.specs.Tied.{SessionsFoundAlike, found_at}
use Rattle.group_model.proofs.Alike.{AreApart, sessions_removed}

same_some : (a b : ℕ) → Some a ≡ Some b → a ≡ b
same_some a b e = cc

abbrev there_is : ℕ → Instance → Option (ℕ × Instance)
there_is number instance = Some (number, instance)

never_none : {P : Type 0} (found : Option ℕ) (number : ℕ) → found ≡ Some number → found ≡ None → P
never_none found number some none = let no : Some number ≡ None = sym some ∙ none in absurd cc

-- ---- sessions

-- the sessions are tied, and their numbers rise
pub record SessionsGo (names instances : NumberMap ℕ) (kept : NumberMap Session)
    (own : NumberMap GroupSession) : Type 0 where
  pub tied : AreTiedSessions names instances kept own
  pub rising : IsRising kept

found_alike : (instances : NumberMap ℕ) (a b : Option Session) (c d : Option GroupSession) → a ≡ b → c ≡ d
    → SessionsFoundAlike instances b d → SessionsFoundAlike instances a c
found_alike instances a b c d first second alike =
    subst (λ (o : Option Session). SessionsFoundAlike instances o c) (sym first)
    (subst (λ (o : Option GroupSession). SessionsFoundAlike instances b o) (sym second) alike)

-- under one of the numbers
sessions_put : (names instances : NumberMap ℕ) (kept : NumberMap Session) (own : NumberMap GroupSession)
    (number own_number : ℕ) (session : Session) (own_session : GroupSession) → AreApart names
    → get names number ≡ Some own_number → SessionsAlike instances session own_session
    → AreTiedSessions names instances kept own
    → AreTiedSessions names instances (insert kept number session) (insert own own_number own_session)
sessions_put names instances kept own number own_number session own_session apart named alike tied = record {
  alike = λ at own_at has.
      by_numbers number at
      (λ same.
      found_alike instances (get (insert kept number session) at) (Some session)
      (get (insert own own_number own_session) own_at) (Some own_session)
      (ap (λ n. get (insert kept number session) n) (sym same) ∙ get-insert-same kept number session)
      (ap (λ n. get (insert own own_number own_session) n)
      (same_some own_at own_number (sym has ∙ ap (λ n. get names n) (sym same) ∙ named))
      ∙ get-insert-same own own_number own_session) alike)
      (λ other.
      found_alike instances (get (insert kept number session) at) (get kept at)
      (get (insert own own_number own_session) own_at) (get own own_at)
      (get-insert-other kept number session at other)
      (get-insert-other own own_number own_session own_at
      (λ same. other (apart number at own_at (named ∙ ap (λ n. Some n) same) has)))
      (tied.alike at own_at has));
  all = λ own_at there found.
      get-inserted own own_number own_session own_at there found
      (λ same is. (number, named ∙ ap (λ n. Some n) (sym same)))
      (λ was. tied.all own_at there was);
  others = λ at there found none.
      get-inserted kept number session at there found
      (λ same is. never_none (get names number) own_number named (ap (λ n. get names n) (sym same) ∙ none))
      (λ was. tied.others at there was none);
  rising = IsRising-insert own own_number own_session tied.rising;
}

goes : (names instances : NumberMap ℕ) (kept : NumberMap Session) (own : NumberMap GroupSession)
    (number own_number : ℕ) → AreApart names → get names number ≡ Some own_number
    → SessionsGo names instances kept own
    → SessionsGo names instances (remove kept number) (remove own own_number)
goes names instances kept own number own_number apart named go = record {
  tied = sessions_removed names instances kept own number own_number apart named go.tied;
  rising = IsRising-remove kept number go.rising;
}

-- it is opened, where it is there
opens_found : (names instances : NumberMap ℕ) (kept : NumberMap Session) (own : NumberMap GroupSession)
    (number own_number context : ℕ) (found : Option Session) (own_found : Option GroupSession) → AreApart names
    → get names number ≡ Some own_number → SessionsFoundAlike instances found own_found
    → SessionsGo names instances kept own
    → SessionsGo names instances
    (option_map_or (λ (session : Session). insert kept number (opened_with session context)) found kept)
    (option_map_or
    (λ (session : GroupSession). insert own own_number (record session { context = context; opened = true })) own_found own)
opens_found names instances kept own number own_number context None None apart named alike go = go
opens_found names instances kept own number own_number context (Some session) (Some other) apart named alike go = record {
  tied = sessions_put names instances kept own number own_number (opened_with session context)
      (record other { context = context; opened = true }) apart named
      (record { login = alike.login; context = refl; opened = refl; instance = alike.instance }) go.tied;
  rising = IsRising-insert kept number (opened_with session context) go.rising;
}
opens_found names instances kept own number own_number context None (Some other) apart named alike go = absurd alike
opens_found names instances kept own number own_number context (Some session) None apart named alike go = absurd alike

-- after its job has ended
pub ended_so : (names instances : NumberMap ℕ) (kept : NumberMap Session) (own : NumberMap GroupSession)
    (call : PendingCall) (own_call : GroupCall) (call_kind : CallKind) (end : End) → AreApart names
    → HomesAlike names instances call own_call call_kind → SessionsGo names instances kept own
    → SessionsGo names instances (sessions_after call_kind kept call.session end.result.result end.context)
    (machine.sessions_ended call_kind own own_call.session end)
ended_so names instances kept own call own_call kind.Open end apart homes go =
    by_test (end.result.result == success)
  where
    by_test : (test : Bool)
        → SessionsGo names instances
        (if test then settled kept call.session end.context else remove kept call.session)
        (if test then machine.opened_with own own_call.session end.context else remove own own_call.session)
    by_test true = opens_found names instances kept own call.session own_call.session end.context
        (get kept call.session) (get own own_call.session) apart homes.0
        (go.tied.alike call.session own_call.session homes.0) go
    by_test false = goes names instances kept own call.session own_call.session apart homes.0 go
ended_so names instances kept own call own_call (kind.Invoke func) end apart homes go = go
ended_so names instances kept own call own_call kind.Close end apart homes go =
    goes names instances kept own call.session own_call.session apart homes.0 go
ended_so names instances kept own call own_call kind.Settled end apart homes go = go

-- after a panic
pub panicked_so : (names instances : NumberMap ℕ) (kept : NumberMap Session) (own : NumberMap GroupSession)
    (call : PendingCall) (own_call : GroupCall) (call_kind : CallKind) → AreApart names
    → HomesAlike names instances call own_call call_kind → SessionsGo names instances kept own
    → SessionsGo names instances (sessions_after_panic call_kind kept call.session)
    (machine.sessions_panicked call_kind own own_call.session)
panicked_so names instances kept own call own_call kind.Open apart homes go =
    goes names instances kept own call.session own_call.session apart homes.0 go
panicked_so names instances kept own call own_call (kind.Invoke func) apart homes go = go
panicked_so names instances kept own call own_call kind.Close apart homes go =
    goes names instances kept own call.session own_call.session apart homes.0 go
panicked_so names instances kept own call own_call kind.Settled apart homes go = go

-- after it has ended without having run
pub unrun_so : (names instances : NumberMap ℕ) (kept : NumberMap Session) (own : NumberMap GroupSession)
    (call : PendingCall) (own_call : GroupCall) (call_kind : CallKind) → AreApart names
    → HomesAlike names instances call own_call call_kind → SessionsGo names instances kept own
    → SessionsGo names instances (sessions_unrun call_kind kept call.session)
    (machine.sessions_unrun call_kind own own_call.session)
unrun_so names instances kept own call own_call kind.Open apart homes go =
    goes names instances kept own call.session own_call.session apart homes.0 go
unrun_so names instances kept own call own_call (kind.Invoke func) apart homes go = go
unrun_so names instances kept own call own_call kind.Close apart homes go = go
unrun_so names instances kept own call own_call kind.Settled apart homes go = go

-- ---- the instance

-- an instance of the machine is the one that is there
pub one_there : (own : Option (ℕ × Instance)) (number : ℕ) (instance : Instance) → found_at own number ≡ Some instance
    → own ≡ Some (number, instance)
one_there None number instance found = absurd cc
one_there (Some (one, kept)) number instance found = by_test (one == number) refl found
  where
    by_test : (test : Bool) → (one == number) ≡ test → (if test then Some kept else None) ≡ Some instance
        → there_is one kept ≡ there_is number instance
    by_test true is it =
        let same : kept ≡ instance = cc in
        ap (λ n. there_is n kept) ((Decides-eqb one number).0 is) ∙ ap (λ (i : Instance). there_is number i) same
    by_test false is it = absurd cc

-- under no other of the numbers is there one
abbrev pub NoOther : (names in_slots : NumberMap ℕ) → NumberMap Instance → ℕ → Type 0
NoOther names in_slots kept number = (at own_at : ℕ) → get names at ≡ Some own_at → (number ≡ at → ⊥) →
    FoundAlike in_slots (get kept at) None
