-- What a change of a call as data leaves of the kernel's call.
use Rattle.std.proofs.Common.{◌≡◌, ℕ, List, Option, sym, ◌∙◌, ap, subst}
use Rattle.kernel_model.specs.Kernel.{CallPhase, PendingCall}
use Rattle.kernel_state.specs.Calls.{IsAppOf, IsCall, IsInPhase}
use Rattle.rpc_cont.specs.declared.app.ContApp.{ContApp}
use Rattle.rpc_cont.specs.declared.cont.Cont.{Cont}

-- ---- what a phase doesn't change

-- all of a call but how far it has come
pub record Keeps (old new : Cont (List ℕ)) : Type 0 where
  pub client : new.client ≡ old.client
  pub kind : new.kind ≡ old.kind
  pub app : new.app ≡ old.app
  pub login : new.login ≡ old.login
  pub arg : new.arg ≡ old.arg
  pub area : new.area ≡ old.area
  pub places : new.places ≡ old.places
  pub session : new.session ≡ old.session
  pub instance : new.instance ≡ old.instance
  pub seen : new.cancelled ≡ old.cancelled
  pub steps : new.steps ≡ old.steps
  pub buffer : new.buffer ≡ old.buffer

pub in_phase : (old new : Cont (List ℕ)) (call : PendingCall) (at : CallPhase) →
    Keeps old new → IsCall old call → IsInPhase new at → IsCall new (record call { phase = at })
in_phase old new call at keeps is phase = record {
  client = keeps.client ∙ is.client;
  kind = keeps.kind ∙ is.kind;
  app = subst (λ (app : Option (ContApp)). IsAppOf app call.uuid) (sym keeps.app) is.app;
  login = λ login settled opens. keeps.login ∙ is.login login (sym keeps.kind ∙ settled) opens;
  arg = keeps.arg ∙ is.arg;
  area = keeps.area ∙ is.area;
  places = ap (λ (places : _). places.items) keeps.places ∙ is.places;
  session = keeps.session ∙ is.session;
  instance = keeps.instance ∙ is.instance;
  seen = keeps.seen ∙ is.seen;
  steps = keeps.steps ∙ is.steps;
  buffer = keeps.buffer ∙ is.buffer;
  phase = phase;
}
