-- What a new call of the realm that is settled as it comes in takes its slot for, and the machine's step with it: it settles
-- one too, by the same test.
use Rattle.std.proofs.Common.{◌≡◌, ℕ, Bool, true, false, List, Option, Some, None, refl, ap, subst, sym, ◌∙◌}
use Rattle.std.specs.Prelude.{if◌then◌else◌, is_some}
use Rattle.std.specs.Option.{option_and_then, option_map}
use Rattle.base.specs.NumberMap.{NumberMap}
use Rattle.job_model.specs.Job.{of_tee}
use Rattle.job_model.specs.Point.{no_params}
use Rattle.session_table.specs.declared.session.Session.{Session}
use Rattle.shm_registry.specs.declared.page_buffer.PageBuffer.{PageBuffer}
use Rattle.kernel_model.specs.Application.{Application, uuid_of}
use Rattle.kernel_model.specs.Argument.{Opening}
use Rattle.kernel_model.specs.Codes.{bad_parameters, busy, out_of_memory, success, target_dead}
use Rattle.kernel_model.specs.Decision.{Taken}
use Rattle.kernel_model.specs.Instances.{app_of}
use Rattle.kernel_model.specs.Kernel.{ACancel, AnInvoke, AnOpen, Cancel, Ends, Instance, PendingCall, SettledCall, ThreadSlot}
use Rattle.kernel_model.specs.NewCall.{NewCall, is_taken, keeps_buffers, named_session, settled_call, settles_invoke}
use Rattle.kernel_model.specs.NewCall.{settles_open, shares_one}
use Rattle.kernel_model.specs.NewCall as new
use Rattle.kernel_model.proofs.Parts.{option_map_some}
use Rattle.own_model.specs.Own.{input_settled, next_in}
use Rattle.own_model.specs.declared.own_event.OwnInput.{OwnInput}
use Rattle.own_model.specs.declared.own_event.OwnInput.TheVariants.{Faulty, Unread}
use Rattle.group_model.specs.Group.{Group, Home, Opener, about_none, fresh_call, invokes_with, silent, step}
use Rattle.group_model.specs.Group as machine
use Rattle.group_model.specs.Read.{settled_open_event}
use Rattle.realm_model.specs.Realm.{number_in}
use Rattle.realm_model.specs.Reading.{Notes, event_of, with_event}
use Rattle.group_model.specs.declared.group_event.GroupEvent.{GroupEvent}
use Rattle.group_model.specs.declared.group_event.GroupEvent.TheVariants as event
use Rattle.realm_model.specs.Laws.{About, AreTied, AsRealm, ComesAs, IsOne, names_of}
use Rattle.realm_model.proofs.Begins.{call_comes}
use Rattle.group_model.proofs.Lines.{slots_with}
use Rattle.group_model.proofs.NewForms.{Passes}
use Rattle.realm_model.proofs.OtherCalls.{Within}
use Rattle.realm_model.proofs.WaitingCalls.{AtHome, ComesIn, at_home, dead_same, home_at, same_app}
use Rattle.realm_model.proofs.WaitingCalls.{taken_same, tested_step}
use Rattle.group_model.specs.Group.{nobody_there}
use Rattle.job_model.specs.declared.call_kind.CallKind.TheVariants as kind
use Rattle.realm_model.proofs.Members.{as_all, as_come, come_before, not_one, noted_stops, number_named, opens_of}
use Rattle.realm_model.proofs.OpenRuns.{put}

-- where an event of it is noted, it comes in with that
abbrev pub IfNoted : About → Notes → List ThreadSlot → Group → ℕ → Taken → Type 0
IfNoted about notes slots g slot taken =
    (came : GroupEvent) → ComesAs about.members.realm about.members.app notes taken.call taken.call.kind →
    event_of about.members.realm taken.tables notes taken.call taken.call.kind ≡ Some came →
    ComesIn about notes slots g slot taken came

-- none is
never : {P : Type 0} (came : GroupEvent) → None ≡ Some came → P
never came e = absurd cc

pub settled_untold : (about : About) (notes : Notes) (slots : List ThreadSlot) (g : Group) (c : NewCall) (code : ℕ)
    → IfNoted about notes slots g c.slot (new.settles c code)
settled_untold about notes slots g c code came comes_as noted = never came noted

pub registered_untold : (about : About) (notes : Notes) (slots : List ThreadSlot) (g : Group) (c : NewCall)
    (buffers : NumberMap PageBuffer) → IfNoted about notes slots g c.slot (keeps_buffers c buffers)
registered_untold about notes slots g c buffers came comes_as noted = never came noted

-- ---- the call

-- a call that was settled so
abbrev settled_as : NewCall → SettledCall → ℕ → Option (List ℕ) → ℕ → PendingCall
settled_as c settled session uuid code =
    record (settled_call c code) { settled = settled; session = session; uuid = uuid }

-- takes its slot, and so the machine has one that was
settled_tied : (about : About) (notes : Notes) (slots : List ThreadSlot) (g : Group) (c : NewCall) (settled : SettledCall)
    (session : ℕ) (uuid : Option (List ℕ)) (cancels : Option Cancel) (area : Bool) (code : ℕ) (came : GroupEvent) (known : Option (List ℕ)) (cpu : ℕ)
    → (w : Within about notes slots g c)
    → AsRealm about.members.realm notes.next_session w.instances (machine.settles g area code)
    → AreTied about (slots_with slots cancels c.slot cpu (settled_as c settled session uuid code)) c.tables
    (record (with_event notes came) { uuid = known; numbering = next_in notes.numbering c.slot }) (machine.settles g area code)
settled_tied about notes slots g c settled session uuid cancels area code came known cpu w as_realm = record {
  instances = w.instances;
  as_realm = as_realm;
  tied = call_comes about.members (names_of about notes w.instances) slots c.tables g cancels c.slot cpu
      (settled_as c settled session uuid code)
      (fresh_call (about_none area) (Ends (of_tee code) no_params false None)) w.free w.none
      (λ kept. record {
        homes = tt;
        kinds = refl;
        seen = refl;
        areas = tt;
        buffers = refl;
        phases = (refl, refl, refl, tt);
        flagged = λ no. absurd cc;
      }) w.tied;
}

-- ---- opens

abbrev opener_of : NewCall → Opening → Opener
opener_of c wanted = record { login = wanted.login; area = is_some c.area }

-- an open that a test has stopped, where the machine's is stopped by the same
open_stops : (about : About) (notes : Notes) (slots : List ThreadSlot) (g : Group) (c : NewCall) (wanted : Opening)
    (of : Application) (code : ℕ) → Within about notes slots g c → app_of c.boot wanted.uuid ≡ Some of
    → ((IsOne about.members.realm → g ≡ nobody_there g.key) → about.members.app ≡ of → step about.most about.members.app g (settled_open_event wanted.login (of_tee code) (is_some c.area))
    ≡ Some (silent (machine.settles g (is_some c.area) code)))
    → IfNoted about notes slots g c.slot (settles_open c of wanted.login code)
open_stops about notes slots g c wanted of code w is steps came comes_as noted =
    let parts = noted_stops about.members.realm about.members.app of (settles_open c of wanted.login code).call wanted.login
    (of_tee code) came w.shares refl noted in
    subst (ComesIn about notes slots g c.slot (settles_open c of wanted.login code)) parts.event (record {
      next = machine.settles g (is_some c.area) code;
      steps = steps (λ one. not_one about.members.realm parts.all one)
          (same_app about notes slots g c wanted.uuid of w is parts.uuid);
      tied = λ cpu.
          settled_tied about notes slots g c (AnOpen wanted.login) 0 (Some (uuid_of of)) None (is_some c.area) code
          (settled_open_event wanted.login (of_tee code) (is_some c.area)) (Some (uuid_of of)) cpu w
          (as_all about.members.realm notes.next_session w.instances _ parts.all);
    })

pub open_dead : (about : About) (notes : Notes) (slots : List ThreadSlot) (g : Group) (c : NewCall) (wanted : Opening)
    (of : Application) → Within about notes slots g c → app_of c.boot wanted.uuid ≡ Some of
    → shares_one c of (λ (k : ℕ × Instance). k.1.dead) ≡ true
    → IfNoted about notes slots g c.slot (settles_open c of wanted.login target_dead)
open_dead about notes slots g c wanted of w is dead =
    open_stops about notes slots g c wanted of target_dead w is
    (λ yet same.
    tested_step about.most about.members.app g Unread (opener_of c wanted) false true (machine.is_taken about.members.app g)
    (dead_same about notes slots g c w yet
    ∙ ap (λ (a : Application). shares_one c a (λ (k : ℕ × Instance). k.1.dead)) same ∙ dead) refl)

pub open_busy : (about : About) (notes : Notes) (slots : List ThreadSlot) (g : Group) (c : NewCall) (wanted : Opening)
    (of : Application) → Within about notes slots g c → app_of c.boot wanted.uuid ≡ Some of
    → shares_one c of (λ (k : ℕ × Instance). k.1.dead) ≡ false → is_taken c of ≡ true
    → IfNoted about notes slots g c.slot (settles_open c of wanted.login busy)
open_busy about notes slots g c wanted of w is alive taken =
    open_stops about notes slots g c wanted of busy w is
    (λ yet same.
    tested_step about.most about.members.app g Unread (opener_of c wanted) false false true
    (dead_same about notes slots g c w yet
    ∙ ap (λ (a : Application). shares_one c a (λ (k : ℕ × Instance). k.1.dead)) same ∙ alive)
    (taken_same about notes slots g c w yet ∙ ap (λ (a : Application). is_taken c a) same ∙ taken))

-- no test of the instance stops the machine's
passing : (about : About) (notes : Notes) (slots : List ThreadSlot) (g : Group) (c : NewCall) (wanted : Opening)
    (of : Application) (input : OwnInput) (limited : Bool) → Within about notes slots g c → Passes c wanted of
    → (IsOne about.members.realm → g ≡ nobody_there g.key) → about.members.app ≡ of → step about.most about.members.app g (event.Open input wanted.login limited (is_some c.area))
    ≡ option_map silent (if limited then Some (machine.settles g (is_some c.area) out_of_memory)
    else machine.opens_with about.members.app g input (opener_of c wanted))
passing about notes slots g c wanted of input limited w passes yet same =
    tested_step about.most about.members.app g input (opener_of c wanted) limited false false
    (dead_same about notes slots g c w yet
    ∙ ap (λ (a : Application). shares_one c a (λ (k : ℕ × Instance). k.1.dead)) same ∙ passes.alive)
    (taken_same about notes slots g c w yet ∙ ap (λ (a : Application). is_taken c a) same ∙ passes.free)

pub open_limited : (about : About) (notes : Notes) (slots : List ThreadSlot) (g : Group) (c : NewCall) (wanted : Opening)
    (of : Application) → Within about notes slots g c → Passes c wanted of
    → IfNoted about notes slots g c.slot (settles_open c of wanted.login out_of_memory)
open_limited about notes slots g c wanted of w passes =
    open_stops about notes slots g c wanted of out_of_memory w passes.of_boot
    (λ yet same. passing about notes slots g c wanted of Unread true w passes yet same)

pub open_faulty : (about : About) (notes : Notes) (slots : List ThreadSlot) (g : Group) (c : NewCall) (wanted : Opening)
    (of : Application) → Within about notes slots g c → Passes c wanted of
    → IfNoted about notes slots g c.slot (settles_open c of wanted.login bad_parameters)
open_faulty about notes slots g c wanted of w passes =
    open_stops about notes slots g c wanted of bad_parameters w passes.of_boot
    (λ yet same. passing about notes slots g c wanted of Faulty false w passes yet same)

-- ---- calls in an opened session

invoke_stops : (about : About) (notes : Notes) (slots : List ThreadSlot) (g : Group) (c : NewCall)
    (named : Session × Instance) (code : ℕ) → (w : Within about notes slots g c) → named_session c ≡ Some named
    → ((number : ℕ) → AtHome about notes w.instances g named number
    → step about.most about.members.app g (event.Invoke number c.head.func (input_settled (of_tee code)) (is_some c.area))
    ≡ Some (silent (machine.settles g (is_some c.area) code)))
    → IfNoted about notes slots g c.slot (settles_invoke c code)
invoke_stops about notes slots g c named code w is steps came comes_as noted =
    let come = come_before about.members.realm about.members.app notes (settles_invoke c code).call kind.Settled (λ no. cc)
    comes_as in
    let at = option_map_some
    (λ (session : ℕ). event.Invoke session c.head.func (input_settled (of_tee code)) (is_some c.area))
    (number_in about.members.realm notes.sessions c.head.session) came noted in
    let has = number_named about.members.realm notes.sessions c.head.session at.0 come at.1 in
    subst (ComesIn about notes slots g c.slot (settles_invoke c code)) at.2 (record {
      next = machine.settles g (is_some c.area) code;
      steps = steps at.0 (at_home about notes slots g c named at.0 w is has);
      tied = λ cpu.
          settled_tied about notes slots g c (AnInvoke c.head.func) c.head.session None None (is_some c.area) code
          (event.Invoke at.0 c.head.func (input_settled (of_tee code)) (is_some c.area)) notes.uuid cpu w
          (as_come about.members.realm notes.sessions c.tables.next_session notes.next_session w.instances g _ come
          w.tied.session_names w.as_realm
          (λ one. put g.calls g.entered _ (opens_of about.members.realm notes.next_session w.instances g w.as_realm one) (λ params kinds waits. cc)));
    })

-- the machine's step at an invoke
pub invoke_step : (about : About) (notes : Notes) (instances : NumberMap ℕ) (g : Group) (named : Session × Instance)
    (number func : ℕ) (input : OwnInput) (area dead : Bool) → (h : AtHome about notes instances g named number)
    → named.1.dead ≡ dead → step about.most about.members.app g (event.Invoke number func input area)
    ≡ option_map silent (if dead then Some (machine.settles g area target_dead)
    else invokes_with about.members.app g func input area (home_at number h.session h.instance))
invoke_step about notes instances g named number func input area dead h is =
    ap (λ (o : Option Home). option_map silent (option_and_then (machine.invokes about.members.app g func input area) o)) h.home_is
    ∙ ap (λ (b : Bool). option_map silent (if b then Some (machine.settles g area target_dead)
    else invokes_with about.members.app g func input area (home_at number h.session h.instance))) (sym h.alike.dead ∙ is)

pub invoke_dead : (about : About) (notes : Notes) (slots : List ThreadSlot) (g : Group) (c : NewCall)
    (named : Session × Instance) → Within about notes slots g c → named_session c ≡ Some named → named.1.dead ≡ true
    → IfNoted about notes slots g c.slot (settles_invoke c target_dead)
invoke_dead about notes slots g c named w is dead =
    invoke_stops about notes slots g c named target_dead w is
    (λ number h.
    invoke_step about notes w.instances g named number c.head.func Unread (is_some c.area) true h dead)

pub invoke_faulty : (about : About) (notes : Notes) (slots : List ThreadSlot) (g : Group) (c : NewCall)
    (named : Session × Instance) → Within about notes slots g c → named_session c ≡ Some named → named.1.dead ≡ false
    → IfNoted about notes slots g c.slot (settles_invoke c bad_parameters)
invoke_faulty about notes slots g c named w is alive =
    invoke_stops about notes slots g c named bad_parameters w is
    (λ number h.
    invoke_step about notes w.instances g named number c.head.func Faulty (is_some c.area) false h alive)

-- a cancel marks calls of the session, which the machine doesn't see yet
pub cancels : (about : About) (notes : Notes) (slots : List ThreadSlot) (g : Group) (c : NewCall)
    (named : Session × Instance) → Within about notes slots g c → named_session c ≡ Some named
    → IfNoted about notes slots g c.slot (new.cancels c)
cancels about notes slots g c named w is came comes_as noted =
    let come = come_before about.members.realm about.members.app notes (new.cancels c).call kind.Settled (λ no. cc)
    comes_as in
    let at = option_map_some (λ (session : ℕ). event.Cancel session)
    (number_in about.members.realm notes.sessions c.head.session) came noted in
    let has = number_named about.members.realm notes.sessions c.head.session at.0 come at.1 in
    let h = at_home about notes slots g c named at.0 w is has in
    subst (ComesIn about notes slots g c.slot (new.cancels c)) at.2 (record {
      next = machine.settles g false success;
      steps = ap (λ (o : Option Home). option_map (λ (m : Home). silent (machine.settles g false success)) o) h.home_is;
      tied = λ cpu.
          settled_tied about notes slots g c ACancel c.head.session None (new.cancels c).cancels false success
          (event.Cancel at.0) notes.uuid cpu w
          (as_come about.members.realm notes.sessions c.tables.next_session notes.next_session w.instances g _ come
          w.tied.session_names w.as_realm
          (λ one. put g.calls g.entered _ (opens_of about.members.realm notes.next_session w.instances g w.as_realm one) (λ params kinds waits. cc)));
    })
