-- The open of a session is in a slot and hasn't ended: its session is kept, on an instance of the application that it names, or for
-- which it waits.
use Rattle.std.proofs.Common.{◌≡◌, ℕ, ◌<◌, true, false, List, Option, Some, inl, inr, refl, ap, subst, sym, ◌∙◌}
use Rattle.std.proofs.lemmas.Option.{option_and_then_some}
use Rattle.base.specs.NumberMap.{get}
use Rattle.event_journal.specs.declared.event.Event.{Event}
use Rattle.job_model.specs.Job.{Job}
use Rattle.kernel_model.specs.Application.{Application, Booted}
use Rattle.kernel_model.specs.History.{kernel_after}
use Rattle.kernel_model.specs.Instances.{app_of}
use Rattle.kernel_model.specs.Kernel.{Asks, CallPhase, Ends, Kernel, Runs, Waits}
use Rattle.kernel_model.specs.Sound as sound
use Rattle.kernel_model.specs.Sound.{unmarked}
use Rattle.kernel_model.specs.SoundCalls.{Fits, HasSession, is_over, is_told, job_in}
use Rattle.kernel_model.specs.SoundNumbers.{AreGivenTo, is_on_instance}
use Rattle.kernel_model.specs.SoundWaiters.{awaited, awaited_in}
use Rattle.kernel_model.proofs.OfOneApp.{HasOpen}
use Rattle.kernel_model.proofs.SoundCallsJoined.{all_joined}
use Rattle.kernel_model.proofs.SoundClaims.{Claims}
use Rattle.kernel_model.proofs.SoundNumbers.{numbered}
use Rattle.own_model.proofs.BelowNumbers.{unmarked_there}
use Rattle.own_model.specs.Isolation.{HasPendingOpen}

-- the open of the session is in a slot, and hasn't ended
pub record IsOpening (session : ℕ) (uuid : List ℕ) (kernel : Kernel) : Type 0 where
  pub has : HasOpen session uuid kernel
  pub pending : is_over has.call.phase ≡ false

-- ---- what is known of it

-- the call works
abbrev IsAtWork : CallPhase → Type 0
IsAtWork phase = (job : Job) × (job_in phase ≡ Some job)

untold : (phase : CallPhase) → is_over phase ≡ false → is_told phase ≡ false
untold (Runs job) e = refl
untold (Asks job wanted payload) e = refl
untold (Waits params) e = refl
untold (Ends result params told wakes) e = absurd cc

some_uuid : (a b : List ℕ) → Some a ≡ Some b → a ≡ b
some_uuid a b e = cc

module _ (boot : Booted) (history : List Event) (kernel : Kernel) (there : kernel_after boot history ≡ Some kernel)
    (session : ℕ) (uuid : List ℕ) (o : IsOpening session uuid kernel) where
  fits : Fits kernel.tables o.has.slot o.has.call
  fits = (all_joined boot history kernel there).each o.has.slot o.has.call o.has.in_slot

  given : AreGivenTo kernel.tables o.has.call
  given = (numbered boot history kernel there).given o.has.slot o.has.call o.has.in_slot

  on_instance : is_on_instance o.has.call.kind ≡ true
  on_instance = ap is_on_instance o.has.opens

  -- its session was given, and is kept, on the call's instance
  pub opening_given : (0 < session) × (session < kernel.tables.next_session)
  opening_given = (
    subst (λ n. 0 < n) o.has.of_session (given.some on_instance).0,
    subst (λ n. n < kernel.tables.next_session) o.has.of_session given.session,
  )

  pub opening_kept : HasSession (get kernel.tables.sessions session) o.has.call false
  opening_kept =
      subst (λ n. HasSession (get kernel.tables.sessions n) o.has.call false) o.has.of_session
      (fits.session.opening o.has.opens o.has.untold)

  held : (phase : CallPhase) → o.has.call.phase ≡ phase → IsAtWork phase
      → Claims (sound.unmarked_at kernel.slots) kernel.tables.instances o.has.call.instance uuid
  held phase is works =
      let holds = fits.instance.working works.0 (ap job_in is ∙ works.1) in
      inl (holds.instance, holds.kept, some_uuid holds.instance.uuid uuid (sym holds.uuid ∙ o.has.of_app))

  -- which is kept for it, or which it waits for
  pub opening_claims : Claims (sound.unmarked_at kernel.slots) kernel.tables.instances o.has.call.instance uuid
  opening_claims = by o.has.call.phase refl o.pending
    where
      by : (phase : CallPhase) → o.has.call.phase ≡ phase → is_over phase ≡ false
          → Claims (sound.unmarked_at kernel.slots) kernel.tables.instances o.has.call.instance uuid
      by (Runs job) is pending = held (Runs job) is (job, refl)
      by (Asks job wanted payload) is pending = held (Asks job wanted payload) is (job, refl)
      by (Waits params) is pending =
          inr (
            o.has.slot,
            ap awaited o.has.in_slot
                ∙ ap (λ (q : CallPhase). awaited_in q (o.has.call.instance, o.has.call.uuid)) is
                ∙ ap (λ (u : Option (List ℕ)). awaited_in (Waits params) (o.has.call.instance, u)) o.has.of_app,
          )
      by (Ends result params told wakes) is pending = absurd cc

-- by the UUID that it names
pub record Opens (boot : Booted) (kernel : Kernel) (session : ℕ) (app : Application) : Type 0 where
  pub uuid : List ℕ
  pub of_boot : app_of boot uuid ≡ Some app
  pub opening : IsOpening session uuid kernel

pub opens_so : (boot : Booted) (kernel : Kernel) (session : ℕ) (app : Application) → HasPendingOpen boot kernel session app
    → Opens boot kernel session app
opens_so boot kernel session app p =
    option_and_then_some (app_of boot) p.call.uuid app p.of_app
    (λ uuid names of_boot. record {
      uuid = uuid;
      of_boot = of_boot;
      opening = record {
        has = record {
          slot = p.slot;
          call = unmarked p.call;
          in_slot = unmarked_there kernel.slots p.slot p.call p.in_slot;
          opens = p.opens;
          untold = untold p.call.phase p.pending;
          of_session = p.of_session;
          of_app = names;
        };
        pending = p.pending;
      };
    })
