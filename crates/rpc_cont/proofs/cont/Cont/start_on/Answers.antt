use Rattle.std.proofs.Common.{◌≡◌, ℕ, List, ◌∷◌, ap, sym, subst, ◌∙◌}
use Rattle.job_model.specs.Owner.{owner_of}
use Rattle.job_model.specs.Beginning.{begun_job}
use Rattle.job_model.specs.Job.{Job, Nothing, image_job_at}
use Rattle.rpc_cont.specs.Beginning.{beginning_on, held_uuid}
use Rattle.rpc_cont.specs.Conts.{job_at, job_with}
use Rattle.rpc_cont.specs.declared.cont.Cont.{Cont}
use Rattle.rpc_cont.specs.declared.held.Held.{Held}
use Rattle.ta_isa.specs.declared.image.Image.{Image}
use Rattle.rpc_cont.proofs.cont.Cont.start_on.Goals as goal

pub returns-in-Image-clause-begins : goal.returns-in-Image-clause-begins
returns-in-Image-clause-begins g c =
    let bytes = g.M.TaMemory.bytes in
    let old = c.args.self.now in
    let owner = owner_of c.in-Image.uuid old.key in
    let job : Job = job_with Nothing owner old in
    let begins =
    subst (λ (i : Image). job_at bytes owner i c.begin.new.self ≡ image_job_at i (bytes c.in-Image.memory) old.cancelled job c.args.first c.args.behind.items)
    c.deref.ensures (c.begin.ensures.begins owner)
    in
    let left = job_at bytes owner c.in-Image.image.value c.begin.new.self in
    let same : c.begin.new.self.key ≡ old.key = ap (λ (cont : Cont _). cont.key) c.begin.ensures.stays in
    ap (λ (key : List ℕ). job_at bytes (owner_of c.in-Image.uuid key) c.in-Image.image.value c.begin.new.self) same
    ∙ subst (λ (h : Held _). left ≡ begun_job (beginning_on bytes h old.cancelled) (job_with Nothing (owner_of (held_uuid h) old.key) old) (c.args.first ∷ c.args.behind.items))
    (sym c.in-Image.is) begins
