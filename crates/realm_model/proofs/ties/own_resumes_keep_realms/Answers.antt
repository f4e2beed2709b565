use Rattle.realm_model.proofs.OwnResumes.{own_resume as law}
use Rattle.realm_model.proofs.ties.own_resumes_keep_realms.Goals as goal

pub returns : goal.returns
returns c = law
