use Rattle.realm_model.proofs.OtherResumes.{other_resume as law}
use Rattle.realm_model.proofs.ties.resumes_of_others_keep_realms.Goals as goal

pub returns : goal.returns
returns c = law
