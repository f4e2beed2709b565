-- Calls that come in.
use Rattle.group_model.specs.Group as model
use Rattle.group_solo.specs.declared.about.About.{About}
use Rattle.group_solo.specs.declared.opener.Opener.{Opener}

abbrev pub about_of : About → model.About
about_of about = record { kind = about.kind; area = about.area; session = about.session; instance = about.instance }

abbrev pub opener_of : Opener → model.Opener
opener_of opener = record { login = opener.login; area = opener.area }
