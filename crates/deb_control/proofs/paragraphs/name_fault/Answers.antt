use Rattle.deb_control.proofs.Names.{bad_name, no_name}
use Rattle.deb_control.proofs.paragraphs.name_fault.Goals as goal

pub returns-in-Some : goal.returns-in-Some
returns-in-Some c names = bad_name c.args.whole.now _ names c.in-Some.ensures c.requires

pub returns-in-None : goal.returns-in-None
returns-in-None c names = no_name c.args.whole.now names c.in-None.ensures
