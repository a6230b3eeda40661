use Rattle.deb_control.proofs.RefusalLemmas.{bad_names_law, bad_versions_law}
use Rattle.deb_control.proofs.laws.refused.Goals as goal

pub returns : goal.returns
returns c = record { names = bad_names_law; versions = bad_versions_law }
