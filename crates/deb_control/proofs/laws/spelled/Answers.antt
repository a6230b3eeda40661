use Rattle.deb_control.proofs.SourceLemmas.{sources_law}
use Rattle.deb_control.proofs.SpellingLemmas.{clauses_law, provisions_law}
use Rattle.deb_control.proofs.laws.spelled.Goals as goal

pub returns : goal.returns
returns c = record { clauses = clauses_law; provisions = provisions_law; sources = sources_law }
