use Rattle.testing_install.proofs.Indexing.{added_under}
use Rattle.testing_install.proofs.index.NameIndex.note.Goals as goal

pub returns : goal.returns
returns c = added_under _ _ _ _ _ c.hash_of.ensures c.in_ok-note_under.ensures
