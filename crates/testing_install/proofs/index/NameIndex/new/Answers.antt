use Rattle.testing_install.proofs.Indexing.{places_none}
use Rattle.testing_install.specs.Index.{hash_of}
use Rattle.testing_install.proofs.index.NameIndex.new.Goals as goal

pub returns : goal.returns
returns c = λ name. places_none c.new.result (hash_of name) c.new.ensures.empty
