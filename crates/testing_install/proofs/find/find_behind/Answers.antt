use Rattle.testing_install.proofs.Finding.{within_rest}
use Rattle.testing_install.proofs.Places.{length-binaries}
use Rattle.testing_install.proofs.find.find_behind.Goals as goal

pub find_among-requires-clause-places : goal.find_among-requires-clause-places
find_among-requires-clause-places c = within_rest _ _ _ _ _ c.places_from-left.ensures c.places.ensures (length-binaries c.args.rows.now) (c.requires.index.within c.as_str.result.now)
