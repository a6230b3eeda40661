use Rattle.std.proofs.Common.{ap, []}
use Rattle.std.specs.Option.{option_map_or}
use Rattle.smallvec.specs.SmallVec.{SmallVec}
use Rattle.std.proofs.Common.{ℕ}
use Rattle.testing_install.specs.Index.{hash_of}
use Rattle.testing_install.proofs.index.NameIndex.reserve.Goals as goal

pub returns : goal.returns
returns c = λ name. ap (λ o. option_map_or (λ (v : SmallVec ℕ). v.items) o []) (c.reserve.ensures.entries.2 (hash_of name))
