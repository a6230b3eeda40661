-- A few of all sources, by the hashes of their names.
use Rattle.std.specs.Prelude.{ℕ, Bool, ◌==◌, List, map, filter}
use Rattle.std.specs.List.{list_any}
use Rattle.testing_install.specs.Index.{hash_of}
use Rattle.testing_rules_model.specs.declared.excuse.Excuse.{Excuse}
use Rattle.testing_rules_model.specs.declared.suite.RowIn.{RowIn}
use Rattle.testing_rules_items.specs.Words.{Text}

-- the hashes of the names of the sources with an excuse
abbrev pub excused : List Excuse → List ℕ
excused excuses = map (λ e. hash_of e.source) excuses

-- the hash is one of these
abbrev pub is_one_of : List ℕ → ℕ → Bool
is_one_of hashes hash = list_any (λ h. hash == h) hashes

-- a source passes if the hash of its name is one of these
abbrev pub hash_passes : List ℕ → Text → Bool
hash_passes hashes name = is_one_of hashes (hash_of name)

-- the rows of the sources that pass
abbrev pub passing_rows : List ℕ → List RowIn → List RowIn
passing_rows hashes rows = filter (λ r. hash_passes hashes r.binary.source) rows
