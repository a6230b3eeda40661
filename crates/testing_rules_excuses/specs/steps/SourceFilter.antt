-- A few of all sources, by the hashes of their names.
use Rattle.std.specs.Prelude.{ℕ, List, map}
use Rattle.testing_install.specs.Index.{hash_of}
use Rattle.testing_rules_excuses.specs.declared.by_source.News.{News}

-- the hashes of the names of the sources that are news
abbrev pub newer_hashes : List News → List ℕ
newer_hashes news = map (λ n. hash_of n.upload.now.source) news
