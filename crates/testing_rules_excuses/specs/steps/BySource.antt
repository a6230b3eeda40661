-- The input of a run about each source that is news, found by the source's name.
use Rattle.std.specs.Prelude.{ℕ, Bool, cond, List, [], ◌∷◌, ◌++◌, Option, Vec, map, filter, unwrap_or, option_map, option_copied}
use Rattle.std.specs.List.{list_any}
use Rattle.std.specs.Str.{bytes_eq}
use Rattle.std.specs.HashMap.{HashMap, get_by}
use Rattle.std.specs.Borrow.{Bor}
use Rattle.std.specs.declared.alloc.Global.{Global}
use Rattle.std.specs.declared.hash.FoldHasher.{FoldHasher}
use Rattle.std.specs.declared.hash.BuildHasherDefault.{BuildHasherDefault}
use Rattle.jiff_core.specs.declared.civil.date.Date.{Date}
use Rattle.testing_rules_model.specs.declared.facts.UploadIn.{UploadIn}
use Rattle.testing_rules_model.specs.declared.excuse.Excuse.{Excuse}
use Rattle.testing_rules_excuses.specs.declared.by_source.Grouped.{Grouped}
use Rattle.testing_rules_excuses.specs.declared.by_source.News.{News}
use Rattle.testing_rules_items.specs.Words.{Text}
use Rattle.testing_rules_excuses.specs.steps.OwnHints.{own_hints}
use Rattle.testing_rules_excuses.specs.steps.LentUploads.{uploads_lent}
use Rattle.testing_rules_model.specs.Suite.{Suite}
use Rattle.testing_rules_model.specs.FactLists.{FactLists}
use Rattle.testing_rules_model.specs.JudgedRows.{lent}
use Rattle.testing_rules_model.specs.Unstable.{built_rows, is_in_force}
use Rattle.testing_rules_model.specs.Excuses.{testing_version, is_news, delays_in_force}
use Rattle.testing_rules_model.specs.steps.Grounds.{Ground, excuse_on}

-- items per source, by its name
abbrev pub Groups : Type 0 → Type 0
Groups A = HashMap (Bor Text) (Vec A Global) (BuildHasherDefault FoldHasher)

-- the group of a source, if it has one
abbrev pub slot_at : {A : Type 0} → Groups A → Text → Option (List A)
slot_at groups name = option_map (λ v. v.items) (get_by (λ k. bytes_eq name k.now) groups)

-- the map's items of a source
abbrev pub group_at : {A : Type 0} → Groups A → Text → List A
group_at groups name = unwrap_or (slot_at groups name) []

-- a source's group after an item that may be its own
abbrev pub joined_by : {A : Type 0} → Bool → A → Option (List A) → Option (List A)
joined_by is_own item slot = cond is_own (option_map (λ items. items ++ item ∷ []) slot) slot

-- what is known about a source
abbrev pub ground_at : Grouped → Text → Ground
ground_at g name = record {
  rows = lent (group_at g.rows name);
  bugs = group_at g.bugs name;
  hints = group_at g.hints name;
  uploads = uploads_lent (group_at g.uploads name);
  delays = g.delays;
  date = g.date;
}

-- the part of a ground that is about the source
abbrev pub part_of : Ground → Text → Ground
part_of g name = record {
  rows = filter (λ r. bytes_eq name r.binary.source) g.rows;
  bugs = filter (λ b. bytes_eq name b.source) g.bugs;
  hints = own_hints name g.hints;
  uploads = filter (λ u. bytes_eq name u.source) g.uploads;
  delays = g.delays;
  date = g.date;
}

-- the ground given by facts
abbrev pub ground_from : List Text → FactLists → Date → Ground
ground_from archs f date = record {
  rows = built_rows archs f.rows;
  bugs = f.bugs;
  hints = filter (is_in_force f.unhints) f.hints;
  uploads = f.uploads;
  delays = delays_in_force f.delays;
  date = date;
}

-- a source that is news, with testing's version of it
abbrev pub told_of : News → UploadIn × Option Text
told_of n = (n.upload.now, option_copied n.testing)

-- the sources that are news, each with testing's version of it
abbrev pub news_of : Suite → List UploadIn → List (UploadIn × Option Text)
news_of t sources = map (λ u. (u, testing_version t u.source)) (filter (λ u. is_news (testing_version t u.source) u.version) sources)

-- one of the sources that are news has the name
abbrev pub is_among : List News → Text → Bool
is_among news name = list_any (λ n. bytes_eq name n.upload.now.source) news

-- the excuse of a source that is news; each source has a ground of its own
abbrev pub excuse_by : List ℕ → (Text → Ground) → UploadIn × Option Text → Excuse
excuse_by places known news = excuse_on places (known news.0.source) news.1 news.0

-- the excuses of such sources
abbrev pub excuses_by : List ℕ → (Text → Ground) → List (UploadIn × Option Text) → List Excuse
excuses_by places known news = map (excuse_by places known) news
