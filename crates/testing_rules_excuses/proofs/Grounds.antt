-- Excuses from facts are those of the messages that the facts stand for.
use Rattle.std.specs.Prelude.{ℕ, List, [], ◌∷◌, Option, map, filter, nat_lt, unwrap_or}
use Rattle.std.proofs.Common.{◌≡◌, refl, ap, ◌∙◌}
use Rattle.jiff_core.specs.declared.civil.date.Date.{Date}
use Rattle.testing_rules_model.specs.declared.facts.UploadIn.{UploadIn}
use Rattle.testing_rules_model.specs.declared.excuse.Excuse.{Excuse}
use Rattle.testing_rules_items.specs.Words.{Text}
use Rattle.testing_rules_model.specs.Suite.{Suite}
use Rattle.testing_rules_model.specs.FactLists.{FactLists}
use Rattle.testing_rules_model.specs.Covered.{Covered}
use Rattle.testing_rules_model.specs.StandsFor.{StandsFor}
use Rattle.testing_rules_excuses.specs.steps.BySource.{ground_from}
use Rattle.testing_rules_model.specs.Unstable.{place_numbers, unstable_sources}
use Rattle.testing_rules_model.specs.Excuses.{excuses_of, days_of, hinted_days, age_of, reasons_of, testing_version, is_news}
use Rattle.testing_rules_model.specs.steps.Grounds.{Ground, excuse_on, excuses_on, ground_of}
use Rattle.testing_rules_model.proofs.Urgent.{urgent-same}

pub map-same : {A B : Type 0} (f g : A → B) → ((x : A) → f x ≡ g x) → (xs : List A) → map f xs ≡ map g xs
map-same f g h [] = refl
map-same f g h (x ∷ xs) = rw (h x, map-same f g h xs) refl

-- an excuse with these days needed
abbrev needing : List ℕ → Ground → Option Text → UploadIn → ℕ → Excuse
needing places g testing u n = record {
  source = u.source;
  testing = testing;
  unstable = u.version;
  age = age_of g.date u;
  needed = n;
  reasons = reasons_of places g.rows g.bugs g.hints testing (nat_lt (age_of g.date u) n) u;
}

module _ (archs : List Text) (f : FactLists) (s : Covered) (t : Suite) (date : Date) (h : StandsFor f s t) where
  -- but for the uploads it is that of the messages
  abbrev with_own : Ground
  with_own = record (ground_of archs s date) { uploads = f.uploads }

  same_ground : ground_from archs f date ≡ with_own
  same_ground = rw (h.rows, h.bugs, h.hints, h.unhints, h.delays) refl

  same_excuse : (u : UploadIn) → excuse_on (place_numbers archs) with_own (testing_version t u.source) u
      ≡ excuse_on (place_numbers archs) (ground_of archs s date) (testing_version t u.source) u
  same_excuse u =
      let g : Ground = ground_of archs s date in
      ap (λ w. needing (place_numbers archs) g (testing_version t u.source) u (unwrap_or (hinted_days g.hints u) (days_of g.delays w)))
      (urgent-same f.uploads s t u.source h.are_uploads h.counted)

  -- so the excuses are those of the messages
  pub same-excuses : excuses_on (place_numbers archs) (ground_from archs f date) t f.sources ≡ excuses_of archs s t date
  same-excuses =
      ap (λ g. excuses_on (place_numbers archs) g t f.sources) same_ground
      ∙ ap (λ us. excuses_on (place_numbers archs) with_own t us) h.sources
      ∙ map-same _ _ same_excuse (filter (λ u. is_news (testing_version t u.source) u.version) (unstable_sources s))
