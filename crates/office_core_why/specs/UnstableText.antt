-- Unstable over all mail without a gap, in the lines of the text of testing. Their form is decided by this office.
use Rattle.std.specs.Prelude.{◌≡◌, ℕ, List, [], ◌∷◌, ◌++◌, codes, decimal, flat_map}
use Rattle.testing_rules_items.specs.Words.{Text}
use Rattle.testing_rules_model.specs.Covered.{Covered}
use Rattle.testing_rules_model.specs.Moves.{as_source}
use Rattle.testing_rules_model.specs.Unstable.{unstable_rows, unstable_sources}
use Rattle.testing_rules_reports.specs.Reports.{line, row_line, source_line}
use Rattle.office_mail_setup.specs.Lists.{Lists}
use Rattle.office_mail.specs.Kept.{Kept}
use Rattle.office_core_facts.specs.Seen.{IsSeen}

-- the number of finished runs, unstable's sources by name, and its rows by architecture and name
unfoldable pub unstable_text : List Text → ℕ → Covered → Text
unstable_text archs finished s =
    line (codes "unstable" ∷ decimal finished ∷ []) ++ flat_map (λ u. source_line (as_source u)) (unstable_sources s) ++ flat_map (row_line archs) (unstable_rows archs s)

-- unstable after k finished runs
pub record IsUnstableText (setup : Lists) (kept : Kept) (k : ℕ) (text : Text) : Type 0 where
  pub seen : Covered
  pub is_seen : IsSeen setup kept seen
  pub is : text ≡ unstable_text setup.archs k seen
