-- What an office has kept of the mail that came, and what of it later mail leaves.
use Rattle.std.specs.Prelude.{◌≡◌, ℕ, List, ◌++◌, length}
use Rattle.std.specs.FinMap.{empty}
use Rattle.office_mail.specs.Kept.{kept_from}
use Rattle.office_mail.specs.Laws.{OneText}
use Rattle.office_mail.specs.Lists.{Lists}
use Rattle.office_store_keeper.specs.Content.{Content}
use Rattle.office_store_keeper.specs.declared.values.Reports.{Reports}
use Rattle.office_core_facts.specs.State.{IsOffice}
use Rattle.office_core.specs.Visible.{Visible, visible}

-- an office that kept these deliveries, in which no sender gives one number two texts
pub record TookTexts (setup : Lists) (texts : List (List ℕ)) (content : Content) : Type 0 where
  pub office : IsOffice setup content
  pub kept : content.kept ≡ kept_from setup empty texts
  pub one_text : OneText setup texts

-- The finished runs stay: their reports come first, and testing is as they left it unless another run finished.
pub record RunsStay (old new : Visible) : Type 0 where
  pub more : List Reports
  pub reports : new.reports ≡ old.reports ++ more
  pub testing : length new.reports ≡ length old.reports → new.testing ≡ old.testing

-- the same of stores' contents
abbrev pub RunsStand : Content → Content → Type 0
RunsStand old new = RunsStay (visible old) (visible new)
