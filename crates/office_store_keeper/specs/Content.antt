-- The content of a keeper, and the effect of its calls.
use Rattle.std.specs.Prelude.{◌≡◌, ◌≤◌, ◌<◌, ℕ, zero, suc, ◌+◌, ◌-◌, List, [], ◌∷◌, ◌++◌, Option, Some, None, IsSome, slice_get, filter_map, option_map}
use Rattle.std.specs.List.{range_with_len}
use Rattle.std.specs.FinMap.{get, insert, empty}
use Rattle.office_mail.specs.Kept.{Kept}
use Rattle.testing_rules_model.specs.Suite.{Suite}
use Rattle.office_store_keeper.specs.FactSet.{FactSet, facts_after}
use Rattle.office_store_keeper.specs.declared.values.Reports.{Reports}
use Rattle.office_store_keeper.specs.declared.values.Finished.{Finished}
use Rattle.office_store_keeper.specs.declared.values.Letter.{Letter}

pub record Content : Type 0 where
  -- the kept mail
  pub kept : Kept
  -- the two reports of each finished run, in order; their number is that of finished runs
  pub reports : List Reports
  -- testing after the last finished run
  pub testing : Suite
  -- the facts of the mail covered by the finished runs, as rows
  pub facts : FactSet

-- nothing is kept, and no run is finished
abbrev pub no_content : Content
no_content = record { kept = empty; reports = []; testing = record { sources = []; rows = [] }; facts = empty }

-- this text is kept for a sender under a number; all else is unchanged
abbrev pub with_text : Content → ℕ → ℕ → List ℕ → Content
with_text c sender number text = record { kept = insert c.kept (sender, number) text; reports = c.reports; testing = c.testing; facts = c.facts }

-- the two reports in the result of a run
abbrev pub reports_in : Finished → Reports
reports_in done = record { excuses = done.excuses; updates = done.updates }

-- one more run is finished: its reports are added at the end, its testing replaces the old one, the rows of facts
-- change as it says, and all mail is unchanged
abbrev pub with_run : Content → Finished → Content
with_run c done = record { kept = c.kept; reports = c.reports ++ reports_in done ∷ []; testing = done.testing; facts = facts_after done.facts c.facts }

-- the item at a place, counted from 1
abbrev pub item_from_one : {A : Type 0} → ℕ → List A → Option A
item_from_one zero items = None
item_from_one (suc k) items = slice_get items k

-- the text under a sender's number, with the number
abbrev pub letter_at : Kept → ℕ → ℕ → Option Letter
letter_at kept sender number = option_map (λ text. record { number = number; text = text }) (get kept (sender, number))

-- a sender's kept numbers from one to another with their texts, by number; none if the first is above the second
unfoldable pub letters_within : Kept → ℕ → ℕ → ℕ → List Letter
letters_within kept sender from to = filter_map (letter_at kept sender) (range_with_len from (to + 1 - from))

-- the least kept number of a sender from this one on, or none
abbrev pub IsNextNumber : Kept → ℕ → ℕ → Option ℕ → Type 0
IsNextNumber kept sender from None = (n : ℕ) → from ≤ n → get kept (sender, n) ≡ None
IsNextNumber kept sender from (Some n) = (from ≤ n) × IsSome (get kept (sender, n)) × ((m : ℕ) → from ≤ m → m < n → get kept (sender, m) ≡ None)
