-- The proof that a row isn't installable, line by line (Debian Policy 7.1, 7.2 and 7.5; this office decides to use
-- lines).
use Rattle.std.specs.Prelude.{ℕ, Bool, if◌then◌else◌, List, [], length, Option, option_map}
use Rattle.std.specs.List.{filter_map, range_with_len}
use Rattle.deb_control.specs.declared.relation.Clause.{Clause}
use Rattle.testing_rules_items.specs.Words.{is_empty}
use Rattle.testing_rules_model.specs.declared.suite.RowIn.{RowIn}
use Rattle.testing_rules_model.specs.JudgedRows.{lent}
use Rattle.testing_rules_refusals.specs.declared.told.Told.{Told}
use Rattle.testing_rules_refusals.specs.Needs.{RowNeed, need_of, need_at, providers, meeting}
use Rattle.testing_install_why.specs.declared.Step.{Step}

-- a line: its number, a row with a clause, who meets the clause, or if nobody does, who met it before and who of
-- unstable would
pub record ToldLine : Type 0 where
  pub number : ℕ
  pub need : RowNeed
  pub met_by : List ℕ
  pub leaving : List RowIn
  pub offers : List RowIn

-- in the code's type
abbrev pub told_of : Told → ToldLine
told_of t = record { number = t.number; need = need_of t.need; met_by = t.met_by.items; leaving = lent t.leaving.items; offers = lent t.offers.items }

-- the rows that meet the clause, if nothing else does
abbrev pub met_where : Bool → Clause → List RowIn → List RowIn
met_where is_unmet clause rows = if is_unmet then meeting clause rows else []

-- the line of a row and its clause
abbrev pub line_of_need : List RowIn → List Step → List RowIn → List RowIn → ℕ → RowNeed → ToldLine
line_of_need rows steps before unstable number n =
    let met_by = providers rows steps n.clause in
    record {
      number = number;
      need = n;
      met_by = met_by;
      leaving = met_where (is_empty met_by) n.clause before;
      offers = met_where (is_empty met_by) n.clause unstable;
    }

-- the line with the number
abbrev pub told_at : List RowIn → List Step → List RowIn → List RowIn → ℕ → Option ToldLine
told_at rows steps before unstable number = option_map (line_of_need rows steps before unstable number) (need_at rows steps number)

-- the lines of the steps, by number
abbrev pub lines_of : List RowIn → List Step → List RowIn → List RowIn → List ToldLine
lines_of rows steps before unstable = filter_map (told_at rows steps before unstable) (range_with_len 1 (length steps))
