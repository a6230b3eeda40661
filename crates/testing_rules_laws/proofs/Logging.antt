-- What is logged of taking and trimming, and what the changes are.
use Rattle.std.specs.Prelude.{ℕ, not, cond, List, map, filter}
use Rattle.std.proofs.Common.{inl, inr, arith}
use Rattle.testing_rules_model.specs.Suite.{Suite}
use Rattle.testing_rules_model.specs.declared.fact_row.FactRow.{FactRow}
use Rattle.testing_rules_model.specs.FactRows.{upload_row, rows_of, is_row}
use Rattle.testing_rules_model.specs.FactDifference.{IsDifference, IsChangedFrom}
use Rattle.testing_rules_model.specs.FactLists.{FactLists}
use Rattle.testing_rules_model.specs.KeptFacts.{counts_beside, trimmed}
use Rattle.testing_rules_laws.specs.steps.Logged.{AreMade}
use Rattle.testing_rules_facts.proofs.Shifting.{joined, parts, mapped, splits}

pub trims_log : (count : FactRow → ℕ) (t : Suite) (f : FactLists) → IsChangedFrom count f → IsChangedFrom count (trimmed t f)
trims_log count t f h = λ r.
    let out = filter (λ u. not (counts_beside t u)) f.uploads in
    omega (
      arith,
      h r,
      parts r f,
      parts r (trimmed t f),
      joined r f.left (map upload_row out),
      mapped upload_row r f.uploads,
      mapped upload_row r (filter (counts_beside t) f.uploads),
      mapped upload_row r out,
      splits (λ y. cond (is_row r (upload_row y)) 1 0) (counts_beside t) f.uploads,
    )

pub changes_make : (count : FactRow → ℕ) (f : FactLists) (put gone : List FactRow) → IsChangedFrom count f → IsDifference f.came f.left put gone → AreMade count (rows_of f) put gone
changes_make count f put gone h d = record {
  balance = λ r. omega (arith, h r, d.balance r);
  fresh = λ r once some. elim (d.apart r) [ inl none ↦ absurd (omega (arith, none, some)) | inr none ↦ omega (arith, h r, d.balance r, none, some, once) ];
  was = λ r once some. elim (d.apart r) [
    | inl none ↦ (omega (arith, h r, d.balance r, none, some, once), omega (arith, h r, d.balance r, none, some, once))
    | inr none ↦ absurd (omega (arith, none, some))
  ];
}
