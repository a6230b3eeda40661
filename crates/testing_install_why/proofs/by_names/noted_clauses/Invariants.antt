use Rattle.testing_install.specs.Rows.{binaries}
use Rattle.testing_install_why.proofs.CheckedByNames.{IsClauseIndexTo}
use Rattle.testing_install_why.proofs.by_names.noted_clauses.Given as goal

-- what is noted so far
abbrev pub invariant-loop-number : goal.invariant-loop-number
invariant-loop-number l = IsClauseIndexTo (binaries l.rows) l.steps l.noted l.number
