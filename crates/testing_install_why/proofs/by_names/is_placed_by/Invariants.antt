use Rattle.testing_install.specs.Rows.{binaries}
use Rattle.testing_install_why.specs.steps.Checking.{IsPlaced}
use Rattle.testing_install_why.proofs.by_names.is_placed_by.Given as goal

abbrev pub invariant-loop-place : goal.invariant-loop-place
invariant-loop-place l = IsPlaced (binaries l.rows) l.steps l.place
