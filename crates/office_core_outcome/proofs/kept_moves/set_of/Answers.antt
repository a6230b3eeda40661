use Rattle.std.proofs.Common.{Ok, List, ℕ}
use Rattle.std.specs.Borrow.{Bor}
use Rattle.std.specs.HashSet.{IsFromIterResult}
use Rattle.std.specs.Str.{bytes_eq}
use Rattle.std.proofs.lemmas.Iterator.{YieldsList-from_slice}
use Rattle.std.proofs.lemmas.Iterator.Adapters.{fact_from_collect}
use Rattle.std.proofs.lemmas.Iterator.Consumers.{YieldsList-from_copied}
use Rattle.testing_rules_reports.proofs.LineFacts.{line_alike}
use Rattle.office_core_outcome.proofs.kept_moves.set_of.Goals as goal

pub returns : goal.returns
returns c = λ line.
    let asked : Bor (List ℕ) = record { ref_ptr = (0, 0); now = line } in
    let found = c.args.names.now in
    let made = fact_from_collect {E = ℕ} (λ xs set. IsFromIterResult (λ (a b : Bor (List ℕ)). bytes_eq a.now b.now) xs set) (Ok c.in_ok-set.set) c.in_ok-set.ensures.ran
    (YieldsList-from_copied (YieldsList-from_slice found cc)) in
    line_alike line c.in_ok-set.set.keys found (made.0 asked)
