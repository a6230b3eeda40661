use Rattle.std.proofs.Common.{◌≡◌, ◌∙◌, ◌<◌, ℕ, Bool, List, nat_eq, arith, length, sym}
use Rattle.std.specs.Borrow.{Bor}
use Rattle.std.specs.List.{starts_with}
use Rattle.std.proofs.lemmas.List.Folds.{list_any_at}
use Rattle.testing_rules_reports.proofs.LineFacts.{one_lent}
use Rattle.testing_rules_reports.proofs.sources.one_begins.Goals as goal

pub returns-then-begins : goal.returns-then-begins
returns-then-begins c =
    let test : List ℕ → Bool = λ line. starts_with nat_eq line c.args.front.now in
    let below : c.loop-line.line-index < length c.args.found.now = omega arith in
    sym (one_lent test c.args.found.now ∙ list_any_at (λ (x : Bor (List ℕ)). test x.now) c.args.found.now c.loop-line.line-index _ below (sym c.begins.ensures ∙ c.if-begins.true))
