use Rattle.std.proofs.Common.{◌≡◌, ◌∙◌, ℕ, List, ap}
use Rattle.std.specs.List.{list_any}
use Rattle.std.specs.Str.{bytes_eq}
use Rattle.std.proofs.lemmas.Result.{IfOk-weaker}
use Rattle.testing_rules_reports.specs.steps.LentLines.{has_line, lent_lines}
use Rattle.testing_rules_refusals.proofs.living.name_set.Goals as goal

pub returns : goal.returns
returns c =
    let names = c.args.names.now in
    let found = c.deref.result.now in
    let same : lent_lines found ≡ names = ap lent_lines c.deref.ensures.value ∙ c.in_ok-found.ensures in
    IfOk-weaker c.set_of.result (λ set. (name : List ℕ) → has_line set.keys name ≡ list_any (bytes_eq name) (lent_lines found))
    (λ set. (name : List ℕ) → has_line set.keys name ≡ list_any (bytes_eq name) names)
    (λ set h name. h name ∙ ap (list_any (bytes_eq name)) same) c.set_of.ensures
