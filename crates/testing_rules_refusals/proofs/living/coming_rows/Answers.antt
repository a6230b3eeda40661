use Rattle.std.proofs.Common.{◌≡◌, ◌∙◌, filter}
use Rattle.std.proofs.lemmas.Result.{IfOk-weaker}
use Rattle.testing_rules_model.specs.Boxed.{unboxed}
use Rattle.testing_rules_model.specs.JudgedRows.{lent}
use Rattle.testing_rules_refusals.specs.steps.Standing.{comes_by}
use Rattle.testing_rules_refusals.specs.Stuck.{coming_rows}
use Rattle.testing_rules_refusals.proofs.Blocks.{coming_alike}
use Rattle.testing_rules_refusals.proofs.living.coming_rows.Goals as goal

pub returns : goal.returns
returns c =
    let a = c.args in
    let sources = unboxed a.unstable.sources.now in
    let rows = lent a.unstable.rows.now in
    let keys = c.in_ok-live.live.keys in
    IfOk-weaker c.coming_by.result (λ found. lent found.items ≡ filter (comes_by sources keys) rows) (λ found. lent found.items ≡ coming_rows sources rows a.live.now)
    (λ found h. h ∙ coming_alike sources rows a.live.now keys c.in_ok-live.ensures) c.coming_by.ensures
