use Rattle.std.proofs.Common.{sym, ◌∙◌}
use Rattle.office_core.specs.Preserves.{StoreRefused}
use Rattle.office_core_facts.specs.State.{state_of}
use Rattle.office_http.proofs.ServeFacts.{delivered_other, delivered_short}
use Rattle.office_http.proofs.serve.answer_delivery_of.Goals as goal

pub returns-in-Ok-true-clause-runs : goal.returns-in-Ok-true-clause-runs
returns-in-Ok-true-clause-runs g c =
    let s = c.args.office.now in
    λ h. delivered_other (StoreRefused g.K.Keeper s s) (state_of g.K.Keeper s) c.args.sender c.args.text.now (rw c.setup.ensures.setup at (sym c.in-Ok-true.ensures ∙ c.in-Ok-true.field-0-test))

pub returns-in-Err-clause-runs : goal.returns-in-Err-clause-runs
returns-in-Err-clause-runs g c =
    let s = c.args.office.now in
    λ h. delivered_short (StoreRefused g.K.Keeper s s) (state_of g.K.Keeper s) c.args.sender c.args.text.now
