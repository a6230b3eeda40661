use Rattle.std.proofs.Common.{sym, ◌∙◌}
use Rattle.office_core.specs.Preserves.{StoreRefused}
use Rattle.office_core_facts.specs.State.{state_of}
use Rattle.office_http.proofs.TriedFacts.{tried_many}
use Rattle.office_http.proofs.serve.try_bytes.Goals as goal

pub returns-then-has_many_hints-clause-runs : goal.returns-then-has_many_hints-clause-runs
returns-then-has_many_hints-clause-runs g c =
    let s = c.args.office.now in
    λ h action by. tried_many (StoreRefused g.K.Keeper s s) (state_of g.K.Keeper s) action c.args.terms c.args.body.now by (sym c.has_many_hints.ensures ∙ c.if-has_many_hints.true)
