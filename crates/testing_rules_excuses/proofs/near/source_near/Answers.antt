use Rattle.std.proofs.Common.{sym, ap, ◌∙◌, Some}
use Rattle.testing_rules_model.specs.declared.suite.SourceIn.{SourceIn}
use Rattle.testing_rules_model.proofs.Orders.{text_order}
use Rattle.testing_rules_model.proofs.KeyOrder.{searchable, find-at, find-none}
use Rattle.testing_rules_excuses.proofs.near.source_near.Goals as goal

pub returns-in-Ok : goal.returns-in-Ok
returns-in-Ok c =
    let d = c.index-sources-place.result in
    ap Some c.index-sources-place.is
    ∙ sym (find-at (λ (s : SourceIn). s.name) c.args.name.now c.args.sources.now c.in-Ok.place d c.requires c.in-Ok.ensures.bound (c.in-Ok.ensures.found d))

pub returns-in-Err : goal.returns-in-Err
returns-in-Err c =
    let name = c.args.name.now in
    let xs = c.args.sources.now in
    sym (find-none (λ (s : SourceIn). s.name) name xs c.in-Err.place (c.in-Err.ensures.found (searchable (λ (s : SourceIn). s.name) text_order xs c.requires name)))
