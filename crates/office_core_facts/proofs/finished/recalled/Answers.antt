use Rattle.std.proofs.Common.{◌≡◌, length}
use Rattle.testing_rules_model.specs.FactRows.{rows_of}
use Rattle.office_store_keeper.specs.Content.{Content}
use Rattle.office_core_facts.proofs.FinishedFacts.{if_known_are, known_are}
use Rattle.office_core_facts.proofs.finished.recalled.Goals as goal

pub returns-clause-known : goal.returns-clause-known
returns-clause-known g c = λ trusted are back first all.
    let setup = c.args.setup.now in
    let content : Content = g.K.Keeper.content c.args.keeper.now in
    let known = c.in_ok-known.known in
    let at = c.in_ok-known.ensures in
    let size : length (rows_of c.args.facts) ≡ length c.args.rows.now = c.has_all.ensures c.if-not-has_all.false in
    if_known_are setup content known c.if_kept.result c.if_kept.ensures.same (c.if_kept.ensures.each trusted)
    (known_are setup content c.args.orders.now c.args.rows.now c.args.facts known at.same at.by_message size are back first all at.taken)
