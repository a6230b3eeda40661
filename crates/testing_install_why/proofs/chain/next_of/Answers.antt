use Rattle.std.proofs.Common.{get_or, arith}
use Rattle.std.proofs.lemmas.Option.{slice_get-get_or}
use Rattle.testing_install_why.proofs.Least.{last_by}
use Rattle.testing_install_why.proofs.chain.next_of.Goals as goal

pub returns-else-first-last-clause-none : goal.returns-else-first-last-clause-none
returns-else-first-last-clause-none c =
    let order = c.args.order.now in
    let step = get_or order c.args.last (record { place = 0; need = 0 }) in
    let at = slice_get-get_or order c.args.last (record { place = 0; need = 0 }) c.requires.last in
    last_by c.args.suite.now.rows order c.args.last step c.clause_of-clause.result.now c.first_provider-first.result at c.clause_of-clause.ensures c.first_provider-first.ensures (omega (arith, c.if-first-last.false))
