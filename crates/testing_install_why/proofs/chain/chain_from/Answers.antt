use Rattle.std.proofs.Common.{arith}
use Rattle.std.proofs.lemmas.Option.{slice_get-get_or}
use Rattle.testing_install_why.proofs.Reading.{follow_more, follow_all}
use Rattle.testing_install_why.proofs.chain.chain_from.Goals as goal

pub loop-next-preserved : goal.loop-next-preserved
loop-next-preserved c =
    rw (c.in_ok-push.ensures.items) (follow_more c.args.suite.now.rows c.args.order.now c.args.first c.loop-next.last c.in-Some.next c.loop-next.rest.items _ c.loop-next.invariant c.in-Some.ensures.some (slice_get-get_or c.args.order.now c.in-Some.next (record { place = 0; need = 0 }) (omega (arith, c.in-Some.ensures.some.provider.earlier, c.loop-next.invariant.within))))

pub returns : goal.returns
returns c = follow_all c.args.suite.now.rows c.args.order.now c.args.first c.loop-next.last c.loop-next.rest.items c.loop-next.invariant c.in_default.ensures.none
