use Rattle.std.proofs.Common.{arith, ap, ◌∙◌, ◌≡◌, ◌++◌, false, length, replicate, subst}
use Rattle.std.proofs.lemmas.List.{length-append}
use Rattle.testing_install.proofs.Sharing.{length-shared}
use Rattle.testing_install.proofs.SuiteStates.{suite_longer, there_longer}
use Rattle.testing_install.proofs.Trying.{ready_begun}
use Rattle.testing_install.specs.Rows.{shared}
use Rattle.testing_install.specs.Suite.{SuiteState}
use Rattle.testing_install.specs.Tracked.{Tracked}
use Rattle.testing_install.proofs.suite.Suite.with_rows.Goals as goal

pub longer-requires : goal.longer-requires
longer-requires c = omega (arith, c.self.invariant.suite.right.there_len, ap length c.in_ok-graph.ensures.rows, length-append (shared c.self.inside.graph.rows.items) (shared c.args.rows.items), length-shared c.in_ok-graph.graph.rows.items, c.len.ensures, c.in_ok-graph.graph.rows.ok.0)

pub longer-requires-2 : goal.longer-requires-2
longer-requires-2 c = omega (arith, c.self.invariant.suite.right.installable_len, ap length c.in_ok-graph.ensures.rows, length-append (shared c.self.inside.graph.rows.items) (shared c.args.rows.items), length-shared c.in_ok-graph.graph.rows.items, c.len-2.ensures, c.in_ok-graph.graph.rows.ok.0)

pub invariant_of-result : goal.invariant_of-result
invariant_of-result c =
    let size = length-shared c.in_ok-graph.graph.rows.items in
    let none = c.nothing_tried.ensures in
    ready_begun _ _ _ _ _ _ (suite_longer _ _ _ _ _ _ _ c.self.inside.there c.self.inside.installable _ _ c.len.result c.len-2.result c.in_ok-graph.ensures.rows (omega (arith, c.len.ensures, c.in_ok-graph.graph.rows.ok.0, size)) (omega (arith, c.len-2.ensures, c.in_ok-graph.graph.rows.ok.0, size)) c.self.invariant.suite c.in_ok-graph.ensures.graph c.in_ok-there.ensures c.in_ok-installable.ensures) none.leaving none.coming none.falling none.rising

pub returns-clause-there : goal.returns-clause-there
returns-clause-there c =
    let size = length-shared c.in_ok-graph.graph.rows.items in
    let more = shared c.args.rows.items in
    let grown = ap (λ (t : Tracked). t.current) c.in_ok-there.ensures ∙ there_longer (shared c.self.inside.graph.rows.items) more _ c.self.inside.there.current c.len.result (length c.args.rows.items) c.in_ok-graph.ensures.rows (omega (arith, c.len.ensures, c.in_ok-graph.graph.rows.ok.0, size)) c.self.invariant.suite.right.there_len (length-shared c.args.rows.items) in
    subst (λ (s : SuiteState). c.in_ok-there.there.current ≡ s.there ++ replicate (length c.args.rows.items) false) c.self.view_is grown
