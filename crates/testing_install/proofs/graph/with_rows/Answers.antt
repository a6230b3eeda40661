use Rattle.std.proofs.Common.{arith, ap, ◌∙◌, ◌≡◌, ◌++◌, length, subst}
use Rattle.std.proofs.lemmas.List.{map-append}
use Rattle.std.specs.declared.rc.Rc.{Rc}
use Rattle.std.specs.declared.alloc.Global.{Global}
use Rattle.deb_control.specs.declared.binary.Binary.{Binary}
use Rattle.testing_install.proofs.Sharing.{length-shared, graph_same}
use Rattle.testing_install.specs.steps.Dependents.{IsGraph}
use Rattle.testing_install.specs.Rows.{shared}
use Rattle.testing_install.proofs.graph.with_rows.Goals as goal

pub returns-clause-graph : goal.returns-clause-graph
returns-clause-graph c = λ g.
    let value : Rc Binary Global → Binary = λ r. r.value in
    let old = c.args.graph.rows.items in
    let all : shared c.append.new.self.items ≡ shared old ++ shared c.args.rows.items = ap (λ rows. shared rows) c.in_ok-append.ensures.items ∙ map-append value old c.args.rows.items in
    let lent = ap (λ rows. shared rows) c.deref.ensures.value in
    let long : length (shared old) ≡ c.len-first.result = omega (arith, length-shared old, c.len-first.ensures, c.args.graph.rows.ok.0) in
    subst (λ rows. IsGraph rows c.note_rows.new.providers c.note_rows.new.dependents) lent (c.in_ok-note_rows.ensures (shared old) (shared c.args.rows.items) (lent ∙ all) long (graph_same _ _ _ _ c.in_ok-reserve.ensures g))
