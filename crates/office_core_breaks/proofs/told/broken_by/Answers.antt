use Rattle.std.proofs.Common.{◌≡◌, ◌∙◌, List, IfOk, sym, ap, subst}
use Rattle.testing_rules_model.specs.JudgedRows.{lent}
use Rattle.testing_rules_model.specs.declared.facts.UploadIn.{UploadIn}
use Rattle.testing_rules_model.specs.declared.suite.RowIn.{RowIn}
use Rattle.office_core_breaks.specs.Breaks.{coming, rows_after}
use Rattle.office_core_breaks.specs.Texts.{all_text}
use Rattle.office_core_breaks.specs.Told.{known_for}
use Rattle.office_core_breaks.proofs.told.broken_by.Goals as goal

pub broken_there-requires-clause-sources : goal.broken_there-requires-clause-sources
broken_there-requires-clause-sources c = c.sources-sources.ensures.ordered

pub broken_there-requires-clause-group : goal.broken_there-requires-clause-group
broken_there-requires-clause-group c = c.requires ∙ ap (λ (us : List UploadIn). coming us c.args.testing.now c.args.change.now) (sym c.sources-sources.ensures.sources)

pub returns : goal.returns
returns c =
    let a = c.args in
    let b = a.basis.now in
    let rows : List RowIn = lent a.rows.now in
    let t = a.testing.now in
    subst (λ (us : List UploadIn). IfOk c.broken_there.result (λ text. text ≡ all_text (known_for b.archs.now us b.excuses.now a.group.now) rows t.rows (rows_after us rows t a.change.now)))
    c.sources-sources.ensures.sources c.broken_there.ensures
