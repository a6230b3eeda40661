use Rattle.std.proofs.Common.{◌∙◌, sym, ap, filter}
use Rattle.std.specs.Str.{bytes_eq}
use Rattle.testing_rules_model.specs.declared.facts.BugIn.{BugIn}
use Rattle.testing_rules_model.specs.declared.facts.UploadIn.{UploadIn}
use Rattle.testing_rules_model.specs.declared.suite.RowIn.{RowIn}
use Rattle.testing_rules_excuses.specs.steps.BySource.{ground_from}
use Rattle.testing_rules_excuses.specs.steps.OwnHints.{own_hints}
use Rattle.testing_rules_model.specs.JudgedRows.{lent}
use Rattle.testing_rules_model.specs.Unstable.{built_rows, is_in_force}
use Rattle.testing_rules_model.specs.Excuses.{delays_in_force}
use Rattle.testing_rules_facts.specs.steps.SourceFilter.{passing_builds}
use Rattle.testing_rules_excuses.proofs.OwnPart.{part-is}
use Rattle.testing_rules_excuses.proofs.Wanting.{own_passing}
use Rattle.testing_rules_excuses.proofs.run_excuses.group_facts.Goals as goal

pub returns : goal.returns
returns c = λ name among.
    let archs = c.args.archs.now in
    let f = c.args.facts.now in
    let passing = c.in_ok-passing.passing in
    sym (part-is (ground_from archs f c.args.date) name
    (c.in_ok-rows_by_source.ensures name among
    ∙ ap (filter (λ (r : RowIn). bytes_eq name r.binary.source)) (ap lent c.deref.ensures.value ∙ c.in_ok-rows.ensures.rows ∙ ap (λ bs. built_rows archs (passing_builds passing bs)) c.rows.ensures.rows)
    ∙ own_passing archs c.args.news.now passing f.rows c.in_ok-passing.ensures name among)
    (c.in_ok-bugs_by_source.ensures name among ∙ ap (filter (λ (b : BugIn). bytes_eq name b.source)) c.bugs.ensures)
    (c.in_ok-hints_by_source.ensures name among
    ∙ ap (own_hints name) (c.deref-2.ensures.value ∙ c.in_ok-hints.ensures ∙ ap (λ us. filter (is_in_force us) c.hints.result.now) c.unhints.ensures ∙ ap (filter (is_in_force f.unhints)) c.hints.ensures))
    (c.in_ok-uploads_by_source.ensures name among ∙ ap (filter (λ (u : UploadIn). bytes_eq name u.source)) c.uploads.ensures.uploads)
    (c.delays_in_force.ensures ∙ ap delays_in_force c.delays.ensures))
