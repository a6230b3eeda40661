use Rattle.std.proofs.Common.{◌≡◌, ◌++◌, List, ap, subst, ◌∙◌}
use Rattle.std.specs.Option.{option_copied}
use Rattle.testing_rules_items.specs.Words.{Text}
use Rattle.testing_rules_excuses.specs.States.{excuse_of}
use Rattle.testing_rules_model.specs.declared.facts.UploadIn.{UploadIn}
use Rattle.testing_rules_model.specs.Moves.{source_in}
use Rattle.testing_rules_model.specs.Unstable.{built_rows}
use Rattle.testing_rules_reports.specs.Sources.{source_text, waits_in}
use Rattle.office_core_why.specs.steps.Telling.{unstable_of}
use Rattle.office_core_why.specs.Why.{IsRefusedWhere, standing_lines}
use Rattle.office_core_why.proofs.WhyFacts.{is_some-copied}
use Rattle.office_core_why.proofs.told.lines_from_excuses.Goals as goal

pub returns-clause-told : goal.returns-clause-told
returns-clause-told c =
    let a = c.args in
    let input = a.input.now in
    let asked = a.asked.now in
    let reports = a.reports.now in
    let origins : Text = c.in_ok-origins.origins in
    let refusal : Text = c.in_ok-refusal.refusal in
    let found : option_copied c.source_in-upload.result ≡ source_in input.facts.now.sources asked.source.now =
    c.source_in-upload.ensures ∙ ap (λ (us : List UploadIn). source_in us asked.source.now) c.sources.ensures.sources in
    record {
      origins = origins;
      refusal = refusal;
      come = c.in_ok-origins.ensures;
      refused = subst (λ (update : Text). IsRefusedWhere (waits_in asked.source.now update) input.archs.now (unstable_of input.archs.now input.facts.now) a.testing.now a.excuses.now (excuse_of a.excuses.now asked.source.now) refusal) c.as_str-update.ensures c.in_ok-refusal.ensures.told;
      is = c.in_ok-text.ensures
          ∙ ap (λ (line : Text). source_text asked.run asked.source.now reports.excuses reports.updates (line ++ origins) ++ refusal) (c.in_ok-standing.ensures ∙ ap (standing_lines input.senders.now input.archs.now (built_rows input.archs.now input.facts.now.rows) a.testing.now asked.source.now) found);
      known = c.is_some.ensures ∙ is_some-copied c.source_in-upload.result (source_in input.facts.now.sources asked.source.now) found;
    }
