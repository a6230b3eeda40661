use Rattle.std.proofs.Common.{ap, ◌∙◌}
use Rattle.std.specs.Option.{option_map}
use Rattle.office_store_keeper.specs.Content.{item_from_one}
use Rattle.office_store_keeper.specs.declared.values.Reports.{Reports}
use Rattle.office_core_facts.proofs.ReportFacts.{reports_at-is}
use Rattle.office_core.proofs.office.Office.excuses_text.Goals as goal

pub returns-clause-text : goal.returns-clause-text
returns-clause-text g c = λ holds.
    let keeper = g.K.Keeper in
    let old = c.args.self.now in
    c.excuses_in.ensures
    ∙ ap (option_map (λ (r : Reports). r.excuses))
    (c.in_ok-reports.ensures.value holds.0 ∙ ap (λ k. item_from_one c.args.run (keeper.content k).reports) c.self.view_is ∙ reports_at-is (keeper.setup old) (keeper.content old) c.args.run holds.1.1)
