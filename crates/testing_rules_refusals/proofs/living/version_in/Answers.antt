use Rattle.std.proofs.Common.{◌∙◌, List, sym, ap, option_map}
use Rattle.testing_rules_model.specs.declared.suite.SourceIn.{SourceIn}
use Rattle.testing_rules_model.specs.steps.Excuses.{entry_of}
use Rattle.testing_rules_model.proofs.Orders.{text_order}
use Rattle.testing_rules_model.proofs.KeyOrder.{searchable, find-at, find-none}
use Rattle.testing_rules_refusals.proofs.living.version_in.Goals as goal

pub returns-in-Ok : goal.returns-in-Ok
returns-in-Ok c =
    let d = c.index-sources-place.result in
    let n = c.args.name.now in
    sym (ap (option_map (λ (s : SourceIn). s.version)) (find-at (λ (s : SourceIn). s.name) n c.sources-sources.result.now c.in-Ok.place d c.sources-sources.ensures.ordered c.in-Ok.ensures.bound (c.in-Ok.ensures.found d)))
    ∙ ap (λ (ss : List SourceIn). option_map (λ (s : SourceIn). s.version) (entry_of ss n)) c.sources-sources.ensures.entries

pub returns-in-Err : goal.returns-in-Err
returns-in-Err c =
    let n = c.args.name.now in
    let xs = c.sources-sources.result.now in
    sym (ap (option_map (λ (s : SourceIn). s.version))
    (find-none (λ (s : SourceIn). s.name) n xs c.in-Err.field-0 (c.in-Err.ensures.found (searchable (λ (s : SourceIn). s.name) text_order xs c.sources-sources.ensures.ordered n))))
    ∙ ap (λ (ss : List SourceIn). option_map (λ (s : SourceIn). s.version) (entry_of ss n)) c.sources-sources.ensures.entries
