use Rattle.std.proofs.Common.{◌≡◌, sym, ap, ◌∙◌, subst, length, option_map}
use Rattle.std.specs.List.Sorted.{IsBinarySearchResult, IsSearchInRange}
use Rattle.std.specs.Option.{option_copied}
use Rattle.testing_rules_items.specs.Words.{byte_cmp}
use Rattle.testing_rules_model.specs.declared.suite.SourceIn.{SourceIn}
use Rattle.testing_rules_live.specs.steps.LiveSources.{name_of, source_of}
use Rattle.testing_rules_live.proofs.LiveSlots.{source-found, source-missing}
use Rattle.testing_rules_live.proofs.live_sources.version_found.Goals as goal

pub returns-in_err-source-in-Ok : goal.returns-in_err-source-in-Ok
returns-in_err-source-in-Ok c =
    let name = c.args.name.now in
    let slots = c.args.slots.now in
    let slot = c.index-slots-place.result in
    let bound = subst (λ r. IsSearchInRange r (length slots)) c.in-Ok.is c.requires.bound in
    let found = subst (λ r. IsBinarySearchResult (λ s. byte_cmp (name_of s) name) slots r) c.in-Ok.is c.requires.found in
    let here = source-found name slots c.in-Ok.place slot c.requires.slots bound (found slot) ∙ ap source_of (sym c.index-slots-place.is) ∙ sym c.source.ensures ∙ ap option_copied c.in_err-source-in-Ok.was in
    ap option_copied c.from_residual.ensures ∙ sym (ap (option_map (λ (s : SourceIn). s.version)) here)

pub returns-in_ok-source-in-Ok : goal.returns-in_ok-source-in-Ok
returns-in_ok-source-in-Ok c =
    let name = c.args.name.now in
    let slots = c.args.slots.now in
    let slot = c.index-slots-place.result in
    let bound = subst (λ r. IsSearchInRange r (length slots)) c.in-Ok.is c.requires.bound in
    let found = subst (λ r. IsBinarySearchResult (λ s. byte_cmp (name_of s) name) slots r) c.in-Ok.is c.requires.found in
    let here = source-found name slots c.in-Ok.place slot c.requires.slots bound (found slot) ∙ ap source_of (sym c.index-slots-place.is) ∙ sym c.source.ensures ∙ ap option_copied c.in_ok-source-in-Ok.was in
    sym (ap (option_map (λ (s : SourceIn). s.version)) here)

pub returns-in-Err : goal.returns-in-Err
returns-in-Err c =
    let name = c.args.name.now in
    let slots = c.args.slots.now in
    let found = subst (λ r. IsBinarySearchResult (λ s. byte_cmp (name_of s) name) slots r) c.in-Err.is c.requires.found in
    sym (ap (option_map (λ (s : SourceIn). s.version)) (source-missing name slots c.in-Err.field-0 c.requires.slots found))
