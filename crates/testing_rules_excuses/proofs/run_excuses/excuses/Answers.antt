use Rattle.std.proofs.Common.{ap, ◌∙◌, sym, subst, map, IsTrue}
use Rattle.testing_rules_model.specs.Boxed.{unboxed}
use Rattle.testing_rules_model.specs.Unstable.{place_numbers}
use Rattle.testing_rules_model.specs.steps.Grounds.{excuses_on}
use Rattle.testing_rules_excuses.specs.steps.BySource.{excuses_by, ground_at, ground_from, is_among, told_of}
use Rattle.testing_rules_excuses.proofs.OwnPart.{excuses-by_parts}
use Rattle.testing_rules_excuses.proofs.Grounds.{same-excuses}
use Rattle.testing_rules_excuses.proofs.run_excuses.excuses.Goals as goal

pub returns : goal.returns
returns c = λ s h.
    let archs = c.args.archs.now in
    let f = c.args.facts.now in
    let t = c.args.testing.now in
    let places = place_numbers archs in
    let g = ground_from archs f c.args.date in
    let known = ground_at c.in_ok-grouped.grouped in
    c.of.ensures
    ∙ c.in_ok-excuses.ensures
    ∙ ap (λ news. excuses_by places known (map told_of news)) c.deref-2.ensures.value
    ∙ excuses-by_parts places g known c.in_ok-news.news.items t (unboxed c.sources.result.now) c.in_ok-news.ensures
    (λ name among. c.in_ok-grouped.ensures name (subst (λ news. IsTrue (is_among news name)) (sym c.deref.ensures.value) among))
    ∙ ap (excuses_on places g t) c.sources.ensures.sources
    ∙ same-excuses archs f s t c.args.date h
