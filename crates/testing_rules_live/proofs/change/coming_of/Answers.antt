use Rattle.std.proofs.Common.{arith, ◌∙◌, sym, ap, subst, ℕ, ◌+◌, ◌<◌, Bool, ◌++◌, length, take, filter, ◌≤◌}
use Rattle.std.specs.Option.{option_copied}
use Rattle.testing_rules_model.specs.Boxed.{unboxed}
use Rattle.testing_rules_model.specs.declared.facts.UploadIn.{UploadIn}
use Rattle.testing_rules_suites.specs.steps.Changes.{comes_at, AreThose}
use Rattle.testing_rules_model.specs.Moves.{source_in, group_sources}
use Rattle.testing_rules_suites.proofs.Changing.{those_more, coming_among}
use Rattle.testing_rules_items.proofs.Grouping.{group-none, group-some}
use Rattle.std.proofs.lemmas.List.{take_all}
use Rattle.testing_rules_live.proofs.change.coming_of.Goals as goal
use Rattle.testing_rules_live.proofs.change.coming_of.Goals.{in-Some+in_ok-push_coming, in_default}

pub loop-name-preserved : goal.loop-name-preserved
loop-name-preserved c =
    let group = c.args.group.now in
    let us = unboxed c.args.sources.now in
    let pool = c.args.pool.now in
    let first = c.args.first in
    let test : UploadIn → ℕ → Bool = comes_at pool first in
    let i = c.loop-name.name-index in
    let d = c.name-item.result in
    let below : i < length group = omega arith in
    let before = c.loop-name.coming.items in
    let found = ap (source_in us) (sym c.name-item.is) ∙ ap (source_in us) (sym c.as_str.ensures) ∙ sym c.source_near.ensures in
    elim c.match-source_near.branch [
      | in-Some+in_ok-push_coming w ↦
          let u = w.in-Some.upload.now in
          let more = group-some (source_in us) group i d below u (found ∙ ap option_copied w.in-Some.is) in
          let places = w.of_source-places.result.now in
          let all = coming_among pool w.as_str-in-Some.result.now places w.of_source-places.ensures.complete first u (sym w.as_str-in-Some.ensures) in
          let those = those_more test (group_sources us (take i group)) before u places c.loop-name.invariant all in
          let items = ap (λ v. v.items) w.coming-is ∙ w.in_ok-push_coming.ensures in
          subst (λ ks. AreThose test (group_sources us (take (i + 1) group)) ks) (sym items)
          (subst (λ xs. AreThose test xs (before ++ filter (test u) places)) (sym more) those)
      | in_default w ↦
          let none = group-none (source_in us) group i d below (found ∙ ap option_copied w.in_default.is) in
          subst (λ ks. AreThose test (group_sources us (take (i + 1) group)) ks) (sym (ap (λ v. v.items) w.coming-is))
          (subst (λ xs. AreThose test xs before) (sym none) c.loop-name.invariant)
    ]

pub returns : goal.returns
returns c =
    let over : length c.args.group.now ≤ c.loop-name.name-index = omega arith in
    rw (take_all c.loop-name.name-index c.args.group.now over) at c.loop-name.invariant
