use Rattle.std.proofs.Common.{arith, ◌≡◌, ◌∙◌, sym, ap, subst, ℕ, ◌+◌, ◌<◌, true, Bool, [], ◌∷◌, ◌++◌, length, take, filter, Contains, ◌≤◌}
use Rattle.std.proofs.lemmas.List.{take_more, take_all}
use Rattle.testing_rules_suites.specs.steps.Changes.{stands_of, AreThose}
use Rattle.testing_rules_items.specs.Words.{Text}
use Rattle.testing_rules_suites.proofs.Changing.{those_more, standing_among}
use Rattle.testing_rules_live.proofs.change.standing_of_group.Goals as goal

pub loop-name-preserved : goal.loop-name-preserved
loop-name-preserved c =
    let group = c.args.group.now in
    let pool = c.args.pool.now in
    let stands = c.args.stands.now in
    let test : Text → ℕ → Bool = stands_of pool stands in
    let i = c.loop-name.name-index in
    let d = c.name-item.result in
    let below : i < length group = omega arith in
    let before = c.loop-name.leaving.items in
    let places = c.of_source-places.result.now in
    let all : (k : ℕ) → test d k ≡ true → Contains places k =
    λ k h. standing_among pool c.as_str.result.now places c.of_source-places.ensures.complete stands k (ap (λ n. stands_of pool stands n k) c.as_str.ensures ∙ h) in
    let those = those_more test (take i group) before d places c.loop-name.invariant all in
    let items = c.in_ok-push_standing.ensures ∙ ap (λ n. before ++ filter (stands_of pool stands n) places) c.as_str-in-loop-name.ensures in
    let more : take (i + 1) group ≡ take i group ++ d ∷ [] = take_more group i d below ∙ ap (λ n. take i group ++ n ∷ []) (sym c.name-item.is) in
    subst (λ ks. AreThose test (take (i + 1) group) ks) (sym items)
    (subst (λ xs. AreThose test xs (before ++ filter (test d) places)) (sym more) those)

pub returns : goal.returns
returns c =
    let over : length c.args.group.now ≤ c.loop-name.name-index = omega arith in
    rw (take_all c.loop-name.name-index c.args.group.now over) at c.loop-name.invariant
