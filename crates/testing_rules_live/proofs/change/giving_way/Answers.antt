use Rattle.std.proofs.Common.{arith, ◌≡◌, ◌∙◌, sym, ap, subst, ℕ, ◌+◌, ◌<◌, Bool, true, false, [], ◌∷◌, ◌++◌, length, take, filter, get_or, Contains, Option, Some, ◌≤◌}
use Rattle.std.specs.List.{slice_get}
use Rattle.std.specs.Option.{option_map_or}
use Rattle.std.proofs.lemmas.List.{take_more, take_all}
use Rattle.deb_control.specs.declared.binary.Binary.{Binary}
use Rattle.testing_rules_model.specs.declared.suite.RowIn.{RowIn}
use Rattle.testing_rules_suites.specs.steps.Changes.{gives_way_to, stands_for, AreThose}
use Rattle.testing_rules_model.specs.JudgedRows.{row_of}
use Rattle.testing_rules_suites.proofs.Changing.{those_more, giving_way_among}
use Rattle.testing_rules_live.proofs.Unmet.{bears_own}
use Rattle.testing_rules_live.proofs.change.giving_way.Goals as goal

pub loop-place-preserved : goal.loop-place-preserved
loop-place-preserved c =
    let coming = c.args.coming.now in
    let pool = c.args.pool.now in
    let stands = c.args.stands.now in
    let test : ℕ → ℕ → Bool = gives_way_to pool stands in
    let i = c.loop-place.place-index in
    let j = get_or coming i 0 in
    let below : i < length coming = omega arith in
    let before = c.loop-place.leaving.items in
    let row = row_of c.row-row.result in
    let places = c.of_name-places.result.now in
    let at : slice_get pool j ≡ Some row = c.row-row.ensures in
    let as_test : (k : ℕ) → test j k ≡ stands_for pool stands row k = λ k. ap (λ (m : Option RowIn). option_map_or (λ (r : RowIn). stands_for pool stands r k) m false) at in
    let all : (k : ℕ) → test j k ≡ true → Contains places k =
    λ k h. giving_way_among pool row places (λ p r there e. c.of_name-places.ensures.complete p r there (bears_own r.binary _ (e ∙ sym (c.as_str.ensures ∙ ap (λ (q : Binary). q.name) c.deref.ensures)))) stands k (sym (as_test k) ∙ h) in
    let same : filter (test j) places ≡ filter (stands_for pool stands row) places =
    ap (λ (m : Option RowIn). filter (λ k. option_map_or (λ (r : RowIn). stands_for pool stands r k) m false) places) at in
    let those = those_more test (take i coming) before j places c.loop-place.invariant all in
    let items = c.in_ok-push_giving_way.ensures ∙ ap (λ ks. before ++ ks) (sym same) in
    let more : take (i + 1) coming ≡ take i coming ++ j ∷ [] = take_more coming i 0 below in
    subst (λ ks. AreThose test (take (i + 1) coming) ks) (sym items)
    (subst (λ xs. AreThose test xs (before ++ filter (test j) places)) (sym more) those)

pub returns : goal.returns
returns c =
    let over : length c.args.coming.now ≤ c.loop-place.place-index = omega arith in
    rw (take_all c.loop-place.place-index c.args.coming.now over) at c.loop-place.invariant
