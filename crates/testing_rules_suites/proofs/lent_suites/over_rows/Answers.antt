use Rattle.std.proofs.Common.{arith, ◌≡◌, ◌∙◌, ◌-◌, ◌++◌, sym, ap, subst, length, replicate, true, false, List, Bool, ℕ}
use Rattle.std.proofs.lemmas.List.{length-append, length-replicate}
use Rattle.testing_install.specs.Closed.{marked}
use Rattle.testing_rules_items.proofs.Weaker.{if_ok_weaker}
use Rattle.testing_rules_model.specs.JudgedRows.{lent}
use Rattle.testing_rules_model.specs.declared.suite.RowIn.{RowIn}
use Rattle.testing_rules_suites.specs.Present.{CarriedState, IsShown}
use Rattle.testing_rules_suites.specs.steps.Standing.{AreWanted}
use Rattle.testing_rules_suites.proofs.StandingFacts.{no_flag_set, shown_as, wanted_none, wanted_shown}
use Rattle.testing_rules_suites.proofs.lent_suites.over_rows.Goals as goal

pub wanted-requires : goal.wanted-requires
wanted-requires c =
    let pool = c.pool.result.now in
    let flags = c.in_ok-flags.flags.items in
    let count : length flags ≡ length pool = ap length c.in_ok-flags.ensures ∙ length-replicate c.len.result false ∙ c.len.ensures ∙ ap length (sym c.pool.ensures) in
    wanted_none pool flags count (λ k. ap (λ (fs : List Bool). marked fs k) c.in_ok-flags.ensures ∙ no_flag_set c.len.result k)

pub raise_more-requires : goal.raise_more-requires
raise_more-requires c =
    let w = c.in_ok-lacking.ensures in
    let grown = ap (λ (s : CarriedState). length s.rows) c.in_ok-suites.ensures ∙ length-append c.args.suites.rows (lent c.deref.result.now) in
    omega (arith, w.long, ap length c.pool.ensures, grown, c.len-2.ensures)

pub with_flags-requires : goal.with_flags-requires
with_flags-requires c =
    let w = c.in_ok-lacking.ensures in
    let old = c.wanted.new.flags.items in
    let n = c.len-2.result in
    let grown = ap (λ (s : CarriedState). length s.rows) c.in_ok-suites.ensures ∙ length-append c.args.suites.rows (lent c.deref.result.now) in
    let long = ap length c.deref-2.ensures.value ∙ ap length c.in_ok-raise_more.ensures ∙ length-append old (replicate (n - length old) true) in
    omega (arith, long, length-replicate (n - length old) true, w.long, ap length c.pool.ensures, grown, c.len-2.ensures)

pub returns : goal.returns
returns c =
    let rows = c.args.rows.now in
    let pool = c.pool.result.now in
    let lacking : List RowIn = lent c.in_ok-lacking.lacking.items in
    let old = c.wanted.new.flags.items in
    let w : AreWanted pool rows old lacking = c.in_ok-lacking.ensures in
    let n = c.len-2.result in
    let given : lent c.deref.result.now ≡ lacking = ap lent c.deref.ensures.value in
    let is : c.in_ok-suites.suites.rows ≡ pool ++ lacking = ap (λ (s : CarriedState). s.rows) c.in_ok-suites.ensures ∙ ap (λ (ls : List RowIn). c.args.suites.rows ++ ls) given ∙ ap (λ (ps : List RowIn). ps ++ lacking) (sym c.pool.ensures) in
    let count : n - length old ≡ length lacking = omega (arith, c.len-2.ensures, ap length is, length-append pool lacking, w.long) in
    let raised : c.deref-2.result.now ≡ old ++ replicate (length lacking) true = c.deref-2.ensures.value ∙ c.in_ok-raise_more.ensures ∙ ap (λ m. old ++ replicate m true) count in
    let shown = wanted_shown pool rows old lacking w c.requires in
    if_ok_weaker (λ (s : CarriedState). (s.rows ≡ c.in_ok-suites.suites.rows) × ((k : ℕ) → marked s.stands k ≡ marked c.deref-2.result.now k))
    (λ (s : CarriedState). IsShown s.rows (marked s.stands) rows) c.with_flags.result
    (λ s so. subst (λ (rs : List RowIn). IsShown rs (marked s.stands) rows) (sym (so.0 ∙ is))
    (shown_as (pool ++ lacking) (marked (old ++ replicate (length lacking) true)) (marked s.stands) rows (λ k. so.1 k ∙ ap (λ (fs : List Bool). marked fs k) raised) shown))
    c.with_flags.ensures
