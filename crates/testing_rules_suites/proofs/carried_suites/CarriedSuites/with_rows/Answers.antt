use Rattle.std.proofs.Common.{arith, ◌≡◌, ◌∙◌, sym, ap, ap₂, subst, ◌-◌, ◌++◌, length, take, replicate, false, List, Bool}
use Rattle.testing_install.proofs.Marking.{grown_to}
use Rattle.testing_rules_model.specs.JudgedRows.{lent}
use Rattle.testing_rules_suites.specs.Present.{CarriedState}
use Rattle.testing_rules_suites.specs.steps.PresentSteps.{AreOver, AreSuites}
use Rattle.testing_rules_model.specs.declared.suite.RowIn.{RowIn}
use Rattle.testing_rules_suites.proofs.Extending.{longer_from, longer_over, longer_flags, longer_kept}
use Rattle.testing_rules_suites.proofs.carried_suites.CarriedSuites.with_rows.Goals as goal

pub extended-requires-clause-over : goal.extended-requires-clause-over
extended-requires-clause-over c =
    let suites = c.self.inside.suites.items in
    let longer = c.in_ok-pool.pool in
    let over = longer_over c.self.inside.pool (lent c.args.more.now) longer c.self.inside.stands.items c.self.inside.archs suites c.self.invariant c.in_ok-pool.ensures in
    subst (λ n. AreOver (take n longer) suites) (sym c.len-from.ensures) over

pub invariant_of-result : goal.invariant_of-result
invariant_of-result c =
    let pool = c.self.inside.pool in
    let stands = c.self.inside.stands.items in
    let from = longer_from c.self.inside.pool (lent c.args.more.now) c.in_ok-pool.pool stands c.self.inside.archs c.self.inside.suites.items c.self.invariant c.in_ok-pool.ensures in
    let resized =
    grown_to stands c.resize.new.self.items c.len.result _ c.in_ok-resize.ensures.items c.self.inside.stands.ok.0 (omega (arith, from, c.len.ensures, c.self.invariant.long))
    ∙ ap (λ n. stands ++ replicate (n - length stands) false) c.len.ensures in
    let suites = c.self.inside.suites.items in
    let longer = c.in_ok-pool.pool in
    let new = c.in_ok-suites.suites.items in
    let each = subst
    (λ n. (fs : List Bool) → length fs ≡ n → AreSuites (take n longer) fs suites → AreSuites longer (fs ++ replicate (length longer - n) false) new)
    c.len-from.ensures c.in_ok-suites.ensures.each in
    longer_kept pool (lent c.args.more.now) longer c.self.inside.stands.items c.self.inside.archs suites c.self.invariant c.in_ok-pool.ensures c.resize.new.self.items new resized c.in_ok-suites.ensures.count each

pub returns : goal.returns
returns c =
    let more = lent c.args.more.now in
    let stands = c.self.inside.stands.items in
    let from = longer_from c.self.inside.pool (lent c.args.more.now) c.in_ok-pool.pool stands c.self.inside.archs c.self.inside.suites.items c.self.invariant c.in_ok-pool.ensures in
    let resized =
    grown_to stands c.resize.new.self.items c.len.result _ c.in_ok-resize.ensures.items c.self.inside.stands.ok.0 (omega (arith, from, c.len.ensures, c.self.invariant.long))
    ∙ ap (λ n. stands ++ replicate (n - length stands) false) c.len.ensures in
    let longer = c.in_ok-pool.pool in
    let archs = c.self.inside.archs in
    let flags = longer_flags c.self.inside.pool more longer c.self.inside.stands.items archs c.self.inside.suites.items c.self.invariant c.in_ok-pool.ensures c.resize.new.self.items resized in
    let state : List RowIn → List Bool → CarriedState = λ rows stands. record { rows = rows; stands = stands; archs = archs } in
    let grown : CarriedState → CarriedState = λ s. record { rows = s.rows ++ more; stands = s.stands ++ replicate (length more) false; archs = s.archs } in
    ap₂ state c.in_ok-pool.ensures flags ∙ ap grown c.self.view_is
