use Rattle.std.proofs.Common.{◌≡◌, ◌∙◌, sym, ap, subst, ◌<◌, length, false}
use Rattle.std.specs.List.{All}
use Rattle.testing_install.proofs.Marking.{length-with_all}
use Rattle.testing_rules_suites.specs.Present.{CarriedState}
use Rattle.testing_rules_suites.specs.steps.PresentSteps.{AreSuites}
use Rattle.testing_rules_suites.proofs.Suites.{length-after, flags_are}
use Rattle.testing_rules_suites.proofs.carried_suites.CarriedSuites.after.Goals as goal

pub set_flags-requires-2 : goal.set_flags-requires-2
set_flags-requires-2 c =
    let old = c.self.inside.stands.items in
    let long : length c.set_flags.new.flags.items ≡ length c.args.self.rows =
    ap length c.set_flags.ensures ∙ length-with_all false c.deref.result.now old ∙ c.self.invariant.long ∙ ap (λ (s : CarriedState). length s.rows) c.self.view_is in
    subst (λ n. All (λ k. k < n) c.deref-2.result.now) (sym long)
    (subst (All (λ k. k < length c.args.self.rows)) (sym c.deref-2.ensures) c.requires.coming_within)

pub invariant_of-result : goal.invariant_of-result
invariant_of-result c =
    let old = c.self.inside.stands.items in
    let leaving = c.args.change.now.leaving.items in
    let coming = c.args.change.now.coming.items in
    let flags = flags_are old c.set_flags.new.flags.items c.set_flags-2.new.flags.items leaving coming c.deref.result.now c.deref-2.result.now
    c.deref.ensures c.deref-2.ensures c.set_flags.ensures c.set_flags-2.ensures in
    record {
      long = ap length flags ∙ length-after leaving coming old ∙ c.self.invariant.long;
      count = sym c.in_ok-suites.ensures.count;
      each = subst (λ fs. AreSuites c.self.inside.pool fs c.in_ok-suites.suites.items) (sym flags) (c.in_ok-suites.ensures.each c.self.inside.pool old c.self.invariant.long c.self.invariant.each);
    }
