use Rattle.std.proofs.Common.{◌≡◌, ◌+◌, ◌==◌, arith, find, option_map, slice_get, sym, ap, ◌∙◌}
use Rattle.deb_control.specs.declared.binary.Binary.{Binary}
use Rattle.testing_rules_model.specs.Covered.{placed_from}
use Rattle.testing_rules_fact_order.specs.steps.Entries.{placed_at}
use Rattle.testing_rules_fact_order.proofs.PlacedAt.{none_before, found_at, lent_at}
use Rattle.testing_rules_fact_order.proofs.restored.binary_at.Goals as goal

pub returns-in-Some : goal.returns-in-Some
returns-in-Some c = λ n k.
    let bs = c.args.binaries.now in
    let e : c.args.place ≡ 1 + c.in-Some.before = omega (arith, c.in-Some.ensures) in
    ap (option_map (λ (b : Binary). placed_at n k b c.args.place)) (lent_at bs c.in-Some.before c.get.result c.get.ensures.lookup)
    ∙ ap (λ p. option_map (λ (b : Binary). placed_at n k b p) (slice_get bs c.in-Some.before)) e
    ∙ sym (found_at n k c.in-Some.before 1 bs)
    ∙ ap (λ p. find (λ b. b.place == p) (placed_from 1 n k bs)) (sym e)

pub returns-in-None : goal.returns-in-None
returns-in-None c = λ n k. sym (none_before n k c.args.place 1 c.args.binaries.now (omega (arith, c.in-None.ensures)))
