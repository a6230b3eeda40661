use Rattle.std.proofs.Common.{ℕ, ap, sym, ◌∙◌, arith}
use Rattle.std.proofs.lemmas.Result.{on_ok_weaker}
use Rattle.office_store_keeper.specs.Content.{Content}
use Rattle.office_core_queries.proofs.PartFacts.{part_at, part_behind, part_past, zero_free}
use Rattle.office_core_queries.proofs.parts.push_from.Goals as goal

pub returns-then-from-gt-MAX_NUMBER-clause-part : goal.returns-then-from-gt-MAX_NUMBER-clause-part
returns-then-from-gt-MAX_NUMBER-clause-part g c = λ h none.
    let kept = (g.K.Keeper.content c.args.office.now).kept in
    none ∙ sym (part_past kept c.args.sender c.args.from (omega (arith, c.if-from-gt-MAX_NUMBER.true)))

pub returns-clause-part : goal.returns-clause-part
returns-clause-part g c = λ h none.
    let content : Content = g.K.Keeper.content c.args.office.now in
    let kept = content.kept in
    let s = c.args.sender in
    let less : ℕ = c.saturating_sub.result in
    on_ok_weaker c.push_part.result
    (λ put. put ∙ ap (part_behind kept s less) none ∙ part_at kept s c.args.from less (omega (arith, c.saturating_sub.ensures)) (zero_free (g.K.Keeper.setup c.args.office.now) kept s h.1.1.places))
    (c.push_part.ensures.part h)
