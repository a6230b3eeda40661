use Rattle.std.proofs.Common.{◌≡◌, ◌++◌, [], sym, ap, ◌∙◌, eqb-true, arith}
use Rattle.std.proofs.lemmas.List.{nil_from_length}
use Rattle.deb_control.proofs.binary.joined.Goals as goal

pub returns-then-is_empty : goal.returns-then-is_empty
returns-then-is_empty c =
    let none_before : c.args.before.items ≡ [] = nil_from_length _ (omega (arith, c.args.before.ok.0, eqb-true _ _ (sym c.is_empty.ensures ∙ c.if-is_empty.true))) in
    ap (λ xs. xs ++ c.args.after.items) (sym none_before)
