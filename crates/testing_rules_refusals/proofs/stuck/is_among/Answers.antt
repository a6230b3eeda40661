use Rattle.std.proofs.Common.{arith, ◌∙◌, sym, ap, ◌<◌, ◌≤◌, length}
use Rattle.std.proofs.lemmas.List.{take_all}
use Rattle.std.proofs.lemmas.List.Folds.{list_any_at}
use Rattle.std.specs.Str.{bytes_eq}
use Rattle.testing_rules_refusals.proofs.stuck.is_among.Goals as goal

pub returns-then-eq : goal.returns-then-eq
returns-then-eq c =
    let test = bytes_eq c.args.name.now in
    let i = c.loop-other.other-index in
    let d = c.other-item.result in
    let below : i < length c.args.names.now = omega arith in
    let here = ap test (sym c.other-item.is ∙ sym c.as_str.ensures) ∙ sym c.eq.ensures ∙ c.if-eq.true in
    sym (list_any_at test c.args.names.now i d below here)

pub returns : goal.returns
returns c =
    let over : length c.args.names.now ≤ c.loop-other.other-index = omega arith in
    sym (rw (take_all c.loop-other.other-index c.args.names.now over) at c.loop-other.invariant)
