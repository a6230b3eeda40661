use Rattle.std.proofs.Common.{arith, ◌∙◌, sym, ap, Bool, ◌&&◌, ◌<◌, ◌≤◌, length}
use Rattle.std.proofs.lemmas.List.{take_all}
use Rattle.std.proofs.lemmas.List.Folds.{list_any_at}
use Rattle.std.specs.Str.{bytes_eq}
use Rattle.testing_rules_items.specs.Words.{is_empty, is_same_version}
use Rattle.testing_rules_model.specs.declared.excuse.Excuse.{Excuse}
use Rattle.testing_rules_moves.proofs.groups.is_among.Goals as goal

pub returns-then-allows : goal.returns-then-allows
returns-then-allows c =
    let xs = c.args.excuses.now in
    let i = c.loop-excuse.excuse-index in
    let test : Excuse → Bool = λ e. bytes_eq e.source c.args.name.now && is_empty e.reasons && is_same_version e.unstable c.args.version.now in
    let below : i < length xs = omega arith in
    sym (list_any_at test xs i c.excuse-item.result below (ap test (sym c.excuse-item.is) ∙ sym c.allows.ensures ∙ c.if-allows.true))

pub returns : goal.returns
returns c =
    let over : length c.args.excuses.now ≤ c.loop-excuse.excuse-index = omega arith in
    sym (rw (take_all c.loop-excuse.excuse-index c.args.excuses.now over) at c.loop-excuse.invariant)
