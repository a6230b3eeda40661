use Rattle.std.proofs.Common.{arith, ◌∙◌, sym, ap, ◌<◌, ◌≤◌, length, Bool, Some}
use Rattle.std.proofs.lemmas.List.{take_all}
use Rattle.std.specs.Str.{bytes_eq}
use Rattle.testing_rules_model.specs.declared.excuse.Excuse.{Excuse}
use Rattle.testing_rules_excuses.proofs.Finding.{find_here, none_more}
use Rattle.testing_rules_excuses.proofs.states.excuse_of.Goals as goal

pub returns-then-is_of : goal.returns-then-is_of
returns-then-is_of c =
    let a = c.args in
    let i = c.loop-excuse.excuse-index in
    let d = c.excuse-item.result in
    let test : Excuse → Bool = λ e. bytes_eq e.source a.name.now in
    let below : i < length a.excuses.now = omega arith in
    let here = ap test (sym c.excuse-item.is) ∙ sym c.is_of.ensures ∙ c.if-is_of.true in
    ap (λ (e : Excuse). Some e) c.excuse-item.is ∙ sym (find_here test a.excuses.now i d below c.loop-excuse.invariant here)

pub loop-excuse-preserved : goal.loop-excuse-preserved
loop-excuse-preserved c =
    let a = c.args in
    let i = c.loop-excuse.excuse-index in
    let d = c.excuse-item.result in
    let test : Excuse → Bool = λ e. bytes_eq e.source a.name.now in
    let below : i < length a.excuses.now = omega arith in
    none_more test a.excuses.now i d below c.loop-excuse.invariant (ap test (sym c.excuse-item.is) ∙ sym c.is_of.ensures ∙ c.if-is_of.false)

pub returns : goal.returns
returns c =
    let over : length c.args.excuses.now ≤ c.loop-excuse.excuse-index = omega arith in
    sym (rw (take_all c.loop-excuse.excuse-index c.args.excuses.now over) at c.loop-excuse.invariant)
