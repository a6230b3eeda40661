use Rattle.std.proofs.Common.{◌≡◌, ◌∷◌, Contains, Some, subst}
use Rattle.std.proofs.lemmas.Result.{on_ok_weaker}
use Rattle.testing_rules_items.specs.declared.item.Item.{Item}
use Rattle.testing_rules_model.specs.Covered.{CoveredItem, upload_of}
use Rattle.testing_rules_model.specs.StandsFor.{StandsFor}
use Rattle.testing_rules_model.specs.Tells.{Tells}
use Rattle.testing_rules_facts.proofs.facts.Facts.take.Goals as goal

pub returns-clause-ok : goal.returns-clause-ok
returns-clause-ok c =
    let n = c.args.sender in
    let k = c.args.number in
    on_ok_weaker c.take_owned.result
    (λ stand s t h. subst (λ (i : Item). StandsFor c.take_owned.new.self (record { sender = n; number = k; item = i } ∷ s) t) c.in_ok-copy.ensures (stand s t h))
    c.take_owned.ensures.ok

pub returns-clause-there : goal.returns-clause-there
returns-clause-there c =
    let n = c.args.sender in
    let k = c.args.number in
    on_ok_weaker c.take_owned.result
    (λ there u. subst (λ (i : Item). let m : CoveredItem = record { sender = n; number = k; item = i } in upload_of m ≡ Some u → Contains c.take_owned.new.self.uploads u) c.in_ok-copy.ensures (there u))
    c.take_owned.ensures.there

pub returns-clause-tells : goal.returns-clause-tells
returns-clause-tells c =
    let n = c.args.sender in
    let k = c.args.number in
    on_ok_weaker c.take_owned.result
    (λ tells s h. subst (λ (i : Item). Tells c.take_owned.new.self (record { sender = n; number = k; item = i } ∷ s)) c.in_ok-copy.ensures (tells s h))
    c.take_owned.ensures.tells
