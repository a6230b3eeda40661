use Rattle.std.proofs.lemmas.Result.{IfOk-weaker}
use Rattle.office_mail.specs.Kept.{Place}
use Rattle.office_core_facts.specs.Known.{said_all}
use Rattle.office_core_facts.specs.Outcome.{item_at}
use Rattle.office_core_facts.specs.steps.Taking.{AreLettersOf, IsItemAt, IsSaidItem}
use Rattle.office_core_facts.proofs.RestoringFacts.{item_kept}
use Rattle.office_core_facts.proofs.restored.item_under.Goals as goal

pub returns-in-Some : goal.returns-in-Some
returns-in-Some c =
    let setup = c.args.setup.now in
    let letter = c.in-Some.letter.now in
    let text = c.as_slice.result.now in
    let number = c.args.number in
    IfOk-weaker c.item_in.result (λ item. (p : Place) → IsSaidItem (item_at setup (p, text)) p.0 p.1 item) (λ item. (kept : _) (sender : _) → AreLettersOf kept sender c.args.letters.now → IsItemAt (said_all setup kept) sender number item)
    (λ item says kept sender own. item_kept setup kept sender number letter text item (own letter c.in-Some.ensures.0) c.in-Some.ensures.1 c.as_slice.ensures (says (sender, number)))
    c.item_in.ensures
