use Rattle.std.proofs.Common.{subst}
use Rattle.testing_rules_facts.specs.Restored.{said}
use Rattle.testing_rules_facts.specs.Uploads.{AreByMessage}
use Rattle.office_core_facts.proofs.AgainFacts.{item_upload}
use Rattle.office_core_facts.proofs.taken.take_item.Goals as goal

pub returns : goal.returns
returns c =
    let took = c.in_ok-take_owned.ensures in
    record {
      stand = took.ok;
      tells = took.tells;
      moved = took.moved;
      by_message = λ was. subst AreByMessage c.uploads.ensures.uploads c.uploads.ensures.ordered;
      kept = took.kept;
      there = λ m u is up. took.there u (item_upload m u (said c.args.sender c.args.number c.args.item) is up);
    }
