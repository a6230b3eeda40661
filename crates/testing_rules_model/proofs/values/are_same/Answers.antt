use Rattle.std.proofs.Common.{rules, tests}
use Rattle.std.proofs.lemmas.Iterator.{YieldsList-from_slice, YieldsList-from_zip, same_from_all}
use Rattle.testing_rules_model.proofs.values.are_same.Goals as goal

pub returns-then-these-those : goal.returns-then-these-those
returns-then-these-those g c = same_from_all c.all.new.self _ _ _ _ c.all.ensures.ran (YieldsList-from_zip (YieldsList-from_slice c.args.these.now cc) (YieldsList-from_slice c.args.those.now cc)) (search rules) (λ x q k. search (rules, tests)) (λ x q k. search (rules, tests))
