use Rattle.testing_rules_excuses.proofs.OneText.{one_text}
use Rattle.testing_rules_excuses.proofs.laws.one_origin_text.Goals as goal

pub returns : goal.returns
returns c = one_text
