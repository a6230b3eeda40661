use Rattle.office_cli_words.proofs.OldWords.{old_words_stay}
use Rattle.office_cli_words.proofs.laws.old_words_stay.Goals as goal

pub returns : goal.returns
returns c = old_words_stay
