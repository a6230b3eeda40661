use Rattle.std.proofs.Common.{◌∙◌, sym, ap, false, length}
use Rattle.testing_install.proofs.Marking.{length-with_all}
use Rattle.testing_install.proofs.Reviving.{bounded_by}
use Rattle.testing_install.proofs.trials.set_both.Goals as goal

pub set_all-requires-2 : goal.set_all-requires-2
set_all-requires-2 c = bounded_by _ _ c.args.coming.now c.requires.coming (sym (ap length c.in_ok-set_all.ensures.set ∙ length-with_all false c.args.leaving.now c.args.marks.now.current))
