use Rattle.std.proofs.Common.{arith, ◌≤◌, length}
use Rattle.std.proofs.lemmas.List.{take_all}
use Rattle.testing_rules_excuses.proofs.days.most_urgent.Goals as goal

pub returns : goal.returns
returns c =
    let over : length c.args.uploads.now ≤ c.loop-upload.upload-index = omega arith in
    rw (take_all c.loop-upload.upload-index c.args.uploads.now over) at c.loop-upload.invariant
