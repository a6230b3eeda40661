use Rattle.std.proofs.Common.{◌≡◌, take}
use Rattle.std.specs.Option.{option_copied}
use Rattle.testing_rules_model.specs.Excuses.{most_urgent}
use Rattle.testing_rules_excuses.specs.steps.LentUploads.{uploads_lent}
use Rattle.testing_rules_excuses.proofs.days.most_urgent.Given as goal

-- the most urgent so far
abbrev pub invariant-loop-upload : goal.invariant-loop-upload
invariant-loop-upload l = l.urgency ≡ most_urgent (uploads_lent (take l.upload-index l.uploads)) (option_copied l.testing) l.name
