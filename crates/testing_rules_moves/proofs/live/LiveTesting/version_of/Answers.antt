use Rattle.std.proofs.Common.{◌≡◌, subst}
use Rattle.std.specs.Option.{option_copied}
use Rattle.testing_rules_model.specs.Excuses.{testing_version}
use Rattle.testing_rules_moves.specs.steps.Runs.{Moment}
use Rattle.testing_rules_moves.proofs.live.LiveTesting.version_of.Goals as goal

pub returns : goal.returns
returns c = subst (λ (m : Moment). option_copied c.version_of.result ≡ testing_version m.suite c.args.name.now) c.self.view_is c.version_of.ensures
