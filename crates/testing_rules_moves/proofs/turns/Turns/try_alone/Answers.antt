use Rattle.std.proofs.Common.{◌∙◌, refl, sym}
use Rattle.testing_rules_moves.specs.steps.Runs.{moment_of}
use Rattle.testing_rules_moves.proofs.Remembering.{refused_known}
use Rattle.testing_rules_moves.proofs.Trying.{tried_stayed}
use Rattle.testing_rules_moves.proofs.turns.Turns.try_alone.Goals as goal

pub returns-then-has : goal.returns-then-has
returns-then-has c = λ excuses number known.
    let r = c.args.self.now in
    let e = c.args.candidate.excuse.now in
    let refusals = c.args.refusals.now in
    tried_stayed r r excuses e refusals known (refused_known (moment_of r) excuses refusals c.args.candidate.number e number (sym c.has.ensures ∙ c.if-has.true) known) refl
