use Rattle.std.proofs.Common.{rules, ◌≡◌, ◌∙◌}
use Rattle.office_core_outcome.specs.steps.RefusalSteps.{judged_in}
use Rattle.office_core_outcome.proofs.RefusalFacts.{refused_told}
use Rattle.office_core_outcome.proofs.refused_hints.refusal_text.Goals as goal

pub returns : goal.returns
returns c =
    let text : c.from_string.result ≡ c.in_ok-text.text.bytes.items = search rules in
    text ∙ c.in_ok-text.ensures.ok
    ∙ refused_told (judged_in c.args.judging.now) c.args.number c.args.offender.now c.name-arch.result.now c.as_str-package.result.now c.as_str.result.now c.args.lines.now c.name-arch.ensures c.as_str-package.ensures c.as_str.ensures
