use Rattle.std.proofs.Common.{Result, subst}
use Rattle.deb_control.specs.steps.BinaryAnswers.{Gives}
use Rattle.deb_control.specs.declared.binary.Binary.{Binary}
use Rattle.deb_control.specs.declared.fault.BinaryFault.{BinaryFault}
use Rattle.deb_control.proofs.Alike.{by_needs}
use Rattle.deb_control.proofs.AnswerFacts.{described_or_memory}
use Rattle.deb_control.proofs.binary.Binary.parse.Goals as goal

pub returns : goal.returns
returns c =
    let gives = subst (λ (said : Result Binary BinaryFault). Gives c.read_binary.result said) (by_needs c.args.paragraph.now) c.read_binary.ensures in
    described_or_memory _ _ gives
