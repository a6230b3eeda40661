use Rattle.std.proofs.Common.{IfOk, subst}
use Rattle.std.specs.Option.{option_copied}
use Rattle.testing_rules_excuses.specs.Lines.{IsOriginText}
use Rattle.testing_rules_excuses.specs.Said.{SaidLists}
use Rattle.office_core_why.proofs.told.origins_of.Goals as goal

pub returns : goal.returns
returns c =
    let a = c.args in
    let input = a.input.now in
    subst (λ (said : SaidLists). IfOk c.origin_lines.result (λ text. IsOriginText input.senders.now input.archs.now said a.upload.now (option_copied a.excuse) text)) c.in_ok-said.ensures c.origin_lines.ensures
