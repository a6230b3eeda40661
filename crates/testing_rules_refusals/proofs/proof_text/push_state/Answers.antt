use Rattle.std.proofs.Common.{◌∙◌, ap, ◌++◌, append_assoc, string_bytes}
use Rattle.std.specs.Prelude.{codes}
use Rattle.std.proofs.lemmas.Result.{on_ok_weaker}
use Rattle.testing_rules_refusals.specs.Texts.{reasons_text}
use Rattle.testing_rules_refusals.proofs.Pushing.{pushed}
use Rattle.testing_rules_refusals.proofs.proof_text.push_state.Goals as goal

pub returns-in-NotCurrent : goal.returns-in-NotCurrent
returns-in-NotCurrent c =
    rw c.in-NotCurrent.is (pushed c.push_str-in-NotCurrent.result (string_bytes c.push_str-in-NotCurrent.new.self) (string_bytes c.args.text.now) (codes "isn't current") c.push_str-in-NotCurrent.ensures.bytes)

pub returns-in_ok-push_str-in-NotCandidate : goal.returns-in_ok-push_str-in-NotCandidate
returns-in_ok-push_str-in-NotCandidate c =
    let old = string_bytes c.args.text.now in
    let text = reasons_text c.args.archs.now in
    rw c.in-NotCandidate.is
    (on_ok_weaker c.push_reasons.result
    (λ h.
    h ∙ ap (λ xs. xs ++ text c.as_slice.result.now) c.in_ok-push_str-in-NotCandidate.ensures.bytes ∙ append_assoc old (codes "isn't a candidate: ") (text c.as_slice.result.now)
    ∙ ap (λ rs. old ++ (codes "isn't a candidate: " ++ text rs)) c.as_slice.ensures)
    c.push_reasons.ensures)
