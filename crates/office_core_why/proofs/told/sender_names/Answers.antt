use Rattle.std.proofs.Common.{◌≡◌, ◌≤◌, List, length, map, ap, ◌∙◌, arith}
use Rattle.std.proofs.lemmas.List.{take_all}
use Rattle.office_mail_setup.specs.declared.setup.Sender.{Sender}
use Rattle.office_core_why.proofs.told.sender_names.Goals as goal

pub returns : goal.returns
returns c =
    let senders : List Sender = c.senders-senders.result.now in
    let over : length senders ≤ c.loop-sender.sender-index = omega arith in
    let all : c.loop-sender.names.items ≡ map (λ (sender : Sender). sender.name) senders = rw (take_all c.loop-sender.sender-index senders over) at c.loop-sender.invariant in
    all ∙ ap (map (λ (sender : Sender). sender.name)) c.senders-senders.ensures.same
