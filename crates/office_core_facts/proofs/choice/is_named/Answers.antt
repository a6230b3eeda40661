use Rattle.office_core_facts.proofs.AgainFacts.{said_upload}
use Rattle.office_core_facts.proofs.choice.is_named.Goals as goal

pub returns : goal.returns
returns c = λ p m u is says name.
    c.is_upload_of-named.ensures p.0 p.1 u (said_upload p.0 p.1 c.in_ok-item.item _ m u (c.in_ok-item.ensures p) is says) name
