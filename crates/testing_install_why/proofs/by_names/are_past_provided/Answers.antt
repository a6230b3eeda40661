use Rattle.std.proofs.Common.{◌∙◌, ap, subst}
use Rattle.std.specs.List.{All}
use Rattle.deb_control.specs.declared.relation.Provision.{Provision}
use Rattle.testing_install.specs.Index.{places_at}
use Rattle.testing_install.specs.Rows.{binaries}
use Rattle.testing_install.proofs.Places.{read_more}
use Rattle.testing_install_why.specs.steps.Checking.{IsPast}
use Rattle.testing_install_why.proofs.by_names.are_past_provided.Goals as goal

pub loop-provision-preserved : goal.loop-provision-preserved
loop-provision-preserved c =
    let past = IsPast (binaries c.args.rows.now) c.args.steps.now c.args.binary.now c.args.place in
    let noted = c.args.noted.now in
    let here = subst (All past) (c.places-numbers.ensures ∙ ap (places_at noted) c.as_str.ensures) (c.are_past_among.ensures c.if-not-are_past_among.false) in
    read_more (λ (p : Provision). All past (places_at noted p.name)) c.args.binary.now.provides _ c.loop-provision.provision-index c.provision-item.result c.as_slice-provision-items.ensures c.loop-provision-test.true c.provision-item.is c.loop-provision.invariant here
