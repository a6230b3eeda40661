use Rattle.std.specs.List.{All, AllWithin}
use Rattle.deb_control.specs.declared.relation.Provision.{Provision}
use Rattle.testing_install.specs.Index.{places_at}
use Rattle.testing_install.specs.Rows.{binaries}
use Rattle.testing_install_why.specs.steps.Checking.{IsPast}
use Rattle.testing_install_why.proofs.by_names.are_past_provided.Given as goal

-- those so far
abbrev pub invariant-loop-provision : goal.invariant-loop-provision
invariant-loop-provision l = AllWithin (λ (p : Provision). All (IsPast (binaries l.rows) l.steps l.binary l.place) (places_at l.noted p.name)) l.binary.provides 0 l.provision-index
