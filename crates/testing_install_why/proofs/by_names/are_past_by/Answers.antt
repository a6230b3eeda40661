use Rattle.std.proofs.Common.{◌∙◌, ap, subst}
use Rattle.std.specs.List.{All}
use Rattle.testing_install.specs.Index.{places_at}
use Rattle.testing_install.specs.Rows.{binaries}
use Rattle.testing_install_why.specs.steps.Checking.{IsPast}
use Rattle.testing_install_why.proofs.CheckedByNames.{past_by_names}
use Rattle.testing_install_why.proofs.by_names.are_past_by.Goals as goal

pub returns : goal.returns
returns c = λ e.
    let rows = binaries c.args.rows.now in
    let steps = c.args.steps.now in
    let noted = c.args.noted.now in
    let row = c.args.binary.now in
    let own = subst (All (IsPast rows steps row c.args.place)) (c.places-numbers.ensures ∙ ap (places_at noted) c.as_str.ensures) (c.are_past_among.ensures c.if-not-are_past_among.false) in
    past_by_names rows steps noted row c.args.place c.requires own (c.are_past_provided.ensures e)
