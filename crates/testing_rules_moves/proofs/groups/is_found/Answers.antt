use Rattle.std.proofs.Common.{sym, ◌∙◌, Bool, ◌&&◌}
use Rattle.std.specs.Str.{bytes_eq}
use Rattle.testing_rules_items.specs.Words.{is_empty, is_same_version}
use Rattle.testing_rules_model.specs.declared.excuse.Excuse.{Excuse}
use Rattle.testing_rules_suites.proofs.Lost.{any_of}
use Rattle.testing_rules_moves.proofs.groups.is_found.Goals as goal

pub returns-in-Ok : goal.returns-in-Ok
returns-in-Ok c = λ found.
    let name = c.args.name.now in
    let v = c.args.version.now in
    let xs = c.args.excuses.now in
    let d = c.index-excuses-place.result in
    let test : Excuse → Bool = λ e. bytes_eq e.source name && is_empty e.reasons && is_same_version e.unstable v in
    any_of test xs d (c.in-Ok.place, c.in-Ok.ensures, sym c.index-excuses-place.is) (sym c.allows.ensures ∙ found)
