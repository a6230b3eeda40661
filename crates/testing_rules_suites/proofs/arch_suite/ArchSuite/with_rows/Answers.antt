use Rattle.std.proofs.Common.{◌∙◌, sym, ap, subst, ◌<◌, ◌++◌, length, map, take}
use Rattle.std.specs.List.{All}
use Rattle.testing_install.specs.Rows.{shared}
use Rattle.testing_install.proofs.Sharing.{length-shared}
use Rattle.testing_rules_suites.specs.steps.ArchRows.{ArchRows, package_at}
use Rattle.testing_rules_suites.specs.steps.PresentSteps.{IsOver, IsSuiteOn}
use Rattle.testing_rules_suites.proofs.MorePlaces.{places_behind, over_longer, part_longer, suite_longer}
use Rattle.testing_rules_suites.proofs.arch_suite.ArchSuite.with_rows.Goals as goal

pub packages_at-requires : goal.packages_at-requires
packages_at-requires c =
    let pool = c.args.pool.now in
    subst (All (λ k. k < length pool)) (sym (c.deref.ensures ∙ c.in_ok-more.ensures)) (places_behind c.args.arch pool c.args.from c.requires.from)

pub invariant_of-result : goal.invariant_of-result
invariant_of-result c =
    let pool = c.args.pool.now in
    let old : ArchRows = record { places = c.self.inside.places.items; suite = c.self.inside.suite } in
    let over = subst (λ s. IsOver c.args.arch (take c.args.from pool) s) (sym c.self.view_is) c.requires.over in
    let more = c.in_ok-more.more.items in
    let packages = shared c.in_ok-packages.packages.items in
    let new : ArchRows = record { places = c.extend_from_slice.new.self.items; suite = c.in_ok-suite.suite } in
    part_longer c.args.arch pool c.args.from c.requires.from old over more packages (length c.in_ok-packages.packages.items) c.in_ok-more.ensures (c.in_ok-packages.ensures ∙ ap (map (package_at pool)) c.deref.ensures)
    (sym (length-shared c.in_ok-packages.packages.items)) new (c.in_ok-extend_from_slice.ensures.items ∙ ap (λ ks. old.places ++ ks) c.deref-2.ensures) c.in_ok-suite.ensures.rows c.in_ok-suite.ensures.there

pub returns-clause-over : goal.returns-clause-over
returns-clause-over c =
    let pool = c.args.pool.now in
    let old : ArchRows = record { places = c.self.inside.places.items; suite = c.self.inside.suite } in
    let over = subst (λ s. IsOver c.args.arch (take c.args.from pool) s) (sym c.self.view_is) c.requires.over in
    let more = c.in_ok-more.more.items in
    let packages = shared c.in_ok-packages.packages.items in
    let new : ArchRows = record { places = c.extend_from_slice.new.self.items; suite = c.in_ok-suite.suite } in
    over_longer c.args.arch pool c.args.from c.requires.from old over more packages (length c.in_ok-packages.packages.items) c.in_ok-more.ensures (c.in_ok-packages.ensures ∙ ap (map (package_at pool)) c.deref.ensures)
    (sym (length-shared c.in_ok-packages.packages.items)) new (c.in_ok-extend_from_slice.ensures.items ∙ ap (λ ks. old.places ++ ks) c.deref-2.ensures) c.in_ok-suite.ensures.rows c.in_ok-suite.ensures.there

pub returns-clause-suite : goal.returns-clause-suite
returns-clause-suite c =
    let pool = c.args.pool.now in
    let old : ArchRows = record { places = c.self.inside.places.items; suite = c.self.inside.suite } in
    let over = subst (λ s. IsOver c.args.arch (take c.args.from pool) s) (sym c.self.view_is) c.requires.over in
    let more = c.in_ok-more.more.items in
    let packages = shared c.in_ok-packages.packages.items in
    let new : ArchRows = record { places = c.extend_from_slice.new.self.items; suite = c.in_ok-suite.suite } in
    λ stands long own.
    suite_longer c.args.arch pool c.args.from c.requires.from old over more packages (length c.in_ok-packages.packages.items) c.in_ok-more.ensures (c.in_ok-packages.ensures ∙ ap (map (package_at pool)) c.deref.ensures)
    (sym (length-shared c.in_ok-packages.packages.items)) new (c.in_ok-extend_from_slice.ensures.items ∙ ap (λ ks. old.places ++ ks) c.deref-2.ensures) c.in_ok-suite.ensures.rows c.in_ok-suite.ensures.there
    stands long (subst (λ s. IsSuiteOn c.args.arch (take c.args.from pool) stands s) (sym c.self.view_is) own)
