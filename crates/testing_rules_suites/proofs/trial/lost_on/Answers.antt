use Rattle.std.proofs.Common.{◌≡◌, ◌∙◌, sym, ap, subst, ◌<◌, Some, length}
use Rattle.std.specs.List.{All, slice_get}
use Rattle.std.proofs.lemmas.Option.{slice_get-get_or, slice_get_within, same_Some}
use Rattle.testing_rules_suites.specs.steps.ArchRows.{ArchRows, AreLostFrom}
use Rattle.testing_rules_suites.specs.steps.PresentSteps.{IsSuiteOn}
use Rattle.testing_rules_suites.specs.steps.Trials.{names_at}
use Rattle.testing_rules_items.specs.Words.{byte_cmp, least}
use Rattle.testing_rules_suites.proofs.Carried.{lost_first}
use Rattle.testing_rules_suites.proofs.Flags.{bounded_members}
use Rattle.testing_rules_suites.proofs.Parts.{row_of_number}
use Rattle.testing_rules_suites.proofs.trial.lost_on.Goals as goal

pub first_watched-requires : goal.first_watched-requires
first_watched-requires c =
    let arch = c.args.arch in
    let pool = c.args.pool.now in
    let suites = c.args.suites.now.items in
    let suite = c.index_mut-suite.result.now in
    let at : slice_get suites arch ≡ Some suite = slice_get-get_or suites arch suite c.requires.arch ∙ ap Some (sym c.index_mut-suite.ensures.value) in
    subst (All (λ k. k < length pool)) (sym c.deref-3.ensures)
    (bounded_members (length pool) c.in_ok-lost.lost.items (λ k d.
    let l = (c.in_ok-lost.ensures.lost.exact k).0 d in
    let r = row_of_number arch pool suite (c.requires.over.each arch suite at) l.0 k l.1 in
    slice_get_within pool k r.0 r.1))

pub returns-clause-first : goal.returns-clause-first
returns-clause-first c = λ other here stands there own long on.
    let arch = c.args.arch in
    let pool = c.args.pool.now in
    let suites = c.args.suites.now.items in
    let suite = c.index_mut-suite.result.now in
    let at : slice_get suites arch ≡ Some suite = slice_get-get_or suites arch suite c.requires.arch ∙ ap Some (sym c.index_mut-suite.ensures.value) in
    let own_suite = subst (λ (s : ArchRows). IsSuiteOn arch pool stands s) (same_Some other suite (sym here ∙ at)) own in
    let leaving = c.args.change.now.leaving.items in
    let coming = c.args.change.now.coming.items in
    let lost = c.in_ok-lost.lost.items in
    let from = subst (λ ks. AreLostFrom suite ks coming lost) c.deref.ensures (subst (λ ks. AreLostFrom suite c.deref.result.now ks lost) c.deref-2.ensures c.in_ok-lost.ensures.lost) in
    lost_first arch pool suite stands there own_suite long on leaving coming lost from _
    (c.first_watched.ensures ∙ ap (λ ks. least byte_cmp (names_at arch pool ks)) c.deref-3.ensures)
