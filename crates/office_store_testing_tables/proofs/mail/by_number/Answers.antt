use Rattle.std.proofs.Common.{◌≡◌, true, false, sym, ap, ◌∙◌, rules}
use Rattle.std.proofs.lemmas.List.Sorted.{IsNonDecreasingBy-from_sort, answers_always}
use Rattle.office_store_keeper.specs.declared.values.Letter.{Letter}
use Rattle.office_store_testing_tables.specs.steps.TableSteps.{rises_from}
use Rattle.office_store_testing_tables.proofs.LoadLemmas.{sorted_rises}
use Rattle.office_store_testing_tables.proofs.mail.by_number.Goals as goal

pub returns-then-not-are_rising-clause-bad : goal.returns-then-not-are_rising-clause-bad
returns-then-not-are_rising-clause-bad c bad few =
    let number = λ (x : Letter). x.number in
    let up = IsNonDecreasingBy-from_sort number _ (c.sort_unstable_by_key.ensures.sorted number (answers_always _ _ _ (λ f a r g h. search rules))) in
    let rising = sorted_rises c.args.letters.items c.sort_unstable_by_key.new.self.items c.sort_unstable_by_key.ensures.permutation up few in
    let fails : false ≡ true = sym c.if-not-are_rising.true ∙ c.are_rising.ensures ∙ ap (rises_from 0) c.as_slice.ensures.value ∙ rising in
    cc
