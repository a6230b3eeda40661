-- Rows that are put in one after the other, each under its key, are the rows in order that have the same elements.
use Rattle.std.specs.Prelude.{List, [], ◌∷◌, ◌++◌, Contains, length, drop, Err}
use Rattle.std.specs.List.{insert}
use Rattle.std.specs.List.Sorted.{IsPermutation, IsBinarySearchResult}
use Rattle.std.proofs.Common.{◌≡◌, ◌∙◌, ap, subst, arith, inl, inr}
use Rattle.std.proofs.lemmas.Cmp.{on_total}
use Rattle.std.proofs.lemmas.List.{take_all, drop_all}
use Rattle.std.proofs.lemmas.List.Sorted.{Contains-permutation, IsPermutation-sym}
use Rattle.testing_rules_model.specs.declared.suite.LentRow.{LentRow}
use Rattle.testing_rules_model.specs.declared.suite.RowIn.{RowIn}
use Rattle.testing_rules_suites.specs.steps.AfterMoves.{with_rows}
use Rattle.testing_rules_model.specs.InOrder.{AreByKey}
use Rattle.testing_rules_model.specs.JudgedRows.{lent, row_of}
use Rattle.testing_rules_model.specs.Moves.{row_cmp, row_key}
use Rattle.testing_rules_model.specs.SameMessages.{SameElements}
use Rattle.testing_rules_model.proofs.KeyPlaces.{place-for}
use Rattle.testing_rules_suites.proofs.Lost.{row_order}
use Rattle.testing_rules_items.proofs.Members.{none_among}
use Rattle.testing_rules_suites.proofs.Moving.{puts_from, puts_have, AreOthers}
use Rattle.testing_rules_model.proofs.Ordered.{by_key-put, by_key-put_all}
use Rattle.testing_rules_model.proofs.Sets.{rises-unique, same-mapped}
use Rattle.testing_rules_suites.proofs.Showing.{by_key-none}
use Rattle.testing_rules_suites.proofs.Shown.{itself_or_other, rising}

-- rows that change places are the same rows
pub same-permuted : (xs ys : List LentRow) → IsPermutation xs ys → SameElements (lent xs) (lent ys)
same-permuted xs ys p = same-mapped row_of xs ys (
  λ x c. Contains-permutation xs ys x p c,
  λ x c. Contains-permutation ys xs x (IsPermutation-sym xs ys p) c,
)

-- rows in order with one behind them whose key is above theirs
pub by_key-behind : (rows : List RowIn) (x : RowIn) → AreByKey rows → IsBinarySearchResult (λ r. row_cmp (row_key r) (row_key x)) rows (Err (length rows)) → AreByKey (rows ++ x ∷ [])
by_key-behind rows x h f =
    let n = length rows in
    let place = place-for row_key row_order x rows (Err n) h (omega arith) f in
    let end : insert rows n x ≡ rows ++ x ∷ [] = ap (λ t. t ++ x ∷ drop n rows) (take_all n rows (omega arith)) ∙ ap (λ t. rows ++ x ∷ t) (drop_all n rows (omega arith)) in
    subst AreByKey (place.1 ∙ end) (by_key-put x rows h)

-- rows in order are what their elements are put together to
module _ (xs ys : List RowIn) (order : AreByKey ys) (same : SameElements xs ys) where
  others : (r : RowIn) → Contains xs r → AreOthers xs r
  others r c x d = itself_or_other x r ys order (same.0 x d) (same.0 r c)

  put_same : SameElements ys (with_rows xs [])
  put_same = (
    λ r c. let d = same.1 r c in puts_have xs [] r (others r d) d,
    λ r c. elim (puts_from xs [] r by_key-none c) [
      | inl came ↦ same.0 r came
      | inr stayed ↦ none_among r stayed.0
    ],
  )

  pub puts-in_order : ys ≡ with_rows xs []
  puts-in_order =
      rises-unique (on_total row_key row_order) ys (with_rows xs []) (rising ys order) (rising (with_rows xs []) (by_key-put_all xs [] by_key-none)) put_same
