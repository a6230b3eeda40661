-- Kinds of facts, and their numbers.
use Rattle.std.proofs.Common.{◌≡◌, refl, sym, ap, ◌∙◌, true, ◌==◌, ◌&&◌, Option, Some, arith}
use Rattle.std.proofs.lemmas.Bool.Decides.{nat_tests}
use Rattle.std.specs.Ordering.{nat_cmp, ordering_then}
use Rattle.testing_rules_model.specs.declared.fact_row.FactKind.{FactKind}
use Rattle.testing_rules_model.specs.declared.fact_row.FactKind.TheVariants.{Source, Upload, Build, Drop, Bug, Hint, Unhint, Delays}
use Rattle.testing_rules_model.specs.declared.fact_row.FactRow.{FactRow}
use Rattle.testing_rules_model.specs.FactRows.{number_of, kind_of, is_kind, is_row, row_order}
use Rattle.testing_rules_model.specs.contracts.fact_row.FactKindOrd.TheImpl as kinds
use Rattle.testing_rules_model.specs.contracts.fact_row.FactKindPartialEq.TheImpl as same_kinds
use Rattle.testing_rules_model.specs.contracts.fact_row.FactRowOrd.TheImpl as rows
use Rattle.testing_rules_model.specs.contracts.fact_row.FactRowPartialEq.TheImpl as same_rows

each_kind : (P : FactKind → Type 0) → P Source → P Upload → P Build → P Drop → P Bug → P Hint → P Unhint → P Delays → (k : FactKind) → P k
each_kind P a b c d e f g h Source = a
each_kind P a b c d e f g h Upload = b
each_kind P a b c d e f g h Build = c
each_kind P a b c d e f g h Drop = d
each_kind P a b c d e f g h Bug = e
each_kind P a b c d e f g h Hint = f
each_kind P a b c d e f g h Unhint = g
each_kind P a b c d e f g h Delays = h

pub kind_again : (k : FactKind) → kind_of (number_of k) ≡ Some k
kind_again = each_kind (λ k. kind_of (number_of k) ≡ Some k) refl refl refl refl refl refl refl refl

-- a number tells its kind
pub same_kind : (k l : FactKind) → number_of k ≡ number_of l → k ≡ l
same_kind k l e = let is : ◌≡◌ {A = Option FactKind} (Some k) (Some l) = sym (kind_again k) ∙ ap kind_of e ∙ kind_again l in cc

pub kind_is : (k l : FactKind) → is_kind k l ≡ true → k ≡ l
kind_is k l h = same_kind k l (let e : number_of k ≡ number_of l = grind (arith, nat_tests) in e)

pub kind_itself : (k : FactKind) → is_kind k k ≡ true
kind_itself = each_kind (λ k. is_kind k k ≡ true) refl refl refl refl refl refl refl refl

-- what is derived on kinds goes by their numbers: how two lie, and whether they are the same
abbrev GoByNumber : FactKind → FactKind → Type 0
GoByNumber k l = (kinds.cmp-value.it k l ≡ nat_cmp (number_of k) (number_of l)) × (same_kinds.eq-value.it k l ≡ is_kind k l)

go_by_number : (k l : FactKind) → GoByNumber k l
go_by_number Source = each_kind (GoByNumber Source) (refl, refl) (refl, refl) (refl, refl) (refl, refl) (refl, refl) (refl, refl) (refl, refl) (refl, refl)
go_by_number Upload = each_kind (GoByNumber Upload) (refl, refl) (refl, refl) (refl, refl) (refl, refl) (refl, refl) (refl, refl) (refl, refl) (refl, refl)
go_by_number Build = each_kind (GoByNumber Build) (refl, refl) (refl, refl) (refl, refl) (refl, refl) (refl, refl) (refl, refl) (refl, refl) (refl, refl)
go_by_number Drop = each_kind (GoByNumber Drop) (refl, refl) (refl, refl) (refl, refl) (refl, refl) (refl, refl) (refl, refl) (refl, refl) (refl, refl)
go_by_number Bug = each_kind (GoByNumber Bug) (refl, refl) (refl, refl) (refl, refl) (refl, refl) (refl, refl) (refl, refl) (refl, refl) (refl, refl)
go_by_number Hint = each_kind (GoByNumber Hint) (refl, refl) (refl, refl) (refl, refl) (refl, refl) (refl, refl) (refl, refl) (refl, refl) (refl, refl)
go_by_number Unhint = each_kind (GoByNumber Unhint) (refl, refl) (refl, refl) (refl, refl) (refl, refl) (refl, refl) (refl, refl) (refl, refl) (refl, refl)
go_by_number Delays = each_kind (GoByNumber Delays) (refl, refl) (refl, refl) (refl, refl) (refl, refl) (refl, refl) (refl, refl) (refl, refl) (refl, refl)

-- the order that is derived on rows is theirs
pub derived_order : rows.cmp-value.it ≡ row_order
derived_order = λ i r s. ordering_then ((go_by_number r.kind s.kind).0 i) (ordering_then (nat_cmp r.sender s.sender) (ordering_then (nat_cmp r.number s.number) (nat_cmp r.place s.place)))

-- and so is the test whether two are the same
pub derived_test : (r s : FactRow) → same_rows.eq-value.it r s ≡ is_row s r
derived_test r s = ap (λ same. same && ((r.sender == s.sender) && ((r.number == s.number) && (r.place == s.place)))) (go_by_number r.kind s.kind).1
