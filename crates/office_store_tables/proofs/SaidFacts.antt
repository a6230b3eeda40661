-- What an office says of itself, where it says one thing.
use Rattle.std.proofs.Common.{◌≡◌, ℕ, pos, List, [], ◌∷◌, map, Bool, true, false, cond, Some, None, Option, refl, sym, ap, subst, ◌∙◌}
use Rattle.std.specs.List.{cons_option}
use Rattle.std.specs.List.Sorted.{IsPermutation}
use Rattle.std.specs.Ordering.{nat_cmp, eq_by_cmp}
use Rattle.std.specs.FinMap.{find, nat_cmp-IsAntisymmetric}
use Rattle.sqlite.specs.declared.types.Value.TheVariants.{Int, Text}
use Rattle.sqlite.specs.Order.{Row, column}
use Rattle.office_store_testing_tables.specs.declared.said.Said.{Said}
use Rattle.office_store_testing_tables.specs.Tables.{number_in, text_in, office_by, office_in, said_in}
use Rattle.office_store_testing_tables.specs.steps.TableSteps.{office_columns}
use Rattle.office_store_testing_tables.specs.Legible.{SaysOnce}
use Rattle.office_store_testing_tables.proofs.KeyedFacts.{tied}
use Rattle.office_store_testing_tables.proofs.LetterFacts.{number_is}
use Rattle.office_store_testing_tables.proofs.EntryReads.{text_is, four}
use Rattle.office_store_testing_tables.proofs.MailLemmas.{single_of, as_many, only_shown}

parts_by : (i s : Option ℕ) (t : Option (List ℕ)) (f : Option ℕ) (id : ℕ) (said : Said) → office_by i s t f ≡ Some (id, said) → (i ≡ Some id) × (s ≡ Some said.schema) × (t ≡ Some said.setup) × (f ≡ Some said.finished)
parts_by None s t f id said h = absurd (let e = h in cc)
parts_by (Some i) None t f id said h = absurd (let e = h in cc)
parts_by (Some i) (Some s) None f id said h = absurd (let e = h in cc)
parts_by (Some i) (Some s) (Some t) None id said h = absurd (let e = h in cc)
parts_by (Some i) (Some s) (Some t) (Some f) id said h =
    let e : ◌≡◌ {A = ℕ × Said} (i, record { schema = s; setup = t; finished = f }) (id, said) = cc in
    (ap (λ (x : ℕ × Said). Some x.0) e, ap (λ (x : ℕ × Said). Some x.1.schema) e, ap (λ (x : ℕ × Said). Some x.1.setup) e, ap (λ (x : ℕ × Said). Some x.1.finished) e)

office_shape : (row : Row) (id : ℕ) (said : Said) → office_in row ≡ Some (id, said) → office_columns row ≡ Int (pos id) ∷ Int (pos said.schema) ∷ Text said.setup ∷ Int (pos said.finished) ∷ []
unfolding office_in
office_shape row id said h =
    let p = parts_by (number_in (column row 0)) (number_in (column row 2)) (text_in (column row 3)) (number_in (column row 4)) id said h in
    four (column row 0) (column row 2) (column row 3) (column row 4) (Int (pos id)) (Int (pos said.schema)) (Text said.setup) (Int (pos said.finished)) (number_is (column row 0) id p.0) (number_is (column row 2) said.schema p.1) (text_is (column row 3) said.setup p.2) (number_is (column row 4) said.finished p.3)

-- the only entry is the office's
pub said_alone : (o : Option (ℕ × Said)) (said : Said) → find nat_cmp 1 (cons_option o []) ≡ Some said → o ≡ Some (1, said)
said_alone None said h = absurd (let e = h in cc)
said_alone (Some e) said h = at (eq_by_cmp nat_cmp 1 e.0) refl h
  where
    at : (b : Bool) → eq_by_cmp nat_cmp 1 e.0 ≡ b → cond b (Some e.1) None ≡ Some said → Some e ≡ Some (1, said)
    at true is x = let same : e.1 ≡ said = cc in λ i. Some (sym (nat_cmp-IsAntisymmetric 1 e.0 (tied (nat_cmp 1 e.0) is)) i, same i)
    at false is x = absurd (let y = x in cc)

-- the one row that is shown
pub said_shown : (rows shown : List Row) → IsPermutation (map office_columns rows) shown → (once : SaysOnce rows) → shown ≡ (Int (pos 1) ∷ Int (pos once.said.schema) ∷ Text once.said.setup ∷ Int (pos once.said.finished) ∷ []) ∷ []
said_shown rows shown same once =
    let row = single_of rows once.once in
    let view = single_of shown (sym (as_many office_columns rows shown same) ∙ once.once) in
    let is : office_in row.0 ≡ Some (1, once.said) = said_alone (office_in row.0) once.said (ap said_in (sym row.1) ∙ once.is) in
    let one = only_shown office_columns rows view.0 (subst (IsPermutation (map office_columns rows)) view.1 same) in
    let both : one.0 ∷ [] ≡ row.0 ∷ [] = sym one.1 ∙ row.1 in
    let equal : one.0 ≡ row.0 = cc in
    view.1 ∙ ap (λ v. v ∷ []) (one.2 ∙ ap office_columns equal ∙ office_shape row.0 1 once.said is)
