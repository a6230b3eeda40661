-- A row was installable where its name is among those of its place that were.
use Rattle.std.proofs.Common.{◌≡◌, ℕ, Bool, true, false, ◌&&◌, ◌||◌, not, List, [], ◌∷◌, map, filter, refl, sym, ap, ◌∙◌, eqb-true}
use Rattle.std.specs.Prelude.{◌==◌, if◌then◌else◌}
use Rattle.std.specs.Borrow.{Bor}
use Rattle.std.specs.List.{list_any}
use Rattle.std.specs.Str.{bytes_eq}
use Rattle.std.proofs.lemmas.List.Elements.{filter_agree}
use Rattle.std.proofs.lemmas.Slice.Eq.{bytes_eq-Decides}
use Rattle.testing_rules_items.specs.Words.{Text, all_place}
use Rattle.testing_rules_model.specs.declared.suite.RowIn.{RowIn}
use Rattle.testing_rules_model.specs.Moves.{RowAnswer, fails_on, is_row_of, is_watched_on, was_installable}
use Rattle.testing_rules_reports.specs.steps.LentLines.{has_line}
use Rattle.office_core_breaks.specs.steps.Worked.{fails_by, worked_by, working_names}

-- equal texts are equal from either side
same_sides : (x y : Text) → bytes_eq x y ≡ bytes_eq y x
same_sides x y = go (bytes_eq x y) (bytes_eq y x) refl refl
  where
    go : (a b : Bool) → bytes_eq x y ≡ a → bytes_eq y x ≡ b → a ≡ b
    go true true e f = refl
    go false false e f = refl
    go true false e f = sym ((bytes_eq-Decides y x).1 (sym ((bytes_eq-Decides x y).0 e))) ∙ f
    go false true e f = sym e ∙ (bytes_eq-Decides x y).1 (sym ((bytes_eq-Decides y x).0 f))

-- one more row: whether it is the one
one_row : (works same_arch same_name rest : Bool) → ((works && (same_arch && same_name)) || rest) ≡ (if works && same_arch then same_name || rest else rest)
one_row true true b rest = refl
one_row true false b rest = refl
one_row false a b rest = refl

-- a name among those of one more row
more_names : (b : Bool) (name : Text) (x : Text) (xs : List Text) (rest : Bool) → list_any (bytes_eq name) xs ≡ rest
    → list_any (bytes_eq name) (if b then x ∷ xs else xs) ≡ (if b then bytes_eq name x || rest else rest)
more_names true name x xs rest e = ap (λ r. bytes_eq name x || r) e
more_names false name x xs rest e = e

-- the names that pass, of one more row
names_more : (b : Bool) (j : RowAnswer) (js : List RowAnswer) → map (λ (j : RowAnswer). j.row.binary.name) (if b then j ∷ js else js) ≡ (if b then j.row.binary.name ∷ map (λ (j : RowAnswer). j.row.binary.name) js else map (λ (j : RowAnswer). j.row.binary.name) js)
names_more true j js = refl
names_more false j js = refl

-- the rows of a place, by their names
worked_at : (r : RowIn) (before : List RowAnswer) → was_installable before r ≡ list_any (bytes_eq r.binary.name) (working_names r.arch before)
worked_at r [] = refl
worked_at r (j ∷ js) =
    let b = j.is_installable && (j.row.arch == r.arch) in
    let rest = list_any (bytes_eq r.binary.name) (working_names r.arch js) in
    ap (λ w. (j.is_installable && ((j.row.arch == r.arch) && bytes_eq j.row.binary.name r.binary.name)) || w) (worked_at r js)
    ∙ ap (λ n. (j.is_installable && ((j.row.arch == r.arch) && n)) || rest) (same_sides j.row.binary.name r.binary.name)
    ∙ one_row j.is_installable (j.row.arch == r.arch) (bytes_eq r.binary.name j.row.binary.name) rest
    ∙ sym (more_names b r.binary.name j.row.binary.name (working_names r.arch js) rest refl)
    ∙ ap (list_any (bytes_eq r.binary.name)) (sym (names_more b j (filter (λ (j : RowAnswer). j.is_installable && (j.row.arch == r.arch)) js)))

module _ (arch : ℕ) (group : List Text) (before : List RowAnswer) (own all : List (Bor (List ℕ)))
    (owns : (name : List ℕ) → has_line own name ≡ list_any (bytes_eq name) (working_names arch before))
    (alls : (name : List ℕ) → has_line all name ≡ list_any (bytes_eq name) (working_names all_place before)) where
  -- of a row that is watched
  watched_worked : (r : RowIn) → is_watched_on arch r ≡ true → worked_by arch own all r ≡ was_installable before r
  watched_worked r watched = go (r.arch == arch) refl watched
    where
      at : (place : ℕ) (names : List (Bor (List ℕ))) → ((name : List ℕ) → has_line names name ≡ list_any (bytes_eq name) (working_names place before)) → r.arch ≡ place
          → has_line names r.binary.name ≡ was_installable before r
      at place names are same = are r.binary.name ∙ ap (λ p. list_any (bytes_eq r.binary.name) (working_names p before)) (sym same) ∙ sym (worked_at r before)

      go_all : (b c : Bool) → (r.arch == all_place) ≡ b → (b && c) ≡ true → r.arch ≡ all_place
      go_all true c e w = eqb-true r.arch all_place e
      go_all false c e w = absurd (cc)

      go : (b : Bool) → (r.arch == arch) ≡ b → (b || ((r.arch == all_place) && (arch == 0))) ≡ true
          → (if b then has_line own r.binary.name else has_line all r.binary.name) ≡ was_installable before r
      go true e w = at arch own owns (eqb-true r.arch arch e)
      go false e w = at all_place all alls (go_all (r.arch == all_place) (arch == 0) refl w)

  same_fails : (j : RowAnswer) → fails_by arch group own all j ≡ fails_on arch group before j
  same_fails j = go (is_watched_on arch j.row) refl
    where
      go : (b : Bool) → is_watched_on arch j.row ≡ b
          → ((b && not j.is_installable) && (is_row_of group j.row || worked_by arch own all j.row)) ≡ ((b && not j.is_installable) && (is_row_of group j.row || was_installable before j.row))
      go true e = ap (λ w. not j.is_installable && (is_row_of group j.row || w)) (watched_worked j.row e)
      go false e = refl

  -- so the same rows fail
  pub same_failing : (xs : List RowAnswer) → filter (fails_by arch group own all) xs ≡ filter (fails_on arch group before) xs
  same_failing xs = filter_agree (fails_by arch group own all) (fails_on arch group before) same_fails xs
