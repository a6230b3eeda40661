-- What comes from unstable is in each list that has unstable's items, so nothing of it lacks.
use Rattle.std.specs.Prelude.{◌⊎◌, ◌||◌, codes, Bool, true, false, cond, List, [], ◌∷◌, map, filter, Contains}
use Rattle.std.specs.List.{list_any}
use Rattle.std.specs.Ordering.{is_eq, nat_cmp, ordering_then}
use Rattle.std.specs.Cmp.Derive.{both_true}
use Rattle.std.specs.Cmp.Lexicographic.{slice_cmp}
use Rattle.std.specs.declared.cmp.Ordering.TheVariants.{Equal}
use Rattle.std.proofs.Common.{◌≡◌, refl, sym, ap, ◌∙◌, subst, inl, inr}
use Rattle.std.proofs.lemmas.Bool.{false≢true}
use Rattle.std.proofs.lemmas.Cmp.{tied_itself}
use Rattle.std.proofs.lemmas.List.Elements.{Contains-append_left, Contains-append_right, Contains-append_cases}
use Rattle.std.proofs.lemmas.Slice.Eq.{bytes_eq-Decides}
use Rattle.archive_plan.specs.declared.items.Item.{Item}
use Rattle.archive_plan.specs.declared.items.Relation.TheVariants.{Whole}
use Rattle.archive_plan.specs.Items.{key_cmp, lacking, meets, relates}
use Rattle.testing_rules_items.specs.Words.{Text}
use Rattle.testing_rules_items.proofs.Members.{none_among, head_of, tail_of}
use Rattle.testing_rules_model.specs.declared.suite.RowIn.{RowIn}
use Rattle.testing_rules_model.specs.declared.suite.SourceIn.{SourceIn}
use Rattle.testing_rules_model.specs.Covered.{Covered}
use Rattle.testing_rules_model.specs.Suite.{Suite}
use Rattle.testing_rules_model.specs.Unstable.{unstable_rows}
use Rattle.testing_rules_model.proofs.Least.{from_filter}
use Rattle.testing_rules_model.proofs.Orders.{text_order}
use Rattle.testing_rules_model.proofs.Sets.{first_or_rest, mapped_from, maps}
use Rattle.office_core_laws.specs.FromUnstable.{AreAmong, IsFromUnstable, built_sources, package_item, suite_items, told_items}

abbrev source_item : SourceIn → Item
source_item x = record { architecture = codes "source"; name = x.name; version = x.version }

module _ (archs : List Text) (s : Covered) (old new : Suite) (from : IsFromUnstable archs s old new) where
  source_from : (x : SourceIn) → Contains new.sources x → Contains (suite_items old) (source_item x) ⊎ Contains (told_items archs s) (source_item x)
  source_from x c = elim (from.sources x c) [
    | inl was ↦ inl (Contains-append_left (map source_item old.sources) (map package_item old.rows) (source_item x) (maps source_item old.sources x was))
    | inr came ↦ inr (Contains-append_left (map source_item (built_sources archs s)) (map package_item (unstable_rows archs s)) (source_item x) (maps source_item (built_sources archs s) x came))
  ]

  row_from : (r : RowIn) → Contains new.rows r → Contains (suite_items old) (package_item r) ⊎ Contains (told_items archs s) (package_item r)
  row_from r c = elim (from.rows r c) [
    | inl was ↦ inl (Contains-append_right (map source_item old.sources) (map package_item old.rows) (package_item r) (maps package_item old.rows r was))
    | inr came ↦ inr (Contains-append_right (map source_item (built_sources archs s)) (map package_item (unstable_rows archs s)) (package_item r) (maps package_item (unstable_rows archs s) r came))
  ]

  -- each item of the new testing is one of the old one, or unstable's
  pub item_from : (x : Item) → Contains (suite_items new) x → Contains (suite_items old) x ⊎ Contains (told_items archs s) x
  item_from x c = elim (Contains-append_cases (map source_item new.sources) (map package_item new.rows) x c) [
    | inl source ↦ let m = mapped_from source_item new.sources x source in subst (λ y. Contains (suite_items old) y ⊎ Contains (told_items archs s) y) m.2 (source_from m.0 m.1)
    | inr row ↦ let m = mapped_from package_item new.rows x row in subst (λ y. Contains (suite_items old) y ⊎ Contains (told_items archs s) y) m.2 (row_from m.0 m.1)
  ]

-- What a list lacks.

or_first : (a b : Bool) → a ≡ true → (a || b) ≡ true
or_first a b h = ap (λ x. x || b) h

or_second : (a b : Bool) → b ≡ true → (a || b) ≡ true
or_second true b h = refl
or_second false b h = h

itself : (x : Item) → relates Whole x x ≡ true
itself x =
    let key : key_cmp x x ≡ Equal = ap (λ o. ordering_then o (slice_cmp nat_cmp x.name x.name)) (tied_itself text_order x.architecture) ∙ tied_itself text_order x.name in
    both_true (ap is_eq key) ((bytes_eq-Decides x.version x.version).1 refl)

any_of : {A : Type 0} (test : A → Bool) (xs : List A) (x : A) → Contains xs x → test x ≡ true → list_any test xs ≡ true
any_of test [] x c h = none_among x c
any_of test (y ∷ xs) x c h = elim (first_or_rest y xs x c) [
  | inl own ↦ or_first (test y) (list_any test xs) (ap test own ∙ h)
  | inr rest ↦ or_second (test y) (list_any test xs) (any_of test xs x rest h)
]

met : (ys : List Item) (x : Item) → Contains ys x → meets Whole ys x ≡ true
unfolding meets
met ys x c = any_of (relates Whole x) ys x c (itself x)

abbrev wanted : List Item → Item → Bool
wanted ys x = cond (meets Whole ys x) false true

isnt_wanted : (ys : List Item) (x : Item) → Contains ys x → wanted ys x ≡ false
isnt_wanted ys x c = ap (λ b. cond b false true) (met ys x c)

none_left_at : (b : Bool) (ys : List Item) (x : Item) (xs : List Item) → wanted ys x ≡ b → Contains ys x → filter (wanted ys) xs ≡ [] → cond b (x ∷ filter (wanted ys) xs) (filter (wanted ys) xs) ≡ []
none_left_at true ys x xs e c h = absurd (false≢true (sym (isnt_wanted ys x c) ∙ e))
none_left_at false ys x xs e c h = h

none_lacks : (xs ys : List Item) → ((x : Item) → Contains xs x → Contains ys x) → lacking xs ys ≡ []
none_lacks [] ys h = refl
none_lacks (x ∷ xs) ys h = none_left_at (wanted ys x) ys x xs refl (h x (head_of x xs)) (none_lacks xs ys (λ y c. h y (tail_of x xs y c)))

-- what a list lacks isn't in it
lacked : (xs ys : List Item) (x : Item) → Contains (lacking xs ys) x → Contains xs x × (Contains ys x → ⊥)
lacked xs ys x c =
    let f = from_filter (wanted ys) xs x c in
    (f.0, λ there. false≢true (sym (isnt_wanted ys x there) ∙ f.1))

-- a plan for the new testing over a suite that has the old one lacks nothing that the mail says
pub nothing_lacks : (archs : List Text) (s : Covered) (old new : Suite) (index testing suite : List Item) → IsFromUnstable archs s old new → AreAmong (told_items archs s) index
    → AreAmong testing (suite_items new) → AreAmong (suite_items old) suite → lacking (lacking testing suite) index ≡ []
nothing_lacks archs s old new index testing suite from inside are has =
    none_lacks (lacking testing suite) index (λ x c.
    let l = lacked testing suite x c in
    elim (item_from archs s old new from x (are x l.0)) [ inl was ↦ absurd (l.1 (has x was)) | inr came ↦ inside x came ])
