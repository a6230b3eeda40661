-- What rows of mail keep.
use Rattle.std.proofs.Common.{◌≡◌, ℕ, false, pos, negsuc, List, [], ◌∷◌, filter, filter_map, ◌&&◌, Option, Some, None, refl, sym, ap, ◌∙◌, arith, nat_eq}
use Rattle.std.proofs.lemmas.Bool.Decides.{nat_tests}
use Rattle.std.specs.declared.cmp.Ordering.{Ordering}
use Rattle.std.specs.declared.cmp.Ordering.TheVariants.{Less, Equal, Greater}
use Rattle.std.specs.Ordering.{nat_cmp, eq_by_cmp, is_eq, ordering_then}
use Rattle.std.specs.FinMap.{find, get, insert}
use Rattle.sqlite.specs.declared.types.Value.{Value}
use Rattle.sqlite.specs.declared.types.Value.TheVariants.{Null, Int, Real, Text, Blob}
use Rattle.sqlite.specs.Order.{Row, column, value_cmp}
use Rattle.sqlite.specs.Tree.{put_row}
use Rattle.sqlite_rules.specs.Edit.{is_taken}
use Rattle.sqlite_value.proofs.OrderLemmas.{value_cmp-Int}
use Rattle.office_mail.specs.Kept.{Place, place_cmp}
use Rattle.office_mail.proofs.KeptFacts.{places_total, exact_places}
use Rattle.office_store_testing_tables.proofs.KeyedFacts.{get_at, found_one, map_put}
use Rattle.office_store_testing_tables.specs.Tables.{number_in, bytes_in, letter_by, letter_in, kept_rows}
use Rattle.office_store_testing_tables.specs.steps.TableSteps.{is_at}

-- ---- values and what they say

pub number_is : (v : Value) (n : ℕ) → number_in v ≡ Some n → v ≡ Int (pos n)
number_is Null n h = absurd (let e = h in cc)
number_is (Int (pos m)) n h = let e : m ≡ n = cc in ap (λ k. Int (pos k)) e
number_is (Int (negsuc m)) n h = absurd (let e = h in cc)
number_is (Real x) n h = absurd (let e = h in cc)
number_is (Text t) n h = absurd (let e = h in cc)
number_is (Blob b) n h = absurd (let e = h in cc)

pub bytes_are : (v : Value) (t : List ℕ) → bytes_in v ≡ Some t → v ≡ Blob t
bytes_are Null t h = absurd (let e = h in cc)
bytes_are (Int n) t h = absurd (let e = h in cc)
bytes_are (Real x) t h = absurd (let e = h in cc)
bytes_are (Text s) t h = absurd (let e = h in cc)
bytes_are (Blob b) t h = let e : b ≡ t = cc in ap Blob e

pub parts_by : (s n : Option ℕ) (t : Option (List ℕ)) (p : Place) (text : List ℕ) → letter_by s n t ≡ Some (p, text) → (s ≡ Some p.0) × (n ≡ Some p.1) × (t ≡ Some text)
parts_by None n t p text h = absurd (let e = h in cc)
parts_by (Some s) None t p text h = absurd (let e = h in cc)
parts_by (Some s) (Some n) None p text h = absurd (let e = h in cc)
parts_by (Some s) (Some n) (Some t) p text h =
    let e : ◌≡◌ {A = Place × List ℕ} ((s, n), t) (p, text) = cc in
    (ap (λ (x : Place × List ℕ). Some x.0.0) e, ap (λ (x : Place × List ℕ). Some x.0.1) e, ap (λ (x : Place × List ℕ). Some x.1) e)

pub letter_parts : (row : Row) (p : Place) (text : List ℕ) → letter_in row ≡ Some (p, text) → (column row 1 ≡ Int (pos p.0)) × (column row 2 ≡ Int (pos p.1)) × (column row 3 ≡ Blob text)
unfolding letter_in
letter_parts row p text h =
    let e = parts_by (number_in (column row 1)) (number_in (column row 2)) (bytes_in (column row 3)) p text h in
    (number_is _ _ e.0, number_is _ _ e.1, bytes_are _ _ e.2)

pub letter_of_parts : (row : Row) (sender number : ℕ) (text : List ℕ) → column row 1 ≡ Int (pos sender) → column row 2 ≡ Int (pos number) → column row 3 ≡ Blob text → letter_in row ≡ Some ((sender, number), text)
unfolding letter_in
letter_of_parts row sender number text a b c = rw (a, b, c) refl

-- ---- places

both_equal : (x y : Ordering) → is_eq (ordering_then x y) ≡ (is_eq x && is_eq y)
both_equal Less y = refl
both_equal Equal y = refl
both_equal Greater y = refl

pub int_is : (a b : ℕ) → is_eq (value_cmp (Int (pos a)) (Int (pos b))) ≡ nat_eq a b
int_is a b = ap is_eq (value_cmp-Int (pos a) (pos b)) ∙ grind (arith, nat_tests)

pub nat_is : (a b : ℕ) → is_eq (nat_cmp a b) ≡ nat_eq b a
nat_is a b = grind (arith, nat_tests)

-- SQL's = at a row of mail is equality of places
pub at_place : (sender number : ℕ) (row : Row) (p : Place) (text : List ℕ) → letter_in row ≡ Some (p, text) → eq_by_cmp place_cmp (sender, number) p ≡ is_at sender number row
at_place sender number row p text h =
    let e = letter_parts row p text h in
    both_equal (nat_cmp sender p.0) (nat_cmp number p.1)
    ∙ rw (nat_is sender p.0, nat_is number p.1) (sym (rw (e.0, e.1) (rw (int_is p.0 sender, int_is p.1 number) refl)))

-- ---- the kept mail

-- the text that is kept at a place
pub kept_at : (sender number : ℕ) (rows : List Row) → get (kept_rows rows) (sender, number) ≡ find place_cmp (sender, number) (filter_map letter_in (filter (is_at sender number) rows))
kept_at sender number rows = get_at places_total exact_places letter_in (sender, number) (is_at sender number) (at_place sender number) rows

pub letter_found : (sender number : ℕ) (row : Row) (text : List ℕ) → letter_in row ≡ Some ((sender, number), text) → find place_cmp (sender, number) (filter_map letter_in (row ∷ [])) ≡ Some text
letter_found sender number row text is = found_one places_total exact_places letter_in (sender, number) row text is

-- a row that is put in keeps its text
pub kept_put : (row : Row) (p : Place) (text : List ℕ) (rows : List Row) → letter_in row ≡ Some (p, text) → is_taken rows row ≡ false → get (kept_rows rows) p ≡ None → kept_rows (put_row row rows) ≡ insert (kept_rows rows) p text
kept_put row p text rows is fresh free = map_put places_total exact_places letter_in row p text rows is fresh free
