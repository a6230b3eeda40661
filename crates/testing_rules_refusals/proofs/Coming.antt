-- Which rows a move brings, and which stay.
use Rattle.std.proofs.Common.{◌≡◌, ◌⊎◌, ◌&&◌, ◌||◌, not, Bool, true, false, List, [], ◌∷◌, Some, Option, refl, sym, ap, ◌∙◌, subst, inl, inr}
use Rattle.std.specs.Prelude.{Contains, filter, fold, option_map, cond}
use Rattle.std.specs.List.{list_any}
use Rattle.std.specs.Option.{option_map_or}
use Rattle.std.specs.Str.{bytes_eq}
use Rattle.std.specs.declared.cmp.Ordering.{Ordering}
use Rattle.std.specs.declared.cmp.Ordering.TheVariants.{Less, Equal, Greater}
use Rattle.std.proofs.lemmas.Bool.{false≢true}
use Rattle.std.proofs.lemmas.Slice.Eq.{bytes_eq-Decides}
use Rattle.testing_rules_items.specs.Words.{Text, byte_cmp, put_by}
use Rattle.testing_rules_items.proofs.Members.{none_among, head_of, tail_of}
use Rattle.testing_rules_model.specs.declared.facts.UploadIn.{UploadIn}
use Rattle.testing_rules_model.specs.declared.suite.RowIn.{RowIn}
use Rattle.testing_rules_model.specs.declared.suite.SourceIn.{SourceIn}
use Rattle.testing_rules_model.specs.Excuses.{testing_version}
use Rattle.testing_rules_model.specs.steps.Excuses.{entry_of}
use Rattle.testing_rules_model.specs.InOrder.{AreByKey}
use Rattle.testing_rules_model.specs.Moves.{is_row_of, source_in, group_sources, put_row, put_source, as_source, row_key, move_group}
use Rattle.testing_rules_model.specs.Suite.{Suite}
use Rattle.testing_rules_model.specs.Unstable.{is_current, is_of_source}
use Rattle.testing_rules_model.proofs.Least.{from_filter, to_filter}
use Rattle.testing_rules_model.proofs.MoreMail.{text_same, text_tied}
use Rattle.testing_rules_model.proofs.Sets.{first_or_rest, given_by, gives, spread_from, spreads}
use Rattle.testing_rules_model.proofs.Watching.{found_passes}
use Rattle.testing_rules_live.specs.steps.Lacks.{arriving}
use Rattle.testing_rules_suites.proofs.Arranging.{at_some_of}
use Rattle.testing_rules_suites.proofs.Moving.{AreOthers, puts_have, source_of_group}
use Rattle.testing_rules_suites.proofs.Shown.{itself_or_other, other_keys, put_keeps}
use Rattle.testing_rules_excuses.specs.States.{is_current_in}
use Rattle.testing_rules_refusals.specs.Stuck.{coming_rows}
use Rattle.testing_rules_refusals.specs.Texts.{comes_with}
use Rattle.testing_rules_refusals.proofs.Failings.{first_of_both, second_of_both}

-- Names and tests.

pub both_so : (a b : Bool) → a ≡ true → b ≡ true → (a && b) ≡ true
both_so a b h k = ap (λ x. x && b) h ∙ k

pub or_first : (a b : Bool) → a ≡ true → (a || b) ≡ true
or_first a b h = ap (λ x. x || b) h

pub or_second : (a b : Bool) → b ≡ true → (a || b) ≡ true
or_second true b h = refl
or_second false b h = h

pub isnt_so : (b : Bool) → (b ≡ true → ⊥) → b ≡ false
isnt_so true h = absurd (h refl)
isnt_so false h = refl

pub not_so : (b : Bool) → not b ≡ true → b ≡ false
not_so true h = absurd (false≢true h)
not_so false h = refl

pub any_of : {A : Type 0} (test : A → Bool) (xs : List A) (x : A) → Contains xs x → test x ≡ true → list_any test xs ≡ true
any_of test [] x c h = none_among x c
any_of test (y ∷ xs) x c h = elim (first_or_rest y xs x c) [
  | inl own ↦ or_first (test y) (list_any test xs) (ap test own ∙ h)
  | inr rest ↦ or_second (test y) (list_any test xs) (any_of test xs x rest h)
]

some_at : {A : Type 0} (test : A → Bool) (y : A) (xs : List A) (b : Bool) → test y ≡ b → (b || list_any test xs) ≡ true
    → (list_any test xs ≡ true → (x : A) × Contains xs x × (test x ≡ true)) → (x : A) × Contains (y ∷ xs) x × (test x ≡ true)
some_at test y xs true e h more = (y, head_of y xs, e)
some_at test y xs false e h more = let s = more h in (s.0, tail_of y xs s.0 s.1, s.2)

pub some_of : {A : Type 0} (test : A → Bool) (xs : List A) → list_any test xs ≡ true → (x : A) × Contains xs x × (test x ≡ true)
some_of test [] h = absurd (false≢true h)
some_of test (y ∷ xs) h = some_at test y xs (test y) refl h (some_of test xs)

pub is_named : (names : List Text) (n : Text) → Contains names n → list_any (bytes_eq n) names ≡ true
is_named names n c = any_of (bytes_eq n) names n c (text_same n)

pub has_named : (names : List Text) (n : Text) → list_any (bytes_eq n) names ≡ true → Contains names n
has_named names n h = let s = some_of (bytes_eq n) names h in subst (Contains names) (sym ((bytes_eq-Decides n s.0).0 s.2)) s.1

-- Rows that are put into others.

abbrev puts : List RowIn → List RowIn → List RowIn
puts xs base = fold (λ ys r. put_row r ys) base xs

pub puts_leave : (xs base : List RowIn) (r : RowIn) → ((x : RowIn) → Contains xs x → row_key x ≡ row_key r → ⊥) → Contains base r → Contains (puts xs base) r
puts_leave [] base r o c = c
puts_leave (x ∷ xs) base r o c =
    puts_leave xs (put_row x base) r (λ y d. o y (tail_of x xs y d)) (put_keeps x r base (other_keys x r (o x (head_of x xs))) c)

module _ (sources : List UploadIn) (unstable : List RowIn) where
  -- a row that comes with a group is unstable's, of the group, and current
  pub comes_group : (group : List Text) (r : RowIn) → Contains (arriving sources unstable group) r
      → Contains unstable r × Contains group r.binary.source × (is_current_in sources r ≡ true)
  comes_group group r c =
      let s = spread_from (λ (u : UploadIn). filter (is_current u) unstable) (group_sources sources group) r c in
      let f = from_filter (is_current s.0) unstable r s.2 in
      let g = given_by (source_in sources) group s.0 s.1 in
      let same = (bytes_eq-Decides r.binary.source s.0.source).0 (first_of_both (is_of_source s.0 r) _ f.1) in
      let of_name = (bytes_eq-Decides s.0.source g.0).0 (found_passes (λ (v : UploadIn). bytes_eq v.source g.0) sources s.0 g.2) in
      let at : source_in sources r.binary.source ≡ Some s.0 = ap (source_in sources) (same ∙ of_name) ∙ g.2 in
      (f.0, source_of_group sources group s.0 r s.1 f.1, ap (λ (o : Option UploadIn). option_map_or (λ u. is_current u r) o false) at ∙ f.1)

  -- so it is one of those that come with more sources
  pub arriving_comes : (group live : List Text) → ((n : Text) → Contains group n → Contains live n) → (r : RowIn) → Contains (arriving sources unstable group) r
      → Contains (coming_rows sources unstable live) r
  arriving_comes group live within r c =
      let g = comes_group group r c in
      to_filter (comes_with sources live) unstable r g.0
      (both_so (is_row_of live r) (is_current_in sources r) (is_named live r.binary.source (within r.binary.source g.1)) g.2)

  pub coming_more : (live more : List Text) → ((n : Text) → Contains live n → Contains more n) → (r : RowIn) → Contains (coming_rows sources unstable live) r
      → Contains (coming_rows sources unstable more) r
  coming_more live more within r c =
      let f = from_filter (comes_with sources live) unstable r c in
      let named = has_named live r.binary.source (first_of_both (is_row_of live r) (is_current_in sources r) f.1) in
      to_filter (comes_with sources more) unstable r f.0
      (both_so (is_row_of more r) (is_current_in sources r) (is_named more r.binary.source (within r.binary.source named)) (second_of_both (is_row_of live r) (is_current_in sources r) f.1))

  -- a row that comes with one source comes with each group that names it
  pub own_arrives : (group : List Text) (name : Text) (r : RowIn) → Contains group name → Contains (coming_rows sources unstable (name ∷ [])) r
      → Contains (arriving sources unstable group) r
  own_arrives group name r among c =
      let f = from_filter (comes_with sources (name ∷ [])) unstable r c in
      let own : r.binary.source ≡ name =
      elim (first_or_rest name [] r.binary.source (has_named (name ∷ []) r.binary.source (first_of_both (is_row_of (name ∷ []) r) (is_current_in sources r) f.1))) [
        | inl same ↦ sym same
        | inr never ↦ none_among r.binary.source never
      ] in
      let u = at_some_of (λ (u : UploadIn). is_current u r) (source_in sources r.binary.source) (second_of_both (is_row_of (name ∷ []) r) (is_current_in sources r) f.1) in
      spreads (λ (u : UploadIn). filter (is_current u) unstable) (group_sources sources group) u.0 r
      (gives (source_in sources) group name u.0 among (ap (source_in sources) (sym own) ∙ u.1)) (to_filter (is_current u.0) unstable r f.0 u.2)

  -- and then it stands, whatever else comes
  pub arrived : AreByKey unstable → (group : List Text) (base : List RowIn) (r : RowIn) → Contains (arriving sources unstable group) r
      → Contains (puts (arriving sources unstable group) base) r
  arrived by_key group base r c =
      let others : AreOthers (arriving sources unstable group) r = λ x d. itself_or_other x r unstable by_key (comes_group group x d).0 (comes_group group r c).0 in
      puts_have (arriving sources unstable group) base r others c

-- Versions of sources that don't move.

entry_at : (x y : SourceIn) (xs : List SourceIn) (n : Text) (o : Ordering) → byte_cmp x.name y.name ≡ o → bytes_eq x.name n ≡ false
    → entry_of (put_source x xs) n ≡ entry_of xs n → entry_of (put_source x (y ∷ xs)) n ≡ entry_of (y ∷ xs) n
entry_at x y xs n Less e off more = rw (put_by, e) (rw off refl)
entry_at x y xs n Equal e off more =
    let same : y.name ≡ x.name = sym (text_tied x.name y.name e) in
    let too : bytes_eq y.name n ≡ false = ap (λ m. bytes_eq m n) same ∙ off in
    rw (put_by, e) (rw (off, too) refl)
entry_at x y xs n Greater e off more = rw (put_by, e) (ap (λ m. cond (bytes_eq y.name n) (Some y) m) more)

entry_stays : (x : SourceIn) (xs : List SourceIn) (n : Text) → bytes_eq x.name n ≡ false → entry_of (put_source x xs) n ≡ entry_of xs n
entry_stays x [] n off = rw off refl
entry_stays x (y ∷ xs) n off = entry_at x y xs n _ refl off (entry_stays x xs n off)

entries_stay : (us : List UploadIn) (base : List SourceIn) (n : Text) → ((u : UploadIn) → Contains us u → bytes_eq u.source n ≡ false)
    → entry_of (fold (λ xs u. put_source (as_source u) xs) base us) n ≡ entry_of base n
entries_stay [] base n off = refl
entries_stay (u ∷ us) base n off =
    entries_stay us (put_source (as_source u) base) n (λ v c. off v (tail_of u us v c)) ∙ entry_stays (as_source u) base n (off u (head_of u us))

-- the version of a source that the group doesn't name stays
pub version_stays : (sources : List UploadIn) (unstable : List RowIn) (group : List Text) (t : Suite) (n : Text) → (Contains group n → ⊥)
    → testing_version (move_group sources unstable group t) n ≡ testing_version t n
version_stays sources unstable group t n out =
    ap (option_map (λ (s : SourceIn). s.version)) (entries_stay (group_sources sources group) t.sources n (λ u c.
    let g = given_by (source_in sources) group u c in
    let of_name = (bytes_eq-Decides u.source g.0).0 (found_passes (λ (v : UploadIn). bytes_eq v.source g.0) sources u g.2) in
    isnt_so (bytes_eq u.source n) (λ h. out (subst (Contains group) (sym of_name ∙ (bytes_eq-Decides u.source n).0 h) g.1))))
