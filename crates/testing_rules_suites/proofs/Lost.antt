-- The rows that a change loses, by their places among all rows that may stand, are those by which it breaks testing.
use Rattle.std.specs.Prelude.{ℕ, zero, suc, ◌==◌, ◌↔◌, Bool, true, false, ◌&&◌, ◌||◌, not, List, [], ◌∷◌, Contains, Some, None, map, filter, length, option_map}
use Rattle.std.specs.List.{AllByRecursion, slice_get, list_any}
use Rattle.std.specs.List.Sorted.{IsStrictlySortedBy}
use Rattle.std.specs.Str.{bytes_eq}
use Rattle.std.specs.declared.cmp.Ordering.TheVariants.{Less, Equal}
use Rattle.std.specs.Cmp.{IsTotalOrder}
use Rattle.std.proofs.Common.{◌≡◌, refl, sym, ap, ap₂, ◌∙◌, subst, arith, ⊎_elim, inl, inr, ◌⊎◌}
use Rattle.std.proofs.lemmas.Bool.{cases_Bool, false≢true, eq-eqb, eqb-true}
use Rattle.std.proofs.lemmas.Cmp.{tied_itself, on_total, then_total, nat_cmp_total}
use Rattle.std.proofs.lemmas.List.{length-map}
use Rattle.std.proofs.lemmas.List.Folds.{list_any_at}
use Rattle.std.proofs.lemmas.Option.{same_Some, slice_get_within, slice_get-get_or, get_or_from_slice_get, slice_get-map}
use Rattle.std.proofs.lemmas.Slice.Eq.{bytes_eq-Decides}
use Rattle.deb_control.specs.declared.binary.Binary.{Binary}
use Rattle.testing_install.specs.Closed.{marked}
use Rattle.testing_install.specs.Installable.{are_installable}
use Rattle.testing_install.proofs.Choosing.{length-are}
use Rattle.testing_rules_model.specs.declared.suite.RowIn.{RowIn}
use Rattle.testing_rules_model.specs.InOrder.{AreByKey}
use Rattle.testing_rules_model.specs.Moves.{row_cmp, row_key, rows_on, is_row_of, is_same_key, is_watched_on, was_installable, fails_on, first_failing, with_answers, judged_on, RowAnswer}
use Rattle.testing_rules_model.specs.steps.Moves.{is_row_on}
use Rattle.testing_rules_suites.specs.Present.{IsShown}
use Rattle.testing_rules_suites.specs.steps.PresentSteps.{IsOn}
use Rattle.testing_rules_items.specs.Words.{Text, byte_cmp, least}
use Rattle.testing_rules_model.proofs.Least.{from_filter, to_filter, same-least}
use Rattle.testing_rules_model.proofs.Listed.{IsAmong, IsListing, listed_exact}
use Rattle.testing_rules_items.proofs.Members.{none_among}
use Rattle.testing_rules_model.proofs.MoreMail.{text_tied}
use Rattle.testing_rules_model.proofs.Orders.{text_order}
use Rattle.testing_rules_model.proofs.Sets.{first_or_rest, maps, mapped_from}

-- Elements and their places.

pub contains_at : {A : Type 0} (xs : List A) (i : ℕ) (x : A) → slice_get xs i ≡ Some x → Contains xs x
contains_at xs i x e = (i, slice_get_within xs i x e, get_or_from_slice_get xs i x x e)

pub at_place : {A : Type 0} (xs : List A) (x : A) (c : Contains xs x) → slice_get xs c.0 ≡ Some x
at_place xs x c = slice_get-get_or xs c.0 x c.1 ∙ ap Some c.2

pub get_map : {A B : Type 0} (f : A → B) (xs : List A) (i : ℕ) (x : A) → slice_get xs i ≡ Some x → slice_get (map f xs) i ≡ Some (f x)
get_map f xs i x e = slice_get-map f xs i ∙ ap (option_map f) e

pub of_map : {A B : Type 0} (f : A → B) (xs : List A) (i : ℕ) (y : B) → slice_get (map f xs) i ≡ Some y → (x : A) × (slice_get xs i ≡ Some x) × (f x ≡ y)
of_map f [] i y e = let no : None ≡ Some y = e in cc
of_map f (x ∷ xs) zero y e = (x, refl, same_Some (f x) y e)
of_map f (x ∷ xs) (suc i) y e = of_map f xs i y e

pub any_of : {A : Type 0} (test : A → Bool) (xs : List A) (x : A) → Contains xs x → test x ≡ true → list_any test xs ≡ true
any_of test xs x c h = list_any_at test xs c.0 x c.1 (ap test c.2 ∙ h)

any_first : {A : Type 0} (test : A → Bool) (x : A) (xs : List A) (b : Bool) → test x ≡ b → (b || list_any test xs) ≡ true
    → (list_any test xs ≡ true → (i : ℕ) × (y : A) × (slice_get xs i ≡ Some y) × (test y ≡ true)) → (i : ℕ) × (y : A) × (slice_get (x ∷ xs) i ≡ Some y) × (test y ≡ true)
any_first test x xs true e h more = (zero, x, refl, e)
any_first test x xs false e h more = let r = more h in (suc r.0, r.1, r.2, r.3)

pub some_of : {A : Type 0} (test : A → Bool) (xs : List A) → list_any test xs ≡ true → (i : ℕ) × (y : A) × (slice_get xs i ≡ Some y) × (test y ≡ true)
some_of test [] h = absurd (false≢true h)
some_of test (x ∷ xs) h = any_first test x xs (test x) refl h (some_of test xs)

both : {a b : Bool} → a ≡ true → b ≡ true → (a && b) ≡ true
both e f = simp (e, f)

first_of_both : (a b : Bool) → (a && b) ≡ true → a ≡ true
first_of_both true b h = refl
first_of_both false b h = absurd (false≢true h)

second_of_both : (a b : Bool) → (a && b) ≡ true → b ≡ true
second_of_both true b h = h
second_of_both false b h = absurd (false≢true h)

either_of : (a b : Bool) → (a || b) ≡ true → (a ≡ true) ⊎ (b ≡ true)
either_of true b h = inl refl
either_of false b h = inr h

left_of : (a b : Bool) → a ≡ true → (a || b) ≡ true
left_of a b h = ap (λ x. x || b) h

right_of : (a b : Bool) → b ≡ true → (a || b) ≡ true
right_of true b h = refl
right_of false b h = h

not_so : (b : Bool) → (b ≡ true → ⊥) → b ≡ false
not_so true h = absurd (h refl)
not_so false h = refl

not_true : (b : Bool) → not b ≡ true → b ≡ false
not_true true h = absurd (false≢true h)
not_true false h = refl

false_not : (b : Bool) → b ≡ false → not b ≡ true
false_not b h = ap not h

-- Rows in order of their keys.

pub row_order : IsTotalOrder row_cmp
row_order = then_total (on_total (λ (p : ℕ × Text). p.0) nat_cmp_total) (on_total (λ (p : ℕ × Text). p.1) text_order)

below_all : (r q : RowIn) (rows : List RowIn) → AllByRecursion (λ k. row_cmp (row_key r) k ≡ Less) (map row_key rows) → Contains rows q → row_cmp (row_key r) (row_key q) ≡ Less
below_all r q [] h c = none_among q c
below_all r q (x ∷ rows) h c = elim (first_or_rest x rows q c) [
  | inl same ↦ ap (λ (y : RowIn). row_cmp (row_key r) (row_key y)) (sym same) ∙ h.0
  | inr among ↦ below_all r q rows h.1 among
]

apart : {P : Type 0} (r q : RowIn) → row_key r ≡ row_key q → row_cmp (row_key r) (row_key q) ≡ Less → P
apart r q e h =
    let tie : row_cmp (row_key r) (row_key q) ≡ Equal = ap (row_cmp (row_key r)) (sym e) ∙ tied_itself row_order (row_key r) in
    let no : Less ≡ Equal = sym h ∙ tie in
    absurd (let never : ⊥ = cc in never)

-- there is one row for each key
pub one_for_key : (rows : List RowIn) → AreByKey rows → (r q : RowIn) → Contains rows r → Contains rows q → row_key r ≡ row_key q → r ≡ q
unfolding IsStrictlySortedBy
one_for_key [] h r q c d e = none_among r c
one_for_key (x ∷ rows) h r q c d e = elim (first_or_rest x rows r c) [
  | inl first ↦ elim (first_or_rest x rows q d) [
    | inl also ↦ sym first ∙ also
    | inr later ↦ apart x q (ap row_key first ∙ e) (below_all x q rows h.0 later)
  ]
  | inr rest ↦ elim (first_or_rest x rows q d) [
    | inl also ↦ apart x r (ap row_key also ∙ sym e) (below_all x r rows h.0 rest)
    | inr later ↦ one_for_key rows h.1 r q rest later e
  ]
]

pub key_of_same : (r q : RowIn) → is_same_key r q ≡ true → row_key r ≡ row_key q
key_of_same r q h =
    let archs = eqb-true r.arch q.arch (first_of_both (r.arch == q.arch) (bytes_eq r.binary.name q.binary.name) h) in
    let names = (bytes_eq-Decides r.binary.name q.binary.name).0 (second_of_both (r.arch == q.arch) (bytes_eq r.binary.name q.binary.name) h) in
    ap₂ (λ a n. (a, n)) archs names

same_itself : (r : RowIn) → is_same_key r r ≡ true
same_itself r = both (eq-eqb r.arch r.arch refl) ((bytes_eq-Decides r.binary.name r.binary.name).1 refl)

-- Rows with their answers.

answer_at : (rows : List RowIn) (marks : List Bool) (i : ℕ) (r : RowIn) → length marks ≡ length rows → slice_get rows i ≡ Some r
    → slice_get (with_answers rows marks) i ≡ Some (record { row = r; is_installable = marked marks i })
answer_at [] marks i r e at = let no : None ≡ Some r = at in cc
answer_at (x ∷ rows) [] i r e at = absurd (omega (arith, e))
answer_at (x ∷ rows) (b ∷ marks) zero r e at = let same : x ≡ r = same_Some x r at in ap (λ y. Some (record { row = y; is_installable = b })) same
answer_at (x ∷ rows) (b ∷ marks) (suc i) r e at = answer_at rows marks i r (omega (arith, e)) at

of_answer : (rows : List RowIn) (marks : List Bool) (i : ℕ) (j : RowAnswer) → slice_get (with_answers rows marks) i ≡ Some j → (slice_get rows i ≡ Some j.row) × (marked marks i ≡ j.is_installable)
of_answer [] marks i j e = let no : None ≡ Some j = e in cc
of_answer (x ∷ rows) [] i j e = let no : None ≡ Some j = e in cc
of_answer (x ∷ rows) (b ∷ marks) zero j e =
    let same = same_Some (record { row = x; is_installable = b }) j e in
    (ap (λ (a : RowAnswer). Some a.row) same, ap (λ (a : RowAnswer). a.is_installable) same)
of_answer (x ∷ rows) (b ∷ marks) (suc i) j e = of_answer rows marks i j e

abbrev packages : List RowIn → List Binary
packages rows = map (λ r. r.binary) rows

module _ (arch : ℕ) (pool : List RowIn) (stands there : ℕ → Bool) (rows : List RowIn) (shown : IsShown pool stands rows) (o : IsOn arch pool stands there) where
  abbrev listed : List RowIn
  listed = rows_on arch rows

  abbrev marks : List Bool
  marks = are_installable (packages listed)

  marks_len : length marks ≡ length listed
  marks_len = length-are (packages listed) ∙ length-map listed (λ (r : RowIn). r.binary)

  -- a row on the architecture has a place
  place_of : (r : RowIn) → Contains listed r → (k : ℕ) × (slice_get pool k ≡ Some r) × (stands k ≡ true) × (there k ≡ true)
  place_of r c =
      let f = from_filter (is_row_on arch) rows r c in
      let w = shown.within r f.0 in
      (w.0, w.1, w.2, o.on w.0 r w.1 ∙ both w.2 f.1)

  -- and the row at a place that stands there is on the architecture
  row_of : (k : ℕ) (r : RowIn) → slice_get pool k ≡ Some r → there k ≡ true → (stands k ≡ true) × Contains rows r × Contains listed r
  row_of k r at h =
      let parts = sym (o.on k r at) ∙ h in
      let up = first_of_both (stands k) (is_row_on arch r) parts in
      let member = shown.all k r at up in
      (up, member, to_filter (is_row_on arch) rows r member (second_of_both (stands k) (is_row_on arch r) parts))

  listing : IsListing (packages listed) (packages pool) there
  listing = record {
    within = λ i row e.
        let q = of_map (λ (r : RowIn). r.binary) listed i row e in
        let p = place_of q.0 (contains_at listed i q.0 q.1) in
        (p.0, get_map (λ (r : RowIn). r.binary) pool p.0 q.0 p.1 ∙ ap Some q.2, p.3);
    all = λ k row e h.
        let q = of_map (λ (r : RowIn). r.binary) pool k row e in
        let c = (row_of k q.0 q.1 h).2 in
        (c.0, get_map (λ (r : RowIn). r.binary) listed c.0 q.0 (at_place listed q.0 c) ∙ ap Some q.2);
  }

  -- the computed answer for a row is the one for its place
  pub answer_is : (i k : ℕ) (r : RowIn) → slice_get listed i ≡ Some r → slice_get pool k ≡ Some r → there k ≡ true → (marked marks i ≡ true) ↔ IsAmong (packages pool) there k
  answer_is i k r at here h =
      listed_exact (packages listed) (packages pool) there listing i k r.binary (get_map (λ (q : RowIn). q.binary) listed i r at) (get_map (λ (q : RowIn). q.binary) pool k r here) h

  -- each row on the architecture is judged
  pub judged_at : (i : ℕ) (r : RowIn) → slice_get listed i ≡ Some r → slice_get (judged_on arch rows) i ≡ Some (record { row = r; is_installable = marked marks i })
  judged_at i r at = answer_at listed marks i r marks_len at

  pub of_judged : (i : ℕ) (j : RowAnswer) → slice_get (judged_on arch rows) i ≡ Some j → (slice_get listed i ≡ Some j.row) × (marked marks i ≡ j.is_installable)
  of_judged i j e = of_answer listed marks i j e

-- what is lost at a place: the row stands there after the change and isn't installable, though it came in or was installable before
abbrev pub IsLostAt : List Binary → (ℕ → Bool) → (ℕ → Bool) → (ℕ → Bool) → ℕ → Type 0
IsLostAt rows before after came k = (after k ≡ true) × (IsAmong rows after k → ⊥) × ((came k ≡ true) ⊎ IsAmong rows before k)

-- a change from old rows to new ones by flags, where the rows that stand and came are those of the group
pub record IsChange (pool : List RowIn) (group : List Text) (stood stands came : ℕ → Bool) (old new : List RowIn) : Type 0 where
  pub old_shown : IsShown pool stood old
  pub new_shown : IsShown pool stands new
  pub came_is : (k : ℕ) (r : RowIn) → slice_get pool k ≡ Some r → stands k ≡ true → came k ≡ is_row_of group r
  pub stayed : (k : ℕ) → stands k ≡ true → came k ≡ false → stood k ≡ true

-- the names are those of the watched rows that are lost
pub record AreLost (arch : ℕ) (pool : List RowIn) (before after came : ℕ → Bool) (names : List Text) : Type 0 where
  pub within : (n : Text) → Contains names n → (k : ℕ) × (r : RowIn) × (slice_get pool k ≡ Some r) × (r.binary.name ≡ n) × (is_watched_on arch r ≡ true) × IsLostAt (map (λ r. r.binary) pool) before after came k
  pub all : (k : ℕ) (r : RowIn) → slice_get pool k ≡ Some r → is_watched_on arch r ≡ true → IsLostAt (map (λ r. r.binary) pool) before after came k → Contains names r.binary.name

module _ (arch : ℕ) (pool : List RowIn) (group : List Text) (stood stands came before after : ℕ → Bool) (old new : List RowIn)
    (change : IsChange pool group stood stands came old new) (was : IsOn arch pool stood before) (is : IsOn arch pool stands after) where
  abbrev rows : List Binary
  rows = packages pool

  abbrev fails : RowAnswer → Bool
  fails j = fails_on arch group (judged_on arch old) j

  name_of : RowAnswer → Text
  name_of j = j.row.binary.name

  was_at : (k : ℕ) (r : RowIn) → slice_get pool k ≡ Some r → IsAmong rows before k → was_installable (judged_on arch old) r ≡ true
  was_at k r at some =
      let there : before k ≡ true = some.2 k some.3 some.4 in
      let c = (row_of arch pool stood before old change.old_shown was k r at there).2 in
      let place = at_place (rows_on arch old) r c in
      let marked_there = (answer_is arch pool stood before old change.old_shown was c.0 k r place at there).1 some in
      let judged = judged_at arch pool stood before old change.old_shown was c.0 r place in
      any_of (λ (j : RowAnswer). j.is_installable && is_same_key j.row r) (judged_on arch old) _ (contains_at (judged_on arch old) c.0 _ judged) (both marked_there (same_itself r))

  of_was : (k : ℕ) (r : RowIn) → slice_get pool k ≡ Some r → stood k ≡ true → was_installable (judged_on arch old) r ≡ true → IsAmong rows before k
  of_was k r at up h =
      let j = some_of (λ (j : RowAnswer). j.is_installable && is_same_key j.row r) (judged_on arch old) h in
      let q = of_judged arch pool stood before old change.old_shown was j.0 j.1 j.2 in
      let works = first_of_both j.1.is_installable (is_same_key j.1.row r) j.3 in
      let key = key_of_same j.1.row r (second_of_both j.1.is_installable (is_same_key j.1.row r) j.3) in
      let member = contains_at (rows_on arch old) j.0 j.1.row q.0 in
      let among = from_filter (is_row_on arch) old j.1.row member in
      let same = one_for_key old change.old_shown.by_key j.1.row r among.0 (change.old_shown.all k r at up) key in
      let there : before k ≡ true = was.on k r at ∙ both up (ap (is_row_on arch) (sym same) ∙ among.1) in
      (answer_is arch pool stood before old change.old_shown was j.0 k r (q.0 ∙ ap Some same) at there).0 (q.1 ∙ works)

  -- a watched row that is lost fails
  lost_fails : (k : ℕ) (r : RowIn) → slice_get pool k ≡ Some r → is_watched_on arch r ≡ true → IsLostAt rows before after came k
      → (j : RowAnswer) × Contains (judged_on arch new) j × (fails j ≡ true) × (j.row ≡ r)
  lost_fails k r at watched lost =
      let now = row_of arch pool stands after new change.new_shown is k r at lost.0 in
      let c = now.2 in
      let place = at_place (rows_on arch new) r c in
      let exact = answer_is arch pool stands after new change.new_shown is c.0 k r place at lost.0 in
      let judged = judged_at arch pool stands after new change.new_shown is c.0 r place in
      let mark = marked (are_installable (packages (rows_on arch new))) c.0 in
      let off : mark ≡ false = not_so mark (λ on. lost.1 (exact.0 on)) in
      let j : RowAnswer = record { row = r; is_installable = mark } in
      let reason : (is_row_of group r || was_installable (judged_on arch old) r) ≡ true = elim lost.2 [
        | inl came_in ↦ left_of (is_row_of group r) (was_installable (judged_on arch old) r) (sym (change.came_is k r at now.0) ∙ came_in)
        | inr some ↦ right_of (is_row_of group r) (was_installable (judged_on arch old) r) (was_at k r at some)
      ] in
      (j, contains_at (judged_on arch new) c.0 j judged, both (both watched (false_not mark off)) reason, refl)

  -- and a row that fails is a watched one that is lost
  fails_lost : (j : RowAnswer) → Contains (judged_on arch new) j → fails j ≡ true
      → (k : ℕ) × (slice_get pool k ≡ Some j.row) × (is_watched_on arch j.row ≡ true) × IsLostAt rows before after came k
  fails_lost j c h =
      let q = of_judged arch pool stands after new change.new_shown is c.0 j (at_place (judged_on arch new) j c) in
      let p = place_of arch pool stands after new change.new_shown is j.row (contains_at (rows_on arch new) c.0 j.row q.0) in
      let exact = answer_is arch pool stands after new change.new_shown is c.0 p.0 j.row q.0 p.1 p.3 in
      let front = first_of_both (is_watched_on arch j.row && not j.is_installable) (is_row_of group j.row || was_installable (judged_on arch old) j.row) h in
      let back = second_of_both (is_watched_on arch j.row && not j.is_installable) (is_row_of group j.row || was_installable (judged_on arch old) j.row) h in
      let watched = first_of_both (is_watched_on arch j.row) (not j.is_installable) front in
      let off = q.1 ∙ not_true j.is_installable (second_of_both (is_watched_on arch j.row) (not j.is_installable) front) in
      let broken : IsAmong rows after p.0 → ⊥ = λ some. false≢true (sym off ∙ exact.1 some) in
      let came_is = change.came_is p.0 j.row p.1 p.2 in
      let reason : (came p.0 ≡ true) ⊎ IsAmong rows before p.0 = elim (either_of (is_row_of group j.row) (was_installable (judged_on arch old) j.row) back) [
        | inl of_group ↦ inl (came_is ∙ of_group)
        | inr worked ↦ ⊎_elim (λ came_in. inl came_in) (λ stayed. inr (of_was p.0 j.row p.1 (change.stayed p.0 p.2 stayed) worked)) (cases_Bool (came p.0))
      ] in
      (p.0, p.1, watched, (p.3, broken, reason))

  pub first_lost : (names : List Text) → AreLost arch pool before after came names → least byte_cmp names ≡ first_failing arch group (judged_on arch old) (judged_on arch new)
  first_lost names lost =
      let failing = filter fails (judged_on arch new) in
      same-least text_order names (map (λ j. j.row.binary.name) failing) (λ a b c d e. text_tied a b e) (
        λ n c.
            let w = lost.within n c in
            let f = lost_fails w.0 w.1 w.2 w.4 w.5 in
            let member = to_filter fails (judged_on arch new) f.0 f.1 f.2 in
            subst (λ m. Contains (map (λ j. j.row.binary.name) failing) m) (ap (λ (r : RowIn). r.binary.name) f.3 ∙ w.3) (maps (λ (j : RowAnswer). j.row.binary.name) failing f.0 member),
        λ n c.
            let m = mapped_from (λ (j : RowAnswer). j.row.binary.name) failing n c in
            let f = from_filter fails (judged_on arch new) m.0 m.1 in
            let p = fails_lost m.0 f.0 f.1 in
            subst (λ x. Contains names x) m.2 (lost.all p.0 m.0.row p.1 p.2 p.3),
      )

-- where no row that comes stood before, those that came are those that didn't stand
pub lost_where_new : (rows : List Binary) (before after came : ℕ → Bool) → ((k : ℕ) → came k ≡ true → before k ≡ false) → ((k : ℕ) → after k ≡ true → came k ≡ false → before k ≡ true)
    → (k : ℕ) → IsLostAt rows before after came k ↔ ((after k ≡ true) × (IsAmong rows after k → ⊥) × (IsAmong rows before k ⊎ (before k ≡ false)))
lost_where_new rows before after came new stayed k = (
  λ lost. (lost.0, lost.1, elim lost.2 [ inl came_in ↦ inr (new k came_in) | inr some ↦ inl some ]),
  λ told. (
    told.0,
    told.1,
    elim told.2 [
      | inl some ↦ inr some
      | inr apart ↦ ⊎_elim (λ came_in. inl came_in) (λ kept. absurd (false≢true (sym apart ∙ stayed k told.0 kept))) (cases_Bool (came k))
    ],
  ),
)
