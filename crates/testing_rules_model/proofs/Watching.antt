-- A change that is allowed leaves every watched row installable.
use Rattle.std.specs.Prelude.{ℕ, zero, suc, ◌+◌, ◌<◌, ◌≤◌, ◌==◌, Bool, true, false, ◌&&◌, ◌||◌, not, cond, List, [], ◌∷◌, Option, Some, None, map, filter, find, length, is_some, option_map}
use Rattle.std.specs.List.{AllByRecursion, filter_map, flat_map, cons_option, range_with_len}
use Rattle.std.specs.Str.{bytes_eq}
use Rattle.std.specs.declared.cmp.Ordering.{Ordering}
use Rattle.std.proofs.Common.{◌≡◌, refl, sym, ap, ◌∙◌, arith, ⊎_elim}
use Rattle.std.proofs.lemmas.Bool.{false≢true, cases_lt}
use Rattle.std.proofs.lemmas.Bool.Decides.{eqb_tells}
use Rattle.std.proofs.lemmas.List.{length-map}
use Rattle.std.proofs.lemmas.Option.{same_Some}
use Rattle.std.proofs.lemmas.Slice.Eq.{bytes_eq-Decides}
use Rattle.testing_install.specs.Installable.{are_installable}
use Rattle.testing_rules_model.specs.declared.facts.UploadIn.{UploadIn}
use Rattle.testing_rules_model.specs.declared.suite.RowIn.{RowIn}
use Rattle.testing_rules_model.specs.declared.update.Offender.{Offender}
use Rattle.testing_rules_model.specs.Suite.{Suite}
use Rattle.testing_rules_items.specs.Words.{Text, byte_cmp, is_empty, lesser, least}
use Rattle.testing_rules_model.specs.Unstable.{is_current, is_of_source}
use Rattle.testing_rules_model.specs.Moves.{row_key, row_cmp, is_row_of, source_in, move_group, remove_source, rows_on, RowAnswer, with_answers, judged_on, is_same_key, was_installable, is_watched_on, fails_on, first_failing, offender_on, first_of, offender_of}
use Rattle.testing_rules_model.specs.steps.Moves.{is_row_on}
use Rattle.testing_rules_model.specs.Watched.{AllWatchedWork}
use Rattle.testing_install.proofs.Choosing.{length-are}
use Rattle.testing_rules_items.proofs.Each.{each-weaker, each-both, each-append, each-filter, each-all, every, each-put_all}
use Rattle.testing_rules_model.proofs.MoreMail.{text_same}

nat_same : (n : ℕ) → (n == n) ≡ true
nat_same n = ⊎_elim (λ h. h.0) (λ h. absurd (h.1 refl)) (eqb_tells n n)

same_key_itself : (r : RowIn) → is_same_key r r ≡ true
same_key_itself r = rw (nat_same r.arch, text_same r.binary.name) refl

abbrev Works : ℕ → RowAnswer → Type 0
Works arch j = is_watched_on arch j.row ≡ true → j.is_installable ≡ true

abbrev Worked : ℕ → List RowAnswer → RowIn → Type 0
Worked arch before r = is_watched_on arch r ≡ true → was_installable before r ≡ true

at_head : (b : Bool) (r : RowIn) (rest : Bool) → b ≡ true → ((b && is_same_key r r) || rest) ≡ true
at_head b r rest e = rw (e, same_key_itself r) refl

or_later : (a b : Bool) → b ≡ true → (a || b) ≡ true
or_later true b e = refl
or_later false b e = e

-- rows that worked, in the words of a later judging
worked : (arch : ℕ) (before : List RowAnswer) (rs : List RowIn) (bs : List Bool) → length bs ≡ length rs
    → ((r : RowIn) → was_installable (with_answers rs bs) r ≡ true → was_installable before r ≡ true)
    → AllByRecursion (Works arch) (with_answers rs bs) → AllByRecursion (Worked arch before) rs
worked arch before [] bs e f h = tt
worked arch before (r ∷ rs) [] e f h = absurd (omega (arith, e))
worked arch before (r ∷ rs) (b ∷ bs) e f h =
    let here : Worked arch before r = λ w. f r (at_head b r (was_installable (with_answers rs bs) r) (h.0 w)) in
    (here, worked arch before rs bs (omega (arith, e)) (λ q k. f q (or_later (b && is_same_key r q) (was_installable (with_answers rs bs) q) k)) h.1)

off : (a b c : Bool) → (a || b) ≡ false → (a || (b && c)) ≡ false
off true b c e = e
off false true c e = absurd (false≢true (sym e))
off false false c e = refl

before_all : (arch : ℕ) (old : List RowIn) → AllByRecursion (Works arch) (judged_on arch old) → AllByRecursion (Worked arch (judged_on arch old)) old
before_all arch old h =
    let there = rows_on arch old in
    let bs = are_installable (map (λ (r : RowIn). r.binary) there) in
    let long : length bs ≡ length there = length-are (map (λ (r : RowIn). r.binary) there) ∙ length-map there (λ (r : RowIn). r.binary) in
    let here = worked arch (judged_on arch old) there bs long (λ r k. k) h in
    each-all (Worked arch (judged_on arch old)) (is_row_on arch)
    (λ r e w. absurd (false≢true (sym (off (r.arch == arch) (r.arch == 16) (arch == 0) e) ∙ w))) old here

-- Where there is no offender, no row fails.

some_none : {A : Type 0} {x : A} → Some x ≡ None → false ≡ true
some_none e = sym (ap is_some e)

none_at : (f : ℕ → Option Offender) (a k : ℕ) (m : Option Offender) (rest : List Offender) → f a ≡ m → first_of (cons_option m rest) ≡ None → a ≤ k
    → (first_of rest ≡ None → a + 1 ≤ k → f k ≡ None) → f k ≡ None
none_at f a k None rest e h at more = ⊎_elim (λ l. more h (omega (arith, l))) (λ l. let same : k ≡ a = omega (arith, l, at) in ap f same ∙ e) (cases_lt a k)
none_at f a k (Some o) rest e h at more = absurd (false≢true (some_none h))

pub none_on : (f : ℕ → Option Offender) (a n : ℕ) → first_of (filter_map f (range_with_len a n)) ≡ None → (k : ℕ) → a ≤ k → k < a + n → f k ≡ None
none_on f a zero e k h g = absurd (omega (arith, h, g))
none_on f a (suc n) e k h g =
    none_at f a k (f a) (filter_map f (range_with_len (a + 1) n)) refl e h (λ rest above. none_on f (a + 1) n rest k above (omega (arith, g)))

lesser_some : {A : Type 0} (cmp : A → A → Ordering) (x : A) (m : Option A) → lesser cmp x m ≡ None → false ≡ true
lesser_some cmp x None e = some_none e
lesser_some cmp x (Some y) e = some_none e

least_none : {A : Type 0} (cmp : A → A → Ordering) (xs : List A) → least cmp xs ≡ None → xs ≡ []
least_none cmp [] e = refl
least_none cmp (x ∷ xs) e = absurd (false≢true (lesser_some cmp x (least cmp xs) e))

map_nil : {A B : Type 0} (f : A → B) (xs : List A) → map f xs ≡ [] → xs ≡ []
map_nil f [] e = refl
map_nil f (x ∷ xs) e = absurd (false≢true (ap is_empty e))

none_passes_at : {A : Type 0} (test : A → Bool) (x : A) (b : Bool) (xs : List A) → test x ≡ b → cond b (x ∷ filter test xs) (filter test xs) ≡ []
    → (filter test xs ≡ [] → AllByRecursion (λ y. test y ≡ false) xs) → AllByRecursion (λ y. test y ≡ false) (x ∷ xs)
none_passes_at test x true xs e h more = absurd (false≢true (ap is_empty h))
none_passes_at test x false xs e h more = (e, more h)

none_passes : {A : Type 0} (test : A → Bool) (xs : List A) → filter test xs ≡ [] → AllByRecursion (λ y. test y ≡ false) xs
none_passes test [] e = tt
none_passes test (x ∷ xs) e = none_passes_at test x (test x) xs refl e (none_passes test xs)

option_none : {A B : Type 0} (f : A → B) (m : Option A) → option_map f m ≡ None → m ≡ None
option_none f None e = refl
option_none f (Some x) e = absurd (false≢true (some_none e))

-- no offender on an architecture: no row fails there
pub fails_none : (old new : List RowIn) (group : List Text) (arch : ℕ) → offender_on old new group arch ≡ None
    → AllByRecursion (λ j. fails_on arch group (judged_on arch old) j ≡ false) (judged_on arch new)
fails_none old new group arch e =
    let before = judged_on arch old in
    let after = judged_on arch new in
    let name : RowAnswer → Text = λ j. j.row.binary.name in
    let failing = filter (fails_on arch group before) after in
    let as_offender : Text → Offender = λ n. record { arch = arch; «package» = n } in
    let first : first_failing arch group before after ≡ None = option_none as_offender (first_failing arch group before after) e in
    none_passes (fails_on arch group before) after (map_nil name failing (least_none byte_cmp (map name failing) first))

-- What came in doesn't fail, and what stayed works as it did.

works_by : (w i r h : Bool) → (w && not i && (r || h)) ≡ false → (r ≡ false → w ≡ true → h ≡ true) → w ≡ true → i ≡ true
works_by true true r h e f k = refl
works_by true false true h e f k = absurd (false≢true (sym e))
works_by true false false h e f k = absurd (false≢true (sym e ∙ f refl refl))
works_by false i r h e f k = absurd (false≢true k)

each-row : (Q : RowIn → Type 0) (rs : List RowIn) (bs : List Bool) → AllByRecursion Q rs → AllByRecursion (λ j. Q j.row) (with_answers rs bs)
each-row Q [] bs h = tt
each-row Q (r ∷ rs) [] h = tt
each-row Q (r ∷ rs) (b ∷ bs) h = (h.0, each-row Q rs bs h.1)

-- every row of another source worked before
abbrev OthersWorked : ℕ → List RowIn → List RowIn → List Text → Type 0
OthersWorked arch old new group = AllByRecursion (λ r. is_row_of group r ≡ false → Worked arch (judged_on arch old) r) new

allowed : (archs : List Text) (old new : List RowIn) (group : List Text) → offender_of archs old new group ≡ None
    → ((arch : ℕ) → arch < length archs → OthersWorked arch old new group) → AllWatchedWork archs new
allowed archs old new group e others arch below =
    let before = judged_on arch old in
    let after = judged_on arch new in
    let Other : RowIn → Type 0 = λ r. is_row_of group r ≡ false → Worked arch before r in
    let fails = fails_none old new group arch (none_on (offender_on old new group) 0 (length archs) e arch (omega arith) (omega (arith, below))) in
    let there = each-filter Other (is_row_on arch) new (each-weaker Other (λ r. is_row_on arch r ≡ true → Other r) (λ r q on. q) new (others arch below)) in
    let stayed = each-row Other (rows_on arch new) (are_installable (map (λ (r : RowIn). r.binary) (rows_on arch new))) there in
    let Both : RowAnswer → Type 0 = λ j. (fails_on arch group before j ≡ false) × Other j.row in
    each-weaker Both (Works arch)
    (λ j p. works_by (is_watched_on arch j.row) j.is_installable (is_row_of group j.row) (was_installable before j.row) p.0 p.1)
    after (each-both (λ j. fails_on arch group before j ≡ false) (λ j. Other j.row) after fails stayed)

-- Moving a group.

found_at : {A : Type 0} (test : A → Bool) (x : A) (b : Bool) (xs : List A) (u : A) → test x ≡ b → cond b (Some x) (find test xs) ≡ Some u
    → (find test xs ≡ Some u → test u ≡ true) → test u ≡ true
found_at test x true xs u e h more = ap test (sym (same_Some x u h)) ∙ e
found_at test x false xs u e h more = more h

pub found_passes : {A : Type 0} (test : A → Bool) (xs : List A) (u : A) → find test xs ≡ Some u → test u ≡ true
found_passes test [] u h = absurd (false≢true (ap is_some h))
found_passes test (x ∷ xs) u h = found_at test x (test x) xs u refl h (found_passes test xs u)

first_part : (a b : Bool) → (a && b) ≡ true → a ≡ true
first_part true b h = refl
first_part false b h = absurd (false≢true h)

or_now : (a b : Bool) → a ≡ true → (a || b) ≡ true
or_now true b e = refl
or_now false b e = absurd (false≢true e)

named : (sources : List UploadIn) (name : Text) (u : UploadIn) (r : RowIn) → source_in sources name ≡ Some u → is_current u r ≡ true → bytes_eq r.binary.source name ≡ true
named sources name u r found current =
    let same = (bytes_eq-Decides r.binary.source u.source).0 (first_part (is_of_source u r) _ current) in
    let of_name = (bytes_eq-Decides u.source name).0 (found_passes (λ (v : UploadIn). bytes_eq v.source name) sources u found) in
    (bytes_eq-Decides r.binary.source name).1 (same ∙ of_name)

module _ (P : RowIn → Type 0) (sources : List UploadIn) (rows : List RowIn) (group : List Text) where
  abbrev Other : RowIn → Type 0
  Other r = is_row_of group r ≡ false → P r

  abbrev current : UploadIn → List RowIn
  current u = filter (is_current u) rows

  comes_at : (name : Text) (names : List Text) (m : Option UploadIn) → source_in sources name ≡ m
      → ((r : RowIn) → is_row_of (name ∷ names) r ≡ true → is_row_of group r ≡ true)
      → AllByRecursion Other (flat_map current (filter_map (source_in sources) names))
      → AllByRecursion Other (flat_map current (cons_option m (filter_map (source_in sources) names)))
  comes_at name names None e f h = h
  comes_at name names (Some u) e f h =
      let came : (r : RowIn) → is_current u r ≡ true → Other r = λ r c miss. absurd (false≢true (sym miss ∙ f r (or_now (bytes_eq r.binary.source name) (is_row_of names r) (named sources name u r e c)))) in
      each-append Other (current u) (flat_map current (filter_map (source_in sources) names))
      (each-filter Other (is_current u) rows (every (λ r. is_current u r ≡ true → Other r) came rows)) h

  comes : (names : List Text) → ((r : RowIn) → is_row_of names r ≡ true → is_row_of group r ≡ true)
      → AllByRecursion Other (flat_map current (filter_map (source_in sources) names))
  comes [] f = tt
  comes (name ∷ names) f =
      comes_at name names (source_in sources name) refl f (comes names (λ r e. f r (or_later (bytes_eq r.binary.source name) (is_row_of names r) e)))

  others_stay : (t : Suite) → AllByRecursion P t.rows → AllByRecursion Other (move_group sources rows group t).rows
  others_stay t h =
      let kept = each-filter Other (λ r. not (is_row_of group r)) t.rows (each-weaker P (λ r. not (is_row_of group r) ≡ true → Other r) (λ r p on miss. p) t.rows h) in
      each-put_all Other row_key row_cmp (flat_map current (filter_map (source_in sources) group)) (filter (λ r. not (is_row_of group r)) t.rows) (comes group (λ r e. e)) kept

pub group-works : (archs : List Text) (sources : List UploadIn) (rows : List RowIn) (group : List Text) (t : Suite)
    → offender_of archs t.rows (move_group sources rows group t).rows group ≡ None → AllWatchedWork archs t.rows → AllWatchedWork archs (move_group sources rows group t).rows
group-works archs sources rows group t e h =
    allowed archs t.rows (move_group sources rows group t).rows group e
    (λ arch below. others_stay (Worked arch (judged_on arch t.rows)) sources rows group t (before_all arch t.rows (h arch below)))

pub removal-works : (archs : List Text) (name : Text) (t : Suite)
    → offender_of archs t.rows (remove_source name t).rows [] ≡ None → AllWatchedWork archs t.rows → AllWatchedWork archs (remove_source name t).rows
removal-works archs name t e h =
    allowed archs t.rows (remove_source name t).rows [] e
    (λ arch below.
    let P : RowIn → Type 0 = Worked arch (judged_on arch t.rows) in
    let Stays : RowIn → Type 0 = λ r. is_row_of [] r ≡ false → P r in
    let test : RowIn → Bool = λ r. not (bytes_eq r.binary.source name) in
    each-filter Stays test t.rows (each-weaker P (λ r. test r ≡ true → Stays r) (λ r p on miss. p) t.rows (before_all arch t.rows (h arch below))))
