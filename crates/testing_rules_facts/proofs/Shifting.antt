-- What one more message does to the rows of the facts.
use Rattle.std.specs.Prelude.{ℕ, ◌+◌, Bool, true, false, not, cond, List, [], ◌∷◌, ◌++◌, map, filter, option_to_list}
use Rattle.std.specs.List.{sum_by}
use Rattle.std.proofs.Common.{◌≡◌, refl, sym, ap, ◌∙◌, arith}
use Rattle.std.specs.declared.cmp.Ordering.{Ordering}
use Rattle.std.specs.declared.cmp.Ordering.TheVariants.{Less, Equal, Greater}
use Rattle.std.specs.Ordering.{nat_cmp, is_lt}
use Rattle.std.proofs.lemmas.List.{append_assoc, append-nil}
use Rattle.std.proofs.lemmas.List.Sums.{sum_by-cons, sum_by-append}
use Rattle.testing_rules_fact_order.specs.declared.entry.FactUpdate.{FactUpdate}
use Rattle.testing_rules_fact_order.specs.declared.entry.FactUpdate.TheVariants as entry
use Rattle.testing_rules_model.specs.declared.facts.BuildIn.{BuildIn}
use Rattle.testing_rules_model.specs.declared.facts.DropIn.{DropIn}
use Rattle.testing_rules_model.specs.FactLists.{FactLists}
use Rattle.testing_rules_items.specs.Words.{byte_cmp, put_by}
use Rattle.testing_rules_model.specs.Unstable.{upload_order, build_order, pair_order, pair_of, drop_order, drop_pair, bug_order, hint_order, unhint_order}
use Rattle.testing_rules_model.specs.WithMessage.{put_first, with_builds, with_drop, with_greatest, outlives}
use Rattle.testing_rules_model.specs.steps.WithMessage.{stands_beside}
use Rattle.testing_rules_facts.specs.steps.Entries.{lists_with, with_entry}
use Rattle.testing_rules_model.specs.FactDifference.{IsChangedFrom}
use Rattle.testing_rules_model.specs.declared.fact_row.FactRow.{FactRow}
use Rattle.testing_rules_model.specs.FactRows.{upload_row, rows_of, is_row, times}
use Rattle.testing_rules_model.specs.steps.FactRows.{source_row, build_row, drop_row, bug_row, hint_row, unhint_row, delays_row}
use Rattle.testing_rules_facts.specs.steps.Shifts.{way_given, come_in, put_over, Shift, shift_build, shift_builds, shift_of, Shifts}
use Rattle.testing_rules_fact_order.specs.Uploads.{message_order, first_stays}
use Rattle.testing_rules_facts.proofs.KeptUploads.{none_gives_way}

-- sums over an element that is put by key
module _ {A K : Type 0} (f : A → ℕ) (key : A → K) (cmp : K → K → Ordering) where
  module _ (rank : A → A → Ordering) where
    first_ranked : (b : Bool) (x y : A) (ys : List A)
        → sum_by f (cond b y x ∷ ys) + sum_by f (cond b [] (y ∷ [])) ≡ sum_by f (y ∷ ys) + sum_by f (cond b [] (x ∷ []))
    first_ranked true x y ys = refl
    first_ranked false x y ys = omega (arith, sum_by-cons f x ys, sum_by-cons f y ys, sum_by-cons f y [], sum_by-cons f x [])

    first_at : (o : Ordering) (x y : A) (ys : List A) → cmp (key x) (key y) ≡ o
        → sum_by f (put_first key cmp rank x ys) + sum_by f (way_given key cmp rank x ys) ≡ sum_by f ys + sum_by f (come_in key cmp rank x ys)
        → sum_by f (put_first key cmp rank x (y ∷ ys)) + sum_by f (way_given key cmp rank x (y ∷ ys)) ≡ sum_by f (y ∷ ys) + sum_by f (come_in key cmp rank x (y ∷ ys))
    first_at Less x y ys e h = rw (put_first, way_given, come_in, e) (omega (arith, sum_by-cons f x (y ∷ ys), sum_by-cons f x []))
    first_at Equal x y ys e h = rw (put_first, way_given, come_in, e) (first_ranked (is_lt (rank y x)) x y ys)
    first_at Greater x y ys e h = rw (put_first, way_given, come_in, e) (omega (arith, h, sum_by-cons f y (put_first key cmp rank x ys), sum_by-cons f y ys))

    pub first_shifts : (x : A) (xs : List A)
        → sum_by f (put_first key cmp rank x xs) + sum_by f (way_given key cmp rank x xs) ≡ sum_by f xs + sum_by f (come_in key cmp rank x xs)
    first_shifts x [] = omega arith
    first_shifts x (y ∷ ys) = first_at (cmp (key x) (key y)) x y ys refl (first_shifts x ys)

  over_at : (o : Ordering) (x y : A) (ys : List A) → cmp (key x) (key y) ≡ o
      → sum_by f (put_by key cmp x ys) + sum_by f (put_over key cmp x ys) ≡ sum_by f ys + f x
      → sum_by f (put_by key cmp x (y ∷ ys)) + sum_by f (put_over key cmp x (y ∷ ys)) ≡ sum_by f (y ∷ ys) + f x
  over_at Less x y ys e h = rw (put_by, put_over, e) (omega (arith, sum_by-cons f x (y ∷ ys)))
  over_at Equal x y ys e h = rw (put_by, put_over, e) (omega (arith, sum_by-cons f x ys, sum_by-cons f y ys, sum_by-cons f y []))
  over_at Greater x y ys e h = rw (put_by, put_over, e) (omega (arith, h, sum_by-cons f y (put_by key cmp x ys), sum_by-cons f y ys))

  pub over_shifts : (x : A) (xs : List A) → sum_by f (put_by key cmp x xs) + sum_by f (put_over key cmp x xs) ≡ sum_by f xs + f x
  over_shifts x [] = omega (arith, sum_by-cons f x [])
  over_shifts x (y ∷ ys) = over_at (cmp (key x) (key y)) x y ys refl (over_shifts x ys)

-- what a filter keeps and what it drops are all
split_at : {A : Type 0} (f : A → ℕ) (p : A → Bool) (b : Bool) (x : A) (xs : List A) → p x ≡ b
    → sum_by f (filter p xs) + sum_by f (filter (λ y. not (p y)) xs) ≡ sum_by f xs
    → sum_by f (filter p (x ∷ xs)) + sum_by f (filter (λ y. not (p y)) (x ∷ xs)) ≡ sum_by f (x ∷ xs)
split_at f p true x xs e h = rw e (omega (arith, h, sum_by-cons f x (filter p xs), sum_by-cons f x xs))
split_at f p false x xs e h = rw e (omega (arith, h, sum_by-cons f x (filter (λ y. not (p y)) xs), sum_by-cons f x xs))

pub splits : {A : Type 0} (f : A → ℕ) (p : A → Bool) (xs : List A) → sum_by f (filter p xs) + sum_by f (filter (λ y. not (p y)) xs) ≡ sum_by f xs
splits f p [] = refl
splits f p (x ∷ xs) = split_at f p (p x) x xs refl (splits f p xs)

-- a count over a mapped list is a sum
pub mapped : {A : Type 0} (row : A → FactRow) (r : FactRow) (xs : List A) → times r (map row xs) ≡ sum_by (λ x. cond (is_row r (row x)) 1 0) xs
mapped row r [] = refl
mapped row r (x ∷ xs) =
    sum_by-cons (λ y. cond (is_row r y) 1 0) (row x) (map row xs) ∙ ap (λ n. cond (is_row r (row x)) 1 0 + n) (mapped row r xs) ∙ sym (sum_by-cons (λ y. cond (is_row r (row y)) 1 0) x xs)

pub joined : (r : FactRow) (xs ys : List FactRow) → times r (xs ++ ys) ≡ times r xs + times r ys
joined r xs ys = sum_by-append (λ y. cond (is_row r y) 1 0) xs ys

-- the rows of each kind
pub parts : (r : FactRow) (f : FactLists) → times r (rows_of f)
    ≡ times r (map source_row f.sources) + (times r (map upload_row f.uploads) + (times r (map build_row f.rows) + (times r (map drop_row f.drops)
    + (times r (map bug_row f.bugs) + (times r (map hint_row f.hints) + (times r (map unhint_row f.unhints) + times r (map delays_row (option_to_list f.delays))))))))
parts r f =
    let g : List FactRow = map delays_row (option_to_list f.delays) in
    let e7 : List FactRow = map unhint_row f.unhints ++ g in
    let e6 : List FactRow = map hint_row f.hints ++ e7 in
    let e5 : List FactRow = map bug_row f.bugs ++ e6 in
    let e4 : List FactRow = map drop_row f.drops ++ e5 in
    let e3 : List FactRow = map build_row f.rows ++ e4 in
    let e2 : List FactRow = map upload_row f.uploads ++ e3 in
    omega (
      arith,
      joined r (map source_row f.sources) e2,
      joined r (map upload_row f.uploads) e3,
      joined r (map build_row f.rows) e4,
      joined r (map drop_row f.drops) e5,
      joined r (map bug_row f.bugs) e6,
      joined r (map hint_row f.hints) e7,
      joined r (map unhint_row f.unhints) g,
    )

-- one element, put by key, as rows
pub first_rows : {A K : Type 0} (key : A → K) (cmp : K → K → Ordering) (rank : A → A → Ordering) (row : A → FactRow) (r : FactRow) (x : A) (xs : List A)
    → times r (map row (put_first key cmp rank x xs)) + times r (map row (way_given key cmp rank x xs)) ≡ times r (map row xs) + times r (map row (come_in key cmp rank x xs))
first_rows key cmp rank row r x xs =
    omega (
      arith,
      first_shifts (λ y. cond (is_row r (row y)) 1 0) key cmp rank x xs,
      mapped row r (put_first key cmp rank x xs),
      mapped row r (way_given key cmp rank x xs),
      mapped row r xs,
      mapped row r (come_in key cmp rank x xs),
    )

pub over_rows : {A K : Type 0} (key : A → K) (cmp : K → K → Ordering) (row : A → FactRow) (r : FactRow) (x : A) (xs : List A)
    → times r (map row (put_by key cmp x xs)) + times r (map row (put_over key cmp x xs)) ≡ times r (map row xs) + times r (row x ∷ [])
over_rows key cmp row r x xs =
    omega (
      arith,
      over_shifts (λ y. cond (is_row r (row y)) 1 0) key cmp x xs,
      mapped row r (put_by key cmp x xs),
      mapped row r (put_over key cmp x xs),
      mapped row r xs,
      sum_by-cons (λ y. cond (is_row r y) 1 0) (row x) [],
    )

-- the builds of a message
builds_at : (stands : BuildIn → Bool) (c : Bool) (r : FactRow) (b : BuildIn) (bs rows : List BuildIn) → stands b ≡ c
    → times r (map build_row (with_builds stands bs rows)) + times r (shift_builds stands bs rows).left ≡ times r (map build_row rows) + times r (shift_builds stands bs rows).came
    → times r (map build_row (with_builds stands (b ∷ bs) rows)) + times r (shift_builds stands (b ∷ bs) rows).left ≡ times r (map build_row rows) + times r (shift_builds stands (b ∷ bs) rows).came
builds_at stands true r b bs rows e h =
    let mid : List BuildIn = with_builds stands bs rows in
    let so_far : Shift = shift_builds stands bs rows in
    let own : Shift = shift_build b mid in
    rw (with_builds, shift_builds, e) (omega (arith, h, first_rows pair_of pair_order build_order build_row r b mid, joined r so_far.left own.left, joined r so_far.came own.came))
builds_at stands false r b bs rows e h = rw (with_builds, shift_builds, e) h

pub builds_shift : (stands : BuildIn → Bool) (r : FactRow) (bs rows : List BuildIn)
    → times r (map build_row (with_builds stands bs rows)) + times r (shift_builds stands bs rows).left ≡ times r (map build_row rows) + times r (shift_builds stands bs rows).came
builds_shift stands r [] rows = refl
builds_shift stands r (b ∷ bs) rows = builds_at stands (stands b) r b bs rows refl (builds_shift stands r bs rows)

-- every kind
pub entry_shifts : (e : FactUpdate) (f : FactLists) → Shifts (rows_of f) (rows_of (lists_with e f)) (shift_of e f)
entry_shifts (entry.Upload u) f r =
    let way = map source_row (way_given (λ v. v.source) byte_cmp upload_order u f.sources) in
    let came = map source_row (come_in (λ v. v.source) byte_cmp upload_order u f.sources) in
    omega (
      arith,
      parts r f,
      parts r (lists_with (entry.Upload u) f),
      first_rows (λ v. v.source) byte_cmp upload_order source_row r u f.sources,
      first_rows (λ v. v) message_order first_stays upload_row r u f.uploads,
      ap (λ us. times r (map upload_row us)) (none_gives_way u f.uploads),
      joined r came (map upload_row (come_in (λ v. v) message_order first_stays u f.uploads)),
    )
entry_shifts (entry.Dropped d) f r =
    let own = filter (λ b. not (outlives d b)) f.rows in
    omega (
      arith,
      parts r f,
      parts r (lists_with (entry.Dropped d) f),
      first_rows drop_pair pair_order drop_order drop_row r d f.drops,
      splits (λ y. cond (is_row r (build_row y)) 1 0) (outlives d) f.rows,
      mapped build_row r f.rows,
      mapped build_row r (filter (outlives d) f.rows),
      mapped build_row r own,
      joined r (map build_row own) (map drop_row (way_given drop_pair pair_order drop_order d f.drops)),
    )
entry_shifts (entry.Build bs) f r = omega (arith, parts r f, parts r (lists_with (entry.Build bs) f), builds_shift (stands_beside f.drops) r bs f.rows)
entry_shifts (entry.Bug b) f r = omega (arith, parts r f, parts r (lists_with (entry.Bug b) f), first_rows (λ c. c.bug) nat_cmp bug_order bug_row r b f.bugs)
entry_shifts (entry.Hint h) f r = omega (arith, parts r f, parts r (lists_with (entry.Hint h) f), over_rows (λ g. g) hint_order hint_row r h f.hints)
entry_shifts (entry.Unhint c) f r = omega (arith, parts r f, parts r (lists_with (entry.Unhint c) f), over_rows (λ g. g) unhint_order unhint_row r c f.unhints)
entry_shifts (entry.Delays d) f r = omega (arith, parts r f, parts r (lists_with (entry.Delays d) f))
entry_shifts entry.Nothing f r = refl

-- the lists alone change, and not what was noted before
came_stays : (e : FactUpdate) (f : FactLists) → (lists_with e f).came ≡ f.came
came_stays (entry.Upload u) f = refl
came_stays (entry.Dropped d) f = refl
came_stays (entry.Build bs) f = refl
came_stays (entry.Bug b) f = refl
came_stays (entry.Hint h) f = refl
came_stays (entry.Unhint c) f = refl
came_stays (entry.Delays d) f = refl
came_stays entry.Nothing f = refl

left_stays : (e : FactUpdate) (f : FactLists) → (lists_with e f).left ≡ f.left
left_stays (entry.Upload u) f = refl
left_stays (entry.Dropped d) f = refl
left_stays (entry.Build bs) f = refl
left_stays (entry.Bug b) f = refl
left_stays (entry.Hint h) f = refl
left_stays (entry.Unhint c) f = refl
left_stays (entry.Delays d) f = refl
left_stays entry.Nothing f = refl

-- taking a message logs what it changes
pub takes_log : (count : FactRow → ℕ) (e : FactUpdate) (f : FactLists) → IsChangedFrom count f → IsChangedFrom count (with_entry e f)
takes_log count e f h = λ r.
    let s = shift_of e f in
    let rows : times r (rows_of (with_entry e f)) + times r s.left ≡ times r (rows_of f) + times r s.came = entry_shifts e f r in
    let came : times r (with_entry e f).came ≡ times r f.came + times r s.came = ap (λ c. times r (c ++ s.came)) (came_stays e f) ∙ joined r f.came s.came in
    let left : times r (with_entry e f).left ≡ times r f.left + times r s.left = ap (λ l. times r (l ++ s.left)) (left_stays e f) ∙ joined r f.left s.left in
    omega (arith, h r, rows, came, left)

-- lists that a drop has changed, with what was noted of it
pub dropped : (f : FactLists) (d kept : DropIn) (rows : List BuildIn) (drops : List DropIn) (came left taken : List FactRow) (way own : List FactRow)
    → kept ≡ d
    → rows ≡ with_drop d f.rows
    → drops ≡ with_greatest kept f.drops
    → came ≡ (f.came ++ []) ++ own
    → left ≡ (f.left ++ taken) ++ way
    → taken ≡ map build_row (filter (λ b. not (outlives d b)) f.rows)
    → way ≡ map drop_row (way_given drop_pair pair_order drop_order d f.drops)
    → own ≡ map drop_row (come_in drop_pair pair_order drop_order d f.drops)
    → record f { rows = rows; drops = drops; came = came; left = left } ≡ with_entry (entry.Dropped d) f
dropped f d kept rows drops came left taken way own same rows_are drops_are came_is left_is taken_is way_is own_is =
    rw (rows_are, drops_are, same, came_is, left_is, taken_is, way_is, own_is, append-nil f.came, append_assoc f.left (map build_row (filter (λ b. not (outlives d b)) f.rows)) (map drop_row (way_given drop_pair pair_order drop_order d f.drops))) refl
