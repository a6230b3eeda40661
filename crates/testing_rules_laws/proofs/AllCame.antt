-- Rows that are put back one after the other: where the facts have as many then, all of them came.
use Rattle.std.specs.Prelude.{ℕ, ◌+◌, ◌==◌, ◌&&◌, Bool, true, false, cond, List, [], ◌∷◌, ◌++◌, length, map, find, Option, Some, None, option_to_list}
use Rattle.std.proofs.Common.{◌≡◌, refl, sym, ap, ◌∙◌, subst, arith, inl, inr, ◌⊎◌}
use Rattle.std.specs.List.{sum_by}
use Rattle.std.specs.declared.cmp.Ordering.{Ordering}
use Rattle.std.specs.declared.cmp.Ordering.TheVariants.{Less, Equal, Greater}
use Rattle.std.specs.Ordering.{nat_cmp, is_lt}
use Rattle.std.proofs.lemmas.List.{length-map}
use Rattle.std.proofs.lemmas.List.Sums.{sum_by-cons, sum_by-append}
use Rattle.testing_rules_items.specs.declared.item.Item.{Item}
use Rattle.testing_rules_items.specs.Words.{byte_cmp, put_by}
use Rattle.testing_rules_model.specs.declared.fact_row.FactKind.{FactKind}
use Rattle.testing_rules_model.specs.declared.fact_row.FactKind.TheVariants.{Source, Upload, Build, Drop, Bug, Hint, Unhint, Delays}
use Rattle.testing_rules_model.specs.declared.fact_row.FactRow.{FactRow}
use Rattle.testing_rules_model.specs.declared.facts.BuildIn.{BuildIn}
use Rattle.testing_rules_model.specs.declared.facts.DelaysIn.{DelaysIn}
use Rattle.testing_rules_model.specs.Covered.{CoveredItem, upload_of, drop_of, bug_of, hint_of, unhint_of, delays_of, builds_of}
use Rattle.testing_rules_model.specs.FactLists.{FactLists}
use Rattle.testing_rules_model.specs.FactRows.{upload_row, rows_of, is_kind, is_row, times}
use Rattle.testing_rules_model.specs.steps.FactRows.{source_row, build_row, drop_row, bug_row, hint_row, unhint_row, delays_row}
use Rattle.testing_rules_model.specs.Unstable.{upload_order, build_order, pair_order, pair_of, drop_order, drop_pair, bug_order, hint_order, unhint_order, delays_order}
use Rattle.testing_rules_model.specs.WithMessage.{put_first, with_upload, with_build, with_greatest, with_bug, with_hint, with_unhint}
use Rattle.testing_rules_model.proofs.SameFacts.{upload_numbered, drop_numbered, bug_numbered, hint_numbered, unhint_numbered, delays_numbered, builds_numbered}
use Rattle.testing_rules_facts.specs.Restored.{Given, said, given_of, build_given, put_given, last_given, restored}
use Rattle.testing_rules_facts.specs.steps.Shifts.{way_given, come_in, put_over}
use Rattle.testing_rules_facts.specs.Uploads.{message_order, first_stays, with_kept}
use Rattle.testing_rules_facts.proofs.Shifting.{first_shifts, over_shifts}
use Rattle.testing_rules_laws.specs.steps.Restored.{restored_all, no_facts}
use Rattle.testing_rules_laws.proofs.Naming.{same_nat, both_are, passed, found}

-- the new rows are the old ones and one more, but for some that are lost
record Gains (new old : List FactRow) (r : FactRow) : Type 0 where
  lost : List FactRow
  balance : (w : FactRow → ℕ) → sum_by w new + sum_by w lost ≡ sum_by w old + w r

unchanged : (rows : List FactRow) (r : FactRow) → Gains rows rows r
unchanged rows r = record { lost = r ∷ []; balance = λ w. omega (arith, sum_by-cons w r []) }

front : (new old post : List FactRow) (r : FactRow) → Gains new old r → Gains (new ++ post) (old ++ post) r
front new old post r g = record { lost = g.lost; balance = λ w. omega (arith, g.balance w, sum_by-append w new post, sum_by-append w old post) }

behind : (before new old : List FactRow) (r : FactRow) → Gains new old r → Gains (before ++ new) (before ++ old) r
behind before new old r g = record { lost = g.lost; balance = λ w. omega (arith, g.balance w, sum_by-append w before new, sum_by-append w before old) }

weighed : {A : Type 0} (row : A → FactRow) (w : FactRow → ℕ) (xs : List A) → sum_by w (map row xs) ≡ sum_by (λ x. w (row x)) xs
weighed row w [] = refl
weighed row w (x ∷ xs) = sum_by-cons w (row x) (map row xs) ∙ ap (λ n. w (row x) + n) (weighed row w xs) ∙ sym (sum_by-cons (λ y. w (row y)) x xs)

-- an element that is put by key comes, or leaves the list as long as it was
module _ {A K : Type 0} (row : A → FactRow) (key : A → K) (cmp : K → K → Ordering) where
  module _ (rank : A → A → Ordering) where
    either : (b : Bool) (x : A) → (cond b [] (x ∷ []) ≡ []) ⊎ (cond b [] (x ∷ []) ≡ x ∷ [])
    either true x = inl refl
    either false x = inr refl

    comes_at : (o : Ordering) (x y : A) (ys : List A) → cmp (key x) (key y) ≡ o → (come_in key cmp rank x ys ≡ []) ⊎ (come_in key cmp rank x ys ≡ x ∷ [])
        → (come_in key cmp rank x (y ∷ ys) ≡ []) ⊎ (come_in key cmp rank x (y ∷ ys) ≡ x ∷ [])
    comes_at Less x y ys e h = inr (rw (come_in, e) refl)
    comes_at Equal x y ys e h = rw (come_in, e) (either (is_lt (rank y x)) x)
    comes_at Greater x y ys e h = rw (come_in, e) h

    comes : (x : A) (xs : List A) → (come_in key cmp rank x xs ≡ []) ⊎ (come_in key cmp rank x xs ≡ x ∷ [])
    comes x [] = inr refl
    comes x (y ∷ ys) = comes_at _ x y ys refl (comes x ys)

    first_gains : (x : A) (xs : List A) → Gains (map row (put_first key cmp rank x xs)) (map row xs) (row x)
    first_gains x xs =
        let put = put_first key cmp rank x xs in
        let way = way_given key cmp rank x xs in
        elim (comes x xs) [
          | inl none ↦ record {
            lost = row x ∷ map row way;
            balance = λ w. omega (
              arith,
              first_shifts (λ y. w (row y)) key cmp rank x xs,
              ap (sum_by (λ y. w (row y))) none,
              weighed row w put,
              weighed row w way,
              weighed row w xs,
              sum_by-cons w (row x) (map row way),
            );
          }
          | inr own ↦ record {
            lost = map row way;
            balance = λ w. omega (
              arith,
              first_shifts (λ y. w (row y)) key cmp rank x xs,
              ap (sum_by (λ y. w (row y))) own,
              sum_by-cons (λ y. w (row y)) x [],
              weighed row w put,
              weighed row w way,
              weighed row w xs,
            );
          }
        ]

  over_gains : (x : A) (xs : List A) → Gains (map row (put_by key cmp x xs)) (map row xs) (row x)
  over_gains x xs = record {
    lost = map row (put_over key cmp x xs);
    balance = λ w. omega (
      arith,
      over_shifts (λ y. w (row y)) key cmp x xs,
      weighed row w (put_by key cmp x xs),
      weighed row w (put_over key cmp x xs),
      weighed row w xs,
    );
  }

-- where something is given it is put in
given_gains : {A : Type 0} (put : A → List A → List A) (row : A → FactRow) (r : FactRow) → ((y : A) (ys : List A) → Gains (map row (put y ys)) (map row ys) (row y))
    → (v : Option A) → ((y : A) → v ≡ Some y → row y ≡ r) → (ys : List A) → Gains (map row (put_given put v ys)) (map row ys) r
given_gains put row r gains None numbered ys = unchanged (map row ys) r
given_gains put row r gains (Some y) numbered ys = subst (Gains (map row (put y ys)) (map row ys)) (numbered y refl) (gains y ys)

last_one : (b : Bool) (d l : DelaysIn) → Gains (delays_row (cond b l d) ∷ []) (delays_row l ∷ []) (delays_row d)
last_one true d l = unchanged (delays_row l ∷ []) (delays_row d)
last_one false d l = record { lost = delays_row l ∷ []; balance = λ w. omega (arith, sum_by-cons w (delays_row d) [], sum_by-cons w (delays_row l) []) }

last_gains : (r : FactRow) (v last : Option DelaysIn) → ((d : DelaysIn) → v ≡ Some d → delays_row d ≡ r)
    → Gains (map delays_row (option_to_list (last_given v last))) (map delays_row (option_to_list last)) r
last_gains r None last numbered = unchanged (map delays_row (option_to_list last)) r
last_gains r (Some d) None numbered =
    subst (Gains (delays_row d ∷ []) []) (numbered d refl) (record { lost = []; balance = λ w. omega (arith, sum_by-cons w (delays_row d) []) })
last_gains r (Some d) (Some l) numbered = subst (Gains (delays_row (cond (is_lt (delays_order l d)) l d) ∷ []) (delays_row l ∷ [])) (numbered d refl) (last_one (is_lt (delays_order l d)) d l)

abbrev row_at : FactKind → ℕ → ℕ → ℕ → FactRow
row_at kind sender number place = record { kind = kind; sender = sender; number = number; place = place }

-- a fact that a row gives has this row
given_row : {B : Type 0} (says : CoveredItem → Option B) (sender number : B → ℕ) → ((n k : ℕ) (i : Item) (y : B) → says (said n k i) ≡ Some y → (sender y ≡ n) × (number y ≡ k))
    → (kind : FactKind) (n k p : ℕ) (i : Item) (y : B) → given_of kind says (row_at kind n k p, i) ≡ Some y → row_at kind (sender y) (number y) 0 ≡ row_at kind n k p
given_row says sender number numbered kind n k p i y e =
    let a = passed (is_kind kind kind && (p == 0)) (says (said n k i)) y e in
    let b = numbered n k i y a.1 in
    let at : p ≡ 0 = same_nat p 0 (both_are (is_kind kind kind) (p == 0) a.0).1 in
    rw (b.0, b.1, at) refl

build_row_is : (n k p : ℕ) (i : Item) (b : BuildIn) → find (λ y. y.place == p) (builds_of (said n k i)) ≡ Some b → build_row b ≡ row_at Build n k p
build_row_is n k p i b e =
    let is = found p (builds_of (said n k i)) b e in
    let numbered = builds_numbered n k i b is.0 in
    rw (numbered.0, numbered.1, is.1) refl

-- one row
step : (kind : FactKind) (n k p : ℕ) (i : Item) (f : FactLists) → Gains (rows_of (restored (row_at kind n k p, i) f)) (rows_of f) (row_at kind n k p)
step Source n k p i f =
    let r = row_at Source n k p in
    front _ _ _ r
    (given_gains with_upload source_row r (first_gains source_row (λ u. u.source) byte_cmp upload_order) (given_of Source upload_of (r, i))
    (given_row upload_of (λ u. u.sender) (λ u. u.number) (λ n k. upload_numbered n k) Source n k p i) f.sources)
step Upload n k p i f =
    let r = row_at Upload n k p in
    behind (map source_row f.sources) _ _ r (front _ _ _ r
    (given_gains with_kept upload_row r (first_gains upload_row (λ u. u) message_order first_stays) (given_of Upload upload_of (r, i))
    (given_row upload_of (λ u. u.sender) (λ u. u.number) (λ n k. upload_numbered n k) Upload n k p i) f.uploads))
step Build n k p i f =
    let r = row_at Build n k p in
    behind (map source_row f.sources) _ _ r (behind (map upload_row f.uploads) _ _ r (front _ _ _ r
    (given_gains with_build build_row r (first_gains build_row pair_of pair_order build_order) (build_given (r, i)) (build_row_is n k p i) f.rows)))
step Drop n k p i f =
    let r = row_at Drop n k p in
    behind (map source_row f.sources) _ _ r (behind (map upload_row f.uploads) _ _ r (behind (map build_row f.rows) _ _ r (front _ _ _ r
    (given_gains with_greatest drop_row r (first_gains drop_row drop_pair pair_order drop_order) (given_of Drop drop_of (r, i))
    (given_row drop_of (λ d. d.sender) (λ d. d.number) (λ n k. drop_numbered n k) Drop n k p i) f.drops))))
step Bug n k p i f =
    let r = row_at Bug n k p in
    behind (map source_row f.sources) _ _ r (behind (map upload_row f.uploads) _ _ r (behind (map build_row f.rows) _ _ r (behind (map drop_row f.drops) _ _ r (front _ _ _ r
    (given_gains with_bug bug_row r (first_gains bug_row (λ b. b.bug) nat_cmp bug_order) (given_of Bug bug_of (r, i))
    (given_row bug_of (λ b. b.sender) (λ b. b.number) (λ n k. bug_numbered n k) Bug n k p i) f.bugs)))))
step Hint n k p i f =
    let r = row_at Hint n k p in
    behind (map source_row f.sources) _ _ r (behind (map upload_row f.uploads) _ _ r (behind (map build_row f.rows) _ _ r (behind (map drop_row f.drops) _ _ r (behind (map bug_row f.bugs) _ _ r (front _ _ _ r
    (given_gains with_hint hint_row r (over_gains hint_row (λ h. h) hint_order) (given_of Hint hint_of (r, i))
    (given_row hint_of (λ h. h.sender) (λ h. h.number) (λ n k. hint_numbered n k) Hint n k p i) f.hints))))))
step Unhint n k p i f =
    let r = row_at Unhint n k p in
    behind (map source_row f.sources) _ _ r (behind (map upload_row f.uploads) _ _ r (behind (map build_row f.rows) _ _ r (behind (map drop_row f.drops) _ _ r (behind (map bug_row f.bugs) _ _ r (behind (map hint_row f.hints) _ _ r (front _ _ _ r
    (given_gains with_unhint unhint_row r (over_gains unhint_row (λ c. c) unhint_order) (given_of Unhint unhint_of (r, i))
    (given_row unhint_of (λ c. c.sender) (λ c. c.number) (λ n k. unhint_numbered n k) Unhint n k p i) f.unhints)))))))
step Delays n k p i f =
    let r = row_at Delays n k p in
    behind (map source_row f.sources) _ _ r (behind (map upload_row f.uploads) _ _ r (behind (map build_row f.rows) _ _ r (behind (map drop_row f.drops) _ _ r (behind (map bug_row f.bugs) _ _ r (behind (map hint_row f.hints) _ _ r (behind (map unhint_row f.unhints) _ _ r
    (last_gains r (given_of Delays delays_of (r, i)) f.delays (given_row delays_of (λ d. d.sender) (λ d. d.number) (λ n k. delays_numbered n k) Delays n k p i))))))))

-- all of them
record AllGains (xs : List Given) (f : FactLists) : Type 0 where
  lost : List FactRow
  balance : (w : FactRow → ℕ) → sum_by w (rows_of (restored_all xs f)) + sum_by w lost ≡ sum_by w (rows_of f) + sum_by w (map (λ x. x.0) xs)

all_gains : (xs : List Given) (f : FactLists) → AllGains xs f
all_gains [] f = record { lost = []; balance = λ w. refl }
all_gains (x ∷ xs) f =
    let one = step x.0.kind x.0.sender x.0.number x.0.place x.1 f in
    let rest = all_gains xs (restored x f) in
    record {
      lost = one.lost ++ rest.lost;
      balance = λ w. omega (arith, one.balance w, rest.balance w, sum_by-append w one.lost rest.lost, sum_by-cons w x.0 (map (λ y. y.0) xs));
    }

long : (rows : List FactRow) → sum_by (λ y. 1) rows ≡ length rows
long [] = refl
long (r ∷ rows) = omega (arith, sum_by-cons (λ y. 1) r rows, long rows)

none_weighs : (w : FactRow → ℕ) (rows : List FactRow) → length rows ≡ 0 → sum_by w rows ≡ 0
none_weighs w [] e = refl
none_weighs w (r ∷ rows) e = absurd (omega (arith, e))

pub all_came : (xs : List Given) → length (rows_of (restored_all xs no_facts)) ≡ length xs → (r : FactRow)
    → times r (rows_of (restored_all xs no_facts)) ≡ times r (map (λ x. x.0) xs)
all_came xs e r =
    let g = all_gains xs no_facts in
    let rows = rows_of (restored_all xs no_facts) in
    let none : length g.lost ≡ 0 = omega (arith, e, g.balance (λ y. 1), long rows, long g.lost, long (map (λ x. x.0) xs), length-map xs (λ (x : Given). x.0)) in
    omega (arith, g.balance (λ y. cond (is_row r y) 1 0), none_weighs (λ y. cond (is_row r y) 1 0) g.lost none)
