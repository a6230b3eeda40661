-- What a list in the strict order of its keys becomes with one more element, and without one.
use Rattle.std.specs.Prelude.{ℕ, zero, suc, ◌<◌, ◌≤◌, Bool, true, false, cond, ◌&&◌, List, [], ◌∷◌, length, get_or, set, map, filter, Result, Ok, Err, OnOk, is_err}
use Rattle.std.proofs.Common.{◌≡◌, refl, sym, ap, ◌∙◌, subst, arith, inl, inr}
use Rattle.std.specs.List.{AllByRecursion, insert, remove, list_all}
use Rattle.std.specs.List.Sorted.{IsStrictlySortedBy, IsPartitionPoint}
use Rattle.std.specs.Str.{bytes_eq}
use Rattle.std.specs.Cmp.{IsTotalOrder}
use Rattle.std.specs.declared.cmp.Ordering.{Ordering}
use Rattle.std.specs.declared.cmp.Ordering.TheVariants.{Less, Equal, Greater}
use Rattle.std.specs.Ordering.{is_lt, is_eq, ordering_reverse}
use Rattle.std.proofs.lemmas.Bool.{cases_lt, false≢true}
use Rattle.std.proofs.lemmas.Cmp.{tied_itself, nat_cmp_total}
use Rattle.std.proofs.lemmas.List.{set-get_or}
use Rattle.std.proofs.lemmas.Slice.Eq.{bytes_eq-Decides}
use Rattle.testing_rules_model.specs.declared.facts.BuildIn.{BuildIn}
use Rattle.testing_rules_model.specs.declared.facts.DropIn.{DropIn}
use Rattle.testing_rules_model.specs.declared.facts.BugIn.{BugIn}
use Rattle.testing_rules_model.specs.declared.facts.UploadIn.{UploadIn}
use Rattle.testing_rules_facts.specs.declared.taken.Slot.TheVariants.{Over, Before, Nowhere}
use Rattle.testing_rules_facts.specs.steps.Slots.{IsSlotFor}
use Rattle.testing_rules_items.specs.Words.{put_by}
use Rattle.testing_rules_model.specs.Unstable.{pair_order, pair_of, drop_pair, upload_order, build_order, drop_order, bug_order}
use Rattle.testing_rules_model.specs.WithMessage.{put_first, with_upload, with_build, with_builds, with_drop, with_greatest, with_bug, outlives}
use Rattle.testing_rules_model.specs.FactOrder.{AreBySource, AreByPair}
use Rattle.testing_rules_model.specs.steps.FactOrder.{AreDropsByPair, AreByNumber}
use Rattle.testing_rules_model.proofs.KeyOrder.{below_at, turned}
use Rattle.testing_rules_model.proofs.Picks.{rises-put}
use Rattle.testing_rules_model.proofs.Ordered.{sorted-kept}
use Rattle.testing_rules_model.proofs.Orders.{text_order}
use Rattle.testing_rules_model.proofs.MoreMail.{text_tied, nat_tied, pair_total, pair_tied, both_are}

module _ {A K : Type 0} (key : A → K) {cmp : K → K → Ordering} (o : IsTotalOrder cmp) (rank : A → A → Ordering) (x : A) where
  behind : (y : A) (ys : List A) → cmp (key x) (key y) ≡ Greater → put_first key cmp rank x (y ∷ ys) ≡ y ∷ put_first key cmp rank x ys
  behind y ys e = rw (put_first, e) refl

  ahead : (y : A) (ys : List A) → cmp (key x) (key y) ≡ Less → put_first key cmp rank x (y ∷ ys) ≡ x ∷ y ∷ ys
  ahead y ys e = rw (put_first, e) refl

  level : (y : A) (ys : List A) → cmp (key x) (key y) ≡ Equal → put_first key cmp rank x (y ∷ ys) ≡ cond (is_lt (rank y x)) y x ∷ ys
  level y ys e = rw (put_first, e) refl

  put_over : (xs : List A) (i : ℕ) (d : A) → IsStrictlySortedBy cmp (map key xs) → i < length xs → cmp (key (get_or xs i d)) (key x) ≡ Equal
      → put_first key cmp rank x xs ≡ set xs i (cond (is_lt (rank (get_or xs i d) x)) (get_or xs i d) x)
  unfolding IsStrictlySortedBy
  put_over [] i d s h e = absurd (omega (arith, h))
  put_over (y ∷ ys) zero d s h e = level y ys (turned key o (key y) (key x) Equal e)
  put_over (y ∷ ys) (suc i) d s h e =
      let low : i < length ys = omega (arith, h) in
      let z = get_or ys i d in
      let greater : cmp (key x) (key y) ≡ Greater = sym (o.congr (key z) (key x) (key y) e) ∙ turned key o (key y) (key z) Less (below_at key o (key y) ys i d s.0 low) in
      behind y ys greater ∙ ap (λ t. y ∷ t) (put_over ys i d s.1 low e)

  put_before : (xs : List A) (i : ℕ) → i ≤ length xs → ((j : ℕ) (d : A) → j < i → cmp (key (get_or xs j d)) (key x) ≡ Less)
      → ((j : ℕ) (d : A) → i ≤ j → j < length xs → cmp (key (get_or xs j d)) (key x) ≡ Greater) → put_first key cmp rank x xs ≡ insert xs i x
  put_before [] zero h below above = refl
  put_before [] (suc i) h below above = absurd (omega (arith, h))
  put_before (y ∷ ys) zero h below above = ahead y ys (turned key o (key y) (key x) Greater (above zero y (omega arith) (omega arith)))
  put_before (y ∷ ys) (suc i) h below above =
      behind y ys (turned key o (key y) (key x) Less (below zero y (omega arith)))
      ∙ ap (λ t. y ∷ t)
      (put_before ys i (omega (arith, h)) (λ j d l. below (suc j) d (omega (arith, l))) (λ j d l k. above (suc j) d (omega (arith, l)) (omega (arith, k))))

  -- it comes over one of its key that doesn't stand before it
  pub found-over : (xs : List A) (i : ℕ) (d : A) → IsStrictlySortedBy cmp (map key xs) → i < length xs → cmp (key (get_or xs i d)) (key x) ≡ Equal
      → is_lt (rank (get_or xs i d) x) ≡ false → IsSlotFor xs x (put_first key cmp rank x xs) (Over i)
  found-over xs i d s h e f = (h, put_over xs i d s h e ∙ ap (λ b. set xs i (cond b (get_or xs i d) x)) f)

  -- and gives way to one that does
  pub found-nowhere : (xs : List A) (i : ℕ) (d : A) → IsStrictlySortedBy cmp (map key xs) → i < length xs → cmp (key (get_or xs i d)) (key x) ≡ Equal
      → is_lt (rank (get_or xs i d) x) ≡ true → IsSlotFor xs x (put_first key cmp rank x xs) Nowhere
  found-nowhere xs i d s h e f = put_over xs i d s h e ∙ ap (λ b. set xs i (cond b (get_or xs i d) x)) f ∙ set-get_or xs i d

  -- where its key is missing it comes before the first above it
  pub found-before : (xs : List A) (i : ℕ) → i ≤ length xs → IsPartitionPoint (λ y. cmp (key y) (key x) ≡ Less) (λ y. cmp (key y) (key x) ≡ Greater) xs i
      → IsSlotFor xs x (put_first key cmp rank x xs) (Before i)
  found-before xs i h p = (h, put_before xs i h (λ j d l. p.0 j d (omega arith) l) p.1)

  -- and the list stays in order
  module _ (tied : (j k : K) → cmp j k ≡ Equal → j ≡ k) where
    either_key : (b : Bool) (y : A) → cmp (key x) (key y) ≡ Equal → key (cond b y x) ≡ key x
    either_key true y e = sym (tied (key x) (key y) e)
    either_key false y e = refl

    keys_at : (r : Ordering) (y : A) (ys : List A) → cmp (key x) (key y) ≡ r → map key (put_first key cmp rank x ys) ≡ put_by (λ k. k) cmp (key x) (map key ys)
        → map key (put_first key cmp rank x (y ∷ ys)) ≡ put_by (λ k. k) cmp (key x) (map key (y ∷ ys))
    keys_at Less y ys e h = rw (put_first, put_by, e) refl
    keys_at Equal y ys e h = rw (put_first, put_by, e) (ap (λ k. k ∷ map key ys) (either_key (is_lt (rank y x)) y e))
    keys_at Greater y ys e h = rw (put_first, put_by, e) (ap (λ ks. key y ∷ ks) h)

    keys-first : (ys : List A) → map key (put_first key cmp rank x ys) ≡ put_by (λ k. k) cmp (key x) (map key ys)
    keys-first [] = refl
    keys-first (y ∷ ys) = keys_at _ y ys refl (keys-first ys)

    pub sorted-first : (xs : List A) → IsStrictlySortedBy cmp (map key xs) → IsStrictlySortedBy cmp (map key (put_first key cmp rank x xs))
    unfolding IsStrictlySortedBy
    sorted-first xs h = subst (IsStrictlySortedBy cmp) (sym (keys-first xs)) (rises-put o (key x) (map key xs) h)

-- sources with one more upload, rows with the builds of a message, and without those that a drop takes
pub by_source-upload : (u : UploadIn) (us : List UploadIn) → AreBySource us → AreBySource (with_upload u us)
by_source-upload u = sorted-first (λ (v : UploadIn). v.source) text_order upload_order u text_tied

pub by_pair-build : (b : BuildIn) (rows : List BuildIn) → AreByPair rows → AreByPair (with_build b rows)
by_pair-build b = sorted-first pair_of pair_total build_order b pair_tied

by_pair-either : (c : Bool) (xs ys : List BuildIn) → AreByPair xs → AreByPair ys → AreByPair (cond c xs ys)
by_pair-either true xs ys h k = h
by_pair-either false xs ys h k = k

pub by_pair-builds : (p : BuildIn → Bool) (bs rows : List BuildIn) → AreByPair rows → AreByPair (with_builds p bs rows)
by_pair-builds p [] rows h = h
by_pair-builds p (b ∷ bs) rows h =
    let more = by_pair-builds p bs rows h in
    by_pair-either (p b) (with_build b (with_builds p bs rows)) (with_builds p bs rows) (by_pair-build b (with_builds p bs rows) more) more

pub by_pair-drop : (d : DropIn) (rows : List BuildIn) → AreByPair rows → AreByPair (with_drop d rows)
by_pair-drop d = sorted-kept pair_of pair_order (outlives d)

pub drops_by_pair-drop : (d : DropIn) (ds : List DropIn) → AreDropsByPair ds → AreDropsByPair (with_greatest d ds)
drops_by_pair-drop d = sorted-first drop_pair pair_total drop_order d pair_tied

pub by_number-bug : (b : BugIn) (bs : List BugIn) → AreByNumber bs → AreByNumber (with_bug b bs)
by_number-bug b = sorted-first (λ (c : BugIn). c.bug) nat_cmp_total bug_order b nat_tied

-- A test that all of other keys pass.

module _ {A K : Type 0} (key : A → K) {cmp : K → K → Ordering} (o : IsTotalOrder cmp) (keep : A → Bool) (k : K)
    (others : (y : A) → is_eq (cmp (key y) k) ≡ false → keep y ≡ true) where
  kept_front : (y : A) (ys zs : List A) → keep y ≡ true → filter keep ys ≡ zs → filter keep (y ∷ ys) ≡ y ∷ zs
  kept_front y ys zs e h = rw e (ap (λ t. y ∷ t) h)

  kept_above : (j : K) (ys : List A) → cmp j k ≡ Equal → AllByRecursion (λ l. cmp j l ≡ Less) (map key ys) → filter keep ys ≡ ys
  kept_above j [] e a = refl
  kept_above j (y ∷ ys) e a =
      let below : cmp k (key y) ≡ Less = sym (o.congr j k (key y) e) ∙ a.0 in
      kept_front y ys ys (others y (ap is_eq (turned key o k (key y) Less below))) (kept_above j ys e a.1)

  in_front : (b : Bool) (y : A) (ys zs : List A) → y ∷ cond b ys zs ≡ cond b (y ∷ ys) (y ∷ zs)
  in_front true y ys zs = refl
  in_front false y ys zs = refl

  -- of those in order only the one of the key can fail
  pub kept-found : (xs : List A) (i : ℕ) (d : A) → IsStrictlySortedBy cmp (map key xs) → i < length xs → cmp (key (get_or xs i d)) k ≡ Equal
      → filter keep xs ≡ cond (keep (get_or xs i d)) xs (remove xs i)
  unfolding IsStrictlySortedBy
  kept-found [] i d s h e = absurd (omega (arith, h))
  kept-found (y ∷ ys) zero d s h e = ap (λ zs. cond (keep y) (y ∷ zs) zs) (kept_above (key y) ys e s.0)
  kept-found (y ∷ ys) (suc i) d s h e =
      let low : i < length ys = omega (arith, h) in
      let z = get_or ys i d in
      let greater : cmp k (key y) ≡ Greater = sym (o.congr (key z) k (key y) e) ∙ turned key o (key y) (key z) Less (below_at key o (key y) ys i d s.0 low) in
      kept_front y ys (cond (keep z) ys (remove ys i)) (others y (ap is_eq (turned key o k (key y) Greater greater))) (kept-found ys i d s.1 low e)
      ∙ in_front (keep z) y ys (remove ys i)

  kept_all : (xs : List A) → ((i : ℕ) (d : A) → i < length xs → keep (get_or xs i d) ≡ true) → filter keep xs ≡ xs
  kept_all [] h = refl
  kept_all (x ∷ xs) h = kept_front x xs xs (h zero x (omega arith)) (kept_all xs (λ i d l. h (suc i) d (omega (arith, l))))

  all_front : (b : Bool) (y : A) (ys : List A) → keep y ≡ true → list_all keep ys ≡ b → list_all keep (y ∷ ys) ≡ b
  all_front b y ys e h = rw e h

  all_above : (j : K) (ys : List A) → cmp j k ≡ Equal → AllByRecursion (λ l. cmp j l ≡ Less) (map key ys) → list_all keep ys ≡ true
  all_above j [] e a = refl
  all_above j (y ∷ ys) e a =
      let below : cmp k (key y) ≡ Less = sym (o.congr j k (key y) e) ∙ a.0 in
      all_front true y ys (others y (ap is_eq (turned key o k (key y) Less below))) (all_above j ys e a.1)

  and_true : (b : Bool) → (b && true) ≡ b
  and_true true = refl
  and_true false = refl

  -- all pass where it does
  pub all-found : (xs : List A) (i : ℕ) (d : A) → IsStrictlySortedBy cmp (map key xs) → i < length xs → cmp (key (get_or xs i d)) k ≡ Equal
      → list_all keep xs ≡ keep (get_or xs i d)
  unfolding IsStrictlySortedBy
  all-found [] i d s h e = absurd (omega (arith, h))
  all-found (y ∷ ys) zero d s h e = ap (λ b. keep y && b) (all_above (key y) ys e s.0) ∙ and_true (keep y)
  all-found (y ∷ ys) (suc i) d s h e =
      let low : i < length ys = omega (arith, h) in
      let z = get_or ys i d in
      let greater : cmp k (key y) ≡ Greater = sym (o.congr (key z) k (key y) e) ∙ turned key o (key y) (key z) Less (below_at key o (key y) ys i d s.0 low) in
      all_front (keep z) y ys (others y (ap is_eq (turned key o k (key y) Greater greater))) (all-found ys i d s.1 low e)

  all_pass : (xs : List A) → ((i : ℕ) (d : A) → i < length xs → keep (get_or xs i d) ≡ true) → list_all keep xs ≡ true
  all_pass [] h = refl
  all_pass (x ∷ xs) h = all_front true x xs (h zero x (omega arith)) (all_pass xs (λ i d l. h (suc i) d (omega (arith, l))))

  -- and where no one is of the key
  pub all-missing : (xs : List A) (i : ℕ) → IsPartitionPoint (λ y. cmp (key y) k ≡ Less) (λ y. cmp (key y) k ≡ Greater) xs i → list_all keep xs ≡ true
  all-missing xs i p = all_pass xs (λ j d l. elim (cases_lt j i) [
    | inl low ↦ others (get_or xs j d) (ap is_eq (p.0 j d (omega arith) low))
    | inr high ↦ others (get_or xs j d) (ap is_eq (p.1 j d high l))
  ])

  -- none fails where no one is of the key
  pub kept-missing : (xs : List A) (i : ℕ) → IsPartitionPoint (λ y. cmp (key y) k ≡ Less) (λ y. cmp (key y) k ≡ Greater) xs i → filter keep xs ≡ xs
  kept-missing xs i p = kept_all xs (λ j d l. elim (cases_lt j i) [
    | inl low ↦ others (get_or xs j d) (ap is_eq (p.0 j d (omega arith) low))
    | inr high ↦ others (get_or xs j d) (ap is_eq (p.1 j d high l))
  ])

-- a build of another architecture or name outlives the drop
outlives_at : (r : Bool) (d : DropIn) (b : BuildIn) → (bytes_eq d.arch b.binary.architecture && bytes_eq d.name b.binary.name) ≡ r
    → is_eq (pair_order (pair_of b) (drop_pair d)) ≡ false → outlives d b ≡ true
outlives_at true d b e h =
    let parts = both_are (bytes_eq d.arch b.binary.architecture) (bytes_eq d.name b.binary.name) e in
    let arch = (bytes_eq-Decides d.arch b.binary.architecture).0 parts.0 in
    let name = (bytes_eq-Decides d.name b.binary.name).0 parts.1 in
    let same : drop_pair d ≡ pair_of b = rw (arch, name) refl in
    absurd (false≢true (sym h ∙ ap (λ p. is_eq (pair_order (pair_of b) p)) same ∙ ap is_eq (tied_itself pair_total (pair_of b))))
outlives_at false d b e h = rw e refl

pub outlives-other : (d : DropIn) (b : BuildIn) → is_eq (pair_order (pair_of b) (drop_pair d)) ≡ false → outlives d b ≡ true
outlives-other d b = outlives_at _ d b refl

is_eq-reverse : (r : Ordering) → is_eq (ordering_reverse r) ≡ is_eq r
is_eq-reverse Less = refl
is_eq-reverse Equal = refl
is_eq-reverse Greater = refl

pub outlives-apart : (d : DropIn) (b : BuildIn) → is_eq (pair_order (drop_pair d) (pair_of b)) ≡ false → outlives d b ≡ true
outlives-apart d b h = outlives-other d b (ap is_eq (pair_total.antisymm (pair_of b) (drop_pair d)) ∙ is_eq-reverse (pair_order (drop_pair d) (pair_of b)) ∙ h)

-- what holds on success, where there is no failure
pub on_success : {V E P : Type 0} (r : Result V E) → OnOk r P → is_err r ≡ false → P
on_success (Ok v) h e = h
on_success (Err f) h e = absurd (false≢true (sym e))
