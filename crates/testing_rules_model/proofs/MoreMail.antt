-- One more message of each kind, over the definitions.
use Rattle.std.specs.Prelude.{ℕ, Bool, true, false, ◌||◌, ◌&&◌, List, [], ◌∷◌, ◌++◌, filter, map, ◌==◌, not, cond}
use Rattle.std.proofs.Common.{◌≡◌, refl, sym, ap, ◌∙◌}
use Rattle.std.specs.List.{filter_map}
use Rattle.std.specs.Str.{bytes_eq}
use Rattle.std.specs.declared.cmp.Ordering.{Ordering}
use Rattle.std.specs.declared.cmp.Ordering.TheVariants.{Less, Equal, Greater}
use Rattle.std.specs.Ordering.{nat_cmp, is_eq, is_lt, ordering_reverse}
use Rattle.std.proofs.lemmas.Map.Text.{is_eq-slice_cmp}
use Rattle.std.proofs.lemmas.Slice.Eq.{bytes_eq-Decides}
use Rattle.std.proofs.lemmas.Cmp.{nat_cmp_total}
use Rattle.deb_version.specs.Order.{version_cmp}
use Rattle.testing_rules_items.specs.Words.{Text, byte_cmp, is_above, least, sorted_by}
use Rattle.testing_rules_model.specs.declared.facts.UploadIn.{UploadIn}
use Rattle.testing_rules_model.specs.declared.facts.BuildIn.{BuildIn}
use Rattle.testing_rules_model.specs.declared.facts.DropIn.{DropIn}
use Rattle.testing_rules_model.specs.declared.facts.BugIn.{BugIn}
use Rattle.testing_rules_model.specs.Unstable.{upload_order, build_order, is_build_of, pair_order, pair_of, drop_order, drop_pair, is_drop_of, bug_order}
use Rattle.testing_rules_model.specs.WithMessage.{with_upload, with_build, with_builds, with_bug, with_drop, with_greatest, outlives}
use Rattle.std.specs.Cmp.{IsTotalOrder}
use Rattle.std.specs.Ordering.{ordering_then}
use Rattle.std.proofs.lemmas.Cmp.{on_total, then_total}
use Rattle.std.proofs.lemmas.Bool.{false≢true}
use Rattle.std.proofs.Common.{arith}
use Rattle.std.proofs.lemmas.Bool.Decides.{nat_tests}
use Rattle.testing_rules_model.proofs.Orders.{text_order, build_total, above_is, not_below_trans}
use Rattle.deb_version.specs.steps.Laws.{version_order}
use Rattle.testing_rules_model.proofs.Chosen.{chosen-put, chosen-skip}
use Rattle.testing_rules_model.proofs.Falls.{least-keep, filter_map-keep}

-- texts that tie are equal
pub text_tied : (a b : Text) → byte_cmp a b ≡ Equal → a ≡ b
text_tied a b e = (bytes_eq-Decides a b).0 (sym (is_eq-slice_cmp a b) ∙ ap is_eq e)

pub text_same : (a : Text) → bytes_eq a a ≡ true
text_same a = (bytes_eq-Decides a a).1 refl

-- one more upload
abbrev pub chosen_sources : List UploadIn → List UploadIn
chosen_sources us = filter_map (λ name. least upload_order (filter (λ u. bytes_eq u.source name) us)) (sorted_by (λ name. name) byte_cmp (map (λ u. u.source) us))

pub sources-more : (u : UploadIn) (us : List UploadIn) → chosen_sources (u ∷ us) ≡ with_upload u (chosen_sources us)
sources-more u us = chosen-put text_order text_tied (λ (v : UploadIn). v.source) upload_order (λ name v. bytes_eq v.source name) (λ name v h. (bytes_eq-Decides v.source name).0 h) u us (text_same u.source)

-- numbers that tie are equal
pub nat_tied : (a b : ℕ) → nat_cmp a b ≡ Equal → a ≡ b
nat_tied a b e = grind (arith, nat_tests)

nat_same : (a b : ℕ) → (a == b) ≡ true → a ≡ b
nat_same a b e = grind (arith, nat_tests)

nat_itself : (a : ℕ) → (a == a) ≡ true
nat_itself a = grind (arith, nat_tests)

-- one more message on a bug
abbrev pub chosen_bugs : List BugIn → List BugIn
chosen_bugs bs = filter_map (λ n. least bug_order (filter (λ b. b.bug == n) bs)) (sorted_by (λ n. n) nat_cmp (map (λ b. b.bug) bs))

pub bugs-more : (b : BugIn) (bs : List BugIn) → chosen_bugs (b ∷ bs) ≡ with_bug b (chosen_bugs bs)
bugs-more b bs = chosen-put nat_cmp_total nat_tied (λ (c : BugIn). c.bug) bug_order (λ n c. c.bug == n) (λ n c h. nat_same c.bug n h) b bs (nat_itself b.bug)

-- one more build
pub then_equal : (a b : Ordering) → ordering_then a b ≡ Equal → (a ≡ Equal) × (b ≡ Equal)
then_equal Less b e = let no : Less ≡ Equal = e in cc
then_equal Equal b e = (refl, e)
then_equal Greater b e = let no : Greater ≡ Equal = e in cc

pub pair_total : IsTotalOrder pair_order
pair_total = then_total (on_total (λ (p : Text × Text). p.0) text_order) (on_total (λ (p : Text × Text). p.1) text_order)

pub pair_tied : (p q : Text × Text) → pair_order p q ≡ Equal → p ≡ q
pair_tied (a, b) (c, d) e =
    let h = then_equal (byte_cmp a c) (byte_cmp b d) e in
    rw (text_tied a c h.0, text_tied b d h.1) refl

pub both_are : (a b : Bool) → (a && b) ≡ true → (a ≡ true) × (b ≡ true)
both_are true b h = (refl, h)
both_are false b h = absurd (false≢true h)

is_build_pair : (p : Text × Text) (b : BuildIn) → is_build_of p.0 p.1 b ≡ true → pair_of b ≡ p
is_build_pair (a, n) b h =
    let e = both_are (bytes_eq b.binary.architecture a) (bytes_eq b.binary.name n) h in
    rw ((bytes_eq-Decides b.binary.architecture a).0 e.0, (bytes_eq-Decides b.binary.name n).0 e.1) refl

is_own_pair : (b : BuildIn) → is_build_of b.binary.architecture b.binary.name b ≡ true
is_own_pair b = rw (text_same b.binary.architecture, text_same b.binary.name) refl

-- one more drop among the greatest
is_drop_pair : (p : Text × Text) (d : DropIn) → is_drop_of p.0 p.1 d ≡ true → drop_pair d ≡ p
is_drop_pair (a, n) d h =
    let e = both_are (bytes_eq d.arch a) (bytes_eq d.name n) h in
    rw ((bytes_eq-Decides d.arch a).0 e.0, (bytes_eq-Decides d.name n).0 e.1) refl

is_own_drop : (d : DropIn) → is_drop_of d.arch d.name d ≡ true
is_own_drop d = rw (text_same d.arch, text_same d.name) refl

abbrev pub chosen_drops : List DropIn → List DropIn
chosen_drops ds = filter_map (λ p. least drop_order (filter (is_drop_of p.0 p.1) ds)) (sorted_by (λ p. p) pair_order (map drop_pair ds))

pub drops-more : (d : DropIn) (ds : List DropIn) → chosen_drops (d ∷ ds) ≡ with_greatest d (chosen_drops ds)
drops-more d ds = chosen-put pair_total pair_tied drop_pair drop_order (λ p. is_drop_of p.0 p.1) is_drop_pair d ds (is_own_drop d)

module _ (stands : BuildIn → Bool) where
  abbrev pub counts_for : Text × Text → BuildIn → Bool
  counts_for p b = is_build_of p.0 p.1 b && stands b

  abbrev pub chosen_rows : List BuildIn → List BuildIn
  chosen_rows bs = filter_map (λ p. least build_order (filter (counts_for p) bs)) (sorted_by (λ p. p) pair_order (map pair_of bs))

  pub rows-more : (b : BuildIn) (bs : List BuildIn) → stands b ≡ true → chosen_rows (b ∷ bs) ≡ with_build b (chosen_rows bs)
  rows-more b bs h =
      chosen-put pair_total pair_tied pair_of build_order counts_for (λ p c e. is_build_pair p c (both_are _ _ e).0) b bs (rw (is_own_pair b, h) refl)

  never : (a : Bool) → (a && false) ≡ false
  never true = refl
  never false = refl

  pub rows-skip : (b : BuildIn) (bs : List BuildIn) → stands b ≡ false → chosen_rows (b ∷ bs) ≡ chosen_rows bs
  rows-skip b bs h =
      chosen-skip pair_total pair_tied pair_of build_order counts_for (λ p c e. is_build_pair p c (both_are _ _ e).0) b bs (λ p. rw h (never (is_build_of p.0 p.1 b)))

-- one more drop
pub reversed : (r : Ordering) → is_lt r ≡ true → is_lt (ordering_reverse r) ≡ false
reversed Less h = refl
reversed Equal h = refl
reversed Greater h = absurd (false≢true h)

one_way : (x y : BuildIn) → is_lt (build_order x y) ≡ true → is_lt (build_order y x) ≡ false
one_way x y h = ap is_lt (build_total.antisymm y x) ∙ reversed (build_order x y) h

pub then_not_lt : (a b : Ordering) → is_lt (ordering_then a b) ≡ false → is_lt a ≡ false
then_not_lt Less b h = h
then_not_lt Equal b h = refl
then_not_lt Greater b h = refl

either_false : (a b : Bool) → (a || b) ≡ false → (a ≡ false) × (b ≡ false)
either_false true b h = absurd (false≢true (sym h))
either_false false b h = (refl, h)

below_too : (x u d : Text) → is_lt (version_cmp u x) ≡ false → is_above u d ≡ false → is_above x d ≡ false
below_too x u d h k = above_is version_order x d ∙ not_below_trans version_order x u d h (sym (above_is version_order u d) ∙ k)

pub filter-same : {A : Type 0} (p q : A → Bool) → ((x : A) → p x ≡ q x) → (xs : List A) → filter p xs ≡ filter q xs
filter-same p q h [] = refl
filter-same p q h (x ∷ xs) = rw (h x, filter-same p q h xs) refl

ands : (a b c : Bool) → (a && (b && c)) ≡ ((a && c) && b)
ands true true true = refl
ands true true false = refl
ands true false true = refl
ands true false false = refl
ands false b c = refl

module _ (stands : BuildIn → Bool) (d : DropIn) where
  falls : (p : Text × Text) (x u : BuildIn) → counts_for stands p x ≡ true → counts_for stands p u ≡ true
      → is_lt (build_order x u) ≡ false → outlives d u ≡ false → outlives d x ≡ false
  falls p x u cx cu h hu =
      let same : pair_of x ≡ pair_of u = is_build_pair p x (both_are _ _ cx).0 ∙ sym (is_build_pair p u (both_are _ _ cu).0) in
      let arch : x.binary.architecture ≡ u.binary.architecture = ap (λ q. q.0) same in
      let name : x.binary.name ≡ u.binary.name = ap (λ q. q.1) same in
      let parts = either_false (not (bytes_eq d.arch u.binary.architecture && bytes_eq d.name u.binary.name)) (is_above u.binary.version d.version) hu in
      rw (arch, name, parts.0) (below_too x.binary.version u.binary.version d.version (then_not_lt _ _ h) parts.1)

  pub rows-drop : (bs : List BuildIn) → chosen_rows (λ b. outlives d b && stands b) bs ≡ with_drop d (chosen_rows stands bs)
  rows-drop bs =
      filter_map-keep (outlives d) (λ p. least build_order (filter (counts_for stands p) bs)) (λ p. least build_order (filter (counts_for (λ b. outlives d b && stands b) p) bs))
      (λ p. ap (least build_order) (filter-same _ _ (λ b. ands (is_build_of p.0 p.1 b) (outlives d b) (stands b)) bs) ∙ least-keep build_order one_way (counts_for stands p) (outlives d) (falls p) bs)
      (sorted_by (λ p. p) pair_order (map pair_of bs))

module _ (stands : BuildIn → Bool) where
  rows-one : (r : Bool) (b : BuildIn) (bs : List BuildIn) → stands b ≡ r → chosen_rows stands (b ∷ bs) ≡ cond r (with_build b (chosen_rows stands bs)) (chosen_rows stands bs)
  rows-one true b bs e = rows-more stands b bs e
  rows-one false b bs e = rows-skip stands b bs e

  -- the builds of one message
  pub rows-build : (more bs : List BuildIn) → chosen_rows stands (more ++ bs) ≡ with_builds stands more (chosen_rows stands bs)
  rows-build [] bs = refl
  rows-build (b ∷ more) bs = rows-one _ b (more ++ bs) refl ∙ ap (λ rows. cond (stands b) (with_build b rows) rows) (rows-build more bs)
