-- Facts of a set of messages, whatever the order and the repeats of its list.
use Rattle.std.specs.Prelude.{ℕ, ◌+◌, ◌≤◌, ◌==◌, ◌&&◌, List, [], ◌∷◌, Contains, Option, Some, None, map}
use Rattle.std.proofs.Common.{◌≡◌, sym, ap, ◌∙◌, subst, inl, inr, arith}
use Rattle.std.specs.List.{filter_map, list_all}
use Rattle.std.specs.Str.{bytes_eq}
use Rattle.std.specs.declared.cmp.Ordering.TheVariants.{Equal}
use Rattle.std.specs.Ordering.{nat_cmp, ordering_then}
use Rattle.std.proofs.lemmas.Cmp.{nat_cmp_total}
use Rattle.deb_version.specs.Order.{version_cmp}
use Rattle.deb_control.specs.declared.binary.Binary.{Binary}
use Rattle.testing_rules_items.specs.Words.{least, sorted_by}
use Rattle.testing_rules_model.specs.Suite.{Suite}
use Rattle.testing_rules_model.specs.FactLists.{FactLists}
use Rattle.testing_rules_model.specs.Covered.{Covered, CoveredItem, upload_of, drop_of, bug_of, hint_of, unhint_of, delays_of, builds_of, placed_from, uploads_in, builds_in, drops_in, bugs_in, hints_in, unhints_in, delays_in}
use Rattle.testing_rules_model.specs.Unstable.{upload_order, build_order, drop_order, bug_order, hint_order, unhint_order, delays_order, pair_order, pair_of, drop_pair, is_drop_of, is_build_of, is_above_drops, unstable_sources, unstable_builds, greatest_drops, bug_states}
use Rattle.testing_rules_model.specs.StandsFor.{StandsFor}
use Rattle.testing_rules_model.specs.SameMessages.{SameElements, HasOneOfEach}
use Rattle.testing_rules_model.specs.WithMessage.{outlives}
use Rattle.testing_rules_items.specs.declared.item.Item.{Item}
use Rattle.testing_rules_items.specs.declared.item.Item.TheVariants as item
use Rattle.testing_rules_model.specs.declared.facts.UploadIn.{UploadIn}
use Rattle.testing_rules_model.specs.declared.facts.BuildIn.{BuildIn}
use Rattle.testing_rules_model.specs.declared.facts.DropIn.{DropIn}
use Rattle.testing_rules_model.specs.declared.facts.BugIn.{BugIn}
use Rattle.testing_rules_model.specs.declared.facts.HintIn.{HintIn}
use Rattle.testing_rules_model.specs.declared.facts.UnhintIn.{UnhintIn}
use Rattle.testing_rules_model.specs.declared.facts.DelaysIn.{DelaysIn}
use Rattle.testing_rules_items.proofs.Members.{none_among}
use Rattle.testing_rules_model.proofs.Orders.{text_order, upload_total, build_total, drop_total, bug_total, hint_total, unhint_total, delays_total}
use Rattle.testing_rules_model.proofs.MoreMail.{text_tied, nat_tied, pair_total, pair_tied, then_equal, counts_for, filter-same}
use Rattle.testing_rules_model.proofs.GreatestDrops.{greatest-decide}
use Rattle.testing_rules_model.proofs.Sets.{first_or_rest, TiedAmong, given_by, same-given, spread_from, same-spread, same-sorted}
use Rattle.testing_rules_model.proofs.Least.{filter_map-same, same-least, same-chosen}

-- what a message gives has its sender and number
abbrev IsNumberedBy : {B : Type 0} → (CoveredItem → Option B) → (B → ℕ) → (B → ℕ) → Type 0
IsNumberedBy {B} f sender number = (m : CoveredItem) (y : B) → f m ≡ Some y → (sender y ≡ m.sender) × (number y ≡ m.number)

module _ (n k : ℕ) where
  abbrev said : Item → CoveredItem
  said i = record { sender = n; number = k; item = i }

  pub upload_numbered : (i : Item) (y : UploadIn) → upload_of (said i) ≡ Some y → (y.sender ≡ n) × (y.number ≡ k)
  upload_numbered (item.Upload a b c d) y e = let s : y.sender ≡ n = cc in let t : y.number ≡ k = cc in (s, t)
  upload_numbered i y e = let no : None ≡ Some y = e in absurd (let never : ⊥ = cc in never)

  pub drop_numbered : (i : Item) (y : DropIn) → drop_of (said i) ≡ Some y → (y.sender ≡ n) × (y.number ≡ k)
  drop_numbered (item.Dropped a b c) y e = let s : y.sender ≡ n = cc in let t : y.number ≡ k = cc in (s, t)
  drop_numbered i y e = let no : None ≡ Some y = e in absurd (let never : ⊥ = cc in never)

  pub bug_numbered : (i : Item) (y : BugIn) → bug_of (said i) ≡ Some y → (y.sender ≡ n) × (y.number ≡ k)
  bug_numbered (item.Bug a b c d f) y e = let s : y.sender ≡ n = cc in let t : y.number ≡ k = cc in (s, t)
  bug_numbered i y e = let no : None ≡ Some y = e in absurd (let never : ⊥ = cc in never)

  pub hint_numbered : (i : Item) (y : HintIn) → hint_of (said i) ≡ Some y → (y.sender ≡ n) × (y.number ≡ k)
  hint_numbered (item.Hint a) y e = let s : y.sender ≡ n = cc in let t : y.number ≡ k = cc in (s, t)
  hint_numbered i y e = let no : None ≡ Some y = e in absurd (let never : ⊥ = cc in never)

  pub unhint_numbered : (i : Item) (y : UnhintIn) → unhint_of (said i) ≡ Some y → (y.sender ≡ n) × (y.number ≡ k)
  unhint_numbered (item.Unhint a) y e = let s : y.sender ≡ n = cc in let t : y.number ≡ k = cc in (s, t)
  unhint_numbered i y e = let no : None ≡ Some y = e in absurd (let never : ⊥ = cc in never)

  pub delays_numbered : (i : Item) (y : DelaysIn) → delays_of (said i) ≡ Some y → (y.sender ≡ n) × (y.number ≡ k)
  delays_numbered (item.Delays a b c d) y e = let s : y.sender ≡ n = cc in let t : y.number ≡ k = cc in (s, t)
  delays_numbered i y e = let no : None ≡ Some y = e in absurd (let never : ⊥ = cc in never)

-- of what a set gives, two of one sender and number are one
module _ {B : Type 0} (f : CoveredItem → Option B) (sender number : B → ℕ) (numbered : IsNumberedBy f sender number) (s : Covered) (one : HasOneOfEach s) where
  pub one_given : (x y : B) → Contains (filter_map f s) x → Contains (filter_map f s) y → sender x ≡ sender y → number x ≡ number y → x ≡ y
  one_given x y c d es en =
      let m = given_by f s x c in
      let o = given_by f s y d in
      let bm = numbered m.0 x m.2 in
      let bo = numbered o.0 y o.2 in
      let same = one m.0 o.0 m.1 o.1 (sym bm.0 ∙ es ∙ bo.0) (sym bm.1 ∙ en ∙ bo.1) in
      let both : Some x ≡ Some y = sym m.2 ∙ ap f same ∙ o.2 in
      cc

-- orders that tie by number and sender alone
by_two : (a b : ℕ) (c d : ℕ) → ordering_then (nat_cmp a b) (nat_cmp c d) ≡ Equal → (a ≡ b) × (c ≡ d)
by_two a b c d e = let h = then_equal (nat_cmp a b) (nat_cmp c d) e in (nat_tied a b h.0, nat_tied c d h.1)

module _ (s : Covered) (one : HasOneOfEach s) where
  tied_uploads : TiedAmong upload_order (uploads_in s)
  tied_uploads x y c d e =
      let h = then_equal (version_cmp y.version x.version) (ordering_then (nat_cmp x.sender y.sender) (nat_cmp x.number y.number)) e in
      let k = by_two x.sender y.sender x.number y.number h.1 in
      one_given upload_of (λ u. u.sender) (λ u. u.number) (λ m. upload_numbered m.sender m.number m.item) s one x y c d k.0 k.1

  tied_drops : TiedAmong drop_order (drops_in s)
  tied_drops x y c d e =
      let h = then_equal (version_cmp y.version x.version) (ordering_then (nat_cmp x.sender y.sender) (nat_cmp x.number y.number)) e in
      let k = by_two x.sender y.sender x.number y.number h.1 in
      one_given drop_of (λ u. u.sender) (λ u. u.number) (λ m. drop_numbered m.sender m.number m.item) s one x y c d k.0 k.1

  tied_bugs : TiedAmong bug_order (bugs_in s)
  tied_bugs x y c d e =
      let k = by_two y.number x.number x.sender y.sender e in
      one_given bug_of (λ u. u.sender) (λ u. u.number) (λ m. bug_numbered m.sender m.number m.item) s one x y c d k.1 (sym k.0)

  tied_hints : TiedAmong hint_order (hints_in s)
  tied_hints x y c d e =
      let k = by_two x.number y.number x.sender y.sender e in
      one_given hint_of (λ u. u.sender) (λ u. u.number) (λ m. hint_numbered m.sender m.number m.item) s one x y c d k.1 k.0

  tied_unhints : TiedAmong unhint_order (unhints_in s)
  tied_unhints x y c d e =
      let k = by_two x.number y.number x.sender y.sender e in
      one_given unhint_of (λ u. u.sender) (λ u. u.number) (λ m. unhint_numbered m.sender m.number m.item) s one x y c d k.1 k.0

  tied_delays : TiedAmong delays_order (delays_in s)
  tied_delays x y c d e =
      let k = by_two y.number x.number x.sender y.sender e in
      one_given delays_of (λ u. u.sender) (λ u. u.number) (λ m. delays_numbered m.sender m.number m.item) s one x y c d k.1 (sym k.0)

-- builds of one message
module _ (n k : ℕ) where
  placed_numbered : (p : ℕ) (bs : List Binary) (b : BuildIn) → Contains (placed_from p n k bs) b → (b.sender ≡ n) × (b.number ≡ k) × (p ≤ b.place)
  placed_numbered p [] b c = none_among b c
  placed_numbered p (x ∷ bs) b c = elim (first_or_rest _ (placed_from (p + 1) n k bs) b c) [
    | inl e ↦ let low : p ≡ b.place = ap (λ (z : BuildIn). z.place) e in (sym (ap (λ (z : BuildIn). z.sender) e), sym (ap (λ (z : BuildIn). z.number) e), omega arith)
    | inr among ↦ let h = placed_numbered (p + 1) bs b among in (h.0, h.1, let low : p + 1 ≤ b.place = h.2 in omega arith)
  ]

  one_place : (p : ℕ) (bs : List Binary) (a b : BuildIn) → Contains (placed_from p n k bs) a → Contains (placed_from p n k bs) b → a.place ≡ b.place → a ≡ b
  one_place p [] a b c d e = none_among a c
  one_place p (x ∷ bs) a b c d e = elim (first_or_rest _ (placed_from (p + 1) n k bs) a c) [
    | inl ea ↦ elim (first_or_rest _ (placed_from (p + 1) n k bs) b d) [
      | inl eb ↦ sym ea ∙ eb
      | inr lb ↦ let at : p ≡ a.place = ap (λ (z : BuildIn). z.place) ea in let low : p + 1 ≤ b.place = (placed_numbered (p + 1) bs b lb).2 in absurd (omega arith)
    ]
    | inr la ↦ elim (first_or_rest _ (placed_from (p + 1) n k bs) b d) [
      | inl eb ↦ let at : p ≡ b.place = ap (λ (z : BuildIn). z.place) eb in let low : p + 1 ≤ a.place = (placed_numbered (p + 1) bs a la).2 in absurd (omega arith)
      | inr lb ↦ one_place (p + 1) bs a b la lb e
    ]
  ]

  pub builds_numbered : (i : Item) (b : BuildIn) → Contains (builds_of (said n k i)) b → (b.sender ≡ n) × (b.number ≡ k)
  builds_numbered (item.Build bs) b c = let h = placed_numbered 1 bs b c in (h.0, h.1)
  builds_numbered i b c = none_among b c

  pub one_build : (i : Item) (a b : BuildIn) → Contains (builds_of (said n k i)) a → Contains (builds_of (said n k i)) b → a.place ≡ b.place → a ≡ b
  one_build (item.Build bs) a b c d e = one_place 1 bs a b c d e
  one_build i a b c d e = none_among a c

module _ (s : Covered) (one : HasOneOfEach s) where
  tied_builds : TiedAmong build_order (builds_in s)
  tied_builds x y c d e =
      let h = then_equal (version_cmp y.binary.version x.binary.version) (ordering_then (nat_cmp x.sender y.sender) (ordering_then (nat_cmp x.number y.number) (nat_cmp x.place y.place))) e in
      let j = then_equal (nat_cmp x.sender y.sender) (ordering_then (nat_cmp x.number y.number) (nat_cmp x.place y.place)) h.1 in
      let k = by_two x.number y.number x.place y.place j.1 in
      let m = spread_from builds_of s x c in
      let o = spread_from builds_of s y d in
      let bm = builds_numbered m.0.sender m.0.number m.0.item x m.2 in
      let bo = builds_numbered o.0.sender o.0.number o.0.item y o.2 in
      let same = one m.0 o.0 m.1 o.1 (sym bm.0 ∙ nat_tied x.sender y.sender j.0 ∙ bo.0) (sym bm.1 ∙ k.0 ∙ bo.1) in
      one_build m.0.sender m.0.number m.0.item x y m.2 (subst (λ w. Contains (builds_of w) y) (sym same) o.2) k.1

module _ (s o : Covered) (same : SameElements s o) (one : HasOneOfEach s) where
  same_uploads : SameElements (uploads_in s) (uploads_in o)
  same_uploads = same-given upload_of s o same

  one_back : HasOneOfEach o
  one_back m n c d = one m n (same.1 m c) (same.1 n d)

  same_sources : unstable_sources s ≡ unstable_sources o
  same_sources = same-chosen upload_total text_order text_tied (λ u. u.source) (λ name u. bytes_eq u.source name) (uploads_in s) (uploads_in o) (tied_uploads s one) same_uploads

  same_drops : greatest_drops s ≡ greatest_drops o
  same_drops = same-chosen drop_total pair_total pair_tied drop_pair (λ p. is_drop_of p.0 p.1) (drops_in s) (drops_in o) (tied_drops s one) (same-given drop_of s o same)

  same_bugs : bug_states s ≡ bug_states o
  same_bugs = same-chosen bug_total nat_cmp_total nat_tied (λ b. b.bug) (λ n b. b.bug == n) (bugs_in s) (bugs_in o) (tied_bugs s one) (same-given bug_of s o same)

  same_stand : (b : BuildIn) → is_above_drops s b ≡ is_above_drops o b
  same_stand b = sym (greatest-decide b (drops_in s)) ∙ ap (list_all (λ d. outlives d b)) same_drops ∙ greatest-decide b (drops_in o)

  same_rows : unstable_builds s ≡ unstable_builds o
  same_rows =
      same-chosen build_total pair_total pair_tied pair_of (counts_for (is_above_drops s)) (builds_in s) (builds_in o) (tied_builds s one) (same-spread builds_of s o same)
      ∙ filter_map-same _ _ (λ p. ap (least build_order) (filter-same (counts_for (is_above_drops s) p) (counts_for (is_above_drops o) p) (λ b. ap (λ c. is_build_of p.0 p.1 b && c) (same_stand b)) (builds_in o)))
      (sorted_by (λ p. p) pair_order (map pair_of (builds_in o)))

  -- facts that stand for one stand for the other
  pub stands-same : (f : FactLists) (t : Suite) → StandsFor f s t → StandsFor f o t
  stands-same f t h = record {
    sources = h.sources ∙ same_sources;
    rows = h.rows ∙ same_rows;
    drops = h.drops ∙ same_drops;
    bugs = h.bugs ∙ same_bugs;
    hints = h.hints ∙ same-sorted hint_total (hints_in s) (hints_in o) (tied_hints s one) (tied_hints o one_back) (same-given hint_of s o same);
    unhints = h.unhints ∙ same-sorted unhint_total (unhints_in s) (unhints_in o) (tied_unhints s one) (tied_unhints o one_back) (same-given unhint_of s o same);
    delays = h.delays ∙ same-least delays_total (delays_in s) (delays_in o) (tied_delays s one) (same-given delays_of s o same);
    are_uploads = λ u c. same_uploads.0 u (h.are_uploads u c);
    counted = λ u c news. h.counted u (same_uploads.1 u c) news;
  }
