-- The rows that stand after a move, by flags: those that came, and those that stood and didn't leave.
use Rattle.std.specs.Prelude.{ℕ, Bool, true, false, ◌&&◌, ◌||◌, not, List, [], ◌∷◌, Contains, Some, filter, fold}
use Rattle.std.specs.List.{slice_get, list_any, flat_map}
use Rattle.std.specs.Str.{bytes_eq}
use Rattle.std.proofs.Common.{◌≡◌, refl, sym, ap, ◌∙◌, subst, inl, inr, ◌⊎◌}
use Rattle.std.proofs.lemmas.Bool.{false≢true}
use Rattle.std.proofs.lemmas.Slice.Eq.{bytes_eq-Decides}
use Rattle.testing_rules_model.specs.declared.facts.UploadIn.{UploadIn}
use Rattle.testing_rules_model.specs.declared.suite.RowIn.{RowIn}
use Rattle.testing_rules_model.specs.InOrder.{AreByKey}
use Rattle.testing_rules_model.specs.Moves.{row_key, put_row, is_row_of, source_in, group_sources, move_group, remove_source}
use Rattle.testing_rules_model.specs.Suite.{Suite}
use Rattle.testing_rules_model.specs.Unstable.{is_current, is_of_source}
use Rattle.testing_rules_items.specs.Words.{Text}
use Rattle.testing_rules_model.proofs.Least.{from_filter, to_filter}
use Rattle.testing_rules_suites.specs.Present.{IsShown}
use Rattle.testing_rules_suites.proofs.Lost.{IsChange}
use Rattle.testing_rules_items.proofs.Members.{none_among, head_of, tail_of}
use Rattle.testing_rules_model.proofs.Ordered.{by_key-put, by_key-put_all, by_key-kept}
use Rattle.testing_rules_model.proofs.Sets.{first_or_rest, at_front, given_by, spread_from, spreads}
use Rattle.testing_rules_suites.proofs.Shown.{IsOther, itself_or_other, other_keys, key_ties, shown-kept, put_from, put_has, put_keeps}
use Rattle.testing_rules_model.proofs.Watching.{found_passes}

-- rows with several put in
abbrev puts : List RowIn → List RowIn → List RowIn
puts xs base = fold (λ ys r. put_row r ys) base xs

pub puts_from : (xs base : List RowIn) (r : RowIn) → AreByKey base → Contains (puts xs base) r → Contains xs r ⊎ (Contains base r × ((x : RowIn) → Contains xs x → IsOther x r))
puts_from [] base r h c = inr (c, λ x d. none_among x d)
puts_from (x ∷ xs) base r h c = elim (puts_from xs (put_row x base) r (by_key-put x base h) c) [
  | inl later ↦ inl (tail_of x xs r later)
  | inr before ↦ elim (put_from x r base before.0) [
    | inl own ↦ inl (at_front x r xs own)
    | inr among ↦ elim (itself_or_other x r (put_row x base) (by_key-put x base h) (put_has x base) before.0) [
      | inl own ↦ inl (at_front x r xs own)
      | inr other ↦ inr (
        among,
        λ y d. elim (first_or_rest x xs y d) [
          | inl same ↦ subst (λ z. IsOther z r) same other
          | inr rest ↦ before.1 y rest
        ],
      )
    ]
  ]
]

-- each of the rows is the row itself or of another key
abbrev pub AreOthers : List RowIn → RowIn → Type 0
AreOthers xs r = (x : RowIn) → Contains xs x → (x ≡ r) ⊎ IsOther x r

puts_keep_at : (x r : RowIn) (base : List RowIn) → (x ≡ r) ⊎ IsOther x r → Contains base r → Contains (put_row x base) r
puts_keep_at x r base (inl own) c = subst (λ z. Contains (put_row x base) z) own (put_has x base)
puts_keep_at x r base (inr other) c = put_keeps x r base other c

puts_keep : (xs base : List RowIn) (r : RowIn) → AreOthers xs r → Contains base r → Contains (puts xs base) r
puts_keep [] base r o c = c
puts_keep (x ∷ xs) base r o c = puts_keep xs (put_row x base) r (λ y d. o y (tail_of x xs y d)) (puts_keep_at x r base (o x (head_of x xs)) c)

pub puts_have : (xs base : List RowIn) (r : RowIn) → AreOthers xs r → Contains xs r → Contains (puts xs base) r
puts_have [] base r o c = none_among r c
puts_have (x ∷ xs) base r o c = elim (first_or_rest x xs r c) [
  | inl own ↦ puts_keep xs (put_row x base) r (λ y d. o y (tail_of x xs y d)) (subst (λ z. Contains (put_row x base) z) own (put_has x base))
  | inr later ↦ puts_have xs (put_row x base) r (λ y d. o y (tail_of x xs y d)) later
]

first_of_both : (a b : Bool) → (a && b) ≡ true → a ≡ true
first_of_both true b h = refl
first_of_both false b h = absurd (false≢true h)

second_of_both : (a b : Bool) → (a && b) ≡ true → b ≡ true
second_of_both true b h = h
second_of_both false b h = absurd (false≢true h)

either_of : (a b : Bool) → (a || b) ≡ true → (a ≡ true) ⊎ (b ≡ true)
either_of true b h = inl refl
either_of false b h = inr h

left_of : (a b : Bool) → a ≡ true → (a || b) ≡ true
left_of a b h = ap (λ x. x || b) h

right_of : (a b : Bool) → b ≡ true → (a || b) ≡ true
right_of true b h = refl
right_of false b h = h

not_true : (b : Bool) → not b ≡ true → b ≡ false
not_true true h = absurd (false≢true h)
not_true false h = refl

stays_where : (a b : Bool) → a ≡ true → b ≡ false → (a && not b) ≡ true
stays_where a b e f = simp (e, f)

not_so : (b : Bool) → (b ≡ true → ⊥) → b ≡ false
not_so true h = absurd (h refl)
not_so false h = refl

any_of : {A : Type 0} (test : A → Bool) (xs : List A) (x : A) → Contains xs x → test x ≡ true → list_any test xs ≡ true
any_of test [] x c h = none_among x c
any_of test (y ∷ xs) x c h = elim (first_or_rest y xs x c) [
  | inl own ↦ left_of (test y) (list_any test xs) (ap test own ∙ h)
  | inr rest ↦ right_of (test y) (list_any test xs) (any_of test xs x rest h)
]

-- a current row of a source that the group names has a name of the group as its source
pub source_of_group : (sources : List UploadIn) (group : List Text) (u : UploadIn) (r : RowIn) → Contains (group_sources sources group) u → is_current u r ≡ true → Contains group r.binary.source
source_of_group sources group u r c current =
    let g = given_by (source_in sources) group u c in
    let same = (bytes_eq-Decides r.binary.source u.source).0 (first_of_both (is_of_source u r) _ current) in
    let of_name = (bytes_eq-Decides u.source g.0).0 (found_passes (λ (v : UploadIn). bytes_eq v.source g.0) sources u g.2) in
    subst (Contains group) (sym (same ∙ of_name)) g.1

-- and so it is a row of the group
row_of_group : (sources : List UploadIn) (group : List Text) (u : UploadIn) (r : RowIn) → Contains (group_sources sources group) u → is_current u r ≡ true → is_row_of group r ≡ true
row_of_group sources group u r c current =
    any_of (bytes_eq r.binary.source) group r.binary.source (source_of_group sources group u r c current) ((bytes_eq-Decides r.binary.source r.binary.source).1 refl)

-- what stands after a change by flags
abbrev pub after_flags : (ℕ → Bool) → (ℕ → Bool) → (ℕ → Bool) → ℕ → Bool
after_flags stands leaving coming k = coming k || (stands k && not (leaving k))

-- the flags of a move: the current rows of the group's sources come, from unstable's places on, and the rows that stand
-- leave where they are the group's or of the key of one that comes
pub record IsMove (pool : List RowIn) (stands : ℕ → Bool) (sources : List UploadIn) (unstable : List RowIn) (group : List Text) (leaving coming : ℕ → Bool) : Type 0 where
  pub comes : (k : ℕ) → coming k ≡ true → (r : RowIn) × (u : UploadIn) × (slice_get pool k ≡ Some r) × Contains unstable r × Contains (group_sources sources group) u × (is_current u r ≡ true)
  pub coming_all : (r : RowIn) (u : UploadIn) → Contains unstable r → Contains (group_sources sources group) u → is_current u r ≡ true → (k : ℕ) × (slice_get pool k ≡ Some r) × (coming k ≡ true)
  pub leaves : (k : ℕ) (r : RowIn) → slice_get pool k ≡ Some r → leaving k ≡ true
      → (is_row_of group r ≡ true) ⊎ ((j : ℕ) × (q : RowIn) × (slice_get pool j ≡ Some q) × (coming j ≡ true) × (row_key q ≡ row_key r))
  pub leaving_group : (k : ℕ) (r : RowIn) → slice_get pool k ≡ Some r → stands k ≡ true → is_row_of group r ≡ true → leaving k ≡ true
  pub leaving_key : (k : ℕ) (r : RowIn) (j : ℕ) (q : RowIn) → slice_get pool k ≡ Some r → stands k ≡ true → slice_get pool j ≡ Some q → coming j ≡ true → row_key q ≡ row_key r → leaving k ≡ true

module _ (pool : List RowIn) (stands : ℕ → Bool) (sources : List UploadIn) (unstable : List RowIn) (group : List Text) (leaving coming : ℕ → Bool)
    (t : Suite) (by_key : AreByKey unstable) (shown : IsShown pool stands t.rows) (move : IsMove pool stands sources unstable group leaving coming) where
  abbrev after : ℕ → Bool
  after = after_flags stands leaving coming

  abbrev arriving : List RowIn
  arriving = flat_map (λ u. filter (is_current u) unstable) (group_sources sources group)

  abbrev staying : List RowIn
  staying = filter (λ r. not (is_row_of group r)) t.rows

  arrives : (r : RowIn) → Contains arriving r → (u : UploadIn) × Contains unstable r × Contains (group_sources sources group) u × (is_current u r ≡ true)
  arrives r c =
      let s = spread_from (λ (u : UploadIn). filter (is_current u) unstable) (group_sources sources group) r c in
      let f = from_filter (is_current s.0) unstable r s.2 in
      (s.0, f.0, s.1, f.1)

  came_in : (k : ℕ) (r : RowIn) → slice_get pool k ≡ Some r → coming k ≡ true → Contains arriving r
  came_in k r at h =
      let w = move.comes k h in
      let same : w.0 ≡ r = let e : Some w.0 ≡ Some r = sym w.2 ∙ at in cc in
      subst (λ q. Contains arriving q) same (spreads (λ (u : UploadIn). filter (is_current u) unstable) (group_sources sources group) w.1 w.0 w.4 (to_filter (is_current w.1) unstable w.0 w.3 w.5))

  others : (r : RowIn) → Contains unstable r → AreOthers arriving r
  others r c x d = itself_or_other x r unstable by_key (arrives x d).1 c

  moved_all : (k : ℕ) (r : RowIn) → slice_get pool k ≡ Some r → (coming k ≡ true) ⊎ ((stands k && not (leaving k)) ≡ true) → Contains (puts arriving staying) r
  moved_all k r at (inl came) = let c = came_in k r at came in puts_have arriving staying r (others r (arrives r c).1) c
  moved_all k r at (inr stayed) =
      let up = first_of_both (stands k) (not (leaving k)) stayed in
      let held = not_true (leaving k) (second_of_both (stands k) (not (leaving k)) stayed) in
      let apart : is_row_of group r ≡ false = not_so (is_row_of group r) (λ h. false≢true (sym held ∙ move.leaving_group k r at up h)) in
      let base = to_filter (λ (q : RowIn). not (is_row_of group q)) t.rows r (shown.all k r at up) (ap not apart) in
      puts_keep arriving staying r (λ x d. inr (other_keys x r (λ e.
      let a = arrives x d in
      let j = move.coming_all x a.0 a.1 a.2 a.3 in
      false≢true (sym held ∙ move.leaving_key k r j.0 x at up j.1 j.2 e)))) base

  pub moved_shown : IsShown pool after (move_group sources unstable group t).rows
  moved_shown = record {
    by_key = by_key-put_all arriving staying (by_key-kept (λ (q : RowIn). not (is_row_of group q)) t.rows shown.by_key);
    within = λ r c. elim (puts_from arriving staying r (by_key-kept (λ (q : RowIn). not (is_row_of group q)) t.rows shown.by_key) c) [
      | inl came ↦
          let a = arrives r came in
          let k = move.coming_all r a.0 a.1 a.2 a.3 in
          (k.0, k.1, left_of (coming k.0) (stands k.0 && not (leaving k.0)) k.2)
      | inr stayed ↦
          let f = from_filter (λ (q : RowIn). not (is_row_of group q)) t.rows r stayed.0 in
          let w = shown.within r f.0 in
          let held : leaving w.0 ≡ false = not_so (leaving w.0) (λ h. elim (move.leaves w.0 r w.1 h) [
            | inl own ↦ false≢true (sym (not_true (is_row_of group r) f.1) ∙ own)
            | inr key ↦ stayed.1 key.1 (came_in key.0 key.1 key.2 key.3) (key_ties key.1 r key.4)
          ]) in
          (w.0, w.1, right_of (coming w.0) (stands w.0 && not (leaving w.0)) (stays_where (stands w.0) (leaving w.0) w.2 held))
    ];
    all = λ k r at h. moved_all k r at (either_of (coming k) (stands k && not (leaving k)) h);
  }

  came_is_at : (k : ℕ) (r : RowIn) (b : Bool) → coming k ≡ b → slice_get pool k ≡ Some r → after k ≡ true → b ≡ is_row_of group r
  came_is_at k r true e at h =
      let a = arrives r (came_in k r at e) in sym (row_of_group sources group a.0 r a.2 a.3)
  came_is_at k r false e at h =
      let stayed : (stands k && not (leaving k)) ≡ true = sym (ap (λ b. b || (stands k && not (leaving k))) e) ∙ h in
      let up = first_of_both (stands k) (not (leaving k)) stayed in
      let held = not_true (leaving k) (second_of_both (stands k) (not (leaving k)) stayed) in
      sym (not_so (is_row_of group r) (λ g. false≢true (sym held ∙ move.leaving_group k r at up g)))

  -- the flags make the change from the rows before the move to those after it
  pub moved_change : IsChange pool group stands after coming t.rows (move_group sources unstable group t).rows
  moved_change = record {
    old_shown = shown;
    new_shown = moved_shown;
    came_is = λ k r at h. came_is_at k r (coming k) refl at h;
    stayed = λ k h e. first_of_both (stands k) (not (leaving k)) (sym (ap (λ b. b || (stands k && not (leaving k))) e) ∙ h);
  }

-- The rows that stand after a removal: those that stood and didn't leave.
module _ (pool : List RowIn) (stands : ℕ → Bool) (name : Text) (leaving : ℕ → Bool) (t : Suite) (shown : IsShown pool stands t.rows)
    (leaves : (k : ℕ) (r : RowIn) → slice_get pool k ≡ Some r → stands k ≡ true → leaving k ≡ bytes_eq r.binary.source name) where
  abbrev none_comes : ℕ → Bool
  none_comes k = false

  stays_at : (k : ℕ) (r : RowIn) (b : Bool) → slice_get pool k ≡ Some r → stands k ≡ b → (b && not (leaving k)) ≡ (b && not (bytes_eq r.binary.source name))
  stays_at k r true at e = ap not (leaves k r at e)
  stays_at k r false at e = refl

  removed_at : (k : ℕ) (r : RowIn) → slice_get pool k ≡ Some r → (stands k && not (leaving k)) ≡ (stands k && not (bytes_eq r.binary.source name))
  removed_at k r at = stays_at k r (stands k) at refl

  pub removed_change : IsChange pool [] stands (after_flags stands leaving none_comes) none_comes t.rows (remove_source name t).rows
  removed_change = record {
    old_shown = shown;
    new_shown = shown-kept pool stands (after_flags stands leaving none_comes) (λ r. not (bytes_eq r.binary.source name)) t.rows shown removed_at;
    came_is = λ k r at h. refl;
    stayed = λ k h e. first_of_both (stands k) (not (leaving k)) h;
  }
