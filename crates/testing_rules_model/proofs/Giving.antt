-- Covered messages give all that a run brings into testing.
use Rattle.std.specs.Prelude.{ℕ, suc, ◌+◌, ◌<◌, ◌≤◌, ◌==◌, ◌&&◌, Bool, true, false, not, List, [], ◌∷◌, Contains, Some, None, codes, cond, filter, find, length, map, fold, slice_index_or}
use Rattle.std.specs.List.{AllByRecursion, slice_get, flat_map, enumerate_from}
use Rattle.std.specs.Str.{bytes_eq}
use Rattle.std.proofs.Common.{◌≡◌, refl, sym, ap, ◌∙◌, subst, arith, inl, inr, ◌⊎◌}
use Rattle.std.proofs.lemmas.Bool.Decides.{nat_tests}
use Rattle.std.proofs.lemmas.List.{get_or_default}
use Rattle.std.proofs.lemmas.List.Elements.{Contains-append_cases}
use Rattle.std.proofs.lemmas.List.FromFn.{get_or-enumerate_from, length-enumerate_from}
use Rattle.std.proofs.lemmas.Option.{same_Some}
use Rattle.std.proofs.lemmas.Slice.Eq.{bytes_eq-Decides}
use Rattle.deb_control.specs.declared.binary.Binary.{Binary}
use Rattle.testing_rules_items.specs.declared.item.Item.{Item}
use Rattle.testing_rules_items.specs.declared.item.Item.TheVariants.{Upload, Dropped, Build, Bug, Hint, Unhint, Delays, Nothing}
use Rattle.testing_rules_model.specs.declared.facts.UploadIn.{UploadIn}
use Rattle.testing_rules_model.specs.declared.facts.BuildIn.{BuildIn}
use Rattle.testing_rules_model.specs.declared.facts.HintIn.{HintIn}
use Rattle.testing_rules_model.specs.declared.facts.UnhintIn.{UnhintIn}
use Rattle.testing_rules_model.specs.declared.suite.SourceIn.{SourceIn}
use Rattle.testing_rules_model.specs.declared.suite.RowIn.{RowIn}
use Rattle.testing_rules_model.specs.declared.excuse.Excuse.{Excuse}
use Rattle.testing_rules_items.specs.Words.{Text, byte_cmp, arch_name, sorted_by}
use Rattle.testing_rules_model.specs.Suite.{Suite}
use Rattle.testing_rules_model.specs.Covered.{Covered, CoveredItem, upload_of, builds_of, placed_from, uploads_in, builds_in}
use Rattle.testing_rules_model.specs.Unstable.{unstable_source, unstable_sources, unstable_row, is_build_of, is_above_drops, unstable_builds, pair_of, pair_order, places, row_at, built_rows, is_current, hints_by_number, unhints_by_number}
use Rattle.testing_rules_model.specs.steps.Unstable.{built_on}
use Rattle.testing_rules_model.specs.Moves.{row_key, row_cmp, put_source, as_source, is_row_of, source_in, group_sources, move_group, remove_source}
use Rattle.testing_rules_model.specs.Updates.{update_by, update_of}
use Rattle.testing_rules_model.specs.Provenance.{IsUploaded, IsBuilt, IsArchPlace, IsGivenBy, KnowsArchs, binary_in}
use Rattle.testing_rules_items.proofs.Each.{each-weaker, each-append, each-filter, each-put, each-put_all}
use Rattle.testing_rules_model.proofs.Least.{from_filter, least_from}
use Rattle.testing_rules_items.proofs.Members.{none_among, head_of, tail_of}
use Rattle.testing_rules_model.proofs.Orders.{upload_total, build_total}
use Rattle.testing_rules_model.proofs.Sets.{first_or_rest, at_front, given_by, spread_from, mapped_from}
use Rattle.testing_rules_model.proofs.Stays.{run-keeps}

-- Unstable's sources.

-- a message
abbrev message : ℕ → ℕ → Item → CoveredItem
message sender number item = record { sender = sender; number = number; item = item }

-- an upload that a message says
says_upload : (sender number : ℕ) (item : Item) (u : UploadIn) → upload_of (message sender number item) ≡ Some u
    → message sender number item ≡ message u.sender u.number (Upload u.source u.version u.urgency u.day)
says_upload sender number (Upload source version urgency day) u e = cc
says_upload sender number (Dropped name arch version) u e = let no : None ≡ Some u = e in cc
says_upload sender number (Build binaries) u e = let no : None ≡ Some u = e in cc
says_upload sender number (Bug bug source severity found fixed) u e = let no : None ≡ Some u = e in cc
says_upload sender number (Hint hint) u e = let no : None ≡ Some u = e in cc
says_upload sender number (Unhint cancels) u e = let no : None ≡ Some u = e in cc
says_upload sender number (Delays low medium high critical) u e = let no : None ≡ Some u = e in cc
says_upload sender number Nothing u e = let no : None ≡ Some u = e in cc

upload_given : (s : Covered) (u : UploadIn) → Contains (uploads_in s) u → IsUploaded s (as_source u)
upload_given s u c =
    let m = given_by upload_of s u c in
    record {
      urgency = u.urgency;
      day = u.day;
      upload = subst (λ (n : CoveredItem). Contains s n) (says_upload m.0.sender m.0.number m.0.item u m.2) m.1;
    }

-- unstable's sources are said by uploads
source_said : (s : Covered) (u : UploadIn) → Contains (unstable_sources s) u → Contains (uploads_in s) u
source_said s u c =
    let n = given_by (unstable_source s) (sorted_by (λ name. name) byte_cmp (map (λ (v : UploadIn). v.source) (uploads_in s))) u c in
    let among = least_from upload_total (filter (λ (v : UploadIn). bytes_eq v.source n.0) (uploads_in s)) u n.2 in
    (from_filter (λ (v : UploadIn). bytes_eq v.source n.0) (uploads_in s) u among).0

-- Unstable's rows.

-- a binary among those of a build
record IsPlaced (place sender number : ℕ) (binaries : List Binary) (b : BuildIn) : Type 0 where
  i : ℕ
  sent : b.sender ≡ sender
  numbered : b.number ≡ number
  placed : b.place ≡ place + i
  stands : slice_get binaries i ≡ Some b.binary

is_placed : (place sender number : ℕ) (binaries : List Binary) (b : BuildIn) → Contains (placed_from place sender number binaries) b → IsPlaced place sender number binaries b
is_placed place sender number [] b c = none_among b c
is_placed place sender number (x ∷ xs) b c =
    elim (first_or_rest (record { binary = x; sender = sender; number = number; place = place }) (placed_from (place + 1) sender number xs) b c) [
      | inl own ↦ subst (λ (d : BuildIn). IsPlaced place sender number (x ∷ xs) d) own (record { i = 0; sent = refl; numbered = refl; placed = omega arith; stands = refl })
      | inr among ↦
          let rest = is_placed (place + 1) sender number xs b among in
          record { i = suc rest.i; sent = rest.sent; numbered = rest.numbered; placed = omega (arith, rest.placed); stands = rest.stands }
    ]

-- the build of a message that has the binary
record IsInBuild (s : Covered) (b : BuildIn) : Type 0 where
  binaries : List Binary
  build : Contains s (message b.sender b.number (Build binaries))
  placed : binary_in binaries b.place ≡ Some b.binary

says_build : (s : Covered) (sender number : ℕ) (item : Item) (b : BuildIn) → Contains s (message sender number item)
    → Contains (builds_of (message sender number item)) b → IsInBuild s b
says_build s sender number (Build binaries) b c d =
    let p = is_placed 1 sender number binaries b d in
    let at : b.place ≡ suc p.i = omega (arith, p.placed) in
    record {
      binaries = binaries;
      build = rw (p.sent, p.numbered) c;
      placed = rw at p.stands;
    }
says_build s sender number (Upload source version urgency day) b c d = none_among b d
says_build s sender number (Dropped name arch version) b c d = none_among b d
says_build s sender number (Bug bug source severity found fixed) b c d = none_among b d
says_build s sender number (Hint hint) b c d = none_among b d
says_build s sender number (Unhint cancels) b c d = none_among b d
says_build s sender number (Delays low medium high critical) b c d = none_among b d
says_build s sender number Nothing b c d = none_among b d

build_given : (s : Covered) (b : BuildIn) → Contains (builds_in s) b → IsInBuild s b
build_given s b c =
    let m = spread_from builds_of s b c in
    says_build s m.0.sender m.0.number m.0.item b m.1 m.2

-- unstable's builds are said by builds
build_said : (s : Covered) (b : BuildIn) → Contains (unstable_builds s) b → Contains (builds_in s) b
build_said s b c =
    let p = given_by (λ (q : Text × Text). unstable_row s q.0 q.1) (sorted_by (λ q. q) pair_order (map pair_of (builds_in s))) b c in
    let test : BuildIn → Bool = λ v. is_build_of p.0.0 p.0.1 v && is_above_drops s v in
    (from_filter test (builds_in s) b (least_from build_total (filter test (builds_in s)) b p.2)).0

-- the places of the architectures, and what stands there
record IsPlaceOf (archs : List Text) (p : ℕ × Text) : Type 0 where
  known : IsArchPlace archs p.0
  named : arch_name archs p.0 ≡ p.1

listed_place : (archs : List Text) (p : ℕ × Text) → length archs ≤ 16 → Contains (enumerate_from 0 archs) p → IsPlaceOf archs p
listed_place archs p few c =
    let k = c.0 in
    let low : k < length archs = omega (arith, c.1, length-enumerate_from 0 archs) in
    let at : (k, slice_index_or archs k p.1) ≡ p = ap (λ n. (n, slice_index_or archs k p.1)) (let e : k ≡ 0 + k = omega arith in e) ∙ sym (get_or-enumerate_from 0 archs k p low) ∙ c.2 in
    let other : (k == 16) ≡ false = grind (arith, nat_tests) in
    subst (λ (q : ℕ × Text). IsPlaceOf archs q) at (record { known = inl low; named = rw other (get_or_default archs k [] p.1 low) })

place_of : (archs : List Text) (p : ℕ × Text) → length archs ≤ 16 → Contains (places archs) p → IsPlaceOf archs p
place_of archs p few c = elim (Contains-append_cases (enumerate_from 0 archs) ((16, codes "all") ∷ []) p c) [
  | inl listed ↦ listed_place archs p few listed
  | inr last ↦ elim (first_or_rest (16, codes "all") [] p last) [
    | inl own ↦ subst (λ (q : ℕ × Text). IsPlaceOf archs q) own (record { known = inr refl; named = refl })
    | inr never ↦ none_among p never
  ]
]

row_given : (archs : List Text) (s : Covered) (builds : List BuildIn) → ((b : BuildIn) → Contains builds b → Contains (builds_in s) b) → (r : RowIn) → length archs ≤ 16
    → Contains (built_rows archs builds) r → IsBuilt archs s r
row_given archs s builds said r few c =
    let p = spread_from (built_on builds) (places archs) r c in
    let place = place_of archs p.0 few p.1 in
    let b = mapped_from (row_at p.0.0) (filter (λ (b : BuildIn). bytes_eq b.binary.architecture p.0.1) builds) r p.2 in
    let among = from_filter (λ (b : BuildIn). bytes_eq b.binary.architecture p.0.1) builds b.0 b.1 in
    let given = build_given s b.0 (said b.0 among.0) in
    let same : b.0.binary.architecture ≡ p.0.1 = (bytes_eq-Decides b.0.binary.architecture p.0.1).0 among.1 in
    subst (λ (q : RowIn). IsBuilt archs s q) b.2 (record {
      binaries = given.binaries;
      build = given.build;
      placed = given.placed;
      known = place.known;
      arch = place.named ∙ sym same;
    })

-- Changes of testing.

found_at : {A : Type 0} (test : A → Bool) (x : A) (b : Bool) (xs : List A) (u : A) → cond b (Some x) (find test xs) ≡ Some u → (find test xs ≡ Some u → Contains xs u) → Contains (x ∷ xs) u
found_at test x true xs u h more = at_front x u xs (same_Some x u h)
found_at test x false xs u h more = tail_of x xs u (more h)

found_among : {A : Type 0} (test : A → Bool) (xs : List A) (u : A) → find test xs ≡ Some u → Contains xs u
found_among test [] u h = let no : None ≡ Some u = h in cc
found_among test (x ∷ xs) u h = found_at test x (test x) xs u h (found_among test xs u)

-- what holds of each element
each_of : {A : Type 0} (P : A → Type 0) (xs : List A) → ((x : A) → Contains xs x → P x) → AllByRecursion P xs
each_of P [] h = tt
each_of P (x ∷ xs) h = (h x (head_of x xs), each_of P xs (λ y c. h y (tail_of x xs y c)))

of_each : {A : Type 0} (P : A → Type 0) (xs : List A) → AllByRecursion P xs → (x : A) → Contains xs x → P x
of_each P [] h x c = none_among x c
of_each P (y ∷ xs) h x c = elim (first_or_rest y xs x c) [
  | inl own ↦ subst P own h.0
  | inr among ↦ of_each P xs h.1 x among
]

passing : {A : Type 0} (P : A → Type 0) (test : A → Bool) (xs : List A) → AllByRecursion P xs → AllByRecursion P (filter test xs)
passing P test xs h = each-filter P test xs (each-weaker P (λ x. test x ≡ true → P x) (λ x p on. p) xs h)

module _ (P : SourceIn → Type 0) (Q : RowIn → Type 0) where
  -- each source and each row of testing
  abbrev Has : Suite → Type 0
  Has t = AllByRecursion P t.sources × AllByRecursion Q t.rows

  removal-has : (name : Text) (t : Suite) → Has t → Has (remove_source name t)
  removal-has name t h =
      (passing P (λ (x : SourceIn). not (bytes_eq x.name name)) t.sources h.0, passing Q (λ (r : RowIn). not (bytes_eq r.binary.source name)) t.rows h.1)

  module _ (sources : List UploadIn) (rows : List RowIn) (sources-have : (u : UploadIn) → Contains sources u → P (as_source u)) (rows-have : AllByRecursion Q rows) where
    puts-have : (us : List UploadIn) (xs : List SourceIn) → ((u : UploadIn) → Contains us u → P (as_source u)) → AllByRecursion P xs → AllByRecursion P (fold (λ ys u. put_source (as_source u) ys) xs us)
    puts-have [] xs h g = g
    puts-have (u ∷ us) xs h g =
        puts-have us (put_source (as_source u) xs) (λ v c. h v (tail_of u us v c))
        (each-put P (λ (x : SourceIn). x.name) byte_cmp (as_source u) xs (h u (head_of u us)) g)

    arriving-have : (us : List UploadIn) → AllByRecursion Q (flat_map (λ u. filter (is_current u) rows) us)
    arriving-have [] = tt
    arriving-have (u ∷ us) = each-append Q (filter (is_current u) rows) (flat_map (λ v. filter (is_current v) rows) us) (passing Q (is_current u) rows rows-have) (arriving-have us)

    move-has : (group : List Text) (t : Suite) → Has t → Has (move_group sources rows group t)
    move-has group t h = (
      puts-have (group_sources sources group) t.sources
          (λ u c. let n = given_by (source_in sources) group u c in sources-have u (found_among (λ (v : UploadIn). bytes_eq v.source n.0) sources u n.2)) h.0,
      each-put_all Q row_key row_cmp (flat_map (λ u. filter (is_current u) rows) (group_sources sources group)) (filter (λ r. not (is_row_of group r)) t.rows)
          (arriving-have (group_sources sources group)) (passing Q (λ (r : RowIn). not (is_row_of group r)) t.rows h.1),
    )

-- A run.

-- uploads and builds that a set says give all that a run brings into testing
pub by-given : (archs : List Text) (s : Covered) (sources : List UploadIn) (builds : List BuildIn) (hints : List HintIn) (unhints : List UnhintIn) (excuses : List Excuse) (old : Suite)
    → length archs ≤ 16 → ((u : UploadIn) → Contains sources u → Contains (uploads_in s) u) → ((b : BuildIn) → Contains builds b → Contains (builds_in s) b)
    → IsGivenBy archs s old (update_by archs sources (built_rows archs builds) hints unhints excuses old).suite
by-given archs s sources builds hints unhints excuses old few sources-said builds-said =
    let P : SourceIn → Type 0 = λ x. Contains old.sources x ⊎ IsUploaded s x in
    let Q : RowIn → Type 0 = λ r. Contains old.rows r ⊎ IsBuilt archs s r in
    let rows = built_rows archs builds in
    let sources-have : (u : UploadIn) → Contains sources u → P (as_source u) = λ u c. inr (upload_given s u (sources-said u c)) in
    let rows-have : AllByRecursion Q rows = each_of Q rows (λ r c. inr (row_given archs s builds builds-said r few c)) in
    let before : Has P Q old = (each_of P old.sources (λ x c. inl c), each_of Q old.rows (λ r c. inl c)) in
    let after = run-keeps (Has P Q) archs (λ name t none h. removal-has P Q name t h) sources rows
    (λ group t none h. move-has P Q sources rows sources-have rows-have group t h) hints unhints excuses old before in
    let new = (update_by archs sources rows hints unhints excuses old).suite in
    record { sources = of_each P new.sources after.0; rows = of_each Q new.rows after.1 }

pub update-given : (archs : List Text) (s : Covered) (excuses : List Excuse) (old : Suite) → length archs ≤ 16 → IsGivenBy archs s old (update_of archs s excuses old).suite
update-given archs s excuses old few =
    by-given archs s (unstable_sources s) (unstable_builds s) (hints_by_number s) (unhints_by_number s) excuses old few (source_said s) (build_said s)

known_at : (archs : List Text) (s : Covered) (old : List RowIn) (r : RowIn) → KnowsArchs archs old → Contains old r ⊎ IsBuilt archs s r → IsArchPlace archs r.arch
known_at archs s old r known (inl was) = known.each r was
known_at archs s old r known (inr came) = came.known

-- what covered messages give is of listed architectures
pub given-known : (archs : List Text) (s : Covered) (old new : Suite) → IsGivenBy archs s old new → KnowsArchs archs old.rows → KnowsArchs archs new.rows
given-known archs s old new given known = record { each = λ r c. known_at archs s old.rows r known (given.rows r c) }

pub archs-known : (archs : List Text) (s : Covered) (excuses : List Excuse) (old : Suite) → length archs ≤ 16
    → KnowsArchs archs old.rows → KnowsArchs archs (update_of archs s excuses old).suite.rows
archs-known archs s excuses old few = given-known archs s old (update_of archs s excuses old).suite (update-given archs s excuses old few)
