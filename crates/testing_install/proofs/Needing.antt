-- Who needs a name.
use Rattle.std.proofs.Common.{◌≡◌, ℕ, ◌+◌, ◌<◌, ◌≤◌, Bool, true, false, ◌||◌, List, [], ◌∷◌, ◌++◌, length, get_or, take, drop, Some, None, sym, refl, ap, ◌∙◌, subst, inl, inr, arith}
use Rattle.std.specs.Str.{bytes_eq}
use Rattle.std.specs.List.{slice_get, All, Contains, list_any, flat_map}
use Rattle.std.proofs.lemmas.Option.{slice_get_within, same_Some}
use Rattle.std.proofs.lemmas.Bool.{cases_lt, false≢true, or_cases}
use Rattle.std.proofs.lemmas.List.{take_all, take_more, drop_all, drop_more, get_or_default, append_assoc, append-nil}
use Rattle.std.proofs.lemmas.List.Concat.{flat_map-cons}
use Rattle.std.proofs.lemmas.Grind.{flat_map-append}
use Rattle.std.proofs.lemmas.List.Elements.{Contains-append_left, Contains-append_right, Contains-append_cases}
use Rattle.std.proofs.lemmas.List.Folds.{list_any_more}
use Rattle.std.proofs.lemmas.Slice.Eq.{bytes_eq-Decides}
use Rattle.deb_control.specs.declared.binary.Binary.{Binary}
use Rattle.deb_control.specs.declared.relation.Provision.{Provision}
use Rattle.deb_control.specs.declared.relation.Alternative.{Alternative}
use Rattle.deb_control.specs.declared.relation.Clause.{Clause}
use Rattle.testing_install.specs.Satisfies.{satisfies, meets}
use Rattle.testing_install.specs.Index.{provides_name, PlacesByName, places_at}
use Rattle.testing_install.specs.steps.Among.{may_need}
use Rattle.testing_install.specs.Dependents.{names, needs_name, IsNotedAt}
use Rattle.testing_install.specs.steps.Dependents.{IsDependents, places_for}
use Rattle.testing_install.proofs.Indexing.{IsAdded, added_stays, added_here, added_within}
use Rattle.testing_install.proofs.Finding.{any_true, any_at, satisfies_provides}
use Rattle.testing_install.proofs.Members.{members_from_all, contains_part, part_contains}

-- places at names that pass

pub noted_none : (map : PlacesByName) (place : ℕ) → IsNotedAt (λ q. false) map map place
noted_none map place = record { stays = λ q k c. c; noted = λ q e. absurd (false≢true e); within = λ q n h all. all }

noted_as : (f g : List ℕ → Bool) (old new : PlacesByName) (place : ℕ) → ((q : List ℕ) → g q ≡ f q) → IsNotedAt f old new place → IsNotedAt g old new place
noted_as f g old new place same n = record { stays = n.stays; noted = λ q e. n.noted q (sym (same q) ∙ e); within = n.within }

noted_then : (f g : List ℕ → Bool) (old mid new : PlacesByName) (place : ℕ) → IsNotedAt f old mid place → IsNotedAt g mid new place → IsNotedAt (λ q. f q || g q) old new place
noted_then f g old mid new place n m = record {
  stays = λ q k c. m.stays q k (n.stays q k c);
  noted = λ q e. elim (or_cases (f q) (g q) e) [ inl before ↦ m.stays q place (n.noted q before) | inr now ↦ m.noted q now ];
  within = λ q b h all. m.within q b h (n.within q b h all);
}

pub noted_added : (old new : PlacesByName) (name : List ℕ) (place : ℕ) → IsAdded old new name place → IsNotedAt (λ q. bytes_eq name q) old new place
noted_added old new name place a = record {
  stays = λ q k c. added_stays old new name q place k a c;
  noted = λ q e. added_here old new name q place a e;
  within = λ q n h all. added_within old new name q place n a h all;
}

-- the names of one alternative more
pub noted_alternative : (clause : Clause) (old mid new : PlacesByName) (place i : ℕ) (a : Alternative) (read : List Alternative) → read ≡ clause → i < length read → a ≡ get_or read i a → IsNotedAt (names (take i clause)) old mid place → IsAdded mid new a.name place → IsNotedAt (names (take (i + 1) clause)) old new place
noted_alternative clause old mid new place i a read are h at n added =
    let within : i < length clause = rw (ap length are) at h in
    let is_read : get_or clause i a ≡ a = sym (at ∙ ap (λ l. get_or l i a) are) in
    noted_as (λ q. names (take i clause) q || bytes_eq a.name q) (names (take (i + 1) clause)) old new place
    (λ q. list_any_more (λ b. bytes_eq b.name q) clause i a within ∙ ap (λ b. names (take i clause) q || bytes_eq b.name q) is_read)
    (noted_then (names (take i clause)) (λ q. bytes_eq a.name q) old mid new place n (noted_added mid new a.name place added))

pub noted_alternatives : (clause : Clause) (old new : PlacesByName) (place n : ℕ) → length clause ≤ n → IsNotedAt (names (take n clause)) old new place → IsNotedAt (names clause) old new place
noted_alternatives clause old new place n h noted = subst (λ c. IsNotedAt (names c) old new place) (take_all n clause h) noted

-- a clause of the first n names it
abbrev pub needs_among : ℕ → List Clause → List ℕ → Bool
needs_among n clauses name = list_any (λ clause. names clause name) (take n clauses)

-- the names of one clause more
pub noted_clause : (clauses : List Clause) (old mid new : PlacesByName) (place i : ℕ) (c : Clause) (read : List Clause) → read ≡ clauses → i < length read → c ≡ get_or read i c → IsNotedAt (needs_among i clauses) old mid place → IsNotedAt (names c) mid new place → IsNotedAt (needs_among (i + 1) clauses) old new place
noted_clause clauses old mid new place i c read are h at n noted =
    let within : i < length clauses = rw (ap length are) at h in
    let is_read : get_or clauses i c ≡ c = sym (at ∙ ap (λ l. get_or l i c) are) in
    noted_as (λ q. needs_among i clauses q || names c q) (needs_among (i + 1) clauses) old new place
    (λ q. list_any_more (λ b. names b q) clauses i c within ∙ ap (λ b. needs_among i clauses q || names b q) is_read)
    (noted_then (needs_among i clauses) (names c) old mid new place n noted)

pub noted_clauses : (row : Binary) (old new : PlacesByName) (place n : ℕ) → length row.clauses ≤ n → IsNotedAt (needs_among n row.clauses) old new place → IsNotedAt (needs_name row) old new place
noted_clauses row old new place n h noted = subst (λ cs. IsNotedAt (λ q. list_any (λ clause. names clause q) cs) old new place) (take_all n row.clauses h) noted

-- after the first n rows
pub record IsDependentsTo (rows : List Binary) (map : PlacesByName) (n : ℕ) : Type 0 where
  pub within : (q : List ℕ) → All (λ k. k < length rows) (places_at map q)
  pub complete : (q : List ℕ) (k : ℕ) (row : Binary) → k < n → slice_get rows k ≡ Some row → needs_name row q ≡ true → Contains (places_at map q) k

pub dependents_none : (rows : List Binary) (map : PlacesByName) → ((q : List ℕ) → places_at map q ≡ []) → IsDependentsTo rows map 0
dependents_none rows map e = record {
  within = λ q k d h. absurd (omega (arith, h, ap length (e q)));
  complete = λ q k row h. absurd (omega arith);
}

pub dependents_more : (rows : List Binary) (old new : PlacesByName) (n : ℕ) (row : Binary) → slice_get rows n ≡ Some row → IsDependentsTo rows old n → IsNotedAt (needs_name row) old new n → IsDependentsTo rows new (n + 1)
dependents_more rows old new n row at to noted = record {
  within = λ q. noted.within q (length rows) (slice_get_within rows n row at) (to.within q);
  complete = λ q k other h stands e. elim (cases_lt k n) [
    | inl l ↦ noted.stays q k (to.complete q k other l stands e)
    | inr g ↦ (
        let same : k ≡ n = omega arith in
        let alike : other ≡ row = same_Some other row (sym stands ∙ ap (slice_get rows) same ∙ at) in
        subst (Contains (places_at new q)) (sym same) (noted.noted q (sym (ap (λ r. needs_name r q) alike) ∙ e)))
  ];
}

pub dependents_all : (rows : List Binary) (map : PlacesByName) (n : ℕ) → IsDependentsTo rows map n → length rows ≤ n → IsDependents rows map
dependents_all rows map n to h = record { within = to.within; complete = λ q k row at e. to.complete q k row (omega (arith, slice_get_within rows k row at)) at e }

-- a row that may need another is among the places of the other's names

needs_alternative : (row : Binary) (j i : ℕ) (a : Alternative) → j < length row.clauses → i < length (get_or row.clauses j []) → get_or (get_or row.clauses j []) i a ≡ a → needs_name row a.name ≡ true
needs_alternative row j i a h l e =
    let same : bytes_eq (get_or (get_or row.clauses j []) i a).name a.name ≡ true = (bytes_eq-Decides (get_or (get_or row.clauses j []) i a).name a.name).1 (ap (λ b. b.name) e) in
    any_true (λ clause. names clause a.name) row.clauses j [] h (any_true (λ b. bytes_eq b.name a.name) (get_or row.clauses j []) i a l same)

in_places : (map : PlacesByName) (row : Binary) (name : List ℕ) (k : ℕ) → provides_name row name ≡ true → Contains (places_at map name) k → Contains (places_for map row) k
in_places map row name k e c = elim (or_cases (bytes_eq row.name name) (list_any (λ p. bytes_eq p.name name) row.provides) e) [
  | inl own ↦ (
      let same : row.name ≡ name = (bytes_eq-Decides row.name name).0 own in
      Contains-append_left (places_at map row.name) (flat_map (λ p. places_at map p.name) row.provides) k (subst (λ q. Contains (places_at map q) k) (sym same) c))
  | inr given ↦ (
      let d : Provision = record { name = []; version = None } in
      let f = any_at (λ p. bytes_eq p.name name) row.provides given in
      let same : (get_or row.provides f.0 d).name ≡ name = (bytes_eq-Decides (get_or row.provides f.0 d).name name).0 (f.2 d) in
      Contains-append_right (places_at map row.name) (flat_map (λ p. places_at map p.name) row.provides) k (contains_part (λ p. places_at map p.name) row.provides f.0 d k f.1 (subst (λ q. Contains (places_at map q) k) (sym same) c)))
]

pub dependent_found : (rows : List Binary) (map : PlacesByName) (row : Binary) → IsDependents rows map → (k : ℕ) (dependent : Binary) → slice_get rows k ≡ Some dependent → may_need dependent row ≡ true → Contains (places_for map row) k
dependent_found rows map row index k dependent at need =
    let c = any_at (λ clause. meets row clause) dependent.clauses need in
    let clause : Clause = get_or dependent.clauses c.0 [] in
    let f = any_at (λ a. satisfies row a) clause (c.2 []) in
    let d : Alternative = record { name = []; relation = None } in
    let a : Alternative = get_or clause f.0 d in
    let within : f.0 < length clause = f.1 in
    let e : get_or clause f.0 a ≡ a = get_or_default clause f.0 a d within in
    in_places map row a.name k (satisfies_provides row a (f.2 d)) (index.complete a.name k dependent at (needs_alternative dependent c.0 f.0 a c.1 within e))

-- and those places are places of rows
places_for_within : (rows : List Binary) (map : PlacesByName) (row : Binary) → IsDependents rows map → (k : ℕ) → Contains (places_for map row) k → k < length rows
places_for_within rows map row index k c = elim (Contains-append_cases (places_at map row.name) (flat_map (λ p. places_at map p.name) row.provides) k c) [
  | inl own ↦ members_from_all (length rows) (places_at map row.name) (index.within row.name) k own
  | inr given ↦ part_contains (λ n. n < length rows) (λ p. places_at map p.name) row.provides (λ p n at. members_from_all (length rows) (places_at map p.name) (index.within p.name) n at) k given
]

-- as many rows as there are
pub dependents_within : (rows : List Binary) (map : PlacesByName) (row : Binary) (n : ℕ) → IsDependents rows map → length rows ≡ n → (k : ℕ) → Contains (places_for map row) k → k < n
dependents_within rows map row n index e k c = omega (arith, places_for_within rows map row index k c, e)

-- the places at the row's name, and at the names of its first n provisions
abbrev pub places_to : PlacesByName → Binary → ℕ → List ℕ
places_to map row n = places_at map row.name ++ flat_map (λ p. places_at map p.name) (take n row.provides)

pub to_first : (map : PlacesByName) (row : Binary) (name found : List ℕ) → found ≡ places_at map name → name ≡ row.name → found ≡ places_to map row 0
to_first map row name found are named = are ∙ ap (λ q. places_at map q) named ∙ sym (append-nil (places_at map row.name))

-- the places so far, and those of one provision more
pub found_more : (map : PlacesByName) (row : Binary) (old new : List ℕ) (i : ℕ) (p : Provision) (name : List ℕ) (read : List Provision) → read ≡ row.provides → i < length read → p ≡ get_or read i p → name ≡ p.name → new ≡ old ++ places_at map name → old ≡ places_at map row.name ++ flat_map (λ q. places_at map q.name) (take i row.provides) → new ≡ places_at map row.name ++ flat_map (λ q. places_at map q.name) (take (i + 1) row.provides)
found_more map row old new i p name read are h at named added so_far =
    let f : Provision → List ℕ = λ q. places_at map q.name in
    let within : i < length row.provides = rw (ap length are) at h in
    let is_read : get_or row.provides i p ≡ p = sym (at ∙ ap (λ l. get_or l i p) are) in
    let last : flat_map f (p ∷ []) ≡ places_at map p.name = flat_map-cons f p [] ∙ append-nil (places_at map p.name) in
    let more : flat_map f (take (i + 1) row.provides) ≡ flat_map f (take i row.provides) ++ places_at map p.name = ap (flat_map f) (take_more row.provides i p within ∙ ap (λ q. take i row.provides ++ q ∷ []) is_read) ∙ flat_map-append f (take i row.provides) (p ∷ []) ∙ ap (λ xs. flat_map f (take i row.provides) ++ xs) last in
    added ∙ ap (λ q. old ++ places_at map q) named ∙ ap (λ xs. xs ++ places_at map p.name) so_far ∙ append_assoc (places_at map row.name) (flat_map f (take i row.provides)) (places_at map p.name) ∙ ap (λ xs. places_at map row.name ++ xs) (sym more)

pub to_next : (map : PlacesByName) (row : Binary) (i : ℕ) (p : Provision) (name found : List ℕ) (read : List Provision) → read ≡ row.provides → i < length read → p ≡ get_or read i p → name ≡ p.name → found ≡ places_at map name → places_to map row i ++ found ≡ places_to map row (i + 1)
to_next map row i p name found read are h at named is =
    found_more map row (places_to map row i) (places_to map row i ++ found) i p name read are h at named (ap (λ xs. places_to map row i ++ xs) is) refl

pub to_all : (map : PlacesByName) (row : Binary) (n : ℕ) → length row.provides ≤ n → places_to map row n ≡ places_for map row
to_all map row n h = ap (λ ps. places_at map row.name ++ flat_map (λ p. places_at map p.name) ps) (take_all n row.provides h)

-- the places at the names of the provisions from the n-th on
abbrev pub places_from : PlacesByName → Binary → ℕ → List ℕ
places_from map row n = flat_map (λ p. places_at map p.name) (drop n row.provides)

pub from_first : (map : PlacesByName) (row : Binary) (name found : List ℕ) → found ≡ places_at map name → name ≡ row.name → places_for map row ≡ found ++ places_from map row 0
from_first map row name found are named = ap (λ xs. xs ++ places_from map row 0) (sym (are ∙ ap (λ q. places_at map q) named))

-- those of the next provision, and of the others
pub from_next : (map : PlacesByName) (row : Binary) (i : ℕ) (p : Provision) (name found : List ℕ) (read : List Provision) → read ≡ row.provides → i < length read → p ≡ get_or read i p → name ≡ p.name → found ≡ places_at map name → places_from map row i ≡ found ++ places_from map row (i + 1)
from_next map row i p name found read are h at named is =
    let f : Provision → List ℕ = λ q. places_at map q.name in
    let within : i < length row.provides = rw (ap length are) at h in
    let is_read : get_or row.provides i p ≡ p = sym (at ∙ ap (λ l. get_or l i p) are) in
    ap (flat_map f) (drop_more row.provides i p within ∙ ap (λ q. q ∷ drop (i + 1) row.provides) is_read) ∙ flat_map-cons f p (drop (i + 1) row.provides) ∙ ap (λ xs. xs ++ places_from map row (i + 1)) (sym (is ∙ ap (λ q. places_at map q) named))

pub from_none : (map : PlacesByName) (row : Binary) (n : ℕ) → length row.provides ≤ n → places_from map row n ≡ []
from_none map row n h = ap (λ ps. flat_map (λ p. places_at map p.name) ps) (drop_all n row.provides h)
