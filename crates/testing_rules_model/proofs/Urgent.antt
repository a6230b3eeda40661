-- The most urgent upload that counts is the same among all uploads and among any of them that have those that count.
use Rattle.std.specs.Prelude.{ℕ, ◌≤◌, ◌==◌, Bool, true, false, cond, List, [], ◌∷◌, Contains, filter, map, fold, nat_lt}
use Rattle.std.proofs.Common.{◌≡◌, refl, sym, ap, ◌∙◌, subst, arith, inl, inr}
use Rattle.std.proofs.lemmas.Bool.{cond_both, ltb-true, ltb-false}
use Rattle.std.proofs.lemmas.List.Elements.{Contains-push_cases, Contains-append_cases}
use Rattle.std.proofs.lemmas.Slice.Eq.{bytes_eq-Decides}
use Rattle.std.specs.Str.{bytes_eq}
use Rattle.testing_rules_items.specs.declared.item.Urgency.{Urgency}
use Rattle.testing_rules_items.specs.declared.item.Urgency.TheVariants.{Low, Medium, High, Emergency, Critical}
use Rattle.testing_rules_model.specs.declared.facts.UploadIn.{UploadIn}
use Rattle.testing_rules_items.specs.Words.{Text}
use Rattle.testing_rules_model.specs.Suite.{Suite}
use Rattle.testing_rules_model.specs.Covered.{Covered, uploads_in}
use Rattle.testing_rules_model.specs.Excuses.{urgency_rank, more_urgent, most_urgent, counts, is_news, testing_version}
use Rattle.testing_rules_items.proofs.Members.{none_among, head_of, tail_of}
use Rattle.testing_rules_model.proofs.MoreMail.{both_are}

-- urgencies of one rank are equal
abbrev of_rank : ℕ → Urgency
of_rank n = cond (n == 0) Low (cond (n == 1) Medium (cond (n == 2) High (cond (n == 3) Emergency Critical)))

rank_back : (a : Urgency) → of_rank (urgency_rank a) ≡ a
rank_back Low = refl
rank_back Medium = refl
rank_back High = refl
rank_back Emergency = refl
rank_back Critical = refl

rank_is : (a b : Urgency) → urgency_rank a ≤ urgency_rank b → urgency_rank b ≤ urgency_rank a → a ≡ b
rank_is a b h k =
    let same : urgency_rank a ≡ urgency_rank b = omega arith in
    sym (rank_back a) ∙ ap of_rank same ∙ rank_back b

more-left : (a b : Urgency) → urgency_rank a ≤ urgency_rank (more_urgent a b)
more-left a b =
    cond_both (nat_lt (urgency_rank a) (urgency_rank b)) b a (λ x. urgency_rank a ≤ urgency_rank x)
    (λ e. omega (arith, ltb-true (urgency_rank a) (urgency_rank b) e)) (λ e. omega arith)

more-right : (a b : Urgency) → urgency_rank b ≤ urgency_rank (more_urgent a b)
more-right a b =
    cond_both (nat_lt (urgency_rank a) (urgency_rank b)) b a (λ x. urgency_rank b ≤ urgency_rank x)
    (λ e. omega arith) (λ e. ltb-false (urgency_rank a) (urgency_rank b) e)

more-bound : (a b : Urgency) (n : ℕ) → urgency_rank a ≤ n → urgency_rank b ≤ n → urgency_rank (more_urgent a b) ≤ n
more-bound a b n h k =
    cond_both (nat_lt (urgency_rank a) (urgency_rank b)) b a (λ x. urgency_rank x ≤ n) (λ e. k) (λ e. h)

module _ (p : UploadIn → Bool) where
  abbrev pub most : Urgency → List UploadIn → Urgency
  most z xs = fold more_urgent z (map (λ u. u.urgency) (filter p xs))

  front_at : (b : Bool) (z : Urgency) (x : UploadIn) (xs : List UploadIn) → p x ≡ b
      → urgency_rank (more_urgent z x.urgency) ≤ urgency_rank (most (more_urgent z x.urgency) xs)
      → urgency_rank z ≤ urgency_rank (most z xs) → urgency_rank z ≤ urgency_rank (most z (x ∷ xs))
  front_at true z x xs e h k = rw e (omega (arith, more-left z x.urgency, h))
  front_at false z x xs e h k = rw e k

  most-front : (z : Urgency) (xs : List UploadIn) → urgency_rank z ≤ urgency_rank (most z xs)
  most-front z [] = omega arith
  most-front z (x ∷ xs) = front_at _ z x xs refl (most-front (more_urgent z x.urgency) xs) (most-front z xs)

  most-own : (z : Urgency) (x : UploadIn) (xs : List UploadIn) → p x ≡ true → urgency_rank x.urgency ≤ urgency_rank (most z (x ∷ xs))
  most-own z x xs e = rw e (omega (arith, more-right z x.urgency, most-front (more_urgent z x.urgency) xs))

  tail_at : (b : Bool) (n : ℕ) (z : Urgency) (x : UploadIn) (xs : List UploadIn) → p x ≡ b
      → n ≤ urgency_rank (most (more_urgent z x.urgency) xs) → n ≤ urgency_rank (most z xs) → n ≤ urgency_rank (most z (x ∷ xs))
  tail_at true n z x xs e h k = rw e h
  tail_at false n z x xs e h k = rw e k

  most-each : (z : Urgency) (xs : List UploadIn) (u : UploadIn) → Contains xs u → p u ≡ true → urgency_rank u.urgency ≤ urgency_rank (most z xs)
  most-each z [] u c h = none_among u c
  most-each z (x ∷ xs) u c h =
      elim (Contains-append_cases (x ∷ []) xs u c) [
        | inl own ↦ elim (Contains-push_cases [] x u own) [
          | inl never ↦ none_among u never
          | inr e ↦ let same : x ≡ u = e in subst (λ v. urgency_rank v.urgency ≤ urgency_rank (most z (x ∷ xs))) same (most-own z x xs (ap p same ∙ h))
        ]
        | inr among ↦ tail_at _ (urgency_rank u.urgency) z x xs refl (most-each (more_urgent z x.urgency) xs u among h) (most-each z xs u among h)
      ]

  bound_at : (b : Bool) (n : ℕ) (z : Urgency) (x : UploadIn) (xs : List UploadIn) → p x ≡ b
      → (p x ≡ true → urgency_rank (most (more_urgent z x.urgency) xs) ≤ n) → urgency_rank (most z xs) ≤ n → urgency_rank (most z (x ∷ xs)) ≤ n
  bound_at true n z x xs e h k = rw e (h e)
  bound_at false n z x xs e h k = rw e k

  most-bound : (n : ℕ) (z : Urgency) (xs : List UploadIn) → urgency_rank z ≤ n → ((u : UploadIn) → Contains xs u → p u ≡ true → urgency_rank u.urgency ≤ n) → urgency_rank (most z xs) ≤ n
  most-bound n z [] h k = h
  most-bound n z (x ∷ xs) h k =
      bound_at _ n z x xs refl
      (λ e. most-bound n (more_urgent z x.urgency) xs (more-bound z x.urgency n h (k x (head_of x xs) e)) (λ u c. k u (tail_of x xs u c)))
      (most-bound n z xs h (λ u c. k u (tail_of x xs u c)))

  -- of two lists, of which one has all of the other that pass, the most urgent that passes is the same
  pub most-same : (us vs : List UploadIn) → ((u : UploadIn) → Contains us u → Contains vs u) → ((u : UploadIn) → Contains vs u → p u ≡ true → Contains us u) → most Low us ≡ most Low vs
  most-same us vs are have =
      rank_is _ _
      (most-bound (urgency_rank (most Low vs)) Low us (most-front Low vs) (λ u c h. most-each Low vs u (are u c) h))
      (most-bound (urgency_rank (most Low us)) Low vs (most-front Low us) (λ u c h. most-each Low us u (have u c h) h))

pub urgent-same : (uploads : List UploadIn) (s : Covered) (t : Suite) (name : Text)
    → ((u : UploadIn) → Contains uploads u → Contains (uploads_in s) u)
    → ((u : UploadIn) → Contains (uploads_in s) u → is_news (testing_version t u.source) u.version ≡ true
    → Contains uploads u)
    → most_urgent uploads (testing_version t name) name ≡ most_urgent (uploads_in s) (testing_version t name) name
urgent-same uploads s t name are counted =
    most-same (counts (testing_version t name) name) uploads (uploads_in s) are
    (λ u c h.
    let parts = both_are (bytes_eq u.source name) (is_news (testing_version t name) u.version) h in
    counted u c (ap (λ n. is_news (testing_version t n) u.version) ((bytes_eq-Decides u.source name).0 parts.0) ∙ parts.1))
