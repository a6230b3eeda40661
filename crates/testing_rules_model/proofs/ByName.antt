-- Of what is chosen for each key, the one of a key is what is chosen for it.
use Rattle.std.specs.Prelude.{Bool, true, false, List, [], ◌∷◌, Option, Some, None, filter, find, map}
use Rattle.std.proofs.Common.{◌≡◌, refl, sym, ap, ◌∙◌, subst}
use Rattle.std.proofs.lemmas.Bool.{false≢true}
use Rattle.std.proofs.lemmas.Slice.Eq.{bytes_eq-Decides}
use Rattle.std.specs.List.{filter_map}
use Rattle.std.specs.Str.{bytes_eq}
use Rattle.std.specs.declared.cmp.Ordering.{Ordering}
use Rattle.std.specs.declared.cmp.Ordering.TheVariants.{Less, Equal, Greater}
use Rattle.std.specs.Ordering.{is_eq}
use Rattle.std.specs.Cmp.{IsTotalOrder}
use Rattle.testing_rules_model.specs.declared.facts.UploadIn.{UploadIn}
use Rattle.testing_rules_items.specs.Words.{Text, byte_cmp, least, sorted_by}
use Rattle.testing_rules_model.specs.Unstable.{upload_order}
use Rattle.testing_rules_model.proofs.Orders.{text_order}
use Rattle.testing_rules_model.proofs.Picks.{has_key}
use Rattle.testing_rules_model.proofs.Chosen.{keyed, absent}
use Rattle.testing_rules_model.proofs.MoreMail.{text_tied, text_same, chosen_sources}

is_equal : (r : Ordering) → is_eq r ≡ true → r ≡ Equal
is_equal Less e = absurd (false≢true e)
is_equal Equal e = refl
is_equal Greater e = absurd (false≢true e)

module _ {K : Type 0} {cmp : K → K → Ordering} (o : IsTotalOrder cmp) (tied : (j k : K) → cmp j k ≡ Equal → j ≡ k)
    {A : Type 0} (key : A → K) (test : K → A → Bool) (of_key : (k : K) (x : A) → test k x ≡ true → key x ≡ k) (own : (x : A) → test (key x) x ≡ true)
    (f : K → Option A) (of_its_key : (j : K) (u : A) → f j ≡ Some u → key u ≡ j) (k : K) where
  -- a key that isn't listed has none
  abbrev Lists : List K → Type 0
  Lists ks = has_key o k ks ≡ false → f k ≡ None

  after_none : (b : Bool) (j : K) (ks : List K) → is_eq (cmp k j) ≡ b → f j ≡ None → Lists (j ∷ ks) → Lists ks
  after_none true j ks e n h g = ap f (tied k j (is_equal _ e)) ∙ n
  after_none false j ks e n h g = h (rw (e, g) refl)

  apart : (b : Bool) (j : K) (u : A) → is_eq (cmp k j) ≡ b → key u ≡ j → test k u ≡ false → is_eq (cmp k j) ≡ false
  apart true j u e at h = absurd (false≢true (sym h ∙ subst (λ i. test i u ≡ true) (at ∙ sym (tied k j (is_equal _ e))) (own u)))
  apart false j u e at h = e

  at_some : (b : Bool) (j : K) (u : A) (ks : List K) → test k u ≡ b → f j ≡ Some u → Lists (j ∷ ks) → (Lists ks → find (test k) (filter_map f ks) ≡ f k)
      → find (test k) (u ∷ filter_map f ks) ≡ f k
  at_some true j u ks e at h more = rw e (sym (ap f (sym (of_key k u e) ∙ of_its_key j u at) ∙ at))
  at_some false j u ks e at h more =
      let other : is_eq (cmp k j) ≡ false = apart _ j u refl (of_its_key j u at) e in
      rw e (more (λ g. h (rw (other, g) refl)))

  at_next : (v : Option A) (j : K) (ks : List K) → f j ≡ v → Lists (j ∷ ks) → (Lists ks → find (test k) (filter_map f ks) ≡ f k)
      → find (test k) (filter_map f (j ∷ ks)) ≡ f k
  at_next None j ks e h more = rw e (more (after_none _ j ks refl e h))
  at_next (Some u) j ks e h more = rw e (at_some _ j u ks refl e h more)

  pub found : (ks : List K) → Lists ks → find (test k) (filter_map f ks) ≡ f k
  found [] h = sym (h refl)
  found (j ∷ ks) h = at_next _ j ks refl h (found ks)

-- the upload of a name among those that come first for their names is the one that comes first for this name
pub source-found : (us : List UploadIn) (name : Text) → find (λ u. bytes_eq u.source name) (chosen_sources us) ≡ least upload_order (filter (λ u. bytes_eq u.source name) us)
source-found us name =
    let named : (n : Text) (u : UploadIn) → bytes_eq u.source n ≡ true → u.source ≡ n = λ n u h. (bytes_eq-Decides u.source n).0 h in
    found text_order text_tied (λ (u : UploadIn). u.source) (λ n u. bytes_eq u.source n) named (λ u. text_same u.source)
    (λ n. least upload_order (filter (λ u. bytes_eq u.source n) us))
    (keyed text_order text_tied (λ (u : UploadIn). u.source) upload_order (λ n u. bytes_eq u.source n) named us) name
    (sorted_by (λ n. n) byte_cmp (map (λ u. u.source) us))
    (absent text_order text_tied (λ (u : UploadIn). u.source) upload_order (λ n u. bytes_eq u.source n) named name us)
