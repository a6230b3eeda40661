-- Which sources fell.
use Rattle.std.specs.Prelude.{Bool, true, false, List, [], ◌∷◌, filter, find, Contains, Option, Some, None, option_map}
use Rattle.std.proofs.Common.{◌≡◌, refl, sym, ap, ◌∙◌, subst, inl, inr, ◌⊎◌}
use Rattle.std.specs.Cmp.{IsTotalOrder}
use Rattle.std.specs.Str.{bytes_eq}
use Rattle.std.specs.declared.cmp.Ordering.{Ordering}
use Rattle.std.specs.declared.cmp.Ordering.TheVariants.{Less, Equal, Greater}
use Rattle.std.specs.Ordering.{is_gt, ordering_reverse}
use Rattle.std.proofs.lemmas.Bool.{false≢true}
use Rattle.std.proofs.lemmas.Slice.Eq.{bytes_eq-Decides}
use Rattle.deb_version.specs.steps.Laws.{version_order}
use Rattle.testing_rules_model.specs.declared.suite.SourceIn.{SourceIn}
use Rattle.testing_rules_model.specs.Suite.{Suite}
use Rattle.testing_rules_items.specs.Words.{Text, is_above}
use Rattle.testing_rules_model.specs.Excuses.{is_news, testing_version}
use Rattle.testing_rules_model.specs.steps.Excuses.{entry_of}
use Rattle.testing_rules_items.proofs.Members.{tail_of}
use Rattle.testing_rules_model.proofs.Sets.{at_front, maps}
use Rattle.testing_rules_model.proofs.Least.{to_filter}
use Rattle.testing_rules_model.specs.steps.KeptFacts.{AreFallen}
use Rattle.testing_rules_excuses.specs.Fallen.{fallen_names}

-- above what isn't below: of w below v, and not below s, v is above s
module _ {K : Type 0} {cmp : K → K → Ordering} (o : IsTotalOrder cmp) where
  is_greater : (r : Ordering) → is_gt r ≡ true → r ≡ Greater
  is_greater Less h = absurd (false≢true h)
  is_greater Equal h = absurd (false≢true h)
  is_greater Greater h = refl

  above_at : (r : Ordering) (s w v : K) → cmp v s ≡ r → is_gt (cmp v w) ≡ true → is_gt (cmp s w) ≡ false → is_gt (cmp v s) ≡ true
  above_at Greater s w v e h k = ap is_gt e
  above_at Equal s w v e h k = absurd (false≢true (sym k ∙ ap is_gt (sym (o.congr v s w e)) ∙ h))
  above_at Less s w v e h k =
      let low : cmp w v ≡ Less = o.antisymm w v ∙ ap ordering_reverse (is_greater (cmp v w) h) in
      let far : cmp w s ≡ Less = o.trans w v s low e in
      let back : cmp s w ≡ Greater = o.antisymm s w ∙ ap ordering_reverse far in
      absurd (false≢true (sym k ∙ ap is_gt back))

  pub above : (s w v : K) → is_gt (cmp v w) ≡ true → is_gt (cmp s w) ≡ false → is_gt (cmp v s) ≡ true
  above s w v h k = above_at (cmp v s) s w v refl h k

-- what a search finds
found_at : {A : Type 0} (p : A → Bool) (b : Bool) (x : A) (xs : List A) (y : A) → p x ≡ b → (find p xs ≡ Some y → Contains xs y × (p y ≡ true)) → find p (x ∷ xs) ≡ Some y → Contains (x ∷ xs) y × (p y ≡ true)
found_at p true x xs y e h is =
    let now : Some x ≡ Some y = rw e at is in
    let same : x ≡ y = cc in
    (at_front x y xs same, sym (ap p same) ∙ e)
found_at p false x xs y e h is = let now : find p xs ≡ Some y = rw e at is in let r = h now in (tail_of x xs y r.0, r.1)

found : {A : Type 0} (p : A → Bool) (xs : List A) (y : A) → find p xs ≡ Some y → Contains xs y × (p y ≡ true)
found p [] y is = let no : None ≡ Some y = is in absurd (let never : ⊥ = cc in never)
found p (x ∷ xs) y is = found_at p (p x) x xs y refl (found p xs y) is

-- beside a version that isn't below
news_at : (now : Option Text) (s v : Text) → is_news now v ≡ true → is_news now s ≡ false → is_above v s ≡ true
news_at None s v h k = absurd (false≢true (sym k))
news_at (Some w) s v h k = above version_order s w v h k

module _ (old new : Suite) where
  fell : SourceIn → Bool
  fell s = is_news (testing_version new s.name) s.version

  named_at : (b : Bool) (s : SourceIn) (name v : Text) → is_news (testing_version new s.name) s.version ≡ b → s.name ≡ name → Contains old.sources s → is_news (testing_version new name) v ≡ true
      → (is_above v s.version ≡ true) ⊎ Contains (fallen_names old new) name
  named_at true s name v e same c h =
      inr (subst (Contains (fallen_names old new)) same (maps (λ (x : SourceIn). x.name) (filter (λ (x : SourceIn). is_news (testing_version new x.name) x.version) old.sources) s
      (to_filter (λ (x : SourceIn). is_news (testing_version new x.name) x.version) old.sources s c e)))
  named_at false s name v e same c h = inl (news_at (testing_version new name) s.version v h (ap (λ n. is_news (testing_version new n) s.version) (sym same) ∙ e))

  entry_at : (m : Option SourceIn) (name v : Text) → entry_of old.sources name ≡ m → is_news (testing_version new name) v ≡ true
      → (is_news (option_map (λ s. s.version) m) v ≡ true) ⊎ Contains (fallen_names old new) name
  entry_at None name v e h = inl refl
  entry_at (Some s) name v e h =
      let f = found (λ (x : SourceIn). bytes_eq x.name name) old.sources s e in
      named_at (is_news (testing_version new s.name) s.version) s name v refl ((bytes_eq-Decides s.name name).0 f.1) f.0 h

  pub are_fallen : AreFallen (fallen_names old new) old new
  are_fallen name v h = entry_at (entry_of old.sources name) name v refl h

pub names_are_fallen : (old new : Suite) → AreFallen (fallen_names old new) old new
names_are_fallen old new = are_fallen old new
