-- Covers that say the same of each sender cover the same mail, and mail goes on without a gap up to one number alone.
use Rattle.std.proofs.Common.{◌≡◌, ⊎_elim, ℕ, ◌+◌, ◌<◌, ◌≤◌, Bool, true, false, cond, List, length, Option, Some, None, IsSome, sym, ap, subst, ◌∙◌, refl, arith}
use Rattle.std.specs.FinMap.{get, entries, retain_keys}
use Rattle.std.specs.List.{filter_map}
use Rattle.std.proofs.lemmas.Bool.{cases_lt}
use Rattle.testing_rules_model.specs.Covered.{Covered}
use Rattle.office_mail.specs.Lists.{Lists}
use Rattle.office_mail.specs.Kept.{Kept, Place}
use Rattle.office_mail.specs.Runs.{is_covered}
use Rattle.office_mail.proofs.KeptFacts.{same_kept}
use Rattle.office_core_orders.specs.Ready.{HasPlaces}
use Rattle.office_core_facts.specs.Outcome.{item_at}
use Rattle.office_core_facts.specs.Seen.{IsSeen, IsTrialCover, IsUnbroken, covers_all, items_within}
use Rattle.office_core_facts.proofs.CoveredFacts.{get-covered}

past_gap : (kept : Kept) (s n m : ℕ) → IsUnbroken kept s n → IsUnbroken kept s m → n < m → ⊥
past_gap kept s n m a b low = absurd (cc (subst IsSome a.gap (b.each (n + 1) (omega arith) (omega (arith, low)))))

pub one_end : (kept : Kept) (s n m : ℕ) → IsUnbroken kept s n → IsUnbroken kept s m → n ≡ m
one_end kept s n m a b = ⊎_elim
    (λ (low : n < m). absurd (past_gap kept s n m a b low))
    (λ (high : m ≤ n). ⊎_elim (λ (low : m < n). absurd (past_gap kept s m n b a low)) (λ (le : n ≤ m). omega (arith, high, le)) (cases_lt m n))
    (cases_lt n m)

pub one_cover : (setup : Lists) (kept : Kept) (k : ℕ) (all : Bool) (s n m : ℕ) → IsTrialCover setup kept k all s n → IsTrialCover setup kept k all s m → n ≡ m
one_cover setup kept k all s n m a b = go (covers_all setup all s) refl
  where
    go : (c : Bool) → covers_all setup all s ≡ c → n ≡ m
    go true e = one_end kept s n m (a.unbroken e) (b.unbroken e)
    go false e = a.known e ∙ sym (b.known e)

-- covers that say the same of each sender cover the same mail
none_chosen : (b : Bool) → ◌≡◌ {A = Option (List ℕ)} (cond b None None) None
none_chosen true = refl
none_chosen false = refl

module _ (setup : Lists) (kept : Kept) (places : HasPlaces setup kept) (c d : ℕ → ℕ) (same : (s : ℕ) → s < length setup.senders → c s ≡ d s) where
  at_place : (p : Place) (o : Option (List ℕ)) → get kept p ≡ o → cond (is_covered c p) o None ≡ cond (is_covered d p) o None
  at_place p None e = none_chosen (is_covered c p) ∙ sym (none_chosen (is_covered d p))
  at_place p (Some text) e =
      let there : IsSome (get kept p) = subst IsSome (sym e) refl in
      ap (λ (b : Bool). cond b (Some text) None) (ap (λ (n : ℕ). is_covered (λ s. n) p) (same p.0 (places p there).sender))

  mail_same : retain_keys kept (is_covered c) ≡ retain_keys kept (is_covered d)
  mail_same = same_kept _ _ (λ p. get-covered kept c p ∙ at_place p (get kept p) refl ∙ sym (get-covered kept d p))

  pub items_same : items_within setup kept c ≡ items_within setup kept d
  unfolding items_within
  items_same = ap (λ (m : Kept). filter_map (item_at setup) (entries m)) mail_same

-- all mail without a gap is one thing
pub seen_once : (setup : Lists) (kept : Kept) (x y : Covered) → HasPlaces setup kept → IsSeen setup kept x → IsSeen setup kept y → x ≡ y
seen_once setup kept x y places a b =
    a.is ∙ items_same setup kept places a.covers b.covers (λ s low. one_end kept s (a.covers s) (b.covers s) (a.unbroken s low) (b.unbroken s low)) ∙ sym b.is
