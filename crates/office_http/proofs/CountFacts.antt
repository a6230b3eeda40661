-- The counts of kept mail are functions of it.
use Rattle.std.proofs.Common.{◌≡◌, ◌≤◌, ◌<◌, ◌+◌, ◌-◌, ℕ, zero, suc, Bool, true, false, nat_eq, List, [], ◌∷◌, map, filter_map, is_some, Option, Some, None, refl, sym, ap, ◌∙◌, arith}
use Rattle.std.specs.Prelude.{IsSome, ◌==◌}
use Rattle.std.proofs.lemmas.Bool.Decides.{nat_tests}
use Rattle.std.specs.List.{AllByRecursion, range_with_len}
use Rattle.std.specs.FinMap.{get}
use Rattle.office_mail.specs.Kept.{Kept}
use Rattle.office_store_keeper.specs.declared.values.Letter.{Letter}
use Rattle.office_store_keeper.specs.Content.{letter_at, letters_within}
use Rattle.office_mail.specs.Lists.{Lists}
use Rattle.office_core.specs.Unbroken.{AreUnbroken}
use Rattle.office_core_orders.specs.Ready.{HasNumbers, HasPlaces}
use Rattle.office_core_queries.specs.declared.mail.MailCount.{MailCount}
use Rattle.office_core_queries.specs.Mail.{AreMailCounts, IsMailCount}
use Rattle.office_http.specs.Serve.{unbroken_from, unbroken_of, mail_count}

module _ (kept : Kept) (sender : ℕ) where
  -- so many numbers of the sender from one on, as far as they are kept
  abbrev Letters : ℕ → ℕ → List Letter
  Letters from n = filter_map (letter_at kept sender) (range_with_len from n)

  abbrev after : ℕ → Option (List ℕ) → ℕ → List Letter → ℕ
  after last None from rest = unbroken_from last rest
  after last (Some text) from rest = unbroken_from last (record { number = from; text = text } ∷ rest)

  split : (last from n : ℕ) (o : Option (List ℕ)) → get kept (sender, from) ≡ o → unbroken_from last (Letters from (suc n)) ≡ after last o from (Letters (from + 1) n)
  split last from n None is = rw is refl
  split last from n (Some text) is = rw is refl

  gap_stays : (last from : ℕ) → last + 1 < from → (from == last + 1) ≡ false
  gap_stays last from low = grind (arith, nat_tests)

  goes_on : (last : ℕ) → (last + 1 == last + 1) ≡ true
  goes_on last = grind (arith, nat_tests)

  -- what is kept behind a gap counts for nothing
  behind_gap : (n last from : ℕ) → last + 1 < from → unbroken_from last (Letters from n) ≡ last
  behind_gap zero last from low = refl
  behind_gap (suc n) last from low = split last from n _ refl ∙ go (get kept (sender, from)) (behind_gap n last (from + 1) (omega (arith, low)))
    where
      go : (o : Option (List ℕ)) → unbroken_from last (Letters (from + 1) n) ≡ last → after last o from (Letters (from + 1) n) ≡ last
      go None h = h
      go (Some text) h = rw (gap_stays last from low) refl

  some_here : (o : Option (List ℕ)) → is_some o ≡ true → (text : List ℕ) × (o ≡ Some text)
  some_here None h = absurd (let e = h in cc)
  some_here (Some text) h = (text, refl)

  pub unbroken_is : (n last u : ℕ) → last ≤ u → u ≤ last + n → ((k : ℕ) → last + 1 ≤ k → k ≤ u → IsSome (get kept (sender, k))) → get kept (sender, u + 1) ≡ None → unbroken_from last (Letters (last + 1) n) ≡ u
  unbroken_is zero last u low high each gap = omega (arith, low, high)
  unbroken_is (suc n) last u low high each gap =
      go (nat_eq last u) refl (λ up. unbroken_is n (last + 1) u up (omega (arith, high)) (λ k least most. each k (omega (arith, least)) most) gap)
    where
      go : (b : Bool) → nat_eq last u ≡ b → (last + 1 ≤ u → unbroken_from (last + 1) (Letters (last + 1 + 1) n) ≡ u) → unbroken_from last (Letters (last + 1) (suc n)) ≡ u
      go true is more =
          let same : last ≡ u = grind (arith, nat_tests) in
          split last (last + 1) n None (ap (λ (k : ℕ). get kept (sender, k + 1)) same ∙ gap) ∙ behind_gap n last (last + 1 + 1) (omega arith) ∙ same
      go false is more =
          let up : last + 1 ≤ u = grind (arith, nat_tests) in
          let s = some_here (get kept (sender, last + 1)) (each (last + 1) (omega arith) up) in
          split last (last + 1) n (Some s.0) s.1 ∙ rw (goes_on last) (more up)

module _ (setup : Lists) (kept : Kept) (places : HasPlaces setup kept) where
  within_is : (sender to : ℕ) → letters_within kept sender 1 to ≡ Letters kept sender (0 + 1) to
  unfolding letters_within
  within_is sender to = let n : to + 1 - 1 ≡ to = omega arith in ap (λ n. filter_map (letter_at kept sender) (range_with_len 1 n)) n

  -- no gap is told behind the greatest number that a message may have
  bounded : (sender u : ℕ) → HasNumbers kept sender u → u ≤ 0 + 999_999_999
  bounded sender u each = go (nat_eq u 0) refl
    where
      go : (b : Bool) → nat_eq u 0 ≡ b → u ≤ 0 + 999_999_999
      go true none = grind (arith, nat_tests)
      go false some = let low : 1 ≤ u = grind (arith, nat_tests) in let p = places (sender, u) (each u low (omega arith)) in omega (arith, p.below)

  unbroken_to : (sender u : ℕ) → HasNumbers kept sender u → get kept (sender, u + 1) ≡ None → unbroken_of kept sender ≡ u
  unbroken_to sender u each gap = ap (unbroken_from 0) (within_is sender 999_999_999) ∙ unbroken_is kept sender 999_999_999 0 u (omega arith) (bounded sender u each) each gap

  count_is : (c : MailCount) → IsMailCount kept c → c ≡ mail_count kept c.sender
  count_is c is =
      let unbroken : unbroken_of kept c.sender ≡ c.unbroken = unbroken_to c.sender c.unbroken is.each is.gap in
      λ i. record { sender = c.sender; count = is.all i; unbroken = sym unbroken i; greatest = is.last i }

  each_is : (counts : List MailCount) → AllByRecursion (IsMailCount kept) counts → counts ≡ map (mail_count kept) (map (λ (c : MailCount). c.sender) counts)
  each_is [] all = refl
  each_is (c ∷ counts) all = λ i. count_is c all.0 i ∷ each_is counts all.1 i

  pub counts_are : (n : ℕ) (counts : List MailCount) → AreMailCounts kept n counts → counts ≡ map (mail_count kept) (range_with_len 0 n)
  counts_are n counts are = each_is counts are.each ∙ ap (map (mail_count kept)) are.senders

  pub unbroken_are : (unbroken : ℕ → ℕ) → AreUnbroken kept unbroken → unbroken ≡ unbroken_of kept
  unbroken_are unbroken are = λ i s. sym (unbroken_to s (unbroken s) (are.each s).each (are.each s).gap) i
