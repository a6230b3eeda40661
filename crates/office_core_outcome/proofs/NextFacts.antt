-- The run that a trial of hints tells of.
use Rattle.std.proofs.Common.{◌≡◌, ⊎_elim, inl, inr, ℕ, suc, ◌+◌, ◌<◌, ◌≤◌, Bool, true, false, cond, List, [], ◌∷◌, ◌++◌, length, max, slice_index, Option, Some, None, IsSome, option_to_list, sym, ap, subst, ◌∙◌, refl, arith}
use Rattle.std.specs.Prelude.{Contains, int_lt}
use Rattle.std.specs.FinMap.{get}
use Rattle.std.proofs.lemmas.Bool.{cases_eq, cases_lt, eq-eqb, ne_eqb}
use Rattle.jiff_core.specs.declared.civil.date.Date.{Date}
use Rattle.jiff_core.specs.Date.{epoch_day}
use Rattle.testing_rules_model.specs.Covered.{Covered, CoveredItem}
use Rattle.testing_rules_model.specs.Suite.{Suite}
use Rattle.office_mail.specs.declared.message.RunOrder.{RunOrder}
use Rattle.office_mail.specs.Lists.{Lists}
use Rattle.office_mail.specs.Kept.{Kept, Place}
use Rattle.office_mail.specs.Runs.{IsReady, cover, cover_of, later, latest, latest_day, order_at, orders_to}
use Rattle.office_mail.proofs.ReadyFacts.{cover_of-push}
use Rattle.office_mail.proofs.RunFacts.{orders_to-later}
use Rattle.office_store_keeper.specs.declared.values.Letter.{Letter}
use Rattle.office_core_facts.specs.Outcome.{Outcome, covered_items, item_at, outcome, outcome_of, testing_after}
use Rattle.office_core_orders.specs.Ready.{HasPlaces}
use Rattle.office_core_facts.specs.steps.Walk.{item_of, said_within}
use Rattle.office_core_outcome.proofs.OutcomeFacts.{outcome_is, outcome_of-later}
use Rattle.office_core_facts.proofs.WalkFacts.{of_text, one_of_each, place_within, same_messages, within_place}
use Rattle.office_core_facts.specs.Seen.{covers_all, items_within, release, AreTrialCovers, IsTrialCover}
use Rattle.office_core_outcome.specs.Hints.{hint_letters, with_letters}
use Rattle.office_core_outcome.specs.NextRun.{HasCome, covers_with}
use Rattle.office_core_outcome.specs.Trial.{decided, trial_date, tried}
use Rattle.office_core_facts.proofs.CoveredFacts.{says_within, within_says}
use Rattle.office_core_outcome.proofs.HintFacts.{letter_among, letter_at_number, letters_or_mail, mail_among, numbers_within}
use Rattle.office_core_outcome.proofs.TriedOutcome.{outcome_same}

-- dates

later_self : (b : Bool) (a : Date) → cond b a a ≡ a
later_self true a = refl
later_self false a = refl

later_again : (a d : Date) (b : Bool) → int_lt (epoch_day a) (epoch_day d) ≡ b → later a (cond b d a) ≡ cond b d a
later_again a d true e = ap (λ (c : Bool). cond c d a) e
later_again a d false e = later_self (int_lt (epoch_day a) (epoch_day a)) a

latest-push : (first : Date) (orders : List RunOrder) (order : RunOrder) → latest first (orders ++ order ∷ []) ≡ later (latest first orders) order.day
latest-push first [] order = refl
latest-push first (o ∷ orders) order = latest-push (later first o.day) orders order

some_same : {A : Type 0} (x y : A) → Some x ≡ Some y → x ≡ y
some_same x y e = cc

-- the date of a trial isn't before that of the last run
date_is_later : (last date : Date) (day : Option Date) → trial_date (Some last) day ≡ Some date → later last date ≡ date
date_is_later last date None e = ap (later last) (sym (some_same last date e)) ∙ later_self (int_lt (epoch_day last) (epoch_day last)) last ∙ some_same last date e
date_is_later last date (Some day) e =
    let is : later last day ≡ date = some_same (later last day) date e in
    ap (later last) (sym is) ∙ later_again last day (int_lt (epoch_day last) (epoch_day day)) refl ∙ is

next_day : (orders : List RunOrder) (order : RunOrder) (date : Date) (day : Option Date) → trial_date (latest_day orders) day ≡ Some date → order.day ≡ date → latest_day (orders ++ order ∷ []) ≡ Some date
next_day [] order date day e is = ap Some is
next_day (o ∷ orders) order date day e is =
    ap Some (latest-push o.day orders order ∙ ap (later (latest o.day orders)) is ∙ date_is_later (latest o.day orders) date day e)

-- covers

not_missing : {A : Type 0} {P : Type 0} (o : Option A) → IsSome o → o ≡ None → P
not_missing o some none = absurd (cc (subst IsSome none some))

is_some : {A : Type 0} (o : Option A) (x : A) → o ≡ Some x → IsSome o
is_some o x e = rw e refl

-- a trial covers no less than the finished runs
ahead_by : (setup : Lists) (kept : Kept) (k : ℕ) (all : Bool) (s n : ℕ) (b : Bool) → covers_all setup all s ≡ b → IsReady setup kept k → IsTrialCover setup kept k all s n → cover setup kept k s ≤ n
ahead_by setup kept k all s n true e ready is = ⊎_elim
    (λ (lt : n < cover setup kept k s). not_missing (get kept (s, n + 1)) (ready.mail s (n + 1) (omega arith) (omega (arith, lt))) (is.unbroken e).gap)
    (λ (le : cover setup kept k s ≤ n). le)
    (cases_lt n (cover setup kept k s))
ahead_by setup kept k all s n false e ready is = omega (arith, is.known e)

pub ahead : (setup : Lists) (kept : Kept) (k : ℕ) (all : Bool) (s n : ℕ) → IsReady setup kept k → IsTrialCover setup kept k all s n → cover setup kept k s ≤ n
ahead setup kept k all s n ready is = ahead_by setup kept k all s n (covers_all setup all s) refl ready is

-- and all that it covers is kept
there_by : (setup : Lists) (kept : Kept) (k : ℕ) (all : Bool) (s n j : ℕ) (b : Bool) → covers_all setup all s ≡ b → IsReady setup kept k → IsTrialCover setup kept k all s n → 1 ≤ j → j ≤ n → IsSome (get kept (s, j))
there_by setup kept k all s n j true e ready is low high = (is.unbroken e).each j low high
there_by setup kept k all s n j false e ready is low high = ready.mail s j low (omega (arith, high, is.known e))

there : (setup : Lists) (kept : Kept) (k : ℕ) (all : Bool) (s n j : ℕ) → IsReady setup kept k → IsTrialCover setup kept k all s n → 1 ≤ j → j ≤ n → IsSome (get kept (s, j))
there setup kept k all s n j ready is low high = there_by setup kept k all s n j (covers_all setup all s) refl ready is low high

own_cover : (setup : Lists) (covers : ℕ → ℕ) (count s : ℕ) → s ≡ release setup → covers_with setup covers count s ≡ covers s + count
own_cover setup covers count s e = ap (λ (b : Bool). cond b (covers s + count) (covers s)) (eq-eqb s (release setup) e)

other_cover : (setup : Lists) (covers : ℕ → ℕ) (count s : ℕ) → (s ≡ release setup → ⊥) → covers_with setup covers count s ≡ covers s
other_cover setup covers count s e = ap (λ (b : Bool). cond b (covers s + count) (covers s)) (ne_eqb s (release setup) e)

no_less : (setup : Lists) (covers : ℕ → ℕ) (count s : ℕ) → covers s ≤ covers_with setup covers count s
no_less setup covers count s = ⊎_elim
    (λ (own : s ≡ release setup). omega (arith, own_cover setup covers count s own))
    (λ other. omega (arith, other_cover setup covers count s other))
    (cases_eq s (release setup))

module _ (setup : Lists) (kept late : Kept) (k : ℕ) (all : Bool) (day : Option Date) (date : Date) (covers : ℕ → ℕ) (hints : List (List ℕ)) (ready : IsReady setup kept k) (are : AreTrialCovers setup kept k all covers)
    (dated : trial_date (latest_day (orders_to setup kept k)) day ≡ Some date) (places : HasPlaces setup late) (come : HasCome setup kept late k date covers hints) where
  abbrev n : ℕ
  n = length setup.senders

  abbrev letters : List Letter
  letters = hint_letters setup (covers (release setup)) hints

  abbrev now : ℕ → ℕ
  now = cover setup late (k + 1)

  abbrev mail : Covered
  mail = with_letters setup (release setup) letters (items_within setup kept covers)

  abbrev walked : Covered
  walked = said_within setup late now n

  orders_are : orders_to setup late (k + 1) ≡ orders_to setup kept k ++ come.order ∷ []
  unfolding orders_to
  orders_are =
      let one : k + 1 ≡ suc k = omega arith in
      let ordered : order_at setup late (suc k) ≡ Some come.order = ap (order_at setup late) (sym one) ∙ come.ordered in
      ap (orders_to setup late) one
      ∙ ap (λ (os : List RunOrder). os ++ option_to_list (order_at setup late (suc k))) (orders_to-later setup kept late k come.within ready.orders)
      ∙ ap (λ (o : Option RunOrder). orders_to setup kept k ++ option_to_list o) ordered

  day_is : latest_day (orders_to setup late (k + 1)) ≡ Some date
  day_is = ap latest_day orders_are ∙ next_day (orders_to setup kept k) come.order date day dated come.day

  now_is : (s : ℕ) → s < n → now s ≡ covers_with setup covers (length hints) s
  now_is s low =
      let both : now s ≡ max (cover setup kept k s) (slice_index come.order.covers s) = ap (λ (os : List RunOrder). cover_of os s) orders_are ∙ cover_of-push (orders_to setup kept k) come.order s in
      omega (arith, both, come.stated s low, ahead setup kept k all s (covers s) ready (are s low), no_less setup covers (length hints) s)

  -- what is covered then is what the trial covered, or a hint
  then_tried : (m : CoveredItem) → Contains walked m → Contains mail m
  then_tried m c =
      let p = within_place setup late now n m c in
      let said = of_text setup p.0 (get late p.0) m p.1.is in
      let is = now_is p.0.0 p.1.sender in
      let high = p.1.high in
      ⊎_elim
      (λ (lt : covers p.0.0 < p.0.1). ⊎_elim
      (λ (own : p.0.0 ≡ release setup).
      let same : covers p.0.0 ≡ covers (release setup) = ap covers own in
      let found = letter_at_number setup (covers (release setup)) hints p.0.1 (omega (arith, lt, same)) (omega (arith, high, is, own_cover setup covers (length hints) p.0.0 own, same)) in
      let at : p.0 ≡ (release setup, found.letter.number) = ap (λ (s : ℕ). (s, p.0.1)) own ∙ ap (λ (j : ℕ). (release setup, j)) (sym found.own) in
      let came = come.letters found.letter found.among in
      let text : said.0 ≡ came.text = some_same said.0 came.text (sym said.1 ∙ ap (get late) at ∙ came.there) in
      letter_among setup (release setup) letters (items_within setup kept covers) found.letter m found.among
      (sym came.says ∙ ap (λ (q : Place). item_at setup (q, came.text)) (sym at) ∙ ap (λ (t : List ℕ). item_at setup (p.0, t)) (sym text) ∙ said.2))
      (λ other. absurd (omega (arith, lt, high, is, other_cover setup covers (length hints) p.0.0 other)))
      (cases_eq p.0.0 (release setup)))
      (λ (le : p.0.1 ≤ covers p.0.0).
      let old = come.within p.0 (there setup kept k all p.0.0 (covers p.0.0) p.0.1 ready (are p.0.0 p.1.sender) p.1.low le) in
      mail_among setup (release setup) letters (items_within setup kept covers) m
      (within_says setup kept covers m (record { place = p.0; text = said.0; there = sym old ∙ said.1; is = said.2; low = p.1.low; high = le })))
      (cases_lt (covers p.0.0) p.0.1)

  -- and all of that
  tried_then : (m : CoveredItem) → Contains mail m → Contains walked m
  tried_then m c = elim (letters_or_mail setup (release setup) letters (items_within setup kept covers) m c) [
    | inl says ↦
        let came = come.letters says.letter says.among in
        let low = (places (release setup, says.letter.number) (is_some (get late (release setup, says.letter.number)) came.text came.there)).sender in
        let number = numbers_within setup (covers (release setup)) hints says.letter says.among in
        place_within setup late now n m (release setup, says.letter.number) (record {
          sender = low;
          low = omega (arith, number.0);
          high = omega (arith, number.1, now_is (release setup) low, own_cover setup covers (length hints) (release setup) refl);
          is = ap (item_of setup (release setup, says.letter.number)) came.there ∙ came.says ∙ says.is;
        })
    | inr among ↦
        let says = says_within setup kept covers m among in
        let at : get late says.place ≡ Some says.text = come.within says.place (is_some (get kept says.place) says.text says.there) ∙ says.there in
        let low = (places says.place (is_some (get late says.place) says.text at)).sender in
        place_within setup late now n m says.place (record {
          sender = low;
          low = says.low;
          high = omega (arith, says.high, now_is says.place.0 low, no_less setup covers (length hints) says.place.0);
          is = ap (item_of setup says.place) at ∙ says.is;
        })
  ]

  pub next_is_tried : decided setup (k + 1) (outcome_of setup late (k + 1)) ≡ (tried setup kept k date covers hints).with
  next_is_tried =
      let before : Suite = testing_after setup kept k in
      let stays : testing_after setup late k ≡ before = ap (λ (o : Outcome). o.testing) (outcome_of-later setup kept late k come.within ready) in
      let same : outcome setup (k + 1) date (covered_items setup late (k + 1)) before ≡ outcome setup (k + 1) date mail before =
      outcome_same setup (k + 1) date walked (covered_items setup late (k + 1)) mail before (one_of_each setup late now n) (same_messages setup late (k + 1) places) (then_tried, tried_then) in
      ap (decided setup (k + 1))
      (sym (outcome_is setup late (orders_to setup late (k + 1)) k date refl (sym day_is))
      ∙ ap (outcome setup (k + 1) date (covered_items setup late (k + 1))) stays
      ∙ same)
