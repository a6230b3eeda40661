-- The office takes the next order that it tells.
use Rattle.std.proofs.Common.{◌≡◌, ℕ, zero, suc, ◌+◌, ◌^◌, ◌<◌, ◌≤◌, ◌==◌, Bool, true, false, cond, List, [], ◌∷◌, ◌++◌, length, map, Ok, Some, None, IsSome, refl, sym, ap, ◌∙◌, subst, ⊎_elim, arith, codes, slice_index}
use Rattle.std.specs.Fmt.{decimal}
use Rattle.std.specs.FinMap.{get, get-insert}
use Rattle.std.specs.List.{AllByRecursion, cons_option, filter_map, list_all, range_with_len, slice_index_or}
use Rattle.std.specs.Ordering.{is_eq}
use Rattle.std.specs.Prelude.{option_and_then}
use Rattle.std.specs.Cmp.{first_so, second_so}
use Rattle.std.proofs.lemmas.Bool.{cases_lt, eq-eqb, false≢true}
use Rattle.std.proofs.lemmas.Cmp.{tied_itself}
use Rattle.std.proofs.lemmas.List.{get_or_past}
use Rattle.std.proofs.lemmas.List.Folds.{flat_map-map}
use Rattle.std.proofs.lemmas.List.FromFn.{get_or-map-range_with_len, length-map-range_with_len}
use Rattle.jiff_core.specs.declared.civil.date.Date.{Date}
use Rattle.jiff.specs.Words.{date_text}
use Rattle.office_mail_setup.specs.declared.setup.Role.TheVariants.{Runs}
use Rattle.office_mail_setup.specs.declared.setup.Sender.{Sender}
use Rattle.office_mail_setup.specs.Setup.{IsSetup, is_sender_name, names_of}
use Rattle.office_mail_setup.specs.Values.{number_in}
use Rattle.office_mail.specs.Covers.{covers_in, may_cover, numbers_by_sender}
use Rattle.office_mail.specs.Kept.{Kept}
use Rattle.office_mail.specs.Lists.{Lists}
use Rattle.office_mail.specs.Read.{read, sender_named}
use Rattle.office_mail.specs.Runs.{order_at, order_in, runs}
use Rattle.office_mail.specs.declared.message.Body.TheVariants.{Run}
use Rattle.office_mail.specs.declared.message.Message.{Message}
use Rattle.office_mail.specs.declared.message.RunOrder.{RunOrder}
use Rattle.office_mail.specs.steps.ReadSteps.{order_in_answer}
use Rattle.office_mail.proofs.KeptFacts.{kept_from-Within, kept_from-free, places_total}
use Rattle.office_mail.proofs.RunFacts.{IsReady-later}
use Rattle.deb_control.specs.Text.{trim_white}
use Rattle.office_core_orders.specs.Ready.{HasEach, HasNumbers, HasPlaces}
use Rattle.office_core_replies.specs.Replies.{name_at}
use Rattle.office_core_orders.proofs.ReadyCount.{ready_more}
use Rattle.office_core.specs.Unbroken.{AreUnbroken}
use Rattle.office_core_queries.specs.Listing.{listed_words, stated_at, stated_to, stated_words}
use Rattle.office_core_queries.specs.NextOrder.{order_cover, order_text}
use Rattle.office_core_laws.specs.OrderTaken.{IsFrom1970, IsTaken, next_order, with_order}
use Rattle.office_core_laws.proofs.OrderCovers.{MayList, Pair, covers_back, listing, next_words, pairs_only}
use Rattle.office_core_laws.proofs.OrderDay.{day_reads, day_word}
use Rattle.office_core_laws.proofs.OrderSenders.{all_listed, name_word, names_once, numbers_are, others_may, pairs_few, pairs_from, place_within, runs_named}
use Rattle.office_core_laws.proofs.OrderText.{number_short, pieces, order_lines, read_whole}
use Rattle.office_core_laws.proofs.OrderWords.{IsWord, number_back, number_is_word}

-- What is listed.

abbrev ElementOf : {A : Type 0} → List A → Type 0
ElementOf {A} xs = A

-- what an order states for a sender, a type of its crate alone
abbrev Stated : Type 0
Stated = ElementOf (stated_to (λ n. 0) 0)

module _ (setup : Lists) where
  abbrev pair_at : Stated → Pair
  pair_at s = (name_at setup s.sender, s.number)

  listed_are : (stated : List Stated) → listed_words setup stated ≡ listing (map pair_at stated)
  listed_are [] = refl
  listed_are (s ∷ ss) = ap (λ (t : List ℕ). 32 ∷ stated_words setup s ++ t) (sym (flat_map-map next_words pair_at ss))

  abbrev all_names : List (List ℕ)
  all_names = names_of setup.senders

  module _ (covers : ℕ → ℕ) where
    one_at : (b : Bool) (k : ℕ) (x : Sender) (rest : List Stated) (ps : List Pair) → (covers k == 0) ≡ b → slice_index_or all_names k [] ≡ x.name → map pair_at rest ≡ ps
        → map pair_at (cons_option (cond b None (Some (record { sender = k; number = covers k }))) rest) ≡ cond b ps ((x.name, covers k) ∷ ps)
    one_at true k x rest ps e n h = h
    one_at false k x rest ps e n h = ap (λ (name : List ℕ). (name, covers k) ∷ map pair_at rest) n ∙ ap (λ (qs : List Pair). (x.name, covers k) ∷ qs) h

    pairs_at : (k : ℕ) (xs : List Sender) → ((i : ℕ) → i < length xs → slice_index_or all_names (k + i) [] ≡ slice_index_or (names_of xs) i [])
        → map pair_at (filter_map (stated_at covers) (range_with_len k (length xs))) ≡ pairs_from covers k xs
    pairs_at k [] h = refl
    pairs_at k (x ∷ xs) h =
        let here : k ≡ k + 0 = omega arith in
        one_at (covers k == 0) k x (filter_map (stated_at covers) (range_with_len (k + 1) (length xs))) (pairs_from covers (k + 1) xs) refl
        (ap (λ n. slice_index_or all_names n []) here ∙ h 0 (omega arith))
        (pairs_at (k + 1) xs (λ i low. let next : (k + 1) + i ≡ k + suc i = omega arith in ap (λ n. slice_index_or all_names n []) next ∙ h (suc i) (omega (arith, low))))

    stated_are : map pair_at (stated_to covers (length setup.senders)) ≡ pairs_from covers 0 setup.senders
    unfolding stated_to
    stated_are = pairs_at 0 setup.senders (λ i low. let same : 0 + i ≡ i = omega arith in ap (λ n. slice_index_or all_names n []) same)

-- The law.

module _ (setup : Lists) (kept : Kept) (unbroken : ℕ → ℕ) (day : Date) (is_setup : IsSetup setup) (places : HasPlaces setup kept) (are : AreUnbroken kept unbroken) (from : IsFrom1970 day)
    (free : unbroken (runs setup) < 999_999_999) where
  abbrev number : ℕ
  number = unbroken (runs setup) + 1

  abbrev covers : ℕ → ℕ
  covers = order_cover setup unbroken

  abbrev senders : List Sender
  senders = setup.senders

  abbrev pairs : List Pair
  pairs = pairs_from covers 0 senders

  abbrev order : RunOrder
  order = next_order setup unbroken day

  abbrev late : Kept
  late = with_order setup kept unbroken day

  unbroken_small : (j : ℕ) → unbroken j ≤ 999_999_999
  unbroken_small j = ⊎_elim
      (λ (some : 0 < unbroken j). (places (j, unbroken j) ((are.each j).each (unbroken j) some (omega arith))).below)
      (λ (none : unbroken j ≤ 0). omega (arith, none))
      (cases_lt 0 (unbroken j))

  small_at : (b : Bool) (j : ℕ) → cond b 0 (unbroken j) ≤ 999_999_999
  small_at true j = omega arith
  small_at false j = unbroken_small j

  covers_small : (j : ℕ) → covers j ≤ 999_999_999
  covers_small j = small_at (j == runs setup) j

  other_at : (b : Bool) (i : ℕ) → (i == runs setup) ≡ b → (cond b 0 (unbroken i) == 0) ≡ false → i ≡ runs setup → ⊥
  other_at true i e some same = false≢true (sym some)
  other_at false i e some same = false≢true (sym e ∙ ap (λ n. n == runs setup) same ∙ itself (runs setup))
    where
      itself : (n : ℕ) → (n == n) ≡ true
      itself n = eq-eqb n n refl

  may_list : (i : ℕ) → i < length senders → (covers i == 0) ≡ false → may_cover setup (slice_index_or (names_of senders) i []) ≡ true
  may_list i low some = others_may senders i low is_setup.runs (other_at (i == runs setup) i refl some)

  listed : AllByRecursion (MayList setup) pairs
  listed = all_listed covers setup covers_small 0 senders is_setup.named
      (λ i low some. let same : 0 + i ≡ i = omega arith in may_list i low (subst (λ n. (covers n == 0) ≡ false) same some))

  within : runs setup < length senders
  within = place_within senders (omega (arith, is_setup.runs))

  abbrev name : List ℕ
  name = name_at setup (runs setup)

  name_is_named : sender_named setup name ≡ Some (runs setup, Runs)
  unfolding sender_named
  name_is_named = let same : 0 + runs setup ≡ runs setup = omega arith in runs_named 0 senders is_setup.distinct within ∙ ap (λ (n : ℕ). Some (n, Runs)) same

  name_is_word : IsWord name × (length name ≤ 32)
  name_is_word = name_word name (named_in senders (runs setup) is_setup.named within)
    where
      named_in : (xs : List Sender) (i : ℕ) → list_all is_sender_name (names_of xs) ≡ true → i < length xs → is_sender_name (slice_index_or (names_of xs) i []) ≡ true
      named_in [] i h low = absurd (omega (arith, low))
      named_in (x ∷ xs) zero h low = first_so _ _ h
      named_in (x ∷ xs) (suc i) h low = named_in xs i (second_so _ _ h) (omega (arith, low))

  low_number : number < 2 ^ 32
  low_number = omega (arith, free)

  number_is : number_in 1 999_999_999 (decimal number) ≡ Some number
  number_is = number_back 1 999_999_999 number low_number (omega arith) (omega (arith, free))

  covers_are : covers_in setup (trim_white (listing pairs)) ≡ Ok order.covers
  unfolding numbers_by_sender
  covers_are = covers_back setup pairs listed (names_once covers 0 senders is_setup.distinct) ∙ ap (λ (ns : List ℕ). Ok ns) (numbers_are covers 0 senders is_setup.distinct)

  few : length pairs ≤ 16
  few = let n = pairs_few covers 0 senders in omega (arith, n, is_setup.few)

  text_is : order_text setup unbroken day ≡ order_lines name (decimal number) (date_text day) pairs
  unfolding order_text
  text_is =
      pieces (codes "From: " ++ name) (10 ∷ codes "Number: ") (decimal number) (10 ∷ codes "Kind: run") (10 ∷ codes "Day: ") (date_text day) (10 ∷ codes "Covers:")
      (listed_words setup (stated_to covers (length senders))) (10 ∷ [])
      ∙ ap (λ (t : List ℕ). (codes "From: " ++ name) ++ (10 ∷ codes "Number: " ++ (decimal number ++ (10 ∷ codes "Kind: run" ++ (10 ∷ codes "Day: " ++ (date_text day ++ (10 ∷ codes "Covers:" ++ (t ++ 10 ∷ []))))))))
      (listed_are setup (stated_to covers (length senders)) ∙ ap listing (stated_are setup covers))

  reads : read setup (order_text setup unbroken day) ≡ Ok (record { sender = runs setup; number = number; body = Run order })
  reads =
      let word = number_is_word number low_number in
      let date = day_word day from in
      ap (read setup) text_is
      ∙ read_whole name (decimal number) (date_text day) pairs name_is_word.0 word date.0 (pairs_only setup pairs listed) few name_is_word.1 (number_short number (omega (arith, free))) date.1
      setup (runs setup) number day order.covers name_is_named number_is (day_reads day from) covers_are

  there : get late (runs setup, number) ≡ Some (order_text setup unbroken day)
  there =
      let message : Message = record { sender = runs setup; number = number; body = Run order } in
      ap (λ (k : Kept). get k (runs setup, number)) (kept_from-free setup kept (order_text setup unbroken day) message reads (are.each (runs setup)).gap)
      ∙ get-insert places_total kept (runs setup, number) (order_text setup unbroken day) (runs setup, number)
      ∙ ap (λ b. cond b (Some (order_text setup unbroken day)) (get kept (runs setup, number))) (ap is_eq (tied_itself places_total (runs setup, number)))

  ordered : order_at setup late number ≡ Some order
  unfolding order_at
  ordered = ap (option_and_then (order_in setup)) there ∙ ap order_in_answer reads

  lifted : (s n : ℕ) → IsSome (get kept (s, n)) → IsSome (get late (s, n))
  lifted s n some = subst IsSome (sym (kept_from-Within setup kept (order_text setup unbroken day ∷ []) (s, n) some)) some

  numbers_at : (b : Bool) (s : ℕ) → HasNumbers late s (cond b 0 (unbroken s))
  numbers_at true s j low high = absurd (omega (arith, low, high))
  numbers_at false s j low high = lifted s j ((are.each s).each j low high)

  each_there : HasEach late order.covers
  each_there s = ⊎_elim
      (λ (low : s < length senders).
      let same : 0 + s ≡ s = omega arith in
      let at : slice_index order.covers s ≡ covers s = get_or-map-range_with_len covers 0 (length senders) s s 0 low same in
      subst (HasNumbers late s) (sym at) (numbers_at (s == runs setup) s))
      (λ (past : length senders ≤ s).
      let at : slice_index order.covers s ≡ 0 = get_or_past order.covers s 0 (omega (arith, past, length-map-range_with_len covers 0 (length senders))) in
      λ j low high. absurd (omega (arith, low, high, at)))
      (cases_lt s (length senders))

  pub is_taken : IsTaken setup kept unbroken day
  is_taken = record {
    reads = reads;
    order = ordered;
    ready = λ before. ready_more setup late (unbroken (runs setup)) order (IsReady-later setup kept late (unbroken (runs setup)) (kept_from-Within setup kept (order_text setup unbroken day ∷ [])) before) ordered each_there;
  }
