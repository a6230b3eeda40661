-- What the letters of a range of numbers say: the orders of runs, and the delays of the release team.
use Rattle.std.proofs.Common.{◌≡◌, ⊎_elim, ◌≤◌, ◌<◌, ◌+◌, ◌-◌, ◌==◌, ◌&&◌, ℕ, zero, suc, List, [], ◌∷◌, ◌++◌, max, Bool, true, false, cond, Option, Some, None, option_map, option_and_then, option_to_list, is_some, slice_index, IsSome, Result, Ok, Err, IfOk, filter_map, refl, sym, ap, subst, ◌∙◌, arith}
use Rattle.std.proofs.lemmas.Bool.Decides.{nat_tests}
use Rattle.std.proofs.lemmas.Bool.{cases_lt}
use Rattle.std.specs.List.{range_with_len, cons_option}
use Rattle.std.specs.FinMap.{get}
use Rattle.testing_rules_model.specs.Covered.{CoveredItem, delays_of}
use Rattle.testing_rules_model.specs.declared.facts.DelaysIn.{DelaysIn}
use Rattle.office_mail.specs.declared.message.Body.{Body}
use Rattle.office_mail.specs.declared.message.Body.TheVariants.{Item, Run}
use Rattle.office_mail.specs.declared.message.Message.{Message}
use Rattle.office_mail.specs.declared.message.MailFault.{MailFault}
use Rattle.office_mail.specs.declared.message.RunOrder.{RunOrder}
use Rattle.office_mail.specs.Kept.{Kept, Place, place_of}
use Rattle.office_mail.specs.Lists.{Lists}
use Rattle.office_mail.specs.Read.{read}
use Rattle.office_mail.specs.Runs.{runs, cover, cover_of, orders_to, order_at, order_in_body}
use Rattle.office_mail.specs.steps.ReadSteps.{order_in_answer}
use Rattle.office_mail.proofs.ReadyFacts.{cover_of-push}
use Rattle.office_store_keeper.specs.declared.values.Letter.{Letter}
use Rattle.office_store_keeper.specs.Content.{letter_at, letters_within}
use Rattle.office_store_keeper.specs.LastDelays.{TellsDelays, IsLastTold}
use Rattle.office_store_keeper.specs.Provenance.{IsSaid}
use Rattle.office_store_keeper.proofs.SaidItems.{is_said, said_text, saying}
use Rattle.office_store_tables.specs.TableContent.{own_by, message_at, release_place}
use Rattle.office_store.specs.Migrating.{order_of, AreMessages}
use Rattle.office_store.specs.steps.MigratingSteps.{stated_by, next_stated, cover_on, delays_in_body, delays_told, told_by, next_told, told_on}

-- an own message that is an order
own_order : (answer : Result Message MailFault) (sender number : ℕ) (order : RunOrder) → order_of (own_by sender number answer) ≡ Some order → order_in_answer answer ≡ Some order
own_order (Ok message) sender number order h = go ((message.sender == sender) && (message.number == number)) h
  where
    go : (b : Bool) → order_of (cond b (Some message) None) ≡ Some order → order_in_body message.body ≡ Some order
    go true h = h
    go false h = absurd (let e = h in cc)
own_order (Err fault) sender number order h = absurd (let e = h in cc)

module _ (setup : Lists) (kept : Kept) where
  -- so many numbers of a sender from one on, as far as they are kept
  abbrev Letters : ℕ → ℕ → ℕ → List Letter
  Letters sender from n = filter_map (letter_at kept sender) (range_with_len from n)

  abbrev numbered : ℕ → List ℕ → Letter
  numbered number text = record { number = number; text = text }

  -- the message at a place whose text is known
  message_is : (sender number : ℕ) (text : List ℕ) → get kept (sender, number) ≡ Some text → message_at setup kept sender number ≡ own_by sender number (read setup text)
  unfolding message_at
  message_is sender number text is = rw is refl

  message_none : (sender number : ℕ) → get kept (sender, number) ≡ None → message_at setup kept sender number ≡ None
  unfolding message_at
  message_none sender number is = rw is refl

  no_message : (sender number : ℕ) → get kept (sender, number) ≡ None → order_of (message_at setup kept sender number) ≡ None
  no_message sender number is = ap order_of (message_none sender number is)

  abbrev release : ℕ
  release = release_place setup

  within_is : (sender to : ℕ) → letters_within kept sender 1 to ≡ Letters sender (0 + 1) to
  unfolding letters_within
  within_is sender to = let n : to + 1 - 1 ≡ to = omega arith in ap (λ n. filter_map (letter_at kept sender) (range_with_len 1 n)) n

  -- ---- the delays

  -- the delays that the release team's message of a number tells, where it is kept
  abbrev told_at : ℕ → Option DelaysIn
  told_at number = delays_told release number (message_at setup kept release number)

  -- the greatest number of these that tells delays, if there is one
  abbrev IsLast : ℕ → Option ℕ → Type 0
  IsLast cover None = (n : ℕ) → 1 ≤ n → n ≤ cover → told_at n ≡ None
  IsLast cover (Some last) = (1 ≤ last) × (last ≤ cover) × IsSome (told_at last) × ((n : ℕ) → 1 ≤ n → n ≤ cover → IsSome (told_at n) → n ≤ last)

  told_more : (k : ℕ) (b : Bool) (last : Option ℕ) → is_some (told_at (k + 1)) ≡ b → IsLast k last → IsLast (k + 1) (cond b (Some (k + 1)) last)
  told_more k true last is so = (omega arith, omega arith, is, λ n low high some. high)
  told_more k false None is so = λ n low high. ⊎_elim
      (λ (lt : k < n). let at : n ≡ k + 1 = omega (arith, lt, high) in subst (λ j. told_at j ≡ None) (sym at) (none_of (told_at (k + 1)) is))
      (λ (le : n ≤ k). so n low le)
      (cases_lt k n)
    where
      none_of : (o : Option DelaysIn) → is_some o ≡ false → o ≡ None
      none_of None h = refl
      none_of (Some d) h = absurd (let e = h in cc)
  told_more k false (Some last) is so = (
    so.0,
    omega (arith, so.1),
    so.2,
    λ n low high some. ⊎_elim
        (λ (lt : k < n). let at : n ≡ k + 1 = omega (arith, lt, high) in let here : is_some (told_at (k + 1)) ≡ true = subst (λ j. is_some (told_at j) ≡ true) at some in absurd (let e = sym here ∙ is in cc))
        (λ (le : n ≤ k). so.3 n low le some)
        (cases_lt k n),
  )

  -- each kept text from one number to another is a message of the release team
  abbrev AreOwn : ℕ → ℕ → Type 0
  AreOwn k last = (j : ℕ) → k + 1 ≤ j → j ≤ last → IsSome (get kept (release, j)) → IsSome (message_at setup kept release j)

  own_from : (k last : ℕ) → (IsSome (get kept (release, k + 1)) → IsSome (message_at setup kept release (k + 1))) → AreOwn (k + 1) last → AreOwn k last
  own_from k last here later j low high some = ⊎_elim
      (λ (lt : k + 1 < j). later j (omega (arith, lt)) high some)
      (λ (le : j ≤ k + 1). let at : j ≡ k + 1 = omega (arith, le, low) in subst (λ i. IsSome (message_at setup kept release i)) (sym at) (here (subst (λ i. IsSome (get kept (release, i))) at some)))
      (cases_lt (k + 1) j)

  pub told_range : (n k : ℕ) (last out : Option ℕ) → IsLast k last → told_on setup last (Letters release (k + 1) n) ≡ Some out → IsLast (k + n) out × AreOwn k (k + n)
  unfolding told_on next_told
  told_range zero k last out so h =
      let same : last ≡ out = cc in
      let at : k ≡ k + 0 = omega arith in
      (subst (λ j. IsLast j out) at (subst (λ o. IsLast k o) same so), λ j low high some. absurd (omega (arith, low, high)))
  told_range (suc n) k last out so h = go (get kept (release, k + 1)) refl (λ l. told_range n (k + 1) l out) h
    where
      at : k + 1 + n ≡ k + suc n
      at = omega arith

      Goal : ℕ → Type 0
      Goal j = IsLast j out × AreOwn k j

      go : (o : Option (List ℕ)) → get kept (release, k + 1) ≡ o → ((l : Option ℕ) → IsLast (k + 1) l → told_on setup l (Letters release (k + 1 + 1) n) ≡ Some out → IsLast (k + 1 + n) out × AreOwn (k + 1) (k + 1 + n)) → told_on setup last (cons_option (option_map (λ text. numbered (k + 1) text) o) (Letters release (k + 1 + 1) n)) ≡ Some out → Goal (k + suc n)
      go None is rec h =
          let none = message_none release (k + 1) is in
          let r = rec last (told_more k false last (ap (λ m. is_some (delays_told release (k + 1) m)) none) so) h in
          subst Goal at (r.0, own_from k (k + 1 + n) (λ some. absurd (let e = sym (ap is_some is) ∙ some in cc)) r.1)
      go (Some text) is rec h = own (own_by release (k + 1) (read setup text)) (message_is release (k + 1) text is) rec h
        where
          own : (m : Option Message) → message_at setup kept release (k + 1) ≡ m → ((l : Option ℕ) → IsLast (k + 1) l → told_on setup l (Letters release (k + 1 + 1) n) ≡ Some out → IsLast (k + 1 + n) out × AreOwn (k + 1) (k + 1 + n)) → option_and_then (λ now. told_on setup now (Letters release (k + 1 + 1) n)) (told_by release (k + 1) last m) ≡ Some out → Goal (k + suc n)
          own None e rec h = absurd (let none = h in cc)
          own (Some message) e rec h =
              let r = rec _ (told_more k (is_some (delays_told release (k + 1) (Some message))) last (ap (λ m. is_some (delays_told release (k + 1) m)) e) so) h in
              subst Goal at (r.0, own_from k (k + 1 + n) (λ some. ap is_some e) r.1)

  pub told_fails : (n k : ℕ) (last : Option ℕ) → told_on setup last (Letters release (k + 1) n) ≡ None → AreOwn k (k + n) → ⊥
  unfolding told_on next_told
  told_fails zero k last h own = let e = h in cc
  told_fails (suc n) k last h all = go (get kept (release, k + 1)) refl (λ l. told_fails n (k + 1) l) h
    where
      at : k + suc n ≡ k + 1 + n
      at = omega arith

      later : AreOwn (k + 1) (k + 1 + n)
      later j low high some = all j (omega (arith, low)) (omega (arith, high, at)) some

      go : (o : Option (List ℕ)) → get kept (release, k + 1) ≡ o → ((l : Option ℕ) → told_on setup l (Letters release (k + 1 + 1) n) ≡ None → AreOwn (k + 1) (k + 1 + n) → ⊥) → told_on setup last (cons_option (option_map (λ text. numbered (k + 1) text) o) (Letters release (k + 1 + 1) n)) ≡ None → ⊥
      go None is rec h = rec last h later
      go (Some text) is rec h = own (own_by release (k + 1) (read setup text)) (message_is release (k + 1) text is) rec h
        where
          own : (m : Option Message) → message_at setup kept release (k + 1) ≡ m → ((l : Option ℕ) → told_on setup l (Letters release (k + 1 + 1) n) ≡ None → AreOwn (k + 1) (k + 1 + n) → ⊥) → option_and_then (λ now. told_on setup now (Letters release (k + 1 + 1) n)) (told_by release (k + 1) last m) ≡ None → ⊥
          own None e rec h = let some = all (k + 1) (omega arith) (omega (arith, at)) (ap is_some is) in let f = sym (ap is_some e) ∙ some in cc
          own (Some message) e rec h = rec _ h later

  -- ---- the orders

  -- each number from one to another is kept as an order
  abbrev AreOrders : ℕ → ℕ → Type 0
  AreOrders k last = (j : ℕ) → k + 1 ≤ j → j ≤ last → IsSome (order_of (message_at setup kept (runs setup) j))

  orders_from : (k last : ℕ) → IsSome (order_of (message_at setup kept (runs setup) (k + 1))) → AreOrders (k + 1) last → AreOrders k last
  orders_from k last here later j low high = ⊎_elim
      (λ (lt : k + 1 < j). later j (omega (arith, lt)) high)
      (λ (le : j ≤ k + 1). let at : j ≡ k + 1 = omega (arith, le, low) in subst (λ i. IsSome (order_of (message_at setup kept (runs setup) i))) (sym at) here)
      (cases_lt (k + 1) j)

  -- behind a number that is missing no letter has it
  stuck : (finished k cover n from : ℕ) → k + 1 < from → k < finished → cover_on setup finished k cover (Letters (runs setup) from n) ≡ None
  unfolding cover_on next_stated
  stuck finished k cover zero from above below = let not : (k == finished) ≡ false = grind (arith, nat_tests) in rw not refl
  stuck finished k cover (suc n) from above below = go (get kept (runs setup, from)) (stuck finished k cover n (from + 1) (omega (arith, above)) below)
    where
      go : (o : Option (List ℕ)) → cover_on setup finished k cover (Letters (runs setup) (from + 1) n) ≡ None → cover_on setup finished k cover (cons_option (option_map (λ text. numbered from text) o) (Letters (runs setup) (from + 1) n)) ≡ None
      go None h = h
      go (Some text) h = let not : (from == (k + 1)) ≡ false = grind (arith, nat_tests) in rw not refl

  -- one order more
  order_more : (k cover : ℕ) (text : List ℕ) (order : RunOrder) → get kept (runs setup, k + 1) ≡ Some text → order_of (own_by (runs setup) (k + 1) (read setup text)) ≡ Some order → cover ≡ cover_of (orders_to setup kept k) release
      → max cover (slice_index order.covers release) ≡ cover_of (orders_to setup kept (k + 1)) release
  unfolding orders_to order_at
  order_more k cover text order is own so =
      let next : k + 1 ≡ suc k = omega arith in
      let there : option_and_then (λ t. order_in_answer (read setup t)) (get kept (runs setup, k + 1)) ≡ Some order = ap (option_and_then (λ t. order_in_answer (read setup t))) is ∙ own_order (read setup text) (runs setup) (k + 1) order own in
      let here : order_at setup kept (suc k) ≡ Some order = ap (order_at setup kept) (sym next) ∙ there in
      let grown : orders_to setup kept (suc k) ≡ orders_to setup kept k ++ order ∷ [] = ap (λ o. orders_to setup kept k ++ option_to_list o) here in
      ap (λ c. max c (slice_index order.covers release)) so ∙ sym (cover_of-push (orders_to setup kept k) order release) ∙ sym (ap (λ os. cover_of os release) grown) ∙ ap (λ j. cover_of (orders_to setup kept j) release) (sym next)

  pub cover_range : (n k finished cover out : ℕ) → finished ≡ k + n → cover ≡ cover_of (orders_to setup kept k) release → cover_on setup finished k cover (Letters (runs setup) (k + 1) n) ≡ Some out
      → (out ≡ cover_of (orders_to setup kept finished) release) × AreOrders k finished
  unfolding cover_on next_stated
  cover_range zero k finished cover out all so h =
      let here : (k == finished) ≡ true = grind (arith, nat_tests) in
      let at : k ≡ finished = omega (arith, all) in
      let got : Some cover ≡ Some out = rw here at h in
      let same : cover ≡ out = cc in
      (sym same ∙ so ∙ ap (λ j. cover_of (orders_to setup kept j) release) at, λ j low high. absurd (omega (arith, low, high, at)))
  cover_range (suc n) k finished cover out all so h = go (get kept (runs setup, k + 1)) refl (λ c. cover_range n (k + 1) finished c out (omega (arith, all))) h
    where
      Goal : Type 0
      Goal = (out ≡ cover_of (orders_to setup kept finished) release) × AreOrders k finished

      own : ((k + 1) == (k + 1)) ≡ true
      own = grind (arith, nat_tests)

      go : (o : Option (List ℕ)) → get kept (runs setup, k + 1) ≡ o → ((c : ℕ) → c ≡ cover_of (orders_to setup kept (k + 1)) release → cover_on setup finished (k + 1) c (Letters (runs setup) (k + 1 + 1) n) ≡ Some out → (out ≡ cover_of (orders_to setup kept finished) release) × AreOrders (k + 1) finished) → cover_on setup finished k cover (cons_option (option_map (λ text. numbered (k + 1) text) o) (Letters (runs setup) (k + 1 + 1) n)) ≡ Some out → Goal
      go None is rec h = let none = stuck finished k cover n (k + 1 + 1) (omega arith) (omega (arith, all)) in absurd (let e = sym none ∙ h in cc)
      go (Some text) is rec h = at_order (order_of (own_by (runs setup) (k + 1) (read setup text))) refl rec (rw own at h)
        where
          at_order : (o : Option RunOrder) → order_of (own_by (runs setup) (k + 1) (read setup text)) ≡ o → ((c : ℕ) → c ≡ cover_of (orders_to setup kept (k + 1)) release → cover_on setup finished (k + 1) c (Letters (runs setup) (k + 1 + 1) n) ≡ Some out → (out ≡ cover_of (orders_to setup kept finished) release) × AreOrders (k + 1) finished)
              → option_and_then (λ stated. cover_on setup finished (k + 1) (max cover stated) (Letters (runs setup) (k + 1 + 1) n)) (stated_by release o) ≡ Some out → Goal
          at_order None e rec h = absurd (let none = h in cc)
          at_order (Some order) e rec h =
              let r = rec (max cover (slice_index order.covers release)) (order_more k cover text order is e so) h in
              (r.0, orders_from k finished (ap is_some (ap order_of (message_is (runs setup) (k + 1) text is) ∙ e)) r.1)

  pub cover_fails : (n k finished cover : ℕ) → finished ≡ k + n → cover_on setup finished k cover (Letters (runs setup) (k + 1) n) ≡ None → AreOrders k finished → ⊥
  unfolding cover_on next_stated
  cover_fails zero k finished cover all h orders =
      let here : (k == finished) ≡ true = grind (arith, nat_tests) in
      let got : Some cover ≡ None = rw here at h in
      cc
  cover_fails (suc n) k finished cover all h orders = go (get kept (runs setup, k + 1)) refl (λ c. cover_fails n (k + 1) finished c (omega (arith, all))) h
    where
      own : ((k + 1) == (k + 1)) ≡ true
      own = grind (arith, nat_tests)

      here : IsSome (order_of (message_at setup kept (runs setup) (k + 1)))
      here = orders (k + 1) (omega arith) (omega (arith, all))

      later : AreOrders (k + 1) finished
      later j low high = orders j (omega (arith, low)) high

      go : (o : Option (List ℕ)) → get kept (runs setup, k + 1) ≡ o → ((c : ℕ) → cover_on setup finished (k + 1) c (Letters (runs setup) (k + 1 + 1) n) ≡ None → AreOrders (k + 1) finished → ⊥) → cover_on setup finished k cover (cons_option (option_map (λ text. numbered (k + 1) text) o) (Letters (runs setup) (k + 1 + 1) n)) ≡ None → ⊥
      go None is rec h = let e = sym (ap is_some (no_message (runs setup) (k + 1) is)) ∙ here in cc
      go (Some text) is rec h = at_order (order_of (own_by (runs setup) (k + 1) (read setup text))) (ap order_of (message_is (runs setup) (k + 1) text is)) rec (rw own at h)
        where
          at_order : (o : Option RunOrder) → order_of (message_at setup kept (runs setup) (k + 1)) ≡ o → ((c : ℕ) → cover_on setup finished (k + 1) c (Letters (runs setup) (k + 1 + 1) n) ≡ None → AreOrders (k + 1) finished → ⊥)
              → option_and_then (λ stated. cover_on setup finished (k + 1) (max cover stated) (Letters (runs setup) (k + 1 + 1) n)) (stated_by release o) ≡ None → ⊥
          at_order None e rec h = let f = sym (ap is_some e) ∙ here in cc
          at_order (Some order) e rec h = rec (max cover (slice_index order.covers release)) h later

  -- ---- from the first number on

  own_by_is : (m : Message) (number : ℕ) → place_of m ≡ (release, number) → own_by release number (Ok m) ≡ Some m
  own_by_is m number e =
      let a : m.sender ≡ release = ap (λ (p : Place). p.0) e in
      let b : m.number ≡ number = ap (λ (p : Place). p.1) e in
      let c : (m.sender == release) ≡ true = grind (arith, nat_tests) in
      let d : (m.number == number) ≡ true = grind (arith, nat_tests) in
      rw (c, d) refl

  tells_there : (number : ℕ) → TellsDelays setup kept number → IsSome (told_at number)
  tells_there number t =
      let m : CoveredItem = record { sender = release; number = number; item = t.0.item } in
      let same : t.0 ≡ m = λ i. record { sender = t.1 i; number = t.2 i; item = t.0.item } in
      let it = said_text setup kept m (subst (IsSaid setup kept) same t.3) in
      let is : message_at setup kept release number ≡ Some (saying m) = message_is release number it.text it.stands ∙ ap (own_by release number) it.reads ∙ own_by_is (saying m) number refl in
      subst (λ o. IsSome (delays_told release number o)) (sym is) (subst (λ (x : CoveredItem). IsSome (delays_of x)) same t.4)

  there_tells : (number : ℕ) → IsSome (told_at number) → TellsDelays setup kept number
  there_tells number some = go (get kept (release, number)) refl
    where
      own : (text : List ℕ) → get kept (release, number) ≡ Some text → (r : Result Message MailFault) → read setup text ≡ r → IsSome (delays_told release number (own_by release number r)) → TellsDelays setup kept number
      own text is (Err f) e h = absurd (let x = h in cc)
      own text is (Ok m) e h = at ((m.sender == release)) refl ((m.number == number)) refl h
        where
          of_body : (b : Body) → m.body ≡ b → m.sender ≡ release → m.number ≡ number → IsSome (delays_in_body release number b) → TellsDelays setup kept number
          of_body (Run order) here s n h = absurd (let x = h in cc)
          of_body (Item item) here s n h =
              let c : CoveredItem = record { sender = release; number = number; item = item } in
              let same : m ≡ saying c = λ i. record { sender = s i; number = n i; body = here i } in
              (c, refl, refl, is_said setup kept c text is (e ∙ ap Ok same), h)

          at : (a : Bool) → (m.sender == release) ≡ a → (b : Bool) → (m.number == number) ≡ b → IsSome (delays_told release number (cond (a && b) (Some m) None)) → TellsDelays setup kept number
          at true p true q h =
              let s : m.sender ≡ release = grind (arith, nat_tests) in
              let n : m.number ≡ number = grind (arith, nat_tests) in
              of_body m.body refl s n h
          at true p false q h = absurd (let x = h in cc)
          at false p b q h = absurd (let x = h in cc)

      go : (o : Option (List ℕ)) → get kept (release, number) ≡ o → TellsDelays setup kept number
      go None is = absurd (let none : told_at number ≡ None = ap (delays_told release number) (message_none release number is) in let e = sym (ap is_some none) ∙ some in cc)
      go (Some text) is = own text is (read setup text) refl (subst (λ m. IsSome (delays_told release number m)) (message_is release number text is) some)

  last_told : (to : ℕ) (last : Option ℕ) → IsLast to last → IsLastTold setup kept to last
  last_told to None so = λ n low high t. let some = tells_there n t in let e = sym (ap is_some (so n low high)) ∙ some in cc
  last_told to (Some last) so = (so.0, so.1, there_tells last so.2, λ n low high t. so.3 n low high (tells_there n t))

  pub covers : (finished to : ℕ) → cover_on setup finished 0 0 (letters_within kept (runs setup) 1 finished) ≡ Some to → (to ≡ cover setup kept finished release) × AreOrders 0 finished
  unfolding orders_to cover_of
  covers finished to h = cover_range finished 0 finished 0 to (omega arith) refl (subst (λ l. cover_on setup finished 0 0 l ≡ Some to) (within_is (runs setup) finished) h)

  pub uncovered : (finished : ℕ) → cover_on setup finished 0 0 (letters_within kept (runs setup) 1 finished) ≡ None → AreMessages setup kept finished → ⊥
  uncovered finished h messages = cover_fails finished 0 finished 0 (omega arith) (subst (λ l. cover_on setup finished 0 0 l ≡ None) (within_is (runs setup) finished) h) (λ j low high. messages.orders j (omega (arith, low)) high)

  pub tells : (finished to : ℕ) (last : Option ℕ) → cover_on setup finished 0 0 (letters_within kept (runs setup) 1 finished) ≡ Some to → told_on setup None (letters_within kept release 1 to) ≡ Some last
      → AreMessages setup kept finished × IsLastTold setup kept (cover setup kept finished release) last
  tells finished to last stated told =
      let c = covers finished to stated in
      let t = told_range to 0 None last (λ n low high. absurd (omega (arith, low, high))) (subst (λ l. told_on setup None l ≡ Some last) (within_is release to) told) in
      let none : 0 + to ≡ to = omega arith in (
        record {
          orders = λ k low high. c.1 k (omega (arith, low)) high;
          release = λ n low high some. t.1 n (omega (arith, low)) (omega (arith, high, c.0)) some;
        },
        subst (λ j. IsLastTold setup kept j last) (none ∙ c.0) (last_told (0 + to) last t.0),
      )

  pub untold : (finished to : ℕ) → cover_on setup finished 0 0 (letters_within kept (runs setup) 1 finished) ≡ Some to → told_on setup None (letters_within kept release 1 to) ≡ None → AreMessages setup kept finished → ⊥
  untold finished to stated told messages =
      let c = covers finished to stated in
      told_fails to 0 None (subst (λ l. told_on setup None l ≡ None) (within_is release to) told) (λ j low high some. messages.release j (omega (arith, low)) (omega (arith, high, c.0)) some)

  pub tells_on : {F : Type 0} (finished to : ℕ) (result : Result (Option ℕ) F) → cover_on setup finished 0 0 (letters_within kept (runs setup) 1 finished) ≡ Some to → IfOk result (λ last. told_on setup None (letters_within kept release 1 to) ≡ Some last)
      → IfOk result (λ last. AreMessages setup kept finished × IsLastTold setup kept (cover setup kept finished release) last)
  tells_on finished to (Ok last) stated told = tells finished to last stated told
  tells_on finished to (Err e) stated told = tt
