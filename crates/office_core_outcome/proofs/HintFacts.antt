-- Messages of hints: what they say, and their numbers.
use Rattle.std.proofs.Common.{◌≡◌, ◌⊎◌, ⊎_elim, inl, inr, ℕ, ◌+◌, ◌<◌, ◌≤◌, List, [], ◌∷◌, ◌++◌, drop, get_or, length, Option, Some, None, option_to_list, sym, ap, ◌∙◌, refl, arith}
use Rattle.std.specs.Prelude.{Contains}
use Rattle.std.proofs.lemmas.Bool.{cases_lt}
use Rattle.std.proofs.lemmas.List.{append-nil, append_assoc, drop_all, drop_more}
use Rattle.std.proofs.lemmas.List.Elements.{Contains-append_left, Contains-append_right, Contains-append_cases}
use Rattle.testing_rules_items.proofs.Members.{none_among, head_of, tail_of}
use Rattle.testing_rules_model.proofs.Sets.{at_front, first_or_rest}
use Rattle.testing_rules_model.specs.Covered.{Covered, CoveredItem}
use Rattle.office_mail.specs.declared.message.MailFault.{MailFault}
use Rattle.office_mail.specs.Lists.{Lists}
use Rattle.office_store_keeper.specs.declared.values.Letter.{Letter}
use Rattle.office_core_facts.specs.Outcome.{item_at}
use Rattle.office_core_facts.specs.steps.Walk.{said_in}
use Rattle.office_core_facts.proofs.WalkFacts.{in_option}
use Rattle.office_core_outcome.specs.Hints.{first_refused, hint_letter, hint_letters, hint_refusal, or_refused, with_letters}

-- what letters say is what a walk over them takes
pub letters_said : (setup : Lists) (sender : ℕ) (letters : List Letter) (mail : Covered) → said_in setup sender letters mail ≡ with_letters setup sender letters mail
unfolding said_in with_letters
letters_said setup sender [] mail = refl
letters_said setup sender (letter ∷ rest) mail = letters_said setup sender rest (option_to_list (item_at setup ((sender, letter.number), letter.text)) ++ mail)

at_option : {A : Type 0} (o : Option A) (x : A) → o ≡ Some x → Contains (option_to_list o) x
at_option None x e = absurd (cc (e))
at_option (Some y) x e = at_front y x [] (cc (e))

-- other mail is among what is said with letters
pub mail_among : (setup : Lists) (sender : ℕ) (letters : List Letter) (mail : Covered) (m : CoveredItem) → Contains mail m → Contains (with_letters setup sender letters mail) m
unfolding with_letters
mail_among setup sender [] mail m c = c
mail_among setup sender (letter ∷ rest) mail m c =
    mail_among setup sender rest (option_to_list (item_at setup ((sender, letter.number), letter.text)) ++ mail) m
    (Contains-append_right (option_to_list (item_at setup ((sender, letter.number), letter.text))) mail m c)

-- so is what a letter says
pub letter_among : (setup : Lists) (sender : ℕ) (letters : List Letter) (mail : Covered) (letter : Letter) (m : CoveredItem) → Contains letters letter → item_at setup ((sender, letter.number), letter.text) ≡ Some m → Contains (with_letters setup sender letters mail) m
unfolding with_letters
letter_among setup sender [] mail letter m c is = none_among letter c
letter_among setup sender (x ∷ rest) mail letter m c is = elim (first_or_rest x rest letter c) [
  | inl same ↦
      mail_among setup sender rest (option_to_list (item_at setup ((sender, x.number), x.text)) ++ mail) m
      (Contains-append_left (option_to_list (item_at setup ((sender, x.number), x.text))) mail m
      (at_option (item_at setup ((sender, x.number), x.text)) m (ap (λ (l : Letter). item_at setup ((sender, l.number), l.text)) same ∙ is)))
  | inr among ↦ letter_among setup sender rest (option_to_list (item_at setup ((sender, x.number), x.text)) ++ mail) letter m among is
]

-- a letter says it
pub record SaysAmong (setup : Lists) (sender : ℕ) (letters : List Letter) (m : CoveredItem) : Type 0 where
  pub letter : Letter
  pub among : Contains letters letter
  pub is : item_at setup ((sender, letter.number), letter.text) ≡ Some m

later_says : (setup : Lists) (sender : ℕ) (x : Letter) (letters : List Letter) (m : CoveredItem) → SaysAmong setup sender letters m → SaysAmong setup sender (x ∷ letters) m
later_says setup sender x letters m says = record { letter = says.letter; among = tail_of x letters says.letter says.among; is = says.is }

-- and nothing else is said
pub letters_or_mail : (setup : Lists) (sender : ℕ) (letters : List Letter) (mail : Covered) (m : CoveredItem) → Contains (with_letters setup sender letters mail) m → SaysAmong setup sender letters m ⊎ Contains mail m
unfolding with_letters
letters_or_mail setup sender [] mail m c = inr c
letters_or_mail setup sender (x ∷ rest) mail m c =
    let own = option_to_list (item_at setup ((sender, x.number), x.text)) in
    elim (letters_or_mail setup sender rest (own ++ mail) m c) [
      | inl says ↦ inl (later_says setup sender x rest m says)
      | inr before ↦ elim (Contains-append_cases own mail m before) [
        | inl one ↦ inl (record { letter = x; among = head_of x rest; is = in_option (item_at setup ((sender, x.number), x.text)) m one })
        | inr among ↦ inr among
      ]
    ]

-- the numbers of hints go on behind a number, one for each
pub record HasLetter (setup : Lists) (number : ℕ) (hints : List (List ℕ)) (at : ℕ) : Type 0 where
  pub letter : Letter
  pub among : Contains (hint_letters setup number hints) letter
  pub own : letter.number ≡ at

pub letter_at_number : (setup : Lists) (number : ℕ) (hints : List (List ℕ)) (at : ℕ) → number < at → at ≤ number + length hints → HasLetter setup number hints at
letter_at_number setup number [] at low high = absurd (omega (arith, low, high))
letter_at_number setup number (hint ∷ rest) at low high =
    let first = hint_letter setup (number + 1) hint in
    let others = hint_letters setup (number + 1) rest in
    ⊎_elim
    (λ (lt : number + 1 < at).
    let found = letter_at_number setup (number + 1) rest at lt (omega (arith, high)) in
    record { letter = found.letter; among = tail_of first others found.letter found.among; own = found.own })
    (λ (le : at ≤ number + 1). record { letter = first; among = head_of first others; own = omega (arith, low, le) })
    (cases_lt (number + 1) at)

pub numbers_within : (setup : Lists) (number : ℕ) (hints : List (List ℕ)) (letter : Letter) → Contains (hint_letters setup number hints) letter → (number < letter.number) × (letter.number ≤ number + length hints)
numbers_within setup number [] letter c = none_among letter c
numbers_within setup number (hint ∷ rest) letter c = elim (first_or_rest (hint_letter setup (number + 1) hint) (hint_letters setup (number + 1) rest) letter c) [
  | inl same ↦ let at : number + 1 ≡ letter.number = ap (λ (l : Letter). l.number) same in (omega (arith, at), omega (arith, at))
  | inr among ↦ let own = numbers_within setup (number + 1) rest letter among in (omega (arith, own.0), omega (arith, own.1))
]

-- the first of the hints that are left
pub hint_next : (hints : List (List ℕ)) (i : ℕ) (hint : List ℕ) → i < length hints → hint ≡ get_or hints i hint → drop i hints ≡ hint ∷ drop (i + 1) hints
hint_next hints i hint low is = drop_more hints i hint low ∙ ap (λ (h : List ℕ). h ∷ drop (i + 1) hints) (sym is)

-- what is refused of the hints that are left, where the first of them isn't
pub refused_later : (setup : Lists) (last place i : ℕ) (hints : List (List ℕ)) (hint : List ℕ) → drop i hints ≡ hint ∷ drop (i + 1) hints → None ≡ hint_refusal setup (last + 1) hint
    → first_refused setup (last + 1) (place + 1) (drop (i + 1) hints) ≡ first_refused setup last place (drop i hints)
refused_later setup last place i hints hint at none =
    ap (λ (o : Option MailFault). or_refused place o (first_refused setup (last + 1) (place + 1) (drop (i + 1) hints))) none ∙ sym (ap (first_refused setup last place) at)

-- and where it is
pub refused_here : (setup : Lists) (last place i : ℕ) (hints : List (List ℕ)) (hint : List ℕ) (fault : MailFault) → drop i hints ≡ hint ∷ drop (i + 1) hints → Some fault ≡ hint_refusal setup (last + 1) hint
    → Some (record { place = place; fault = fault }) ≡ first_refused setup last place (drop i hints)
refused_here setup last place i hints hint fault at some =
    ap (λ (o : Option MailFault). or_refused place o (first_refused setup (last + 1) (place + 1) (drop (i + 1) hints))) some ∙ sym (ap (first_refused setup last place) at)

pub refused_none : (setup : Lists) (last place i : ℕ) (hints : List (List ℕ)) → length hints ≤ i → None ≡ first_refused setup last place (drop i hints)
refused_none setup last place i hints all = sym (ap (first_refused setup last place) (drop_all i hints all))

-- the messages of the hints that are left, with one more taken
pub letters_later : (setup : Lists) (last i : ℕ) (hints : List (List ℕ)) (hint : List ℕ) (letters more : List Letter) → drop i hints ≡ hint ∷ drop (i + 1) hints → more ≡ letters ++ hint_letters setup last (hint ∷ [])
    → more ++ hint_letters setup (last + 1) (drop (i + 1) hints) ≡ letters ++ hint_letters setup last (drop i hints)
letters_later setup last i hints hint letters more at are =
    let rest = hint_letters setup (last + 1) (drop (i + 1) hints) in
    ap (λ (ls : List Letter). ls ++ rest) are
    ∙ append_assoc letters (hint_letter setup (last + 1) hint ∷ []) rest
    ∙ ap (λ (hs : List (List ℕ)). letters ++ hint_letters setup last hs) (sym at)

pub letters_all : (setup : Lists) (last i : ℕ) (hints : List (List ℕ)) (letters : List Letter) → length hints ≤ i → letters ≡ letters ++ hint_letters setup last (drop i hints)
letters_all setup last i hints letters all = sym (ap (λ (hs : List (List ℕ)). letters ++ hint_letters setup last hs) (drop_all i hints all) ∙ append-nil letters)

-- the pieces of a hint's message
pub in_pieces : (p n x d y z h e : List ℕ) → p ++ (n ++ (x ++ (d ++ (y ++ (z ++ (h ++ e)))))) ≡ p ++ n ++ x ++ d ++ y ++ z ++ h ++ e
in_pieces p n x d y z h e = sym (
    append_assoc (p ++ n ++ x ++ d ++ y ++ z) h e
    ∙ append_assoc (p ++ n ++ x ++ d ++ y) z (h ++ e)
    ∙ append_assoc (p ++ n ++ x ++ d) y (z ++ (h ++ e))
    ∙ append_assoc (p ++ n ++ x) d (y ++ (z ++ (h ++ e)))
    ∙ append_assoc (p ++ n) x (d ++ (y ++ (z ++ (h ++ e))))
    ∙ append_assoc p n (x ++ (d ++ (y ++ (z ++ (h ++ e)))))
    )
