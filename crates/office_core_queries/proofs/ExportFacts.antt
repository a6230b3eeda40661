-- The kept texts, delivered where nothing is kept, leave what was kept.
use Rattle.std.proofs.Common.{◌≡◌, ⊎_elim, ◌⊎◌, inl, inr, ℕ, zero, suc, ◌+◌, ◌-◌, ◌<◌, ◌≤◌, Bool, true, false, cond, List, [], ◌∷◌, ◌++◌, length, Option, Some, None, Result, Ok, Err, IsSome, nat_le, filter_map, sym, ap, subst, ◌∙◌, refl, arith}
use Rattle.std.specs.Ordering.{eq_by_cmp, is_eq}
use Rattle.std.specs.List.{AllByRecursion, cons_option, flat_map, range_with_len}
use Rattle.std.specs.Cmp.{tied_itself}
use Rattle.std.specs.FinMap.{find, get, empty, get-empty}
use Rattle.std.proofs.lemmas.Bool.{cases_lt, leb-true}
use Rattle.std.proofs.lemmas.List.{append-nil}
use Rattle.deb_control.specs.Relations.{◌>>=◌}
use Rattle.office_mail.specs.declared.message.Message.{Message}
use Rattle.office_mail.specs.declared.message.MailFault.{MailFault}
use Rattle.office_mail.specs.declared.message.MailFault.TheVariants.{TooLong}
use Rattle.office_mail.specs.Bag.{HasHeader, IsBag}
use Rattle.office_mail.specs.Read.{read}
use Rattle.office_mail.specs.WholeText.{needs}
use Rattle.office_mail.specs.Lists.{Lists}
use Rattle.office_mail.specs.Kept.{IsPlace, Kept, Place, kept_from, place_cmp, placed}
use Rattle.office_mail.specs.Laws.{IsOneOf}
use Rattle.office_mail.specs.steps.ReadSteps.{placed_as}
use Rattle.office_mail.proofs.KeptFacts.{get-kept_from, or_else, places_total, same_kept, tied}
use Rattle.office_store_keeper.specs.Content.{letter_at, letters_within}
use Rattle.office_store_keeper.specs.Provenance.{AreOwnTexts}
use Rattle.office_core_orders.specs.Ready.{HasPlaces}
use Rattle.office_core_queries.specs.Export.{kept_bag, kept_texts, sender_texts, texts_to}
use Rattle.office_core_queries.proofs.LetterLists.{letter_by}
use Rattle.office_core_queries.proofs.TextLists.{texts_in}

-- a text is kept at its own place
abbrev IsKeptText : Lists → Kept → List ℕ → Type 0
IsKeptText setup kept t = (p : Place) × (placed setup t ≡ Some (p, t)) × (get kept p ≡ Some t)

-- what texts give a place
abbrev found : Lists → List (List ℕ) → Place → Option (List ℕ)
found setup texts q = find place_cmp q (filter_map (placed setup) texts)

found_by : (setup : Lists) (t : List ℕ) (ts : List (List ℕ)) (p q : Place) → placed setup t ≡ Some (p, t) → found setup (t ∷ ts) q ≡ cond (eq_by_cmp place_cmp q p) (Some t) (found setup ts q)
found_by setup t ts p q e = ap (λ o. find place_cmp q (cons_option o (filter_map (placed setup) ts))) e

right_by : (kept : Kept) (t : List ℕ) (p q : Place) (o : Option (List ℕ)) (b : Bool) → eq_by_cmp place_cmp q p ≡ b → get kept p ≡ Some t → (o ≡ None) ⊎ (o ≡ get kept q) → (cond b (Some t) o ≡ None) ⊎ (cond b (Some t) o ≡ get kept q)
right_by kept t p q o true e at h = inr (sym (ap (get kept) (tied p q e) ∙ at))
right_by kept t p q o false e at h = h

-- a place gets what it had, or nothing
found_right : (setup : Lists) (kept : Kept) (texts : List (List ℕ)) (q : Place) → AllByRecursion (IsKeptText setup kept) texts → (found setup texts q ≡ None) ⊎ (found setup texts q ≡ get kept q)
found_right setup kept [] q each = inl refl
found_right setup kept (t ∷ ts) q each =
    let here = each.0 in
    subst (λ o. (o ≡ None) ⊎ (o ≡ get kept q)) (sym (found_by setup t ts here.0 q here.1))
    (right_by kept t here.0 q (found setup ts q) (eq_by_cmp place_cmp q here.0) refl here.2 (found_right setup kept ts q each.1))

some_cond : (b : Bool) (t : List ℕ) (o : Option (List ℕ)) → (b ≡ true) ⊎ IsSome o → IsSome (cond b (Some t) o)
some_cond true t o h = refl
some_cond false t o (inl h) = absurd (cc h)
some_cond false t o (inr h) = h

-- the place of a text that is among them gets something
found_some : (setup : Lists) (kept : Kept) (texts : List (List ℕ)) (q : Place) (text : List ℕ) → AllByRecursion (IsKeptText setup kept) texts → placed setup text ≡ Some (q, text) → IsOneOf text texts → IsSome (found setup texts q)
found_some setup kept [] q text each e there = absurd there
found_some setup kept (t ∷ ts) q text each e (inl same) =
    subst IsSome (sym (found_by setup t ts q q (subst (λ x. placed setup x ≡ Some (q, x)) same e)))
    (some_cond (eq_by_cmp place_cmp q q) t (found setup ts q) (inl (ap is_eq (tied_itself places_total q))))
found_some setup kept (t ∷ ts) q text each e (inr there) =
    let here = each.0 in
    subst IsSome (sym (found_by setup t ts here.0 q here.1))
    (some_cond (eq_by_cmp place_cmp q here.0) t (found setup ts q) (inr (found_some setup kept ts q text each.1 e there)))

-- which texts there are

own_by : (setup : Lists) (kept : Kept) (s a n : ℕ) (o : Option (List ℕ)) → AreOwnTexts setup kept → get kept (s, a) ≡ o
    → AllByRecursion (IsKeptText setup kept) (texts_in (filter_map (letter_at kept s) (range_with_len (a + 1) n)))
    → AllByRecursion (IsKeptText setup kept) (texts_in (cons_option (letter_by a o) (filter_map (letter_at kept s) (range_with_len (a + 1) n))))
own_by setup kept s a n None own e each = each
own_by setup kept s a n (Some t) own e each = (((s, a), own (s, a) t e, e), each)

own_from : (setup : Lists) (kept : Kept) (s a n : ℕ) → AreOwnTexts setup kept → AllByRecursion (IsKeptText setup kept) (texts_in (filter_map (letter_at kept s) (range_with_len a n)))
own_from setup kept s a zero own = tt
own_from setup kept s a (suc n) own = own_by setup kept s a n (get kept (s, a)) own refl (own_from setup kept s (a + 1) n own)

own_within : (setup : Lists) (kept : Kept) (s to : ℕ) → AreOwnTexts setup kept → AllByRecursion (IsKeptText setup kept) (texts_in (letters_within kept s 1 to))
unfolding letters_within
own_within setup kept s to own = own_from setup kept s 1 (to + 1 - 1) own

each_append : {A : Type 0} (P : A → Type 0) (xs ys : List A) → AllByRecursion P xs → AllByRecursion P ys → AllByRecursion P (xs ++ ys)
each_append P [] ys a b = b
each_append P (x ∷ xs) ys a b = (a.0, each_append P xs ys a.1 b)

own_senders : (setup : Lists) (kept : Kept) (a n : ℕ) → AreOwnTexts setup kept → AllByRecursion (IsKeptText setup kept) (flat_map (sender_texts kept) (range_with_len a n))
own_senders setup kept a zero own = tt
own_senders setup kept a (suc n) own =
    each_append (IsKeptText setup kept) (sender_texts kept a) (flat_map (sender_texts kept) (range_with_len (a + 1) n)) (own_within setup kept a 999_999_999 own) (own_senders setup kept (a + 1) n own)

own_texts : (setup : Lists) (kept : Kept) (n : ℕ) → AreOwnTexts setup kept → AllByRecursion (IsKeptText setup kept) (texts_to kept n)
unfolding texts_to
own_texts setup kept n own = own_senders setup kept 0 n own

one_first : (t : List ℕ) (xs ys : List (List ℕ)) → IsOneOf t xs → IsOneOf t (xs ++ ys)
one_first t [] ys h = absurd h
one_first t (x ∷ xs) ys (inl same) = inl same
one_first t (x ∷ xs) ys (inr there) = inr (one_first t xs ys there)

one_later : (t : List ℕ) (xs ys : List (List ℕ)) → IsOneOf t ys → IsOneOf t (xs ++ ys)
one_later t [] ys h = h
one_later t (x ∷ xs) ys h = inr (one_later t xs ys h)

there_here : (kept : Kept) (s a n : ℕ) (t : List ℕ) → get kept (s, a) ≡ Some t → IsOneOf t (texts_in (filter_map (letter_at kept s) (range_with_len a (suc n))))
there_here kept s a n t e = subst (λ o. IsOneOf t (texts_in (cons_option (letter_by a o) (filter_map (letter_at kept s) (range_with_len (a + 1) n))))) (sym e) (inl refl)

there_by : (kept : Kept) (s a n : ℕ) (t : List ℕ) (o : Option (List ℕ)) → IsOneOf t (texts_in (filter_map (letter_at kept s) (range_with_len (a + 1) n))) → IsOneOf t (texts_in (cons_option (letter_by a o) (filter_map (letter_at kept s) (range_with_len (a + 1) n))))
there_by kept s a n t None h = h
there_by kept s a n t (Some x) h = inr h

there_from : (kept : Kept) (s a n m : ℕ) (t : List ℕ) → a ≤ m → m < a + n → get kept (s, m) ≡ Some t → IsOneOf t (texts_in (filter_map (letter_at kept s) (range_with_len a n)))
there_from kept s a zero m t low high e = absurd (omega (arith, low, high))
there_from kept s a (suc n) m t low high e = ⊎_elim
    (λ (lt : a < m). there_by kept s a n t (get kept (s, a)) (there_from kept s (a + 1) n m t (omega (arith, lt)) (omega (arith, high)) e))
    (λ (le : m ≤ a). let at : m ≡ a = omega (arith, low, le) in there_here kept s a n t (subst (λ (k : ℕ). get kept (s, k) ≡ Some t) at e))
    (cases_lt a m)

there_within : (kept : Kept) (s to m : ℕ) (t : List ℕ) → 1 ≤ m → m ≤ to → get kept (s, m) ≡ Some t → IsOneOf t (texts_in (letters_within kept s 1 to))
unfolding letters_within
there_within kept s to m t low high e = there_from kept s 1 (to + 1 - 1) m t low (omega (arith, high)) e

there_senders : (kept : Kept) (a n s m : ℕ) (t : List ℕ) → a ≤ s → s < a + n → 1 ≤ m → m ≤ 999_999_999 → get kept (s, m) ≡ Some t → IsOneOf t (flat_map (sender_texts kept) (range_with_len a n))
there_senders kept a zero s m t low high some few e = absurd (omega (arith, low, high))
there_senders kept a (suc n) s m t low high some few e = ⊎_elim
    (λ (lt : a < s). one_later t (sender_texts kept a) (flat_map (sender_texts kept) (range_with_len (a + 1) n)) (there_senders kept (a + 1) n s m t (omega (arith, lt)) (omega (arith, high)) some few e))
    (λ (le : s ≤ a).
    let at : s ≡ a = omega (arith, low, le) in
    one_first t (sender_texts kept a) (flat_map (sender_texts kept) (range_with_len (a + 1) n)) (there_within kept a 999_999_999 m t some few (subst (λ (k : ℕ). get kept (k, m) ≡ Some t) at e)))
    (cases_lt a s)

pub there_texts : (kept : Kept) (n s m : ℕ) (t : List ℕ) → s < n → 1 ≤ m → m ≤ 999_999_999 → get kept (s, m) ≡ Some t → IsOneOf t (texts_to kept n)
unfolding texts_to
there_texts kept n s m t lt some few e = there_senders kept 0 n s m t (omega arith) (omega (arith, lt)) some few e

-- each place gets what it had

none_back : (o p : Option (List ℕ)) → p ≡ None → (o ≡ None) ⊎ (o ≡ p) → o ≡ p
none_back o p e (inl h) = h ∙ sym e
none_back o p e (inr h) = h

some_back : (o p : Option (List ℕ)) → IsSome o → (o ≡ None) ⊎ (o ≡ p) → o ≡ p
some_back None p some (inl h) = absurd (cc some)
some_back (Some x) p some (inl h) = absurd (cc h)
some_back o p some (inr h) = h

some_of : (o : Option (List ℕ)) (x : List ℕ) → o ≡ Some x → IsSome o
some_of o x e = rw e refl

back_at : (setup : Lists) (kept : Kept) (q : Place) (o : Option (List ℕ)) → AreOwnTexts setup kept → HasPlaces setup kept → get kept q ≡ o → found setup (kept_texts setup kept) q ≡ get kept q
back_at setup kept q None own places e =
    none_back (found setup (kept_texts setup kept) q) (get kept q) e (found_right setup kept (kept_texts setup kept) q (own_texts setup kept (length setup.senders) own))
back_at setup kept q (Some t) own places e =
    let place : IsPlace setup q = places q (some_of (get kept q) t e) in
    let each = own_texts setup kept (length setup.senders) own in
    some_back (found setup (kept_texts setup kept) q) (get kept q)
    (found_some setup kept (kept_texts setup kept) q t each (own q t e) (there_texts kept (length setup.senders) q.0 q.1 t place.sender place.above place.below e))
    (found_right setup kept (kept_texts setup kept) q each)

pub gives_back : (setup : Lists) (kept : Kept) → AreOwnTexts setup kept → HasPlaces setup kept → kept_from setup empty (kept_texts setup kept) ≡ kept
gives_back setup kept own places = same_kept _ _ (λ q.
    get-kept_from setup empty (kept_texts setup kept) q
    ∙ ap (λ o. or_else o (found setup (kept_texts setup kept) q)) (get-empty place_cmp q)
    ∙ back_at setup kept q (get kept q) own places refl)

-- and a bag can hold each of them

needed : {B : Type 0} (b : Bool) (f : Bool → Result B MailFault) (m : B) → (needs b TooLong >>= f) ≡ Ok m → b ≡ true
needed true f m e = refl
needed false f m e = absurd (cc e)

read_short : (setup : Lists) (text : List ℕ) (m : Message) → read setup text ≡ Ok m → length text ≤ 65_536
unfolding read
read_short setup text m e = leb-true (length text) 65_536 (needed (nat_le (length text) 65_536) _ m e)

header_by : (setup : Lists) (text : List ℕ) (p : Place) (r : Result Message MailFault) → read setup text ≡ r → placed_as text r ≡ Some (p, text) → HasHeader text
header_by setup text p (Ok m) e at = omega (arith, read_short setup text m e)
header_by setup text p (Err fault) e at = absurd (cc at)

headers : (setup : Lists) (kept : Kept) (texts : List (List ℕ)) → AllByRecursion (IsKeptText setup kept) texts → AllByRecursion HasHeader texts
headers setup kept [] each = tt
headers setup kept (t ∷ ts) each = (header_by setup t (each.0).0 (read setup t) refl (each.0).1, headers setup kept ts each.1)

pub bag_is : (setup : Lists) (kept : Kept) → AreOwnTexts setup kept → IsBag (kept_bag setup kept) (kept_texts setup kept) None
bag_is setup kept own = record {
  rest = [];
  whole = sym (append-nil (kept_bag setup kept));
  each = headers setup kept (kept_texts setup kept) (own_texts setup kept (length setup.senders) own);
  ends = refl;
}
