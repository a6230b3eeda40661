-- What is written of kept texts, one after another.
use Rattle.std.proofs.Common.{◌≡◌, ℕ, ◌+◌, ◌-◌, ◌<◌, ◌≤◌, List, [], ◌∷◌, ◌++◌, map, Option, Some, None, sym, ap, subst, ◌∙◌, refl, arith}
use Rattle.std.specs.List.{flat_map, range_with_len}
use Rattle.std.specs.FinMap.{get}
use Rattle.std.specs.Io.KnownBytes.{Appends}
use Rattle.std.proofs.KnownBytes.{Appends-trans}
use Rattle.std.proofs.lemmas.List.{append-nil, map-append}
use Rattle.std.proofs.lemmas.List.Concat.{flat_map-append}
use Rattle.office_mail.specs.Kept.{Kept}
use Rattle.office_mail.specs.Lists.{Lists}
use Rattle.office_store_keeper.specs.declared.values.Letter.{Letter}
use Rattle.office_store_keeper.specs.Content.{letters_within}
use Rattle.office_mail.specs.Written.{AppendsFront}
use Rattle.office_mail.proofs.WrittenFacts.{front_after, front_before}
use Rattle.office_core_queries.specs.Export.{sender_texts, texts_to}
use Rattle.office_core_queries.specs.steps.Walk.{told_as}
use Rattle.office_core_queries.specs.declared.walk.Form.{Form}
use Rattle.office_core_queries.specs.steps.Numbers.{IsNextLetter, NoneAbove, NoneBetween}
use Rattle.office_core_queries.proofs.LetterLists.{range_joined, within_all, within_more, within_split, within_zero}

-- the texts of letters
abbrev pub texts_in : List Letter → List (List ℕ)
texts_in letters = map (λ (l : Letter). l.text) letters

-- what is written of a sender's texts up to a number
abbrev pub told_to : (List ℕ → List ℕ) → Kept → ℕ → ℕ → List ℕ
told_to tells kept s last = flat_map tells (texts_in (letters_within kept s 1 last))

pub appends_nothing : (a : Option (List ℕ)) → Appends a a []
appends_nothing None = tt
appends_nothing (Some xs) = sym (append-nil xs)

-- all that was written is a front of what was to be written
pub front_of_all : (a b : Option (List ℕ)) (xs ys : List ℕ) → Appends a b xs → AppendsFront a b (xs ++ ys)
front_of_all a b xs ys h = record { front = xs; begins = (ys, refl); took = h }

pub told_none : (tells : List ℕ → List ℕ) (kept : Kept) (s : ℕ) (a : Option (List ℕ)) → Appends a a (told_to tells kept s 0)
told_none tells kept s a = subst (λ (l : List Letter). Appends a a (flat_map tells (texts_in l))) (sym (within_zero kept s)) (appends_nothing a)

told_more_is : (tells : List ℕ → List ℕ) (kept : Kept) (s last n : ℕ) (text : List ℕ) → last < n → get kept (s, n) ≡ Some text → NoneBetween kept s last n → told_to tells kept s n ≡ told_to tells kept s last ++ tells text
told_more_is tells kept s last n text lt at none =
    let before = letters_within kept s 1 last in
    let letter : Letter = record { number = n; text = text } in
    ap (λ (l : List Letter). flat_map tells (texts_in l)) (within_more kept s last n text lt at none)
    ∙ ap (flat_map tells) (map-append (λ (l : Letter). l.text) before (letter ∷ []))
    ∙ flat_map-append tells (texts_in before) (text ∷ [])
    ∙ ap (λ l. told_to tells kept s last ++ l) (append-nil (tells text))

-- one text more
pub told_more : (tells : List ℕ → List ℕ) (kept : Kept) (s last : ℕ) (letter : Letter) (a b c : Option (List ℕ)) → IsNextLetter kept s last (Some letter) → Appends a b (told_to tells kept s last) → Appends b c (tells letter.text) → Appends a c (told_to tells kept s letter.number)
told_more tells kept s last letter a b c next so more =
    subst (Appends a c) (sym (told_more_is tells kept s last letter.number letter.text next.0 next.1 next.2))
    (Appends-trans a b c (told_to tells kept s last) (tells letter.text) so more)

told_split : (tells : List ℕ → List ℕ) (kept : Kept) (s last : ℕ) → last ≤ 999_999_999 → flat_map tells (sender_texts kept s) ≡ told_to tells kept s last ++ flat_map tells (texts_in (letters_within kept s (last + 1) 999_999_999))
told_split tells kept s last few =
    ap (λ (l : List Letter). flat_map tells (texts_in l)) (within_split kept s last 999_999_999 few)
    ∙ ap (flat_map tells) (map-append (λ (l : Letter). l.text) (letters_within kept s 1 last) (letters_within kept s (last + 1) 999_999_999))
    ∙ flat_map-append tells (texts_in (letters_within kept s 1 last)) (texts_in (letters_within kept s (last + 1) 999_999_999))

-- a front of a sender's texts
pub told_front : (tells : List ℕ → List ℕ) (kept : Kept) (s last : ℕ) (a b : Option (List ℕ)) → last ≤ 999_999_999 → Appends a b (told_to tells kept s last) → AppendsFront a b (flat_map tells (sender_texts kept s))
told_front tells kept s last a b few so = subst (AppendsFront a b) (sym (told_split tells kept s last few)) (front_of_all a b (told_to tells kept s last) _ so)

-- a front of the next text
pub told_cut : (tells : List ℕ → List ℕ) (kept : Kept) (s last : ℕ) (letter : Letter) (a b c : Option (List ℕ)) → letter.number ≤ 999_999_999 → IsNextLetter kept s last (Some letter) → Appends a b (told_to tells kept s last) → AppendsFront b c (tells letter.text) → AppendsFront a c (flat_map tells (sender_texts kept s))
told_cut tells kept s last letter a b c few next so cut =
    let n = letter.number in
    let is = told_split tells kept s n few ∙ ap (λ l. l ++ flat_map tells (texts_in (letters_within kept s (n + 1) 999_999_999))) (told_more_is tells kept s last n letter.text next.0 next.1 next.2) in
    subst (AppendsFront a c) (sym is)
    (front_before a c (told_to tells kept s last ++ tells letter.text) _ (front_after a b c (told_to tells kept s last) (tells letter.text) so cut))

-- all of a sender's texts
pub told_all : (tells : List ℕ → List ℕ) (kept : Kept) (s last : ℕ) (a b : Option (List ℕ)) → last ≤ 999_999_999 → NoneAbove kept s last → Appends a b (told_to tells kept s last) → Appends a b (flat_map tells (sender_texts kept s))
told_all tells kept s last a b few none so = subst (λ (l : List Letter). Appends a b (flat_map tells (texts_in l))) (sym (within_all kept s last 999_999_999 few none)) so

-- senders

pub texts_none : (kept : Kept) → texts_to kept 0 ≡ []
unfolding texts_to
texts_none kept = refl

texts_split : (kept : Kept) (m n : ℕ) → texts_to kept (m + n) ≡ texts_to kept m ++ flat_map (sender_texts kept) (range_with_len m n)
unfolding texts_to
texts_split kept m n =
    let e : 0 + m ≡ m = omega arith in
    ap (flat_map (sender_texts kept)) (sym (range_joined 0 m n))
    ∙ flat_map-append (sender_texts kept) (range_with_len 0 m) (range_with_len (0 + m) n)
    ∙ ap (λ k. flat_map (sender_texts kept) (range_with_len 0 m) ++ flat_map (sender_texts kept) (range_with_len k n)) e

texts_more : (kept : Kept) (n : ℕ) → texts_to kept (n + 1) ≡ texts_to kept n ++ sender_texts kept n
texts_more kept n = texts_split kept n 1 ∙ ap (λ l. texts_to kept n ++ l) (append-nil (sender_texts kept n))

senders_more_is : (tells : List ℕ → List ℕ) (kept : Kept) (n : ℕ) → flat_map tells (texts_to kept (n + 1)) ≡ flat_map tells (texts_to kept n) ++ flat_map tells (sender_texts kept n)
senders_more_is tells kept n = ap (flat_map tells) (texts_more kept n) ∙ flat_map-append tells (texts_to kept n) (sender_texts kept n)

pub senders_none : (tells : List ℕ → List ℕ) (kept : Kept) (a : Option (List ℕ)) → Appends a a (flat_map tells (texts_to kept 0))
senders_none tells kept a = subst (λ (l : List (List ℕ)). Appends a a (flat_map tells l)) (sym (texts_none kept)) (appends_nothing a)

-- one sender more
pub senders_more : (tells : List ℕ → List ℕ) (kept : Kept) (n : ℕ) (a b c : Option (List ℕ)) → Appends a b (flat_map tells (texts_to kept n)) → Appends b c (flat_map tells (sender_texts kept n)) → Appends a c (flat_map tells (texts_to kept (n + 1)))
senders_more tells kept n a b c so more =
    subst (Appends a c) (sym (senders_more_is tells kept n))
    (Appends-trans a b c (flat_map tells (texts_to kept n)) (flat_map tells (sender_texts kept n)) so more)

-- a front of the next sender's texts
pub senders_cut : (tells : List ℕ → List ℕ) (kept : Kept) (n all : ℕ) (a b c : Option (List ℕ)) → n < all → Appends a b (flat_map tells (texts_to kept n)) → AppendsFront b c (flat_map tells (sender_texts kept n)) → AppendsFront a c (flat_map tells (texts_to kept all))
senders_cut tells kept n all a b c lt so cut =
    let e : all ≡ (n + 1) + (all - (n + 1)) = omega (arith, lt) in
    let rest = flat_map (sender_texts kept) (range_with_len (n + 1) (all - (n + 1))) in
    let is = ap (λ k. flat_map tells (texts_to kept k)) e
    ∙ ap (flat_map tells) (texts_split kept (n + 1) (all - (n + 1)))
    ∙ flat_map-append tells (texts_to kept (n + 1)) rest
    ∙ ap (λ l. l ++ flat_map tells rest) (senders_more_is tells kept n) in
    subst (AppendsFront a c) (sym is)
    (front_before a c (flat_map tells (texts_to kept n) ++ flat_map tells (sender_texts kept n)) _ (front_after a b c (flat_map tells (texts_to kept n)) (flat_map tells (sender_texts kept n)) so cut))

-- the same, where the store was asked in between

sender_then : (P : List ℕ → Type 0) (form : Form) (setup1 setup0 : Lists) (kept1 kept0 : Kept) (n m : ℕ) → setup1 ≡ setup0 → kept1 ≡ kept0 → m ≡ n → P (flat_map (told_as form setup1) (sender_texts kept1 m)) → P (flat_map (told_as form setup0) (sender_texts kept0 n))
sender_then P form setup1 setup0 kept1 kept0 n m es ek e h =
    subst (λ (k : ℕ). P (flat_map (told_as form setup0) (sender_texts kept0 k))) e
    (subst (λ (k : Kept). P (flat_map (told_as form setup0) (sender_texts k m))) ek
    (subst (λ (s : Lists). P (flat_map (told_as form s) (sender_texts kept1 m))) es h))

pub mail_more : (form : Form) (setup1 setup0 : Lists) (kept1 kept0 : Kept) (n m : ℕ) (a b c : Option (List ℕ)) → setup1 ≡ setup0 → kept1 ≡ kept0 → Appends a b (flat_map (told_as form setup0) (texts_to kept0 n)) → Appends b c (flat_map (told_as form setup1) (sender_texts kept1 m)) → m ≡ n → Appends a c (flat_map (told_as form setup0) (texts_to kept0 (n + 1)))
mail_more form setup1 setup0 kept1 kept0 n m a b c es ek so more e =
    senders_more (told_as form setup0) kept0 n a b c so (sender_then (Appends b c) form setup1 setup0 kept1 kept0 n m es ek e more)

pub mail_cut : (form : Form) (setup1 setup0 : Lists) (kept1 kept0 : Kept) (n all m : ℕ) (a b c : Option (List ℕ)) → setup1 ≡ setup0 → kept1 ≡ kept0 → n < all → Appends a b (flat_map (told_as form setup0) (texts_to kept0 n)) → AppendsFront b c (flat_map (told_as form setup1) (sender_texts kept1 m)) → m ≡ n → AppendsFront a c (flat_map (told_as form setup0) (texts_to kept0 all))
mail_cut form setup1 setup0 kept1 kept0 n all m a b c es ek lt so cut e =
    senders_cut (told_as form setup0) kept0 n all a b c lt so (sender_then (AppendsFront b c) form setup1 setup0 kept1 kept0 n m es ek e cut)
