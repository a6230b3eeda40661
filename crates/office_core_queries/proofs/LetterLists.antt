-- The kept mail of a sender up to a number.
use Rattle.std.proofs.Common.{◌≡◌, ⊎_elim, ℕ, zero, suc, ◌+◌, ◌-◌, ◌<◌, ◌≤◌, List, [], ◌∷◌, ◌++◌, Option, Some, None, option_map, filter_map, sym, ap, ◌∙◌, refl, arith}
use Rattle.std.specs.List.{range_with_len, cons_option}
use Rattle.std.specs.FinMap.{get}
use Rattle.std.proofs.lemmas.Bool.{cases_lt}
use Rattle.std.proofs.lemmas.List.{append-nil}
use Rattle.std.proofs.lemmas.List.Elements.{filter_map-append}
use Rattle.office_mail.specs.Kept.{Kept}
use Rattle.office_store_keeper.specs.declared.values.Letter.{Letter}
use Rattle.office_store_keeper.specs.Content.{letter_at, letters_within}
use Rattle.office_core_queries.specs.steps.Numbers.{NoneAbove, NoneBetween}

-- numbers, and those that follow them
pub range_joined : (a m n : ℕ) → range_with_len a m ++ range_with_len (a + m) n ≡ range_with_len a (m + n)
range_joined a zero n = ap (λ k. range_with_len k n) (let e : a + 0 ≡ a = omega arith in e) ∙ ap (range_with_len a) (let e : n ≡ 0 + n = omega arith in e)
range_joined a (suc m) n =
    ap (λ ks. a ∷ ks) (ap (λ k. range_with_len (a + 1) m ++ range_with_len k n) (let e : a + suc m ≡ (a + 1) + m = omega arith in e) ∙ range_joined (a + 1) m n)
    ∙ ap (range_with_len a) (let e : suc (m + n) ≡ suc m + n = omega arith in e)

-- a text under a number
abbrev pub letter_by : ℕ → Option (List ℕ) → Option Letter
letter_by number text = option_map (λ t. record { number = number; text = t }) text

-- where nothing is kept there is no letter
none_from : (kept : Kept) (s a n : ℕ) → ((m : ℕ) → a ≤ m → m < a + n → get kept (s, m) ≡ None) → filter_map (letter_at kept s) (range_with_len a n) ≡ []
none_from kept s a zero none = refl
none_from kept s a (suc n) none =
    ap (λ o. cons_option (letter_by a o) (filter_map (letter_at kept s) (range_with_len (a + 1) n))) (none a (omega arith) (omega arith))
    ∙ none_from kept s (a + 1) n (λ m low high. none m (omega (arith, low)) (omega (arith, high)))

one_from : (kept : Kept) (s n : ℕ) (text : List ℕ) → get kept (s, n) ≡ Some text → filter_map (letter_at kept s) (range_with_len n 1) ≡ record { number = n; text = text } ∷ []
one_from kept s n text e = ap (λ o. cons_option (letter_by n o) []) e

pub within_zero : (kept : Kept) (s : ℕ) → letters_within kept s 1 0 ≡ []
unfolding letters_within
within_zero kept s = refl

pub within_split : (kept : Kept) (s last to : ℕ) → last ≤ to → letters_within kept s 1 to ≡ letters_within kept s 1 last ++ letters_within kept s (last + 1) to
unfolding letters_within
within_split kept s last to le =
    let e1 : to + 1 - 1 ≡ last + (to - last) = omega (arith, le) in
    let e2 : last ≡ last + 1 - 1 = omega arith in
    let e3 : 1 + last ≡ last + 1 = omega arith in
    let e4 : to - last ≡ to + 1 - (last + 1) = omega (arith, le) in
    ap (λ n. filter_map (letter_at kept s) (range_with_len 1 n)) e1
    ∙ ap (filter_map (letter_at kept s)) (sym (range_joined 1 last (to - last)))
    ∙ filter_map-append (letter_at kept s) (range_with_len 1 last) (range_with_len (1 + last) (to - last))
    ∙ ap (λ n. filter_map (letter_at kept s) (range_with_len 1 n) ++ filter_map (letter_at kept s) (range_with_len (1 + last) (to - last))) e2
    ∙ ap (λ a. filter_map (letter_at kept s) (range_with_len 1 (last + 1 - 1)) ++ filter_map (letter_at kept s) (range_with_len a (to - last))) e3
    ∙ ap (λ n. filter_map (letter_at kept s) (range_with_len 1 (last + 1 - 1)) ++ filter_map (letter_at kept s) (range_with_len (last + 1) n)) e4

pub behind_none : (kept : Kept) (s last to : ℕ) → NoneAbove kept s last → letters_within kept s (last + 1) to ≡ []
unfolding letters_within
behind_none kept s last to none = none_from kept s (last + 1) (to + 1 - (last + 1)) (λ m low high. none m (omega (arith, low)))

-- behind the last number that is kept nothing follows
pub within_all : (kept : Kept) (s last to : ℕ) → last ≤ to → NoneAbove kept s last → letters_within kept s 1 to ≡ letters_within kept s 1 last
within_all kept s last to le none =
    within_split kept s last to le ∙ ap (λ l. letters_within kept s 1 last ++ l) (behind_none kept s last to none) ∙ append-nil (letters_within kept s 1 last)

behind_one : (kept : Kept) (s last n : ℕ) (text : List ℕ) → last < n → get kept (s, n) ≡ Some text → NoneBetween kept s last n → letters_within kept s (last + 1) n ≡ record { number = n; text = text } ∷ []
unfolding letters_within
behind_one kept s last n text lt at none =
    let e1 : n + 1 - (last + 1) ≡ (n - (last + 1)) + 1 = omega (arith, lt) in
    let e2 : (last + 1) + (n - (last + 1)) ≡ n = omega (arith, lt) in
    ap (λ k. filter_map (letter_at kept s) (range_with_len (last + 1) k)) e1
    ∙ ap (filter_map (letter_at kept s)) (sym (range_joined (last + 1) (n - (last + 1)) 1))
    ∙ filter_map-append (letter_at kept s) (range_with_len (last + 1) (n - (last + 1))) (range_with_len ((last + 1) + (n - (last + 1))) 1)
    ∙ ap (λ l. l ++ filter_map (letter_at kept s) (range_with_len ((last + 1) + (n - (last + 1))) 1)) (none_from kept s (last + 1) (n - (last + 1)) (λ m low high. none m (omega (arith, low)) (omega (arith, high, e2))))
    ∙ ap (λ k. filter_map (letter_at kept s) (range_with_len k 1)) e2
    ∙ one_from kept s n text at

-- the next number that is kept comes behind those up to the last one
pub within_more : (kept : Kept) (s last n : ℕ) (text : List ℕ) → last < n → get kept (s, n) ≡ Some text → NoneBetween kept s last n → letters_within kept s 1 n ≡ letters_within kept s 1 last ++ record { number = n; text = text } ∷ []
within_more kept s last n text lt at none =
    within_split kept s last n (omega (arith, lt)) ∙ ap (λ l. letters_within kept s 1 last ++ l) (behind_one kept s last n text lt at none)

-- the numbers behind one, parted by another
behind_split : (kept : Kept) (s last n to : ℕ) → last ≤ n → n ≤ to → letters_within kept s (last + 1) to ≡ letters_within kept s (last + 1) n ++ letters_within kept s (n + 1) to
unfolding letters_within
behind_split kept s last n to low high =
    let e1 : to + 1 - (last + 1) ≡ (n - last) + (to - n) = omega (arith, low, high) in
    let e2 : n - last ≡ n + 1 - (last + 1) = omega (arith, low) in
    let e3 : (last + 1) + (n - last) ≡ n + 1 = omega (arith, low) in
    let e4 : to - n ≡ to + 1 - (n + 1) = omega (arith, high) in
    ap (λ k. filter_map (letter_at kept s) (range_with_len (last + 1) k)) e1
    ∙ ap (filter_map (letter_at kept s)) (sym (range_joined (last + 1) (n - last) (to - n)))
    ∙ filter_map-append (letter_at kept s) (range_with_len (last + 1) (n - last)) (range_with_len ((last + 1) + (n - last)) (to - n))
    ∙ ap (λ k. filter_map (letter_at kept s) (range_with_len (last + 1) k) ++ filter_map (letter_at kept s) (range_with_len ((last + 1) + (n - last)) (to - n))) e2
    ∙ ap (λ a. filter_map (letter_at kept s) (range_with_len (last + 1) (n + 1 - (last + 1))) ++ filter_map (letter_at kept s) (range_with_len a (to - n))) e3
    ∙ ap (λ k. filter_map (letter_at kept s) (range_with_len (last + 1) (n + 1 - (last + 1))) ++ filter_map (letter_at kept s) (range_with_len (n + 1) k)) e4

-- the letters behind a number begin with the next one
pub behind_next : (kept : Kept) (s last n to : ℕ) (text : List ℕ) → last < n → n ≤ to → get kept (s, n) ≡ Some text → NoneBetween kept s last n
    → letters_within kept s (last + 1) to ≡ record { number = n; text = text } ∷ letters_within kept s (n + 1) to
behind_next kept s last n to text lt le at none =
    behind_split kept s last n to (omega (arith, lt)) le ∙ ap (λ l. l ++ letters_within kept s (n + 1) to) (behind_one kept s last n text lt at none)

-- no message has number 0
pub within_first : (kept : Kept) (s to : ℕ) → get kept (s, 0) ≡ None → letters_within kept s 0 to ≡ letters_within kept s 1 to
unfolding letters_within
within_first kept s to none =
    let e1 : to + 1 - 0 ≡ suc to = omega arith in
    let e2 : to ≡ to + 1 - 1 = omega arith in
    ap (λ k. filter_map (letter_at kept s) (range_with_len 0 k)) e1
    ∙ ap (λ o. cons_option (letter_by 0 o) (filter_map (letter_at kept s) (range_with_len 1 to))) none
    ∙ ap (λ k. filter_map (letter_at kept s) (range_with_len 1 k)) e2

-- the letters of so many numbers
abbrev pub letters_at : Kept → ℕ → ℕ → ℕ → List Letter
letters_at kept s a n = filter_map (letter_at kept s) (range_with_len a n)

-- the letters of a front, and those behind its last one
rest_by : (kept : Kept) (s a n : ℕ) (o : Option (List ℕ)) (front : List Letter) (last : Letter) (rest : List Letter)
    → ((fs : List Letter) → letters_at kept s (a + 1) n ≡ (fs ++ last ∷ []) ++ rest → rest ≡ letters_at kept s (last.number + 1) (a + 1 + n - (last.number + 1)))
    → cons_option (letter_by a o) (letters_at kept s (a + 1) n) ≡ (front ++ last ∷ []) ++ rest → rest ≡ letters_at kept s (last.number + 1) (a + suc n - (last.number + 1))
rest_by kept s a n None front last rest so e =
    so front e ∙ ap (λ k. letters_at kept s (last.number + 1) (k - (last.number + 1))) (let ends : a + 1 + n ≡ a + suc n = omega arith in ends)
rest_by kept s a n (Some t) [] last rest so e =
    let same : record { number = a; text = t } ≡ last = cc e in
    let left : letters_at kept s (a + 1) n ≡ rest = cc e in
    sym left ∙ ap (letters_at kept s (a + 1)) (let size : n ≡ a + suc n - (a + 1) = omega arith in size)
    ∙ ap (λ (l : Letter). letters_at kept s (l.number + 1) (a + suc n - (l.number + 1))) same
rest_by kept s a n (Some t) (f ∷ fs) last rest so e =
    let left : letters_at kept s (a + 1) n ≡ (fs ++ last ∷ []) ++ rest = cc e in
    so fs left ∙ ap (λ k. letters_at kept s (last.number + 1) (k - (last.number + 1))) (let ends : a + 1 + n ≡ a + suc n = omega arith in ends)

rest_none : (front : List Letter) (last : Letter) (rest more : List Letter) → [] ≡ (front ++ last ∷ []) ++ rest → rest ≡ more
rest_none [] last rest more e = absurd (cc e)
rest_none (f ∷ fs) last rest more e = absurd (cc e)

rest_from : (kept : Kept) (s a n : ℕ) (front : List Letter) (last : Letter) (rest : List Letter) → letters_at kept s a n ≡ (front ++ last ∷ []) ++ rest → rest ≡ letters_at kept s (last.number + 1) (a + n - (last.number + 1))
rest_from kept s a zero front last rest e = rest_none front last rest _ e
rest_from kept s a (suc n) front last rest e = rest_by kept s a n (get kept (s, a)) front last rest (λ fs left. rest_from kept s (a + 1) n fs last rest left) e

pub rest_within : (kept : Kept) (s from to : ℕ) (front : List Letter) (last : Letter) (rest : List Letter) → letters_within kept s from to ≡ (front ++ last ∷ []) ++ rest → rest ≡ letters_within kept s (last.number + 1) to
unfolding letters_within
rest_within kept s from to front last rest e = ⊎_elim
    (λ (past : to + 1 < from). let none : to + 1 - from ≡ 0 = omega (arith, past) in rest_none front last rest _ (sym (ap (letters_at kept s from) none) ∙ e))
    (λ (low : from ≤ to + 1). let size : from + (to + 1 - from) ≡ to + 1 = omega (arith, low) in
    rest_from kept s from (to + 1 - from) front last rest e ∙ ap (λ k. letters_at kept s (last.number + 1) (k - (last.number + 1))) size)
    (cases_lt (to + 1) from)
