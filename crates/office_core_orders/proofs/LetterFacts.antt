-- The letters of a sender from one number to another: which number comes first, and up to which they go on.
use Rattle.std.proofs.Common.{◌≡◌, ⊎_elim, ℕ, zero, suc, ◌+◌, ◌-◌, ◌<◌, ◌≤◌, List, [], ◌∷◌, Option, Some, None, IsSome, option_map, filter_map, sym, ap, ◌∙◌, refl, arith}
use Rattle.std.specs.List.{range_with_len, cons_option}
use Rattle.std.proofs.lemmas.Bool.{cases_lt}
use Rattle.std.specs.FinMap.{get}
use Rattle.office_mail.specs.Kept.{Kept}
use Rattle.office_store_keeper.specs.declared.values.Letter.{Letter}
use Rattle.office_store_keeper.specs.Content.{letter_at, letters_within}
use Rattle.office_core_orders.specs.Ready.{HasNumbers}
use Rattle.office_core_orders.specs.steps.Ready.{GoesOn}

-- a text under a number, with the number
abbrev pub with_number : ℕ → Option (List ℕ) → Option Letter
with_number number text = option_map (λ t. record { number = number; text = t }) text

-- which number comes first

first_by : (number : ℕ) (text : Option (List ℕ)) (rest xs : List Letter) (x : Letter) → cons_option (with_number number text) rest ≡ x ∷ xs → (rest ≡ x ∷ xs → number + 1 ≤ x.number) → number ≤ x.number
first_by number None rest xs x e later = omega (arith, later e)
first_by number (Some text) rest xs x e later =
    let same : number ≡ x.number = ap (λ (l : Letter). l.number) (head_same (record { number = number; text = text }) x rest xs e) in omega (arith, same)
  where
    head_same : {A : Type 0} (a b : A) (ls rs : List A) → a ∷ ls ≡ b ∷ rs → a ≡ b
    head_same a b ls rs e = cc

first_from : (kept : Kept) (sender number m : ℕ) (x : Letter) (xs : List Letter) → filter_map (letter_at kept sender) (range_with_len number m) ≡ x ∷ xs → number ≤ x.number
first_from kept sender number zero x xs e = absurd (cc e)
first_from kept sender number (suc m) x xs e =
    first_by number (get kept (sender, number)) (filter_map (letter_at kept sender) (range_with_len (number + 1) m)) xs x e (first_from kept sender (number + 1) m x xs)

-- counting on

-- one number further than another where it is below the last
one_further : (number to : ℕ) → number < to → to + 1 - (number + 1) ≡ suc (to + 1 - (number + 1 + 1))
one_further number to below = omega (arith, below)

within_suc : (kept : Kept) (sender number to : ℕ) → number < to → letters_within kept sender (number + 1) to ≡ cons_option (letter_at kept sender (number + 1)) (letters_within kept sender (number + 1 + 1) to)
unfolding letters_within
within_suc kept sender number to below = ap (λ n. filter_map (letter_at kept sender) (range_with_len (number + 1) n)) (one_further number to below)

later_from : (kept : Kept) (sender number to : ℕ) (x : Letter) (xs : List Letter) → letters_within kept sender number to ≡ x ∷ xs → number ≤ x.number
unfolding letters_within
later_from kept sender number to x xs e = first_from kept sender number (to + 1 - number) x xs e

-- the first letter has the next number
found_by : (number : ℕ) (text : Option (List ℕ)) (rest xs : List Letter) (x : Letter) → x ∷ xs ≡ cons_option (with_number number text) rest → (rest ≡ x ∷ xs → number + 1 ≤ x.number) → x.number ≡ number → IsSome text × (xs ≡ rest)
found_by number None rest xs x e later same = absurd (omega (arith, later (sym e), same))
found_by number (Some text) rest xs x e later same = (refl, tail_same x (record { number = number; text = text }) xs rest e)
  where
    tail_same : {A : Type 0} (a b : A) (ls rs : List A) → a ∷ ls ≡ b ∷ rs → ls ≡ rs
    tail_same a b ls rs e = cc

pub letter_found : (kept : Kept) (sender number to : ℕ) (x : Letter) (xs : List Letter) → number < to → x ∷ xs ≡ letters_within kept sender (number + 1) to → x.number ≡ number + 1
    → IsSome (get kept (sender, number + 1)) × (xs ≡ letters_within kept sender (number + 1 + 1) to)
letter_found kept sender number to x xs below e same =
    found_by (number + 1) (get kept (sender, number + 1)) (letters_within kept sender (number + 1 + 1) to) xs x (e ∙ within_suc kept sender number to below)
    (later_from kept sender (number + 1 + 1) to x xs) same

-- or another one
missed_by : (number : ℕ) (text : Option (List ℕ)) (rest xs : List Letter) (x : Letter) → x ∷ xs ≡ cons_option (with_number number text) rest → (x.number ≡ number → ⊥) → text ≡ None
missed_by number None rest xs x e other = refl
missed_by number (Some text) rest xs x e other = absurd (other (ap (λ (l : Letter). l.number) (head_same x (record { number = number; text = text }) xs rest e)))
  where
    head_same : {A : Type 0} (a b : A) (ls rs : List A) → a ∷ ls ≡ b ∷ rs → a ≡ b
    head_same a b ls rs e = cc

pub letter_missed : (kept : Kept) (sender number to : ℕ) (x : Letter) (xs : List Letter) → number < to → x ∷ xs ≡ letters_within kept sender (number + 1) to → (x.number ≡ number + 1 → ⊥) → get kept (sender, number + 1) ≡ None
letter_missed kept sender number to x xs below e other =
    missed_by (number + 1) (get kept (sender, number + 1)) (letters_within kept sender (number + 1 + 1) to) xs x (e ∙ within_suc kept sender number to below) other

-- or there is none
none_by : (number : ℕ) (text : Option (List ℕ)) (rest : List Letter) → [] ≡ cons_option (with_number number text) rest → text ≡ None
none_by number None rest e = refl
none_by number (Some text) rest e = absurd (cc e)

pub letter_none : (kept : Kept) (sender number to : ℕ) → number < to → [] ≡ letters_within kept sender (number + 1) to → get kept (sender, number + 1) ≡ None
letter_none kept sender number to below e = none_by (number + 1) (get kept (sender, number + 1)) (letters_within kept sender (number + 1 + 1) to) (e ∙ within_suc kept sender number to below)

pub HasNumbers-more : (kept : Kept) (sender number : ℕ) → HasNumbers kept sender number → IsSome (get kept (sender, number + 1)) → HasNumbers kept sender (number + 1)
HasNumbers-more kept sender number each here = λ j low high. ⊎_elim
    (λ (lt : number < j). let at : j ≡ number + 1 = omega (arith, lt, high) in rw at here)
    (λ (le : j ≤ number). each j low le)
    (cases_lt number j)

-- The letters that are left begin behind a number up to which all are there.
pub record AreLeft (kept : Kept) (sender first number end : ℕ) (letters : List Letter) : Type 0 where
  pub each : HasNumbers kept sender first → HasNumbers kept sender number
  pub left : letters ≡ letters_within kept sender (number + 1) end

pub left_more : (kept : Kept) (sender first number end : ℕ) (x : Letter) (letters rest : List Letter) → number < end → letters ≡ x ∷ rest → x.number ≡ number + 1 → AreLeft kept sender first number end letters → AreLeft kept sender first (number + 1) end rest
left_more kept sender first number end x letters rest below is same so =
    let found = letter_found kept sender number end x rest below (sym is ∙ so.left) same in
    record { each = λ h. HasNumbers-more kept sender number (so.each h) found.0; left = found.1 }

pub left_missed : (kept : Kept) (sender first number end : ℕ) (x : Letter) (letters rest : List Letter) → letters ≡ x ∷ rest → (number < end → x.number ≡ number + 1 → ⊥) → AreLeft kept sender first number end letters → GoesOn kept sender first number end
left_missed kept sender first number end x letters rest is other so = record {
  each = so.each;
  gap = λ below. letter_missed kept sender number end x rest below (sym is ∙ so.left) (other below);
}

pub left_none : (kept : Kept) (sender first number end : ℕ) (letters : List Letter) → letters ≡ [] → AreLeft kept sender first number end letters → GoesOn kept sender first number end
left_none kept sender first number end letters is so = record {
  each = so.each;
  gap = λ below. letter_none kept sender number end below (sym is ∙ so.left);
}
