-- Parts are compared from the left, by the ranks of their fronts.
use Rattle.std.proofs.Common.{◌≡◌, ◌≢◌, ℕ, ◌+◌, Bool, true, false, List, [], ◌∷◌, map, take, drop, ℤ, pos, negsuc, ◌==◌, refl, sym, ap, ◌∙◌, subst, arith, ◌⊎◌, inl, inr, ⊎_elim}
use Rattle.std.proofs.lemmas.Bool.Decides.{nat_tests}
use Rattle.std.proofs.lemmas.Bool.{cases_Bool, cases_lt, false≢true}
use Rattle.std.proofs.lemmas.Cmp.{nat_cmp_total, tied_itself}
use Rattle.std.proofs.Math.Numerals.{one-add}
use Rattle.std.specs.Char.{is_ascii_digit, is_ascii_alphabetic}
use Rattle.std.specs.Str.Parse.{digits_value}
use Rattle.std.specs.declared.cmp.Ordering.{Ordering}
use Rattle.std.specs.declared.cmp.Ordering.TheVariants.{Equal}
use Rattle.std.specs.Ordering.{is_ne, ordering_then, nat_cmp, int_cmp}
use Rattle.deb_version.specs.steps.Digits.{leading_digits, after_digits, text_run}
use Rattle.deb_version.specs.steps.Front.{rank, front_rank}
use Rattle.deb_version.specs.Key.{weight, from_digits, key_cmp, part_cmp}
use Rattle.deb_version.proofs.Runs.{position_first, position_later}
use Rattle.deb_version.proofs.Blocks.{then_assoc, part_step, answer_decides}

-- an integer from -1 on and a number that is one more
abbrev IsOneMore : ℕ → ℤ → Type 0
IsOneMore m z = ((z ≡ negsuc 0) × (m ≡ 0)) ⊎ ((n : ℕ) × (z ≡ pos n) × (m ≡ n + 1))

one_more_cmp : (y z : ℤ) (m n : ℕ) → IsOneMore m y → IsOneMore n z → int_cmp y z ≡ nat_cmp m n
one_more_cmp y z m n h k =
    ⊎_elim
    (λ low. ⊎_elim
    (λ low_too. rw (low.0, low.1, low_too.0, low_too.1) refl)
    (λ high. rw (low.0, low.1, high.1, high.2) (grind (arith, nat_tests)))
    k)
    (λ high. ⊎_elim
    (λ low. rw (high.1, high.2, low.0, low.1) (grind (arith, nat_tests)))
    (λ high_too. rw (high.1, high.2, high_too.1, high_too.2) (grind (arith, nat_tests)))
    k)
    h

-- the rank of a non-digit is its weight and one more
no_tilde : (c : ℕ) (letter : Bool) → (c == 126) ≡ false → is_ascii_digit c ≡ false → is_ascii_alphabetic c ≡ letter → IsOneMore (rank c) (weight c)
no_tilde c true other no_digit h = inr (c, rw (other, h) refl, rw (other, no_digit, h) refl)
no_tilde c false other no_digit h = inr (c + 256, rw (other, h) refl, rw (other, no_digit, h) (omega arith))

rank_is_more : (c : ℕ) → is_ascii_digit c ≡ false → IsOneMore (rank c) (weight c)
rank_is_more c no_digit =
    ⊎_elim
    (λ tilde. inl (rw tilde refl, rw tilde refl))
    (λ other. no_tilde c (is_ascii_alphabetic c) other no_digit refl)
    (cases_Bool (c == 126))

-- ranks of non-digits compare as their weights do, with each other and with 0
rank_cmp : (c d : ℕ) → is_ascii_digit c ≡ false → is_ascii_digit d ≡ false → int_cmp (weight c) (weight d) ≡ nat_cmp (rank c) (rank d)
rank_cmp c d h k = one_more_cmp (weight c) (weight d) (rank c) (rank d) (rank_is_more c h) (rank_is_more d k)

rank_below : (c : ℕ) → is_ascii_digit c ≡ false → int_cmp (weight c) (pos 0) ≡ nat_cmp (rank c) 1
rank_below c h = one_more_cmp (weight c) (pos 0) (rank c) 1 (rank_is_more c h) (inr (0, refl, refl))

rank_above : (c : ℕ) → is_ascii_digit c ≡ false → int_cmp (pos 0) (weight c) ≡ nat_cmp 1 (rank c)
rank_above c h = one_more_cmp (pos 0) (weight c) 1 (rank c) (inr (0, refl, refl)) (rank_is_more c h)

-- a part that does not begin with a non-digit
pub record Stops (part : List ℕ) : Type 0 where
  pub no_text : text_run part ≡ []
  pub digits_first : from_digits part ≡ part
  pub rank_is : front_rank part ≡ 1

stops_nothing : Stops []
stops_nothing = record { no_text = refl; digits_first = refl; rank_is = refl }

digit_rank : (c : ℕ) → is_ascii_digit c ≡ true → rank c ≡ 1
digit_rank c h = grind (arith, nat_tests)

other_rank : (c : ℕ) → is_ascii_digit c ≡ false → rank c ≢ 1
other_rank c h e = grind (arith, nat_tests)

pub stops_at_digit : (c : ℕ) (cs : List ℕ) → is_ascii_digit c ≡ true → Stops (c ∷ cs)
stops_at_digit c cs h = record {
  no_text = ap (λ n. take n (c ∷ cs)) (position_first is_ascii_digit c cs h);
  digits_first = ap (λ n. drop n (c ∷ cs)) (position_first is_ascii_digit c cs h);
  rank_is = digit_rank c h;
}

-- a part of rank 1 does
pub stops_by_rank : (part : List ℕ) → front_rank part ≡ 1 → Stops part
stops_by_rank [] e = stops_nothing
stops_by_rank (c ∷ cs) e = ⊎_elim (λ digit. stops_at_digit c cs digit) (λ other. absurd (other_rank c other e)) (cases_Bool (is_ascii_digit c))

text_run_more : (c : ℕ) (cs : List ℕ) → is_ascii_digit c ≡ false → text_run (c ∷ cs) ≡ c ∷ text_run cs
text_run_more c cs h = ap (λ n. take n (c ∷ cs)) (position_later is_ascii_digit c cs h ∙ one-add _)

from_digits_more : (c : ℕ) (cs : List ℕ) → is_ascii_digit c ≡ false → from_digits (c ∷ cs) ≡ from_digits cs
from_digits_more c cs h = ap (λ n. drop n (c ∷ cs)) (position_later is_ascii_digit c cs h ∙ one-add _)

-- how digits and what follows them compare
abbrev digits_cmp : List ℕ → List ℕ → Ordering
digits_cmp f g = ordering_then (nat_cmp (digits_value 10 (leading_digits f)) (digits_value 10 (leading_digits g))) (part_cmp (after_digits f) (after_digits g))

-- how parts with these runs of non-digits, and these digits behind them, compare
abbrev runs_cmp : List ℕ → List ℕ → List ℕ → List ℕ → Ordering
runs_cmp t f u g = ordering_then (key_cmp (map weight t) (map weight u)) (digits_cmp f g)

by_runs : (a b t f u g : List ℕ) → text_run a ≡ t → from_digits a ≡ f → text_run b ≡ u → from_digits b ≡ g → part_cmp a b ≡ runs_cmp t f u g
by_runs a b t f u g ta fa tb gb =
    part_step a b
    ∙ ap (λ v. runs_cmp v (from_digits a) (text_run b) (from_digits b)) ta
    ∙ ap (λ v. runs_cmp t v (text_run b) (from_digits b)) fa
    ∙ ap (λ v. runs_cmp t f v (from_digits b)) tb
    ∙ ap (λ v. runs_cmp t f u v) gb

-- two parts that begin with non-digits compare by these, and then by what follows
pub text_step : (c d : ℕ) (a b : List ℕ) → is_ascii_digit c ≡ false → is_ascii_digit d ≡ false → part_cmp (c ∷ a) (d ∷ b) ≡ ordering_then (int_cmp (weight c) (weight d)) (part_cmp a b)
unfolding key_cmp
text_step c d a b h k =
    by_runs (c ∷ a) (d ∷ b) (c ∷ text_run a) (from_digits a) (d ∷ text_run b) (from_digits b) (text_run_more c a h) (from_digits_more c a h) (text_run_more d b k) (from_digits_more d b k)
    ∙ then_assoc (int_cmp (weight c) (weight d)) (key_cmp (map weight (text_run a)) (map weight (text_run b))) (digits_cmp (from_digits a) (from_digits b))
    ∙ ap (λ o. ordering_then (int_cmp (weight c) (weight d)) o) (sym (part_step a b))

-- two parts that do not compare by their digits, and then by what follows these
pub digits_step : (a b : List ℕ) → front_rank a ≡ 1 → front_rank b ≡ 1 → part_cmp a b ≡ digits_cmp a b
unfolding key_cmp
digits_step a b h k =
    let first : Stops a = stops_by_rank a h in
    let second : Stops b = stops_by_rank b k in
    by_runs a b [] a [] b first.no_text first.digits_first second.no_text second.digits_first

-- ranks that differ decide
first_text : (c : ℕ) (a b : List ℕ) → is_ascii_digit c ≡ false → Stops b → (o : Ordering) → o ≡ nat_cmp (rank c) (front_rank b) → is_ne o ≡ true → o ≡ part_cmp (c ∷ a) b
unfolding key_cmp
first_text c a b h stops o e differ =
    let ranks : o ≡ int_cmp (weight c) (pos 0) = e ∙ ap (nat_cmp (rank c)) stops.rank_is ∙ sym (rank_below c h) in
    let rest : Ordering = ordering_then (key_cmp (map weight (text_run a)) []) (digits_cmp (from_digits a) b) in
    answer_decides o (part_cmp (c ∷ a) b) rest
    (by_runs (c ∷ a) b (c ∷ text_run a) (from_digits a) [] b (text_run_more c a h) (from_digits_more c a h) stops.no_text stops.digits_first
    ∙ then_assoc (int_cmp (weight c) (pos 0)) (key_cmp (map weight (text_run a)) []) (digits_cmp (from_digits a) b)
    ∙ ap (λ p. ordering_then p rest) (sym ranks))
    differ

second_text : (d : ℕ) (a b : List ℕ) → is_ascii_digit d ≡ false → Stops a → (o : Ordering) → o ≡ nat_cmp (front_rank a) (rank d) → is_ne o ≡ true → o ≡ part_cmp a (d ∷ b)
unfolding key_cmp
second_text d a b h stops o e differ =
    let ranks : o ≡ int_cmp (pos 0) (weight d) = e ∙ ap (λ n. nat_cmp n (rank d)) stops.rank_is ∙ sym (rank_above d h) in
    let rest : Ordering = ordering_then (key_cmp [] (map weight (text_run b))) (digits_cmp a (from_digits b)) in
    answer_decides o (part_cmp a (d ∷ b)) rest
    (by_runs a (d ∷ b) [] a (d ∷ text_run b) (from_digits b) stops.no_text stops.digits_first (text_run_more d b h) (from_digits_more d b h)
    ∙ then_assoc (int_cmp (pos 0) (weight d)) (key_cmp [] (map weight (text_run b))) (digits_cmp a (from_digits b))
    ∙ ap (λ p. ordering_then p rest) (sym ranks))
    differ

both_texts : (c d : ℕ) (a b : List ℕ) → is_ascii_digit c ≡ false → is_ascii_digit d ≡ false → (o : Ordering) → o ≡ nat_cmp (rank c) (rank d) → is_ne o ≡ true → o ≡ part_cmp (c ∷ a) (d ∷ b)
both_texts c d a b h k o e differ =
    answer_decides o (part_cmp (c ∷ a) (d ∷ b)) (part_cmp a b)
    (text_step c d a b h k ∙ ap (λ p. ordering_then p (part_cmp a b)) (rank_cmp c d h k ∙ sym e))
    differ

neither_text : (a b : List ℕ) → Stops a → Stops b → (o : Ordering) → o ≡ nat_cmp (front_rank a) (front_rank b) → is_ne o ≡ true → o ≡ part_cmp a b
neither_text a b first second o e differ =
    absurd (false≢true (sym (ap is_ne (e ∙ ap (λ n. nat_cmp n (front_rank b)) first.rank_is ∙ ap (nat_cmp 1) second.rank_is)) ∙ differ))

-- a part begins with a non-digit, or does not
abbrev Front : List ℕ → Type 0
Front part = ((c : ℕ) × (cs : List ℕ) × (part ≡ c ∷ cs) × (is_ascii_digit c ≡ false)) ⊎ Stops part

front_of : (part : List ℕ) → Front part
front_of [] = inr stops_nothing
front_of (c ∷ cs) = ⊎_elim (λ digit. inr (stops_at_digit c cs digit)) (λ other. inl (c, cs, refl, other)) (cases_Bool (is_ascii_digit c))

pub ranks_decide : (a b : List ℕ) (o : Ordering) → o ≡ nat_cmp (front_rank a) (front_rank b) → is_ne o ≡ true → o ≡ part_cmp a b
ranks_decide [] b o e differ =
    ⊎_elim
    (λ text. subst (λ p. o ≡ nat_cmp 1 (front_rank p) → o ≡ part_cmp [] p) (sym text.2) (λ f. second_text text.0 [] text.1 text.3 stops_nothing o f differ) e)
    (λ stops. neither_text [] b stops_nothing stops o e differ)
    (front_of b)
ranks_decide (c ∷ a) [] o e differ =
    ⊎_elim
    (λ digit. neither_text (c ∷ a) [] (stops_at_digit c a digit) stops_nothing o e differ)
    (λ other. first_text c a [] other stops_nothing o e differ)
    (cases_Bool (is_ascii_digit c))
ranks_decide (c ∷ a) (d ∷ b) o e differ =
    ⊎_elim
    (λ digit. ⊎_elim
    (λ digit_too. neither_text (c ∷ a) (d ∷ b) (stops_at_digit c a digit) (stops_at_digit d b digit_too) o e differ)
    (λ other. second_text d (c ∷ a) b other (stops_at_digit c a digit) o e differ)
    (cases_Bool (is_ascii_digit d)))
    (λ text. ⊎_elim
    (λ digit. first_text c a (d ∷ b) text (stops_at_digit d b digit) o e differ)
    (λ other. both_texts c d a b text other o e differ)
    (cases_Bool (is_ascii_digit d)))
    (cases_Bool (is_ascii_digit c))

-- two parts of equal ranks that begin with non-digits compare by what follows
rank_weight : (c d : ℕ) → is_ascii_digit c ≡ false → is_ascii_digit d ≡ false → rank c ≡ rank d → int_cmp (weight c) (weight d) ≡ Equal
rank_weight c d h k e = rank_cmp c d h k ∙ ap (nat_cmp (rank c)) (sym e) ∙ tied_itself nat_cmp_total (rank c)

pub text_rests : (a b : List ℕ) → front_rank a ≡ front_rank b → front_rank a ≢ 1 → part_cmp a b ≡ part_cmp (drop 1 a) (drop 1 b)
text_rests [] b e some = absurd (some refl)
text_rests (c ∷ a) [] e some = absurd (some e)
text_rests (c ∷ a) (d ∷ b) e some =
    ⊎_elim
    (λ digit. absurd (some (digit_rank c digit)))
    (λ other. ⊎_elim
    (λ digit. absurd (some (e ∙ digit_rank d digit)))
    (λ other_too. text_step c d a b other other_too ∙ ap (λ o. ordering_then o (part_cmp a b)) (rank_weight c d other other_too e))
    (cases_Bool (is_ascii_digit d)))
    (cases_Bool (is_ascii_digit c))

ranks_apart : (m n : ℕ) → m ≢ n → is_ne (nat_cmp m n) ≡ true
ranks_apart m n h = ⊎_elim (λ below. grind (arith, nat_tests)) (λ above. grind (arith, nat_tests)) (cases_lt m n)

-- the steps of a comparison that has come to two parts, whose ranks are m and n
module _ (a b : List ℕ) (m n : ℕ) (first : m ≡ front_rank a) (second : n ≡ front_rank b) where
  pub decided_by_ranks : (o : Ordering) → o ≡ nat_cmp m n → m ≢ n → o ≡ part_cmp a b
  decided_by_ranks o e apart = ranks_decide a b o (e ∙ ap (λ i. nat_cmp i n) first ∙ ap (nat_cmp (front_rank a)) second) (ap is_ne e ∙ ranks_apart m n apart)

  pub next_text : m ≡ n → m ≢ 1 → part_cmp a b ≡ part_cmp (drop 1 a) (drop 1 b)
  next_text alike some = text_rests a b (sym first ∙ alike ∙ second) (λ e. some (first ∙ e))

  pub next_digits : m ≡ n → m ≡ 1 → (o : Ordering) (f g x y : List ℕ) → f ≡ leading_digits a → g ≡ leading_digits b → x ≡ after_digits a → y ≡ after_digits b
      → o ≡ nat_cmp (digits_value 10 f) (digits_value 10 g) → part_cmp a b ≡ ordering_then o (part_cmp x y)
  next_digits alike one o f g x y fa gb xa yb e =
      digits_step a b (sym first ∙ one) (sym second ∙ sym alike ∙ one) ∙ sym (rw (e, fa, gb, xa, yb) refl)
