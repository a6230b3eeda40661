-- A part is compared by its first block and then by what follows.
use Rattle.std.proofs.Common.{◌≡◌, ◌≢◌, ℕ, zero, suc, ◌+◌, ◌≤◌, ◌<◌, Bool, true, false, not, List, [], ◌∷◌, ◌++◌, length, map, ℤ, pos, refl, sym, ap, ◌∙◌, append_assoc, arith}
use Rattle.std.proofs.lemmas.Bool.Decides.{nat_tests}
use Rattle.std.proofs.lemmas.Map.Lookups.{exact_signed}
use Rattle.std.proofs.lemmas.List.{length-drop}
use Rattle.std.specs.Char.{is_ascii_digit}
use Rattle.std.specs.List.{position_or_len}
use Rattle.std.specs.Str.Parse.{digits_value}
use Rattle.std.specs.declared.cmp.Ordering.{Ordering}
use Rattle.std.specs.declared.cmp.Ordering.TheVariants.{Less, Equal, Greater}
use Rattle.std.proofs.lemmas.Bool.{false≢true}
use Rattle.std.specs.Ordering.{is_ne, ordering_then, nat_cmp, int_cmp}
use Rattle.deb_version.proofs.Runs.{position_first, position_later}
use Rattle.deb_version.specs.Key.{weight, is_non_digit, from_digits, after_block, block_key, blocks_key, key, key_cmp, part_cmp}
use Rattle.deb_version.specs.steps.Digits.{text_run, digit_run}

pub then_assoc : (o p q : Ordering) → ordering_then (ordering_then o p) q ≡ ordering_then o (ordering_then p q)
then_assoc Less p q = refl
then_assoc Equal p q = refl
then_assoc Greater p q = refl

-- an answer that tells two apart decides
decided : (o p q r : Ordering) → o ≢ Equal → ordering_then o p ≡ ordering_then (ordering_then o q) r
decided Less p q r h = refl
decided Equal p q r h = absurd (h refl)
decided Greater p q r h = refl

then_equal : (o : Ordering) → ordering_then o Equal ≡ o
then_equal Less = refl
then_equal Equal = refl
then_equal Greater = refl

-- no weight is 0
weight_nonzero : (c : ℕ) → weight c ≢ pos 0
weight_nonzero c h = grind (arith, nat_tests)

weight_below : (c : ℕ) → int_cmp (pos 0) (weight c) ≢ Equal
weight_below c h = weight_nonzero c (sym (exact_signed _ _ h))

weight_above : (c : ℕ) → int_cmp (weight c) (pos 0) ≢ Equal
weight_above c h = weight_nonzero c (exact_signed _ _ h)

pub pos_cmp : (m n : ℕ) → int_cmp (pos m) (pos n) ≡ nat_cmp m n
pos_cmp m n = grind (arith, nat_tests)

-- where runs of non-digits end by 0, they are compared first
texts_decide : (a b : List ℕ) (xs ys : List ℤ) → key_cmp (map weight a ++ pos 0 ∷ xs) (map weight b ++ pos 0 ∷ ys) ≡ ordering_then (key_cmp (map weight a) (map weight b)) (key_cmp xs ys)
unfolding key_cmp
texts_decide [] [] xs ys = refl
texts_decide [] (y ∷ b) xs ys = decided (int_cmp (pos 0) (weight y)) _ _ _ (weight_below y)
texts_decide (x ∷ a) [] xs ys = decided (int_cmp (weight x) (pos 0)) _ _ _ (weight_above x)
texts_decide (x ∷ a) (y ∷ b) xs ys =
    ap (λ o. ordering_then (int_cmp (weight x) (weight y)) o) (texts_decide a b xs ys)
    ∙ sym (then_assoc (int_cmp (weight x) (weight y)) (key_cmp (map weight a) (map weight b)) (key_cmp xs ys))

-- a block is not empty
block_taken : (c : ℕ) (cs : List ℕ) (b : Bool) → is_ascii_digit c ≡ b → 0 < position_or_len is_ascii_digit (c ∷ cs) + position_or_len is_non_digit (from_digits (c ∷ cs))
block_taken c cs true h =
    rw (position_first is_ascii_digit c cs h, position_later is_non_digit c cs (ap not h)) (omega arith)
block_taken c cs false h = rw (position_later is_ascii_digit c cs h) (omega arith)

after_block_short : (c : ℕ) (cs : List ℕ) → length (after_block (c ∷ cs)) ≤ length cs
after_block_short c cs = rw (length-drop, length-drop) (omega (arith, block_taken c cs (is_ascii_digit c) refl))

blocks_key_again : (n m : ℕ) (part : List ℕ) → length part ≤ n → length part ≤ m → blocks_key n part ≡ blocks_key m part
unfolding blocks_key
blocks_key_again zero zero [] h k = refl
blocks_key_again zero (suc m) [] h k = refl
blocks_key_again (suc n) zero [] h k = refl
blocks_key_again (suc n) (suc m) [] h k = refl
blocks_key_again zero m (c ∷ cs) h k = absurd (omega arith)
blocks_key_again (suc n) zero (c ∷ cs) h k = absurd (omega arith)
blocks_key_again (suc n) (suc m) (c ∷ cs) h k =
    ap (λ ks. block_key (c ∷ cs) ++ ks) (blocks_key_again n m (after_block (c ∷ cs)) (omega (arith, after_block_short c cs)) (omega (arith, after_block_short c cs)))

-- the key of a part that is not empty
pub key_block : (c : ℕ) (cs : List ℕ) → key (c ∷ cs) ≡ block_key (c ∷ cs) ++ key (after_block (c ∷ cs))
unfolding key blocks_key
key_block c cs =
    ap (λ ks. block_key (c ∷ cs) ++ ks) (blocks_key_again (length cs) (length (after_block (c ∷ cs))) (after_block (c ∷ cs)) (after_block_short c cs) (omega arith))

zero_ends : (ys : List ℤ) → key_cmp [] ys ≡ key_cmp (pos 0 ∷ []) ys
unfolding key_cmp
zero_ends [] = refl
zero_ends (y ∷ ys) = refl

-- an empty part is as a block of no non-digit and no digit
zeros_end : (ys : List ℤ) → key_cmp [] ys ≡ key_cmp (pos 0 ∷ pos 0 ∷ []) ys
unfolding key_cmp
zeros_end [] = refl
zeros_end (y ∷ ys) = ap (λ o. ordering_then (int_cmp (pos 0) y) o) (zero_ends ys)

zero_begins : (xs : List ℤ) → key_cmp xs [] ≡ key_cmp xs (pos 0 ∷ [])
unfolding key_cmp
zero_begins [] = refl
zero_begins (x ∷ xs) = refl

zeros_begin : (xs : List ℤ) → key_cmp xs [] ≡ key_cmp xs (pos 0 ∷ pos 0 ∷ [])
unfolding key_cmp
zeros_begin [] = refl
zeros_begin (x ∷ xs) = ap (λ o. ordering_then (int_cmp x (pos 0)) o) (zero_begins xs)

numbers_next : (m n : ℕ) (xs ys : List ℤ) → key_cmp (pos m ∷ xs) (pos n ∷ ys) ≡ ordering_then (nat_cmp m n) (key_cmp xs ys)
unfolding key_cmp
numbers_next m n xs ys = ap (λ o. ordering_then o (key_cmp xs ys)) (pos_cmp m n)

-- the key of a part by its first block, an empty part too
abbrev key_by_block : List ℕ → List ℤ
key_by_block part = map weight (text_run part) ++ pos 0 ∷ pos (digits_value 10 (digit_run part)) ∷ key (after_block part)

left_block : (a : List ℕ) (ys : List ℤ) → key_cmp (key a) ys ≡ key_cmp (key_by_block a) ys
left_block [] ys = unfold key blocks_key in zeros_end ys
left_block (c ∷ cs) ys = ap (λ xs. key_cmp xs ys) (key_block c cs ∙ append_assoc (map weight (text_run (c ∷ cs))) _ _)

right_block : (b : List ℕ) (xs : List ℤ) → key_cmp xs (key b) ≡ key_cmp xs (key_by_block b)
right_block [] xs = unfold key blocks_key in zeros_begin xs
right_block (c ∷ cs) xs = ap (λ ys. key_cmp xs ys) (key_block c cs ∙ append_assoc (map weight (text_run (c ∷ cs))) _ _)

-- parts are compared by their first blocks and then by what follows these
pub part_step : (a b : List ℕ) → part_cmp a b ≡ ordering_then (key_cmp (map weight (text_run a)) (map weight (text_run b)))
    (ordering_then (nat_cmp (digits_value 10 (digit_run a)) (digits_value 10 (digit_run b))) (part_cmp (after_block a) (after_block b)))
part_step a b =
    left_block a (key b)
    ∙ right_block b (key_by_block a)
    ∙ texts_decide (text_run a) (text_run b) _ _
    ∙ ap (λ o. ordering_then (key_cmp (map weight (text_run a)) (map weight (text_run b))) o) (numbers_next _ _ _ _)

-- an answer that tells two apart is the whole answer, and any other leaves it to the rest
pub answer_decides : (o : Ordering) (whole rest : Ordering) → whole ≡ ordering_then o rest → is_ne o ≡ true → o ≡ whole
answer_decides Less whole rest e h = sym e
answer_decides Equal whole rest e h = absurd (false≢true h)
answer_decides Greater whole rest e h = sym e

pub answer_rests : (o : Ordering) (whole rest : Ordering) → whole ≡ ordering_then o rest → is_ne o ≡ false → whole ≡ rest
answer_rests Less whole rest e h = absurd (false≢true (sym h))
answer_rests Equal whole rest e h = e
answer_rests Greater whole rest e h = absurd (false≢true (sym h))

-- past both ends two parts are equal
pub part_cmp_done : (a b : List ℕ) → length a ≡ 0 → length b ≡ 0 → part_cmp a b ≡ Equal
unfolding key blocks_key key_cmp
part_cmp_done [] [] h k = refl
part_cmp_done [] (y ∷ b) h k = absurd (omega arith)
part_cmp_done (x ∷ a) b h k = absurd (omega arith)
