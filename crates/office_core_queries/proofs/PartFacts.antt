-- A part of the bag of a sender's mail.
use Rattle.std.proofs.Common.{◌≡◌, ℕ, zero, suc, ◌+◌, ◌-◌, ◌<◌, ◌≤◌, Bool, true, false, cond, List, [], ◌∷◌, ◌++◌, length, map, filter_map, Option, Some, None, IsSome, sym, ap, ◌∙◌, refl, arith}
use Rattle.std.specs.Prelude.{◌==◌, ◌||◌, nat_le}
use Rattle.std.specs.FinMap.{get}
use Rattle.std.specs.List.{flat_map, range_with_len}
use Rattle.std.proofs.lemmas.List.{append-nil, append_assoc, length-append}
use Rattle.office_mail.specs.Bag.{framed}
use Rattle.office_mail.specs.Kept.{Kept}
use Rattle.office_mail.specs.Lists.{Lists}
use Rattle.office_store_keeper.specs.declared.values.Letter.{Letter}
use Rattle.office_store_keeper.specs.Content.{letter_at, letters_within}
use Rattle.office_core_orders.specs.Ready.{HasPlaces}
use Rattle.office_core_queries.specs.BagPart.{bag_part, fitting, letters_from, letters_of_part}
use Rattle.office_core_queries.specs.steps.Numbers.{IsNextLetter}
use Rattle.office_core_queries.proofs.LetterLists.{behind_next, behind_none, rest_within, within_first}

-- letters as messages of a bag
abbrev pub bag_of : List Letter → List ℕ
bag_of letters = flat_map framed (map (λ (l : Letter). l.text) letters)

-- some bytes of a part, and what comes behind them, of the letters behind a number
abbrev pub part_behind : Kept → ℕ → ℕ → List ℕ → List ℕ
part_behind kept sender last bytes = bytes ++ bag_of (fitting (length bytes) (letters_from kept sender (last + 1)))

-- whether a letter fits behind so many bytes
abbrev pub has_room : ℕ → List ℕ → Bool
has_room bytes text = (bytes == 0) || nat_le (bytes + length (framed text)) 65_536

fitted : (bytes : ℕ) (l : Letter) (ls : List Letter) (b : Bool) → has_room bytes l.text ≡ b → fitting bytes (l ∷ ls) ≡ cond b (l ∷ fitting (bytes + length (framed l.text)) ls) []
fitted bytes l ls b e = ap (λ (c : Bool). cond c (l ∷ fitting (bytes + length (framed l.text)) ls) []) e

next_letters : (kept : Kept) (s last : ℕ) (l : Letter) → IsNextLetter kept s last (Some l) → l.number ≤ 999_999_999 → letters_from kept s (last + 1) ≡ l ∷ letters_from kept s (l.number + 1)
next_letters kept s last l next few = behind_next kept s last l.number 999_999_999 l.text next.0 few next.1 next.2

pub part_more : (kept : Kept) (s last : ℕ) (l : Letter) (bytes new : List ℕ) → IsNextLetter kept s last (Some l) → l.number ≤ 999_999_999 → has_room (length bytes) l.text ≡ true → new ≡ bytes ++ framed l.text → part_behind kept s l.number new ≡ part_behind kept s last bytes
part_more kept s last l bytes new next few room put =
    let rest = letters_from kept s (l.number + 1) in
    let size : length new ≡ length bytes + length (framed l.text) = ap length put ∙ length-append bytes (framed l.text) in
    ap (λ (xs : List ℕ). xs ++ bag_of (fitting (length new) rest)) put
    ∙ ap (λ (n : ℕ). (bytes ++ framed l.text) ++ bag_of (fitting n rest)) size
    ∙ append_assoc bytes (framed l.text) (bag_of (fitting (length bytes + length (framed l.text)) rest))
    ∙ sym (ap (λ (ls : List Letter). bytes ++ bag_of (fitting (length bytes) ls)) (next_letters kept s last l next few) ∙ ap (λ (ls : List Letter). bytes ++ bag_of ls) (fitted (length bytes) l rest true room))

pub part_full : (kept : Kept) (s last : ℕ) (l : Letter) (bytes : List ℕ) → IsNextLetter kept s last (Some l) → l.number ≤ 999_999_999 → has_room (length bytes) l.text ≡ false → part_behind kept s last bytes ≡ bytes
part_full kept s last l bytes next few room =
    ap (λ (ls : List Letter). bytes ++ bag_of (fitting (length bytes) ls)) (next_letters kept s last l next few)
    ∙ ap (λ (ls : List Letter). bytes ++ bag_of ls) (fitted (length bytes) l (letters_from kept s (l.number + 1)) false room) ∙ append-nil bytes

pub part_all : (kept : Kept) (s last : ℕ) (bytes : List ℕ) → IsNextLetter kept s last None → part_behind kept s last bytes ≡ bytes
part_all kept s last bytes none = ap (λ (ls : List Letter). bytes ++ bag_of (fitting (length bytes) ls)) (behind_none kept s last 999_999_999 none) ∙ append-nil bytes

-- the whole part, which begins with a number
pub part_at : (kept : Kept) (s from less : ℕ) → less ≡ from - 1 → get kept (s, 0) ≡ None → part_behind kept s less [] ≡ bag_part kept s from
unfolding bag_part
part_at kept s zero less e none = ap (λ (n : ℕ). bag_of (fitting 0 (letters_from kept s (n + 1)))) (let at : less ≡ 0 = omega (arith, e) in at) ∙ ap (λ (ls : List Letter). bag_of (fitting 0 ls)) (sym (within_first kept s 999_999_999 none))
part_at kept s (suc n) less e none = ap (λ (k : ℕ). bag_of (fitting 0 (letters_from kept s k))) (let at : less + 1 ≡ suc n = omega (arith, e) in at)

-- there is none behind the greatest number
pub part_past : (kept : Kept) (s from : ℕ) → 999_999_999 < from → bag_part kept s from ≡ []
unfolding bag_part letters_within
part_past kept s from past = ap (λ (k : ℕ). bag_of (fitting 0 (filter_map (letter_at kept s) (range_with_len from k)))) (let none : 999_999_999 + 1 - from ≡ 0 = omega (arith, past) in none)

free_by : (setup : Lists) (kept : Kept) (s : ℕ) (o : Option (List ℕ)) → HasPlaces setup kept → get kept (s, 0) ≡ o → o ≡ None
free_by setup kept s None places e = refl
free_by setup kept s (Some t) places e = let some : IsSome (get kept (s, 0)) = rw e refl in absurd (omega (arith, (places (s, 0) some).above))

-- no message has number 0
pub zero_free : (setup : Lists) (kept : Kept) (s : ℕ) → HasPlaces setup kept → get kept (s, 0) ≡ None
zero_free setup kept s places = free_by setup kept s (get kept (s, 0)) places refl

-- a part is a front of the letters
front_by : (bytes : ℕ) (l : Letter) (ls rest : List Letter) (b : Bool) → has_room bytes l.text ≡ b → ls ≡ fitting (bytes + length (framed l.text)) ls ++ rest → (more : List Letter) × (l ∷ ls ≡ fitting bytes (l ∷ ls) ++ more)
front_by bytes l ls rest true e so = (rest, ap (λ (xs : List Letter). l ∷ xs) so ∙ ap (λ (xs : List Letter). xs ++ rest) (sym (fitted bytes l ls true e)))
front_by bytes l ls rest false e so = (l ∷ ls, ap (λ (xs : List Letter). xs ++ l ∷ ls) (sym (fitted bytes l ls false e)))

front_of : (bytes : ℕ) (ls : List Letter) → (more : List Letter) × (ls ≡ fitting bytes ls ++ more)
front_of bytes [] = ([], refl)
front_of bytes (l ∷ ls) = let so = front_of (bytes + length (framed l.text)) ls in front_by bytes l ls so.0 (has_room bytes l.text) refl so.1

-- the next part goes on behind the last letter
pub next_part : (kept : Kept) (s from : ℕ) (front : List Letter) (last : Letter) → letters_of_part kept s from ≡ front ++ last ∷ [] → letters_from kept s from ≡ letters_of_part kept s from ++ letters_from kept s (last.number + 1)
next_part kept s from front last e =
    let so = front_of 0 (letters_from kept s from) in
    so.1 ∙ ap (λ (ls : List Letter). letters_of_part kept s from ++ ls)
    (rest_within kept s from 999_999_999 front last so.0 (so.1 ∙ ap (λ (ls : List Letter). ls ++ so.0) e))

some_part : (ls : List Letter) → fitting 0 ls ≡ [] → ls ≡ []
some_part [] e = refl
some_part (l ∷ ls) e = absurd (cc e)

pub no_part : (kept : Kept) (s from : ℕ) → letters_of_part kept s from ≡ [] → letters_from kept s from ≡ []
no_part kept s from e = some_part (letters_from kept s from) e
