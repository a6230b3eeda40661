-- What came of a bag reads as one list of messages.
use Rattle.std.proofs.Common.{◌≡◌, ◌≢◌, ℕ, ◌+◌, ◌<◌, ◌≤◌, Option, Some, None, List, [], ◌∷◌, ◌++◌, length, get_or, take, drop, flat_map, sym, ap, ◌∙◌, refl, arith, codes, decimal, ⊎_elim}
use Rattle.std.specs.List.{AllByRecursion}
use Rattle.std.proofs.lemmas.Bool.{cases_lt}
use Rattle.std.proofs.lemmas.Fmt.{decimal_injective}
use Rattle.std.proofs.lemmas.List.{append_assoc, append-nil, append_cancel_left, append_cancel_right, length-append, get_or_append_left, take_at, drop_at, take-append-le, take-append-drop}
use Rattle.office_mail.specs.Bag.{header, framed, HasHeader, IsBadHeader, IsTruncated, EndsSo, ReadsOneWay}
use Rattle.office_mail.specs.declared.bag.BagFault.{BagFault}
use Rattle.office_mail.specs.declared.bag.BagFault.TheVariants.{BadHeader, Truncated, ReadFault, NoMemory}
use Rattle.office_mail.proofs.HeaderFacts.{header_digit, header_end, length-header, digits_at}

-- the line feed of a line stands behind its digits
line_end : (n : ℕ) (more : List ℕ) → get_or (header n ++ more) (5 + length (decimal n)) 0 ≡ 10
line_end n more = get_or_append_left (header n) more 0 (5 + length (decimal n)) (omega (arith, length-header n)) ∙ header_end n

-- none of the digits is one
digit_no_end : (n k : ℕ) → n ≤ 999_999_999 → k < length (decimal n) → get_or (header n) (5 + k) 0 ≡ 10 → ⊥
digit_no_end n k small h is =
    let at : get_or (decimal n) k 0 ≡ 10 = sym (header_digit n k h) ∙ is in
    let digit = digits_at n (omega (arith, small)) k h in
    omega (arith, at, digit.0)

no_longer : (n m : ℕ) (a b : List ℕ) → m ≤ 999_999_999 → header n ++ a ≡ header m ++ b → length (decimal m) ≤ length (decimal n)
no_longer n m a b small e =
    ⊎_elim (λ (lt : length (decimal n) < length (decimal m)).
    let here : get_or (header m) (5 + length (decimal n)) 0 ≡ 10 =
    sym (get_or_append_left (header m) b 0 (5 + length (decimal n)) (omega (arith, length-header m, lt)))
    ∙ ap (λ (l : List ℕ). get_or l (5 + length (decimal n)) 0) (sym e) ∙ line_end n a in
    absurd (digit_no_end m (length (decimal n)) small lt here))
    (λ (le : length (decimal m) ≤ length (decimal n)). le)
    (cases_lt (length (decimal n)) (length (decimal m)))

-- two lines before the same bytes announce the same
same_line : (n m : ℕ) (a b : List ℕ) → n ≤ 999_999_999 → m ≤ 999_999_999 → header n ++ a ≡ header m ++ b → n ≡ m
same_line n m a b small large e =
    let size : length (header n) ≡ length (header m) = omega (arith, no_longer n m a b large e, no_longer m n b a small (sym e), length-header n, length-header m) in
    let line : header n ≡ header m =
    sym (take_at (header n) a (length (header m)) size) ∙ ap (take (length (header m))) e ∙ take_at (header m) b (length (header m)) refl in
    let begun : codes "mail " ++ decimal n ≡ codes "mail " ++ decimal m = append_cancel_right (codes "mail " ++ decimal n) (codes "mail " ++ decimal m) (10 ∷ []) line in
    decimal_injective n m (omega (arith, small)) (omega (arith, large)) (append_cancel_left (codes "mail ") (decimal n) (decimal m) begun)

-- messages at the front of the same bytes are the same, and so is what follows
same_first : (a b r s : List ℕ) → HasHeader a → HasHeader b → framed a ++ r ≡ framed b ++ s → (a ≡ b) × (r ≡ s)
same_first a b r s small large e =
    let lines : header (length a) ++ (a ++ r) ≡ header (length b) ++ (b ++ s) =
    sym (append_assoc (header (length a)) a r) ∙ e ∙ append_assoc (header (length b)) b s in
    let size : length a ≡ length b = same_line (length a) (length b) (a ++ r) (b ++ s) small large lines in
    let behind : a ++ r ≡ b ++ s =
    append_cancel_left (header (length a)) (a ++ r) (b ++ s) (lines ∙ ap (λ (k : ℕ). header k ++ (b ++ s)) (sym size)) in (
      sym (take_at a r (length b) size) ∙ ap (take (length b)) behind ∙ take_at b s (length b) refl,
      sym (drop_at a r (length b) size) ∙ ap (drop (length b)) behind ∙ drop_at b s (length b) refl,
    )

-- where a bag ends no message stands next
none_in_nothing : (b s : List ℕ) → [] ≡ framed b ++ s → ⊥
none_in_nothing b s e = omega (arith, ap length e, length-append (framed b) s, length-append (header (length b)) b, length-header (length b))

none_truncated : (rest b s : List ℕ) → HasHeader b → rest ≡ framed b ++ s → IsTruncated rest → ⊥
none_truncated rest b s small e (some, message, more, announced, goes, whole) =
    let same : (b ≡ message) × (s ++ more ≡ []) =
    same_first b message (s ++ more) [] small announced
    (sym (append_assoc (framed b) s more) ∙ ap (λ (l : List ℕ). l ++ more) (sym e) ∙ whole ∙ sym (append-nil (framed message))) in
    omega (arith, goes, ap length same.1, length-append s more)

none_bad : (rest b s : List ℕ) → HasHeader b → rest ≡ framed b ++ s → IsBadHeader rest → ⊥
none_bad rest b s small e (begun, byte, more, whole, cut, stops) =
    let behind : begun ++ byte ∷ more ≡ header (length b) ++ (b ++ s) = sym whole ∙ e ∙ append_assoc (header (length b)) b s in
    ⊎_elim (λ (lt : length begun < length (header (length b))).
    let front : begun ++ byte ∷ [] ≡ take (length begun + 1) (header (length b)) =
    sym (take_at (begun ++ byte ∷ []) more (length begun + 1) (length-append begun (byte ∷ [])))
    ∙ ap (take (length begun + 1)) (append_assoc begun (byte ∷ []) more ∙ behind)
    ∙ take-append-le (length begun + 1) (header (length b)) (b ++ s) (omega (arith, lt)) in
    stops (
      length b,
      small,
      (
        drop (length begun + 1) (header (length b)),
        ap (λ (l : List ℕ). l ++ drop (length begun + 1) (header (length b))) front ∙ take-append-drop (length begun + 1) (header (length b)),
      ),
    ))
    (λ (le : length (header (length b)) ≤ length begun).
    let within : 5 + length (decimal (length b)) < length begun = omega (arith, le, length-header (length b)) in
    let here : get_or begun (5 + length (decimal (length b))) 0 ≡ 10 =
    sym (get_or_append_left begun (byte ∷ more) 0 (5 + length (decimal (length b))) within)
    ∙ ap (λ (l : List ℕ). get_or l (5 + length (decimal (length b))) 0) behind ∙ line_end (length b) (b ++ s) in
    let there : get_or (header cut.number) (5 + length (decimal (length b))) 0 ≡ 10 =
    ap (λ (l : List ℕ). get_or l (5 + length (decimal (length b))) 0) (sym cut.whole)
    ∙ get_or_append_left begun cut.more 0 (5 + length (decimal (length b))) within ∙ here in
    digit_no_end cut.number (length (decimal (length b))) cut.small
    (omega (arith, within, cut.some, ap length cut.whole, length-append begun cut.more, length-header cut.number)) there)
    (cases_lt (length begun) (length (header (length b))))

none_at_end : (end : Option BagFault) (rest : List ℕ) → end ≢ Some NoMemory → EndsSo end rest → (b s : List ℕ) → HasHeader b → rest ≡ framed b ++ s → ⊥
none_at_end None rest known ends b s small e = none_in_nothing b s (sym ends ∙ e)
none_at_end (Some BadHeader) rest known ends b s small e = none_bad rest b s small e ends
none_at_end (Some Truncated) rest known ends b s small e = none_truncated rest b s small e ends
none_at_end (Some ReadFault) rest known ends b s small e =
    ⊎_elim (λ (nothing : rest ≡ []). none_in_nothing b s (sym nothing ∙ e)) (λ (cut : IsTruncated rest). none_truncated rest b s small e cut) ends
none_at_end (Some NoMemory) rest known ends b s small e = known refl

one_list : (xs ys : List (List ℕ)) (r s : List ℕ) → AllByRecursion HasHeader xs → AllByRecursion HasHeader ys
    → ((b t : List ℕ) → HasHeader b → r ≡ framed b ++ t → ⊥) → ((b t : List ℕ) → HasHeader b → s ≡ framed b ++ t → ⊥)
    → flat_map framed xs ++ r ≡ flat_map framed ys ++ s → xs ≡ ys
one_list [] [] r s each all none never e = refl
one_list [] (y ∷ ys) r s each all none never e = absurd (none y (flat_map framed ys ++ s) all.0 (e ∙ append_assoc (framed y) (flat_map framed ys) s))
one_list (x ∷ xs) [] r s each all none never e = absurd (never x (flat_map framed xs ++ r) each.0 (sym e ∙ append_assoc (framed x) (flat_map framed xs) r))
one_list (x ∷ xs) (y ∷ ys) r s each all none never e =
    let same : (x ≡ y) × (flat_map framed xs ++ r ≡ flat_map framed ys ++ s) =
    same_first x y (flat_map framed xs ++ r) (flat_map framed ys ++ s) each.0 all.0
    (sym (append_assoc (framed x) (flat_map framed xs) r) ∙ e ∙ append_assoc (framed y) (flat_map framed ys) s) in
    ap (λ (z : List ℕ). z ∷ xs) same.0 ∙ ap (λ (zs : List (List ℕ)). y ∷ zs) (one_list xs ys r s each.1 all.1 none never same.1)

pub reads_one_way : ReadsOneWay
reads_one_way came xs ys end other known sure bag again =
    one_list xs ys bag.rest again.rest bag.each again.each
    (none_at_end end bag.rest known bag.ends) (none_at_end other again.rest sure again.ends) (sym bag.whole ∙ again.whole)
