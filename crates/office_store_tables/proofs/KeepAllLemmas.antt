-- Letters that are added to the mail one by one.
use Rattle.std.proofs.Common.{◌≡◌, ◌<◌, ◌+◌, ◌-◌, ℕ, List, [], ◌∷◌, ◌++◌, take, drop, get_or, length, refl, sym, ap, subst, ◌∙◌, arith}
use Rattle.sqlite.specs.Tree.{Trees}
use Rattle.office_mail.specs.Kept.{Kept}
use Rattle.office_store_keeper.specs.declared.values.NewLetter.{NewLetter}
use Rattle.office_store_keeper.specs.NewMail.{AreFree, with_letters}
use Rattle.office_store_testing_tables.specs.Tables.{kept_rows}
use Rattle.office_store_testing_tables.specs.steps.TableSteps.{AddsLetter, AddsLetters}
use Rattle.office_store_testing_tables.proofs.Eights.{take_on}
use Rattle.office_store_testing_tables.proofs.KeepLemmas.{inserted}

adds_then : (a b c : Trees) (xs ys : List NewLetter) → AddsLetters a b xs → AddsLetters b c ys → AddsLetters a c (xs ++ ys)
adds_then a b c [] ys first second = subst (λ (db : Trees). AddsLetters db c ys) first second
adds_then a b c (x ∷ xs) ys first second = (first.0, first.1, adds_then first.0 b c xs ys first.2 second)

-- the next letters of a list
pub letters_on : (a b c : Trees) (letters : List NewLetter) (i k : ℕ) → AddsLetters a b (take i letters) → AddsLetters b c (take k (take (length letters - i) (drop i letters))) → AddsLetters a c (take (i + k) letters)
letters_on a b c letters i k first second = subst (AddsLetters a c) (sym (take_on letters i k)) (adds_then a b c (take i letters) (take k (take (length letters - i) (drop i letters))) first second)

-- the first letter of a list
pub letters_head : (a b : Trees) (letters : List NewLetter) (l : NewLetter) (text : List ℕ) → 0 < length letters → l ≡ get_or letters 0 l → text ≡ l.text → AddsLetter a b l.sender l.number text → AddsLetters a b (take 1 letters)
letters_head a b [] l text some is text_is one = absurd (omega (arith, some))
letters_head a b (x ∷ letters) l text some is text_is one =
    (b, subst (λ (y : NewLetter). AddsLetter a b y.sender y.number y.text) is (subst (AddsLetter a b l.sender l.number) text_is one), refl)

-- the numbers are still free behind the first letter
pub free_behind : (db mid : Trees) (l : NewLetter) (letters : List NewLetter) → AddsLetter db mid l.sender l.number l.text → AreFree (kept_rows (db 1)) (l ∷ letters) → AreFree (kept_rows (mid 1)) letters
free_behind db mid l letters it free = subst (λ (k : Kept). AreFree k letters) (sym (inserted db mid l.sender l.number l.text it free.0)) free.1

-- letters that were added under free numbers are kept
pub all_inserted : (db next : Trees) (letters : List NewLetter) → AddsLetters db next letters → AreFree (kept_rows (db 1)) letters → kept_rows (next 1) ≡ with_letters (kept_rows (db 1)) letters
all_inserted db next [] same free = ap (λ (t : Trees). kept_rows (t 1)) same
all_inserted db next (l ∷ letters) it free =
    all_inserted it.0 next letters it.2 (free_behind db it.0 l letters it.1 free)
    ∙ ap (λ (k : Kept). with_letters k letters) (inserted db it.0 l.sender l.number l.text it.1 free.0)
