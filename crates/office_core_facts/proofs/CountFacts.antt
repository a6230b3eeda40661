-- How far a sender's mail goes on without a gap, and how far a trial covers it.
use Rattle.std.proofs.Common.{◌≡◌, ⊎_elim, ℕ, ◌+◌, ◌<◌, ◌≤◌, Bool, true, false, length, Option, Some, None, IsSome, List, [], ◌∷◌, ◌++◌, slice_index, sym, ap, subst, ◌∙◌, refl, arith}
use Rattle.std.specs.FinMap.{get}
use Rattle.std.proofs.lemmas.Bool.{cases_lt}
use Rattle.std.proofs.lemmas.List.{get_or_append_left, get_or_past, get_or_push, length-append}
use Rattle.office_mail.specs.declared.message.RunOrder.{RunOrder}
use Rattle.office_mail.specs.Lists.{Lists}
use Rattle.office_mail.specs.Kept.{Kept}
use Rattle.office_mail.specs.Runs.{cover, cover_of, orders_to}
use Rattle.office_store_keeper.specs.Content.{Content}
use Rattle.office_core_orders.specs.Ready.{HasNumbers, HasPlaces}
use Rattle.office_core_orders.specs.steps.Ready.{GoesOn}
use Rattle.office_core_facts.specs.State.{IsOffice}
use Rattle.office_core_facts.specs.steps.Counting.{EndsBelow}
use Rattle.office_core_facts.specs.Seen.{IsTrialCover, IsUnbroken, covers_all}

not_there : {A : Type 0} {P : Type 0} (o : Option A) → IsSome o → o ≡ None → P
not_there o some none = absurd (cc (subst IsSome none some))

none_or : {A : Type 0} (o : Option A) → (IsSome o → ⊥) → o ≡ None
none_or None h = refl
none_or (Some x) h = absurd (h refl)

-- no message has a greater number
pub ends_below : (setup : Lists) (kept : Kept) (sender : ℕ) → HasPlaces setup kept → EndsBelow kept sender
ends_below setup kept sender places = λ n high. none_or (get kept (sender, n)) (λ some. absurd (omega (arith, high, (places (sender, n) some).below)))

-- a count goes on from the number that is known
count_ahead : (kept : Kept) (sender known count : ℕ) → HasNumbers kept sender known → EndsBelow kept sender → GoesOn kept sender known count 999_999_999 → known ≤ count
count_ahead kept sender known count has ends goes = ⊎_elim
    (λ (lt : count < known). ⊎_elim
    (λ (far : 999_999_999 < known). not_there (get kept (sender, known)) (has known (omega (arith, far)) (omega arith)) (ends known far))
    (λ (near : known ≤ 999_999_999). not_there (get kept (sender, count + 1)) (has (count + 1) (omega arith) (omega (arith, lt))) (goes.gap (omega (arith, lt, near))))
    (cases_lt 999_999_999 known))
    (λ (le : known ≤ count). le)
    (cases_lt count known)

pub counted_on : (kept : Kept) (sender known count last : ℕ) → HasNumbers kept sender known → EndsBelow kept sender → GoesOn kept sender known count 999_999_999 → (known ≤ count → last ≡ count) → IsUnbroken kept sender last
counted_on kept sender known count last has ends goes same =
    let is : last ≡ count = same (count_ahead kept sender known count has ends goes) in
    subst (IsUnbroken kept sender) (sym is) (record {
      each = goes.each has;
      gap = ⊎_elim goes.gap (λ (le : 999_999_999 ≤ count). ends (count + 1) (omega (arith, le))) (cases_lt count 999_999_999);
    })

-- the finished runs cover what is kept
pub covered_numbers : (setup : Lists) (content : Content) (orders : List RunOrder) (sender known : ℕ) → IsOffice setup content → orders ≡ orders_to setup content.kept (length content.reports) → known ≡ cover_of orders sender → HasNumbers content.kept sender known
covered_numbers setup content orders sender known office are is = λ j low high.
    let same : known ≡ cover setup content.kept (length content.reports) sender = is ∙ ap (λ (os : List RunOrder). cover_of os sender) are in
    office.ready.mail sender j low (omega (arith, high, same))

pub trial_cover-all : (setup : Lists) (kept : Kept) (k : ℕ) (all : Bool) (sender n : ℕ) → covers_all setup all sender ≡ true → IsUnbroken kept sender n → IsTrialCover setup kept k all sender n
trial_cover-all setup kept k all sender n e is = record { unbroken = λ _. is; known = λ o. absurd (cc (sym e ∙ o)) }

pub trial_cover-known : (setup : Lists) (kept : Kept) (k : ℕ) (all : Bool) (sender n : ℕ) → covers_all setup all sender ≡ false → n ≡ cover setup kept k sender → IsTrialCover setup kept k all sender n
trial_cover-known setup kept k all sender n e is = record { unbroken = λ o. absurd (cc (sym e ∙ o)); known = λ _. is }

-- what is so of the number of each sender, with one sender more
pub each_pushed : (P : ℕ → ℕ → Type 0) (xs more : List ℕ) (x n : ℕ) → length xs ≡ n → ((s : ℕ) → s < n → P s (slice_index xs s)) → more ≡ xs ++ x ∷ [] → P n x → (s : ℕ) → s < n + 1 → P s (slice_index more s)
each_pushed P xs more x n size each are own s low = ⊎_elim
    (λ (lt : s < n). subst (P s) (sym (ap (λ (l : List ℕ). slice_index l s) are ∙ get_or_append_left xs (x ∷ []) 0 s (omega (arith, lt, size)))) (each s lt))
    (λ (le : n ≤ s).
    let at : s ≡ n = omega (arith, le, low) in
    subst (λ (k : ℕ). P k (slice_index more k)) (sym at) (subst (P n) (sym (ap (λ (l : List ℕ). slice_index l n) are ∙ get_or_push xs x 0 n size)) own))
    (cases_lt s n)

numbers_few : (setup : Lists) (kept : Kept) (sender n : ℕ) → HasPlaces setup kept → HasNumbers kept sender n → n ≤ 999_999_999
numbers_few setup kept sender n places has = ⊎_elim
    (λ (far : 999_999_999 < n). absurd (omega (arith, far, (places (sender, n) (has n (omega (arith, far)) (omega arith))).below)))
    (λ (le : n ≤ 999_999_999). le)
    (cases_lt 999_999_999 n)

cover_numbers : (setup : Lists) (content : Content) (all : Bool) (sender n : ℕ) (b : Bool) → IsOffice setup content → IsTrialCover setup content.kept (length content.reports) all sender n → covers_all setup all sender ≡ b → HasNumbers content.kept sender n
cover_numbers setup content all sender n true office is e = (is.unbroken e).each
cover_numbers setup content all sender n false office is e = λ j low high. office.ready.mail sender j low (omega (arith, high, is.known e))

-- a trial covers only numbers that a message may have
pub cover_few : (setup : Lists) (content : Content) (all : Bool) (sender n : ℕ) → IsOffice setup content → IsTrialCover setup content.kept (length content.reports) all sender n → n ≤ 999_999_999
cover_few setup content all sender n office is = numbers_few setup content.kept sender n office.places (cover_numbers setup content all sender n (covers_all setup all sender) office is refl)

-- no number behind the last one of a list is great
pub few_within : (xs : List ℕ) (n : ℕ) → length xs ≡ n → ((s : ℕ) → s < n → slice_index xs s ≤ 999_999_999) → (s : ℕ) → slice_index xs s ≤ 999_999_999
few_within xs n size each s = ⊎_elim
    (λ (lt : s < n). each s lt)
    (λ (le : n ≤ s). let past : slice_index xs s ≡ 0 = get_or_past xs s 0 (omega (arith, le, size)) in omega (arith, past))
    (cases_lt s n)

-- one element more
pub size_pushed : (xs more : List ℕ) (x n : ℕ) → length xs ≡ n → more ≡ xs ++ x ∷ [] → length more ≡ n + 1
size_pushed xs more x n size are = omega (arith, size, ap length are, length-append xs (x ∷ []))
