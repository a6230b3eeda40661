use Rattle.std.proofs.Common.{◌≡◌, ℕ, zero, suc, ◌<◌, max, Bool, true, false, cond, ◌&&◌, ◌||◌, List, [], ◌∷◌, ◌++◌, map, length, get_or, Some, filter, fold, ◌↔◌, sym, refl, ap, ap₂, ◌∙◌, ⊎_elim, arith}
use Rattle.std.specs.Prelude.{⊤}
use Rattle.std.specs.List.{slice_get, list_any, list_all}
use Rattle.std.proofs.Math.Bool.{or_assoc, or-true}
use Rattle.std.proofs.lemmas.Bool.{cases_Bool, false≢true}
use Rattle.std.proofs.lemmas.Option.{same_Some, slice_get_within}
use Rattle.std.proofs.lemmas.List.Folds.{list_any-append}
use Rattle.std.proofs.lemmas.List.Sums.{AllPass-from_list_all, list_all-from_AllPass}
use Rattle.deb_control.specs.declared.binary.Binary.{Binary}
use Rattle.testing_install.specs.Satisfies.{meets}
use Rattle.testing_install.specs.Closed.{IsClosed, IsInstallable, marked}
use Rattle.testing_install.specs.Installable.{choices, chosen, is_closed, either, are_installable}

or-false : (b : Bool) → (b || false) ≡ b
or-false true = refl
or-false false = refl

and_both : (a b : Bool) → a ≡ true → b ≡ true → (a && b) ≡ true
and_both a b h k = ap (λ x. x && b) h ∙ k

and_first : (a b : Bool) → (a && b) ≡ true → a ≡ true
and_first true b h = refl
and_first false b h = absurd (false≢true h)

and_second : (a b : Bool) → (a && b) ≡ true → b ≡ true
and_second true b h = h
and_second false b h = absurd (false≢true h)

-- tests over lists

any-map : {X Y : Type 0} (p : Y → Bool) (f : X → Y) (xs : List X) → list_any p (map f xs) ≡ list_any (λ x. p (f x)) xs
any-map p f [] = refl
any-map p f (x ∷ xs) = ap (λ b. p (f x) || b) (any-map p f xs)

any-cond : {X : Type 0} (q : X → Bool) (b : Bool) (x : X) (xs : List X) → list_any q (cond b (x ∷ xs) xs) ≡ ((b && q x) || list_any q xs)
any-cond q true x xs = refl
any-cond q false x xs = refl

any-filter : {X : Type 0} (p q : X → Bool) (xs : List X) → list_any q (filter p xs) ≡ list_any (λ x. p x && q x) xs
any-filter p q [] = refl
any-filter p q (x ∷ xs) = any-cond q (p x) x (filter p xs) ∙ ap (λ b. (p x && q x) || b) (any-filter p q xs)

some_passes : {X : Type 0} (p : X → Bool) (xs : List X) → list_any p xs ≡ true → (x : X) × (p x ≡ true)
some_passes p [] h = absurd (false≢true h)
some_passes p (x ∷ xs) h = ⊎_elim (λ here. (x, here)) (λ no. some_passes p xs (sym (ap (λ b. b || list_any p xs) no) ∙ h)) (cases_Bool (p x))

-- the chosen elements

chosen_any : {A : Type 0} (p : A → Bool) (xs : List A) (c : List Bool) → list_any p (chosen xs c) ≡ true → (k : ℕ) × (x : A) × (slice_get xs k ≡ Some x) × (marked c k ≡ true) × (p x ≡ true)
chosen_any p [] c h = absurd (false≢true h)
chosen_any p (x ∷ xs) [] h = absurd (false≢true h)
chosen_any p (x ∷ xs) (true ∷ c) h = ⊎_elim
    (λ here. (zero, x, refl, refl, here))
    (λ no. let r = chosen_any p xs c (sym (ap (λ b. b || list_any p (chosen xs c)) no) ∙ h) in (suc r.0, r.1, r.2, r.3, r.4))
    (cases_Bool (p x))
chosen_any p (x ∷ xs) (false ∷ c) h = let r = chosen_any p xs c h in (suc r.0, r.1, r.2, r.3, r.4)

any_chosen : {A : Type 0} (p : A → Bool) (xs : List A) (c : List Bool) (k : ℕ) (x : A) → slice_get xs k ≡ Some x → marked c k ≡ true → p x ≡ true → list_any p (chosen xs c) ≡ true
any_chosen p [] c k y at on h = cc
any_chosen p (x ∷ xs) [] k y at on h = absurd (false≢true on)
any_chosen p (x ∷ xs) (true ∷ c) zero y at on h = ap (λ b. b || list_any p (chosen xs c)) (ap p (same_Some x y at) ∙ h)
any_chosen p (x ∷ xs) (false ∷ c) zero y at on h = absurd (false≢true on)
any_chosen p (x ∷ xs) (true ∷ c) (suc k) y at on h = ap (λ b. p x || b) (any_chosen p xs c k y at on h) ∙ or-true (p x)
any_chosen p (x ∷ xs) (false ∷ c) (suc k) y at on h = any_chosen p xs c k y at on h

chosen_each : {A : Type 0} (p : A → Bool) (xs : List A) (c : List Bool) → list_all p (chosen xs c) ≡ true → (k : ℕ) (x : A) → slice_get xs k ≡ Some x → marked c k ≡ true → p x ≡ true
chosen_each p [] c h k y at on = cc
chosen_each p (x ∷ xs) [] h k y at on = absurd (false≢true on)
chosen_each p (x ∷ xs) (true ∷ c) h zero y at on = ap p (sym (same_Some x y at)) ∙ and_first (p x) (list_all p (chosen xs c)) h
chosen_each p (x ∷ xs) (false ∷ c) h zero y at on = absurd (false≢true on)
chosen_each p (x ∷ xs) (true ∷ c) h (suc k) y at on = chosen_each p xs c (and_second (p x) (list_all p (chosen xs c)) h) k y at on
chosen_each p (x ∷ xs) (false ∷ c) h (suc k) y at on = chosen_each p xs c h k y at on

each_chosen : {A : Type 0} (p : A → Bool) (xs : List A) (c : List Bool) → ((k : ℕ) (x : A) → slice_get xs k ≡ Some x → marked c k ≡ true → p x ≡ true) → list_all p (chosen xs c) ≡ true
each_chosen p [] c h = refl
each_chosen p (x ∷ xs) [] h = refl
each_chosen p (x ∷ xs) (true ∷ c) h = and_both (p x) (list_all p (chosen xs c)) (h zero x refl refl) (each_chosen p xs c (λ k y. h (suc k) y))
each_chosen p (x ∷ xs) (false ∷ c) h = each_chosen p xs c (λ k y. h (suc k) y)

-- a choice is closed where the set of its places is
choice_closed : (rows : List Binary) (c : List Bool) → is_closed (chosen rows c) ≡ true → IsClosed rows (marked c)
choice_closed rows c h k row at on j d within =
    let clauses = chosen_each (λ b. list_all (λ clause. list_any (λ r. meets r clause) (chosen rows c)) b.clauses) rows c h k row at on in
    let met = AllPass-from_list_all (λ clause. list_any (λ r. meets r clause) (chosen rows c)) row.clauses clauses j d within in
    chosen_any (λ r. meets r (get_or row.clauses j d)) rows c met

closed_choice : (rows : List Binary) (c : List Bool) → IsClosed rows (marked c) → is_closed (chosen rows c) ≡ true
closed_choice rows c h = each_chosen (λ b. list_all (λ clause. list_any (λ r. meets r clause) (chosen rows c)) b.clauses) rows c (λ k row at on.
    list_all-from_AllPass (λ clause. list_any (λ r. meets r clause) (chosen rows c)) row.clauses (λ j d within.
    let m = h k row at on j d within in any_chosen (λ r. meets r (get_or row.clauses j d)) rows c m.0 m.1 m.2 m.3 m.4))

-- every list of truth values, one for each row, is a choice
all_choices : {A : Type 0} (rows : List A) (c : List Bool) (test : List Bool → Bool) → length c ≡ length rows → test c ≡ true → list_any test (choices rows) ≡ true
all_choices [] [] test e h = ap (λ b. b || false) h
all_choices [] (b ∷ c) test e h = absurd (omega (arith, e))
all_choices (row ∷ rows) [] test e h = absurd (omega (arith, e))
all_choices (row ∷ rows) (true ∷ c) test e h =
    list_any-append test (map (λ d. true ∷ d) (choices rows)) (map (λ d. false ∷ d) (choices rows))
    ∙ ap (λ b. b || list_any test (map (λ d. false ∷ d) (choices rows))) (any-map test (λ d. true ∷ d) (choices rows) ∙ all_choices rows c (λ d. test (true ∷ d)) (omega (arith, e)) h)
all_choices (row ∷ rows) (false ∷ c) test e h =
    list_any-append test (map (λ d. true ∷ d) (choices rows)) (map (λ d. false ∷ d) (choices rows))
    ∙ ap (λ b. list_any test (map (λ d. true ∷ d) (choices rows)) || b) (any-map test (λ d. false ∷ d) (choices rows) ∙ all_choices rows c (λ d. test (false ∷ d)) (omega (arith, e)) h)
    ∙ or-true (list_any test (map (λ d. true ∷ d) (choices rows)))

-- the places of the list that are in the set
abbrev mask : {A : Type 0} → (ℕ → Bool) → List A → List Bool
mask set [] = []
mask set (x ∷ xs) = set zero ∷ mask (λ k. set (suc k)) xs

length-mask : {A : Type 0} (set : ℕ → Bool) (xs : List A) → length (mask set xs) ≡ length xs
length-mask set [] = refl
length-mask set (x ∷ xs) = ap suc (length-mask (λ k. set (suc k)) xs)

marked-mask : {A : Type 0} (set : ℕ → Bool) (xs : List A) (k : ℕ) → k < length xs → marked (mask set xs) k ≡ set k
marked-mask set [] k h = absurd (omega arith)
marked-mask set (x ∷ xs) zero h = refl
marked-mask set (x ∷ xs) (suc k) h = marked-mask (λ j. set (suc j)) xs k (omega arith)

closed_mask : (rows : List Binary) (set : ℕ → Bool) → IsClosed rows set → IsClosed rows (marked (mask set rows))
closed_mask rows set closed k row at on j d within =
    let inside = sym (marked-mask set rows k (slice_get_within rows k row at)) ∙ on in
    let m = closed k row at inside j d within in
    (m.0, m.1, m.2, marked-mask set rows m.0 (slice_get_within rows m.0 m.1 m.2) ∙ m.3, m.4)

-- what all choices have together

marked-either : (c d : List Bool) (k : ℕ) → marked (either c d) k ≡ (marked c k || marked d k)
marked-either [] d k = refl
marked-either (b ∷ c) [] k = sym (or-false (marked (b ∷ c) k))
marked-either (b ∷ c) (e ∷ d) zero = refl
marked-either (b ∷ c) (e ∷ d) (suc k) = marked-either c d k

marked-fold : (c : List Bool) (cs : List (List Bool)) (k : ℕ) → marked (fold either c cs) k ≡ (marked c k || list_any (λ d. marked d k) cs)
marked-fold c [] k = sym (or-false (marked c k))
marked-fold c (d ∷ cs) k = marked-fold (either c d) cs k ∙ ap (λ b. b || list_any (λ e. marked e k) cs) (marked-either c d k) ∙ or_assoc (marked c k) (marked d k) (list_any (λ e. marked e k) cs)

marked-none : {A : Type 0} (xs : List A) (k : ℕ) → marked (map (λ _. false) xs) k ≡ false
marked-none [] k = refl
marked-none (x ∷ xs) zero = refl
marked-none (x ∷ xs) (suc k) = marked-none xs k

-- a row is marked where some closed choice has it
marked-are : (rows : List Binary) (k : ℕ) → marked (are_installable rows) k ≡ list_any (λ c. is_closed (chosen rows c) && marked c k) (choices rows)
unfolding are_installable
marked-are rows k =
    marked-fold (map (λ _. false) rows) (filter (λ c. is_closed (chosen rows c)) (choices rows)) k
    ∙ ap (λ b. b || list_any (λ c. marked c k) (filter (λ c. is_closed (chosen rows c)) (choices rows))) (marked-none rows k)
    ∙ any-filter (λ c. is_closed (chosen rows c)) (λ c. marked c k) (choices rows)

-- the computed list is right about each row
pub are_exact : (rows : List Binary) (k : ℕ) → k < length rows → (marked (are_installable rows) k ≡ true) ↔ IsInstallable rows k
are_exact rows k h = (
  (λ on.
      let c = some_passes (λ c. is_closed (chosen rows c) && marked c k) (choices rows) (sym (marked-are rows k) ∙ on) in
      (marked c.0, choice_closed rows c.0 (and_first (is_closed (chosen rows c.0)) (marked c.0 k) c.1), h, and_second (is_closed (chosen rows c.0)) (marked c.0 k) c.1)),
  (λ some.
      let c = mask some.0 rows in
      let closed = closed_choice rows c (closed_mask rows some.0 some.1) in
      let here = marked-mask some.0 rows k h ∙ some.3 in
      marked-are rows k ∙ all_choices rows c (λ d. is_closed (chosen rows d) && marked d k) (length-mask some.0 rows) (and_both (is_closed (chosen rows c)) (marked c k) closed here)),
)

-- it has a value for each row

length-either : (c d : List Bool) → length (either c d) ≡ max (length c) (length d)
length-either [] d = omega arith
length-either (b ∷ c) [] = omega arith
length-either (b ∷ c) (e ∷ d) = omega (arith, length-either c d)

abbrev AreLong : ℕ → List (List Bool) → Type 0
AreLong n [] = ⊤
AreLong n (c ∷ cs) = (length c ≡ n) × AreLong n cs

long-append : (n : ℕ) (cs ds : List (List Bool)) → AreLong n cs → AreLong n ds → AreLong n (cs ++ ds)
long-append n [] ds h k = k
long-append n (c ∷ cs) ds h k = (h.0, long-append n cs ds h.1 k)

long-cons : (n : ℕ) (b : Bool) (cs : List (List Bool)) → AreLong n cs → AreLong (suc n) (map (λ c. b ∷ c) cs)
long-cons n b [] h = h
long-cons n b (c ∷ cs) h = (ap suc h.0, long-cons n b cs h.1)

long-cond : (n : ℕ) (b : Bool) (c : List Bool) (cs : List (List Bool)) → length c ≡ n → AreLong n cs → AreLong n (cond b (c ∷ cs) cs)
long-cond n true c cs e h = (e, h)
long-cond n false c cs e h = h

long-filter : (n : ℕ) (p : List Bool → Bool) (cs : List (List Bool)) → AreLong n cs → AreLong n (filter p cs)
long-filter n p [] h = h
long-filter n p (c ∷ cs) h = long-cond n (p c) c (filter p cs) h.0 (long-filter n p cs h.1)

long-choices : {A : Type 0} (rows : List A) → AreLong (length rows) (choices rows)
long-choices [] = (refl, tt)
long-choices (row ∷ rows) = long-append (suc (length rows)) (map (λ c. true ∷ c) (choices rows)) (map (λ c. false ∷ c) (choices rows)) (long-cons (length rows) true (choices rows) (long-choices rows)) (long-cons (length rows) false (choices rows) (long-choices rows))

length-fold : (n : ℕ) (c : List Bool) (cs : List (List Bool)) → length c ≡ n → AreLong n cs → length (fold either c cs) ≡ n
length-fold n c [] e h = e
length-fold n c (d ∷ cs) e h = length-fold n (either c d) cs (omega (arith, length-either c d, e, h.0)) h.1

length-none : {A : Type 0} (xs : List A) → length (map (λ _. false) xs) ≡ length xs
length-none [] = refl
length-none (x ∷ xs) = ap suc (length-none xs)

pub length-are : (rows : List Binary) → length (are_installable rows) ≡ length rows
unfolding are_installable
length-are rows = length-fold (length rows) (map (λ _. false) rows) (filter (λ c. is_closed (chosen rows c)) (choices rows)) (length-none rows) (long-filter (length rows) (λ c. is_closed (chosen rows c)) (choices rows) (long-choices rows))

-- answers that are right are the computed list

same_bit : (a b : Bool) → (a ≡ true → b ≡ true) → (b ≡ true → a ≡ true) → a ≡ b
same_bit true b to from = sym (to refl)
same_bit false true to from = from refl
same_bit false false to from = refl

same_marks : (xs ys : List Bool) → length xs ≡ length ys → ((k : ℕ) → k < length xs → (marked xs k ≡ true) ↔ (marked ys k ≡ true)) → xs ≡ ys
same_marks [] [] e h = refl
same_marks [] (y ∷ ys) e h = absurd (omega (arith, e))
same_marks (x ∷ xs) [] e h = absurd (omega (arith, e))
same_marks (x ∷ xs) (y ∷ ys) e h =
    let first = h zero (omega arith) in
    ap₂ (λ z zs. z ∷ zs) (same_bit x y first.0 first.1) (same_marks xs ys (omega (arith, e)) (λ k l. h (suc k) (omega (arith, l))))

pub answers_computed : (rows : List Binary) (answers : List Bool) (n : ℕ) → length answers ≡ n → length rows ≡ n → ((k : ℕ) → k < n → (marked answers k ≡ true) ↔ IsInstallable rows k) → answers ≡ are_installable rows
answers_computed rows answers n long all exact = same_marks answers (are_installable rows) (long ∙ sym all ∙ sym (length-are rows)) (λ k l.
    let here = exact k (omega (arith, long, l)) in
    let there = are_exact rows k (omega (arith, long, all, l)) in
    (λ on. there.1 (here.0 on), λ on. here.1 (there.0 on)))
