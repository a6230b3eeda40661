-- Reading one thing after the other.
use Rattle.std.proofs.Common.{◌≡◌, ℕ, ◌+◌, ◌<◌, get_or, length, take, List, [], ◌∷◌, ◌++◌, map, Result, Ok, Err, refl, sym, ap, ◌∙◌}
use Rattle.std.specs.Borrow.{Bor}
use Rattle.std.proofs.lemmas.List.{append-nil, append_assoc, map_push, map_more, take_more}
use Rattle.deb_control.specs.Relations.{◌>>=◌}
use Rattle.office_mail_setup.specs.WholeText.{each_of}

-- texts as slices of the source, by their bytes
abbrev pub texts : List (Bor (List ℕ)) → List (List ℕ)
texts xs = map (λ (x : Bor (List ℕ)). x.now) xs

-- a text that stands nowhere
abbrev pub nowhere : Bor (List ℕ)
nowhere = record { ref_ptr = (0, 0); now = [] }

-- one more of what a list shows
pub shown_more : {A B C : Type 0} (f : A → C) (g : B → C) (done : List A) (xs : List B) (i : ℕ) (d : B) (a : A) → i < length xs → map f done ≡ map g (take i xs) → f a ≡ g (get_or xs i d) → map f (done ++ a ∷ []) ≡ map g (take (i + 1) xs)
shown_more f g done xs i d a h so same =
    map_push f done a ∙ ap (λ l. l ++ f a ∷ []) so ∙ ap (λ c. map g (take i xs) ++ c ∷ []) same ∙ sym (map_more g xs i d h)

-- the same of a list that is kept as it is shown
pub kept_more : {B C : Type 0} (g : B → C) (done : List C) (xs : List B) (i : ℕ) (d : B) (a : C) → i < length xs → done ≡ map g (take i xs) → a ≡ g (get_or xs i d) → done ++ a ∷ [] ≡ map g (take (i + 1) xs)
kept_more g done xs i d a h so same =
    ap (λ l. l ++ a ∷ []) so ∙ ap (λ c. map g (take i xs) ++ c ∷ []) same ∙ sym (map_more g xs i d h)

-- the same of a list that is copied
pub copied_more : {B : Type 0} (done xs : List B) (i : ℕ) (d a : B) → i < length xs → done ≡ take i xs → a ≡ get_or xs i d → done ++ a ∷ [] ≡ take (i + 1) xs
copied_more done xs i d a h so same = ap (λ l. l ++ a ∷ []) so ∙ ap (λ c. take i xs ++ c ∷ []) same ∙ sym (take_more xs i d h)

-- the same through one more view
pub seen_more : {A B C D : Type 0} (f : A → C) (h : D → C) (g : B → D) (done : List A) (xs : List B) (i : ℕ) (d : B) (a : A) → i < length xs → map f done ≡ map h (map g (take i xs)) → f a ≡ h (g (get_or xs i d)) → map f (done ++ a ∷ []) ≡ map h (map g (take (i + 1) xs))
seen_more f h g done xs i d a lt so same =
    map_push f done a ∙ ap (λ l. l ++ f a ∷ []) so ∙ ap (λ c. map h (map g (take i xs)) ++ c ∷ []) same
    ∙ sym (ap (map h) (map_more g xs i d lt) ∙ map_push h (map g (take i xs)) (g (get_or xs i d)))

-- the values so far, and then those of the rest
abbrev pub then_append : {A E : Type 0} → List A → Result (List A) E → Result (List A) E
then_append done r = r >>= λ more. Ok (done ++ more)

pub begins_with_none : {A E : Type 0} (r : Result (List A) E) → then_append [] r ≡ r
begins_with_none (Ok x) = refl
begins_with_none (Err e) = refl

regrouped : {A E : Type 0} (done : List A) (a : A) (r : Result (List A) E) → then_append done (r >>= λ values. Ok (a ∷ values)) ≡ then_append (done ++ a ∷ []) r
regrouped done a (Ok x) = ap Ok (sym (append_assoc done (a ∷ []) x))
regrouped done a (Err e) = refl

module _ {A B E : Type 0} (read : A → Result B E) where
  -- one more
  pub each_step : (done : List B) (xs rest : List A) (x : A) (b : B) → xs ≡ x ∷ rest → read x ≡ Ok b → then_append done (each_of read xs) ≡ then_append (done ++ b ∷ []) (each_of read rest)
  each_step done xs rest x b cut e =
      ap (λ ts. then_append done (each_of read ts)) cut ∙ ap (λ r. then_append done (r >>= λ value. each_of read rest >>= λ values. Ok (value ∷ values))) e ∙ regrouped done b (each_of read rest)

  -- the first fault is the fault of all
  pub each_fails : (done : List B) (xs rest : List A) (x : A) (e : E) → xs ≡ x ∷ rest → read x ≡ Err e → then_append done (each_of read xs) ≡ Err e
  each_fails done xs rest x e cut bad =
      ap (λ ts. then_append done (each_of read ts)) cut ∙ ap (λ r. then_append done (r >>= λ value. each_of read rest >>= λ values. Ok (value ∷ values))) bad

  pub each_ends : (done : List B) (xs : List A) → xs ≡ [] → then_append done (each_of read xs) ≡ Ok done
  each_ends done xs e = ap (λ ts. then_append done (each_of read ts)) e ∙ ap Ok (append-nil done)
