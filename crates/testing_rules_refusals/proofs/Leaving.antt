-- The rows that don't leave once a source has moved.
use Rattle.std.proofs.Common.{◌≡◌, ℕ, ◌&&◌, ◌||◌, ◌++◌, not, Bool, true, false, List, [], ◌∷◌, refl, sym, ap, ◌∙◌, subst, inl, inr, eqb-true}
use Rattle.std.specs.Prelude.{map, filter, ◌==◌}
use Rattle.std.specs.List.{list_any}
use Rattle.std.specs.Str.{bytes_eq}
use Rattle.std.proofs.lemmas.Bool.{false≢true, cases_Bool}
use Rattle.std.proofs.lemmas.List.Elements.{filter-append}
use Rattle.std.proofs.lemmas.Slice.Eq.{bytes_eq-Decides}
use Rattle.testing_rules_items.specs.Words.{Text}
use Rattle.testing_rules_model.specs.declared.facts.UploadIn.{UploadIn}
use Rattle.testing_rules_model.specs.declared.suite.RowIn.{RowIn}
use Rattle.testing_rules_model.specs.Moves.{is_row_of, is_same_key, row_key, rows_on}
use Rattle.testing_rules_model.specs.steps.Moves.{is_row_on}
use Rattle.testing_rules_model.specs.Suite.{Suite}
use Rattle.testing_rules_model.proofs.MoreMail.{filter-same}
use Rattle.testing_rules_excuses.specs.States.{is_current_in}
use Rattle.testing_rules_refusals.specs.Stuck.{coming_rows, gives_way, may_stand}
use Rattle.testing_rules_refusals.specs.Texts.{comes_with}
use Rattle.testing_rules_refusals.proofs.Failings.{first_of_both, second_of_both}

-- Two tests one after the other.

kept_twice : {A : Type 0} (p q : A → Bool) (xs : List A) → filter p (filter q xs) ≡ filter (λ x. q x && p x) xs
kept_twice p q [] = refl
kept_twice p q (x ∷ xs) = elim (cases_Bool (q x)) [
  | inl e ↦ elim (cases_Bool (p x)) [ inl f ↦ rw e (rw f (ap (λ ys. x ∷ ys) (kept_twice p q xs))) | inr f ↦ rw e (rw f (kept_twice p q xs)) ]
  | inr e ↦ rw e (kept_twice p q xs)
]

turned : (a b : Bool) → (a && b) ≡ (b && a)
turned true true = refl
turned true false = refl
turned false true = refl
turned false false = refl

-- in either order the same stay
pub either_order : {A : Type 0} (p q : A → Bool) (xs : List A) → filter p (filter q xs) ≡ filter q (filter p xs)
either_order p q xs = kept_twice p q xs ∙ filter-same (λ x. q x && p x) (λ x. p x && q x) (λ x. turned (q x) (p x)) xs ∙ sym (kept_twice q p xs)

pub neither_first : (a b : Bool) → not (a || b) ≡ true → a ≡ false
neither_first true b h = sym h
neither_first false b h = refl

pub either_none : (a b : Bool) → a ≡ false → b ≡ false → not (a || b) ≡ true
either_none a b h k = ap (λ x. not (x || b)) h ∙ ap not k

-- Keys.

pub keys_tie : (r x : RowIn) → is_same_key r x ≡ true → row_key x ≡ row_key r
keys_tie r x h =
    let archs : r.arch ≡ x.arch = eqb-true r.arch x.arch (first_of_both (r.arch == x.arch) (bytes_eq r.binary.name x.binary.name) h) in
    let names : r.binary.name ≡ x.binary.name = (bytes_eq-Decides r.binary.name x.binary.name).0 (second_of_both (r.arch == x.arch) (bytes_eq r.binary.name x.binary.name) h) in
    ap (λ (n : ℕ). (n, x.binary.name)) (sym archs) ∙ ap (λ (t : Text). (r.arch, t)) (sym names)

or_later : (a b : Bool) → b ≡ true → (a || b) ≡ true
or_later true b k = refl
or_later false b k = k

named_at : (r q : RowIn) (more rest b : Bool) → is_same_key r q ≡ b → (b || rest) ≡ true → (rest ≡ true → more ≡ true) → (bytes_eq r.binary.name q.binary.name || more) ≡ true
named_at r q more rest true e k further = ap (λ x. x || more) (second_of_both (r.arch == q.arch) (bytes_eq r.binary.name q.binary.name) e)
named_at r q more rest false e k further = or_later (bytes_eq r.binary.name q.binary.name) more (further k)

named_alike : (r : RowIn) (rows : List RowIn) → list_any (is_same_key r) rows ≡ true → list_any (bytes_eq r.binary.name) (map (λ (q : RowIn). q.binary.name) rows) ≡ true
named_alike r [] h = h
named_alike r (q ∷ rows) h =
    named_at r q (list_any (bytes_eq r.binary.name) (map (λ (x : RowIn). x.binary.name) rows)) (list_any (is_same_key r) rows) (is_same_key r q) refl h (named_alike r rows)

-- a row whose name none of the rows has isn't replaced by them
pub unnamed : (r : RowIn) (rows : List RowIn) → list_any (bytes_eq r.binary.name) (map (λ (q : RowIn). q.binary.name) rows) ≡ false → false ≡ list_any (is_same_key r) rows
unnamed r rows h = elim (cases_Bool (list_any (is_same_key r) rows)) [
  | inl e ↦ absurd (false≢true (sym h ∙ named_alike r rows e))
  | inr e ↦ sym e
]

-- What a living source brings.

own_at : (b f c : Bool) → (b ≡ true → f ≡ true) → ((f && c) && b) ≡ ((b || false) && c)
own_at true true true h = refl
own_at true true false h = refl
own_at true false c h = absurd (let no : false ≡ true = h refl in cc)
own_at false true true h = refl
own_at false true false h = refl
own_at false false true h = refl
own_at false false false h = refl

module _ (sources : List UploadIn) (unstable : List RowIn) (live : List Text) (name : Text) (lives : list_any (bytes_eq name) live ≡ true) where
  pub own_alike : filter (λ (r : RowIn). bytes_eq r.binary.source name) (coming_rows sources unstable live) ≡ coming_rows sources unstable (name ∷ [])
  own_alike =
      kept_twice (λ (r : RowIn). bytes_eq r.binary.source name) (comes_with sources live) unstable
      ∙ filter-same (λ (r : RowIn). comes_with sources live r && bytes_eq r.binary.source name) (comes_with sources (name ∷ []))
      (λ r.
      own_at (bytes_eq r.binary.source name) (is_row_of live r) (is_current_in sources r)
      (λ h. ap (λ (n : Text). list_any (bytes_eq n) live) ((bytes_eq-Decides r.binary.source name).0 h) ∙ lives))
      unstable

  -- the rows that may stand on an architecture, of those of testing there and those that may come
  pub stand_on : (arch : ℕ) (t : Suite) (rows old found : List RowIn)
      → rows ≡ filter (λ (r : RowIn). not (gives_way (filter (λ (q : RowIn). bytes_eq q.binary.source name) found) name r)) (rows_on arch old) ++ rows_on arch found
      → old ≡ t.rows → found ≡ coming_rows sources unstable live → rows ≡ rows_on arch (may_stand sources unstable live name t)
  stand_on arch t rows old found e before f =
      let coming = coming_rows sources unstable live in
      let left : List RowIn → RowIn → Bool = λ own r. not (gives_way own name r) in
      let own : filter (λ (q : RowIn). bytes_eq q.binary.source name) found ≡ coming_rows sources unstable (name ∷ []) = ap (filter (λ (q : RowIn). bytes_eq q.binary.source name)) f ∙ own_alike in
      e
      ∙ ap (λ (ps : List RowIn). filter (left ps) (rows_on arch old) ++ rows_on arch found) own
      ∙ ap (λ (ts : List RowIn). filter (left (coming_rows sources unstable (name ∷ []))) (rows_on arch ts) ++ rows_on arch found) before
      ∙ ap (λ (cs : List RowIn). filter (left (coming_rows sources unstable (name ∷ []))) (rows_on arch t.rows) ++ rows_on arch cs) f
      ∙ ap (λ (rs : List RowIn). rs ++ rows_on arch coming) (either_order (left (coming_rows sources unstable (name ∷ []))) (is_row_on arch) t.rows)
      ∙ sym (filter-append (is_row_on arch) (filter (left (coming_rows sources unstable (name ∷ []))) t.rows) coming)
