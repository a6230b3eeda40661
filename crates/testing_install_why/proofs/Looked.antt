-- Rows are looked at, one after the other, and some are taken out.
use Rattle.std.proofs.Common.{◌≡◌, ℕ, ◌<◌, Bool, true, false, List, [], ◌∷◌, ◌++◌, length, get_or, replicate, set, Some, sym, ap, ◌∙◌, subst, inl, inr, arith}
use Rattle.std.specs.Prelude.{Contains}
use Rattle.std.specs.List.{All, slice_get}
use Rattle.std.proofs.lemmas.Bool.{cases_eq, cases_lt, false≢true}
use Rattle.std.proofs.lemmas.Option.{same_Some}
use Rattle.std.proofs.lemmas.List.{get_or-replicate, get_or-set_other, get_or-set_same, get_or_default, get_or_past, length-replicate, length-set}
use Rattle.std.proofs.lemmas.List.Elements.{Contains-append_left, Contains-push, Contains-push_cases}
use Rattle.deb_control.specs.declared.binary.Binary.{Binary}
use Rattle.deb_control.specs.declared.relation.Clause.{Clause}
use Rattle.testing_install.specs.Closed.{IsMet, marked}
use Rattle.testing_install.specs.Satisfies.{meets}
use Rattle.testing_install.proofs.Finding.{any_true}
use Rattle.testing_install.proofs.Members.{all_from_members, members_from_all}
use Rattle.testing_install_why.specs.steps.Reaching.{IsGrown}
use Rattle.testing_install_why.specs.steps.Taking.{FailsAt, FailsBy, IsHeldAt, IsLooked}
use Rattle.testing_install_why.specs.steps.Woken.{IsWokenFor}
use Rattle.testing_install_why.proofs.Reaching.{still_in}
use Rattle.testing_install_why.proofs.Taking.{two_ways}

pub held_out : (rows : List Binary) (left : List Bool) (place : ℕ) → marked left place ≡ false → IsHeldAt rows (marked left) place
held_out rows left place off = record { each = λ row at on. absurd (false≢true (sym off ∙ on)) }

pub held_in : (rows : List Binary) (left : List Bool) (place : ℕ) (row : Binary) → slice_get rows place ≡ Some row → All (IsMet rows (marked left)) row.clauses → IsHeldAt rows (marked left) place
held_in rows left place row at all = record { each = λ other stands on. subst (λ (b : Binary). All (IsMet rows (marked left)) b.clauses) (same_Some row other (sym at ∙ stands)) all }

-- a row that is left, with such a clause
pub fails_by : (rows : List Binary) (set : ℕ → Bool) (place need : ℕ) (row : Binary) → slice_get rows place ≡ Some row → set place ≡ true → FailsAt rows set row.clauses need → FailsBy rows set (record { place = place; need = need })
fails_by rows set place need row at on f = record { is = record { row = row; clause = f.clause; stands = at; needs = f.needs }; here = on; unmet = f.unmet }

-- none is marked at first
none_marked : (n k : ℕ) → marked (replicate n false) k ≡ false
none_marked n k = elim (cases_lt k n) [
  | inl less ↦ get_or-replicate n k false false less
  | inr not ↦ get_or_past (replicate n false) k false (omega (arith, not, length-replicate n false))
]

pub looked_begun : (rows : List Binary) (places : List ℕ) (left held : List Bool) (waiting : List ℕ) → All (λ k. k < length rows) places → held ≡ replicate (length rows) false → waiting ≡ places → IsLooked rows places left held waiting
looked_begun rows places left held waiting within none all = record {
  long = ap length none ∙ length-replicate (length rows) false;
  within = subst (All (λ k. k < length rows)) (sym all) within;
  stands = λ k on. absurd (false≢true (sym (none_marked (length rows) k) ∙ sym (ap (λ xs. marked xs k) none) ∙ on));
  known = λ k c. inr (inr (subst (λ xs. Contains xs k) (sym all) c));
}

pub within_last : (n : ℕ) (waiting : List ℕ) (place : ℕ) → All (λ k. k < n) (waiting ++ place ∷ []) → place < n
within_last n waiting place all = members_from_all n (waiting ++ place ∷ []) all place (Contains-push waiting place)

pub within_front : (n : ℕ) (waiting : List ℕ) (place : ℕ) → All (λ k. k < n) (waiting ++ place ∷ []) → All (λ k. k < n) waiting
within_front n waiting place all = all_from_members n waiting (λ k c. members_from_all n (waiting ++ place ∷ []) all k (Contains-append_left waiting (place ∷ []) k c))

-- a row that isn't left
pub looked_past : (rows : List Binary) (places : List ℕ) (left held : List Bool) (waiting : List ℕ) (place : ℕ) → IsLooked rows places left held (waiting ++ place ∷ []) → marked left place ≡ false → IsLooked rows places left held waiting
looked_past rows places left held waiting place l off = record {
  long = l.long;
  within = within_front (length rows) waiting place l.within;
  stands = l.stands;
  known = λ k c. elim (l.known k c) [
    | inl on ↦ inl on
    | inr (inl out) ↦ inr (inl out)
    | inr (inr waits) ↦ elim (Contains-push_cases waiting place k waits) [
      | inl still ↦ inr (inr still)
      | inr same ↦ inr (inl (subst (λ x. marked left x ≡ false) same off))
    ]
  ];
}

-- a row whose clauses are met
pub looked_held : (rows : List Binary) (places : List ℕ) (left held : List Bool) (waiting : List ℕ) (place : ℕ) → IsLooked rows places left held (waiting ++ place ∷ []) → place < length held → IsHeldAt rows (marked left) place
    → IsLooked rows places left (set held place true) waiting
looked_held rows places left held waiting place l h here = record {
  long = length-set held place true ∙ l.long;
  within = within_front (length rows) waiting place l.within;
  stands = λ k on. elim (cases_eq k place) [
    | inl e ↦ subst (IsHeldAt rows (marked left)) (sym e) here
    | inr n ↦ l.stands k (sym (get_or-set_other held place k true false n) ∙ on)
  ];
  known = λ k c. elim (cases_eq k place) [
    | inl e ↦ inl (ap (marked (set held place true)) e ∙ get_or-set_same held place true false h)
    | inr n ↦ elim (l.known k c) [
      | inl on ↦ inl (get_or-set_other held place k true false n ∙ on)
      | inr (inl out) ↦ inr (inl out)
      | inr (inr waits) ↦ elim (Contains-push_cases waiting place k waits) [
        | inl still ↦ inr (inr still)
        | inr same ↦ absurd (n (sym same))
      ]
    ]
  ];
}

-- once none waits
pub looked_all : (rows : List Binary) (places : List ℕ) (left held : List Bool) (waiting : List ℕ) → IsLooked rows places left held waiting → length waiting ≡ 0 → All (IsHeldAt rows (marked left)) places
looked_all rows places left held waiting l none i d h =
    let k : ℕ = get_or places i d in
    elim (l.known k (i, h, get_or_default places i k d h)) [
      | inl on ↦ l.stands k on
      | inr (inl out) ↦ held_out rows left k out
      | inr (inr c) ↦ absurd (omega (arith, c.1, none))
    ]

module _ (rows : List Binary) (places : List ℕ) (left old new : List Bool) (before after : List ℕ) (place : ℕ) (row : Binary) (l : IsLooked rows places left old (before ++ place ∷ [])) (h : place < length left) (at : slice_get rows place ≡ Some row) (g : IsGrown old new before after) (w : IsWokenFor rows new row) where
  was_held : (k : ℕ) → marked new k ≡ true → marked old k ≡ true
  was_held k on = elim (two_ways (marked old k)) [ inl was ↦ was | inr off ↦ absurd (false≢true (sym (g.shut k off) ∙ on)) ]

  was_left : (k : ℕ) → marked (set left place false) k ≡ true → marked left k ≡ true
  was_left k on = elim (cases_eq k place) [
    | inl e ↦ absurd (false≢true (sym (get_or-set_same left place false false h) ∙ ap (marked (set left place false)) (sym e) ∙ on))
    | inr n ↦ sym (get_or-set_other left place k false false n) ∙ on
  ]

  is_out : (k : ℕ) → marked left k ≡ false → marked (set left place false) k ≡ false
  is_out k off = elim (cases_eq k place) [
    | inl e ↦ ap (marked (set left place false)) e ∙ get_or-set_same left place false false h
    | inr n ↦ get_or-set_other left place k false false n ∙ off
  ]

  -- what meets the clause of a held row isn't the row that is taken out
  still_met : (k : ℕ) (other : Binary) (i : ℕ) (d : Clause) → slice_get rows k ≡ Some other → marked new k ≡ true → i < length other.clauses → IsMet rows (marked left) (get_or other.clauses i d) → IsMet rows (marked (set left place false)) (get_or other.clauses i d)
  still_met k other i d stands on within met = elim (cases_eq met.0 place) [
    | inl e ↦ (
        let same : met.1 ≡ row = same_Some met.1 row (sym met.2 ∙ ap (slice_get rows) e ∙ at) in
        let does : meets row (get_or other.clauses i d) ≡ true = ap (λ (r : Binary). meets r (get_or other.clauses i d)) (sym same) ∙ met.4 in
        absurd (false≢true (sym (w.each k other stands (any_true (meets row) other.clauses i d within does)) ∙ on)))
    | inr n ↦ (met.0, met.1, met.2, get_or-set_other left place met.0 false false n ∙ met.3, met.4)
  ]

  -- a row that is taken out
  pub looked_out : IsLooked rows places (set left place false) new after
  looked_out = record {
    long = g.long ∙ l.long;
    within = subst (λ n. All (λ k. k < n) after) l.long (g.within (subst (λ n. All (λ k. k < n) before) (sym l.long) (within_front (length rows) before place l.within)));
    stands = λ k on. record { each = λ other stands still i d within. still_met k other i d stands on within ((l.stands k (was_held k on)).each other stands (was_left k still) i d within) };
    known = λ k c. elim (l.known k c) [
      | inl was ↦ elim (two_ways (marked new k)) [
        | inl on ↦ inl on
        | inr off ↦ elim (g.moved k off) [
          | inl never ↦ absurd (false≢true (sym never ∙ was))
          | inr waits ↦ inr (inr waits)
        ]
      ]
      | inr (inl out) ↦ inr (inl (is_out k out))
      | inr (inr waits) ↦ elim (Contains-push_cases before place k waits) [
        | inl still ↦ inr (inr (still_in before after g.stays k still))
        | inr same ↦ inr (inl (subst (λ x. marked (set left place false) x ≡ false) same (get_or-set_same left place false false h)))
      ]
    ];
  }
