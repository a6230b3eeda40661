-- What stands behind a line, by how many meet its clause.
use Rattle.std.proofs.Common.{◌≡◌, Bool, true, false, List, [], ◌∷◌, ◌++◌, length, refl, ap, ◌∙◌, append-nil, eqb-true, arith}
use Rattle.std.specs.Prelude.{◌==◌, codes, if◌then◌else◌}
use Rattle.std.specs.List.{flat_map}
use Rattle.std.proofs.lemmas.Bool.{true≢false}
use Rattle.testing_rules_items.specs.Words.{Text, is_empty}
use Rattle.testing_rules_model.specs.declared.suite.LentRow.{LentRow}
use Rattle.testing_rules_model.specs.JudgedRows.{lent}
use Rattle.testing_rules_model.specs.Suite.{Suite}
use Rattle.testing_rules_refusals.specs.Lines.{need_line}
use Rattle.testing_rules_refusals.specs.Texts.{Known, comes_with, offer_line, offers_text, line_within, offers_within, help_text, told_text}
use Rattle.testing_rules_refusals.specs.Told.{ToldLine}

isnt_none : {A : Type 0} (x : A) (xs : List A) → (length (x ∷ xs) == 0) ≡ true → ⊥
isnt_none x xs e = let none : length (x ∷ xs) ≡ 0 = eqb-true (length (x ∷ xs)) 0 e in absurd (omega (arith, none))

empty_at : {A : Type 0} (b : Bool) (xs : List A) → (length xs == 0) ≡ b → is_empty xs ≡ b
empty_at true [] e = refl
empty_at false [] e = absurd (true≢false e)
empty_at true (x ∷ xs) e = absurd (isnt_none x xs e)
empty_at false (x ∷ xs) e = refl

module _ (k : Known) where
  -- where no row would meet the clause, that is told
  pub none_offered : (rows : List LentRow) → (length rows == 0) ≡ true → offers_text k (lent rows) ≡ codes "unstable nothing\n"
  none_offered [] e = refl
  none_offered (r ∷ rows) e = absurd (isnt_none r rows e)

  -- and else each of them
  pub some_offered : (rows : List LentRow) → (length rows == 0) ≡ false → offers_text k (lent rows) ≡ flat_map (offer_line k) (lent rows)
  some_offered [] e = absurd (true≢false e)
  some_offered (r ∷ rows) e = refl

  abbrev pub line_of : ToldLine → Text
  line_of l = need_line (comes_with k.sources k.coming l.need.row) l.number l.need l.met_by

  module _ (t : Suite) where
    -- the same within a run
    pub none_within : (rows : List LentRow) → (length rows == 0) ≡ true → offers_within t k (lent rows) ≡ codes "unstable nothing\n"
    none_within [] e = refl
    none_within (r ∷ rows) e = absurd (isnt_none r rows e)

    pub some_within : (rows : List LentRow) → (length rows == 0) ≡ false → offers_within t k (lent rows) ≡ flat_map (line_within t k) (lent rows)
    some_within [] e = absurd (true≢false e)
    some_within (r ∷ rows) e = refl

    -- behind a line that nothing meets stands what would help
    pub helped : (l : ToldLine) → (length l.met_by == 0) ≡ true → told_text t k l ≡ line_of l ++ help_text t k l
    helped l e = ap (λ b. line_of l ++ (if b then help_text t k l else [])) (empty_at true l.met_by e)

    -- and behind another one nothing
    pub unhelped : (l : ToldLine) → (length l.met_by == 0) ≡ false → told_text t k l ≡ line_of l
    unhelped l e = ap (λ b. line_of l ++ (if b then help_text t k l else [])) (empty_at false l.met_by e) ∙ append-nil (line_of l)
