-- The rows that are left.
use Rattle.std.proofs.Common.{◌≡◌, ◌<◌, ◌+◌, ℕ, Bool, true, false, cond, not, List, [], ◌∷◌, ◌++◌, take, length, refl, sym, ap, ◌∙◌}
use Rattle.std.specs.Prelude.{get_or}
use Rattle.std.proofs.lemmas.List.{append-nil, append_assoc, take_more}
use Rattle.std.proofs.lemmas.List.Elements.{filter-append}
use Rattle.testing_rules_model.specs.declared.fact_row.FactRow.{FactRow}
use Rattle.office_store_keeper.specs.steps.FactSet.{is_among}
use Rattle.office_store_keeper.specs.steps.MemoryState.{rows_left}

-- one row more
pub one_gone : (left gone : List FactRow) (r : FactRow) → is_among r gone ≡ true → left ≡ left ++ rows_left gone (r ∷ [])
one_gone left gone r is = sym (append-nil left) ∙ ap (λ (b : Bool). left ++ cond (not b) (r ∷ []) []) (sym is)

pub one_left : (left gone : List FactRow) (r : FactRow) → is_among r gone ≡ false → left ++ r ∷ [] ≡ left ++ rows_left gone (r ∷ [])
one_left left gone r is = ap (λ (b : Bool). left ++ cond (not b) (r ∷ []) []) (sym is)

pub none_gone : (rows : List FactRow) → rows ≡ rows_left [] rows
none_gone [] = refl
none_gone (r ∷ rows) = ap (λ rs. r ∷ rs) (none_gone rows)

pub each_left : (first left more gone rows : List FactRow) (i : ℕ) (d : FactRow) → i < length rows → left ≡ first ++ rows_left gone (take i rows) → more ≡ left ++ rows_left gone (get_or rows i d ∷ [])
    → more ≡ first ++ rows_left gone (take (i + 1) rows)
each_left first left more gone rows i d within so step =
    let r = get_or rows i d in
    step ∙ ap (λ ls. ls ++ rows_left gone (r ∷ [])) so ∙ append_assoc first (rows_left gone (take i rows)) (rows_left gone (r ∷ []))
    ∙ ap (λ ls. first ++ ls) (sym (filter-append (λ x. not (is_among x gone)) (take i rows) (r ∷ []))) ∙ ap (λ rs. first ++ rows_left gone rs) (sym (take_more rows i d within))
