-- The steps of a loop that groups uploads which are lent.
use Rattle.std.specs.Prelude.{Bool, true, false, cond, List, [], ◌∷◌, Option, Some, None, option_map, unwrap_or, IsTrue}
use Rattle.std.proofs.Common.{◌≡◌, refl, ap, ◌∙◌}
use Rattle.std.proofs.lemmas.List.{map-append}
use Rattle.std.specs.Borrow.{Bor}
use Rattle.testing_rules_model.specs.declared.facts.UploadIn.{UploadIn}
use Rattle.testing_rules_excuses.specs.steps.BySource.{joined_by}
use Rattle.testing_rules_excuses.specs.steps.LentUploads.{uploads_lent}
use Rattle.testing_rules_excuses.proofs.NewsGroups.{group_of}

-- no upload has come
pub start_lent : (among : Bool) (slot : Option (List (Bor UploadIn))) → slot ≡ cond among (Some []) None → option_map uploads_lent slot ≡ cond among (Some []) None
start_lent true slot e = ap (option_map uploads_lent) e
start_lent false slot e = ap (option_map uploads_lent) e

-- one more upload has come
pub joined_lent : (own : Bool) (x : Bor UploadIn) (slot : Option (List (Bor UploadIn))) → option_map uploads_lent (joined_by own x slot) ≡ joined_by own x.now (option_map uploads_lent slot)
joined_lent true x None = refl
joined_lent true x (Some xs) = ap (λ (ys : List UploadIn). Some ys) (map-append (λ (u : Bor UploadIn). u.now) xs (x ∷ []))
joined_lent false x slot = refl

unwrap_lent : (slot : Option (List (Bor UploadIn))) → uploads_lent (unwrap_or slot []) ≡ unwrap_or (option_map uploads_lent slot) []
unwrap_lent None = refl
unwrap_lent (Some xs) = refl

-- the group of a source that is news
pub group_lent : (among : Bool) (slot : Option (List (Bor UploadIn))) (items : List UploadIn) → IsTrue among → option_map uploads_lent slot ≡ cond among (Some items) None → uploads_lent (unwrap_or slot []) ≡ items
group_lent among slot items h e = unwrap_lent slot ∙ group_of among (option_map uploads_lent slot) items h e
