-- The steps of loops that group what comes by the sources that are news.
use Rattle.std.specs.Prelude.{ℕ, ◌+◌, ◌<◌, Bool, true, false, cond, ◌||◌, List, [], ◌∷◌, ◌++◌, length, take, get_or, filter, Option, Some, None, unwrap_or, IsTrue}
use Rattle.std.proofs.Common.{◌≡◌, refl, ap, ◌∙◌}
use Rattle.std.proofs.lemmas.Bool.{false≢true}
use Rattle.std.proofs.lemmas.List.{take_more}
use Rattle.std.proofs.lemmas.List.Folds.{list_any-append}
use Rattle.std.specs.Str.{bytes_eq}
use Rattle.testing_rules_excuses.specs.declared.by_source.News.{News}
use Rattle.testing_rules_items.specs.Words.{Text}
use Rattle.testing_rules_excuses.specs.steps.BySource.{joined_by, is_among}
use Rattle.testing_rules_excuses.proofs.OwnPart.{grouped-more}

-- the names of one more source that is news
pub among-more : (news : List News) (i : ℕ) (d : News) → i < length news → (q : Text)
    → is_among (take (i + 1) news) q ≡ (is_among (take i news) q || bytes_eq q (get_or news i d).upload.now.source)
among-more news i d h q =
    ap (λ ns. is_among ns q) (take_more news i d h)
    ∙ list_any-append (λ (n : News). bytes_eq q n.upload.now.source) (take i news) (get_or news i d ∷ [])
    ∙ ap (λ b. is_among (take i news) q || b) (or_false (bytes_eq q (get_or news i d).upload.now.source))
  where
    or_false : (b : Bool) → (b || false) ≡ b
    or_false true = refl
    or_false false = refl

module _ {A : Type 0} where
  -- one more source has a group
  pub opened : (first : List A) (among own : Bool) (old new : Option (List A)) → old ≡ cond among (Some first) None → new ≡ cond own (Some (unwrap_or old first)) old
      → new ≡ cond (among || own) (Some first) None
  opened first true true old new e f = f ∙ ap (λ o. Some (unwrap_or o first)) e
  opened first true false old new e f = f ∙ e
  opened first false true old new e f = f ∙ ap (λ o. Some (unwrap_or o first)) e
  opened first false false old new e f = f ∙ e

  pub joined_to : (own : Bool) (x : A) (done : List A) → joined_by own x (Some done) ≡ Some (cond own (done ++ x ∷ []) done)
  joined_to true x done = refl
  joined_to false x done = refl

  pub joined_none : (own : Bool) (x : A) → joined_by own x None ≡ None
  joined_none true x = refl
  joined_none false x = refl

  -- one more item has joined its group
  pub joined : (own : A → Bool) (xs : List A) (i : ℕ) (d : A) → i < length xs → (among : Bool) (old new : Option (List A))
      → old ≡ cond among (Some (filter own (take i xs))) None → new ≡ joined_by (own (get_or xs i d)) (get_or xs i d) old
      → new ≡ cond among (Some (filter own (take (i + 1) xs))) None
  joined own xs i d h true old new e f =
      f ∙ ap (joined_by (own (get_or xs i d)) (get_or xs i d)) e ∙ joined_to (own (get_or xs i d)) (get_or xs i d) (filter own (take i xs))
      ∙ ap (λ ys. Some ys) (grouped-more own xs i d h _ _ refl refl)
  joined own xs i d h false old new e f =
      f ∙ ap (joined_by (own (get_or xs i d)) (get_or xs i d)) e ∙ joined_none (own (get_or xs i d)) (get_or xs i d)

  -- the group of a source that is news
  pub group_of : (among : Bool) (slot : Option (List A)) (items : List A) → IsTrue among → slot ≡ cond among (Some items) None → unwrap_or slot [] ≡ items
  group_of true slot items h e = ap (λ o. unwrap_or o []) e
  group_of false slot items h e = absurd (false≢true h)
