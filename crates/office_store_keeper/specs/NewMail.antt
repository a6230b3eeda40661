-- Texts that are stored together.
use Rattle.std.specs.Prelude.{◌≡◌, ⊤, List, [], ◌∷◌, None}
use Rattle.std.specs.FinMap.{get, insert}
use Rattle.office_mail.specs.Kept.{Kept}
use Rattle.office_store_keeper.specs.Content.{Content}
use Rattle.office_store_keeper.specs.declared.values.NewLetter.{NewLetter}

-- each letter's number is free, also after the earlier letters
abbrev pub AreFree : Kept → List NewLetter → Type 0
AreFree kept [] = ⊤
AreFree kept (l ∷ ls) = (get kept (l.sender, l.number) ≡ None) × AreFree (insert kept (l.sender, l.number) l.text) ls

-- the kept mail with these letters
abbrev pub with_letters : Kept → List NewLetter → Kept
with_letters kept [] = kept
with_letters kept (l ∷ ls) = with_letters (insert kept (l.sender, l.number) l.text) ls

-- these letters are kept; all else is unchanged
abbrev pub with_mail : Content → List NewLetter → Content
with_mail c letters = record { kept = with_letters c.kept letters; reports = c.reports; testing = c.testing; facts = c.facts }
