-- Hints of the release team.
use Rattle.std.specs.Prelude.{ℕ, Bool, ◌&&◌, if◌then◌else◌, ◌==◌, List, [], ◌∷◌, map, codes, unwrap_or, Result, Ok, Err}
use Rattle.std.specs.List.{list_any, before_first, after_first}
use Rattle.std.specs.Map.{lookup}
use Rattle.std.specs.Str.{bytes_eq}
use Rattle.deb_version.specs.Characters.{char}
use Rattle.deb_control.specs.Relations.{◌>>=◌, is_package_name, is_version}
use Rattle.testing_rules_items.specs.declared.item.Hint.{Hint}
use Rattle.testing_rules_items.specs.declared.item.Hint.TheVariants.{Block, Unblock, Easy, AgeDays, Remove, BlockAll}
use Rattle.testing_rules_items.specs.declared.item.HintItem.{HintItem}
use Rattle.office_mail_setup.specs.declared.field.Field.TheVariants as field
use Rattle.office_mail.specs.declared.message.MailFault.{MailFault}
use Rattle.office_mail.specs.declared.message.MailFault.TheVariants.{BadValue}
use Rattle.office_mail_setup.specs.WholeText.{needs, given, each_of}
use Rattle.office_mail_setup.specs.Values.{days_in, words}
use Rattle.testing_rules_items.specs.Distinct.{is_distinct}

-- the fault of a text that isn't a hint
abbrev pub BadHint : MailFault
BadHint = BadValue field.Hint

-- the list if it isn't empty, else the fault
abbrev pub some_of : {A : Type 0} → List A → Result (List A) MailFault
some_of [] = Err BadHint
some_of (x ∷ xs) = Ok (x ∷ xs)

-- the name of a source
unfoldable pub name_in : List ℕ → Result (List ℕ) MailFault
name_in word = if is_package_name word then Ok word else Err BadHint

-- the `/` that separates a source's name from its version
abbrev pub is_slash : ℕ → Bool
is_slash c = c == char "/"

-- a source at a version: a name, `/` and a version; the first `/` separates them
unfoldable pub item_in : List ℕ → Result HintItem MailFault
item_in word =
    if list_any is_slash word && is_package_name (before_first is_slash word) && is_version (after_first is_slash word)
    then Ok (record { name = before_first is_slash word; version = after_first is_slash word })
    else Err BadHint

-- names of sources, at least one
unfoldable pub names_in : List (List ℕ) → Result (List (List ℕ)) MailFault
names_in ws = some_of ws >>= λ texts. each_of name_in texts

-- sources at versions, at least one
unfoldable pub items_in : List (List ℕ) → Result (List HintItem) MailFault
items_in ws = some_of ws >>= λ texts. each_of item_in texts

-- items that all name different sources
unfoldable pub group_in : List (List ℕ) → Result (List HintItem) MailFault
group_in ws = do
  items ← items_in ws
  _ ← needs (is_distinct (map (λ (i : HintItem). i.name) items)) BadHint
  Ok items

-- a number of days, and then items
unfoldable pub aged_in : List (List ℕ) → Result Hint MailFault
aged_in [] = Err BadHint
aged_in (days ∷ ws) = do
  n ← given (days_in days) BadHint
  items ← items_in ws
  Ok (AgeDays n items)

-- only one thing can be blocked as a whole: `source`
unfoldable pub all_in : List (List ℕ) → Result Hint MailFault
all_in (what ∷ []) = if bytes_eq what (codes "source") then Ok BlockAll else Err BadHint
all_in ws = Err BadHint

-- the hint with this word and the words after it
unfoldable pub hint_of : List ℕ → List (List ℕ) → Result Hint MailFault
hint_of word ws = unwrap_or (lookup (bytes_eq word) (
    (codes "block", names_in ws >>= λ names. Ok (Block names)) ∷ (codes "unblock", items_in ws >>= λ items. Ok (Unblock items))
    ∷ (codes "easy", group_in ws >>= λ items. Ok (Easy items)) ∷ (codes "age-days", aged_in ws)
    ∷ (codes "remove", items_in ws >>= λ items. Ok (Remove items)) ∷ (codes "block-all", all_in ws) ∷ [])) (Err BadHint)

-- the hint in these words
abbrev pub hint_by : List (List ℕ) → Result Hint MailFault
hint_by [] = Err BadHint
hint_by (word ∷ ws) = hint_of word ws

-- the hint in a text
unfoldable pub hint_in : List ℕ → Result Hint MailFault
hint_in text = hint_by (words text)
