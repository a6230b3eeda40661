-- When two lists of deliveries are equivalent, and what later mail doesn't change.
use Rattle.std.specs.Prelude.{◌≡◌, ℕ, ◌↔◌, ◌⊎◌, List, [], ◌∷◌, Some, None, Ok}
use Rattle.office_mail.specs.declared.message.Message.{Message}
use Rattle.office_mail_setup.specs.Lists.{Lists}
use Rattle.office_mail.specs.Kept.{Kept, Place, place_of}
use Rattle.std.specs.FinMap.{get}
use Rattle.office_mail.specs.Read.{read}
use Rattle.office_mail.specs.Runs.{IsReady, orders_to, latest_day, cover, covered}

-- a text is one of these
abbrev pub IsOneOf : List ℕ → List (List ℕ) → Type 0
IsOneOf t [] = ⊥
IsOneOf t (x ∷ xs) = (t ≡ x) ⊎ IsOneOf t xs

-- the text is this message, and is among the deliveries
pub record Delivers (setup : Lists) (texts : List (List ℕ)) (text : List ℕ) (message : Message) : Type 0 where
  pub there : IsOneOf text texts
  pub reads : read setup text ≡ Ok message

-- no sender has two texts under one number
abbrev pub OneText : Lists → List (List ℕ) → Type 0
OneText setup texts =
    (t u : List ℕ) (m n : Message) → Delivers setup texts t m → Delivers setup texts u n → place_of m ≡ place_of n → t ≡ u

-- this text can be delivered to its place: the place is free, or has the same text
abbrev pub CanTake : Kept → Place → List ℕ → Type 0
CanTake kept place text = (get kept place ≡ None) ⊎ (get kept place ≡ Some text)

-- the same well-formed texts were delivered, in any order and with repetitions
abbrev pub SameTexts : Lists → List (List ℕ) → List (List ℕ) → Type 0
SameTexts setup xs ys = (t : List ℕ) (m : Message) → Delivers setup xs t m ↔ Delivers setup ys t m

-- run k is ready in both and sees the same orders, cover, date and mail
pub record SameRun (setup : Lists) (small large : Kept) (k : ℕ) : Type 0 where
  pub ready : IsReady setup large k
  pub orders : orders_to setup large k ≡ orders_to setup small k
  pub covers : (sender : ℕ) → cover setup large k sender ≡ cover setup small k sender
  pub date : latest_day (orders_to setup large k) ≡ latest_day (orders_to setup small k)
  pub mail : covered setup large k ≡ covered setup small k
