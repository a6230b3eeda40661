-- Covers: the last number of each sender that a run sees.
use Rattle.std.specs.Prelude.{ℕ, Bool, not, ◌&&◌, if◌then◌else◌, List, [], ◌∷◌, map, Result, Ok, Err}
use Rattle.std.specs.List.{list_any}
use Rattle.std.specs.Str.{bytes_eq}
use Rattle.deb_control.specs.Relations.{◌>>=◌, items}
use Rattle.office_mail_setup.specs.declared.field.Field.TheVariants as field
use Rattle.office_mail_setup.specs.declared.setup.Sender.{Sender}
use Rattle.office_mail_setup.specs.declared.setup.Role.TheVariants.{Runs}
use Rattle.office_mail.specs.declared.message.MailFault.{MailFault}
use Rattle.office_mail.specs.declared.message.MailFault.TheVariants.{BadValue}
use Rattle.office_mail_setup.specs.Lists.{Lists}
use Rattle.office_mail_setup.specs.Setup.{same_role}
use Rattle.office_mail_setup.specs.WholeText.{needs, given, each_of}
use Rattle.office_mail_setup.specs.Values.{number_in, words}
use Rattle.testing_rules_items.specs.Distinct.{is_distinct}

-- the fault of a text that isn't a list of covers
abbrev pub BadCovers : MailFault
BadCovers = BadValue field.Covers

-- a sender that an item may name: one in the setup, except the sender of runs
abbrev pub is_named : List ℕ → Sender → Bool
is_named name sender = bytes_eq sender.name name && not (same_role Runs sender.role)

-- a cover may name a sender of this name (this office decides it)
abbrev pub may_cover : Lists → List ℕ → Bool
may_cover setup name = list_any (is_named name) setup.senders

-- an item is two words: a sender's name and a number
abbrev pub cover_of_words : Lists → List (List ℕ) → Result (List ℕ × ℕ) MailFault
cover_of_words setup (name ∷ number ∷ []) = do
  _ ← needs (may_cover setup name) BadCovers
  n ← given (number_in 0 999_999_999 number) BadCovers
  Ok (name, n)
cover_of_words setup ws = Err BadCovers

-- the sender's name and the number in an item
unfoldable pub cover_in : Lists → List ℕ → Result (List ℕ × ℕ) MailFault
cover_in setup item = cover_of_words setup (words item)

-- the number stated for a name, or 0
abbrev pub number_for : List ℕ → List (List ℕ × ℕ) → ℕ
number_for name [] = 0
number_for name (c ∷ cs) = if bytes_eq c.0 name then c.1 else number_for name cs

-- one number for each sender of the setup, in order
unfoldable pub numbers_by_sender : Lists → List (List ℕ × ℕ) → List ℕ
numbers_by_sender setup stated = map (λ (sender : Sender). number_for sender.name stated) setup.senders

-- The covers in a text: items separated by commas, at most one per sender. An item of only white is skipped.
unfoldable pub covers_in : Lists → List ℕ → Result (List ℕ) MailFault
covers_in setup text = do
  stated ← each_of (cover_in setup) (items text)
  _ ← needs (is_distinct (map (λ (c : List ℕ × ℕ). c.0) stated)) BadCovers
  Ok (numbers_by_sender setup stated)
