-- The text of a setup: a line with its architectures, and a paragraph for each sender.
use Rattle.std.specs.Prelude.{ℕ, List, [], ◌∷◌, ◌++◌, codes, flat_map}
use Rattle.office_mail.specs.Lists.{Lists}
use Rattle.office_mail_setup.specs.declared.setup.Sender.{Sender}
use Rattle.office_mail_setup.specs.Setup.{role_word}

-- a name after a space
abbrev pub spaced : List ℕ → List ℕ
spaced name = 32 ∷ name

-- an empty line, and the two lines of a sender
unfoldable pub sender_lines : Sender → List ℕ
sender_lines s = 10 ∷ (codes "Sender: " ++ (s.name ++ (10 ∷ (codes "Role: " ++ (role_word s.role ++ 10 ∷ [])))))

-- the text of a setup (this office decides its form)
unfoldable pub setup_text : Lists → List ℕ
setup_text setup = codes "Architectures:" ++ (flat_map spaced setup.archs ++ (10 ∷ flat_map sender_lines setup.senders))
