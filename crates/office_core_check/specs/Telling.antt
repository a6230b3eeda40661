-- The line with the result of a check of a store, and the exit status.
use Rattle.std.specs.Prelude.{ℕ, List, [], ◌∷◌, ◌++◌, codes, decimal}
use Rattle.office_mail.specs.Lists.{Lists}
use Rattle.office_core_replies.specs.Replies.{name_at}
use Rattle.office_core_check.specs.declared.Checked.{Checked}
use Rattle.office_core_check.specs.declared.Checked.TheVariants.{Whole, Differs, Unread}
use Rattle.office_core_check.specs.declared.Difference.{Difference}
use Rattle.office_core_check.specs.declared.Part.{Part}
use Rattle.office_core_check.specs.declared.Part.TheVariants.{Office, Run}
use Rattle.office_core_check.specs.declared.Part.TheVariants as parts
use Rattle.office_core_check.specs.declared.Difference.TheVariants.{Mail, RunMail, Excuses, Update, Testing, Facts, Tables}

-- a difference in words
abbrev pub difference_words : Lists → Difference → List ℕ
difference_words setup (Mail sender number) = codes "mail " ++ name_at setup sender ++ 32 ∷ decimal number
difference_words setup (RunMail run) = codes "run " ++ decimal run ++ codes " mail"
difference_words setup (Excuses run) = codes "run " ++ decimal run ++ codes " excuses"
difference_words setup (Update run) = codes "run " ++ decimal run ++ codes " update"
difference_words setup Testing = codes "testing"
difference_words setup Facts = codes "facts"
difference_words setup Tables = codes "tables"

-- a part of a store in words
abbrev pub part_words : Lists → Part → List ℕ
part_words setup Office = codes "office"
part_words setup (parts.Mail sender) = codes "mail " ++ name_at setup sender
part_words setup (Run run) = codes "run " ++ decimal run
part_words setup parts.Testing = codes "testing"
part_words setup parts.Facts = codes "facts"

-- what was found, in words
abbrev pub checked_words : Lists → Checked → List ℕ
checked_words setup (Whole runs) = codes "whole " ++ decimal runs ++ codes " runs"
checked_words setup (Differs difference) = difference_words setup difference
checked_words setup (Unread part) = codes "unread " ++ part_words setup part

-- the line with the result
unfoldable pub checked_text : Lists → Checked → List ℕ
checked_text setup checked = checked_words setup checked ++ 10 ∷ []

-- the exit status: 0 if the store is whole, 1 if it isn't
abbrev pub status_of_check : Checked → ℕ
status_of_check (Whole runs) = 0
status_of_check _ = 1
