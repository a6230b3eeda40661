-- How each kept text is written.
use Rattle.std.specs.Prelude.{ℕ, List}
use Rattle.office_mail.specs.Bag.{framed}
use Rattle.office_mail.specs.Lists.{Lists}
use Rattle.office_core_queries.specs.declared.walk.Form.{Form}
use Rattle.office_core_queries.specs.declared.walk.Form.TheVariants.{Framed, Line}
use Rattle.office_core_queries.specs.Listing.{text_line}

-- a kept text as it is written: as a message of a bag, or as the line on it
abbrev pub told_as : Form → Lists → List ℕ → List ℕ
told_as Framed setup text = framed text
told_as Line setup text = text_line setup text
