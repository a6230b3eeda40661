-- The fields of messages: their spelling, and their text in a paragraph.
use Rattle.std.specs.Prelude.{ℕ, List, codes, Option}
use Rattle.deb_control.specs.Paragraphs.{value_of}
use Rattle.office_mail_setup.specs.declared.field.Field.{Field}
use Rattle.office_mail_setup.specs.declared.field.Field.TheVariants.{From, Number, Kind, Source, Version, Urgency, Day, Package, Architecture, PreDepends, Depends, Provides, Bug, Severity, Found, Fixed, Hint, Cancels, Low, Medium, High, Critical, Covers}
use Rattle.office_mail_setup.specs.WholeText.{Paragraph}

-- the spelling of a field
abbrev pub field_name : Field → List ℕ
field_name From = codes "From"
field_name Number = codes "Number"
field_name Kind = codes "Kind"
field_name Source = codes "Source"
field_name Version = codes "Version"
field_name Urgency = codes "Urgency"
field_name Day = codes "Day"
field_name Package = codes "Package"
field_name Architecture = codes "Architecture"
field_name PreDepends = codes "Pre-Depends"
field_name Depends = codes "Depends"
field_name Provides = codes "Provides"
field_name Bug = codes "Bug"
field_name Severity = codes "Severity"
field_name Found = codes "Found"
field_name Fixed = codes "Fixed"
field_name Hint = codes "Hint"
field_name Cancels = codes "Cancels"
field_name Low = codes "Low"
field_name Medium = codes "Medium"
field_name High = codes "High"
field_name Critical = codes "Critical"
field_name Covers = codes "Covers"

-- a field's text, if the paragraph has the field
abbrev pub text_of : Paragraph → Field → Option (List ℕ)
text_of p field = value_of p (field_name field)
