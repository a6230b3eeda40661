-- The kinds of messages: their names, senders and fields.
use Rattle.std.specs.Prelude.{ℕ, Bool, not, List, [], ◌∷◌, codes, Option, Some, None}
use Rattle.std.specs.List.{find}
use Rattle.std.specs.Str.{bytes_eq}
use Rattle.office_mail_setup.specs.declared.kind.Kind.{Kind}
use Rattle.office_mail_setup.specs.declared.kind.Kind.TheVariants as kind
use Rattle.office_mail_setup.specs.declared.setup.Role.{Role}
use Rattle.office_mail_setup.specs.declared.setup.Role.TheVariants.{Upload, Build, Bugs, Release, Runs}
use Rattle.office_mail_setup.specs.Setup.{same_role}
use Rattle.office_mail_setup.specs.declared.field.Field.{Field}
use Rattle.office_mail_setup.specs.declared.field.Field.TheVariants as field

-- of each kind: its name, the role needed to send it, and the fields needed in the first paragraph besides From, Number
-- and Kind; a message that says nothing needs no role
abbrev pub about : Kind → List ℕ × Option Role × List Field
about kind.Upload = (codes "upload", Some Upload, field.Source ∷ field.Version ∷ field.Urgency ∷ field.Day ∷ [])
about kind.Drop = (codes "drop", Some Upload, field.Package ∷ field.Architecture ∷ field.Version ∷ [])
about kind.Build = (codes "build", Some Build, [])
about kind.Bug = (codes "bug", Some Bugs, field.Bug ∷ field.Source ∷ field.Severity ∷ [])
about kind.Hint = (codes "hint", Some Release, field.Hint ∷ [])
about kind.Unhint = (codes "unhint", Some Release, field.Cancels ∷ [])
about kind.Delays = (codes "delays", Some Release, field.Low ∷ field.Medium ∷ field.High ∷ field.Critical ∷ [])
about kind.Run = (codes "run", Some Runs, field.Day ∷ field.Covers ∷ [])
about kind.Nothing = (codes "none", None, [])

-- all kinds
abbrev pub kinds : List Kind
kinds = kind.Upload ∷ kind.Drop ∷ kind.Build ∷ kind.Bug ∷ kind.Hint ∷ kind.Unhint ∷ kind.Delays ∷ kind.Run ∷ kind.Nothing ∷ []

-- the kind with this name
unfoldable pub kind_named : List ℕ → Option Kind
kind_named text = find (λ k. bytes_eq text (about k).0) kinds

-- the role needed to send a kind
abbrev pub role_needed : Kind → Option Role
role_needed k = (about k).1

-- the sender has the needed role; if none is needed, it isn't the sender of runs
abbrev pub has_role : Option Role → Role → Bool
has_role None role = not (same_role Runs role)
has_role (Some needed) role = same_role needed role

-- what a sender with a role may send
abbrev pub may_send : Role → Kind → Bool
may_send role k = has_role (role_needed k) role

-- the fields needed in the first paragraph
abbrev pub fields_needed : Kind → List Field
fields_needed k = (about k).2

-- the fields needed in each further paragraph of a build
abbrev pub binary_fields_needed : List Field
binary_fields_needed = field.Package ∷ field.Version ∷ field.Architecture ∷ []
