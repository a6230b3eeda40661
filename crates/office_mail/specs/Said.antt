-- The invariant of messages: the sender has the role needed for the kind, and the named architectures are known.
use Rattle.std.specs.Prelude.{◌≡◌, ℕ, Bool, true, List, Some}
use Rattle.std.specs.List.{list_all}
use Rattle.deb_control.specs.declared.binary.Binary.{Binary}
use Rattle.testing_rules_items.specs.declared.item.Item.TheVariants as item
use Rattle.office_mail_setup.specs.declared.kind.Kind.{Kind}
use Rattle.office_mail_setup.specs.declared.kind.Kind.TheVariants as kind
use Rattle.office_mail.specs.declared.message.Body.{Body}
use Rattle.office_mail.specs.declared.message.Body.TheVariants.{Run, Item as Saying}
use Rattle.office_mail.specs.declared.message.Message.{Message}
use Rattle.office_mail_setup.specs.declared.setup.Role.{Role}
use Rattle.office_mail_setup.specs.Kinds.{role_needed}
use Rattle.office_mail_setup.specs.Lists.{Lists}
use Rattle.office_mail.specs.Read.{is_arch}
use Rattle.office_mail_setup.specs.Setup.{count_of, place_of_role}

-- the kind of a body
abbrev pub kind_of : Body → Kind
kind_of (Saying (item.Upload source version urgency day)) = kind.Upload
kind_of (Saying (item.Dropped name arch version)) = kind.Drop
kind_of (Saying (item.Build binaries)) = kind.Build
kind_of (Saying (item.Bug bug source severity found fixed)) = kind.Bug
kind_of (Saying (item.Hint hint)) = kind.Hint
kind_of (Saying (item.Unhint number)) = kind.Unhint
kind_of (Saying (item.Delays low medium high critical)) = kind.Delays
kind_of (Saying item.Nothing) = kind.Nothing
kind_of (Run order) = kind.Run

-- each named architecture is listed or `all`
abbrev pub knows_named : List (List ℕ) → Body → Bool
knows_named archs (Saying (item.Dropped name arch version)) = is_arch archs arch
knows_named archs (Saying (item.Build binaries)) = list_all (λ (b : Binary). is_arch archs b.architecture) binaries
knows_named archs _ = true

-- A message respects the setup: if only one sender has the role needed for its kind, it is from that sender, and all
-- architectures that it names are listed or `all`.
pub record KeepsTo (setup : Lists) (message : Message) : Type 0 where
  pub sender : (role : Role) → role_needed (kind_of message.body) ≡ Some role → count_of role setup.senders ≡ 1 → message.sender ≡ place_of_role role setup.senders
  pub archs : knows_named setup.archs message.body ≡ true
