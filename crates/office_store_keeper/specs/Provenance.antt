-- Which message gave an entry of testing.
use Rattle.std.specs.Prelude.{◌≡◌, ℕ, List, Option, Some, None, Ok, Contains, option_map}
use Rattle.std.specs.FinMap.{get}
use Rattle.deb_control.specs.declared.binary.Binary.{Binary}
use Rattle.testing_rules_model.specs.Covered.{Covered, CoveredItem}
use Rattle.testing_rules_model.specs.Suite.{Suite}
use Rattle.testing_rules_model.specs.Provenance.{IsGivenBy}
pub use Rattle.testing_rules_model.specs.Provenance.{IsArchPlace, KnowsArchs}
use Rattle.testing_rules_items.specs.declared.item.Item.TheVariants.{Upload, Build}
use Rattle.office_mail.specs.declared.message.Body.{Body}
use Rattle.office_mail.specs.declared.message.Body.TheVariants.{Item}
use Rattle.office_mail.specs.Lists.{Lists}
use Rattle.office_mail.specs.Kept.{Kept, Place, placed}
use Rattle.office_mail.specs.Read.{read}
use Rattle.office_store_keeper.specs.Content.{Content, item_from_one}

-- each kept text is a message at the place of its own sender and number
abbrev pub AreOwnTexts : Lists → Kept → Type 0
AreOwnTexts setup kept = (p : Place) (text : List ℕ) → get kept p ≡ Some text → placed setup text ≡ Some (p, text)

-- the source and version named by a message, if it is an upload
abbrev pub upload_in : Body → Option (List ℕ × List ℕ)
upload_in (Item (Upload source version urgency day)) = Some (source, version)
upload_in _ = None

-- the binary at a place of a message, counted from 1, if it is a build
abbrev pub binary_in : ℕ → Body → Option Binary
binary_in place (Item (Build binaries)) = item_from_one place binaries
binary_in place _ = None

-- the message kept under an item's sender and number says this item
abbrev pub IsSaid : Lists → Kept → CoveredItem → Type 0
IsSaid setup kept m = option_map (read setup) (get kept (m.sender, m.number)) ≡ Some (Ok (record { sender = m.sender; number = m.number; body = Item m.item }))

-- items that kept messages say give what a new testing has and the kept one hasn't
pub record IsGiven (setup : Lists) (content : Content) (testing : Suite) : Type 0 where
  pub items : Covered
  pub said : (m : CoveredItem) → Contains items m → IsSaid setup content.kept m
  pub given : IsGivenBy setup.archs items content.testing testing
