-- Items that kept messages say.
use Rattle.std.proofs.Common.{◌≡◌, List, ℕ, Option, Some, None, Ok, option_map, refl, ap, ◌∙◌}
use Rattle.std.specs.FinMap.{get}
use Rattle.testing_rules_model.specs.Covered.{CoveredItem}
use Rattle.office_mail.specs.declared.message.Body.TheVariants.{Item}
use Rattle.office_mail.specs.declared.message.Message.{Message}
use Rattle.office_mail.specs.Kept.{Kept}
use Rattle.office_mail.specs.Lists.{Lists}
use Rattle.office_mail.specs.Read.{read}
use Rattle.office_store_keeper.specs.Provenance.{IsSaid}

-- the message that says an item
abbrev pub saying : CoveredItem → Message
saying m = record { sender = m.sender; number = m.number; body = Item m.item }

-- the kept text that says it
pub record SaidText (setup : Lists) (kept : Kept) (m : CoveredItem) : Type 0 where
  pub text : List ℕ
  pub stands : get kept (m.sender, m.number) ≡ Some text
  pub reads : read setup text ≡ Ok (saying m)

some_same : {A : Type 0} (x y : A) → Some x ≡ Some y → x ≡ y
some_same x y e = cc

pub said_text : (setup : Lists) (kept : Kept) (m : CoveredItem) → IsSaid setup kept m → SaidText setup kept m
said_text setup kept m said = go (get kept (m.sender, m.number)) refl said
  where
    go : (o : Option (List ℕ)) → get kept (m.sender, m.number) ≡ o → option_map (read setup) o ≡ Some (Ok (saying m)) → SaidText setup kept m
    go (Some text) is e = record { text = text; stands = is; reads = some_same (read setup text) (Ok (saying m)) e }
    go None is e = absurd (cc e)

pub is_said : (setup : Lists) (kept : Kept) (m : CoveredItem) (text : List ℕ) → get kept (m.sender, m.number) ≡ Some text → read setup text ≡ Ok (saying m) → IsSaid setup kept m
is_said setup kept m text stands reads = ap (option_map (read setup)) stands ∙ ap Some reads
