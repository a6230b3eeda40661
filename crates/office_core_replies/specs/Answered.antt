-- The answer to a delivery whose call on the store failed.
use Rattle.std.specs.Prelude.{◌≡◌, ℕ, Result, Err}
use Rattle.office_mail.specs.Counts.{HasRisen}
use Rattle.office_mail.specs.declared.message.MailFault.TheVariants as mail
use Rattle.office_core_store.specs.declared.faults.StoreFault.{StoreFault}
use Rattle.office_core_store.specs.declared.faults.StoreFault.TheVariants.{NoMemory, Store}
use Rattle.office_core_replies.specs.declared.faults.DeliverFault.{DeliverFault}
use Rattle.office_core_replies.specs.declared.faults.DeliverFault.TheVariants as deliver
use Rattle.office_core_replies.specs.declared.faults.Held.{Held}

-- a fault of the store as the answer to a delivery
abbrev pub told_sender : StoreFault → DeliverFault
told_sender NoMemory = deliver.Mail mail.NoMemory
told_sender Store = deliver.Store

-- the count of the store's refusals rose if it failed, and stays otherwise
abbrev pub CountedDelivery : ℕ → ℕ → Result Held DeliverFault → Type 0
CountedDelivery before after (Err deliver.Store) = HasRisen before after
CountedDelivery before after _ = after ≡ before
