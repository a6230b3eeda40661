-- The uploads of facts, each once. This office decides to keep facts.
use Rattle.std.specs.Prelude.{List}
use Rattle.std.specs.List.Sorted.{IsStrictlySortedBy}
use Rattle.std.specs.declared.cmp.Ordering.{Ordering}
use Rattle.std.specs.declared.cmp.Ordering.TheVariants.{Less}
use Rattle.std.specs.Ordering.{nat_cmp, int_cmp, on, then_cmp}
use Rattle.jiff_core.specs.Date.{epoch_day}
use Rattle.testing_rules_items.specs.Words.{byte_cmp}
use Rattle.testing_rules_model.specs.declared.facts.UploadIn.{UploadIn}
use Rattle.testing_rules_model.specs.Excuses.{urgency_rank}
use Rattle.testing_rules_model.specs.WithMessage.{put_first}

-- the order of uploads by content: source, text of the version, urgency and day
abbrev pub said_order : UploadIn → UploadIn → Ordering
said_order =
    then_cmp (on (λ u. u.source) byte_cmp)
    (then_cmp (on (λ u. u.version) byte_cmp) (then_cmp (on (λ u. urgency_rank u.urgency) nat_cmp) (on (λ u. epoch_day u.day) int_cmp)))

-- the order of uploads by sender and number, then by content
abbrev pub message_order : UploadIn → UploadIn → Ordering
message_order = then_cmp (on (λ u. u.sender) nat_cmp) (then_cmp (on (λ u. u.number) nat_cmp) said_order)

-- the uploads are in this order, each once
abbrev pub AreByMessage : List UploadIn → Type 0
AreByMessage uploads = IsStrictlySortedBy message_order uploads

-- of an upload already there and an equal one, the first stays
abbrev pub first_stays : UploadIn → UploadIn → Ordering
first_stays old new = Less

-- the uploads with one more, unless they have it
abbrev pub with_kept : UploadIn → List UploadIn → List UploadIn
with_kept = put_first (λ u. u) message_order first_stays
