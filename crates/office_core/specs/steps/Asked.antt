-- What is known of senders that were asked for their next number.
use Rattle.std.specs.Prelude.{ℕ, List, Option, None, IfSome}
use Rattle.std.specs.List.{All}
use Rattle.office_mail.specs.Kept.{Kept}
use Rattle.office_store_keeper.specs.Content.{IsNextNumber}
use Rattle.office_core.specs.declared.asked.NextFree.{NextFree}

-- if a sender has a number here, all its numbers from there on are free
abbrev pub IsFreeFrom : Kept → ℕ → Option ℕ → Type 0
IsFreeFrom kept sender from = IfSome from (λ n. IsNextNumber kept sender n None)

-- the same of each sender that was asked
abbrev pub AreFreeFrom : Kept → List NextFree → Type 0
AreFreeFrom kept asked = All (λ a. IsFreeFrom kept a.sender a.free_from) asked
