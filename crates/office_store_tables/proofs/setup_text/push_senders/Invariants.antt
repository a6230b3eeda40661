use Rattle.std.proofs.Common.{◌≡◌, ◌++◌, string_bytes, take}
use Rattle.std.specs.List.{flat_map}
use Rattle.office_store_tables.specs.SetupText.{sender_lines}
use Rattle.office_store_tables.proofs.setup_text.push_senders.Given as goal

-- the text so far
abbrev pub invariant-loop-sender : goal.invariant-loop-sender
invariant-loop-sender l = string_bytes l.text ≡ string_bytes l.fn.text ++ flat_map sender_lines (take l.sender-index l.senders)
