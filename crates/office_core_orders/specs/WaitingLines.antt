-- The text on what the first run that isn't ready waits for.
use Rattle.std.specs.Prelude.{ℕ, ◌+◌, List, [], ◌∷◌, ◌++◌, codes, decimal}
use Rattle.std.specs.List.{flat_map}
use Rattle.office_mail.specs.Lists.{Lists}
use Rattle.office_mail.specs.Runs.{runs}
use Rattle.office_core_replies.specs.Replies.{name_at, status_line}
use Rattle.office_core_orders.specs.declared.wait_lines.Lack.{Lack}
use Rattle.office_core_orders.specs.declared.wait_lines.Awaited.{Awaited}
use Rattle.office_core_orders.specs.declared.wait_lines.Awaited.TheVariants.{Order, Mail}
use Rattle.office_core_orders.specs.declared.wait_lines.Waiting.{Waiting}

-- the line on missing mail of one sender: its first missing number, and the number up to which the run needs it
abbrev pub lack_line : Lists → ℕ → Lack → List ℕ
lack_line setup run lack = codes "run " ++ decimal run ++ codes " waits for " ++ name_at setup lack.sender ++ 32 ∷ decimal lack.number ++ codes " of " ++ decimal lack.cover ++ 10 ∷ []

-- the line on a run whose order isn't kept: the order has the run's number
abbrev pub order_line : Lists → ℕ → List ℕ
order_line setup run = codes "run " ++ decimal run ++ codes " waits for " ++ name_at setup (runs setup) ++ 32 ∷ decimal run ++ 10 ∷ []

-- the lines on all that a run waits for
abbrev pub awaited_lines : Lists → ℕ → Awaited → List ℕ
awaited_lines setup run Order = order_line setup run
awaited_lines setup run (Mail lacks) = flat_map (lack_line setup run) lacks.items

-- the status, and what the run after the ready ones waits for
unfoldable pub waiting_text : Lists → Waiting → List ℕ
waiting_text setup waiting = status_line waiting.progress.ready waiting.progress.finished ++ awaited_lines setup (waiting.progress.ready + 1) waiting.awaited
