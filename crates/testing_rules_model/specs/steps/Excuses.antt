-- Steps beside `specs/Excuses.antt`.
use Rattle.std.specs.Prelude.{ℕ, Bool, ◌&&◌, ◌==◌, List, find, Option}
use Rattle.std.specs.List.{list_any}
use Rattle.std.specs.Str.{bytes_eq}
use Rattle.testing_rules_model.specs.declared.facts.UploadIn.{UploadIn}
use Rattle.testing_rules_model.specs.declared.facts.HintIn.{HintIn}
use Rattle.testing_rules_model.specs.declared.suite.SourceIn.{SourceIn}
use Rattle.testing_rules_model.specs.declared.suite.RowIn.{RowIn}
use Rattle.testing_rules_items.specs.Words.{Text}
use Rattle.testing_rules_model.specs.Unstable.{is_of_source, is_current}
use Rattle.testing_rules_model.specs.Excuses.{blocks, unblocks}

-- the source's entry among testing's sources
abbrev pub entry_of : List SourceIn → Text → Option SourceIn
entry_of sources name = find (λ s. bytes_eq s.name name) sources

-- unstable has a row of the source on the architecture (Debian Developer's Reference 5.13.2.1)
abbrev pub has_row_on : List RowIn → UploadIn → ℕ → Bool
has_row_on rows u arch = list_any (λ r. (r.arch == arch) && is_of_source u r) rows

-- unstable has a current row of the source on the architecture
abbrev pub has_current_on : List RowIn → UploadIn → ℕ → Bool
has_current_on rows u arch = list_any (λ r. (r.arch == arch) && is_current u r) rows

-- some hint keeps the source out
abbrev pub asks_block : List HintIn → Text → Bool
asks_block hints name = list_any (λ h. blocks name h.hint) hints

-- some hint lifts blocks for the source at this version
abbrev pub lifts_block : List HintIn → Text → Text → Bool
lifts_block hints name v = list_any (λ h. unblocks name v h.hint) hints
