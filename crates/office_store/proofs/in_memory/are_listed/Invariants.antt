use Rattle.std.proofs.Common.{◌≡◌, drop}
use Rattle.std.specs.List.{list_all}
use Rattle.testing_rules_model.specs.declared.suite.RowIn.{RowIn}
use Rattle.office_store_tables.specs.TableContent.{is_arch_place}
use Rattle.office_store.proofs.in_memory.are_listed.Given as goal

-- the rest decides
abbrev pub invariant-loop-row : goal.invariant-loop-row
invariant-loop-row l = list_all (λ (row : RowIn). is_arch_place l.archs row.arch) (drop l.row-index l.rows) ≡ list_all (λ (row : RowIn). is_arch_place l.archs row.arch) l.rows
