-- Which rows leave the facts, and which come, with one more message. That facts are kept as rows is this office's own.
use Rattle.std.specs.Prelude.{◌≡◌, ◌+◌, not, List, [], ◌∷◌, ◌++◌, map, filter, option_to_list}
use Rattle.std.specs.Ordering.{nat_cmp}
use Rattle.testing_rules_fact_order.specs.declared.entry.FactUpdate.{FactUpdate}
use Rattle.testing_rules_fact_order.specs.declared.entry.FactUpdate.TheVariants.{Upload, Dropped, Build, Bug, Hint, Unhint, Delays, Nothing}
use Rattle.testing_rules_items.specs.Words.{byte_cmp, lesser}
pub use Rattle.testing_rules_facts.specs.steps.ElementShifts.{way_given, come_in, put_over, Shift, no_shift, then_shift, shift_build, shift_builds, IsShift}
use Rattle.testing_rules_model.specs.FactLists.{FactLists}
use Rattle.testing_rules_model.specs.FactRows.{upload_row, times}
use Rattle.testing_rules_model.specs.steps.FactRows.{source_row, build_row, drop_row, bug_row, hint_row, unhint_row, delays_row}
use Rattle.testing_rules_model.specs.Unstable.{upload_order, pair_order, drop_order, drop_pair, bug_order, hint_order, unhint_order, delays_order}
use Rattle.testing_rules_model.specs.WithMessage.{outlives}
use Rattle.testing_rules_model.specs.steps.WithMessage.{stands_beside}
use Rattle.testing_rules_model.specs.declared.fact_row.FactRow.{FactRow}
use Rattle.testing_rules_fact_order.specs.Uploads.{message_order, first_stays}

-- the shift of one message
abbrev pub shift_of : FactUpdate → FactLists → Shift
shift_of (Upload u) f = record {
  left = map source_row (way_given (λ v. v.source) byte_cmp upload_order u f.sources);
  came = map source_row (come_in (λ v. v.source) byte_cmp upload_order u f.sources) ++ map upload_row (come_in (λ v. v) message_order first_stays u f.uploads);
}
shift_of (Dropped d) f = record {
  left = map build_row (filter (λ b. not (outlives d b)) f.rows) ++ map drop_row (way_given drop_pair pair_order drop_order d f.drops);
  came = map drop_row (come_in drop_pair pair_order drop_order d f.drops);
}
shift_of (Build bs) f = shift_builds (stands_beside f.drops) bs f.rows
shift_of (Bug b) f = record {
  left = map bug_row (way_given (λ c. c.bug) nat_cmp bug_order b f.bugs);
  came = map bug_row (come_in (λ c. c.bug) nat_cmp bug_order b f.bugs);
}
shift_of (Hint h) f = record { left = map hint_row (put_over (λ g. g) hint_order h f.hints); came = hint_row h ∷ [] }
shift_of (Unhint c) f = record { left = map unhint_row (put_over (λ g. g) unhint_order c f.unhints); came = unhint_row c ∷ [] }
shift_of (Delays d) f = record { left = map delays_row (option_to_list f.delays); came = map delays_row (option_to_list (lesser delays_order d f.delays)) }
shift_of Nothing f = no_shift

-- for each row, its count among the new rows plus the leaving ones is that among the old rows plus the coming ones
abbrev pub Shifts : List FactRow → List FactRow → Shift → Type 0
Shifts old new shift = (r : FactRow) → times r new + times r shift.left ≡ times r old + times r shift.came
