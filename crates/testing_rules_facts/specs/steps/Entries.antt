-- What one message gives to the facts.
use Rattle.std.specs.Prelude.{◌++◌}
use Rattle.testing_rules_facts.specs.steps.Shifts.{Shift, shift_of}
use Rattle.testing_rules_fact_order.specs.Uploads.{with_kept}
use Rattle.testing_rules_fact_order.specs.declared.entry.FactUpdate.{FactUpdate}
use Rattle.testing_rules_fact_order.specs.declared.entry.FactUpdate.TheVariants.{Upload, Dropped, Build, Bug, Hint, Unhint, Delays, Nothing}
pub use Rattle.testing_rules_fact_order.specs.steps.Entries.{entry_of}
use Rattle.testing_rules_model.specs.FactLists.{FactLists}
use Rattle.testing_rules_model.specs.WithMessage.{with_upload, with_builds, with_drop, with_greatest, with_bug, with_hint, with_unhint, with_delays}
use Rattle.testing_rules_model.specs.steps.WithMessage.{stands_beside}

-- the lists with one more message
abbrev pub lists_with : FactUpdate → FactLists → FactLists
lists_with (Upload u) f = record f { sources = with_upload u f.sources; uploads = with_kept u f.uploads }
lists_with (Dropped d) f = record f { rows = with_drop d f.rows; drops = with_greatest d f.drops }
lists_with (Build bs) f = record f { rows = with_builds (stands_beside f.drops) bs f.rows }
lists_with (Bug b) f = record f { bugs = with_bug b f.bugs }
lists_with (Hint h) f = record f { hints = with_hint h f.hints }
lists_with (Unhint c) f = record f { unhints = with_unhint c f.unhints }
lists_with (Delays d) f = record f { delays = with_delays d f.delays }
lists_with Nothing f = f

-- notes the rows that come and leave
abbrev pub noted : Shift → FactLists → FactLists
noted shift f = record f { came = f.came ++ shift.came; left = f.left ++ shift.left }

-- facts with one more message
abbrev pub with_entry : FactUpdate → FactLists → FactLists
with_entry e f = noted (shift_of e f) (lists_with e f)
