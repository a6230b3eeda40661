-- Facts restored row by row, each with the item of its message. This office decides to keep facts as rows.
use Rattle.std.specs.Prelude.{ℕ, ◌==◌, ◌&&◌, if◌then◌else◌, List, find, Option, Some, None}
use Rattle.testing_rules_items.specs.declared.item.Item.{Item}
use Rattle.testing_rules_model.specs.declared.facts.BuildIn.{BuildIn}
use Rattle.testing_rules_model.specs.declared.facts.DelaysIn.{DelaysIn}
use Rattle.testing_rules_model.specs.FactLists.{FactLists}
use Rattle.testing_rules_model.specs.Covered.{CoveredItem, upload_of, drop_of, bug_of, hint_of, unhint_of, delays_of, builds_of}
use Rattle.testing_rules_model.specs.WithMessage.{with_upload, with_build, with_greatest, with_bug, with_hint, with_unhint, with_delays}
use Rattle.testing_rules_model.specs.FactRows.{is_kind}
use Rattle.testing_rules_model.specs.declared.fact_row.FactKind.{FactKind}
use Rattle.testing_rules_model.specs.declared.fact_row.FactKind.TheVariants.{Source, Upload, Build, Drop, Bug, Hint, Unhint, Delays}
use Rattle.testing_rules_model.specs.declared.fact_row.FactRow.{FactRow}
use Rattle.testing_rules_fact_order.specs.Uploads.{with_kept}

-- a message with these parts
abbrev pub said : ℕ → ℕ → Item → CoveredItem
said sender number item = record { sender = sender; number = number; item = item }

-- a row with the item of its message
abbrev pub Given : Type 0
Given = FactRow × Item

-- its message
abbrev pub message_of : Given → CoveredItem
message_of x = said x.0.sender x.0.number x.1

-- the fact of a row without a place, if its message says something of that kind
abbrev pub given_of : {B : Type 0} → FactKind → (CoveredItem → Option B) → Given → Option B
given_of kind says x = if is_kind x.0.kind kind && (x.0.place == 0) then says (message_of x) else None

-- the fact of a build's row: the binary of its paragraph
abbrev pub build_given : Given → Option BuildIn
build_given x = if is_kind x.0.kind Build then find (λ b. b.place == x.0.place) (builds_of (message_of x)) else None

-- puts it in, if there is something
abbrev pub put_given : {A : Type 0} → (A → List A → List A) → Option A → List A → List A
put_given put None xs = xs
put_given put (Some x) xs = put x xs

-- the last delays, with the restored ones, if any
abbrev pub last_given : Option DelaysIn → Option DelaysIn → Option DelaysIn
last_given None last = last
last_given (Some d) last = with_delays d last

-- facts with one row restored
abbrev pub restored : Given → FactLists → FactLists
restored x f = record {
  sources = put_given with_upload (given_of Source upload_of x) f.sources;
  uploads = put_given with_kept (given_of Upload upload_of x) f.uploads;
  rows = put_given with_build (build_given x) f.rows;
  drops = put_given with_greatest (given_of Drop drop_of x) f.drops;
  bugs = put_given with_bug (given_of Bug bug_of x) f.bugs;
  hints = put_given with_hint (given_of Hint hint_of x) f.hints;
  unhints = put_given with_unhint (given_of Unhint unhint_of x) f.unhints;
  delays = last_given (given_of Delays delays_of x) f.delays;
  came = f.came;
  left = f.left;
}
