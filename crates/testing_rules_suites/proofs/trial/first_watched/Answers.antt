use Rattle.std.proofs.Common.{arith, ◌≡◌, ◌∙◌, sym, ap, ◌+◌, ◌<◌, Bool, true, false, cond, length, take, filter, map, Some, ◌≤◌}
use Rattle.std.proofs.lemmas.List.{take_all}
use Rattle.std.specs.List.{slice_get, filter_map}
use Rattle.std.specs.Option.{option_copied}
use Rattle.deb_control.specs.declared.binary.Binary.{Binary}
use Rattle.testing_rules_model.specs.declared.suite.RowIn.{RowIn}
use Rattle.testing_rules_model.specs.JudgedRows.{row_of}
use Rattle.testing_rules_model.specs.Moves.{is_watched_on}
use Rattle.testing_rules_suites.specs.steps.Trials.{names_at}
use Rattle.testing_rules_items.specs.Words.{Text, byte_cmp, least}
use Rattle.testing_rules_items.specs.steps.Words.{first_of_two}
use Rattle.testing_rules_suites.proofs.Failing.{one_more}
use Rattle.testing_rules_items.proofs.Grouping.{group-some}
use Rattle.testing_rules_model.proofs.Orders.{text_order}
use Rattle.testing_rules_suites.proofs.trial.first_watched.Goals as goal
use Rattle.testing_rules_suites.proofs.trial.first_watched.Goals.{then-is_watched_on, else-is_watched_on}

pub loop-place-preserved : goal.loop-place-preserved
loop-place-preserved c =
    let arch = c.args.arch in
    let pool = c.args.pool.now in
    let places = c.args.places.now in
    let i = c.loop-place.place-index in
    let below : i < length places = omega arith in
    let row = row_of c.row-row.result in
    let name : RowIn → Text = λ r. r.binary.name in
    let test : RowIn → Bool = is_watched_on arch in
    let rows = filter_map (slice_get pool) (take i places) in
    let best = least byte_cmp (map name (filter test rows)) in
    let more = ap (λ rs. least byte_cmp (map name (filter test rs))) (group-some (slice_get pool) places i 0 below row c.row-row.ensures) in
    let step : (b : Bool) → test row ≡ b → least byte_cmp (names_at arch pool (take (i + 1) places)) ≡ cond b (Some (first_of_two byte_cmp best (name row))) best =
    λ b e. more ∙ one_more text_order test name b rows row e in
    elim c.if-is_watched_on.branch [
      | then-is_watched_on w ↦
          ap option_copied w.first-is
          ∙ ap (λ n. Some n) (w.first_of_two.ensures ∙ ap (λ n. first_of_two byte_cmp (option_copied c.loop-place.first) n) (w.as_str.ensures ∙ ap (λ (q : Binary). q.name) w.deref.ensures)
          ∙ ap (λ m. first_of_two byte_cmp m (name row)) c.loop-place.invariant)
          ∙ sym (step true (sym c.is_watched_on.ensures ∙ w.if-is_watched_on.true))
      | else-is_watched_on w ↦ ap option_copied w.first-is ∙ c.loop-place.invariant ∙ sym (step false (sym c.is_watched_on.ensures ∙ w.if-is_watched_on.false))
    ]

pub returns : goal.returns
returns c =
    let over : length c.args.places.now ≤ c.loop-place.place-index = omega arith in
    rw (take_all c.loop-place.place-index c.args.places.now over) at c.loop-place.invariant
