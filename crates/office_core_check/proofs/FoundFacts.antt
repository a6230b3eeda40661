-- What a comparison of a store with an office made anew says of the store.
use Rattle.std.proofs.Common.{◌≡◌, ℕ, ◌≤◌, Bool, true, false, cond, length, Option, Some, None, sym, ap, subst, ◌∙◌, refl, arith}
use Rattle.std.specs.Prelude.{IfSome, option_map, is_some}
use Rattle.std.specs.FinMap.{get, len}
use Rattle.testing_rules_model.specs.declared.fact_row.FactRow.{FactRow}
use Rattle.testing_rules_model.specs.FactRows.{rows_of, times}
use Rattle.testing_rules_model.specs.KeptFacts.{KeptFacts}
use Rattle.testing_rules_model.specs.Suite.{Suite}
use Rattle.office_mail.specs.Kept.{Kept}
use Rattle.office_mail.specs.Lists.{Lists}
use Rattle.office_mail.specs.Runs.{IsReady}
use Rattle.office_store_keeper.specs.Content.{Content}
use Rattle.office_store_keeper.specs.FactSet.{count_in, rows_in}
use Rattle.office_store_keeper.proofs.FactSets.{same_counts}
use Rattle.office_store_keeper.specs.declared.values.Reports.{Reports}
use Rattle.office_core_facts.specs.Outcome.{covered_items, reports_of, testing_after}
use Rattle.office_core_facts.specs.State.{IsOffice, KeepsFacts}
use Rattle.office_core_orders.proofs.ReadyCount.{IsReady-down}
use Rattle.office_core_facts.proofs.ReportFacts.{report_is}
use Rattle.office_core_check.specs.steps.Comparing.{IsCompared, IsMade, IsReadAs, IsShort, IsUnlike, IsUnmade}
use Rattle.office_core_check.specs.steps.Reading.{IsFront}
use Rattle.office_core_check.specs.Whole.{AreOfSenders, IsDifference, IsFound, excuses_at, update_at}
use Rattle.office_core_check.specs.declared.Checked.{Checked}
use Rattle.office_core_check.specs.declared.Checked.TheVariants.{Whole, Differs, Unread}
use Rattle.office_core_check.specs.declared.Difference.{Difference}
use Rattle.office_core_check.specs.declared.Difference.TheVariants.{Mail, RunMail, Excuses, Update, Testing, Facts, Tables}
use Rattle.office_core_check.proofs.ComparedFacts.{kept_rows, same_from_one, same_sets}
use Rattle.office_core_check.proofs.FrontFacts.{front_all, front_senders}

-- an office's mail is of senders of the setup
pub office_senders : (setup : Lists) (content : Content) → IsOffice setup content → AreOfSenders setup content.kept
office_senders setup content office = λ p some. (office.places p some).sender

counted_low : (b : Bool) → cond b 1 0 ≤ 1
counted_low true = omega arith
counted_low false = omega arith

count_low : (content : Content) (n : ℕ) (r : FactRow) → n ≡ count_in content.facts r → n ≤ 1
count_low content n r e = subst (λ m. m ≤ 1) (sym e) (counted_low (is_some (get content.facts r)))

facts_are : (setup : Lists) (a b : Content) (f : KeepsFacts setup a) (g : KeepsFacts setup b) → KeptFacts g.facts (covered_items setup a.kept (length a.reports)) a.testing → a.facts ≡ b.facts
facts_are setup a b f g same = same_counts a.facts b.facts (λ r.
    sym (f.rows r)
    ∙ kept_rows f.facts g.facts (covered_items setup a.kept (length a.reports)) a.testing f.kept same r (count_low a (times r (rows_of f.facts)) r (f.rows r)) (count_low b (times r (rows_of g.facts)) r (g.rows r))
    ∙ g.rows r)

-- the facts of the same mail, runs and testing are kept as the same rows
same_facts : (setup : Lists) (a b : Content) → b.kept ≡ a.kept → length b.reports ≡ length a.reports → b.testing ≡ a.testing → KeepsFacts setup a → KeepsFacts setup b → a.facts ≡ b.facts
same_facts setup a b kept size testing f g =
    facts_are setup a b f g
    (subst (λ (t : Suite). KeptFacts g.facts (covered_items setup a.kept (length a.reports)) t) testing
    (subst (λ (n : ℕ). KeptFacts g.facts (covered_items setup a.kept n) b.testing) size
    (subst (λ (k : Kept). KeptFacts g.facts (covered_items setup k (length b.reports)) b.testing) kept g.kept)))

same_content : (a b : Content) → a.kept ≡ b.kept → a.reports ≡ b.reports → a.testing ≡ b.testing → a.facts ≡ b.facts → a ≡ b
same_content a b kept reports testing facts =
    ap (λ k. record { kept = k; reports = a.reports; testing = a.testing; facts = a.facts }) kept
    ∙ ap (λ r. record { kept = b.kept; reports = r; testing = a.testing; facts = a.facts }) reports
    ∙ ap (λ t. record { kept = b.kept; reports = b.reports; testing = t; facts = a.facts }) testing
    ∙ ap (λ f. record { kept = b.kept; reports = b.reports; testing = b.testing; facts = f }) facts

-- what an office holds of a run
excuses_are : (setup : Lists) (a : Content) (kept : Kept) (run : ℕ) → IsOffice setup a → a.kept ≡ kept → 1 ≤ run → run ≤ length a.reports → excuses_at run a.reports ≡ Some (reports_of setup kept run).excuses
excuses_are setup a kept run office same first last =
    ap (option_map (λ (r : Reports). r.excuses)) (report_is setup a run office first last) ∙ ap (λ (k : Kept). Some (reports_of setup k run).excuses) same

update_is : (setup : Lists) (a : Content) (kept : Kept) (run : ℕ) → IsOffice setup a → a.kept ≡ kept → 1 ≤ run → run ≤ length a.reports → update_at run a.reports ≡ Some (reports_of setup kept run).updates
update_is setup a kept run office same first last =
    ap (option_map (λ (r : Reports). r.updates)) (report_is setup a run office first last) ∙ ap (λ (k : Kept). Some (reports_of setup k run).updates) same

module _ (legible : Type 0) where
  -- beside an office of the same mail and as many runs, what is unlike is a difference
  unlike_differs : (setup : Lists) (c a : Content) (runs : ℕ) (d : Difference) → IsOffice setup a → a.kept ≡ c.kept → length a.reports ≡ runs → length c.reports ≡ runs → IsUnlike c a runs d → IsDifference setup c legible d
  unlike_differs setup c a runs (Mail sender number) office kept one other h = absurd h
  unlike_differs setup c a runs (RunMail run) office kept one other h = absurd h
  unlike_differs setup c a runs (Excuses run) office kept one other h =
      let last = h.1 in
      ((h.0, omega (arith, last, other)), λ e. h.2 (e ∙ sym (excuses_are setup a c.kept run office kept h.0 (omega (arith, last, one)))))
  unlike_differs setup c a runs (Update run) office kept one other h =
      let last = h.1 in
      ((h.0, omega (arith, last, other)), λ e. h.2 (e ∙ sym (update_is setup a c.kept run office kept h.0 (omega (arith, last, one)))))
  unlike_differs setup c a runs Testing office kept one other h = λ e.
      h (e ∙ sym (office.testing_is ∙ ap (λ (k : Kept). testing_after setup k (length a.reports)) kept ∙ ap (testing_after setup c.kept) (one ∙ sym other)))
  unlike_differs setup c a runs Facts office kept one other h = λ keeps.
      h.1 (sym (ap rows_in (same_facts setup a c (sym kept) (other ∙ sym one) h.0 office.facts keeps)))
  unlike_differs setup c a runs Tables office kept one other h = absurd h

  -- what is found where an office made anew is unlike
  pub compared_differs : (setup : Lists) (c a : Content) (runs : ℕ) (d : Difference) → IsOffice setup a → length a.reports ≡ runs → length c.reports ≡ runs → IsFront c.kept (length setup.senders) 0 a.kept
      → IsUnlike c a runs d → AreOfSenders setup c.kept → IsDifference setup c legible d
  compared_differs setup c a runs d office one other front unlike are = unlike_differs setup c a runs d office (front_all setup c.kept a.kept front are) one other unlike

  compared_whole : (setup : Lists) (c a : Content) (runs : ℕ) → IsOffice setup a → length a.reports ≡ runs → length c.reports ≡ runs → IsFront c.kept (length setup.senders) 0 a.kept
      → IsCompared c a runs None → AreOfSenders setup c.kept → IsOffice setup c
  compared_whole setup c a runs office one other front same are =
      let kept : a.kept ≡ c.kept = front_all setup c.kept a.kept front are in
      let reports : c.reports ≡ a.reports = same_from_one c.reports a.reports runs other one same.0 in
      let content : a ≡ c = same_content a c kept (sym reports) (sym same.1) (same_sets a.facts c.facts (sym same.2)) in
      subst (IsOffice setup) content office

  -- what is found of the tables where an office made anew is like the store
  pub tables_found : (setup : Lists) (c a : Content) (runs : ℕ) (found : Checked) → IsOffice setup a → length a.reports ≡ runs → length c.reports ≡ runs → IsFront c.kept (length setup.senders) 0 a.kept
      → IsCompared c a runs None → IsReadAs (legible × (len c.kept ≡ len a.kept)) runs found → IsFound setup c legible legible found
  tables_found setup c a runs (Whole k) office one other front same it =
      (it.0 ∙ sym other, it.1.0, compared_whole setup c a runs office one other front same (front_senders setup c.kept a.kept front it.1.1))
  tables_found setup c a runs (Differs Tables) office one other front same it = λ are so. it (so, ap len (sym (front_all setup c.kept a.kept front are)))
  tables_found setup c a runs (Differs (Mail sender number)) office one other front same it = absurd it
  tables_found setup c a runs (Differs (RunMail run)) office one other front same it = absurd it
  tables_found setup c a runs (Differs (Excuses run)) office one other front same it = absurd it
  tables_found setup c a runs (Differs (Update run)) office one other front same it = absurd it
  tables_found setup c a runs (Differs Testing) office one other front same it = absurd it
  tables_found setup c a runs (Differs Facts) office one other front same it = absurd it
  tables_found setup c a runs (Unread part) office one other front same it = absurd it

none_of : {A : Type 0} (o : Option A) → is_some o ≡ false → o ≡ None
none_of None e = refl
none_of (Some x) e = absurd (cc (e))

-- that there is no difference
pub is_none : {A : Type 0} (o : Option A) (b : Bool) → b ≡ is_some o → b ≡ false → o ≡ None
is_none o b is e = none_of o (sym is ∙ e)

-- an office made anew that took all mail, or that one of so many runs isn't ready
pub made_by : (setup : Lists) (kept front : Kept) (runs : ℕ) (d : Option Difference) → IsFront kept (length setup.senders) 0 front → IfSome d (IsShort setup front runs) → IsMade setup kept runs front d
made_by setup kept front runs None all short = all
made_by setup kept front runs (Some (RunMail run)) all short = (short.0, short.1, (front, all, short.2))
made_by setup kept front runs (Some (Mail sender number)) all short = absurd short
made_by setup kept front runs (Some (Excuses run)) all short = absurd short
made_by setup kept front runs (Some (Update run)) all short = absurd short
made_by setup kept front runs (Some Testing) all short = absurd short
made_by setup kept front runs (Some Facts) all short = absurd short
made_by setup kept front runs (Some Tables) all short = absurd short

module _ (legible : Type 0) where
  -- what is found where there is no office made anew
  pub unmade_differs : (setup : Lists) (c : Content) (runs : ℕ) (d : Difference) → runs ≤ length c.reports → IsUnmade setup c.kept runs d → AreOfSenders setup c.kept → IsDifference setup c legible d
  unmade_differs setup c runs (Mail sender number) size h are = h
  unmade_differs setup c runs (RunMail run) size h are =
      let last = h.1 in
      let kept : h.2.0 ≡ c.kept = front_all setup c.kept h.2.0 h.2.1 are in
      ((h.0, omega (arith, last, size)), λ ready. h.2.2 (subst (λ (k : Kept). IsReady setup k run) (sym kept) ready))
  unmade_differs setup c runs (Excuses run) size h are = absurd h
  unmade_differs setup c runs (Update run) size h are = absurd h
  unmade_differs setup c runs Testing size h are = absurd h
  unmade_differs setup c runs Facts size h are = absurd h
  unmade_differs setup c runs Tables size h are = absurd h

  -- what an office leaves that reads as it writes it differs nowhere
  pub no_difference : (setup : Lists) (c : Content) (d : Difference) → legible → IsOffice setup c → IsDifference setup c legible d → ⊥
  no_difference setup c (Mail sender number) so office h = h.2 (office.texts (sender, number) h.0 h.1)
  no_difference setup c (RunMail run) so office h = h.1 (IsReady-down setup c.kept (length c.reports) run h.0.1 office.ready)
  no_difference setup c (Excuses run) so office h = h.1 (excuses_are setup c c.kept run office refl h.0.0 h.0.1)
  no_difference setup c (Update run) so office h = h.1 (update_is setup c c.kept run office refl h.0.0 h.0.1)
  no_difference setup c Testing so office h = h office.testing_is
  no_difference setup c Facts so office h = h office.facts
  no_difference setup c Tables so office h = h so

  -- so it is found whole
  pub office_whole : (setup : Lists) (c : Content) (found : Checked) → legible → IsOffice setup c → IsFound setup c legible legible found → found ≡ Whole (length c.reports)
  office_whole setup c (Whole runs) so office h = ap Whole h.0
  office_whole setup c (Differs d) so office h = absurd (no_difference setup c d so office (h (office_senders setup c office)))
  office_whole setup c (Unread part) so office h = absurd (h so office)
