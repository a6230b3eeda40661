-- The rows that a run keeps of its facts.
use Rattle.std.proofs.Common.{◌≡◌, ℕ, ◌+◌, ◌<◌, Bool, true, false, cond, List, [], ◌∷◌, Option, Some, None, IsSome, sym, ap, subst, ◌∙◌, refl, arith}
use Rattle.std.specs.Prelude.{⊤, Contains, is_some, if◌then◌else◌, option_to_list}
use Rattle.std.specs.FinMap.{get}
use Rattle.std.proofs.lemmas.List.Sums.{sum_by-cons}
use Rattle.testing_rules_items.proofs.Members.{tail_of}
use Rattle.testing_rules_model.proofs.Sets.{at_front, mapped_from}
use Rattle.testing_rules_model.specs.declared.fact_row.FactKind.TheVariants.{Delays}
use Rattle.testing_rules_model.specs.declared.fact_row.FactRow.{FactRow}
use Rattle.testing_rules_model.specs.declared.fact_row.FactChanges.{FactChanges}
use Rattle.testing_rules_model.specs.declared.facts.DelaysIn.{DelaysIn}
use Rattle.testing_rules_model.specs.FactDifference.{IsChangedFrom, IsDifference}
use Rattle.testing_rules_model.specs.FactLists.{FactLists}
use Rattle.testing_rules_model.specs.FactRows.{is_row, rows_of, times}
use Rattle.testing_rules_model.specs.steps.FactRows.{delays_row}
use Rattle.testing_rules_model.specs.SameMessages.{HasOneOfEach}
use Rattle.testing_rules_model.specs.Tells.{Tells}
use Rattle.testing_rules_model.specs.Covered.{Covered}
use Rattle.testing_rules_facts.specs.Uploads.{AreByMessage}
use Rattle.testing_rules_laws.proofs.Logging.{changes_make}
use Rattle.testing_rules_laws.proofs.Naming.{of_delays}
use Rattle.testing_rules_laws.proofs.Once.{rows_once, told_rows_are_fact_rows}
use Rattle.office_mail_setup.specs.declared.setup.Role.TheVariants.{Release}
use Rattle.office_mail.specs.Kept.{Kept}
use Rattle.office_mail.specs.Lists.{Lists}
use Rattle.office_mail.specs.Setup.{count_of, place_of_role}
use Rattle.office_store_keeper.specs.FactSet.{FactSet, HasRow, count_in, facts_after, AreHoldable}
use Rattle.office_store_keeper.specs.Provenance.{AreOwnTexts}
use Rattle.office_store_keeper.proofs.FactSets.{count-after, row_same}
use Rattle.office_core_facts.specs.Known.{said_all}
use Rattle.office_core_facts.proofs.SaidFacts.{told_by_release}
use Rattle.office_core_facts.proofs.WalkFacts.{in_option}

first_counted : (b : Bool) (r x : FactRow) (xs : List FactRow) → is_row r x ≡ b → 0 < cond b 1 0 + times r xs → (0 < times r xs → Contains xs r) → Contains (x ∷ xs) r
first_counted true r x xs e h rest = at_front x r xs (row_same r x e)
first_counted false r x xs e h rest = tail_of x xs r (rest (omega (arith, h)))

-- a row that is counted is there
some_counted : (r : FactRow) (xs : List FactRow) → 0 < times r xs → Contains xs r
some_counted r [] h = absurd (omega (arith, h))
some_counted r (x ∷ xs) h = first_counted (is_row r x) r x xs refl (subst (λ n. 0 < n) (sum_by-cons (λ (y : FactRow). cond (is_row r y) 1 0) x xs) h) (some_counted r xs)

abbrev row_count : Option ⊤ → ℕ
row_count o = if is_some o then 1 else 0

counted_once : (o : Option ⊤) → IsSome o → row_count o ≡ 1
counted_once None h = absurd (cc h)
counted_once (Some x) h = refl

-- Facts that messages say, on the way from the rows of a set, and the changes of these rows.
module _ (setup : Lists) (facts : FactSet) (s : Covered) (f : FactLists) (changes : FactChanges) (one : HasOneOfEach s) (tells : Tells f s) (by : AreByMessage f.uploads)
    (changed : IsChangedFrom (count_in facts) f) (difference : IsDifference f.came f.left changes.put changes.gone) where
  -- the set after the changes has the rows of the facts
  pub count_is : (r : FactRow) → count_in (facts_after changes facts) r ≡ times r (rows_of f)
  count_is r =
      let made = changes_make (count_in facts) f changes.put changes.gone changed difference in
      count-after changes facts (rows_of f) r (rows_once f s one tells by r) (made.balance r) (difference.apart r)

  stands : (r : FactRow) → HasRow (facts_after changes facts) r → Contains (rows_of f) r
  stands r h =
      let is : count_in (facts_after changes facts) r ≡ 1 = counted_once (get (facts_after changes facts) r) h in
      let n : times r (rows_of f) ≡ 1 = sym (count_is r) ∙ is in
      some_counted r (rows_of f) (omega (arith, n))

  -- and a store has a place for them, where the release team tells the delays
  pub holdable : ((r : FactRow) → Contains (rows_of f) r → r.kind ≡ Delays → r.sender ≡ place_of_role Release setup.senders) → AreHoldable setup (facts_after changes facts)
  holdable told =
      let rows = told_rows_are_fact_rows f s tells in
      record {
        each = λ r h. rows.each r (stands r h);
        release = λ r h kind. told r (stands r h) kind;
        one = λ r q hr hq kr kq. rows.one r q (stands r hr) (stands q hq) kr kq;
      }

-- so it is where each text is kept under its own place
pub release_by_mail : (setup : Lists) (kept : Kept) (f : FactLists) → count_of Release setup.senders ≡ 1 → AreOwnTexts setup kept → Tells f (said_all setup kept) → (r : FactRow) → Contains (rows_of f) r → r.kind ≡ Delays → r.sender ≡ place_of_role Release setup.senders
release_by_mail setup kept f one own tells r c kind =
    let named = (told_rows_are_fact_rows f (said_all setup kept) tells).named r c in
    sym named.sender ∙ told_by_release setup kept named.message one own named.among (named.delays kind)

-- and where the delays are tested
pub release_by_test : (f : FactLists) (place : ℕ) → ((d : DelaysIn) → f.delays ≡ Some d → d.sender ≡ place) → (r : FactRow) → Contains (rows_of f) r → r.kind ≡ Delays → r.sender ≡ place
release_by_test f place tested r c kind =
    let d = mapped_from delays_row (option_to_list f.delays) r (of_delays f r c kind) in
    sym (ap (λ (x : FactRow). x.sender) d.2) ∙ tested d.0 (in_option f.delays d.0 d.1)
