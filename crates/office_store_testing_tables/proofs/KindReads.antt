-- Kinds of facts, as a column keeps their numbers.
use Rattle.std.proofs.Common.{◌≡◌, ◌≢◌, ◌≤◌, ◌==◌, ℕ, pos, Bool, true, false, cond, not, Option, Some, None, refl, sym, ap, ◌∙◌, arith}
use Rattle.std.proofs.lemmas.Bool.{false≢true}
use Rattle.sqlite.specs.declared.types.Value.{Value}
use Rattle.sqlite.specs.declared.types.Value.TheVariants.{Int}
use Rattle.testing_rules_model.specs.declared.fact_row.FactKind.{FactKind}
use Rattle.testing_rules_model.specs.declared.fact_row.FactKind.TheVariants.{Source, Upload, Build, Drop, Bug, Hint, Unhint, Delays}
use Rattle.testing_rules_model.specs.declared.fact_row.FactRow.{FactRow}
use Rattle.testing_rules_model.specs.FactRows.{number_of, kind_of, is_kind}
use Rattle.testing_rules_model.proofs.FactKinds.{kind_again, kind_is, kind_itself}
use Rattle.office_store_testing_tables.specs.Tables.{small_in}
use Rattle.office_store_testing_tables.specs.steps.ReadingSteps.{small_of}
use Rattle.office_store_testing_tables.specs.FactTables.{kind_in}
use Rattle.office_store_testing_tables.specs.steps.ReadingSteps.{kind_by}
use Rattle.office_store_testing_tables.specs.steps.FactSteps.{is_no_delays}
use Rattle.office_store_testing_tables.proofs.EntrySays.{Fits32, small_is}
use Rattle.office_store_testing_tables.proofs.EntryReads.{small_value}
use Rattle.office_store_testing_tables.proofs.LoadFacts.{same_number}

few : (n : ℕ) → n ≤ 8 → Fits32 n
few n h = omega (arith, h)

-- the number of a kind is small
pub kind_small : (k : FactKind) → Fits32 (number_of k)
kind_small Source = few 1 (omega arith)
kind_small Upload = few 2 (omega arith)
kind_small Build = few 3 (omega arith)
kind_small Drop = few 4 (omega arith)
kind_small Bug = few 5 (omega arith)
kind_small Hint = few 6 (omega arith)
kind_small Unhint = few 7 (omega arith)
kind_small Delays = few 8 (omega arith)

-- a number that is a kind's is that kind's number
module _ (n : ℕ) (k : FactKind) where
  or_next : (b : Bool) (m : ℕ) (l : FactKind) (rest : Option FactKind) → (n == m) ≡ b → number_of l ≡ m → (rest ≡ Some k → n ≡ number_of k) → cond b (Some l) rest ≡ Some k → n ≡ number_of k
  or_next true m l rest e is next h = let same : l ≡ k = cc in same_number n m e ∙ sym is ∙ ap number_of same
  or_next false m l rest e is next h = next h

  pub number_again : kind_of n ≡ Some k → n ≡ number_of k
  number_again =
      or_next (n == 1) 1 Source _ refl refl (or_next (n == 2) 2 Upload _ refl refl (or_next (n == 3) 3 Build _ refl refl (or_next (n == 4) 4 Drop _ refl refl
      (or_next (n == 5) 5 Bug _ refl refl (or_next (n == 6) 6 Hint _ refl refl (or_next (n == 7) 7 Unhint _ refl refl (or_next (n == 8) 8 Delays _ refl refl
      (λ h. absurd (let e = h in cc)))))))))

-- the value of a kind's column
pub kind_value : (v : Value) (k : FactKind) → kind_in v ≡ Some k → v ≡ Int (pos (number_of k))
kind_value v k h = at (small_in v) refl h
  where
    at : (o : Option ℕ) → small_in v ≡ o → kind_by o ≡ Some k → v ≡ Int (pos (number_of k))
    at None e none = absurd (let x = none in cc)
    at (Some n) e some = (small_value v n e).0 ∙ ap (λ m. Int (pos m)) (number_again n k some)

pub kind_says : (k : FactKind) → kind_by (small_of (Some (number_of k))) ≡ Some k
kind_says k = ap kind_by (small_is (number_of k) (kind_small k)) ∙ kind_again k

-- a number that is no kind's isn't in the column of one
pub no_kind : (v : Value) (n : ℕ) (k : FactKind) → v ≡ Int (pos n) → kind_of n ≡ None → v ≢ Int (pos (number_of k))
no_kind v n k is none same =
    let e : Int (pos n) ≡ Int (pos (number_of k)) = sym is ∙ same in
    let at : n ≡ number_of k = cc in
    let some : Some k ≡ None = sym (kind_again k) ∙ ap kind_of (sym at) ∙ none in
    absurd (let x = some in cc)

-- kinds that a test tells apart
pub kinds_apart : (k l : FactKind) → is_kind k l ≡ false → k ≢ l
kinds_apart k l h same = false≢true (sym h ∙ ap (λ x. is_kind x l) same ∙ kind_itself l)

-- a fact is the last delays, or of another kind
pub of_others : (fact : FactRow) → is_no_delays fact ≡ true → fact.kind ≢ Delays
of_others fact h = kinds_apart fact.kind Delays (untrue (is_kind fact.kind Delays) h)
  where
    untrue : (b : Bool) → not b ≡ true → b ≡ false
    untrue true h = sym h
    untrue false h = refl

pub of_delays : (fact : FactRow) → is_no_delays fact ≡ false → fact.kind ≡ Delays
of_delays fact h = kind_is fact.kind Delays (unfalse (is_kind fact.kind Delays) h)
  where
    unfalse : (b : Bool) → not b ≡ false → b ≡ true
    unfalse true h = refl
    unfalse false h = sym h
