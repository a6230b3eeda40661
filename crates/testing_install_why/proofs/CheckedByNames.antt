-- A clause that a row meets has a name which the row provides, so the steps at those names are all that the row is held against.
use Rattle.std.proofs.Common.{◌≡◌, ℕ, ◌+◌, ◌<◌, ◌≤◌, true, List, [], length, get_or, Some, None, sym, refl, ap, ◌∙◌, subst, inl, inr, arith}
use Rattle.std.specs.Prelude.{Contains}
use Rattle.std.specs.List.{All, list_any, slice_get}
use Rattle.std.specs.Str.{bytes_eq}
use Rattle.std.proofs.lemmas.Bool.{cases_lt, or_cases}
use Rattle.std.proofs.lemmas.List.Elements.{All-contains}
use Rattle.std.proofs.lemmas.Option.{slice_get_within, same_Some}
use Rattle.std.proofs.lemmas.Slice.Eq.{bytes_eq-Decides}
use Rattle.deb_control.specs.declared.binary.Binary.{Binary}
use Rattle.deb_control.specs.declared.relation.Alternative.{Alternative}
use Rattle.deb_control.specs.declared.relation.Clause.{Clause}
use Rattle.deb_control.specs.declared.relation.Provision.{Provision}
use Rattle.testing_install.specs.Index.{PlacesByName, places_at}
use Rattle.testing_install.specs.Dependents.{IsNotedAt, names}
use Rattle.testing_install.specs.Satisfies.{satisfies}
use Rattle.testing_install.proofs.Finding.{any_at, any_true, satisfies_provides}
use Rattle.testing_install_why.specs.declared.Step.{Step}
use Rattle.testing_install_why.specs.steps.Checking.{ArePast, IsClauseIndex, IsPast}
use Rattle.testing_install_why.specs.steps.Steps.{IsClauseOf}
use Rattle.testing_install_why.proofs.MarkedSteps.{same_clause}

-- what is noted of the first n steps
pub record IsClauseIndexTo (rows : List Binary) (steps : List Step) (noted : PlacesByName) (n : ℕ) : Type 0 where
  pub complete : (name : List ℕ) (m : ℕ) (step : Step) (clause : Clause) → m < n → slice_get steps m ≡ Some step → IsClauseOf rows step clause → names clause name ≡ true
      → Contains (places_at noted name) m

-- with a step more
pub noted_step : (rows : List Binary) (steps : List Step) (old new : PlacesByName) (n : ℕ) (s : Step) (c : Clause) → slice_get steps n ≡ Some s → IsClauseOf rows s c
    → IsClauseIndexTo rows steps old n → IsNotedAt (names c) old new n → IsClauseIndexTo rows steps new (n + 1)
noted_step rows steps old new n s c at of to one = record {
  complete = λ name m step clause h at_m of_m e. elim (cases_lt m n) [
    | inl less ↦ one.stays name m (to.complete name m step clause less at_m of_m e)
    | inr not ↦ (
        let same : m ≡ n = omega (arith, h, not) in
        let alike : step ≡ s = same_Some step s (sym at_m ∙ ap (slice_get steps) same ∙ at) in
        let clauses_alike : clause ≡ c = same_clause rows step s clause c alike of_m of in
        subst (Contains (places_at new name)) (sym same) (one.noted name (ap (λ (x : Clause). names x name) (sym clauses_alike) ∙ e)))
  ];
}

pub noted_all : (rows : List Binary) (steps : List Step) (noted : PlacesByName) (n : ℕ) → IsClauseIndexTo rows steps noted n → length steps ≤ n → IsClauseIndex rows steps noted
noted_all rows steps noted n to h = record {
  complete = λ name m step clause at. to.complete name m step clause (omega (arith, h, slice_get_within steps m step at)) at;
}

-- so it is with each step, where it is so with those at the names that the row provides
pub past_by_names : (rows : List Binary) (steps : List Step) (noted : PlacesByName) (row : Binary) (place : ℕ) → IsClauseIndex rows steps noted
    → All (IsPast rows steps row place) (places_at noted row.name) → All (λ (p : Provision). All (IsPast rows steps row place) (places_at noted p.name)) row.provides
    → ArePast rows steps row place (length steps)
past_by_names rows steps noted row place index own provided = record {
  each = λ m h. record {
    each = λ step clause at of does.
        let f = any_at (satisfies row) clause does in
        let d : Alternative = record { name = []; relation = None } in
        let a : Alternative = get_or clause f.0 d in
        let named : names clause a.name ≡ true = any_true (λ (b : Alternative). bytes_eq b.name a.name) clause f.0 d f.1 ((bytes_eq-Decides a.name a.name).1 refl) in
        let has : Contains (places_at noted a.name) m = index.complete a.name m step clause at of named in
        let past : IsPast rows steps row place m = elim (or_cases (bytes_eq row.name a.name) (list_any (λ (p : Provision). bytes_eq p.name a.name) row.provides) (satisfies_provides row a (f.2 d))) [
          | inl itself ↦ All-contains (IsPast rows steps row place) (places_at noted row.name) m own
              (subst (λ name. Contains (places_at noted name) m) (sym ((bytes_eq-Decides row.name a.name).0 itself)) has)
          | inr given ↦ (
              let g = any_at (λ (p : Provision). bytes_eq p.name a.name) row.provides given in
              let e : Provision = record { name = []; version = None } in
              let p : Provision = get_or row.provides g.0 e in
              All-contains (IsPast rows steps row place) (places_at noted p.name) m (provided g.0 e g.1)
              (subst (λ name. Contains (places_at noted name) m) (sym ((bytes_eq-Decides p.name a.name).0 (g.2 e))) has))
        ] in
        past.each step clause at of does;
  };
}
