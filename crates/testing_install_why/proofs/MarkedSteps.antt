-- The steps at the names of a clause's alternatives are marked where their rows meet it, and no other row meets it.
use Rattle.std.proofs.Common.{◌≡◌, ℕ, ◌<◌, ◌≤◌, Bool, true, List, [], length, get_or, Some, None, sym, ap, ◌∙◌, subst, arith}
use Rattle.std.specs.Prelude.{Contains}
use Rattle.std.specs.List.{slice_get}
use Rattle.std.proofs.lemmas.Option.{slice_get_within, slice_get-get_or, same_Some}
use Rattle.deb_control.specs.declared.binary.Binary.{Binary}
use Rattle.deb_control.specs.declared.relation.Alternative.{Alternative}
use Rattle.deb_control.specs.declared.relation.Clause.{Clause}
use Rattle.testing_install.specs.Index.{PlacesByName, provides_name, places_at}
use Rattle.testing_install.specs.Satisfies.{satisfies}
use Rattle.testing_install.proofs.Finding.{any_at, satisfies_provides}
use Rattle.testing_install_why.specs.declared.Step.{Step}
use Rattle.testing_install_why.specs.steps.Providers.{IsProvider}
use Rattle.testing_install_why.specs.steps.Needed.{IsMarkedFor, IsMarkedWhere, IsStepIndex}
use Rattle.testing_install_why.specs.steps.Steps.{IsClauseOf}

-- what is noted of the first n steps
pub record IsStepIndexTo (rows : List Binary) (order : List Step) (noted : PlacesByName) (n : ℕ) : Type 0 where
  pub complete : (name : List ℕ) (m : ℕ) (step : Step) (row : Binary) → m < n → slice_get order m ≡ Some step → slice_get rows step.place ≡ Some row → provides_name row name ≡ true
      → Contains (places_at noted name) m

pub noted_steps_all : (rows : List Binary) (order : List Step) (noted : PlacesByName) (n : ℕ) → IsStepIndexTo rows order noted n → length order ≤ n → IsStepIndex rows order noted
noted_steps_all rows order noted n to h = record {
  complete = λ name m step row at. to.complete name m step row (omega (arith, h, slice_get_within order m step at)) at;
}

-- the number is one of the first n
pub record IsAmongFirst (numbers : List ℕ) (n m : ℕ) : Type 0 where
  pub index : ℕ
  pub below : index < n
  pub is : get_or numbers index m ≡ m

-- the number stands at the name of one of the clause's first n alternatives
pub record IsNamedTo (noted : PlacesByName) (clause : Clause) (n m : ℕ) : Type 0 where
  pub index : ℕ
  pub alternative : Alternative
  pub below : index < n
  pub is : slice_get clause index ≡ Some alternative
  pub has : Contains (places_at noted alternative.name) m

-- a step whose row meets the clause stands at the name of an alternative
pub provider_is_named : (rows : List Binary) (order : List Step) (noted : PlacesByName) (number : ℕ) (clause : Clause) (n m : ℕ) → IsStepIndex rows order noted → length clause ≤ n
    → IsProvider rows order number clause m → IsNamedTo noted clause n m
provider_is_named rows order noted number clause n m index h b =
    let f = any_at (satisfies b.row) clause b.does in
    let d : Alternative = record { name = []; relation = None } in
    let a : Alternative = get_or clause f.0 d in
    record {
      index = f.0;
      alternative = a;
      below = omega (arith, f.1, h);
      is = slice_get-get_or clause f.0 d f.1;
      has = index.complete a.name m b.step b.row b.is b.stands (satisfies_provides b.row a (f.2 d));
    }

-- a step has one clause
pub same_clause : (rows : List Binary) (s t : Step) (c d : Clause) → s ≡ t → IsClauseOf rows s c → IsClauseOf rows t d → c ≡ d
same_clause rows s t c d e i j =
    let row : i.row ≡ j.row = same_Some i.row j.row (sym i.stands ∙ ap (λ (x : Step). slice_get rows x.place) e ∙ j.stands) in
    same_Some c d (sym i.needs ∙ ap (λ (r : Binary). slice_get r.clauses s.need) row ∙ ap (λ (x : Step). slice_get j.row.clauses x.need) e ∙ j.needs)

-- once all alternatives are seen, each provider is marked
pub marked_all : (rows : List Binary) (order : List Step) (noted : PlacesByName) (old new : List Bool) (number : ℕ) (clause : Clause) (n : ℕ) (step : Step) → IsStepIndex rows order noted
    → slice_get order number ≡ Some step → IsClauseOf rows step clause → length clause ≤ n → IsMarkedWhere rows order old new number clause (IsNamedTo noted clause n) → IsMarkedFor rows order old new number
marked_all rows order noted old new number clause n step index at of h p = record {
  long = p.long;
  grown = p.grown;
  above = p.above;
  done = λ s c m at_s of_s b.
      let one : c ≡ clause = same_clause rows s step c clause (same_Some s step (sym at_s ∙ at)) of_s of in
      let provider = subst (λ x. IsProvider rows order number x m) one b in
      p.done m (provider_is_named rows order noted number clause n m index h provider) provider;
}
