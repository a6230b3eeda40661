-- The first step whose row meets a clause, found by the names that stand in it.
use Rattle.std.proofs.Common.{◌≡◌, ℕ, ◌+◌, ◌<◌, ◌≤◌, List, length, get_or, Some, ◌⊎◌, refl, sym, ap, ◌∙◌, subst, inl, inr, arith}
use Rattle.std.specs.Prelude.{Contains}
use Rattle.std.specs.List.{slice_get}
use Rattle.std.proofs.lemmas.Bool.{cases_lt}
use Rattle.std.proofs.lemmas.List.{get_or_default}
use Rattle.std.proofs.lemmas.Option.{same_Some, slice_get_read}
use Rattle.deb_control.specs.declared.binary.Binary.{Binary}
use Rattle.deb_control.specs.declared.relation.Alternative.{Alternative}
use Rattle.deb_control.specs.declared.relation.Clause.{Clause}
use Rattle.testing_install.specs.Index.{PlacesByName, places_at}
use Rattle.testing_install_why.specs.declared.Step.{Step}
use Rattle.testing_install_why.specs.steps.Providers.{IsProvider, IsLast, IsLeast, IsNext}
use Rattle.testing_install_why.specs.steps.Needed.{IsStepIndex}
use Rattle.testing_install_why.specs.steps.Steps.{IsClauseOf}
use Rattle.testing_install_why.proofs.MarkedSteps.{IsAmongFirst, IsNamedTo, provider_is_named}

-- a step below one number stands below another, if its own is less than that
pub provider_below : (rows : List Binary) (order : List Step) (m n : ℕ) (clause : Clause) (k : ℕ) → k < n → IsProvider rows order m clause k → IsProvider rows order n clause k
provider_below rows order m n clause k h b = record { step = b.step; row = b.row; earlier = h; is = b.is; stands = b.stands; does = b.does }

-- the first n of some numbers

pub least_none : (rows : List Binary) (order : List Step) (end : ℕ) (clause : Clause) (numbers : List ℕ) → IsLeast rows order end clause end (IsAmongFirst numbers 0)
least_none rows order end clause numbers = record {
  most = omega arith;
  found = λ h. absurd (omega (arith, h));
  below = λ m first. absurd (omega (arith, first.below));
}

-- one of the first n + 1 is one of the first n, or the last of them
first_or_last : (numbers : List ℕ) (n number m : ℕ) → n < length numbers → number ≡ get_or numbers n number → IsAmongFirst numbers (n + 1) m → IsAmongFirst numbers n m ⊎ (m ≡ number)
first_or_last numbers n number m h at first = elim (cases_lt first.index n) [
  | inl less ↦ inl (record { index = first.index; below = less; is = first.is })
  | inr not ↦ (
      let same : first.index ≡ n = omega (arith, first.below, not) in
      inr (sym first.is ∙ ap (λ i. get_or numbers i m) same ∙ get_or_default numbers n m number h ∙ sym at))
]

pub least_less : (rows : List Binary) (order : List Step) (end : ℕ) (clause : Clause) (numbers : List ℕ) (least n number : ℕ) → IsLeast rows order end clause least (IsAmongFirst numbers n) → n < length numbers → number ≡ get_or numbers n number
    → IsProvider rows order least clause number → IsLeast rows order end clause number (IsAmongFirst numbers (n + 1))
least_less rows order end clause numbers least n number l h at b = record {
  most = omega (arith, l.most, b.earlier);
  found = λ less. provider_below rows order least end clause number less b;
  below = λ m first other. elim (first_or_last numbers n number m h at first) [
    | inl before ↦ l.below m before (provider_below rows order number least clause m (omega (arith, other.earlier, b.earlier)) other)
    | inr same ↦ absurd (omega (arith, same, other.earlier))
  ];
}

pub least_stays : (rows : List Binary) (order : List Step) (end : ℕ) (clause : Clause) (numbers : List ℕ) (least n number : ℕ) → IsLeast rows order end clause least (IsAmongFirst numbers n) → n < length numbers → number ≡ get_or numbers n number
    → (IsProvider rows order least clause number → ⊥) → IsLeast rows order end clause least (IsAmongFirst numbers (n + 1))
least_stays rows order end clause numbers least n number l h at misses = record {
  most = l.most;
  found = l.found;
  below = λ m first other. elim (first_or_last numbers n number m h at first) [
    | inl before ↦ l.below m before other
    | inr same ↦ misses (subst (IsProvider rows order least clause) same other)
  ];
}

pub least_all : (rows : List Binary) (order : List Step) (end : ℕ) (clause : Clause) (numbers : List ℕ) (least n : ℕ) → IsLeast rows order end clause least (IsAmongFirst numbers n) → length numbers ≤ n → IsLeast rows order end clause least (λ m. Contains numbers m)
least_all rows order end clause numbers least n l h = record {
  most = l.most;
  found = l.found;
  below = λ m c. l.below m (record { index = c.0; below = omega (arith, c.1, h); is = c.2 });
}

-- the numbers at the names of the first n alternatives

pub names_none : (rows : List Binary) (order : List Step) (noted : PlacesByName) (end : ℕ) (clause : Clause) → IsLeast rows order end clause end (IsNamedTo noted clause 0)
names_none rows order noted end clause = record {
  most = omega arith;
  found = λ h. absurd (omega (arith, h));
  below = λ m named. absurd (omega (arith, named.below));
}

pub names_more : (rows : List Binary) (order : List Step) (noted : PlacesByName) (end : ℕ) (clause : Clause) (items : Clause) (least next n : ℕ) (a : Alternative) (name numbers : List ℕ) → IsLeast rows order end clause least (IsNamedTo noted clause n)
    → items ≡ clause → n < length items → a ≡ get_or items n a → name ≡ a.name → numbers ≡ places_at noted name → IsLeast rows order least clause next (λ m. Contains numbers m) → IsLeast rows order end clause next (IsNamedTo noted clause (n + 1))
names_more rows order noted end clause items least next n a name numbers l read h is named are new = record {
  most = omega (arith, l.most, new.most);
  found = λ low. elim (cases_lt next least) [
    | inl less ↦ provider_below rows order least end clause next low (new.found less)
    | inr not ↦ (let same : least ≡ next = omega (arith, not, new.most) in subst (IsProvider rows order end clause) same (l.found (omega (arith, low, same))))
  ];
  below = λ m has_name other. elim (cases_lt has_name.index n) [
    | inl less ↦ l.below m (record { index = has_name.index; alternative = has_name.alternative; below = less; is = has_name.is; has = has_name.has }) (provider_below rows order next least clause m (omega (arith, other.earlier, new.most)) other)
    | inr not ↦ (
        let at : slice_get clause n ≡ Some a = subst (λ xs. slice_get xs n ≡ Some a) read (slice_get_read items (length items) n a refl h is) in
        let same : has_name.index ≡ n = omega (arith, has_name.below, not) in
        let alike : has_name.alternative ≡ a = same_Some has_name.alternative a (sym has_name.is ∙ ap (slice_get clause) same ∙ at) in
        new.below m (subst (λ xs. Contains xs m) (ap (λ (x : Alternative). places_at noted x.name) alike ∙ ap (places_at noted) (sym named) ∙ sym are) has_name.has) other)
  ];
}

pub names_all : (rows : List Binary) (order : List Step) (noted : PlacesByName) (end : ℕ) (clause : Clause) (least n : ℕ) → IsStepIndex rows order noted → IsLeast rows order end clause least (IsNamedTo noted clause n) → length clause ≤ n
    → IsLeast rows order end clause least (λ m. IsProvider rows order end clause m)
names_all rows order noted end clause least n index l h = record {
  most = l.most;
  found = l.found;
  below = λ m provider. l.below m (provider_is_named rows order noted end clause n m index h provider);
}

-- the step before which none stands whose row meets its clause
pub last_by : (rows : List Binary) (order : List Step) (last : ℕ) (step : Step) (clause : Clause) (least : ℕ) → slice_get order last ≡ Some step → IsClauseOf rows step clause → IsLeast rows order last clause least (λ m. IsProvider rows order last clause m) → last ≤ least
    → IsLast rows order last
last_by rows order last step clause least at of l h = record {
  step = step;
  clause = clause;
  is = at;
  of = of;
  none = λ m b. l.below m b (provider_below rows order last least clause m (omega (arith, b.earlier, h)) b);
}

pub next_by : (rows : List Binary) (order : List Step) (last : ℕ) (step : Step) (clause : Clause) (least : ℕ) → slice_get order last ≡ Some step → IsClauseOf rows step clause → IsLeast rows order last clause least (λ m. IsProvider rows order last clause m) → least < last
    → IsNext rows order last least
next_by rows order last step clause least at of l h = record { step = step; clause = clause; is = at; of = of; provider = l.found h }
