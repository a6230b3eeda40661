-- The places of the rows that provide a name of a clause.
use Rattle.std.proofs.Common.{◌≡◌, ℕ, ◌+◌, ◌<◌, ◌≤◌, Bool, true, false, List, [], ◌++◌, length, get_or, Some, None, sym, ap, ◌∙◌, subst, arith}
use Rattle.std.specs.List.{slice_get, All, AllWithin, Contains}
use Rattle.std.proofs.lemmas.Bool.{false≢true}
use Rattle.std.proofs.lemmas.Option.{same_Some}
use Rattle.std.proofs.lemmas.List.Elements.{All-append, Contains-append_left, Contains-append_right}
use Rattle.deb_control.specs.declared.binary.Binary.{Binary}
use Rattle.deb_control.specs.declared.relation.Alternative.{Alternative}
use Rattle.deb_control.specs.declared.relation.Clause.{Clause}
use Rattle.testing_install.specs.Closed.{marked}
use Rattle.testing_install.specs.Index.{provides_name}
use Rattle.testing_install.specs.Satisfies.{satisfies, meets}
use Rattle.testing_install.proofs.Finding.{any_at, satisfies_provides}
use Rattle.testing_install.proofs.Places.{read_more}

-- each row that satisfies the alternative stands at one of the places
pub record IsAmong (rows : List Binary) (places : List ℕ) (alternative : Alternative) : Type 0 where
  pub each : (k : ℕ) (row : Binary) → slice_get rows k ≡ Some row → satisfies row alternative ≡ true → Contains places k

-- what holds after the first n alternatives
pub record IsNamedTo (rows : List Binary) (places : List ℕ) (clause : Clause) (n : ℕ) : Type 0 where
  pub within : All (λ k. k < length rows) places
  pub among : AllWithin (IsAmong rows places) clause 0 n

pub named_none : (rows : List Binary) (places : List ℕ) (clause : Clause) → places ≡ [] → IsNamedTo rows places clause 0
named_none rows places clause e = record {
  within = λ i d h. absurd (omega (arith, h, ap length e));
  among = λ i d low high. absurd (omega (arith, high));
}

pub named_next : (rows : List Binary) (old new more : List ℕ) (clause items : Clause) (name : List ℕ) (n : ℕ) (alternative : Alternative) → IsNamedTo rows old clause n → items ≡ clause → n < length items → alternative ≡ get_or items n alternative → name ≡ alternative.name → All (λ k. k < length rows) more → ((k : ℕ) (row : Binary) → slice_get rows k ≡ Some row → provides_name row name ≡ true → Contains more k) → new ≡ old ++ more → IsNamedTo rows new clause (n + 1)
named_next rows old new more clause items name n alternative s are h at named within complete e = record {
  within = subst (All (λ k. k < length rows)) (sym e) (All-append (λ k. k < length rows) old more s.within within);
  among = read_more (IsAmong rows new) clause items n alternative are h at
      (λ i d low high. record { each = λ k row stands does. subst (λ xs. Contains xs k) (sym e) (Contains-append_left old more k ((s.among i d low high).each k row stands does)) })
      (record { each = λ k row stands does. subst (λ xs. Contains xs k) (sym e) (Contains-append_right old more k (complete k row stands (ap (provides_name row) named ∙ satisfies_provides row alternative does))) });
}

pub named_all : (rows : List Binary) (places : List ℕ) (clause : Clause) (n : ℕ) → IsNamedTo rows places clause n → length clause ≤ n → (k : ℕ) (row : Binary) → slice_get rows k ≡ Some row → meets row clause ≡ true → Contains places k
named_all rows places clause n s h k row at does =
    let f = any_at (λ a. satisfies row a) clause does in
    let d : Alternative = record { name = []; relation = None } in
    (s.among f.0 d (omega arith) (omega (arith, f.1, h))).each k row at (f.2 d)

-- the row at the place isn't left, or doesn't meet the clause
pub record IsNoProvider (rows : List Binary) (left : List Bool) (clause : Clause) (place : ℕ) : Type 0 where
  pub each : (row : Binary) → slice_get rows place ≡ Some row → marked left place ≡ true → meets row clause ≡ true → ⊥

pub no_provider_out : (rows : List Binary) (left : List Bool) (clause : Clause) (place : ℕ) → marked left place ≡ false → IsNoProvider rows left clause place
no_provider_out rows left clause place off = record { each = λ row at on. absurd (false≢true (sym off ∙ on)) }

pub no_provider : (rows : List Binary) (left : List Bool) (clause : Clause) (place : ℕ) (row : Binary) → slice_get rows place ≡ Some row → meets row clause ≡ false → IsNoProvider rows left clause place
no_provider rows left clause place row at misses = record { each = λ other stands on does. false≢true (sym misses ∙ ap (λ (b : Binary). meets b clause) (same_Some row other (sym at ∙ stands)) ∙ does) }

pub no_providers : (rows : List Binary) (left : List Bool) (clause : Clause) (places : List ℕ) (n : ℕ) → AllWithin (IsNoProvider rows left clause) places 0 n → length places ≤ n → (k : ℕ) (row : Binary) → Contains places k → slice_get rows k ≡ Some row → marked left k ≡ true → meets row clause ≡ true → ⊥
no_providers rows left clause places n none h k row c = (subst (IsNoProvider rows left clause) c.2 (none c.0 k (omega arith) (omega (arith, c.1, h)))).each row
