-- Rows that are held no more, since a row that they may have needed was taken out.
use Rattle.std.proofs.Common.{◌≡◌, ℕ, ◌+◌, ◌<◌, ◌≤◌, Bool, true, false, List, [], ◌∷◌, ◌++◌, length, get_or, set, Some, None, refl, ap, ◌∙◌, subst, inl, inr, arith}
use Rattle.std.specs.Prelude.{Contains}
use Rattle.std.specs.List.{All, AllWithin, list_any, slice_get}
use Rattle.std.specs.Str.{bytes_eq}
use Rattle.std.proofs.lemmas.Bool.{or_cases}
use Rattle.std.proofs.lemmas.List.{get_or-set_same}
use Rattle.std.proofs.lemmas.Slice.Eq.{bytes_eq-Decides}
use Rattle.deb_control.specs.declared.binary.Binary.{Binary}
use Rattle.deb_control.specs.declared.relation.Alternative.{Alternative}
use Rattle.deb_control.specs.declared.relation.Clause.{Clause}
use Rattle.deb_control.specs.declared.relation.Provision.{Provision}
use Rattle.testing_install.specs.Closed.{marked}
use Rattle.testing_install.specs.Dependents.{names, needs_name}
use Rattle.testing_install.specs.Satisfies.{meets, satisfies}
use Rattle.testing_install.proofs.Finding.{any_at, any_true, satisfies_provides}
use Rattle.testing_install.proofs.Places.{read_more}
use Rattle.testing_install_why.specs.steps.Reaching.{IsGrown}
use Rattle.testing_install_why.specs.steps.Woken.{IsWokenAt, IsWokenFor}
use Rattle.testing_install_why.proofs.Reaching.{grown_none, grown_one, grown_then}

-- the rows at the first n places

pub record IsWokenTo (places : List ℕ) (old new : List Bool) (before after : List ℕ) (n : ℕ) : Type 0 where
  pub grown : IsGrown old new before after
  pub woken : AllWithin (λ k. marked new k ≡ false) places 0 n

pub woken_none : (places : List ℕ) (old : List Bool) (before : List ℕ) → IsWokenTo places old old before before 0
woken_none places old before = record { grown = grown_none old before; woken = λ i d low high. absurd (omega (arith, high)) }

pub woken_more : (places : List ℕ) (old mid : List Bool) (before between : List ℕ) (n place : ℕ) → IsWokenTo places old mid before between n → n < length places → place ≡ get_or places n place → place < length mid → marked mid place ≡ true
    → IsWokenTo places old (set mid place false) before (between ++ place ∷ []) (n + 1)
woken_more places old mid before between n place w h at within on =
    let one = grown_one mid between place within on in
    record {
      grown = grown_then old mid (set mid place false) before between (between ++ place ∷ []) w.grown one;
      woken = read_more (λ k. marked (set mid place false) k ≡ false) places places n place refl h at (λ i d low high. one.shut (get_or places i d) (w.woken i d low high)) (get_or-set_same mid place false false within);
    }

pub woken_stays : (places : List ℕ) (old mid : List Bool) (before between : List ℕ) (n place : ℕ) → IsWokenTo places old mid before between n → n < length places → place ≡ get_or places n place → marked mid place ≡ false
    → IsWokenTo places old mid before between (n + 1)
woken_stays places old mid before between n place w h at off = record {
  grown = w.grown;
  woken = read_more (λ k. marked mid k ≡ false) places places n place refl h at w.woken off;
}

-- all rows that need the name are among the places
pub woken_named : (rows : List Binary) (held : List Bool) (name : List ℕ) (places : List ℕ) → All (λ k. marked held k ≡ false) places → ((k : ℕ) (row : Binary) → slice_get rows k ≡ Some row → needs_name row name ≡ true → Contains places k)
    → IsWokenAt rows held name
woken_named rows held name places all complete = record {
  each = λ k row at need.
      let c = complete k row at need in
      subst (λ x. marked held x ≡ false) c.2 (all c.0 k c.1);
}

-- the names that a package provides, one after the other

pub record AreWokenTo (rows : List Binary) (binary : Binary) (old new : List Bool) (before after : List ℕ) (n : ℕ) : Type 0 where
  pub grown : IsGrown old new before after
  pub own : IsWokenAt rows new binary.name
  pub given : AllWithin (λ (p : Provision). IsWokenAt rows new p.name) binary.provides 0 n

still_woken : (rows : List Binary) (old new : List Bool) (name : List ℕ) → ((k : ℕ) → marked old k ≡ false → marked new k ≡ false) → IsWokenAt rows old name → IsWokenAt rows new name
still_woken rows old new name shut w = record { each = λ k row at need. shut k (w.each k row at need) }

pub names_begun : (rows : List Binary) (binary : Binary) (old new : List Bool) (before after : List ℕ) (name : List ℕ) → IsGrown old new before after → name ≡ binary.name → IsWokenAt rows new name → AreWokenTo rows binary old new before after 0
names_begun rows binary old new before after name g named w = record {
  grown = g;
  own = subst (IsWokenAt rows new) named w;
  given = λ i d low high. absurd (omega (arith, high));
}

pub names_more : (rows : List Binary) (binary : Binary) (items : List Provision) (old mid new : List Bool) (before between after : List ℕ) (n : ℕ) (p : Provision) (name : List ℕ) → AreWokenTo rows binary old mid before between n
    → items ≡ binary.provides → n < length items → p ≡ get_or items n p → name ≡ p.name → IsGrown mid new between after → IsWokenAt rows new name → AreWokenTo rows binary old new before after (n + 1)
names_more rows binary items old mid new before between after n p name w are h at named g here = record {
  grown = grown_then old mid new before between after w.grown g;
  own = still_woken rows mid new binary.name g.shut w.own;
  given = read_more (λ (q : Provision). IsWokenAt rows new q.name) binary.provides items n p are h at (λ i d low high. still_woken rows mid new (get_or binary.provides i d).name g.shut (w.given i d low high)) (subst (IsWokenAt rows new) named here);
}

-- a row with a clause that the package meets has a name in it which the package provides
pub names_all : (rows : List Binary) (binary : Binary) (old new : List Bool) (before after : List ℕ) (n : ℕ) → AreWokenTo rows binary old new before after n → length binary.provides ≤ n → IsWokenFor rows new binary
names_all rows binary old new before after n w h = record {
  each = λ k row at need.
      let c = any_at (λ clause. meets binary clause) row.clauses need in
      let clause : Clause = get_or row.clauses c.0 [] in
      let f = any_at (λ a. satisfies binary a) clause (c.2 []) in
      let d : Alternative = record { name = []; relation = None } in
      let a : Alternative = get_or clause f.0 d in
      let named : names clause a.name ≡ true = any_true (λ (b : Alternative). bytes_eq b.name a.name) clause f.0 d f.1 ((bytes_eq-Decides a.name a.name).1 refl) in
      let needs : needs_name row a.name ≡ true = any_true (λ x. names x a.name) row.clauses c.0 [] c.1 named in
      elim (or_cases (bytes_eq binary.name a.name) (list_any (λ (p : Provision). bytes_eq p.name a.name) binary.provides) (satisfies_provides binary a (f.2 d))) [
        | inl itself ↦ (
            let same : binary.name ≡ a.name = (bytes_eq-Decides binary.name a.name).0 itself in
            w.own.each k row at (ap (λ name. needs_name row name) same ∙ needs))
        | inr given ↦ (
            let g = any_at (λ (p : Provision). bytes_eq p.name a.name) binary.provides given in
            let e : Provision = record { name = []; version = None } in
            let p : Provision = get_or binary.provides g.0 e in
            let same : p.name ≡ a.name = (bytes_eq-Decides p.name a.name).0 (g.2 e) in
            (w.given g.0 e (omega arith) (omega (arith, g.1, h))).each k row at (ap (λ name. needs_name row name) same ∙ needs))
      ];
}
