-- A clause that no row meets.
use Rattle.std.specs.Prelude.{ℕ, ◌≤◌, Bool, true, false, ◌&&◌, ◌||◌, List, [], Contains, Option, Some, None, IfSome, length, get_or}
use Rattle.std.specs.List.{AllWithin, slice_get, list_any}
use Rattle.std.specs.Str.{bytes_eq}
use Rattle.std.proofs.Common.{◌≡◌, refl, sym, ap, ◌∙◌, arith}
use Rattle.std.proofs.lemmas.Bool.{false≢true}
use Rattle.std.proofs.lemmas.Slice.Eq.{bytes_eq-Decides}
use Rattle.deb_control.specs.declared.binary.Binary.{Binary}
use Rattle.deb_control.specs.declared.relation.Alternative.{Alternative}
use Rattle.deb_control.specs.declared.relation.Clause.{Clause}
use Rattle.testing_install.specs.Closed.{marked}
use Rattle.testing_install.specs.Index.{provides_name}
use Rattle.testing_install.specs.Satisfies.{satisfies, meets}
use Rattle.testing_install.proofs.Finding.{any_at, satisfies_provides}
use Rattle.testing_rules_items.specs.Words.{Text}
use Rattle.testing_rules_live.specs.steps.Lacks.{meets_on, stands_for_it}
use Rattle.testing_rules_model.specs.declared.suite.RowIn.{RowIn}
use Rattle.testing_rules_model.specs.steps.Moves.{is_row_on}
use Rattle.testing_rules_suites.proofs.Arranging.{at_some_of}
use Rattle.testing_rules_suites.proofs.Lost.{any_of}

-- of what is there both, and what follows from both
pub if_some_both : {A : Type 0} (P Q R : A → Type 0) (o : Option A) → ((x : A) → P x → Q x → R x) → IfSome o P → IfSome o Q → IfSome o R
if_some_both P Q R None f p q = q
if_some_both P Q R (Some x) f p q = f x p q

-- of what is there what follows
pub if_some_weaker : {A : Type 0} (P Q : A → Type 0) (o : Option A) → ((x : A) → P x → Q x) → IfSome o P → IfSome o Q
if_some_weaker P Q None f p = p
if_some_weaker P Q (Some x) f p = f x p

not_so : (b : Bool) → (b ≡ true → ⊥) → b ≡ false
not_so true h = absurd (h refl)
not_so false h = refl

second_of_both : (a b : Bool) → (a && b) ≡ true → b ≡ true
second_of_both true b h = h
second_of_both false b h = absurd (false≢true h)

-- a package provides its own name
pub bears_own : (b : Binary) (name : Text) → b.name ≡ name → provides_name b name ≡ true
bears_own b name e = ap (λ own. own || list_any (λ p. bytes_eq p.name name) b.provides) ((bytes_eq-Decides b.name name).1 e)

-- none of some elements passes where not any does
pub none_of : {A : Type 0} (test : A → Bool) (xs : List A) (x : A) → list_any test xs ≡ false → Contains xs x → test x ≡ false
none_of test xs x h c = not_so (test x) (λ on. false≢true (sym h ∙ any_of test xs x c on))

module _ (arch : ℕ) (pool : List RowIn) (stands : List Bool) (clause : Clause) where
  abbrev test : ℕ → Bool
  test = stands_for_it arch pool stands clause

  -- no row that provides the alternative's name stands for the clause
  pub record IsMissed (a : Alternative) : Type 0 where
    pub each : (k : ℕ) (r : RowIn) → slice_get pool k ≡ Some r → provides_name r.binary a.name ≡ true → stands_for_it arch pool stands clause k ≡ false

  -- the places of a name have all rows that provide it
  pub missed_under : (name : Text) (named : List ℕ) → ((k : ℕ) (r : RowIn) → slice_get pool k ≡ Some r → provides_name r.binary name ≡ true → Contains named k) → list_any test named ≡ false
      → (k : ℕ) (r : RowIn) → slice_get pool k ≡ Some r → provides_name r.binary name ≡ true → test k ≡ false
  missed_under name named complete out k r at b = none_of test named k out (complete k r at b)

  stands_not : (n : ℕ) → AllWithin IsMissed clause 0 n → length clause ≤ n → (k : ℕ) → test k ≡ true → ⊥
  stands_not n missed h k on =
      let row = at_some_of (λ (r : RowIn). is_row_on arch r && meets r.binary clause) (slice_get pool k) (second_of_both (marked stands k) (meets_on arch pool clause k) on) in
      let does : meets row.0.binary clause ≡ true = second_of_both (is_row_on arch row.0) (meets row.0.binary clause) row.2 in
      let f = any_at (satisfies row.0.binary) clause does in
      let d : Alternative = record { name = []; relation = None } in
      let bears_it = satisfies_provides row.0.binary (get_or clause f.0 d) (f.2 d) in
      false≢true (sym ((missed f.0 d (omega arith) (omega (arith, f.1, h))).each k row.0 row.1 bears_it) ∙ on)

  -- nothing stands for the clause where each of its alternatives is missed
  pub none_stands : (n : ℕ) → AllWithin IsMissed clause 0 n → length clause ≤ n → (k : ℕ) → test k ≡ false
  none_stands n missed h k = not_so (test k) (stands_not n missed h k)
