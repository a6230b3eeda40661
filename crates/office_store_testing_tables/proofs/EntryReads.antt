-- What is read in the tables of testing.
use Rattle.std.proofs.Common.{◌≡◌, ◌≢◌, ◌⊎◌, inl, inr, ℕ, ℤ, pos, List, [], ◌∷◌, length, ◌&&◌, ◌||◌, ◌==◌, cond, true, false, Bool, nat_lt, Some, None, Option, IfSome, refl, sym, ap, subst, ◌∙◌, arith}
use Rattle.std.proofs.lemmas.Bool.Decides.{nat_tests}
use Rattle.sqlite.specs.declared.types.Value.{Value}
use Rattle.sqlite.specs.declared.types.Value.TheVariants.{Null, Int, Real, Text, Blob}
use Rattle.sqlite.specs.Order.{Row, column}
use Rattle.office_mail.specs.Kept.{Kept, Place}
use Rattle.office_mail.specs.Lists.{Lists}
use Rattle.office_mail.specs.declared.message.Message.{Message}
use Rattle.testing_rules_model.specs.declared.suite.RowIn.{RowIn}
use Rattle.office_store_keeper.specs.Provenance.{IsArchPlace}
use Rattle.deb_control.specs.declared.binary.Binary.{Binary}
use Rattle.office_store_testing_tables.specs.Tables.{number_in, small_in, text_in}
use Rattle.office_store_testing_tables.specs.steps.ReadingSteps.{small_of}
use Rattle.office_store_testing_tables.specs.Entries.{integer_in, source_by, source_in, row_by, entry_in}
use Rattle.office_store_testing_tables.specs.steps.EntrySteps.{source_columns, entry_columns}
use Rattle.office_store_testing_tables.specs.declared.entries.KeptAt.{KeptAt}
use Rattle.office_store_testing_tables.specs.steps.Nearby.{IsKeptAt, read_binary}
use Rattle.office_store_testing_tables.specs.TableContent.{message_at, source_at, row_as, row_at}
use Rattle.office_store_testing_tables.specs.steps.TableContent.{source_of, row_of}
use Rattle.office_store_testing_tables.specs.steps.ReadingSteps.{source_by_message, source_by_entry, row_by_message, row_by_entry}
use Rattle.office_store_testing_tables.proofs.LetterFacts.{number_is}
use Rattle.office_store_testing_tables.proofs.EntrySays.{Fits32, integer_is}

-- ---- values

pub text_is : (v : Value) (t : List ℕ) → text_in v ≡ Some t → v ≡ Text t
text_is Null t h = absurd (let e = h in cc)
text_is (Int n) t h = absurd (let e = h in cc)
text_is (Real x) t h = absurd (let e = h in cc)
text_is (Text s) t h = let e : s ≡ t = cc in ap Text e
text_is (Blob b) t h = absurd (let e = h in cc)

below : (n : ℕ) (b : Bool) → nat_lt n 4_294_967_296 ≡ b → (m : ℕ) → cond b (Some n) None ≡ Some m → (n ≡ m) × Fits32 m
below n true is m h = let e : n ≡ m = cc in (e, subst Fits32 e (grind (arith, nat_tests)))
below n false is m h = absurd (let e = h in cc)

small_is_number : (o : Option ℕ) (m : ℕ) → small_of o ≡ Some m → (o ≡ Some m) × Fits32 m
small_is_number None m h = absurd (let e = h in cc)
small_is_number (Some n) m h = let e = below n (nat_lt n 4_294_967_296) refl m h in (ap Some e.0, e.1)

pub small_value : (v : Value) (m : ℕ) → small_in v ≡ Some m → (v ≡ Int (pos m)) × Fits32 m
small_value v m h = let e = small_is_number (number_in v) m h in (number_is v m e.0, e.1)

-- ---- sources

source_parts_by : (i : Option ℤ) (t : Option (List ℕ)) (s n : Option ℕ) (e : List ℕ × Place) → source_by i t s n ≡ Some e
    → (id : ℤ) × (i ≡ Some id) × (t ≡ Some e.0) × (s ≡ Some e.1.0) × (n ≡ Some e.1.1)
source_parts_by None t s n e h = absurd (let x = h in cc)
source_parts_by (Some i) None s None e h = absurd (let x = h in cc)
source_parts_by (Some i) None s (Some n) e h = absurd (let x = h in cc)
source_parts_by (Some i) (Some t) None None e h = absurd (let x = h in cc)
source_parts_by (Some i) (Some t) None (Some n) e h = absurd (let x = h in cc)
source_parts_by (Some i) (Some t) (Some s) None e h = absurd (let x = h in cc)
source_parts_by (Some i) (Some t) (Some s) (Some n) e h =
    let x : ◌≡◌ {A = List ℕ × Place} (t, (s, n)) e = cc in
    (i, refl, ap (λ (y : List ℕ × Place). Some y.0) x, ap (λ (y : List ℕ × Place). Some y.1.0) x, ap (λ (y : List ℕ × Place). Some y.1.1) x)

pub four : {X : Type 0} (a b c d w x y z : X) → a ≡ w → b ≡ x → c ≡ y → d ≡ z → a ∷ b ∷ c ∷ d ∷ [] ≡ w ∷ x ∷ y ∷ z ∷ []
four a b c d w x y z p q r s = λ i. p i ∷ q i ∷ r i ∷ s i ∷ []

-- a row that reads has these values
pub source_shape : (row : Row) (e : List ℕ × Place) → source_in row ≡ Some e → (id : ℤ) × (source_columns row ≡ Int id ∷ Text e.0 ∷ Int (pos e.1.0) ∷ Int (pos e.1.1) ∷ []) × Fits32 e.1.0 × Fits32 e.1.1
unfolding source_in
source_shape row e h =
    let p = source_parts_by (integer_in (column row 0)) (text_in (column row 1)) (small_in (column row 2)) (small_in (column row 3)) e h in
    let s = small_value (column row 2) e.1.0 p.3 in
    let n = small_value (column row 3) e.1.1 p.4 in
    (p.0, four (column row 0) (column row 1) (column row 2) (column row 3) (Int p.0) (Text e.0) (Int (pos e.1.0)) (Int (pos e.1.1)) (integer_is (column row 0) p.0 p.1) (text_is (column row 1) e.0 p.2) s.0 n.0, s.1, n.1)

module _ (setup : Lists) (kept : Kept) (row : Row) where
  pub source_none : ((id : ℤ) (name : List ℕ) (sender number : ℕ) → Fits32 sender → Fits32 number → row ≢ Int id ∷ Text name ∷ Int (pos sender) ∷ Int (pos number) ∷ []) → row ≡ source_columns row → source_of setup kept row ≡ None
  unfolding source_of
  source_none other shown = go (source_in row) refl
    where
      go : (o : Option (List ℕ × Place)) → source_in row ≡ o → source_by_entry setup kept o ≡ None
      go None is = refl
      go (Some e) is = let s = source_shape row e is in absurd (other s.0 e.0 e.1.0 e.1.1 s.2 s.3 (shown ∙ s.1))

  pub source_by_parts : (name : List ℕ) (sender number : ℕ) (o : Option Message) → source_in row ≡ Some (name, (sender, number)) → message_at setup kept sender number ≡ o → source_of setup kept row ≡ source_by_message name sender number o
  unfolding source_of source_at
  source_by_parts name sender number o is said = ap (source_by_entry setup kept) is ∙ ap (source_by_message name sender number) said

  pub source_missing : (crowded : Type 0) (name : List ℕ) (sender number : ℕ) → source_in row ≡ Some (name, (sender, number)) → crowded ⊎ (message_at setup kept sender number ≡ None) → crowded ⊎ (source_of setup kept row ≡ None)
  source_missing crowded name sender number is (inl c) = inl c
  source_missing crowded name sender number is (inr none) = inr (source_by_parts name sender number None is none)

-- ---- rows

row_parts_by : (i : Option ℤ) (a : Option ℕ) (t : Option (List ℕ)) (s n p : Option ℕ) (e : (ℕ × List ℕ) × (Place × ℕ)) → row_by i a t s n p ≡ Some e
    → (id : ℤ) × (i ≡ Some id) × (a ≡ Some e.0.0) × (t ≡ Some e.0.1) × (s ≡ Some e.1.0.0) × (n ≡ Some e.1.0.1) × (p ≡ Some e.1.1)
row_parts_by None a t s n p e h = absurd (let x = h in cc)
row_parts_by (Some i) None t s n p e h = absurd (let x = h in cc)
row_parts_by (Some i) (Some a) None s n p e h = absurd (let x = h in cc)
row_parts_by (Some i) (Some a) (Some t) None n p e h = absurd (let x = h in cc)
row_parts_by (Some i) (Some a) (Some t) (Some s) None p e h = absurd (let x = h in cc)
row_parts_by (Some i) (Some a) (Some t) (Some s) (Some n) None e h = absurd (let x = h in cc)
row_parts_by (Some i) (Some a) (Some t) (Some s) (Some n) (Some p) e h =
    let x : ◌≡◌ {A = (ℕ × List ℕ) × (Place × ℕ)} ((a, t), ((s, n), p)) e = cc in (
      i,
      refl,
      ap (λ (y : (ℕ × List ℕ) × (Place × ℕ)). Some y.0.0) x,
      ap (λ (y : (ℕ × List ℕ) × (Place × ℕ)). Some y.0.1) x,
      ap (λ (y : (ℕ × List ℕ) × (Place × ℕ)). Some y.1.0.0) x,
      ap (λ (y : (ℕ × List ℕ) × (Place × ℕ)). Some y.1.0.1) x,
      ap (λ (y : (ℕ × List ℕ) × (Place × ℕ)). Some y.1.1) x,
    )

six : {X : Type 0} (a b c d e f u v w x y z : X) → a ≡ u → b ≡ v → c ≡ w → d ≡ x → e ≡ y → f ≡ z → a ∷ b ∷ c ∷ d ∷ e ∷ f ∷ [] ≡ u ∷ v ∷ w ∷ x ∷ y ∷ z ∷ []
six a b c d e f u v w x y z m n p q r s = λ i. m i ∷ n i ∷ p i ∷ q i ∷ r i ∷ s i ∷ []

-- the numbers of an entry have 32 bits
pub record AreSmall (e : (ℕ × List ℕ) × (Place × ℕ)) : Type 0 where
  pub arch : Fits32 e.0.0
  pub sender : Fits32 e.1.0.0
  pub number : Fits32 e.1.0.1
  pub place : Fits32 e.1.1

-- a row that reads has these values
pub row_shape : (row : Row) (e : (ℕ × List ℕ) × (Place × ℕ)) → entry_in row ≡ Some e
    → (id : ℤ) × (entry_columns row ≡ Int id ∷ Int (pos e.0.0) ∷ Text e.0.1 ∷ Int (pos e.1.0.0) ∷ Int (pos e.1.0.1) ∷ Int (pos e.1.1) ∷ []) × AreSmall e
unfolding entry_in
row_shape row e h =
    let p = row_parts_by (integer_in (column row 0)) (small_in (column row 1)) (text_in (column row 2)) (small_in (column row 3)) (small_in (column row 4)) (small_in (column row 5)) e h in
    let a = small_value (column row 1) e.0.0 p.2 in
    let s = small_value (column row 3) e.1.0.0 p.4 in
    let n = small_value (column row 4) e.1.0.1 p.5 in
    let l = small_value (column row 5) e.1.1 p.6 in (
      p.0,
      six (column row 0) (column row 1) (column row 2) (column row 3) (column row 4) (column row 5) (Int p.0) (Int (pos e.0.0)) (Text e.0.1) (Int (pos e.1.0.0)) (Int (pos e.1.0.1)) (Int (pos e.1.1))
          (integer_is (column row 0) p.0 p.1) a.0 (text_is (column row 2) e.0.1 p.3) s.0 n.0 l.0,
      record { arch = a.1; sender = s.1; number = n.1; place = l.1 },
    )

module _ (setup : Lists) (kept : Kept) (row : Row) where
  pub row_none : ((id : ℤ) (arch : ℕ) (name : List ℕ) (sender number place : ℕ) → Fits32 arch → Fits32 sender → Fits32 number → Fits32 place
      → row ≢ Int id ∷ Int (pos arch) ∷ Text name ∷ Int (pos sender) ∷ Int (pos number) ∷ Int (pos place) ∷ []) → row ≡ entry_columns row → row_of setup kept row ≡ None
  unfolding row_of
  row_none other shown = go (entry_in row) refl
    where
      go : (o : Option ((ℕ × List ℕ) × (Place × ℕ))) → entry_in row ≡ o → row_by_entry setup kept o ≡ None
      go None is = refl
      go (Some e) is = let s = row_shape row e is in absurd (other s.0 e.0.0 e.0.1 e.1.0.0 e.1.0.1 e.1.1 s.2.arch s.2.sender s.2.number s.2.place (shown ∙ s.1))

  pub row_by_parts : (arch : ℕ) (name : List ℕ) (sender number place : ℕ) (o : Option Message) → entry_in row ≡ Some ((arch, name), ((sender, number), place)) → message_at setup kept sender number ≡ o
      → row_of setup kept row ≡ row_by_message setup.archs arch name sender number place o
  unfolding row_of row_at
  row_by_parts arch name sender number place o is said = ap (row_by_entry setup kept) is ∙ ap (row_by_message setup.archs arch name sender number place) said

  pub row_missing : (crowded : Type 0) (arch : ℕ) (name : List ℕ) (sender number place : ℕ) → entry_in row ≡ Some ((arch, name), ((sender, number), place)) → crowded ⊎ (message_at setup kept sender number ≡ None)
      → crowded ⊎ (row_of setup kept row ≡ None)
  row_missing crowded arch name sender number place is (inl c) = inl c
  row_missing crowded arch name sender number place is (inr none) = inr (row_by_parts arch name sender number place None is none)

-- what is kept at a place, at the place that was asked for
pub there : (setup : Lists) (kept : Kept) (sender number from at : ℕ) (o : Option Message) → from ≡ sender → at ≡ number → message_at setup kept from at ≡ o → message_at setup kept sender number ≡ o
there setup kept sender number from at o e f h = ap (λ (n : ℕ). message_at setup kept n number) (sym e) ∙ ap (message_at setup kept from) (sym f) ∙ h

-- the row that the message read last gives for an entry which names its place
pub row_by_last : (setup : Lists) (kept : Kept) (row : Row) (arch : ℕ) (name : List ℕ) (sender number place : ℕ) (last : Option KeptAt) → entry_in row ≡ Some ((arch, name), ((sender, number), place)) → IsKeptAt sender number last
    → IfSome last (λ (m : KeptAt). message_at setup kept m.sender m.number ≡ Some m.message) → row_of setup kept row ≡ row_as setup.archs arch name sender number place (read_binary place last)
row_by_last setup kept row arch name sender number place None is at said = absurd at
row_by_last setup kept row arch name sender number place (Some m) is at said =
    row_by_parts setup kept row arch name sender number place (Some m.message) is (there setup kept sender number m.sender m.number (Some m.message) at.0 at.1 said)

-- a row that an entry names is of a listed architecture, or of `all`
pub row_known : (archs : List (List ℕ)) (arch : ℕ) (name : List ℕ) (sender number place : ℕ) (o : Option Binary) (r : RowIn) → row_as archs arch name sender number place o ≡ Some r → IsArchPlace archs r.arch
row_known archs arch name sender number place None r h = absurd (let e = h in cc)
row_known archs arch name sender number place (Some binary) r h = go (nat_lt arch (length archs)) (arch == 16) _ refl refl h
  where
    go : (a b c : Bool) → nat_lt arch (length archs) ≡ a → (arch == 16) ≡ b → cond ((a || b) && c) (Some (record { arch = arch; binary = binary; sender = sender; number = number; place = place })) None ≡ Some r → IsArchPlace archs r.arch
    go true b true is or h = let e : ◌≡◌ {A = RowIn} (record { arch = arch; binary = binary; sender = sender; number = number; place = place }) r = cc in subst (λ (x : RowIn). IsArchPlace archs x.arch) e (inl (grind (arith, nat_tests)))
    go true b false is or h = absurd (let e = h in cc)
    go false true true is or h = let e : ◌≡◌ {A = RowIn} (record { arch = arch; binary = binary; sender = sender; number = number; place = place }) r = cc in subst (λ (x : RowIn). IsArchPlace archs x.arch) e (inr (grind (arith, nat_tests)))
    go false true false is or h = absurd (let e = h in cc)
    go false false c is or h = absurd (let e = h in cc)
