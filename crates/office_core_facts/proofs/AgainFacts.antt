-- Uploads that are taken again.
use Rattle.std.proofs.Common.{◌≡◌, ◌⊎◌, ⊎_elim, inl, inr, ℕ, ◌+◌, ◌<◌, true, false, List, [], ◌∷◌, ◌++◌, length, drop, get_or, Option, Some, option_to_list, sym, ap, subst, ◌∙◌, refl}
use Rattle.std.specs.Prelude.{Contains, ◌==◌}
use Rattle.std.specs.Str.{bytes_eq}
use Rattle.std.proofs.lemmas.Bool.{false≢true}
use Rattle.std.proofs.lemmas.List.{drop_more, nil_from_length}
use Rattle.std.proofs.lemmas.Slice.Eq.{bytes_eq-Decides}
use Rattle.std.proofs.lemmas.List.Elements.{Contains-append_left, Contains-append_right, Contains-append_cases}
use Rattle.testing_rules_items.proofs.Members.{none_among}
use Rattle.testing_rules_items.specs.Words.{Text}
use Rattle.testing_rules_items.specs.declared.item.Item.{Item}
use Rattle.testing_rules_facts.specs.Restored.{said}
use Rattle.testing_rules_model.proofs.SameFacts.{stands-same}
use Rattle.testing_rules_laws.proofs.Naming.{same_nat}
use Rattle.testing_rules_model.proofs.Sets.{first_or_rest, given_by, gives}
use Rattle.testing_rules_model.specs.declared.facts.UploadIn.{UploadIn}
use Rattle.testing_rules_model.specs.Covered.{Covered, CoveredItem, upload_of, uploads_in}
use Rattle.testing_rules_model.specs.FactLists.{FactLists}
use Rattle.testing_rules_model.specs.steps.KeptFacts.{AreFallen}
use Rattle.testing_rules_model.specs.SameMessages.{SameElements, HasOneOfEach}
use Rattle.testing_rules_model.specs.StandsFor.{StandsFor}
use Rattle.testing_rules_model.specs.Suite.{Suite}
use Rattle.office_core_facts.specs.steps.Taking.{IsSaidItem, TookAgain}
use Rattle.office_core_facts.proofs.WalkFacts.{in_option}

pub again_none : (names : List Text) (s : Covered) (f : FactLists) → s ≡ [] → TookAgain names s f f
again_none names s f e = record {
  stand = λ o t one within h. h;
  there = λ u c name. none_among u (subst (λ (l : Covered). Contains (uploads_in l) u) e c);
}

-- messages of a set in front of it are the same set
front_same : (front s : Covered) → ((m : CoveredItem) → Contains front m → Contains s m) → SameElements (front ++ s) s
front_same front s within = (
  λ m c. elim (Contains-append_cases front s m c) [ inl own ↦ within m own | inr among ↦ among ],
  λ m c. Contains-append_right front s m c,
)

front_one : (front s : Covered) → ((m : CoveredItem) → Contains front m → Contains s m) → HasOneOfEach s → HasOneOfEach (front ++ s)
front_one front s within one m o c d = one m o ((front_same front s within).0 m c) ((front_same front s within).0 o d)

-- an upload of one more message is that message's, or one of those before
more_uploads : (o : Option CoveredItem) (s : Covered) (u : UploadIn) → Contains (uploads_in (option_to_list o ++ s)) u → ((m : CoveredItem) × (o ≡ Some m) × (upload_of m ≡ Some u)) ⊎ Contains (uploads_in s) u
more_uploads o s u c =
    let m = given_by upload_of (option_to_list o ++ s) u c in
    elim (Contains-append_cases (option_to_list o) s m.0 m.1) [
      | inl own ↦ inl (m.0, in_option o m.0 own, m.2)
      | inr among ↦ inr (gives upload_of s m.0 u among m.2)
    ]

-- one more message, which was taken again
pub again_taken : (names : List Text) (o : Option CoveredItem) (s : Covered) (first old new : FactLists) → ((l : Covered) (t : Suite) → StandsFor old l t → StandsFor new (option_to_list o ++ l) t)
    → ((u : UploadIn) → Contains old.uploads u → Contains new.uploads u) → ((m : CoveredItem) (u : UploadIn) → o ≡ Some m → upload_of m ≡ Some u → Contains new.uploads u)
    → TookAgain names s first old → TookAgain names (option_to_list o ++ s) first new
again_taken names o s first old new taken kept there so = record {
  stand = λ l t one within h.
      let front : (m : CoveredItem) → Contains (option_to_list o) m → Contains l m = λ m c. within m (Contains-append_left (option_to_list o) s m c) in
      let was : StandsFor old l t = so.stand l t one (λ m c. within m (Contains-append_right (option_to_list o) s m c)) h in
      stands-same (option_to_list o ++ l) l (front_same (option_to_list o) l front) (front_one (option_to_list o) l front one) new t (taken l t was);
  there = λ u c name. elim (more_uploads o s u c) [
    | inl own ↦ there own.0 u own.1 own.2
    | inr among ↦ kept u (so.there u among name)
  ];
}

-- or which isn't an upload of these names
pub again_passed : (names : List Text) (o : Option CoveredItem) (s : Covered) (first old : FactLists) → ((m : CoveredItem) (u : UploadIn) → o ≡ Some m → upload_of m ≡ Some u → Contains names u.source → ⊥)
    → TookAgain names s first old → TookAgain names (option_to_list o ++ s) first old
again_passed names o s first old other so = record {
  stand = λ l t one within h. so.stand l t one (λ m c. within m (Contains-append_right (option_to_list o) s m c)) h;
  there = λ u c name. elim (more_uploads o s u c) [
    | inl own ↦ absurd (other own.0 u own.1 own.2 name)
    | inr among ↦ so.there u among name
  ];
}

-- facts stand beside the new testing where the uploads of the fallen names are there
pub beside_new : (f : FactLists) (s : Covered) (names : List Text) (old new : Suite) → AreFallen names old new → ((u : UploadIn) → Contains (uploads_in s) u → Contains names u.source → Contains f.uploads u) → StandsFor f s old → StandsFor f s new
beside_new f s names old new fallen there h = record {
  sources = h.sources;
  rows = h.rows;
  drops = h.drops;
  bugs = h.bugs;
  hints = h.hints;
  unhints = h.unhints;
  delays = h.delays;
  are_uploads = h.are_uploads;
  counted = λ u c news. elim (fallen u.source u.version news) [
    | inl was ↦ h.counted u c was
    | inr name ↦ there u c name
  ];
}

-- as they do behind the walk
pub again_stand : (names : List Text) (s : Covered) (first now : FactLists) → HasOneOfEach s → TookAgain names s first now → (before after : Suite) → AreFallen names before after → StandsFor first s before → StandsFor now s after
again_stand names s first now one so before after fallen h = beside_new now s names before after fallen so.there (so.stand s before one (λ m c. c) h)

-- and where no name fell
pub none_stand : (names : List Text) (s : Covered) (f : FactLists) → (length names == 0) ≡ true → (before after : Suite) → AreFallen names before after → StandsFor f s before → StandsFor f s after
none_stand names s f none before after fallen h = beside_new f s names before after fallen (λ u c name. none_among u.source (subst (λ (l : List Text). Contains l u.source) (nil_from_length names (same_nat (length names) 0 none)) name)) h

-- the upload of a message is that of its item
pub said_upload : (sender number : ℕ) (item : Item) (says : Option CoveredItem) (m : CoveredItem) (u : UploadIn) → IsSaidItem says sender number item → says ≡ Some m → upload_of m ≡ Some u → upload_of (said sender number item) ≡ Some u
said_upload sender number item says m u so is up = ⊎_elim
    (λ e. ap upload_of (same_message (said sender number item) m (sym e ∙ is)) ∙ up)
    (λ none. absurd (cc (sym none.0 ∙ is)))
    so
  where
    same_message : (a b : CoveredItem) → Some a ≡ Some b → a ≡ b
    same_message a b e = cc

-- the upload of a message that is said
pub item_upload : (m : CoveredItem) (u : UploadIn) (o : CoveredItem) → Some o ≡ Some m → upload_of m ≡ Some u → upload_of o ≡ Some u
item_upload m u o is up = let same : o ≡ m = cc in ap upload_of same ∙ up

-- a name that isn't the next one is among the rest
pub name_later : (names : List Text) (i : ℕ) (other name : Text) → i < length names → other ≡ get_or names i other → bytes_eq other name ≡ false → Contains (drop i names) name → Contains (drop (i + 1) names) name
name_later names i other name low is apart c =
    let more : drop i names ≡ other ∷ drop (i + 1) names = drop_more names i other low ∙ ap (λ (o : Text). o ∷ drop (i + 1) names) (sym is) in
    elim (first_or_rest other (drop (i + 1) names) name (subst (λ (l : List Text). Contains l name) more c)) [
      | inl same ↦ absurd (false≢true (sym apart ∙ ap (λ (n : Text). bytes_eq other n) (sym same) ∙ (bytes_eq-Decides other other).1 refl))
      | inr among ↦ among
    ]
