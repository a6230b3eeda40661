-- An alternative is refused for its first fault from the left.
use Rattle.std.proofs.Common.{◌≡◌, ℕ, Bool, true, false, cond, not, ◌⊎◌, ◌↔◌, List, [], ◌∷◌, ◌++◌, drop, Option, Some, None, Result, Ok, Err, refl, sym, ap, ◌∙◌, subst, inl, inr, ⊎_elim, eqb}
use Rattle.std.specs.List.{list_all, take_while, prefix_len, position_or_len, before_first}
use Rattle.std.proofs.lemmas.Bool.{cases_Bool, cond-true, cond-false, and_right, not_from_false}
use Rattle.std.proofs.lemmas.List.{take-append-drop}
use Rattle.std.proofs.lemmas.List.Folds.{list_all-append}
use Rattle.deb_control.specs.Text.{is_white}
use Rattle.deb_control.specs.Relations.{◌>>=◌, is_package_name, is_version, is_qualifier_char, allows, skip_white, after_char, ends_name, ends_version, after_qualifier, sign_in, version_in, relation_in, alternative_in}
use Rattle.deb_control.specs.Spelling.{IsWhite, IsQualifier, IsSign}
use Rattle.deb_control.specs.FirstFault.{IsStopped, IsWord, IsLongest, HasBadName, HasBadVersion}
use Rattle.deb_control.specs.declared.fault.RelationFault.{RelationFault}
use Rattle.deb_control.specs.declared.fault.RelationFault.TheVariants.{BadName, BadVersion, BadRelation}
use Rattle.deb_control.specs.declared.relation.Op.{Op}
use Rattle.deb_control.specs.declared.relation.Signs.{Signs}
use Rattle.deb_control.specs.declared.relation.Relation.{Relation}
use Rattle.deb_control.specs.declared.relation.Alternative.{Alternative}
use Rattle.deb_control.proofs.Split.{left_after_yes, left_after_no}
use Rattle.deb_control.proofs.Signs.{sign_of, is_sign}
use Rattle.deb_control.proofs.Forms.{closes, version_is, relation_of, within_parentheses, relation_is, alternative_is, after_run_of_one}
use Rattle.deb_control.proofs.Fronts.{front_passes, none_in_front, front_is, none_in_front_of}
use Rattle.deb_control.proofs.SpellingLemmas.{IsSplit, of_name, white_and_rest, skipped, after_is, qualifier_read, sign_read, sign_is_not_white, longest_is_read, name_is_read}

-- Words.

-- what stands behind the longest front begins with what ends it
stopped_behind : (q p : ℕ → Bool) → ((c : ℕ) → q c ≡ false → p c ≡ true) → (xs : List ℕ) → IsStopped p (drop (prefix_len q xs) xs)
stopped_behind q p ends [] = tt
stopped_behind q p ends (x ∷ xs) = ⊎_elim
    (λ (yes : q x ≡ true). subst (IsStopped p) (sym (left_after_yes q x xs yes)) (stopped_behind q p ends xs))
    (λ (other : q x ≡ false). subst (IsStopped p) (sym (left_after_no q x xs other)) (ends x other))
    (cases_Bool (q x))

none_at : (q p : ℕ → Bool) → ((c : ℕ) → p c ≡ true → q c ≡ false) → (xs : List ℕ) → IsStopped p xs → prefix_len q xs ≡ 0
none_at q p fails [] stop = refl
none_at q p fails (x ∷ xs) stop = none_in_front q x xs (fails x stop)

from_not : (b : Bool) → not b ≡ false → b ≡ true
from_not true h = refl
from_not false h = cc

from_not_true : (b : Bool) → not b ≡ true → b ≡ false
from_not_true true h = cc
from_not_true false h = refl

not_so : (b : Bool) → b ≡ true → not b ≡ false
not_so true h = refl
not_so false h = cc

-- the word that is read behind white
word_read : (ends : ℕ → Bool) (text : List ℕ) → IsWord ends text (before_first ends (skip_white text)) (drop (position_or_len ends (skip_white text)) (skip_white text))
word_read ends text =
    let goes : ℕ → Bool = λ (c : ℕ). not (ends c) in
    let t = skip_white text in
    let cut : before_first ends t ++ drop (position_or_len ends t) t ≡ t = take-append-drop (position_or_len ends t) t in
    record {
      before = take_while is_white text;
      written = white_and_rest text ∙ ap (λ (ys : List ℕ). take_while is_white text ++ ys) (sym cut);
      white = front_passes is_white text;
      begins = subst (IsStopped (λ (c : ℕ). not (is_white c))) (sym cut) (stopped_behind is_white (λ (c : ℕ). not (is_white c)) (λ (c : ℕ) (h : is_white c ≡ false). not_from_false (is_white c) h) text);
      runs = front_passes goes t;
      stops = stopped_behind goes ends (λ (c : ℕ) (h : not (ends c) ≡ false). from_not (ends c) h) t;
    }

module _ (ends : ℕ → Bool) (text word rest : List ℕ) (w : IsWord ends text word rest) where
  word_skipped : skip_white text ≡ word ++ rest
  word_skipped = ap skip_white w.written ∙ skipped w.before (word ++ rest) w.white (none_at is_white (λ (c : ℕ). not (is_white c)) (λ (c : ℕ) (h : not (is_white c) ≡ true). from_not_true (is_white c) h) (word ++ rest) w.begins)

  word_stops : prefix_len (λ (c : ℕ). not (ends c)) rest ≡ 0
  word_stops = none_at (λ (c : ℕ). not (ends c)) ends (λ (c : ℕ) (h : ends c ≡ true). not_so (ends c) h) rest w.stops

  -- the word is what is read
  word_is_read : before_first ends (skip_white text) ≡ word
  word_is_read = ap (before_first ends) word_skipped ∙ front_is (λ (c : ℕ). not (ends c)) word rest w.runs word_stops

-- Faults.

same_error : {A E : Type 0} (a b : E) → ◌≡◌ {A = Result A E} (Err a) (Err b) → a ≡ b
same_error a b h = cc

-- a fault of two steps is the first's, or the second's where the first went well
stopped_at : {A B E : Type 0} (r : Result A E) (f : A → Result B E) (e : E) → (r >>= f) ≡ Err e → (r ≡ Err e) ⊎ ((a : A) × (r ≡ Ok a) × (f a ≡ Err e))
stopped_at (Ok a) f e h = inr (a, refl, h)
stopped_at (Err x) f e h = inl (ap Err (same_error x e h))

run_fault : (b : Bool) (x : List ℕ) (e : RelationFault) → cond b (Err BadRelation) (Ok x) ≡ Err e → e ≡ BadRelation
run_fault true x e h = sym (same_error BadRelation e h)
run_fault false x e h = absurd cc

colon_fault : (b : Bool) (r : Result (List ℕ) RelationFault) (x : List ℕ) (e : RelationFault) → (r ≡ Err e → e ≡ BadRelation) → cond b r (Ok x) ≡ Err e → e ≡ BadRelation
colon_fault true r x e more h = more h
colon_fault false r x e more h = absurd cc

qualifier_fault : (text : List ℕ) (e : RelationFault) → after_qualifier text ≡ Err e → e ≡ BadRelation
unfolding after_qualifier
qualifier_fault [] e h = absurd cc
qualifier_fault (c ∷ cs) e h =
    let n = prefix_len is_qualifier_char cs in
    colon_fault (eqb c 58) (after_run_of_one cs n) (c ∷ cs) e (λ (r : after_run_of_one cs n ≡ Err e). run_fault (eqb n 0) (drop n cs) e r) h

end_fault : (good closed : Bool) (version : List ℕ) (e : RelationFault) → cond good (cond closed (Ok version) (Err BadRelation)) (Err BadVersion) ≡ Err e → (e ≡ BadRelation) ⊎ ((e ≡ BadVersion) × (good ≡ false))
end_fault true true version e h = absurd cc
end_fault true false version e h = inl (sym (same_error BadRelation e h))
end_fault false closed version e h = inr (sym (same_error BadVersion e h), refl)

-- the word that stands where a version is due is none
record IsUnversioned (text : List ℕ) : Type 0 where
  pub word : List ℕ
  pub rest : List ℕ
  pub is_word : IsWord ends_version text word rest
  pub unversioned : is_version word ≡ false

version_fault_read : (text : List ℕ) (e : RelationFault) → version_in text ≡ Err e → (e ≡ BadRelation) ⊎ ((e ≡ BadVersion) × IsUnversioned text)
version_fault_read text e h =
    let t = skip_white text in
    let word = before_first ends_version t in
    let rest = drop (position_or_len ends_version t) t in
    ⊎_elim
    (λ (relation : e ≡ BadRelation). inl relation)
    (λ (version : (e ≡ BadVersion) × (is_version word ≡ false)). inr (version.0, record { word = word; rest = rest; is_word = word_read ends_version text; unversioned = version.1 }))
    (end_fault (is_version word) (closes (after_char 41 (skip_white rest))) word e (sym (version_is text) ∙ h))

version_fault_is_read : (text : List ℕ) → IsUnversioned text → version_in text ≡ Err BadVersion
version_fault_is_read text u =
    let t = skip_white text in
    let rest = drop (position_or_len ends_version t) t in
    version_is text
    ∙ cond-false (is_version (before_first ends_version t)) (cond (closes (after_char 41 (skip_white rest))) (Ok (before_first ends_version t)) (Err BadRelation)) (Err BadVersion)
    (ap is_version (word_is_read ends_version text u.word u.rest u.is_word) ∙ u.unversioned)

-- what follows a name states a sign, and no version behind it
record StatesBadVersion (signs : Signs) (text : List ℕ) : Type 0 where
  pub between : List ℕ
  pub within : List ℕ
  pub op : Op
  pub sign : List ℕ
  pub after : List ℕ
  pub written : text ≡ between ++ 40 ∷ (within ++ (sign ++ after))
  pub whites : IsWhite between × IsWhite within
  pub signed : IsSign op sign
  pub longest : IsLongest sign after
  pub allowed : allows signs op ≡ true
  pub unversioned : IsUnversioned after

sign_stands : (signs : Signs) (text inside : List ℕ) (found : Op × List ℕ) → skip_white text ≡ 40 ∷ inside → allows signs found.0 ≡ true → IsSplit (skip_white inside) found → IsUnversioned found.1 → StatesBadVersion signs text
sign_stands signs text inside found opening allowed cut unversioned = record {
  between = take_while is_white text;
  within = take_while is_white inside;
  op = found.0;
  sign = cut.0;
  after = found.1;
  written = white_and_rest text ∙ ap (λ (ys : List ℕ). take_while is_white text ++ ys) (opening ∙ ap (λ (ys : List ℕ). 40 ∷ ys) (white_and_rest inside ∙ ap (λ (ys : List ℕ). take_while is_white inside ++ ys) cut.1));
  whites = (front_passes is_white text, front_passes is_white inside);
  signed = is_sign found.0 cut.0 cut.2;
  longest = λ c more op next longer. cut.3 c more op next (sign_of op (cut.0 ++ c ∷ []) longer);
  allowed = allowed;
  unversioned = unversioned;
}

abbrev of_op : Op → List ℕ → Result (Option Relation) RelationFault
of_op op version = Ok (Some (record { op = op; version = version }))

-- a fault behind a sign
signed_fault : (signs : Signs) (text inside : List ℕ) (found : Op × List ℕ) (e : RelationFault) → skip_white text ≡ 40 ∷ inside → sign_in (skip_white inside) ≡ Some found → relation_of signs (Some found) ≡ Err e → (e ≡ BadRelation) ⊎ ((e ≡ BadVersion) × StatesBadVersion signs text)
signed_fault signs text inside found e opening sign h = ⊎_elim
    (λ (yes : allows signs found.0 ≡ true). ⊎_elim
    (λ (bad : version_in found.1 ≡ Err e). ⊎_elim
    (λ (relation : e ≡ BadRelation). inl relation)
    (λ (version : (e ≡ BadVersion) × IsUnversioned found.1). inr (version.0, sign_stands signs text inside found opening yes (sign_read (skip_white inside) found sign) version.1))
    (version_fault_read found.1 e bad))
    (λ (good : (v : List ℕ) × (version_in found.1 ≡ Ok v) × (of_op found.0 v ≡ Err e)). absurd (let never : of_op found.0 good.0 ≡ Err e = good.2 in cc))
    (stopped_at (version_in found.1) (of_op found.0) e (sym (cond-true (allows signs found.0) (version_in found.1 >>= of_op found.0) (Err BadRelation) yes) ∙ h)))
    (λ (other : allows signs found.0 ≡ false). inl (sym (same_error BadRelation e (sym (cond-false (allows signs found.0) (version_in found.1 >>= of_op found.0) (Err BadRelation) other) ∙ h))))
    (cases_Bool (allows signs found.0))

inside_fault : (signs : Signs) (text inside : List ℕ) (found : Option (Op × List ℕ)) (e : RelationFault) → skip_white text ≡ 40 ∷ inside → sign_in (skip_white inside) ≡ found → relation_of signs found ≡ Err e → (e ≡ BadRelation) ⊎ ((e ≡ BadVersion) × StatesBadVersion signs text)
inside_fault signs text inside None e opening sign h = inl (sym (same_error BadRelation e h))
inside_fault signs text inside (Some found) e opening sign h = signed_fault signs text inside found e opening sign h

opened_fault : (signs : Signs) (text : List ℕ) (found : Option (List ℕ)) (e : RelationFault) → after_char 40 (skip_white text) ≡ found → within_parentheses signs found ≡ Err e → (e ≡ BadRelation) ⊎ ((e ≡ BadVersion) × StatesBadVersion signs text)
opened_fault signs text None e at h = inl (sym (same_error BadRelation e h))
opened_fault signs text (Some inside) e at h = inside_fault signs text inside (sign_in (skip_white inside)) e (after_is 40 (skip_white text) inside at) refl h

rest_fault : (signs : Signs) (text : List ℕ) (e : RelationFault) → relation_in signs text ≡ Err e → (e ≡ BadRelation) ⊎ ((e ≡ BadVersion) × StatesBadVersion signs text)
rest_fault signs text e read =
    let h = sym (relation_is signs text) ∙ read in
    let inside = within_parentheses signs (after_char 40 (skip_white text)) in
    ⊎_elim
    (λ (yes : list_all is_white text ≡ true). absurd (let never : ◌≡◌ {A = Result (Option Relation) RelationFault} (Ok None) (Err e) = sym (cond-true (list_all is_white text) (Ok None) inside yes) ∙ h in cc))
    (λ (other : list_all is_white text ≡ false). opened_fault signs text (after_char 40 (skip_white text)) e refl (sym (cond-false (list_all is_white text) (Ok None) inside other) ∙ h))
    (cases_Bool (list_all is_white text))

rest_fault_is_read : (signs : Signs) (text : List ℕ) → StatesBadVersion signs text → relation_in signs text ≡ Err BadVersion
rest_fault_is_read signs text s =
    let inside = s.within ++ (s.sign ++ s.after) in
    let holds_more : list_all is_white text ≡ false = ap (list_all is_white) s.written ∙ list_all-append is_white s.between (40 ∷ inside) ∙ and_right (list_all is_white s.between) false refl in
    let opening : skip_white text ≡ 40 ∷ inside = ap skip_white s.written ∙ skipped s.between (40 ∷ inside) s.whites.0 refl in
    let front : skip_white inside ≡ s.sign ++ s.after = skipped s.within (s.sign ++ s.after) s.whites.1 (sign_is_not_white s.op s.sign s.after (sign_of s.op s.sign s.signed)) in
    let sign : sign_in (skip_white inside) ≡ Some (s.op, s.after) = ap sign_in front ∙ longest_is_read s.op s.sign s.after s.signed s.longest in
    relation_is signs text
    ∙ cond-false (list_all is_white text) (Ok None) (within_parentheses signs (after_char 40 (skip_white text))) holds_more
    ∙ ap (λ (ys : List ℕ). within_parentheses signs (after_char 40 ys)) opening
    ∙ ap (relation_of signs) sign
    ∙ cond-true (allows signs s.op) (version_in s.after >>= of_op s.op) (Err BadRelation) s.allowed
    ∙ ap (λ (v : Result (List ℕ) RelationFault). v >>= of_op s.op) (version_fault_is_read s.after s.unversioned)

-- Alternatives.

-- behind a good name, each fault is of a relation, or of a version that is stated
behind_fault : (signs : Signs) (name rest : List ℕ) (e : RelationFault) → (after_qualifier rest >>= λ (left : List ℕ). relation_in signs left >>= of_name name) ≡ Err e → (e ≡ BadRelation) ⊎ ((e ≡ BadVersion) × ((left : List ℕ) × (after_qualifier rest ≡ Ok left) × StatesBadVersion signs left))
behind_fault signs name rest e h = ⊎_elim
    (λ (bad : after_qualifier rest ≡ Err e). inl (qualifier_fault rest e bad))
    (λ (good : (left : List ℕ) × (after_qualifier rest ≡ Ok left) × ((relation_in signs left >>= of_name name) ≡ Err e)). ⊎_elim
    (λ (bad : relation_in signs good.0 ≡ Err e). ⊎_elim
    (λ (relation : e ≡ BadRelation). inl relation)
    (λ (version : (e ≡ BadVersion) × StatesBadVersion signs good.0). inr (version.0, (good.0, good.1, version.1)))
    (rest_fault signs good.0 e bad))
    (λ (fine : (o : Option Relation) × (relation_in signs good.0 ≡ Ok o) × (of_name name o ≡ Err e)). absurd (let never : of_name name fine.0 ≡ Err e = fine.2 in cc))
    (stopped_at (relation_in signs good.0) (of_name name) e good.2))
    (stopped_at (after_qualifier rest) (λ (left : List ℕ). relation_in signs left >>= of_name name) e h)

-- which fault a text has
alternative_fault : (signs : Signs) (text : List ℕ) (e : RelationFault) → alternative_in signs text ≡ Err e → ((e ≡ BadName) × HasBadName text) ⊎ ((e ≡ BadRelation) ⊎ ((e ≡ BadVersion) × HasBadVersion signs text))
alternative_fault signs text e read =
    let h = sym (alternative_is signs text) ∙ read in
    let t = skip_white text in
    let name = before_first ends_name t in
    let rest = drop (position_or_len ends_name t) t in
    let further : List ℕ → Result Alternative RelationFault = λ (left : List ℕ). relation_in signs left >>= of_name name in
    let cut : t ≡ name ++ rest = sym (take-append-drop (position_or_len ends_name t) t) in
    ⊎_elim
    (λ (yes : is_package_name name ≡ true). inr (⊎_elim
    (λ (relation : e ≡ BadRelation). inl relation)
    (λ (version : (e ≡ BadVersion) × ((left : List ℕ) × (after_qualifier rest ≡ Ok left) × StatesBadVersion signs left)). inr (version.0, has_bad_version signs text name rest version.1.0 cut yes (qualifier_read rest version.1.0 version.1.1) version.1.2))
    (behind_fault signs name rest e (sym (cond-true (is_package_name name) (after_qualifier rest >>= further) (Err BadName) yes) ∙ h))))
    (λ (other : is_package_name name ≡ false). inl (sym (same_error BadName e (sym (cond-false (is_package_name name) (after_qualifier rest >>= further) (Err BadName) other) ∙ h)), record { word = name; rest = rest; is_word = word_read ends_name text; unnamed = other }))
    (cases_Bool (is_package_name name))
  where
    has_bad_version : (signs : Signs) (text name rest left : List ℕ) → skip_white text ≡ name ++ rest → is_package_name name ≡ true → (qualifier : List ℕ) × IsQualifier qualifier × (rest ≡ qualifier ++ left) → StatesBadVersion signs left → HasBadVersion signs text
    has_bad_version signs text name rest left cut good q s = record {
      before = take_while is_white text;
      name = name;
      qualifier = q.0;
      between = s.between;
      within = s.within;
      op = s.op;
      sign = s.sign;
      after = s.after;
      word = s.unversioned.word;
      rest = s.unversioned.rest;
      written = white_and_rest text ∙ ap (λ (ys : List ℕ). take_while is_white text ++ ys) (cut ∙ ap (λ (ys : List ℕ). name ++ ys) (q.2 ∙ ap (λ (ys : List ℕ). q.0 ++ ys) s.written));
      whites = (front_passes is_white text, s.whites.0, s.whites.1);
      named = good;
      qualified = q.1;
      signed = s.signed;
      longest = s.longest;
      allowed = s.allowed;
      is_word = s.unversioned.is_word;
      unversioned = s.unversioned.unversioned;
    }

bad_name_is_read : (signs : Signs) (text : List ℕ) → HasBadName text → alternative_in signs text ≡ Err BadName
bad_name_is_read signs text b =
    let t = skip_white text in
    let name = before_first ends_name t in
    let rest = drop (position_or_len ends_name t) t in
    let further : List ℕ → Result Alternative RelationFault = λ (left : List ℕ). relation_in signs left >>= of_name name in
    alternative_is signs text
    ∙ cond-false (is_package_name name) (after_qualifier rest >>= further) (Err BadName) (ap is_package_name (word_is_read ends_name text b.word b.rest b.is_word) ∙ b.unnamed)

bad_version_is_read : (signs : Signs) (text : List ℕ) → HasBadVersion signs text → alternative_in signs text ≡ Err BadVersion
bad_version_is_read signs text b =
    let inside = b.within ++ (b.sign ++ b.after) in
    let rest = b.between ++ 40 ∷ inside in
    let states : StatesBadVersion signs rest = record {
      between = b.between;
      within = b.within;
      op = b.op;
      sign = b.sign;
      after = b.after;
      written = refl;
      whites = (b.whites.1, b.whites.2);
      signed = b.signed;
      longest = b.longest;
      allowed = b.allowed;
      unversioned = record { word = b.word; rest = b.rest; is_word = b.is_word; unversioned = b.unversioned };
    } in
    name_is_read signs text b.before b.name b.qualifier rest b.written b.whites.0 b.named b.qualified
    (λ (q : ℕ → Bool) (fail : (c : ℕ) → is_white c ≡ true → q c ≡ false) (opens : q 40 ≡ false). none_in_front_of q is_white fail b.between (40 ∷ inside) b.whites.1 (none_in_front q 40 inside opens))
    ∙ ap (λ (r : Result (Option Relation) RelationFault). r >>= of_name b.name) (rest_fault_is_read signs rest states)

pub bad_names_law : (signs : Signs) (text : List ℕ) → (alternative_in signs text ≡ Err BadName) ↔ HasBadName text
bad_names_law signs text = (
  λ (h : alternative_in signs text ≡ Err BadName). ⊎_elim
      (λ (name : (BadName ≡ BadName) × HasBadName text). name.1)
      (λ (others : (BadName ≡ BadRelation) ⊎ ((BadName ≡ BadVersion) × HasBadVersion signs text)). ⊎_elim
      (λ (relation : BadName ≡ BadRelation). absurd cc)
      (λ (version : (BadName ≡ BadVersion) × HasBadVersion signs text). absurd (let never : BadName ≡ BadVersion = version.0 in cc))
      others)
      (alternative_fault signs text BadName h),
  bad_name_is_read signs text,
)

pub bad_versions_law : (signs : Signs) (text : List ℕ) → (alternative_in signs text ≡ Err BadVersion) ↔ HasBadVersion signs text
bad_versions_law signs text = (
  λ (h : alternative_in signs text ≡ Err BadVersion). ⊎_elim
      (λ (name : (BadVersion ≡ BadName) × HasBadName text). absurd (let never : BadVersion ≡ BadName = name.0 in cc))
      (λ (others : (BadVersion ≡ BadRelation) ⊎ ((BadVersion ≡ BadVersion) × HasBadVersion signs text)). ⊎_elim
      (λ (relation : BadVersion ≡ BadRelation). absurd cc)
      (λ (version : (BadVersion ≡ BadVersion) × HasBadVersion signs text). version.1)
      others)
      (alternative_fault signs text BadVersion h),
  bad_version_is_read signs text,
)
