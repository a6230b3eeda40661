-- A text is read as a source exactly where it spells it.
use Rattle.std.proofs.Common.{◌≡◌, ℕ, Bool, true, false, cond, not, ◌⊎◌, ◌↔◌, List, [], ◌∷◌, ◌++◌, drop, Option, Some, None, Result, Ok, refl, sym, ap, ◌∙◌, subst, inl, inr, ⊎_elim}
use Rattle.std.specs.List.{list_all, take_while, prefix_len, position_or_len, before_first}
use Rattle.std.proofs.lemmas.Bool.{cases_Bool, cond-true, cond-false, and_right}
use Rattle.std.proofs.lemmas.List.{append-nil, take-append-drop}
use Rattle.std.proofs.lemmas.List.Folds.{list_all-append}
use Rattle.deb_control.specs.Text.{is_white}
use Rattle.deb_control.specs.Relations.{◌>>=◌, is_package_name, skip_white, after_char, ends_name, version_in}
use Rattle.deb_control.specs.Binary.{source_in}
use Rattle.deb_control.specs.Spelling.{SpellsVersion, SpellsSource, IsWhite}
use Rattle.deb_control.specs.declared.fault.RelationFault.{RelationFault}
use Rattle.deb_control.specs.declared.fault.RelationFault.TheVariants.{BadName}
use Rattle.deb_control.proofs.Forms.{source_version, after_source, source_is}
use Rattle.deb_control.proofs.Fronts.{front_passes, none_in_front, front_is, behind_is, none_in_front_of}
use Rattle.deb_control.proofs.SpellingLemmas.{IsClosed, went_on, passed, same_value, white_and_rest, skipped, white_ends_name, after_is, version_read, version_is_read, name_is_not_white, name_goes_on}

-- the version behind a parenthesis that opens
opened : (found : Option (List ℕ)) (version : List ℕ) → source_version found ≡ Ok version → (inside : List ℕ) × (found ≡ Some inside) × IsClosed inside version
opened None version h = absurd cc
opened (Some inside) version h = (inside, refl, version_read inside version h)

version_stands : (text inside version : List ℕ) → skip_white text ≡ 40 ∷ inside → IsClosed inside version → SpellsVersion text version
version_stands text inside version opening closed = record {
  before = take_while is_white text;
  within = closed.between;
  behind = closed.behind;
  after = closed.after;
  written = white_and_rest text ∙ ap (λ (ys : List ℕ). take_while is_white text ++ ys) (opening ∙ ap (λ (ys : List ℕ). 40 ∷ ys) closed.written);
  whites = (front_passes is_white text, closed.whites.0, closed.whites.1, closed.whites.2);
  versioned = closed.versioned;
}

-- what follows a source's name is spelled, if it is read
rest_read : (binary name rest : List ℕ) (source : List ℕ × List ℕ) → after_source binary name rest ≡ Ok source → (name ≡ source.0) × (is_package_name name ≡ true) × ((IsWhite rest × (source.1 ≡ binary)) ⊎ SpellsVersion rest source.1)
rest_read binary name rest source h =
    let whole : List ℕ → Result (List ℕ × List ℕ) RelationFault = λ (version : List ℕ). Ok (name, version) in
    let stated = source_version (after_char 40 (skip_white rest)) in
    let good = passed (is_package_name name) (cond (list_all is_white rest) (Ok (name, binary)) (stated >>= whole)) BadName source h in
    ⊎_elim
    (λ (yes : list_all is_white rest ≡ true).
    let same : (name, binary) ≡ source = same_value (name, binary) source (sym (cond-true (list_all is_white rest) (Ok (name, binary)) (stated >>= whole) yes) ∙ good.1) in
    (ap (λ (s : List ℕ × List ℕ). s.0) same, good.0, inl (yes, ap (λ (s : List ℕ × List ℕ). s.1) (sym same))))
    (λ (other : list_all is_white rest ≡ false).
    let read = went_on stated whole source (sym (cond-false (list_all is_white rest) (Ok (name, binary)) (stated >>= whole) other) ∙ good.1) in
    let same : (name, read.0) ≡ source = same_value (name, read.0) source read.2 in
    let opening = opened (after_char 40 (skip_white rest)) read.0 read.1 in
    let stands : SpellsVersion rest read.0 = version_stands rest opening.0 read.0 (after_is 40 (skip_white rest) opening.0 opening.1) opening.2 in
    (ap (λ (s : List ℕ × List ℕ). s.0) same, good.0, inr (subst (λ (s : List ℕ × List ℕ). SpellsVersion rest s.1) same stands)))
    (cases_Bool (list_all is_white rest))

source_read : (binary text : List ℕ) (source : List ℕ × List ℕ) → source_in binary text ≡ Ok source → SpellsSource binary text source
source_read binary text source h =
    let t = skip_white text in
    let name = before_first ends_name t in
    let rest = drop (position_or_len ends_name t) t in
    let read = rest_read binary name rest source (sym (source_is binary text) ∙ h) in
    let cut : t ≡ name ++ rest = sym (take-append-drop (position_or_len ends_name t) t) in
    record {
      before = take_while is_white text;
      rest = rest;
      written = white_and_rest text ∙ ap (λ (ys : List ℕ). take_while is_white text ++ ys) (cut ∙ ap (λ (ys : List ℕ). ys ++ rest) read.0);
      white = front_passes is_white text;
      named = ap is_package_name (sym read.0) ∙ read.1;
      ended = read.2;
    }

-- a version that is spelled after a name is read
version_after : (binary name rest version : List ℕ) → is_package_name name ≡ true → SpellsVersion rest version → after_source binary name rest ≡ Ok (name, version)
version_after binary name rest version good s =
    let whole : List ℕ → Result (List ℕ × List ℕ) RelationFault = λ (v : List ℕ). Ok (name, v) in
    let inside = s.within ++ (version ++ (s.behind ++ 41 ∷ s.after)) in
    let holds_more : list_all is_white rest ≡ false = ap (list_all is_white) s.written ∙ list_all-append is_white s.before (40 ∷ inside) ∙ and_right (list_all is_white s.before) false refl in
    let opening : skip_white rest ≡ 40 ∷ inside = ap skip_white s.written ∙ skipped s.before (40 ∷ inside) s.whites.0 refl in
    let read : version_in inside ≡ Ok version = version_is_read inside version (record { between = s.within; behind = s.behind; after = s.after; written = refl; whites = (s.whites.1, s.whites.2, s.whites.3); versioned = s.versioned }) in
    cond-true (is_package_name name) _ _ good
    ∙ cond-false (list_all is_white rest) _ _ holds_more
    ∙ ap (λ (ys : List ℕ). source_version (after_char 40 ys) >>= whole) opening
    ∙ ap (λ (v : Result (List ℕ) RelationFault). v >>= whole) read

rest_is_read : (binary name rest version : List ℕ) → is_package_name name ≡ true → (IsWhite rest × (version ≡ binary)) ⊎ SpellsVersion rest version → after_source binary name rest ≡ Ok (name, version)
rest_is_read binary name rest version good (inl white) =
    cond-true (is_package_name name) _ _ good ∙ cond-true (list_all is_white rest) _ _ white.0 ∙ ap (λ (v : List ℕ). Ok (name, v)) (sym white.1)
rest_is_read binary name rest version good (inr s) = version_after binary name rest version good s

-- what follows a name begins with white or `(`, if it is not empty
rest_ends_name : (rest version : List ℕ) (binary : List ℕ) → (IsWhite rest × (version ≡ binary)) ⊎ SpellsVersion rest version → prefix_len (λ (c : ℕ). not (ends_name c)) rest ≡ 0
rest_ends_name rest version binary (inl white) =
    let goes : ℕ → Bool = λ (c : ℕ). not (ends_name c) in
    ap (prefix_len goes) (sym (append-nil rest)) ∙ none_in_front_of goes is_white white_ends_name rest [] white.0 refl
rest_ends_name rest version binary (inr s) =
    let goes : ℕ → Bool = λ (c : ℕ). not (ends_name c) in
    let inside = s.within ++ (version ++ (s.behind ++ 41 ∷ s.after)) in
    ap (prefix_len goes) s.written ∙ none_in_front_of goes is_white white_ends_name s.before (40 ∷ inside) s.whites.0 (none_in_front goes 40 inside refl)

source_is_read : (binary text : List ℕ) (source : List ℕ × List ℕ) → SpellsSource binary text source → source_in binary text ≡ Ok source
source_is_read binary text source s =
    let goes : ℕ → Bool = λ (c : ℕ). not (ends_name c) in
    let t : skip_white text ≡ source.0 ++ s.rest = ap skip_white s.written ∙ skipped s.before (source.0 ++ s.rest) s.white (name_is_not_white source.0 s.rest s.named) in
    let chars : list_all goes source.0 ≡ true = name_goes_on source.0 s.named in
    let none : prefix_len goes s.rest ≡ 0 = rest_ends_name s.rest source.1 binary s.ended in
    source_is binary text
    ∙ ap (λ (ys : List ℕ). after_source binary (before_first ends_name ys) (drop (position_or_len ends_name ys) ys)) t
    ∙ ap (λ (ys : List ℕ). after_source binary ys (drop (position_or_len ends_name (source.0 ++ s.rest)) (source.0 ++ s.rest))) (front_is goes source.0 s.rest chars none)
    ∙ ap (λ (ys : List ℕ). after_source binary source.0 ys) (behind_is goes source.0 s.rest chars none)
    ∙ rest_is_read binary source.0 s.rest source.1 s.named s.ended

pub sources_law : (binary text : List ℕ) (source : List ℕ × List ℕ) → (source_in binary text ≡ Ok source) ↔ SpellsSource binary text source
sources_law binary text source = (source_read binary text source, source_is_read binary text source)
