-- A text is read exactly where it is spelled.
use Rattle.std.proofs.Common.{◌≡◌, ℕ, zero, suc, ◌+◌, Bool, true, false, cond, not, ◌&&◌, ◌⊎◌, ◌↔◌, nat_le, List, [], ◌∷◌, ◌++◌, length, take, drop, get_or, codes, Option, Some, None, Result, Ok, Err, refl, sym, ap, ◌∙◌, subst, inl, inr, ⊎_elim, one-add, arith, eqb, eqb-true}
use Rattle.std.specs.List.{list_all, take_while, prefix_len, position_or_len, before_first, slice_split, AllZip}
use Rattle.std.proofs.lemmas.Bool.{cases_Bool, cond-true, cond-false, and_parts, and_from, and_right, false_from_ne_true, eq-eqb}
use Rattle.std.proofs.lemmas.Bool.Decides.{nat_tests}
use Rattle.std.proofs.lemmas.List.{append-nil, take-append-drop}
use Rattle.std.proofs.lemmas.List.Folds.{list_all-append}
use Rattle.deb_control.specs.Text.{is_white}
use Rattle.deb_control.specs.Results.{each_of}
use Rattle.deb_control.specs.Relations.{◌>>=◌, is_package_name, is_package_char, is_version, is_lower_or_digit, is_qualifier_char, allows, skip_white, after_char, ends_name, ends_version, after_qualifier, sign_in, version_in, relation_in, alternative_in, items, clause_in, clauses_in, provision_of, provision_in, provisions_in, is_bar}
use Rattle.deb_control.specs.steps.ClauseSteps.{less_sign, greater_sign, sign_by}
use Rattle.deb_control.specs.FirstFault.{IsLongest}
use Rattle.deb_control.specs.Spelling.{IsWhite, IsQualifier, IsSign, SpellsRelation, SpellsRest, SpellsAlternative, SpellsClause, as_alternative, SpellsProvision}
use Rattle.deb_control.specs.declared.fault.RelationFault.{RelationFault}
use Rattle.deb_control.specs.declared.fault.RelationFault.TheVariants.{BadName, BadVersion, BadRelation}
use Rattle.deb_control.specs.declared.relation.Op.{Op}
use Rattle.deb_control.specs.declared.relation.Op.TheVariants.{Below, AtMost, Equal, AtLeast, Above}
use Rattle.deb_control.specs.declared.relation.Signs.{Signs}
use Rattle.deb_control.specs.declared.relation.Signs.TheVariants.{Any, EqualAlone}
use Rattle.deb_control.specs.declared.relation.Relation.{Relation}
use Rattle.deb_control.specs.declared.relation.Alternative.{Alternative}
use Rattle.deb_control.specs.declared.relation.Provision.{Provision}
use Rattle.deb_version.specs.Text.{is_upstream_byte}
use Rattle.deb_control.proofs.Signs.{sign_is, IsSignOf, sign_of, is_sign}
use Rattle.deb_control.proofs.Forms.{closes, version_then, version_is, relation_of, within_parentheses, relation_is, named, alternative_is, after_run_of_one}
use Rattle.deb_control.proofs.Fronts.{front_passes, none_in_front, front_is, behind_is, pass_wider, none_in_front_of}
use Rattle.deb_control.proofs.VersionChars.{version_passes, empty_is_no_version, goes_on, is_not_white, is_sign_char, is_not_sign, white_is_not_sign}

-- what a step gave, where all went well
pub went_on : {A B E : Type 0} (r : Result A E) (f : A → Result B E) (b : B) → (r >>= f) ≡ Ok b → (a : A) × (r ≡ Ok a) × (f a ≡ Ok b)
went_on (Ok a) f b h = (a, refl, h)
went_on (Err e) f b h = absurd cc

pub passed : {A E : Type 0} (test : Bool) (r : Result A E) (e : E) (a : A) → cond test r (Err e) ≡ Ok a → (test ≡ true) × (r ≡ Ok a)
passed true r e a h = (refl, h)
passed false r e a h = absurd cc

pub same_value : {A E : Type 0} (a b : A) → ◌≡◌ {A = Result A E} (Ok a) (Ok b) → a ≡ b
same_value a b h = cc

-- The text is the white in front, and the rest.
pub white_and_rest : (text : List ℕ) → text ≡ take_while is_white text ++ skip_white text
white_and_rest text = sym (take-append-drop (prefix_len is_white text) text)

-- behind white, what begins with none is the rest
pub skipped : (white text : List ℕ) → IsWhite white → prefix_len is_white text ≡ 0 → skip_white (white ++ text) ≡ text
skipped white text h none = behind_is is_white white text h none

-- single characters
other_than : (x c : ℕ) → eqb x c ≡ false → prefix_len (λ y. eqb y c) (x ∷ []) ≡ 0
other_than x c h = none_in_front (λ y. eqb y c) x [] h

pub white_ends_name : (c : ℕ) → is_white c ≡ true → not (ends_name c) ≡ false
white_ends_name c h = grind (arith, nat_tests)

white_ends_version : (c : ℕ) → is_white c ≡ true → not (ends_version c) ≡ false
white_ends_version c h = grind (arith, nat_tests)

white_is_no_qualifier : (c : ℕ) → is_white c ≡ true → is_qualifier_char c ≡ false
white_is_no_qualifier c h = grind (arith, nat_tests)

white_is_no_colon : (c : ℕ) → is_white c ≡ true → (eqb c 58) ≡ false
white_is_no_colon c h = grind (arith, nat_tests)

package_goes_on : (c : ℕ) → is_package_char c ≡ true → not (ends_name c) ≡ true
package_goes_on c h = grind (arith, nat_tests)

letter_in_package : (c : ℕ) → is_lower_or_digit c ≡ true → is_package_char c ≡ true
letter_in_package c h = grind (arith, nat_tests)

letter_is_not_white : (c : ℕ) → is_lower_or_digit c ≡ true → is_white c ≡ false
letter_is_not_white c h = grind (arith, nat_tests)

-- a character that is asked for, and what follows it
pub after_is : (c : ℕ) (text rest : List ℕ) → after_char c text ≡ Some rest → text ≡ c ∷ rest
after_is c [] rest h = absurd cc
after_is c (x ∷ xs) rest h = ⊎_elim
    (λ (yes : eqb x c ≡ true).
    let found : Some xs ≡ Some rest = sym (cond-true (eqb x c) (Some xs) None yes) ∙ h in
    let char : x ≡ c = eqb-true x c yes in
    let tail : xs ≡ rest = cc in
    ap (λ (y : ℕ). y ∷ xs) char ∙ ap (λ (ys : List ℕ). c ∷ ys) tail)
    (λ (other : eqb x c ≡ false).
    let none : ◌≡◌ {A = Option (List ℕ)} None (Some rest) = sym (cond-false (eqb x c) (Some xs) None other) ∙ h in
    absurd cc)
    (cases_Bool (eqb x c))

-- Qualifiers.

not_zero : (k : ℕ) → eqb (suc k) 0 ≡ false
not_zero k = false_from_ne_true (eqb (suc k) 0) (λ (yes : eqb (suc k) 0 ≡ true). let never : suc k ≡ 0 = eqb-true (suc k) 0 yes in omega arith)

-- a run of some length, and what is left behind it
run_left : (text : List ℕ) (n k : ℕ) → n ≡ suc k → after_run_of_one text n ≡ Ok (drop n text)
run_left text n k h =
    ap (λ (m : ℕ). after_run_of_one text m) h ∙ cond-false (eqb (suc k) 0) (Err BadRelation) (Ok (drop (suc k) text)) (not_zero k) ∙ ap (λ (m : ℕ). Ok (drop m text)) (sym h)

-- a run of qualifier characters that is no empty one
run_read : (c d : ℕ) (ds rest : List ℕ) (n : ℕ) → c ≡ 58 → list_all is_qualifier_char (take n (d ∷ ds)) ≡ true → after_run_of_one (d ∷ ds) n ≡ Ok rest → (qualifier : List ℕ) × IsQualifier qualifier × (c ∷ d ∷ ds ≡ qualifier ++ rest)
run_read c d ds rest zero colon chars h = absurd cc
run_read c d ds rest (suc n) colon chars h = (c ∷ take (suc n) (d ∷ ds), (colon, refl, chars), ap (λ (ys : List ℕ). c ∷ ys) (sym (take-append-drop (suc n) (d ∷ ds)) ∙ ap (λ (ys : List ℕ). take (suc n) (d ∷ ds) ++ ys) (same_value (drop (suc n) (d ∷ ds)) rest (sym (run_left (d ∷ ds) (suc n) n refl) ∙ h))))

word_read : (c : ℕ) (cs rest : List ℕ) → c ≡ 58 → after_run_of_one cs (prefix_len is_qualifier_char cs) ≡ Ok rest → (qualifier : List ℕ) × IsQualifier qualifier × (c ∷ cs ≡ qualifier ++ rest)
word_read c [] rest colon h = absurd cc
word_read c (d ∷ ds) rest colon h = run_read c d ds rest (prefix_len is_qualifier_char (d ∷ ds)) colon (front_passes is_qualifier_char (d ∷ ds)) h

-- a qualifier that is read stands in front of what is left
pub qualifier_read : (text rest : List ℕ) → after_qualifier text ≡ Ok rest → (qualifier : List ℕ) × IsQualifier qualifier × (text ≡ qualifier ++ rest)
unfolding after_qualifier
qualifier_read [] rest h = ([], tt, same_value [] rest h)
qualifier_read (c ∷ cs) rest h = ⊎_elim
    (λ (yes : eqb c 58 ≡ true).
    word_read c cs rest (eqb-true c 58 yes) (sym (cond-true (eqb c 58) (after_run_of_one cs (prefix_len is_qualifier_char cs)) (Ok (c ∷ cs)) yes) ∙ h))
    (λ (other : eqb c 58 ≡ false).
    let read : ◌≡◌ {A = Result (List ℕ) RelationFault} (Ok (c ∷ cs)) (Ok rest) = sym (cond-false (eqb c 58) (after_run_of_one cs (prefix_len is_qualifier_char cs)) (Ok (c ∷ cs)) other) ∙ h in
    ([], tt, same_value (c ∷ cs) rest read))
    (cases_Bool (eqb c 58))

-- what begins with no colon has no qualifier
none_to_read : (rest : List ℕ) → prefix_len (λ c. eqb c 58) rest ≡ 0 → after_qualifier rest ≡ Ok rest
unfolding after_qualifier
none_to_read [] none = refl
none_to_read (c ∷ cs) none = ⊎_elim
    (λ (yes : eqb c 58 ≡ true).
    let more : 1 + prefix_len (λ c. eqb c 58) cs ≡ 0 = sym (cond-true (eqb c 58) (1 + prefix_len (λ c. eqb c 58) cs) 0 yes) ∙ none in
    absurd (omega arith))
    (λ (other : eqb c 58 ≡ false). cond-false (eqb c 58) (after_run_of_one cs (prefix_len is_qualifier_char cs)) (Ok (c ∷ cs)) other)
    (cases_Bool (eqb c 58))

-- a qualifier is read, before what begins with neither a colon nor a character of it
qualifier_is_read : (qualifier rest : List ℕ) → IsQualifier qualifier → prefix_len (λ c. eqb c 58) rest ≡ 0 → prefix_len is_qualifier_char rest ≡ 0 → after_qualifier (qualifier ++ rest) ≡ Ok rest
unfolding after_qualifier
qualifier_is_read [] rest h colon none = none_to_read rest colon
qualifier_is_read (c ∷ []) rest h colon none = absurd (let never : false ≡ true = h.1 in cc)
qualifier_is_read (c ∷ (d ∷ ds)) rest h colon none =
    let first = and_parts (is_qualifier_char d) (list_all is_qualifier_char ds) h.2 in
    let text = (d ∷ ds) ++ rest in
    let len : prefix_len is_qualifier_char text ≡ suc (prefix_len is_qualifier_char (ds ++ rest)) = ap (λ b. cond b (1 + prefix_len is_qualifier_char (ds ++ rest)) 0) first.0 ∙ one-add (prefix_len is_qualifier_char (ds ++ rest)) in
    ap (λ (x : ℕ). cond (eqb x 58) (after_run_of_one text (prefix_len is_qualifier_char text)) (Ok (x ∷ text))) h.0
    ∙ run_left text (prefix_len is_qualifier_char text) (prefix_len is_qualifier_char (ds ++ rest)) len
    ∙ ap Ok (behind_is is_qualifier_char (d ∷ ds) rest h.2 none)

-- Signs.

-- the longest sign: the next character doesn't continue it
abbrev pub IsLongestOf : List ℕ → List ℕ → Type 0
IsLongestOf sign after = (c : ℕ) (more : List ℕ) (op : Op) → after ≡ c ∷ more → IsSignOf op (sign ++ c ∷ []) → ⊥

-- the longest sign in front of a text, and what follows it
abbrev pub IsSplit : List ℕ → Op × List ℕ → Type 0
IsSplit text found = (sign : List ℕ) × (text ≡ sign ++ found.1) × IsSignOf found.0 sign × IsLongestOf sign found.1

-- no sign has three characters
too_long : (op : Op) (a b c : ℕ) → IsSignOf op (a ∷ b ∷ c ∷ []) → ⊥
too_long Below a b c h = absurd cc
too_long AtMost a b c (inl h) = absurd cc
too_long AtMost a b c (inr h) = absurd cc
too_long Equal a b c h = absurd cc
too_long AtLeast a b c (inl h) = absurd cc
too_long AtLeast a b c (inr h) = absurd cc
too_long Above a b c h = absurd cc

-- the first and the second character of a text
abbrev head_of : List ℕ → ℕ
head_of text = get_or text 0 0

abbrev second_of : List ℕ → ℕ
second_of text = get_or text 1 0

-- the signs of two characters
goes_on_with : (op : Op) (a c : ℕ) → IsSignOf op (a ∷ c ∷ []) → ((a ≡ 60) × ((c ≡ 60) ⊎ (c ≡ 61))) ⊎ ((a ≡ 62) × ((c ≡ 62) ⊎ (c ≡ 61)))
goes_on_with Below a c h = inl (ap head_of h, inl (ap second_of h))
goes_on_with AtMost a c (inl h) = inl (ap head_of h, inr (ap second_of h))
goes_on_with AtMost a c (inr h) = absurd cc
goes_on_with Equal a c h = absurd cc
goes_on_with AtLeast a c (inl h) = inr (ap head_of h, inr (ap second_of h))
goes_on_with AtLeast a c (inr h) = absurd cc
goes_on_with Above a c h = inr (ap head_of h, inl (ap second_of h))

apart : (c n : ℕ) → eqb c n ≡ false → c ≡ n → ⊥
apart c n other same = absurd (let never : true ≡ false = sym (eq-eqb c n same) ∙ other in cc)

-- a sign of one character is the longest before any other than itself and `=`
short_is_longest : (a c : ℕ) (cs : List ℕ) → eqb c a ≡ false → eqb c 61 ≡ false → IsLongestOf (a ∷ []) (c ∷ cs)
short_is_longest a c cs once other d more op cut sign =
    let same : c ≡ d = ap head_of cut in
    ⊎_elim
    (λ (less : (a ≡ 60) × ((d ≡ 60) ⊎ (d ≡ 61))). ⊎_elim (λ (twice : d ≡ 60). apart c a once (same ∙ twice ∙ sym less.0)) (λ (equal : d ≡ 61). apart c 61 other (same ∙ equal)) less.1)
    (λ (greater : (a ≡ 62) × ((d ≡ 62) ⊎ (d ≡ 61))). ⊎_elim (λ (twice : d ≡ 62). apart c a once (same ∙ twice ∙ sym greater.0)) (λ (equal : d ≡ 61). apart c 61 other (same ∙ equal)) greater.1)
    (goes_on_with op a d sign)

-- a sign of two characters is the longest, and so are `=` and any at the end
two_are_longest : (a b : ℕ) (cs : List ℕ) → IsLongestOf (a ∷ b ∷ []) cs
two_are_longest a b cs d more op cut sign = too_long op a b d sign

equal_is_longest : (cs : List ℕ) → IsLongestOf (61 ∷ []) cs
equal_is_longest cs d more op cut sign = ⊎_elim
    (λ (less : (61 ≡ 60) × ((d ≡ 60) ⊎ (d ≡ 61))). let never : 61 ≡ 60 = less.0 in omega arith)
    (λ (greater : (61 ≡ 62) × ((d ≡ 62) ⊎ (d ≡ 61))). let never : 61 ≡ 62 = greater.0 in omega arith)
    (goes_on_with op 61 d sign)

end_is_longest : (sign : List ℕ) → IsLongestOf sign []
end_is_longest sign d more op cut longer = absurd cc

less_split : (cs : List ℕ) → IsSplit (60 ∷ cs) (less_sign cs)
less_split [] = (codes "<", refl, inr refl, end_is_longest (codes "<"))
less_split (c ∷ cs) = ⊎_elim
    (λ (twice : eqb c 60 ≡ true). rw twice (codes "<<", ap (λ (x : ℕ). 60 ∷ x ∷ cs) (eqb-true c 60 twice), refl, two_are_longest 60 60 cs))
    (λ (once : eqb c 60 ≡ false). ⊎_elim
    (λ (yes : eqb c 61 ≡ true). rw (once, yes) (codes "<=", ap (λ (x : ℕ). 60 ∷ x ∷ cs) (eqb-true c 61 yes), inl refl, two_are_longest 60 61 cs))
    (λ (other : eqb c 61 ≡ false). rw (once, other) (codes "<", refl, inr refl, short_is_longest 60 c cs once other))
    (cases_Bool (eqb c 61)))
    (cases_Bool (eqb c 60))

greater_split : (cs : List ℕ) → IsSplit (62 ∷ cs) (greater_sign cs)
greater_split [] = (codes ">", refl, inr refl, end_is_longest (codes ">"))
greater_split (c ∷ cs) = ⊎_elim
    (λ (twice : eqb c 62 ≡ true). rw twice (codes ">>", ap (λ (x : ℕ). 62 ∷ x ∷ cs) (eqb-true c 62 twice), refl, two_are_longest 62 62 cs))
    (λ (once : eqb c 62 ≡ false). ⊎_elim
    (λ (yes : eqb c 61 ≡ true). rw (once, yes) (codes ">=", ap (λ (x : ℕ). 62 ∷ x ∷ cs) (eqb-true c 61 yes), inl refl, two_are_longest 62 61 cs))
    (λ (other : eqb c 61 ≡ false). rw (once, other) (codes ">", refl, inr refl, short_is_longest 62 c cs once other))
    (cases_Bool (eqb c 61)))
    (cases_Bool (eqb c 62))

same_found : (a b : Op × List ℕ) → Some a ≡ Some b → a ≡ b
same_found a b h = cc

-- a sign that is read stands in front of what is left
split_by : (text : List ℕ) (found : Op × List ℕ) → sign_by text ≡ Some found → IsSplit text found
unfolding sign_by
split_by [] found h = absurd cc
split_by (c ∷ cs) found h =
    let greater : Option (Op × List ℕ) = cond (eqb c 62) (Some (greater_sign cs)) None in
    let equal : Option (Op × List ℕ) = cond (eqb c 61) (Some (Equal, cs)) greater in
    ⊎_elim
    (λ (less : eqb c 60 ≡ true).
    let here : less_sign cs ≡ found = same_found (less_sign cs) found (sym (cond-true (eqb c 60) (Some (less_sign cs)) equal less) ∙ h) in
    subst (IsSplit (c ∷ cs)) here (subst (λ (x : ℕ). IsSplit (x ∷ cs) (less_sign cs)) (sym (eqb-true c 60 less)) (less_split cs)))
    (λ (other : eqb c 60 ≡ false).
    let left : equal ≡ Some found = sym (cond-false (eqb c 60) (Some (less_sign cs)) equal other) ∙ h in
    ⊎_elim
    (λ (same : eqb c 61 ≡ true).
    let here : (Equal, cs) ≡ found = same_found (Equal, cs) found (sym (cond-true (eqb c 61) (Some (Equal, cs)) greater same) ∙ left) in
    subst (IsSplit (c ∷ cs)) here (codes "=", ap (λ (x : ℕ). x ∷ cs) (eqb-true c 61 same), refl, equal_is_longest cs))
    (λ (more : eqb c 61 ≡ false).
    let last : greater ≡ Some found = sym (cond-false (eqb c 61) (Some (Equal, cs)) greater more) ∙ left in
    ⊎_elim
    (λ (above : eqb c 62 ≡ true).
    let here : greater_sign cs ≡ found = same_found (greater_sign cs) found (sym (cond-true (eqb c 62) (Some (greater_sign cs)) None above) ∙ last) in
    subst (IsSplit (c ∷ cs)) here (subst (λ (x : ℕ). IsSplit (x ∷ cs) (greater_sign cs)) (sym (eqb-true c 62 above)) (greater_split cs)))
    (λ (nothing : eqb c 62 ≡ false).
    let never : ◌≡◌ {A = Option (Op × List ℕ)} None (Some found) = sym (cond-false (eqb c 62) (Some (greater_sign cs)) None nothing) ∙ last in
    absurd cc)
    (cases_Bool (eqb c 62)))
    (cases_Bool (eqb c 61)))
    (cases_Bool (eqb c 60))

pub sign_read : (text : List ℕ) (found : Op × List ℕ) → sign_in text ≡ Some found → IsSplit text found
sign_read text found h = split_by text found (sym (sign_is text) ∙ h)

-- the longest sign is read
longest_less : (rest : List ℕ) → IsLongestOf (codes "<") rest → less_sign rest ≡ (AtMost, rest)
longest_less [] longest = refl
longest_less (c ∷ cs) longest =
    let once : eqb c 60 ≡ false = false_from_ne_true (eqb c 60) (λ (yes : eqb c 60 ≡ true). longest c cs Below refl (ap (λ (x : ℕ). 60 ∷ x ∷ []) (eqb-true c 60 yes))) in
    let other : eqb c 61 ≡ false = false_from_ne_true (eqb c 61) (λ (yes : eqb c 61 ≡ true). longest c cs AtMost refl (inl (ap (λ (x : ℕ). 60 ∷ x ∷ []) (eqb-true c 61 yes)))) in
    rw (once, other) refl

longest_greater : (rest : List ℕ) → IsLongestOf (codes ">") rest → greater_sign rest ≡ (AtLeast, rest)
longest_greater [] longest = refl
longest_greater (c ∷ cs) longest =
    let once : eqb c 62 ≡ false = false_from_ne_true (eqb c 62) (λ (yes : eqb c 62 ≡ true). longest c cs Above refl (ap (λ (x : ℕ). 62 ∷ x ∷ []) (eqb-true c 62 yes))) in
    let other : eqb c 61 ≡ false = false_from_ne_true (eqb c 61) (λ (yes : eqb c 61 ≡ true). longest c cs AtLeast refl (inl (ap (λ (x : ℕ). 62 ∷ x ∷ []) (eqb-true c 61 yes)))) in
    rw (once, other) refl

longest_by : (op : Op) (sign rest : List ℕ) → IsSignOf op sign → IsLongestOf sign rest → sign_by (sign ++ rest) ≡ Some (op, rest)
unfolding sign_by
longest_by Below sign rest h longest = ap (λ (s : List ℕ). sign_by (s ++ rest)) h
longest_by AtMost sign rest (inl h) longest = ap (λ (s : List ℕ). sign_by (s ++ rest)) h
longest_by AtMost sign rest (inr h) longest = ap (λ (s : List ℕ). sign_by (s ++ rest)) h ∙ ap Some (longest_less rest (subst (λ (s : List ℕ). IsLongestOf s rest) h longest))
longest_by Equal sign rest h longest = ap (λ (s : List ℕ). sign_by (s ++ rest)) h
longest_by AtLeast sign rest (inl h) longest = ap (λ (s : List ℕ). sign_by (s ++ rest)) h
longest_by AtLeast sign rest (inr h) longest = ap (λ (s : List ℕ). sign_by (s ++ rest)) h ∙ ap Some (longest_greater rest (subst (λ (s : List ℕ). IsLongestOf s rest) h longest))
longest_by Above sign rest h longest = ap (λ (s : List ℕ). sign_by (s ++ rest)) h

pub longest_is_read : (op : Op) (sign rest : List ℕ) → IsSign op sign → IsLongest sign rest → sign_in (sign ++ rest) ≡ Some (op, rest)
longest_is_read op sign rest h longest =
    sign_is (sign ++ rest)
    ∙ longest_by op sign rest (sign_of op sign h) (λ c more o cut longer. longest c more o cut (is_sign o (sign ++ c ∷ []) longer))

fails_in_front : (q : ℕ → Bool) (c : ℕ) (cs : List ℕ) → prefix_len q (c ∷ cs) ≡ 0 → q c ≡ false
fails_in_front q c cs none = false_from_ne_true (q c)
    (λ (yes : q c ≡ true).
    let more : 1 + prefix_len q cs ≡ 0 = sym (cond-true (q c) (1 + prefix_len q cs) 0 yes) ∙ none in
    omega arith)

-- each character of a sign but the first goes on with one of a sign
sign_goes_on : (op : Op) (sign : List ℕ) (c : ℕ) → IsSignOf op (sign ++ c ∷ []) → (sign ≡ []) ⊎ (is_sign_char c ≡ true)
sign_goes_on op [] c h = inl refl
sign_goes_on op (a ∷ []) c h = inr (⊎_elim
    (λ (less : (a ≡ 60) × ((c ≡ 60) ⊎ (c ≡ 61))). ⊎_elim (λ (twice : c ≡ 60). ap is_sign_char twice) (λ (equal : c ≡ 61). ap is_sign_char equal) less.1)
    (λ (greater : (a ≡ 62) × ((c ≡ 62) ⊎ (c ≡ 61))). ⊎_elim (λ (twice : c ≡ 62). ap is_sign_char twice) (λ (equal : c ≡ 61). ap is_sign_char equal) greater.1)
    (goes_on_with op a c h))
sign_goes_on op (a ∷ (b ∷ [])) c h = absurd (too_long op a b c h)
sign_goes_on op (a ∷ (b ∷ (d ∷ ds))) c h = absurd (longer op h)
  where
    longer : (o : Op) → IsSignOf o (a ∷ b ∷ d ∷ (ds ++ c ∷ [])) → ⊥
    longer Below e = absurd cc
    longer AtMost (inl e) = absurd cc
    longer AtMost (inr e) = absurd cc
    longer Equal e = absurd cc
    longer AtLeast (inl e) = absurd cc
    longer AtLeast (inr e) = absurd cc
    longer Above e = absurd cc

sign_has_some : (op : Op) → IsSignOf op [] → ⊥
sign_has_some Below h = absurd cc
sign_has_some AtMost (inl h) = absurd cc
sign_has_some AtMost (inr h) = absurd cc
sign_has_some Equal h = absurd cc
sign_has_some AtLeast (inl h) = absurd cc
sign_has_some AtLeast (inr h) = absurd cc
sign_has_some Above h = absurd cc

-- before what begins with no character of a sign, a sign is the longest
ends_sign : (op : Op) (sign rest : List ℕ) → IsSignOf op sign → prefix_len is_sign_char rest ≡ 0 → IsLongestOf sign rest
ends_sign op sign rest signed none c more longer cut sign_more =
    let fails : is_sign_char c ≡ false = fails_in_front is_sign_char c more (ap (prefix_len is_sign_char) (sym cut) ∙ none) in
    ⊎_elim
    (λ (empty : sign ≡ []). sign_has_some op (subst (IsSignOf op) empty signed))
    (λ (passes : is_sign_char c ≡ true). absurd (let never : false ≡ true = sym fails ∙ passes in cc))
    (sign_goes_on longer sign c sign_more)

sign_is_read : (op : Op) (sign rest : List ℕ) → IsSignOf op sign → prefix_len is_sign_char rest ≡ 0 → sign_in (sign ++ rest) ≡ Some (op, rest)
sign_is_read op sign rest h none = sign_is (sign ++ rest) ∙ longest_by op sign rest h (ends_sign op sign rest h none)

-- a sign begins with no white
pub sign_is_not_white : (op : Op) (sign rest : List ℕ) → IsSignOf op sign → prefix_len is_white (sign ++ rest) ≡ 0
sign_is_not_white Below sign rest h = ap (λ (s : List ℕ). prefix_len is_white (s ++ rest)) h
sign_is_not_white AtMost sign rest (inl h) = ap (λ (s : List ℕ). prefix_len is_white (s ++ rest)) h
sign_is_not_white AtMost sign rest (inr h) = ap (λ (s : List ℕ). prefix_len is_white (s ++ rest)) h
sign_is_not_white Equal sign rest h = ap (λ (s : List ℕ). prefix_len is_white (s ++ rest)) h
sign_is_not_white AtLeast sign rest (inl h) = ap (λ (s : List ℕ). prefix_len is_white (s ++ rest)) h
sign_is_not_white AtLeast sign rest (inr h) = ap (λ (s : List ℕ). prefix_len is_white (s ++ rest)) h
sign_is_not_white Above sign rest h = ap (λ (s : List ℕ). prefix_len is_white (s ++ rest)) h

-- Versions.

-- a version and `)`, with white before each and after
pub record IsClosed (text version : List ℕ) : Type 0 where
  pub between : List ℕ
  pub behind : List ℕ
  pub after : List ℕ
  pub written : text ≡ between ++ (version ++ (behind ++ 41 ∷ after))
  pub whites : IsWhite between × IsWhite behind × IsWhite after
  pub versioned : is_version version ≡ true

end_read : (found : Option (List ℕ)) → closes found ≡ true → (rest : List ℕ) × (found ≡ Some rest) × IsWhite rest
end_read None h = absurd cc
end_read (Some rest) h = (rest, refl, h)

pub version_read : (text version : List ℕ) → version_in text ≡ Ok version → IsClosed text version
version_read text version h =
    let t = skip_white text in
    let word = before_first ends_version t in
    let rest = drop (position_or_len ends_version t) t in
    let good = passed (is_version word) (cond (closes (after_char 41 (skip_white rest))) (Ok word) (Err BadRelation)) BadVersion version (sym (version_is text) ∙ h) in
    let ended = passed (closes (after_char 41 (skip_white rest))) (Ok word) BadRelation version good.1 in
    let end = end_read (after_char 41 (skip_white rest)) ended.0 in
    let closed : skip_white rest ≡ 41 ∷ end.0 = after_is 41 (skip_white rest) end.0 end.1 in
    let behind : rest ≡ take_while is_white rest ++ 41 ∷ end.0 = white_and_rest rest ∙ ap (λ (ys : List ℕ). take_while is_white rest ++ ys) closed in
    let cut : t ≡ word ++ rest = sym (take-append-drop (position_or_len ends_version t) t) in
    subst (IsClosed text) (same_value word version ended.1) (record {
      between = take_while is_white text;
      behind = take_while is_white rest;
      after = end.0;
      written = white_and_rest text ∙ ap (λ (ys : List ℕ). take_while is_white text ++ ys) (cut ∙ ap (λ (ys : List ℕ). word ++ ys) behind);
      whites = (front_passes is_white text, front_passes is_white rest, end.2);
      versioned = good.0;
    })

-- a version is not empty, and begins with no white
version_is_not_white : (version rest : List ℕ) → is_version version ≡ true → prefix_len is_white (version ++ rest) ≡ 0
version_is_not_white [] rest h = absurd (empty_is_no_version h)
version_is_not_white (c ∷ cs) rest h =
    let passes = version_passes (c ∷ cs) h in
    none_in_front is_white c (cs ++ rest) (is_not_white c (and_parts _ _ passes).0)

closed_is_read : (version behind after : List ℕ) → is_version version ≡ true → IsWhite behind → IsWhite after → version_then version (behind ++ 41 ∷ after) ≡ Ok version
closed_is_read version behind after good white last =
    let end : skip_white (behind ++ 41 ∷ after) ≡ 41 ∷ after = skipped behind (41 ∷ after) white refl in
    let closes_it : closes (after_char 41 (skip_white (behind ++ 41 ∷ after))) ≡ true = ap (λ (ys : List ℕ). closes (after_char 41 ys)) end ∙ last in
    cond-true (is_version version) _ _ good ∙ cond-true (closes (after_char 41 (skip_white (behind ++ 41 ∷ after)))) _ _ closes_it

pub version_is_read : (text version : List ℕ) → IsClosed text version → version_in text ≡ Ok version
version_is_read text version s =
    let goes : ℕ → Bool = λ (c : ℕ). not (ends_version c) in
    let more = s.behind ++ 41 ∷ s.after in
    let t : skip_white text ≡ version ++ more = ap skip_white s.written ∙ skipped s.between (version ++ more) s.whites.0 (version_is_not_white version more s.versioned) in
    let chars : list_all goes version ≡ true = pass_wider goes is_upstream_byte goes_on version (version_passes version s.versioned) in
    let none : prefix_len goes more ≡ 0 = none_in_front_of goes is_white white_ends_version s.behind (41 ∷ s.after) s.whites.1 (none_in_front goes 41 s.after refl) in
    version_is text
    ∙ ap (λ (ys : List ℕ). version_then (before_first ends_version ys) (drop (position_or_len ends_version ys) ys)) t
    ∙ ap (λ (ys : List ℕ). version_then ys (drop (position_or_len ends_version (version ++ more)) (version ++ more))) (front_is goes version more chars none)
    ∙ ap (λ (ys : List ℕ). version_then version ys) (behind_is goes version more chars none)
    ∙ closed_is_read version s.behind s.after s.versioned s.whites.1 s.whites.2

-- Relations.

opened : (signs : Signs) (found : Option (List ℕ)) (o : Option Relation) → within_parentheses signs found ≡ Ok o → (inside : List ℕ) × (found ≡ Some inside) × (relation_of signs (sign_in (skip_white inside)) ≡ Ok o)
opened signs None o h = absurd cc
opened signs (Some inside) o h = (inside, refl, h)

-- a relation that stands within parentheses, cut in its parts
record IsStated (signs : Signs) (found : Option (Op × List ℕ)) (o : Option Relation) : Type 0 where
  pub sign : Op × List ℕ
  pub version : List ℕ
  pub signed : found ≡ Some sign
  pub allowed : allows signs sign.0 ≡ true
  pub read : version_in sign.1 ≡ Ok version
  pub stated : Some (record { op = sign.0; version = version }) ≡ o

stated : (signs : Signs) (found : Option (Op × List ℕ)) (o : Option Relation) → relation_of signs found ≡ Ok o → IsStated signs found o
stated signs None o h = absurd cc
stated signs (Some sign) o h =
    let of_version : List ℕ → Result (Option Relation) RelationFault = λ (version : List ℕ). Ok (Some (record { op = sign.0; version = version })) in
    let good = passed (allows signs sign.0) (version_in sign.1 >>= of_version) BadRelation o h in
    let more = went_on (version_in sign.1) of_version o good.1 in
    record {
      sign = sign;
      version = more.0;
      signed = refl;
      allowed = good.0;
      read = more.1;
      stated = same_value _ o more.2;
    }

relation_stands : (signs : Signs) (text inside : List ℕ) (op : Op) (left version : List ℕ) → skip_white text ≡ 40 ∷ inside → allows signs op ≡ true → IsSplit (skip_white inside) (op, left) → IsClosed left version → SpellsRelation signs text (record { op = op; version = version })
relation_stands signs text inside op left version opening allowed cut closed = record {
  before = take_while is_white text;
  within = take_while is_white inside;
  sign = cut.0;
  between = closed.between;
  behind = closed.behind;
  after = closed.after;
  written =
      white_and_rest text
      ∙ ap (λ (ys : List ℕ). take_while is_white text ++ ys) (opening ∙ ap (λ (ys : List ℕ). 40 ∷ ys) (white_and_rest inside ∙ ap (λ (ys : List ℕ). take_while is_white inside ++ ys) (cut.1 ∙ ap (λ (ys : List ℕ). cut.0 ++ ys) closed.written)));
  whites = (front_passes is_white text, front_passes is_white inside, closed.whites.0, closed.whites.1, closed.whites.2);
  signed = is_sign op cut.0 cut.2;
  allowed = allowed;
  versioned = closed.versioned;
}

-- what follows a name is spelled, if it is read
rest_read : (signs : Signs) (text : List ℕ) (o : Option Relation) → relation_in signs text ≡ Ok o → SpellsRest signs text o
rest_read signs text o read =
    let h = sym (relation_is signs text) ∙ read in
    ⊎_elim
    (λ (yes : list_all is_white text ≡ true).
    let none : ◌≡◌ {A = Option Relation} None o = same_value None o (sym (cond-true (list_all is_white text) (Ok None) (within_parentheses signs (after_char 40 (skip_white text))) yes) ∙ h) in
    subst (SpellsRest signs text) none yes)
    (λ (other : list_all is_white text ≡ false).
    let opening = opened signs (after_char 40 (skip_white text)) o (sym (cond-false (list_all is_white text) (Ok None) (within_parentheses signs (after_char 40 (skip_white text))) other) ∙ h) in
    let s = stated signs (sign_in (skip_white opening.0)) o opening.2 in
    subst (SpellsRest signs text) s.stated
    (relation_stands signs text opening.0 s.sign.0 s.sign.1 s.version (after_is 40 (skip_white text) opening.0 opening.1) s.allowed (sign_read (skip_white opening.0) s.sign s.signed) (version_read s.sign.1 s.version s.read)))
    (cases_Bool (list_all is_white text))

-- what is spelled after a name is read
relation_is_read : (signs : Signs) (text : List ℕ) (r : Relation) → SpellsRelation signs text r → relation_in signs text ≡ Ok (Some r)
relation_is_read signs text r s =
    let end = r.version ++ (s.behind ++ 41 ∷ s.after) in
    let left = s.between ++ end in
    let inside = s.within ++ (s.sign ++ left) in
    let holds_more : list_all is_white text ≡ false = ap (list_all is_white) s.written ∙ list_all-append is_white s.before (40 ∷ inside) ∙ and_right (list_all is_white s.before) false refl in
    let opening : skip_white text ≡ 40 ∷ inside = ap skip_white s.written ∙ skipped s.before (40 ∷ inside) s.whites.0 refl in
    let sign_front : skip_white inside ≡ s.sign ++ left = skipped s.within (s.sign ++ left) s.whites.1 (sign_is_not_white r.op s.sign left (sign_of r.op s.sign s.signed)) in
    let none_behind : prefix_len is_sign_char (s.behind ++ 41 ∷ s.after) ≡ 0 = none_in_front_of is_sign_char is_white white_is_not_sign s.behind (41 ∷ s.after) s.whites.3 refl in
    let none_here : prefix_len is_sign_char end ≡ 0 = none_in_front_of is_sign_char is_upstream_byte is_not_sign r.version (s.behind ++ 41 ∷ s.after) (version_passes r.version s.versioned) none_behind in
    let none : prefix_len is_sign_char left ≡ 0 = none_in_front_of is_sign_char is_white white_is_not_sign s.between end s.whites.2 none_here in
    let sign : sign_in (skip_white inside) ≡ Some (r.op, left) = ap sign_in sign_front ∙ sign_is_read r.op s.sign left (sign_of r.op s.sign s.signed) none in
    let of_version : List ℕ → Result (Option Relation) RelationFault = λ (version : List ℕ). Ok (Some (record { op = r.op; version = version })) in
    let version : version_in left ≡ Ok r.version = version_is_read left r.version (record { between = s.between; behind = s.behind; after = s.after; written = refl; whites = (s.whites.2, s.whites.3, s.whites.4); versioned = s.versioned }) in
    relation_is signs text
    ∙ cond-false (list_all is_white text) _ _ holds_more
    ∙ ap (λ (ys : List ℕ). within_parentheses signs (after_char 40 ys)) opening
    ∙ ap (relation_of signs) sign
    ∙ cond-true (allows signs r.op) (version_in left >>= of_version) (Err BadRelation) s.allowed
    ∙ ap (λ (v : Result (List ℕ) RelationFault). v >>= of_version) version

rest_is_read : (signs : Signs) (text : List ℕ) (o : Option Relation) → SpellsRest signs text o → relation_in signs text ≡ Ok o
rest_is_read signs text None white = relation_is signs text ∙ cond-true (list_all is_white text) _ _ white
rest_is_read signs text (Some r) s = relation_is_read signs text r s

-- what follows a name begins with white or `(`, if it is not empty
rest_begins : (signs : Signs) (text : List ℕ) (o : Option Relation) → SpellsRest signs text o → (q : ℕ → Bool) → ((c : ℕ) → is_white c ≡ true → q c ≡ false) → q 40 ≡ false → prefix_len q text ≡ 0
rest_begins signs text None white q fail opens = ap (prefix_len q) (sym (append-nil text)) ∙ none_in_front_of q is_white fail text [] white refl
rest_begins signs text (Some r) s q fail opens =
    let inside = s.within ++ (s.sign ++ (s.between ++ (r.version ++ (s.behind ++ 41 ∷ s.after)))) in
    ap (prefix_len q) s.written ∙ none_in_front_of q is_white fail s.before (40 ∷ inside) s.whites.0 (none_in_front q 40 inside opens)

-- Alternatives.

-- a name is not empty, begins with no white, and no character of it ends it
pub name_is_not_white : (name rest : List ℕ) → is_package_name name ≡ true → prefix_len is_white (name ++ rest) ≡ 0
unfolding is_package_name
name_is_not_white [] rest h = absurd cc
name_is_not_white (c ∷ cs) rest h =
    let both = and_parts (is_lower_or_digit c && nat_le 1 (length cs)) (list_all is_package_char cs) h in
    none_in_front is_white c (cs ++ rest) (letter_is_not_white c (and_parts (is_lower_or_digit c) (nat_le 1 (length cs)) both.0).0)

pub name_goes_on : (name : List ℕ) → is_package_name name ≡ true → list_all (λ (c : ℕ). not (ends_name c)) name ≡ true
unfolding is_package_name
name_goes_on [] h = absurd cc
name_goes_on (c ∷ cs) h =
    let both = and_parts (is_lower_or_digit c && nat_le 1 (length cs)) (list_all is_package_char cs) h in
    let first = letter_in_package c (and_parts (is_lower_or_digit c) (nat_le 1 (length cs)) both.0).0 in
    and_from (not (ends_name c)) (list_all (λ (x : ℕ). not (ends_name x)) cs) (package_goes_on c first) (pass_wider (λ (x : ℕ). not (ends_name x)) is_package_char package_goes_on cs both.1)

-- a text that is cut twice
in_three : (front name text t rest end : List ℕ) → text ≡ front ++ t → t ≡ name ++ rest → rest ≡ end → text ≡ front ++ (name ++ end)
in_three front name text t rest end first second third = first ∙ ap (λ (ys : List ℕ). front ++ ys) (second ∙ ap (λ (ys : List ℕ). name ++ ys) third)

alternative_read : (signs : Signs) (text : List ℕ) (a : Alternative) → alternative_in signs text ≡ Ok a → SpellsAlternative signs text a
alternative_read signs text a h =
    let t = skip_white text in
    let name = before_first ends_name t in
    let rest = drop (position_or_len ends_name t) t in
    let whole : Option Relation → Result Alternative RelationFault = λ (o : Option Relation). Ok (record { name = name; relation = o }) in
    let further : List ℕ → Result Alternative RelationFault = λ (more : List ℕ). relation_in signs more >>= whole in
    let good = passed (is_package_name name) (after_qualifier rest >>= further) BadName a (sym (alternative_is signs text) ∙ h) in
    let behind = went_on (after_qualifier rest) further a good.1 in
    let relation = went_on (relation_in signs behind.0) whole a behind.2 in
    let qualifier = qualifier_read rest behind.0 behind.1 in
    let cut : t ≡ name ++ rest = sym (take-append-drop (position_or_len ends_name t) t) in
    subst (SpellsAlternative signs text) (same_value _ a relation.2) (record {
      before = take_while is_white text;
      qualifier = qualifier.0;
      rest = behind.0;
      written = in_three (take_while is_white text) name text t rest (qualifier.0 ++ behind.0) (white_and_rest text) cut qualifier.2;
      white = front_passes is_white text;
      named = good.0;
      qualified = qualifier.1;
      ended = rest_read signs behind.0 relation.0 relation.1;
    })

-- a qualifier begins with what ends a name
qualifier_ends_name : (qualifier rest : List ℕ) → IsQualifier qualifier → prefix_len (λ (c : ℕ). not (ends_name c)) rest ≡ 0 → prefix_len (λ (c : ℕ). not (ends_name c)) (qualifier ++ rest) ≡ 0
qualifier_ends_name [] rest h none = none
qualifier_ends_name (c ∷ word) rest h none = none_in_front (λ (x : ℕ). not (ends_name x)) c (word ++ rest) (ap (λ (x : ℕ). not (ends_name x)) h.0)

-- an alternative of this name
abbrev pub of_name : List ℕ → Option Relation → Result Alternative RelationFault
of_name name o = Ok (record { name = name; relation = o })

-- a text with a name and a qualifier in front is read up to what follows them, which begins with white or `(`
pub name_is_read : (signs : Signs) (text before name qualifier rest : List ℕ) → text ≡ before ++ (name ++ (qualifier ++ rest)) → IsWhite before → is_package_name name ≡ true → IsQualifier qualifier → ((q : ℕ → Bool) → ((c : ℕ) → is_white c ≡ true → q c ≡ false) → q 40 ≡ false → prefix_len q rest ≡ 0) → alternative_in signs text ≡ (relation_in signs rest >>= of_name name)
name_is_read signs text before name qualifier rest written white good qualified begins =
    let goes : ℕ → Bool = λ (c : ℕ). not (ends_name c) in
    let more = qualifier ++ rest in
    let further : List ℕ → Result Alternative RelationFault = λ (left : List ℕ). relation_in signs left >>= of_name name in
    let t : skip_white text ≡ name ++ more = ap skip_white written ∙ skipped before (name ++ more) white (name_is_not_white name more good) in
    let chars : list_all goes name ≡ true = name_goes_on name good in
    let none : prefix_len goes more ≡ 0 = qualifier_ends_name qualifier rest qualified (begins goes white_ends_name refl) in
    let read : after_qualifier more ≡ Ok rest = qualifier_is_read qualifier rest qualified (begins (λ (c : ℕ). eqb c 58) white_is_no_colon refl) (begins is_qualifier_char white_is_no_qualifier refl) in
    alternative_is signs text
    ∙ ap (λ (ys : List ℕ). named signs (before_first ends_name ys) (drop (position_or_len ends_name ys) ys)) t
    ∙ ap (λ (ys : List ℕ). named signs ys (drop (position_or_len ends_name (name ++ more)) (name ++ more))) (front_is goes name more chars none)
    ∙ ap (λ (ys : List ℕ). named signs name ys) (behind_is goes name more chars none)
    ∙ cond-true (is_package_name name) (after_qualifier more >>= further) (Err BadName) good
    ∙ ap (λ (r : Result (List ℕ) RelationFault). r >>= further) read

alternative_is_read : (signs : Signs) (text : List ℕ) (a : Alternative) → SpellsAlternative signs text a → alternative_in signs text ≡ Ok a
alternative_is_read signs text a s =
    name_is_read signs text s.before a.name s.qualifier s.rest s.written s.white s.named s.qualified (rest_begins signs s.rest a.relation s.ended)
    ∙ ap (λ (r : Result (Option Relation) RelationFault). r >>= of_name a.name) (rest_is_read signs s.rest a.relation s.ended)

-- Lists.

module _ {A : Type 0} (read : List ℕ → Result A RelationFault) (Spells : List ℕ → A → Type 0) where
  each_read : ((text : List ℕ) (value : A) → read text ≡ Ok value → Spells text value) → (texts : List (List ℕ)) (values : List A) → each_of read texts ≡ Ok values → AllZip Spells texts values
  each_read one [] [] h = tt
  each_read one [] (value ∷ values) h = absurd cc
  each_read one (text ∷ texts) values h =
      let further : A → Result (List A) RelationFault = λ (value : A). each_of read texts >>= λ (more : List A). Ok (value ∷ more) in
      let first = went_on (read text) further values h in
      let joined : List A → Result (List A) RelationFault = λ (more : List A). Ok (first.0 ∷ more) in
      let rest = went_on (each_of read texts) joined values first.2 in
      subst (AllZip Spells (text ∷ texts)) (same_value (first.0 ∷ rest.0) values rest.2) (one text first.0 first.1, each_read one texts rest.0 rest.1)

  each_is_read : ((text : List ℕ) (value : A) → Spells text value → read text ≡ Ok value) → (texts : List (List ℕ)) (values : List A) → AllZip Spells texts values → each_of read texts ≡ Ok values
  each_is_read one [] [] s = refl
  each_is_read one [] (value ∷ values) s = absurd s
  each_is_read one (text ∷ texts) [] s = absurd s
  each_is_read one (text ∷ texts) (value ∷ values) s =
      let further : A → Result (List A) RelationFault = λ (first : A). each_of read texts >>= λ (more : List A). Ok (first ∷ more) in
      ap (λ (r : Result A RelationFault). r >>= further) (one text value s.0)
      ∙ ap (λ (r : Result (List A) RelationFault). r >>= λ (more : List A). Ok (value ∷ more)) (each_is_read one texts values s.1)

clause_read : (text : List ℕ) (clause : List Alternative) → clause_in text ≡ Ok clause → SpellsClause text clause
unfolding clause_in
clause_read text clause h = each_read (alternative_in Any) (SpellsAlternative Any) (alternative_read Any) (slice_split is_bar text) clause h

clause_is_read : (text : List ℕ) (clause : List Alternative) → SpellsClause text clause → clause_in text ≡ Ok clause
unfolding clause_in
clause_is_read text clause s = each_is_read (alternative_in Any) (SpellsAlternative Any) (alternative_is_read Any) (slice_split is_bar text) clause s

pub clauses_law : (text : List ℕ) (clauses : List (List Alternative)) → (clauses_in text ≡ Ok clauses) ↔ AllZip SpellsClause (items text) clauses
unfolding clauses_in
clauses_law text clauses = (each_read clause_in SpellsClause clause_read (items text) clauses, each_is_read clause_in SpellsClause clause_is_read (items text) clauses)

-- Provisions.

equal_alone : (op : Op) → allows EqualAlone op ≡ true → op ≡ Equal
equal_alone Below h = absurd cc
equal_alone AtMost h = absurd cc
equal_alone Equal h = refl
equal_alone AtLeast h = absurd cc
equal_alone Above h = absurd cc

-- with `=` alone, an alternative is what its provision reads like
only_equal : (text name : List ℕ) (o : Option Relation) → SpellsRest EqualAlone text o → as_alternative (provision_of (record { name = name; relation = o })) ≡ record { name = name; relation = o }
only_equal text name None s = refl
only_equal text name (Some r) s = ap (λ (op : Op). record { name = name; relation = Some (record { op = op; version = r.version }) }) (sym (equal_alone r.op s.allowed))

provision_read : (text : List ℕ) (p : Provision) → provision_in text ≡ Ok p → SpellsProvision text p
unfolding provision_in
provision_read text p h =
    let whole : Alternative → Result Provision RelationFault = λ (a : Alternative). Ok (provision_of a) in
    let read = went_on (alternative_in EqualAlone text) whole p h in
    let s = alternative_read EqualAlone text read.0 read.1 in
    let same : read.0 ≡ as_alternative p = sym (only_equal s.rest read.0.name read.0.relation s.ended) ∙ ap as_alternative (same_value (provision_of read.0) p read.2) in
    subst (SpellsAlternative EqualAlone text) same s

given_back : (name : List ℕ) (version : Option (List ℕ)) → provision_of (as_alternative (record { name = name; version = version })) ≡ record { name = name; version = version }
given_back name None = refl
given_back name (Some v) = refl

provision_is_read : (text : List ℕ) (p : Provision) → SpellsProvision text p → provision_in text ≡ Ok p
unfolding provision_in
provision_is_read text p s =
    let whole : Alternative → Result Provision RelationFault = λ (a : Alternative). Ok (provision_of a) in
    ap (λ (r : Result Alternative RelationFault). r >>= whole) (alternative_is_read EqualAlone text (as_alternative p) s)
    ∙ ap Ok (given_back p.name p.version)

pub provisions_law : (text : List ℕ) (provisions : List Provision) → (provisions_in text ≡ Ok provisions) ↔ AllZip SpellsProvision (items text) provisions
unfolding provisions_in
provisions_law text provisions = (each_read provision_in SpellsProvision provision_read (items text) provisions, each_is_read provision_in SpellsProvision provision_is_read (items text) provisions)
