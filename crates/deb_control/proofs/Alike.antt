-- Binary packages that need the same, fields in which nothing stands, and clauses of one alternative.
use Rattle.std.proofs.Common.{◌≡◌, ℕ, List, [], ◌∷◌, ◌++◌, true, Result, Ok, Err, refl, sym, ap, subst, ◌∙◌}
use Rattle.std.specs.List.{slice_split}
use Rattle.std.proofs.lemmas.Bool.{and_parts}
use Rattle.std.proofs.lemmas.Slice.Eq.{bytes_eq-Decides}
use Rattle.std.specs.Str.{bytes_eq}
use Rattle.deb_control.specs.Paragraphs.{Field, value_of}
use Rattle.deb_control.specs.Results.{each_of, needs}
use Rattle.deb_control.specs.Relations.{◌>>=◌, items, is_bar, is_package_name, is_version, alternative_in, clause_in, clauses_in, provisions_in}
use Rattle.deb_control.specs.Binary.{field_name, required, optional, of_field, is_architecture, binary_of}
use Rattle.deb_control.specs.steps.ClauseSteps.{only_one}
use Rattle.deb_control.specs.steps.BinarySteps.{needs_in, needs_same, binary_by, source_of}
use Rattle.deb_control.specs.declared.relation.Signs.TheVariants.{Any}
use Rattle.deb_control.specs.declared.fault.BinaryField.TheVariants.{Package, Version, Architecture, Source, PreDepends, Depends, Provides}
use Rattle.deb_control.specs.declared.fault.BinaryFault.TheVariants.{BadName, BadVersion}
use Rattle.deb_control.specs.declared.binary.Binary.{Binary}

-- steps that go on alike give the same
same_after : {A B E : Type 0} (r : Result A E) (f g : A → Result B E) → ((a : A) → f a ≡ g a) → (r >>= f) ≡ (r >>= g)
same_after (Ok a) f g alike = alike a
same_after (Err e) f g alike = refl

-- two lists are read one after the other, or at once
at_once : {A B C E : Type 0} (first second : Result (List A) E) (third : Result B E) (whole : List A → B → C)
    → ((first >>= λ a. second >>= λ b. Ok (a ++ b)) >>= λ ab. third >>= λ c. Ok (whole ab c)) ≡ (first >>= λ a. second >>= λ b. third >>= λ c. Ok (whole (a ++ b) c))
at_once (Ok a) (Ok b) third whole = refl
at_once (Ok a) (Err e) third whole = refl
at_once (Err e) second third whole = refl

pub by_needs : (p : List Field) → binary_by p ≡ binary_of p
unfolding binary_by needs_in binary_of
by_needs p =
    same_after (required p Package) _ _ (λ name.
    same_after (required p Version) _ _ (λ version.
    same_after (required p Architecture) _ _ (λ architecture.
    same_after (needs (is_package_name name) (BadName Package)) _ _ (λ x.
    same_after (needs (is_version version) (BadVersion Version)) _ _ (λ y.
    same_after (needs (is_architecture architecture) (BadName Architecture)) _ _ (λ z.
    same_after (of_field Source (source_of (value_of p (field_name Source)) name version)) _ _ (λ source.
    at_once (of_field PreDepends (clauses_in (optional p PreDepends))) (of_field Depends (clauses_in (optional p Depends))) (of_field Provides (provisions_in (optional p Provides))) _)))))))

-- what follows from a step that goes on
then_ok : {A B E : Type 0} (P : Type 0) (r : Result A E) (f : A → Result B E) (b : B) → (r >>= f) ≡ Ok b → ((a : A) → r ≡ Ok a → f a ≡ Ok b → P) → P
then_ok P (Ok a) f b e go = go a refl e
then_ok P (Err x) f b e go = absurd cc

same : {A E : Type 0} (r : Result A E) (a b : A) → r ≡ Ok a → r ≡ Ok b → a ≡ b
same r a b e f = cc

-- the last step
ends : {A B E : Type 0} (P : B → Type 0) (r : Result A E) (f : A → B) (b : B) → (r >>= λ a. Ok (f a)) ≡ Ok b → ((a : A) → r ≡ Ok a → P (f a)) → P b
ends P (Ok a) f b e go = subst P (same (Ok (f a)) (f a) b refl e) (go a refl)
ends P (Err x) f b e go = absurd cc

both_needed : {A E : Type 0} (first second : Result (List A) E) (a b : List A) → first ≡ Ok a → second ≡ Ok b → (first >>= λ a. second >>= λ b. Ok (a ++ b)) ≡ Ok (a ++ b)
both_needed first second a b e f = rw (e, f) refl

-- the clauses of a binary are what the package of its paragraph needs
pub needs_of_read : (p : List Field) (b : Binary) → binary_of p ≡ Ok b → needs_in p ≡ Ok b.clauses
unfolding binary_of needs_in
needs_of_read p b e =
    then_ok _ (required p Package) _ _ e (λ name en e.
    then_ok _ (required p Version) _ _ e (λ version ev e.
    then_ok _ (required p Architecture) _ _ e (λ architecture ea e.
    then_ok _ (needs (is_package_name name) (BadName Package)) _ _ e (λ x ex e.
    then_ok _ (needs (is_version version) (BadVersion Version)) _ _ e (λ y ey e.
    then_ok _ (needs (is_architecture architecture) (BadName Architecture)) _ _ e (λ z ez e.
    then_ok _ (of_field Source (source_of (value_of p (field_name Source)) name version)) _ _ e (λ source es e.
    then_ok _ (of_field PreDepends (clauses_in (optional p PreDepends))) _ _ e (λ before eb e.
    then_ok _ (of_field Depends (clauses_in (optional p Depends))) _ _ e (λ depends ed e.
    ends (λ (b : Binary). needs_in p ≡ Ok b.clauses) (of_field Provides (provisions_in (optional p Provides))) _ _ e (λ provides ep. both_needed _ _ before depends eb ed))))))))))

-- the same texts need the same
pub needs_alike : (p q : List Field) → needs_same p q ≡ true → needs_in p ≡ needs_in q
unfolding needs_in
needs_alike p q tested =
    let both = and_parts (bytes_eq (optional p PreDepends) (optional q PreDepends)) (bytes_eq (optional p Depends) (optional q Depends)) tested in
    let before : optional p PreDepends ≡ optional q PreDepends = (bytes_eq-Decides (optional p PreDepends) (optional q PreDepends)).0 both.0 in
    let depends : optional p Depends ≡ optional q Depends = (bytes_eq-Decides (optional p Depends) (optional q Depends)).0 both.1 in
    ap (λ (text : List ℕ). of_field PreDepends (clauses_in text) >>= λ a. of_field Depends (clauses_in (optional p Depends)) >>= λ b. Ok (a ++ b)) before
    ∙ ap (λ (text : List ℕ). of_field PreDepends (clauses_in (optional q PreDepends)) >>= λ a. of_field Depends (clauses_in text) >>= λ b. Ok (a ++ b)) depends

-- nothing is no clause and no provision
pub no_clauses : clauses_in [] ≡ Ok []
unfolding clauses_in items
no_clauses = refl

pub no_provisions : provisions_in [] ≡ Ok []
unfolding provisions_in items
no_provisions = refl

-- an item that is one part is one alternative
pub one_alternative : (item only : List ℕ) → slice_split is_bar item ≡ only ∷ [] → only_one only ≡ clause_in item
unfolding clause_in
one_alternative item only cut = ap (each_of (alternative_in Any)) (sym cut)
