-- What is told of the sources that were asked for.
use Rattle.std.proofs.Common.{◌≡◌, ◌∙◌, ◌+◌, ◌<◌, ℕ, false, List, [], ◌∷◌, ◌++◌, Option, None, Some, length, take, refl, ap, sym, subst}
use Rattle.std.specs.Prelude.{IfSome, get_or}
use Rattle.std.specs.List.{AllZip, list_any}
use Rattle.std.proofs.lemmas.List.{take_more}
use Rattle.jiff_core.specs.declared.civil.date.Date.{Date}
use Rattle.testing_rules_items.specs.Words.{Text}
use Rattle.testing_rules_model.specs.Covered.{Covered}
use Rattle.testing_rules_model.specs.Excuses.{excuses_of}
use Rattle.testing_rules_model.specs.FactLists.{FactLists}
use Rattle.testing_rules_model.specs.StandsFor.{StandsFor}
use Rattle.testing_rules_model.specs.Suite.{Suite}
use Rattle.testing_rules_model.specs.Unstable.{built_rows, hints_by_number, unhints_by_number, unstable_builds, unstable_rows, unstable_sources}
use Rattle.testing_rules_model.specs.declared.excuse.Excuse.{Excuse}
use Rattle.testing_rules_model.specs.declared.facts.BuildIn.{BuildIn}
use Rattle.testing_rules_model.specs.declared.facts.HintIn.{HintIn}
use Rattle.testing_rules_model.specs.declared.facts.UnhintIn.{UnhintIn}
use Rattle.testing_rules_model.specs.declared.facts.UploadIn.{UploadIn}
use Rattle.testing_rules_model.specs.declared.suite.RowIn.{RowIn}
use Rattle.testing_rules_model.specs.declared.update.Decision.{Decision}
use Rattle.testing_rules_moves.specs.steps.Turns.{behind_hints}
use Rattle.office_core_outcome.specs.NoCandidate.{no_candidate_line}
use Rattle.testing_rules_refusals.specs.Stuck.{IsStuckText}
use Rattle.office_core_outcome.specs.Proposal.{IsAnswer, IsShownStuck, behind_standing, is_moved, line_of}
use Rattle.office_core_outcome.specs.steps.Settled.{AreAnswersBehind, AreAnswersOver, IsAnswerBehind}

-- one element more at the end of both lists
zipped_last : {A B : Type 0} (R : A → B → Type 0) (xs : List A) (ys : List B) (x : A) (y : B) → AllZip R xs ys → R x y → AllZip R (xs ++ x ∷ []) (ys ++ y ∷ [])
zipped_last R [] [] x y so one = (one, tt)
zipped_last R [] (b ∷ ys) x y so one = absurd so
zipped_last R (a ∷ xs) [] x y so one = absurd so
zipped_last R (a ∷ xs) (b ∷ ys) x y so one = (so.0, zipped_last R xs ys x y so.1 one)

-- the elements up to the next place, and one result more
pub zipped_more : {A B : Type 0} (R : A → B → Type 0) (xs : List A) (ys zs : List B) (i : ℕ) (x : A) (y : B) → i < length xs → x ≡ get_or xs i x → AllZip R (take i xs) ys → R x y → zs ≡ ys ++ y ∷ []
    → AllZip R (take (i + 1) xs) zs
zipped_more R xs ys zs i x y below at so one is =
    subst (AllZip R (take (i + 1) xs)) (sym is)
    (subst (λ front. AllZip R front (ys ++ y ∷ [])) (ap (λ z. take i xs ++ z ∷ []) at ∙ sym (take_more xs i x below)) (zipped_last R (take i xs) ys x y so one))

-- what holds of each pair, if something holds of each that is more
zipped_weaker : {A B : Type 0} (P Q : A → B → Type 0) → ((x : A) (y : B) → P x y → Q x y) → (xs : List A) (ys : List B) → AllZip P xs ys → AllZip Q xs ys
zipped_weaker P Q by [] [] so = tt
zipped_weaker P Q by [] (y ∷ ys) so = absurd so
zipped_weaker P Q by (x ∷ xs) [] so = absurd so
zipped_weaker P Q by (x ∷ xs) (y ∷ ys) so = (by x y so.0, zipped_weaker P Q by xs ys so.1)

-- a source with a line is told that line
pub line_told : (of : Option Text) (line : Text) (Shows : Text → Type 0) → Some line ≡ of → IsAnswer of Shows (Some line)
line_told of line Shows is = subst (λ (o : Option Text). IsAnswer o Shows (Some line)) is refl

-- one without a line is told what shows it
pub stuck_told : (of : Option Text) (Shows : Text → Type 0) (text : Option Text) → None ≡ of → IfSome text Shows → IsAnswer of Shows text
stuck_told of Shows text is shown = subst (λ (o : Option Text). IsAnswer o Shows text) is shown

module _ (archs : List Text) (date : Date) (facts : FactLists) (t : Suite) (excuses : List Excuse) (behind : Suite) (ds : List Decision)
    (made : (s : Covered) → StandsFor facts s t → excuses ≡ excuses_of archs s t date) (is : behind ≡ behind_hints archs facts.sources (built_rows archs facts.rows) excuses facts.hints facts.unhints t) where
  -- what holds by the facts holds over all messages that they stand for
  holds_over : (P : List UploadIn → List RowIn → List Excuse → Suite → Type 0) → (s : Covered) → StandsFor facts s t → P facts.sources (built_rows archs facts.rows) excuses behind
      → P (unstable_sources s) (unstable_rows archs s) (excuses_of archs s t date) (behind_standing archs s (excuses_of archs s t date) t)
  holds_over P s stands holds =
      let Holds : List UploadIn → List BuildIn → List HintIn → List UnhintIn → List Excuse → Type 0 =
      λ us bs hs cs es. P us (built_rows archs bs) es (behind_hints archs us (built_rows archs bs) es hs cs t) in
      let given : Holds facts.sources facts.rows facts.hints facts.unhints excuses = subst (λ (b : Suite). P facts.sources (built_rows archs facts.rows) excuses b) is holds in
      subst (λ es. Holds (unstable_sources s) (unstable_builds s) (hints_by_number s) (unhints_by_number s) es) (made s stands)
      (subst (λ cs. Holds (unstable_sources s) (unstable_builds s) (hints_by_number s) cs excuses) stands.unhints
      (subst (λ hs. Holds (unstable_sources s) (unstable_builds s) hs facts.unhints excuses) stands.hints
      (subst (λ bs. Holds (unstable_sources s) bs facts.hints facts.unhints excuses) stands.rows
      (subst (λ us. Holds us facts.rows facts.hints facts.unhints excuses) stands.sources given))))

  -- and so is what is told of each of the sources
  pub answers_over : (sources : List Text) (texts : List (Option Text)) → AreAnswersBehind archs facts excuses behind ds sources texts → AreAnswersOver archs date facts t ds sources texts
  answers_over sources texts so = λ s stands.
      let Told : Text → Option Text → Type 0 =
      λ source text. IsAnswer (line_of archs date s t source) (λ shown. (list_any (is_moved source) ds ≡ false) × IsShownStuck archs date s t source shown) text in
      zipped_weaker (IsAnswerBehind archs facts excuses behind ds) Told
      (λ source text one. holds_over (λ us rows es b. IsAnswer (no_candidate_line archs us es b source) (λ shown. (list_any (is_moved source) ds ≡ false) × IsStuckText archs us rows es b source shown) text) s stands one) sources texts so
