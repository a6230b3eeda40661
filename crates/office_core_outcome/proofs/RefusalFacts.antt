-- What is told of hints that a run refuses.
use Rattle.std.proofs.Common.{◌≡◌, ◌∙◌, ◌+◌, ◌<◌, ℕ, Bool, true, false, if◌then◌else◌, List, [], ◌∷◌, ◌++◌, drop, filter, get_or, length, codes, decimal, sym, ap, subst, refl}
use Rattle.std.proofs.lemmas.List.{append-nil, append_assoc, drop_more}
use Rattle.jiff_core.specs.declared.civil.date.Date.{Date}
use Rattle.testing_rules_items.specs.Words.{Text, arch_name}
use Rattle.testing_rules_model.specs.declared.update.Offender.{Offender}
use Rattle.testing_rules_model.specs.Covered.{Covered}
use Rattle.testing_rules_model.specs.Excuses.{excuses_of}
use Rattle.testing_rules_model.specs.FactLists.{FactLists}
use Rattle.testing_rules_model.specs.StandsFor.{StandsFor}
use Rattle.testing_rules_model.specs.Suite.{Suite}
use Rattle.testing_rules_model.specs.Unstable.{built_rows}
use Rattle.testing_rules_model.specs.Updates.{update_of}
use Rattle.testing_rules_model.specs.declared.excuse.Excuse.{Excuse}
use Rattle.testing_rules_model.specs.declared.update.Decision.{Decision}
use Rattle.testing_rules_reports.specs.Reports as texts
use Rattle.testing_rules_reports.specs.declared.hint_lines.Decided.{Decided}
use Rattle.office_mail.specs.Lists.{Lists}
use Rattle.office_core_replies.specs.Replies.{name_at}
use Rattle.office_core_facts.specs.Seen.{release}
use Rattle.office_core_facts.specs.Outcome.{outcome, testing_text}
use Rattle.office_core_outcome.specs.declared.rules.Ruled.{Ruled}
use Rattle.office_core_outcome.specs.Proposal.{decisions_by}
use Rattle.office_core_outcome.specs.steps.RuleSteps.{IsRuled}
use Rattle.office_core_outcome.specs.Trial.{decided, judged_by}
use Rattle.office_core_outcome.specs.steps.RefusalSteps.{IsToldWhere}
use Rattle.office_core_outcome.specs.WhyRefused.{AreFirstTold, AreReasons, AreToldOf, IsToldOf, Judged, refused_line}

-- the first of the decisions that are left
pub next_decision : (ds : List Decision) (i : ℕ) (d : Decision) → i < length ds → d ≡ get_or ds i d → drop i ds ≡ d ∷ drop (i + 1) ds
next_decision ds i d low is = drop_more ds i d low ∙ ap (λ (x : Decision). x ∷ drop (i + 1) ds) (sym is)

-- the same of those with a property, where it has it or not
pub next_of_hint : (p : Decision → Bool) (left later : List Decision) (d : Decision) → left ≡ d ∷ later → p d ≡ true → filter p left ≡ d ∷ filter p later
next_of_hint p left later d at here = ap (filter p) at ∙ ap (λ (b : Bool). if b then d ∷ filter p later else filter p later) here

pub next_of_other : (p : Decision → Bool) (left later : List Decision) (d : Decision) → left ≡ d ∷ later → p d ≡ false → filter p left ≡ filter p later
next_of_other p left later d at other = ap (filter p) at ∙ ap (λ (b : Bool). if b then d ∷ filter p later else filter p later) other

-- nothing is told yet
pub told_none : (j : Judged) (ds : List Decision) (text : Text) → text ≡ [] → (rest : Text) → AreToldOf j ds rest → AreToldOf j ds (text ++ rest)
told_none j ds text is rest told = subst (λ (t : Text). AreToldOf j ds (t ++ rest)) (sym is) told

-- one decision more
pub told_more : (j : Judged) (ds left later : List Decision) (d : Decision) (text first : Text) → left ≡ d ∷ later → IsToldOf j d first → ((rest : Text) → AreToldOf j left rest → AreToldOf j ds (text ++ rest))
    → (rest : Text) → AreToldOf j later rest → AreToldOf j ds ((text ++ first) ++ rest)
told_more j ds left later d text first at is so rest told =
    subst (λ (t : Text). AreToldOf j ds t) (sym (append_assoc text first rest))
    (so (first ++ rest) (subst (λ (l : List Decision). AreToldOf j l (first ++ rest)) (sym at) (record { first = first; rest = rest; first_is = is; rest_is = told; is = refl })))

-- one more, if it is on the hint
pub told_more_where : (j : Judged) (ds left later : List Decision) (p : Decision → Bool) (d : Decision) (b : Bool) (text first : Text) → p d ≡ b → left ≡ d ∷ later → IsToldWhere b j d first → ((rest : Text) → AreToldOf j (filter p left) rest → AreToldOf j ds (text ++ rest))
    → (rest : Text) → AreToldOf j (filter p later) rest → AreToldOf j ds ((text ++ first) ++ rest)
told_more_where j ds left later p d true text first e at is so rest told = told_more j ds (filter p left) (filter p later) d text first (next_of_hint p left later d at e) is so rest told
told_more_where j ds left later p d false text first e at is so rest told =
    let same : text ++ first ≡ text = ap (λ (t : Text). text ++ t) is ∙ append-nil text in
    subst (λ (t : Text). AreToldOf j ds (t ++ rest)) (sym same) (so rest (subst (λ (l : List Decision). AreToldOf j l rest) (sym (next_of_other p left later d at e)) told))

-- and all of them
pub told_all : (j : Judged) (ds left : List Decision) (text : Text) → left ≡ [] → ((rest : Text) → AreToldOf j left rest → AreToldOf j ds (text ++ rest)) → AreToldOf j ds text
told_all j ds left text none so = subst (λ (t : Text). AreToldOf j ds t) (append-nil text) (so [] (subst (λ (l : List Decision). AreToldOf j l []) (sym none) refl))

-- the pieces of the line on a hint that is refused, and of the lines behind it
refused_pieces : (s n a p l : Text) → codes "refused " ++ (s ++ (codes " " ++ (n ++ (codes " uninstallable " ++ (a ++ (codes " " ++ (p ++ (codes "\n" ++ l))))))))
    ≡ ((codes "refused" ++ 32 ∷ (s ++ 32 ∷ n)) ++ (32 ∷ (codes "uninstallable" ++ 32 ∷ (a ++ 32 ∷ p))) ++ 10 ∷ []) ++ l
refused_pieces s n a p l =
    let breaks : Text = 32 ∷ (codes "uninstallable" ++ 32 ∷ (a ++ 32 ∷ p)) in
    sym (ap (λ (t : Text). codes "refused " ++ t)
    (append_assoc ((s ++ 32 ∷ n) ++ breaks) (10 ∷ []) l
    ∙ append_assoc (s ++ 32 ∷ n) breaks (10 ∷ l)
    ∙ append_assoc s (32 ∷ n) (breaks ++ 10 ∷ l)
    ∙ ap (λ (t : Text). s ++ 32 ∷ (n ++ 32 ∷ (codes "uninstallable" ++ 32 ∷ t))) (append_assoc a (32 ∷ p) (10 ∷ l))))

pub refused_told : (j : Judged) (number : ℕ) (o : Offender) (a p l lines : Text) → a ≡ arch_name j.archs o.arch → p ≡ o.«package» → l ≡ lines
    → codes "refused " ++ (j.sender ++ (codes " " ++ (decimal number ++ (codes " uninstallable " ++ (a ++ (codes " " ++ (p ++ (codes "\n" ++ l)))))))) ≡ refused_line j number o ++ lines
refused_told j number o a p l lines arch breaks told =
    let text : Text → Text → Text → Text = λ x y z. codes "refused " ++ (j.sender ++ (codes " " ++ (decimal number ++ (codes " uninstallable " ++ (x ++ (codes " " ++ (y ++ (codes "\n" ++ z)))))))) in
    ap (λ (x : Text). text x p l) arch ∙ ap (λ (y : Text). text (arch_name j.archs o.arch) y l) breaks ∙ ap (text (arch_name j.archs o.arch) o.«package») told
    ∙ refused_pieces j.sender (decimal number) (arch_name j.archs o.arch) o.«package» lines

-- a run over these facts whose hints are judged
abbrev pub judged_over : Text → ℕ → List Text → FactLists → List Excuse → Suite → Judged
judged_over sender behind archs f es t = record {
  sender = sender;
  behind = behind;
  archs = archs;
  sources = f.sources;
  rows = built_rows archs f.rows;
  excuses = es;
  hints = f.hints;
  unhints = f.unhints;
  testing = t;
}

module _ (setup : Lists) (behind : ℕ) (date : Date) (s : Covered) (t : Suite) (f : FactLists) (stands : StandsFor f s t) (sender : Text) (archs : List Text) (es : List Excuse) (named : sender ≡ name_at setup (release setup)) (same : archs ≡ setup.archs)
    (made : es ≡ excuses_of setup.archs s t date) where
  -- it is the run over the messages for which they stand
  judged_is : judged_over sender behind archs f es t ≡ judged_by setup behind date s t
  unfolding judged_by
  judged_is =
      let rows = ap (λ (a : List Text). built_rows a f.rows) same ∙ ap (built_rows setup.archs) stands.rows in
      λ i. record {
        sender = named i;
        behind = behind;
        archs = same i;
        sources = stands.sources i;
        rows = rows i;
        excuses = made i;
        hints = stands.hints i;
        unhints = stands.unhints i;
        testing = t;
      }

  -- so what is told of decisions is told of them for that run
  pub told_in : (ds : List Decision) (text : Text) → AreToldOf (judged_over sender behind archs f es t) ds text → AreToldOf (judged_by setup behind date s t) ds text
  told_in ds text told = subst (λ (j : Judged). AreToldOf j ds text) judged_is told

  -- and what is told of the first of all that it decides are its reasons
  pub reasons_by : (ds : List Decision) (text : Text) → ds ≡ decisions_by setup date s t → AreFirstTold (judged_over sender behind archs f es t) ds text → AreReasons (judged_by setup behind date s t) text
  unfolding judged_by
  reasons_by ds text is told = subst (λ (l : List Decision). AreFirstTold (judged_by setup behind date s t) l text) is (subst (λ (j : Judged). AreFirstTold j ds text) judged_is told)

module _ (setup : Lists) (date : Date) (s : Covered) (t new : Suite) (r : Ruled) (is : IsRuled setup date s t r new) where
  -- what is decided by its excuses is what the run decides
  pub decisions_are : r.update ≡ decisions_by setup date s t
  decisions_are = is.update.0 ∙ ap (λ (es : List Excuse). (update_of setup.archs s es t).decisions) is.excuses

  testing_is : new ≡ (update_of setup.archs s (excuses_of setup.archs s t date) t).suite
  testing_is = is.update.1 ∙ ap (λ (es : List Excuse). (update_of setup.archs s es t).suite) is.excuses

  -- so its texts are those of the run
  pub updates_are : (run : ℕ) → texts.update_text setup.archs run date r.update ≡ (outcome setup run date s t).updates
  unfolding outcome
  updates_are run = ap (texts.update_text setup.archs run date) decisions_are

  pub decided_is : (run : ℕ) (d : Decided) → d.excuses ≡ texts.excuses_text setup.archs run date r.excuses → d.updates ≡ texts.update_text setup.archs run date r.update → d.testing ≡ testing_text setup run new
      → d ≡ decided setup run (outcome setup run date s t)
  unfolding outcome
  decided_is run d excuses updates testing =
      let told = excuses ∙ ap (texts.excuses_text setup.archs run date) is.excuses in
      let done = updates ∙ ap (texts.update_text setup.archs run date) decisions_are in
      let left = testing ∙ ap (testing_text setup run) testing_is in
      λ i. record { excuses = told i; updates = done i; testing = left i }
