-- What is said of an office that was made anew of a store's mail up to a run.
use Rattle.std.proofs.Common.{◌≡◌, ℕ, ◌-◌, ◌≤◌, true, List, length, Option, Some, None, Result, Ok, Err, IfOk, sym, subst, ◌∙◌, arith}
use Rattle.std.specs.Prelude.{⊤, is_some}
use Rattle.office_mail.specs.Kept.{Kept}
use Rattle.office_mail.specs.Lists.{Lists}
use Rattle.office_store_keeper.specs.Content.{Content}
use Rattle.office_store_keeper.specs.MemoryState.{content_of}
use Rattle.office_core_store.specs.declared.faults.StoreFault.{StoreFault}
use Rattle.office_core_facts.specs.State.{IsOffice}
use Rattle.office_core_why.specs.Why.{IsWhy, IsWhyAfter}
use Rattle.office_core_why.specs.declared.WhyText.{WhyText}
use Rattle.office_core_check.specs.steps.Comparing.{IsMade, IsMadeUpTo}
use Rattle.office_core_check.specs.Earlier.{IsAfter, IsBefore, IsToldAfter, IsToldOfRun}
use Rattle.office_core_check.specs.Whole.{AreOfSenders, IsFinished}
use Rattle.office_core_check.specs.declared.memory.Bounded.{Bounded}
use Rattle.office_core_check.specs.declared.Difference.{Difference}
use Rattle.office_core_check.proofs.FoundFacts.{no_difference, unmade_differs}

-- where no office is made anew of a store's mail up to a finished run, the store isn't what an office leaves
pub made_of_no_office : (setup : Lists) (c : Content) (run : ℕ) (front : Kept) (d : Option Difference) → is_some d ≡ true → run ≤ length c.reports → IsMade setup c.kept run front d → AreOfSenders setup c.kept → IsOffice setup c → ⊥
made_of_no_office setup c run front None e size made are office = absurd (cc (e))
made_of_no_office setup c run front (Some d) e size made are office = no_difference ⊤ setup c d tt office (unmade_differs ⊤ setup c run d size made are)

-- an office that is made up to a finished run is as that run left the store
pub after_made : (setup : Lists) (c : Content) (run : ℕ) (r : Result (Option Bounded) StoreFault) → IsFinished c run → IfOk r (IsMadeUpTo setup c run) → IfOk r (IsAfter setup c run)
after_made setup c run (Ok None) finished made = λ is office. made office
after_made setup c run (Ok (Some office)) finished made = (finished, made)
after_made setup c run (Err fault) finished made = tt

-- and one that is made up to the run before it is as the store was before that run
pub before_made : (setup : Lists) (c : Content) (run : ℕ) (r : Result (Option Bounded) StoreFault) → IsFinished c run → IfOk r (IsMadeUpTo setup c (run - 1)) → IfOk r (IsBefore setup c run)
before_made setup c run (Ok None) finished made = λ is office. made office
before_made setup c run (Ok (Some office)) finished made = (finished, made)
before_made setup c run (Err fault) finished made = tt

-- what is told of the last finished run is told of the run with its number
pub told_of_last : (setup : Lists) (content : Content) (run : ℕ) (source : List ℕ) (text : Option WhyText) → length content.reports ≡ run
    → IsWhy setup content.kept (length content.reports) source text → IsToldOfRun setup content.kept (length content.reports) run source text
told_of_last setup content run source None last none = λ same. same ∙ none
told_of_last setup content run source (Some text) last why = (sym last, subst (λ (n : ℕ). IsWhyAfter setup content.kept n source text) last why)

-- an office that is as a run left a store tells of that run, over the mail that the store keeps
pub told_after : (setup : Lists) (content : Content) (run : ℕ) (office : Bounded) (source : List ℕ) (text : Option WhyText) → IsAfter setup content run (Some office)
    → IsToldOfRun office.plain.setup (content_of office.plain).kept (length (content_of office.plain).reports) run source text → IsToldAfter setup content.kept run source text
told_after setup content run office source None after told =
    let one : 1 ≤ run = after.0.0 in
    let none : run ≡ 0 = told (sym after.1.finished) in
    absurd (omega (arith, one, none))
told_after setup content run office source (Some text) after told =
    subst (λ (s : Lists). IsWhyAfter s content.kept run source text) after.1.setup_is
    (subst (λ (k : Kept). IsWhyAfter office.plain.setup k run source text) after.1.kept_is told.1)
