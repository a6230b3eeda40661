-- What is told of hints and of unstable by what is seen of an office.
use Rattle.std.proofs.Common.{◌≡◌, ℕ, List, length, ap, ◌∙◌}
use Rattle.testing_rules_items.specs.Words.{Text}
use Rattle.testing_rules_model.specs.Covered.{Covered}
use Rattle.office_mail_setup.specs.Lists.{Lists}
use Rattle.office_mail.specs.declared.message.RunOrder.{RunOrder}
use Rattle.office_mail.specs.Kept.{Kept}
use Rattle.office_mail.specs.Runs.{cover, cover_of}
use Rattle.office_store_keeper.specs.Content.{Content}
use Rattle.office_core_facts.specs.declared.last_run.FinishedRuns.{FinishedRuns}
use Rattle.office_core_facts.specs.Seen.{IsSeen}
use Rattle.office_core_facts.specs.State.{IsOffice}
use Rattle.office_core_facts.specs.steps.Last.{AreFinished}
use Rattle.office_core_why.specs.Hints.{IsHintsText, hints_text}
use Rattle.office_core_why.specs.UnstableText.{IsUnstableText, unstable_text}

-- the hints that are told by what is seen of an office
pub hints_told : (setup : Lists) (content : Content) (finished : FinishedRuns) (s : Covered) (text : Text) → IsOffice setup content → AreFinished setup content finished → IsSeen setup content.kept s
    → text ≡ hints_text setup finished.count (cover_of finished.orders.items) s content.testing → IsHintsText setup content.kept (length content.reports) text
hints_told setup content finished s text office are seen told =
    let k : ℕ = length content.reports in
    let covered = cover setup content.kept k in
    record {
      seen = s;
      is_seen = seen;
      is = told ∙ ap (λ (os : List RunOrder). hints_text setup finished.count (cover_of os) s content.testing) (are.orders office) ∙ ap (λ (n : ℕ). hints_text setup n covered s content.testing) are.count
          ∙ ap (hints_text setup k covered s) office.testing_is;
    }

-- and unstable
pub unstable_told : (setup : Lists) (kept : Kept) (k finished : ℕ) (s : Covered) (text : Text) → finished ≡ k → IsSeen setup kept s → text ≡ unstable_text setup.archs finished s → IsUnstableText setup kept k text
unstable_told setup kept k finished s text is seen told = record { seen = s; is_seen = seen; is = told ∙ ap (λ (n : ℕ). unstable_text setup.archs n s) is }
