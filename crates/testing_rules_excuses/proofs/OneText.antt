-- No two days lie so many days behind one, so a source has one text.
use Rattle.std.specs.Prelude.{ℕ, Option, Some, None, List}
use Rattle.std.proofs.Common.{◌≡◌, ◌∙◌, refl, sym, ap, subst}
use Rattle.jiff_core.specs.declared.civil.date.Date.{Date}
use Rattle.jiff_core.specs.Calendar.{IsEpochDay}
use Rattle.jiff_core.proofs.DateLemmas.{epoch_day_range}
use Rattle.jiff.proofs.Family.{same_date}
use Rattle.testing_rules_items.specs.Words.{Text}
use Rattle.testing_rules_model.specs.declared.excuse.Excuse.{Excuse}
use Rattle.testing_rules_model.specs.declared.facts.UploadIn.{UploadIn}
use Rattle.testing_rules_excuses.specs.Readiness.{IsDayAfter, IsReady}
use Rattle.testing_rules_excuses.specs.Lines.{IsOriginText, origin_text}
use Rattle.testing_rules_excuses.specs.Said.{SaidLists}

one_day : (day : Date) (days : ℕ) (a b : Option Date) → IsDayAfter day days a → IsDayAfter day days b → a ≡ b
one_day day days (Some a) (Some b) p q = ap (λ (d : Date). Some d) (same_date a b (p ∙ sym q))
one_day day days (Some a) None p q = absurd (q (subst IsEpochDay p (epoch_day_range a)))
one_day day days None (Some b) p q = absurd (p (subst IsEpochDay q (epoch_day_range b)))
one_day day days None None p q = refl

one_ready : (u : UploadIn) (excuse : Option Excuse) (a b : Option Date) → IsReady u excuse a → IsReady u excuse b → a ≡ b
one_ready u (Some e) a b p q = one_day u.day e.needed a b p q
one_ready u None a b p q = p ∙ sym q

pub one_text : (senders archs : List Text) (said : SaidLists) (u : UploadIn) (excuse : Option Excuse) (text other : Text)
    → IsOriginText senders archs said u excuse text → IsOriginText senders archs said u excuse other → text ≡ other
one_text senders archs said u excuse text other p q =
    p.is ∙ ap (origin_text senders archs said u excuse) (one_ready u excuse p.ready q.ready p.is_ready q.is_ready) ∙ sym q.is
