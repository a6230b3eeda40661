-- What is known of the mail from one run to the next.
use Rattle.std.proofs.Common.{◌≡◌, ◌≢◌, ◌⊎◌, ⊎_elim, inl, inr, ℕ, zero, suc, ◌<◌, ◌≤◌, List, [], ◌++◌, length, slice_index, Some, None, Result, Ok, Err, option_to_list, sym, ap, subst, ◌∙◌, refl, arith}
use Rattle.std.specs.Prelude.{Contains}
use Rattle.std.specs.FinMap.{get}
use Rattle.std.proofs.lemmas.Bool.{cases_eq}
use Rattle.std.proofs.lemmas.List.Elements.{Contains-append_left, Contains-append_right, Contains-append_cases}
use Rattle.testing_rules_model.specs.Covered.{Covered}
use Rattle.testing_rules_model.specs.FactDifference.{IsChangedFrom}
use Rattle.testing_rules_model.specs.FactLists.{FactLists}
use Rattle.testing_rules_model.specs.StandsFor.{StandsFor}
use Rattle.testing_rules_model.specs.Suite.{Suite}
use Rattle.testing_rules_model.specs.SameMessages.{SameElements}
use Rattle.testing_rules_facts.specs.Uploads.{AreByMessage}
use Rattle.testing_rules_model.specs.declared.fact_row.FactRow.{FactRow}
use Rattle.testing_rules_model.specs.KeptFacts.{counts_beside, trimmed}
use Rattle.testing_rules_model.specs.Tells.{Tells}
use Rattle.testing_rules_model.proofs.SameFacts.{stands-same}
use Rattle.testing_rules_facts.proofs.KeptUploads.{by_message-filter}
use Rattle.testing_rules_laws.proofs.Logging.{trims_log}
use Rattle.testing_rules_laws.proofs.Said.{more_tell, trimmed_tell}
use Rattle.office_mail.specs.declared.message.MailFault.{MailFault}
use Rattle.office_mail.specs.declared.message.MailFault.TheVariants.{NoMemory}
use Rattle.office_mail.specs.declared.message.Message.{Message}
use Rattle.office_mail.specs.Lists.{Lists}
use Rattle.office_mail.specs.Read.{read}
use Rattle.office_mail.specs.Kept.{Kept, Place}
use Rattle.office_store_keeper.specs.Content.{Content}
use Rattle.office_store_keeper.specs.FactSet.{count_in}
use Rattle.office_core_facts.specs.Known.{AreUnderWay, said_all}
use Rattle.office_core_facts.specs.Outcome.{item_at}
use Rattle.office_core_facts.specs.steps.Taking.{Took}
use Rattle.office_core_facts.specs.steps.Walk.{said_by, said_within}
use Rattle.office_core_facts.proofs.SaidFacts.{said_at_place}
use Rattle.office_core_facts.proofs.WalkFacts.{by_place, in_option, place_by, place_within, within_place, one_of_each}

-- what is said depends on the covers of the senders alone
pub said_within-same : (setup : Lists) (kept : Kept) (a b : ℕ → ℕ) (n : ℕ) → ((s : ℕ) → s < n → a s ≡ b s) → said_within setup kept a n ≡ said_within setup kept b n
unfolding said_within
said_within-same setup kept a b zero same = refl
said_within-same setup kept a b (suc n) same =
    ap (λ (k : ℕ). said_by setup kept n k ++ said_within setup kept a n) (same n (omega arith))
    ∙ ap (λ (l : Covered). said_by setup kept n (b n) ++ l) (said_within-same setup kept a b n (λ s lt. same s (omega (arith, lt))))

-- where nothing is covered, nothing is said
said_nothing : (setup : Lists) (kept : Kept) (n : ℕ) → said_within setup kept (slice_index []) n ≡ []
unfolding said_within said_by
said_nothing setup kept zero = refl
said_nothing setup kept (suc n) = said_nothing setup kept n

pub stand_none : (setup : Lists) (kept : Kept) (f : FactLists) (taken : List ℕ) (t : Suite) → taken ≡ [] → StandsFor f [] t → StandsFor f (said_within setup kept (slice_index taken) (length setup.senders)) t
stand_none setup kept f taken t none h =
    subst (λ (l : Covered). StandsFor f l t) (sym (ap (λ (xs : List ℕ). said_within setup kept (slice_index xs) (length setup.senders)) none ∙ said_nothing setup kept (length setup.senders))) h

-- a sender's cover grows, and no other changes
pub record Grows (a b : ℕ → ℕ) (sender : ℕ) : Type 0 where
  pub own : a sender ≤ b sender
  pub others : (s : ℕ) → s ≢ sender → b s ≡ a s

grown : (a b : ℕ → ℕ) (sender s : ℕ) → Grows a b sender → a s ≤ b s
grown a b sender s grows = ⊎_elim (λ same. subst (λ (k : ℕ). a k ≤ b k) (sym same) grows.own) (λ other. omega (arith, grows.others s other)) (cases_eq s sender)

-- what was said, and what the sender says up to its new cover
same_said : (setup : Lists) (kept : Kept) (a b : ℕ → ℕ) (sender n : ℕ) → sender < n → Grows a b sender → SameElements (said_by setup kept sender (b sender) ++ said_within setup kept a n) (said_within setup kept b n)
same_said setup kept a b sender n low grows = (
  λ m c. elim (Contains-append_cases (said_by setup kept sender (b sender)) (said_within setup kept a n) m c) [
    | inl own ↦
        let k = by_place setup kept sender (b sender) m own in
        place_within setup kept b n m (sender, k.0) (record { sender = low; low = k.1; high = k.2; is = k.3 })
    | inr among ↦
        let p = within_place setup kept a n m among in
        place_within setup kept b n m p.0 (record { sender = p.1.sender; low = p.1.low; high = omega (arith, p.1.high, grown a b sender p.0.0 grows); is = p.1.is })
  ],
  λ m c.
      let p = within_place setup kept b n m c in
      ⊎_elim
      (λ own. Contains-append_left (said_by setup kept sender (b sender)) (said_within setup kept a n) m
      (subst (λ (s : ℕ). Contains (said_by setup kept s (b s)) m) own (place_by setup kept p.0.0 (b p.0.0) p.0.1 m p.1.low p.1.high p.1.is)))
      (λ other. Contains-append_right (said_by setup kept sender (b sender)) (said_within setup kept a n) m
      (place_within setup kept a n m p.0 (record { sender = p.1.sender; low = p.1.low; high = omega (arith, p.1.high, grows.others p.0.0 other); is = p.1.is })))
      (cases_eq p.0.0 sender),
)

grows_none : (a : ℕ → ℕ) (sender : ℕ) → Grows a a sender
grows_none a sender = record { own = omega arith; others = λ s other. refl }

-- facts stand for what a sender said once more
pub stand_again : (setup : Lists) (kept : Kept) (f : FactLists) (a : ℕ → ℕ) (sender n : ℕ) (t : Suite) → sender < n → StandsFor f (said_within setup kept a n) t → StandsFor f (said_by setup kept sender (a sender) ++ said_within setup kept a n) t
stand_again setup kept f a sender n t low h =
    let same = same_said setup kept a a sender n low (grows_none a sender) in
    stands-same (said_within setup kept a n) (said_by setup kept sender (a sender) ++ said_within setup kept a n) (same.1, same.0) (one_of_each setup kept a n) f t h

-- and facts that took what it says up to its new cover stand for all
pub stand_more : (setup : Lists) (kept : Kept) (f : FactLists) (a b : ℕ → ℕ) (sender n : ℕ) (t : Suite) → sender < n → Grows a b sender → StandsFor f (said_by setup kept sender (b sender) ++ said_within setup kept a n) t → StandsFor f (said_within setup kept b n) t
stand_more setup kept f a b sender n t low grows h =
    let same = same_said setup kept a b sender n low grows in
    stands-same (said_by setup kept sender (b sender) ++ said_within setup kept a n) (said_within setup kept b n) same
    (λ m o cm co. one_of_each setup kept b n m o (same.0 m cm) (same.0 o co)) f t h

-- what is under way stays so where the facts take what a kept text says
pub way_more : (setup : Lists) (content : Content) (p : Place) (text : List ℕ) (old new : FactLists) → get content.kept p ≡ Some text
    → ((s : Covered) → Tells old s → Tells new (option_to_list (item_at setup (p, text)) ++ s)) → ((count : FactRow → ℕ) → IsChangedFrom count old → IsChangedFrom count new) → (AreByMessage old.uploads → AreByMessage new.uploads)
    → AreUnderWay setup content old → AreUnderWay setup content new
way_more setup content p text old new stands tells moved by way = record {
  tells = more_tell (option_to_list (item_at setup (p, text)) ++ said_all setup content.kept) (said_all setup content.kept)
      (λ m c. elim (Contains-append_cases (option_to_list (item_at setup (p, text))) (said_all setup content.kept) m c) [
        | inl own ↦ said_at_place setup content.kept p text m stands (in_option (item_at setup (p, text)) m own)
        | inr among ↦ among
      ])
      new (tells (said_all setup content.kept) way.tells);
  by_message = by way.by_message;
  rows = moved (count_in content.facts) way.rows;
}

-- facts took a message that says nothing
pub took_nothing : (f : FactLists) → Took None f f
took_nothing f = record { stand = λ s t h. h; tells = λ s h. h; moved = λ count h. h; by_message = λ h. h; kept = λ u c. c; there = λ m u is up. absurd (cc is) }

-- what a text that is refused, but for want of memory, reads as
pub err_read : (setup : Lists) (text : List ℕ) (fault : MailFault) → (Err fault ≡ read setup text) ⊎ (◌≡◌ {A = Result Message MailFault} (Err fault) (Err NoMemory)) → (fault ≡ NoMemory → ⊥) → read setup text ≡ Err fault
err_read setup text fault exact other = ⊎_elim (λ e. sym e) (λ e. let same : fault ≡ NoMemory = cc in absurd (other same)) exact

-- a message that was read
pub ok_read : (setup : Lists) (text : List ℕ) (message : Message) → (Ok message ≡ read setup text) ⊎ (◌≡◌ {A = Result Message MailFault} (Ok message) (Err NoMemory)) → read setup text ≡ Ok message
ok_read setup text message h = ⊎_elim (λ e. sym e) (λ e. absurd (cc (e))) h

-- Facts under way, trimmed.
pub AreUnderWay-trimmed : (setup : Lists) (content : Content) (t : Suite) (f : FactLists) → AreUnderWay setup content f → AreUnderWay setup content (trimmed t f)
AreUnderWay-trimmed setup content t f way = record {
  tells = trimmed_tell t f (said_all setup content.kept) way.tells;
  by_message = by_message-filter (counts_beside t) f.uploads way.by_message;
  rows = trims_log (count_in content.facts) t f way.rows;
}
