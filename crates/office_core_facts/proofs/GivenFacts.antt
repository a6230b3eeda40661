-- What messages give that kept mail says is given by kept mail.
use Rattle.std.proofs.Common.{◌≡◌, inl, inr, ℕ, List, Some, Result, Ok, Err, Contains, sym, ap, subst, ◌∙◌, refl}
use Rattle.std.specs.FinMap.{get, entries, entries_sorted, get-entries}
use Rattle.testing_rules_model.specs.Covered.{Covered, CoveredItem}
use Rattle.testing_rules_model.specs.Suite.{Suite}
use Rattle.office_mail.specs.declared.message.Body.{Body}
use Rattle.office_mail.specs.declared.message.Body.TheVariants.{Item, Run}
use Rattle.office_mail.specs.declared.message.Message.{Message}
use Rattle.office_mail.specs.declared.message.MailFault.{MailFault}
use Rattle.office_mail.specs.Lists.{Lists}
use Rattle.office_mail.specs.Kept.{Kept, Place, place_of, placed}
use Rattle.office_mail.specs.Read.{read}
use Rattle.office_mail.proofs.KeptFacts.{placed_ok}
use Rattle.office_store_keeper.specs.Content.{Content}
use Rattle.office_store_keeper.specs.Provenance.{AreOwnTexts, IsSaid, IsGiven, KnowsArchs, IsArchPlace}
use Rattle.office_store_keeper.proofs.SaidItems.{saying, is_said}
use Rattle.testing_rules_model.specs.Provenance.{IsGivenBy}
use Rattle.office_core_facts.specs.Outcome.{item_at, item_in_body}
use Rattle.office_core_facts.specs.steps.Walk.{item_in_answer}
use Rattle.office_core_facts.specs.Known.{said_all}
use Rattle.office_core_facts.proofs.WalkFacts.{find_entry}
use Rattle.testing_rules_model.proofs.Sets.{given_by}

some_same : {A : Type 0} (x y : A) → Some x ≡ Some y → x ≡ y
some_same x y e = cc

own_place : (setup : Lists) (p : Place) (text : List ℕ) (message : Message) → read setup text ≡ Ok message → placed setup text ≡ Some (p, text) → place_of message ≡ p
own_place setup p text message e own = ap (λ (q : Place × List ℕ). q.0) (some_same (place_of message, text) (p, text) (sym (placed_ok setup text message e) ∙ own))

says_body : (setup : Lists) (kept : Kept) (p : Place) (text : List ℕ) (m : CoveredItem) (message : Message) (b : Body) → message.body ≡ b → item_in_body p b ≡ Some m → get kept p ≡ Some text → read setup text ≡ Ok message → place_of message ≡ p → IsSaid setup kept m
says_body setup kept p text m message (Run order) at e stands is own = absurd (cc e)
says_body setup kept p text m message (Item item) at e stands is own =
    let made : CoveredItem = record { sender = p.0; number = p.1; item = item } in
    let same : message ≡ saying made = λ i. record { sender = (own i).0; number = (own i).1; body = at i } in
    subst (IsSaid setup kept) (some_same made m e) (is_said setup kept made text stands (is ∙ ap Ok same))

says_answer : (setup : Lists) (kept : Kept) (p : Place) (text : List ℕ) (m : CoveredItem) (r : Result Message MailFault) → read setup text ≡ r → item_in_answer p r ≡ Some m → get kept p ≡ Some text → placed setup text ≡ Some (p, text) → IsSaid setup kept m
says_answer setup kept p text m (Err fault) is e stands own = absurd (cc e)
says_answer setup kept p text m (Ok message) is e stands own = says_body setup kept p text m message message.body refl e stands is (own_place setup p text message is own)

answer_at : (setup : Lists) (p : Place) (text : List ℕ) (m : CoveredItem) → item_at setup (p, text) ≡ Some m → item_in_answer p (read setup text) ≡ Some m
unfolding item_at
answer_at setup p text m e = e

-- what all kept mail says is said under its own sender and number
pub says : (setup : Lists) (kept : Kept) (m : CoveredItem) → AreOwnTexts setup kept → Contains (said_all setup kept) m → IsSaid setup kept m
says setup kept m own c =
    let e = given_by (item_at setup) (entries kept) m c in
    let found : get kept e.0.0 ≡ Some e.0.1 = get-entries kept e.0.0 ∙ find_entry (entries kept) e.0 (entries_sorted kept) e.1 in
    says_answer setup kept e.0.0 e.0.1 m (read setup e.0.1) refl (answer_at setup e.0.0 e.0.1 m e.2) found (own e.0.0 e.0.1 found)

-- what a run brings into testing is given by the mail that is kept
pub given_by_mail : (setup : Lists) (content : Content) (old new : Suite) → AreOwnTexts setup content.kept → old ≡ content.testing → IsGivenBy setup.archs (said_all setup content.kept) old new → IsGiven setup content new
given_by_mail setup content old new own was given = record {
  items = said_all setup content.kept;
  said = λ m c. says setup content.kept m own c;
  given = subst (λ (t : Suite). IsGivenBy setup.archs (said_all setup content.kept) t new) was given;
}

-- nor does a row of another architecture come
pub known_by_mail : (setup : Lists) (archs : List (List ℕ)) (s : Covered) (old new : Suite) → archs ≡ setup.archs → KnowsArchs archs old.rows → IsGivenBy setup.archs s old new → KnowsArchs setup.archs new.rows
known_by_mail setup archs s old new same was given = record {
  each = λ row c. elim (given.rows row c) [
    | inl before ↦ subst (λ (a : List (List ℕ)). IsArchPlace a row.arch) same (was.each row before)
    | inr built ↦ built.known
  ];
}
