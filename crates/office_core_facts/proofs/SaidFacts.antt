-- What all kept mail says.
use Rattle.std.proofs.Common.{◌≡◌, ℕ, List, Option, Some, IsSome, sym, ap, ◌∙◌, refl}
use Rattle.std.specs.Prelude.{Contains}
use Rattle.std.specs.FinMap.{get, entries, entries_sorted, get-entries}
use Rattle.testing_rules_items.specs.declared.item.Item.{Item}
use Rattle.testing_rules_items.specs.declared.item.Item.TheVariants.{Upload, Dropped, Build, Bug, Hint, Unhint, Delays, Nothing}
use Rattle.testing_rules_model.proofs.Sets.{given_by, gives}
use Rattle.testing_rules_model.specs.Covered.{CoveredItem, delays_of}
use Rattle.testing_rules_model.specs.SameMessages.{HasOneOfEach}
use Rattle.office_mail.specs.declared.message.Body.TheVariants.{Item as Saying}
use Rattle.office_mail_setup.specs.declared.setup.Role.TheVariants.{Release}
use Rattle.office_mail.specs.Kept.{Kept, Place, Within}
use Rattle.office_mail.specs.Kinds.{role_needed}
use Rattle.office_mail.specs.Lists.{Lists}
use Rattle.office_mail.specs.Said.{kind_of}
use Rattle.office_mail.specs.Setup.{count_of, place_of_role}
use Rattle.office_mail.proofs.SaidFacts as mail
use Rattle.office_store_keeper.specs.Provenance.{AreOwnTexts}
use Rattle.office_store_keeper.proofs.SaidItems.{said_text, saying}
use Rattle.office_core_facts.specs.Known.{said_all}
use Rattle.office_core_facts.specs.Outcome.{item_at}
use Rattle.office_core_facts.proofs.GivenFacts.{says}
use Rattle.office_core_facts.proofs.WalkFacts.{at_place, entry_found, find_entry}

some_same : {A : Type 0} (x y : A) → Some x ≡ Some y → x ≡ y
some_same x y e = cc

some_of : {A : Type 0} (o : Option A) (x : A) → o ≡ Some x → IsSome o
some_of o x e = rw e refl

-- what is said is said by the text of one place
found_at : (setup : Lists) (kept : Kept) (m : CoveredItem) → Contains (said_all setup kept) m → (p : Place) × (text : List ℕ) × (get kept p ≡ Some text) × (item_at setup (p, text) ≡ Some m)
found_at setup kept m c =
    let e = given_by (item_at setup) (entries kept) m c in
    (e.0.0, e.0.1, get-entries kept e.0.0 ∙ find_entry (entries kept) e.0 (entries_sorted kept) e.1, e.2)

pub said_at_place : (setup : Lists) (kept : Kept) (p : Place) (text : List ℕ) (m : CoveredItem) → get kept p ≡ Some text → item_at setup (p, text) ≡ Some m → Contains (said_all setup kept) m
said_at_place setup kept p text m stands is =
    gives (item_at setup) (entries kept) (p, text) m (entry_found (entries kept) p text (sym (get-entries kept p) ∙ stands)) is

-- each sender says one thing under each number
pub one_of_all : (setup : Lists) (kept : Kept) → HasOneOfEach (said_all setup kept)
one_of_all setup kept = λ m o cm co sender number.
    let p = found_at setup kept m cm in
    let q = found_at setup kept o co in
    let place : p.0 ≡ q.0 = at_place setup (p.0, p.1) m p.3 ∙ ap (λ (s : ℕ). (s, m.number)) sender ∙ ap (λ (k : ℕ). (o.sender, k)) number ∙ sym (at_place setup (q.0, q.1) o q.3) in
    let text : p.1 ≡ q.1 = some_same p.1 q.1 (sym p.2 ∙ ap (get kept) place ∙ q.2) in
    some_same m o (sym p.3 ∙ ap (λ (r : Place). item_at setup (r, p.1)) place ∙ ap (λ (t : List ℕ). item_at setup (q.0, t)) text ∙ q.3)

-- more mail says it too
pub all_later : (setup : Lists) (small large : Kept) → Within small large → (m : CoveredItem) → Contains (said_all setup small) m → Contains (said_all setup large) m
all_later setup small large within m c =
    let p = found_at setup small m c in
    said_at_place setup large p.0 p.1 m (within p.0 (some_of (get small p.0) p.1 p.2) ∙ p.2) p.3

-- delays need the release team
needs_release : (s n : ℕ) (i : Item) → IsSome (delays_of (record { sender = s; number = n; item = i })) → role_needed (kind_of (Saying i)) ≡ Some Release
needs_release s n (Upload source version urgency day) h = absurd (cc h)
needs_release s n (Dropped name arch version) h = absurd (cc h)
needs_release s n (Build binaries) h = absurd (cc h)
needs_release s n (Bug bug source severity found fixed) h = absurd (cc h)
needs_release s n (Hint hint) h = absurd (cc h)
needs_release s n (Unhint number) h = absurd (cc h)
needs_release s n (Delays low medium high critical) h = refl
needs_release s n Nothing h = absurd (cc h)

-- and are told by it, where each text is kept under its own place
pub told_by_release : (setup : Lists) (kept : Kept) (m : CoveredItem) → count_of Release setup.senders ≡ 1 → AreOwnTexts setup kept → Contains (said_all setup kept) m → IsSome (delays_of m) → m.sender ≡ place_of_role Release setup.senders
told_by_release setup kept m one own c h =
    let said = said_text setup kept m (says setup kept m own c) in
    (mail.keeps setup said.text (saying m) said.reads).sender Release (needs_release m.sender m.number m.item h) one
