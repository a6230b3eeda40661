-- What the kept messages say that numbers cover.
use Rattle.std.proofs.Common.{◌≡◌, ℕ, ◌≤◌, Bool, cond, length, Some, None, List, sym, ap, ◌∙◌}
use Rattle.std.specs.Prelude.{Contains}
use Rattle.std.specs.FinMap.{get, entries, entries_sorted, get-entries, get-retain_keys, retain_keys}
use Rattle.testing_rules_model.proofs.Sets.{given_by, gives}
use Rattle.testing_rules_model.proofs.SameFacts.{stands-same}
use Rattle.testing_rules_model.specs.Covered.{CoveredItem}
use Rattle.testing_rules_model.specs.FactLists.{FactLists}
use Rattle.testing_rules_model.specs.SameMessages.{SameElements}
use Rattle.testing_rules_model.specs.StandsFor.{StandsFor}
use Rattle.testing_rules_model.specs.Suite.{Suite}
use Rattle.office_mail.specs.Lists.{Lists}
use Rattle.office_mail.specs.Kept.{Kept, Place}
use Rattle.office_mail.specs.Runs.{is_covered}
use Rattle.office_mail.proofs.KeptFacts.{exact_places}
use Rattle.office_core_facts.specs.Outcome.{item_at}
use Rattle.office_core_orders.specs.Ready.{HasPlaces}
use Rattle.office_core_facts.specs.steps.Walk.{item_of, said_within}
use Rattle.office_core_facts.proofs.WalkFacts.{covers_place, entry_found, find_entry, kept_by, of_text, one_of_each, place_covered, place_within, some_of, within_place}
use Rattle.office_core_facts.specs.Seen.{items_within}

pub get-covered : (kept : Kept) (covers : ℕ → ℕ) (p : Place) → get (retain_keys kept (is_covered covers)) p ≡ cond (is_covered covers p) (get kept p) None
get-covered kept covers p = get-retain_keys kept (is_covered covers) p (λ x e. ap (is_covered covers) (sym (exact_places p x e)))

-- a kept message that is covered says it
pub record SaysWithin (setup : Lists) (kept : Kept) (covers : ℕ → ℕ) (m : CoveredItem) : Type 0 where
  pub place : Place
  pub text : List ℕ
  pub there : get kept place ≡ Some text
  pub is : item_at setup (place, text) ≡ Some m
  pub low : 1 ≤ place.1
  pub high : place.1 ≤ covers place.0

pub within_says : (setup : Lists) (kept : Kept) (covers : ℕ → ℕ) (m : CoveredItem) → SaysWithin setup kept covers m → Contains (items_within setup kept covers) m
unfolding items_within
within_says setup kept covers m says =
    let left = retain_keys kept (is_covered covers) in
    let found : get left says.place ≡ Some says.text = get-covered kept covers says.place ∙ ap (λ (b : Bool). cond b (get kept says.place) None) (place_covered covers says.place says.low says.high) ∙ says.there in
    gives (item_at setup) (entries left) (says.place, says.text) m (entry_found (entries left) says.place says.text (sym (get-entries left says.place) ∙ found)) says.is

pub says_within : (setup : Lists) (kept : Kept) (covers : ℕ → ℕ) (m : CoveredItem) → Contains (items_within setup kept covers) m → SaysWithin setup kept covers m
unfolding items_within
says_within setup kept covers m c =
    let left = retain_keys kept (is_covered covers) in
    let e = given_by (item_at setup) (entries left) m c in
    let found : get left e.0.0 ≡ Some e.0.1 = get-entries left e.0.0 ∙ find_entry (entries left) e.0 (entries_sorted left) e.1 in
    let stood = kept_by (is_covered covers e.0.0) (get kept e.0.0) e.0.1 (sym (get-covered kept covers e.0.0) ∙ found) in
    let within = covers_place covers e.0.0 stood.0 in
    record { place = e.0.0; text = e.0.1; there = stood.1; is = e.2; low = within.0; high = within.1 }

-- they say what a walk over the senders takes
pub same_within : (setup : Lists) (kept : Kept) (covers : ℕ → ℕ) → HasPlaces setup kept → SameElements (said_within setup kept covers (length setup.senders)) (items_within setup kept covers)
same_within setup kept covers places = (
  λ m c.
      let p = within_place setup kept covers (length setup.senders) m c in
      let text = of_text setup p.0 (get kept p.0) m p.1.is in
      within_says setup kept covers m (record { place = p.0; text = text.0; there = text.1; is = text.2; low = p.1.low; high = p.1.high }),
  λ m c.
      let says = says_within setup kept covers m c in
      place_within setup kept covers (length setup.senders) m says.place (record {
        sender = (places says.place (some_of (get kept says.place) says.text says.there)).sender;
        low = says.low;
        high = says.high;
        is = ap (item_of setup says.place) says.there ∙ says.is;
      }),
)

-- so facts that took that walk stand for them
pub stands_within : (setup : Lists) (kept : Kept) (covers : ℕ → ℕ) (f : FactLists) (t : Suite) → HasPlaces setup kept → StandsFor f (said_within setup kept covers (length setup.senders)) t → StandsFor f (items_within setup kept covers) t
stands_within setup kept covers f t places stands =
    stands-same (said_within setup kept covers (length setup.senders)) (items_within setup kept covers) (same_within setup kept covers places) (one_of_each setup kept covers (length setup.senders)) f t stands
