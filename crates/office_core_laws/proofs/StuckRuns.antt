-- A source that is shown to be stuck stays, whatever `easy` hints are mailed on top.
use Rattle.std.proofs.Common.{◌≡◌, ℕ, ◌+◌, ◌<◌, ◌≤◌, List, [], ◌∷◌, ◌++◌, length, Option, Some, Result, Ok, Err, refl, sym, ap, ◌∙◌, subst, arith}
use Rattle.std.specs.Prelude.{Contains, option_to_list}
use Rattle.std.specs.List.{AllByRecursion}
use Rattle.std.proofs.lemmas.Option.{same_Some}
use Rattle.jiff_core.specs.declared.civil.date.Date.{Date}
use Rattle.testing_rules_items.specs.declared.item.Item.{Item as AnItem}
use Rattle.testing_rules_items.specs.declared.item.Item.TheVariants.{Upload, Dropped, Build, Bug, Hint, Unhint, Delays, Nothing}
use Rattle.testing_rules_items.specs.Words.{Text, sorted_by}
use Rattle.testing_rules_items.proofs.Each.{each-put, each-weaker}
use Rattle.testing_rules_items.proofs.Members.{head_of, tail_of}
use Rattle.testing_rules_model.specs.declared.excuse.Excuse.{Excuse}
use Rattle.testing_rules_model.specs.declared.facts.HintIn.{HintIn}
use Rattle.testing_rules_model.specs.Covered.{Covered, CoveredItem, hint_of, hints_in}
use Rattle.testing_rules_model.specs.Excuses.{excuses_of, testing_version}
use Rattle.testing_rules_model.specs.Suite.{Suite}
use Rattle.testing_rules_model.specs.Unstable.{hint_order, hints_by_number, unstable_builds, unstable_rows, unstable_sources}
use Rattle.testing_rules_model.specs.Updates.{in_turn, move_easy, move_singles, update_of}
use Rattle.testing_rules_model.proofs.BuiltOrder.{built-by_key}
use Rattle.testing_rules_model.proofs.Sets.{given_by}
use Rattle.testing_rules_refusals.specs.Stuck.{NoGroupFrees}
use Rattle.office_mail_setup.specs.declared.setup.Role.TheVariants.{Release}
use Rattle.office_mail_setup.specs.Kinds.{role_needed}
use Rattle.office_mail_setup.specs.Setup.{IsSetup}
use Rattle.office_mail.specs.declared.message.Body.{Body}
use Rattle.office_mail.specs.declared.message.Body.TheVariants.{Item, Run}
use Rattle.office_mail.specs.declared.message.MailFault.{MailFault}
use Rattle.office_mail.specs.declared.message.Message.{Message}
use Rattle.office_mail.specs.Kept.{Kept, Place, place_of}
use Rattle.office_mail.specs.Lists.{Lists}
use Rattle.office_mail.specs.Read.{read}
use Rattle.office_mail.specs.Said.{kind_of}
use Rattle.office_mail.proofs.KeptFacts.{placed_ok}
use Rattle.office_mail.proofs.SaidFacts as mail
use Rattle.office_store_keeper.specs.Provenance.{AreOwnTexts}
use Rattle.office_store_keeper.specs.declared.values.Letter.{Letter}
use Rattle.office_core_facts.specs.Outcome.{item_at, item_in_body, outcome, testing_after}
use Rattle.office_core_facts.specs.steps.Walk.{item_in_answer}
use Rattle.office_core_facts.specs.Seen.{items_within, release}
use Rattle.office_core_facts.proofs.CoveredFacts.{says_within}
use Rattle.office_core_outcome.specs.Hints.{hint_letter, hint_letters, with_letters}
use Rattle.office_core_outcome.specs.Proposal.{IsShownStuck, behind_standing}
use Rattle.office_core_laws.specs.StuckStays.{AreEasy, SaysEasy, testing_standing, testing_with}
use Rattle.testing_rules_items.specs.declared.item.HintItem.{HintItem}
use Rattle.office_core_laws.proofs.EasyHints.{HasMore, coming, easy_hint, easy_message, excuses_same, no_more, one_more, then_more, update_is}
use Rattle.office_core_laws.proofs.RowOrder.{builds_by_pair}

-- The hints of covered mail are the release team's, up to what is covered of it.

hint_needs_at : (s n : ℕ) (i : AnItem) (h : HintIn) → hint_of (record { sender = s; number = n; item = i }) ≡ Some h → (role_needed (kind_of (Item i)) ≡ Some Release) × (h.number ≡ n)
hint_needs_at s n (Upload source version urgency day) h e = absurd (cc e)
hint_needs_at s n (Dropped name arch version) h e = absurd (cc e)
hint_needs_at s n (Build binaries) h e = absurd (cc e)
hint_needs_at s n (Bug bug source severity found fixed) h e = absurd (cc e)
hint_needs_at s n (Hint hint) h e = (refl, sym (ap (λ (x : HintIn). x.number) (same_Some (record { hint = hint; sender = s; number = n }) h e)))
hint_needs_at s n (Unhint number) h e = absurd (cc e)
hint_needs_at s n (Delays low medium high critical) h e = absurd (cc e)
hint_needs_at s n Nothing h e = absurd (cc e)

-- what an item at a place says, its message says under this place
record IsSaidAt (setup : Lists) (p : Place) (text : List ℕ) (m : CoveredItem) : Type 0 where
  message : Message
  reads : read setup text ≡ Ok message
  body : message.body ≡ Item m.item
  number : m.number ≡ p.1

said_body : (setup : Lists) (p : Place) (text : List ℕ) (m : CoveredItem) (message : Message) (b : Body) → read setup text ≡ Ok message → message.body ≡ b → item_in_body p b ≡ Some m → IsSaidAt setup p text m
said_body setup p text m message (Run order) is at e = absurd (cc e)
said_body setup p text m message (Item item) is at e =
    let made : CoveredItem = record { sender = p.0; number = p.1; item = item } in
    subst (IsSaidAt setup p text) (same_Some made m e) (record { message = message; reads = is; body = at; number = refl })

said_answer : (setup : Lists) (p : Place) (text : List ℕ) (m : CoveredItem) (r : Result Message MailFault) → read setup text ≡ r → item_in_answer p r ≡ Some m → IsSaidAt setup p text m
said_answer setup p text m (Err fault) is e = absurd (cc e)
said_answer setup p text m (Ok message) is e = said_body setup p text m message message.body is refl e

said_at : (setup : Lists) (p : Place) (text : List ℕ) (m : CoveredItem) → item_at setup (p, text) ≡ Some m → IsSaidAt setup p text m
unfolding item_at
said_at setup p text m e = said_answer setup p text m (read setup text) refl e

module _ (setup : Lists) (kept : Kept) (covers : ℕ → ℕ) (is_setup : IsSetup setup) (own : AreOwnTexts setup kept) where
  abbrev mail_within : Covered
  mail_within = items_within setup kept covers

  abbrev last : ℕ
  last = covers (release setup)

  hint_within : (h : HintIn) → Contains (hints_in mail_within) h → h.number < last + 1
  hint_within h c =
      let m = given_by hint_of mail_within h c in
      let says = says_within setup kept covers m.0 m.1 in
      let said = said_at setup says.place says.text m.0 says.is in
      let needs = hint_needs_at m.0.sender m.0.number m.0.item h m.2 in
      let role : role_needed (kind_of said.message.body) ≡ Some Release = ap (λ (b : Body). role_needed (kind_of b)) said.body ∙ needs.0 in
      let at : place_of said.message ≡ says.place =
      ap (λ (q : Place × List ℕ). q.0) (same_Some (place_of said.message, says.text) (says.place, says.text) (sym (placed_ok setup says.text said.message said.reads) ∙ own says.place says.text says.there)) in
      let sender : says.place.0 ≡ release setup = sym (ap (λ (q : Place). q.0) at) ∙ (mail.keeps setup says.text said.message said.reads).sender Release role is_setup.release in
      let same : covers says.place.0 ≡ last = ap covers sender in
      omega (arith, needs.1, said.number, says.high, same)

  abbrev Below : ℕ → HintIn → Type 0
  Below n h = h.number < n

  each_in : {A : Type 0} (P : A → Type 0) (xs : List A) → ((x : A) → Contains xs x → P x) → AllByRecursion P xs
  each_in P [] h = tt
  each_in P (x ∷ xs) h = (h x (head_of x xs), each_in P xs (λ y c. h y (tail_of x xs y c)))

  each_sorted : (n : ℕ) (hs : List HintIn) → AllByRecursion (Below n) hs → AllByRecursion (Below n) (sorted_by (λ h. h) hint_order hs)
  each_sorted n [] e = tt
  each_sorted n (h ∷ hs) e = each-put (Below n) (λ (x : HintIn). x) hint_order h (sorted_by (λ x. x) hint_order hs) e.0 (each_sorted n hs e.1)

  below_first : AllByRecursion (Below (last + 1)) (hints_by_number mail_within)
  below_first = each_sorted (last + 1) (hints_in mail_within) (each_in (Below (last + 1)) (hints_in mail_within) hint_within)

  -- The messages of the hints.

  with_easy : (archs : List Text) (n : ℕ) (hints : List (List ℕ)) (mail : Covered) → AreEasy setup n hints → AllByRecursion (Below (n + 1)) (hints_by_number mail)
      → HasMore archs mail (with_letters setup (release setup) (hint_letters setup n hints) mail)
  unfolding with_letters
  with_easy archs n [] mail easy below = no_more archs mail
  with_easy archs n (hint ∷ rest) mail easy below =
      let first : Letter = hint_letter setup (n + 1) hint in
      let others : List Letter = hint_letters setup (n + 1) rest in
      let says : SaysEasy setup first = easy first (head_of first others) in
      let message : CoveredItem = easy_message (release setup) (n + 1) says.items in
      let one : HasMore archs mail (message ∷ mail) = one_more archs mail (release setup) (n + 1) says.items below in
      let wider : AllByRecursion (Below (n + 1 + 1)) (hints_by_number mail) = each-weaker (Below (n + 1)) (Below (n + 1 + 1)) (λ h low. omega (arith, low)) (hints_by_number mail) below in
      let next : AllByRecursion (Below (n + 1 + 1)) (hints_by_number (message ∷ mail)) =
      each_sorted_put (n + 1 + 1) mail (n + 1) says.items (omega arith) wider in
      let more : HasMore archs (message ∷ mail) (with_letters setup (release setup) others (message ∷ mail)) =
      with_easy archs (n + 1) rest (message ∷ mail) (λ letter c. easy letter (tail_of first others letter c)) next in
      subst (λ (o : Option CoveredItem). HasMore archs mail (with_letters setup (release setup) others (option_to_list o ++ mail))) (sym says.says)
      (then_more archs mail (message ∷ mail) (with_letters setup (release setup) others (message ∷ mail)) one more)
    where
      each_sorted_put : (n : ℕ) (mail : Covered) (number : ℕ) (items : List HintItem) → number < n → AllByRecursion (Below n) (hints_by_number mail)
          → AllByRecursion (Below n) (hints_by_number (easy_message (release setup) number items ∷ mail))
      each_sorted_put n mail number items low e = each-put (Below n) (λ (x : HintIn). x) hint_order (easy_hint (release setup) number items) (hints_by_number mail) low e

  pub easy_more : (archs : List Text) (hints : List (List ℕ)) → AreEasy setup last hints → HasMore archs mail_within (with_letters setup (release setup) (hint_letters setup last hints) mail_within)
  easy_more archs hints easy = with_easy archs last hints mail_within easy below_first

-- A run.

module _ (law : NoGroupFrees) (archs : List Text) (few : length archs ≤ 16) (before : Suite) (date : Date) (said more : Covered) (m : HasMore archs said more) (source text : Text) (shown : IsShownStuck archs date said before source text) where
  abbrev excuses : List Excuse
  excuses = excuses_of archs said before date

  -- testing after what of the new hints is in force, and the single moves
  abbrev after : Suite
  after =
      let sources = unstable_sources said in
      let rows = unstable_rows archs said in
      (move_singles archs sources rows excuses (in_turn (move_easy archs sources rows excuses) (coming archs said more m before date) (behind_standing archs said excuses before)).suite).suite

  pub shown_stays : testing_version (update_of archs more (excuses_of archs more before date) before).suite source ≡ testing_version (behind_standing archs said excuses before) source
  shown_stays =
      let frees = law archs (unstable_sources said) (unstable_rows archs said) excuses (behind_standing archs said excuses before) (shown.own ∷ shown.behind) (built-by_key archs (unstable_builds said) few (builds_by_pair said)) shown.are in
      ap (λ (es : List Excuse). testing_version (update_of archs more es before).suite source) (excuses_same archs said more m before date)
      ∙ ap (λ (s : Suite). testing_version s source) (update_is archs said more m before date excuses)
      ∙ subst (λ (name : Text). testing_version after name ≡ testing_version (behind_standing archs said excuses before) name) shown.named
      (frees (coming archs said more m before date) shown.own (head_of shown.own shown.behind))

-- A run of an office.

pub office_stays : NoGroupFrees → (setup : Lists) (kept : Kept) (k : ℕ) (date : Date) (covers : ℕ → ℕ) (source text : Text) → IsSetup setup → AreOwnTexts setup kept
    → IsShownStuck setup.archs date (items_within setup kept covers) (testing_after setup kept k) source text → (hints : List (List ℕ)) → AreEasy setup (covers (release setup)) hints
    → testing_version (testing_with setup kept k date covers hints) source ≡ testing_version (testing_standing setup kept k date covers) source
unfolding outcome
office_stays law setup kept k date covers source text is_setup own shown hints easy =
    let mail = items_within setup kept covers in
    shown_stays law setup.archs is_setup.archs.few (testing_after setup kept k) date mail (with_letters setup (release setup) (hint_letters setup (covers (release setup)) hints) mail)
    (easy_more setup kept covers is_setup own setup.archs hints easy) source text shown
