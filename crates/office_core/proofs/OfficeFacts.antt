-- What a delivery leaves of an office.
use Rattle.std.proofs.Common.{OnOk, ◌≡◌, ◌⊎◌, ⊎_elim, inl, inr, ℕ, zero, suc, Bool, true, false, cond, List, [], ◌∷◌, ◌++◌, length, Option, Some, None, Result, Ok, Err, IsSome, sym, ap, subst, ◌∙◌, refl, rules}
use Rattle.std.specs.Ordering.{eq_by_cmp}
use Rattle.std.specs.FinMap.{get, insert, empty, get-empty, get-insert}
use Rattle.office_mail.specs.declared.message.Message.{Message}
use Rattle.office_mail.specs.declared.message.MailFault.{MailFault}
use Rattle.office_mail.specs.declared.message.MailFault.TheVariants.{NoMemory}
use Rattle.office_mail.specs.Kept.{place_cmp, place_of, placed, kept_from, IsPlace, Kept, Place, Within}
use Rattle.office_mail.specs.Read.{read}
use Rattle.office_mail.proofs.KeptFacts.{places_total, tied, placed_ok, kept_from-nil, kept_from-append, kept_from-fault, kept_from-free, kept_from-taken, kept_from-Within}
use Rattle.office_mail.proofs.RunFacts.{IsReady-zero, IsReady-before, IsReady-later}
use Rattle.office_core_replies.specs.declared.faults.DeliverFault.{DeliverFault}
use Rattle.office_core_replies.specs.declared.faults.DeliverFault.TheVariants.{Mail}
use Rattle.office_core_replies.specs.declared.faults.Held.{Held}
use Rattle.office_store_keeper.specs.Content.{Content, no_content, with_text}
use Rattle.office_store_keeper.specs.FactSet.{FactSet, count_in}
use Rattle.office_store_keeper.specs.Provenance.{AreOwnTexts}
use Rattle.office_core_facts.specs.State.{IsOffice, KeepsFacts, AnswersDelivery, answer_to, answer_by, answer_at}
use Rattle.office_mail.specs.Lists.{Lists}
use Rattle.office_mail.specs.Runs.{IsReady}
use Rattle.office_store_keeper.specs.declared.values.Reports.{Reports}
use Rattle.std.specs.Prelude.{⊤, is_some, if◌then◌else◌, Contains}
use Rattle.testing_rules_items.proofs.Members.{none_among}
use Rattle.testing_rules_model.proofs.Sets.{at_front}
use Rattle.testing_rules_model.specs.FactLists.{no_facts}
use Rattle.testing_rules_model.specs.FactRows.{row_order}
use Rattle.testing_rules_model.specs.KeptFacts.{KeptFacts}
use Rattle.testing_rules_laws.specs.Watched.{AllWatchedWork}
use Rattle.office_core_facts.proofs.WalkFacts.{none_covered}
use Rattle.office_core_outcome.proofs.OutcomeFacts.{covered_items-later, outcome_of-later}
use Rattle.testing_rules_laws.specs.Covered.{Covered}
use Rattle.office_core_facts.specs.Outcome.{Outcome, Testing, covered_items, outcome_of, reports_from, reports_of, reports_to, testing_after}

pub reports_to-later : (setup : Lists) (small large : Kept) (k : ℕ) → Within small large → IsReady setup small k → reports_to setup large k ≡ reports_to setup small k
unfolding reports_to
reports_to-later setup small large zero within ready = refl
reports_to-later setup small large (suc k) within ready =
    ap (λ (rs : List Reports). rs ++ reports_of setup large (suc k) ∷ []) (reports_to-later setup small large k within (IsReady-before setup small k ready))
    ∙ ap (λ (o : Outcome). reports_to setup small k ++ reports_from o ∷ []) (outcome_of-later setup small large (suc k) within ready)

pub answer_due : (r due : Result Held DeliverFault) → r ≡ due → AnswersDelivery r due
answer_due r due e = search (rules, e)

pub answer_no_memory : (due : Result Held DeliverFault) → AnswersDelivery (Err (Mail NoMemory)) due
answer_no_memory due = search rules

pub answer_fault : (setup : Lists) (kept : Kept) (text : List ℕ) (fault : MailFault) → (read setup text ≡ Err fault) ⊎ (fault ≡ NoMemory) → AnswersDelivery (Err (Mail fault)) (answer_to setup kept text)
unfolding answer_to
answer_fault setup kept text fault h = ⊎_elim
    (λ e. answer_due (Err (Mail fault)) (answer_to setup kept text) (sym (ap (answer_by kept text) e)))
    (λ same. rw same (answer_no_memory (answer_to setup kept text))) h

pub some_of : {A : Type 0} (o : Option A) (x : A) → o ≡ Some x → IsSome o
some_of o x e = rw e refl

pub kept_from-stored : (setup : Lists) (kept : Kept) (text stored : List ℕ) (message : Message) → read setup text ≡ Ok message → get kept (place_of message) ≡ Some stored → kept ≡ kept_from setup kept (text ∷ [])
kept_from-stored setup kept text stored message e taken = sym (kept_from-taken setup kept text message e (some_of (get kept (place_of message)) stored taken))

some_same : {A : Type 0} (x y : A) → Some x ≡ Some y → x ≡ y
some_same x y e = cc

own_choice : (setup : Lists) (kept : Kept) (text : List ℕ) (message : Message) (p : Place) (t : List ℕ) (b : Bool) → read setup text ≡ Ok message → AreOwnTexts setup kept → eq_by_cmp place_cmp p (place_of message) ≡ b → cond b (Some text) (get kept p) ≡ Some t → placed setup t ≡ Some (p, t)
own_choice setup kept text message p t true e own at found =
    subst (λ (u : List ℕ). placed setup u ≡ Some (p, u)) (some_same text t found)
    (subst (λ (q : Place). placed setup text ≡ Some (q, text)) (sym (tied (place_of message) p at)) (placed_ok setup text message e))
own_choice setup kept text message p t false e own at found = own p t found

-- a message put at its own place
own_texts-put : (setup : Lists) (kept : Kept) (text : List ℕ) (message : Message) → read setup text ≡ Ok message → AreOwnTexts setup kept → AreOwnTexts setup (insert kept (place_of message) text)
own_texts-put setup kept text message e own = λ p t h.
    own_choice setup kept text message p t (eq_by_cmp place_cmp p (place_of message)) e own refl (sym (get-insert places_total kept (place_of message) text p) ∙ h)

own_texts-found : (setup : Lists) (kept : Kept) (text : List ℕ) (message : Message) (found : Option (List ℕ)) → read setup text ≡ Ok message → get kept (place_of message) ≡ found → AreOwnTexts setup kept → AreOwnTexts setup (kept_from setup kept (text ∷ []))
own_texts-found setup kept text message None e at own = subst (AreOwnTexts setup) (sym (kept_from-free setup kept text message e at)) (own_texts-put setup kept text message e own)
own_texts-found setup kept text message (Some stored) e at own = subst (AreOwnTexts setup) (sym (kept_from-taken setup kept text message e (some_of (get kept (place_of message)) stored at))) own

own_texts-answer : (setup : Lists) (kept : Kept) (text : List ℕ) (answer : Result Message MailFault) → read setup text ≡ answer → AreOwnTexts setup kept → AreOwnTexts setup (kept_from setup kept (text ∷ []))
own_texts-answer setup kept text (Ok message) e own = own_texts-found setup kept text message (get kept (place_of message)) e refl own
own_texts-answer setup kept text (Err fault) e own = subst (AreOwnTexts setup) (sym (kept_from-fault setup kept text fault e)) own

-- deliveries leave each kept text under its own sender and number
pub own_texts-kept_from : (setup : Lists) (kept : Kept) (texts : List (List ℕ)) → AreOwnTexts setup kept → AreOwnTexts setup (kept_from setup kept texts)
own_texts-kept_from setup kept [] own = subst (AreOwnTexts setup) (sym (kept_from-nil setup kept)) own
own_texts-kept_from setup kept (t ∷ ts) own = subst (AreOwnTexts setup) (kept_from-append setup kept (t ∷ []) ts)
    (own_texts-kept_from setup (kept_from setup kept (t ∷ [])) ts (own_texts-answer setup kept t (read setup t) refl own))

place_after : (b : Bool) (text : List ℕ) (o : Option (List ℕ)) → IsSome (cond b (Some text) o) → (b ≡ true) ⊎ IsSome o
place_after true text o h = inl refl
place_after false text o h = inr h

-- the kept facts stand where more mail is kept
KeepsFacts-later : (setup : Lists) (old new : Content) → KeepsFacts setup old → length new.reports ≡ length old.reports → new.testing ≡ old.testing → new.facts ≡ old.facts → covered_items setup new.kept (length old.reports) ≡ covered_items setup old.kept (length old.reports) → KeepsFacts setup new
KeepsFacts-later setup old new keeps size testing facts same = record {
  facts = keeps.facts;
  kept = subst (λ (t : Testing). KeptFacts keeps.facts (covered_items setup new.kept (length new.reports)) t) (sym testing)
      (subst (λ (s : Covered). KeptFacts keeps.facts s old.testing) (sym (ap (covered_items setup new.kept) size ∙ same)) keeps.kept);
  rows = λ r. keeps.rows r ∙ ap (λ (s : FactSet). count_in s r) (sym facts);
}

-- an office with more mail
pub IsOffice-later : (setup : Lists) (old new : Content) (texts : List (List ℕ)) → IsOffice setup old → new.kept ≡ kept_from setup old.kept texts → ((p : Place) → IsSome (get new.kept p) → IsPlace setup p)
    → new.reports ≡ old.reports → new.testing ≡ old.testing → new.facts ≡ old.facts → IsOffice setup new
IsOffice-later setup old new texts office is places reports testing facts =
    let within : Within old.kept new.kept = subst (Within old.kept) (sym is) (kept_from-Within setup old.kept texts) in
    let size : length new.reports ≡ length old.reports = ap length reports in
    record {
      places = places;
      texts = subst (AreOwnTexts setup) (sym is) (own_texts-kept_from setup old.kept texts office.texts);
      ready = rw size (IsReady-later setup old.kept new.kept (length old.reports) within office.ready);
      reports = reports ∙ office.reports ∙ sym (reports_to-later setup old.kept new.kept (length old.reports) within office.ready) ∙ ap (reports_to setup new.kept) (sym size);
      testing_is = testing ∙ office.testing_is ∙ sym (ap (λ (o : Outcome). o.testing) (outcome_of-later setup old.kept new.kept (length old.reports) within office.ready)) ∙ ap (testing_after setup new.kept) (sym size);
      watched = subst (λ (t : Testing). AllWatchedWork setup.archs t.rows) (sym testing) office.watched;
      facts = KeepsFacts-later setup old new office.facts size testing facts (covered_items-later setup old.kept new.kept (length old.reports) within office.ready);
    }

-- with one text put at a place, each place is one that a message may have
pub places-put : (setup : Lists) (kept : Kept) (p : Place) (text : List ℕ) → ((q : Place) → IsSome (get kept q) → IsPlace setup q) → IsPlace setup p → (q : Place) → IsSome (get (insert kept p text) q) → IsPlace setup q
places-put setup kept p text places place = λ q h.
    let some : IsSome (cond (eq_by_cmp place_cmp q p) (Some text) (get kept q)) = subst IsSome (get-insert places_total kept p text q) h in
    ⊎_elim (λ t. subst (IsPlace setup) (sym (tied p q t)) place) (λ o. places q o) (place_after _ text (get kept q) some)

-- an office with one text more
pub IsOffice-kept : (setup : Lists) (old new : Content) (text : List ℕ) (message : Message) → IsOffice setup old → read setup text ≡ Ok message → get old.kept (place_of message) ≡ None → IsPlace setup (place_of message) → new ≡ with_text old message.sender message.number text → IsOffice setup new
IsOffice-kept setup old new text message office e free place put =
    let kept : new.kept ≡ insert old.kept (place_of message) text = ap (λ (c : Content). c.kept) put in
    IsOffice-later setup old new (text ∷ []) office (kept ∙ sym (kept_from-free setup old.kept text message e free))
    (λ p h. places-put setup old.kept (place_of message) text office.places place p (subst IsSome (ap (λ k. get k p) kept) h))
    (ap (λ (c : Content). c.reports) put) (ap (λ (c : Content). c.testing) put) (ap (λ (c : Content). c.facts) put)

none_watched : (archs : List (List ℕ)) → AllWatchedWork archs []
none_watched archs = λ arch h. tt

nothing_in : {A : Type 0} (xs : List A) → ((x : A) → Contains xs x → ⊥) → xs ≡ []
nothing_in [] none = refl
nothing_in (x ∷ xs) none = absurd (none x (at_front x x xs refl))

-- facts of no message are kept facts of none
none_stand : (t : Testing) → KeptFacts no_facts [] t
none_stand t = record {
  stand = record {
    sources = refl;
    rows = refl;
    drops = refl;
    bugs = refl;
    hints = refl;
    unhints = refl;
    delays = refl;
    are_uploads = λ u c. none_among u c;
    counted = λ u c h. none_among u c;
  };
  only = λ u c. none_among u c;
}

-- an empty set has no row
abbrev row_count : Option ⊤ → ℕ
row_count o = if is_some o then 1 else 0

no_row : (o : Option ⊤) → o ≡ None → row_count o ≡ 0
no_row o e = ap row_count e

KeepsFacts-new : (setup : Lists) → KeepsFacts setup no_content
KeepsFacts-new setup = record {
  facts = no_facts;
  kept = subst (λ (s : Covered). KeptFacts no_facts s no_content.testing)
      (sym (nothing_in (covered_items setup empty 0) (λ m c. none_covered setup 0 m c))) (none_stand no_content.testing);
  rows = λ r. sym (no_row (get no_content.facts r) (get-empty row_order r));
}

-- where nothing is kept and no run is finished, an office begins
pub IsOffice-new : (setup : Lists) → IsOffice setup no_content
unfolding reports_to outcome_of
IsOffice-new setup = record {
  places = λ p h. absurd (cc (subst IsSome (get-empty place_cmp p) h));
  texts = λ p t h. absurd (cc (sym (get-empty place_cmp p) ∙ h));
  ready = IsReady-zero setup empty;
  reports = refl;
  testing_is = refl;
  watched = none_watched setup.archs;
  facts = KeepsFacts-new setup;
}

-- what holds anyway holds on Ok
pub on_ok : {T E : Type 0} {P : Type 0} (r : Result T E) → P → OnOk r P
on_ok (Ok x) p = p
on_ok (Err e) p = tt

-- a kept map is within itself, and within one with a message more
pub Within-put : (setup : Lists) (old new : Kept) (text : List ℕ) (message : Message) → read setup text ≡ Ok message → get old (place_of message) ≡ None → new ≡ insert old (place_of message) text → Within old new
Within-put setup old new text message e free put = subst (Within old) (sym (put ∙ sym (kept_from-free setup old text message e free))) (kept_from-Within setup old (text ∷ []))

-- a delivery is answered by the message that a text is
pub answer_read : (setup : Lists) (kept : Kept) (text : List ℕ) (message : Message) (r : Result Held DeliverFault) → read setup text ≡ Ok message → AnswersDelivery r (answer_at text message (get kept (place_of message))) → AnswersDelivery r (answer_to setup kept text)
unfolding answer_to
answer_read setup kept text message r e given = subst (AnswersDelivery r) (sym (ap (answer_by kept text) e)) given
