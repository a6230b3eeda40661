-- Offices that got each other's mail.
use Rattle.std.proofs.Common.{◌≡◌, inl, inr, ℕ, Bool, true, false, cond, List, [], ◌∷◌, length, Option, Some, None, Result, Ok, Err, IsSome, is_ok, sym, ap, subst, ◌∙◌, refl}
use Rattle.std.specs.Str.{bytes_eq}
use Rattle.std.specs.List.{AllByRecursion}
use Rattle.std.specs.FinMap.{get, get-insert, insert}
use Rattle.std.specs.Ordering.{is_eq}
use Rattle.std.proofs.lemmas.Cmp.{tied_itself}
use Rattle.std.proofs.lemmas.Slice.Eq.{bytes_eq-Decides}
use Rattle.office_mail.specs.declared.message.Message.{Message}
use Rattle.office_mail.specs.declared.message.MailFault.{MailFault}
use Rattle.office_mail.specs.Kept.{IsPlace, Kept, Place, Within, kept_from, place_of, placed}
use Rattle.office_mail.specs.Laws.{IsOneOf}
use Rattle.office_mail.specs.Lists.{Lists}
use Rattle.office_mail.specs.Read.{read}
use Rattle.office_mail.specs.Runs.{IsReadyCount}
use Rattle.office_mail.specs.steps.ReadSteps.{placed_as}
use Rattle.office_mail.proofs.KeptFacts.{kept_from-Within, kept_from-append, kept_from-free, kept_from-taken, places_total, same_kept}
use Rattle.office_store_keeper.specs.Content.{Content}
use Rattle.office_core_replies.specs.declared.faults.DeliverFault.{DeliverFault}
use Rattle.office_core_replies.specs.declared.faults.DeliverFault.TheVariants.{OtherText}
use Rattle.office_core_replies.specs.declared.faults.Held.{Held}
use Rattle.office_core_facts.specs.Outcome.{reports_to, testing_after}
use Rattle.office_core_facts.specs.State.{IsOffice, answer_at, answer_by, answer_to}
use Rattle.office_core.specs.Together.{answers_to}
use Rattle.office_core.proofs.LawFacts.{same_count}
use Rattle.office_core_queries.specs.Export.{kept_texts}
use Rattle.office_core_queries.proofs.ExportFacts.{there_texts}

some_same : {A : Type 0} (x y : A) → Some x ≡ Some y → x ≡ y
some_same x y e = cc

some_of : (o : Option (List ℕ)) (x : List ℕ) → o ≡ Some x → IsSome o
some_of o x e = rw e refl

-- a text that is held stands at its place
put_there : (kept : Kept) (p : Place) (text : List ℕ) → get (insert kept p text) p ≡ Some text
put_there kept p text = get-insert places_total kept p text p ∙ ap (λ (b : Bool). cond b (Some text) (get kept p)) (ap is_eq (tied_itself places_total p))

refused_false : (r : Result Held DeliverFault) → r ≡ Err OtherText → is_ok r ≡ true → false ≡ true
refused_false r e held = sym (ap (λ (x : Result Held DeliverFault). is_ok x) e) ∙ held

other_refused : (stored text : List ℕ) (m : Message) → bytes_eq stored text ≡ false → answer_at text m (Some stored) ≡ Err OtherText
other_refused stored text m e = rw e refl

same_text : (b : Bool) (stored text : List ℕ) (m : Message) → bytes_eq stored text ≡ b → is_ok (answer_at text m (Some stored)) ≡ true → stored ≡ text
same_text true stored text m e held = (bytes_eq-Decides stored text).0 e
same_text false stored text m e held = absurd (cc (refused_false (answer_at text m (Some stored)) (other_refused stored text m e) held))

held_found : (setup : Lists) (kept : Kept) (text : List ℕ) (m : Message) (o : Option (List ℕ)) → get kept (place_of m) ≡ o → read setup text ≡ Ok m → is_ok (answer_at text m o) ≡ true → get (kept_from setup kept (text ∷ [])) (place_of m) ≡ Some text
held_found setup kept text m None at e held = ap (λ (k : Kept). get k (place_of m)) (kept_from-free setup kept text m e at) ∙ put_there kept (place_of m) text
held_found setup kept text m (Some stored) at e held =
    ap (λ (k : Kept). get k (place_of m)) (kept_from-taken setup kept text m e (some_of (get kept (place_of m)) stored at)) ∙ at
    ∙ ap Some (same_text (bytes_eq stored text) stored text m refl held)

held_read : (setup : Lists) (kept : Kept) (text : List ℕ) (p : Place) (r : Result Message MailFault) → read setup text ≡ r → placed_as text r ≡ Some (p, text) → is_ok (answer_by kept text r) ≡ true → get (kept_from setup kept (text ∷ [])) p ≡ Some text
held_read setup kept text p (Ok m) e own held =
    subst (λ (q : Place). get (kept_from setup kept (text ∷ [])) q ≡ Some text) (ap (λ (x : Place × List ℕ). x.0) (some_same (place_of m, text) (p, text) own))
    (held_found setup kept text m (get kept (place_of m)) refl e held)
held_read setup kept text p (Err fault) e own held = absurd (cc own)

held_there : (setup : Lists) (kept : Kept) (text : List ℕ) (p : Place) → placed setup text ≡ Some (p, text) → is_ok (answer_to setup kept text) ≡ true → get (kept_from setup kept (text ∷ [])) p ≡ Some text
unfolding answer_to
held_there setup kept text p own held = held_read setup kept text p (read setup text) refl own held

-- so does each of several that are held
each_held : (setup : Lists) (kept : Kept) (texts : List (List ℕ)) (t : List ℕ) (p : Place) → AllByRecursion (λ answer. is_ok answer ≡ true) (answers_to setup kept texts) → IsOneOf t texts → placed setup t ≡ Some (p, t) → get (kept_from setup kept texts) p ≡ Some t
each_held setup kept [] t p held there own = absurd there
each_held setup kept (x ∷ xs) t p held (inl same) own =
    let first : get (kept_from setup kept (x ∷ [])) p ≡ Some t = subst (λ (y : List ℕ). get (kept_from setup kept (x ∷ [])) p ≡ Some y) (sym same)
    (held_there setup kept x p (subst (λ (y : List ℕ). placed setup y ≡ Some (p, y)) same own) held.0) in
    ap (λ (k : Kept). get k p) (sym (kept_from-append setup kept (x ∷ []) xs))
    ∙ kept_from-Within setup (kept_from setup kept (x ∷ [])) xs p (some_of (get (kept_from setup kept (x ∷ [])) p) t first) ∙ first
each_held setup kept (x ∷ xs) t p held (inr there) own =
    ap (λ (k : Kept). get k p) (sym (kept_from-append setup kept (x ∷ []) xs)) ∙ each_held setup (kept_from setup kept (x ∷ [])) xs t p held.1 there own

mirrored_at : (setup : Lists) (a b : Content) (p : Place) (o : Option (List ℕ)) → IsOffice setup a → AllByRecursion (λ answer. is_ok answer ≡ true) (answers_to setup b.kept (kept_texts setup a.kept)) → get a.kept p ≡ o → IsSome o
    → get (kept_from setup b.kept (kept_texts setup a.kept)) p ≡ o
mirrored_at setup a b p None office held at some = absurd (cc some)
mirrored_at setup a b p (Some t) office held at some =
    let place : IsPlace setup p = office.places p (some_of (get a.kept p) t at) in
    each_held setup b.kept (kept_texts setup a.kept) t p held (there_texts a.kept (length setup.senders) p.0 p.1 t place.sender place.above place.below at) (office.texts p t at)

pub mirror : (setup : Lists) (a b : Content) → IsOffice setup a → IsOffice setup b → AllByRecursion (λ answer. is_ok answer ≡ true) (answers_to setup b.kept (kept_texts setup a.kept)) → Within a.kept (kept_from setup b.kept (kept_texts setup a.kept))
mirror setup a b office other held = λ p some. mirrored_at setup a b p (get a.kept p) office held refl some

-- mail within each other is the same
within_at : (a b : Kept) (p : Place) (o q : Option (List ℕ)) → get a p ≡ o → get b p ≡ q → Within a b → Within b a → get a p ≡ get b p
within_at a b p (Some x) q here there more less = sym (more p (some_of (get a p) x here))
within_at a b p None (Some y) here there more less = less p (some_of (get b p) y there)
within_at a b p None None here there more less = here ∙ sym there

pub same_within_each : (a b : Kept) → Within a b → Within b a → a ≡ b
same_within_each a b more less = same_kept a b (λ p. within_at a b p (get a p) (get b p) refl refl more less)

-- what offices with the same mail have finished
pub same_finished : (setup : Lists) (a b : Content) → IsOffice setup a → IsOffice setup b → a.kept ≡ b.kept → IsReadyCount setup a.kept (length a.reports) → IsReadyCount setup b.kept (length b.reports) → (a.reports ≡ b.reports) × (a.testing ≡ b.testing)
same_finished setup a b one two mail all every =
    let there : IsReadyCount setup b.kept (length a.reports) = subst (λ (m : Kept). IsReadyCount setup m (length a.reports)) mail all in
    let size : length a.reports ≡ length b.reports = same_count setup b.kept (length a.reports) (length b.reports) there every in (
      one.reports ∙ ap (λ (m : Kept). reports_to setup m (length a.reports)) mail ∙ ap (reports_to setup b.kept) size ∙ sym two.reports,
      one.testing_is ∙ ap (λ (m : Kept). testing_after setup m (length a.reports)) mail ∙ ap (testing_after setup b.kept) size ∙ sym two.testing_is,
    )
