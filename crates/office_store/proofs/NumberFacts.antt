-- A kept number has 32 bits, since a message's number has nine digits at most.
use Rattle.std.proofs.Common.{◌≡◌, ◌≤◌, ◌<◌, ℕ, List, length, nat_le, is_some, true, Option, Some, None, Result, Ok, Err, refl, sym, ap, subst, arith}
use Rattle.std.specs.FinMap.{get}
use Rattle.deb_control.specs.Paragraphs.{reading}
use Rattle.deb_control.specs.Relations.{◌>>=◌}
use Rattle.office_mail_setup.specs.declared.field.Field.TheVariants as field
use Rattle.office_mail_setup.specs.declared.kind.Kind.{Kind}
use Rattle.office_mail.specs.declared.message.Message.{Message}
use Rattle.office_mail.specs.declared.message.MailFault.{MailFault}
use Rattle.office_mail.specs.declared.message.MailFault.TheVariants.{TooLong, BadParagraph, UnknownSender, BadNumber, UnknownKind, WrongRole, TooManyParagraphs, UnknownArchitecture}
use Rattle.office_mail.specs.Lists.{Lists}
use Rattle.office_mail.specs.WholeText.{Paragraph, needs, given, whole, first_of, rest_of}
use Rattle.office_mail.specs.Values.{number_in}
use Rattle.office_mail.specs.Fields.{required}
use Rattle.office_mail.specs.Kinds.{kind_named, may_send}
use Rattle.office_mail.specs.Read.{read, paragraphs_say, message_of, has_fields_of, sender_named, most_paragraphs, knows_archs, body_of}
use Rattle.office_mail.specs.Kept.{Kept, Place, place_of}
use Rattle.office_mail.specs.steps.ReadSteps.{placed_as}
use Rattle.office_mail_setup.proofs.NumberFacts.{number_range}
use Rattle.office_store_keeper.specs.Provenance.{AreOwnTexts}
use Rattle.office_store_tables.specs.TableSteps.{AreSmall}

ok_same : {A E : Type 0} (a b : A) → ◌≡◌ {A = Result A E} (Ok a) (Ok b) → a ≡ b
ok_same a b e = cc

-- what follows from a step that goes on
then_ok : {A B E : Type 0} (P : Type 0) (r : Result A E) (f : A → Result B E) (b : B) → (r >>= f) ≡ Ok b → ((a : A) → r ≡ Ok a → f a ≡ Ok b → P) → P
then_ok P (Ok a) f b e go = go a refl e
then_ok P (Err x) f b e go = absurd (cc)

was_given : {A E : Type 0} (o : Option A) (fault : E) (a : A) → given o fault ≡ Ok a → Some a ≡ o
was_given None fault a e = absurd (cc)
was_given (Some x) fault a e = ap Some (sym (ok_same x a e))

message_number : (setup : Lists) (from number : List ℕ) (stated : Option Kind) (first : Paragraph) (rest : List Paragraph) (m : Message) → message_of setup from number stated first rest ≡ Ok m → m.number ≤ 999_999_999
unfolding message_of
message_number setup from number stated first rest m e =
    then_ok _ (given (sender_named setup from) UnknownSender) _ _ e (λ sender es e.
    then_ok _ (given (number_in 1 999_999_999 number) BadNumber) _ _ e (λ n en e.
    then_ok _ (given stated UnknownKind) _ _ e (λ k ek e.
    then_ok _ (needs (may_send sender.1 k) WrongRole) _ _ e (λ x may e.
    then_ok _ (needs (nat_le (length rest) (most_paragraphs k)) TooManyParagraphs) _ _ e (λ y few e.
    then_ok _ (needs (knows_archs setup k first rest) UnknownArchitecture) _ _ e (λ z known e.
    then_ok _ (body_of setup k first rest) _ _ e (λ body eb e.
    let is : record { sender = sender.0; number = n; body = body } ≡ m = ok_same (record { sender = sender.0; number = n; body = body }) m e in
    subst (λ (o : Message). o.number ≤ 999_999_999) is (number_range 1 999_999_999 n number (was_given (number_in 1 999_999_999 number) BadNumber n en)).1)))))))

paragraphs_number : (setup : Lists) (first : Paragraph) (rest : List Paragraph) (m : Message) → paragraphs_say setup first rest ≡ Ok m → m.number ≤ 999_999_999
unfolding paragraphs_say
paragraphs_number setup first rest m e =
    then_ok _ (required first field.From) _ _ e (λ from ef e.
    then_ok _ (required first field.Number) _ _ e (λ number en e.
    then_ok _ (required first field.Kind) _ _ e (λ word ek e.
    then_ok _ (has_fields_of (kind_named word) first rest) _ _ e (λ x ex e.
    message_number setup from number (kind_named word) first rest m e))))

number_fits : (setup : Lists) (text : List ℕ) (m : Message) → read setup text ≡ Ok m → m.number ≤ 999_999_999
unfolding read
number_fits setup text m e =
    then_ok _ (needs (nat_le (length text) 65_536) TooLong) _ _ e (λ x ex e.
    then_ok _ (whole (reading text) BadParagraph) _ _ e (λ ps ep e.
    paragraphs_number setup (first_of ps) (rest_of ps) m e))

some_same : (a b : Place × List ℕ) → Some a ≡ Some b → a ≡ b
some_same a b e = cc

placed_number : (setup : Lists) (text : List ℕ) (p : Place) (answer : Result Message MailFault) → read setup text ≡ answer → placed_as text answer ≡ Some (p, text) → p.1 ≤ 999_999_999
placed_number setup text p (Ok m) is placed =
    let here : place_of m ≡ p = ap (λ (entry : Place × List ℕ). entry.0) (some_same (place_of m, text) (p, text) placed) in
    subst (λ (q : Place). q.1 ≤ 999_999_999) here (number_fits setup text m is)
placed_number setup text p (Err fault) is placed = absurd (let e = placed in cc)

-- where each kept text is a message of its own place, each kept number has 32 bits
pub own_small : (setup : Lists) (kept : Kept) → AreOwnTexts setup kept → AreSmall kept
own_small setup kept own p there = go (get kept p) refl there
  where
    go : (o : Option (List ℕ)) → get kept p ≡ o → is_some o ≡ true → p.1 < 4_294_967_296
    go None is some = absurd (let e = some in cc)
    go (Some text) is some = omega (arith, placed_number setup text p (read setup text) refl (own p text is))
