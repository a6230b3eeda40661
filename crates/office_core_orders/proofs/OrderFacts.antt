-- A kept order states a number for each sender of the setup, and for no other.
use Rattle.std.proofs.Common.{◌≡◌, ℕ, List, length, map, nat_le, Option, Some, None, Result, Ok, Err, option_and_then, refl, sym, ap, subst, ◌∙◌}
use Rattle.std.specs.Prelude.{⊤}
use Rattle.std.specs.FinMap.{get}
use Rattle.std.proofs.lemmas.List.{length-map}
use Rattle.deb_control.specs.Paragraphs.{reading}
use Rattle.deb_control.specs.Relations.{◌>>=◌, items}
use Rattle.testing_rules_items.specs.declared.item.Item.{Item}
use Rattle.testing_rules_items.specs.Distinct.{is_distinct}
use Rattle.office_mail_setup.specs.declared.field.Field.TheVariants as field
use Rattle.office_mail_setup.specs.declared.kind.Kind.{Kind}
use Rattle.office_mail_setup.specs.declared.kind.Kind.TheVariants as kind
use Rattle.office_mail.specs.declared.message.Body.{Body}
use Rattle.office_mail.specs.declared.message.Body.TheVariants.{Run, Item as Saying}
use Rattle.office_mail.specs.declared.message.Message.{Message}
use Rattle.office_mail.specs.declared.message.RunOrder.{RunOrder}
use Rattle.office_mail.specs.declared.message.MailFault.{MailFault}
use Rattle.office_mail.specs.declared.message.MailFault.TheVariants.{TooLong, BadParagraph, UnknownSender, BadNumber, UnknownKind, WrongRole, TooManyParagraphs, UnknownArchitecture}
use Rattle.office_mail_setup.specs.declared.setup.Sender.{Sender}
use Rattle.office_mail.specs.Lists.{Lists}
use Rattle.office_mail.specs.WholeText.{Paragraph, needs, given, each_of, whole, first_of, rest_of}
use Rattle.office_mail.specs.Values.{number_in}
use Rattle.office_mail.specs.Days.{day_in}
use Rattle.office_mail.specs.Fields.{required, value_in}
use Rattle.office_mail.specs.Kinds.{kind_named, may_send}
use Rattle.office_mail.specs.Covers.{BadCovers, covers_in, cover_in, number_for, numbers_by_sender}
use Rattle.office_mail.specs.Read.{read, paragraphs_say, message_of, has_fields_of, sender_named, most_paragraphs, knows_archs, body_of, upload_of, drop_of, build_of, bug_of, hint_of, unhint_of, delays_of, order_of}
use Rattle.office_mail.specs.Kept.{Kept}
use Rattle.office_mail.specs.Runs.{runs, order_in, order_in_body, order_at}
use Rattle.office_mail.specs.steps.ReadSteps.{order_in_answer}

ok_same : {A E : Type 0} (a b : A) → ◌≡◌ {A = Result A E} (Ok a) (Ok b) → a ≡ b
ok_same a b e = cc

some_same : {A : Type 0} (a b : A) → Some a ≡ Some b → a ≡ b
some_same a b e = cc

-- what follows from a step that goes on
then_ok : {A B E : Type 0} (P : Type 0) (r : Result A E) (f : A → Result B E) (b : B) → (r >>= f) ≡ Ok b → ((a : A) → r ≡ Ok a → f a ≡ Ok b → P) → P
then_ok P (Ok a) f b e go = go a refl e
then_ok P (Err x) f b e go = absurd (cc)

covers_long : (setup : Lists) (text : List ℕ) (covers : List ℕ) → covers_in setup text ≡ Ok covers → length covers ≡ length setup.senders
unfolding covers_in numbers_by_sender
covers_long setup text covers e =
    then_ok _ (each_of (cover_in setup) (items text)) _ _ e (λ stated es e.
    then_ok _ (needs (is_distinct (map (λ (c : List ℕ × ℕ). c.0) stated)) BadCovers) _ _ e (λ y ey e.
    let numbers : List ℕ = map (λ (sender : Sender). number_for sender.name stated) setup.senders in
    let is : numbers ≡ covers = ok_same numbers covers e in
    ap length (sym is) ∙ length-map setup.senders (λ (sender : Sender). number_for sender.name stated)))

-- a body that is an order has a number for each sender
abbrev IsWhole : Lists → Body → Type 0
IsWhole setup (Run order) = length order.covers ≡ length setup.senders
IsWhole setup (Saying item) = ⊤

order_whole : (setup : Lists) (p : Paragraph) (order : RunOrder) → order_of setup p ≡ Ok order → length order.covers ≡ length setup.senders
unfolding order_of
order_whole setup p order e =
    then_ok _ (value_in day_in p field.Day) _ _ e (λ day ed e.
    then_ok _ (required p field.Covers) _ _ e (λ text et e.
    then_ok _ (covers_in setup text) _ _ e (λ covers ec e.
    let is : record { day = day; covers = covers } ≡ order = ok_same (record { day = day; covers = covers }) order e in
    ap (λ (o : RunOrder). length o.covers) (sym is) ∙ covers_long setup text covers ec)))

saying_whole : (setup : Lists) (r : Result Item MailFault) (body : Body) → (r >>= λ i. Ok (Saying i)) ≡ Ok body → IsWhole setup body
saying_whole setup r body e = then_ok _ r _ _ e (λ i ei e. subst (IsWhole setup) (ok_same (Saying i) body e) tt)

body_whole : (setup : Lists) (k : Kind) (first : Paragraph) (rest : List Paragraph) (body : Body) → body_of setup k first rest ≡ Ok body → IsWhole setup body
unfolding body_of
body_whole setup kind.Upload first rest body e = saying_whole setup (upload_of first) body e
body_whole setup kind.Drop first rest body e = saying_whole setup (drop_of first) body e
body_whole setup kind.Build first rest body e = saying_whole setup (build_of rest) body e
body_whole setup kind.Bug first rest body e = saying_whole setup (bug_of first) body e
body_whole setup kind.Hint first rest body e = saying_whole setup (hint_of first) body e
body_whole setup kind.Unhint first rest body e = saying_whole setup (unhint_of first) body e
body_whole setup kind.Delays first rest body e = saying_whole setup (delays_of first) body e
body_whole setup kind.Run first rest body e = then_ok _ (order_of setup first) _ _ e (λ order eo e. subst (IsWhole setup) (ok_same (Run order) body e) (order_whole setup first order eo))
body_whole setup kind.Nothing first rest body e = subst (IsWhole setup) (ok_same _ body e) tt

message_whole : (setup : Lists) (from number : List ℕ) (stated : Option Kind) (first : Paragraph) (rest : List Paragraph) (m : Message) → message_of setup from number stated first rest ≡ Ok m → IsWhole setup m.body
unfolding message_of
message_whole setup from number stated first rest m e =
    then_ok _ (given (sender_named setup from) UnknownSender) _ _ e (λ sender es e.
    then_ok _ (given (number_in 1 999_999_999 number) BadNumber) _ _ e (λ n en e.
    then_ok _ (given stated UnknownKind) _ _ e (λ k ek e.
    then_ok _ (needs (may_send sender.1 k) WrongRole) _ _ e (λ x may e.
    then_ok _ (needs (nat_le (length rest) (most_paragraphs k)) TooManyParagraphs) _ _ e (λ y few e.
    then_ok _ (needs (knows_archs setup k first rest) UnknownArchitecture) _ _ e (λ z known e.
    then_ok _ (body_of setup k first rest) _ _ e (λ body eb e.
    let is : record { sender = sender.0; number = n; body = body } ≡ m = ok_same (record { sender = sender.0; number = n; body = body }) m e in
    subst (λ (o : Message). IsWhole setup o.body) is (body_whole setup k first rest body eb))))))))

paragraphs_whole : (setup : Lists) (first : Paragraph) (rest : List Paragraph) (m : Message) → paragraphs_say setup first rest ≡ Ok m → IsWhole setup m.body
unfolding paragraphs_say
paragraphs_whole setup first rest m e =
    then_ok _ (required first field.From) _ _ e (λ from ef e.
    then_ok _ (required first field.Number) _ _ e (λ number en e.
    then_ok _ (required first field.Kind) _ _ e (λ word ek e.
    then_ok _ (has_fields_of (kind_named word) first rest) _ _ e (λ x ex e.
    message_whole setup from number (kind_named word) first rest m e))))

read_whole : (setup : Lists) (text : List ℕ) (m : Message) → read setup text ≡ Ok m → IsWhole setup m.body
unfolding read
read_whole setup text m e =
    then_ok _ (needs (nat_le (length text) 65_536) TooLong) _ _ e (λ x ex e.
    then_ok _ (whole (reading text) BadParagraph) _ _ e (λ ps ep e.
    paragraphs_whole setup (first_of ps) (rest_of ps) m e))

whole_in_body : (setup : Lists) (body : Body) (order : RunOrder) → IsWhole setup body → order_in_body body ≡ Some order → length order.covers ≡ length setup.senders
whole_in_body setup (Run o) order h e = ap (λ (x : RunOrder). length x.covers) (sym (some_same o order e)) ∙ h
whole_in_body setup (Saying item) order h e = absurd (cc)

whole_in_answer : (setup : Lists) (text : List ℕ) (r : Result Message MailFault) (order : RunOrder) → read setup text ≡ r → order_in_answer r ≡ Some order → length order.covers ≡ length setup.senders
whole_in_answer setup text (Ok message) order is e = whole_in_body setup message.body order (read_whole setup text message is) e
whole_in_answer setup text (Err fault) order is e = absurd (cc)

whole_in_text : (setup : Lists) (o : Option (List ℕ)) (order : RunOrder) → option_and_then (order_in setup) o ≡ Some order → length order.covers ≡ length setup.senders
whole_in_text setup (Some text) order e = whole_in_answer setup text (read setup text) order refl e
whole_in_text setup None order e = absurd (cc)

-- an order has as many numbers as there are senders
pub covers_are_whole : (setup : Lists) (kept : Kept) (k : ℕ) (order : RunOrder) → order_at setup kept k ≡ Some order → length order.covers ≡ length setup.senders
unfolding order_at
covers_are_whole setup kept k order e = whole_in_text setup (get kept (runs setup, k)) order e
