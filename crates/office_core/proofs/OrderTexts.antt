-- Each message of the sender of runs is an order.
use Rattle.std.proofs.Common.{◌≡◌, ℕ, ◌+◌, ◌≤◌, Bool, true, false, cond, Option, Some, None, Result, Ok, Err, List, [], ◌∷◌, IsSome, length, refl, sym, ap, subst, ◌∙◌, arith}
use Rattle.std.specs.Prelude.{nat_le}
use Rattle.std.specs.Str.{bytes_eq}
use Rattle.deb_control.specs.Relations.{◌>>=◌}
use Rattle.deb_control.specs.Paragraphs.{reading}
use Rattle.office_mail_setup.specs.declared.field.Field.TheVariants as field
use Rattle.office_mail_setup.specs.declared.kind.Kind.{Kind}
use Rattle.office_mail_setup.specs.declared.kind.Kind.TheVariants as kind
use Rattle.office_mail.specs.declared.message.Body.{Body}
use Rattle.office_mail.specs.declared.message.Body.TheVariants.{Run}
use Rattle.office_mail.specs.declared.message.Message.{Message}
use Rattle.office_mail.specs.declared.message.MailFault.TheVariants.{TooLong, BadParagraph, UnknownSender, BadNumber, UnknownKind, WrongRole, TooManyParagraphs, UnknownArchitecture}
use Rattle.office_mail_setup.specs.declared.setup.Sender.{Sender}
use Rattle.office_mail_setup.specs.declared.setup.Role.{Role}
use Rattle.office_mail_setup.specs.declared.setup.Role.TheVariants.{Upload, Build, Bugs, Release, Runs}
use Rattle.office_mail.specs.Lists.{Lists}
use Rattle.office_mail_setup.specs.WholeText.{Paragraph, needs, given, whole, first_of, rest_of}
use Rattle.office_mail_setup.specs.Values.{number_in}
use Rattle.office_mail.specs.Fields.{required}
use Rattle.office_mail_setup.specs.Kinds.{kind_named, may_send}
use Rattle.office_mail.specs.Read.{read, paragraphs_say, message_of, has_fields_of, sender_from, sender_named, most_paragraphs, knows_archs, body_of, order_of}
use Rattle.office_mail_setup.specs.Setup.{place_of_role, same_role}
use Rattle.office_mail.specs.Runs.{runs, order_in_body}

pub ok_same : {A E : Type 0} (a b : A) → ◌≡◌ {A = Result A E} (Ok a) (Ok b) → a ≡ b
ok_same a b e = cc

pub some_same : {A : Type 0} (a b : A) → Some a ≡ Some b → a ≡ b
some_same a b e = cc

-- what follows from a step that goes on
pub then_ok : {A B E : Type 0} (P : Type 0) (r : Result A E) (f : A → Result B E) (b : B) → (r >>= f) ≡ Ok b → ((a : A) → r ≡ Ok a → f a ≡ Ok b → P) → P
then_ok P (Ok a) f b e go = go a refl e
then_ok P (Err x) f b e go = absurd (cc)

pub given_ok : {A E : Type 0} (o : Option A) (fault : E) (a : A) → given o fault ≡ Ok a → o ≡ Some a
given_ok (Some x) fault a e = ap Some (ok_same x a e)
given_ok None fault a e = absurd (cc)

pub needs_ok : {E : Type 0} (b : Bool) (fault : E) (y : Bool) → needs b fault ≡ Ok y → b ≡ true
needs_ok true fault y e = refl
needs_ok false fault y e = absurd (cc)

-- ---- the sender at the place of the sender of runs has that role

-- the places of a list that begins at k are k and above
least_by : (b : Bool) (k p : ℕ) (r role : Role) (rest : Option (ℕ × Role)) → cond b (Some (k, r)) rest ≡ Some (p, role) → (rest ≡ Some (p, role) → k + 1 ≤ p) → k ≤ p
least_by true k p r role rest e h = let is : k ≡ p = ap (λ (x : ℕ × Role). x.0) (some_same (k, r) (p, role) e) in omega (arith, is)
least_by false k p r role rest e h = omega (arith, h e)

least : (name : List ℕ) (k : ℕ) (senders : List Sender) (p : ℕ) (role : Role) → sender_from k name senders ≡ Some (p, role) → k ≤ p
least name k [] p role e = absurd (cc (e))
least name k (s ∷ ss) p role e = least_by (bytes_eq s.name name) k p s.role role (sender_from (k + 1) name ss) e (least name (k + 1) ss p role)

of_runs : (r : Role) → same_role Runs r ≡ true → r ≡ Runs
of_runs Upload e = absurd (cc (e))
of_runs Build e = absurd (cc (e))
of_runs Bugs e = absurd (cc (e))
of_runs Release e = absurd (cc (e))
of_runs Runs e = refl

role_by : (b t : Bool) (k p n : ℕ) (r role : Role) (rest : Option (ℕ × Role)) → same_role Runs r ≡ t → cond b (Some (k, r)) rest ≡ Some (p, role) → p ≡ k + cond t 0 (n + 1) → (rest ≡ Some (p, role) → k + 1 ≤ p) → (rest ≡ Some (p, role) → p ≡ (k + 1) + n → role ≡ Runs) → role ≡ Runs
role_by true true k p n r role rest t e at above go = sym (ap (λ (x : ℕ × Role). x.1) (some_same (k, r) (p, role) e)) ∙ of_runs r t
role_by true false k p n r role rest t e at above go = let is : k ≡ p = ap (λ (x : ℕ × Role). x.0) (some_same (k, r) (p, role) e) in absurd (omega (arith, is, at))
role_by false true k p n r role rest t e at above go = absurd (omega (arith, at, above e))
role_by false false k p n r role rest t e at above go = go e (omega (arith, at))

role_is : (name : List ℕ) (k : ℕ) (senders : List Sender) (p : ℕ) (role : Role) → sender_from k name senders ≡ Some (p, role) → p ≡ k + place_of_role Runs senders → role ≡ Runs
role_is name k [] p role e at = absurd (cc (e))
role_is name k (s ∷ ss) p role e at =
    role_by (bytes_eq s.name name) (same_role Runs s.role) k p (place_of_role Runs ss) s.role role (sender_from (k + 1) name ss) refl e at
    (least name (k + 1) ss p role) (role_is name (k + 1) ss p role)

runs_role : (setup : Lists) (name : List ℕ) (sender : ℕ × Role) → sender_named setup name ≡ Some sender → sender.0 ≡ runs setup → sender.1 ≡ Runs
unfolding sender_named
runs_role setup name sender named at = role_is name 0 setup.senders sender.0 sender.1 named (omega (arith, at))

-- ---- it sends nothing but orders

of_run : (k : Kind) → may_send Runs k ≡ true → k ≡ kind.Run
of_run kind.Upload e = absurd (cc (e))
of_run kind.Drop e = absurd (cc (e))
of_run kind.Build e = absurd (cc (e))
of_run kind.Bug e = absurd (cc (e))
of_run kind.Hint e = absurd (cc (e))
of_run kind.Unhint e = absurd (cc (e))
of_run kind.Delays e = absurd (cc (e))
of_run kind.Run e = refl
of_run kind.Nothing e = absurd (cc (e))

body_orders : (setup : Lists) (first : Paragraph) (rest : List Paragraph) (body : Body) → body_of setup kind.Run first rest ≡ Ok body → IsSome (order_in_body body)
unfolding body_of
body_orders setup first rest body e = then_ok _ (order_of setup first) _ _ e (λ order eo e. subst (λ (b : Body). IsSome (order_in_body b)) (ok_same (Run order) body e) refl)

message_orders : (setup : Lists) (from number : List ℕ) (stated : Option Kind) (first : Paragraph) (rest : List Paragraph) (m : Message) → message_of setup from number stated first rest ≡ Ok m → m.sender ≡ runs setup → IsSome (order_in_body m.body)
unfolding message_of
message_orders setup from number stated first rest m e own =
    then_ok _ (given (sender_named setup from) UnknownSender) _ _ e (λ sender es e.
    then_ok _ (given (number_in 1 999_999_999 number) BadNumber) _ _ e (λ n en e.
    then_ok _ (given stated UnknownKind) _ _ e (λ k ek e.
    then_ok _ (needs (may_send sender.1 k) WrongRole) _ _ e (λ x may e.
    then_ok _ (needs (nat_le (length rest) (most_paragraphs k)) TooManyParagraphs) _ _ e (λ y few e.
    then_ok _ (needs (knows_archs setup k first rest) UnknownArchitecture) _ _ e (λ z known e.
    then_ok _ (body_of setup k first rest) _ _ e (λ body eb e.
    let is : record { sender = sender.0; number = n; body = body } ≡ m = ok_same (record { sender = sender.0; number = n; body = body }) m e in
    let role : sender.1 ≡ Runs = runs_role setup from sender (given_ok _ _ sender es) (ap (λ (o : Message). o.sender) is ∙ own) in
    let run : k ≡ kind.Run = of_run k (subst (λ (r : Role). may_send r k ≡ true) role (needs_ok _ _ _ may)) in
    let some : IsSome (order_in_body body) = body_orders setup first rest body (subst (λ (k : Kind). body_of setup k first rest ≡ Ok body) run eb) in
    subst (λ (o : Message). IsSome (order_in_body o.body)) is some)))))))

paragraphs_order : (setup : Lists) (first : Paragraph) (rest : List Paragraph) (m : Message) → paragraphs_say setup first rest ≡ Ok m → m.sender ≡ runs setup → IsSome (order_in_body m.body)
unfolding paragraphs_say
paragraphs_order setup first rest m e own =
    then_ok _ (required first field.From) _ _ e (λ from ef e.
    then_ok _ (required first field.Number) _ _ e (λ number en e.
    then_ok _ (required first field.Kind) _ _ e (λ word ek e.
    then_ok _ (has_fields_of (kind_named word) first rest) _ _ e (λ x ex e.
    message_orders setup from number (kind_named word) first rest m e own))))

pub is_order : (setup : Lists) (text : List ℕ) (m : Message) → read setup text ≡ Ok m → m.sender ≡ runs setup → IsSome (order_in_body m.body)
unfolding read
is_order setup text m e own =
    then_ok _ (needs (nat_le (length text) 65_536) TooLong) _ _ e (λ x ex e.
    then_ok _ (whole (reading text) BadParagraph) _ _ e (λ ps ep e.
    paragraphs_order setup (first_of ps) (rest_of ps) m e own))
