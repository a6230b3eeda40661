-- Each message keeps to its setup, from how it is read.
use Rattle.std.proofs.Common.{◌≡◌, ℕ, ◌+◌, ◌≤◌, Bool, true, false, ◌&&◌, cond, Option, Some, None, Result, Ok, Err, List, [], ◌∷◌, length, refl, sym, ap, subst, ◌∙◌, arith}
use Rattle.std.specs.Prelude.{nat_le}
use Rattle.std.specs.Str.{bytes_eq}
use Rattle.std.specs.List.{list_all}
use Rattle.std.specs.Cmp.{first_so, second_so}
use Rattle.std.proofs.lemmas.List.Sums.{sum_by-cons}
use Rattle.deb_control.specs.Relations.{◌>>=◌, is_package_name, is_version, clauses_in, provisions_in}
use Rattle.deb_control.specs.Paragraphs.{reading, value_of}
use Rattle.deb_control.specs.Binary.{binary_of, is_architecture, of_field, optional, field_name}
use Rattle.deb_control.specs.steps.BinarySteps.{source_of}
use Rattle.deb_control.specs.Binary.{required as binary_required}
use Rattle.deb_control.specs.declared.binary.Binary.{Binary}
use Rattle.deb_control.specs.declared.fault.BinaryField.TheVariants as binary
use Rattle.deb_control.specs.declared.fault.BinaryFault.{BinaryFault}
use Rattle.deb_control.specs.declared.fault.BinaryFault.TheVariants.{BadName, BadVersion}
use Rattle.testing_rules_items.specs.declared.item.Item.{Item}
use Rattle.testing_rules_items.specs.declared.item.Item.TheVariants as item
use Rattle.office_mail_setup.specs.declared.field.Field.TheVariants as field
use Rattle.office_mail_setup.specs.declared.kind.Kind.{Kind}
use Rattle.office_mail_setup.specs.declared.kind.Kind.TheVariants as kind
use Rattle.office_mail.specs.declared.message.Body.{Body}
use Rattle.office_mail.specs.declared.message.Body.TheVariants.{Run, Item as Saying}
use Rattle.office_mail.specs.declared.message.Message.{Message}
use Rattle.office_mail.specs.declared.message.MailFault.{MailFault}
use Rattle.office_mail.specs.declared.message.MailFault.TheVariants.{TooLong, BadParagraph, UnknownSender, BadNumber, UnknownKind, WrongRole, TooManyParagraphs, UnknownArchitecture}
use Rattle.office_mail_setup.specs.declared.setup.Sender.{Sender}
use Rattle.office_mail_setup.specs.declared.setup.Role.{Role}
use Rattle.office_mail_setup.specs.Lists.{Lists}
use Rattle.office_mail_setup.specs.WholeText.{Paragraph, needs, given, each_of, whole, first_of, rest_of}
use Rattle.office_mail_setup.specs.Values.{number_in, days_in, package_in, version_in, urgency_in, severity_in}
use Rattle.office_mail.specs.Days.{day_in}
use Rattle.office_mail.specs.Fields.{text_of, required, value_in, value_if_there}
use Rattle.office_mail_setup.specs.Kinds.{kind_named, may_send, has_role, role_needed}
use Rattle.office_mail.specs.Hints.{hint_in}
use Rattle.office_mail.specs.Read.{read, paragraphs_say, message_of, has_fields_of, sender_from, sender_named, most_paragraphs, is_arch, knows_arch, knows_archs, body_of, upload_of, drop_of, build_of, bug_of, hint_of, unhint_of, delays_of, order_of, binary_in, of_binary}
use Rattle.office_mail_setup.specs.Setup.{count_of, place_of_role, same_role}
use Rattle.office_mail_setup.proofs.RoleFacts.{is_same, itself}
use Rattle.office_mail.specs.Said.{kind_of, knows_named, KeepsTo}

same : {A E : Type 0} (r : Result A E) (a b : A) → r ≡ Ok a → r ≡ Ok b → a ≡ b
same r a b e f = cc

-- what follows from a step that goes on
then_ok : {A B E : Type 0} (P : Type 0) (r : Result A E) (f : A → Result B E) (b : B) → (r >>= f) ≡ Ok b → ((a : A) → r ≡ Ok a → f a ≡ Ok b → P) → P
then_ok P (Ok a) f b e go = go a refl e
then_ok P (Err x) f b e go = absurd (cc)

-- the last step
ends : {A B E : Type 0} (P : B → Type 0) (r : Result A E) (f : A → B) (b : B) → (r >>= λ a. Ok (f a)) ≡ Ok b → ((a : A) → r ≡ Ok a → P (f a)) → P b
ends P (Ok a) f b e go = subst P (same (Ok (f a)) (f a) b refl e) (go a refl)
ends P (Err x) f b e go = absurd (cc)

given_ok : {A E : Type 0} (o : Option A) (fault : E) (a : A) → given o fault ≡ Ok a → o ≡ Some a
given_ok (Some x) fault a e = ap Some (same (given (Some x) fault) x a refl e)
given_ok None fault a e = absurd (cc)

needs_ok : {E : Type 0} (b : Bool) (fault : E) (y : Bool) → needs b fault ≡ Ok y → b ≡ true
needs_ok true fault y e = refl
needs_ok false fault y e = absurd (cc)

both : (a b : Bool) → a ≡ true → b ≡ true → (a && b) ≡ true
both true b h k = k
both false b h k = absurd (cc)

-- The sender of a name, and its role.

some_is : (x y : ℕ × Role) → Some x ≡ Some y → x ≡ y
some_is x y e = cc

count_more : (role : Role) (s : Sender) (ss : List Sender) → count_of role (s ∷ ss) ≡ cond (same_role role s.role) 1 0 + count_of role ss
count_more role s ss = sum_by-cons (λ (x : Sender). cond (same_role role x.role) 1 0) s ss

counts_by : (b : Bool) (k p : ℕ) (r role : Role) (rest : Option (ℕ × Role)) (n : ℕ) → cond b (Some (k, r)) rest ≡ Some (p, role) → (rest ≡ Some (p, role) → 1 ≤ n) → 1 ≤ cond (same_role role r) 1 0 + n
counts_by true k p r role rest n e h =
    let is : r ≡ role = ap (λ (x : ℕ × Role). x.1) (some_is (k, r) (p, role) e) in
    subst (λ b. 1 ≤ cond b 1 0 + n) (sym (ap (same_role role) is ∙ itself role)) (omega arith)
counts_by false k p r role rest n e h = omega (arith, h e)

-- a role that is found is had
counts : (name : List ℕ) (k : ℕ) (senders : List Sender) (p : ℕ) (role : Role) → sender_from k name senders ≡ Some (p, role) → 1 ≤ count_of role senders
counts name k [] p role e = absurd (cc)
counts name k (s ∷ ss) p role e =
    subst (λ n. 1 ≤ n) (sym (count_more role s ss))
    (counts_by (bytes_eq s.name name) k p s.role role (sender_from (k + 1) name ss) (count_of role ss) e (counts name (k + 1) ss p role))

both_ways : (b : Bool) → b ≡ true → b ≡ false → ⊥
both_ways b so not_so = cc

place_by : (b t : Bool) (k p place n : ℕ) (r role : Role) (rest : Option (ℕ × Role)) → same_role role r ≡ t → cond b (Some (k, r)) rest ≡ Some (p, role) → cond t 1 0 + n ≡ 1 → (rest ≡ Some (p, role) → 1 ≤ n) → (rest ≡ Some (p, role) → n ≡ 1 → p ≡ (k + 1) + place) → p ≡ k + cond t 0 (place + 1)
place_by true true k p place n r role rest t e one has go = let is : k ≡ p = ap (λ (x : ℕ × Role). x.0) (some_is (k, r) (p, role) e) in omega (arith, is)
place_by true false k p place n r role rest t e one has go =
    let is : r ≡ role = ap (λ (x : ℕ × Role). x.1) (some_is (k, r) (p, role) e) in
    absurd (both_ways (same_role role role) (itself role) (subst (λ x. same_role role x ≡ false) is t))
place_by false true k p place n r role rest t e one has go = let more : 1 ≤ n = has e in absurd (omega (arith, more, one))
place_by false false k p place n r role rest t e one has go = omega (arith, go e (omega (arith, one)))

-- where one sender has the role, it is the first
place_is : (name : List ℕ) (k : ℕ) (senders : List Sender) (p : ℕ) (role : Role) → sender_from k name senders ≡ Some (p, role) → count_of role senders ≡ 1 → p ≡ k + place_of_role role senders
place_is name k [] p role e one = absurd (cc)
place_is name k (s ∷ ss) p role e one =
    place_by (bytes_eq s.name name) (same_role role s.role) k p (place_of_role role ss) (count_of role ss) s.role role (sender_from (k + 1) name ss) refl e
    (sym (count_more role s ss) ∙ one)
    (counts name (k + 1) ss p role) (place_is name (k + 1) ss p role)

-- a sender that may send a kind, and has the role of one sender alone, is that one
sender_is : (setup : Lists) (name : List ℕ) (k : Kind) (sender : ℕ × Role) (role : Role) → sender_named setup name ≡ Some sender → may_send sender.1 k ≡ true → role_needed k ≡ Some role → count_of role setup.senders ≡ 1 → sender.0 ≡ place_of_role role setup.senders
unfolding sender_named
sender_is setup name k sender role named may needed one =
    let is : role ≡ sender.1 = is_same role sender.1 (subst (λ o. has_role o sender.1 ≡ true) needed may) in
    let found : sender_from 0 name setup.senders ≡ Some (sender.0, role) = named ∙ ap (λ r. Some (sender.0, r)) (sym is) in
    omega (arith, place_is name 0 setup.senders sender.0 role found one)

-- What a body says is of its kind, and names what its kind may.

arch_known : (setup : Lists) (p : Paragraph) (arch : List ℕ) → text_of p field.Architecture ≡ Some arch → knows_arch setup p ≡ true → is_arch setup.archs arch ≡ true
unfolding knows_arch
arch_known setup p arch e known = subst (λ (o : Option (List ℕ)). elim o [ None ↦ true | Some name ↦ is_arch setup.archs name ] ≡ true) e known

given_some : (o : Option (List ℕ)) (fault : BinaryFault) (text : List ℕ) → given o fault ≡ Ok text → o ≡ Some text
given_some (Some x) fault text e = ap Some (same (given (Some x) fault) x text refl e)
given_some None fault text e = absurd (cc)

binary_ok : (r : Result Binary BinaryFault) (b : Binary) → of_binary r ≡ Ok b → r ≡ Ok b
binary_ok (Ok x) b e = ap Ok (same (of_binary (Ok x)) x b refl e)
binary_ok (Err x) b e = absurd (cc)

-- a binary's architecture is what its paragraph states
arch_of : (p : Paragraph) (b : Binary) → binary_of p ≡ Ok b → text_of p field.Architecture ≡ Some b.architecture
unfolding binary_of
arch_of p b e =
    then_ok _ (binary_required p binary.Package) _ _ e (λ name en e.
    then_ok _ (binary_required p binary.Version) _ _ e (λ version ev e.
    then_ok _ (binary_required p binary.Architecture) _ _ e (λ arch ea e.
    then_ok _ (needs (is_package_name name) (BadName binary.Package)) _ _ e (λ x ex e.
    then_ok _ (needs (is_version version) (BadVersion binary.Version)) _ _ e (λ y ey e.
    then_ok _ (needs (is_architecture arch) (BadName binary.Architecture)) _ _ e (λ z ez e.
    then_ok _ (of_field binary.Source (source_of (value_of p (field_name binary.Source)) name version)) _ _ e (λ source es e.
    then_ok _ (of_field binary.PreDepends (clauses_in (optional p binary.PreDepends))) _ _ e (λ before eb e.
    then_ok _ (of_field binary.Depends (clauses_in (optional p binary.Depends))) _ _ e (λ depends ed e.
    ends (λ (b : Binary). text_of p field.Architecture ≡ Some b.architecture) (of_field binary.Provides (provisions_in (optional p binary.Provides))) _ _ e (λ provides ep. given_some _ _ arch ea))))))))))

each_known : (setup : Lists) (ps : List Paragraph) (bs : List Binary) → each_of binary_in ps ≡ Ok bs → list_all (knows_arch setup) ps ≡ true → list_all (λ (b : Binary). is_arch setup.archs b.architecture) bs ≡ true
unfolding binary_in
each_known setup [] bs e known = subst (λ bs. list_all (λ (b : Binary). is_arch setup.archs b.architecture) bs ≡ true) (same (each_of binary_in []) [] bs refl e) refl
each_known setup (p ∷ ps) bs e known =
    then_ok _ (binary_in p) _ _ e (λ b eb e.
    ends (λ (bs : List Binary). list_all (λ (b : Binary). is_arch setup.archs b.architecture) bs ≡ true) (each_of binary_in ps) (λ bs. b ∷ bs) _ e (λ more em.
    both _ _ (arch_known setup p b.architecture (arch_of p b (binary_ok _ b eb)) (first_so _ _ known)) (each_known setup ps more em (second_so _ _ known))))

-- what a body of a kind keeps
record Fits (setup : Lists) (k : Kind) (body : Body) : Type 0 where
  of_kind : kind_of body ≡ k
  archs : knows_named setup.archs body ≡ true

upload_fits : (setup : Lists) (p : Paragraph) (i : Item) → upload_of p ≡ Ok i → Fits setup kind.Upload (Saying i)
unfolding upload_of
upload_fits setup p i e =
    then_ok _ (value_in package_in p field.Source) _ _ e (λ a ea e.
    then_ok _ (value_in version_in p field.Version) _ _ e (λ b eb e.
    then_ok _ (value_in urgency_in p field.Urgency) _ _ e (λ c ec e.
    ends (λ i. Fits setup kind.Upload (Saying i)) (value_in day_in p field.Day) (λ d. item.Upload a b c d) _ e (λ d ed. record { of_kind = refl; archs = refl }))))

drop_fits : (setup : Lists) (p : Paragraph) (i : Item) → drop_of p ≡ Ok i → knows_arch setup p ≡ true → Fits setup kind.Drop (Saying i)
unfolding drop_of required
drop_fits setup p i e known =
    then_ok _ (value_in package_in p field.Package) _ _ e (λ name en e.
    then_ok _ (required p field.Architecture) _ _ e (λ arch ea e.
    ends (λ i. Fits setup kind.Drop (Saying i)) (value_in version_in p field.Version) (λ version. item.Dropped name arch version) _ e (λ version ev.
    record { of_kind = refl; archs = arch_known setup p arch (given_ok _ _ arch ea) known })))

build_fits : (setup : Lists) (ps : List Paragraph) (i : Item) → build_of ps ≡ Ok i → list_all (knows_arch setup) ps ≡ true → Fits setup kind.Build (Saying i)
unfolding build_of
build_fits setup ps i e known =
    ends (λ i. Fits setup kind.Build (Saying i)) (each_of binary_in ps) (λ bs. item.Build bs) _ e (λ bs eb.
    record { of_kind = refl; archs = each_known setup ps bs eb known })

bug_fits : (setup : Lists) (p : Paragraph) (i : Item) → bug_of p ≡ Ok i → Fits setup kind.Bug (Saying i)
unfolding bug_of
bug_fits setup p i e =
    then_ok _ (value_in (number_in 1 999_999_999) p field.Bug) _ _ e (λ a ea e.
    then_ok _ (value_in package_in p field.Source) _ _ e (λ b eb e.
    then_ok _ (value_in severity_in p field.Severity) _ _ e (λ c ec e.
    then_ok _ (value_if_there version_in p field.Found) _ _ e (λ d ed e.
    ends (λ i. Fits setup kind.Bug (Saying i)) (value_if_there version_in p field.Fixed) (λ f. item.Bug a b c d f) _ e (λ f ef. record { of_kind = refl; archs = refl })))))

hint_fits : (setup : Lists) (p : Paragraph) (i : Item) → hint_of p ≡ Ok i → Fits setup kind.Hint (Saying i)
unfolding hint_of
hint_fits setup p i e =
    then_ok _ (required p field.Hint) _ _ e (λ text et e.
    ends (λ i. Fits setup kind.Hint (Saying i)) (hint_in text) (λ hint. item.Hint hint) _ e (λ hint eh. record { of_kind = refl; archs = refl }))

unhint_fits : (setup : Lists) (p : Paragraph) (i : Item) → unhint_of p ≡ Ok i → Fits setup kind.Unhint (Saying i)
unfolding unhint_of
unhint_fits setup p i e =
    ends (λ i. Fits setup kind.Unhint (Saying i)) (value_in (number_in 1 999_999_999) p field.Cancels) (λ n. item.Unhint n) _ e (λ n en. record { of_kind = refl; archs = refl })

delays_fits : (setup : Lists) (p : Paragraph) (i : Item) → delays_of p ≡ Ok i → Fits setup kind.Delays (Saying i)
unfolding delays_of
delays_fits setup p i e =
    then_ok _ (value_in days_in p field.Low) _ _ e (λ a ea e.
    then_ok _ (value_in days_in p field.Medium) _ _ e (λ b eb e.
    then_ok _ (value_in days_in p field.High) _ _ e (λ c ec e.
    ends (λ i. Fits setup kind.Delays (Saying i)) (value_in days_in p field.Critical) (λ d. item.Delays a b c d) _ e (λ d ed. record { of_kind = refl; archs = refl }))))

-- a body that says an item
saying : (setup : Lists) (k : Kind) (r : Result Item MailFault) (body : Body) → (r >>= λ i. Ok (Saying i)) ≡ Ok body → ((i : Item) → r ≡ Ok i → Fits setup k (Saying i)) → Fits setup k body
saying setup k r body e fits = ends (Fits setup k) r (λ i. Saying i) body e fits

body_fits : (setup : Lists) (k : Kind) (first : Paragraph) (rest : List Paragraph) (body : Body) → body_of setup k first rest ≡ Ok body → knows_archs setup k first rest ≡ true → Fits setup k body
unfolding body_of knows_archs
body_fits setup kind.Upload first rest body e known = saying setup _ (upload_of first) body e (upload_fits setup first)
body_fits setup kind.Drop first rest body e known = saying setup _ (drop_of first) body e (λ i ei. drop_fits setup first i ei (first_so _ _ known))
body_fits setup kind.Build first rest body e known = saying setup _ (build_of rest) body e (λ i ei. build_fits setup rest i ei known)
body_fits setup kind.Bug first rest body e known = saying setup _ (bug_of first) body e (bug_fits setup first)
body_fits setup kind.Hint first rest body e known = saying setup _ (hint_of first) body e (hint_fits setup first)
body_fits setup kind.Unhint first rest body e known = saying setup _ (unhint_of first) body e (unhint_fits setup first)
body_fits setup kind.Delays first rest body e known = saying setup _ (delays_of first) body e (delays_fits setup first)
body_fits setup kind.Run first rest body e known = ends (Fits setup kind.Run) (order_of setup first) (λ order. Run order) body e (λ order eo. record { of_kind = refl; archs = refl })
body_fits setup kind.Nothing first rest body e known = subst (Fits setup kind.Nothing) (same (body_of setup kind.Nothing first rest) _ body refl e) (record { of_kind = refl; archs = refl })

message_keeps : (setup : Lists) (from number : List ℕ) (stated : Option Kind) (first : Paragraph) (rest : List Paragraph) (m : Message) → message_of setup from number stated first rest ≡ Ok m → KeepsTo setup m
unfolding message_of
message_keeps setup from number stated first rest m e =
    then_ok _ (given (sender_named setup from) UnknownSender) _ _ e (λ sender es e.
    then_ok _ (given (number_in 1 999_999_999 number) BadNumber) _ _ e (λ n en e.
    then_ok _ (given stated UnknownKind) _ _ e (λ k ek e.
    then_ok _ (needs (may_send sender.1 k) WrongRole) _ _ e (λ x may e.
    then_ok _ (needs (nat_le (length rest) (most_paragraphs k)) TooManyParagraphs) _ _ e (λ y few e.
    then_ok _ (needs (knows_archs setup k first rest) UnknownArchitecture) _ _ e (λ z known e.
    ends (KeepsTo setup) (body_of setup k first rest) _ m e (λ body eb.
    let fits : Fits setup k body = body_fits setup k first rest body eb (needs_ok _ _ _ known) in
    record {
      sender = λ role needed one. sender_is setup from k sender role (given_ok _ _ sender es) (needs_ok _ _ _ may) (ap role_needed (sym fits.of_kind) ∙ needed) one;
      archs = fits.archs;
    })))))))

paragraphs_keep : (setup : Lists) (first : Paragraph) (rest : List Paragraph) (m : Message) → paragraphs_say setup first rest ≡ Ok m → KeepsTo setup m
unfolding paragraphs_say
paragraphs_keep setup first rest m e =
    then_ok _ (required first field.From) _ _ e (λ from ef e.
    then_ok _ (required first field.Number) _ _ e (λ number en e.
    then_ok _ (required first field.Kind) _ _ e (λ word ek e.
    then_ok _ (has_fields_of (kind_named word) first rest) _ _ e (λ x ex e.
    message_keeps setup from number (kind_named word) first rest m e))))

pub keeps : (setup : Lists) (text : List ℕ) (m : Message) → read setup text ≡ Ok m → KeepsTo setup m
unfolding read
keeps setup text m e =
    then_ok _ (needs (nat_le (length text) 65_536) TooLong) _ _ e (λ x ex e.
    then_ok _ (whole (reading text) BadParagraph) _ _ e (λ ps ep e.
    paragraphs_keep setup (first_of ps) (rest_of ps) m e))
