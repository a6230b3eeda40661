-- What mail of one sender can change of what the covered mail says, by its role.
use Rattle.std.proofs.Common.{◌≡◌, ◌≢◌, ℕ, suc, ◌+◌, ◌==◌, ◌&&◌, Bool, true, false, cond, not, List, [], ◌∷◌, ◌++◌, filter_map, Option, Some, None, Result, Ok, Err, option_map, refl, sym, ap, subst, ◌∙◌, arith}
use Rattle.std.specs.Prelude.{Contains, nat_le, length, slice_get}
use Rattle.std.specs.List.{cons_option, flat_map}
use Rattle.std.specs.Str.{bytes_eq}
use Rattle.std.specs.FinMap.{find, get, entries, entries_sorted, get-entries}
use Rattle.std.specs.FinMap.Entries.{find-where_key, is_sorted-where_key, same_entries, where_key}
use Rattle.std.proofs.lemmas.Bool.{eqb-false, eqb-true}
use Rattle.deb_control.specs.Relations.{◌>>=◌}
use Rattle.deb_control.specs.Paragraphs.{reading}
use Rattle.testing_rules_items.specs.declared.item.Item.{Item}
use Rattle.testing_rules_items.specs.declared.item.Item.TheVariants as item
use Rattle.testing_rules_items.proofs.Members.{head_of, tail_of}
use Rattle.testing_rules_model.specs.Covered.{Covered, CoveredItem}
use Rattle.testing_rules_model.specs.Covered as says
use Rattle.office_mail_setup.specs.declared.field.Field.TheVariants as field
use Rattle.office_mail_setup.specs.declared.kind.Kind.{Kind}
use Rattle.office_mail_setup.specs.declared.kind.Kind.TheVariants as kind
use Rattle.office_mail_setup.specs.declared.setup.Role.{Role}
use Rattle.office_mail_setup.specs.declared.setup.Role.TheVariants.{Upload, Build, Bugs, Release, Runs}
use Rattle.office_mail_setup.specs.declared.setup.Sender.{Sender}
use Rattle.office_mail_setup.specs.Kinds.{kind_named, may_send}
use Rattle.office_mail_setup.specs.Setup.{place_of_role, same_role}
use Rattle.office_mail_setup.proofs.RoleFacts.{is_same as one_role}
use Rattle.office_mail_setup.specs.WholeText.{Paragraph, each_of, first_of, given, needs, rest_of, whole}
use Rattle.office_mail_setup.specs.Values.{days_in, number_in, package_in, severity_in, urgency_in, version_in}
use Rattle.office_mail.specs.Days.{day_in}
use Rattle.office_mail.specs.declared.message.Body.{Body}
use Rattle.office_mail.specs.declared.message.Body.TheVariants.{Item as Saying, Run}
use Rattle.office_mail.specs.declared.message.MailFault.{MailFault}
use Rattle.office_mail.specs.declared.message.MailFault.TheVariants.{TooLong, BadParagraph, UnknownSender, BadNumber, UnknownKind, WrongRole, TooManyParagraphs, UnknownArchitecture}
use Rattle.office_mail.specs.declared.message.Message.{Message}
use Rattle.office_mail.specs.Fields.{required, value_if_there, value_in}
use Rattle.office_mail.specs.Hints.{hint_in}
use Rattle.office_mail.specs.Kept.{Kept, Place, place_cmp, place_of, placed}
use Rattle.office_mail.specs.Lists.{Lists}
use Rattle.office_mail.specs.Read.{binary_in, body_of, bug_of, build_of, delays_of, drop_of, has_fields_of, hint_of, knows_archs, message_of, most_paragraphs, order_of, paragraphs_say, read, sender_from, sender_named, unhint_of, upload_of}
use Rattle.office_mail.specs.Runs.{cover, covered, is_covered, runs}
use Rattle.office_mail.specs.Said.{kind_of}
use Rattle.office_mail.specs.steps.ReadSteps.{placed_as}
use Rattle.office_mail.proofs.KeptFacts.{exact_places, places_total}
use Rattle.office_store_keeper.specs.Provenance.{AreOwnTexts}
use Rattle.office_core_facts.specs.Outcome.{covered_items, item_at, item_in_body}
use Rattle.office_core_facts.specs.steps.Walk.{item_in_answer}
use Rattle.office_core_facts.proofs.WalkFacts.{find_entry, get-covered, kept_by}
use Rattle.office_core.specs.OneSender.{ButOf, DifferByRole, role_at}
use Rattle.office_core.proofs.OrderTexts.{given_ok, needs_ok, ok_same, some_same, then_ok}
use Rattle.office_core.proofs.UnseenFacts.{cover_same}

-- ---- roles

is_same : (r role : Role) → same_role r role ≡ true → role ≡ r
is_same r role e = sym (one_role r role e)

-- the place that a name has, behind those of the first senders, and the role there
record Stands (k : ℕ) (senders : List Sender) (p : ℕ) (role : Role) : Type 0 where
  at : ℕ
  is : p ≡ k + at
  has : option_map (λ (s : Sender). s.role) (slice_get senders at) ≡ Some role

pair_same : (x y : ℕ × Role) → Some x ≡ Some y → x ≡ y
pair_same x y e = cc (e)

stands_by : (b : Bool) (k p : ℕ) (s : Sender) (ss : List Sender) (role : Role) (rest : Option (ℕ × Role)) → cond b (Some (k, s.role)) rest ≡ Some (p, role) → (rest ≡ Some (p, role) → Stands (k + 1) ss p role) → Stands k (s ∷ ss) p role
stands_by true k p s ss role rest e go =
    let same = pair_same (k, s.role) (p, role) e in
    let first : k ≡ p = ap (λ (x : ℕ × Role). x.0) same in
    record { at = 0; is = omega (arith, first); has = ap (λ (x : ℕ × Role). Some x.1) same }
stands_by false k p s ss role rest e go = let later = go e in record { at = suc later.at; is = omega (arith, later.is); has = later.has }

stands : (name : List ℕ) (k : ℕ) (senders : List Sender) (p : ℕ) (role : Role) → sender_from k name senders ≡ Some (p, role) → Stands k senders p role
stands name k [] p role e = absurd (cc (e))
stands name k (s ∷ ss) p role e = stands_by (bytes_eq s.name name) k p s ss role (sender_from (k + 1) name ss) e (stands name (k + 1) ss p role)

role_found : (setup : Lists) (name : List ℕ) (sender : ℕ × Role) → sender_named setup name ≡ Some sender → role_at setup sender.0 ≡ Some sender.1
unfolding sender_named
role_found setup name sender named =
    let found = stands name 0 setup.senders sender.0 sender.1 named in
    let at : found.at ≡ sender.0 = omega (arith, found.is) in
    ap (λ (n : ℕ). option_map (λ (s : Sender). s.role) (slice_get setup.senders n)) (sym at) ∙ found.has

role_same : (x y : Role) → Some x ≡ Some y → x ≡ y
role_same x y e = cc (e)

abbrev role_there : (senders : List Sender) (n : ℕ) → Option Role
role_there senders n = option_map (λ (s : Sender). s.role) (slice_get senders n)

runs_by : (t : Bool) (s : Sender) (ss : List Sender) (n : ℕ) (role : Role) → same_role Runs s.role ≡ t → role_there (s ∷ ss) (cond t 0 (n + 1)) ≡ Some role → (role_there ss n ≡ Some role → role ≡ Runs) → role ≡ Runs
runs_by true s ss n role t e go = sym (role_same s.role role e) ∙ is_same Runs s.role t
runs_by false s ss n role t e go =
    let one : n + 1 ≡ suc n = omega arith in
    go (subst (λ (m : ℕ). role_there (s ∷ ss) m ≡ Some role) one e)

runs_role : (senders : List Sender) (role : Role) → role_there senders (place_of_role Runs senders) ≡ Some role → role ≡ Runs
runs_role [] role e = absurd (cc (e))
runs_role (s ∷ ss) role e = runs_by (same_role Runs s.role) s ss (place_of_role Runs ss) role refl e (runs_role ss role)

other_than_runs : (setup : Lists) (s : ℕ) (role : Role) → role_at setup s ≡ Some role → role ≢ Runs → s ≢ runs setup
other_than_runs setup s role at unlike = λ (e : s ≡ runs setup). unlike (runs_role setup.senders role (subst (λ (n : ℕ). role_at setup n ≡ Some role) e at))

-- ---- the kind of what is read

upload_kind : (p : Paragraph) (i : Item) → upload_of p ≡ Ok i → kind_of (Saying i) ≡ kind.Upload
unfolding upload_of
upload_kind p i e =
    then_ok _ (value_in package_in p field.Source) _ _ e (λ a ea e.
    then_ok _ (value_in version_in p field.Version) _ _ e (λ b eb e.
    then_ok _ (value_in urgency_in p field.Urgency) _ _ e (λ c ec e.
    then_ok _ (value_in day_in p field.Day) _ _ e (λ d ed e.
    subst (λ (x : Item). kind_of (Saying x) ≡ kind.Upload) (ok_same (item.Upload a b c d) i e) refl))))

drop_kind : (p : Paragraph) (i : Item) → drop_of p ≡ Ok i → kind_of (Saying i) ≡ kind.Drop
unfolding drop_of
drop_kind p i e =
    then_ok _ (value_in package_in p field.Package) _ _ e (λ a ea e.
    then_ok _ (required p field.Architecture) _ _ e (λ b eb e.
    then_ok _ (value_in version_in p field.Version) _ _ e (λ c ec e.
    subst (λ (x : Item). kind_of (Saying x) ≡ kind.Drop) (ok_same (item.Dropped a b c) i e) refl)))

build_kind : (ps : List Paragraph) (i : Item) → build_of ps ≡ Ok i → kind_of (Saying i) ≡ kind.Build
unfolding build_of
build_kind ps i e =
    then_ok _ (each_of binary_in ps) _ _ e (λ bs eb e.
    subst (λ (x : Item). kind_of (Saying x) ≡ kind.Build) (ok_same (item.Build bs) i e) refl)

bug_kind : (p : Paragraph) (i : Item) → bug_of p ≡ Ok i → kind_of (Saying i) ≡ kind.Bug
unfolding bug_of
bug_kind p i e =
    then_ok _ (value_in (number_in 1 999_999_999) p field.Bug) _ _ e (λ a ea e.
    then_ok _ (value_in package_in p field.Source) _ _ e (λ b eb e.
    then_ok _ (value_in severity_in p field.Severity) _ _ e (λ c ec e.
    then_ok _ (value_if_there version_in p field.Found) _ _ e (λ d ed e.
    then_ok _ (value_if_there version_in p field.Fixed) _ _ e (λ f ef e.
    subst (λ (x : Item). kind_of (Saying x) ≡ kind.Bug) (ok_same (item.Bug a b c d f) i e) refl)))))

hint_kind : (p : Paragraph) (i : Item) → hint_of p ≡ Ok i → kind_of (Saying i) ≡ kind.Hint
unfolding hint_of
hint_kind p i e =
    then_ok _ (required p field.Hint) _ _ e (λ text et e.
    then_ok _ (hint_in text) _ _ e (λ hint eh e.
    subst (λ (x : Item). kind_of (Saying x) ≡ kind.Hint) (ok_same (item.Hint hint) i e) refl))

unhint_kind : (p : Paragraph) (i : Item) → unhint_of p ≡ Ok i → kind_of (Saying i) ≡ kind.Unhint
unfolding unhint_of
unhint_kind p i e =
    then_ok _ (value_in (number_in 1 999_999_999) p field.Cancels) _ _ e (λ n en e.
    subst (λ (x : Item). kind_of (Saying x) ≡ kind.Unhint) (ok_same (item.Unhint n) i e) refl)

delays_kind : (p : Paragraph) (i : Item) → delays_of p ≡ Ok i → kind_of (Saying i) ≡ kind.Delays
unfolding delays_of
delays_kind p i e =
    then_ok _ (value_in days_in p field.Low) _ _ e (λ a ea e.
    then_ok _ (value_in days_in p field.Medium) _ _ e (λ b eb e.
    then_ok _ (value_in days_in p field.High) _ _ e (λ c ec e.
    then_ok _ (value_in days_in p field.Critical) _ _ e (λ d ed e.
    subst (λ (x : Item). kind_of (Saying x) ≡ kind.Delays) (ok_same (item.Delays a b c d) i e) refl))))

said_kind : (k : Kind) (r : Result Item MailFault) (body : Body) → (r >>= λ i. Ok (Saying i)) ≡ Ok body → ((i : Item) → r ≡ Ok i → kind_of (Saying i) ≡ k) → kind_of body ≡ k
said_kind k r body e go = then_ok _ r _ _ e (λ i ei e. subst (λ (b : Body). kind_of b ≡ k) (ok_same (Saying i) body e) (go i ei))

body_kind : (setup : Lists) (k : Kind) (first : Paragraph) (rest : List Paragraph) (body : Body) → body_of setup k first rest ≡ Ok body → kind_of body ≡ k
unfolding body_of
body_kind setup kind.Upload first rest body e = said_kind _ (upload_of first) body e (upload_kind first)
body_kind setup kind.Drop first rest body e = said_kind _ (drop_of first) body e (drop_kind first)
body_kind setup kind.Build first rest body e = said_kind _ (build_of rest) body e (build_kind rest)
body_kind setup kind.Bug first rest body e = said_kind _ (bug_of first) body e (bug_kind first)
body_kind setup kind.Hint first rest body e = said_kind _ (hint_of first) body e (hint_kind first)
body_kind setup kind.Unhint first rest body e = said_kind _ (unhint_of first) body e (unhint_kind first)
body_kind setup kind.Delays first rest body e = said_kind _ (delays_of first) body e (delays_kind first)
body_kind setup kind.Run first rest body e = then_ok _ (order_of setup first) _ _ e (λ order eo e. subst (λ (b : Body). kind_of b ≡ kind.Run) (ok_same (Run order) body e) refl)
body_kind setup kind.Nothing first rest body e = subst (λ (b : Body). kind_of b ≡ kind.Nothing) (ok_same (Saying item.Nothing) body e) refl

-- ---- what a message says, its sender may say

record KeepsRole (setup : Lists) (m : Message) : Type 0 where
  role : Role
  at : role_at setup m.sender ≡ Some role
  may : may_send role (kind_of m.body) ≡ true

message_keeps : (setup : Lists) (from number : List ℕ) (stated : Option Kind) (first : Paragraph) (rest : List Paragraph) (m : Message) → message_of setup from number stated first rest ≡ Ok m → KeepsRole setup m
unfolding message_of
message_keeps setup from number stated first rest m e =
    then_ok _ (given (sender_named setup from) UnknownSender) _ _ e (λ sender es e.
    then_ok _ (given (number_in 1 999_999_999 number) BadNumber) _ _ e (λ n en e.
    then_ok _ (given stated UnknownKind) _ _ e (λ k ek e.
    then_ok _ (needs (may_send sender.1 k) WrongRole) _ _ e (λ x may e.
    then_ok _ (needs (nat_le (length rest) (most_paragraphs k)) TooManyParagraphs) _ _ e (λ y few e.
    then_ok _ (needs (knows_archs setup k first rest) UnknownArchitecture) _ _ e (λ z known e.
    then_ok _ (body_of setup k first rest) _ _ e (λ body eb e.
    subst (KeepsRole setup) (ok_same (record { sender = sender.0; number = n; body = body }) m e) (record {
      role = sender.1;
      at = role_found setup from sender (given_ok _ _ sender es);
      may = subst (λ (j : Kind). may_send sender.1 j ≡ true) (sym (body_kind setup k first rest body eb)) (needs_ok _ _ _ may);
    }))))))))

paragraphs_keep : (setup : Lists) (first : Paragraph) (rest : List Paragraph) (m : Message) → paragraphs_say setup first rest ≡ Ok m → KeepsRole setup m
unfolding paragraphs_say
paragraphs_keep setup first rest m e =
    then_ok _ (required first field.From) _ _ e (λ from ef e.
    then_ok _ (required first field.Number) _ _ e (λ number en e.
    then_ok _ (required first field.Kind) _ _ e (λ word ek e.
    then_ok _ (has_fields_of (kind_named word) first rest) _ _ e (λ x ex e.
    message_keeps setup from number (kind_named word) first rest m e))))

keeps_role : (setup : Lists) (text : List ℕ) (m : Message) → read setup text ≡ Ok m → KeepsRole setup m
unfolding read
keeps_role setup text m e =
    then_ok _ (needs (nat_le (length text) 65_536) TooLong) _ _ e (λ x ex e.
    then_ok _ (whole (reading text) BadParagraph) _ _ e (λ ps ep e.
    paragraphs_keep setup (first_of ps) (rest_of ps) m e))

-- ---- what no sender of a role says

record SaysNone (role : Role) (c : CoveredItem) : Type 0 where
  uploads : role ≢ Upload → says.upload_of c ≡ None
  drops : role ≢ Upload → says.drop_of c ≡ None
  builds : role ≢ Build → says.builds_of c ≡ []
  bugs : role ≢ Bugs → says.bug_of c ≡ None
  hints : role ≢ Release → says.hint_of c ≡ None
  unhints : role ≢ Release → says.unhint_of c ≡ None
  delays : role ≢ Release → says.delays_of c ≡ None

says_none : (role : Role) (s n : ℕ) (i : Item) → may_send role (kind_of (Saying i)) ≡ true → SaysNone role (record { sender = s; number = n; item = i })
says_none role s n (item.Upload a b c d) may = record { uploads = λ no. absurd (no (is_same Upload role may)); drops = λ no. refl; builds = λ no. refl; bugs = λ no. refl; hints = λ no. refl; unhints = λ no. refl; delays = λ no. refl }
says_none role s n (item.Dropped a b c) may = record { uploads = λ no. refl; drops = λ no. absurd (no (is_same Upload role may)); builds = λ no. refl; bugs = λ no. refl; hints = λ no. refl; unhints = λ no. refl; delays = λ no. refl }
says_none role s n (item.Build bs) may = record { uploads = λ no. refl; drops = λ no. refl; builds = λ no. absurd (no (is_same Build role may)); bugs = λ no. refl; hints = λ no. refl; unhints = λ no. refl; delays = λ no. refl }
says_none role s n (item.Bug a b c d f) may = record { uploads = λ no. refl; drops = λ no. refl; builds = λ no. refl; bugs = λ no. absurd (no (is_same Bugs role may)); hints = λ no. refl; unhints = λ no. refl; delays = λ no. refl }
says_none role s n (item.Hint hint) may = record { uploads = λ no. refl; drops = λ no. refl; builds = λ no. refl; bugs = λ no. refl; hints = λ no. absurd (no (is_same Release role may)); unhints = λ no. refl; delays = λ no. refl }
says_none role s n (item.Unhint m) may = record { uploads = λ no. refl; drops = λ no. refl; builds = λ no. refl; bugs = λ no. refl; hints = λ no. refl; unhints = λ no. absurd (no (is_same Release role may)); delays = λ no. refl }
says_none role s n (item.Delays a b c d) may = record { uploads = λ no. refl; drops = λ no. refl; builds = λ no. refl; bugs = λ no. refl; hints = λ no. refl; unhints = λ no. refl; delays = λ no. absurd (no (is_same Release role may)) }
says_none role s n item.Nothing may = record { uploads = λ no. refl; drops = λ no. refl; builds = λ no. refl; bugs = λ no. refl; hints = λ no. refl; unhints = λ no. refl; delays = λ no. refl }

item_same : (x y : CoveredItem) → Some x ≡ Some y → x ≡ y
item_same x y e = cc (e)

placed_here : (text : List ℕ) (p q : Place) → ◌≡◌ {A = Option (Place × List ℕ)} (Some (q, text)) (Some (p, text)) → q ≡ p
placed_here text p q e = ap (λ (x : Place × List ℕ). x.0) (some_same (q, text) (p, text) e)

by_body : (role : Role) (p : Place) (body : Body) (c : CoveredItem) → may_send role (kind_of body) ≡ true → item_in_body p body ≡ Some c → SaysNone role c
by_body role p (Saying i) c may e = subst (SaysNone role) (item_same _ c e) (says_none role p.0 p.1 i may)
by_body role p (Run order) c may e = absurd (cc (e))

by_answer : (setup : Lists) (text : List ℕ) (p : Place) (c : CoveredItem) (role : Role) (r : Result Message MailFault) → read setup text ≡ r → placed_as text r ≡ Some (p, text) → item_in_answer p r ≡ Some c → role_at setup p.0 ≡ Some role → SaysNone role c
by_answer setup text p c role (Ok m) is own said at =
    let keeps = keeps_role setup text m is in
    let sender : m.sender ≡ p.0 = ap (λ (q : Place). q.0) (placed_here text p (place_of m) own) in
    let same : keeps.role ≡ role = role_same keeps.role role (sym keeps.at ∙ ap (role_at setup) sender ∙ at) in
    by_body role p m.body c (subst (λ (x : Role). may_send x (kind_of m.body) ≡ true) same keeps.may) said
by_answer setup text p c role (Err fault) is own said at = absurd (cc (said))

by_text : (setup : Lists) (text : List ℕ) (p : Place) (c : CoveredItem) (role : Role) → placed setup text ≡ Some (p, text) → item_at setup (p, text) ≡ Some c → role_at setup p.0 ≡ Some role → SaysNone role c
unfolding item_at
by_text setup text p c role own said at = by_answer setup text p c role (read setup text) refl own said at

-- ---- two kept maps that differ in mail of a sender alone

-- the places of other senders
abbrev apart : ℕ → Place → Bool
apart s p = not (p.0 == s)

not_apart : (b : Bool) → not b ≡ false → b ≡ true
not_apart true e = refl
not_apart false e = absurd (cc (e))

is_apart : (b : Bool) → not b ≡ true → b ≡ false
is_apart true e = absurd (cc (e))
is_apart false e = refl

entry_says : (setup : Lists) (kept : Kept) (s k : ℕ) (role : Role) → AreOwnTexts setup kept → role_at setup s ≡ Some role → (e : Place × List ℕ) → Contains (entries (covered setup kept k)) e → apart s e.0 ≡ false → (c : CoveredItem) → item_at setup e ≡ Some c → SaysNone role c
entry_says setup kept s k role own at e there off c said =
    let mail = covered setup kept k in
    let found : get mail e.0 ≡ Some e.1 = get-entries mail e.0 ∙ find_entry (entries mail) e (entries_sorted mail) there in
    let stood = kept_by (is_covered (cover setup kept k) e.0) (get kept e.0) e.1 (sym (get-covered setup kept k e.0) ∙ found) in
    let sender : e.0.0 ≡ s = eqb-true e.0.0 s (not_apart (e.0.0 == s) off) in
    by_text setup e.1 e.0 c role (own e.0 e.1 stood.1) said (ap (role_at setup) sender ∙ at)

chosen_same : (c : Bool) (o p : Option (List ℕ)) → (c ≡ true → o ≡ p) → cond c o None ≡ cond c p None
chosen_same true o p h = h refl
chosen_same false o p h = refl

covered_apart : (setup : Lists) (s k : ℕ) (a b : Kept) (q : Place) → ButOf s a b → s ≢ runs setup → apart s q ≡ true → get (covered setup a k) q ≡ get (covered setup b k) q
covered_apart setup s k a b q alone other off =
    get-covered setup a k q
    ∙ ap (λ (o : Option (List ℕ)). cond (is_covered (cover setup a k) q) o None) (alone q (eqb-false q.0 s (is_apart (q.0 == s) off)))
    ∙ ap (λ (n : ℕ). cond (nat_le 1 q.1 && nat_le q.1 n) (get b q) None) (cover_same setup s a b k q.0 alone other)
    ∙ sym (get-covered setup b k q)

entries_apart : (setup : Lists) (s k : ℕ) (a b : Kept) → ButOf s a b → s ≢ runs setup → where_key place_cmp (apart s) (entries (covered setup a k)) ≡ where_key place_cmp (apart s) (entries (covered setup b k))
entries_apart setup s k a b alone other =
    let x = covered setup a k in
    let y = covered setup b k in
    same_entries place_cmp places_total exact_places _ _ (is_sorted-where_key place_cmp (apart s) (entries x) (entries_sorted x)) (is_sorted-where_key place_cmp (apart s) (entries y) (entries_sorted y))
    (λ q.
    find-where_key place_cmp (apart s) q (λ z t. ap (apart s) (sym (exact_places q z t))) (entries x)
    ∙ chosen_same (apart s q) (find place_cmp q (entries x)) (find place_cmp q (entries y)) (λ off. sym (get-entries x q) ∙ covered_apart setup s k a b q alone other off ∙ get-entries y q)
    ∙ sym (find-where_key place_cmp (apart s) q (λ z t. ap (apart s) (sym (exact_places q z t))) (entries y)))

-- ---- a question to the messages that no message of that sender answers

module _ {X : Type 0} (setup : Lists) (asks : Covered → List X) (none : CoveredItem → Type 0)
    (puts : (c : CoveredItem) (xs ys : Covered) → asks xs ≡ asks ys → asks (c ∷ xs) ≡ asks (c ∷ ys)) (skips : (c : CoveredItem) (xs : Covered) → none c → asks (c ∷ xs) ≡ asks xs) where
  put_one : (o : Option CoveredItem) (xs ys : Covered) → asks xs ≡ asks ys → asks (cons_option o xs) ≡ asks (cons_option o ys)
  put_one None xs ys e = e
  put_one (Some c) xs ys e = puts c xs ys e

  skip_one : (o : Option CoveredItem) (xs ys : Covered) → ((c : CoveredItem) → o ≡ Some c → none c) → asks xs ≡ asks ys → asks (cons_option o xs) ≡ asks ys
  skip_one None xs ys h e = e
  skip_one (Some c) xs ys h e = skips c xs (h c refl) ∙ e

  skip_by : (t : Bool) (e : Place × List ℕ) (es fs : List (Place × List ℕ)) → (t ≡ false → (c : CoveredItem) → item_at setup e ≡ Some c → none c)
      → asks (filter_map (item_at setup) es) ≡ asks (filter_map (item_at setup) fs) → asks (filter_map (item_at setup) (e ∷ es)) ≡ asks (filter_map (item_at setup) (cond t (e ∷ fs) fs))
  skip_by true e es fs h same = put_one (item_at setup e) _ _ same
  skip_by false e es fs h same = skip_one (item_at setup e) _ _ (h refl) same

  skip_all : (off : Place → Bool) (es : List (Place × List ℕ)) → ((e : Place × List ℕ) → Contains es e → off e.0 ≡ false → (c : CoveredItem) → item_at setup e ≡ Some c → none c)
      → asks (filter_map (item_at setup) es) ≡ asks (filter_map (item_at setup) (where_key place_cmp off es))
  skip_all off [] h = refl
  skip_all off (e ∷ es) h = skip_by (off e.0) e es (where_key place_cmp off es) (h e (head_of e es)) (skip_all off es (λ d there. h d (tail_of e es d there)))

  same_asked : (a b : Kept) (s k : ℕ) (role : Role) → ButOf s a b → s ≢ runs setup → AreOwnTexts setup a → AreOwnTexts setup b → role_at setup s ≡ Some role → ((c : CoveredItem) → SaysNone role c → none c)
      → asks (covered_items setup a k) ≡ asks (covered_items setup b k)
  unfolding covered_items
  same_asked a b s k role alone other own_a own_b at silent =
      skip_all (apart s) (entries (covered setup a k)) (λ e there off c said. silent c (entry_says setup a s k role own_a at e there off c said))
      ∙ ap (λ (es : List (Place × List ℕ)). asks (filter_map (item_at setup) es)) (entries_apart setup s k a b alone other)
      ∙ sym (skip_all (apart s) (entries (covered setup b k)) (λ e there off c said. silent c (entry_says setup b s k role own_b at e there off c said)))

module _ (setup : Lists) (s k : ℕ) (a b : Kept) (role : Role) (alone : ButOf s a b) (own_a : AreOwnTexts setup a) (own_b : AreOwnTexts setup b) (at : role_at setup s ≡ Some role) (unlike : role ≢ Runs) where
  same_of : {X : Type 0} (h : CoveredItem → Option X) → ((c : CoveredItem) → SaysNone role c → h c ≡ None) → filter_map h (covered_items setup a k) ≡ filter_map h (covered_items setup b k)
  same_of h silent = same_asked setup (filter_map h) (λ c. h c ≡ None) (λ c xs ys e. ap (cons_option (h c)) e) (λ c xs n. ap (λ o. cons_option o (filter_map h xs)) n)
      a b s k role alone (other_than_runs setup s role at unlike) own_a own_b at silent

  pub differ_by_role : DifferByRole role (covered_items setup a k) (covered_items setup b k)
  differ_by_role = record {
    uploads = λ other. same_of says.upload_of (λ c n. n.uploads other);
    drops = λ other. same_of says.drop_of (λ c n. n.drops other);
    builds = λ other. same_asked setup (flat_map says.builds_of) (λ c. says.builds_of c ≡ []) (λ c xs ys e. ap (λ bs. says.builds_of c ++ bs) e) (λ c xs n. ap (λ bs. bs ++ flat_map says.builds_of xs) n)
        a b s k role alone (other_than_runs setup s role at unlike) own_a own_b at (λ c n. n.builds other);
    bugs = λ other. same_of says.bug_of (λ c n. n.bugs other);
    hints = λ other. same_of says.hint_of (λ c n. n.hints other);
    unhints = λ other. same_of says.unhint_of (λ c n. n.unhints other);
    delays = λ other. same_of says.delays_of (λ c n. n.delays other);
  }
