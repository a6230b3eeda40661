-- The walk over places takes the covered messages.
use Rattle.std.proofs.Common.{◌≡◌, ⊎_elim, inl, inr, ℕ, zero, suc, ◌+◌, ◌<◌, ◌≤◌, Bool, true, false, cond, ◌&&◌, nat_le, List, [], ◌∷◌, ◌++◌, length, Option, Some, None, Result, Ok, Err, IsSome, option_to_list, sym, ap, subst, ◌∙◌, refl, arith}
use Rattle.std.specs.Prelude.{Contains, T}
use Rattle.std.specs.Ordering.{eq_by_cmp, is_eq, is_lt}
use Rattle.std.specs.FinMap.{get, empty, get-empty, entries, entries_sorted, get-entries, get-retain_keys, find, is_sorted}
use Rattle.std.specs.FinMap.Entries.{below_all}
use Rattle.std.proofs.lemmas.Bool.{cases_lt, le-leb, lt-leb}
use Rattle.std.proofs.lemmas.Cmp.{tied_itself}
use Rattle.std.proofs.lemmas.List.{append_assoc}
use Rattle.std.proofs.lemmas.List.Elements.{Contains-append_left, Contains-append_right, Contains-append_cases}
use Rattle.testing_rules_model.specs.Covered.{Covered, CoveredItem}
use Rattle.testing_rules_model.specs.FactLists.{FactLists}
use Rattle.testing_rules_model.specs.StandsFor.{StandsFor}
use Rattle.testing_rules_model.specs.Suite.{Suite}
use Rattle.testing_rules_model.specs.SameMessages.{SameElements, HasOneOfEach}
use Rattle.testing_rules_items.proofs.Members.{none_among, tail_of}
use Rattle.testing_rules_model.proofs.Sets.{first_or_rest, at_front, given_by, gives}
use Rattle.testing_rules_model.proofs.SameFacts.{stands-same}
use Rattle.office_mail.specs.declared.message.Message.{Message}
use Rattle.office_mail.specs.declared.message.MailFault.{MailFault}
use Rattle.office_mail.specs.declared.message.Body.{Body}
use Rattle.office_mail.specs.declared.message.Body.TheVariants.{Item, Run}
use Rattle.office_mail.specs.Lists.{Lists}
use Rattle.office_mail.specs.Read.{read}
use Rattle.office_mail.specs.Kept.{Kept, Place, IsPlace, place_cmp}
use Rattle.office_mail.specs.Runs.{cover, covered, is_covered}
use Rattle.office_mail.proofs.KeptFacts.{places_total, exact_places, tied}
use Rattle.office_core_facts.specs.Outcome.{item_in_body, item_at, covered_items}
use Rattle.office_core_facts.specs.steps.Walk.{item_in_answer, item_of, said_at, said_by, said_within}

some_same : {A : Type 0} (x y : A) → Some x ≡ Some y → x ≡ y
some_same x y e = cc

-- an item stands at its own place
body_place : (p : Place) (body : Body) (m : CoveredItem) → item_in_body p body ≡ Some m → p ≡ (m.sender, m.number)
body_place p (Item item) m e = ap (λ (o : CoveredItem). (o.sender, o.number)) (some_same _ m e)
body_place p (Run order) m e = absurd (cc (e))

answer_place : (p : Place) (r : Result Message MailFault) (m : CoveredItem) → item_in_answer p r ≡ Some m → p ≡ (m.sender, m.number)
answer_place p (Ok message) m e = body_place p message.body m e
answer_place p (Err fault) m e = absurd (cc (e))

pub at_place : (setup : Lists) (e : Place × List ℕ) (m : CoveredItem) → item_at setup e ≡ Some m → e.0 ≡ (m.sender, m.number)
unfolding item_at
at_place setup e m is = answer_place e.0 (read setup e.1) m is

of_place : (setup : Lists) (p : Place) (o : Option (List ℕ)) (m : CoveredItem) → item_of setup p o ≡ Some m → p ≡ (m.sender, m.number)
of_place setup p None m e = absurd (cc (e))
of_place setup p (Some text) m e = at_place setup (p, text) m e

pub of_text : (setup : Lists) (p : Place) (o : Option (List ℕ)) (m : CoveredItem) → item_of setup p o ≡ Some m → (text : List ℕ) × (o ≡ Some text) × (item_at setup (p, text) ≡ Some m)
of_text setup p None m e = absurd (cc (e))
of_text setup p (Some text) m e = (text, refl, e)

-- the message is said at a place that its sender's cover has
pub record IsSaid (setup : Lists) (kept : Kept) (covers : ℕ → ℕ) (n : ℕ) (m : CoveredItem) (p : Place) : Type 0 where
  pub sender : p.0 < n
  pub low : 1 ≤ p.1
  pub high : p.1 ≤ covers p.0
  pub is : item_of setup p (get kept p) ≡ Some m

pub in_option : {A : Type 0} (o : Option A) (x : A) → Contains (option_to_list o) x → o ≡ Some x
in_option None x c = none_among x c
in_option (Some y) x c = elim (first_or_rest y [] x c) [ inl e ↦ ap Some e | inr among ↦ none_among x among ]

at_option : {A : Type 0} (o : Option A) (x : A) → o ≡ Some x → Contains (option_to_list o) x
at_option None x e = absurd (cc (e))
at_option (Some y) x e = at_front y x [] (some_same y x e)

pub by_place : (setup : Lists) (kept : Kept) (sender n : ℕ) (m : CoveredItem) → Contains (said_by setup kept sender n) m → (k : ℕ) × (1 ≤ k) × (k ≤ n) × (item_of setup (sender, k) (get kept (sender, k)) ≡ Some m)
unfolding said_by said_at
by_place setup kept sender zero m c = none_among m c
by_place setup kept sender (suc n) m c = elim (Contains-append_cases (option_to_list (item_of setup (sender, suc n) (get kept (sender, suc n)))) (said_by setup kept sender n) m c) [
  | inl own ↦ (suc n, omega arith, omega arith, in_option _ m own)
  | inr among ↦ let rest = by_place setup kept sender n m among in (rest.0, rest.1, omega (arith, rest.2), rest.3)
]

pub place_by : (setup : Lists) (kept : Kept) (sender n k : ℕ) (m : CoveredItem) → 1 ≤ k → k ≤ n → item_of setup (sender, k) (get kept (sender, k)) ≡ Some m → Contains (said_by setup kept sender n) m
unfolding said_by said_at
place_by setup kept sender zero k m low high is = absurd (omega arith)
place_by setup kept sender (suc n) k m low high is = ⊎_elim
    (λ (lt : n < k).
    let own : suc n ≡ k = omega arith in
    Contains-append_left _ (said_by setup kept sender n) m (at_option _ m (ap (λ (j : ℕ). item_of setup (sender, j) (get kept (sender, j))) own ∙ is)))
    (λ (le : k ≤ n). Contains-append_right (option_to_list (item_of setup (sender, suc n) (get kept (sender, suc n)))) (said_by setup kept sender n) m (place_by setup kept sender n k m low le is))
    (cases_lt n k)

pub within_place : (setup : Lists) (kept : Kept) (covers : ℕ → ℕ) (n : ℕ) (m : CoveredItem) → Contains (said_within setup kept covers n) m → (p : Place) × IsSaid setup kept covers n m p
unfolding said_within
within_place setup kept covers zero m c = none_among m c
within_place setup kept covers (suc n) m c = elim (Contains-append_cases (said_by setup kept n (covers n)) (said_within setup kept covers n) m c) [
  | inl own ↦ let k = by_place setup kept n (covers n) m own in ((n, k.0), record { sender = omega arith; low = k.1; high = k.2; is = k.3 })
  | inr among ↦ let rest = within_place setup kept covers n m among in (rest.0, record { sender = omega (arith, rest.1.sender); low = rest.1.low; high = rest.1.high; is = rest.1.is })
]

pub place_within : (setup : Lists) (kept : Kept) (covers : ℕ → ℕ) (n : ℕ) (m : CoveredItem) (p : Place) → IsSaid setup kept covers n m p → Contains (said_within setup kept covers n) m
unfolding said_within
place_within setup kept covers zero m p said = absurd (omega (arith, said.sender))
place_within setup kept covers (suc n) m p said = ⊎_elim
    (λ (lt : p.0 < n). Contains-append_right (said_by setup kept n (covers n)) (said_within setup kept covers n) m (place_within setup kept covers n m p (record { sender = lt; low = said.low; high = said.high; is = said.is })))
    (λ (le : n ≤ p.0).
    let own : p.0 ≡ n = omega (arith, said.sender) in
    Contains-append_left (said_by setup kept n (covers n)) (said_within setup kept covers n) m
    (subst (λ (s : ℕ). Contains (said_by setup kept s (covers s)) m) own (place_by setup kept p.0 (covers p.0) p.1 m said.low said.high said.is)))
    (cases_lt p.0 n)

pub one_of_each : (setup : Lists) (kept : Kept) (covers : ℕ → ℕ) (n : ℕ) → HasOneOfEach (said_within setup kept covers n)
one_of_each setup kept covers n = λ m o cm co sender number.
    let p = within_place setup kept covers n m cm in
    let q = within_place setup kept covers n o co in
    let same : p.0 ≡ q.0 = of_place setup p.0 (get kept p.0) m p.1.is ∙ ap (λ (s : ℕ). (s, m.number)) sender ∙ ap (λ (k : ℕ). (o.sender, k)) number ∙ sym (of_place setup q.0 (get kept q.0) o q.1.is) in
    some_same m o (sym p.1.is ∙ ap (λ (r : Place). item_of setup r (get kept r)) same ∙ q.1.is)

-- entries and what is found

t_first : (a b : Bool) → T (a && b) → T a
t_first true b h = tt
t_first false b h = h

t_second : (a b : Bool) → T (a && b) → T b
t_second true b h = h
t_second false b h = absurd h

below_each : (x : Place) (es : List (Place × List ℕ)) (e : Place × List ℕ) → T (below_all place_cmp x es) → Contains es e → T (is_lt (place_cmp x e.0))
below_each x [] e h c = none_among e c
below_each x (d ∷ ds) e h c = elim (first_or_rest d ds e c) [
  | inl same ↦ subst (λ (f : Place × List ℕ). T (is_lt (place_cmp x f.0))) same (t_first (is_lt (place_cmp x d.0)) (below_all place_cmp x ds) h)
  | inr among ↦ below_each x ds e (t_second (is_lt (place_cmp x d.0)) (below_all place_cmp x ds) h) among
]

not_below : (x : Place) → T (is_lt (place_cmp x x)) → ⊥
not_below x h = subst (λ r. T (is_lt r)) (tied_itself places_total x) h

found_first : (q x : Place) (text : List ℕ) (rest : Option (List ℕ)) → q ≡ x → cond (eq_by_cmp place_cmp q x) (Some text) rest ≡ Some text
found_first q x text rest e = rw e (ap (λ r. cond (is_eq r) (Some text) rest) (tied_itself places_total x))

found_rest : (q x : Place) (b : Bool) (text : List ℕ) (rest : Option (List ℕ)) → eq_by_cmp place_cmp q x ≡ b → (q ≡ x → ⊥) → cond b (Some text) rest ≡ rest
found_rest q x true text rest e apart = absurd (apart (tied x q e))
found_rest q x false text rest e apart = refl

pub find_entry : (es : List (Place × List ℕ)) (e : Place × List ℕ) → T (is_sorted place_cmp es) → Contains es e → find place_cmp e.0 es ≡ Some e.1
find_entry [] e s c = none_among e c
find_entry (d ∷ ds) e s c = elim (first_or_rest d ds e c) [
  | inl same ↦ subst (λ (f : Place × List ℕ). find place_cmp f.0 (d ∷ ds) ≡ Some f.1) same (found_first d.0 d.0 d.1 (find place_cmp d.0 ds) refl)
  | inr among ↦ found_rest e.0 d.0 _ d.1 (find place_cmp e.0 ds) refl
      (λ same. not_below d.0 (subst (λ (x : Place). T (is_lt (place_cmp d.0 x))) same (below_each d.0 ds e (t_first (below_all place_cmp d.0 ds) (is_sorted place_cmp ds) s) among)))
      ∙ find_entry ds e (t_second (below_all place_cmp d.0 ds) (is_sorted place_cmp ds) s) among
]

found_in : (q : Place) (d : Place × List ℕ) (ds : List (Place × List ℕ)) (text : List ℕ) (b : Bool) → eq_by_cmp place_cmp q d.0 ≡ b → cond b (Some d.1) (find place_cmp q ds) ≡ Some text → (find place_cmp q ds ≡ Some text → Contains ds (q, text)) → Contains (d ∷ ds) (q, text)
found_in q d ds text true e is rest = at_front d (q, text) ds (ap (λ (p : Place). (p, d.1)) (sym (tied d.0 q e)) ∙ ap (λ (t : List ℕ). (q, t)) (some_same d.1 text is))
found_in q d ds text false e is rest = tail_of d ds (q, text) (rest is)

pub entry_found : (es : List (Place × List ℕ)) (q : Place) (text : List ℕ) → find place_cmp q es ≡ Some text → Contains es (q, text)
entry_found [] q text is = absurd (cc (is))
entry_found (d ∷ ds) q text is = found_in q d ds text _ refl is (entry_found ds q text)

-- the covered mail has what is kept up to the cover

pub get-covered : (setup : Lists) (kept : Kept) (k : ℕ) (p : Place) → get (covered setup kept k) p ≡ cond (is_covered (cover setup kept k) p) (get kept p) None
unfolding covered
get-covered setup kept k p = get-retain_keys kept (is_covered (cover setup kept k)) p (λ x e. ap (is_covered (cover setup kept k)) (sym (exact_places p x e)))

pub kept_by : (b : Bool) (o : Option (List ℕ)) (text : List ℕ) → cond b o None ≡ Some text → (b ≡ true) × (o ≡ Some text)
kept_by true o text e = (refl, e)
kept_by false o text e = absurd (cc (e))

pub covers_place : (covers : ℕ → ℕ) (p : Place) → is_covered covers p ≡ true → (1 ≤ p.1) × (p.1 ≤ covers p.0)
covers_place covers p h = ⊎_elim
    (λ (lt : p.1 < 1). absurd (cc (sym (ap (λ b. b && nat_le p.1 (covers p.0)) (lt-leb 1 p.1 lt)) ∙ h)))
    (λ (low : 1 ≤ p.1). ⊎_elim
    (λ (lt : covers p.0 < p.1). absurd (cc (sym (ap (λ b. b && nat_le p.1 (covers p.0)) (le-leb 1 p.1 low) ∙ lt-leb p.1 (covers p.0) lt) ∙ h)))
    (λ (high : p.1 ≤ covers p.0). (low, high))
    (cases_lt (covers p.0) p.1))
    (cases_lt p.1 1)

pub place_covered : (covers : ℕ → ℕ) (p : Place) → 1 ≤ p.1 → p.1 ≤ covers p.0 → is_covered covers p ≡ true
place_covered covers p low high = ap (λ b. b && nat_le p.1 (covers p.0)) (le-leb 1 p.1 low) ∙ le-leb p.1 (covers p.0) high

pub some_of : {A : Type 0} (o : Option A) (x : A) → o ≡ Some x → IsSome o
some_of o x e = rw e refl

pub same_messages : (setup : Lists) (kept : Kept) (k : ℕ) → ((p : Place) → IsSome (get kept p) → IsPlace setup p) → SameElements (said_within setup kept (cover setup kept k) (length setup.senders)) (covered_items setup kept k)
unfolding covered_items
same_messages setup kept k places = (
  λ m c.
      let p = within_place setup kept (cover setup kept k) (length setup.senders) m c in
      let text = of_text setup p.0 (get kept p.0) m p.1.is in
      let found : get (covered setup kept k) p.0 ≡ Some text.0 = get-covered setup kept k p.0 ∙ ap (λ (b : Bool). cond b (get kept p.0) None) (place_covered (cover setup kept k) p.0 p.1.low p.1.high) ∙ text.1 in
      gives (item_at setup) (entries (covered setup kept k)) (p.0, text.0) m (entry_found (entries (covered setup kept k)) p.0 text.0 (sym (get-entries (covered setup kept k) p.0) ∙ found)) text.2,
  λ m c.
      let e = given_by (item_at setup) (entries (covered setup kept k)) m c in
      let found : get (covered setup kept k) e.0.0 ≡ Some e.0.1 = get-entries (covered setup kept k) e.0.0 ∙ find_entry (entries (covered setup kept k)) e.0 (entries_sorted (covered setup kept k)) e.1 in
      let stood = kept_by (is_covered (cover setup kept k) e.0.0) (get kept e.0.0) e.0.1 (sym (get-covered setup kept k e.0.0) ∙ found) in
      let within = covers_place (cover setup kept k) e.0.0 stood.0 in
      place_within setup kept (cover setup kept k) (length setup.senders) m e.0.0 (record {
        sender = (places e.0.0 (some_of (get kept e.0.0) e.0.1 stood.1)).sender;
        low = within.0;
        high = within.1;
        is = ap (item_of setup e.0.0) stood.1 ∙ e.2;
      }),
)

-- where nothing is kept, nothing is covered
pub none_covered : (setup : Lists) (k : ℕ) (m : CoveredItem) → Contains (covered_items setup empty k) m → ⊥
unfolding covered_items
none_covered setup k m c =
    let e = given_by (item_at setup) (entries (covered setup empty k)) m c in
    let found : get (covered setup empty k) e.0.0 ≡ Some e.0.1 = get-entries (covered setup empty k) e.0.0 ∙ find_entry (entries (covered setup empty k)) e.0 (entries_sorted (covered setup empty k)) e.1 in
    let stood = kept_by (is_covered (cover setup empty k) e.0.0) (get empty e.0.0) e.0.1 (sym (get-covered setup empty k e.0.0) ∙ found) in
    absurd (cc (sym (get-empty place_cmp e.0.0) ∙ stood.1))

pub stands_for_covered : (setup : Lists) (kept : Kept) (k : ℕ) (f : FactLists) (t : Suite) → ((p : Place) → IsSome (get kept p) → IsPlace setup p) → StandsFor f (said_within setup kept (cover setup kept k) (length setup.senders)) t → StandsFor f (covered_items setup kept k) t
stands_for_covered setup kept k f t places stands =
    stands-same (said_within setup kept (cover setup kept k) (length setup.senders)) (covered_items setup kept k) (same_messages setup kept k places)
    (one_of_each setup kept (cover setup kept k) (length setup.senders)) f t stands

-- one place more
pub said_by-more : (setup : Lists) (kept : Kept) (sender n : ℕ) (s : Covered) → said_at setup kept (sender, n + 1) ++ (said_by setup kept sender n ++ s) ≡ said_by setup kept sender (n + 1) ++ s
unfolding said_by
said_by-more setup kept sender n s =
    let one : n + 1 ≡ suc n = omega arith in
    rw one (sym (append_assoc (said_at setup kept (sender, suc n)) (said_by setup kept sender n) s))

pub said_by-none : (setup : Lists) (kept : Kept) (sender : ℕ) → said_by setup kept sender 0 ≡ []
unfolding said_by
said_by-none setup kept sender = refl

pub said_within-none : (setup : Lists) (kept : Kept) (covers : ℕ → ℕ) → said_within setup kept covers 0 ≡ []
unfolding said_within
said_within-none setup kept covers = refl

pub said_within-more : (setup : Lists) (kept : Kept) (covers : ℕ → ℕ) (n : ℕ) → said_by setup kept n (covers n) ++ said_within setup kept covers n ≡ said_within setup kept covers (n + 1)
unfolding said_within
said_within-more setup kept covers n = let one : n + 1 ≡ suc n = omega arith in rw one refl

-- what is said at a place where nothing is kept, and where a text is
pub said_at-none : (setup : Lists) (kept : Kept) (p : Place) → get kept p ≡ None → said_at setup kept p ≡ []
unfolding said_at
said_at-none setup kept p e = ap (λ (o : Option (List ℕ)). option_to_list (item_of setup p o)) e

pub said_at-text : (setup : Lists) (kept : Kept) (p : Place) (text : List ℕ) → get kept p ≡ Some text → said_at setup kept p ≡ option_to_list (item_at setup (p, text))
unfolding said_at
said_at-text setup kept p text e = ap (λ (o : Option (List ℕ)). option_to_list (item_of setup p o)) e

-- what a text says is what its message says
pub item_is : (setup : Lists) (p : Place) (text : List ℕ) (r : Result Message MailFault) → read setup text ≡ r → item_at setup (p, text) ≡ item_in_answer p r
unfolding item_at
item_is setup p text r is = ap (item_in_answer p) is
