-- The rows of facts that messages say: what they name, and that none stands twice.
use Rattle.std.specs.Prelude.{ℕ, ◌+◌, ◌<◌, ◌≤◌, Bool, true, false, cond, List, [], ◌∷◌, ◌++◌, map, Contains, Option, Some, None, is_some, option_to_list}
use Rattle.std.proofs.Common.{◌≡◌, refl, sym, ap, ◌∙◌, subst, inl, inr, arith}
use Rattle.std.specs.List.Sorted.{IsStrictlySortedBy}
use Rattle.std.specs.declared.cmp.Ordering.{Ordering}
use Rattle.std.specs.Cmp.{IsTotalOrder}
use Rattle.std.proofs.lemmas.Bool.{cases_lt}
use Rattle.std.proofs.lemmas.Cmp.{nat_cmp_total}
use Rattle.std.proofs.lemmas.List.Elements.{Contains-append_cases}
use Rattle.std.proofs.lemmas.List.Sums.{sum_by-cons}
use Rattle.testing_rules_items.proofs.Members.{none_among, head_of, tail_of}
use Rattle.testing_rules_model.specs.declared.facts.UploadIn.{UploadIn}
use Rattle.testing_rules_model.specs.declared.facts.BuildIn.{BuildIn}
use Rattle.testing_rules_model.specs.declared.facts.DropIn.{DropIn}
use Rattle.testing_rules_model.specs.declared.facts.BugIn.{BugIn}
use Rattle.testing_rules_model.specs.declared.facts.HintIn.{HintIn}
use Rattle.testing_rules_model.specs.declared.facts.UnhintIn.{UnhintIn}
use Rattle.testing_rules_model.specs.declared.facts.DelaysIn.{DelaysIn}
use Rattle.testing_rules_model.specs.declared.fact_row.FactKind.{FactKind}
use Rattle.testing_rules_model.specs.declared.fact_row.FactKind.TheVariants.{Source, Upload, Build, Drop, Bug, Hint, Unhint, Delays}
use Rattle.testing_rules_model.specs.declared.fact_row.FactRow.{FactRow}
use Rattle.testing_rules_model.specs.Covered.{Covered, upload_of, drop_of, bug_of, hint_of, unhint_of, delays_of, builds_of}
use Rattle.testing_rules_model.specs.FactLists.{FactLists}
use Rattle.testing_rules_model.specs.FactRows.{number_of, upload_row, rows_of, is_row, times, IsFactRow}
use Rattle.testing_rules_model.specs.steps.FactRows.{source_row, build_row, drop_row, bug_row, hint_row, unhint_row, delays_row}
use Rattle.testing_rules_model.specs.SameMessages.{HasOneOfEach}
use Rattle.testing_rules_model.specs.Tells.{Tells}
use Rattle.testing_rules_model.specs.Unstable.{pair_of, drop_pair}
use Rattle.testing_rules_model.proofs.MoreMail.{pair_total}
use Rattle.testing_rules_model.proofs.Orders.{text_order, hint_total, unhint_total}
use Rattle.testing_rules_model.proofs.SameFacts.{upload_numbered, drop_numbered, bug_numbered, hint_numbered, unhint_numbered, delays_numbered, builds_numbered, one_given}
use Rattle.testing_rules_model.proofs.Sets.{first_or_rest, given_by, mapped_from, spread_from}
use Rattle.testing_rules_facts.specs.Uploads.{AreByMessage}
use Rattle.testing_rules_facts.proofs.KeptUploads.{message_total, keys_in_order}
use Rattle.testing_rules_facts.proofs.Netting.{row_same}
use Rattle.testing_rules_facts.proofs.Shifting.{joined}
use Rattle.testing_rules_laws.specs.steps.Told.{NamesMessage, AreFactRows}
use Rattle.testing_rules_laws.proofs.Naming.{from2, from3, from4, from5, from6, from7, from8, low2, low3, low4, low5, low6, low7, low8, of_delays}
use Rattle.testing_rules_laws.proofs.Orderly.{above_has, not_itself}
use Rattle.testing_rules_laws.proofs.Restoring.{in_order_itself}
use Rattle.testing_rules_laws.proofs.Telling.{told_build}

abbrev one_if : Bool → ℕ
one_if b = cond b 1 0

-- How often a row stands in a list.
module _ (r : FactRow) where
  counted : (x : FactRow) (rows : List FactRow) → times r (x ∷ rows) ≡ one_if (is_row r x) + times r rows
  counted x rows = sum_by-cons (λ y. one_if (is_row r y)) x rows

  none_at : (b : Bool) (x : FactRow) (rows : List FactRow) → is_row r x ≡ b → (is_row r x ≡ true → ⊥) → times r rows ≡ 0 → times r (x ∷ rows) ≡ 0
  none_at true x rows e other none = absurd (other e)
  none_at false x rows e other none = let own : one_if (is_row r x) ≡ 0 = ap one_if e in omega (arith, counted x rows, own, none)

  none_of : (rows : List FactRow) → ((x : FactRow) → Contains rows x → is_row r x ≡ true → ⊥) → times r rows ≡ 0
  none_of [] other = refl
  none_of (x ∷ rows) other = none_at (is_row r x) x rows refl (other x (head_of x rows)) (none_of rows (λ y c. other y (tail_of x rows y c)))

  one_of : (d : FactRow) → times r (d ∷ []) ≤ 1
  one_of d = at (is_row r d) refl
    where
      at : (b : Bool) → is_row r d ≡ b → times r (d ∷ []) ≤ 1
      at true e = let own : one_if (is_row r d) ≡ 1 = ap one_if e in omega (arith, counted d [], own)
      at false e = let own : one_if (is_row r d) ≡ 0 = ap one_if e in omega (arith, counted d [], own)

  -- rows of one kind in front of those of greater kinds
  front : (n : ℕ) (rows others : List FactRow) → ((x : FactRow) → Contains rows x → number_of x.kind ≡ n) → ((x : FactRow) → Contains others x → n + 1 ≤ number_of x.kind)
      → times r rows ≤ 1 → times r others ≤ 1 → times r (rows ++ others) ≤ 1
  front n rows others own above once rest = elim (cases_lt n (number_of r.kind)) [
    | inl high ↦
        let none = none_of rows (λ x c e. let k : number_of x.kind ≡ number_of r.kind = ap (λ (y : FactRow). number_of y.kind) (row_same r x e) in let m = own x c in absurd (omega (arith, high, k, m))) in
        omega (arith, joined r rows others, none, rest)
    | inr low ↦
        let none = none_of others (λ x c e. let k : number_of x.kind ≡ number_of r.kind = ap (λ (y : FactRow). number_of y.kind) (row_same r x e) in let m = above x c in absurd (omega (arith, low, k, m))) in
        omega (arith, joined r rows others, none, once)
  ]

-- Elements in the strict order of their keys that their rows tell apart have each row once.
module _ {B K : Type 0} (key : B → K) {cmp : K → K → Ordering} (o : IsTotalOrder cmp) (row : B → FactRow) (r : FactRow) where
  once_at : (b : Bool) (x : B) (xs : List B) → is_row r (row x) ≡ b → (is_row r (row x) ≡ true → times r (map row xs) ≡ 0) → times r (map row xs) ≤ 1 → times r (map row (x ∷ xs)) ≤ 1
  once_at true x xs e none rest =
      let own : one_if (is_row r (row x)) ≡ 1 = ap one_if e in
      let others = none e in
      omega (arith, counted r (row x) (map row xs), own, others)
  once_at false x xs e none rest =
      let own : one_if (is_row r (row x)) ≡ 0 = ap one_if e in
      omega (arith, counted r (row x) (map row xs), own, rest)

  once : (xs : List B) → ((x y : B) → Contains xs x → Contains xs y → row x ≡ row y → x ≡ y) → IsStrictlySortedBy cmp (map key xs) → times r (map row xs) ≤ 1
  unfolding IsStrictlySortedBy
  once [] tell s = omega arith
  once (x ∷ xs) tell s =
      once_at (is_row r (row x)) x xs refl
      (λ e. none_of r (map row xs) (λ z c d.
      let y = mapped_from row xs z c in
      let same : x ≡ y.0 = tell x y.0 (head_of x xs) (tail_of x xs y.0 y.1) (row_same r (row x) e ∙ sym (row_same r z d) ∙ sym y.2) in
      not_itself key o (key x) (ap (λ w. cmp (key x) (key w)) same ∙ above_has key o (key x) xs y.0 s.0 y.1)))
      (once xs (λ y z c d. tell y z (tail_of x xs y c) (tail_of x xs z d)) s.1)

kind_number : {B : Type 0} (row : B → FactRow) (n : ℕ) → ((b : B) → number_of (row b).kind ≡ n) → (xs : List B) (x : FactRow) → Contains (map row xs) x → number_of x.kind ≡ n
kind_number row n kind xs x c = let b = mapped_from row xs x c in ap (λ (y : FactRow). number_of y.kind) (sym b.2) ∙ kind b.0

once_last : (r : FactRow) (last : Option DelaysIn) → times r (map delays_row (option_to_list last)) ≤ 1
once_last r None = omega arith
once_last r (Some d) = one_of r (delays_row d)

pub rows_once : (f : FactLists) (s : Covered) → HasOneOfEach s → Tells f s → AreByMessage f.uploads → (r : FactRow) → times r (rows_of f) ≤ 1
rows_once f s one h by_message r =
    let said = h.said in
    let order = h.orderly in
    front r 1 (map source_row f.sources) (from2 f) (kind_number source_row 1 (λ b. refl) f.sources) (low2 f)
    (once (λ u. u.source) text_order source_row r f.sources
    (λ x y c d e. one_given upload_of (λ u. u.sender) (λ u. u.number) (λ m. upload_numbered m.sender m.number m.item) s one x y (said.sources x c) (said.sources y d)
    (ap (λ (q : FactRow). q.sender) e) (ap (λ (q : FactRow). q.number) e)) order.by_source)
    (front r 2 (map upload_row f.uploads) (from3 f) (kind_number upload_row 2 (λ b. refl) f.uploads) (low3 f)
    (once (λ u. u) message_total upload_row r f.uploads
    (λ x y c d e. one_given upload_of (λ u. u.sender) (λ u. u.number) (λ m. upload_numbered m.sender m.number m.item) s one x y (said.uploads x c) (said.uploads y d)
    (ap (λ (q : FactRow). q.sender) e) (ap (λ (q : FactRow). q.number) e)) (keys_in_order f.uploads by_message))
    (front r 3 (map build_row f.rows) (from4 f) (kind_number build_row 3 (λ b. refl) f.rows) (low4 f)
    (once pair_of pair_total build_row r f.rows (λ x y c d e. told_build s one x y (said.rows x c) (said.rows y d) e) order.by_pair)
    (front r 4 (map drop_row f.drops) (from5 f) (kind_number drop_row 4 (λ b. refl) f.drops) (low5 f)
    (once drop_pair pair_total drop_row r f.drops
    (λ x y c d e. one_given drop_of (λ u. u.sender) (λ u. u.number) (λ m. drop_numbered m.sender m.number m.item) s one x y (said.drops x c) (said.drops y d)
    (ap (λ (q : FactRow). q.sender) e) (ap (λ (q : FactRow). q.number) e)) order.drops_by_pair)
    (front r 5 (map bug_row f.bugs) (from6 f) (kind_number bug_row 5 (λ b. refl) f.bugs) (low6 f)
    (once (λ b. b.bug) nat_cmp_total bug_row r f.bugs
    (λ x y c d e. one_given bug_of (λ u. u.sender) (λ u. u.number) (λ m. bug_numbered m.sender m.number m.item) s one x y (said.bugs x c) (said.bugs y d)
    (ap (λ (q : FactRow). q.sender) e) (ap (λ (q : FactRow). q.number) e)) order.by_number)
    (front r 6 (map hint_row f.hints) (from7 f) (kind_number hint_row 6 (λ b. refl) f.hints) (low7 f)
    (once (λ x. x) hint_total hint_row r f.hints
    (λ x y c d e. one_given hint_of (λ u. u.sender) (λ u. u.number) (λ m. hint_numbered m.sender m.number m.item) s one x y (said.hints x c) (said.hints y d)
    (ap (λ (q : FactRow). q.sender) e) (ap (λ (q : FactRow). q.number) e)) (in_order_itself hint_total f.hints order.hints))
    (front r 7 (map unhint_row f.unhints) (from8 f) (kind_number unhint_row 7 (λ b. refl) f.unhints) (low8 f)
    (once (λ x. x) unhint_total unhint_row r f.unhints
    (λ x y c d e. one_given unhint_of (λ u. u.sender) (λ u. u.number) (λ m. unhint_numbered m.sender m.number m.item) s one x y (said.unhints x c) (said.unhints y d)
    (ap (λ (q : FactRow). q.sender) e) (ap (λ (q : FactRow). q.number) e)) (in_order_itself unhint_total f.unhints order.unhints))
    (once_last r f.delays)))))))

-- What holds of each row.
part : {B : Type 0} (P : FactRow → Type 0) (row : B → FactRow) (xs : List B) (others : List FactRow) → ((b : B) → Contains xs b → P (row b)) → ((r : FactRow) → Contains others r → P r)
    → (r : FactRow) → Contains (map row xs ++ others) r → P r
part P row xs others own rest r c = elim (Contains-append_cases (map row xs) others r c) [
  | inl mine ↦ let b = mapped_from row xs r mine in subst P b.2 (own b.0 b.1)
  | inr more ↦ rest r more
]

each_row : (P : FactRow → Type 0) (f : FactLists)
    → ((u : UploadIn) → Contains f.sources u → P (source_row u))
    → ((u : UploadIn) → Contains f.uploads u → P (upload_row u))
    → ((b : BuildIn) → Contains f.rows b → P (build_row b))
    → ((d : DropIn) → Contains f.drops d → P (drop_row d))
    → ((b : BugIn) → Contains f.bugs b → P (bug_row b))
    → ((x : HintIn) → Contains f.hints x → P (hint_row x))
    → ((x : UnhintIn) → Contains f.unhints x → P (unhint_row x))
    → ((d : DelaysIn) → Contains (option_to_list f.delays) d → P (delays_row d))
    → (r : FactRow) → Contains (rows_of f) r → P r
each_row P f p1 p2 p3 p4 p5 p6 p7 p8 =
    part P source_row f.sources (from2 f) p1
    (part P upload_row f.uploads (from3 f) p2
    (part P build_row f.rows (from4 f) p3
    (part P drop_row f.drops (from5 f) p4
    (part P bug_row f.bugs (from6 f) p5
    (part P hint_row f.hints (from7 f) p6
    (part P unhint_row f.unhints (from8 f) p7 (λ r c. let d = mapped_from delays_row (option_to_list f.delays) r c in subst P d.2 (p8 d.0 d.1))))))))

are_rows : (f : FactLists) (r : FactRow) → Contains (rows_of f) r → IsFactRow r
are_rows f =
    each_row IsFactRow f
    (λ u c. record { place = inr refl })
    (λ u c. record { place = inr refl })
    (λ b c. record { place = inl refl })
    (λ d c. record { place = inr refl })
    (λ b c. record { place = inr refl })
    (λ x c. record { place = inr refl })
    (λ x c. record { place = inr refl })
    (λ d c. record { place = inr refl })

not_delays : {P : Type 0} (k : FactKind) (n : ℕ) → number_of k ≡ n → n < 8 → k ≡ Delays → P
not_delays k n is low e = let eight : number_of k ≡ 8 = ap number_of e in absurd (omega (arith, is, low, eight))

are_named : (f : FactLists) (s : Covered) → Tells f s → (r : FactRow) → Contains (rows_of f) r → NamesMessage s r
are_named f s h =
    let said = h.said in
    each_row (NamesMessage s) f
    (λ u c.
    let m = given_by upload_of s u (said.sources u c) in
    let b = upload_numbered m.0.sender m.0.number m.0.item u m.2 in
    record { message = m.0; among = m.1; sender = sym b.0; number = sym b.1; delays = not_delays Source 1 refl (omega arith) })
    (λ u c.
    let m = given_by upload_of s u (said.uploads u c) in
    let b = upload_numbered m.0.sender m.0.number m.0.item u m.2 in
    record { message = m.0; among = m.1; sender = sym b.0; number = sym b.1; delays = not_delays Upload 2 refl (omega arith) })
    (λ u c.
    let m = spread_from builds_of s u (said.rows u c) in
    let b = builds_numbered m.0.sender m.0.number m.0.item u m.2 in
    record { message = m.0; among = m.1; sender = sym b.0; number = sym b.1; delays = not_delays Build 3 refl (omega arith) })
    (λ u c.
    let m = given_by drop_of s u (said.drops u c) in
    let b = drop_numbered m.0.sender m.0.number m.0.item u m.2 in
    record { message = m.0; among = m.1; sender = sym b.0; number = sym b.1; delays = not_delays Drop 4 refl (omega arith) })
    (λ u c.
    let m = given_by bug_of s u (said.bugs u c) in
    let b = bug_numbered m.0.sender m.0.number m.0.item u m.2 in
    record { message = m.0; among = m.1; sender = sym b.0; number = sym b.1; delays = not_delays Bug 5 refl (omega arith) })
    (λ u c.
    let m = given_by hint_of s u (said.hints u c) in
    let b = hint_numbered m.0.sender m.0.number m.0.item u m.2 in
    record { message = m.0; among = m.1; sender = sym b.0; number = sym b.1; delays = not_delays Hint 6 refl (omega arith) })
    (λ u c.
    let m = given_by unhint_of s u (said.unhints u c) in
    let b = unhint_numbered m.0.sender m.0.number m.0.item u m.2 in
    record { message = m.0; among = m.1; sender = sym b.0; number = sym b.1; delays = not_delays Unhint 7 refl (omega arith) })
    (λ u c.
    let m = given_by delays_of s u (said.delays u c) in
    let b = delays_numbered m.0.sender m.0.number m.0.item u m.2 in
    record { message = m.0; among = m.1; sender = sym b.0; number = sym b.1; delays = λ e. ap is_some m.2 })

one_last : (last : Option DelaysIn) (d e : DelaysIn) → Contains (option_to_list last) d → Contains (option_to_list last) e → d ≡ e
one_last None d e c k = none_among d c
one_last (Some l) d e c k = elim (first_or_rest l [] d c) [
  | inl ld ↦ elim (first_or_rest l [] e k) [ inl le ↦ sym ld ∙ le | inr none ↦ none_among e none ]
  | inr none ↦ none_among d none
]

pub told_rows_are_fact_rows : (f : FactLists) (s : Covered) → Tells f s → AreFactRows s (rows_of f)
told_rows_are_fact_rows f s h = record {
  each = are_rows f;
  named = are_named f s h;
  one = λ q r c d e k.
      let x = mapped_from delays_row (option_to_list f.delays) q (of_delays f q c e) in
      let y = mapped_from delays_row (option_to_list f.delays) r (of_delays f r d k) in
      sym x.2 ∙ ap delays_row (one_last f.delays x.0 y.0 x.1 y.1) ∙ y.2;
}
