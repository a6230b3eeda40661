-- The migration of what an office of schema 1 left.
use Rattle.std.proofs.Common.{◌≡◌, ◌≤◌, ◌+◌, ◌==◌, ◌&&◌, ◌||◌, inl, inr, ℕ, Bool, true, false, cond, List, [], ◌∷◌, ◌++◌, length, map, Option, Some, None, Ok, IsSome, is_some, option_to_list, sym, ap, subst, ◌∙◌, refl, arith}
use Rattle.std.specs.Prelude.{Contains}
use Rattle.std.specs.List.{AllByRecursion}
use Rattle.std.specs.FinMap.{get, insert}
use Rattle.std.proofs.lemmas.Bool.Decides.{nat_tests}
use Rattle.std.specs.Ordering.{is_lt}
use Rattle.std.proofs.lemmas.List.Sums.{sum_by-cons}
use Rattle.testing_rules_model.specs.Covered.{Covered, CoveredItem, delays_of, delays_in}
use Rattle.testing_rules_model.specs.declared.facts.DelaysIn.{DelaysIn}
use Rattle.testing_rules_model.specs.declared.fact_row.FactKind.TheVariants as kinds
use Rattle.testing_rules_model.specs.declared.fact_row.FactRow.{FactRow}
use Rattle.testing_rules_model.specs.FactLists.{FactLists}
use Rattle.testing_rules_model.specs.FactRows.{is_kind, is_row, times, rows_of, upload_row}
use Rattle.testing_rules_model.specs.steps.FactRows.{source_row, build_row, drop_row, bug_row, hint_row, unhint_row, delays_row}
use Rattle.testing_rules_model.specs.Unstable.{delays_order, last_delays}
use Rattle.testing_rules_items.proofs.Members.{none_among}
use Rattle.testing_rules_items.specs.Words.{lesser, least}
use Rattle.testing_rules_model.proofs.Orders.{delays_total}
use Rattle.testing_rules_model.proofs.Sets.{first_or_rest, given_by, gives}
use Rattle.testing_rules_model.proofs.Least.{least_from}
use Rattle.testing_rules_model.proofs.First.{least-none_below}
use Rattle.testing_rules_items.specs.declared.item.Item.{Item as Thing}
use Rattle.testing_rules_items.specs.declared.item.Item.TheVariants.{Upload, Dropped, Build, Bug, Hint, Unhint, Delays, Nothing}
use Rattle.office_mail.specs.declared.message.Message.{Message}
use Rattle.office_mail.specs.declared.message.Body.TheVariants.{Item}
use Rattle.office_mail_setup.specs.declared.setup.Role.TheVariants.{Release}
use Rattle.office_mail.specs.Kept.{Place}
use Rattle.office_mail.specs.Lists.{Lists}
use Rattle.office_mail.specs.Read.{read}
use Rattle.office_mail.specs.Runs.{cover}
use Rattle.office_mail.specs.Setup.{count_of, place_of_role}
use Rattle.office_store_keeper.specs.Content.{Content}
use Rattle.office_store_keeper.specs.FactSet.{FactSet, count_in}
use Rattle.office_store_keeper.specs.LastDelays.{TellsDelays, IsLastTold, GetsLast, release_delays, with_last}
use Rattle.office_store_keeper.specs.Provenance.{IsSaid}
use Rattle.office_store_keeper.proofs.SaidItems.{said_text, saying}
use Rattle.office_store_keeper.proofs.FactSets.{has-insert, row_same}
use Rattle.office_core.specs.Migrated.{without_delays, IsOfficeBefore}
use Rattle.office_core_facts.specs.Outcome.{item_in_body, item_at, covered_items}
use Rattle.office_core_facts.specs.State.{IsOffice}
use Rattle.office_core_facts.specs.steps.Walk.{item_in_answer, item_of}
use Rattle.office_core_facts.proofs.GivenFacts.{says}
use Rattle.office_core_facts.proofs.SaidFacts.{said_at_place, told_by_release}
use Rattle.office_core_facts.proofs.WalkFacts.{at_place, of_text, within_place, place_within, same_messages}

-- ---- how often a row stands among those of facts

abbrev bit : Bool → ℕ
bit b = cond b 1 0

times-append : (r : FactRow) (xs ys : List FactRow) → times r (xs ++ ys) ≡ times r xs + times r ys
times-append r [] ys = let none : times r [] ≡ 0 = refl in omega (arith, none)
times-append r (x ∷ xs) ys =
    let one = sum_by-cons (λ (y : FactRow). cond (is_row r y) 1 0) x (xs ++ ys) in
    let two = sum_by-cons (λ (y : FactRow). cond (is_row r y) 1 0) x xs in
    omega (arith, one, two, times-append r xs ys)

-- but for the last delays
all_but : (r : FactRow) (f : FactLists) → times r (rows_of f) ≡ times r (rows_of (without_delays f)) + times r (map delays_row (option_to_list f.delays))
all_but r f =
    let a = map source_row f.sources in
    let b = map upload_row f.uploads in
    let c = map build_row f.rows in
    let d = map drop_row f.drops in
    let e = map bug_row f.bugs in
    let h = map hint_row f.hints in
    let u = map unhint_row f.unhints in
    let l = map delays_row (option_to_list f.delays) in
    behind r a _ _ (times r l) (behind r b _ _ (times r l) (behind r c _ _ (times r l) (behind r d _ _ (times r l) (behind r e _ _ (times r l) (behind r h _ _ (times r l) (behind r u l [] (times r l) (let none : times r [] ≡ 0 = refl in omega (arith, none))))))))
  where
    behind : (r : FactRow) (xs ys zs : List FactRow) (n : ℕ) → times r ys ≡ times r zs + n → times r (xs ++ ys) ≡ times r (xs ++ zs) + n
    behind r xs ys zs n more = omega (arith, times-append r xs ys, times-append r xs zs, more)

-- rows of another kind don't count
none_of : {X : Type 0} (row : X → FactRow) (r : FactRow) → ((x : X) → is_kind (row x).kind r.kind ≡ false) → (xs : List X) → times r (map row xs) ≡ 0
none_of row r other [] = refl
none_of row r other (x ∷ xs) =
    let one = sum_by-cons (λ (y : FactRow). cond (is_row r y) 1 0) (row x) (map row xs) in
    let not : is_row r (row x) ≡ false = ap (λ b. b && (((row x).sender == r.sender) && (((row x).number == r.number) && ((row x).place == r.place)))) (other x) in
    let zero : bit (is_row r (row x)) ≡ 0 = ap bit not in
    omega (arith, one, zero, none_of row r other xs)

no_delays : (r : FactRow) (f : FactLists) → r.kind ≡ kinds.Delays → times r (rows_of (without_delays f)) ≡ 0
no_delays r f kind =
    let a = none_of source_row r (λ x. ap (is_kind kinds.Source) kind) f.sources in
    let b = none_of upload_row r (λ x. ap (is_kind kinds.Upload) kind) f.uploads in
    let c = none_of build_row r (λ x. ap (is_kind kinds.Build) kind) f.rows in
    let d = none_of drop_row r (λ x. ap (is_kind kinds.Drop) kind) f.drops in
    let e = none_of bug_row r (λ x. ap (is_kind kinds.Bug) kind) f.bugs in
    let h = none_of hint_row r (λ x. ap (is_kind kinds.Hint) kind) f.hints in
    let u = none_of unhint_row r (λ x. ap (is_kind kinds.Unhint) kind) f.unhints in
    joined r (map source_row f.sources) _ a (joined r (map upload_row f.uploads) _ b (joined r (map build_row f.rows) _ c (joined r (map drop_row f.drops) _ d (joined r (map bug_row f.bugs) _ e (joined r (map hint_row f.hints) _ h (joined r (map unhint_row f.unhints) [] u refl))))))
  where
    joined : (r : FactRow) (xs ys : List FactRow) → times r xs ≡ 0 → times r ys ≡ 0 → times r (xs ++ ys) ≡ 0
    joined r xs ys x y = omega (arith, times-append r xs ys, x, y)

-- a set with one row more, which it hadn't
one_more : (r x : FactRow) (facts : FactSet) (n : ℕ) → (is_row r x ≡ true → n ≡ 0) → n ≡ count_in facts r → n + times r (x ∷ []) ≡ count_in (insert facts x tt) r
one_more r x facts n free same = go (is_row r x) refl (is_some (get facts r)) refl same
  where
    go : (a : Bool) → is_row r x ≡ a → (b : Bool) → is_some (get facts r) ≡ b → n ≡ cond b 1 0 → n + times r (x ∷ []) ≡ count_in (insert facts x tt) r
    go true p b q e =
        let none : n ≡ 0 = free p in
        let one : times r (x ∷ []) ≡ 1 = sum_by-cons (λ (y : FactRow). cond (is_row r y) 1 0) x [] ∙ rw p refl in
        let now : is_some (get (insert facts x tt) r) ≡ true = has-insert facts x r ∙ ap (λ c. c || is_some (get facts r)) p in
        let there : count_in (insert facts x tt) r ≡ 1 = ap bit now in
        omega (arith, none, one, there)
    go false p b q e =
        let none : times r (x ∷ []) ≡ 0 = sum_by-cons (λ (y : FactRow). cond (is_row r y) 1 0) x [] ∙ rw p refl in
        let now : is_some (get (insert facts x tt) r) ≡ b = has-insert facts x r ∙ ap (λ c. c || is_some (get facts r)) p ∙ q in
        let as_was : count_in (insert facts x tt) r ≡ bit b = ap bit now in
        omega (arith, none, e, as_was)

-- ---- which delays are the last

-- delays are of the message that tells them
delays_own : (m : CoveredItem) (d : DelaysIn) → delays_of m ≡ Some d → (d.sender ≡ m.sender) × (d.number ≡ m.number)
delays_own m d h = at m.item h
  where
    at : (i : Thing) → delays_of (record { sender = m.sender; number = m.number; item = i }) ≡ Some d → (d.sender ≡ m.sender) × (d.number ≡ m.number)
    at (Upload source version urgency day) h = absurd (let no = h in cc)
    at (Dropped name arch version) h = absurd (let no = h in cc)
    at (Build binaries) h = absurd (let no = h in cc)
    at (Bug bug source severity found fixed) h = absurd (let no = h in cc)
    at (Hint hint) h = absurd (let no = h in cc)
    at (Unhint number) h = absurd (let no = h in cc)
    at (Delays low medium high critical) h =
        let same : ◌≡◌ {A = DelaysIn} (record { delays = record { low = low; medium = medium; high = high; critical = critical }; sender = m.sender; number = m.number }) d = cc in
        (sym (ap (λ (x : DelaysIn). x.sender) same), sym (ap (λ (x : DelaysIn). x.number) same))
    at Nothing h = absurd (let no = h in cc)

delays_are : (m : CoveredItem) → IsSome (delays_of m) → (d : DelaysIn) × (delays_of m ≡ Some d) × (d.number ≡ m.number)
delays_are m h = go (delays_of m) refl h
  where
    go : (o : Option DelaysIn) → delays_of m ≡ o → IsSome o → (d : DelaysIn) × (delays_of m ≡ Some d) × (d.number ≡ m.number)
    go None e h = absurd (let no = h in cc)
    go (Some d) e h = (d, e, (delays_own m d e).1)

some_least : {P : Type 0} (v : Option DelaysIn) (z : DelaysIn) → lesser delays_order z v ≡ None → P
some_least None z e = let no : Some z ≡ None = e in absurd (let never : ⊥ = cc in never)
some_least (Some w) z e = let no : Some (cond (is_lt (delays_order w z)) w z) ≡ None = e in absurd (let never : ⊥ = cc in never)

-- where some are there, one is the first
no_least : {P : Type 0} (zs : List DelaysIn) (y : DelaysIn) → least delays_order zs ≡ None → Contains zs y → P
no_least [] y e c = none_among y c
no_least (z ∷ zs) y e c = some_least (least delays_order zs) z e

below_at : (d : DelaysIn) (xs : List DelaysIn) → AllByRecursion (λ y. is_lt (delays_order y d) ≡ false) xs → (e : DelaysIn) → Contains xs e → is_lt (delays_order e d) ≡ false
below_at d [] none e c = none_among e c
below_at d (x ∷ xs) none e c = elim (first_or_rest x xs e c) [
  | inl same ↦ subst (λ (y : DelaysIn). is_lt (delays_order y d) ≡ false) same none.0
  | inr among ↦ below_at d xs none.1 e among
]

-- delays that aren't below others have no greater number
not_greater : (e d : DelaysIn) → is_lt (delays_order e d) ≡ false → e.number ≤ d.number
not_greater e d h = grind (arith, nat_tests)

-- what a text says that is a message
item_is : (setup : Lists) (p : Place) (text : List ℕ) (message : Message) (i : Thing) → read setup text ≡ Ok message → message.body ≡ Item i → item_at setup (p, text) ≡ Some (record { sender = p.0; number = p.1; item = i })
unfolding item_at
item_is setup p text message i says is = ap (item_in_answer p) says ∙ ap (item_in_body p) is

module _ (setup : Lists) (content : Content) (one : count_of Release setup.senders ≡ 1) (office : IsOfficeBefore setup content) where
  abbrev release : ℕ
  release = place_of_role Release setup.senders

  abbrev upto : ℕ
  upto = cover setup content.kept (length content.reports) release

  abbrev told : Covered
  told = covered_items setup content.kept (length content.reports)

  pub record IsTold (m : CoveredItem) : Type 0 where
    pub sender : m.sender ≡ release
    pub low : 1 ≤ m.number
    pub high : m.number ≤ upto
    pub tells : TellsDelays setup content.kept m.number

  -- delays that are covered are the release team's, under a number up to its cover
  is_told : (m : CoveredItem) → Contains told m → IsSome (delays_of m) → IsTold m
  is_told m c some =
      let messages = same_messages setup content.kept (length content.reports) office.places in
      let p = within_place setup content.kept (cover setup content.kept (length content.reports)) (length setup.senders) m (messages.1 m c) in
      let text = of_text setup p.0 (get content.kept p.0) m p.1.is in
      let among = said_at_place setup content.kept p.0 text.0 m text.1 text.2 in
      let sender : m.sender ≡ release = told_by_release setup content.kept m one office.texts among some in
      let at : p.0 ≡ (m.sender, m.number) = at_place setup (p.0, text.0) m text.2 in
      record {
        sender = sender;
        low = subst (λ (q : Place). 1 ≤ q.1) at p.1.low;
        high = subst (λ (s : ℕ). m.number ≤ cover setup content.kept (length content.reports) s) sender (subst (λ (q : Place). q.1 ≤ cover setup content.kept (length content.reports) q.0) at p.1.high);
        tells = (m, sender, refl, says setup content.kept m office.texts among, some);
      }

  -- and what the release team tells up to its cover is among them
  there : (n : ℕ) → 1 ≤ n → n ≤ upto → TellsDelays setup content.kept n → (d : DelaysIn) × Contains (delays_in told) d × (d.number ≡ n)
  there n low high t =
      let m : CoveredItem = record { sender = release; number = n; item = t.0.item } in
      let same : t.0 ≡ m = λ i. record { sender = t.1 i; number = t.2 i; item = t.0.item } in
      let said = said_text setup content.kept m (subst (IsSaid setup content.kept) same t.3) in
      let place = office.places (release, n) (ap is_some said.stands) in
      let item : item_at setup ((release, n), said.text) ≡ Some m = item_is setup (release, n) said.text (saying m) t.0.item said.reads refl in
      let among = place_within setup content.kept (cover setup content.kept (length content.reports)) (length setup.senders) m (release, n)
      (record { sender = place.sender; low = low; high = high; is = ap (item_of setup (release, n)) said.stands ∙ item }) in
      let messages = same_messages setup content.kept (length content.reports) office.places in
      from_message m (messages.0 m among) (subst (λ (x : CoveredItem). IsSome (delays_of x)) same t.4)
    where
      from_message : (m : CoveredItem) → Contains told m → IsSome (delays_of m) → (d : DelaysIn) × Contains (delays_in told) d × (d.number ≡ m.number)
      from_message m c h = let d = delays_are m h in (d.0, gives delays_of told m d.0 c d.1, d.2)

  -- so the last delays of the facts are those
  last_are : (last : Option ℕ) (o : Option DelaysIn) → o ≡ last_delays told → IsLastTold setup content.kept upto last → map delays_row (option_to_list o) ≡ map (release_delays setup) (option_to_list last)
  last_are None None is so = refl
  last_are (Some n) None is so = let d = there n so.0 so.1 so.2 in no_least (delays_in told) d.0 (sym is) d.1
  last_are None (Some d) is so =
      let m = given_by delays_of told d (least_from delays_total (delays_in told) d (sym is)) in
      let t = is_told m.0 m.1 (ap is_some m.2) in
      absurd (so m.0.number t.low t.high t.tells)
  last_are (Some n) (Some d) is so =
      let m = given_by delays_of told d (least_from delays_total (delays_in told) d (sym is)) in
      let t = is_told m.0 m.1 (ap is_some m.2) in
      let own = delays_own m.0 d m.2 in
      let up : m.0.number ≤ n = so.3 m.0.number t.low t.high t.tells in
      let e = there n so.0 so.1 so.2 in
      let none = below_at d (delays_in told) (least-none_below delays_total (delays_in told) d (sym is)) e.0 e.1 in
      let down : n ≤ d.number = subst (λ k. k ≤ d.number) e.2 (not_greater e.0 d none) in
      let number : d.number ≡ n = omega (arith, up, down, own.1) in
      ap (λ (x : FactRow). x ∷ []) (row_is d.sender d.number (own.0 ∙ t.sender) number)
    where
      row_is : (s k : ℕ) → s ≡ release → k ≡ n → ◌≡◌ {A = FactRow} (record { kind = kinds.Delays; sender = s; number = k; place = 0 }) (release_delays setup n)
      row_is s k a b = λ i. record { kind = kinds.Delays; sender = a i; number = b i; place = 0 }

  pub migrated_facts : (last : Option ℕ) → IsLastTold setup content.kept upto last → (r : FactRow) → times r (rows_of office.facts.facts) ≡ count_in (with_last setup last content.facts) r
  migrated_facts last so r =
      let f = office.facts.facts in
      let are = last_are last f.delays office.facts.kept.stand.delays so in
      all_but r f ∙ ap (λ l. times r (rows_of (without_delays f)) + times r l) are ∙ counted last
    where
      counted : (o : Option ℕ) → times r (rows_of (without_delays office.facts.facts)) + times r (map (release_delays setup) (option_to_list o)) ≡ count_in (with_last setup o content.facts) r
      counted None = let none : times r [] ≡ 0 = refl in let was = office.facts.rows r in omega (arith, none, was)
      counted (Some n) =
          one_more r (release_delays setup n) content.facts (times r (rows_of (without_delays office.facts.facts))) (λ same. no_delays r office.facts.facts (ap (λ (x : FactRow). x.kind) (sym (row_same r (release_delays setup n) same)))) (office.facts.rows r)

pub migrated_office : (setup : Lists) (old new : Content) → count_of Release setup.senders ≡ 1 → IsOfficeBefore setup old → GetsLast setup old new → IsOffice setup new
migrated_office setup old new one before gets = subst (IsOffice setup) (sym gets.same) (record {
  places = before.places;
  texts = before.texts;
  ready = before.ready;
  reports = before.reports;
  testing_is = before.testing_is;
  watched = before.watched;
  facts = record {
    facts = before.facts.facts;
    kept = before.facts.kept;
    rows = migrated_facts setup old one before gets.last gets.last_is;
  };
})
