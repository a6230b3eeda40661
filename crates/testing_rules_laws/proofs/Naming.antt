-- Which fact a row names, in a set where each sender gives each number one message.
use Rattle.std.specs.Prelude.{ℕ, ◌+◌, ◌≤◌, ◌<◌, ◌==◌, ◌&&◌, Bool, true, false, cond, List, [], ◌∷◌, ◌++◌, map, find, Contains, Option, Some, None, option_to_list}
use Rattle.std.proofs.Common.{◌≡◌, refl, sym, ap, ◌∙◌, subst, inl, inr, arith}
use Rattle.std.specs.List.{filter_map}
use Rattle.std.proofs.lemmas.Bool.{false≢true}
use Rattle.std.proofs.lemmas.Bool.Decides.{nat_tests}
use Rattle.std.proofs.lemmas.List.Elements.{Contains-append_left, Contains-append_right, Contains-append_cases}
use Rattle.testing_rules_model.specs.declared.facts.BuildIn.{BuildIn}
use Rattle.testing_rules_model.specs.FactLists.{FactLists}
use Rattle.testing_rules_model.specs.Covered.{Covered, CoveredItem, builds_of, builds_in}
use Rattle.testing_rules_model.specs.SameMessages.{SameElements, HasOneOfEach}
use Rattle.testing_rules_items.proofs.Members.{none_among, head_of, tail_of}
use Rattle.testing_rules_model.proofs.SameFacts.{builds_numbered, one_build}
use Rattle.testing_rules_model.proofs.Sets.{first_or_rest, at_front, given_by, gives, mapped_from, maps, spread_from}
use Rattle.testing_rules_model.specs.declared.fact_row.FactRow.{FactRow}
use Rattle.testing_rules_model.proofs.FactKinds.{kind_is, kind_itself}
use Rattle.testing_rules_model.specs.declared.fact_row.FactKind.{FactKind}
use Rattle.testing_rules_model.specs.declared.fact_row.FactKind.TheVariants.{Source, Upload, Build, Drop, Bug, Hint, Unhint, Delays}
use Rattle.testing_rules_model.specs.FactRows.{number_of, is_kind, upload_row, rows_of}
use Rattle.testing_rules_model.specs.steps.FactRows.{source_row, build_row, drop_row, bug_row, hint_row, unhint_row, delays_row}
use Rattle.testing_rules_facts.specs.Restored.{Given, message_of, given_of, build_given}

-- The rows of one kind, in front of those of greater kinds.
module _ {B : Type 0} (row : B → FactRow) (n : ℕ) (kind : (b : B) → number_of (row b).kind ≡ n) (zs : List B) (others : List FactRow) (above : (r : FactRow) → Contains others r → n + 1 ≤ number_of r.kind) where
  own_kind : (r : FactRow) → Contains (map row zs) r → number_of r.kind ≡ n
  own_kind r c = let b = mapped_from row zs r c in ap (λ (x : FactRow). number_of x.kind) (sym b.2) ∙ kind b.0

  pub low : (r : FactRow) → Contains (map row zs ++ others) r → n ≤ number_of r.kind
  low r c = elim (Contains-append_cases (map row zs) others r c) [ inl own ↦ let e = own_kind r own in omega (arith, e) | inr more ↦ let h = above r more in omega (arith, h) ]

  pub here : (r : FactRow) → Contains (map row zs ++ others) r → number_of r.kind ≡ n → Contains (map row zs) r
  here r c e = elim (Contains-append_cases (map row zs) others r c) [ inl own ↦ own | inr more ↦ let h = above r more in absurd (omega (arith, h, e)) ]

  pub there : (r : FactRow) → Contains (map row zs ++ others) r → n < number_of r.kind → Contains others r
  there r c h = elim (Contains-append_cases (map row zs) others r c) [ inl own ↦ let e = own_kind r own in absurd (omega (arith, h, e)) | inr more ↦ more ]

module _ (f : FactLists) where
  last : List FactRow
  last = map delays_row (option_to_list f.delays)

  abbrev pub from8 : List FactRow
  from8 = map delays_row (option_to_list f.delays)

  abbrev pub from7 : List FactRow
  from7 = map unhint_row f.unhints ++ from8

  abbrev pub from6 : List FactRow
  from6 = map hint_row f.hints ++ from7

  abbrev pub from5 : List FactRow
  from5 = map bug_row f.bugs ++ from6

  abbrev pub from4 : List FactRow
  from4 = map drop_row f.drops ++ from5

  abbrev pub from3 : List FactRow
  from3 = map build_row f.rows ++ from4

  abbrev pub from2 : List FactRow
  from2 = map upload_row f.uploads ++ from3

  pub low8 : (r : FactRow) → Contains from8 r → 8 ≤ number_of r.kind
  low8 r c = let b = mapped_from delays_row (option_to_list f.delays) r c in let e = ap (λ (x : FactRow). number_of x.kind) b.2 in omega (arith, e)

  pub low7 : (r : FactRow) → Contains from7 r → 7 ≤ number_of r.kind
  low7 = low unhint_row 7 (λ b. refl) f.unhints from8 low8

  pub low6 : (r : FactRow) → Contains from6 r → 6 ≤ number_of r.kind
  low6 = low hint_row 6 (λ b. refl) f.hints from7 low7

  pub low5 : (r : FactRow) → Contains from5 r → 5 ≤ number_of r.kind
  low5 = low bug_row 5 (λ b. refl) f.bugs from6 low6

  pub low4 : (r : FactRow) → Contains from4 r → 4 ≤ number_of r.kind
  low4 = low drop_row 4 (λ b. refl) f.drops from5 low5

  pub low3 : (r : FactRow) → Contains from3 r → 3 ≤ number_of r.kind
  low3 = low build_row 3 (λ b. refl) f.rows from4 low4

  pub low2 : (r : FactRow) → Contains from2 r → 2 ≤ number_of r.kind
  low2 = low upload_row 2 (λ b. refl) f.uploads from3 low3

  -- what stands from a kind on
  in2 : (r : FactRow) → Contains (rows_of f) r → 1 < number_of r.kind → Contains from2 r
  in2 r c h = there source_row 1 (λ b. refl) f.sources from2 low2 r c h

  in3 : (r : FactRow) → Contains (rows_of f) r → 2 < number_of r.kind → Contains from3 r
  in3 r c h = there upload_row 2 (λ b. refl) f.uploads from3 low3 r (in2 r c (omega (arith, h))) h

  in4 : (r : FactRow) → Contains (rows_of f) r → 3 < number_of r.kind → Contains from4 r
  in4 r c h = there build_row 3 (λ b. refl) f.rows from4 low4 r (in3 r c (omega (arith, h))) h

  in5 : (r : FactRow) → Contains (rows_of f) r → 4 < number_of r.kind → Contains from5 r
  in5 r c h = there drop_row 4 (λ b. refl) f.drops from5 low5 r (in4 r c (omega (arith, h))) h

  in6 : (r : FactRow) → Contains (rows_of f) r → 5 < number_of r.kind → Contains from6 r
  in6 r c h = there bug_row 5 (λ b. refl) f.bugs from6 low6 r (in5 r c (omega (arith, h))) h

  in7 : (r : FactRow) → Contains (rows_of f) r → 6 < number_of r.kind → Contains from7 r
  in7 r c h = there hint_row 6 (λ b. refl) f.hints from7 low7 r (in6 r c (omega (arith, h))) h

  pub of_sources : (r : FactRow) → Contains (rows_of f) r → r.kind ≡ Source → Contains (map source_row f.sources) r
  of_sources r c kind = let e : number_of r.kind ≡ 1 = ap number_of kind in here source_row 1 (λ b. refl) f.sources from2 low2 r c e

  pub of_uploads : (r : FactRow) → Contains (rows_of f) r → r.kind ≡ Upload → Contains (map upload_row f.uploads) r
  of_uploads r c kind = let e : number_of r.kind ≡ 2 = ap number_of kind in here upload_row 2 (λ b. refl) f.uploads from3 low3 r (in2 r c (omega (arith, e))) e

  pub of_rows : (r : FactRow) → Contains (rows_of f) r → r.kind ≡ Build → Contains (map build_row f.rows) r
  of_rows r c kind = let e : number_of r.kind ≡ 3 = ap number_of kind in here build_row 3 (λ b. refl) f.rows from4 low4 r (in3 r c (omega (arith, e))) e

  pub of_drops : (r : FactRow) → Contains (rows_of f) r → r.kind ≡ Drop → Contains (map drop_row f.drops) r
  of_drops r c kind = let e : number_of r.kind ≡ 4 = ap number_of kind in here drop_row 4 (λ b. refl) f.drops from5 low5 r (in4 r c (omega (arith, e))) e

  pub of_bugs : (r : FactRow) → Contains (rows_of f) r → r.kind ≡ Bug → Contains (map bug_row f.bugs) r
  of_bugs r c kind = let e : number_of r.kind ≡ 5 = ap number_of kind in here bug_row 5 (λ b. refl) f.bugs from6 low6 r (in5 r c (omega (arith, e))) e

  pub of_hints : (r : FactRow) → Contains (rows_of f) r → r.kind ≡ Hint → Contains (map hint_row f.hints) r
  of_hints r c kind = let e : number_of r.kind ≡ 6 = ap number_of kind in here hint_row 6 (λ b. refl) f.hints from7 low7 r (in6 r c (omega (arith, e))) e

  pub of_unhints : (r : FactRow) → Contains (rows_of f) r → r.kind ≡ Unhint → Contains (map unhint_row f.unhints) r
  of_unhints r c kind = let e : number_of r.kind ≡ 7 = ap number_of kind in here unhint_row 7 (λ b. refl) f.unhints from8 low8 r (in7 r c (omega (arith, e))) e

  pub of_delays : (r : FactRow) → Contains (rows_of f) r → r.kind ≡ Delays → Contains (map delays_row (option_to_list f.delays)) r
  of_delays r c kind = let e : number_of r.kind ≡ 8 = ap number_of kind in there unhint_row 7 (λ b. refl) f.unhints from8 low8 r (in7 r c (omega (arith, e))) (omega (arith, e))

  -- each fact's row is among them
  pub to2 : (r : FactRow) → Contains from2 r → Contains (rows_of f) r
  to2 r c = Contains-append_right (map source_row f.sources) from2 r c

  pub to3 : (r : FactRow) → Contains from3 r → Contains (rows_of f) r
  to3 r c = to2 r (Contains-append_right (map upload_row f.uploads) from3 r c)

  pub to4 : (r : FactRow) → Contains from4 r → Contains (rows_of f) r
  to4 r c = to3 r (Contains-append_right (map build_row f.rows) from4 r c)

  pub to5 : (r : FactRow) → Contains from5 r → Contains (rows_of f) r
  to5 r c = to4 r (Contains-append_right (map drop_row f.drops) from5 r c)

  pub to6 : (r : FactRow) → Contains from6 r → Contains (rows_of f) r
  to6 r c = to5 r (Contains-append_right (map bug_row f.bugs) from6 r c)

  pub to7 : (r : FactRow) → Contains from7 r → Contains (rows_of f) r
  to7 r c = to6 r (Contains-append_right (map hint_row f.hints) from7 r c)

  pub to8 : (r : FactRow) → Contains from8 r → Contains (rows_of f) r
  to8 r c = to7 r (Contains-append_right (map unhint_row f.unhints) from8 r c)

  pub has_source : (r : FactRow) → Contains (map source_row f.sources) r → Contains (rows_of f) r
  has_source r c = Contains-append_left (map source_row f.sources) from2 r c

  pub has_upload : (r : FactRow) → Contains (map upload_row f.uploads) r → Contains (rows_of f) r
  has_upload r c = to2 r (Contains-append_left (map upload_row f.uploads) from3 r c)

  pub has_build : (r : FactRow) → Contains (map build_row f.rows) r → Contains (rows_of f) r
  has_build r c = to3 r (Contains-append_left (map build_row f.rows) from4 r c)

  pub has_drop : (r : FactRow) → Contains (map drop_row f.drops) r → Contains (rows_of f) r
  has_drop r c = to4 r (Contains-append_left (map drop_row f.drops) from5 r c)

  pub has_bug : (r : FactRow) → Contains (map bug_row f.bugs) r → Contains (rows_of f) r
  has_bug r c = to5 r (Contains-append_left (map bug_row f.bugs) from6 r c)

  pub has_hint : (r : FactRow) → Contains (map hint_row f.hints) r → Contains (rows_of f) r
  has_hint r c = to6 r (Contains-append_left (map hint_row f.hints) from7 r c)

  pub has_unhint : (r : FactRow) → Contains (map unhint_row f.unhints) r → Contains (rows_of f) r
  has_unhint r c = to7 r (Contains-append_left (map unhint_row f.unhints) from8 r c)

-- Messages that are named.

-- each row of the list comes with the message that the set has there
abbrev pub NamesIn : List Given → Covered → Type 0
NamesIn xs s = (x : Given) → Contains xs x → Contains s (message_of x)

pub same_nat : (a b : ℕ) → (a == b) ≡ true → a ≡ b
same_nat a b e = grind (arith, nat_tests)

nat_itself : (a : ℕ) → (a == a) ≡ true
nat_itself a = grind (arith, nat_tests)

pub both_are : (a b : Bool) → (a && b) ≡ true → (a ≡ true) × (b ≡ true)
both_are true b h = (refl, h)
both_are false b h = absurd (false≢true h)

pub passed : {B : Type 0} (b : Bool) (v : Option B) (y : B) → cond b v None ≡ Some y → (b ≡ true) × (v ≡ Some y)
passed true v y e = (refl, e)
passed false v y e = let no : None ≡ Some y = e in absurd (let never : ⊥ = cc in never)

module _ (xs : List Given) (s : Covered) (one : HasOneOfEach s) (named : NamesIn xs s) where
  -- the message that a set has at the place of a row is the row's
  pub own_message : (x : Given) (m : CoveredItem) → Contains xs x → Contains s m → m.sender ≡ x.0.sender → m.number ≡ x.0.number → m ≡ message_of x
  own_message x m c d es en = one m (message_of x) d (named x c) es en

  module _ {B : Type 0} (says : CoveredItem → Option B) (sender number : B → ℕ) (numbered : (m : CoveredItem) (y : B) → says m ≡ Some y → (sender y ≡ m.sender) × (number y ≡ m.number))
      (k : FactKind) (row : B → FactRow) (row_is : (b : B) → row b ≡ record { kind = k; sender = sender b; number = number b; place = 0 })
      (zs : List B) (from : (b : B) → Contains zs b → Contains (filter_map says s) b)
      (rows : List FactRow) (same : SameElements (map (λ x. x.0) xs) rows)
      (of_kind : (r : FactRow) → Contains rows r → r.kind ≡ k → Contains (map row zs) r) (has : (r : FactRow) → Contains (map row zs) r → Contains rows r) where
    given_is : (x : Given) (b : B) → Contains xs x → Contains zs b → row b ≡ x.0 → says (message_of x) ≡ Some b
    given_is x b c d e =
        let m = given_by says s b (from b d) in
        let at_number = numbered m.0 b m.2 in
        let at : x.0 ≡ record { kind = k; sender = sender b; number = number b; place = 0 } = sym e ∙ row_is b in
        let own = own_message x m.0 c m.1 (sym at_number.0 ∙ sym (ap (λ (r : FactRow). r.sender) at)) (sym at_number.1 ∙ sym (ap (λ (r : FactRow). r.number) at)) in
        ap says (sym own) ∙ m.2

    kind_fits : (r : FactRow) (b : B) → row b ≡ r → (is_kind r.kind k && (r.place == 0)) ≡ true
    kind_fits r b e = subst (λ (q : FactRow). (is_kind q.kind k && (q.place == 0)) ≡ true) (sym (row_is b) ∙ e) (rw (kind_itself k) refl)

    pub same_given : SameElements (filter_map (given_of k says) xs) zs
    same_given = (
      λ b c.
          let x = given_by (given_of k says) xs b c in
          let p = passed (is_kind x.0.0.kind k && (x.0.0.place == 0)) (says (message_of x.0)) b x.2 in
          let fits = both_are (is_kind x.0.0.kind k) (x.0.0.place == 0) p.0 in
          let mine = of_kind x.0.0 (same.0 x.0.0 (maps (λ (y : Given). y.0) xs x.0 x.1)) (kind_is x.0.0.kind k fits.0) in
          let d = mapped_from row zs x.0.0 mine in
          let is = given_is x.0 d.0 x.1 d.1 d.2 in
          let both : Some d.0 ≡ Some b = sym is ∙ p.1 in
          let e : d.0 ≡ b = cc in
          subst (Contains zs) e d.1,
      λ b c.
          let r = same.1 (row b) (has (row b) (maps row zs b c)) in
          let x = mapped_from (λ (y : Given). y.0) xs (row b) r in
          let fits = kind_fits x.0.0 b (sym x.2) in
          let is = given_is x.0 b x.1 c (sym x.2) in
          gives (given_of k says) xs x.0 b x.1 (ap (λ (t : Bool). cond t (says (message_of x.0)) None) fits ∙ is),
    )

-- what a search by place finds
module _ (p : ℕ) where
  found_at : (t : Bool) (x : BuildIn) (bs : List BuildIn) (b : BuildIn) → (x.place == p) ≡ t → (find (λ y. y.place == p) bs ≡ Some b → Contains bs b × (b.place ≡ p))
      → find (λ y. y.place == p) (x ∷ bs) ≡ Some b → Contains (x ∷ bs) b × (b.place ≡ p)
  found_at true x bs b e h is =
      let now : Some x ≡ Some b = rw e at is in
      let same : x ≡ b = cc in
      (at_front x b bs same, sym (ap (λ (z : BuildIn). z.place) same) ∙ same_nat x.place p e)
  found_at false x bs b e h is = let now : find (λ y. y.place == p) bs ≡ Some b = rw e at is in let r = h now in (tail_of x bs b r.0, r.1)

  pub found : (bs : List BuildIn) (b : BuildIn) → find (λ y. y.place == p) bs ≡ Some b → Contains bs b × (b.place ≡ p)
  found [] b is = let no : None ≡ Some b = is in absurd (let never : ⊥ = cc in never)
  found (x ∷ bs) b is = found_at (x.place == p) x bs b refl (found bs b) is

  finds_at : (t : Bool) (x : BuildIn) (bs : List BuildIn) (b : BuildIn) → (x.place == p) ≡ t → b.place ≡ p → ((z : BuildIn) → Contains (x ∷ bs) z → z.place ≡ p → z ≡ b)
      → (Contains bs b → find (λ y. y.place == p) bs ≡ Some b) → Contains (x ∷ bs) b → find (λ y. y.place == p) (x ∷ bs) ≡ Some b
  finds_at true x bs b e at only h c = rw e (ap Some (only x (head_of x bs) (same_nat x.place p e)))
  finds_at false x bs b e at only h c = rw e (elim (first_or_rest x bs b c) [
    | inl same ↦ absurd (false≢true (sym e ∙ ap (λ (z : BuildIn). z.place == p) same ∙ ap (λ q. q == p) at ∙ nat_itself p))
    | inr among ↦ h among
  ])

  pub finds : (bs : List BuildIn) (b : BuildIn) → b.place ≡ p → ((z : BuildIn) → Contains bs z → z.place ≡ p → z ≡ b) → Contains bs b → find (λ y. y.place == p) bs ≡ Some b
  finds [] b at only c = none_among b c
  finds (x ∷ bs) b at only c = finds_at (x.place == p) x bs b refl at only (finds bs b at (λ z d. only z (tail_of x bs z d))) c

module _ (xs : List Given) (s : Covered) (one : HasOneOfEach s) (named : NamesIn xs s) (zs : List BuildIn) (from : (b : BuildIn) → Contains zs b → Contains (builds_in s) b)
    (rows : List FactRow) (same : SameElements (map (λ x. x.0) xs) rows)
    (of_kind : (r : FactRow) → Contains rows r → r.kind ≡ Build → Contains (map build_row zs) r) (has : (r : FactRow) → Contains (map build_row zs) r → Contains rows r) where
  -- the build of a row is among those of its message
  builds_at : (x : Given) (b : BuildIn) → Contains xs x → Contains zs b → build_row b ≡ x.0 → Contains (builds_of (message_of x)) b
  builds_at x b c d e =
      let m = spread_from builds_of s b (from b d) in
      let k = builds_numbered m.0.sender m.0.number m.0.item b m.2 in
      let own = own_message xs s one named x m.0 c m.1 (sym k.0 ∙ ap (λ (r : FactRow). r.sender) e) (sym k.1 ∙ ap (λ (r : FactRow). r.number) e) in
      subst (λ (w : CoveredItem). Contains (builds_of w) b) own m.2

  pub same_builds : SameElements (filter_map build_given xs) zs
  same_builds = (
    λ b c.
        let x = given_by build_given xs b c in
        let p = passed (is_kind x.0.0.kind Build) (find (λ y. y.place == x.0.0.place) (builds_of (message_of x.0))) b x.2 in
        let mine = of_kind x.0.0 (same.0 x.0.0 (maps (λ (y : Given). y.0) xs x.0 x.1)) (kind_is x.0.0.kind Build p.0) in
        let d = mapped_from build_row zs x.0.0 mine in
        let f = found x.0.0.place (builds_of (message_of x.0)) b p.1 in
        let in_it = builds_at x.0 d.0 x.1 d.1 d.2 in
        let e = one_build x.0.0.sender x.0.0.number x.0.1 d.0 b in_it f.0 (ap (λ (r : FactRow). r.place) d.2 ∙ sym f.1) in
        subst (Contains zs) e d.1,
    λ b c.
        let r = same.1 (build_row b) (has (build_row b) (maps build_row zs b c)) in
        let x = mapped_from (λ (y : Given). y.0) xs (build_row b) r in
        let in_it = builds_at x.0 b x.1 c (sym x.2) in
        let at : b.place ≡ x.0.0.place = sym (ap (λ (q : FactRow). q.place) x.2) in
        let is = finds x.0.0.place (builds_of (message_of x.0)) b at (λ z d e. one_build x.0.0.sender x.0.0.number x.0.1 z b d in_it (e ∙ sym at)) in_it in
        let kind : is_kind x.0.0.kind Build ≡ true = ap (λ (q : FactRow). is_kind q.kind Build) x.2 in
        gives build_given xs x.0 b x.1 (ap (λ (t : Bool). cond t (find (λ y. y.place == x.0.0.place) (builds_of (message_of x.0))) None) kind ∙ is),
  )
