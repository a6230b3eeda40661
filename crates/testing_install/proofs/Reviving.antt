-- Rows get their marks back that may be installable again after a change; and a whole change.
use Rattle.std.proofs.Common.{◌≡◌, ℕ, ◌+◌, ◌-◌, ◌<◌, ◌≤◌, Bool, true, false, ◌⊎◌, List, [], ◌∷◌, ◌++◌, length, get_or, set, Some, None, Global, sym, refl, ap, ◌∙◌, subst, ⊎_elim, inl, inr, arith}
use Rattle.std.specs.List.{slice_get, All, Contains}
use Rattle.std.proofs.lemmas.Option.{same_Some}
use Rattle.std.proofs.lemmas.Bool.{cases_Bool, cases_eq, cases_lt, false≢true}
use Rattle.std.proofs.lemmas.List.{length-append, get_or-set_same, get_or-set_other, get_or_append_left, get_or-append_right, get_or_default}
use Rattle.std.proofs.lemmas.List.Elements.{Contains-append_left, Contains-append_right, Contains-push, Contains-push_cases}
use Rattle.deb_control.specs.declared.binary.Binary.{Binary}
use Rattle.testing_install.specs.Closed.{marked}
use Rattle.testing_install.specs.Among.{with_all}
use Rattle.testing_install.specs.steps.Among.{may_need}
use Rattle.testing_install.specs.steps.Settling.{IsSettling, IsSized, IsReviving, IsRevived}
use Rattle.testing_install.specs.steps.Suite.{IsRight, IsChanged}
use Rattle.std.specs.declared.rc.Rc.{Rc}
use Rattle.testing_install.specs.Rows.{shared}
use Rattle.testing_install.proofs.Sharing.{shared_at, length-shared}
use Rattle.testing_install.proofs.Members.{members_from_all, contains_first, contains_cons, contains_none}
use Rattle.testing_install.proofs.Marking.{length-with_all, with_stays, with_here, with_elsewhere}
use Rattle.testing_install.proofs.Restarting.{restart}
use Rattle.testing_install.proofs.Settled.{settling_done}

-- one place: nothing to do

first_of_one : (x j d : ℕ) → j < 1 → get_or (x ∷ []) j d ≡ x
first_of_one x j d h = let first : j ≡ 0 = omega arith in ap (λ i. get_or (x ∷ []) i d) first

pub revived_out : (there : ℕ → Bool) (marks : List Bool) (fresh : List ℕ) (place : ℕ) → there place ≡ false → IsRevived there marks marks fresh fresh (place ∷ []) 1
revived_out there marks fresh place off = record {
  inside = λ k on. inl on;
  grown = λ k on. on;
  known = λ k on. inl on;
  stays = λ j d h. (h, refl);
  within = λ m p f k c. f k c;
  done = λ j d h l on. absurd (false≢true (sym off ∙ ap there (sym (first_of_one place j d h)) ∙ on));
}

pub revived_marked : (there : ℕ → Bool) (marks : List Bool) (fresh : List ℕ) (place : ℕ) → marked marks place ≡ true → IsRevived there marks marks fresh fresh (place ∷ []) 1
revived_marked there marks fresh place here = record {
  inside = λ k on. inl on;
  grown = λ k on. on;
  known = λ k on. inl on;
  stays = λ j d h. (h, refl);
  within = λ m p f k c. f k c;
  done = λ j d h l on. ap (λ q. marked marks q) (first_of_one place j d h) ∙ here;
}

-- one place: it is there and gets its mark
pub revived_one : (there : ℕ → Bool) (marks : List Bool) (fresh : List ℕ) (place : ℕ) → there place ≡ true → place < length marks → IsRevived there marks (set marks place true) fresh (fresh ++ place ∷ []) (place ∷ []) 1
revived_one there marks fresh place here h =
    let now : marked (set marks place true) place ≡ true = get_or-set_same marks place true false h in
    record {
      inside = λ k on. elim (cases_eq k place) [
        | inl e ↦ inr (ap there e ∙ here)
        | inr n ↦ inl (sym (get_or-set_other marks place k true false n) ∙ on)
      ];
      grown = λ k on. elim (cases_eq k place) [
        | inl e ↦ ap (λ q. marked (set marks place true) q) e ∙ now
        | inr n ↦ get_or-set_other marks place k true false n ∙ on
      ];
      known = λ k on. elim (cases_eq k place) [
        | inl e ↦ inr (subst (λ q. Contains (fresh ++ place ∷ []) q) (sym e) (Contains-push fresh place))
        | inr n ↦ inl (sym (get_or-set_other marks place k true false n) ∙ on)
      ];
      stays = λ j d l. (omega (arith, l, length-append fresh (place ∷ [])), get_or_append_left fresh (place ∷ []) d j l);
      within = λ m p f k c. elim (Contains-push_cases fresh place k c) [
        | inl before ↦ f k before
        | inr same ↦ p k (subst (λ q. Contains (place ∷ []) q) same (contains_first place []))
      ];
      done = λ j d l b on. ap (λ q. marked (set marks place true) q) (first_of_one place j d l) ∙ now;
    }

-- several places, one after the other

pub revived_none : (there : ℕ → Bool) (marks : List Bool) (fresh places : List ℕ) → IsRevived there marks marks fresh fresh places 0
revived_none there marks fresh places = record {
  inside = λ k on. inl on;
  grown = λ k on. on;
  known = λ k on. inl on;
  stays = λ j d h. (h, refl);
  within = λ m p f k c. f k c;
  done = λ j d h. absurd (omega (arith, h));
}

-- what was fresh is fresh
still_fresh : (old new : List ℕ) → ((j d : ℕ) → j < length old → (j < length new) × (get_or new j d ≡ get_or old j d)) → (k : ℕ) → Contains old k → Contains new k
still_fresh old new stays k c = let s = stays c.0 k c.1 in (c.0, s.0, s.1 ∙ c.2)

pub revived_more : (there : ℕ → Bool) (first old new : List Bool) (first_fresh old_fresh new_fresh places : List ℕ) (n place : ℕ) → IsRevived there first old first_fresh old_fresh places n → IsRevived there old new old_fresh new_fresh (place ∷ []) 1 → n < length places → place ≡ get_or places n place → IsRevived there first new first_fresh new_fresh places (n + 1)
revived_more there first old new first_fresh old_fresh new_fresh places n place r one h at = record {
  inside = λ k on. elim (one.inside k on) [ inl before ↦ r.inside k before | inr here ↦ inr here ];
  grown = λ k on. one.grown k (r.grown k on);
  known = λ k on. elim (one.known k on) [
    | inl before ↦ elim (r.known k before) [
      | inl was ↦ inl was
      | inr fresh ↦ inr (still_fresh old_fresh new_fresh one.stays k fresh)
    ]
    | inr fresh ↦ inr fresh
  ];
  stays = λ j d l. let a = r.stays j d l in let b = one.stays j d a.0 in (b.0, b.1 ∙ a.1);
  within = λ m p f k c. one.within m
      (λ q o. elim (contains_cons place q [] o) [
        | inl same ↦ p q (n, h, ap (λ x. get_or places n x) same ∙ sym at ∙ sym same)
        | inr none ↦ absurd (contains_none q none)
      ])
      (r.within m p f) k c;
  done = λ j d below l on. elim (cases_lt j n) [
    | inl less ↦ one.grown (get_or places j d) (r.done j d less l on)
    | inr not_less ↦ (
        let same : j ≡ n = omega arith in
        let is_place : get_or places j d ≡ place = ap (λ i. get_or places i d) same ∙ get_or_default places n d place h ∙ sym at in
        let there_too : there place ≡ true = ap there (sym is_place) ∙ on in
        ap (λ q. marked new q) is_place ∙ one.done 0 0 (omega arith) (omega arith) there_too)
  ];
}

-- several places, and then several others
pub revived_both : (there : ℕ → Bool) (first mid last : List Bool) (first_fresh mid_fresh last_fresh places others : List ℕ) → IsRevived there first mid first_fresh mid_fresh places (length places) → IsRevived there mid last mid_fresh last_fresh others (length others) → IsRevived there first last first_fresh last_fresh (places ++ others) (length (places ++ others))
revived_both there first mid last first_fresh mid_fresh last_fresh places others r s = record {
  inside = λ k on. elim (s.inside k on) [ inl before ↦ r.inside k before | inr here ↦ inr here ];
  grown = λ k on. s.grown k (r.grown k on);
  known = λ k on. elim (s.known k on) [
    | inl before ↦ elim (r.known k before) [
      | inl was ↦ inl was
      | inr fresh ↦ inr (still_fresh mid_fresh last_fresh s.stays k fresh)
    ]
    | inr fresh ↦ inr fresh
  ];
  stays = λ j d l. let a = r.stays j d l in let b = s.stays j d a.0 in (b.0, b.1 ∙ a.1);
  within = λ m p f. s.within m (λ q o. p q (Contains-append_right places others q o)) (r.within m (λ q o. p q (Contains-append_left places others q o)) f);
  done = λ j d below l on. elim (cases_lt j (length places)) [
    | inl less ↦ (
        let at : get_or (places ++ others) j d ≡ get_or places j d = get_or_append_left places others d j less in
        ap (λ q. marked last q) at ∙ s.grown (get_or places j d) (r.done j d less less (ap there (sym at) ∙ on)))
    | inr behind ↦ (
        let at : get_or (places ++ others) j d ≡ get_or others (j - length places) d = get_or-append_right places others (length places) j d refl behind in
        let h : j - length places < length others = omega (arith, l, length-append places others, behind) in
        ap (λ q. marked last q) at ∙ s.done (j - length places) d h h (ap there (sym at) ∙ on))
  ];
}

-- going over the dependents of the next fresh row
pub reviving_more : (rows : List Binary) (there old : ℕ → Bool) (start marks new : List Bool) (fresh new_fresh places : List ℕ) (next : ℕ) (row : Binary) (n : ℕ) → IsReviving rows there old start marks fresh next → IsRevived there marks new fresh new_fresh places n → length places ≤ n → next < length fresh → ((d : ℕ) → slice_get rows (get_or fresh next d) ≡ Some row) → ((o : ℕ) (dependent : Binary) → slice_get rows o ≡ Some dependent → may_need dependent row ≡ true → Contains places o) → IsReviving rows there old start new new_fresh (next + 1)
reviving_more rows there old start marks new fresh new_fresh places next row n s r long h at complete = record {
  inside = λ k on. elim (r.inside k on) [ inl before ↦ s.inside k before | inr here ↦ here ];
  grown = λ k on. r.grown k (s.grown k on);
  known = λ k on. elim (r.known k on) [
    | inl before ↦ elim (s.known k before) [
      | inl was ↦ inl was
      | inr f ↦ inr (still_fresh fresh new_fresh r.stays k f)
    ]
    | inr f ↦ inr f
  ];
  done = λ j d own k dependent below l stands needs on need. elim (cases_lt j next) [
    | inl less ↦ (
        let was : j < length fresh = omega (arith, less, h) in
        let same = (r.stays j d was).1 in
        r.grown k (s.done j d own k dependent less was (sym (ap (λ p. slice_get rows p) same) ∙ stands) needs on need))
    | inr not_less ↦ (
        let same : j ≡ next = omega arith in
        let place : get_or new_fresh j d ≡ get_or fresh next d = ap (λ i. get_or new_fresh i d) same ∙ (r.stays next d h).1 in
        let alike : own ≡ row = same_Some own row (sym stands ∙ ap (λ p. slice_get rows p) place ∙ at d) in
        let found = complete k dependent needs (ap (λ x. may_need dependent x) (sym alike) ∙ need) in
        let here : get_or places found.0 k ≡ k = found.2 in
        ap (λ q. marked new q) (sym here) ∙ r.done found.0 k (omega (arith, found.1, long)) found.1 (ap there here ∙ on))
  ];
}

-- the row of a fresh place, as it was read
pub fresh_row : (rows : List (Rc Binary Global)) (fresh : List ℕ) (next place : ℕ) (row : Rc Binary Global) (binary : Binary) → next < length fresh → place ≡ get_or fresh next place → All (λ k. k < length rows) fresh → row ≡ get_or rows place row → binary ≡ row.value → (d : ℕ) → slice_get (shared rows) (get_or fresh next d) ≡ Some binary
fresh_row rows fresh next place row binary h read all at is d =
    let same : get_or fresh next d ≡ place = get_or_default fresh next d place h ∙ sym read in
    let within : place < length rows = omega (arith, all next place h, read) in
    ap (λ p. slice_get (shared rows) p) same ∙ shared_at rows place row binary within at is

-- a whole change

module _ (rows : List Binary) (t m : List Bool) (leaving coming : List ℕ) (right : IsRight rows t m) (leaving_in : (k : ℕ) → Contains leaving k → k < length rows) (coming_in : (k : ℕ) → Contains coming k → k < length rows) where
  abbrev t_left : List Bool
  t_left = with_all false leaving t

  abbrev m_left : List Bool
  m_left = with_all false leaving m

  abbrev t_come : List Bool
  t_come = with_all true coming t_left

  abbrev m_come : List Bool
  m_come = with_all true coming m_left

  long_left : length m_left ≡ length rows
  long_left = length-with_all false leaving m ∙ right.installable_len

  there_long_left : length t_left ≡ length rows
  there_long_left = length-with_all false leaving t ∙ right.there_len

  pub there_len_come : length t_come ≡ length rows
  there_len_come = length-with_all true coming t_left ∙ there_long_left

  pub marks_len_come : length m_come ≡ length rows
  marks_len_come = length-with_all true coming m_left ∙ long_left

  -- a mark that stays, or whose row leaves
  marked_before : (k : ℕ) → marked m_left k ≡ true → marked m k ≡ true
  marked_before k on = elim (with_elsewhere false true leaving m k on) [
    | inl was ↦ was
    | inr leaves ↦ absurd (false≢true (sym (with_here false leaving m k (omega (arith, leaving_in k leaves, right.installable_len)) leaves) ∙ on))
  ]

  left_inside : (k : ℕ) → marked m_left k ≡ true → marked t_left k ≡ true
  left_inside k on = ⊎_elim (λ yes. yes) (λ no. elim (with_elsewhere false false leaving t k no) [
    | inl was ↦ absurd (false≢true (sym was ∙ right.greatest.inside k (marked_before k on)))
    | inr leaves ↦ absurd (false≢true (sym (with_here false leaving m k (omega (arith, leaving_in k leaves, right.installable_len)) leaves) ∙ on))
  ]) (cases_Bool (marked t_left k))

  come_inside : (k : ℕ) → marked m_come k ≡ true → marked t_come k ≡ true
  come_inside k on = elim (with_elsewhere true true coming m_left k on) [
    | inl before ↦ with_stays true coming t_left k (left_inside k before)
    | inr comes ↦ with_here true coming t_left k (omega (arith, coming_in k comes, there_long_left)) comes
  ]

  -- those that came are marked, and their dependents are still to be gone over
  pub reviving_none : IsReviving rows (marked t_come) (marked m) m_come m_come coming 0
  reviving_none = record {
    inside = come_inside;
    grown = λ k on. on;
    known = λ k on. elim (with_elsewhere true true coming m_left k on) [
      | inl before ↦ inl (marked_before k before)
      | inr comes ↦ inr comes
    ];
    done = λ j d row k other below. absurd (omega (arith, below));
  }

  module _ (start : List Bool) (fresh : List ℕ) (s : IsReviving rows (marked t_come) (marked m) m_come start fresh (length fresh)) where
    -- a row that was marked is marked at the start, or leaves
    stays_or_leaves : (k : ℕ) → marked m k ≡ true → (marked start k ≡ true) ⊎ Contains leaving k
    stays_or_leaves k was = elim (cases_Bool (marked m_left k)) [
      | inl stays ↦ inl (s.grown k (with_stays true coming m_left k stays))
      | inr gone ↦ elim (with_elsewhere false false leaving m k gone) [
        | inl before ↦ absurd (false≢true (sym before ∙ was))
        | inr leaves ↦ inr leaves
      ]
    ]

    start_comes : (k : ℕ) → Contains coming k → marked start k ≡ true
    start_comes k comes = s.grown k (with_here true coming m_left k (omega (arith, coming_in k comes, long_left)) comes)

    start_kept : (k : ℕ) → marked m k ≡ true → marked t_come k ≡ true → marked start k ≡ true
    start_kept k was on = elim (stays_or_leaves k was) [
      | inl stays ↦ stays
      | inr leaves ↦ elim (with_elsewhere true true coming t_left k on) [
        | inl before ↦ absurd (false≢true (sym (with_here false leaving t k (omega (arith, leaving_in k leaves, right.there_len)) leaves) ∙ before))
        | inr comes ↦ start_comes k comes
      ]
    ]

    start_came : (k : ℕ) → marked t_come k ≡ true → marked t k ≡ false → marked start k ≡ true
    start_came k on off = elim (with_elsewhere true true coming t_left k on) [
      | inl before ↦ elim (with_elsewhere false true leaving t k before) [
        | inl was ↦ absurd (false≢true (sym off ∙ was))
        | inr leaves ↦ absurd (false≢true (sym (with_here false leaving t k (omega (arith, leaving_in k leaves, right.there_len)) leaves) ∙ before))
      ]
      | inr comes ↦ start_comes k comes
    ]

    start_revived : (k : ℕ) (row : Binary) (o : ℕ) (dependent : Binary) → slice_get rows k ≡ Some row → marked start k ≡ true → marked m k ≡ false → slice_get rows o ≡ Some dependent → marked t_come o ≡ true → may_need dependent row ≡ true → marked start o ≡ true
    start_revived k row o dependent at on off needs there need = elim (s.known k on) [
      | inl was ↦ absurd (false≢true (sym off ∙ was))
      | inr f ↦ s.done f.0 k row o dependent f.1 f.1 (ap (λ p. slice_get rows p) f.2 ∙ at) needs there need
    ]

    -- the search begins: the leaving rows wait for their turn, and the fresh ones are to be looked at
    pub settling_begun : IsSettling rows (marked t_come) start start leaving [] fresh None
    settling_begun = record {
      inside = s.inside;
      keeps = λ other closed within. restart rows (marked t) (marked m) (marked t_come) (marked start) other right.greatest start_kept start_came start_revived closed within;
      held = λ k row i d at on l. elim (s.known k on) [
        | inl was ↦ (
            let met = right.greatest.closed k row at was i d l in
            inr (record {
              place = met.0;
              row = met.1;
              stands = met.2;
              here = stays_or_leaves met.0 met.3;
              does = met.4;
            }))
        | inr f ↦ inl (f, refl)
      ];
      fewer = λ k on. on;
      fell = λ k c. absurd (contains_none k c);
      all = λ k on off. absurd (false≢true (sym off ∙ on));
    }

    module _ (marks : List Bool) (waiting fallen : List ℕ) (sized : IsSized rows marks waiting) (e : IsSettling rows (marked t_come) start marks waiting fallen [] None) (none : waiting ≡ []) where
      pub right_again : IsRight rows t_come marks
      right_again = record {
        there_len = there_len_come;
        installable_len = sized.long;
        greatest = settling_done rows (marked t_come) start marks waiting fallen None e none;
      }

      pub lost_all : (k : ℕ) → marked t_come k ≡ true → marked marks k ≡ false → (marked m k ≡ true) ⊎ (marked t k ≡ false) → Contains fallen k
      lost_all k on off why = e.all k (⊎_elim (λ was. start_kept k was on) (λ new. start_came k on new) why) off

      pub lost_broken : (k : ℕ) → Contains fallen k → (marked t_come k ≡ true) × (marked marks k ≡ false)
      lost_broken k c = let f = e.fell k c in (s.inside k f.0, f.1)

-- a bound under another name
pub bounded_by : (m n : ℕ) (xs : List ℕ) → All (λ k. k < m) xs → m ≡ n → All (λ k. k < n) xs
bounded_by m n xs all e k d h = omega (arith, all k d h, e)

-- the places of a change, one by one
pub places_in : (rows : List (Rc Binary Global)) (xs : List ℕ) → All (λ k. k < length rows) xs → (k : ℕ) → Contains xs k → k < length (shared rows)
places_in rows xs all k c = omega (arith, members_from_all (length rows) xs all k c, length-shared rows)

-- the steps of a change, one after the other
pub reviving_begun : (rows : List Binary) (t m : List Bool) (leaving coming : List ℕ) → IsRight rows t m → ((k : ℕ) → Contains leaving k → k < length rows) → ((k : ℕ) → Contains coming k → k < length rows) → (there m_now : List Bool) (fresh : List ℕ) → there ≡ with_all true coming (with_all false leaving t) → m_now ≡ with_all true coming (with_all false leaving m) → fresh ≡ coming → IsReviving rows (marked there) (marked m) m_now m_now fresh 0
reviving_begun rows t m leaving coming right leaving_in coming_in there m_now fresh et em ef =
    let none = reviving_none rows t m leaving coming right leaving_in coming_in in
    let t_now : List Bool = with_all true coming (with_all false leaving t) in
    let a = subst (λ (x : List Bool). IsReviving rows (marked t_now) (marked m) x x coming 0) (sym em) none in
    let b = subst (λ (x : List Bool). IsReviving rows (marked x) (marked m) m_now m_now coming 0) (sym et) a in
    subst (λ (x : List ℕ). IsReviving rows (marked there) (marked m) m_now m_now x 0) (sym ef) b

pub changed : (rows : List Binary) (t m : List Bool) (leaving coming : List ℕ) → IsRight rows t m → ((k : ℕ) → Contains leaving k → k < length rows) → ((k : ℕ) → Contains coming k → k < length rows) → (there m_now start : List Bool) (fresh : List ℕ) → there ≡ with_all true coming (with_all false leaving t) → m_now ≡ with_all true coming (with_all false leaving m) → IsReviving rows (marked there) (marked m) m_now start fresh (length fresh) → (waiting fallen places : List ℕ) → waiting ≡ leaving → fallen ≡ [] → places ≡ fresh → (mid : List Bool) (mid_waiting mid_fallen : List ℕ) → ((set : ℕ → Bool) (first : List Bool) → IsSettling rows set first start waiting fallen places None → IsSettling rows set first mid mid_waiting mid_fallen [] None) → (new : List Bool) (new_waiting new_fallen : List ℕ) → ((set : ℕ → Bool) (first : List Bool) → IsSettling rows set first mid mid_waiting mid_fallen [] None → IsSettling rows set first new new_waiting new_fallen [] None) → IsSized rows new new_waiting → new_waiting ≡ [] → IsChanged rows t m there new new_fallen
changed rows t m leaving coming right leaving_in coming_in there m_now start fresh et em s waiting fallen places ew ef ep mid mid_waiting mid_fallen looked new new_waiting new_fallen turned sized none =
    let t_now : List Bool = with_all true coming (with_all false leaving t) in
    let m_then : List Bool = with_all true coming (with_all false leaving m) in
    let s1 = subst (λ (x : List Bool). IsReviving rows (marked x) (marked m) m_now start fresh (length fresh)) et s in
    let s2 = subst (λ (x : List Bool). IsReviving rows (marked t_now) (marked m) x start fresh (length fresh)) em s1 in
    let begun = settling_begun rows t m leaving coming right leaving_in coming_in start fresh s2 in
    let b1 = subst (λ (x : List ℕ). IsSettling rows (marked t_now) start start x [] fresh None) (sym ew) begun in
    let b2 = subst (λ (x : List ℕ). IsSettling rows (marked t_now) start start waiting x fresh None) (sym ef) b1 in
    let b3 = subst (λ (x : List ℕ). IsSettling rows (marked t_now) start start waiting fallen x None) (sym ep) b2 in
    let e = turned (marked t_now) start (looked (marked t_now) start b3) in
    let whole : IsChanged rows t m t_now new new_fallen = record {
      right = right_again rows t m leaving coming right leaving_in coming_in start fresh s2 new new_waiting new_fallen sized e none;
      all = lost_all rows t m leaving coming right leaving_in coming_in start fresh s2 new new_waiting new_fallen sized e none;
      broken = lost_broken rows t m leaving coming right leaving_in coming_in start fresh s2 new new_waiting new_fallen sized e none;
    } in
    subst (λ (x : List Bool). IsChanged rows t m x new new_fallen) (sym et) whole
