-- No group frees a source whose blocks show that it is stuck.
use Rattle.std.proofs.Common.{◌≡◌, ℕ, zero, suc, ◌<◌, ◌⊎◌, ◌&&◌, ◌++◌, not, Bool, true, false, List, [], ◌∷◌, length, Some, None, Option, refl, sym, ap, ◌∙◌, subst, inl, inr, ⊎_elim, arith}
use Rattle.std.specs.Prelude.{Contains, map, filter, find, is_some, cond, get_or, option_map, ◌==◌}
use Rattle.std.specs.List.{slice_get, list_any, before_first, after_first, position_or_len}
use Rattle.std.specs.Option.{option_map_or, is_none}
use Rattle.std.specs.Str.{bytes_eq}
use Rattle.std.specs.Ordering.{is_eq}
use Rattle.std.specs.declared.cmp.Ordering.{Ordering}
use Rattle.std.specs.declared.cmp.Ordering.TheVariants.{Less, Equal, Greater}
use Rattle.std.proofs.lemmas.Bool.{false≢true, cases_Bool, cases_lt}
use Rattle.std.proofs.lemmas.List.Elements.{Contains-append_left, Contains-append_right, Contains-append_cases}
use Rattle.std.proofs.lemmas.List.Folds.{find_at}
use Rattle.std.proofs.lemmas.List.Sums.{split_at_first}
use Rattle.std.proofs.lemmas.Option.{same_Some, slice_get_past, slice_get_within, slice_get-get_or, slice_get-map}
use Rattle.std.proofs.lemmas.Slice.Eq.{bytes_eq-Decides}
use Rattle.deb_control.specs.declared.binary.Binary.{Binary}
use Rattle.deb_version.specs.steps.Laws.{version_order}
use Rattle.deb_version.specs.Order.{version_cmp}
use Rattle.testing_install.proofs.Choosing.{are_exact}
use Rattle.testing_rules_items.specs.declared.item.Hint.{Hint}
use Rattle.testing_rules_items.specs.declared.item.Hint.TheVariants.{Block as BlockHint, BlockAll, Unblock, Easy, AgeDays, Remove}
use Rattle.testing_rules_items.specs.declared.item.HintItem.{HintItem}
use Rattle.testing_rules_items.specs.Words.{Text, is_empty, is_same_version}
use Rattle.testing_rules_items.proofs.Members.{none_among, head_of, tail_of}
use Rattle.testing_rules_model.specs.declared.excuse.Excuse.{Excuse}
use Rattle.testing_rules_model.specs.declared.facts.HintIn.{HintIn}
use Rattle.testing_rules_model.specs.declared.facts.UploadIn.{UploadIn}
use Rattle.testing_rules_model.specs.declared.suite.RowIn.{RowIn}
use Rattle.testing_rules_model.specs.declared.update.Decision.TheVariants.{EasyDone, EasyRefused, EasyNotCandidate}
use Rattle.testing_rules_model.specs.declared.update.Offender.{Offender}
use Rattle.testing_rules_model.specs.Excuses.{testing_version}
use Rattle.testing_rules_model.specs.InOrder.{AreByKey}
use Rattle.testing_rules_model.specs.steps.LentItems.{as_moved}
use Rattle.testing_rules_model.specs.Moves.{is_row_of, rows_on, row_key, is_same_key, is_watched_on, judged_on, was_installable, group_sources, move_group, offender_of}
use Rattle.testing_rules_model.specs.steps.Moves.{is_row_on}
use Rattle.testing_rules_model.specs.Suite.{Suite}
use Rattle.testing_rules_model.specs.Updates.{Outcome, decide, nothing, in_turn, is_in_testing, is_candidate, is_remaining, remaining, move_as_one, move_items, move_easy, moved_alone, offender_alone, single_moves, move_singles}
use Rattle.testing_rules_model.specs.steps.Updates.{is_allowed_alone, accepted}
use Rattle.testing_rules_model.proofs.Least.{from_filter, to_filter}
use Rattle.testing_rules_model.proofs.MoreMail.{text_same}
use Rattle.testing_rules_model.proofs.Ordered.{by_key-put_all, by_key-kept}
use Rattle.testing_rules_model.proofs.Sets.{first_or_rest, mapped_from, maps}
use Rattle.testing_rules_model.proofs.Watching.{found_passes}
use Rattle.testing_rules_live.specs.steps.Lacks.{arriving}
use Rattle.testing_rules_suites.proofs.Lost.{contains_at, at_place}
use Rattle.testing_rules_suites.proofs.Moving.{puts_from}
use Rattle.testing_rules_suites.proofs.Shown.{IsOther, key_ties}
use Rattle.testing_rules_refusals.specs.Needs.{packages}
use Rattle.testing_rules_refusals.specs.Stuck.{living, is_living, coming_rows, gives_way, may_stand, Stays, Block, IsStuckBy, AreStuck, names_of}
use Rattle.testing_rules_refusals.proofs.Bounding.{bounded}
use Rattle.testing_rules_refusals.proofs.Coming.{any_of, some_of, is_named, has_named, both_so, not_so, isnt_so, puts_leave, comes_group, arriving_comes, coming_more, own_arrives, arrived, version_stays}
use Rattle.testing_rules_refusals.proofs.Failings.{first_of_both, second_of_both}
use Rattle.testing_rules_refusals.proofs.Leaving.{either_none, keys_tie}
use Rattle.testing_rules_refusals.proofs.Working.{same_itself, place, at, works, still_works}

eq_of : (o : Ordering) → is_eq o ≡ true → o ≡ Equal
eq_of Less h = absurd (false≢true h)
eq_of Equal h = refl
eq_of Greater h = absurd (false≢true h)

-- versions that are the same are the same as the same ones
same_either : (v w : Text) (o : Option Text) → is_same_version v w ≡ true → option_map_or (is_same_version v) o false ≡ option_map_or (is_same_version w) o false
same_either v w None h = refl
same_either v w (Some x) h = ap is_eq (version_order.congr v w x (eq_of (version_cmp v w) h))

not_not : (b : Bool) → not b ≡ false → b ≡ true
not_not true h = refl
not_not false h = absurd (false≢true (sym h))

no_offender : (m : Option Offender) → is_none m ≡ true → m ≡ None
no_offender None e = refl
no_offender (Some o) e = absurd (false≢true e)

-- where none is found, none passes
none_at : {A : Type 0} (test : A → Bool) (y : A) (xs : List A) (x : A) (b : Bool) → test y ≡ b → cond b (Some y) (find test xs) ≡ None → (y ≡ x) ⊎ Contains xs x
    → (find test xs ≡ None → Contains xs x → test x ≡ false) → test x ≡ false
none_at test y xs x true e h c more = let no : Some y ≡ None = h in cc
none_at test y xs x false e h (inl same) more = ap test (sym same) ∙ e
none_at test y xs x false e h (inr rest) more = more h rest

none_found : {A : Type 0} (test : A → Bool) (xs : List A) → find test xs ≡ None → (x : A) → Contains xs x → test x ≡ false
none_found test [] e x c = none_among x c
none_found test (y ∷ xs) e x c = none_at test y xs x (test y) refl e (first_or_rest y xs x c) (λ h d. none_found test xs h x d)

-- a list is what stands before the one that is found, that one, and what stands behind it
cut : {A : Type 0} (test : A → Bool) (xs : List A) (x : A) → find test xs ≡ Some x → xs ≡ before_first test xs ++ (x ∷ after_first test xs)
cut test xs x found =
    let inside : position_or_len test xs < length xs =
    ⊎_elim (λ l. l) (λ l. absurd (false≢true (sym (ap is_some (sym found ∙ find_at test xs ∙ slice_get_past xs (position_or_len test xs) (omega (arith, l)))))))
    (cases_lt (position_or_len test xs) (length xs)) in
    split_at_first test xs x inside
    ∙ ap (λ y. before_first test xs ++ (y ∷ after_first test xs))
    (same_Some (get_or xs (position_or_len test xs) x) x (sym (slice_get-get_or xs (position_or_len test xs) x inside) ∙ sym (find_at test xs) ∙ found))

-- the row of a package at a place
mapped_at : (rows : List RowIn) (k : ℕ) (b : Binary) → slice_get (packages rows) k ≡ Some b → (q : RowIn) × (slice_get rows k ≡ Some q) × (q.binary ≡ b)
mapped_at [] k b at = let no : None ≡ Some b = at in cc
mapped_at (r ∷ rows) zero b at = (r, refl, same_Some r.binary b at)
mapped_at (r ∷ rows) (suc k) b at = mapped_at rows k b at

module _ (archs : List Text) (sources : List UploadIn) (unstable : List RowIn) (excuses : List Excuse) (t : Suite) (by_key : AreByKey unstable) where
  abbrev Within : List Text → List Text → Type 0
  Within names more = (n : Text) → Contains names n → Contains more n

  -- the candidates that haven't moved, the dead among them
  abbrev candidates : List Text
  candidates = living excuses t []

  -- Who lives.

  lives_less : (few dead : List Text) → Within few dead → Within (living excuses t dead) (living excuses t few)
  lives_less few dead within n c =
      let m = mapped_from (λ (e : Excuse). e.source) (filter (is_living t dead) excuses) n c in
      let f = from_filter (is_living t dead) excuses m.0 m.1 in
      let out : list_any (bytes_eq m.0.source) few ≡ false =
      isnt_so (list_any (bytes_eq m.0.source) few) (λ h.
      false≢true (sym (not_so (list_any (bytes_eq m.0.source) dead) (second_of_both (is_remaining t m.0) (not (list_any (bytes_eq m.0.source) dead)) f.1))
      ∙ is_named dead m.0.source (within m.0.source (has_named few m.0.source h)))) in
      subst (Contains (living excuses t few)) m.2
      (maps (λ (e : Excuse). e.source) (filter (is_living t few) excuses) m.0
      (to_filter (is_living t few) excuses m.0 f.0
      (both_so (is_remaining t m.0) (not (list_any (bytes_eq m.0.source) few)) (first_of_both (is_remaining t m.0) (not (list_any (bytes_eq m.0.source) dead)) f.1) (ap not out))))

  living_out : (dead : List Text) (n : Text) → Contains dead n → Contains (living excuses t dead) n → ⊥
  living_out dead n d c =
      let m = mapped_from (λ (e : Excuse). e.source) (filter (is_living t dead) excuses) n c in
      let f = from_filter (is_living t dead) excuses m.0 m.1 in
      false≢true (sym (not_so (list_any (bytes_eq m.0.source) dead) (second_of_both (is_remaining t m.0) (not (list_any (bytes_eq m.0.source) dead)) f.1))
      ∙ is_named dead m.0.source (subst (Contains dead) (sym m.2) d))

  candidate_lives : (dead : List Text) (n : Text) → Contains candidates n → (Contains dead n → ⊥) → Contains (living excuses t dead) n
  candidate_lives dead n c out =
      let m = mapped_from (λ (e : Excuse). e.source) (filter (is_living t []) excuses) n c in
      let f = from_filter (is_living t []) excuses m.0 m.1 in
      let off = isnt_so (list_any (bytes_eq m.0.source) dead) (λ h. out (subst (Contains dead) m.2 (has_named dead m.0.source h))) in
      subst (Contains (living excuses t dead)) m.2
      (maps (λ (e : Excuse). e.source) (filter (is_living t dead) excuses) m.0
      (to_filter (is_living t dead) excuses m.0 f.0 (both_so (is_remaining t m.0) (not (list_any (bytes_eq m.0.source) dead)) (first_of_both (is_remaining t m.0) true f.1) (ap not off))))

  remains_lives : (e : Excuse) → Contains excuses e → is_remaining t e ≡ true → Contains candidates e.source
  remains_lives e c h =
      maps (λ (x : Excuse). x.source) (filter (is_living t []) excuses) e (to_filter (is_living t []) excuses e c (both_so (is_remaining t e) true h refl))

  -- What stays.

  stays_less : (live more : List Text) → Within live more → (arch : ℕ) (r : RowIn) → Stays sources unstable more t arch r → Stays sources unstable live t arch r
  stays_less live more within arch r s = record {
    there = s.there;
    worked = s.worked;
    own = isnt_so (is_row_of live r) (λ h. false≢true (sym s.own ∙ is_named more r.binary.source (within r.binary.source (has_named live r.binary.source h))));
    key = isnt_so (list_any (is_same_key r) (coming_rows sources unstable live)) (λ h.
        let q = some_of (is_same_key r) (coming_rows sources unstable live) h in
        false≢true (sym s.key ∙ any_of (is_same_key r) (coming_rows sources unstable more) q.0 (coming_more sources unstable live more within q.0 q.1) q.2));
  }

  keys_alike : (x r : RowIn) → row_key x ≡ row_key r → is_same_key r x ≡ true
  keys_alike x r e =
      let archs_are : (r.arch == x.arch) ≡ true = ap (λ (k : ℕ × Text). r.arch == k.0) e ∙ same_itself r.arch in
      let names_are : bytes_eq r.binary.name x.binary.name ≡ true = ap (λ (k : ℕ × Text). bytes_eq r.binary.name k.1) e ∙ text_same r.binary.name in
      both_so (r.arch == x.arch) (bytes_eq r.binary.name x.binary.name) archs_are names_are

  -- a staying row stands once a group of the living has moved
  staying_stands : (live group : List Text) → Within group live → (t1 : Suite) (arch : ℕ) (r : RowIn) → Stays sources unstable live t arch r → Contains t1.rows r
      → Contains (move_group sources unstable group t1).rows r
  staying_stands live group within t1 arch r s c =
      let base = to_filter (λ (q : RowIn). not (is_row_of group q)) t1.rows r c
      (ap not (isnt_so (is_row_of group r) (λ h. false≢true (sym s.own ∙ is_named live r.binary.source (within r.binary.source (has_named group r.binary.source h)))))) in
      puts_leave (arriving sources unstable group) (filter (λ (q : RowIn). not (is_row_of group q)) t1.rows) r
      (λ x d e. false≢true (sym s.key ∙ any_of (is_same_key r) (coming_rows sources unstable live) x (arriving_comes sources unstable group live within x d) (keys_alike x r e))) base

  -- a row that stands once a group has moved came with it, or stood before, isn't the group's, and no row that came has its key
  moved_from : (group : List Text) (t1 : Suite) (r : RowIn) → AreByKey t1.rows → Contains (move_group sources unstable group t1).rows r
      → Contains (arriving sources unstable group) r
      ⊎ (Contains t1.rows r × (is_row_of group r ≡ false) × ((x : RowIn) → Contains (arriving sources unstable group) x → IsOther x r))
  moved_from group t1 r ordered c =
      let others : RowIn → Bool = λ q. not (is_row_of group q) in
      elim (puts_from (arriving sources unstable group) (filter others t1.rows) r (by_key-kept others t1.rows ordered) c) [
        | inl came ↦ inl came
        | inr stood ↦ let f = from_filter others t1.rows r stood.0 in inr (f.0, not_so (is_row_of group r) f.1, stood.1)
      ]

  module _ (stuck : List Block) (are : AreStuck archs sources unstable excuses t stuck) where
    -- those that live while none of the blocks' sources moves
    abbrev free : List Text
    free = living excuses t (names_of stuck)

    -- What holds of testing as long as none of them has moved: its rows are among those before and those of the free, versions stay but for the
    -- free, and staying rows stand and work.
    pub record Holds (t1 : Suite) : Type 0 where
      pub ordered : AreByKey t1.rows
      pub rows : (r : RowIn) → Contains t1.rows r → Contains t.rows r ⊎ Contains (coming_rows sources unstable free) r
      pub versions : (n : Text) → (testing_version t1 n ≡ testing_version t n) ⊎ Contains free n
      pub stays : (arch : ℕ) (r : RowIn) → arch < length archs → is_watched_on arch r ≡ true → Stays sources unstable free t arch r
          → Contains t1.rows r × (was_installable (judged_on arch t1.rows) r ≡ true)

    holds_first : AreByKey t.rows → Holds t
    holds_first ordered = record { ordered = ordered; rows = λ r c. inl c; versions = λ n. inl refl; stays = λ arch r listed watched s. (s.there, s.worked) }

    -- A group of which a source of a block is one breaks that block's row, if none of the dead is in it.
    module _ (dead : List Text) (fewer : Within dead (names_of stuck)) (b : Block) (is : IsStuckBy archs sources unstable excuses t dead b)
        (t1 : Suite) (h : Holds t1) (group : List Text) (within : Within group (living excuses t dead)) (own_moves : Contains group b.name)
        (allowed : offender_of archs t1.rows (move_group sources unstable group t1).rows group ≡ None) where
      abbrev live : List Text
      live = living excuses t dead

      abbrev arch : ℕ
      arch = b.offender.arch

      abbrev new : List RowIn
      new = (move_group sources unstable group t1).rows

      free_live : Within free live
      free_live = lives_less dead (names_of stuck) fewer

      -- each row that stands then is one that may stand
      may : (q : RowIn) → Contains new q → Contains (may_stand sources unstable live b.name t) q
      may q c =
          let own = coming_rows sources unstable (b.name ∷ []) in
          let left : RowIn → Bool = λ r. not (gives_way own b.name r) in
          let others = filter left t.rows in
          let coming = coming_rows sources unstable live in
          elim (moved_from group t1 q h.ordered c) [
            | inl came ↦ Contains-append_right others coming q (arriving_comes sources unstable group live within q came)
            | inr stood ↦ elim (h.rows q stood.0) [
              | inl before ↦ (
                  let another : bytes_eq q.binary.source b.name ≡ false = isnt_so (bytes_eq q.binary.source b.name) (λ e.
                  false≢true (sym stood.1 ∙ is_named group q.binary.source (subst (Contains group) (sym ((bytes_eq-Decides q.binary.source b.name).0 e)) own_moves))) in
                  let unreplaced : list_any (is_same_key q) own ≡ false = isnt_so (list_any (is_same_key q) own) (λ e.
                  let x = some_of (is_same_key q) own e in
                  stood.2 x.0 (own_arrives sources unstable group b.name x.0 own_moves x.1) (key_ties x.0 q (keys_tie q x.0 x.2))) in
                  Contains-append_left others coming q
                  (to_filter left t.rows q before (either_none (bytes_eq q.binary.source b.name) (list_any (is_same_key q) own) another unreplaced)))
              | inr came ↦ Contains-append_right others coming q (coming_more sources unstable free live free_live q came)
            ]
          ]

      -- the block's row stands then, and came in or worked before
      due : Contains new is.row × ((is_row_of group is.row ≡ true) ⊎ (was_installable (judged_on arch t1.rows) is.row ≡ true))
      due = elim is.due [
        | inl comes ↦ (
            let c = own_arrives sources unstable group b.name is.row own_moves comes in (
              arrived sources unstable by_key group (filter (λ (q : RowIn). not (is_row_of group q)) t1.rows) is.row c,
              inl (is_named group is.row.binary.source (comes_group sources unstable group is.row c).1),
            ))
        | inr s ↦ (
            let stood = h.stays arch is.row is.listed is.watched (stays_less free live free_live arch is.row s) in
            (staying_stands live group within t1 arch is.row s stood.0, inr stood.1))
      ]

      pub breaks : ⊥
      breaks =
          let rows = rows_on arch (may_stand sources unstable live b.name t) in
          let there = rows_on arch new in
          let k = place archs t1.rows new group allowed arch is.listed is.row due.0 is.watched due.1 in
          let here = at archs t1.rows new group allowed arch is.listed is.row due.0 is.watched due.1 in
          let on = works archs t1.rows new group allowed arch is.listed is.row due.0 is.watched due.1 in
          let binary : RowIn → Binary = λ r. r.binary in
          let in_packages : slice_get (packages there) k ≡ Some is.row.binary = slice_get-map binary there k ∙ ap (option_map binary) here in
          bounded (packages rows) (packages there) b.steps
          (λ j row e.
          let q = mapped_at there j row e in
          let f = from_filter (is_row_on arch) new q.0 (contains_at there j q.0 q.1) in
          let c = to_filter (is_row_on arch) (may_stand sources unstable live b.name t) q.0 (may q.0 f.0) f.1 in
          (c.0, slice_get-map binary rows c.0 ∙ ap (option_map binary) (at_place rows q.0 c) ∙ ap Some q.2))
          is.place is.shown k is.row.binary in_packages
          (slice_get-map binary rows is.place ∙ ap (option_map binary) is.stands)
          ((are_exact (packages there) k (slice_get_within (packages there) k is.row.binary in_packages)).0 on)

    -- So a group of candidates that moves has none of them: else the last one of the blocks whose source it names is broken.
    module _ (t1 : Suite) (h : Holds t1) (group : List Text) (within : Within group candidates)
        (allowed : offender_of archs t1.rows (move_group sources unstable group t1).rows group ≡ None) where
      none_moves : (behind : List Block) → Within (names_of behind) (names_of stuck) → AreStuck archs sources unstable excuses t behind
          → (n : Text) → Contains group n → Contains (names_of behind) n → ⊥
      none_moves [] fewer stays n c d = none_among n d
      none_moves (b ∷ behind) fewer stays n c d =
          let later : (m : Text) → Contains group m → Contains (names_of behind) m → ⊥ =
          none_moves behind (λ m e. fewer m (tail_of b.name (names_of behind) m e)) stays.1 in
          elim (first_or_rest b.name (names_of behind) n d) [
            | inl same ↦ breaks (names_of behind) (λ m e. fewer m (tail_of b.name (names_of behind) m e)) b stays.0 t1 h group
                (λ m e. candidate_lives (names_of behind) m (within m e) (later m e)) (subst (Contains group) (sym same) c) allowed
            | inr rest ↦ later n c rest
          ]

      group_free : Within group free
      group_free n c = candidate_lives (names_of stuck) n (within n c) (none_moves stuck (λ m e. e) are n c)

      -- and it holds after the move
      pub holds_next : Holds (move_group sources unstable group t1)
      holds_next = record {
        ordered = by_key-put_all (arriving sources unstable group) (filter (λ (q : RowIn). not (is_row_of group q)) t1.rows) (by_key-kept (λ (q : RowIn). not (is_row_of group q)) t1.rows h.ordered);
        rows = λ r c. elim (moved_from group t1 r h.ordered c) [
          | inl came ↦ inr (arriving_comes sources unstable group free group_free r came)
          | inr stood ↦ h.rows r stood.0
        ];
        versions = λ n. elim (cases_Bool (list_any (bytes_eq n) group)) [
          | inl named ↦ inr (group_free n (has_named group n named))
          | inr out ↦ elim (h.versions n) [
            | inl same ↦ inl (version_stays sources unstable group t1 n (λ c. false≢true (sym out ∙ is_named group n c)) ∙ same)
            | inr lives ↦ inr lives
          ]
        ];
        stays = λ arch r listed watched s.
            let before = h.stays arch r listed watched s in
            let stands = staying_stands free group group_free t1 arch r s before.0 in
            (stands, still_works archs t1.rows (move_group sources unstable group t1).rows group allowed arch listed r stands watched (inr before.1));
      }

    -- Groups.

    -- a candidate at a version that testing doesn't have hasn't moved
    asked : (t1 : Suite) → Holds t1 → (n v : Text) → is_in_testing t1 n v ≡ false → is_candidate excuses n v ≡ true → Contains candidates n
    asked t1 h n v out c = elim (h.versions n) [
      | inr lives ↦ lives_less [] (names_of stuck) (λ m e. none_among m e) n lives
      | inl same ↦ (
          let e = some_of (λ (e : Excuse). bytes_eq e.source n && is_empty e.reasons && is_same_version e.unstable v) excuses c in
          let front = first_of_both (bytes_eq e.0.source n && is_empty e.0.reasons) (is_same_version e.0.unstable v) e.2 in
          let alike = second_of_both (bytes_eq e.0.source n && is_empty e.0.reasons) (is_same_version e.0.unstable v) e.2 in
          let named : e.0.source ≡ n = (bytes_eq-Decides e.0.source n).0 (first_of_both (bytes_eq e.0.source n) (is_empty e.0.reasons) front) in
          let before : is_in_testing t e.0.source e.0.unstable ≡ false =
          ap (λ m. is_in_testing t m e.0.unstable) named ∙ same_either e.0.unstable v (testing_version t n) alike
          ∙ ap (λ (o : Option Text). option_map_or (is_same_version v) o false) (sym same) ∙ out in
          subst (Contains candidates) named
          (remains_lives e.0 e.1 (both_so (is_empty e.0.reasons) (not (is_in_testing t e.0.source e.0.unstable)) (second_of_both (bytes_eq e.0.source n) (is_empty e.0.reasons) front) (ap not before))))
    ]

    group_at : (number : ℕ) (group : List Text) (t1 : Suite) (m : Option Offender) → offender_of archs t1.rows (move_group sources unstable group t1).rows group ≡ m
        → Within group candidates → Holds t1
        → (let p : Outcome = elim m [ None ↦ decide (EasyDone number (map as_moved (group_sources sources group))) (move_group sources unstable group t1) | Some o ↦ decide (EasyRefused number o) t1 ] in Holds p.suite)
    group_at number group t1 None e within h = holds_next t1 h group within e
    group_at number group t1 (Some o) e within h = h

    items_at : (number : ℕ) (items : List HintItem) (t1 : Suite) (m : Option HintItem) → find (λ (j : HintItem). not (is_candidate excuses j.name j.version)) items ≡ m
        → ((j : HintItem) → Contains items j → is_in_testing t1 j.name j.version ≡ false) → Holds t1
        → (let p : Outcome = elim m [ None ↦ move_as_one archs sources unstable number (map (λ j. j.name) items) t1 | Some j ↦ decide (EasyNotCandidate number j.name j.version) t1 ] in Holds p.suite)
    items_at number items t1 None e out h =
        let group : List Text = map (λ (j : HintItem). j.name) items in
        group_at number group t1 (offender_of archs t1.rows (move_group sources unstable group t1).rows group) refl
        (λ n c.
        let j = mapped_from (λ (j : HintItem). j.name) items n c in
        let is : is_candidate excuses j.0.name j.0.version ≡ true = not_not (is_candidate excuses j.0.name j.0.version) (none_found (λ (j : HintItem). not (is_candidate excuses j.name j.version)) items e j.0 j.1) in
        subst (Contains candidates) j.2 (asked t1 h j.0.name j.0.version (out j.0 j.1) is)) h
    items_at number items t1 (Some j) e out h = h

    items_hold : (number : ℕ) (items : List HintItem) (t1 : Suite) → ((j : HintItem) → Contains items j → is_in_testing t1 j.name j.version ≡ false) → Holds t1
        → Holds (move_items archs sources unstable excuses number items t1).suite
    items_hold number [] t1 out h = h
    items_hold number (i ∷ is) t1 out h = items_at number (i ∷ is) t1 (find (λ (j : HintItem). not (is_candidate excuses j.name j.version)) (i ∷ is)) refl out h

    easy_at : (number : ℕ) (hint : Hint) (t1 : Suite) → Holds t1
        → (let p : Outcome = elim hint [ Easy items ↦ move_items archs sources unstable excuses number (filter (λ i. not (is_in_testing t1 i.name i.version)) items) t1 | _ ↦ nothing t1 ] in Holds p.suite)
    easy_at number (Easy items) t1 h =
        items_hold number (filter (λ (i : HintItem). not (is_in_testing t1 i.name i.version)) items) t1
        (λ j c. not_so (is_in_testing t1 j.name j.version) (from_filter (λ (i : HintItem). not (is_in_testing t1 i.name i.version)) items j c).1) h
    easy_at number (BlockHint names) t1 h = h
    easy_at number BlockAll t1 h = h
    easy_at number (Unblock items) t1 h = h
    easy_at number (AgeDays n items) t1 h = h
    easy_at number (Remove items) t1 h = h

    hints_hold : (hints : List HintIn) (t1 : Suite) → Holds t1 → Holds (in_turn (move_easy archs sources unstable excuses) hints t1).suite
    hints_hold [] t1 h = h
    hints_hold (x ∷ xs) t1 h = hints_hold xs (move_easy archs sources unstable excuses x t1).suite (easy_at x.number x.hint t1 h)

    -- Single moves.

    abbrev Candidates : List Excuse → Type 0
    Candidates es = (e : Excuse) → Contains es e → Contains candidates e.source

    single_at : (n : ℕ) (es : List Excuse) (t1 : Suite) (m : Option Excuse) → find (is_allowed_alone archs sources unstable t1) es ≡ m
        → ((xs : List Excuse) (t2 : Suite) → Candidates xs → Holds t2 → Holds (single_moves archs sources unstable n xs t2).suite) → Candidates es → Holds t1
        → (let p : Outcome = elim m [
          | None ↦ nothing t1
          | Some e ↦ let rest = single_moves archs sources unstable n (after_first (is_allowed_alone archs sources unstable t1) es ++ before_first (is_allowed_alone archs sources unstable t1) es) (moved_alone sources unstable t1 e) in
              record { decisions = accepted e ∷ rest.decisions; suite = rest.suite }
        ] in Holds p.suite)
    single_at n es t1 None found more all h = h
    single_at n es t1 (Some x) found more all h =
        let allowed : Excuse → Bool = is_allowed_alone archs sources unstable t1 in
        let parts = cut allowed es x found in
        more (after_first allowed es ++ before_first allowed es) (moved_alone sources unstable t1 x)
        (λ e c. all e (subst (λ ys. Contains ys e) (sym parts) (elim (Contains-append_cases (after_first allowed es) (before_first allowed es) e c) [
          | inl after ↦ Contains-append_right (before_first allowed es) (x ∷ after_first allowed es) e (tail_of x (after_first allowed es) e after)
          | inr before ↦ Contains-append_left (before_first allowed es) (x ∷ after_first allowed es) e before
        ])))
        (holds_next t1 h (x.source ∷ []) (λ n c. elim (first_or_rest x.source [] n c) [
          | inl same ↦ subst (Contains candidates) same
              (all x (subst (λ ys. Contains ys x) (sym parts) (Contains-append_right (before_first allowed es) (x ∷ after_first allowed es) x (head_of x (after_first allowed es)))))
          | inr never ↦ none_among n never
        ]) (no_offender (offender_alone archs sources unstable t1 x) (found_passes allowed es x found)))

    singles_hold : (n : ℕ) (es : List Excuse) (t1 : Suite) → Candidates es → Holds t1 → Holds (single_moves archs sources unstable n es t1).suite
    singles_hold zero es t1 all h = h
    singles_hold (suc n) es t1 all h = single_at n es t1 (find (is_allowed_alone archs sources unstable t1) es) refl (singles_hold n) all h

    remaining_live : (t1 : Suite) → Holds t1 → Candidates (remaining excuses t1)
    remaining_live t1 h e c =
        let f = from_filter (is_remaining t1) excuses e c in
        elim (h.versions e.source) [
          | inr lives ↦ lives_less [] (names_of stuck) (λ m d. none_among m d) e.source lives
          | inl same ↦ remains_lives e f.0
              (both_so (is_empty e.reasons) (not (is_in_testing t e.source e.unstable)) (first_of_both (is_empty e.reasons) (not (is_in_testing t1 e.source e.unstable)) f.1)
              (ap (λ (o : Option Text). not (option_map_or (is_same_version e.unstable) o false)) (sym same) ∙ second_of_both (is_empty e.reasons) (not (is_in_testing t1 e.source e.unstable)) f.1))
        ]

    all_hold : AreByKey t.rows → (hints : List HintIn) → Holds (move_singles archs sources unstable excuses (in_turn (move_easy archs sources unstable excuses) hints t).suite).suite
    all_hold ordered hints =
        let grouped = (in_turn (move_easy archs sources unstable excuses) hints t).suite in
        let h = hints_hold hints t (holds_first ordered) in
        singles_hold (length (remaining excuses grouped)) (remaining excuses grouped) grouped (remaining_live grouped h) h

    one_of_each : (blocks : List Block) → AreStuck archs sources unstable excuses t blocks → (b : Block) → Contains blocks b → AreByKey t.rows
    one_of_each [] stays b c = none_among b c
    one_of_each (x ∷ blocks) stays b c = stays.0.ordered

    -- so the sources of the blocks keep their versions
    pub stuck_stays : (hints : List HintIn) (b : Block) → Contains stuck b
        → testing_version (move_singles archs sources unstable excuses (in_turn (move_easy archs sources unstable excuses) hints t).suite).suite b.name ≡ testing_version t b.name
    stuck_stays hints b c = elim ((all_hold (one_of_each stuck are b c) hints).versions b.name) [
      | inl same ↦ same
      | inr lives ↦ absurd (living_out (names_of stuck) b.name (maps (λ (x : Block). x.name) stuck b c) lives)
    ]
