-- Of a ground only what is about a source tells on its excuse.
use Rattle.std.specs.Prelude.{ℕ, ◌+◌, ◌<◌, ◌==◌, Bool, true, false, cond, not, ◌&&◌, ◌||◌, nat_lt, List, [], ◌∷◌, ◌++◌, length, take, get_or, map, filter, fold, Option, Some, None, unwrap_or, IsTrue}
use Rattle.std.proofs.Common.{◌≡◌, refl, sym, ap, ◌∙◌, append_assoc, append-nil}
use Rattle.std.specs.List.{list_any}
use Rattle.std.specs.Str.{bytes_eq}
use Rattle.std.proofs.lemmas.Bool.{false≢true}
use Rattle.std.proofs.lemmas.List.{take_more}
use Rattle.std.proofs.lemmas.List.Elements.{filter-append}
use Rattle.std.proofs.lemmas.Slice.Eq.{bytes_eq-Decides}
use Rattle.testing_rules_model.specs.declared.facts.UploadIn.{UploadIn}
use Rattle.testing_rules_model.specs.declared.facts.BugIn.{BugIn}
use Rattle.testing_rules_model.specs.declared.facts.HintIn.{HintIn}
use Rattle.testing_rules_model.specs.declared.facts.Delays.{Delays}
use Rattle.testing_rules_model.specs.declared.suite.RowIn.{RowIn}
use Rattle.testing_rules_excuses.specs.declared.by_source.News.{News}
use Rattle.testing_rules_model.specs.declared.excuse.Excuse.{Excuse}
use Rattle.testing_rules_model.specs.declared.excuse.Reason.{Reason}
use Rattle.testing_rules_model.specs.declared.excuse.Reason.TheVariants.{TooYoung, NewBug, NoBinaries, MissingOn, Blocked, RemovalAsked}
use Rattle.testing_rules_items.specs.declared.item.Urgency.TheVariants.{Low}
use Rattle.testing_rules_items.specs.Words.{Text, only_if}
use Rattle.testing_rules_model.specs.Suite.{Suite}
use Rattle.testing_rules_model.specs.Unstable.{is_of_source, is_current}
use Rattle.testing_rules_model.specs.Excuses.{more_urgent, days_of, counts, most_urgent, hinted_days, days_needed, age_of, is_new_bug, is_missing_on, has_current, is_blocked, asks_removal, is_removal_asked, reasons_of, testing_version, is_news}
use Rattle.testing_rules_model.specs.steps.Excuses.{has_row_on, has_current_on, asks_block, lifts_block}
use Rattle.testing_rules_model.specs.steps.Grounds.{Ground, excuse_on, excuses_on}
use Rattle.testing_rules_excuses.specs.steps.BySource.{part_of, told_of, news_of, is_among, excuses_by}
use Rattle.testing_rules_excuses.specs.steps.OwnHints.{own_hints}
use Rattle.testing_rules_excuses.proofs.OwnHints.{apart, own-block, own-lift, own-removal, own-days}
use Rattle.testing_rules_model.proofs.MoreMail.{filter-same}

-- The steps of loops that group.

module _ {A : Type 0} (own : A → Bool) where
  grouped_at : (b : Bool) (done : List A) (x : A) → own x ≡ b → cond b (done ++ x ∷ []) done ≡ done ++ filter own (x ∷ [])
  grouped_at true done x e = rw e refl
  grouped_at false done x e = rw e (sym (append-nil done))

  -- a list's own elements, with the one at a place
  pub grouped-more : (xs : List A) (i : ℕ) (d : A) → i < length xs → (old new : List A) → old ≡ filter own (take i xs)
      → new ≡ cond (own (get_or xs i d)) (old ++ get_or xs i d ∷ []) old → new ≡ filter own (take (i + 1) xs)
  grouped-more xs i d h old new e f =
      f ∙ grouped_at _ old (get_or xs i d) refl
      ∙ ap (λ t. t ++ filter own (get_or xs i d ∷ [])) e
      ∙ sym (ap (filter own) (take_more xs i d h) ∙ filter-append own (take i xs) (get_or xs i d ∷ []))

  left_at : (b : Bool) (done left : List A) (x : A) → own x ≡ b → cond b (done ++ x ∷ []) done ++ filter own left ≡ done ++ filter own (x ∷ left)
  left_at true done left x e = rw e (append_assoc done (x ∷ []) (filter own left))
  left_at false done left x e = rw e refl

  -- those so far and those that are left, with one that joins
  pub grouped-next : (left : List A) (x : A) (old new all : List A) → old ++ filter own (x ∷ left) ≡ all
      → new ≡ cond (own x) (old ++ x ∷ []) old → new ++ filter own left ≡ all
  grouped-next left x old new all e f = ap (λ t. t ++ filter own left) f ∙ left_at _ old left x refl ∙ e

-- A test that asks for the source.

module _ {A : Type 0} (p t : A → Bool) (within : (x : A) → t x ≡ false → p x ≡ false) where
  own_at : (b : Bool) (x : A) (xs : List A) → t x ≡ b → filter p (filter t xs) ≡ filter p xs → filter p (filter t (x ∷ xs)) ≡ filter p (x ∷ xs)
  own_at true x xs e more = rw e (ap (λ ys. cond (p x) (x ∷ ys) ys) more)
  own_at false x xs e more = rw (e, within x e) more

  -- among those of another test that it implies
  filter-own : (xs : List A) → filter p (filter t xs) ≡ filter p xs
  filter-own [] = refl
  filter-own (x ∷ xs) = own_at _ x xs refl (filter-own xs)

  any_at : (b : Bool) (x : A) (xs : List A) → t x ≡ b → list_any p (filter t xs) ≡ list_any p xs → list_any p (filter t (x ∷ xs)) ≡ list_any p (x ∷ xs)
  any_at true x xs e more = rw e (ap (λ b. p x || b) more)
  any_at false x xs e more = rw (e, within x e) more

  any-own : (xs : List A) → list_any p (filter t xs) ≡ list_any p xs
  any-own [] = refl
  any-own (x ∷ xs) = any_at _ x xs refl (any-own xs)

and_false : (a b : Bool) → b ≡ false → (a && b) ≡ false
and_false true b h = h
and_false false b h = refl

-- The parts of an excuse.

module _ (places : List ℕ) (g : Ground) (testing : Option Text) (u : UploadIn) where
  abbrev part : Ground
  part = part_of g u.source

  bug_within : (b : BugIn) → bytes_eq u.source b.source ≡ false → is_new_bug testing u b ≡ false
  bug_within b e = rw (apart u.source b.source e) refl

  row_within : (r : RowIn) → bytes_eq u.source r.binary.source ≡ false → is_of_source u r ≡ false
  row_within r e = apart u.source r.binary.source e

  current_within : (r : RowIn) → bytes_eq u.source r.binary.source ≡ false → is_current u r ≡ false
  current_within r e = rw (row_within r e) refl

  upload_within : (v : UploadIn) → bytes_eq u.source v.source ≡ false → counts testing u.source v ≡ false
  upload_within v e = rw (apart u.source v.source e) refl

  same_bugs : filter (is_new_bug testing u) part.bugs ≡ filter (is_new_bug testing u) g.bugs
  same_bugs = filter-own (is_new_bug testing u) (λ b. bytes_eq u.source b.source) bug_within g.bugs

  same_current : has_current part.rows u ≡ has_current g.rows u
  same_current = any-own (is_current u) (λ r. bytes_eq u.source r.binary.source) current_within g.rows

  same_row_on : (arch : ℕ) → has_row_on part.rows u arch ≡ has_row_on g.rows u arch
  same_row_on arch =
      any-own (λ r. (r.arch == arch) && is_of_source u r) (λ r. bytes_eq u.source r.binary.source) (λ r e. and_false (r.arch == arch) _ (row_within r e)) g.rows

  same_current_on : (arch : ℕ) → has_current_on part.rows u arch ≡ has_current_on g.rows u arch
  same_current_on arch =
      any-own (λ r. (r.arch == arch) && is_current u r) (λ r. bytes_eq u.source r.binary.source) (λ r e. and_false (r.arch == arch) _ (current_within r e)) g.rows

  same_missing : (arch : ℕ) → is_missing_on part.rows u arch ≡ is_missing_on g.rows u arch
  same_missing arch = ap (λ a. a && not (has_current_on part.rows u arch)) (same_row_on arch) ∙ ap (λ b. has_row_on g.rows u arch && not b) (same_current_on arch)

  same_days : days_needed g.delays part.hints part.uploads testing u ≡ days_needed g.delays g.hints g.uploads testing u
  same_days =
      ap (λ o. unwrap_or o (days_of g.delays (most_urgent part.uploads testing u.source))) (own-days u.source u.version g.hints)
      ∙ ap (λ us. unwrap_or (hinted_days g.hints u) (days_of g.delays (fold more_urgent Low (map (λ v. v.urgency) us))))
      (filter-own (counts testing u.source) (λ v. bytes_eq u.source v.source) upload_within g.uploads)

  same_blocked : is_blocked part.hints u ≡ is_blocked g.hints u
  same_blocked =
      ap (λ b. b && not (lifts_block part.hints u.source u.version)) (own-block u.source g.hints)
      ∙ ap (λ b. asks_block g.hints u.source && not b) (own-lift u.source u.version g.hints)

  removal_at : (there : Option Text) → is_removal_asked part.hints there u ≡ is_removal_asked g.hints there u
  removal_at None = ap (λ b. b || false) (own-removal u.source u.version g.hints)
  removal_at (Some v) =
      ap (λ b. b || asks_removal part.hints u.source v) (own-removal u.source u.version g.hints)
      ∙ ap (λ b. asks_removal g.hints u.source u.version || b) (own-removal u.source v g.hints)

  -- the reasons, by what they ask of rows, bugs and hints
  abbrev reasons_by : Bool → List BugIn → Bool → List ℕ → Bool → Bool → List Reason
  reasons_by is_young bugs current missing blocked removal =
      only_if is_young TooYoung
      ++ map (λ b. NewBug b.bug) bugs
      ++ only_if (not current) NoBinaries
      ++ map (λ a. MissingOn a) missing
      ++ only_if blocked Blocked
      ++ only_if removal RemovalAsked

  same_reasons : (is_young : Bool) → reasons_of places part.rows part.bugs part.hints testing is_young u ≡ reasons_of places g.rows g.bugs g.hints testing is_young u
  same_reasons is_young =
      let bugs = filter (is_new_bug testing u) g.bugs in
      let missing = filter (is_missing_on part.rows u) places in
      let blocked = is_blocked part.hints u in
      let removal = is_removal_asked part.hints testing u in
      ap (λ bs. reasons_by is_young bs (has_current part.rows u) missing blocked removal) same_bugs
      ∙ ap (λ c. reasons_by is_young bugs c missing blocked removal) same_current
      ∙ ap (λ ms. reasons_by is_young bugs (has_current g.rows u) ms blocked removal)
      (filter-same (is_missing_on part.rows u) (is_missing_on g.rows u) same_missing places)
      ∙ ap (λ b. reasons_by is_young bugs (has_current g.rows u) (filter (is_missing_on g.rows u) places) b removal) same_blocked
      ∙ ap (λ b. reasons_by is_young bugs (has_current g.rows u) (filter (is_missing_on g.rows u) places) (is_blocked g.hints u) b) (removal_at testing)

  -- an excuse by the days needed and the reasons
  abbrev told : ℕ → List Reason → Excuse
  told n reasons = record { source = u.source; testing = testing; unstable = u.version; age = age_of g.date u; needed = n; reasons = reasons }

  -- what is about the source is enough
  pub own-part : excuse_on places part testing u ≡ excuse_on places g testing u
  own-part =
      ap (λ n. told n (reasons_of places part.rows part.bugs part.hints testing (nat_lt (age_of g.date u) n) u)) same_days
      ∙ ap (told (days_needed g.delays g.hints g.uploads testing u)) (same_reasons (nat_lt (age_of g.date u) (days_needed g.delays g.hints g.uploads testing u)))

named_first : (b : Bool) (name : Text) (rest : Bool) → b ≡ true → IsTrue (b || rest)
named_first true name rest h = refl
named_first false name rest h = absurd (false≢true h)

named_later : (b rest : Bool) → IsTrue rest → IsTrue (b || rest)
named_later true rest h = refl
named_later false rest h = h

bytes_eq-itself : (a : Text) → bytes_eq a a ≡ true
bytes_eq-itself a = (bytes_eq-Decides a a).1 refl

-- so the excuses over grounds of the sources are those over the whole
module _ (places : List ℕ) (g : Ground) (by : Text → Ground) where
  by_parts : (news : List News) → ((name : Text) → IsTrue (is_among news name) → by name ≡ part_of g name)
      → excuses_by places by (map told_of news) ≡ excuses_by places (λ _. g) (map told_of news)
  by_parts [] h = refl
  by_parts (n ∷ news) h =
      let u = n.upload.now in
      let own : excuse_on places (by u.source) (told_of n).1 u ≡ excuse_on places g (told_of n).1 u =
      ap (λ p. excuse_on places p (told_of n).1 u) (h u.source (named_first _ u.source (is_among news u.source) (bytes_eq-itself u.source))) ∙ own-part places g (told_of n).1 u in
      ap (λ e. e ∷ excuses_by places by (map told_of news)) own
      ∙ ap (λ es. excuse_on places g (told_of n).1 u ∷ es) (by_parts news (λ name among. h name (named_later _ (is_among news name) among)))

  each_over : (t : Suite) (sources : List UploadIn)
      → excuses_by places (λ _. g) (map (λ (v : UploadIn). (v, testing_version t v.source)) sources) ≡ map (λ u. excuse_on places g (testing_version t u.source) u) sources
  each_over t [] = refl
  each_over t (u ∷ sources) = ap (λ es. excuse_on places g (testing_version t u.source) u ∷ es) (each_over t sources)

  pub excuses-by_parts : (news : List News) (t : Suite) (sources : List UploadIn) → map told_of news ≡ news_of t sources
      → ((name : Text) → IsTrue (is_among news name) → by name ≡ part_of g name) → excuses_by places by (map told_of news) ≡ excuses_on places g t sources
  excuses-by_parts news t sources are h =
      by_parts news h ∙ ap (excuses_by places (λ _. g)) are ∙ each_over t (filter (λ u. is_news (testing_version t u.source) u.version) sources)

-- a ground of its parts
pub part-is : (g : Ground) (name : Text) {rows : List RowIn} {bugs : List BugIn} {hints : List HintIn} {uploads : List UploadIn} {delays : Delays}
    → rows ≡ filter (λ r. bytes_eq name r.binary.source) g.rows → bugs ≡ filter (λ b. bytes_eq name b.source) g.bugs → hints ≡ own_hints name g.hints
    → uploads ≡ filter (λ u. bytes_eq name u.source) g.uploads → delays ≡ g.delays
    → part_of g name ≡ record { rows = rows; bugs = bugs; hints = hints; uploads = uploads; delays = delays; date = g.date }
part-is g name er eb eh eu ed = rw (er, eb, eh, eu, ed) refl
