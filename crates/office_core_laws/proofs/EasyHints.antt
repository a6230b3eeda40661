-- What `easy` hints that come last change of a run.
use Rattle.std.proofs.Common.{◌≡◌, ℕ, ◌<◌, ◌&&◌, ◌||◌, Bool, true, false, not, List, [], ◌∷◌, ◌++◌, map, filter, Option, Some, None, refl, sym, ap, ◌∙◌}
use Rattle.std.specs.Prelude.{unwrap_or, nat_lt}
use Rattle.std.specs.Cmp.{nat_cmp_is}
use Rattle.std.specs.Ordering.{nat_cmp, ordering_then}
use Rattle.std.specs.declared.cmp.Ordering.TheVariants.{Greater}
use Rattle.std.specs.List.{AllByRecursion, cons_option, filter_map, flat_map, last_or, list_any}
use Rattle.std.specs.Option.{option_map_or}
use Rattle.std.proofs.lemmas.Grind.{flat_map-append}
use Rattle.std.proofs.lemmas.List.{append-nil, append_assoc}
use Rattle.std.proofs.lemmas.List.Elements.{filter-append, filter_map-append}
use Rattle.std.proofs.lemmas.List.Folds.{list_any-append}
use Rattle.jiff_core.specs.declared.civil.date.Date.{Date}
use Rattle.testing_rules_items.specs.declared.item.Hint.{Hint as AHint}
use Rattle.testing_rules_items.specs.declared.item.Hint.TheVariants.{Easy}
use Rattle.testing_rules_items.specs.declared.item.HintItem.{HintItem}
use Rattle.testing_rules_items.specs.declared.item.Item.TheVariants.{Hint}
use Rattle.testing_rules_items.specs.Words.{Text, only_if, put_by}
use Rattle.testing_rules_items.proofs.Each.{each-append, each-filter, each-weaker}
use Rattle.testing_rules_model.specs.declared.excuse.Excuse.{Excuse}
use Rattle.testing_rules_model.specs.declared.excuse.Reason.TheVariants.{TooYoung, NewBug, NoBinaries, MissingOn, Blocked, RemovalAsked}
use Rattle.testing_rules_model.specs.declared.facts.BugIn.{BugIn}
use Rattle.testing_rules_model.specs.declared.facts.DelaysIn.{DelaysIn}
use Rattle.testing_rules_model.specs.declared.facts.HintIn.{HintIn}
use Rattle.testing_rules_model.specs.declared.facts.UnhintIn.{UnhintIn}
use Rattle.testing_rules_model.specs.declared.facts.UploadIn.{UploadIn}
use Rattle.testing_rules_model.specs.declared.suite.RowIn.{RowIn}
use Rattle.testing_rules_model.specs.Covered.{Covered, CoveredItem, uploads_in}
use Rattle.testing_rules_model.specs.Excuses.{age_of, asked_days, asks_removal, blocks, days_of, delays_in_force, excuses_of, has_current, hinted_days, is_blocked, is_missing_on, is_new_bug, is_news, is_removal_asked, most_urgent, removes, testing_version, unblocks}
use Rattle.testing_rules_model.specs.steps.Excuses.{asks_block, lifts_block}
use Rattle.testing_rules_model.specs.steps.Grounds.{Ground, excuse_on, excuses_on, ground_of}
use Rattle.testing_rules_model.specs.Suite.{Suite}
use Rattle.testing_rules_model.specs.Unstable.{bug_states, hint_order, hints_by_number, in_force, is_in_force, last_delays, place_numbers, unhints_by_number, unstable_rows, unstable_sources}
use Rattle.testing_rules_model.specs.Updates.{Outcome, in_turn, move_easy, move_singles, removals_of, remove_item, update_by, update_of}

-- an `easy` hint
pub record IsEasy (h : HintIn) : Type 0 where
  pub items : List HintItem
  pub is : h.hint ≡ Easy items

-- the message of one, and the hint
abbrev pub easy_message : ℕ → ℕ → List HintItem → CoveredItem
easy_message sender number items = record { sender = sender; number = number; item = Hint (Easy items) }

abbrev pub easy_hint : ℕ → ℕ → List HintItem → HintIn
easy_hint sender number items = record { hint = Easy items; sender = sender; number = number }

-- the same mail, but for `easy` hints that come last
pub record HasMore (archs : List Text) (mail more : Covered) : Type 0 where
  pub news : List HintIn
  pub easy : AllByRecursion IsEasy news
  pub sources : unstable_sources more ≡ unstable_sources mail
  pub rows : unstable_rows archs more ≡ unstable_rows archs mail
  pub bugs : bug_states more ≡ bug_states mail
  pub uploads : uploads_in more ≡ uploads_in mail
  pub delays : last_delays more ≡ last_delays mail
  pub unhints : unhints_by_number more ≡ unhints_by_number mail
  pub hints : hints_by_number more ≡ hints_by_number mail ++ news

comes_later : (x y : HintIn) → y.number < x.number → hint_order x y ≡ Greater
comes_later x y h = ap (λ o. ordering_then o (nat_cmp x.sender y.sender)) (sym (nat_cmp_is x.number y.number Greater h))

put_last : (x : HintIn) (ys : List HintIn) → AllByRecursion (λ y. y.number < x.number) ys → put_by (λ h. h) hint_order x ys ≡ ys ++ x ∷ []
put_last x [] h = refl
put_last x (y ∷ ys) h = rw (put_by, comes_later x y h.0) (ap (λ zs. y ∷ zs) (put_last x ys h.1))

pub no_more : (archs : List Text) (mail : Covered) → HasMore archs mail mail
no_more archs mail = record { news = []; easy = tt; sources = refl; rows = refl; bugs = refl; uploads = refl; delays = refl; unhints = refl; hints = sym (append-nil (hints_by_number mail)) }

pub one_more : (archs : List Text) (mail : Covered) (sender number : ℕ) (items : List HintItem) → AllByRecursion (λ h. h.number < number) (hints_by_number mail)
    → HasMore archs mail (easy_message sender number items ∷ mail)
one_more archs mail sender number items h = record {
  news = easy_hint sender number items ∷ [];
  easy = (record { items = items; is = refl }, tt);
  sources = refl;
  rows = refl;
  bugs = refl;
  uploads = refl;
  delays = refl;
  unhints = refl;
  hints = put_last (easy_hint sender number items) (hints_by_number mail) h;
}

pub then_more : (archs : List Text) (mail between more : Covered) → HasMore archs mail between → HasMore archs between more → HasMore archs mail more
then_more archs mail between more a b = record {
  news = a.news ++ b.news;
  easy = each-append IsEasy a.news b.news a.easy b.easy;
  sources = b.sources ∙ a.sources;
  rows = b.rows ∙ a.rows;
  bugs = b.bugs ∙ a.bugs;
  uploads = b.uploads ∙ a.uploads;
  delays = b.delays ∙ a.delays;
  unhints = b.unhints ∙ a.unhints;
  hints = b.hints ∙ ap (λ hs. hs ++ b.news) a.hints ∙ append_assoc (hints_by_number mail) a.news b.news;
}

-- What an `easy` hint doesn't say.

no_days : (name v : Text) (h : HintIn) → IsEasy h → asked_days name v h.hint ≡ None
no_days name v h e = ap (asked_days name v) e.is

no_block : (name : Text) (h : HintIn) → IsEasy h → blocks name h.hint ≡ false
no_block name h e = ap (blocks name) e.is

no_lift : (name v : Text) (h : HintIn) → IsEasy h → unblocks name v h.hint ≡ false
no_lift name v h e = ap (unblocks name v) e.is

no_removal : (name v : Text) (h : HintIn) → IsEasy h → removes name v h.hint ≡ false
no_removal name v h e = ap (removes name v) e.is

none_given : {A : Type 0} (f : HintIn → Option A) → ((h : HintIn) → IsEasy h → f h ≡ None) → (hs : List HintIn) → AllByRecursion IsEasy hs → filter_map f hs ≡ []
none_given f never [] e = refl
none_given f never (h ∷ hs) e = ap (λ o. cons_option o (filter_map f hs)) (never h e.0) ∙ none_given f never hs e.1

none_passes : (test : HintIn → Bool) → ((h : HintIn) → IsEasy h → test h ≡ false) → (hs : List HintIn) → AllByRecursion IsEasy hs → list_any test hs ≡ false
none_passes test never [] e = refl
none_passes test never (h ∷ hs) e = ap (λ b. b || list_any test hs) (never h e.0) ∙ none_passes test never hs e.1

or_none : (b : Bool) → (b || false) ≡ b
or_none true = refl
or_none false = refl

no_removals_at : (sender number : ℕ) (hint : AHint) (items : List HintItem) → hint ≡ Easy items → removals_of (record { hint = hint; sender = sender; number = number }) ≡ []
no_removals_at sender number hint items e = ap (λ (x : AHint). removals_of (record { hint = x; sender = sender; number = number })) e

no_removals : (hs : List HintIn) → AllByRecursion IsEasy hs → flat_map removals_of hs ≡ []
no_removals [] e = refl
no_removals (h ∷ hs) e = ap (λ (xs : List (ℕ × HintItem)). xs ++ flat_map removals_of hs) (no_removals_at h.sender h.number h.hint e.0.items e.0.is) ∙ no_removals hs e.1

same_map : {A B : Type 0} (f g : A → B) → ((x : A) → f x ≡ g x) → (xs : List A) → map f xs ≡ map g xs
same_map f g same [] = refl
same_map f g same (x ∷ xs) = ap (λ y. y ∷ map f xs) (same x) ∙ ap (λ ys. g x ∷ ys) (same_map f g same xs)

turns_append : {A : Type 0} (step : A → Suite → Outcome) (xs ys : List A) (t : Suite) → (in_turn step (xs ++ ys) t).suite ≡ (in_turn step ys (in_turn step xs t).suite).suite
turns_append step [] ys t = refl
turns_append step (x ∷ xs) ys t = turns_append step xs ys (step x t).suite

module _ (archs : List Text) (mail more : Covered) (m : HasMore archs mail more) (t : Suite) (date : Date) where
  abbrev sources : List UploadIn
  sources = unstable_sources mail

  abbrev rows : List RowIn
  rows = unstable_rows archs mail

  abbrev unhints : List UnhintIn
  unhints = unhints_by_number mail

  -- the hints in force, and those of the new ones that are
  abbrev forced : List HintIn
  forced = in_force mail

  abbrev pub coming : List HintIn
  coming = filter (is_in_force unhints) m.news

  coming_easy : AllByRecursion IsEasy coming
  coming_easy = each-filter IsEasy (is_in_force unhints) m.news (each-weaker IsEasy (λ h. is_in_force unhints h ≡ true → IsEasy h) (λ h e on. e) m.news m.easy)

  force_is : in_force more ≡ forced ++ coming
  force_is =
      ap (λ (u : List UnhintIn). filter (is_in_force u) (hints_by_number more)) m.unhints
      ∙ ap (filter (is_in_force unhints)) m.hints
      ∙ filter-append (is_in_force unhints) (hints_by_number mail) m.news

  -- The excuses.

  abbrev ground_by : List RowIn → List BugIn → List HintIn → List UploadIn → Option DelaysIn → Ground
  ground_by rs bs hs us d = record { rows = rs; bugs = bs; hints = hs; uploads = us; delays = delays_in_force d; date = date }

  abbrev ground_with : List HintIn → Ground
  ground_with hs = ground_by rows (bug_states mail) hs (uploads_in mail) (last_delays mail)

  ground_is : ground_of archs more date ≡ ground_with (forced ++ coming)
  ground_is =
      ap (λ rs. ground_by rs (bug_states more) (in_force more) (uploads_in more) (last_delays more)) m.rows
      ∙ ap (λ bs. ground_by rows bs (in_force more) (uploads_in more) (last_delays more)) m.bugs
      ∙ ap (λ hs. ground_by rows (bug_states mail) hs (uploads_in more) (last_delays more)) force_is
      ∙ ap (λ us. ground_by rows (bug_states mail) (forced ++ coming) us (last_delays more)) m.uploads
      ∙ ap (λ d. ground_by rows (bug_states mail) (forced ++ coming) (uploads_in mail) d) m.delays

  module _ (testing : Option Text) (u : UploadIn) where
    days_same : hinted_days (forced ++ coming) u ≡ hinted_days forced u
    days_same =
        let asked : HintIn → Option ℕ = λ h. asked_days u.source u.version h.hint in
        ap (last_or None)
        (filter_map-append asked forced coming
        ∙ ap (λ ns. filter_map asked forced ++ ns) (none_given asked (no_days u.source u.version) coming coming_easy)
        ∙ append-nil (filter_map asked forced))

    any_same : (test : HintIn → Bool) → ((h : HintIn) → IsEasy h → test h ≡ false) → list_any test (forced ++ coming) ≡ list_any test forced
    any_same test never = list_any-append test forced coming ∙ ap (λ b. list_any test forced || b) (none_passes test never coming coming_easy) ∙ or_none (list_any test forced)

    blocked_same : is_blocked (forced ++ coming) u ≡ is_blocked forced u
    blocked_same =
        ap (λ b. b && not (lifts_block (forced ++ coming) u.source u.version)) (any_same (λ h. blocks u.source h.hint) (no_block u.source))
        ∙ ap (λ b. asks_block forced u.source && not b) (any_same (λ h. unblocks u.source u.version h.hint) (no_lift u.source u.version))

    removal_same : (v : Text) → asks_removal (forced ++ coming) u.source v ≡ asks_removal forced u.source v
    removal_same v = any_same (λ h. removes u.source v h.hint) (no_removal u.source v)

    removal_at : (o : Option Text) → option_map_or (asks_removal (forced ++ coming) u.source) o false ≡ option_map_or (asks_removal forced u.source) o false
    removal_at None = refl
    removal_at (Some v) = removal_same v

    asked_same : is_removal_asked (forced ++ coming) testing u ≡ is_removal_asked forced testing u
    asked_same =
        ap (λ b. b || option_map_or (asks_removal (forced ++ coming) u.source) testing false) (removal_same u.version)
        ∙ ap (λ b. asks_removal forced u.source u.version || b) (removal_at testing)

    -- the excuse, by what hints say of it
    abbrev excuse_by : Option ℕ → Bool → Bool → Excuse
    excuse_by hinted blocked asked =
        let needed : ℕ = unwrap_or hinted (days_of (delays_in_force (last_delays mail)) (most_urgent (uploads_in mail) testing u.source)) in
        record {
          source = u.source;
          testing = testing;
          unstable = u.version;
          age = age_of date u;
          needed = needed;
          reasons =
              only_if (nat_lt (age_of date u) needed) TooYoung
              ++ map (λ b. NewBug b.bug) (filter (is_new_bug testing u) (bug_states mail))
              ++ only_if (not (has_current rows u)) NoBinaries
              ++ map (λ a. MissingOn a) (filter (is_missing_on rows u) (place_numbers archs))
              ++ only_if blocked Blocked
              ++ only_if asked RemovalAsked;
        }

    excuse_same : excuse_on (place_numbers archs) (ground_with (forced ++ coming)) testing u ≡ excuse_on (place_numbers archs) (ground_with forced) testing u
    excuse_same =
        ap (λ o. excuse_by o (is_blocked (forced ++ coming) u) (is_removal_asked (forced ++ coming) testing u)) days_same
        ∙ ap (λ b. excuse_by (hinted_days forced u) b (is_removal_asked (forced ++ coming) testing u)) blocked_same
        ∙ ap (λ b. excuse_by (hinted_days forced u) (is_blocked forced u) b) asked_same

  pub excuses_same : excuses_of archs more t date ≡ excuses_of archs mail t date
  excuses_same =
      ap (λ g. excuses_on (place_numbers archs) g t (unstable_sources more)) ground_is
      ∙ ap (excuses_on (place_numbers archs) (ground_with (forced ++ coming)) t) m.sources
      ∙ same_map (λ u. excuse_on (place_numbers archs) (ground_with (forced ++ coming)) (testing_version t u.source) u) (λ u. excuse_on (place_numbers archs) (ground_with forced) (testing_version t u.source) u)
      (λ u. excuse_same (testing_version t u.source) u) (filter (λ u. is_news (testing_version t u.source) u.version) sources)

  -- The decisions.

  module _ (es : List Excuse) where
    abbrev standing : Suite
    standing = (in_turn (move_easy archs sources rows es) forced (in_turn (remove_item archs) (flat_map removals_of forced) t).suite).suite

    -- testing after a run with these hints in force
    abbrev after : List HintIn → List (ℕ × HintItem) → Suite
    after hs removals = (move_singles archs sources rows es (in_turn (move_easy archs sources rows es) hs (in_turn (remove_item archs) removals t).suite).suite).suite

    removals_same : flat_map removals_of (forced ++ coming) ≡ flat_map removals_of forced
    removals_same =
        flat_map-append removals_of forced coming
        ∙ ap (λ (xs : List (ℕ × HintItem)). flat_map removals_of forced ++ xs) (no_removals coming coming_easy)
        ∙ append-nil (flat_map removals_of forced)

    pub update_is : (update_of archs more es t).suite ≡ (move_singles archs sources rows es (in_turn (move_easy archs sources rows es) coming standing).suite).suite
    update_is =
        ap (λ us. (update_by archs us (unstable_rows archs more) (hints_by_number more) (unhints_by_number more) es t).suite) m.sources
        ∙ ap (λ rs. (update_by archs sources rs (hints_by_number more) (unhints_by_number more) es t).suite) m.rows
        ∙ ap (λ hs. (update_by archs sources rows hs (unhints_by_number more) es t).suite) m.hints
        ∙ ap (λ cs. (update_by archs sources rows (hints_by_number mail ++ m.news) cs es t).suite) m.unhints
        ∙ ap (λ hs. after hs (flat_map removals_of hs)) (filter-append (is_in_force unhints) (hints_by_number mail) m.news)
        ∙ ap (after (forced ++ coming)) removals_same
        ∙ ap (λ s. (move_singles archs sources rows es s).suite) (turns_append (move_easy archs sources rows es) forced coming (in_turn (remove_item archs) (flat_map removals_of forced) t).suite)
