-- The excuses of a run: why each source may or may not move (Debian Developer's Reference 5.13.2).
use Rattle.std.specs.Prelude.{ℕ, Bool, true, false, ◌&&◌, ◌||◌, not, nat_lt, ◌==◌, if◌then◌else◌, List, ◌++◌, map, filter, fold, find, Option, Some, None, option_map, unwrap_or, ◌-ℤ◌}
use Rattle.std.specs.List.{filter_map, list_any, last_or}
use Rattle.std.specs.Option.{option_map_or}
use Rattle.std.specs.Str.{bytes_eq}
use Rattle.jiff_core.specs.declared.civil.date.Date.{Date}
use Rattle.jiff_core.specs.Date.{epoch_day}
use Rattle.testing_rules_items.specs.declared.item.Urgency.{Urgency}
use Rattle.testing_rules_items.specs.declared.item.Urgency.TheVariants.{Low, Medium, High, Emergency, Critical}
use Rattle.testing_rules_items.specs.declared.item.Hint.{Hint}
use Rattle.testing_rules_items.specs.declared.item.Hint.TheVariants.{Block, BlockAll, Unblock, AgeDays, Remove}
use Rattle.testing_rules_items.specs.declared.item.HintItem.{HintItem}
use Rattle.testing_rules_model.specs.declared.facts.UploadIn.{UploadIn}
use Rattle.testing_rules_model.specs.declared.facts.BugIn.{BugIn}
use Rattle.testing_rules_model.specs.declared.facts.HintIn.{HintIn}
use Rattle.testing_rules_model.specs.declared.facts.Delays.{Delays}
use Rattle.testing_rules_model.specs.declared.facts.DelaysIn.{DelaysIn}
use Rattle.testing_rules_model.specs.declared.suite.RowIn.{RowIn}
use Rattle.testing_rules_model.specs.declared.excuse.Excuse.{Excuse}
use Rattle.testing_rules_model.specs.declared.excuse.Reason.{Reason}
use Rattle.testing_rules_model.specs.declared.excuse.Reason.TheVariants.{TooYoung, NewBug, NoBinaries, MissingOn, Blocked, RemovalAsked}
use Rattle.testing_rules_model.specs.Suite.{Suite}
use Rattle.testing_rules_items.specs.Words.{Text, is_above, is_same_version, only_if, floor_zero}
use Rattle.testing_rules_model.specs.Covered.{Covered, uploads_in}
use Rattle.testing_rules_model.specs.Unstable.{unstable_sources, place_numbers, unstable_rows, is_of_source, is_current, bug_states, is_release_critical, affects, in_force, last_delays}

-- the source's version in testing
abbrev pub testing_version : Suite → Text → Option Text
testing_version t name = option_map (λ s. s.version) (find (λ s. bytes_eq s.name name) t.sources)

-- the version is above testing's, or testing has none (Debian Policy 5.6.12)
abbrev pub is_news : Option Text → Text → Bool
is_news testing v = option_map_or (is_above v) testing true

-- Days (Debian Developer's Reference 5.13.2; this office decides to count them in dates and to set them by mail).

-- urgencies from the least to the most urgent (Debian Policy 5.6.17)
abbrev pub urgency_rank : Urgency → ℕ
urgency_rank Low = 0
urgency_rank Medium = 1
urgency_rank High = 2
urgency_rank Emergency = 3
urgency_rank Critical = 4

-- the more urgent of two
abbrev pub more_urgent : Urgency → Urgency → Urgency
more_urgent a b = if nat_lt (urgency_rank a) (urgency_rank b) then b else a

-- the days of an urgency; emergency equals critical (Debian Policy 5.6.17)
abbrev pub days_of : Delays → Urgency → ℕ
days_of d Low = d.low
days_of d Medium = d.medium
days_of d High = d.high
days_of d _ = d.critical

-- the days without a message that sets others: 10, 5 and 2 of Debian Developer's Reference 5.13.2; this office decides
-- the 0
abbrev pub usual_delays : Delays
usual_delays = record { low = 10; medium = 5; high = 2; critical = 0 }

-- the delays of the last message on them, or else the usual ones
abbrev pub delays_in_force : Option DelaysIn → Delays
delays_in_force last = option_map_or (λ d. d.delays) last usual_delays

-- the upload's urgency counts: it is the source's upload, and is above testing's version
abbrev pub counts : Option Text → Text → UploadIn → Bool
counts testing name u = bytes_eq u.source name && is_news testing u.version

-- the greatest urgency of the uploads that count: the source keeps it until it moves (Debian Developer's Reference
-- 5.13.2)
abbrev pub most_urgent : List UploadIn → Option Text → Text → Urgency
most_urgent uploads testing name = fold more_urgent Low (map (λ u. u.urgency) (filter (counts testing name) uploads))

-- some item names the source at this version
abbrev pub is_named : List HintItem → Text → Text → Bool
is_named items name v = list_any (λ i. bytes_eq i.name name && is_same_version i.version v) items

-- the days that a hint asks for the source at this version (named after britney2's `age-days`)
abbrev pub asked_days : Text → Text → Hint → Option ℕ
asked_days name v (AgeDays n items) = if is_named items name v then Some n else None
asked_days name v _ = None

-- the days asked by the last hint that asks any for the upload (this office decides that the last one counts)
abbrev pub hinted_days : List HintIn → UploadIn → Option ℕ
hinted_days hints u = last_or None (filter_map (λ h. asked_days u.source u.version h.hint) hints)

-- the days that an unstable source needs: those asked by a hint, or else those of the most urgent upload that counts
abbrev pub days_needed : Delays → List HintIn → List UploadIn → Option Text → UploadIn → ℕ
days_needed delays hints uploads testing u = unwrap_or (hinted_days hints u) (days_of delays (most_urgent uploads testing u.source))

-- the days from the upload to the run, at least 0 (this office decides it)
abbrev pub age_of : Date → UploadIn → ℕ
age_of date u = floor_zero (epoch_day date -ℤ epoch_day u.day)

-- Reasons (Debian Developer's Reference 5.13.2).

-- the bug is new for the source: release-critical, in the unstable version and not in testing's (Debian Developer's
-- Reference 5.13.2)
abbrev pub is_new_bug : Option Text → UploadIn → BugIn → Bool
is_new_bug testing u b =
    bytes_eq b.source u.source && is_release_critical b.severity && affects b u.version
    && option_map_or (λ v. not (affects b v)) testing true

-- the source has rows on the architecture, none of them current: it is out of date there (Debian Developer's Reference
-- 5.13.2.1)
abbrev pub is_missing_on : List RowIn → UploadIn → ℕ → Bool
is_missing_on rows u arch =
    list_any (λ r. (r.arch == arch) && is_of_source u r) rows
    && not (list_any (λ r. (r.arch == arch) && is_current u r) rows)

-- some row of the source is current (this office decides that a source without one stays out)
abbrev pub has_current : List RowIn → UploadIn → Bool
has_current rows u = list_any (is_current u) rows

-- a hint that keeps the source out: it names it, or keeps out all sources (named after britney2's `block` and
-- `block-all`)
abbrev pub blocks : Text → Hint → Bool
blocks name (Block names) = list_any (bytes_eq name) names
blocks name BlockAll = true
blocks name _ = false

-- a hint that lifts blocks for the source at this version (named after britney2's `unblock`)
abbrev pub unblocks : Text → Text → Hint → Bool
unblocks name v (Unblock items) = is_named items name v
unblocks name v _ = false

-- a hint to remove the source at this version (named after britney2's `remove`)
abbrev pub removes : Text → Text → Hint → Bool
removes name v (Remove items) = is_named items name v
removes name v _ = false

-- a hint keeps the source out, and no hint lifts this for its unstable version
abbrev pub is_blocked : List HintIn → UploadIn → Bool
is_blocked hints u =
    list_any (λ h. blocks u.source h.hint) hints && not (list_any (λ h. unblocks u.source u.version h.hint) hints)

-- a hint asks to remove the source at this version
abbrev pub asks_removal : List HintIn → Text → Text → Bool
asks_removal hints name v = list_any (λ h. removes name v h.hint) hints

-- a hint asks to remove it, at its unstable version or at testing's (this office decides it)
abbrev pub is_removal_asked : List HintIn → Option Text → UploadIn → Bool
is_removal_asked hints testing u =
    asks_removal hints u.source u.version || option_map_or (asks_removal hints u.source) testing false

-- what keeps an unstable source out, in the order in which it is reported (this office decides the order)
abbrev pub reasons_of : List ℕ → List RowIn → List BugIn → List HintIn → Option Text → Bool → UploadIn → List Reason
reasons_of places rows bugs hints testing is_young u =
    only_if is_young TooYoung
    ++ map (λ b. NewBug b.bug) (filter (is_new_bug testing u) bugs)
    ++ only_if (not (has_current rows u)) NoBinaries
    ++ map (λ a. MissingOn a) (filter (is_missing_on rows u) places)
    ++ only_if (is_blocked hints u) Blocked
    ++ only_if (is_removal_asked hints testing u) RemovalAsked

-- the excuse of an unstable source, of which testing has this version or none
abbrev pub excuse_for : List Text → Covered → Date → Option Text → UploadIn → Excuse
excuse_for archs s date testing u =
    let needed = days_needed (delays_in_force (last_delays s)) (in_force s) (uploads_in s) testing u in
    let is_young = nat_lt (age_of date u) needed in
    record {
      source = u.source;
      testing = testing;
      unstable = u.version;
      age = age_of date u;
      needed = needed;
      reasons = reasons_of (place_numbers archs) (unstable_rows archs s) (bug_states s) (in_force s) testing is_young u;
    }

-- an excuse for each source of unstable that is above testing's version or isn't in testing, by name
abbrev pub excuses_of : List Text → Covered → Suite → Date → List Excuse
excuses_of archs s t date =
    let news = filter (λ u. is_news (testing_version t u.source) u.version) (unstable_sources s) in
    map (λ u. excuse_for archs s date (testing_version t u.source) u) news
