-- What a run moves, and that it moves all that another one does.
use Rattle.std.proofs.Common.{◌≡◌, ℕ, Bool, true, List, [], ◌∷◌, map, inl, inr, ap, sym, subst, ◌∙◌}
use Rattle.std.specs.Prelude.{Contains}
use Rattle.std.specs.Borrow.{Bor}
use Rattle.std.specs.List.{flat_map, list_all, list_any}
use Rattle.std.specs.Str.{bytes_eq}
use Rattle.std.proofs.lemmas.Bool.{false≢true}
use Rattle.std.proofs.lemmas.Slice.Eq.{bytes_eq-Decides}
use Rattle.testing_rules_items.specs.Words.{Text}
use Rattle.testing_rules_items.proofs.Members.{none_among, head_of}
use Rattle.testing_rules_model.specs.declared.update.Decision.{Decision}
use Rattle.testing_rules_model.specs.declared.update.Decision.TheVariants.{RemoveDone, RemoveRefused, EasyDone, EasyNotCandidate, EasyRefused, Accept, Wait}
use Rattle.testing_rules_model.specs.declared.update.Moved.{Moved}
use Rattle.testing_rules_model.proofs.Sets.{first_or_rest, mapped_from, maps, spread_from, spreads}
use Rattle.testing_rules_refusals.proofs.Coming.{any_of, has_named, some_of}
use Rattle.testing_rules_refusals.proofs.Failings.{first_of_both, second_of_both}
use Rattle.testing_rules_reports.specs.steps.LentLines.{has_line}
use Rattle.office_core_outcome.specs.Proposal.{KeepsMoves, is_moved}
use Rattle.office_core_outcome.specs.steps.Settled.{names_in}

-- what is moved is named
moved_named : (d : Decision) (source : Text) → is_moved source d ≡ true → Contains (names_in d) source
moved_named (EasyDone hint items) source h =
    let m = some_of (λ (m : Moved). bytes_eq m.name source) items h in
    subst (Contains (map (λ (m : Moved). m.name) items)) ((bytes_eq-Decides m.0.name source).0 m.2) (maps (λ (m : Moved). m.name) items m.0 m.1)
moved_named (Accept name v) source h = subst (Contains (name ∷ [])) ((bytes_eq-Decides name source).0 h) (head_of name [])
moved_named (RemoveDone hint name v) source h = absurd (false≢true h)
moved_named (RemoveRefused hint name v offender) source h = absurd (false≢true h)
moved_named (EasyNotCandidate hint name v) source h = absurd (false≢true h)
moved_named (EasyRefused hint offender) source h = absurd (false≢true h)
moved_named (Wait name v offender) source h = absurd (false≢true h)

-- and what is named is moved
alike : (name source : Text) → name ≡ source → bytes_eq name source ≡ true
alike name source same = (bytes_eq-Decides name source).1 same

named_moved : (d : Decision) (source : Text) → Contains (names_in d) source → is_moved source d ≡ true
named_moved (EasyDone hint items) source c =
    let m = mapped_from (λ (m : Moved). m.name) items source c in
    any_of (λ (m : Moved). bytes_eq m.name source) items m.0 m.1 (alike m.0.name source m.2)
named_moved (Accept name v) source c = elim (first_or_rest name [] source c) [ inl same ↦ alike name source same | inr never ↦ none_among source never ]
named_moved (RemoveDone hint name v) source c = none_among source c
named_moved (RemoveRefused hint name v offender) source c = none_among source c
named_moved (EasyNotCandidate hint name v) source c = none_among source c
named_moved (EasyRefused hint offender) source c = none_among source c
named_moved (Wait name v offender) source c = none_among source c

-- each of the names passes
each_of : (test : Text → Bool) (names : List Text) (name : Text) → list_all test names ≡ true → Contains names name → test name ≡ true
each_of test [] name all c = none_among name c
each_of test (n ∷ ns) name all c = elim (first_or_rest n ns name c) [
  | inl same ↦ ap test (sym same) ∙ first_of_both (test n) (list_all test ns) all
  | inr rest ↦ each_of test ns name (second_of_both (test n) (list_all test ns) all) rest
]

-- a run whose names are all among those of another one
pub kept_by : (one other : List Decision) (keys : List (Bor (List ℕ))) (names after : List Text) → names ≡ flat_map names_in one → after ≡ flat_map names_in other
    → ((name : Text) → has_line keys name ≡ list_any (bytes_eq name) after) → list_all (has_line keys) names ≡ true → KeepsMoves one other
kept_by one other keys names after before behind has all = λ source moves.
    let d = some_of (is_moved source) one moves in
    let named : Contains (flat_map names_in one) source = spreads names_in one d.0 source d.1 (moved_named d.0 source d.2) in
    let there : list_any (bytes_eq source) after ≡ true = sym (has source) ∙ each_of (has_line keys) names source all (subst (λ (ns : List Text). Contains ns source) (sym before) named) in
    let e = spread_from names_in other source (subst (λ (ns : List Text). Contains ns source) behind (has_named after source there)) in
    any_of (is_moved source) other e.0 e.1 (named_moved e.0 source e.2)
