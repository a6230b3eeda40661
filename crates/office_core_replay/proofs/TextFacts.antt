-- The texts at the end of a replay, as calls on an office answer them one after another.
use Rattle.std.proofs.Common.{◌≡◌, ℕ, ◌≤◌, List, Option, Result, IfOk, subst}
use Rattle.std.specs.Option.{option_map}
use Rattle.office_store_keeper.specs.declared.keeper.Keeper.{Ghosts}
use Rattle.office_store_keeper.specs.declared.values.Reports.{Reports}
use Rattle.office_core_store.specs.declared.faults.StoreFault.{StoreFault}
use Rattle.office_core.specs.Preserves.{Asks, Holds, StoreRefused}
use Rattle.office_core_store.specs.Counted.{Counted}
use Rattle.office_core_replay.specs.steps.Ending.{mark_in, report_shown}
use Rattle.office_core_replay.specs.Losses.{TextCounted}
use Rattle.office_core_facts.specs.Outcome.{reports_of}
use Rattle.office_core_replay.specs.Output.{or_refused}
use Rattle.office_core_facts.specs.OfficeState.{OfficeState}
use Rattle.office_core_facts.specs.State.{reports_at, state_of}
use Rattle.office_core.proofs.CarryFacts.{holds_first, holds_next, refused_first, refused_next, risen, state_asked}
use Rattle.office_core_replay.proofs.EndFacts.{shown_excuses, shown_updates}
use Rattle.office_core_replay.proofs.RiseFacts.{text_counted}

-- the two reports of a run, as they were answered
pub record Told (s : OfficeState) (run : ℕ) (r q : Result (Option (List ℕ)) StoreFault) (rose : Type 0) : Type 0 where
  pub excuses : report_shown r ≡ or_refused (mark_in r) (reports_of s.setup s.kept run).excuses
  pub updates : report_shown q ≡ or_refused (mark_in q) (reports_of s.setup s.kept run).updates
  pub by_store : TextCounted rose (mark_in r) × TextCounted rose (mark_in q)

pub told_run : {K : Type 0} (keeper : Ghosts K) (a b c : K) (run : ℕ) (r q : Result (Option (List ℕ)) StoreFault) → 1 ≤ run → Asks keeper a b → Asks keeper b c
    → (Holds keeper a b → IfOk r (λ t. t ≡ option_map (λ (o : Reports). o.excuses) (reports_at (state_of keeper a) run)))
    → (Holds keeper b c → IfOk q (λ t. t ≡ option_map (λ (o : Reports). o.updates) (reports_at (state_of keeper b) run)))
    → Counted (keeper.refusals a) (keeper.refusals b) r → Counted (keeper.refusals b) (keeper.refusals c) q
    → Holds keeper a c → run ≤ (state_of keeper a).finished → Told (state_of keeper a) run r q (StoreRefused keeper a c)
told_run keeper a b c run r q first one two excuses updates r_count q_count h last =
    let h1 : Holds keeper a b = holds_first keeper a b c two.carries h in
    let h2 : Holds keeper b c = holds_next keeper a b c one.carries two.carries h in
    record {
      excuses = shown_excuses (state_of keeper a) run r first last (excuses h1);
      updates = shown_updates (state_of keeper a) run q first last
          (subst (λ (s : OfficeState). IfOk q (λ t. t ≡ option_map (λ (o : Reports). o.updates) (reports_at s run))) (state_asked keeper a b one h1.0) (updates h2));
      by_store = (
        text_counted (StoreRefused keeper a c) r (λ e. refused_first keeper a b c two.carries (risen (keeper.refusals a) (keeper.refusals b) r r_count e)),
        text_counted (StoreRefused keeper a c) q (λ e. refused_next keeper a b c one.carries (risen (keeper.refusals b) (keeper.refusals c) q q_count e)),
      );
    }
