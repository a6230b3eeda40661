-- The reports of finished runs, as they are answered.
use Rattle.std.proofs.Common.{◌≡◌, ℕ, ◌+◌, suc, ◌≤◌, List, [], ◌++◌, Option, unwrap_or, length, ap, ◌∙◌, refl, sym, subst, arith}
use Rattle.std.specs.Option.{option_map}
use Rattle.std.proofs.lemmas.List.{append_assoc}
use Rattle.office_store_keeper.specs.declared.keeper.Keeper.{Ghosts}
use Rattle.office_store_keeper.specs.declared.values.Reports.{Reports}
use Rattle.office_mail.specs.Kept.{Kept}
use Rattle.office_mail.specs.Lists.{Lists}
use Rattle.office_core_facts.specs.OfficeState.{OfficeState}
use Rattle.office_core_facts.specs.Outcome.{reports_of}
use Rattle.office_core.specs.Preserves.{Asks, Holds}
use Rattle.office_core_facts.specs.State.{reports_at, state_of}
use Rattle.office_core.proofs.CarryFacts.{holds_first, holds_next, state_asked}
use Rattle.office_core_facts.proofs.ReportFacts.{reports_there}
use Rattle.office_core_queries.specs.RunLines.{run_line, line_on, lines_to}

-- a report of a finished run, or the text in its place
pub answered : (part : Reports → List ℕ) (s : OfficeState) (run : ℕ) (answer : Option (List ℕ)) → 1 ≤ run → run ≤ s.finished → answer ≡ option_map part (reports_at s run) → unwrap_or answer [] ≡ part (reports_of s.setup s.kept run)
answered part s run answer first last is = ap (λ (o : Option (List ℕ)). unwrap_or o []) (is ∙ ap (option_map part) (reports_there s run first last))

-- the line on a run, by two answers one after the other
pub line_answered : {K : Type 0} (keeper : Ghosts K) (a b c : K) (run : ℕ) (x y : Option (List ℕ)) → Asks keeper a b → Asks keeper b c
    → (Holds keeper a b → x ≡ option_map (λ (r : Reports). r.excuses) (reports_at (state_of keeper a) run))
    → (Holds keeper b c → y ≡ option_map (λ (r : Reports). r.updates) (reports_at (state_of keeper b) run))
    → Holds keeper a c → 1 ≤ run → run ≤ (state_of keeper a).finished → run_line run (unwrap_or x []) (unwrap_or y []) ≡ line_on (keeper.setup a) (keeper.content a).kept run
line_answered keeper a b c run x y one two excuses updates h first last =
    let s : OfficeState = state_of keeper a in
    let h1 : Holds keeper a b = holds_first keeper a b c two.carries h in
    let h2 : Holds keeper b c = holds_next keeper a b c one.carries two.carries h in
    let is_x = answered (λ (r : Reports). r.excuses) s run x first last (excuses h1) in
    let is_y = answered (λ (r : Reports). r.updates) s run y first last
    (subst (λ (z : OfficeState). y ≡ option_map (λ (r : Reports). r.updates) (reports_at z run)) (state_asked keeper a b one h1.0) (updates h2)) in
    ap (λ (t : List ℕ). run_line run t (unwrap_or y [])) is_x ∙ ap (run_line run (reports_of s.setup s.kept run).excuses) is_y

lines_to-suc : (setup : Lists) (kept : Kept) (n : ℕ) → lines_to setup kept (n + 1) ≡ lines_to setup kept n ++ line_on setup kept (n + 1)
lines_to-suc setup kept n = let one : n + 1 ≡ suc n = omega arith in rw one refl

-- one line more
pub lines_more : {K : Type 0} (keeper : Ghosts K) (a b c : K) (done : ℕ) (start before after : List ℕ) → Asks keeper a b → Asks keeper b c
    → (Holds keeper a b → before ≡ start ++ lines_to (keeper.setup a) (keeper.content a).kept done)
    → (Holds keeper b c → 1 ≤ done + 1 → done + 1 ≤ (state_of keeper b).finished → after ≡ before ++ line_on (keeper.setup b) (keeper.content b).kept (done + 1))
    → Holds keeper a c → done + 1 ≤ length (keeper.content a).reports → after ≡ start ++ lines_to (keeper.setup a) (keeper.content a).kept (done + 1)
lines_more keeper a b c done start before after one two so next h low =
    let setup : Lists = keeper.setup a in
    let kept : Kept = (keeper.content a).kept in
    let h1 : Holds keeper a b = holds_first keeper a b c two.carries h in
    let h2 : Holds keeper b c = holds_next keeper a b c one.carries two.carries h in
    let is : state_of keeper b ≡ state_of keeper a = state_asked keeper a b one h1.0 in
    let line = next h2 (omega arith) (omega (arith, low, ap (λ (s : OfficeState). s.finished) is)) in
    line ∙ ap (λ (s : OfficeState). before ++ line_on s.setup s.kept (done + 1)) is ∙ ap (λ (t : List ℕ). t ++ line_on setup kept (done + 1)) (so h1)
    ∙ append_assoc start (lines_to setup kept done) (line_on setup kept (done + 1)) ∙ ap (λ (t : List ℕ). start ++ t) (sym (lines_to-suc setup kept done))
