-- The reports of finished runs.
use Rattle.std.proofs.Common.{◌≡◌, ⊎_elim, ℕ, zero, suc, ◌<◌, ◌≤◌, Bool, true, false, if◌then◌else◌, nat_le, ◌&&◌, List, [], ◌∷◌, ◌++◌, length, slice_get, Option, Some, None, sym, ap, ◌∙◌, refl, arith}
use Rattle.std.proofs.lemmas.Bool.{cases_lt, le-leb, lt-leb}
use Rattle.std.proofs.lemmas.List.{length-append}
use Rattle.std.proofs.lemmas.Option.{slice_get_past}
use Rattle.office_mail.specs.Lists.{Lists}
use Rattle.office_mail.specs.Kept.{Kept}
use Rattle.office_store_keeper.specs.declared.values.Reports.{Reports}
use Rattle.office_store_keeper.specs.Content.{Content, item_from_one}
use Rattle.office_core_facts.specs.OfficeState.{OfficeState}
use Rattle.office_core_facts.specs.State.{IsOffice, reports_at}
use Rattle.office_core_facts.specs.Outcome.{reports_of, reports_to}

get_push_before : {A : Type 0} (xs ys : List A) (k : ℕ) → k < length xs → slice_get (xs ++ ys) k ≡ slice_get xs k
get_push_before [] ys k h = absurd (omega arith)
get_push_before (y ∷ xs) ys zero h = refl
get_push_before (y ∷ xs) ys (suc k) h = get_push_before xs ys k (omega arith)

get_push_at : {A : Type 0} (xs : List A) (x : A) (k : ℕ) → k ≡ length xs → slice_get (xs ++ x ∷ []) k ≡ Some x
get_push_at [] x zero e = refl
get_push_at [] x (suc k) e = absurd (omega arith)
get_push_at (y ∷ xs) x zero e = absurd (omega arith)
get_push_at (y ∷ xs) x (suc k) e = get_push_at xs x k (omega arith)

length-reports_to : (setup : Lists) (kept : Kept) (n : ℕ) → length (reports_to setup kept n) ≡ n
unfolding reports_to
length-reports_to setup kept zero = refl
length-reports_to setup kept (suc n) = length-append (reports_to setup kept n) _ ∙ omega (arith, length-reports_to setup kept n)

nth_report : (setup : Lists) (kept : Kept) (n k : ℕ) → k < n → slice_get (reports_to setup kept n) k ≡ Some (reports_of setup kept (suc k))
unfolding reports_to
nth_report setup kept zero k h = absurd (omega arith)
nth_report setup kept (suc n) k h = ⊎_elim
    (λ (lt : k < n). get_push_before (reports_to setup kept n) _ k (omega (arith, lt, length-reports_to setup kept n)) ∙ nth_report setup kept n k lt)
    (λ (le : n ≤ k).
    let at : k ≡ n = omega arith in
    get_push_at (reports_to setup kept n) (reports_of setup kept (suc n)) k (omega (arith, at, length-reports_to setup kept n))
    ∙ ap (λ (m : ℕ). Some (reports_of setup kept (suc m))) (sym at))
    (cases_lt k n)

abbrev shown : Bool → Bool → Reports → Option Reports
shown a b r = if a && b then Some r else None

at_run : (setup : Lists) (kept : Kept) (n run : ℕ) → item_from_one run (reports_to setup kept n) ≡ reports_at (record { setup = setup; kept = kept; finished = n }) run
at_run setup kept n zero = refl
at_run setup kept n (suc k) = ⊎_elim
    (λ (lt : k < n). nth_report setup kept n k lt ∙ sym (ap (λ b. shown b (nat_le (suc k) n) (reports_of setup kept (suc k))) (le-leb 1 (suc k) (omega arith)) ∙ ap (λ b. shown true b (reports_of setup kept (suc k))) (le-leb (suc k) n (omega arith))))
    (λ (le : n ≤ k). slice_get_past (reports_to setup kept n) k (omega (arith, le, length-reports_to setup kept n)) ∙ sym (ap (λ b. shown b (nat_le (suc k) n) (reports_of setup kept (suc k))) (le-leb 1 (suc k) (omega arith)) ∙ ap (λ b. shown true b (reports_of setup kept (suc k))) (lt-leb (suc k) n (omega arith))))
    (cases_lt k n)

pub reports_at-is : (setup : Lists) (content : Content) (run : ℕ) → IsOffice setup content → item_from_one run content.reports ≡ reports_at (record { setup = setup; kept = content.kept; finished = length content.reports }) run
reports_at-is setup content run office = ap (item_from_one run) office.reports ∙ at_run setup content.kept (length content.reports) run

-- the reports of a finished run
pub report_is : (setup : Lists) (content : Content) (run : ℕ) → IsOffice setup content → 1 ≤ run → run ≤ length content.reports → item_from_one run content.reports ≡ Some (reports_of setup content.kept run)
report_is setup content run office first last =
    reports_at-is setup content run office
    ∙ ap (λ b. shown b (nat_le run (length content.reports)) (reports_of setup content.kept run)) (le-leb 1 run first)
    ∙ ap (λ b. shown true b (reports_of setup content.kept run)) (le-leb run (length content.reports) last)

by_test : {A : Type 0} (a b : Bool) (x : A) → a ≡ true → b ≡ true → (if a && b then Some x else None) ≡ Some x
by_test true true x e f = refl
by_test true false x e f = absurd (cc (f))
by_test false b x e f = absurd (cc (e))

-- a finished run has its reports
pub reports_there : (s : OfficeState) (run : ℕ) → 1 ≤ run → run ≤ s.finished → reports_at s run ≡ Some (reports_of s.setup s.kept run)
reports_there s run h k = by_test (nat_le 1 run) (nat_le run s.finished) (reports_of s.setup s.kept run) (le-leb 1 run h) (le-leb run s.finished k)
