-- The texts at the end of a replay. P, Q and R say that the store refused: in a first part, in what follows, and in both.
use Rattle.std.proofs.Common.{◌≡◌, ℕ, zero, suc, ◌+◌, ◌-◌, ◌<◌, ◌≤◌, Bool, false, ◌||◌, is_err, is_ok, IsTrue, length, List, [], ◌∷◌, ◌++◌, Option, None, Result, Ok, Err, IfOk, sym, ap, subst, ◌∙◌, refl, arith}
use Rattle.std.proofs.Math.Bool.{or_assoc, or-false}
use Rattle.std.specs.Option.{option_map}
use Rattle.std.specs.Io.KnownBytes.{Appends}
use Rattle.std.proofs.lemmas.List.{append_assoc, append-nil, length-append}
use Rattle.office_mail.specs.Runs.{IsReadyCount}
use Rattle.office_core_orders.specs.declared.wait_lines.Progress.{Progress}
use Rattle.office_core_store.specs.declared.faults.StoreFault.{StoreFault}
use Rattle.office_core_store.specs.declared.faults.StoreFault.TheVariants.{NoMemory, Store}
use Rattle.office_store_keeper.specs.declared.values.Reports.{Reports}
use Rattle.office_mail.specs.Lists.{Lists}
use Rattle.office_mail.specs.Kept.{Kept}
use Rattle.office_core_facts.specs.OfficeState.{OfficeState}
use Rattle.office_core_facts.specs.State.{reports_at}
use Rattle.office_core_facts.specs.Outcome.{reports_of}
use Rattle.office_mail.specs.Written.{AppendsFront}
use Rattle.office_core_replay.specs.Output.{ReportMarks, or_refused, report_lines}
use Rattle.office_core_replies.specs.Replies.{status_line}
use Rattle.office_core_replay.specs.Losses.{is_missing, is_report_missing, TextCounted, ReportsCounted}
use Rattle.office_core_replay.specs.steps.Ending.{status_shown, text_shown, mark_in, report_shown, run_lines, WritesRun, WritesRunFront, WritesReports, WritesReportsFront}
use Rattle.std.proofs.KnownBytes.{Appends-nil, Appends-trans}
use Rattle.office_core.proofs.GatherFacts.{each_push}
use Rattle.office_core_facts.proofs.ReportFacts.{reports_there}
use Rattle.office_core_replay.proofs.RiseFacts.{text_weaker, reports_weaker}
use Rattle.office_mail.proofs.WrittenFacts.{front_after, front_before}

pub shown_excuses : (s : OfficeState) (run : ℕ) (r : Result (Option (List ℕ)) StoreFault) → 1 ≤ run → run ≤ s.finished → IfOk r (λ t. t ≡ option_map (λ (o : Reports). o.excuses) (reports_at s run)) → report_shown r ≡ or_refused (mark_in r) (reports_of s.setup s.kept run).excuses
shown_excuses s run (Err NoMemory) h k e = refl
shown_excuses s run (Err Store) h k e = refl
shown_excuses s run (Ok t) h k e = ap (λ (o : Option (List ℕ)). report_shown (Ok o)) (e ∙ ap (option_map (λ (o : Reports). o.excuses)) (reports_there s run h k))

pub shown_updates : (s : OfficeState) (run : ℕ) (r : Result (Option (List ℕ)) StoreFault) → 1 ≤ run → run ≤ s.finished → IfOk r (λ t. t ≡ option_map (λ (o : Reports). o.updates) (reports_at s run)) → report_shown r ≡ or_refused (mark_in r) (reports_of s.setup s.kept run).updates
shown_updates s run (Err NoMemory) h k e = refl
shown_updates s run (Err Store) h k e = refl
shown_updates s run (Ok t) h k e = ap (λ (o : Option (List ℕ)). report_shown (Ok o)) (e ∙ ap (option_map (λ (o : Reports). o.updates)) (reports_there s run h k))

pub missing_is : {A : Type 0} (r : Result A StoreFault) → is_err r ≡ is_missing (mark_in r)
missing_is (Ok x) = refl
missing_is (Err e) = refl

is_report_missing-push : (ms : List ReportMarks) (m : ReportMarks) → is_report_missing (ms ++ m ∷ []) ≡ (is_report_missing ms || (is_missing m.0 || is_missing m.1))
is_report_missing-push [] m = or-false (is_missing m.0 || is_missing m.1)
is_report_missing-push (x ∷ ms) m = ap (λ (b : Bool). (is_missing x.0 || is_missing x.1) || b) (is_report_missing-push ms m) ∙ sym (or_assoc (is_missing x.0 || is_missing x.1) (is_report_missing ms) (is_missing m.0 || is_missing m.1))

report_lines-append : (setup : Lists) (kept : Kept) (k n : ℕ) (xs ys : List ReportMarks) → k + length xs ≡ n → report_lines setup kept k (xs ++ ys) ≡ report_lines setup kept k xs ++ report_lines setup kept n ys
report_lines-append setup kept k n [] ys e = ap (λ (j : ℕ). report_lines setup kept j ys) (omega (arith, e))
report_lines-append setup kept k n (x ∷ xs) ys e =
    let a = or_refused x.0 (reports_of setup kept (k + 1)).excuses in
    let b = or_refused x.1 (reports_of setup kept (k + 1)).updates in
    ap (λ (l : List ℕ). (a ++ b) ++ l) (report_lines-append setup kept (k + 1) n xs ys (omega (arith, e)))
    ∙ sym (append_assoc (a ++ b) (report_lines setup kept (k + 1) xs) (report_lines setup kept n ys))

abbrev pub fill : ℕ → List ReportMarks
fill zero = []
fill (suc n) = (None, None) ∷ fill n

length-fill : (n : ℕ) → length (fill n) ≡ n
length-fill zero = refl
length-fill (suc n) = ap suc (length-fill n)

pub counted-fill : (rose : Type 0) (n : ℕ) → ReportsCounted rose (fill n)
counted-fill rose zero = tt
counted-fill rose (suc n) = ((tt, tt), counted-fill rose n)

each_append : (rose : Type 0) (xs ys : List ReportMarks) → ReportsCounted rose xs → ReportsCounted rose ys → ReportsCounted rose (xs ++ ys)
each_append rose [] ys h k = k
each_append rose (x ∷ xs) ys h k = (h.0, each_append rose xs ys h.1 k)

-- the lines of one run, and of those after it
lines_split : (s : OfficeState) (n : ℕ) (m : ReportMarks) (ms : List ReportMarks) → report_lines s.setup s.kept n (m ∷ ms) ≡ run_lines s (n + 1) m ++ report_lines s.setup s.kept (n + 1) ms
lines_split s n m ms = refl

pub reports_none : (s : OfficeState) (k : ℕ) (w : Option (List ℕ)) (rose : Type 0) → WritesReports s k k w w false rose
reports_none s k w rose = record { marks = []; all = omega arith; written = Appends-nil w; losses = refl; by_store = tt }

pub reports_more : (P Q R : Type 0) (s : OfficeState) (k n : ℕ) (w0 w1 w2 : Option (List ℕ)) (lost missing now : Bool) → WritesReports s k n w0 w1 lost P → (P → R) → WritesRun s (n + 1) w1 w2 missing Q → (Q → R) → now ≡ (lost || missing) → WritesReports s k (n + 1) w0 w2 now R
reports_more P Q R s k n w0 w1 w2 lost missing now so rises one one_rises e = record {
  marks = so.marks ++ one.mark ∷ [];
  all = omega (arith, length-append so.marks (one.mark ∷ []), so.all);
  written = subst (Appends w0 w2) (sym (report_lines-append s.setup s.kept k n so.marks (one.mark ∷ []) so.all ∙ ap (λ (l : List ℕ). report_lines s.setup s.kept k so.marks ++ l) (lines_split s n one.mark [] ∙ append-nil (run_lines s (n + 1) one.mark))))
      (Appends-trans w0 w1 w2 (report_lines s.setup s.kept k so.marks) (run_lines s (n + 1) one.mark) so.written one.written);
  losses = e ∙ ap (λ (b : Bool). b || missing) so.losses ∙ ap (λ (b : Bool). is_report_missing so.marks || b) one.losses ∙ sym (is_report_missing-push so.marks one.mark);
  by_store = each_push (λ (m : ReportMarks). TextCounted R m.0 × TextCounted R m.1) so.marks one.mark (reports_weaker P R so.marks rises so.by_store) (text_weaker Q R one.mark.0 one_rises one.by_store.0, text_weaker Q R one.mark.1 one_rises one.by_store.1);
}

pub reports_front : (P Q R : Type 0) (s : OfficeState) (k n all : ℕ) (w0 w1 w2 : Option (List ℕ)) (lost : Bool) → WritesReports s k n w0 w1 lost P → (P → R) → WritesRunFront s (n + 1) w1 w2 Q → (Q → R) → n < all → WritesReportsFront s k all w0 w2 R
reports_front P Q R s k n all w0 w1 w2 lost so rises one one_rises h =
    let rest = fill (all - (n + 1)) in
    record {
      marks = so.marks ++ one.mark ∷ rest;
      all = omega (arith, length-append so.marks (one.mark ∷ rest), length-fill (all - (n + 1)), so.all, h);
      written = subst (AppendsFront w0 w2) (sym (report_lines-append s.setup s.kept k n so.marks (one.mark ∷ rest) so.all ∙ ap (λ (l : List ℕ). report_lines s.setup s.kept k so.marks ++ l) (lines_split s n one.mark rest)))
          (front_after w0 w1 w2 (report_lines s.setup s.kept k so.marks) (run_lines s (n + 1) one.mark ++ report_lines s.setup s.kept (n + 1) rest) so.written
          (front_before w1 w2 (run_lines s (n + 1) one.mark) (report_lines s.setup s.kept (n + 1) rest) one.written));
      by_store = each_append R so.marks (one.mark ∷ rest) (reports_weaker P R so.marks rises so.by_store) ((text_weaker Q R one.mark.0 one_rises one.by_store.0, text_weaker Q R one.mark.1 one_rises one.by_store.1), counted-fill R (all - (n + 1)));
    }

-- the status line, and testing, as they are shown
abbrev pub count_in : Result Progress StoreFault → ℕ
count_in (Ok progress) = progress.ready
count_in (Err fault) = 0

pub shown_status : (s : OfficeState) (r : Result Progress StoreFault) → IfOk r (λ p. p.finished ≡ s.finished) → status_shown r ≡ or_refused (mark_in r) (status_line (count_in r) s.finished)
shown_status s (Err NoMemory) e = refl
shown_status s (Err Store) e = refl
shown_status s (Ok p) e = ap (status_line p.ready) e

pub ready_counted : (s : OfficeState) (r : Result Progress StoreFault) → IfOk r (λ p. IsReadyCount s.setup s.kept p.ready) → mark_in r ≡ None → IsReadyCount s.setup s.kept (count_in r)
ready_counted s (Ok p) h e = h
ready_counted s (Err f) h e = absurd (cc (e))

pub shown_text : (due : List ℕ) (r : Result (List ℕ) StoreFault) → IfOk r (λ t. t ≡ due) → text_shown r ≡ or_refused (mark_in r) due
shown_text due (Err NoMemory) e = refl
shown_text due (Err Store) e = refl
shown_text due (Ok t) e = e

pub fill_all : (k n : ℕ) → k ≤ n → k + length (fill (n - k)) ≡ n
fill_all k n h = omega (arith, length-fill (n - k), h)

pub settled_ready : (setup : Lists) (kept : Kept) (n : ℕ) (r : Result Progress StoreFault) → IfOk r (λ p. IsReadyCount setup kept p.ready) → IfOk r (λ p. (p.finished ≡ p.ready) × (n ≡ p.ready)) → IsTrue (is_ok r) → IsReadyCount setup kept n
settled_ready setup kept n (Ok p) h e t = subst (IsReadyCount setup kept) (sym e.1) h
settled_ready setup kept n (Err f) h e t = absurd (cc (t))

pub settled_unmet : (setup : Lists) (kept : Kept) (n : ℕ) (r : Result Progress StoreFault) → IfOk r (λ p. IsReadyCount setup kept p.ready) → IfOk r (λ p. (p.finished ≡ p.ready) × (n ≡ p.ready)) → mark_in r ≡ None → IsReadyCount setup kept n
settled_unmet setup kept n (Ok p) h e t = subst (IsReadyCount setup kept) (sym e.1) h
settled_unmet setup kept n (Err f) h e t = absurd (cc (t))
