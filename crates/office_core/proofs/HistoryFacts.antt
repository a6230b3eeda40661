-- What follows of a list of steps, and which steps the calls of an office are.
use Rattle.std.proofs.Common.{◌≡◌, ℕ, zero, suc, ◌+◌, ◌-◌, ◌≤◌, Bool, true, false, List, [], ◌∷◌, ◌++◌, fold, length, map, replicate, Option, Some, None, Result, Ok, Err, ◌⊎◌, ⊎_elim, inl, inr, cond, OnOk, OnErr, IfOk, IfSome, refl, sym, ap, subst, ◌∙◌, arith, append_assoc, append-nil}
use Rattle.std.proofs.lemmas.List.{length-append}
use Rattle.std.specs.FinMap.{get, empty, get-empty, get-insert}
use Rattle.std.specs.Ordering.{eq_by_cmp}
use Rattle.std.specs.Prelude.{Vec}
use Rattle.std.specs.declared.alloc.Global.{Global}
use Rattle.office_mail.specs.Kept.{Kept, Place, Within, kept_from, place_cmp, place_of}
use Rattle.office_mail.specs.Laws.{IsOneOf, OneText, SameTexts}
use Rattle.office_mail.specs.Lists.{Lists}
use Rattle.office_mail.specs.Read.{read}
use Rattle.office_mail.specs.Runs.{IsReady, IsReadyCount, orders_to, latest_day}
use Rattle.office_mail.specs.declared.message.MailFault.{MailFault}
use Rattle.office_mail.specs.declared.message.MailFault.TheVariants.{NoMemory}
use Rattle.office_mail.specs.declared.message.Message.{Message}
use Rattle.office_mail.proofs.KeptFacts.{places_total, kept_from-nil, kept_from-append, kept_from-fault, kept_from-free, kept_from-taken, kept_from-Within}
use Rattle.office_mail.proofs.LawFacts.{kept_at_place, same_kept_from}
use Rattle.office_mail.proofs.RunFacts.{IsReady-before, IsReady-later}
use Rattle.office_store_keeper.specs.Content.{Content, no_content}
use Rattle.office_store_keeper.specs.declared.values.Reports.{Reports}
use Rattle.office_core_replies.specs.Replies.{mark_of}
use Rattle.office_core_replies.specs.declared.faults.DeliverFault.{DeliverFault}
use Rattle.office_core_replies.specs.declared.faults.DeliverFault.TheVariants.{Mail, Store}
use Rattle.office_core_replies.specs.declared.faults.Held.{Held}
use Rattle.office_core_orders.specs.declared.wait_lines.Progress.{Progress}
use Rattle.office_core_store.specs.declared.faults.StoreFault.{StoreFault}
use Rattle.office_core_replies.specs.declared.replies.Mark.{Mark}
use Rattle.office_core_replies.specs.declared.replies.Mark.TheVariants.{Taken, LostForMemory, LostForStore}
use Rattle.office_core_facts.specs.Outcome.{Outcome, Testing, covered_items, outcome_of, outcome_on, reports_from, reports_to, testing_after}
use Rattle.office_core_facts.specs.State.{AnswersDelivery, IsOffice, answer_at, answer_by, answer_to}
use Rattle.office_core_outcome.proofs.OutcomeFacts.{outcome_of-later}
use Rattle.office_core.specs.History.{Step, Took, Refused, Lost, Finished, Settled, Stopped, Looked, Does, Follow, Leads, IsByRules, Agree, answer_step, by_rules, coming, deliveries, delivery, finishing, is_settled, keeping, refusal, settled_by, settling, text_in, texts_in}
use Rattle.office_core.specs.Laws.{RunsStand, RunsStay}
use Rattle.office_core.specs.Visible.{Visible, new_office, visible}
use Rattle.office_core.specs.Together.{answers_to}
use Rattle.office_core.proofs.FinishFacts.{reports_to-suc}
use Rattle.office_core.proofs.LawFacts.{more_reports, same_count}
use Rattle.office_core.proofs.OfficeFacts.{IsOffice-new, on_ok, reports_to-later, some_of}

-- ---- the finished runs are ready, and by the rules

pub record Stands (setup : Lists) (o : Visible) : Type 0 where
  pub ready : IsReady setup o.kept (length o.reports)
  pub reports : o.reports ≡ reports_to setup o.kept (length o.reports)
  pub testing : o.testing ≡ testing_after setup o.kept (length o.reports)

pub of_office : (setup : Lists) (content : Content) → IsOffice setup content → Stands setup (visible content)
of_office setup content office = record { ready = office.ready; reports = office.reports; testing = office.testing_is }

keeping_stands : (setup : Lists) (text : List ℕ) (old : Visible) → Stands setup old → Stands setup (keeping setup text old)
keeping_stands setup text old so =
    let kept : Kept = kept_from setup old.kept (text ∷ []) in
    let within : Within old.kept kept = kept_from-Within setup old.kept (text ∷ []) in
    record {
      ready = IsReady-later setup old.kept kept (length old.reports) within so.ready;
      reports = so.reports ∙ sym (reports_to-later setup old.kept kept (length old.reports) within so.ready);
      testing = so.testing ∙ sym (ap (λ (o : Outcome). o.testing) (outcome_of-later setup old.kept kept (length old.reports) within so.ready));
    }

outcome_of-next : (setup : Lists) (kept : Kept) (n : ℕ) → outcome_of setup kept (suc n) ≡ outcome_on setup (suc n) (latest_day (orders_to setup kept (suc n))) (covered_items setup kept (suc n)) (testing_after setup kept n)
unfolding outcome_of
outcome_of-next setup kept n = refl

-- what the rules give for the next run is its outcome
rules_are : (setup : Lists) (old : Visible) → Stands setup old → by_rules setup old ≡ outcome_of setup old.kept (length old.reports + 1)
rules_are setup old so =
    let n : ℕ = length old.reports in
    let one : n + 1 ≡ suc n = omega arith in
    ap (λ (t : Testing). outcome_on setup (n + 1) (latest_day (orders_to setup old.kept (n + 1))) (covered_items setup old.kept (n + 1)) t) so.testing
    ∙ ap (λ (k : ℕ). outcome_on setup k (latest_day (orders_to setup old.kept k)) (covered_items setup old.kept k) (testing_after setup old.kept n)) one
    ∙ sym (outcome_of-next setup old.kept n)
    ∙ ap (outcome_of setup old.kept) (sym one)

one_longer : (setup : Lists) (old : Visible) → length (finishing setup old).reports ≡ length old.reports + 1
one_longer setup old = length-append old.reports (reports_from (by_rules setup old) ∷ [])

finishing_stands : (setup : Lists) (old : Visible) → IsReady setup old.kept (length old.reports + 1) → Stands setup old → Stands setup (finishing setup old)
finishing_stands setup old ready so =
    let n : ℕ = length old.reports in
    let size : length (finishing setup old).reports ≡ n + 1 = one_longer setup old in
    let is : by_rules setup old ≡ outcome_of setup old.kept (n + 1) = rules_are setup old so in
    record {
      ready = subst (IsReady setup old.kept) (sym size) ready;
      reports = ap (λ (rs : List Reports). rs ++ reports_from (by_rules setup old) ∷ []) so.reports ∙ ap (λ (o : Outcome). reports_to setup old.kept n ++ reports_from o ∷ []) is
          ∙ sym (reports_to-suc setup old.kept n) ∙ ap (reports_to setup old.kept) (sym size);
      testing = ap (λ (o : Outcome). o.testing) is ∙ ap (testing_after setup old.kept) (sym size);
    }

does_stands : (setup : Lists) (s : Step) (old new : Visible) → Does setup s old new → Stands setup old → Stands setup new
does_stands setup (Took text) old new d so = subst (Stands setup) (sym d) (keeping_stands setup text old so)
does_stands setup (Refused text) old new d so = subst (Stands setup) (sym d.1) so
does_stands setup (Lost text) old new d so = subst (Stands setup) (sym d) so
does_stands setup Finished old new d so = subst (Stands setup) (sym d.1) (finishing_stands setup old d.0 so)
does_stands setup Settled old new d so = subst (Stands setup) (sym d.0) so
does_stands setup Stopped old new d so = subst (Stands setup) (sym d) so
does_stands setup Looked old new d so = subst (Stands setup) (sym d) so

follow_stands : (setup : Lists) (steps : List Step) (old new : Visible) → Follow setup old steps new → Stands setup old → Stands setup new
unfolding Follow
follow_stands setup [] old new h so = subst (Stands setup) (sym h) so
follow_stands setup (s ∷ ss) old new h so = follow_stands setup ss h.0 new h.2 (does_stands setup s old h.0 h.1 so)

-- ---- the kept mail

same_kept : (setup : Lists) (old new : Visible) → new ≡ old → new.kept ≡ kept_from setup old.kept []
same_kept setup old new same = ap (λ (o : Visible). o.kept) same ∙ sym (kept_from-nil setup old.kept)

does_kept : (setup : Lists) (s : Step) (old new : Visible) → Does setup s old new → new.kept ≡ kept_from setup old.kept (text_in s)
does_kept setup (Took text) old new d = ap (λ (o : Visible). o.kept) d
does_kept setup (Refused text) old new d = ap (λ (o : Visible). o.kept) d.0
does_kept setup (Lost text) old new d = same_kept setup old new d
does_kept setup Finished old new d = ap (λ (o : Visible). o.kept) d.1 ∙ sym (kept_from-nil setup old.kept)
does_kept setup Settled old new d = same_kept setup old new d.0
does_kept setup Stopped old new d = same_kept setup old new d
does_kept setup Looked old new d = same_kept setup old new d

pub follow_kept : (setup : Lists) (steps : List Step) (old new : Visible) → Follow setup old steps new → new.kept ≡ kept_from setup old.kept (texts_in steps)
unfolding Follow
follow_kept setup [] old new h = same_kept setup old new h
follow_kept setup (s ∷ ss) old new h =
    follow_kept setup ss h.0 new h.2
    ∙ ap (λ (k : Kept). kept_from setup k (texts_in ss)) (does_kept setup s old h.0 h.1)
    ∙ kept_from-append setup old.kept (text_in s) (texts_in ss)

-- what is kept came
put_or : (b : Bool) (t text : List ℕ) (o : Option (List ℕ)) → cond b (Some t) o ≡ Some text → (o ≡ Some text) ⊎ (text ≡ t)
put_or true t text o e = inr (cc (e))
put_or false t text o e = inl e

came_free : (setup : Lists) (kept : Kept) (t text : List ℕ) (p : Place) (m : Message) (found : Option (List ℕ)) → read setup t ≡ Ok m → get kept (place_of m) ≡ found → get (kept_from setup kept (t ∷ [])) p ≡ Some text → (get kept p ≡ Some text) ⊎ (text ≡ t)
came_free setup kept t text p m (Some stored) e at h = inl (ap (λ (k : Kept). get k p) (sym (kept_from-taken setup kept t m e (some_of (get kept (place_of m)) stored at))) ∙ h)
came_free setup kept t text p m None e at h = put_or (eq_by_cmp place_cmp p (place_of m)) t text (get kept p) (sym (get-insert places_total kept (place_of m) t p) ∙ ap (λ (k : Kept). get k p) (sym (kept_from-free setup kept t m e at)) ∙ h)

came_one : (setup : Lists) (kept : Kept) (t text : List ℕ) (p : Place) (r : Result Message MailFault) → read setup t ≡ r → get (kept_from setup kept (t ∷ [])) p ≡ Some text → (get kept p ≡ Some text) ⊎ (text ≡ t)
came_one setup kept t text p (Ok m) e h = came_free setup kept t text p m (get kept (place_of m)) e refl h
came_one setup kept t text p (Err fault) e h = inl (ap (λ (k : Kept). get k p) (sym (kept_from-fault setup kept t fault e)) ∙ h)

came : (setup : Lists) (texts : List (List ℕ)) (kept : Kept) (p : Place) (text : List ℕ) → get (kept_from setup kept texts) p ≡ Some text → (get kept p ≡ Some text) ⊎ IsOneOf text texts
came setup [] kept p text h = inl (ap (λ (k : Kept). get k p) (sym (kept_from-nil setup kept)) ∙ h)
came setup (t ∷ ts) kept p text h = ⊎_elim
    (λ before. ⊎_elim (λ o. inl o) (λ e. inr (inl e)) (came_one setup kept t text p (read setup t) refl before))
    (λ later. inr (inr later))
    (came setup ts (kept_from setup kept (t ∷ [])) p text (ap (λ (k : Kept). get k p) (kept_from-append setup kept (t ∷ []) ts) ∙ h))

pub came_of : (setup : Lists) (texts : List (List ℕ)) (p : Place) (text : List ℕ) → get (kept_from setup empty texts) p ≡ Some text → IsOneOf text texts
came_of setup texts p text h = ⊎_elim (λ o. absurd (cc (sym (get-empty place_cmp p) ∙ o))) (λ there. there) (came setup texts empty p text h)

-- ---- the headline

pub by_rules_all : (setup : Lists) (steps : List Step) (office : Visible) → Follow setup new_office steps office → IsByRules setup (texts_in steps) office
by_rules_all setup steps office h =
    let start = IsOffice-new setup in
    let so = follow_stands setup steps new_office office h (of_office setup no_content start) in
    let kept : office.kept ≡ kept_from setup empty (texts_in steps) = follow_kept setup steps new_office office h in
    record {
      kept = kept;
      all = λ one text m. (
        λ there. (ap (λ (k : Kept). get k (place_of m)) kept ∙ kept_at_place setup (texts_in steps) text m one there, there.reads),
        λ have. record { there = came_of setup (texts_in steps) (place_of m) text (ap (λ (k : Kept). get k (place_of m)) (sym kept) ∙ have.0); reads = have.1 },
      );
      ready = so.ready;
      reports = so.reports;
      testing = so.testing;
    }

-- a settled office
same_counts : (setup : Lists) (old new : Visible) → new ≡ old → IsReadyCount setup old.kept (length old.reports) → IsReadyCount setup new.kept (length new.reports)
same_counts setup old new same count = subst (λ (o : Visible). IsReadyCount setup o.kept (length o.reports)) (sym same) count

does_settled : (setup : Lists) (s : Step) (old new : Visible) (was : Bool) → Does setup s old new → (was ≡ true → IsReadyCount setup old.kept (length old.reports)) → settled_by was s ≡ true → IsReadyCount setup new.kept (length new.reports)
does_settled setup (Took text) old new was d before e = absurd (cc (e))
does_settled setup (Refused text) old new was d before e = same_counts setup old new d.1 (before e)
does_settled setup (Lost text) old new was d before e = same_counts setup old new d (before e)
does_settled setup Finished old new was d before e = absurd (cc (e))
does_settled setup Settled old new was d before e = same_counts setup old new d.0 d.1
does_settled setup Stopped old new was d before e = same_counts setup old new d (before e)
does_settled setup Looked old new was d before e = same_counts setup old new d (before e)

follow_settled : (setup : Lists) (steps : List Step) (old new : Visible) (was : Bool) → Follow setup old steps new → (was ≡ true → IsReadyCount setup old.kept (length old.reports)) → fold settled_by was steps ≡ true → IsReadyCount setup new.kept (length new.reports)
unfolding Follow
follow_settled setup [] old new was h before e = same_counts setup old new h (before e)
follow_settled setup (s ∷ ss) old new was h before e = follow_settled setup ss h.0 new (settled_by was s) h.2 (does_settled setup s old h.0 was h.1 before) e

pub settled_all : (setup : Lists) (steps : List Step) (office : Visible) → Follow setup new_office steps office → is_settled steps ≡ true → IsReadyCount setup office.kept (length office.reports)
settled_all setup steps office h e = follow_settled setup steps new_office office false h (λ f. absurd (cc (f))) e

-- ---- what was finished stands

no_more : (old new : Visible) → new.reports ≡ old.reports → new.testing ≡ old.testing → RunsStay old new
no_more old new reports testing = record { more = []; reports = reports ∙ sym (append-nil old.reports); testing = λ e. testing }

same_stay : (old new : Visible) → new ≡ old → RunsStay old new
same_stay old new same = no_more old new (ap (λ (o : Visible). o.reports) same) (ap (λ (o : Visible). o.testing) same)

finishing_stay : (setup : Lists) (old new : Visible) → new ≡ finishing setup old → RunsStay old new
finishing_stay setup old new is =
    let longer : length new.reports ≡ length old.reports + 1 = ap (λ (o : Visible). length o.reports) is ∙ one_longer setup old in
    record {
      more = reports_from (by_rules setup old) ∷ [];
      reports = ap (λ (o : Visible). o.reports) is;
      testing = λ e. absurd (omega (arith, e, longer));
    }

does_stay : (setup : Lists) (s : Step) (old new : Visible) → Does setup s old new → RunsStay old new
does_stay setup (Took text) old new d = no_more old new (ap (λ (o : Visible). o.reports) d) (ap (λ (o : Visible). o.testing) d)
does_stay setup (Refused text) old new d = same_stay old new d.1
does_stay setup (Lost text) old new d = same_stay old new d
does_stay setup Finished old new d = finishing_stay setup old new d.1
does_stay setup Settled old new d = same_stay old new d.0
does_stay setup Stopped old new d = same_stay old new d
does_stay setup Looked old new d = same_stay old new d

stay_twice : (a b c : Visible) → RunsStay a b → RunsStay b c → RunsStay a c
stay_twice a b c h k =
    let one : length b.reports ≡ length a.reports + length h.more = ap length h.reports ∙ length-append a.reports h.more in
    let two : length c.reports ≡ length b.reports + length k.more = ap length k.reports ∙ length-append b.reports k.more in
    record {
      more = h.more ++ k.more;
      reports = k.reports ∙ ap (λ (rs : List Reports). rs ++ k.more) h.reports ∙ append_assoc a.reports h.more k.more;
      testing = λ e. k.testing (omega (arith, e, one, two)) ∙ h.testing (omega (arith, e, one, two));
    }

pub follow_stay : (setup : Lists) (steps : List Step) (old new : Visible) → Follow setup old steps new → RunsStay old new
unfolding Follow
follow_stay setup [] old new h = same_stay old new h
follow_stay setup (s ∷ ss) old new h = stay_twice old h.0 new (does_stay setup s old h.0 h.1) (follow_stay setup ss h.0 new h.2)

pub leads_stand : (setup : Lists) (steps : List Step) (old new : Content) → Leads setup old steps new → RunsStand old new
leads_stand setup steps old new h = follow_stay setup steps (visible old) (visible new) h

-- ---- order and repeats

-- two offices with the same mail: what the one has finished is the first of what the other has
stands_in : (setup : Lists) (a b : Visible) → Stands setup a → Stands setup b → a.kept ≡ b.kept → length a.reports ≤ length b.reports → RunsStay a b
stands_in setup a b x y mail less =
    let n : ℕ = length a.reports in
    let m : ℕ = length b.reports in
    let split : m ≡ n + (m - n) = omega (arith, less) in
    let rest = more_reports setup b.kept n (m - n) in
    record {
      more = rest.0;
      reports = y.reports ∙ ap (reports_to setup b.kept) split ∙ rest.1
          ∙ ap (λ (rs : List Reports). rs ++ rest.0) (ap (λ (k : Kept). reports_to setup k n) (sym mail) ∙ sym x.reports);
      testing = λ e. y.testing ∙ ap (testing_after setup b.kept) e ∙ ap (λ (k : Kept). testing_after setup k n) (sym mail) ∙ sym x.testing;
    }

both_same : (setup : Lists) (a b : Visible) → Stands setup a → Stands setup b → a.kept ≡ b.kept → length a.reports ≡ length b.reports → (a.reports ≡ b.reports) × (a.testing ≡ b.testing)
both_same setup a b x y mail size = (
  x.reports ∙ ap (λ (k : Kept). reports_to setup k (length a.reports)) mail ∙ ap (reports_to setup b.kept) size ∙ sym y.reports,
  x.testing ∙ ap (λ (k : Kept). testing_after setup k (length a.reports)) mail ∙ ap (testing_after setup b.kept) size ∙ sym y.testing,
)

of_rules : (setup : Lists) (texts : List (List ℕ)) (office : Visible) → IsByRules setup texts office → Stands setup office
of_rules setup texts office is = record { ready = is.ready; reports = is.reports; testing = is.testing }

-- where the same texts came, no number has two in the one if none has two in the other
one_text : (setup : Lists) (xs ys : List (List ℕ)) → OneText setup xs → SameTexts setup xs ys → OneText setup ys
one_text setup xs ys one same = λ t u m n d e place. one t u m n ((same t m).1 d) ((same u n).1 e) place

pub agree : (setup : Lists) (xs ys : List Step) (a b : Visible) → Follow setup new_office xs a → Follow setup new_office ys b → OneText setup (texts_in xs) → SameTexts setup (texts_in xs) (texts_in ys) → Agree xs ys a b
agree setup xs ys a b h k one same =
    let x = by_rules_all setup xs a h in
    let y = by_rules_all setup ys b k in
    let p : Stands setup a = of_rules setup (texts_in xs) a x in
    let q : Stands setup b = of_rules setup (texts_in ys) b y in
    let mail : a.kept ≡ b.kept = x.kept ∙ same_kept_from setup (texts_in xs) (texts_in ys) one (one_text setup (texts_in xs) (texts_in ys) one same) same ∙ sym y.kept in
    record {
      kept = mail;
      runs = λ less. stands_in setup a b p q mail less;
      settled = λ settled_x settled_y.
          let count : IsReadyCount setup b.kept (length a.reports) = subst (λ (m : Kept). IsReadyCount setup m (length a.reports)) mail (settled_all setup xs a h settled_x) in
          both_same setup a b p q mail (same_count setup b.kept (length a.reports) (length b.reports) count (settled_all setup ys b k settled_y));
    }

-- ---- the calls of an office are such steps

follow_one : (setup : Lists) (s : Step) (old new : Visible) → Does setup s old new → Follow setup old (s ∷ []) new
unfolding Follow
follow_one setup s old new d = (new, d, refl)

follow_more : (setup : Lists) (s : Step) (ss : List Step) (old between new : Visible) → Does setup s old between → Follow setup between ss new → Follow setup old (s ∷ ss) new
unfolding Follow
follow_more setup s ss old between new d h = (between, d, h)

pub follow_twice : (setup : Lists) (xs ys : List Step) (a b c : Visible) → Follow setup a xs b → Follow setup b ys c → Follow setup a (xs ++ ys) c
unfolding Follow
follow_twice setup [] ys a b c h k = subst (λ (s : Visible). Follow setup s ys c) h k
follow_twice setup (x ∷ xs) ys a b c h k = (h.0, h.1, follow_twice setup xs ys h.0 b c h.2 k)

pub follow_looked : (setup : Lists) (old new : Visible) → new ≡ old → Follow setup old (Looked ∷ []) new
follow_looked setup old new e = follow_one setup Looked old new e

-- the same of stores' contents
pub leads_twice : (setup : Lists) (xs ys : List Step) (a b c : Content) → Leads setup a xs b → Leads setup b ys c → Leads setup a (xs ++ ys) c
leads_twice setup xs ys a b c h k = follow_twice setup xs ys (visible a) (visible b) (visible c) h k

pub looked : (setup : Lists) (old new : Content) → new ≡ old → Leads setup old (Looked ∷ []) new
looked setup old new e = follow_looked setup (visible old) (visible new) (ap visible e)

-- a text that is refused leaves what is kept
refused_at : (setup : Lists) (kept : Kept) (text : List ℕ) (fault : DeliverFault) (m : Message) (found : Option (List ℕ)) → read setup text ≡ Ok m → get kept (place_of m) ≡ found → answer_at text m found ≡ Err fault → kept_from setup kept (text ∷ []) ≡ kept
refused_at setup kept text fault m None e at due = absurd (cc (due))
refused_at setup kept text fault m (Some stored) e at due = kept_from-taken setup kept text m e (some_of (get kept (place_of m)) stored at)

refused_by : (setup : Lists) (kept : Kept) (text : List ℕ) (fault : DeliverFault) (r : Result Message MailFault) → read setup text ≡ r → answer_by kept text r ≡ Err fault → kept_from setup kept (text ∷ []) ≡ kept
refused_by setup kept text fault (Ok m) e due = refused_at setup kept text fault m (get kept (place_of m)) e refl due
refused_by setup kept text fault (Err f) e due = kept_from-fault setup kept text f e

refused_kept : (setup : Lists) (kept : Kept) (text : List ℕ) (fault : DeliverFault) → answer_to setup kept text ≡ Err fault → kept_from setup kept (text ∷ []) ≡ kept
unfolding answer_to
refused_kept setup kept text fault due = refused_by setup kept text fault (read setup text) refl due

refusal_does : (setup : Lists) (mark : Mark) (text : List ℕ) (old new : Visible) → new ≡ keeping setup text old → new ≡ old → Does setup (refusal mark text) old new
refusal_does setup Taken text old new keeps same = (keeps, same)
refusal_does setup LostForMemory text old new keeps same = same
refusal_does setup LostForStore text old new keeps same = same

lost_is : (r : Result Held DeliverFault) (fault : DeliverFault) → Err fault ≡ r → mark_of (Err fault) ≡ mark_of r
lost_is r fault e = ap mark_of e

-- the office with this mail
abbrev with_kept : Visible → Kept → Visible
with_kept o kept = record o { kept = kept }

-- what of a content is visible, by its parts
is_visible : (content : Content) (o : Visible) → content.kept ≡ o.kept → content.reports ≡ o.reports → content.testing ≡ o.testing → visible content ≡ o
is_visible content o kept reports testing = λ i. record { kept = kept i; reports = reports i; testing = testing i }

-- the office with a text that is refused is the same
none_kept : (setup : Lists) (old : Visible) (text : List ℕ) (answer : Result Held DeliverFault) → answer_to setup old.kept text ≡ answer → OnErr answer (keeping setup text old ≡ old)
none_kept setup old text (Ok held) e = tt
none_kept setup old text (Err fault) e = ap (with_kept old) (refused_kept setup old.kept text fault e)

delivered_at : (setup : Lists) (text : List ℕ) (answer : Result Held DeliverFault) (old new : Visible) → AnswersDelivery answer (answer_to setup old.kept text) → OnOk answer (new ≡ keeping setup text old) → OnErr answer (new ≡ old) → Follow setup old (delivery text answer ∷ []) new
delivered_at setup text (Ok held) old new due keeps same = follow_one setup (Took text) old new keeps
delivered_at setup text (Err fault) old new due keeps same =
    follow_one setup (refusal (mark_of (Err fault)) text) old new
    (⊎_elim
    (λ e. refusal_does setup (mark_of (Err fault)) text old new (same ∙ sym (none_kept setup old text (Err fault) (sym e))) same)
    (λ more. ⊎_elim
    (λ e. subst (λ (m : Mark). Does setup (refusal m text) old new) (sym (lost_is (Err (Mail NoMemory)) fault e)) same)
    (λ e. subst (λ (m : Mark). Does setup (refusal m text) old new) (sym (lost_is (Err Store) fault e)) same)
    more) due)

pub delivered : (setup : Lists) (text : List ℕ) (answer : Result Held DeliverFault) (old new : Content) → AnswersDelivery answer (answer_to setup old.kept text) → OnOk answer (new.kept ≡ kept_from setup old.kept (text ∷ [])) → new.testing ≡ old.testing → new.reports ≡ old.reports
    → OnErr answer (new ≡ old) → Leads setup old (delivery text answer ∷ []) new
delivered setup text (Ok held) old new due kept testing reports err =
    delivered_at setup text (Ok held) (visible old) (visible new) due (is_visible new (keeping setup text (visible old)) kept reports testing) tt
delivered setup text (Err fault) old new due kept testing reports err = delivered_at setup text (Err fault) (visible old) (visible new) due tt (ap visible err)

-- the answer that is due, where nothing but its text may be kept
due_follow : (setup : Lists) (old : Visible) (text : List ℕ) → Follow setup old (delivery text (answer_to setup old.kept text) ∷ []) (keeping setup text old)
due_follow setup old text = delivered_at setup text (answer_to setup old.kept text) old (keeping setup text old)
    (inl refl) (on_ok (answer_to setup old.kept text) refl) (none_kept setup old text (answer_to setup old.kept text) refl)

follow_none : (setup : Lists) (old new : Visible) → new ≡ old → Follow setup old [] new
unfolding Follow
follow_none setup old new e = e

all_follow : (setup : Lists) (texts : List (List ℕ)) (old new : Visible) → new ≡ with_kept old (kept_from setup old.kept texts) → Follow setup old (deliveries texts (answers_to setup old.kept texts)) new
all_follow setup [] old new is = follow_none setup old new (is ∙ ap (with_kept old) (kept_from-nil setup old.kept))
all_follow setup (t ∷ ts) old new is =
    let next : Visible = keeping setup t old in
    follow_twice setup (delivery t (answer_to setup old.kept t) ∷ []) (deliveries ts (answers_to setup next.kept ts)) old next new (due_follow setup old t)
    (all_follow setup ts next new (is ∙ ap (with_kept old) (sym (kept_from-append setup old.kept (t ∷ []) ts))))

pub together : (setup : Lists) (texts : List (List ℕ)) (answer : Result (Option (Vec (Result Held DeliverFault) Global)) StoreFault) (old new : Content)
    → IfOk answer (λ replies. IfSome replies (λ rs. rs.items ≡ answers_to setup old.kept texts)) → IfOk answer (λ replies. IfSome replies (λ rs. new.kept ≡ kept_from setup old.kept texts)) → new.reports ≡ old.reports → new.testing ≡ old.testing
    → IfOk answer (λ replies. IfSome replies (λ rs. Leads setup old (deliveries texts rs.items) new))
together setup texts (Ok (Some rs)) old new answers kept reports testing =
    subst (λ (as_due : List (Result Held DeliverFault)). Leads setup old (deliveries texts as_due) new) (sym answers)
    (all_follow setup texts (visible old) (visible new) (is_visible new (with_kept (visible old) (kept_from setup old.kept texts)) kept reports testing))
together setup texts (Ok None) old new answers kept reports testing = tt
together setup texts (Err fault) old new answers kept reports testing = tt

ready_below : (setup : Lists) (kept : Kept) (k d : ℕ) → IsReady setup kept (k + d) → IsReady setup kept k
ready_below setup kept k zero h = let e : k + 0 ≡ k = omega arith in rw e at h
ready_below setup kept k (suc d) h = let e : k + suc d ≡ suc (k + d) = omega arith in ready_below setup kept k d (IsReady-before setup kept (k + d) (rw e at h))

same_of : (setup : Lists) (a b : Visible) → Stands setup a → Stands setup b → b.kept ≡ a.kept → length b.reports ≡ length a.reports → b ≡ a
same_of setup a b x y mail size =
    let both = both_same setup b a y x mail size in
    λ i. record { kept = mail i; reports = both.0 i; testing = both.1 i }

-- so many runs finished, and then a step that changes nothing
runs_follow : (setup : Lists) (last : Step) (d : ℕ) (a b : Visible) → Stands setup a → Stands setup b → b.kept ≡ a.kept → length b.reports ≡ length a.reports + d → ((c : Visible) → b ≡ c → Does setup last c b) → Follow setup a (replicate d Finished ++ last ∷ []) b
runs_follow setup last zero a b x y mail size ends = follow_one setup last a b (ends a (same_of setup a b x y mail (omega (arith, size))))
runs_follow setup last (suc d) a b x y mail size ends =
    let next : Visible = finishing setup a in
    let up : length a.reports + suc d ≡ (length a.reports + 1) + d = omega arith in
    let all : IsReady setup a.kept ((length a.reports + 1) + d) = subst (IsReady setup a.kept) (size ∙ up) (subst (λ (k : Kept). IsReady setup k (length b.reports)) mail y.ready) in
    let ready : IsReady setup a.kept (length a.reports + 1) = ready_below setup a.kept (length a.reports + 1) d all in
    let longer : length next.reports ≡ length a.reports + 1 = one_longer setup a in
    follow_more setup Finished (replicate d Finished ++ last ∷ []) a next b (ready, refl)
    (runs_follow setup last d next b (finishing_stands setup a ready x) y mail (omega (arith, size, longer)) ends)

settle_ends : (setup : Lists) (answer : Result Progress StoreFault) (c b : Visible) → IfOk answer (λ p. IsReadyCount setup b.kept (length b.reports)) → b ≡ c → Does setup (answer_step answer) c b
settle_ends setup (Ok p) c b count same = (same, same_counts setup b c (sym same) count)
settle_ends setup (Err fault) c b count same = same

pub settled : (setup : Lists) (answer : Result Progress StoreFault) (old new : Content) → IsOffice setup old → IsOffice setup new → new.kept ≡ old.kept → length old.reports ≤ length new.reports → IfOk answer (λ p. IsReadyCount setup new.kept (length new.reports))
    → Leads setup old (settling (length new.reports - length old.reports) answer) new
settled setup answer old new was is mail grown count =
    runs_follow setup (answer_step answer) (length new.reports - length old.reports) (visible old) (visible new) (of_office setup old was) (of_office setup new is) mail (omega (arith, grown)) (λ c same. settle_ends setup answer c (visible new) count same)

-- ---- whatever an office leaves is led to by such steps

took_follow : (setup : Lists) (texts : List (List ℕ)) (old : Visible) → Follow setup old (map (λ t. Took t) texts) (with_kept old (kept_from setup old.kept texts))
took_follow setup [] old = follow_none setup old (with_kept old (kept_from setup old.kept [])) (ap (with_kept old) (kept_from-nil setup old.kept))
took_follow setup (t ∷ ts) old =
    let next : Visible = keeping setup t old in
    follow_more setup (Took t) (map (λ t. Took t) ts) old next (with_kept old (kept_from setup old.kept (t ∷ ts))) refl
    (subst (λ (k : Kept). Follow setup next (map (λ t. Took t) ts) (with_kept old k)) (kept_from-append setup old.kept (t ∷ []) ts) (took_follow setup ts next))

came_lead : (setup : Lists) (texts : List (List ℕ)) (last : Step) (old new : Content) → IsOffice setup old → IsOffice setup new → new.kept ≡ kept_from setup old.kept texts → length old.reports ≤ length new.reports → ((c : Visible) → visible new ≡ c → Does setup last c (visible new))
    → Leads setup old (map (λ t. Took t) texts ++ (replicate (length new.reports - length old.reports) Finished ++ last ∷ [])) new
came_lead setup texts last old new was is mail grown ends =
    let d : ℕ = length new.reports - length old.reports in
    let start : Visible = visible old in
    let mid : Visible = with_kept start (kept_from setup old.kept texts) in
    let took : Follow setup start (map (λ t. Took t) texts) mid = took_follow setup texts start in
    follow_twice setup (map (λ t. Took t) texts) (replicate d Finished ++ last ∷ []) start mid (visible new) took
    (runs_follow setup last d mid (visible new) (follow_stands setup (map (λ t. Took t) texts) start mid took (of_office setup old was)) (of_office setup new is) mail (omega (arith, grown)) ends)

pub came_leads : (setup : Lists) (texts : List (List ℕ)) (old new : Content) → IsOffice setup old → IsOffice setup new → new.kept ≡ kept_from setup old.kept texts → length old.reports ≤ length new.reports
    → Leads setup old (coming texts (length new.reports - length old.reports) Looked) new
came_leads setup texts old new was is mail grown = came_lead setup texts Looked old new was is mail grown (λ c same. same)

pub came_settled : (setup : Lists) (texts : List (List ℕ)) (old new : Content) → IsOffice setup old → IsOffice setup new → new.kept ≡ kept_from setup old.kept texts → length old.reports ≤ length new.reports → IsReadyCount setup new.kept (length new.reports)
    → Leads setup old (coming texts (length new.reports - length old.reports) Settled) new
came_settled setup texts old new was is mail grown count =
    came_lead setup texts Settled old new was is mail grown (λ c same. (same, same_counts setup (visible new) c (sym same) count))
