-- What a replay comes to behind its last delivery. P, Q and R say that the store refused: in a first part, in what follows, and in both.
use Rattle.std.proofs.Common.{◌≡◌, ℕ, ◌≤◌, ◌-◌, Bool, false, not, ◌||◌, is_ok, IsTrue, List, Option, Some, None, Result, IfOk, sym, ap, subst, ◌∙◌, refl, arith}
use Rattle.std.specs.Io.KnownBytes.{Appends}
use Rattle.office_mail.specs.declared.bag.BagFault.{BagFault}
use Rattle.office_mail.specs.Kept.{Kept}
use Rattle.office_mail.specs.Lists.{Lists}
use Rattle.office_mail.specs.Reading.{Reading}
use Rattle.office_mail.specs.Runs.{IsReady, IsReadyCount}
use Rattle.office_core_orders.specs.declared.wait_lines.Progress.{Progress}
use Rattle.office_core_store.specs.declared.faults.StoreFault.{StoreFault}
use Rattle.office_core_store.specs.declared.faults.StoreFault.TheVariants.{NoMemory}
use Rattle.office_core_replies.specs.declared.replies.Delivery.{Delivery}
use Rattle.office_core_replies.specs.Replies.{any_lost}
use Rattle.office_mail.proofs.WrittenFacts.{front_before}
use Rattle.office_core_facts.specs.OfficeState.{OfficeState}
use Rattle.office_core_facts.specs.State.{state_of}
use Rattle.office_store_keeper.specs.declared.keeper.Keeper.{Ghosts}
use Rattle.office_core_replay.specs.declared.replays.Replayed.{Replayed}
use Rattle.office_mail.specs.Written.{AppendsFront}
use Rattle.office_core_replay.specs.Output.{Marks, output}
use Rattle.office_core_replay.specs.Losses.{MarksEnd, MarksCounted, is_short, has_refusal}
use Rattle.office_core_replay.specs.steps.BlockSteps.{DeliversLastFront}
use Rattle.office_core_replay.specs.Delivered.{KeepsMail}
use Rattle.office_core_replay.specs.steps.DeliverySteps.{DeliversAll}
use Rattle.office_core_replay.specs.Replay.{Course, ReplaysAll, ReplaysFront}
use Rattle.office_core_replay.proofs.EndFacts.{settled_ready, fill, fill_all, counted-fill}
use Rattle.office_core_replay.proofs.RiseFacts.{deliveries_weaker, marks_weaker}

-- a settle keeps what the deliveries kept
pub keeps_settled : (s0 s1 s2 : OfficeState) (ds : List Delivery) → KeepsMail s0 s1 ds → s2.setup ≡ s1.setup → s2.kept ≡ s1.kept → s1.finished ≤ s2.finished → IsReady s2.setup s2.kept s2.finished → KeepsMail s0 s2 ds
keeps_settled s0 s1 s2 ds so setup kept grows ready = record { setup = setup ∙ so.setup; kept = kept ∙ so.kept; grows = omega (arith, grows, so.grows); ready = λ h. ready }

ready_moved : (s1 s2 : OfficeState) (n : ℕ) → s2.setup ≡ s1.setup → s2.kept ≡ s1.kept → IsReady s1.setup s1.kept n → IsReady s2.setup s2.kept n
ready_moved s1 s2 n setup kept h = subst (λ (l : Lists). IsReady l s2.kept n) (sym setup) (subst (λ (k : Kept). IsReady s1.setup k n) (sym kept) h)

count_moved : (s1 s2 : OfficeState) (n : ℕ) → s2.setup ≡ s1.setup → s2.kept ≡ s1.kept → IsReadyCount s1.setup s1.kept n → IsReadyCount s2.setup s2.kept n
count_moved s1 s2 n setup kept h = subst (λ (l : Lists). IsReadyCount l s2.kept n) (sym setup) (subst (λ (k : Kept). IsReadyCount s1.setup k n) (sym kept) h)

-- what a settle left and answered
pub record Settled (s1 s2 : OfficeState) (r : Result Progress StoreFault) : Type 0 where
  pub setup : s2.setup ≡ s1.setup
  pub kept : s2.kept ≡ s1.kept
  pub grows : s1.finished ≤ s2.finished
  pub only_ready : IsReady s1.setup s1.kept s2.finished
  pub counted : IfOk r (λ p. IsReadyCount s1.setup s1.kept p.ready)
  pub finished : IfOk r (λ p. (p.finished ≡ p.ready) × (s2.finished ≡ p.ready))

pub settled_call : {K : Type 0} (keeper : Ghosts K) (a b : K) (r : Result Progress StoreFault) → IfOk r (λ p. IsReadyCount (keeper.setup a) (keeper.content a).kept p.ready) → IfOk r (λ p. (p.finished ≡ p.ready) × ((state_of keeper b).finished ≡ p.ready))
    → (keeper.content b).kept ≡ (keeper.content a).kept → (state_of keeper a).finished ≤ (state_of keeper b).finished → IsReady (keeper.setup a) (keeper.content a).kept (state_of keeper b).finished → keeper.setup b ≡ keeper.setup a → Settled (state_of keeper a) (state_of keeper b) r
settled_call keeper a b r counted finished kept grows only_ready setup = record { setup = setup; kept = kept; grows = grows; only_ready = only_ready; counted = counted; finished = finished }

-- the course of a replay: deliveries, the last settle, and the marks of the texts at the end
settled_course : (P Q R : Type 0) (s0 s1 s2 : OfficeState) (start now : Reading) (w0 w1 : Option (List ℕ)) (end : Option BagFault) (lost all settled : Bool) (r : Result Progress StoreFault) (count : ℕ) (marks : Marks)
    → DeliversAll s0 s1 start now w0 w1 end lost P → (P → R) → Settled s1 s2 r → settled ≡ is_ok r → MarksEnd s2 s0.finished count marks → MarksCounted Q marks → (Q → R)
    → all ≡ (((lost || is_short end) || not settled) || has_refusal marks) → Course s0 s2 start now end all R
settled_course P Q R s0 s1 s2 start now w0 w1 end lost all settled r count marks d rises h is each by_store marks_rise e =
    let ready = ready_moved s1 s2 s2.finished h.setup h.kept h.only_ready in
    record {
      deliveries = d.deliveries;
      came = d.came;
      keeps = keeps_settled s0 s1 s2 d.deliveries d.keeps h.setup h.kept h.grows ready;
      ready = ready;
      settled = settled;
      settles = λ t. count_moved s1 s2 s2.finished h.setup h.kept (settled_ready s1.setup s1.kept s2.finished r h.counted h.finished (subst IsTrue is t));
      count = count;
      marks = marks;
      each = each;
      losses = e ∙ ap (λ (b : Bool). ((b || is_short end) || not settled) || has_refusal marks) d.losses;
      by_store = (deliveries_weaker P R d.deliveries rises d.by_store, marks_weaker Q R marks marks_rise by_store);
    }

-- with all of its output written
pub replays_all : (P Q R : Type 0) (s0 s1 s2 : OfficeState) (start now : Reading) (w0 w1 w3 : Option (List ℕ)) (replayed : Replayed) (lost settled : Bool) (r : Result Progress StoreFault) (count : ℕ) (marks : Marks)
    → (d : DeliversAll s0 s1 start now w0 w1 replayed.bag lost P) → (P → R) → Settled s1 s2 r → settled ≡ is_ok r → MarksEnd s2 s0.finished count marks → MarksCounted Q marks → (Q → R)
    → replayed.lost ≡ (((lost || is_short replayed.bag) || not settled) || has_refusal marks)
    → Appends w0 w3 (output s0 s2 d.deliveries replayed.bag count marks) → ReplaysAll s0 s2 start now w0 w3 replayed R
unfolding settled_course
replays_all P Q R s0 s1 s2 start now w0 w1 w3 replayed lost settled r count marks d rises h is each by_store marks_rise e written = record {
  course = settled_course P Q R s0 s1 s2 start now w0 w1 replayed.bag lost replayed.lost settled r count marks d rises h is each by_store marks_rise e;
  written = written;
}

-- with a front of it written
pub replays_front : (P Q R : Type 0) (s0 s1 s2 : OfficeState) (start now : Reading) (w0 w1 w3 : Option (List ℕ)) (end : Option BagFault) (lost settled : Bool) (r : Result Progress StoreFault) (count : ℕ) (marks : Marks)
    → (d : DeliversAll s0 s1 start now w0 w1 end lost P) → (P → R) → Settled s1 s2 r → settled ≡ is_ok r → MarksEnd s2 s0.finished count marks → MarksCounted Q marks → (Q → R)
    → AppendsFront w0 w3 (output s0 s2 d.deliveries end count marks) → ReplaysFront s0 s2 start now w0 w3 R
unfolding settled_course
replays_front P Q R s0 s1 s2 start now w0 w1 w3 end lost settled r count marks d rises h is each by_store marks_rise written = record {
  end = end;
  lost = ((lost || is_short end) || not settled) || has_refusal marks;
  course = settled_course P Q R s0 s1 s2 start now w0 w1 end lost (((lost || is_short end) || not settled) || has_refusal marks) settled r count marks d rises h is each by_store marks_rise refl;
  written = written;
}

-- where the writer fails in the lines of the last block, and no settle was made behind it
pub replays_last : (rose : Type 0) (s0 s1 : OfficeState) (start now : Reading) (w0 w1 : Option (List ℕ)) → IsReady s0.setup s0.kept s0.finished → DeliversLastFront s0 s1 start now w0 w1 rose → ReplaysFront s0 s1 start now w0 w1 rose
replays_last rose s0 s1 start now w0 w1 was d =
    let more : ℕ = s1.finished - s0.finished in
    let marks : Marks = record { status = Some NoMemory; count = None; reports = fill more; testing = None } in
    record {
      end = d.end;
      lost = ((any_lost d.deliveries || is_short d.end) || not false) || has_refusal marks;
      course = record {
        deliveries = d.deliveries;
        came = d.came;
        keeps = d.keeps;
        ready = d.keeps.ready was;
        settled = false;
        settles = λ t. absurd (cc (t));
        count = 0;
        marks = marks;
        each = record { ready_is = λ e. absurd (cc (e)); runs = λ e. fill_all s0.finished s1.finished d.keeps.grows };
        losses = refl;
        by_store = (d.by_store, record { status = tt; count = tt; reports = counted-fill rose more; testing = tt });
      };
      written = front_before w0 w1 _ _ (front_before w0 w1 _ _ d.written);
    }
