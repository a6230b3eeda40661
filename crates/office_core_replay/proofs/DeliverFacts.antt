-- One delivery more. P, Q and R say that the store refused: in a first part, in what follows, and in both.
use Rattle.std.proofs.Common.{◌≡◌, ℕ, ◌≤◌, Bool, true, false, ◌||◌, List, [], ◌∷◌, ◌++◌, map, flat_map, ◌⊎◌, ⊎_elim, Option, Result, Ok, Err, IsTrue, sym, ap, subst, ◌∙◌, refl, arith}
use Rattle.std.specs.Io.KnownBytes.{Appends, Consumes}
use Rattle.std.proofs.KnownBytes.{Appends-nil, Appends-trans, Consumes-nil, Consumes-trans}
use Rattle.std.proofs.lemmas.List.{append_assoc, append-nil, map-append}
use Rattle.std.proofs.lemmas.List.Concat.{flat_map-append}
use Rattle.office_mail.specs.declared.bag.BagFault.{BagFault}
use Rattle.office_mail.specs.declared.bag.BagFault.TheVariants.{ReadFault}
use Rattle.office_mail.specs.Bag.{framed, handed, HasHeader}
use Rattle.office_mail.specs.Lists.{Lists}
use Rattle.office_mail.specs.Reading.{Reading}
use Rattle.office_mail.specs.BagSteps.{TakesMessage, Stops}
use Rattle.office_mail.specs.Kept.{Kept, kept_from}
use Rattle.office_mail.specs.Runs.{IsReady}
use Rattle.office_mail.proofs.KeptFacts.{kept_from-nil, kept_from-append}
use Rattle.office_core_replies.specs.declared.replies.Delivery.{Delivery}
use Rattle.office_core_replies.specs.declared.replies.Mark.{Mark}
use Rattle.office_core_replies.specs.declared.replies.Mark.TheVariants.{Taken, LostForMemory, LostForStore}
use Rattle.office_core_facts.specs.OfficeState.{OfficeState}
use Rattle.office_core_facts.specs.State.{answer_to}
use Rattle.office_core_replies.specs.Replies.{reply_line, reply_by, if_taken, not_lost, is_lost, any_lost}
use Rattle.office_core_replay.specs.Output.{reply_to, reply_lines}
use Rattle.office_mail.specs.Written.{AppendsFront}
use Rattle.office_core_replay.specs.Losses.{DeliveryCounted}
use Rattle.office_core_replay.specs.Delivered.{CameFrom, CameFirst, KeepsMail, DeliversFront}
use Rattle.office_core_replay.specs.steps.DeliverySteps.{Delivers, DeliversAll, DeliversOne, DeliversOneFront}
use Rattle.office_core.proofs.GatherFacts.{each_push}
use Rattle.office_core_replay.proofs.RiseFacts.{delivery_weaker, deliveries_weaker}
use Rattle.office_mail.proofs.WrittenFacts.{front_after}

-- a flag that isn't set
pub not_true : (b : Bool) → (IsTrue b → ⊥) → b ≡ false
not_true true h = absurd (h refl)
not_true false h = refl

-- a message came, so no read failed
pub unfailed : {A : Type 0} (x : A) (old new : ℕ) → (◌≡◌ {A = Result A BagFault} (Ok x) (Err ReadFault)) ⊎ (new ≡ old) → new ≡ old
unfailed x old new h = ⊎_elim (λ e. absurd (cc (e))) (λ e. e) h

pub if_taken-append : (mark : Mark) (text : List ℕ) (xs ys : List (List ℕ)) → if_taken mark text (xs ++ ys) ≡ if_taken mark text xs ++ ys
if_taken-append Taken text xs ys = refl
if_taken-append LostForMemory text xs ys = refl
if_taken-append LostForStore text xs ys = refl

pub not_lost-push : (ds : List Delivery) (d : Delivery) → not_lost (ds ++ d ∷ []) ≡ not_lost ds ++ if_taken d.mark d.text []
not_lost-push [] d = refl
not_lost-push (e ∷ ds) d = ap (if_taken e.mark e.text) (not_lost-push ds d) ∙ if_taken-append e.mark e.text (not_lost ds) (if_taken d.mark d.text [])

pub one_lost : (e : Delivery) (ds : List Delivery) → not_lost (e ∷ []) ++ not_lost ds ≡ not_lost (e ∷ ds)
one_lost e ds = sym (if_taken-append e.mark e.text [] (not_lost ds))

pub reply_lines-push : (setup : Lists) (kept : Kept) (ds : List Delivery) (d : Delivery) → reply_lines setup kept (ds ++ d ∷ []) ≡ reply_lines setup kept ds ++ reply_line setup (reply_to setup (kept_from setup kept (not_lost ds)) d)
reply_lines-push setup kept [] d = append-nil _ ∙ ap (λ (k : Kept). reply_line setup (reply_to setup k d)) (sym (kept_from-nil setup kept))
reply_lines-push setup kept (e ∷ ds) d =
    ap (λ (l : List ℕ). reply_line setup (reply_to setup kept e) ++ l) (reply_lines-push setup (kept_from setup kept (not_lost (e ∷ []))) ds d
    ∙ ap (λ (k : Kept). reply_lines setup (kept_from setup kept (not_lost (e ∷ []))) ds ++ reply_line setup (reply_to setup k d))
    (kept_from-append setup kept (not_lost (e ∷ [])) (not_lost ds) ∙ ap (kept_from setup kept) (one_lost e ds)))
    ∙ sym (append_assoc (reply_line setup (reply_to setup kept e)) (reply_lines setup (kept_from setup kept (not_lost (e ∷ []))) ds) _)

or_false : (b : Bool) → (b || false) ≡ (false || b)
or_false true = refl
or_false false = refl

pub or_assoc : (a b c : Bool) → (a || (b || c)) ≡ ((a || b) || c)
or_assoc true b c = refl
or_assoc false b c = refl

pub any_lost-push : (ds : List Delivery) (d : Delivery) → any_lost (ds ++ d ∷ []) ≡ (any_lost ds || is_lost d.mark)
any_lost-push [] d = or_false (is_lost d.mark)
any_lost-push (e ∷ ds) d = ap (λ (b : Bool). is_lost e.mark || b) (any_lost-push ds d) ∙ or_assoc (is_lost e.mark) (any_lost ds) (is_lost d.mark)

pub came_none : (b : Reading) → CameFirst b b []
came_none b = record { messages = []; each = tt; took = Consumes-nil b.left; same = refl }

-- one message more
pub came_more : (start b1 b2 : Reading) (ds : List Delivery) (text : List ℕ) (mark : Mark) → CameFirst start b1 ds → TakesMessage b1 b2 text → CameFirst start b2 (ds ++ record { text = text; mark = mark } ∷ [])
came_more start b1 b2 ds text mark so took =
    let d : Delivery = record { text = text; mark = mark } in
    record {
      messages = so.messages ++ took.whole ∷ [];
      each = each_push HasHeader so.messages took.whole so.each took.announced;
      took = subst (Consumes start.left b2.left) (ap (λ (l : List ℕ). flat_map framed so.messages ++ l) (sym (append-nil (framed took.whole))) ∙ sym (flat_map-append framed so.messages (took.whole ∷ [])))
          (Consumes-trans start.left b1.left b2.left (flat_map framed so.messages) (framed took.whole) so.took took.took);
      same = map-append (λ (e : Delivery). e.text) ds (d ∷ []) ∙ ap (λ (l : List (List ℕ)). l ++ text ∷ []) so.same
          ∙ ap (λ (m : List ℕ). map handed so.messages ++ m ∷ []) took.same ∙ sym (map-append handed so.messages (took.whole ∷ []));
    }

-- where the bag stops behind them
pub came_from : (start b now : Reading) (ds : List Delivery) (end : Option BagFault) → CameFirst start b ds → Stops b now end → CameFrom start now ds end
came_from start b now ds end so stops = record {
  came = flat_map framed so.messages ++ stops.rest;
  messages = so.messages;
  took = Consumes-trans start.left b.left now.unread (flat_map framed so.messages) stops.rest so.took stops.came;
  bag = record { rest = stops.rest; whole = refl; each = so.each; ends = stops.ends };
  met = stops.met;
  same = so.same;
}

pub keeps_none : (s : OfficeState) → KeepsMail s s []
keeps_none s = record { setup = refl; kept = sym (kept_from-nil s.setup s.kept); grows = omega arith; ready = λ h. h }

-- one delivery more
pub keeps_more : (s0 s1 s2 : OfficeState) (ds : List Delivery) (text : List ℕ) (mark : Mark) → KeepsMail s0 s1 ds → s2.kept ≡ kept_from s1.setup s1.kept (if_taken mark text []) → s2.setup ≡ s1.setup → s1.finished ≤ s2.finished
    → IsReady s2.setup s2.kept s2.finished → KeepsMail s0 s2 (ds ++ record { text = text; mark = mark } ∷ [])
keeps_more s0 s1 s2 ds text mark so kept setup grows ready =
    let d : Delivery = record { text = text; mark = mark } in
    record {
      setup = setup ∙ so.setup;
      kept = kept ∙ ap (λ (st : Lists). kept_from st s1.kept (if_taken mark text [])) so.setup ∙ ap (λ (k : Kept). kept_from s0.setup k (if_taken mark text [])) so.kept
          ∙ kept_from-append s0.setup s0.kept (not_lost ds) (if_taken mark text []) ∙ ap (kept_from s0.setup s0.kept) (sym (not_lost-push ds d));
      grows = omega (arith, so.grows, grows);
      ready = λ h. ready;
    }

pub delivers_none : (s : OfficeState) (b : Reading) (w : Option (List ℕ)) (rose : Type 0) → Delivers s s b b w w false rose
delivers_none s b w rose = record { deliveries = []; came = came_none b; keeps = keeps_none s; written = Appends-nil w; losses = refl; by_store = tt }

-- the line that answers the next delivery, seen from the start
pub line_after : (s0 s1 : OfficeState) (ds : List Delivery) (text : List ℕ) (mark : Mark) → KeepsMail s0 s1 ds
    → reply_line s1.setup (reply_by mark (answer_to s1.setup s1.kept text)) ≡ reply_line s0.setup (reply_to s0.setup (kept_from s0.setup s0.kept (not_lost ds)) (record { text = text; mark = mark }))
line_after s0 s1 ds text mark so =
    ap (λ (st : Lists). reply_line st (reply_by mark (answer_to st s1.kept text))) so.setup ∙ ap (λ (k : Kept). reply_line s0.setup (reply_by mark (answer_to s0.setup k text))) so.kept

pub delivers_more : (P Q R : Type 0) (lost now : Bool) (s0 s1 s2 : OfficeState) (start b1 b2 : Reading) (w0 w1 w2 : Option (List ℕ)) (text : List ℕ) (mark : Mark) → Delivers s0 s1 start b1 w0 w1 lost P → (P → R) → TakesMessage b1 b2 text
    → DeliversOne s1 s2 text mark w1 w2 Q → (Q → R) → now ≡ (lost || is_lost mark) → Delivers s0 s2 start b2 w0 w2 now R
delivers_more P Q R lost now s0 s1 s2 start b1 b2 w0 w1 w2 text mark so rises took one one_rises e =
    let d : Delivery = record { text = text; mark = mark } in
    let before : Kept = kept_from s0.setup s0.kept (not_lost so.deliveries) in
    record {
      deliveries = so.deliveries ++ d ∷ [];
      came = came_more start b1 b2 so.deliveries text mark so.came took;
      keeps = keeps_more s0 s1 s2 so.deliveries text mark so.keeps one.kept one.setup one.settles.grows one.settles.ready;
      written = subst (Appends w0 w2) (sym (reply_lines-push s0.setup s0.kept so.deliveries d))
          (Appends-trans w0 w1 w2 (reply_lines s0.setup s0.kept so.deliveries) (reply_line s0.setup (reply_to s0.setup before d)) so.written
          (subst (Appends w1 w2) (line_after s0 s1 so.deliveries text mark so.keeps) one.written));
      losses = e ∙ ap (λ (b : Bool). b || is_lost mark) so.losses ∙ sym (any_lost-push so.deliveries d);
      by_store = each_push (λ (e : Delivery). DeliveryCounted R e.mark) so.deliveries d (deliveries_weaker P R so.deliveries rises so.by_store) (delivery_weaker Q R mark one_rises one.by_store);
    }

-- where the writer fails at the next line
pub delivers_front : (P Q R : Type 0) (lost : Bool) (s0 s1 s2 : OfficeState) (start b1 b2 : Reading) (w0 w1 w2 : Option (List ℕ)) (text : List ℕ) → Delivers s0 s1 start b1 w0 w1 lost P → (P → R) → TakesMessage b1 b2 text
    → DeliversOneFront s1 s2 text w1 w2 Q → (Q → R) → DeliversFront s0 s2 start b2 w0 w2 R
delivers_front P Q R lost s0 s1 s2 start b1 b2 w0 w1 w2 text so rises took one one_rises =
    let d : Delivery = record { text = text; mark = one.mark } in
    let before : Kept = kept_from s0.setup s0.kept (not_lost so.deliveries) in
    record {
      deliveries = so.deliveries ++ d ∷ [];
      came = came_more start b1 b2 so.deliveries text one.mark so.came took;
      keeps = keeps_more s0 s1 s2 so.deliveries text one.mark so.keeps one.kept one.setup (omega (arith, one.finished)) one.ready;
      written = subst (AppendsFront w0 w2) (sym (reply_lines-push s0.setup s0.kept so.deliveries d))
          (front_after w0 w1 w2 (reply_lines s0.setup s0.kept so.deliveries) (reply_line s0.setup (reply_to s0.setup before d)) so.written
          (subst (AppendsFront w1 w2) (line_after s0 s1 so.deliveries text one.mark so.keeps) one.written));
      by_store = each_push (λ (e : Delivery). DeliveryCounted R e.mark) so.deliveries d (deliveries_weaker P R so.deliveries rises so.by_store) (delivery_weaker Q R one.mark one_rises one.by_store);
    }

-- the bag stops behind what was delivered
pub delivers_all : (rose : Type 0) (s0 s1 : OfficeState) (start b now : Reading) (w0 w1 : Option (List ℕ)) (end : Option BagFault) (lost : Bool) → Delivers s0 s1 start b w0 w1 lost rose → Stops b now end → DeliversAll s0 s1 start now w0 w1 end lost rose
delivers_all rose s0 s1 start b now w0 w1 end lost so stops = record {
  deliveries = so.deliveries;
  came = came_from start b now so.deliveries end so.came stops;
  keeps = so.keeps;
  written = so.written;
  losses = so.losses;
  by_store = so.by_store;
}
