-- Deliveries a block at a time, and one by one. P, Q and R say that the store refused: in a first part, in what follows, and in both.
use Rattle.std.proofs.Common.{◌≡◌, ℕ, ◌<◌, ◌+◌, length, take, drop, get_or, Bool, true, false, ◌||◌, List, [], ◌∷◌, ◌++◌, map, flat_map, ◌⊎◌, inl, inr, Option, Result, Ok, Err, OnOk, OnErr, IfOk, IfErr, sym, ap, subst, ◌∙◌, refl, arith}
use Rattle.std.specs.List.{AllByRecursion}
use Rattle.std.specs.Io.KnownBytes.{Appends, Consumes}
use Rattle.std.proofs.KnownBytes.{Appends-nil, Appends-trans, Consumes-nil, Consumes-trans}
use Rattle.std.proofs.lemmas.List.{append_assoc, append-nil, map-append, take_more, take-append-drop}
use Rattle.std.proofs.lemmas.List.Concat.{flat_map-append}
use Rattle.office_mail.specs.declared.bag.BagFault.{BagFault}
use Rattle.office_mail.specs.Bag.{framed, handed, HasHeader}
use Rattle.office_mail.specs.BagSteps.{TakesMessage, Stops}
use Rattle.office_mail.specs.Lists.{Lists}
use Rattle.office_mail.specs.Reading.{Reading}
use Rattle.office_mail.specs.Kept.{Kept, kept_from}
use Rattle.office_mail.specs.Runs.{IsReady}
use Rattle.office_mail.proofs.KeptFacts.{kept_from-nil, kept_from-append}
use Rattle.office_core_replies.specs.declared.faults.DeliverFault.{DeliverFault}
use Rattle.office_core_replies.specs.declared.faults.Held.{Held}
use Rattle.office_core_replies.specs.declared.replies.Delivery.{Delivery}
use Rattle.office_core_replies.specs.declared.replies.Mark.{Mark}
use Rattle.office_core_replies.specs.declared.replies.Mark.TheVariants.{Taken, LostForMemory, LostForStore}
use Rattle.office_core_replies.specs.Replies.{reply_line, if_taken, not_lost, is_lost, any_lost}
use Rattle.office_mail.specs.Written.{AppendsFront}
use Rattle.office_mail.proofs.WrittenFacts.{front_after, front_before}
use Rattle.office_core_facts.specs.OfficeState.{OfficeState}
use Rattle.office_core_facts.specs.State.{answer_to}
use Rattle.office_core_replay.specs.Output.{reply_to, reply_lines}
use Rattle.office_core_replay.specs.Losses.{DeliveryCounted, DeliveriesCounted}
use Rattle.office_core_replay.specs.Delivered.{CameFirst, KeepsMail, DeliversFront}
use Rattle.office_core_replay.specs.steps.DeliverySteps.{Delivers, DeliversAll, DeliversOne, DeliversOneFront}
use Rattle.office_core_replay.specs.Blocks.{DeliversTexts}
use Rattle.office_core.specs.Together.{answers_to}
use Rattle.office_core_replay.specs.steps.BlockSteps.{DeliversTextsFront, TakesTexts, TakesLast, DeliversLastFront}
use Rattle.office_core_replay.proofs.RiseFacts.{delivery_weaker, deliveries_weaker}
use Rattle.office_core.proofs.GatherFacts.{each_push}
use Rattle.office_core_replay.proofs.DeliverFacts.{keeps_none, keeps_more, came_from, delivers_all, reply_lines-push, any_lost-push, line_after, if_taken-append, one_lost, or_assoc}

-- ---- lists of deliveries, joined

not_lost-append : (ds es : List Delivery) → not_lost (ds ++ es) ≡ not_lost ds ++ not_lost es
not_lost-append [] es = refl
not_lost-append (d ∷ ds) es = ap (if_taken d.mark d.text) (not_lost-append ds es) ∙ if_taken-append d.mark d.text (not_lost ds) (not_lost es)

reply_lines-append : (setup : Lists) (kept : Kept) (ds es : List Delivery) → reply_lines setup kept (ds ++ es) ≡ reply_lines setup kept ds ++ reply_lines setup (kept_from setup kept (not_lost ds)) es
reply_lines-append setup kept [] es = ap (λ (k : Kept). reply_lines setup k es) (sym (kept_from-nil setup kept))
reply_lines-append setup kept (d ∷ ds) es =
    let next : Kept = kept_from setup kept (not_lost (d ∷ [])) in
    ap (λ (l : List ℕ). reply_line setup (reply_to setup kept d) ++ l) (reply_lines-append setup next ds es
    ∙ ap (λ (k : Kept). reply_lines setup next ds ++ reply_lines setup k es) (kept_from-append setup kept (not_lost (d ∷ [])) (not_lost ds) ∙ ap (kept_from setup kept) (one_lost d ds)))
    ∙ sym (append_assoc (reply_line setup (reply_to setup kept d)) (reply_lines setup next ds) _)

any_lost-append : (ds es : List Delivery) → any_lost (ds ++ es) ≡ (any_lost ds || any_lost es)
any_lost-append [] es = refl
any_lost-append (d ∷ ds) es = ap (λ (b : Bool). is_lost d.mark || b) (any_lost-append ds es) ∙ or_assoc (is_lost d.mark) (any_lost ds) (any_lost es)

each_append : {A : Type 0} (P : A → Type 0) (xs ys : List A) → AllByRecursion P xs → AllByRecursion P ys → AllByRecursion P (xs ++ ys)
each_append P [] ys h k = k
each_append P (x ∷ xs) ys h k = (h.0, each_append P xs ys h.1 k)

keeps_append : (s0 s1 s2 : OfficeState) (ds es : List Delivery) → KeepsMail s0 s1 ds → KeepsMail s1 s2 es → KeepsMail s0 s2 (ds ++ es)
keeps_append s0 s1 s2 ds es a b = record {
  setup = b.setup ∙ a.setup;
  kept = b.kept ∙ ap (λ (st : Lists). kept_from st s1.kept (not_lost es)) a.setup ∙ ap (λ (k : Kept). kept_from s0.setup k (not_lost es)) a.kept
      ∙ kept_from-append s0.setup s0.kept (not_lost ds) (not_lost es) ∙ ap (kept_from s0.setup s0.kept) (sym (not_lost-append ds es));
  grows = omega (arith, a.grows, b.grows);
  ready = λ h. b.ready (a.ready h);
}

lines_after : (s0 s1 : OfficeState) (ds es : List Delivery) → KeepsMail s0 s1 ds → reply_lines s1.setup s1.kept es ≡ reply_lines s0.setup (kept_from s0.setup s0.kept (not_lost ds)) es
lines_after s0 s1 ds es so = ap (λ (st : Lists). reply_lines st s1.kept es) so.setup ∙ ap (λ (k : Kept). reply_lines s0.setup k es) so.kept

-- ---- texts that are all taken, and texts that are all lost

abbrev marked : Mark → List ℕ → Delivery
marked mark text = record { text = text; mark = mark }

texts_marked : (mark : Mark) (texts : List (List ℕ)) → map (λ (d : Delivery). d.text) (map (marked mark) texts) ≡ texts
texts_marked mark [] = refl
texts_marked mark (t ∷ ts) = ap (λ (l : List (List ℕ)). t ∷ l) (texts_marked mark ts)

taken_texts : (texts : List (List ℕ)) → not_lost (map (marked Taken) texts) ≡ texts
taken_texts [] = refl
taken_texts (t ∷ ts) = ap (λ (l : List (List ℕ)). t ∷ l) (taken_texts ts)

lost_texts : (texts : List (List ℕ)) → not_lost (map (marked LostForMemory) texts) ≡ []
lost_texts [] = refl
lost_texts (t ∷ ts) = lost_texts ts

none_lost : (texts : List (List ℕ)) → any_lost (map (marked Taken) texts) ≡ false
none_lost [] = refl
none_lost (t ∷ ts) = none_lost ts

taken_counted : (rose : Type 0) (texts : List (List ℕ)) → DeliveriesCounted rose (map (marked Taken) texts)
taken_counted rose [] = tt
taken_counted rose (t ∷ ts) = (tt, taken_counted rose ts)

lost_counted : (rose : Type 0) (texts : List (List ℕ)) → DeliveriesCounted rose (map (marked LostForMemory) texts)
lost_counted rose [] = tt
lost_counted rose (t ∷ ts) = (tt, lost_counted rose ts)

taken_lines : (setup : Lists) (kept : Kept) (texts : List (List ℕ)) → flat_map (reply_line setup) (answers_to setup kept texts) ≡ reply_lines setup kept (map (marked Taken) texts)
taken_lines setup kept [] = refl
taken_lines setup kept (t ∷ ts) = ap (λ (l : List ℕ). reply_line setup (answer_to setup kept t) ++ l) (taken_lines setup (kept_from setup kept (t ∷ [])) ts)

-- ---- a block that is kept

block_keeps : (s0 s1 s2 : OfficeState) (texts : List (List ℕ)) → s1.setup ≡ s0.setup → s1.kept ≡ kept_from s0.setup s0.kept texts → s1.finished ≡ s0.finished → (IsReady s0.setup s0.kept s0.finished → IsReady s1.setup s1.kept s1.finished)
    → KeepsMail s1 s2 [] → KeepsMail s0 s2 (map (marked Taken) texts)
block_keeps s0 s1 s2 texts setup kept finished later settled = record {
  setup = settled.setup ∙ setup;
  kept = settled.kept ∙ kept_from-nil s1.setup s1.kept ∙ kept ∙ ap (kept_from s0.setup s0.kept) (sym (taken_texts texts));
  grows = omega (arith, settled.grows, finished);
  ready = λ h. settled.ready (later h);
}

-- All texts are kept together, their answers are written, and a settle may follow: this is what delivering them one by one does.
pub block_delivers : (rose : Type 0) (s0 s1 s2 : OfficeState) (texts : List (List ℕ)) (replies : List (Result Held DeliverFault)) (w0 w1 : Option (List ℕ)) → s1.setup ≡ s0.setup → s1.kept ≡ kept_from s0.setup s0.kept texts → s1.finished ≡ s0.finished
    → (IsReady s0.setup s0.kept s0.finished → IsReady s1.setup s1.kept s1.finished) → KeepsMail s1 s2 [] → replies ≡ answers_to s0.setup s0.kept texts → Appends w0 w1 (flat_map (reply_line s0.setup) replies) → DeliversTexts s0 s2 texts w0 w1 false rose
block_delivers rose s0 s1 s2 texts replies w0 w1 setup kept finished later settled answers wrote = record {
  deliveries = map (marked Taken) texts;
  same = texts_marked Taken texts;
  keeps = block_keeps s0 s1 s2 texts setup kept finished later settled;
  written = subst (Appends w0 w1) (ap (flat_map (reply_line s0.setup)) answers ∙ taken_lines s0.setup s0.kept texts) wrote;
  losses = sym (none_lost texts);
  by_store = taken_counted rose texts;
}

-- where the writer fails in their lines
pub block_front : (rose : Type 0) (s0 s1 : OfficeState) (texts : List (List ℕ)) (replies : List (Result Held DeliverFault)) (w0 w1 : Option (List ℕ)) → s1.setup ≡ s0.setup → s1.kept ≡ kept_from s0.setup s0.kept texts → s1.finished ≡ s0.finished
    → (IsReady s0.setup s0.kept s0.finished → IsReady s1.setup s1.kept s1.finished) → replies ≡ answers_to s0.setup s0.kept texts → AppendsFront w0 w1 (flat_map (reply_line s0.setup) replies) → DeliversTextsFront s0 s1 texts w0 w1 rose
block_front rose s0 s1 texts replies w0 w1 setup kept finished later answers wrote = record {
  deliveries = map (marked Taken) texts;
  same = texts_marked Taken texts;
  keeps = block_keeps s0 s1 s1 texts setup kept finished later (keeps_none s1);
  written = subst (AppendsFront w0 w1) (ap (flat_map (reply_line s0.setup)) answers ∙ taken_lines s0.setup s0.kept texts) wrote;
  by_store = taken_counted rose texts;
}

-- ---- one by one

pub texts_none : (s : OfficeState) (w : Option (List ℕ)) (rose : Type 0) → DeliversTexts s s [] w w false rose
texts_none s w rose = record { deliveries = []; same = refl; keeps = keeps_none s; written = Appends-nil w; losses = refl; by_store = tt }

pub texts_more : (P Q R : Type 0) (lost now : Bool) (s0 s1 s2 : OfficeState) (texts : List (List ℕ)) (text : List ℕ) (w0 w1 w2 : Option (List ℕ)) (mark : Mark) → DeliversTexts s0 s1 texts w0 w1 lost P → (P → R)
    → DeliversOne s1 s2 text mark w1 w2 Q → (Q → R) → now ≡ (lost || is_lost mark) → DeliversTexts s0 s2 (texts ++ text ∷ []) w0 w2 now R
texts_more P Q R lost now s0 s1 s2 texts text w0 w1 w2 mark so rises one one_rises e =
    let d : Delivery = record { text = text; mark = mark } in
    let before : Kept = kept_from s0.setup s0.kept (not_lost so.deliveries) in
    record {
      deliveries = so.deliveries ++ d ∷ [];
      same = map-append (λ (x : Delivery). x.text) so.deliveries (d ∷ []) ∙ ap (λ (l : List (List ℕ)). l ++ text ∷ []) so.same;
      keeps = keeps_more s0 s1 s2 so.deliveries text mark so.keeps one.kept one.setup one.settles.grows one.settles.ready;
      written = subst (Appends w0 w2) (sym (reply_lines-push s0.setup s0.kept so.deliveries d))
          (Appends-trans w0 w1 w2 (reply_lines s0.setup s0.kept so.deliveries) (reply_line s0.setup (reply_to s0.setup before d)) so.written
          (subst (Appends w1 w2) (line_after s0 s1 so.deliveries text mark so.keeps) one.written));
      losses = e ∙ ap (λ (b : Bool). b || is_lost mark) so.losses ∙ sym (any_lost-push so.deliveries d);
      by_store = each_push (λ (x : Delivery). DeliveryCounted R x.mark) so.deliveries d (deliveries_weaker P R so.deliveries rises so.by_store) (delivery_weaker Q R mark one_rises one.by_store);
    }

-- texts behind which all others are lost
lost_rest : (s0 s1 : OfficeState) (ds : List Delivery) (rest : List (List ℕ)) → KeepsMail s0 s1 ds → KeepsMail s0 s1 (ds ++ map (marked LostForMemory) rest)
lost_rest s0 s1 ds rest so = record {
  setup = so.setup;
  kept = so.kept ∙ ap (kept_from s0.setup s0.kept) (sym (append-nil (not_lost ds)) ∙ ap (λ (l : List (List ℕ)). not_lost ds ++ l) (sym (lost_texts rest)) ∙ sym (not_lost-append ds (map (marked LostForMemory) rest)));
  grows = so.grows;
  ready = so.ready;
}

-- Where the writer fails at the line of one text, those behind it are delivered no more, and so are lost.
pub texts_front : (P Q R : Type 0) (lost : Bool) (s0 s1 s2 : OfficeState) (texts rest : List (List ℕ)) (text : List ℕ) (w0 w1 w2 : Option (List ℕ)) → DeliversTexts s0 s1 texts w0 w1 lost P → (P → R)
    → DeliversOneFront s1 s2 text w1 w2 Q → (Q → R) → DeliversTextsFront s0 s2 ((texts ++ text ∷ []) ++ rest) w0 w2 R
texts_front P Q R lost s0 s1 s2 texts rest text w0 w1 w2 so rises one one_rises =
    let d : Delivery = record { text = text; mark = one.mark } in
    let ds : List Delivery = so.deliveries ++ d ∷ [] in
    let gone : List Delivery = map (marked LostForMemory) rest in
    let before : Kept = kept_from s0.setup s0.kept (not_lost so.deliveries) in
    record {
      deliveries = ds ++ gone;
      same = map-append (λ (x : Delivery). x.text) ds gone ∙ ap (λ (l : List (List ℕ)). l ++ map (λ (x : Delivery). x.text) gone) (map-append (λ (x : Delivery). x.text) so.deliveries (d ∷ []) ∙ ap (λ (l : List (List ℕ)). l ++ text ∷ []) so.same)
          ∙ ap (λ (l : List (List ℕ)). (texts ++ text ∷ []) ++ l) (texts_marked LostForMemory rest);
      keeps = lost_rest s0 s2 ds rest (keeps_more s0 s1 s2 so.deliveries text one.mark so.keeps one.kept one.setup (omega (arith, one.finished)) one.ready);
      written = subst (AppendsFront w0 w2) (sym (reply_lines-append s0.setup s0.kept ds gone))
          (front_before w0 w2 (reply_lines s0.setup s0.kept ds) (reply_lines s0.setup (kept_from s0.setup s0.kept (not_lost ds)) gone)
          (subst (AppendsFront w0 w2) (sym (reply_lines-push s0.setup s0.kept so.deliveries d))
          (front_after w0 w1 w2 (reply_lines s0.setup s0.kept so.deliveries) (reply_line s0.setup (reply_to s0.setup before d)) so.written
          (subst (AppendsFront w1 w2) (line_after s0 s1 so.deliveries text one.mark so.keeps) one.written))));
      by_store = each_append (λ (x : Delivery). DeliveryCounted R x.mark) ds gone
          (each_push (λ (x : Delivery). DeliveryCounted R x.mark) so.deliveries d (deliveries_weaker P R so.deliveries rises so.by_store) (delivery_weaker Q R one.mark one_rises one.by_store)) (lost_counted R rest);
    }

-- texts behind a call that left the state
pub texts_from : {E : Type 0} (P R : Type 0) (s0 s1 s2 : OfficeState) (texts : List (List ℕ)) (w0 w1 : Option (List ℕ)) (r : Result Bool E) → s1 ≡ s0 → (P → R) → IfOk r (λ lost. DeliversTexts s1 s2 texts w0 w1 lost P)
    → IfOk r (λ lost. DeliversTexts s0 s2 texts w0 w1 lost R)
texts_from P R s0 s1 s2 texts w0 w1 (Ok lost) same rises so =
    subst (λ (s : OfficeState). DeliversTexts s s2 texts w0 w1 lost R) same
    (record { deliveries = so.deliveries; same = so.same; keeps = so.keeps; written = so.written; losses = so.losses; by_store = deliveries_weaker P R so.deliveries rises so.by_store })
texts_from P R s0 s1 s2 texts w0 w1 (Err fault) same rises so = tt

pub front_from : {T E : Type 0} (P R : Type 0) (s0 s1 s2 : OfficeState) (texts : List (List ℕ)) (w0 w1 : Option (List ℕ)) (r : Result T E) → s1 ≡ s0 → (P → R) → OnErr r (DeliversTextsFront s1 s2 texts w0 w1 P) → OnErr r (DeliversTextsFront s0 s2 texts w0 w1 R)
front_from P R s0 s1 s2 texts w0 w1 (Ok x) same rises so = tt
front_from P R s0 s1 s2 texts w0 w1 (Err fault) same rises so =
    subst (λ (s : OfficeState). DeliversTextsFront s s2 texts w0 w1 R) same
    (record { deliveries = so.deliveries; same = so.same; keeps = so.keeps; written = so.written; by_store = deliveries_weaker P R so.deliveries rises so.by_store })

-- ---- lines, one after another

lines_split : {A : Type 0} (f : A → List ℕ) (xs : List A) (i : ℕ) (d : A) → i < length xs → flat_map f xs ≡ (flat_map f (take i xs) ++ f (get_or xs i d)) ++ flat_map f (drop (i + 1) xs)
lines_split {A} f xs i d h =
    ap (flat_map f) (sym (take-append-drop (i + 1) xs))
    ∙ flat_map-append f (take (i + 1) xs) (drop (i + 1) xs)
    ∙ ap (λ (l : List A). flat_map f l ++ flat_map f (drop (i + 1) xs)) (take_more xs i d h)
    ∙ ap (λ (l : List ℕ). l ++ flat_map f (drop (i + 1) xs)) (flat_map-append f (take i xs) (get_or xs i d ∷ []) ∙ ap (λ (l : List ℕ). flat_map f (take i xs) ++ l) (append-nil (f (get_or xs i d))))

-- a front of one line, behind those before it
pub lines_at : {A : Type 0} (f : A → List ℕ) (a b c : Option (List ℕ)) (xs : List A) (i : ℕ) (d : A) → Appends a b (flat_map f (take i xs)) → AppendsFront b c (f (get_or xs i d)) → i < length xs → AppendsFront a c (flat_map f xs)
lines_at f a b c xs i d took front h =
    subst (AppendsFront a c) (sym (lines_split f xs i d h))
    (front_before a c (flat_map f (take i xs) ++ f (get_or xs i d)) (flat_map f (drop (i + 1) xs)) (front_after a b c (flat_map f (take i xs)) (f (get_or xs i d)) took front))

-- ---- the next texts of a bag

pub takes_none : (b : Reading) → TakesTexts b b []
takes_none b = record { messages = []; each = tt; took = Consumes-nil b.left; same = refl }

pub takes_more : (start b1 b2 : Reading) (texts : List (List ℕ)) (text : List ℕ) → TakesTexts start b1 texts → TakesMessage b1 b2 text → TakesTexts start b2 (texts ++ text ∷ [])
takes_more start b1 b2 texts text so took = record {
  messages = so.messages ++ took.whole ∷ [];
  each = each_push HasHeader so.messages took.whole so.each took.announced;
  took = subst (Consumes start.left b2.left) (ap (λ (l : List ℕ). flat_map framed so.messages ++ l) (sym (append-nil (framed took.whole))) ∙ sym (flat_map-append framed so.messages (took.whole ∷ [])))
      (Consumes-trans start.left b1.left b2.left (flat_map framed so.messages) (framed took.whole) so.took took.took);
  same = ap (λ (l : List (List ℕ)). l ++ text ∷ []) so.same ∙ ap (λ (m : List ℕ). map handed so.messages ++ m ∷ []) took.same ∙ sym (map-append handed so.messages (took.whole ∷ []));
}

came_append : (start b1 b2 : Reading) (ds es : List Delivery) (texts : List (List ℕ)) → CameFirst start b1 ds → TakesTexts b1 b2 texts → map (λ (d : Delivery). d.text) es ≡ texts → CameFirst start b2 (ds ++ es)
came_append start b1 b2 ds es texts so took same = record {
  messages = so.messages ++ took.messages;
  each = each_append HasHeader so.messages took.messages so.each took.each;
  took = subst (Consumes start.left b2.left) (sym (flat_map-append framed so.messages took.messages))
      (Consumes-trans start.left b1.left b2.left (flat_map framed so.messages) (flat_map framed took.messages) so.took took.took);
  same = map-append (λ (d : Delivery). d.text) ds es ∙ ap (λ (l : List (List ℕ)). l ++ map (λ (d : Delivery). d.text) es) so.same
      ∙ ap (λ (l : List (List ℕ)). map handed so.messages ++ l) (same ∙ took.same) ∙ sym (map-append handed so.messages took.messages);
}

-- ---- blocks of a bag, one after another

pub delivers_texts : (P Q R : Type 0) (lost more now : Bool) (s0 s1 s2 : OfficeState) (start b1 b2 : Reading) (texts : List (List ℕ)) (w0 w1 w2 : Option (List ℕ)) → Delivers s0 s1 start b1 w0 w1 lost P → (P → R)
    → TakesTexts b1 b2 texts → DeliversTexts s1 s2 texts w1 w2 more Q → (Q → R) → now ≡ (lost || more) → Delivers s0 s2 start b2 w0 w2 now R
delivers_texts P Q R lost more now s0 s1 s2 start b1 b2 texts w0 w1 w2 so rises took next next_rises e = record {
  deliveries = so.deliveries ++ next.deliveries;
  came = came_append start b1 b2 so.deliveries next.deliveries texts so.came took next.same;
  keeps = keeps_append s0 s1 s2 so.deliveries next.deliveries so.keeps next.keeps;
  written = subst (Appends w0 w2) (sym (reply_lines-append s0.setup s0.kept so.deliveries next.deliveries))
      (Appends-trans w0 w1 w2 (reply_lines s0.setup s0.kept so.deliveries) (reply_lines s0.setup (kept_from s0.setup s0.kept (not_lost so.deliveries)) next.deliveries) so.written
      (subst (Appends w1 w2) (lines_after s0 s1 so.deliveries next.deliveries so.keeps) next.written));
  losses = e ∙ ap (λ (b : Bool). b || more) so.losses ∙ ap (λ (b : Bool). any_lost so.deliveries || b) next.losses ∙ sym (any_lost-append so.deliveries next.deliveries);
  by_store = each_append (λ (d : Delivery). DeliveryCounted R d.mark) so.deliveries next.deliveries (deliveries_weaker P R so.deliveries rises so.by_store) (deliveries_weaker Q R next.deliveries next_rises next.by_store);
}

-- where the writer fails in the lines of the next block
pub texts_stop : (P Q R : Type 0) (lost : Bool) (s0 s1 s2 : OfficeState) (start b1 b2 : Reading) (texts : List (List ℕ)) (w0 w1 w2 : Option (List ℕ)) → Delivers s0 s1 start b1 w0 w1 lost P → (P → R)
    → TakesTexts b1 b2 texts → DeliversTextsFront s1 s2 texts w1 w2 Q → (Q → R) → DeliversFront s0 s2 start b2 w0 w2 R
texts_stop P Q R lost s0 s1 s2 start b1 b2 texts w0 w1 w2 so rises took next next_rises = record {
  deliveries = so.deliveries ++ next.deliveries;
  came = came_append start b1 b2 so.deliveries next.deliveries texts so.came took next.same;
  keeps = keeps_append s0 s1 s2 so.deliveries next.deliveries so.keeps next.keeps;
  written = subst (AppendsFront w0 w2) (sym (reply_lines-append s0.setup s0.kept so.deliveries next.deliveries))
      (front_after w0 w1 w2 (reply_lines s0.setup s0.kept so.deliveries) (reply_lines s0.setup (kept_from s0.setup s0.kept (not_lost so.deliveries)) next.deliveries) so.written
      (subst (AppendsFront w1 w2) (lines_after s0 s1 so.deliveries next.deliveries so.keeps) next.written));
  by_store = each_append (λ (d : Delivery). DeliveryCounted R d.mark) so.deliveries next.deliveries (deliveries_weaker P R so.deliveries rises so.by_store) (deliveries_weaker Q R next.deliveries next_rises next.by_store);
}

-- the same in the last block of a bag
pub last_stop : (rose : Type 0) (s0 s1 : OfficeState) (start b now : Reading) (w0 w1 : Option (List ℕ)) (end : Option BagFault) → DeliversFront s0 s1 start b w0 w1 rose → Stops b now end → DeliversLastFront s0 s1 start now w0 w1 rose
last_stop rose s0 s1 start b now w0 w1 end so stops = record {
  deliveries = so.deliveries;
  end = end;
  came = came_from start b now so.deliveries end so.came stops;
  keeps = so.keeps;
  written = so.written;
  by_store = so.by_store;
}

-- where the writer fails in the lines of a block, behind which the bag may have stopped
pub block_stop : {T : Type 0} (P Q R : Type 0) (lost : Bool) (s0 s1 s2 : OfficeState) (start b1 b2 : Reading) (texts : List (List ℕ)) (w0 w1 w2 : Option (List ℕ)) (taken : Result T (Option BagFault)) → OnOk taken (TakesTexts b1 b2 texts) → IfErr taken (λ end. TakesLast b1 b2 texts end)
    → Delivers s0 s1 start b1 w0 w1 lost P → (P → R) → DeliversTextsFront s1 s2 texts w1 w2 Q → (Q → R) → DeliversFront s0 s2 start b2 w0 w2 R ⊎ DeliversLastFront s0 s2 start b2 w0 w2 R
block_stop P Q R lost s0 s1 s2 start b1 b2 texts w0 w1 w2 (Ok x) took last so rises next next_rises = inl (texts_stop P Q R lost s0 s1 s2 start b1 b2 texts w0 w1 w2 so rises took next next_rises)
block_stop P Q R lost s0 s1 s2 start b1 b2 texts w0 w1 w2 (Err end) took last so rises next next_rises =
    inr (last_stop R s0 s2 start last.behind b2 w0 w2 end (texts_stop P Q R lost s0 s1 s2 start b1 last.behind texts w0 w1 w2 so rises last.took next next_rises) last.stops)

-- the bag stops behind a block that is delivered
pub delivers_last : (P Q R : Type 0) (lost more now : Bool) (s0 s1 s2 : OfficeState) (start b1 b2 : Reading) (texts : List (List ℕ)) (w0 w1 w2 : Option (List ℕ)) (end : Option BagFault) → Delivers s0 s1 start b1 w0 w1 lost P → (P → R)
    → TakesLast b1 b2 texts end → DeliversTexts s1 s2 texts w1 w2 more Q → (Q → R) → now ≡ (lost || more) → DeliversAll s0 s2 start b2 w0 w2 end now R
delivers_last P Q R lost more now s0 s1 s2 start b1 b2 texts w0 w1 w2 end so rises last next next_rises e =
    delivers_all R s0 s2 start last.behind b2 w0 w2 end now (delivers_texts P Q R lost more now s0 s1 s2 start b1 last.behind texts w0 w1 w2 so rises last.took next next_rises e) last.stops

-- ---- where nothing is lost, nothing tells the two ways apart

mark_taken : (mark : Mark) → is_lost mark ≡ false → mark ≡ Taken
mark_taken Taken h = refl
mark_taken LostForMemory h = absurd (cc (h))
mark_taken LostForStore h = absurd (cc (h))

or_first : (a b : Bool) → (a || b) ≡ false → a ≡ false
or_first true b h = absurd (cc (h))
or_first false b h = refl

or_second : (a b : Bool) → (a || b) ≡ false → b ≡ false
or_second true b h = absurd (cc (h))
or_second false b h = h

all_taken : (ds : List Delivery) → any_lost ds ≡ false → ds ≡ map (marked Taken) (map (λ d. d.text) ds)
all_taken [] h = refl
all_taken (d ∷ ds) h =
    let e : d.mark ≡ Taken = mark_taken d.mark (or_first (is_lost d.mark) (any_lost ds) h) in
    ap (λ (m : Mark). marked m d.text ∷ ds) e ∙ ap (λ (es : List Delivery). marked Taken d.text ∷ es) (all_taken ds (or_second (is_lost d.mark) (any_lost ds) h))

-- Two ways to deliver these texts that both lost none leave the same mail, and write the same lines.
pub one_way : (rose more : Type 0) (s a b : OfficeState) (texts : List (List ℕ)) (w v x : Option (List ℕ)) → (p : DeliversTexts s a texts w v false rose) → (q : DeliversTexts s b texts w x false more)
    → (a.kept ≡ b.kept) × (reply_lines s.setup s.kept p.deliveries ≡ reply_lines s.setup s.kept q.deliveries)
one_way rose more s a b texts w v x p q =
    let e : p.deliveries ≡ q.deliveries = all_taken p.deliveries (sym p.losses) ∙ ap (map (marked Taken)) (p.same ∙ sym q.same) ∙ sym (all_taken q.deliveries (sym q.losses)) in
    (p.keeps.kept ∙ ap (λ (ds : List Delivery). kept_from s.setup s.kept (not_lost ds)) e ∙ sym q.keeps.kept, ap (reply_lines s.setup s.kept) e)
