-- One state has one answer to a request.
use Rattle.std.proofs.Common.{◌≡◌, ◌≢◌, ◌⊎◌, inl, inr, ℕ, ◌+◌, List, ◌++◌, length, flat_map, Option, Some, None, Ok, refl, sym, ap, subst, ◌∙◌, arith}
use Rattle.std.specs.Option.{option_map}
use Rattle.office_mail.specs.Kept.{Kept}
use Rattle.office_mail.specs.Lists.{Lists}
use Rattle.office_mail.specs.Runs.{IsReadyCount, cover}
use Rattle.office_mail.specs.declared.message.RunOrder.{RunOrder}
use Rattle.office_core_orders.specs.Ready.{HasPlaces}
use Rattle.office_core_replies.specs.Replies.{status_line}
use Rattle.office_core_orders.specs.WaitingLines.{lack_line, awaited_lines, waiting_text}
use Rattle.office_core_orders.specs.declared.wait_lines.Awaited.{Awaited}
use Rattle.office_core_orders.specs.declared.wait_lines.Awaited.TheVariants.{Order, Mail}
use Rattle.office_core_orders.specs.declared.wait_lines.Lack.{Lack}
use Rattle.office_http_requests.specs.declared.reply.Answer.{Answer}
use Rattle.office_http_requests.specs.declared.reply.Answer.TheVariants.{Status, Told}
use Rattle.office_http_requests.specs.declared.request.Action.{Action}
use Rattle.office_http_requests.specs.declared.request.Action.TheVariants.{Breaks, Deliver, DeliverOf, Look, Settle, Try, TryOn}
use Rattle.office_http_requests.specs.declared.request.Asked.{Asked}
use Rattle.office_http_requests.specs.declared.request.Asked.TheVariants as asks
use Rattle.office_http_requests.specs.declared.request.Page.{Page}
use Rattle.office_http_requests.specs.declared.request.Page.TheVariants as page
use Rattle.office_http_requests.specs.declared.request.Posted.{Posted}
use Rattle.office_core_outcome.specs.declared.Trial.{Trial}
use Rattle.office_core_facts.proofs.SeenFacts.{seen_once}
use Rattle.office_core_facts.specs.OfficeState.{OfficeState}
use Rattle.office_core_facts.specs.Outcome.{testing_after}
use Rattle.office_core_why.specs.Hints.{hints_text}
use Rattle.office_core_why.specs.UnstableText.{unstable_text}
use Rattle.office_core_why.specs.declared.WhyText.{WhyText}
use Rattle.testing_rules_model.specs.Covered.{Covered}
use Rattle.office_core_orders.specs.Waiting.{Awaits, AwaitsBy}
use Rattle.office_core_orders.proofs.WaitingFacts.{one_list}
use Rattle.office_core_breaks.specs.declared.BreaksText.{BreaksText}
use Rattle.office_http.specs.Breaks.{body_answer, breaks_answer}
use Rattle.office_http.specs.Serve.{action_answer, body_of, answer_of, proposal_answer, AsksBreaks, AsksProposal, Found, IsFoundForAsked, IsFoundBy, IsFoundFor}
use Rattle.office_http.specs.steps.ServeSteps.{post_answer, why_answer, IsFoundByPost}
use Rattle.office_http.specs.steps.ServeSteps.{whole_page}
use Rattle.office_http.specs.ShortTexts.{short_page}
use Rattle.office_http.proofs.ServeFacts.{page_is}
use Rattle.office_http.specs.Trials.{terms_of, tried_answer}

one_count : (setup : Lists) (kept : Kept) (n m : ℕ) → IsReadyCount setup kept n → IsReadyCount setup kept m → n ≡ m
one_count setup kept n m h g = omega (arith, h.none_above m g.holds, g.none_above n h.holds)

same_lines : (setup : Lists) (kept : Kept) (run : ℕ) (o : Option RunOrder) (x y : Awaited) → AwaitsBy setup kept o x → AwaitsBy setup kept o y → awaited_lines setup run x ≡ awaited_lines setup run y
same_lines setup kept run None Order Order h g = refl
same_lines setup kept run None Order (Mail b) h g = absurd g
same_lines setup kept run None (Mail a) y h g = absurd h
same_lines setup kept run (Some order) Order y h g = absurd h
same_lines setup kept run (Some order) (Mail a) Order h g = absurd g
same_lines setup kept run (Some order) (Mail a) (Mail b) h g = ap (λ (l : List Lack). flat_map (lack_line setup run) l) (one_list kept order (length setup.senders) a.items b.items h g)

-- what is told of the run behind so many ready ones
abbrev waits : OfficeState → ℕ → Awaited → Answer
waits s n x = Told (waiting_text s.setup (record { progress = record { ready = n; finished = s.finished }; awaited = x }))

same_text : (s : OfficeState) (n m : ℕ) (x y : Awaited) → n ≡ m → Awaits s.setup s.kept (n + 1) x → Awaits s.setup s.kept (m + 1) y → waits s n x ≡ waits s m y
unfolding waiting_text
same_text s n m x y e h g =
    ap (λ (k : ℕ). waits s k x) e
    ∙ ap (λ (l : List ℕ). Told (status_line m s.finished ++ l)) (same_lines s.setup s.kept (m + 1) _ x y (subst (λ (k : ℕ). Awaits s.setup s.kept (k + 1) x) e h) g)

one_page : (s : OfficeState) (p : Page) (x y : Found) → IsFoundFor s x p → IsFoundFor s y p → ((source : List ℕ) → p ≡ page.Why source → x.why ≡ y.why) → ((p ≡ page.Hints) ⊎ (p ≡ page.Unstable) → HasPlaces s.setup s.kept) → (AsksProposal (asks.Tell p) → x.proposal ≡ y.proposal) → (AsksBreaks (asks.Tell p) → x.breaks ≡ y.breaks) → whole_page s x p ≡ whole_page s y p
one_page s page.Status x y h g told places proposed broken = ap (λ (k : ℕ). Status (record { ready = k; finished = s.finished })) (one_count s.setup s.kept x.ready y.ready h g)
one_page s page.Testing x y h g told places proposed broken = refl
one_page s (page.Excuses run) x y h g told places proposed broken = refl
one_page s (page.Update run) x y h g told places proposed broken = refl
one_page s page.Runs x y h g told places proposed broken = refl
one_page s page.Kept x y h g told places proposed broken = refl
one_page s (page.Letter sender number) x y h g told places proposed broken = refl
one_page s (page.Why source) x y h g told places proposed broken = ap (λ (o : Option WhyText). why_answer (Ok o)) (told source refl)
one_page s page.Waiting x y h g told places proposed broken = same_text s x.ready y.ready x.awaited y.awaited (one_count s.setup s.kept x.ready y.ready h.0 g.0) h.1 g.1
one_page s (page.Bag sender from) x y h g told places proposed broken = refl
one_page s (page.Order day) x y h g told places proposed broken = refl
one_page s page.Hints x y h g told places proposed broken =
    ap (λ (seen : Covered). Told (hints_text s.setup s.finished (cover s.setup s.kept s.finished) seen (testing_after s.setup s.kept s.finished))) (seen_once s.setup s.kept x.seen y.seen (places (inl refl)) h g)
one_page s page.Unstable x y h g told places proposed broken = ap (λ (seen : Covered). Told (unstable_text s.setup.archs s.finished seen)) (seen_once s.setup s.kept x.seen y.seen (places (inr refl)) h g)
one_page s page.Propose x y h g told places proposed broken = ap proposal_answer (proposed (inl refl))
one_page s (page.ProposeOn day) x y h g told places proposed broken = ap proposal_answer (proposed (inr (inl (day, refl))))
one_page s (page.ProposeFor source) x y h g told places proposed broken = ap proposal_answer (proposed (inr (inr (source, refl))))
one_page s (page.Breaks source) x y h g told places proposed broken = ap (breaks_answer s.setup source) (broken (inl (source, refl)))

one_action : (s : OfficeState) (action : Action) (body : List ℕ) (x y : Found) → IsFoundBy s x action body → IsFoundBy s y action body → (terms_of action ≢ None → x.trial ≡ y.trial) → (action ≡ Breaks → x.breaks ≡ y.breaks) → action_answer s x action body ≡ action_answer s y action body
one_action s Deliver body x y h g tried broken = refl
one_action s (DeliverOf sender) body x y h g tried broken = refl
one_action s Look body x y h g tried broken = refl
one_action s Settle body x y h g tried broken = ap (λ (k : ℕ). Status (record { ready = k; finished = k })) (one_count s.setup s.kept x.ready y.ready h g)
one_action s Try body x y h g tried broken = ap (λ (t : Trial). tried_answer s.setup body t) (tried (λ e. absurd (cc (e))))
one_action s (TryOn day) body x y h g tried broken = ap (λ (t : Trial). tried_answer s.setup body t) (tried (λ e. absurd (cc (e))))
one_action s Breaks body x y h g tried broken = ap (λ (o : Option BreaksText). body_answer s.setup body o) (broken refl)

one_post : (s : OfficeState) (action : Action) (body : Option (List ℕ)) (x y : Found) → IsFoundByPost s x (option_map (λ (b : List ℕ). (action, b)) body) → IsFoundByPost s y (option_map (λ (b : List ℕ). (action, b)) body) → (terms_of action ≢ None → x.trial ≡ y.trial) → (action ≡ Breaks → x.breaks ≡ y.breaks)
    → post_answer s x (option_map (λ (b : List ℕ). (action, b)) body) ≡ post_answer s y (option_map (λ (b : List ℕ). (action, b)) body)
one_post s action None x y h g tried broken = refl
one_post s action (Some body) x y h g tried broken = one_action s action body x y h g tried broken

-- a page of hints or of unstable
seen_page : (p : Page) → (p ≡ page.Hints) ⊎ (p ≡ page.Unstable) → (asks.Tell p ≡ asks.Tell page.Hints) ⊎ (asks.Tell p ≡ asks.Tell page.Unstable)
seen_page p (inl e) = inl (ap (λ (q : Page). asks.Tell q) e)
seen_page p (inr e) = inr (ap (λ (q : Page). asks.Tell q) e)

pub one_answer : (s : OfficeState) (asked : Asked) (rest : List ℕ) (x y : Found) → IsFoundForAsked s x asked rest → IsFoundForAsked s y asked rest → ((source : List ℕ) → asked ≡ asks.Tell (page.Why source) → x.why ≡ y.why)
    → ((p : Posted) → asked ≡ asks.Post p → terms_of p.action ≢ None → x.trial ≡ y.trial) → ((asked ≡ asks.Tell page.Hints) ⊎ (asked ≡ asks.Tell page.Unstable) → HasPlaces s.setup s.kept) → (AsksProposal asked → x.proposal ≡ y.proposal) → (AsksBreaks asked → x.breaks ≡ y.breaks) → answer_of s x asked rest ≡ answer_of s y asked rest
one_answer s (asks.Refused r) rest x y h g told tried places proposed broken = refl
one_answer s (asks.Tell p) rest x y h g told tried places proposed broken =
    page_is s x p
    ∙ ap (λ (a : Answer). short_page p a) (one_page s p x y h g (λ source e. told source (ap (λ (q : Page). asks.Tell q) e)) (λ seen. places (seen_page p seen)) proposed broken)
    ∙ sym (page_is s y p)
one_answer s (asks.Post p) rest x y h g told tried places proposed broken = one_post s p.action (body_of p.length rest) x y h g (tried p refl) (λ e. broken (inr (p, refl, e)))
