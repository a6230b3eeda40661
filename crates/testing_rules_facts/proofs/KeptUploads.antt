-- The uploads of facts, each once: their order, and what they become with one more.
use Rattle.std.specs.Prelude.{ℕ, zero, suc, ◌<◌, ◌≤◌, Bool, true, List, [], ◌∷◌, length, get_or, map, filter, Contains}
use Rattle.std.proofs.Common.{◌≡◌, refl, sym, ap, ◌∙◌, subst, ◌⊎◌}
use Rattle.std.specs.List.{insert}
use Rattle.std.specs.List.Sorted.{IsStrictlySortedBy, IsPartitionPoint}
use Rattle.std.specs.Cmp.{IsTotalOrder}
use Rattle.std.specs.declared.cmp.Ordering.{Ordering}
use Rattle.std.specs.declared.cmp.Ordering.TheVariants.{Less, Equal, Greater}
use Rattle.std.proofs.lemmas.Cmp.{on_total, then_total, nat_cmp_total, int_cmp_total, int_ranked}
use Rattle.jiff_core.specs.Date.{epoch_day}
use Rattle.jiff.proofs.Family.{same_date}
use Rattle.testing_rules_items.specs.declared.item.Urgency.{Urgency}
use Rattle.testing_rules_items.specs.declared.item.Urgency.TheVariants.{Low, Medium, High, Emergency, Critical}
use Rattle.testing_rules_model.specs.declared.facts.UploadIn.{UploadIn}
use Rattle.testing_rules_model.specs.Excuses.{urgency_rank}
use Rattle.testing_rules_model.proofs.MoreMail.{nat_tied, text_tied, then_equal}
use Rattle.testing_rules_model.proofs.Ordered.{sorted-kept}
use Rattle.testing_rules_model.proofs.Orders.{text_order}
use Rattle.testing_rules_facts.specs.steps.ElementShifts.{way_given, come_in}
use Rattle.testing_rules_fact_order.specs.Uploads.{message_order, AreByMessage, first_stays, with_kept}
use Rattle.testing_rules_facts.proofs.KeyMembers.{first_from, first_own, first_others}
use Rattle.testing_rules_facts.proofs.KeyShifts.{come-at, none-at}
use Rattle.testing_rules_facts.proofs.KeySlots.{found-nowhere, found-before, sorted-first}

pub message_total : IsTotalOrder message_order
message_total =
    then_total (on_total (λ (u : UploadIn). u.sender) nat_cmp_total)
    (then_total (on_total (λ (u : UploadIn). u.number) nat_cmp_total)
    (then_total (on_total (λ (u : UploadIn). u.source) text_order)
    (then_total (on_total (λ (u : UploadIn). u.version) text_order)
    (then_total (on_total (λ (u : UploadIn). urgency_rank u.urgency) nat_cmp_total) (on_total (λ (u : UploadIn). epoch_day u.day) int_cmp_total)))))

abbrev urgency_at : ℕ → Urgency
urgency_at zero = Low
urgency_at (suc zero) = Medium
urgency_at (suc (suc zero)) = High
urgency_at (suc (suc (suc zero))) = Emergency
urgency_at (suc (suc (suc (suc n)))) = Critical

ranked_back : (x : Urgency) → urgency_at (urgency_rank x) ≡ x
ranked_back Low = refl
ranked_back Medium = refl
ranked_back High = refl
ranked_back Emergency = refl
ranked_back Critical = refl

-- uploads that tie are one
pub message_tied : (u v : UploadIn) → message_order u v ≡ Equal → u ≡ v
message_tied u v e =
    let a = then_equal _ _ e in
    let b = then_equal _ _ a.1 in
    let c = then_equal _ _ b.1 in
    let d = then_equal _ _ c.1 in
    let f = then_equal _ _ d.1 in
    let sender = nat_tied u.sender v.sender a.0 in
    let number = nat_tied u.number v.number b.0 in
    let source = text_tied u.source v.source c.0 in
    let version = text_tied u.version v.version d.0 in
    let urgency = sym (ranked_back u.urgency) ∙ ap urgency_at (nat_tied (urgency_rank u.urgency) (urgency_rank v.urgency) f.0) ∙ ranked_back v.urgency in
    let day = same_date u.day v.day (int_ranked (epoch_day u.day) (epoch_day v.day) Equal (sym f.1)) in
    λ i. record { source = source i; version = version i; urgency = urgency i; day = day i; sender = sender i; number = number i }

map_itself : (us : List UploadIn) → map (λ u. u) us ≡ us
map_itself [] = refl
map_itself (u ∷ us) = ap (λ vs. u ∷ vs) (map_itself us)

-- the same order, as lists by key have it
pub keys_in_order : (us : List UploadIn) → AreByMessage us → IsStrictlySortedBy message_order (map (λ u. u) us)
keys_in_order us h = subst (IsStrictlySortedBy message_order) (sym (map_itself us)) h

pub keys_back : (us : List UploadIn) → IsStrictlySortedBy message_order (map (λ u. u) us) → AreByMessage us
keys_back us h = subst (IsStrictlySortedBy message_order) (map_itself us) h

-- they stay in order with one more, and with some left out
pub by_message-kept : (u : UploadIn) (us : List UploadIn) → AreByMessage us → AreByMessage (with_kept u us)
by_message-kept u us h = keys_back (with_kept u us) (sorted-first (λ (v : UploadIn). v) message_total first_stays u message_tied us (keys_in_order us h))

pub by_message-filter : (test : UploadIn → Bool) (us : List UploadIn) → AreByMessage us → AreByMessage (filter test us)
by_message-filter test us h = keys_back (filter test us) (sorted-kept (λ (v : UploadIn). v) message_order test us (keys_in_order us h))

-- an upload that is there leaves them as they are, and does not come
pub kept-there : (u : UploadIn) (us : List UploadIn) (i : ℕ) (d : UploadIn) → AreByMessage us → i < length us → message_order (get_or us i d) u ≡ Equal
    → (with_kept u us ≡ us) × (come_in (λ v. v) message_order first_stays u us ≡ [])
kept-there u us i d s h e = (
  found-nowhere (λ (v : UploadIn). v) message_total first_stays u us i d (keys_in_order us s) h e refl,
  come-at (λ (v : UploadIn). v) message_total first_stays u true us i d (keys_in_order us s) h e refl,
)

-- one that is missing comes before the first above it
pub kept-before : (u : UploadIn) (us : List UploadIn) (i : ℕ) → i ≤ length us → IsPartitionPoint (λ v. message_order v u ≡ Less) (λ v. message_order v u ≡ Greater) us i
    → (with_kept u us ≡ insert us i u) × (come_in (λ v. v) message_order first_stays u us ≡ u ∷ [])
kept-before u us i h p = (
  (found-before (λ (v : UploadIn). v) message_total first_stays u us i h p).1,
  (none-at (λ (v : UploadIn). v) message_total first_stays u us i p).1,
)

-- none gives way
none_behind : (r : Ordering) (u v : UploadIn) (us : List UploadIn) → message_order u v ≡ r → way_given (λ w. w) message_order first_stays u us ≡ []
    → way_given (λ w. w) message_order first_stays u (v ∷ us) ≡ []
none_behind Less u v us e h = rw (way_given, e) refl
none_behind Equal u v us e h = rw (way_given, e) refl
none_behind Greater u v us e h = rw (way_given, e) h

pub none_gives_way : (u : UploadIn) (us : List UploadIn) → way_given (λ w. w) message_order first_stays u us ≡ []
none_gives_way u [] = refl
none_gives_way u (v ∷ us) = none_behind _ u v us refl (none_gives_way u us)

-- their elements with one more
pub kept_from : (u v : UploadIn) (us : List UploadIn) → Contains (with_kept u us) v → (u ≡ v) ⊎ Contains us v
kept_from u v us c = first_from (λ (w : UploadIn). w) message_total first_stays u v us c

pub kept_own : (u : UploadIn) (us : List UploadIn) → Contains (with_kept u us) u
kept_own u us = first_own (λ (w : UploadIn). w) message_total first_stays u us (λ v c e. message_tied u v e)

pub kept_others : (u v : UploadIn) (us : List UploadIn) → Contains us v → Contains (with_kept u us) v
kept_others u v us c = first_others (λ (w : UploadIn). w) message_total first_stays u v us (λ w d e. message_tied u w e) c
