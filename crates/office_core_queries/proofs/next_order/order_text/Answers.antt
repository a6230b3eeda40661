use Rattle.std.proofs.Common.{◌≡◌, ◌+◌, ◌++◌, ◌∷◌, [], ℕ, List, codes, decimal, length, slice_index, ap, ◌∙◌}
use Rattle.std.proofs.lemmas.List.{append_assoc}
use Rattle.jiff_core.specs.declared.civil.date.Date.{Date}
use Rattle.jiff.specs.Words.{date_text}
use Rattle.office_mail.specs.Lists.{Lists}
use Rattle.office_mail.specs.Runs.{runs}
use Rattle.office_core_replies.specs.Replies.{name_at}
use Rattle.office_core_queries.specs.Listing.{listed_words, stated_to}
use Rattle.office_core_queries.specs.NextOrder.{order_cover, order_text}
use Rattle.office_core_queries.proofs.next_order.order_text.Goals as goal

-- three lines one behind the other, each with its end
lines : (x head day text dated date covered listed : List ℕ) → head ≡ x ++ 10 ∷ [] → day ≡ head ++ dated ++ date ++ 10 ∷ [] → text ≡ day ++ covered ++ listed ++ 10 ∷ [] → text ≡ x ++ 10 ∷ dated ++ date ++ 10 ∷ covered ++ listed ++ 10 ∷ []
lines x head day text dated date covered listed one two three =
    let front : List ℕ = x ++ 10 ∷ dated ++ date in
    let second : day ≡ front ++ 10 ∷ [] =
    two ∙ ap (λ (y : List ℕ). y ++ dated ++ date ++ 10 ∷ []) one ∙ ap (λ (y : List ℕ). y ++ date ++ 10 ∷ []) (append_assoc x (10 ∷ []) dated) in
    three ∙ ap (λ (y : List ℕ). y ++ covered ++ listed ++ 10 ∷ []) second ∙ ap (λ (y : List ℕ). y ++ listed ++ 10 ∷ []) (append_assoc front (10 ∷ []) covered)

-- the head of an order with a number
abbrev head_of : Lists → ℕ → List ℕ
head_of setup number = codes "From: " ++ name_at setup (runs setup) ++ 10 ∷ codes "Number: " ++ decimal number ++ 10 ∷ codes "Kind: run"

ordered : (setup : Lists) (unbroken : ℕ → ℕ) (day : Date) (number : ℕ) (head dated text : List ℕ) → number ≡ unbroken (runs setup) + 1 → head ≡ head_of setup number ++ 10 ∷ [] → dated ≡ head ++ codes "Day: " ++ date_text day ++ 10 ∷ []
    → text ≡ dated ++ codes "Covers:" ++ listed_words setup (stated_to (order_cover setup unbroken) (length setup.senders)) ++ 10 ∷ [] → text ≡ order_text setup unbroken day
unfolding order_text
ordered setup unbroken day number head dated text next one two three =
    lines (head_of setup (unbroken (runs setup) + 1)) head dated text (codes "Day: ") (date_text day) (codes "Covers:") (listed_words setup (stated_to (order_cover setup unbroken) (length setup.senders)))
    (one ∙ ap (λ (n : ℕ). head_of setup n ++ 10 ∷ []) next) two three

pub returns : goal.returns
returns c = c.from_string.ensures ∙ ordered c.args.setup.now (slice_index c.args.unbroken.now) c.args.day c.next_number.result _ _ _ c.next_number.ensures c.in_ok-text.ensures c.in_ok-push_day.ensures c.in_ok-push_covers.ensures
