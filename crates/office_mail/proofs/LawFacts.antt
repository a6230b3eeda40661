-- The kept mail of a list of deliveries, found text by text.
use Rattle.std.proofs.Common.{◌≡◌, ℕ, Bool, true, false, cond, Option, Some, None, Result, Ok, Err, List, [], ◌∷◌, IsSome, sym, ap, subst, ◌∙◌, refl, filter_map, ◌⊎◌, inl, inr}
use Rattle.std.specs.Ordering.{eq_by_cmp, is_eq}
use Rattle.std.specs.List.{cons_option}
use Rattle.std.specs.Cmp.{tied_itself}
use Rattle.std.specs.FinMap.{find, get, empty, get-empty}
use Rattle.office_mail.specs.declared.message.Message.{Message}
use Rattle.office_mail.specs.declared.message.MailFault.{MailFault}
use Rattle.office_mail_setup.specs.Lists.{Lists}
use Rattle.office_mail.specs.Read.{read}
use Rattle.office_mail.specs.Kept.{Place, place_cmp, place_of, placed, kept_from}
use Rattle.office_mail.specs.Laws.{CanTake, Delivers, IsOneOf, OneText, SameTexts}
use Rattle.office_mail.specs.steps.ReadSteps.{placed_as}
use Rattle.office_mail.proofs.KeptFacts.{same_kept, places_total, tied, or_else, get-kept_from}

-- what a list of deliveries has at a place
abbrev found : Lists → List (List ℕ) → Place → Option (List ℕ)
found setup texts q = find place_cmp q (filter_map (placed setup) texts)

get-from_empty : (setup : Lists) (texts : List (List ℕ)) (q : Place) → get (kept_from setup empty texts) q ≡ found setup texts q
get-from_empty setup texts q = get-kept_from setup empty texts q ∙ ap (λ o. or_else o (found setup texts q)) (get-empty place_cmp q)

-- a text that is found is delivered, under that place
record Found (setup : Lists) (texts : List (List ℕ)) (q : Place) (text : List ℕ) : Type 0 where
  message : Message
  delivers : Delivers setup texts text message
  place : q ≡ place_of message

later : (setup : Lists) (t : List ℕ) (ts : List (List ℕ)) (q : Place) (text : List ℕ) → Found setup ts q text → Found setup (t ∷ ts) q text
later setup t ts q text f = record { message = f.message; delivers = record { there = inr f.delivers.there; reads = f.delivers.reads }; place = f.place }

at_front : (setup : Lists) (t : List ℕ) (ts : List (List ℕ)) (q : Place) (text : List ℕ) (m : Message) → read setup t ≡ Ok m → (b : Bool) → eq_by_cmp place_cmp q (place_of m) ≡ b → cond b (Some t) (found setup ts q) ≡ Some text → (found setup ts q ≡ Some text → Found setup ts q text) → Found setup (t ∷ ts) q text
at_front setup t ts q text m r true h e more =
    let same : t ≡ text = cc in
    record { message = m; delivers = record { there = inl (sym same); reads = subst (λ x. read setup x ≡ Ok m) same r }; place = tied (place_of m) q h }
at_front setup t ts q text m r false h e more = later setup t ts q text (more e)

by_reading : (setup : Lists) (t : List ℕ) (ts : List (List ℕ)) (q : Place) (text : List ℕ) (r : Result Message MailFault) → read setup t ≡ r → find place_cmp q (cons_option (placed_as t r) (filter_map (placed setup) ts)) ≡ Some text → (found setup ts q ≡ Some text → Found setup ts q text) → Found setup (t ∷ ts) q text
by_reading setup t ts q text (Ok m) e f more = at_front setup t ts q text m e (eq_by_cmp place_cmp q (place_of m)) refl f more
by_reading setup t ts q text (Err fault) e f more = later setup t ts q text (more f)

found_is : (setup : Lists) (texts : List (List ℕ)) (q : Place) (text : List ℕ) → found setup texts q ≡ Some text → Found setup texts q text
found_is setup [] q text e = absurd (cc)
found_is setup (t ∷ ts) q text e = by_reading setup t ts q text (read setup t) refl e (found_is setup ts q text)

-- where something is delivered for a place, something is found
some_cond : (b : Bool) (t : List ℕ) (o : Option (List ℕ)) → (b ≡ true) ⊎ IsSome o → IsSome (cond b (Some t) o)
some_cond true t o h = refl
some_cond false t o (inl h) = absurd (cc)
some_cond false t o (inr h) = h

some_by : (setup : Lists) (t : List ℕ) (ts : List (List ℕ)) (q : Place) (r : Result Message MailFault) → IsSome (found setup ts q) → IsSome (find place_cmp q (cons_option (placed_as t r) (filter_map (placed setup) ts)))
some_by setup t ts q (Ok m) h = some_cond (eq_by_cmp place_cmp q (place_of m)) t (found setup ts q) (inr h)
some_by setup t ts q (Err fault) h = h

some_here : (setup : Lists) (t : List ℕ) (ts : List (List ℕ)) (m : Message) → read setup t ≡ Ok m → IsSome (found setup (t ∷ ts) (place_of m))
some_here setup t ts m e = subst (λ r. IsSome (find place_cmp (place_of m) (cons_option (placed_as t r) (filter_map (placed setup) ts)))) (sym e)
    (some_cond (eq_by_cmp place_cmp (place_of m) (place_of m)) t (found setup ts (place_of m)) (inl (ap is_eq (tied_itself places_total (place_of m)))))

found_some : (setup : Lists) (texts : List (List ℕ)) (text : List ℕ) (m : Message) → IsOneOf text texts → read setup text ≡ Ok m → IsSome (found setup texts (place_of m))
found_some setup [] text m there e = absurd there
found_some setup (t ∷ ts) text m (inl same) e = some_here setup t ts m (subst (λ x. read setup x ≡ Ok m) same e)
found_some setup (t ∷ ts) text m (inr there) e = some_by setup t ts (place_of m) (read setup t) (found_some setup ts text m there e)

-- in a list that gives each place one text, what is found at the place of a delivery is that text
some_is : (o : Option (List ℕ)) → IsSome o → (text : List ℕ) → ((t : List ℕ) → o ≡ Some t → t ≡ text) → o ≡ Some text
some_is (Some t) h text same = ap Some (same t refl)
some_is None h text same = absurd (cc)

found_delivered : (setup : Lists) (texts : List (List ℕ)) (text : List ℕ) (m : Message) → OneText setup texts → Delivers setup texts text m → found setup texts (place_of m) ≡ Some text
found_delivered setup texts text m one d =
    some_is (found setup texts (place_of m)) (found_some setup texts text m d.there d.reads) text
    (λ t e. let f = found_is setup texts (place_of m) t e in one t text f.message m f.delivers d (sym f.place))

pub kept_at_place : (setup : Lists) (texts : List (List ℕ)) (text : List ℕ) (m : Message) → OneText setup texts → Delivers setup texts text m → get (kept_from setup empty texts) (place_of m) ≡ Some text
kept_at_place setup texts text m one d = get-from_empty setup texts (place_of m) ∙ found_delivered setup texts text m one d

-- of what may stand at a place there is this text alone
free_or_held : (o : Option (List ℕ)) (text : List ℕ) → ((t : List ℕ) → o ≡ Some t → t ≡ text) → (o ≡ None) ⊎ (o ≡ Some text)
free_or_held None text same = inl refl
free_or_held (Some t) text same = inr (ap Some (same t refl))

pub can_take : (setup : Lists) (texts : List (List ℕ)) (text : List ℕ) (m : Message) → read setup text ≡ Ok m → OneText setup (text ∷ texts) → CanTake (kept_from setup empty texts) (place_of m) text
can_take setup texts text m e one =
    let only : (t : List ℕ) → found setup texts (place_of m) ≡ Some t → t ≡ text =
    λ t h. let f = found_is setup texts (place_of m) t h in
    one t text f.message m (record { there = inr f.delivers.there; reads = f.delivers.reads }) (record { there = inl refl; reads = e }) (sym f.place) in
    subst (λ o. (o ≡ None) ⊎ (o ≡ Some text)) (sym (get-from_empty setup texts (place_of m))) (free_or_held (found setup texts (place_of m)) text only)

-- what is found in one list is found in another with the same texts
moves : (setup : Lists) (xs ys : List (List ℕ)) (q : Place) (text : List ℕ) → OneText setup ys → SameTexts setup xs ys → found setup xs q ≡ Some text → found setup ys q ≡ Some text
moves setup xs ys q text one same e =
    let f = found_is setup xs q text e in
    ap (found setup ys) f.place ∙ found_delivered setup ys text f.message one ((same text f.message).0 f.delivers)

both_ways : (o p : Option (List ℕ)) → ((t : List ℕ) → o ≡ Some t → p ≡ Some t) → ((t : List ℕ) → p ≡ Some t → o ≡ Some t) → o ≡ p
both_ways (Some t) p h k = sym (h t refl)
both_ways None (Some t) h k = k t refl
both_ways None None h k = refl

back : (setup : Lists) (xs ys : List (List ℕ)) → SameTexts setup xs ys → SameTexts setup ys xs
back setup xs ys same = λ t m. ((same t m).1, (same t m).0)

pub same_kept_from : (setup : Lists) (xs ys : List (List ℕ)) → OneText setup xs → OneText setup ys → SameTexts setup xs ys → kept_from setup empty xs ≡ kept_from setup empty ys
same_kept_from setup xs ys one_x one_y same = same_kept _ _ (λ q.
    get-from_empty setup xs q
    ∙ both_ways (found setup xs q) (found setup ys q) (λ t. moves setup xs ys q t one_y same) (λ t. moves setup ys xs q t one_x (back setup xs ys same))
    ∙ sym (get-from_empty setup ys q))
