-- The letters of a block: what they leave beside what is kept, and which answers they give.
use Rattle.std.proofs.Common.{◌≡◌, ℕ, Bool, true, false, cond, List, [], ◌∷◌, ◌++◌, Option, Some, None, Result, Ok, Err, IsSome, ◌⊎◌, ⊎_elim, sym, ap, subst, ◌∙◌, refl}
use Rattle.std.specs.Prelude.{bytes_eq, nat_eq, ◌&&◌, if◌then◌else◌}
use Rattle.std.specs.List.{AllByRecursion}
use Rattle.std.specs.Option.{option_map}
use Rattle.std.specs.Ordering.{eq_by_cmp, is_eq}
use Rattle.std.specs.FinMap.{get, insert, get-insert}
use Rattle.std.proofs.lemmas.Bool.{eqb-true, eq-eqb}
use Rattle.std.specs.Cmp.{tied_itself}
use Rattle.office_mail.specs.declared.message.Message.{Message}
use Rattle.office_mail.specs.declared.message.MailFault.{MailFault}
use Rattle.office_mail.specs.declared.message.MailFault.TheVariants.{NoMemory}
use Rattle.office_mail.specs.Lists.{Lists}
use Rattle.office_mail.specs.Kept.{Kept, Place, IsPlace, Within, place_cmp, place_of, kept_from}
use Rattle.office_mail.specs.Read.{read}
use Rattle.office_mail.proofs.KeptFacts.{places_total, tied, kept_from-nil, kept_from-append, kept_from-fault, kept_from-free, kept_from-taken}
use Rattle.office_store_keeper.specs.Content.{Content}
use Rattle.office_store_keeper.specs.NewMail.{AreFree, with_letters, with_mail}
use Rattle.office_store_keeper.specs.declared.values.NewLetter.{NewLetter}
use Rattle.office_core_replies.specs.declared.faults.DeliverFault.{DeliverFault}
use Rattle.office_core_replies.specs.declared.faults.DeliverFault.TheVariants.{Mail, OtherText}
use Rattle.office_core_replies.specs.declared.faults.Held.{Held}
use Rattle.office_core_facts.specs.State.{IsOffice, answer_to, answer_by, answer_at, held_at}
use Rattle.office_core.specs.steps.GatherSteps.{Gathers, TakesText, letter_of, own_text, ArePlaced}
use Rattle.office_core.specs.Together.{answers_to}
use Rattle.office_core.proofs.OfficeFacts.{some_of, places-put, IsOffice-later}

-- ---- letters at free places

free_at : (b : Bool) (text : List ℕ) (o : Option (List ℕ)) → (b ≡ true → o ≡ None) → IsSome o → cond b (Some text) o ≡ o
free_at true text o none some = absurd (cc (subst IsSome (none refl) some))
free_at false text o none some = refl

within_insert : (kept : Kept) (p : Place) (text : List ℕ) → get kept p ≡ None → Within kept (insert kept p text)
within_insert kept p text free = λ q some.
    get-insert places_total kept p text q ∙ free_at (eq_by_cmp place_cmp q p) text (get kept q) (λ e. ap (get kept) (tied p q e) ∙ free) some

-- letters at free places only add
pub within_letters : (kept : Kept) (ls : List NewLetter) → AreFree kept ls → Within kept (with_letters kept ls)
within_letters kept [] free = λ q some. refl
within_letters kept (l ∷ ls) free = λ q some.
    let next : Kept = insert kept (l.sender, l.number) l.text in
    let e : get next q ≡ get kept q = within_insert kept (l.sender, l.number) l.text free.0 q some in
    within_letters next ls free.1 q (subst IsSome (sym e) some) ∙ e

letters-push : (kept : Kept) (ls : List NewLetter) (l : NewLetter) → with_letters kept (ls ++ l ∷ []) ≡ insert (with_letters kept ls) (l.sender, l.number) l.text
letters-push kept [] l = refl
letters-push kept (m ∷ ls) l = letters-push (insert kept (m.sender, m.number) m.text) ls l

-- a letter at a place that is free beside the others
free-push : (kept : Kept) (ls : List NewLetter) (l : NewLetter) → AreFree kept ls → get (with_letters kept ls) (l.sender, l.number) ≡ None → AreFree kept (ls ++ l ∷ [])
free-push kept [] l h free = (free, tt)
free-push kept (m ∷ ls) l h free = (h.0, free-push (insert kept (m.sender, m.number) m.text) ls l h.1 free)

-- ---- the letter at a place

and_first : (a b : Bool) → (a && b) ≡ true → a ≡ true
and_first true b h = refl
and_first false b h = absurd (cc (h))

and_second : (a b : Bool) → (a && b) ≡ true → b ≡ true
and_second true b h = h
and_second false b h = absurd (cc (h))

and_both : (a b : Bool) → a ≡ true → b ≡ true → (a && b) ≡ true
and_both true b h k = k
and_both false b h k = absurd (cc (h))

same_place : (l : NewLetter) (sender number : ℕ) → (nat_eq l.sender sender && nat_eq l.number number) ≡ true → ◌≡◌ {A = Place} (l.sender, l.number) (sender, number)
same_place l sender number h =
    ap (λ (s : ℕ). let p : Place = (s, l.number) in p) (eqb-true l.sender sender (and_first (nat_eq l.sender sender) (nat_eq l.number number) h))
    ∙ ap (λ (n : ℕ). let p : Place = (sender, n) in p) (eqb-true l.number number (and_second (nat_eq l.sender sender) (nat_eq l.number number) h))

is_there : (l : NewLetter) (sender number : ℕ) → ◌≡◌ {A = Place} (sender, number) (l.sender, l.number) → (nat_eq l.sender sender && nat_eq l.number number) ≡ true
is_there l sender number h =
    and_both (nat_eq l.sender sender) (nat_eq l.number number) (eq-eqb l.sender sender (ap (λ (p : Place). p.0) (sym h))) (eq-eqb l.number number (ap (λ (p : Place). p.1) (sym h)))

here : (b : Bool) (text : List ℕ) (o : Option (List ℕ)) → b ≡ true → cond b (Some text) o ≡ Some text
here true text o h = refl
here false text o h = absurd (cc (h))

apart : (b : Bool) (text : List ℕ) (o : Option (List ℕ)) → (b ≡ true → ⊥) → cond b (Some text) o ≡ o
apart true text o h = absurd (h refl)
apart false text o h = refl

pub put_here : (kept : Kept) (p : Place) (text : List ℕ) → get (insert kept p text) p ≡ Some text
put_here kept p text = get-insert places_total kept p text p ∙ here (eq_by_cmp place_cmp p p) text (get kept p) (ap is_eq (tied_itself places_total p))

put_apart : (kept : Kept) (p q : Place) (text : List ℕ) → (q ≡ p → ⊥) → get (insert kept p text) q ≡ get kept q
put_apart kept p q text h = get-insert places_total kept p text q ∙ apart (eq_by_cmp place_cmp q p) text (get kept q) (λ e. h (tied p q e))

own_found_by : (kept : Kept) (l : NewLetter) (ls : List NewLetter) (sender number : ℕ) (text : List ℕ) (b : Bool) → (nat_eq l.sender sender && nat_eq l.number number) ≡ b → AreFree kept (l ∷ ls)
    → (own_text ls sender number ≡ Some text → get (with_letters kept (l ∷ ls)) (sender, number) ≡ Some text) → (if b then Some l.text else own_text ls sender number) ≡ Some text → get (with_letters kept (l ∷ ls)) (sender, number) ≡ Some text
own_found_by kept l ls sender number text true at free later e =
    let next : Kept = insert kept (l.sender, l.number) l.text in
    let first : get next (l.sender, l.number) ≡ Some l.text = put_here kept (l.sender, l.number) l.text in
    ap (get (with_letters next ls)) (sym (same_place l sender number at)) ∙ within_letters next ls free.1 (l.sender, l.number) (some_of (get next (l.sender, l.number)) l.text first) ∙ first ∙ e
own_found_by kept l ls sender number text false at free later e = later e

-- a text that the block has is kept with it
pub own_found : (kept : Kept) (ls : List NewLetter) (sender number : ℕ) (text : List ℕ) → AreFree kept ls → own_text ls sender number ≡ Some text → get (with_letters kept ls) (sender, number) ≡ Some text
own_found kept [] sender number text free e = absurd (cc (e))
own_found kept (l ∷ ls) sender number text free e =
    own_found_by kept l ls sender number text (nat_eq l.sender sender && nat_eq l.number number) refl free (own_found (insert kept (l.sender, l.number) l.text) ls sender number text free.1) e

not_there : (b : Bool) (text : List ℕ) (o : Option (List ℕ)) → (if b then Some text else o) ≡ None → (b ≡ true → ⊥) × (o ≡ None)
not_there true text o e = absurd (cc (e))
not_there false text o e = ((λ t. cc (t)), e)

-- and where it has none, what is kept already
pub own_lacks : (kept : Kept) (ls : List NewLetter) (sender number : ℕ) → own_text ls sender number ≡ None → get (with_letters kept ls) (sender, number) ≡ get kept (sender, number)
own_lacks kept [] sender number e = refl
own_lacks kept (l ∷ ls) sender number e =
    let both = not_there (nat_eq l.sender sender && nat_eq l.number number) l.text (own_text ls sender number) e in
    own_lacks (insert kept (l.sender, l.number) l.text) ls sender number both.1 ∙ put_apart kept (l.sender, l.number) (sender, number) l.text (λ s. both.0 (is_there l sender number s))

-- ---- a block in the making

answers_to-push : (setup : Lists) (kept : Kept) (texts : List (List ℕ)) (text : List ℕ) → answers_to setup kept (texts ++ text ∷ []) ≡ answers_to setup kept texts ++ answer_to setup (kept_from setup kept texts) text ∷ []
answers_to-push setup kept [] text = ap (λ (k : Kept). answer_to setup k text ∷ []) (sym (kept_from-nil setup kept))
answers_to-push setup kept (t ∷ ts) text =
    ap (λ (rs : List (Result Held DeliverFault)). answer_to setup kept t ∷ rs) (answers_to-push setup (kept_from setup kept (t ∷ [])) ts text
    ∙ ap (λ (k : Kept). answers_to setup (kept_from setup kept (t ∷ [])) ts ++ answer_to setup k text ∷ []) (kept_from-append setup kept (t ∷ []) ts))

pub gathers_none : (setup : Lists) (kept : Kept) → Gathers setup kept [] [] []
gathers_none setup kept = record { free = tt; kept_is = sym (kept_from-nil setup kept); replies_are = refl }

-- one text more
pub gathers_more : (setup : Lists) (kept : Kept) (ls later : List NewLetter) (rs : List (Result Held DeliverFault)) (texts : List (List ℕ)) (text : List ℕ) (r : Result Held DeliverFault)
    → Gathers setup kept ls rs texts → TakesText setup kept ls later text r → Gathers setup kept later (rs ++ r ∷ []) (texts ++ text ∷ [])
gathers_more setup kept ls later rs texts text r so next = record {
  free = next.free so.free;
  kept_is = next.leaves so.free ∙ ap (λ (k : Kept). kept_from setup k (text ∷ [])) so.kept_is ∙ kept_from-append setup kept texts (text ∷ []);
  replies_are = ap (λ (l : List (Result Held DeliverFault)). l ++ r ∷ []) so.replies_are
      ∙ ap (λ (x : Result Held DeliverFault). answers_to setup kept texts ++ x ∷ []) (next.answer so.free ∙ ap (λ (k : Kept). answer_to setup k text) so.kept_is) ∙ sym (answers_to-push setup kept texts text);
}

-- ---- one text

-- the answer to a message
answer_message : (setup : Lists) (kept : Kept) (text : List ℕ) (message : Message) (found : Option (List ℕ)) → read setup text ≡ Ok message → get kept (place_of message) ≡ found → answer_to setup kept text ≡ answer_at text message found
unfolding answer_to
answer_message setup kept text message found e at = ap (answer_by kept text) e ∙ ap (answer_at text message) at

-- that to a text that is none
answer_none : (setup : Lists) (kept : Kept) (text : List ℕ) (fault : MailFault) → read setup text ≡ Err fault → answer_to setup kept text ≡ Err (Mail fault)
unfolding answer_to
answer_none setup kept text fault e = ap (answer_by kept text) e

-- a text that is no message
pub takes_fault : (setup : Lists) (kept : Kept) (ls : List NewLetter) (text : List ℕ) (fault : MailFault) → read setup text ≡ Err fault → TakesText setup kept ls ls text (Err (Mail fault))
takes_fault setup kept ls text fault e = record {
  free = λ free. free;
  answer = λ free. sym (answer_none setup (with_letters kept ls) text fault e);
  leaves = λ free. sym (kept_from-fault setup (with_letters kept ls) text fault e);
}

takes_taken : (setup : Lists) (kept : Kept) (ls : List NewLetter) (text stored : List ℕ) (message : Message) → read setup text ≡ Ok message → (AreFree kept ls → get (with_letters kept ls) (place_of message) ≡ Some stored)
    → TakesText setup kept ls ls text (answer_at text message (Some stored))
takes_taken setup kept ls text stored message e at = record {
  free = λ free. free;
  answer = λ free. sym (answer_message setup (with_letters kept ls) text message (Some stored) e (at free));
  leaves = λ free. sym (kept_from-taken setup (with_letters kept ls) text message e (some_of (get (with_letters kept ls) (place_of message)) stored (at free)));
}

-- a message whose place a letter of the block has
pub takes_own : (setup : Lists) (kept : Kept) (ls : List NewLetter) (text stored : List ℕ) (message : Message) → read setup text ≡ Ok message → own_text ls message.sender message.number ≡ Some stored
    → TakesText setup kept ls ls text (answer_at text message (Some stored))
takes_own setup kept ls text stored message e own = takes_taken setup kept ls text stored message e (λ free. own_found kept ls message.sender message.number stored free own)

-- one whose place has a kept text
pub takes_kept : (setup : Lists) (kept : Kept) (ls : List NewLetter) (text stored : List ℕ) (message : Message) → read setup text ≡ Ok message → own_text ls message.sender message.number ≡ None → Some stored ≡ get kept (place_of message)
    → TakesText setup kept ls ls text (answer_at text message (Some stored))
takes_kept setup kept ls text stored message e own found = takes_taken setup kept ls text stored message e (λ free. own_lacks kept ls message.sender message.number own ∙ sym found)

-- one whose place is free
pub takes_free : (setup : Lists) (kept : Kept) (ls : List NewLetter) (text : List ℕ) (message : Message) → read setup text ≡ Ok message → own_text ls message.sender message.number ≡ None → None ≡ get kept (place_of message)
    → TakesText setup kept ls (ls ++ letter_of (held_at message) text ∷ []) text (Ok (held_at message))
takes_free setup kept ls text message e own found =
    let l : NewLetter = letter_of (held_at message) text in
    let free : get (with_letters kept ls) (place_of message) ≡ None = own_lacks kept ls message.sender message.number own ∙ sym found in
    record {
      free = λ h. free-push kept ls l h free;
      answer = λ h. sym (answer_message setup (with_letters kept ls) text message None e free);
      leaves = λ h. letters-push kept ls l ∙ sym (kept_from-free setup (with_letters kept ls) text message e free);
    }

-- ---- the letter that a search finds

own_if : (b : Bool) (text : List ℕ) (o : Option (List ℕ)) → (if b then Some text else o) ≡ None → (b ≡ false) × (o ≡ None)
own_if true text o e = absurd (cc (e))
own_if false text o e = (refl, e)

not_at : (b : Bool) → (b ≡ true → ⊥) → b ≡ false
not_at true h = absurd (h refl)
not_at false h = refl

-- none before it
pub own_less : (xs : List NewLetter) (l : NewLetter) (sender number : ℕ) → own_text xs sender number ≡ None → (l.sender ≡ sender → l.number ≡ number → ⊥) → own_text (xs ++ l ∷ []) sender number ≡ None
own_less [] l sender number none other =
    let at : (nat_eq l.sender sender && nat_eq l.number number) ≡ false = not_at (nat_eq l.sender sender && nat_eq l.number number)
    (λ t. other (eqb-true l.sender sender (and_first (nat_eq l.sender sender) (nat_eq l.number number) t)) (eqb-true l.number number (and_second (nat_eq l.sender sender) (nat_eq l.number number) t))) in
    rw at refl
own_less (x ∷ xs) l sender number none other =
    let both = own_if (nat_eq x.sender sender && nat_eq x.number number) x.text (own_text xs sender number) none in
    rw both.0 (own_less xs l sender number both.1 other)

-- and it
pub own_more : (xs ys : List NewLetter) (l : NewLetter) (sender number : ℕ) → own_text xs sender number ≡ None → l.sender ≡ sender → l.number ≡ number → own_text ((xs ++ l ∷ []) ++ ys) sender number ≡ Some l.text
own_more [] ys l sender number none s n =
    let at : (nat_eq l.sender sender && nat_eq l.number number) ≡ true = and_both (nat_eq l.sender sender) (nat_eq l.number number) (eq-eqb l.sender sender s) (eq-eqb l.number number n) in
    rw at refl
own_more (x ∷ xs) ys l sender number none s n =
    let both = own_if (nat_eq x.sender sender && nat_eq x.number number) x.text (own_text xs sender number) none in
    rw both.0 (own_more xs ys l sender number both.1 s n)

-- ---- what calls answer

abbrev compared : List ℕ → Held → List ℕ → Result Held DeliverFault
compared text held kept = if bytes_eq kept text then Ok held else Err OtherText

-- the answer by a letter of the block
pub takes_answer : (setup : Lists) (kept : Kept) (ls : List NewLetter) (text : List ℕ) (message : Message) (r : Result Held DeliverFault) (o : Option (List ℕ)) → read setup text ≡ Ok message → own_text ls message.sender message.number ≡ o
    → Some r ≡ option_map (λ (k : List ℕ). if bytes_eq k text then Ok (held_at message) else Err OtherText) o → TakesText setup kept ls ls text r
takes_answer setup kept ls text message r None e own h = absurd (cc (h))
takes_answer setup kept ls text message r (Some stored) e own h =
    let is : r ≡ compared text (held_at message) stored = cc in
    subst (λ (x : Result Held DeliverFault). TakesText setup kept ls ls text x) (sym is) (takes_own setup kept ls text stored message e own)

pub none_own : {A : Type 0} (f : List ℕ → A) (o : Option (List ℕ)) → option_map f o ≡ None → o ≡ None
none_own f None h = refl
none_own f (Some x) h = absurd (cc (h))

-- a fault that isn't want of memory is the text's own
pub fault_read : (setup : Lists) (text : List ℕ) (fault : MailFault) → (Err fault ≡ read setup text) ⊎ (◌≡◌ {A = Result Message MailFault} (Err fault) (Err NoMemory)) → (fault ≡ NoMemory → ⊥) → read setup text ≡ Err fault
fault_read setup text fault h other = ⊎_elim (λ e. sym e) (λ e. absurd (other (cc (e)))) h

-- ---- an office with the letters of a block

places_letters : (setup : Lists) (kept : Kept) (ls : List NewLetter) → ((p : Place) → IsSome (get kept p) → IsPlace setup p) → ArePlaced setup ls → (p : Place) → IsSome (get (with_letters kept ls) p) → IsPlace setup p
places_letters setup kept [] places placed = places
places_letters setup kept (l ∷ ls) places placed =
    places_letters setup (insert kept (l.sender, l.number) l.text) ls (places-put setup kept (l.sender, l.number) l.text places placed.0) placed.1

pub IsOffice-mail : (setup : Lists) (old new : Content) (ls : List NewLetter) (rs : List (Result Held DeliverFault)) (texts : List (List ℕ)) → IsOffice setup old → Gathers setup old.kept ls rs texts → ArePlaced setup ls → new ≡ with_mail old ls → IsOffice setup new
IsOffice-mail setup old new ls rs texts office so placed put =
    let kept : new.kept ≡ with_letters old.kept ls = ap (λ (c : Content). c.kept) put in
    IsOffice-later setup old new texts office (kept ∙ so.kept_is)
    (λ p h. places_letters setup old.kept ls office.places placed p (subst IsSome (ap (λ (k : Kept). get k p) kept) h))
    (ap (λ (c : Content). c.reports) put) (ap (λ (c : Content). c.testing) put) (ap (λ (c : Content). c.facts) put)

pub Within-mail : (old new : Kept) (ls : List NewLetter) → AreFree old ls → new ≡ with_letters old ls → Within old new
Within-mail old new ls free is = subst (Within old) (sym is) (within_letters old ls free)

-- one more of which this is true
pub each_push : {A : Type 0} (P : A → Type 0) (xs : List A) (x : A) → AllByRecursion P xs → P x → AllByRecursion P (xs ++ x ∷ [])
each_push P [] x h k = (k, tt)
each_push P (y ∷ ys) x h k = (h.0, each_push P ys x h.1 k)
