-- One write after another.
use Rattle.std.proofs.Common.{◌≡◌, ℕ, ◌+◌, ◌-◌, Bool, true, false, cond, ◌==◌, Err, Option, Some, None, List, [], ◌∷◌, ◌++◌, length, take, drop, sym, ap, subst, ◌∙◌, refl, arith, ◌<◌, get_or}
use Rattle.std.specs.Io.KnownBytes.{Appends, Keeps}
use Rattle.std.proofs.KnownBytes.{Appends-trans}
use Rattle.std.proofs.lemmas.Bool.{eqb-true}
use Rattle.office_mail.specs.Counts.{HasRisen, one_more}
use Rattle.office_mail.specs.declared.feed.Sink.{Ghosts}
use Rattle.std.proofs.lemmas.List.{append_assoc, append-nil, take-append-drop, take_all, length-drop, take_more}
use Rattle.std.proofs.lemmas.List.Concat.{flat_map-append}
use Rattle.std.specs.Borrow.{Bor}
use Rattle.office_mail.specs.Written.{AppendsFront, Writes, joined}

pub appends_keeps : (a b c : Option (List ℕ)) (xs : List ℕ) → Appends a b xs → Keeps b c → Appends a c xs
appends_keeps None b c xs h k = tt
appends_keeps (Some a) None c xs h k = absurd h
appends_keeps (Some a) (Some b) None xs h k = absurd k
appends_keeps (Some a) (Some b) (Some c) xs h k = k ∙ h

pub front_of : (a c : Option (List ℕ)) (bytes : List ℕ) (n : ℕ) → Appends a c (take n bytes) → AppendsFront a c bytes
front_of a c bytes n h = record { front = take n bytes; begins = (drop n bytes, take-append-drop n bytes); took = h }

-- bytes, and then a front of more
pub front_after : (a b c : Option (List ℕ)) (xs ys : List ℕ) → Appends a b xs → AppendsFront b c ys → AppendsFront a c (xs ++ ys)
front_after a b c xs ys h f = record {
  front = xs ++ f.front;
  begins = (f.begins.0, append_assoc xs f.front f.begins.0 ∙ ap (λ (l : List ℕ). xs ++ l) f.begins.1);
  took = Appends-trans a b c xs f.front h f.took;
}

-- a front, and nothing of what was to follow
pub front_before : (a b : Option (List ℕ)) (xs ys : List ℕ) → AppendsFront a b xs → AppendsFront a b (xs ++ ys)
front_before a b xs ys f = record {
  front = f.front;
  begins = (f.begins.0 ++ ys, sym (append_assoc f.front f.begins.0 ys) ∙ ap (λ (l : List ℕ). l ++ ys) f.begins.1);
  took = f.took;
}

-- what a writer that fails leaves
pub writes_front : {W T E : Type 0} (sink : Ghosts W) (old new : W) (bytes : List ℕ) (e : E) → AppendsFront (sink.written old) (sink.written new) bytes → HasRisen (sink.failures old) (sink.failures new) → Writes {T = T} sink old new bytes (Err e)
writes_front sink old new bytes e front rose = record { ok = tt; err = front; cause = rose; clean = tt }

unraised_by : (b : Bool) (old new : ℕ) → (b ≡ true → ⊥) → new ≡ cond b (one_more old) old → new ≡ old
unraised_by true old new h e = absurd (h refl)
unraised_by false old new h e = e

-- a write that took bytes raises no count of failures
pub unraised : (n old new : ℕ) → (n ≡ 0 → ⊥) → new ≡ cond (n == 0) (one_more old) old → new ≡ old
unraised n old new h e = unraised_by (n == 0) old new (λ t. h (eqb-true n 0 t)) e

-- what a slice from a place on says
pub appends_rest : (a b : Option (List ℕ)) (xs : List ℕ) (i n : ℕ) → Appends a b (take n (take (length xs - i) (drop i xs))) → Appends a b (take n (drop i xs))
appends_rest a b xs i n h = subst (λ (l : List ℕ). Appends a b (take n l)) (take_all (length xs - i) (drop i xs) (omega (arith, length-drop i xs))) h

joined_split : (parts : List (Bor (List ℕ))) (i : ℕ) (d : Bor (List ℕ)) → i < length parts → joined parts ≡ (joined (take i parts) ++ (get_or parts i d).now) ++ joined (drop (i + 1) parts)
joined_split parts i d h =
    ap joined (sym (take-append-drop (i + 1) parts))
    ∙ flat_map-append (λ (p : Bor (List ℕ)). p.now) (take (i + 1) parts) (drop (i + 1) parts)
    ∙ ap (λ (l : List (Bor (List ℕ))). joined l ++ joined (drop (i + 1) parts)) (take_more parts i d h)
    ∙ ap (λ (l : List ℕ). l ++ joined (drop (i + 1) parts)) (flat_map-append (λ (p : Bor (List ℕ)). p.now) (take i parts) (get_or parts i d ∷ []) ∙ ap (λ (l : List ℕ). joined (take i parts) ++ l) (append-nil (get_or parts i d).now))

-- a front of one part, after those before it
pub joined_at : (a b c : Option (List ℕ)) (parts : List (Bor (List ℕ))) (i : ℕ) (d : Bor (List ℕ)) → Appends a b (joined (take i parts)) → AppendsFront b c (get_or parts i d).now → i < length parts → AppendsFront a c (joined parts)
joined_at a b c parts i d took front h =
    subst (AppendsFront a c) (sym (joined_split parts i d h))
    (front_before a c (joined (take i parts) ++ (get_or parts i d).now) (joined (drop (i + 1) parts)) (front_after a b c (joined (take i parts)) (get_or parts i d).now took front))
