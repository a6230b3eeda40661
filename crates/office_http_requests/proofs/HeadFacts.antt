-- What reading more of a request gives.
use Rattle.std.proofs.Common.{◌≡◌, ◌⊎◌, inr, ℕ, ◌+◌, ◌≤◌, Option, List, [], ◌++◌, length, sym, ap, subst, ◌∙◌, append_assoc, append-nil, arith}
use Rattle.std.proofs.lemmas.List.{length-append}
use Rattle.std.specs.Io.KnownBytes.{Consumes, IsAtEnd}
use Rattle.std.proofs.KnownBytes.{Consumes-nil, Consumes-trans}
use Rattle.office_http_requests.specs.declared.head.ChunkRead.TheVariants as drawn
use Rattle.httparse.specs.declared.spans.HeaderSpan.{HeaderSpan}
use Rattle.office_http_requests.specs.declared.head.HeadRead.{HeadRead}
use Rattle.office_http_requests.specs.declared.head.HeadRead.TheVariants.{NoMemory}
use Rattle.office_http_requests.specs.declared.head.BodyRead.TheVariants as filled
use Rattle.office_http_requests.specs.Request.{head_room}
use Rattle.office_http_requests.specs.steps.RequestSteps.{Draws, Heads, IsEnd, Fills}

-- bytes that were seen, and some more
pub record Seen (left left' : Option (List ℕ)) (seen seen' : List ℕ) : Type 0 where
  pub taken : List ℕ
  pub took : Consumes left left' taken
  pub is : seen' ≡ seen ++ taken

pub seen_none : (left : Option (List ℕ)) (seen : List ℕ) → Seen left left seen seen
seen_none left seen = record { taken = []; took = Consumes-nil left; is = sym (append-nil seen) }

pub seen_more : (a b c : Option (List ℕ)) (x y z : List ℕ) (most : ℕ) → Seen a b x y → (d : Draws b c y z most drawn.Bytes) → Seen a c x z
seen_more a b c x y z most s d = record {
  taken = s.taken ++ d.taken;
  took = Consumes-trans a b c s.taken d.taken s.took d.took;
  is = d.is.0 ∙ ap (λ (l : List ℕ). l ++ d.taken) s.is ∙ append_assoc x s.taken d.taken;
}

pub head_end : (a b c : Option (List ℕ)) (seen seen' : List ℕ) (headers : List HeaderSpan) (e : HeadRead) → Consumes a b seen → Draws b c seen seen' head_room drawn.End → ((left : Option (List ℕ)) (hs : List HeaderSpan) → IsAtEnd left → IsEnd left seen' seen' hs e) → Heads a c seen' headers e
head_end a b c seen seen' headers e h d f = record {
  input = seen';
  few = omega (arith, d.few, ap length d.is.0);
  took = subst (Consumes a c) (ap (λ (t : List ℕ). seen ++ t) d.is.1 ∙ append-nil seen ∙ sym d.is.0) (Consumes-trans a b c seen d.taken h d.took);
  is = f c headers d.is.2;
}

pub head_some : (a b c : Option (List ℕ)) (seen seen' : List ℕ) (headers : List HeaderSpan) (e : HeadRead) → Consumes a b seen → Draws b c seen seen' head_room drawn.Bytes → IsEnd c seen' seen' headers e → Heads a c seen' headers e
head_some a b c seen seen' headers e h d is = record {
  input = seen';
  few = d.is.2;
  took = subst (Consumes a c) (sym d.is.0) (Consumes-trans a b c seen d.taken h d.took);
  is = is;
}

pub head_short : (a b c : Option (List ℕ)) (seen seen' : List ℕ) (headers : List HeaderSpan) → Consumes a b seen → Draws b c seen seen' head_room drawn.NoMemory → Heads a c seen' headers NoMemory
head_short a b c seen seen' headers h d = record { input = seen ++ d.taken; took = Consumes-trans a b c seen d.taken h d.took; few = omega (arith, d.few, length-append seen d.taken); is = tt }

-- what was seen is as it was, or within the end
abbrev pub IsWithin : ℕ → ℕ → ℕ → Type 0
IsWithin first now end = (now ≡ first) ⊎ (now ≤ end)

seen_size : (a b : Option (List ℕ)) (x y : List ℕ) (s : Seen a b x y) → length y ≡ length x + length s.taken
seen_size a b x y s = ap length s.is ∙ length-append x s.taken

pub fill_end : (a b c : Option (List ℕ)) (x y z : List ℕ) (end : ℕ) → Seen a b x y → Draws b c y z end drawn.End → Fills a c x z end filled.BrokenOff
fill_end a b c x y z end s d = record {
  taken = s.taken;
  took = subst (Consumes a c) (ap (λ (t : List ℕ). s.taken ++ t) d.is.1 ∙ append-nil s.taken) (Consumes-trans a b c s.taken d.taken s.took d.took);
  few = inr (omega (arith, seen_size a b x y s, d.room));
  is = (d.is.0 ∙ s.is, omega (arith, d.room, ap length d.is.0), d.is.2);
}

pub fill_short : (a b c : Option (List ℕ)) (x y z : List ℕ) (end : ℕ) → Seen a b x y → Draws b c y z end drawn.NoMemory → Fills a c x z end filled.NoMemory
fill_short a b c x y z end s d = record {
  taken = s.taken ++ d.taken;
  took = Consumes-trans a b c s.taken d.taken s.took d.took;
  few = inr (omega (arith, d.few, seen_size a b x y s, length-append s.taken d.taken));
  is = tt;
}
