use Rattle.std.proofs.Common.{◌≡◌, ℕ, zero, suc, ◌+◌, ◌-◌, ◌^◌, ◌<◌, ◌≤◌, Bool, true, false, List, [], ◌∷◌, ◌++◌, length, get_or, set, drop, replicate, min, sym, ap, ◌∙◌, subst, arith}
use Rattle.std.specs.List.{All, range_with_len}
use Rattle.std.proofs.lemmas.List.{append_assoc, length-map, get_or-map, drop_more, drop_all}
use Rattle.deb_control.specs.declared.binary.Binary.{Binary}
use Rattle.deb_control.specs.declared.relation.Clause.{Clause}
use Rattle.testing_install.specs.declared.claims.Claim.{Claim}
use Rattle.testing_install.specs.Satisfies.{meets as row_meets}
use Rattle.testing_install.specs.Closed.{IsMet, marked}
use Rattle.testing_install.specs.steps.Claims.{claims_from}
use Rattle.testing_install.specs.steps.Ground.{pairs, MeetsAt}
use Rattle.testing_install.specs.steps.Work.{Work, Turn, after_turn}
use Rattle.testing_install.specs.steps.Progress.{count_of, owner, clause, claim_count, claim_at, IsWork}
use Rattle.testing_install.proofs.Counting.{count_of-same, count_of-cons}
use Rattle.testing_install.proofs.Claiming.{owner_within}
use Rattle.testing_install.proofs.Working.{work_rest, work_lose, work_skip, work_turn, work_start, start}

-- what a claim that was read says
pub read_owner : (rows : List Binary) (claims : List Claim) (c : ℕ) (x : Claim) → pairs claims ≡ claims_from 0 rows → c < length claims → x ≡ get_or claims c x → owner rows c ≡ x.owner
read_owner rows claims c x are h at =
    let tag : Claim → ℕ × Clause = λ y. (y.owner, y.clause.now) in
    ap (λ l. (claim_at l c).0) (sym are) ∙ ap (λ (p : ℕ × Clause). p.0) (get_or-map tag claims c x (0, []) h) ∙ sym (ap (λ y. y.owner) at)

pub read_clause : (rows : List Binary) (claims : List Claim) (c : ℕ) (x : Claim) → pairs claims ≡ claims_from 0 rows → c < length claims → x ≡ get_or claims c x → clause rows c ≡ x.clause.now
read_clause rows claims c x are h at =
    let tag : Claim → ℕ × Clause = λ y. (y.owner, y.clause.now) in
    ap (λ l. (claim_at l c).1) (sym are) ∙ ap (λ (p : ℕ × Clause). p.1) (get_or-map tag claims c x (0, []) h) ∙ sym (ap (λ y. y.clause.now) at)

pub length-pairs : (rows : List Binary) (claims : List Claim) → pairs claims ≡ claims_from 0 rows → length claims ≡ claim_count rows
length-pairs rows claims are = let tag : Claim → ℕ × Clause = λ y. (y.owner, y.clause.now) in sym (length-map claims tag) ∙ ap length are

module _ (rows : List Binary) (claims : List Claim) (c : ℕ) (x : Claim) (w w1 : Work) (are : pairs claims ≡ claims_from 0 rows) (h : c < length claims) (at : x ≡ get_or claims c x) (counted : w1 ≡ record w { looks = min (w.looks + 1) (2 ^ 64 - 1) }) (marks : List Bool) (same : marks ≡ w1.marks) where
  was : marks ≡ w.marks
  was = same ∙ ap (λ v. v.marks) counted

  pub owner_in : length w.marks ≡ length rows → x.owner < length w.marks
  owner_in long = omega (arith, read_owner rows claims c x are h at, owner_within rows c (omega (arith, length-pairs rows claims are)))

  pub look_rest : (w2 : Work) (k : ℕ) → MeetsAt rows (marked marks) x.clause.now k → w2 ≡ record w1 { resting = set w1.resting k (get_or w1.resting k [] ++ c ∷ []) } → (todo : List ℕ) → IsWork rows w (c ∷ todo) → IsWork rows w2 todo
  look_rest w2 k meets e todo work =
      let F : Work → Work = λ v. record v { resting = set v.resting k (get_or v.resting k [] ++ c ∷ []) } in
      let on : marked w.marks k ≡ true = ap (λ m. marked m k) (sym was) ∙ meets.is_in in
      let does = subst (λ cl. row_meets meets.row cl ≡ true) (sym (read_clause rows claims c x are h at)) meets.does in
      subst (λ v. IsWork rows v todo) (sym (e ∙ ap F counted)) (work_rest rows w c todo k meets.row (min (w.looks + 1) (2 ^ 64 - 1)) work meets.stands on does (omega arith))

  pub look_lose : (w2 : Work) → (IsMet rows (marked marks) x.clause.now → ⊥) → marked w1.marks x.owner ≡ true → w2 ≡ record w1 { marks = set w1.marks x.owner false; waiting = w1.waiting ++ x.owner ∷ [] } → (todo : List ℕ) → IsWork rows w (c ∷ todo) → IsWork rows w2 todo
  look_lose w2 unmet on e todo work =
      let F : ℕ → Work → Work = λ o v. record v { marks = set v.marks o false; waiting = v.waiting ++ o ∷ [] } in
      let own = read_owner rows claims c x are h at in
      let here : marked w.marks (owner rows c) ≡ true = ap (λ m. marked m (owner rows c)) (sym (ap (λ v. v.marks) counted)) ∙ ap (marked w1.marks) own ∙ on in
      let out : IsMet rows (marked w.marks) (clause rows c) → ⊥ = (λ met. unmet (subst (λ m. IsMet rows (marked m) x.clause.now) (sym was) (subst (IsMet rows (marked w.marks)) (read_clause rows claims c x are h at) met))) in
      let target = e ∙ ap (λ o. F o w1) (sym own) ∙ ap (F (owner rows c)) counted in
      subst (λ v. IsWork rows v todo) (sym target) (work_lose rows w c todo (min (w.looks + 1) (2 ^ 64 - 1)) work here out (omega arith))

  pub look_skip : marked w1.marks x.owner ≡ false → (todo : List ℕ) → IsWork rows w (c ∷ todo) → IsWork rows w1 todo
  look_skip off todo work =
      let own = read_owner rows claims c x are h at in
      let gone : marked w.marks (owner rows c) ≡ false = ap (λ m. marked m (owner rows c)) (sym (ap (λ v. v.marks) counted)) ∙ ap (marked w1.marks) own ∙ off in
      subst (λ v. IsWork rows v todo) (sym counted) (work_skip rows w c todo (min (w.looks + 1) (2 ^ 64 - 1)) work gone (omega arith))

-- the next of the claims
pub work_next : (rows : List Binary) (w : Work) (claims : List ℕ) (i : ℕ) → i < length claims → IsWork rows w (drop i claims) → IsWork rows w (get_or claims i 0 ∷ drop (i + 1) claims)
work_next rows w claims i h work = subst (IsWork rows w) (drop_more claims i 0 h) work

pub work_all : (rows : List Binary) (w : Work) (claims : List ℕ) (i : ℕ) → length claims ≤ i → IsWork rows w (drop i claims) → IsWork rows w []
work_all rows w claims i h work = subst (IsWork rows w) (drop_all i claims h) work

pub next_in : (rows : List Binary) (w : Work) (claims : List ℕ) (i : ℕ) → i < length claims → IsWork rows w (drop i claims) → get_or claims i 0 < claim_count rows
next_in rows w claims i h work = (work_next rows w claims i h work).sound.todo_in (get_or claims i 0) (omega (arith, count_of-same (get_or claims i 0) (drop (i + 1) claims)))

-- after a turn
pub work_turned : (rows : List Binary) (w w2 : Work) (claims : List ℕ) → IsWork rows w [] → Turn w w2 claims → IsWork rows w2 claims
work_turned rows w w2 claims work turn = subst (λ v. IsWork rows v claims) (sym turn.left) (subst (IsWork rows (after_turn w turn.front turn.place)) (sym turn.taken) (work_turn rows w turn.front turn.place work turn.last))

-- what stands at a place is counted
stands_in : (xs : List ℕ) (i d : ℕ) → i < length xs → 0 < count_of (get_or xs i d) xs
stands_in [] i d h = absurd (omega arith)
stands_in (x ∷ xs) zero d h = omega (arith, count_of-same x xs)
stands_in (x ∷ xs) (suc i) d h = omega (arith, stands_in xs i d (omega arith), count_of-cons (get_or xs i d) x xs)

-- each waiting row is one
pub waiting_places : (rows : List Binary) (w : Work) → IsWork rows w [] → All (λ k. k < length w.resting) w.waiting
waiting_places rows w work = λ i d h. omega (arith, work.sound.resting_len, work.sound.waiting_in (get_or w.waiting i d) (stands_in w.waiting i d h))

-- the work as it begins
pub work_begun : (rows : List Binary) (claims : List Claim) (w : Work) (todo : List ℕ) (n m : ℕ) → pairs claims ≡ claims_from 0 rows → length rows ≡ n → w ≡ record { marks = replicate n true; resting = replicate n []; waiting = []; turns = 0; looks = 0 } → todo ≡ range_with_len 0 m → m ≡ length claims → IsWork rows w todo
work_begun rows claims w todo n m are long e t count =
    let begun : w ≡ start rows = e ∙ ap (λ k. record { marks = replicate k true; resting = replicate k []; waiting = []; turns = 0; looks = 0 }) (sym long) in
    let each : todo ≡ range_with_len 0 (claim_count rows) = t ∙ ap (range_with_len 0) (count ∙ length-pairs rows claims are) in
    subst (λ v. IsWork rows v todo) (sym begun) (subst (IsWork rows (start rows)) (sym each) (work_start rows))

-- a number more, and the ones that are left
pub range_more : (old new whole : List ℕ) (i n : ℕ) → i < n → new ≡ old ++ i ∷ [] → old ++ range_with_len i (n - i) ≡ whole → new ++ range_with_len (i + 1) (n - (i + 1)) ≡ whole
range_more old new whole i n h e so_far =
    let rest = range_with_len (i + 1) (n - (i + 1)) in
    let left : n - i ≡ suc (n - (i + 1)) = omega arith in
    ap (λ xs. xs ++ rest) e ∙ append_assoc old (i ∷ []) rest ∙ sym (ap (λ k. old ++ range_with_len i k) left) ∙ so_far
