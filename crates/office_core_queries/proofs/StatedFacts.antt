-- What covers state, sender by sender.
use Rattle.std.proofs.Common.{◌≡◌, ℕ, zero, suc, ◌+◌, ◌<◌, Bool, false, cond, ◌==◌, List, [], ◌∷◌, ◌++◌, Option, Some, None, filter_map, sym, ap, ◌∙◌, arith}
use Rattle.std.specs.List.{cons_option, range_with_len}
use Rattle.std.proofs.Math.Dec.{eqb-suc-zero}
use Rattle.std.proofs.lemmas.Bool.{eq-eqb}
use Rattle.std.proofs.lemmas.List.{append-nil}
use Rattle.std.proofs.lemmas.List.Elements.{filter_map-append}
use Rattle.office_core_queries.specs.declared.covers.Stated.{Stated}
use Rattle.office_core_queries.specs.Listing.{stated_at, stated_to}
use Rattle.office_core_queries.proofs.LetterLists.{range_joined}

stated_next : (covers : ℕ → ℕ) (n : ℕ) → stated_to covers (n + 1) ≡ stated_to covers n ++ cons_option (stated_at covers n) []
unfolding stated_to
stated_next covers n =
    let e : 0 + n ≡ n = omega arith in
    ap (filter_map (stated_at covers)) (sym (range_joined 0 n 1))
    ∙ filter_map-append (stated_at covers) (range_with_len 0 n) (range_with_len (0 + n) 1)
    ∙ ap (λ k. filter_map (stated_at covers) (range_with_len 0 n) ++ filter_map (stated_at covers) (range_with_len k 1)) e

-- a number, where it isn't 0
abbrev stated_by : ℕ → ℕ → Bool → Option Stated
stated_by n k b = cond b None (Some (record { sender = n; number = k }))

not_zero : (k : ℕ) → 0 < k → (k == 0) ≡ false
not_zero zero h = absurd (omega (arith, h))
not_zero (suc k) h = eqb-suc-zero k

some_stated : (covers : ℕ → ℕ) (n k : ℕ) → k ≡ covers n → 0 < k → stated_to covers (n + 1) ≡ stated_to covers n ++ record { sender = n; number = k } ∷ []
some_stated covers n k e some =
    stated_next covers n
    ∙ ap (λ m. stated_to covers n ++ cons_option (stated_by n m (m == 0)) []) (sym e)
    ∙ ap (λ b. stated_to covers n ++ cons_option (stated_by n k b) []) (not_zero k some)

pub stated_found : (covers : ℕ → ℕ) (n : ℕ) (old new : List Stated) (x : Stated) → new ≡ old ++ x ∷ [] → old ≡ stated_to covers n → x.sender ≡ n → x.number ≡ covers n → 0 < x.number → new ≡ stated_to covers (n + 1)
stated_found covers n old new x push so at e some =
    push ∙ ap (λ l. l ++ x ∷ []) so
    ∙ ap (λ (s : ℕ). stated_to covers n ++ record { sender = s; number = x.number } ∷ []) at
    ∙ sym (some_stated covers n x.number e some)

pub stated_skipped : (covers : ℕ → ℕ) (n k : ℕ) → k ≡ covers n → k ≡ 0 → stated_to covers (n + 1) ≡ stated_to covers n
stated_skipped covers n k e none =
    stated_next covers n
    ∙ ap (λ m. stated_to covers n ++ cons_option (stated_by n m (m == 0)) []) (sym e)
    ∙ ap (λ b. stated_to covers n ++ cons_option (stated_by n k b) []) (eq-eqb k 0 none)
    ∙ append-nil (stated_to covers n)
