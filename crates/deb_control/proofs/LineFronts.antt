-- A first line that doesn't separate paragraphs, or doesn't continue a field, by the first byte.
use Rattle.std.proofs.Common.{◌≡◌, ℕ, ◌+◌, ◌<◌, ◌≤◌, Bool, true, false, cond, not, ◌&&◌, ◌||◌, List, [], ◌∷◌, length, take, drop, slice_index, refl, sym, ap, ◌∙◌, ⊎_elim, one-add, eqb-true, true≢false}
use Rattle.std.specs.Prelude.{◌==◌}
use Rattle.std.specs.List.{list_all, position_or_len}
use Rattle.std.proofs.lemmas.Bool.{cases_Bool}
use Rattle.std.proofs.lemmas.List.{drop_more, drop_all}
use Rattle.deb_version.specs.Characters.{char}
use Rattle.deb_control.specs.Text.{is_blank, is_line_feed, is_blank_line, continues}
use Rattle.deb_control.specs.steps.LineFronts.{may_be_blank, may_continue}
use Rattle.deb_control.specs.steps.ReaderSteps.{line_in_front}

neither : (x y : Bool) → (x || y) ≡ false → (x ≡ false) × (y ≡ false)
neither false false h = (refl, refl)
neither true y h = absurd cc
neither false true h = absurd cc

at_feed : (c : ℕ) (cs : List ℕ) → is_line_feed c ≡ true → line_in_front (c ∷ cs) ≡ []
at_feed c cs h = ap (λ b. take (cond (not b) (1 + position_or_len is_line_feed cs) 0) (c ∷ cs)) h

before_feed : (c : ℕ) (cs : List ℕ) → is_line_feed c ≡ false → line_in_front (c ∷ cs) ≡ c ∷ line_in_front cs
before_feed c cs h = ap (λ b. take (cond (not b) (1 + position_or_len is_line_feed cs) 0) (c ∷ cs)) h ∙ ap (λ (n : ℕ). take n (c ∷ cs)) (one-add (position_or_len is_line_feed cs))

pub not_blank : (text : List ℕ) → may_be_blank text ≡ false → is_blank_line (line_in_front text) ≡ false
unfolding is_blank_line
not_blank [] h = absurd cc
not_blank (c ∷ cs) h =
    let parts = neither (is_blank c) (is_line_feed c) h in
    ap is_blank_line (before_feed c cs parts.1) ∙ ap (λ b. b && list_all is_blank (line_in_front cs)) parts.0

pub not_continued : (text : List ℕ) → may_continue text ≡ false → continues (line_in_front text) ≡ false
unfolding continues
not_continued [] h = refl
not_continued (c ∷ cs) h = ⊎_elim
    (λ (feed : is_line_feed c ≡ true). ap continues (at_feed c cs feed))
    (λ (other : is_line_feed c ≡ false). ap continues (before_feed c cs other) ∙ ap (λ b. b && not (is_blank_line (c ∷ line_in_front cs))) h)
    (cases_Bool (is_line_feed c))

-- a first line that begins as a continuing one does so unless it is blank
pub continued_unless_blank : (text : List ℕ) → may_continue text ≡ true → continues (line_in_front text) ≡ not (is_blank_line (line_in_front text))
unfolding continues
continued_unless_blank [] h = absurd cc
continued_unless_blank (c ∷ cs) h = ⊎_elim
    (λ (feed : is_line_feed c ≡ true). absurd (true≢false (sym h ∙ ap (λ (x : ℕ). x == char " " || x == char "\t") (eqb-true _ _ feed))))
    (λ (other : is_line_feed c ≡ false).
    let front = before_feed c cs other in
    ap continues front ∙ ap (λ b. b && not (is_blank_line (c ∷ line_in_front cs))) h ∙ ap (λ line. not (is_blank_line line)) (sym front))
    (cases_Bool (is_line_feed c))

-- whether the first line from n on is blank, by the byte at n
abbrev pub blank_from : List ℕ → ℕ → Bool
blank_from bytes n = is_blank_line (line_in_front (drop n bytes))

by_first : (bytes : List ℕ) (n : ℕ) → n < length bytes → blank_from bytes n ≡ is_blank_line (line_in_front (slice_index bytes n ∷ drop (n + 1) bytes))
by_first bytes n within = ap (λ (text : List ℕ). is_blank_line (line_in_front text)) (drop_more bytes n 0 within)

before_other : (bytes : List ℕ) (n : ℕ) → n < length bytes → is_line_feed (slice_index bytes n) ≡ false → blank_from bytes n ≡ (is_blank (slice_index bytes n) && blank_from bytes (n + 1))
unfolding is_blank_line
before_other bytes n within other = by_first bytes n within ∙ ap is_blank_line (before_feed (slice_index bytes n) (drop (n + 1) bytes) other)

pub blank_at_feed : (bytes : List ℕ) (n : ℕ) → n < length bytes → is_line_feed (slice_index bytes n) ≡ true → blank_from bytes n ≡ true
unfolding is_blank_line
blank_at_feed bytes n within feed = by_first bytes n within ∙ ap is_blank_line (at_feed (slice_index bytes n) (drop (n + 1) bytes) feed)

pub blank_at_blank : (bytes : List ℕ) (n : ℕ) → n < length bytes → is_line_feed (slice_index bytes n) ≡ false → is_blank (slice_index bytes n) ≡ true → blank_from bytes n ≡ blank_from bytes (n + 1)
blank_at_blank bytes n within other blank = before_other bytes n within other ∙ ap (λ b. b && blank_from bytes (n + 1)) blank

pub blank_at_other : (bytes : List ℕ) (n : ℕ) → n < length bytes → is_line_feed (slice_index bytes n) ≡ false → is_blank (slice_index bytes n) ≡ false → blank_from bytes n ≡ false
blank_at_other bytes n within other full = before_other bytes n within other ∙ ap (λ b. b && blank_from bytes (n + 1)) full

pub blank_at_end : (bytes : List ℕ) (n : ℕ) → length bytes ≤ n → blank_from bytes n ≡ true
unfolding is_blank_line
blank_at_end bytes n over = ap (λ (text : List ℕ). is_blank_line (line_in_front text)) (drop_all n bytes over)
