-- What a text covers.
use Rattle.std.proofs.Common.{◌≡◌, ◌<◌, ◌+◌, Bool, true, false, not, List, [], ◌∷◌, ◌++◌, ℕ, map, drop, get_or, length, Ok, refl, sym, ap, ◌∙◌}
use Rattle.std.specs.Borrow.{Bor}
use Rattle.std.specs.List.{filter, list_all}
use Rattle.std.proofs.lemmas.List.{append_assoc, map_push, drop_more}
use Rattle.deb_control.specs.Text.{is_white}
use Rattle.office_mail_setup.proofs.Each.{texts, nowhere}
use Rattle.deb_control.specs.Relations.{◌>>=◌, items}
use Rattle.office_mail.specs.Covers.{BadCovers, cover_in, covers_in, numbers_by_sender}
use Rattle.testing_rules_items.specs.Distinct.{is_distinct}
use Rattle.office_mail_setup.specs.Lists.{Lists}
use Rattle.office_mail_setup.specs.WholeText.{needs, each_of}

abbrev pub names : List (List ℕ × ℕ) → List (List ℕ)
names cs = map (λ (c : List ℕ × ℕ). c.0) cs

pub covers_are : (setup : Lists) (text : List ℕ) (done : List (List ℕ × ℕ)) (once : Bool) → each_of (cover_in setup) (items text) ≡ Ok done → once ≡ is_distinct (names done) → covers_in setup text ≡ (needs once BadCovers >>= λ each. Ok (numbers_by_sender setup done))
unfolding covers_in
covers_are setup text done once e d =
    ap (λ r. r >>= λ stated. needs (is_distinct (names stated)) BadCovers >>= λ each. Ok (numbers_by_sender setup stated)) e
    ∙ ap (λ b. needs b BadCovers >>= λ each. Ok (numbers_by_sender setup done)) (sym d)

-- the parts that aren't white alone
abbrev pub not_white : List (Bor (List ℕ)) → List (List ℕ)
not_white parts = filter (λ item. not (list_all is_white item)) (texts parts)

not_white_more : (x : Bor (List ℕ)) (rest : List (Bor (List ℕ))) → list_all is_white x.now ≡ false → not_white (x ∷ rest) ≡ x.now ∷ not_white rest
not_white_more x rest black = rw black refl

white_more : (x : Bor (List ℕ)) (rest : List (Bor (List ℕ))) → list_all is_white x.now ≡ true → not_white (x ∷ rest) ≡ not_white rest
white_more x rest white = rw white refl

module _ (done parts : List (Bor (List ℕ))) (i : ℕ) (all : List (List ℕ)) (h : i < length parts) (so : texts done ++ not_white (drop i parts) ≡ all) where
  pub item_kept : list_all is_white (get_or parts i nowhere).now ≡ false → texts (done ++ get_or parts i nowhere ∷ []) ++ not_white (drop (i + 1) parts) ≡ all
  item_kept black =
      ap (λ l. l ++ not_white (drop (i + 1) parts)) (map_push (λ (x : Bor (List ℕ)). x.now) done (get_or parts i nowhere))
      ∙ append_assoc (texts done) ((get_or parts i nowhere).now ∷ []) (not_white (drop (i + 1) parts))
      ∙ ap (λ l. texts done ++ l) (sym (ap not_white (drop_more parts i nowhere h) ∙ not_white_more (get_or parts i nowhere) (drop (i + 1) parts) black))
      ∙ so

  pub item_left : list_all is_white (get_or parts i nowhere).now ≡ true → texts done ++ not_white (drop (i + 1) parts) ≡ all
  item_left white =
      ap (λ l. texts done ++ l) (sym (ap not_white (drop_more parts i nowhere h) ∙ white_more (get_or parts i nowhere) (drop (i + 1) parts) white)) ∙ so
