-- The text of an order is read as the order.
use Rattle.std.proofs.Common.{◌≡◌, ℕ, zero, suc, ◌+◌, ◌*◌, ◌≤◌, ◌&&◌, Bool, true, not, cond, nat_le, nat_lt, List, [], ◌∷◌, ◌++◌, length, Ok, Some, None, refl, ap, ◌∙◌, arith, codes}
use Rattle.std.specs.Fmt.{decimal}
use Rattle.std.specs.List.{AllByRecursion, flat_map, list_all}
use Rattle.std.specs.Str.{IsAscii}
use Rattle.std.specs.Cmp.{first_so, second_so}
use Rattle.std.proofs.lemmas.Bool.Decides.{nat_tests}
use Rattle.std.proofs.lemmas.Fmt.{length-decimal-le}
use Rattle.std.proofs.lemmas.List.{append_assoc, length-append}
use Rattle.std.proofs.lemmas.Str.{IsUtf8-from_ascii, is_utf8-from_IsUtf8}
use Rattle.jiff_core.specs.declared.civil.date.Date.{Date}
use Rattle.deb_control.specs.Paragraphs.{Reading, reading, reading_of_text, value_of}
use Rattle.deb_control.specs.Relations.{◌>>=◌, is_qualifier_char}
use Rattle.deb_control.specs.Text.{is_line_feed, trim_white}
use Rattle.deb_control.specs.declared.fault.ParagraphFault.TheVariants.{NotUtf8}
use Rattle.office_mail_setup.specs.declared.field.Field.TheVariants as field
use Rattle.office_mail_setup.specs.declared.kind.Kind.{Kind}
use Rattle.office_mail_setup.specs.declared.kind.Kind.TheVariants as kind
use Rattle.office_mail_setup.specs.declared.setup.Role.TheVariants.{Runs}
use Rattle.office_mail_setup.specs.Kinds.{kind_named}
use Rattle.office_mail_setup.specs.Lists.{Lists}
use Rattle.office_mail_setup.specs.WholeText.{Paragraph, needs, whole, first_of, rest_of}
use Rattle.office_mail_setup.specs.Values.{number_in}
use Rattle.office_mail.specs.Days.{day_in}
use Rattle.office_mail.specs.Covers.{covers_in}
use Rattle.office_mail.specs.Fields.{required, has_fields, value_in}
use Rattle.office_mail.specs.Read.{body_of, has_fields_of, knows_archs, message_of, order_of, paragraphs_say, read, sender_named}
use Rattle.office_mail.specs.declared.message.Body.TheVariants.{Run}
use Rattle.office_mail.specs.declared.message.MailFault.TheVariants.{TooLong, BadParagraph}
use Rattle.office_mail.specs.declared.message.RunOrder.{RunOrder}
use Rattle.office_core_laws.proofs.OrderWords.{IsWord, all_weaker, both_all, no_feed, trimmed_word}
use Rattle.office_core_laws.proofs.OrderCovers.{IsPair, Pair, listing, next_words, number_word, pair_words}
use Rattle.office_core_laws.proofs.OrderLines.{HasNoFeed, reads_five}

-- Its characters.

abbrev is_small : ℕ → Bool
is_small c = nat_lt c 128

small_word : (c : ℕ) → is_qualifier_char c ≡ true → is_small c ≡ true
small_word c h = grind (arith, nat_tests)

module _ (p : ℕ → Bool) (of_word : (c : ℕ) → is_qualifier_char c ≡ true → p c ≡ true) (space : p 32 ≡ true) (comma : p 44 ≡ true) where
  word_has : (text : List ℕ) → IsWord text → list_all p text ≡ true
  word_has text w = all_weaker is_qualifier_char p of_word text w.chars

  spaced : (text : List ℕ) → list_all p text ≡ true → list_all p (32 ∷ text) ≡ true
  spaced text h = ap (λ b. b && list_all p text) space ∙ h

  pair_has : (x : Pair) → IsPair x → list_all p (pair_words x) ≡ true
  pair_has x is = both_all p x.0 (32 ∷ decimal x.1) (word_has x.0 is.name) (spaced (decimal x.1) (word_has (decimal x.1) (number_word x is)))

  next_has : (x : Pair) → IsPair x → list_all p (next_words x) ≡ true
  next_has x is = ap (λ b. b && list_all p (32 ∷ pair_words x)) comma ∙ spaced (pair_words x) (pair_has x is)

  more_have : (xs : List Pair) → AllByRecursion IsPair xs → list_all p (flat_map next_words xs) ≡ true
  more_have [] h = refl
  more_have (x ∷ xs) h = both_all p (next_words x) (flat_map next_words xs) (next_has x h.0) (more_have xs h.1)

  listing_has : (xs : List Pair) → AllByRecursion IsPair xs → list_all p (listing xs) ≡ true
  listing_has [] h = refl
  listing_has (x ∷ xs) h = both_all p (32 ∷ pair_words x) (flat_map next_words xs) (spaced (pair_words x) (pair_has x h.0)) (more_have xs h.1)

-- Its length.

pub number_short : (n : ℕ) → n ≤ 999_999_999 → length (decimal n) ≤ 9
number_short n h = length-decimal-le 9 n (omega arith) (omega (arith, h)) (omega (arith, h))

pair_short : (x : Pair) → IsPair x → length (pair_words x) ≤ 42
pair_short x is =
    let e = length-append x.0 (32 ∷ decimal x.1) in
    let n = number_short x.1 is.number in
    omega (arith, e, n, is.short)

more_short : (xs : List Pair) → AllByRecursion IsPair xs → length (flat_map next_words xs) ≤ 44 * length xs
more_short [] h = omega arith
more_short (x ∷ xs) h =
    let e = length-append (next_words x) (flat_map next_words xs) in
    let one = pair_short x h.0 in
    let rest = more_short xs h.1 in
    omega (arith, e, one, rest)

listing_short : (xs : List Pair) → AllByRecursion IsPair xs → length xs ≤ 16 → length (listing xs) ≤ 704
listing_short [] h few = omega arith
listing_short (x ∷ xs) h few =
    let e = length-append (32 ∷ pair_words x) (flat_map next_words xs) in
    let one = pair_short x h.0 in
    let rest = more_short xs h.1 in
    omega (arith, e, one, rest, few)

-- The text in lines.

pub pieces : (a b c d e f g h i : List ℕ) → a ++ b ++ c ++ d ++ e ++ f ++ g ++ h ++ i ≡ a ++ (b ++ (c ++ (d ++ (e ++ (f ++ (g ++ (h ++ i)))))))
pieces a b c d e f g h i =
    append_assoc (a ++ b ++ c ++ d ++ e ++ f ++ g) h i
    ∙ append_assoc (a ++ b ++ c ++ d ++ e ++ f) g (h ++ i)
    ∙ append_assoc (a ++ b ++ c ++ d ++ e) f (g ++ (h ++ i))
    ∙ append_assoc (a ++ b ++ c ++ d) e (f ++ (g ++ (h ++ i)))
    ∙ append_assoc (a ++ b ++ c) d (e ++ (f ++ (g ++ (h ++ i))))
    ∙ append_assoc (a ++ b) c (d ++ (e ++ (f ++ (g ++ (h ++ i)))))
    ∙ append_assoc a b (c ++ (d ++ (e ++ (f ++ (g ++ (h ++ i))))))

ascii_at : (text : List ℕ) → list_all is_small text ≡ true → IsAscii text
ascii_at [] h i = omega arith
ascii_at (c ∷ cs) h zero = let low : is_small c ≡ true = first_so (is_small c) (list_all is_small cs) h in grind (arith, nat_tests)
ascii_at (c ∷ cs) h (suc i) = ascii_at cs (second_so (is_small c) (list_all is_small cs) h) i

-- What the paragraph says.

module _ (setup : Lists) (n m d v : List ℕ) where
  abbrev p : Paragraph
  p = (codes "From", n) ∷ (codes "Number", m) ∷ (codes "Kind", codes "run") ∷ (codes "Day", d) ∷ (codes "Covers", v) ∷ []

  from_is : required p field.From ≡ Ok n
  unfolding required value_of
  from_is = refl

  number_is : required p field.Number ≡ Ok m
  unfolding required value_of
  number_is = refl

  kind_is : required p field.Kind ≡ Ok (codes "run")
  unfolding required value_of
  kind_is = refl

  day_is : required p field.Day ≡ Ok d
  unfolding required value_of
  day_is = refl

  covers_is : required p field.Covers ≡ Ok v
  unfolding required value_of
  covers_is = refl

  run_kind : kind_named (codes "run") ≡ Some kind.Run
  unfolding kind_named
  run_kind = refl

  has_all : has_fields_of (Some kind.Run) p [] ≡ Ok true
  unfolding has_fields_of has_fields
  has_all = rw (day_is, covers_is) refl

  knows : knows_archs setup kind.Run p [] ≡ true
  unfolding knows_archs
  knows = refl

  order_read : (day : Date) (covers : List ℕ) → day_in d ≡ Some day → covers_in setup v ≡ Ok covers → order_of setup p ≡ Ok (record { day = day; covers = covers })
  unfolding order_of value_in
  order_read day covers hd hc = rw (day_is, hd, covers_is, hc) refl

  said : (place number : ℕ) (order : RunOrder) → sender_named setup n ≡ Some (place, Runs) → number_in 1 999_999_999 m ≡ Some number → order_of setup p ≡ Ok order
      → message_of setup n m (Some kind.Run) p [] ≡ Ok (record { sender = place; number = number; body = Run order })
  unfolding message_of body_of
  said place number order hs hn ho = rw (hs, hn, knows, ho) refl

  pub say : (place number : ℕ) (day : Date) (covers : List ℕ) → sender_named setup n ≡ Some (place, Runs) → number_in 1 999_999_999 m ≡ Some number → day_in d ≡ Some day → covers_in setup v ≡ Ok covers
      → paragraphs_say setup p [] ≡ Ok (record { sender = place; number = number; body = Run (record { day = day; covers = covers }) })
  unfolding paragraphs_say
  say place number day covers hs hn hd hc =
      rw (from_is, number_is, kind_is, run_kind, has_all) (said place number (record { day = day; covers = covers }) hs hn (order_read day covers hd hc))

-- The whole text.

abbrev covers_line : List Pair → List ℕ
covers_line ps = 10 ∷ codes "Covers:" ++ (listing ps ++ 10 ∷ [])

abbrev kind_line : List ℕ → List Pair → List ℕ
kind_line d ps = 10 ∷ codes "Kind: run" ++ (10 ∷ codes "Day: " ++ (d ++ covers_line ps))

abbrev number_line : List ℕ → List ℕ → List Pair → List ℕ
number_line m d ps = 10 ∷ codes "Number: " ++ (m ++ kind_line d ps)

abbrev pub order_lines : List ℕ → List ℕ → List ℕ → List Pair → List ℕ
order_lines name m d ps = (codes "From: " ++ name) ++ number_line m d ps

module _ (name m d : List ℕ) (ps : List Pair) (wn : IsWord name) (wm : IsWord m) (wd : IsWord d) (are : AllByRecursion IsPair ps) (few : length ps ≤ 16)
    (sn : length name ≤ 32) (sm : length m ≤ 9) (sd : length d ≡ 10) where
  abbrev rest4 : List ℕ
  rest4 = covers_line ps

  abbrev rest3 : List ℕ
  rest3 = d ++ rest4

  abbrev rest2 : List ℕ
  rest2 = kind_line d ps

  abbrev rest1 : List ℕ
  rest1 = number_line m d ps

  abbrev whole_text : List ℕ
  whole_text = order_lines name m d ps

  all_small : list_all is_small whole_text ≡ true
  all_small =
      let word : (t : List ℕ) → IsWord t → list_all is_small t ≡ true = λ t w. all_weaker is_qualifier_char is_small small_word t w.chars in
      let covers : list_all is_small (listing ps ++ 10 ∷ []) ≡ true = both_all is_small (listing ps) (10 ∷ []) (listing_has is_small small_word refl refl ps are) refl in
      let day : list_all is_small rest3 ≡ true = both_all is_small d rest4 (word d wd) covers in
      let number : list_all is_small (m ++ rest2) ≡ true = both_all is_small m rest2 (word m wm) day in
      both_all is_small name rest1 (word name wn) number

  is_short : nat_le (length whole_text) 65_536 ≡ true
  is_short =
      let l = listing_short ps are few in
      let e4 = length-append (listing ps) (10 ∷ []) in
      let e3 = length-append d rest4 in
      let e1 = length-append m rest2 in
      let e0 = length-append name rest1 in
      let low : length whole_text ≤ 65_536 = omega (arith, l, e4, e3, e1, e0) in
      grind (arith, nat_tests)

  no_feed_in : (t : List ℕ) → IsWord t → HasNoFeed t
  no_feed_in t w = all_weaker is_qualifier_char (λ c. not (is_line_feed c)) no_feed t w.chars

  in_lines : whole_text ≡ (codes "From: " ++ name) ++ 10 ∷ ((codes "Number: " ++ m) ++ 10 ∷ (codes "Kind: run" ++ 10 ∷ ((codes "Day: " ++ d) ++ 10 ∷ ((codes "Covers:" ++ listing ps) ++ 10 ∷ []))))
  in_lines = refl

  reading_is : (v : List ℕ) → trim_white (listing ps) ≡ v
      → reading whole_text ≡ record { paragraphs = ((codes "From", name) ∷ (codes "Number", m) ∷ (codes "Kind", codes "run") ∷ (codes "Day", d) ∷ (codes "Covers", v) ∷ []) ∷ []; refusal = None }
  unfolding reading
  reading_is v e =
      ap (λ b. cond b (reading_of_text whole_text) (record { paragraphs = []; refusal = Some NotUtf8 })) (is_utf8-from_IsUtf8 whole_text (IsUtf8-from_ascii whole_text (ascii_at whole_text all_small)))
      ∙ reads_five name m d (listing ps) (no_feed_in name wn) (no_feed_in m wm) (no_feed_in d wd) (listing_has (λ c. not (is_line_feed c)) no_feed refl refl ps are)
      ∙ rw (trimmed_word name wn, trimmed_word m wm, trimmed_word d wd, e) refl

  pub read_whole : (setup : Lists) (place number : ℕ) (day : Date) (covers : List ℕ) → sender_named setup name ≡ Some (place, Runs) → number_in 1 999_999_999 m ≡ Some number → day_in d ≡ Some day
      → covers_in setup (trim_white (listing ps)) ≡ Ok covers → read setup whole_text ≡ Ok (record { sender = place; number = number; body = Run (record { day = day; covers = covers }) })
  unfolding read
  read_whole setup place number day covers hs hn hd hc =
      ap (λ b. needs b TooLong >>= λ each. whole (reading whole_text) BadParagraph >>= λ ps. paragraphs_say setup (first_of ps) (rest_of ps)) is_short
      ∙ ap (λ (r : Reading). whole r BadParagraph >>= λ ps. paragraphs_say setup (first_of ps) (rest_of ps)) (reading_is (trim_white (listing ps)) refl)
      ∙ say setup name m d (trim_white (listing ps)) place number day covers hs hn hd hc
