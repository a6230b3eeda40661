-- What stands in the rows that a walk over words leaves, where it meets no fault.
use Rattle.std.proofs.Common.{◌≡◌, ℕ, Bool, true, false, not, ◌&&◌, zero, suc, cond, List, [], ◌∷◌, drop, length, Option, Some, None, refl}
use Rattle.std.specs.Prelude.{⊤, encode_utf8, find, fold, is_some, slice_get}
use Rattle.std.specs.Option.{option_map_or}
use Rattle.std.specs.Str.{bytes_eq, chars}
use Rattle.clap.specs.Lexer.{long_of, short_of}
use Rattle.clap.specs.Simple.{Shape}
use Rattle.clap.specs.Walk.{Held, Names, Outcome, Row, Rule, Step, Text, Waiting, Walk, after_flag, after_step, arg_by_id, arg_by_index, arg_by_long, arg_by_short, attached_value, bundle, bundle_met, bundle_step, done, flag_met, has_long, has_short, idle, is_pending, long_met, long_or_other, next, option, option_met, option_word, plain, plain_word, positional, reacted, refused, settled, settled_rows, short_met, short_or_plain, subcommand, subcommand_met, subcommand_or_other, takes_several, takes_values, to_positional, trailing, used, used_by_id, value, waits, walked, walked_from, word_met}
use Rattle.clap.specs.Faults.{bundle_fault, bundle_step_fault, flag_word_fault, flags_fault, long_fault, option_fault, other_fault, positional_fault, react_fault, settle_fault, short_fault, stray_fault, step_fault, turn_fault, use_fault, walk_fault, word_fault}
use Rattle.clap.specs.Kinds.{Kinds, or_else}
use Rattle.clap.specs.declared.error.kind.ErrorKind.{ErrorKind}
use Rattle.clap.specs.declared.error.kind.ErrorKind.TheVariants as kind

-- kinds of which there are none come from neither part
pub no_kinds : (a b : Kinds) → or_else a b ≡ [] → (a ≡ []) × (b ≡ [])
no_kinds [] b e = (refl, e)
no_kinds (k ∷ ks) b e = absurd (cc)

pub never_none : (k : ErrorKind) (ks : Kinds) → k ∷ ks ≡ [] → ⊥
never_none k ks e = cc

module _ (good : List Row → Type 0) (again : Bool) where
  -- a use of the rule that meets no fault leaves good rows
  abbrev pub Keeps : Rule → Type 0
  Keeps a = (values : List Text) (rows : List Row) → good rows → use_fault again a values rows ≡ [] → good (used a values rows)

  abbrev pub EachKeeps : List Rule → Type 0
  EachKeeps [] = ⊤
  EachKeeps (a ∷ rest) = Keeps a × EachKeeps rest

  abbrev pub KeepsFound : Option Rule → Type 0
  KeepsFound None = ⊤
  KeepsFound (Some a) = Keeps a

  found : (p : Rule → Bool) (c : List Rule) → EachKeeps c → KeepsFound (find p c)
  found p [] each = tt
  found p (a ∷ rest) each = go (p a) (found p rest each.1)
    where
      go : (b : Bool) → KeepsFound (find p rest) → KeepsFound (cond b (Some a) (find p rest))
      go true later = each.0
      go false later = later

  used_found : (o : Option Rule) (values : List Text) (rows : List Row) → KeepsFound o → good rows
      → option_map_or (λ a. use_fault again a values rows) o [] ≡ [] → good (used_by_id o values rows)
  used_found None values rows keeps h none = h
  used_found (Some a) values rows keeps h none = keeps values rows h none

  rows_settled : (c : List Rule) → EachKeeps c → (p : Option (Text × List Text)) (rows : List Row) → good rows
      → option_map_or (λ q. option_map_or (λ a. use_fault again a q.1 rows) (arg_by_id c q.0) []) p [] ≡ [] → good (settled_rows c p rows)
  rows_settled c each None rows h none = h
  rows_settled c each (Some q) rows h none = used_found (arg_by_id c q.0) q.1 rows (found (λ a. bytes_eq a.id q.0) c each) h none

  pub held_settled : (c : List Rule) → EachKeeps c → (h : Held) → good h.rows → settle_fault c again h ≡ [] → good (settled c h).rows
  held_settled c each h ok none = rows_settled c each h.pending h.rows ok none

  held_reacted : (c : List Rule) → EachKeeps c → (a : Rule) → Keeps a → (values : List Text) (h : Held) → good h.rows
      → react_fault c again a values h ≡ [] → good (reacted c a values h).rows
  held_reacted c each a keeps values h ok none =
      let parts = no_kinds (settle_fault c again h) (use_fault again a values (settled c h).rows) none in
      keeps values (settled c h).rows (held_settled c each h ok parts.0) parts.1

  met_option : (c : List Rule) → EachKeeps c → (a : Rule) → Keeps a → (v : Option Text) (h : Held) → good h.rows
      → option_fault c again a v h ≡ [] → good (option_met c a v h).0.rows
  met_option c each a keeps None h ok none = held_settled c each h ok none
  met_option c each a keeps (Some v) h ok none = held_reacted c each a keeps (v ∷ []) h ok none

  met_flag : (c : List Rule) → EachKeeps c → (a : Rule) → Keeps a → (v : Option Text) (h : Held) → good h.rows
      → cond (is_some v) (kind.TooManyValues ∷ []) (react_fault c again a [] h) ≡ [] → good (flag_met c a v h).0.rows
  met_flag c each a keeps None h ok none = held_reacted c each a keeps [] h ok none
  met_flag c each a keeps (Some v) h ok none = ok

  met_long : (c : List Rule) → EachKeeps c → (o : Option Rule) → KeepsFound o → (v : Option Text) (h : Held) → good h.rows
      → long_fault c again o v h ≡ [] → good (long_met c o v h).0.rows
  met_long c each None keeps v h ok none = ok
  met_long c each (Some a) keeps v h ok none = go (takes_values a) none
    where
      go : (b : Bool) → cond b (option_fault c again a v h) (cond (is_some v) (kind.TooManyValues ∷ []) (react_fault c again a [] h)) ≡ []
          → good (cond b (option_met c a v h) (flag_met c a v h)).0.rows
      go true e = met_option c each a keeps v h ok e
      go false e = met_flag c each a keeps v h ok e

  met_short : (c : List Rule) → EachKeeps c → (o : Option Rule) → KeepsFound o → (rest : Text) (h : Held)
      (onward : Held → Held × Outcome) (fault : Held → Kinds) → ((i : Held) → good i.rows → fault i ≡ [] → good (onward i).0.rows) → good h.rows
      → short_fault c again o rest h fault ≡ [] → good (short_met c o rest h onward).0.rows
  met_short c each None keeps rest h onward fault more ok none = ok
  met_short c each (Some a) keeps rest h onward fault more ok none = go (takes_values a) none
    where
      go : (b : Bool) → cond b (option_fault c again a (attached_value rest) h) (or_else (react_fault c again a [] h) (fault (reacted c a [] h))) ≡ []
          → good (cond b (option_met c a (attached_value rest) h) (onward (reacted c a [] h))).0.rows
      go true e = met_option c each a keeps (attached_value rest) h ok e
      go false e =
          let parts = no_kinds (react_fault c again a [] h) (fault (reacted c a [] h)) e in
          more (reacted c a [] h) (held_reacted c each a keeps [] h ok parts.0) parts.1

  step_bundle : (c : List Rule) → EachKeeps c → (x : Option ℕ) (flags : Text) (skip : ℕ) (so_far : Outcome) (h : Held)
      (onward : Text → ℕ → Outcome → Held → Held × Outcome) (fault : Text → ℕ → Held → Kinds)
      → ((rest : Text) (k : ℕ) (o : Outcome) (i : Held) → good i.rows → fault rest k i ≡ [] → good (onward rest k o i).0.rows) → good h.rows
      → bundle_step_fault c again x flags skip h fault ≡ [] → good (bundle_step c x flags skip so_far h onward).0.rows
  step_bundle c each None flags skip so_far h onward fault more ok none = ok
  step_bundle c each (Some x) flags zero so_far h onward fault more ok none =
      let rest = drop (length (encode_utf8 x)) flags in
      met_short c each (arg_by_short c x) (found (λ a. not (is_some a.index) && has_short a x) c each) rest h (onward rest 0 done) (fault rest 0)
      (λ i. more rest 0 done i) ok none
  step_bundle c each (Some x) flags (suc skip) so_far h onward fault more ok none =
      more (drop (length (encode_utf8 x)) flags) skip so_far h ok none

  met_bundle : (c : List Rule) → EachKeeps c → (k : ℕ) (flags : Text) (skip : ℕ) (so_far : Outcome) (h : Held) → good h.rows
      → flags_fault c again k flags skip h ≡ [] → good (bundle_met c k flags skip so_far h).0.rows
  unfolding flags_fault bundle_met
  met_bundle c each zero flags skip so_far h ok none = ok
  met_bundle c each (suc k) flags skip so_far h ok none =
      step_bundle c each (slice_get (chars flags) 0) flags skip so_far h (bundle_met c k) (flags_fault c again k)
      (λ rest n o i good_i fine. met_bundle c each k rest n o i good_i fine) ok none

  -- a word that is no flag changes no rows
  word_option : (o : Option Rule) (id word : Text) (h : Held) → good h.rows → good (option_word o id word h).0.rows
  word_option None id word h ok = ok
  word_option (Some a) id word h ok = ok

  word_plain : (c : List Rule) (waiting : Waiting) (word : Text) (h : Held) → good h.rows → good (plain_word c waiting word h).0.rows
  word_plain c idle word h ok = ok
  word_plain c (option id) word h ok = word_option (arg_by_id c id) id word h ok
  word_plain c positional word h ok = ok

  flag_after : (c : List Rule) (waiting : Waiting) (word : Text) (h : Held) (o : Outcome) → good h.rows → good (after_flag c waiting word h o).0.rows
  flag_after c waiting word h done ok = ok
  flag_after c waiting word h (waits id) ok = ok
  flag_after c waiting word h plain ok = word_plain c waiting word h ok
  flag_after c waiting word h refused ok = word_plain c waiting word h ok

  word_short : (c : List Rule) → EachKeeps c → (waiting : Waiting) (word : Text) (flags : Option Text) (h : Held) → good h.rows
      → option_map_or (λ f. bundle_fault c again f h) flags [] ≡ [] → good (short_or_plain c waiting word flags h).0.rows
  word_short c each waiting word None h ok none = word_plain c waiting word h ok
  word_short c each waiting word (Some flags) h ok none =
      flag_after c waiting word (bundle c flags h).0 (bundle c flags h).1
      (met_bundle c each (length flags) flags h.skip plain (record h { skip = 0 }) ok none)

  word_long : (c : List Rule) → EachKeeps c → (waiting : Waiting) (word : Text) (o : Option (Text × Option Text)) (h : Held) → good h.rows
      → flag_word_fault c again o word h ≡ [] → good (long_or_other c waiting word o h).0.rows
  word_long c each waiting word None h ok none = word_short c each waiting word (short_of word) h ok none
  word_long c each waiting word (Some p) h ok none =
      flag_after c waiting word (long_met c (arg_by_long c p.0) p.1 h).0 (long_met c (arg_by_long c p.0) p.1 h).1
      (met_long c each (arg_by_long c p.0) (found (λ a. not (is_some a.index) && has_long a p.0) c each) p.1 h ok none)

module _ (good : List Row → Type 0) (s : Shape) (each : EachKeeps good s.args_override_self s.rules) where
  word_other : (o : Option Text) (waiting : Waiting) (position : ℕ) (word : Text) (h : Held) → good h.rows
      → other_fault s o word h ≡ [] → good (subcommand_or_other s.rules o waiting position word h).0.rows
  word_other (Some name) waiting position word h ok none = ok
  word_other None waiting position word h ok none = go (bytes_eq word (45 ∷ 45 ∷ [])) none
    where
      go : (b : Bool) → cond b [] (flag_word_fault s.rules s.args_override_self (long_of word) word h) ≡ []
          → good (cond b (h, trailing position) (long_or_other s.rules waiting word (long_of word) h)).0.rows
      go true e = ok
      go false e = word_long good s.args_override_self s.rules each waiting word (long_of word) h ok e

  met_word : (names : Names) (b : Bool) (waiting : Waiting) (position : ℕ) (word : Text) (h : Held) → good h.rows
      → word_fault s names b waiting word h ≡ [] → good (word_met s.rules names b waiting position word h).0.rows
  met_word names true waiting position word h ok none = ok
  met_word names false waiting position word h ok none = word_other (subcommand_met names waiting word) waiting position word h ok none

  at_positional : (o : Option Rule) (word : Text) (w : Walk) (h : Held) → good h.rows
      → option_map_or (λ a. positional_fault s.rules s.args_override_self a h) o (stray_fault s) ≡ [] → good (to_positional s.rules o word w h).held.rows
  at_positional None word w h ok none = ok
  at_positional (Some a) word w h ok none = go (is_pending a h.pending && takes_several a) none
    where
      go : (b : Bool) → cond b [] (settle_fault s.rules s.args_override_self h) ≡ [] → good (cond b h (settled s.rules h)).rows
      go true e = ok
      go false e = held_settled good s.args_override_self s.rules each h ok e

  step_after : (word : Text) (w : Walk) (h : Held) (step : Step) → good h.rows → step_fault s w.position h step ≡ []
      → good (after_step s.rules word w h step).held.rows
  step_after word w h (next waiting) ok none = ok
  step_after word w h (trailing position) ok none = ok
  step_after word w h (subcommand name) ok none = ok
  step_after word w h value ok none = at_positional (arg_by_index s.rules w.position) word w h ok none

  turn : (names : Names) (w : Walk) (word : Text) (o : Option (Text × List Text)) → good w.held.rows
      → cond (is_some o) [] (or_else (word_fault s names w.is_trailing w.waiting word w.held)
      (step_fault s w.position (word_met s.rules names w.is_trailing w.waiting w.position word w.held).0 (word_met s.rules names w.is_trailing w.waiting w.position word w.held).1)) ≡ []
      → good (walked_from s.rules names o w word).held.rows
  turn names w word (Some p) ok none = ok
  turn names w word None ok none =
      let met = word_met s.rules names w.is_trailing w.waiting w.position word w.held in
      let parts = no_kinds (word_fault s names w.is_trailing w.waiting word w.held) (step_fault s w.position met.0 met.1) none in
      step_after word w met.0 met.1 (met_word names w.is_trailing w.waiting w.position word w.held ok parts.0) parts.1

  -- the rows at the end of a walk that meets no fault
  pub walked_well : (names : Names) (w : Walk) (words : List Text) → good w.held.rows → walk_fault s names w words ≡ []
      → good (fold (walked s.rules names) w words).held.rows
  unfolding walk_fault walked
  walked_well names w [] ok none = ok
  walked_well names w (word ∷ rest) ok none =
      let parts = no_kinds (turn_fault s names w word) (walk_fault s names (walked s.rules names w word) rest) none in
      walked_well names (walked s.rules names w word) rest (turn names w word w.stopped ok parts.0) parts.1
