-- What hints ask of a source alone is what they ask of it together.
use Rattle.std.specs.Prelude.{ℕ, Bool, true, false, cond, ◌&&◌, ◌||◌, List, [], ◌∷◌, ◌++◌, map, filter, Option, Some, None}
use Rattle.std.specs.List.{list_any, flat_map, filter_map, last_or}
use Rattle.std.specs.Str.{bytes_eq}
use Rattle.std.proofs.Common.{◌≡◌, refl, sym, ap, ◌∙◌}
use Rattle.std.proofs.lemmas.Bool.{false≢true}
use Rattle.std.proofs.lemmas.List.Elements.{filter_map-append}
use Rattle.std.proofs.lemmas.List.Folds.{list_any-append}
use Rattle.std.proofs.lemmas.Slice.Eq.{bytes_eq-Decides}
use Rattle.testing_rules_items.specs.declared.item.Hint.{Hint}
use Rattle.testing_rules_items.specs.declared.item.Hint.TheVariants.{Block, BlockAll, Unblock, Easy, AgeDays, Remove}
use Rattle.testing_rules_items.specs.declared.item.HintItem.{HintItem}
use Rattle.testing_rules_model.specs.declared.facts.HintIn.{HintIn}
use Rattle.testing_rules_excuses.specs.declared.own_hints.Wish.TheVariants.{LetIn, Days, Leave}
use Rattle.testing_rules_items.specs.Words.{Text, is_same_version}
use Rattle.testing_rules_model.specs.Excuses.{blocks, unblocks, removes, asked_days, asks_removal}
use Rattle.testing_rules_model.specs.steps.Excuses.{asks_block, lifts_block}
use Rattle.testing_rules_excuses.specs.steps.OwnHints.{item_part, named_part, parts_by, parts_of, is_for_all, for_all, started, own_hints}

apart_at : (r : Bool) (a b : Text) → bytes_eq b a ≡ r → bytes_eq a b ≡ false → bytes_eq b a ≡ false
apart_at true a b e h = absurd (false≢true (sym h ∙ (bytes_eq-Decides a b).1 (sym ((bytes_eq-Decides b a).0 e))))
apart_at false a b e h = e

-- names that differ, the other way round
pub apart : (a b : Text) → bytes_eq a b ≡ false → bytes_eq b a ≡ false
apart a b h = apart_at _ a b refl h

or_false : (b : Bool) → (b || false) ≡ b
or_false true = refl
or_false false = refl

or_swap : (a b c d : Bool) → ((a || b) || (c || d)) ≡ ((a || c) || (b || d))
or_swap true b c d = refl
or_swap false true true d = refl
or_swap false true false d = refl
or_swap false false c d = refl

cond_same : {A : Type 0} (b : Bool) (x : A) → cond b x x ≡ x
cond_same true x = refl
cond_same false x = refl

-- Tests of the parts.

module _ {A : Type 0} (t : HintIn → Bool) (f : A → HintIn) where
  never : ((x : A) → t (f x) ≡ false) → (xs : List A) → list_any t (map f xs) ≡ false
  never fails [] = refl
  never fails (x ∷ xs) = ap (λ b. b || list_any t (map f xs)) (fails x) ∙ never fails xs

  module _ (own m : A → Bool) (same : (x : A) → t (f x) ≡ m x) (within : (x : A) → own x ≡ false → m x ≡ false) where
    part_at : (b : Bool) (x : A) (xs : List A) → own x ≡ b → list_any t (map f (filter own xs)) ≡ list_any m xs → list_any t (map f (filter own (x ∷ xs))) ≡ list_any m (x ∷ xs)
    part_at true x xs e more = rw e (ap (λ b. b || list_any t (map f (filter own xs))) (same x) ∙ ap (λ b. m x || b) more)
    part_at false x xs e more = rw (e, within x e) more

    any_parts : (xs : List A) → list_any t (map f (filter own xs)) ≡ list_any m xs
    any_parts [] = refl
    any_parts (x ∷ xs) = part_at _ x xs refl (any_parts xs)

module _ (q : Text) (t : HintIn → Bool) where
  any_whole : ((h : HintIn) → list_any t (parts_of q h) ≡ t h) → (hs : List HintIn) → list_any t (flat_map (parts_of q) hs) ≡ list_any t hs
  any_whole at [] = refl
  any_whole at (h ∷ hs) =
      list_any-append t (parts_of q h) (flat_map (parts_of q) hs)
      ∙ ap (λ b. b || list_any t (flat_map (parts_of q) hs)) (at h)
      ∙ ap (λ b. t h || b) (any_whole at hs)

  any_started : t for_all ≡ false → (b : Bool) (hs : List HintIn) → list_any t (started b ++ hs) ≡ list_any t hs
  any_started fails true hs = ap (λ b. b || list_any t hs) fails
  any_started fails false hs = refl

  any_own : t for_all ≡ false → ((h : HintIn) → list_any t (parts_of q h) ≡ t h) → (hs : List HintIn) → list_any t (own_hints q hs) ≡ list_any t hs
  any_own fails at hs = any_started fails (list_any (λ h. is_for_all h.hint) hs) (flat_map (parts_of q) hs) ∙ any_whole at hs

module _ (q : Text) where
  abbrev named : Text → HintItem → Bool
  named v i = bytes_eq i.name q && is_same_version i.version v

  named_within : (v : Text) (i : HintItem) → bytes_eq q i.name ≡ false → named v i ≡ false
  named_within v i e = ap (λ b. b && is_same_version i.version v) (apart q i.name e)

  abbrev own_item : HintItem → Bool
  own_item i = bytes_eq q i.name

  -- blocks
  abbrev blocked : HintIn → Bool
  blocked p = blocks q p.hint

  blocked_at : (h : HintIn) (x : Hint) → (is_for_all x || list_any blocked (parts_by q h x)) ≡ blocks q x
  blocked_at h (Block names) = any_parts blocked (named_part h) (bytes_eq q) (bytes_eq q) (λ n. or_false (bytes_eq q n)) (λ n e. e) names
  blocked_at h BlockAll = refl
  blocked_at h (Unblock items) = never blocked (item_part h LetIn) (λ i. refl) (filter own_item items)
  blocked_at h (Easy items) = refl
  blocked_at h (AgeDays n items) = never blocked (item_part h (Days n)) (λ i. refl) (filter own_item items)
  blocked_at h (Remove items) = never blocked (item_part h Leave) (λ i. refl) (filter own_item items)

  blocked_whole : (hs : List HintIn) → (list_any (λ h. is_for_all h.hint) hs || list_any blocked (flat_map (parts_of q) hs)) ≡ list_any blocked hs
  blocked_whole [] = refl
  blocked_whole (h ∷ hs) =
      let out = list_any (λ (k : HintIn). is_for_all k.hint) hs in
      let rest = list_any blocked (flat_map (parts_of q) hs) in
      ap (λ b. (is_for_all h.hint || out) || b) (list_any-append blocked (parts_of q h) (flat_map (parts_of q) hs))
      ∙ or_swap (is_for_all h.hint) out (list_any blocked (parts_of q h)) rest
      ∙ ap (λ b. b || (out || rest)) (blocked_at h h.hint)
      ∙ ap (λ b. blocked h || b) (blocked_whole hs)

  blocked_started : (b : Bool) (hs : List HintIn) → list_any blocked (started b ++ hs) ≡ (b || list_any blocked hs)
  blocked_started true hs = refl
  blocked_started false hs = refl

  pub own-block : (hs : List HintIn) → asks_block (own_hints q hs) q ≡ asks_block hs q
  own-block hs = blocked_started (list_any (λ h. is_for_all h.hint) hs) (flat_map (parts_of q) hs) ∙ blocked_whole hs

  module _ (v : Text) where
    -- lifted blocks
    abbrev lifted : HintIn → Bool
    lifted p = unblocks q v p.hint

    lifted_at : (h : HintIn) (x : Hint) → list_any lifted (parts_by q h x) ≡ unblocks q v x
    lifted_at h (Block names) = never lifted (named_part h) (λ n. refl) (filter (bytes_eq q) names)
    lifted_at h BlockAll = refl
    lifted_at h (Unblock items) = any_parts lifted (item_part h LetIn) own_item (named v) (λ i. or_false (named v i)) (named_within v) items
    lifted_at h (Easy items) = refl
    lifted_at h (AgeDays n items) = never lifted (item_part h (Days n)) (λ i. refl) (filter own_item items)
    lifted_at h (Remove items) = never lifted (item_part h Leave) (λ i. refl) (filter own_item items)

    pub own-lift : (hs : List HintIn) → lifts_block (own_hints q hs) q v ≡ lifts_block hs q v
    own-lift hs = any_own q lifted refl (λ h. lifted_at h h.hint) hs

    -- removals
    abbrev removed : HintIn → Bool
    removed p = removes q v p.hint

    removed_at : (h : HintIn) (x : Hint) → list_any removed (parts_by q h x) ≡ removes q v x
    removed_at h (Block names) = never removed (named_part h) (λ n. refl) (filter (bytes_eq q) names)
    removed_at h BlockAll = refl
    removed_at h (Unblock items) = never removed (item_part h LetIn) (λ i. refl) (filter own_item items)
    removed_at h (Easy items) = refl
    removed_at h (AgeDays n items) = never removed (item_part h (Days n)) (λ i. refl) (filter own_item items)
    removed_at h (Remove items) = any_parts removed (item_part h Leave) own_item (named v) (λ i. or_false (named v i)) (named_within v) items

    pub own-removal : (hs : List HintIn) → asks_removal (own_hints q hs) q v ≡ asks_removal hs q v
    own-removal hs = any_own q removed refl (λ h. removed_at h h.hint) hs

-- Days that hints ask for.

last_or-append : {A : Type 0} (o : Option A) (xs ys : List A) → last_or o (xs ++ ys) ≡ last_or (last_or o xs) ys
last_or-append o [] ys = refl
last_or-append o (x ∷ xs) ys = last_or-append (Some x) xs ys

one_last : (n : ℕ) (b : Bool) (o : Option ℕ) → cond b (Some n) o ≡ last_or o (filter_map (λ (c : Bool). cond c (Some n) None) (b ∷ []))
one_last n true o = refl
one_last n false o = refl

module _ {A : Type 0} (f : HintIn → Option ℕ) (g : A → HintIn) where
  none_given : ((x : A) → f (g x) ≡ None) → (xs : List A) → filter_map f (map g xs) ≡ []
  none_given fails [] = refl
  none_given fails (x ∷ xs) = rw (fails x) (none_given fails xs)

  module _ (n : ℕ) (own m : A → Bool) (gives : (x : A) → f (g x) ≡ cond (m x) (Some n) None) (within : (x : A) → own x ≡ false → m x ≡ false) where
    abbrev is_last : List A → Type 0
    is_last xs = (o : Option ℕ) → last_or o (filter_map f (map g (filter own xs))) ≡ cond (list_any m xs) (Some n) o

    last_at : (a b : Bool) (x : A) (xs : List A) → own x ≡ a → m x ≡ b → is_last xs → is_last (x ∷ xs)
    last_at true true x xs ea eb more o = rw (ea, gives x, eb) (more (Some n) ∙ cond_same (list_any m xs) (Some n))
    last_at true false x xs ea eb more o = rw (ea, gives x, eb) (more o)
    last_at false b x xs ea eb more o = rw (ea, within x ea) (more o)

    last_given : (xs : List A) → is_last xs
    last_given [] o = refl
    last_given (x ∷ xs) o = last_at _ _ x xs refl refl (last_given xs) o

module _ (q v : Text) where
  abbrev days_asked : HintIn → Option ℕ
  days_asked p = asked_days q v p.hint

  days_at : (h : HintIn) (x : Hint) (o : Option ℕ) → last_or o (filter_map days_asked (parts_by q h x)) ≡ last_or o (filter_map (asked_days q v) (x ∷ []))
  days_at h (Block names) o = ap (last_or o) (none_given days_asked (named_part h) (λ n. refl) (filter (bytes_eq q) names))
  days_at h BlockAll o = refl
  days_at h (Unblock items) o = ap (last_or o) (none_given days_asked (item_part h LetIn) (λ i. refl) (filter (own_item q) items))
  days_at h (Easy items) o = refl
  days_at h (AgeDays n items) o =
      last_given days_asked (item_part h (Days n)) n (own_item q) (named q v) (λ i. ap (λ b. cond b (Some n) None) (or_false (named q v i))) (named_within q v) items o
      ∙ one_last n (list_any (named q v) items) o
  days_at h (Remove items) o = ap (last_or o) (none_given days_asked (item_part h Leave) (λ i. refl) (filter (own_item q) items))

  days_whole : (hs : List HintIn) (o : Option ℕ) → last_or o (filter_map days_asked (flat_map (parts_of q) hs)) ≡ last_or o (filter_map days_asked hs)
  days_whole [] o = refl
  days_whole (h ∷ hs) o =
      let rest = filter_map days_asked (flat_map (parts_of q) hs) in
      ap (last_or o) (filter_map-append days_asked (parts_of q h) (flat_map (parts_of q) hs))
      ∙ last_or-append o (filter_map days_asked (parts_of q h)) rest
      ∙ ap (λ k. last_or k rest) (days_at h h.hint o)
      ∙ days_whole hs (last_or o (filter_map (asked_days q v) (h.hint ∷ [])))
      ∙ sym (last_or-append o (filter_map days_asked (h ∷ [])) (filter_map days_asked hs))
      ∙ ap (last_or o) (sym (filter_map-append days_asked (h ∷ []) hs))

  days_started : (b : Bool) (hs : List HintIn) → filter_map days_asked (started b ++ hs) ≡ filter_map days_asked hs
  days_started true hs = refl
  days_started false hs = refl

  pub own-days : (hs : List HintIn) → last_or None (filter_map days_asked (own_hints q hs)) ≡ last_or None (filter_map days_asked hs)
  own-days hs = ap (last_or None) (days_started (list_any (λ h. is_for_all h.hint) hs) (flat_map (parts_of q) hs)) ∙ days_whole hs None
