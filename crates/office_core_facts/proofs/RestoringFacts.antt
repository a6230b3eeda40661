-- Facts put back from their rows.
use Rattle.std.proofs.Common.{◌≡◌, ⊎_elim, inl, inr, ℕ, ◌+◌, ◌<◌, ◌≤◌, Bool, true, false, cond, List, [], ◌∷◌, ◌++◌, map, length, get_or, Option, Some, None, sym, ap, subst, ◌∙◌, refl, arith}
use Rattle.std.specs.Prelude.{◌==◌, ◌&&◌, ⊤, T, is_some}
use Rattle.std.specs.FinMap.{get, get-entries, entries, entries_sorted, find, is_sorted}
use Rattle.std.specs.FinMap.Entries.{below_all}
use Rattle.std.specs.List.Sorted.{IsStrictlySortedBy}
use Rattle.std.specs.Ordering.{is_eq, is_lt}
use Rattle.std.specs.declared.cmp.Ordering.{Ordering}
use Rattle.std.specs.declared.cmp.Ordering.TheVariants.{Less, Equal, Greater}
use Rattle.std.proofs.lemmas.List.{length-map}
use Rattle.std.proofs.lemmas.List.Sums.{sum_by-cons}
use Rattle.testing_rules_items.proofs.Members.{none_among}
use Rattle.testing_rules_items.specs.declared.item.Item.{Item}
use Rattle.testing_rules_items.specs.declared.item.Item.TheVariants.{Nothing}
use Rattle.testing_rules_model.specs.declared.fact_row.FactKind.TheVariants.{Source, Upload, Build, Drop, Bug, Hint, Unhint, Delays}
use Rattle.testing_rules_model.specs.declared.fact_row.FactRow.{FactRow}
use Rattle.testing_rules_model.specs.declared.facts.UploadIn.{UploadIn}
use Rattle.testing_rules_model.specs.declared.facts.BuildIn.{BuildIn}
use Rattle.testing_rules_model.specs.declared.facts.DropIn.{DropIn}
use Rattle.testing_rules_model.specs.declared.facts.BugIn.{BugIn}
use Rattle.testing_rules_model.specs.declared.facts.HintIn.{HintIn}
use Rattle.testing_rules_model.specs.declared.facts.UnhintIn.{UnhintIn}
use Rattle.testing_rules_model.specs.declared.facts.DelaysIn.{DelaysIn}
use Rattle.testing_rules_model.specs.FactLists.{FactLists, no_facts}
use Rattle.testing_rules_model.specs.FactRows.{rows_of, is_kind, is_row, times, row_order}
use Rattle.testing_rules_model.specs.Tells.{Tells}
use Rattle.testing_rules_model.specs.Covered.{Covered}
use Rattle.testing_rules_facts.specs.Restored.{Given, restored, said}
use Rattle.testing_rules_facts.specs.Uploads.{AreByMessage}
use Rattle.testing_rules_laws.specs.steps.Restored.{restored_all}
use Rattle.testing_rules_laws.proofs.AllCame.{all_came}
use Rattle.testing_rules_laws.proofs.Said.{logged_tell, restored_tell}
use Rattle.office_mail.specs.Kept.{Kept}
use Rattle.office_mail.specs.Lists.{Lists}
use Rattle.office_store_keeper.specs.declared.values.Letter.{Letter}
use Rattle.office_store_keeper.specs.Content.{Content}
use Rattle.office_store_keeper.proofs.FactSets.{row_is, row_same}
use Rattle.office_store_keeper.specs.FactSet.{FactSet, count_in, rows_in}
use Rattle.office_core_facts.specs.Known.{AreUnderWay, said_all}
use Rattle.office_core_facts.specs.Outcome.{item_at}
use Rattle.office_core_facts.specs.steps.Taking.{AreNear, HavePutBack, IsItemAt, IsSaidItem}
use Rattle.office_core_facts.proofs.SaidFacts.{said_at_place}

-- one row more

none_by : {B : Type 0} (b : Bool) → ◌≡◌ {A = Option B} (cond b None None) None
none_by true = refl
none_by false = refl

-- an item that says nothing puts nothing back
restored_nothing : (r : FactRow) (f : FactLists) → restored (r, Nothing) f ≡ f
restored_nothing r f = rw (
  none_by {B = UploadIn} (is_kind r.kind Source && (r.place == 0)),
  none_by {B = UploadIn} (is_kind r.kind Upload && (r.place == 0)),
  none_by {B = BuildIn} (is_kind r.kind Build),
  none_by {B = DropIn} (is_kind r.kind Drop && (r.place == 0)),
  none_by {B = BugIn} (is_kind r.kind Bug && (r.place == 0)),
  none_by {B = HintIn} (is_kind r.kind Hint && (r.place == 0)),
  none_by {B = UnhintIn} (is_kind r.kind Unhint && (r.place == 0)),
  none_by {B = DelaysIn} (is_kind r.kind Delays && (r.place == 0)),
) refl

restored_more : (xs : List Given) (x : Given) (f : FactLists) → restored_all (xs ++ x ∷ []) f ≡ restored x (restored_all xs f)
restored_more [] x f = refl
restored_more (y ∷ ys) x f = restored_more ys x (restored y f)

rows_more : (xs : List Given) (x : Given) → map (λ y. y.0) (xs ++ x ∷ []) ≡ map (λ y. y.0) xs ++ x.0 ∷ []
rows_more [] x = refl
rows_more (y ∷ ys) x = ap (λ (rows : List FactRow). y.0 ∷ rows) (rows_more ys x)

pub back_none : (s : Covered) (rows : List FactRow) (f : FactLists) → rows ≡ [] → HavePutBack s rows f f
back_none s rows f e = record { given = []; same = sym e; become = refl; tells = λ h. h }

pub back_more : (s : Covered) (rows more : List FactRow) (first now next : FactLists) (r : FactRow) (item : Item) → more ≡ rows ++ r ∷ [] → next ≡ restored (r, item) now → IsItemAt s r.sender r.number item → HavePutBack s rows first now → HavePutBack s more first next
back_more s rows more first now next r item are is says back = record {
  given = back.given ++ (r, item) ∷ [];
  same = rows_more back.given (r, item) ∙ ap (λ (l : List FactRow). l ++ r ∷ []) back.same ∙ sym are;
  become = is ∙ ap (restored (r, item)) back.become ∙ sym (restored_more back.given (r, item) first);
  tells = λ h. subst (λ (f : FactLists). Tells f s) (sym is) (⊎_elim
      (λ e. subst (λ (f : FactLists). Tells f s) (sym (ap (λ (i : Item). restored (r, i) now) e ∙ restored_nothing r now)) (back.tells h))
      (λ c. restored_tell (r, item) now s (back.tells h) c)
      says);
}

-- the rows of a set, each of which stands once

-- behind a row that is below all of them it doesn't stand again
t_first : (a b : Bool) → T (a && b) → T a
t_first true b h = tt
t_first false b h = h

t_second : (a b : Bool) → T (a && b) → T b
t_second true b h = h
t_second false b h = absurd h

less_apart : (o : Ordering) → T (is_lt o) → is_eq o ≡ false
less_apart Less h = refl
less_apart Equal h = absurd h
less_apart Greater h = absurd h

none_below : (x : FactRow) (es : List (FactRow × ⊤)) → T (below_all row_order x es) → times x (map (λ e. e.0) es) ≡ 0
none_below x [] h = refl
none_below x (e ∷ es) h =
    let apart : is_row x e.0 ≡ false = sym (row_is x e.0) ∙ less_apart (row_order x e.0) (t_first (is_lt (row_order x e.0)) (below_all row_order x es) h) in
    let rest = none_below x es (t_second (is_lt (row_order x e.0)) (below_all row_order x es) h) in
    let sum = sum_by-cons (λ y. cond (is_row x y) 1 0) e.0 (map (λ d. d.0) es) in
    let none : ◌≡◌ {A = ℕ} (cond (is_row x e.0) 1 0) 0 = ap (λ b. cond b 1 0) apart in
    omega (arith, sum, none, rest)

once_at : (r x : FactRow) (b : Bool) (es : List (FactRow × ⊤)) → is_row r x ≡ b → (b ≡ true → times r (map (λ e. e.0) es) ≡ 0) → times r (map (λ e. e.0) es) ≡ cond (is_some (find row_order r es)) 1 0
    → cond b 1 0 + times r (map (λ e. e.0) es) ≡ cond (is_some (cond b (Some tt) (find row_order r es))) 1 0
once_at r x true es e none rest = omega (arith, none refl)
once_at r x false es e none rest = omega (arith, rest)

once_in : (r : FactRow) (es : List (FactRow × ⊤)) → T (is_sorted row_order es) → times r (map (λ e. e.0) es) ≡ cond (is_some (find row_order r es)) 1 0
once_in r [] s = refl
once_in r (e ∷ es) s =
    let below = t_first (below_all row_order e.0 es) (is_sorted row_order es) s in
    sum_by-cons (λ y. cond (is_row r y) 1 0) e.0 (map (λ d. d.0) es)
    ∙ once_at r e.0 (is_row r e.0) es refl
    (λ is. ap (λ x. times x (map (λ d. d.0) es)) (sym (row_same r e.0 is)) ∙ none_below e.0 es below)
    (once_in r es (t_second (below_all row_order e.0 es) (is_sorted row_order es) s))
    ∙ ap (λ b. cond (is_some (cond b (Some tt) (find row_order r es))) 1 0) (sym (row_is r e.0))

pub times-rows_in : (facts : FactSet) (r : FactRow) → times r (rows_in facts) ≡ count_in facts r
times-rows_in facts r = once_in r (entries facts) (entries_sorted facts) ∙ ap (λ o. cond (is_some o) 1 0) (sym (get-entries facts r))

-- facts that were put back, all of whose rows came

logs_stay : (xs : List Given) (f : FactLists) → ((restored_all xs f).came ≡ f.came) × ((restored_all xs f).left ≡ f.left)
logs_stay [] f = (refl, refl)
logs_stay (x ∷ xs) f = logs_stay xs (restored x f)

pub back_logs : (s : Covered) (rows : List FactRow) (f : FactLists) → HavePutBack s rows no_facts f → (f.came ≡ []) × (f.left ≡ [])
back_logs s rows f back =
    let logs = logs_stay back.given no_facts in (ap (λ (g : FactLists). g.came) back.become ∙ logs.0, ap (λ (g : FactLists). g.left) back.become ∙ logs.1)

none_told : (s : Covered) → Tells no_facts s
unfolding IsStrictlySortedBy
none_told s = record {
  said = record {
    sources = λ u c. none_among u c;
    uploads = λ u c. none_among u c;
    rows = λ b c. none_among b c;
    drops = λ d c. none_among d c;
    bugs = λ b c. none_among b c;
    hints = λ h c. none_among h c;
    unhints = λ u c. none_among u c;
    delays = λ d c. none_among d c;
  };
  orderly = record { by_source = tt; by_pair = tt; drops_by_pair = tt; by_number = tt; hints = tt; unhints = tt };
}

-- the rows of a store were put back, and none gave way
pub record IsWhole (setup : Lists) (content : Content) (f : FactLists) : Type 0 where
  pub way : AreUnderWay setup content f
  pub rows : (r : FactRow) → times r (rows_of f) ≡ count_in content.facts r

pub whole_back : (setup : Lists) (content : Content) (rows : List FactRow) (f : FactLists) → rows ≡ rows_in content.facts → length (rows_of f) ≡ length rows → AreByMessage f.uploads → HavePutBack (said_all setup content.kept) rows no_facts f → IsWhole setup content f
whole_back setup content rows f are size by back =
    let long : length (rows_of (restored_all back.given no_facts)) ≡ length back.given =
    ap (λ (g : FactLists). length (rows_of g)) (sym back.become) ∙ size ∙ ap length (sym back.same) ∙ length-map back.given (λ (x : Given). x.0) in
    let logs = back_logs (said_all setup content.kept) rows f back in
    let came : f.came ≡ [] = logs.0 in
    let left : f.left ≡ [] = logs.1 in
    let count : (r : FactRow) → times r (rows_of f) ≡ count_in content.facts r = λ r.
    ap (λ (g : FactLists). times r (rows_of g)) back.become ∙ all_came back.given long r ∙ ap (times r) (back.same ∙ are) ∙ times-rows_in content.facts r in
    record {
      way = record {
        tells = back.tells (none_told (said_all setup content.kept));
        by_message = by;
        rows = λ r. let c = count r in let a : times r f.came ≡ 0 = ap (times r) came in let b : times r f.left ≡ 0 = ap (times r) left in omega (arith, c, a, b);
      };
      rows = count;
    }

-- or all of them have left
pub way_without : (setup : Lists) (content : Content) (rows : List FactRow) (f : FactLists) → rows ≡ rows_in content.facts → f ≡ record no_facts { left = rows } → AreByMessage f.uploads → AreUnderWay setup content f
way_without setup content rows f are is by = record {
  tells = subst (λ (g : FactLists). Tells g (said_all setup content.kept)) (sym is) (logged_tell [] rows no_facts (said_all setup content.kept) (none_told (said_all setup content.kept)));
  by_message = by;
  rows = subst (λ (g : FactLists). (r : FactRow) → times r (rows_of g) + times r g.left ≡ count_in content.facts r + times r g.came) (sym is)
      (λ r. let c : times r rows ≡ count_in content.facts r = ap (times r) are ∙ times-rows_in content.facts r in omega (arith, c));
}

-- what the messages of rows say

-- a kept letter's item
pub item_kept : (setup : Lists) (kept : Kept) (sender number : ℕ) (letter : Letter) (text : List ℕ) (item : Item) → get kept (sender, letter.number) ≡ Some letter.text → letter.number ≡ number → text ≡ letter.text
    → IsSaidItem (item_at setup ((sender, number), text)) sender number item → IsItemAt (said_all setup kept) sender number item
item_kept setup kept sender number letter text item stands at same says =
    let here : get kept (sender, number) ≡ Some text = ap (λ (k : ℕ). get kept (sender, k)) (sym at) ∙ stands ∙ ap Some (sym same) in
    ⊎_elim (λ is. inr (said_at_place setup kept (sender, number) text (said sender number item) here is)) (λ none. inl none.1) says

-- rows of one number near a place, in a block of one sender
pub items_near : (s : Covered) (rows : List FactRow) (start end place next : ℕ) (d z : FactRow) (item : Item) → ((e : FactRow) → AreNear 256 (get_or rows start e) rows start end) → ((e : FactRow) → AreNear 1 (get_or rows place e) rows place next)
    → start ≤ place → next ≤ end → IsItemAt s (get_or rows start d).sender (get_or rows place z).number item
    → (k : ℕ) (e : FactRow) → place ≤ k → k < next → IsItemAt s (get_or rows k e).sender (get_or rows k e).number item
items_near s rows start end place next d z item block message from within says k e low high =
    let one = message z k e low high in
    let all = block d k e (omega (arith, from, low)) (omega (arith, high, within)) in
    let same : (get_or rows k e).number ≡ (get_or rows place z).number = omega (arith, one.low, one.high) in
    subst (λ (n : ℕ). IsItemAt s n (get_or rows k e).number item) (sym all.sender) (subst (λ (n : ℕ). IsItemAt s (get_or rows start d).sender n item) (sym same) says)

-- facts that are known by rows that were put back
pub known_whole : (setup : Lists) (content : Content) (rows : List FactRow) (f known : FactLists) → known ≡ f → AreByMessage known.uploads → length (rows_of f) ≡ length rows → rows ≡ rows_in content.facts → HavePutBack (said_all setup content.kept) rows no_facts f → IsWhole setup content known
known_whole setup content rows f known same by size are back =
    subst (IsWhole setup content) (sym same) (whole_back setup content rows f are size (subst (λ (g : FactLists). AreByMessage g.uploads) same by) back)
