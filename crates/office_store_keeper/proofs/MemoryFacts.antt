-- The store in memory.
use Rattle.std.proofs.Common.{◌≡◌, ◌==◌, ℕ, Bool, cond, Option, Some, List, [], ◌∷◌, length, map, refl, sym, ap, ◌∙◌, arith}
use Rattle.std.specs.FinMap.{get, find, insert, put, len, empty, entries, get-from_entries, get-insert, entries-insert, len-entries, len-empty}
use Rattle.std.specs.List.{AllByRecursion}
use Rattle.std.specs.List.Sorted.{IsStrictlySortedBy}
use Rattle.std.specs.declared.cmp.Ordering.TheVariants.{Less}
use Rattle.std.proofs.lemmas.List.{nil_from_length}
use Rattle.std.specs.Prelude.{◌↔◌, ⊤, IsTrue}
use Rattle.std.proofs.lemmas.Bool.Decides.{nat_tests}
use Rattle.std.specs.Map.{lookup}
use Rattle.std.specs.BTreeMap.{is_at}
use Rattle.std.specs.Ordering.{eq_by_cmp}
use Rattle.std.proofs.lemmas.Cmp.{eq_by_cmp_equiv}
use Rattle.testing_rules_model.specs.Suite.{Suite}
use Rattle.office_mail.specs.Kept.{Kept, Place, place_cmp}
use Rattle.office_mail.proofs.KeptFacts.{places_total, same_kept}
use Rattle.office_store_keeper.specs.Content.{Content}
use Rattle.office_store_keeper.specs.FactSet.{FactSet}
use Rattle.office_store_keeper.specs.declared.values.Reports.{Reports}
use Rattle.office_store_keeper.specs.MemoryState.{kept_in}

find-lookup : (mail : List (Place × List ℕ)) (p : Place) → find place_cmp p mail ≡ lookup (is_at (place_cmp p)) mail
find-lookup [] p = refl
find-lookup (e ∷ es) p = ap (cond (eq_by_cmp place_cmp p e.0) (Some e.1)) (find-lookup es p)

-- the kept mail is what the tree finds
pub get-kept_in : (mail : List (Place × List ℕ)) (p : Place) → get (kept_in mail) p ≡ lookup (is_at (place_cmp p)) mail
get-kept_in mail p = get-from_entries places_total mail p ∙ find-lookup mail p

-- what the tree finds after a text was put in
pub kept_in-insert : (old new : List (Place × List ℕ)) (p : Place) (text : List ℕ) → ((q : Place) → lookup (is_at (place_cmp q)) new ≡ cond (is_at (place_cmp p) q) (Some text) (lookup (is_at (place_cmp q)) old)) → kept_in new ≡ insert (kept_in old) p text
kept_in-insert old new p text is = same_kept (kept_in new) (insert (kept_in old) p text) (λ q.
    get-kept_in new q ∙ is q
    ∙ ap (λ (b : Bool). cond b (Some text) (lookup (is_at (place_cmp q)) old)) ((eq_by_cmp_equiv places_total).symm p q)
    ∙ ap (λ (o : Option (List ℕ)). cond (eq_by_cmp place_cmp q p) (Some text) o) (sym (get-kept_in old q))
    ∙ sym (get-insert places_total (kept_in old) p text q))

-- a content with this mail
abbrev pub with_kept : Kept → List Reports → Suite → FactSet → Content
with_kept kept runs testing facts = record { kept = kept; reports = runs; testing = testing; facts = facts }

-- ---- how many texts are kept

put_first : (e : Place × List ℕ) (es : List (Place × List ℕ)) → AllByRecursion (λ q. place_cmp e.0 q ≡ Less) (map (λ (d : Place × List ℕ). d.0) es) → put place_cmp e.0 e.1 es ≡ e ∷ es
put_first e [] h = refl
put_first e (d ∷ ds) h = rw (put, h.0) refl

kept_entries : (mail : List (Place × List ℕ)) → IsStrictlySortedBy place_cmp (map (λ (d : Place × List ℕ). d.0) mail) → entries (kept_in mail) ≡ mail
unfolding IsStrictlySortedBy
kept_entries [] h = nil_from_length (entries (empty {K = Place} {X = List ℕ} {R = place_cmp})) (sym (len-entries (empty {K = Place} {X = List ℕ} {R = place_cmp})) ∙ len-empty place_cmp (List ℕ))
kept_entries (e ∷ es) h = entries-insert places_total (kept_in es) e.0 e.1 ∙ ap (put place_cmp e.0 e.1) (kept_entries es h.1) ∙ put_first e es h.0

-- as many as the tree has entries
pub kept_in-len : (mail : List (Place × List ℕ)) → IsStrictlySortedBy place_cmp (map (λ (d : Place × List ℕ). d.0) mail) → len (kept_in mail) ≡ length mail
kept_in-len mail sorted = len-entries (kept_in mail) ∙ ap length (kept_entries mail sorted)

-- whether they are so many
pub counted : (size texts count : ℕ) → count ≡ size → IsTrue (count == texts) ↔ (⊤ × (size ≡ texts))
counted size texts count is = (
  λ e. (tt, (let same : count ≡ texts = grind (arith, nat_tests) in sym is ∙ same)),
  λ both. let same : count ≡ texts = is ∙ both.1 in grind (arith, nat_tests),
)
