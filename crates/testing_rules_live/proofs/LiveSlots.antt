-- Testing's sources in slots: what is looked up, put in and taken out by name.
use Rattle.std.specs.Prelude.{ℕ, suc, ◌+◌, ◌<◌, ◌≤◌, not, List, filter, find, Some, None, length, get_or, set, take, Ok, Err}
use Rattle.std.proofs.Common.{◌≡◌, sym, ap, ◌∙◌, arith}
use Rattle.std.specs.List.{insert}
use Rattle.std.specs.List.Sorted.{IsBinarySearchResult}
use Rattle.std.specs.declared.cmp.Ordering.TheVariants.{Equal}
use Rattle.std.specs.Str.{bytes_eq}
use Rattle.testing_rules_items.specs.Words.{Text, byte_cmp}
use Rattle.testing_rules_live.specs.steps.LiveSources.{name_of, source_of, sources_of, AreSlots, put_slot}
use Rattle.testing_rules_live.specs.declared.live_sources.Slot.{Slot}
use Rattle.testing_rules_live.specs.declared.live_sources.Slot.TheVariants.{Absent, Stays, Moved}
use Rattle.testing_rules_live.proofs.SourceSlots.{sorted, put, put-next, kept, found, missing}
use Rattle.testing_rules_model.proofs.KeyOrder.{searchable, find-at, find-none}
use Rattle.testing_rules_model.proofs.KeyPlaces.{place-for}
use Rattle.testing_rules_model.proofs.Ordered.{sorted-put, sorted-kept}
use Rattle.testing_rules_model.proofs.Orders.{text_order}
use Rattle.testing_rules_model.specs.declared.suite.SourceIn.{SourceIn}
use Rattle.testing_rules_model.specs.InOrder.{AreByName}
use Rattle.testing_rules_model.specs.Moves.{put_source}

fits : (s : Slot) (x : SourceIn) → source_of s ≡ Some x → x.name ≡ name_of s
fits (Absent upload) x e = let never : ⊥ = cc in absurd never
fits (Stays source) x e = let same : source.now ≡ x = cc in ap (λ (y : SourceIn). y.name) (sym same)
fits (Moved source) x e = let same : source.value ≡ x = cc in ap (λ (y : SourceIn). y.name) (sym same)

pub by_name : (slots : List Slot) → AreSlots slots → AreByName (sources_of slots)
by_name = sorted name_of source_of (λ (x : SourceIn). x.name) fits

-- a slot that is put in, over the one of its name or where its name belongs
pub put-over : (slot : Slot) (slots : List Slot) (i : ℕ) → AreSlots slots → i < length slots → ((d : Slot) → byte_cmp (name_of (get_or slots i d)) (name_of slot) ≡ Equal)
    → put_slot slot slots ≡ set slots i slot
put-over slot slots i order below is = (place-for name_of text_order slot slots (Ok i) order below is).1

pub put-before : (slot : Slot) (slots : List Slot) (i : ℕ) → AreSlots slots → i ≤ length slots → IsBinarySearchResult (λ s. byte_cmp (name_of s) (name_of slot)) slots (Err i)
    → put_slot slot slots ≡ insert slots i slot
put-before slot slots i order within search = (place-for name_of text_order slot slots (Err i) order within search).1

pub slots-put : (slot : Slot) (slots : List Slot) → AreSlots slots → AreSlots (put_slot slot slots)
slots-put = sorted-put name_of byte_cmp text_order

pub sources-put : (slot : Slot) (x : SourceIn) (slots : List Slot) → source_of slot ≡ Some x → AreSlots slots → sources_of (put_slot slot slots) ≡ put_source x (sources_of slots)
sources-put slot x slots is = put name_of source_of (λ (y : SourceIn). y.name) fits slot x is slots

pub sources-next : (xs : List SourceIn) (i : ℕ) (d : SourceIn) → AreByName xs → i < length xs → put_source (get_or xs i d) (take i xs) ≡ take (i + 1) xs
sources-next xs i d order below = put-next (λ (x : SourceIn). x.name) xs i d order below ∙ ap (λ j. take j xs) (let e : suc i ≡ i + 1 = omega arith in e)

-- the slot of a name that is taken out
pub slots-left : (name : Text) (slots : List Slot) → AreSlots slots → AreSlots (filter (λ s. not (bytes_eq (name_of s) name)) slots)
slots-left name slots = sorted-kept name_of byte_cmp (λ s. not (bytes_eq (name_of s) name)) slots

pub sources-left : (name : Text) (slots : List Slot) → sources_of (filter (λ s. not (bytes_eq (name_of s) name)) slots) ≡ filter (λ x. not (bytes_eq x.name name)) (sources_of slots)
sources-left name = kept name_of source_of (λ (x : SourceIn). x.name) fits (λ k. not (bytes_eq k name))

-- the source of a name is that of its slot
pub source-found : (name : Text) (slots : List Slot) (i : ℕ) (d : Slot) → AreSlots slots → i < length slots → byte_cmp (name_of (get_or slots i d)) name ≡ Equal
    → find (λ x. bytes_eq x.name name) (sources_of slots) ≡ source_of (get_or slots i d)
source-found name slots i d order below is =
    found name_of source_of (λ (x : SourceIn). x.name) fits name (get_or slots i d) slots order (find-at name_of name slots i d order below is)

pub source-missing : (name : Text) (slots : List Slot) (i : ℕ) → AreSlots slots → IsBinarySearchResult (λ s. byte_cmp (name_of s) name) slots (Err i)
    → find (λ x. bytes_eq x.name name) (sources_of slots) ≡ None
source-missing name slots i order search =
    missing name_of source_of (λ (x : SourceIn). x.name) fits name slots (find-none name_of name slots i (search (searchable name_of text_order slots order name)))
