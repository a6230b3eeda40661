-- What was told and isn't to be dropped is in the index, or a newer one is.
use Rattle.std.specs.Prelude.{◌≡◌, ℕ, ◌<◌, ◌⊎◌, List, [], ◌∷◌, true, length, Contains}
use Rattle.std.specs.declared.cmp.Ordering.{Ordering}
use Rattle.std.specs.declared.cmp.Ordering.TheVariants.{Less, Equal, Greater}
use Rattle.std.proofs.Common.{refl, sym, ap, subst, ◌∙◌, arith, inl, inr, get_or}
use Rattle.std.proofs.lemmas.List.{get_or_read}
use Rattle.std.proofs.lemmas.List.Elements.{Contains-append_left, Contains-append_right, Contains-append_cases, Contains-push_cases}
use Rattle.deb_version.specs.Order.{IsAbove}
use Rattle.deb_version.specs.steps.Laws.{same_refl}
use Rattle.archive_plan.specs.declared.items.Item.{Item}
use Rattle.archive_plan.specs.declared.sync.Due.{Due}
use Rattle.archive_plan.specs.Items.{AreInOrder, AreOfOneKey, key_cmp}
use Rattle.archive_plan.specs.Sync.{IsAfter, is_package}
use Rattle.archive_plan.proofs.PlanFacts.{head_of, key_equal, none_of, one_key}
use Rattle.archive_plan.proofs.SyncFacts.{less_no, only_one, not_itself}
use Rattle.office_core_laws.specs.Checked.{IsChecked, IsThere}

-- Whether a list has an item of a key.
key_decided : (o : Ordering) (x y : Item) → key_cmp x y ≡ o → AreOfOneKey x y ⊎ (AreOfOneKey x y → ⊥)
key_decided Less x y e = inr (λ key. less_no (key_cmp x y) e (key_equal x y key))
key_decided Equal x y e = inl (one_key x y e)
key_decided Greater x y e = inr (λ key. let n : Greater ≡ Equal = sym e ∙ key_equal x y key in cc)

abbrev HasKey : List Item → Item → Type 0
HasKey ys x = (y : Item) × Contains ys y × AreOfOneKey x y

tail_of : (y : Item) (ys : List Item) (z : Item) → Contains ys z → Contains (y ∷ ys) z
tail_of y ys z c = Contains-append_right (y ∷ []) ys z c

key_or_not : (ys : List Item) (x : Item) → HasKey ys x ⊎ (HasKey ys x → ⊥)
key_or_not [] x = inr (λ k. none_of [] k.0 refl k.1)
key_or_not (y ∷ ys) x = elim (key_decided (key_cmp x y) x y refl) [
  | inl key ↦ inl (y, head_of y ys, key)
  | inr other ↦ elim (key_or_not ys x) [
    | inl k ↦ inl (k.0, tail_of y ys k.0 k.1, k.2)
    | inr none ↦ inr (λ k. elim (Contains-append_cases (y ∷ []) ys k.0 k.1) [
      | inl own ↦ elim (Contains-push_cases [] y k.0 own) [
        | inl never ↦ none_of [] k.0 refl never
        | inr same ↦ other (subst (AreOfOneKey x) (sym same) k.2)
      ]
      | inr among ↦ none (k.0, among, k.2)
    ])
  ]
]

module _ (told index dropped : List Item) (gone : ℕ) (due : Due) (checked : IsChecked told index dropped gone due) (x : Item) (there : Contains told x) where
  after : (HasKey due.tells.items x → ⊥) → IsAfter told dropped due x
  after alone = (
    Contains-append_left told due.tells.items x there,
    λ y c key. elim (Contains-append_cases dropped due.drops.items y c) [
      | inl d ↦ checked.above x there y d key
      | inr d ↦ absurd (none_of due.drops.items y checked.nothing d)
    ],
    λ y c key alive higher. elim (Contains-append_cases told due.tells.items y c) [
      | inl d ↦ not_itself x.version (subst (λ (z : Item). IsAbove z.version x.version) (sym (only_one told x y checked.once there d key)) higher)
      | inr d ↦ alone (y, d, key)
    ],
  )

  is_there : is_package x ≡ true → IsThere index due x
  is_there binary = elim (key_or_not due.tells.items x) [
    | inl k ↦
        let t = checked.is.tells k.0 k.1 in
        inr (k.0, k.1, t.0, k.2, t.1 x (Contains-append_left told dropped x there) (sym k.2.0, sym k.2.1))
    | inr alone ↦ inl (checked.is.inside x (after alone) binary)
  ]

pub told_is_there : (told index dropped : List Item) (gone : ℕ) (due : Due) (x : Item) → IsChecked told index dropped gone due → Contains told x → is_package x ≡ true → IsThere index due x
told_is_there told index dropped gone due x checked there binary = is_there told index dropped gone due checked x there binary
