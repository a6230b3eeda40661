-- A group of items.
use Rattle.std.proofs.Common.{◌≡◌, Bool, List, ℕ, map, Ok, sym, ap, ◌∙◌}
use Rattle.deb_control.specs.Relations.{◌>>=◌}
use Rattle.testing_rules_items.specs.declared.item.HintItem.{HintItem}
use Rattle.testing_rules_items.specs.Distinct.{is_distinct}
use Rattle.office_mail.specs.Hints.{BadHint, items_in, group_in}
use Rattle.office_mail_setup.specs.WholeText.{needs}

abbrev names : List HintItem → List (List ℕ)
names items = map (λ (i : HintItem). i.name) items

pub group_is : (ws : List (List ℕ)) (items : List HintItem) (once : Bool) → items_in ws ≡ Ok items → once ≡ is_distinct (names items) → group_in ws ≡ (needs once BadHint >>= λ each. Ok items)
unfolding group_in
group_is ws items once e d =
    ap (λ r. r >>= λ items. needs (is_distinct (names items)) BadHint >>= λ each. Ok items) e
    ∙ ap (λ b. needs b BadHint >>= λ each. Ok items) (sym d)
