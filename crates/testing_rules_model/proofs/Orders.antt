-- The first element in an order, when a list is read from its front.
use Rattle.std.specs.Prelude.{ℕ, Bool, true, false, cond, List, [], ◌∷◌, ◌++◌, Option, Some, None, ◌+◌, ◌<◌, filter, length, take, get_or}
use Rattle.std.proofs.Common.{◌≡◌, refl, sym, ap, ◌∙◌, append-nil}
use Rattle.std.proofs.lemmas.Bool.{false≢true}
use Rattle.std.proofs.lemmas.Cmp.{upto, on_total, then_total, back_total, lists_total, nat_cmp_total}
use Rattle.std.proofs.lemmas.List.{take_more}
use Rattle.std.proofs.lemmas.List.Elements.{filter-append}
use Rattle.deb_version.specs.steps.Laws.{version_order}
use Rattle.testing_rules_model.specs.declared.facts.UploadIn.{UploadIn}
use Rattle.testing_rules_model.specs.declared.facts.BuildIn.{BuildIn}
use Rattle.testing_rules_model.specs.declared.facts.DropIn.{DropIn}
use Rattle.testing_rules_model.specs.declared.facts.BugIn.{BugIn}
use Rattle.testing_rules_model.specs.declared.facts.HintIn.{HintIn}
use Rattle.testing_rules_model.specs.declared.facts.UnhintIn.{UnhintIn}
use Rattle.testing_rules_model.specs.declared.facts.DelaysIn.{DelaysIn}
use Rattle.testing_rules_model.specs.Unstable.{upload_order, build_order, drop_order, bug_order, hint_order, unhint_order, delays_order}
use Rattle.std.specs.declared.cmp.Ordering.{Ordering}
use Rattle.std.specs.declared.cmp.Ordering.TheVariants.{Less, Equal, Greater}
use Rattle.std.specs.Ordering.{is_lt, is_gt, ordering_reverse}
use Rattle.std.specs.Cmp.{IsTotalOrder}
use Rattle.testing_rules_items.specs.Words.{byte_cmp, lesser, least}
use Rattle.testing_rules_items.specs.steps.Words.{first_of_two}

is_lt-Less : (r : Ordering) → is_lt r ≡ true → r ≡ Less
is_lt-Less Less e = refl
is_lt-Less Equal e = absurd (false≢true e)
is_lt-Less Greater e = absurd (false≢true e)

is_gt-reverse : (r : Ordering) → is_gt (ordering_reverse r) ≡ is_lt r
is_gt-reverse Less = refl
is_gt-reverse Equal = refl
is_gt-reverse Greater = refl

module _ {A : Type 0} {cmp : A → A → Ordering} (o : IsTotalOrder cmp) where
  pub below_trans : (x y z : A) → is_lt (cmp x y) ≡ true → is_lt (cmp y z) ≡ true → is_lt (cmp x z) ≡ true
  below_trans x y z h k = ap is_lt (o.trans x y z (is_lt-Less _ h) (is_lt-Less _ k))

  pub above_is : (x y : A) → is_gt (cmp x y) ≡ is_lt (cmp y x)
  above_is x y = ap is_gt (o.antisymm x y) ∙ is_gt-reverse (cmp y x)

  pub not_below_trans : (x y z : A) → is_lt (cmp y x) ≡ false → is_lt (cmp z y) ≡ false → is_lt (cmp z x) ≡ false
  not_below_trans x y z h k = sym (above_is x z) ∙ upto o x y z (above_is x y ∙ h) (above_is y z ∙ k)

  three : (x y z : A) (a b c : Bool) → is_lt (cmp y z) ≡ a → is_lt (cmp z x) ≡ b → is_lt (cmp y x) ≡ c
      → lesser cmp x (Some (first_of_two cmp (Some z) y)) ≡ Some (first_of_two cmp (lesser cmp x (Some z)) y)
  three x y z true true true ea eb ec = simp (ea, eb, ec)
  three x y z true true false ea eb ec = absurd (false≢true (sym ec ∙ below_trans y z x ea eb))
  three x y z true false c ea eb ec = simp (ea, eb)
  three x y z false true c ea eb ec = simp (ea, eb)
  three x y z false false true ea eb ec = absurd (false≢true (sym (not_below_trans x z y eb ea) ∙ ec))
  three x y z false false false ea eb ec = simp (ea, eb, ec)

  step : (m : Option A) (x y : A) → lesser cmp x (Some (first_of_two cmp m y)) ≡ Some (first_of_two cmp (lesser cmp x m) y)
  step None x y = refl
  step (Some z) x y = three x y z _ _ _ refl refl refl

  -- one more element at the end
  pub least-push : (xs : List A) (y : A) → least cmp (xs ++ y ∷ []) ≡ Some (first_of_two cmp (least cmp xs) y)
  least-push [] y = refl
  least-push (x ∷ xs) y = ap (lesser cmp x) (least-push xs y) ∙ step (least cmp xs) x y

  -- the first of those that pass a test, among one more element
  least_filter-push : (test : A → Bool) (b : Bool) (xs : List A) (x : A) → test x ≡ b
      → least cmp (filter test (xs ++ x ∷ [])) ≡ cond b (Some (first_of_two cmp (least cmp (filter test xs)) x)) (least cmp (filter test xs))
  least_filter-push test true xs x e = rw (filter-append test xs (x ∷ []), e) (least-push (filter test xs) x)
  least_filter-push test false xs x e = rw (filter-append test xs (x ∷ []), e, append-nil) refl

  pub least_filter-more : (test : A → Bool) (xs : List A) (i : ℕ) (d : A) (b : Bool) → i < length xs → test (get_or xs i d) ≡ b
      → least cmp (filter test (take (i + 1) xs)) ≡ cond b (Some (first_of_two cmp (least cmp (filter test (take i xs))) (get_or xs i d))) (least cmp (filter test (take i xs)))
  least_filter-more test xs i d b h e = rw (take_more xs i d h) (least_filter-push test b (take i xs) (get_or xs i d) e)

-- the orders of the rules are total
pub text_order : IsTotalOrder byte_cmp
text_order = lists_total nat_cmp_total

pub upload_total : IsTotalOrder upload_order
upload_total =
    then_total (back_total (on_total (λ (u : UploadIn). u.version) version_order))
    (then_total (on_total (λ (u : UploadIn). u.sender) nat_cmp_total) (on_total (λ (u : UploadIn). u.number) nat_cmp_total))

pub build_total : IsTotalOrder build_order
build_total =
    then_total (back_total (on_total (λ (b : BuildIn). b.binary.version) version_order))
    (then_total (on_total (λ (b : BuildIn). b.sender) nat_cmp_total)
    (then_total (on_total (λ (b : BuildIn). b.number) nat_cmp_total) (on_total (λ (b : BuildIn). b.place) nat_cmp_total)))

pub drop_total : IsTotalOrder drop_order
drop_total =
    then_total (back_total (on_total (λ (d : DropIn). d.version) version_order))
    (then_total (on_total (λ (d : DropIn). d.sender) nat_cmp_total) (on_total (λ (d : DropIn). d.number) nat_cmp_total))

pub bug_total : IsTotalOrder bug_order
bug_total = then_total (back_total (on_total (λ (x : BugIn). x.number) nat_cmp_total)) (on_total (λ (x : BugIn). x.sender) nat_cmp_total)

pub hint_total : IsTotalOrder hint_order
hint_total = then_total (on_total (λ (x : HintIn). x.number) nat_cmp_total) (on_total (λ (x : HintIn). x.sender) nat_cmp_total)

pub unhint_total : IsTotalOrder unhint_order
unhint_total = then_total (on_total (λ (x : UnhintIn). x.number) nat_cmp_total) (on_total (λ (x : UnhintIn). x.sender) nat_cmp_total)

pub delays_total : IsTotalOrder delays_order
delays_total = then_total (back_total (on_total (λ (x : DelaysIn). x.number) nat_cmp_total)) (on_total (λ (x : DelaysIn). x.sender) nat_cmp_total)
