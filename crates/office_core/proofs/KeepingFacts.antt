-- What is known of the kept facts, after a delivery and behind a run.
use Rattle.std.proofs.Common.{◌≡◌, ℕ, ◌+◌, ◌<◌, ◌≤◌, List, [], length, slice_index, Option, Some, None, IfSome, IsSome, sym, ap, subst, ◌∙◌, arith}
use Rattle.std.specs.Prelude.{Contains}
use Rattle.std.specs.FinMap.{get}
use Rattle.testing_rules_model.specs.declared.fact_row.FactKind.TheVariants.{Delays}
use Rattle.testing_rules_model.specs.declared.fact_row.FactRow.{FactRow}
use Rattle.testing_rules_model.specs.declared.fact_row.FactChanges.{FactChanges}
use Rattle.testing_rules_model.specs.declared.facts.DelaysIn.{DelaysIn}
use Rattle.testing_rules_model.specs.FactDifference.{IsChangedFrom, IsDifference}
use Rattle.testing_rules_model.specs.FactLists.{FactLists}
use Rattle.testing_rules_model.specs.FactRows.{rows_of, times}
use Rattle.testing_rules_model.specs.KeptFacts.{KeptFacts}
use Rattle.testing_rules_model.specs.StandsFor.{StandsFor}
use Rattle.testing_rules_model.specs.Tells.{Tells}
use Rattle.testing_rules_laws.specs.Covered.{Covered}
use Rattle.testing_rules_laws.proofs.Said.{more_tell}
use Rattle.office_mail.specs.declared.message.RunOrder.{RunOrder}
use Rattle.office_mail_setup.specs.declared.setup.Role.TheVariants.{Release}
use Rattle.office_mail.specs.Kept.{Kept, Within, Place, IsPlace}
use Rattle.office_mail.specs.Lists.{Lists}
use Rattle.office_mail.specs.Runs.{cover_of, order_at, orders_to}
use Rattle.office_mail.specs.Setup.{place_of_role}
use Rattle.office_mail.proofs.RunFacts.{order_at-later, orders_to-later}
use Rattle.office_store_keeper.specs.Content.{Content}
use Rattle.office_store_keeper.specs.FactSet.{FactSet, count_in, facts_after, AreHoldable}
use Rattle.office_core_facts.specs.declared.covered.KnownFacts.{KnownFacts}
use Rattle.office_core_facts.specs.Known.{AreKnown, AreUnderWay, said_all}
use Rattle.office_core_facts.specs.Outcome.{covered_items}
use Rattle.office_core_orders.specs.Ready.{HasEach}
use Rattle.office_core_orders.specs.steps.Ready.{FirstOrders}
use Rattle.office_core_facts.specs.State.{KeepsFacts}
use Rattle.office_core_facts.specs.steps.Walk.{said_within}
use Rattle.office_core_orders.proofs.CountFacts.{some_later}
use Rattle.office_core_facts.proofs.KeptRows.{count_is, holdable, release_by_test}
use Rattle.office_core_facts.proofs.SaidFacts.{all_later, one_of_all}
use Rattle.office_core_facts.proofs.WalkFacts.{stands_for_covered}

-- Facts under way, over more mail and the same kept rows.
AreUnderWay-later : (setup : Lists) (old new : Content) (f : FactLists) → Within old.kept new.kept → new.facts ≡ old.facts → AreUnderWay setup old f → AreUnderWay setup new f
AreUnderWay-later setup old new f within same way = record {
  tells = more_tell (said_all setup old.kept) (said_all setup new.kept) (all_later setup old.kept new.kept within) f way.tells;
  by_message = way.by_message;
  rows = subst (λ (s : FactSet). IsChangedFrom (count_in s) f) (sym same) way.rows;
}

-- a delivery leaves what is known
AreKnown-later : (setup : Lists) (old new : Content) (known : KnownFacts) → Within old.kept new.kept → new.reports ≡ old.reports → new.facts ≡ old.facts → AreKnown setup old known → AreKnown setup new known
AreKnown-later setup old new known within reports same was =
    let size : length new.reports ≡ length old.reports = ap length reports in
    record {
      numbers = λ s j low high. some_later old.kept new.kept (s, j) within (was.numbers s j low high);
      orders = λ j low high.
          let some = was.orders j low (omega (arith, high, size)) in
          subst IsSome (sym (order_at-later setup old.kept new.kept j within some)) some;
      covers = λ s low. was.covers s low
          ∙ ap (λ (os : List RunOrder). cover_of os s) (sym (orders_to-later setup old.kept new.kept (length old.reports) within was.orders))
          ∙ ap (λ (k : ℕ). cover_of (orders_to setup new.kept k) s) (sym size);
      facts = AreUnderWay-later setup old new known.facts within same was.facts;
      came = was.came;
      left = was.left;
    }

pub if_known-later : (setup : Lists) (old new : Content) (o : Option KnownFacts) → Within old.kept new.kept → new.reports ≡ old.reports → new.facts ≡ old.facts → IfSome o (λ known. AreKnown setup old known) → IfSome o (λ known. AreKnown setup new known)
if_known-later setup old new None within reports same was = tt
if_known-later setup old new (Some known) within reports same was = AreKnown-later setup old new known within reports same was

-- A run over these orders left these facts, and its changes are kept.
pub record Leaves (setup : Lists) (old new : Content) (orders : List RunOrder) (f : FactLists) (changes : FactChanges) : Type 0 where
  pub mail : new.kept ≡ old.kept
  pub more : length new.reports ≡ length old.reports + 1
  pub first : FirstOrders setup old.kept orders
  pub all : length orders ≡ length old.reports + 1
  pub way : AreUnderWay setup old f
  pub difference : IsDifference f.came f.left changes.put changes.gone
  pub kept : AreHoldable setup (facts_after changes old.facts) → new.facts ≡ facts_after changes old.facts

-- what a store holds by equal lists, over equal contents
pub held_by_same : (lists setup : Lists) (late mid : Content) (changes : FactChanges) → lists ≡ setup → late ≡ mid → AreHoldable setup (facts_after changes mid.facts) → AreHoldable lists (facts_after changes late.facts)
held_by_same lists setup late mid changes e f held =
    subst (λ (u : Lists). AreHoldable u (facts_after changes late.facts)) (sym e) (subst (λ (m : Content). AreHoldable setup (facts_after changes m.facts)) (sym f) held)

-- so it is where the store was only asked before its run was finished
pub leaves_over : (setup lists : Lists) (old mid late new : Content) (orders given : List RunOrder) (f : FactLists) (changes : FactChanges) → mid ≡ old → late ≡ mid → lists ≡ setup → given ≡ orders
    → FirstOrders setup old.kept orders → length orders ≡ length old.reports + 1 → AreUnderWay setup mid f → IsDifference f.came f.left changes.put changes.gone
    → new.kept ≡ late.kept → length new.reports ≡ length late.reports + 1 → (AreHoldable lists (facts_after changes late.facts) → new.facts ≡ facts_after changes late.facts) → Leaves setup old new given f changes
leaves_over setup lists old mid late new orders given f changes one two same is first all way difference mail more facts = record {
  mail = mail ∙ ap (λ (m : Content). m.kept) (two ∙ one);
  more = more ∙ ap (λ (m : Content). length m.reports + 1) (two ∙ one);
  first = subst (FirstOrders setup old.kept) (sym is) first;
  all = ap length is ∙ all;
  way = subst (λ (m : Content). AreUnderWay setup m f) one way;
  difference = difference;
  kept = λ held. facts (held_by_same lists setup late old changes same (two ∙ one) held) ∙ ap (λ (m : Content). facts_after changes m.facts) (two ∙ one);
}

abbrev pub settled : FactLists → FactLists
settled f = record f { came = []; left = [] }

-- the same facts, whose changes are kept
tells-settled : (f : FactLists) (s : Covered) → Tells f s → Tells (settled f) s
tells-settled f s t = record {
  said = record {
    sources = t.said.sources;
    uploads = t.said.uploads;
    rows = t.said.rows;
    drops = t.said.drops;
    bugs = t.said.bugs;
    hints = t.said.hints;
    unhints = t.said.unhints;
    delays = t.said.delays;
  };
  orderly = record {
    by_source = t.orderly.by_source;
    by_pair = t.orderly.by_pair;
    drops_by_pair = t.orderly.drops_by_pair;
    by_number = t.orderly.by_number;
    hints = t.orderly.hints;
    unhints = t.orderly.unhints;
  };
}

module _ (setup : Lists) (old new : Content) (orders : List RunOrder) (f : FactLists) (changes : FactChanges) (leaves : Leaves setup old new orders f changes) where
  -- the kept rows are those of the facts
  pub rows_are : new.facts ≡ facts_after changes old.facts → (r : FactRow) → count_in new.facts r ≡ times r (rows_of f)
  rows_are is r =
      ap (λ (s : FactSet). count_in s r) is
      ∙ count_is setup old.facts (said_all setup old.kept) f changes (one_of_all setup old.kept) leaves.way.tells leaves.way.by_message leaves.way.rows leaves.difference r

  pub are_held : ((r : FactRow) → Contains (rows_of f) r → r.kind ≡ Delays → r.sender ≡ place_of_role Release setup.senders) → AreHoldable setup (facts_after changes old.facts)
  are_held told = holdable setup old.facts (said_all setup old.kept) f changes (one_of_all setup old.kept) leaves.way.tells leaves.way.by_message leaves.way.rows leaves.difference told

  settled_rows : ((r : FactRow) → count_in new.facts r ≡ times r (rows_of f)) → IsChangedFrom (count_in new.facts) (settled f)
  settled_rows rows = λ r.
      let same : times r (rows_of (settled f)) ≡ count_in new.facts r = sym (rows r) in
      ap (λ (n : ℕ). n + 0) same

  settled_way : new.facts ≡ facts_after changes old.facts → AreUnderWay setup new (settled f)
  settled_way is = record {
    tells = subst (λ (k : Kept). Tells (settled f) (said_all setup k)) (sym leaves.mail) (tells-settled f (said_all setup old.kept) leaves.way.tells);
    by_message = leaves.way.by_message;
    rows = settled_rows (rows_are is);
  }

  orders_are : orders ≡ orders_to setup new.kept (length new.reports)
  orders_are =
      leaves.first.same ∙ ap (orders_to setup old.kept) (leaves.all ∙ sym leaves.more) ∙ ap (λ (k : Kept). orders_to setup k (length new.reports)) (sym leaves.mail)

  -- what is known behind the run
  pub known_then : (known : KnownFacts) → known.facts ≡ settled f → HasEach new.kept known.taken.items → ((s : ℕ) → s < length setup.senders → slice_index known.taken.items s ≡ cover_of orders s)
      → ((d : DelaysIn) → known.facts.delays ≡ Some d → d.sender ≡ place_of_role Release setup.senders) → AreKnown setup new known
  known_then known same numbers taken tested =
      let told : (d : DelaysIn) → f.delays ≡ Some d → d.sender ≡ place_of_role Release setup.senders = λ d e. tested d (ap (λ (g : FactLists). g.delays) same ∙ e) in
      let is = leaves.kept (are_held (release_by_test f (place_of_role Release setup.senders) told)) in
      record {
        numbers = numbers;
        orders = λ j low high. subst (λ (k : Kept). IsSome (order_at setup k j)) (sym leaves.mail) (leaves.first.each j low (omega (arith, high, leaves.all, leaves.more)));
        covers = λ s low. taken s low ∙ ap (λ (os : List RunOrder). cover_of os s) orders_are;
        facts = subst (AreUnderWay setup new) (sym same) (settled_way is);
        came = ap (λ (g : FactLists). g.came) same;
        left = ap (λ (g : FactLists). g.left) same;
      }

  -- the kept facts stand
  pub keeps_facts : ((p : Place) → IsSome (get old.kept p) → IsPlace setup p) → new.facts ≡ facts_after changes old.facts → KeptFacts f (said_within setup old.kept (cover_of orders) (length setup.senders)) new.testing → KeepsFacts setup new
  keeps_facts places is stand =
      let n : ℕ = length new.reports in
      let are : orders ≡ orders_to setup old.kept n = leaves.first.same ∙ ap (orders_to setup old.kept) (leaves.all ∙ sym leaves.more) in
      let covered = stands_for_covered setup old.kept n f new.testing places
      (subst (λ (os : List RunOrder). StandsFor f (said_within setup old.kept (cover_of os) (length setup.senders)) new.testing) are stand.stand) in
      record {
        facts = f;
        kept = record { stand = subst (λ (k : Kept). StandsFor f (covered_items setup k n) new.testing) (sym leaves.mail) covered; only = stand.only };
        rows = λ r. sym (rows_are is r);
      }

-- of what is known behind a run, all is known that is counted and tested
pub if_known-then : (setup : Lists) (old new : Content) (orders : List RunOrder) (f : FactLists) (changes : FactChanges) → Leaves setup old new orders f changes → (counts : List ℕ) (known : KnownFacts) (o : Option KnownFacts) → known.facts ≡ settled f → HasEach new.kept counts
    → ((s : ℕ) → s < length setup.senders → slice_index known.taken.items s ≡ cover_of orders s)
    → IfSome o (λ left. left ≡ known) → IfSome o (λ left. (s : ℕ) → slice_index left.taken.items s ≤ slice_index counts s)
    → IfSome o (λ left. (d : DelaysIn) → left.facts.delays ≡ Some d → d.sender ≡ place_of_role Release setup.senders) → IfSome o (λ left. AreKnown setup new left)
if_known-then setup old new orders f changes leaves counts known None same has taken is within tested = tt
if_known-then setup old new orders f changes leaves counts known (Some left) same has taken is within tested =
    known_then setup old new orders f changes leaves left (ap (λ (k : KnownFacts). k.facts) is ∙ same) (λ s j low high. has s j low (omega (arith, high, within s)))
    (λ s low. ap (λ (k : KnownFacts). slice_index k.taken.items s) is ∙ taken s low) tested
