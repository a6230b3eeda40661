-- Facts that messages say, whether or not they stand for the messages. This office decides to keep facts.
use Rattle.std.specs.Prelude.{Contains, map, option_to_list}
use Rattle.std.specs.List.Sorted.{IsStrictlySortedBy}
use Rattle.std.specs.Ordering.{nat_cmp}
use Rattle.testing_rules_model.specs.declared.facts.UploadIn.{UploadIn}
use Rattle.testing_rules_model.specs.declared.facts.BuildIn.{BuildIn}
use Rattle.testing_rules_model.specs.declared.facts.DropIn.{DropIn}
use Rattle.testing_rules_model.specs.declared.facts.BugIn.{BugIn}
use Rattle.testing_rules_model.specs.declared.facts.HintIn.{HintIn}
use Rattle.testing_rules_model.specs.declared.facts.UnhintIn.{UnhintIn}
use Rattle.testing_rules_model.specs.declared.facts.DelaysIn.{DelaysIn}
use Rattle.testing_rules_model.specs.FactLists.{FactLists}
use Rattle.testing_rules_model.specs.FactOrder.{AreBySource, AreByPair}
use Rattle.testing_rules_model.specs.Covered.{Covered, uploads_in, builds_in, drops_in, bugs_in, hints_in, unhints_in, delays_in}
use Rattle.testing_rules_model.specs.Unstable.{pair_order, drop_pair, hint_order, unhint_order}

-- a message of the set says each fact
pub record AreSaidBy (f : FactLists) (s : Covered) : Type 0 where
  pub sources : (u : UploadIn) → Contains f.sources u → Contains (uploads_in s) u
  pub uploads : (u : UploadIn) → Contains f.uploads u → Contains (uploads_in s) u
  pub rows : (b : BuildIn) → Contains f.rows b → Contains (builds_in s) b
  pub drops : (d : DropIn) → Contains f.drops d → Contains (drops_in s) d
  pub bugs : (b : BugIn) → Contains f.bugs b → Contains (bugs_in s) b
  pub hints : (h : HintIn) → Contains f.hints h → Contains (hints_in s) h
  pub unhints : (c : UnhintIn) → Contains f.unhints c → Contains (unhints_in s) c
  pub delays : (d : DelaysIn) → Contains (option_to_list f.delays) d → Contains (delays_in s) d

-- the lists are ordered like those of any facts
pub record AreOrderly (f : FactLists) : Type 0 where
  pub by_source : AreBySource f.sources
  pub by_pair : AreByPair f.rows
  pub drops_by_pair : IsStrictlySortedBy pair_order (map drop_pair f.drops)
  pub by_number : IsStrictlySortedBy nat_cmp (map (λ b. b.bug) f.bugs)
  pub hints : IsStrictlySortedBy hint_order f.hints
  pub unhints : IsStrictlySortedBy unhint_order f.unhints

-- the messages say the facts, and these are in order
pub record Tells (f : FactLists) (s : Covered) : Type 0 where
  pub said : AreSaidBy f s
  pub orderly : AreOrderly f
