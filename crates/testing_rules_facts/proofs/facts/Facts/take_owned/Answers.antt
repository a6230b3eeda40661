use Rattle.std.proofs.Common.{◌∷◌, Contains, sym, ap, ◌∙◌, subst}
use Rattle.testing_rules_model.specs.FactLists.{FactLists}
use Rattle.testing_rules_model.specs.StandsFor.{StandsFor}
use Rattle.testing_rules_model.specs.Tells.{Tells}
use Rattle.testing_rules_facts.specs.steps.Entries.{with_entry}
use Rattle.testing_rules_model.specs.FactDifference.{IsChangedFrom}
use Rattle.testing_rules_facts.proofs.Joins.{joins, keeps, is_there}
use Rattle.testing_rules_facts.proofs.Saying.{says_more}
use Rattle.testing_rules_facts.proofs.Shifting.{takes_log}
use Rattle.testing_rules_facts.proofs.facts.Facts.take_owned.Goals as goal

pub returns-clause-ok : goal.returns-clause-ok
returns-clause-ok c = λ s t h.
    let n = c.args.sender in
    let k = c.args.number in
    let i = c.args.item in
    let old = c.args.self.now in
    let became = c.in_ok-put.ensures.ok ∙ ap (with_entry c.in_ok-entry.entry) c.entry.ensures.same ∙ ap (λ e. with_entry e old) c.in_ok-entry.ensures.is in
    subst (λ (f : FactLists). StandsFor f (record { sender = n; number = k; item = i } ∷ s) t) (sym became) (joins old s t h n k i)

pub returns-clause-kept : goal.returns-clause-kept
returns-clause-kept c = λ u d.
    subst (λ (f : FactLists). Contains f.uploads u) (sym (c.in_ok-put.ensures.ok ∙ ap (with_entry c.in_ok-entry.entry) c.entry.ensures.same)) (keeps c.in_ok-entry.entry c.args.self.now u d)

pub returns-clause-there : goal.returns-clause-there
returns-clause-there c = λ u e.
    let n = c.args.sender in
    let k = c.args.number in
    let i = c.args.item in
    let old = c.args.self.now in
    let became = c.in_ok-put.ensures.ok ∙ ap (with_entry c.in_ok-entry.entry) c.entry.ensures.same ∙ ap (λ e. with_entry e old) c.in_ok-entry.ensures.is in
    subst (λ (f : FactLists). Contains f.uploads u) (sym became) (is_there old n k i u e)

pub returns-clause-moved : goal.returns-clause-moved
returns-clause-moved c = λ count h. subst (IsChangedFrom count) (sym (c.in_ok-put.ensures.ok ∙ ap (with_entry c.in_ok-entry.entry) c.entry.ensures.same)) (takes_log count c.in_ok-entry.entry c.args.self.now h)

pub returns-clause-tells : goal.returns-clause-tells
returns-clause-tells c = λ s h.
    let n = c.args.sender in
    let k = c.args.number in
    let i = c.args.item in
    let old = c.args.self.now in
    let became = c.in_ok-put.ensures.ok ∙ ap (with_entry c.in_ok-entry.entry) c.entry.ensures.same ∙ ap (λ e. with_entry e old) c.in_ok-entry.ensures.is in
    subst (λ (f : FactLists). Tells f (record { sender = n; number = k; item = i } ∷ s)) (sym became) (says_more old s h n k i)
