use Rattle.std.proofs.Common.{◌≡◌, ℕ, ◌++◌, List, length, set, slice_index, sym, subst, ◌∙◌, arith}
use Rattle.std.proofs.lemmas.List.{get_or_default, get_or-set_same, get_or-set_other}
use Rattle.testing_rules_model.specs.Covered.{Covered}
use Rattle.testing_rules_model.specs.StandsFor.{StandsFor}
use Rattle.office_store_keeper.specs.Content.{Content}
use Rattle.office_core_facts.specs.steps.Walk.{said_by, said_within}
use Rattle.office_core_facts.proofs.TakenFacts.{Grows, stand_again, stand_more}
use Rattle.office_core_facts.proofs.covered.take_on.Goals as goal

pub returns-clause-stand : goal.returns-clause-stand
returns-clause-stand g c = λ trusted t low was.
    let setup = c.args.setup.now in
    let content : Content = g.K.Keeper.content c.args.keeper.now in
    let n = length setup.senders in
    let sender = c.args.sender in
    let cover = c.args.cover in
    let items : List ℕ = c.make_room.new.counts.items in
    let a : ℕ → ℕ = slice_index c.args.known.now.taken.items in
    let b : ℕ → ℕ = slice_index (set items sender cover) in
    let room = c.in_ok-make_room.ensures in
    let own : b sender ≡ cover = get_or-set_same items sender cover 0 room.room in
    let grows : Grows a b sender = record {
      own = omega (arith, own, c.requires.within);
      others = λ s other. get_or-set_other items sender s cover 0 other ∙ room.same s;
    } in
    let before : Covered = said_within setup content.kept a n in
    let taken : c.index-taken.result.now ≡ a sender = c.index-taken.ensures ∙ get_or_default items sender c.index-taken.result.now 0 room.room ∙ room.same sender in
    stand_more setup content.kept c.take_stretch.new.facts a b sender n t low grows
    (subst (λ (k : ℕ). StandsFor c.take_stretch.new.facts (said_by setup content.kept sender k ++ before) t) (sym own)
    ((c.in_ok-take_stretch.ensures.took trusted).taken t c.args.known.now.facts before
    (subst (λ (k : ℕ). StandsFor c.args.known.now.facts (said_by setup content.kept sender k ++ before) t) (sym taken)
    (stand_again setup content.kept c.args.known.now.facts a sender n t low was))))

pub returns-clause-way : goal.returns-clause-way
returns-clause-way g c = λ trusted. (c.in_ok-take_stretch.ensures.took trusted).way
