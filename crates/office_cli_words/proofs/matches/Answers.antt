use Rattle.std.proofs.Common.{ap, map, refl, subst, true, ◌∙◌, ◌≡◌}
use Rattle.std.proofs.lemmas.Result.{IfErr-weaker, IfOk-weaker}
use Rattle.clap.specs.Words.{App, FailsBy, fault_of, is_simple, is_simple_and_free, subcommand_of, takes}
use Rattle.clap.proofs.OnLiterals.{clap_on_literals}
use Rattle.office_cli_words.specs.Program.{of_three, office}
use Rattle.office_cli_words.proofs.matches.Goals as goal

office_simple : is_simple office ≡ true
unfolding clap_on_literals office of_three
office_simple = refl

office_free : is_simple_and_free office ≡ true
unfolding clap_on_literals office of_three
office_free = refl

pub returns-clause-ok : goal.returns-clause-ok
returns-clause-ok c =
    let is = c.in_ok-office_command.ensures in
    let parse = c.try_get_matches_from in
    IfOk-weaker parse.result _ _ (λ m h. (h (ap is_simple is ∙ office_simple)).1 ∙ ap (λ a. subcommand_of a (map (λ s. s.now) c.args.words.now)) is) parse.ensures.matches

pub returns-clause-passes : goal.returns-clause-passes
returns-clause-passes c =
    let is = c.in_ok-office_command.ensures in
    let parse = c.try_get_matches_from in
    IfErr-weaker parse.result _ _ (λ e h taken. h (ap (λ a. takes a (map (λ s. s.now) c.args.words.now)) is ∙ taken)) parse.ensures.passes

pub returns-clause-kinds : goal.returns-clause-kinds
returns-clause-kinds c =
    let is = c.in_ok-office_command.ensures in
    let parse = c.try_get_matches_from in
    subst (λ (a : App). FailsBy (fault_of a (map (λ s. s.now) c.args.words.now)) parse.result) is (parse.ensures.kinds (ap is_simple_and_free is ∙ office_free))
