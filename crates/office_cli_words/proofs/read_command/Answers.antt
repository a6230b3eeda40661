use Rattle.std.proofs.Common.{ap, map, sym, ◌∙◌}
use Rattle.clap.proofs.CallerLemmas.{some_of_text}
use Rattle.clap.specs.Words.{subcommand_of}
use Rattle.std.specs.Prelude.{option_map}
use Rattle.office_cli_words.specs.Program.{office}
use Rattle.office_cli_words.specs.Asked.{asked}
use Rattle.office_cli_words.specs.steps.AskedSteps.{asked_by}
use Rattle.office_cli_words.proofs.Reading.{faultless, gives_refusal}
use Rattle.office_cli_words.proofs.Taken.{taken_words_ask}
use Rattle.office_cli_words.proofs.read_command.Goals as goal

pub unwrap-requires : goal.unwrap-requires
unwrap-requires c =
    let words = map (λ word. word.now) c.args.words.now in
    some_of_text asked c.in_ok-asked_words-in-Ok.field-0 (asked_by (subcommand_of office words)) (c.in_ok-asked_words-in-Ok.ensures ∙ ap asked_by c.in-Ok.ensures.ok) (taken_words_ask words c.in-Ok.ensures.kinds)

pub returns-in_ok-asked_words-in-Ok-clause-asked : goal.returns-in_ok-asked_words-in-Ok-clause-asked
returns-in_ok-asked_words-in-Ok-clause-asked c =
    faultless (map (λ word. word.now) c.args.words.now) c.in-Ok.ensures.kinds ∙ (ap asked_by (sym c.in-Ok.ensures.ok) ∙ (sym c.in_ok-asked_words-in-Ok.ensures ∙ ap (option_map asked) c.unwrap.ensures))

pub returns-in-Err-clause-asked : goal.returns-in-Err-clause-asked
returns-in-Err-clause-asked c = gives_refusal c.of.result c.in-Err.error (map (λ word. word.now) c.args.words.now) c.of.ensures.usage c.in-Err.ensures.kinds
