use Rattle.std.proofs.Common.{Bor, List, ℕ, Some, ap, map, ◌∙◌}
use Rattle.clap.proofs.WalkLemmas.{raw_values-rows}
use Rattle.clap.specs.Words.{Text, found_of}
use Rattle.office_cli_words.proofs.given.texts_of.Goals as goal

pub returns-in-None : goal.returns-in-None
returns-in-None c = c.in-None.ensures ∙ raw_values-rows (found_of c.args.given.now) c.args.name.now

pub returns-in_ok-copied-in-Some : goal.returns-in_ok-copied-in-Some
returns-in_ok-copied-in-Some c =
    ap (λ (texts : List (Bor Text)). Some (map (λ text. text.now) texts)) c.in_ok-copied-in-Some.ensures
    ∙ (c.in-Some.ensures ∙ raw_values-rows (found_of c.args.given.now) c.args.name.now)
