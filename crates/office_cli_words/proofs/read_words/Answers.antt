use Rattle.std.proofs.Common.{◌≡◌, Bool, false, cond, map, ap, subst, sym, Some, ◌∙◌}
use Rattle.office_cli_words.specs.Asked.{Gives, ToTellVersion, asks_version, command_words_in, words_in}
use Rattle.office_cli_words.proofs.OldWords.{old_words_stay}
use Rattle.office_cli_words.proofs.read_words.Goals as goal

pub returns-then-asks_version-clause-asked : goal.returns-then-asks_version-clause-asked
unfolding words_in
returns-then-asks_version-clause-asked c =
    let words = map (λ word. word.now) c.args.words.now in
    ap (λ (b : Bool). cond b (Some ToTellVersion) (command_words_in words)) (sym c.asks_version.ensures ∙ c.if-asks_version.true)

pub returns-else-asks_version-clause-asked : goal.returns-else-asks_version-clause-asked
unfolding words_in
returns-else-asks_version-clause-asked c =
    let words = map (λ word. word.now) c.args.words.now in
    let other : asks_version words ≡ false = sym c.asks_version.ensures ∙ c.if-asks_version.false in
    subst (λ (b : Bool). Gives c.read_command.result (cond b (Some ToTellVersion) (command_words_in words))) (sym other) c.read_command.ensures.asked

pub returns-then-asks_version-clause-first : goal.returns-then-asks_version-clause-first
unfolding words_in
returns-then-asks_version-clause-first c = λ ask is.
    let words = map (λ word. word.now) c.args.words.now in
    sym (old_words_stay words ask is) ∙ ap (λ (b : Bool). cond b (Some ToTellVersion) (command_words_in words)) (sym c.asks_version.ensures ∙ c.if-asks_version.true)

pub returns-else-asks_version-clause-first : goal.returns-else-asks_version-clause-first
unfolding words_in
returns-else-asks_version-clause-first c = λ ask is.
    let words = map (λ word. word.now) c.args.words.now in
    let other : asks_version words ≡ false = sym c.asks_version.ensures ∙ c.if-asks_version.false in
    subst (λ (o : _). Gives c.read_command.result o) (old_words_stay words ask is)
    (subst (λ (b : Bool). Gives c.read_command.result (cond b (Some ToTellVersion) (command_words_in words))) (sym other) c.read_command.ensures.asked)
