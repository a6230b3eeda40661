-- Commands that take a subcommand.
use Rattle.std.proofs.Common.{ap, ◌≡◌, ◌∙◌, ◌&&◌, Bool, true, false, not}
use Rattle.std.proofs.lemmas.Bool.{and_parts, not-true}
use Rattle.clap.specs.Words.{AddsSubcommand, App, app_of, with_subcommand}
use Rattle.clap.specs.declared.builder.command.Command.{Command}

-- a command without groups and external subcommands is plain only where no argument is global
local : (groups external globals more : Bool) → (groups && (external && (not globals && more))) ≡ true → globals ≡ false
local groups external globals more plain = not-true globals (and_parts _ _ (and_parts _ _ (and_parts _ _ plain).1).1).0

-- a command with a plain one more
pub adds_part : (whole part new : Command) (added : App) → added.top.is_plain ≡ true → app_of part ≡ added → AddsSubcommand whole part new → app_of new ≡ with_subcommand (app_of whole) added.top
adds_part whole part new added plain is adds = adds.shape (local _ _ _ _ (ap (λ (a : App). a.top.is_plain) is ∙ plain)) ∙ ap (λ (a : App). with_subcommand (app_of whole) a.top) is
