-- What the words of the first three commands ask for, which stays.
use Rattle.std.specs.Prelude.{◌≡◌, codes, List, Option, Some, None, if◌then◌else◌, option_and_then}
use Rattle.std.specs.Str.{bytes_eq}
use Rattle.clap.specs.Words.{Row, Text, fault_of, subcommand_of}
use Rattle.office_cli_words.specs.Program.{of_three}
use Rattle.office_cli_words.specs.Asked.{Asked, compare_in, if_faultless, replay_in, serve_in, words_in}

-- by the command that the words name, if it is one of the three, and what they give it
abbrev pub one_of_three : Text → List Row → Option Asked
one_of_three name rows =
    if bytes_eq name (codes "compare") then compare_in rows
    else if bytes_eq name (codes "replay") then replay_in rows
    else if bytes_eq name (codes "serve") then serve_in rows
    else None

-- what words ask for as clap's definition reads them in the command that only compares, replays and serves
abbrev pub old_words_in : List Text → Option Asked
old_words_in words = if_faultless (fault_of of_three words) (option_and_then (λ found. one_of_three found.0 found.1) (subcommand_of of_three words))

-- words that the command of the three accepts ask for the same
abbrev pub OldWordsStay : Type 0
OldWordsStay = (words : List Text) (ask : Asked) → old_words_in words ≡ Some ask → words_in words ≡ Some ask
