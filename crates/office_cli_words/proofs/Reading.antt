-- From what clap tells to what the words ask for.
use Rattle.std.proofs.Common.{◌≡◌, ◌≢◌, ◌⊎◌, inl, inr, List, [], ◌∷◌, Option, None, Err, ap, sym, refl, subst}
use Rattle.clap.specs.Words.{Text, fault_of, kind_of, subcommand_of}
use Rattle.clap.specs.Kinds.{HasKind, IsAmong, Kinds}
use Rattle.clap.specs.declared.error.Error.{Error}
use Rattle.clap.specs.declared.error.kind.ErrorKind.{ErrorKind}
use Rattle.clap.specs.declared.error.kind.ErrorKind.TheVariants as kind
use Rattle.office_cli_words.specs.Program.{office}
use Rattle.office_cli_words.specs.Asked.{Asked, Gives, command_words_in, if_faultless}
use Rattle.office_cli_words.specs.steps.AskedSteps.{asked_by}
use Rattle.office_cli_words.specs.declared.WordsFault.{WordsFault}
use Rattle.office_cli_words.specs.declared.WordsFault.TheVariants.{NoMemory, Usage}

pub faultless : (words : List Text) → fault_of office words ≡ [] → command_words_in words ≡ asked_by (subcommand_of office words)
unfolding command_words_in
faultless words none = ap (λ (kinds : Kinds). if_faultless kinds (asked_by (subcommand_of office words))) none

gives_none : (fault : WordsFault) (said : Option Asked) → said ≡ None → Gives (Err fault) said
gives_none (Usage error) said none = none
gives_none NoMemory said none = tt

faulty : (k : ErrorKind) (kinds : Kinds) (found : Option Asked) → IsAmong k kinds → if_faultless kinds found ≡ None
faulty k [] found among = absurd among
faulty k (x ∷ more) found among = refl

gives_fault : (fault : WordsFault) (error : Error) (kinds : Kinds) (found : Option Asked)
    → (fault ≡ NoMemory) ⊎ ((e : Error) × (fault ≡ Usage e) × (kind_of error ≢ kind.OutOfMemory))
    → HasKind kinds error → Gives (Err fault) (if_faultless kinds found)
gives_fault fault error kinds found (inl memory) has = subst (λ (f : WordsFault). Gives (Err f) (if_faultless kinds found)) (sym memory) tt
gives_fault fault error kinds found (inr usage) (inl memory) = absurd (usage.2 memory)
gives_fault fault error kinds found (inr usage) (inr among) = gives_none fault (if_faultless kinds found) (faulty (kind_of error) kinds found among)

pub gives_refusal : (fault : WordsFault) (error : Error) (words : List Text)
    → (fault ≡ NoMemory) ⊎ ((e : Error) × (fault ≡ Usage e) × (kind_of error ≢ kind.OutOfMemory))
    → HasKind (fault_of office words) error → Gives (Err fault) (command_words_in words)
unfolding command_words_in
gives_refusal fault error words is has = gives_fault fault error (fault_of office words) (asked_by (subcommand_of office words)) is has
