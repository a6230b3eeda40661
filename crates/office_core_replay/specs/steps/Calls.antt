-- What calls on an office, a bag and a writer do, wherever the store is trusted and held what an office leaves.
use Rattle.std.specs.Prelude.{◌⊎◌, ℕ, Bool, List, Result, IfOk, OnErr}
use Rattle.office_mail.specs.Reading.{Reading}
use Rattle.office_mail.specs.declared.feed.Sink.{Ghosts as Writer}
use Rattle.office_store_keeper.specs.declared.keeper.Keeper.{Ghosts}
use Rattle.office_mail.specs.declared.writer.WriteFault.{WriteFault}
use Rattle.office_core_facts.specs.State.{state_of}
use Rattle.office_core.specs.Preserves.{Holds, StoreRefused}
use Rattle.office_core_replay.specs.Blocks.{DeliversTexts}
use Rattle.office_core_replay.specs.Delivered.{DeliversFront}
use Rattle.office_core_replay.specs.declared.replays.Delivered.{Delivered}
use Rattle.office_core_replay.specs.steps.BlockSteps.{DeliversLastFront, DeliversTextsFront}
use Rattle.office_core_replay.specs.steps.DeliverySteps.{DeliversAll}

-- a call delivers these texts and answers them
abbrev pub DeliversBlock : {K W : Type 0} → Ghosts K → Writer W → K → K → List (List ℕ) → W → W → Result Bool WriteFault → Type 0
DeliversBlock keeper sink old new texts was now result =
    Holds keeper old new → IfOk result (λ lost. DeliversTexts (state_of keeper old) (state_of keeper new) texts (sink.written was) (sink.written now) lost (StoreRefused keeper old new))

-- its writer failed, and a prefix of the answers is written
abbrev pub StopsBlock : {K W : Type 0} → Ghosts K → Writer W → K → K → List (List ℕ) → W → W → Result Bool WriteFault → Type 0
StopsBlock keeper sink old new texts was now result =
    Holds keeper old new → OnErr result (DeliversTextsFront (state_of keeper old) (state_of keeper new) texts (sink.written was) (sink.written now) (StoreRefused keeper old new))

-- a call delivers all messages of a bag and answers them
abbrev pub DeliversBag : {K W : Type 0} → Ghosts K → Writer W → K → K → Reading → Reading → W → W → Result Delivered WriteFault → Type 0
DeliversBag keeper sink old new start behind was now result =
    Holds keeper old new → IfOk result (λ delivered. DeliversAll (state_of keeper old) (state_of keeper new) start behind (sink.written was) (sink.written now) delivered.end delivered.lost (StoreRefused keeper old new))

-- its writer failed, maybe after the last block, and a prefix of the answers is written
abbrev pub StopsBag : {K W : Type 0} → Ghosts K → Writer W → K → K → Reading → Reading → W → W → Result Delivered WriteFault → Type 0
StopsBag keeper sink old new start behind was now result =
    Holds keeper old new → OnErr result (DeliversFront (state_of keeper old) (state_of keeper new) start behind (sink.written was) (sink.written now) (StoreRefused keeper old new)
    ⊎ DeliversLastFront (state_of keeper old) (state_of keeper new) start behind (sink.written was) (sink.written now) (StoreRefused keeper old new))
