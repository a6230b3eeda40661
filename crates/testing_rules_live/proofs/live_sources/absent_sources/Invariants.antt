use Rattle.std.proofs.Common.{◌≡◌, take, map, []}
use Rattle.testing_rules_model.specs.Boxed.{unboxed}
use Rattle.testing_rules_model.specs.declared.facts.UploadIn.{UploadIn}
use Rattle.testing_rules_live.specs.steps.LiveSources.{name_of, sources_of}
use Rattle.testing_rules_live.proofs.live_sources.absent_sources.Given as goal

-- those so far
abbrev pub invariant-loop-upload : goal.invariant-loop-upload
invariant-loop-upload l =
    record {
      names : map name_of l.slots.items ≡ map (λ (u : UploadIn). u.source) (unboxed (take l.upload-index l.unstable));
      none : sources_of l.slots.items ≡ [];
    }
