use Rattle.std.proofs.Common.{◌≡◌, sym, ap, ◌∙◌, ◌++◌, ◌∷◌, [], List, map, take, get_or, Box}
use Rattle.std.proofs.lemmas.List.{take_more, map-append}
use Rattle.std.proofs.lemmas.List.Elements.{filter_map-append}
use Rattle.testing_rules_live.specs.steps.LiveSources.{name_of, source_of, sources_of}
use Rattle.testing_rules_live.specs.declared.live_sources.Slot.TheVariants.{Absent}
use Rattle.testing_rules_items.specs.Words.{Text}
use Rattle.testing_rules_model.specs.Boxed.{unboxed}
use Rattle.testing_rules_model.specs.declared.facts.UploadIn.{UploadIn}
use Rattle.testing_rules_live.proofs.live_sources.absent_sources.Goals as goal

pub loop-upload-preserved : goal.loop-upload-preserved
loop-upload-preserved c =
    let boxes = c.args.unstable.now in
    let i = c.loop-upload.upload-index in
    let d = c.upload-item.result in
    let slots = c.loop-upload.slots.items in
    let slot = Absent c.deref.result in
    let source : UploadIn → Text = λ u. u.source in
    let unboxed-more = ap unboxed (take_more boxes i d c.loop-upload-test.true) ∙ map-append (λ b. b.value) (take i boxes) (get_or boxes i d ∷ []) in
    let names-more = ap (map source) unboxed-more ∙ map-append source (unboxed (take i boxes)) ((get_or boxes i d).value ∷ []) in
    let same = ap (λ (u : UploadIn). u.source) c.deref.ensures ∙ ap (λ (b : Box UploadIn _). b.value.source) c.upload-item.is in
    record {
      names = ap (map name_of) c.in_ok-push.ensures.items ∙ map-append name_of slots (slot ∷ []) ∙ ap (λ (ns : List Text). ns ++ name_of slot ∷ []) c.loop-upload.invariant.names
          ∙ ap (λ (n : Text). map source (unboxed (take i boxes)) ++ n ∷ []) same ∙ sym names-more;
      none = ap sources_of c.in_ok-push.ensures.items ∙ filter_map-append source_of slots (slot ∷ []) ∙ ap (λ xs. xs ++ []) c.loop-upload.invariant.none;
    }
