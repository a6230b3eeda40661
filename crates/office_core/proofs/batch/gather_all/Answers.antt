use Rattle.std.proofs.Common.{◌≡◌, ◌<◌, ◌+◌, ◌++◌, ◌∷◌, [], List, ℕ, Result, IfOk, arith, length, take, sym, ap, subst, refl, ◌∙◌}
use Rattle.std.proofs.lemmas.List.{take_more, length-append}
use Rattle.office_store_keeper.specs.Content.{Content}
use Rattle.office_core_replies.specs.declared.faults.DeliverFault.{DeliverFault}
use Rattle.office_core_replies.specs.declared.faults.Held.{Held}
use Rattle.office_core.specs.steps.Asked.{AreFreeFrom}
use Rattle.office_core.specs.steps.GatherSteps.{TakesText}
use Rattle.office_core.proofs.GatherFacts.{each_push, gathers_none, gathers_more}
use Rattle.office_core_store.proofs.LookFacts.{looked_none, looked_then}
use Rattle.office_core.proofs.batch.gather_all.Goals as goal

pub texts-init : goal.texts-init
texts-init g c = record {
  gathers = λ trusted. rw (c.requires.letters, c.requires.replies) (gathers_none c.args.setup.now (g.K.Keeper.content c.args.keeper.now).kept);
  asked = λ trusted. rw c.new-asked.ensures.items (λ k d low. absurd (omega (arith, low)));
  each = rw c.requires.replies refl;
  placed = rw c.requires.letters tt;
  places = rw c.requires.replies tt;
  looks = looked_none g.K.Keeper c.args.keeper.now;
}

pub texts-preserved : goal.texts-preserved
texts-preserved g c =
    let setup = c.args.setup.now in
    let so = c.texts.invariant in
    let next = c.in_ok-reply.ensures in
    let texts : List (List ℕ) = c.args.texts.now in
    let i = c.texts.text-index in
    let text : List ℕ = c.text-item.result in
    let old = (g.K.Keeper.content c.args.keeper.now).kept in
    let more : take (i + 1) texts ≡ take i texts ++ text ∷ [] =
    take_more texts i c.text-item.result c.texts-test.true ∙ ap (λ (t : List ℕ). take i texts ++ t ∷ []) (sym c.text-item.is) in
    let pushed : c.push.new.self.items ≡ c.texts.block.replies.items ++ c.in_ok-reply.reply ∷ [] = c.in_ok-push.ensures.items in
    record {
      gathers = λ trusted.
          let earlier = next.asks.looks.before trusted in
          rw (pushed, more) (gathers_more setup old c.texts.block.letters.items c.gather.new.letters.items c.texts.block.replies.items (take i texts) text c.in_ok-reply.reply (so.gathers earlier)
          (subst (λ (m : Content). AreFreeFrom m.kept c.texts.asked.items → TakesText setup m.kept c.texts.block.letters.items c.gather.new.letters.items text c.in_ok-reply.reply) (so.looks.same earlier) (next.takes trusted)
          (so.asked earlier)));
      asked = λ trusted.
          let earlier = next.asks.looks.before trusted in
          subst (λ (m : Content). AreFreeFrom m.kept c.texts.asked.items → AreFreeFrom m.kept c.gather.new.asked.items) (so.looks.same earlier) (next.asks.known trusted) (so.asked earlier);
      each = ap length pushed ∙ length-append c.texts.block.replies.items (c.in_ok-reply.reply ∷ []) ∙ ap (λ (n : ℕ). n + 1) so.each;
      placed = next.placed so.placed;
      places = rw pushed (each_push (λ (r : Result Held DeliverFault). IfOk r (λ (held : Held). held.sender < length setup.senders)) c.texts.block.replies.items c.in_ok-reply.reply so.places next.place);
      looks = looked_then g.K.Keeper c.args.keeper.now c.texts.keeper c.gather.new.keeper so.looks next.asks.looks;
    }
