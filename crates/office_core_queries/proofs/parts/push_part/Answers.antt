use Rattle.std.proofs.Common.{◌≡◌, ◌++◌, ℕ, List, length, true, false, None, Some, sym, ap, subst, ◌∙◌, refl}
use Rattle.office_mail.specs.Bag.{framed}
use Rattle.office_store_keeper.specs.Content.{Content}
use Rattle.office_store_keeper.specs.declared.values.Letter.{Letter}
use Rattle.office_core_queries.specs.steps.Numbers.{IsLetterAbove, IsNextLetter}
use Rattle.office_core_queries.proofs.AskFacts.{asked_any, asked_none, asked_then, holds_before, holds_behind}
use Rattle.office_core_queries.proofs.PartFacts.{has_room, part_all, part_full, part_more}
use Rattle.office_core_queries.proofs.parts.push_part.Goals as goal

pub loop-letter-init : goal.loop-letter-init
loop-letter-init g c = record {
  asked = asked_none g.K.Keeper c.args.office.now;
  few = c.requires.behind;
  part = λ h. refl;
}

pub loop-letter-preserved : goal.loop-letter-preserved
loop-letter-preserved g c =
    let keeper = g.K.Keeper in
    let s0 = c.args.office.now in
    let s1 = c.loop-letter.office in
    let s2 = c.letter_above.new.office in
    let kept = (keeper.content s0).kept in
    let l = c.loop-letter.invariant in
    let last = c.loop-letter.last in
    let step = c.in_ok-letter.ensures in
    let letter : Letter = c.in-Some.letter in
    let bytes : List ℕ = c.loop-letter.bag.items in
    let above : IsLetterAbove last (Some letter) = subst (IsLetterAbove last) c.in-Some.is step.above in
    record {
      asked = asked_any keeper s0 s2 _ true (asked_then keeper s0 s1 s2 _ l.asked step.asks);
      few = above.1;
      part = λ h.
          let h1 = holds_before keeper s0 s1 s2 step.asks.asks h in
          let h2 = holds_behind keeper s0 s1 s2 l.asked.asks step.asks.asks h in
          let next : IsNextLetter kept c.args.sender last (Some letter) =
          subst (IsNextLetter kept c.args.sender last) c.in-Some.is (subst (λ (m : Content). IsNextLetter m.kept c.args.sender last c.in_ok-letter.field-0) (l.asked.asks.same h1.0) (step.next h2)) in
          let room : has_room (length bytes) letter.text ≡ true =
          ap (has_room (length bytes)) (sym c.as_slice-text.ensures) ∙ ap (λ (n : ℕ). has_room n c.as_slice-text.result.now) (sym (c.len.ensures ∙ c.loop-letter.bag.ok.0)) ∙ sym c.fits.ensures ∙ c.if-not-fits.false in
          let put : c.push_framed.new.bag.items ≡ bytes ++ framed letter.text = c.in_ok-push_framed.ensures ∙ ap (λ (t : List ℕ). bytes ++ framed t) c.as_slice-text.ensures in
          part_more kept c.args.sender last letter bytes c.push_framed.new.bag.items next above.1 room put ∙ l.part h1;
    }

pub returns-then-not-fits-clause-part : goal.returns-then-not-fits-clause-part
returns-then-not-fits-clause-part g c = λ h.
    let keeper = g.K.Keeper in
    let s0 = c.args.office.now in
    let s1 = c.loop-letter.office in
    let s2 = c.letter_above.new.office in
    let kept = (keeper.content s0).kept in
    let l = c.loop-letter.invariant in
    let last = c.loop-letter.last in
    let step = c.in_ok-letter.ensures in
    let letter : Letter = c.in-Some.letter in
    let bytes : List ℕ = c.loop-letter.bag.items in
    let above : IsLetterAbove last (Some letter) = subst (IsLetterAbove last) c.in-Some.is step.above in
    let h1 = holds_before keeper s0 s1 s2 step.asks.asks h in
    let h2 = holds_behind keeper s0 s1 s2 l.asked.asks step.asks.asks h in
    let next : IsNextLetter kept c.args.sender last (Some letter) =
    subst (IsNextLetter kept c.args.sender last) c.in-Some.is (subst (λ (m : Content). IsNextLetter m.kept c.args.sender last c.in_ok-letter.field-0) (l.asked.asks.same h1.0) (step.next h2)) in
    let room : has_room (length bytes) letter.text ≡ false =
    ap (has_room (length bytes)) (sym c.as_slice-text.ensures) ∙ ap (λ (n : ℕ). has_room n c.as_slice-text.result.now) (sym (c.len.ensures ∙ c.loop-letter.bag.ok.0)) ∙ sym c.fits.ensures ∙ c.if-not-fits.true in
    sym (part_full kept c.args.sender last letter bytes next above.1 room) ∙ l.part h1

pub returns-clause-part : goal.returns-clause-part
returns-clause-part g c = λ h.
    let keeper = g.K.Keeper in
    let s0 = c.args.office.now in
    let s1 = c.loop-letter.office in
    let s2 = c.letter_above.new.office in
    let kept = (keeper.content s0).kept in
    let l = c.loop-letter.invariant in
    let last = c.loop-letter.last in
    let step = c.in_ok-letter.ensures in
    let h1 = holds_before keeper s0 s1 s2 step.asks.asks h in
    let h2 = holds_behind keeper s0 s1 s2 l.asked.asks step.asks.asks h in
    let none : IsNextLetter kept c.args.sender last None =
    subst (IsNextLetter kept c.args.sender last) c.in_default.is (subst (λ (m : Content). IsNextLetter m.kept c.args.sender last c.in_ok-letter.field-0) (l.asked.asks.same h1.0) (step.next h2)) in
    sym (part_all kept c.args.sender last c.loop-letter.bag.items none) ∙ l.part h1
