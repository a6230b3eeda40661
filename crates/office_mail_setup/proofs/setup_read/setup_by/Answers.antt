use Rattle.std.proofs.Common.{◌≡◌, ◌≤◌, List, ℕ, true, map, length, sym, ap, subst, ◌∙◌, arith}
use Rattle.testing_rules_items.specs.Archs.{IsArchs}
use Rattle.office_mail_setup.specs.Setup.{are_senders, are_roles, IsSetup}
use Rattle.office_mail_setup.proofs.Each.{texts}
use Rattle.office_mail_setup.proofs.Views.{sender_lines}
use Rattle.testing_rules_items.proofs.ArchFacts.{archs_kept, few_texts}
use Rattle.office_mail_setup.proofs.SetupFacts.{setup_kept}
use Rattle.office_mail_setup.proofs.setup_read.setup_by.Goals as goal

pub of-requires : goal.of-requires
of-requires c =
    let few : length (texts c.args.archs.now) ≤ 16 = few_texts _ c.if-archs-gt16.false in
    subst IsArchs (sym c.in_ok-archs.ensures) (archs_kept (texts c.args.archs.now) (sym c.are_archs.ensures ∙ c.if-not-are_archs.false) few)

pub of-requires-2 : goal.of-requires-2
of-requires-2 c =
    let few : length (texts c.args.archs.now) ≤ 16 = few_texts _ c.if-archs-gt16.false in
    let small : length c.in_ok-senders.senders.items ≤ 16 = omega (arith, c.len.ensures, c.in_ok-senders.senders.ok.0, c.if-len-gt16.false) in
    let named : are_senders (map (λ (s : List ℕ × List ℕ). s.0) (sender_lines c.args.senders.now)) ≡ true =
    ap are_senders (sym c.in_ok-names.ensures) ∙ ap (λ ws. are_senders (texts ws)) (sym c.deref.ensures.value) ∙ sym c.are_senders.ensures ∙ c.if-not-are_senders.false in
    let roles : are_roles c.in_ok-senders.senders.items ≡ true =
    ap are_roles (sym c.deref-2.ensures.value) ∙ sym c.are_roles.ensures ∙ c.if-not-are_roles.false in
    subst (λ a. IsSetup (record { archs = a; senders = c.in_ok-senders.senders.items })) (sym (c.of.ensures ∙ c.in_ok-archs.ensures))
    (setup_kept (texts c.args.archs.now) (sender_lines c.args.senders.now) c.in_ok-senders.senders.items (sym c.are_archs.ensures ∙ c.if-not-are_archs.false) few named c.in_ok-senders.ensures roles small)
