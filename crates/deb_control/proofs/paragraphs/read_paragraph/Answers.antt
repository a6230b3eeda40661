use Rattle.std.proofs.Common.{◌≡◌, ◌++◌, [], ◌∷◌, true, false, map, sym, ap, ◌∙◌, rules, inr, Some}
use Rattle.std.proofs.lemmas.List.{append-nil}
use Rattle.std.proofs.lemmas.Result.{err_from_is_err_and}
use Rattle.std.specs.Option.{option_or}
use Rattle.deb_control.specs.Text.{lines, is_blank_line, continues}
use Rattle.deb_control.specs.Paragraphs.{shown, name_in, fields, first_fault, reading_of}
use Rattle.deb_control.specs.steps.ReaderSteps.{line_in_front, front_run}
use Rattle.deb_control.proofs.Lines.{first_continues, refused, was_read, shorter, field_step, at_blank_line, names_with, fields_with}
use Rattle.deb_control.proofs.paragraphs.read_paragraph.Goals as goal

pub returns-then-begins_continuing : goal.returns-then-begins_continuing
returns-then-begins_continuing c =
    let begins : continues (line_in_front c.args.text.now) ≡ true = ap (λ bytes. continues (line_in_front bytes)) (sym c.as_bytes.ensures.value) ∙ sym c.begins_continuing.ensures ∙ c.if-begins_continuing.true in
    inr (refused c.args.text.now _ c.requires (first_continues c.args.text.now c.requires begins))

pub returns-in_err-field : goal.returns-in_err-field
returns-in_err-field c =
    let full : is_blank_line (line_in_front c.fields.rest.now) ≡ false = ap (λ bytes. is_blank_line (line_in_front bytes)) (sym c.as_bytes-in-fields.ensures.value) ∙ sym c.begins_blank.ensures ∙ c.fields-test.true in
    let names = map (λ f. f.0.now) c.fields.fields.items in
    let step = field_step c.fields.rest.now _ _ names c.split_field.ensures full c.fields.invariant.1 in
    let bad = rw c.deref.ensures.value at c.in_err-field.ensures in
    let fault : first_fault [] (front_run (lines c.args.text.now)) ≡ Some c.in_err-field.field-0.0 = c.fields.invariant.2 ∙ step.fault ∙ ap (λ o. option_or o (first_fault (names ++ name_in (line_in_front c.split_field.result.0.now) ∷ []) (front_run (lines c.split_field.result.1.now)))) bad in
    let p = err_from_is_err_and c.from_residual-in_err-field.result c.from_residual-in_err-field.ensures.1 in
    rw (p.1, p.2) (inr (refused c.args.text.now _ c.requires fault))

pub fields-smaller : goal.fields-smaller
fields-smaller c =
    let full : is_blank_line (line_in_front c.fields.rest.now) ≡ false = ap (λ bytes. is_blank_line (line_in_front bytes)) (sym c.as_bytes-in-fields.ensures.value) ∙ sym c.begins_blank.ensures ∙ c.fields-test.true in
    shorter c.fields.rest.now _ _ c.split_field.ensures full

pub fields-preserved : goal.fields-preserved
fields-preserved c =
    let full : is_blank_line (line_in_front c.fields.rest.now) ≡ false = ap (λ bytes. is_blank_line (line_in_front bytes)) (sym c.as_bytes-in-fields.ensures.value) ∙ sym c.begins_blank.ensures ∙ c.fields-test.true in
    let items = c.fields.fields.items in
    let names = map (λ f. f.0.now) items in
    let after = front_run (lines c.split_field.result.1.now) in
    let step = field_step c.fields.rest.now _ _ names c.split_field.ensures full c.fields.invariant.1 in
    let good = rw c.deref.ensures.value at c.in_ok-field.ensures in (
      search rules,
      c.split_field.ensures.ends,
      c.fields.invariant.2 ∙ step.fault
          ∙ ap (λ o. option_or o (first_fault (names ++ name_in (line_in_front c.split_field.result.0.now) ∷ []) after)) good.0
          ∙ ap (λ ns. first_fault ns after) (names_with items c.push.new.self.items c.in_ok-field.field _ c.in_ok-push.ensures.items good.1),
      c.fields.invariant.3 ∙ ap (λ fs. map shown items ++ fs) step.value
          ∙ fields_with items c.push.new.self.items c.in_ok-field.field _ _ (fields after) c.in_ok-push.ensures.items good.1 good.2,
      c.fields.invariant.4 ∙ step.rest,
    )

pub returns : goal.returns
returns c =
    let blank : is_blank_line (line_in_front c.fields.rest.now) ≡ true = ap (λ bytes. is_blank_line (line_in_front bytes)) (sym c.as_bytes-in-fields.ensures.value) ∙ sym c.begins_blank.ensures ∙ c.fields-test.false in
    let items = c.fields.fields.items in
    let done = at_blank_line c.fields.rest.now (map (λ f. f.0.now) items) blank in
    was_read c.args.text.now c.fields.rest.now (map shown items) c.requires
    (c.fields.invariant.2 ∙ done.0)
    (c.fields.invariant.3 ∙ ap (λ fs. map shown items ++ fs) done.1 ∙ append-nil (map shown items))
    (ap reading_of c.fields.invariant.4 ∙ done.2)
