use Rattle.std.proofs.Common.{◌≡◌, ◌++◌, ◌∙◌, List, ap, subst}
use Rattle.testing_rules_items.specs.Words.{Text, is_empty}
use Rattle.testing_rules_model.specs.Unstable.{built_rows}
use Rattle.testing_rules_model.specs.declared.facts.UploadIn.{UploadIn}
use Rattle.office_core_breaks.specs.Breaks.{coming, rows_after}
use Rattle.office_core_breaks.specs.Texts.{all_text, head_line, unknown_text}
use Rattle.office_core_breaks.specs.Told.{IsWhyBroken, known_for}
use Rattle.office_core_breaks.proofs.told.told_by.Goals as goal

pub broken_lines-requires : goal.broken_lines-requires
broken_lines-requires c =
    c.deref.ensures.value ∙ c.in_ok-group.ensures ∙ ap (λ (us : List UploadIn). coming us c.args.testing.now c.args.question.now.change) c.sources-sources.ensures.sources

pub returns-clause-told : goal.returns-clause-told
returns-clause-told c =
    let a = c.args in
    let b = a.basis.now in
    let archs = b.archs.now in
    let f = b.facts.now in
    let es = b.excuses.now in
    let t = a.testing.now in
    let q = a.question.now in
    let built = built_rows archs f.rows in
    let group : List Text = coming f.sources t q.change in
    let comes : c.in_ok-group.group.items ≡ group = c.in_ok-group.ensures ∙ ap (λ (us : List UploadIn). coming us t q.change) c.sources-sources.ensures.sources in
    let unknown : c.in_ok-unknown.unknown ≡ unknown_text f.sources t q.change = c.in_ok-unknown.ensures ∙ ap (λ (us : List UploadIn). unknown_text us t q.change) c.sources-sources.ensures.sources in
    let broken : c.in_ok-broken.broken ≡ all_text (known_for archs f.sources es group) built t.rows (rows_after f.sources built t q.change) =
    c.in_ok-broken.ensures ∙ ap (λ (g : List Text). all_text (known_for archs f.sources es g) built t.rows (rows_after f.sources built t q.change)) (c.deref.ensures.value ∙ comes) in
    let shown : Text = c.in_ok-shown.shown in
    let head : Text = head_line a.run q.words in
    record {
      shown = shown;
      why = subst (λ (g : List Text). IsWhyBroken archs f.sources built es t g shown) (c.deref-2.ensures.value ∙ comes) c.in_ok-shown.ensures.why;
      is = c.in_ok-text.ensures ∙ ap (λ (u : Text). head ++ u ++ c.in_ok-broken.broken ++ shown) unknown ∙ ap (λ (x : Text). head ++ unknown_text f.sources t q.change ++ x ++ shown) broken;
      known = c.is_none.ensures ∙ ap is_empty unknown;
    }
