use Rattle.std.proofs.Common.{◌≡◌, ◌∙◌, sym, ap, subst, ◌++◌, ◌∷◌, [], arith}
use Rattle.std.specs.Str.{bytes_eq}
use Rattle.deb_control.specs.declared.binary.Binary.{Binary}
use Rattle.testing_install.specs.Index.{provides_name}
use Rattle.testing_install.specs.Dependents.{IsNotedAt}
use Rattle.testing_install.specs.Dependents.{IsNotedAt}
use Rattle.testing_rules_model.specs.JudgedRows.{row_of}
use Rattle.testing_rules_suites.specs.steps.Pools.{IsPool}
use Rattle.testing_rules_suites.proofs.Pooling.{pool_behind}
use Rattle.testing_rules_suites.proofs.pool.add_row.Goals as goal

pub returns-clause-indexes : goal.returns-clause-indexes
returns-clause-indexes c =
    let rows = c.args.rows.now.items in
    let row = row_of c.args.row.now in
    let place = c.len-place.result in
    let sources = c.args.by_source.now in
    let names = c.args.by_name.now in
    let more : c.push.new.self.items ≡ rows ++ row ∷ [] = c.in_ok-push.ensures.items ∙ ap (λ r. rows ++ r ∷ []) c.in_ok-copy.ensures in
    let sourced = subst (λ t. IsNotedAt (λ q. bytes_eq q t) sources c.note.new.self place) (c.as_str.ensures ∙ ap (λ (q : Binary). q.source) c.deref.ensures) c.in_ok-note.ensures in
    let named = subst (λ b. IsNotedAt (provides_name b) names c.note_row.new.providers place) c.deref-2.ensures c.in_ok-note_row.ensures in
    subst (λ rs. IsPool rs c.note.new.self c.note_row.new.providers) (sym more)
    (pool_behind rows row sources names c.note.new.self c.note_row.new.providers place (omega (arith, c.len-place.ensures, c.args.rows.now.ok.0)) c.requires sourced named)
