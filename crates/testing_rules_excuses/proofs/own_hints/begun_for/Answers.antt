use Rattle.std.proofs.Common.{arith, ◌∙◌, ◌||◌, sym, ap, Some, None, cond, take}
use Rattle.std.specs.Str.{bytes_eq}
use Rattle.testing_rules_excuses.specs.declared.by_source.News.{News}
use Rattle.testing_rules_excuses.specs.steps.BySource.{slot_at, is_among}
use Rattle.testing_rules_excuses.specs.steps.OwnHints.{started}
use Rattle.testing_rules_excuses.proofs.NewsGroups.{opened, among-more}
use Rattle.testing_rules_excuses.proofs.own_hints.begun_for.Goals as goal

pub loop-source-preserved : goal.loop-source-preserved
loop-source-preserved c = λ q.
    let news = c.args.news.now in
    let first = started c.args.all_out in
    let i = c.loop-source.source-index in
    let d = c.source-item.result in
    let old = slot_at c.loop-source.groups q in
    let named = c.as_str.ensures ∙ ap (λ (n : News). n.upload.now.source) c.source-item.is in
    opened first (is_among (take i news) q) (bytes_eq q c.as_str.result.now) old (slot_at c.begin.new.groups q) (c.loop-source.invariant q) (c.in_ok-begin.ensures q)
    ∙ ap (λ s. cond (is_among (take i news) q || bytes_eq q s) (Some first) None) named
    ∙ ap (λ b. cond b (Some first) None) (sym (among-more news i d (omega arith) q))
