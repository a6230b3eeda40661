use Rattle.std.proofs.Common.{◌≡◌, ◌∙◌, ◌++◌, List, arith, ap, refl, sym, subst, length, not, filter, map}
use Rattle.std.proofs.lemmas.List.{length-append, length-map}
use Rattle.std.proofs.lemmas.List.Filters.{length-filter_both}
use Rattle.testing_rules_model.specs.declared.fact_row.FactRow.{FactRow}
use Rattle.testing_rules_model.specs.declared.facts.UploadIn.{UploadIn}
use Rattle.testing_rules_model.specs.Boxed.{unboxed}
use Rattle.testing_rules_model.specs.FactLists.{FactLists}
use Rattle.testing_rules_model.specs.FactRows.{upload_row}
use Rattle.testing_rules_model.specs.KeptFacts.{counts_beside, trimmed}
use Rattle.testing_rules_model.specs.Suite.{Suite}
use Rattle.testing_rules_fact_order.specs.steps.Trimming.{with_sources}
use Rattle.testing_rules_fact_order.specs.Uploads.{AreByMessage}
use Rattle.testing_rules_facts.proofs.KeptUploads.{by_message-filter}
use Rattle.testing_rules_facts.proofs.facts.Facts.trim.Goals as goal

pub invariant_of-self : goal.invariant_of-self
invariant_of-self g c =
    let counts = counts_beside (with_sources c.sources_by_name-sources.result.now) in
    let uploads = c.self.inside.uploads.items in
    let others = filter (λ u. not (counts u)) uploads in (
      c.self.invariant.0,
      omega (
        arith,
        c.self.invariant.1,
        c.trim_uploads.ensures.capacity,
        ap length c.trim_uploads.ensures.uploads,
        ap length c.trim_uploads.ensures.left,
        length-append c.self.inside.log.left.items (map upload_row others),
        length-map others upload_row,
        length-filter_both counts (λ u. not (counts u)) (λ u. refl) uploads,
      ),
      subst AreByMessage (sym c.trim_uploads.ensures.uploads) (by_message-filter counts uploads c.self.invariant.2),
      c.self.invariant.3,
      c.self.invariant.4,
    )

-- a testing is asked for its sources alone
trimmed_by : (t : Suite) (f : FactLists) (uploads : List UploadIn) (left : List FactRow) → uploads ≡ filter (counts_beside (with_sources t.sources)) f.uploads
    → left ≡ f.left ++ map upload_row (filter (λ u. not (counts_beside (with_sources t.sources) u)) f.uploads) → record f { uploads = uploads; left = left } ≡ trimmed t f
trimmed_by t f uploads left uploads_are left_is = rw (uploads_are, left_is) refl

pub returns : goal.returns
returns g c =
    let lists : FactLists = record {
      sources = unboxed c.self.inside.sources.items;
      uploads = c.self.inside.uploads.items;
      rows = c.self.inside.rows;
      drops = unboxed c.self.inside.drops.items;
      bugs = unboxed c.self.inside.bugs.items;
      hints = c.self.inside.hints.items;
      unhints = c.self.inside.unhints.items;
      delays = c.self.inside.delays;
      came = c.self.inside.log.came.items;
      left = c.self.inside.log.left.items;
    } in
    let t : Suite = g.T.HasSources.suite c.args.testing.now in
    let same = c.sources_by_name-sources.ensures.sources in
    trimmed_by t lists c.trim_uploads.new.uploads.items c.trim_uploads.new.left.items
    (c.trim_uploads.ensures.uploads ∙ ap (λ ss. filter (counts_beside (with_sources ss)) lists.uploads) same)
    (c.trim_uploads.ensures.left ∙ ap (λ ss. lists.left ++ map upload_row (filter (λ u. not (counts_beside (with_sources ss) u)) lists.uploads)) same)
    ∙ ap (trimmed t) c.self.view_is
