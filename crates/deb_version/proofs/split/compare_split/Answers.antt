use Rattle.std.proofs.Common.{◌≡◌, ◌∙◌, sym, ap, rules}
use Rattle.std.specs.Ordering.{nat_cmp}
use Rattle.deb_version.specs.Key.{part_cmp}
use Rattle.deb_version.specs.steps.Laws.{same_refl}
use Rattle.deb_version.specs.Order.{version_cmp}
use Rattle.deb_version.specs.Text.{epoch_of, upstream_of, revision_of}
use Rattle.deb_version.proofs.Steps.{epochs_decide, upstreams_decide, revisions_decide}
use Rattle.deb_version.proofs.split.compare_split.Goals as goal

pub returns-then-eq : goal.returns-then-eq
returns-then-eq c =
    let same : c.args.a.now ≡ c.args.b.now = search rules in
    sym (same_refl c.args.a.now) ∙ ap (version_cmp c.args.a.now) same

pub returns-then-is_ne : goal.returns-then-is_ne
returns-then-is_ne c =
    let epochs : c.cmp-epochs.result ≡ nat_cmp (epoch_of c.args.a.now) (epoch_of c.args.b.now) = cc in
    epochs_decide c.args.a.now c.args.b.now c.cmp-epochs.result epochs (sym c.is_ne.ensures ∙ c.if-is_ne.true)

pub returns-then-is_ne-2 : goal.returns-then-is_ne-2
returns-then-is_ne-2 c =
    let epochs : c.cmp-epochs.result ≡ nat_cmp (epoch_of c.args.a.now) (epoch_of c.args.b.now) = cc in
    let upstreams : c.order_parts-upstreams.result ≡ part_cmp (upstream_of c.args.a.now) (upstream_of c.args.b.now) = cc in
    upstreams_decide c.args.a.now c.args.b.now c.cmp-epochs.result epochs (sym c.is_ne.ensures ∙ c.if-is_ne.false) c.order_parts-upstreams.result upstreams (sym c.is_ne-2.ensures ∙ c.if-is_ne-2.true)

pub returns : goal.returns
returns c =
    let epochs : c.cmp-epochs.result ≡ nat_cmp (epoch_of c.args.a.now) (epoch_of c.args.b.now) = cc in
    let upstreams : c.order_parts-upstreams.result ≡ part_cmp (upstream_of c.args.a.now) (upstream_of c.args.b.now) = cc in
    let revisions : c.order_parts.result ≡ part_cmp (revision_of c.args.a.now) (revision_of c.args.b.now) = cc in
    revisions_decide c.args.a.now c.args.b.now c.cmp-epochs.result epochs (sym c.is_ne.ensures ∙ c.if-is_ne.false)
    c.order_parts-upstreams.result c.order_parts.result upstreams (sym c.is_ne-2.ensures ∙ c.if-is_ne-2.false) revisions
