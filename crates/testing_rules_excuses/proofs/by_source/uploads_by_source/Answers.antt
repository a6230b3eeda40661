use Rattle.std.proofs.Common.{arith, ◌∙◌, ap, ◌≤◌, length, take, filter, option_map}
use Rattle.std.proofs.lemmas.List.{take_all}
use Rattle.std.specs.Str.{bytes_eq}
use Rattle.testing_rules_model.specs.declared.facts.UploadIn.{UploadIn}
use Rattle.testing_rules_excuses.specs.steps.BySource.{slot_at, joined_by, is_among}
use Rattle.testing_rules_excuses.specs.steps.LentUploads.{uploads_lent}
use Rattle.testing_rules_excuses.proofs.NewsGroups.{joined}
use Rattle.testing_rules_excuses.proofs.LentGroups.{start_lent, joined_lent, group_lent}
use Rattle.testing_rules_excuses.proofs.by_source.uploads_by_source.Goals as goal

pub loop-upload-init : goal.loop-upload-init
loop-upload-init c = λ q. start_lent (is_among c.args.news.now q) (slot_at c.in_ok-groups.groups q) (c.in_ok-groups.ensures q)

pub loop-upload-preserved : goal.loop-upload-preserved
loop-upload-preserved c = λ q.
    let uploads = c.args.uploads.now in
    let own = λ (x : UploadIn). bytes_eq q x.source in
    let slot = slot_at c.loop-upload.groups q in
    let old = option_map uploads_lent slot in
    joined own uploads c.loop-upload.upload-index c.upload-item.result (omega arith) (is_among c.args.news.now q) old (option_map uploads_lent (slot_at c.join_upload.new.groups q)) (c.loop-upload.invariant q)
    (ap (option_map uploads_lent) (c.in_ok-join_upload.ensures q) ∙ joined_lent (own c.upload-item.result) _ slot ∙ ap (λ (x : UploadIn). joined_by (own x) x old) c.upload-item.is)

pub returns : goal.returns
returns c = λ q among.
    let uploads = c.args.uploads.now in
    let i = c.loop-upload.upload-index in
    let own = λ (x : UploadIn). bytes_eq q x.source in
    let all : length uploads ≤ i = omega arith in
    group_lent (is_among c.args.news.now q) (slot_at c.loop-upload.groups q) (filter own (take i uploads)) among (c.loop-upload.invariant q)
    ∙ ap (λ xs. filter own xs) (take_all i uploads all)
