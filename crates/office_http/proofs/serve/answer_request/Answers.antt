use Rattle.std.proofs.Common.{◌≡◌, [], false, drop, inl, refl, sym, ◌∙◌, arith}
use Rattle.std.proofs.lemmas.Result.{on_err_weaker}
use Rattle.std.proofs.KnownBytes.{Appends-nil, Consumes-nil}
use Rattle.office_core.specs.Preserves.{StoreRefused}
use Rattle.office_core_facts.specs.State.{state_of}
use Rattle.office_core.proofs.CarryFacts.{state_asked}
use Rattle.office_http.proofs.ServeFacts.{short_answers, refused_answers, told_answers, post_size, stopped_post}
use Rattle.office_http.proofs.serve.answer_request.Goals as goal

pub returns-in-None-clause-ok : goal.returns-in-None-clause-ok
returns-in-None-clause-ok g c =
    let l = g.R.Feed.left c.args.reader.now in
    let w = g.W.Sink.written c.args.writer.now in
    let s = c.args.office.now in
    λ h due same. short_answers (StoreRefused g.K.Keeper s s) (state_of g.K.Keeper s) l l w w (drop c.args.start c.args.seen.now.items) due [] false (Consumes-nil l) (inl refl) (Appends-nil w) (λ h. absurd (cc (h)))

pub returns-in-Some-Refused-clause-ok : goal.returns-in-Some-Refused-clause-ok
returns-in-Some-Refused-clause-ok g c =
    let l = g.R.Feed.left c.args.reader.now in
    let w = g.W.Sink.written c.args.writer.now in
    let s = c.args.office.now in
    λ h due same. refused_answers (StoreRefused g.K.Keeper s s) (state_of g.K.Keeper s) l w (drop c.args.start c.args.seen.now.items) c.in-Some-Refused.refusal due (let at : c.in-Some-Refused.field-0 ≡ due = rw c.in-Some-Refused.is at same in sym c.in-Some-Refused.field-0-is ∙ at)

pub returns-in-Some-Tell-clause-ok : goal.returns-in-Some-Tell-clause-ok
returns-in-Some-Tell-clause-ok g c =
    let l = g.R.Feed.left c.args.reader.now in
    let w = g.W.Sink.written c.args.writer.now in
    let keeper = g.K.Keeper in
    let s0 = c.args.office.now in
    let s1 = c.tell.new.office in
    λ h due same. told_answers (StoreRefused keeper s0 s1) (state_of keeper s0) (state_of keeper s1) l w (drop c.args.start c.args.seen.now.items) c.in-Some-Tell.page c.tell.result due (let at : c.in-Some-Tell.field-0 ≡ due = rw c.in-Some-Tell.is at same in sym c.in-Some-Tell.field-0-is ∙ at) (c.tell.ensures.tells h) (state_asked keeper s0 s1 c.tell.ensures.asks h.0)

pub returns-in-Some-Tell-clause-counts : goal.returns-in-Some-Tell-clause-counts
returns-in-Some-Tell-clause-counts g c = record { read = tt; write = tt; read_clean = refl; write_clean = refl }

pub returns-in-Some-Post-clause-err : goal.returns-in-Some-Post-clause-err
returns-in-Some-Post-clause-err g c =
    let left = g.R.Feed.left in
    let written = g.W.Sink.written in
    let keeper = g.K.Keeper in
    λ t. on_err_weaker c.answer_post.result
    (λ s. stopped_post (state_of keeper c.args.office.now) (state_of keeper c.answer_post.new.office) (left c.args.reader.now) (left c.answer_post.new.reader) (written c.args.writer.now) (written c.answer_post.new.writer)
    c.args.asked c.in-Some-Post.posted (λ due same. let at : c.in-Some-Post.field-0 ≡ due = rw c.in-Some-Post.is at same in sym c.in-Some-Post.field-0-is ∙ at) c.requires.fits s)
    (c.answer_post.ensures.err t)

pub returns-in-Some-Post-clause-calls : goal.returns-in-Some-Post-clause-calls
returns-in-Some-Post-clause-calls g c = omega (arith, c.answer_post.ensures.calls, post_size c.args.asked c.in-Some-Post.posted (λ due same. let at : c.in-Some-Post.field-0 ≡ due = rw c.in-Some-Post.is at same in sym c.in-Some-Post.field-0-is ∙ at) c.requires.fits)
