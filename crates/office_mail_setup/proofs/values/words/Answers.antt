use Rattle.std.proofs.Common.{◌<◌, ◌==◌, length, sym, ap, ◌∙◌, rules}
use Rattle.std.specs.List.{prefix_len}
use Rattle.deb_control.specs.Text.{is_white}
use Rattle.office_mail_setup.specs.Values.{words}
use Rattle.office_mail_setup.proofs.WordFacts.{words_skip, begins_word, shorter, one_more, some_left, none_left}
use Rattle.office_mail_setup.proofs.values.words.Goals as goal

pub words-init : goal.words-init
words-init c = rw c.new-words.ensures.items (record {
  whole = sym (ap words c.skip_white-rest.ensures ∙ words_skip c.args.text.now);
  begins = ap (prefix_len is_white) c.skip_white-rest.ensures ∙ begins_word c.args.text.now;
  utf8 = search rules;
})

pub words-smaller : goal.words-smaller
words-smaller c =
    let some = some_left (length c.words.rest.now) c.is_empty.result (c.is_empty.ensures ∙ ap (λ xs. length xs == 0) c.as_bytes.ensures.value) c.words-test.true in
    let less : length c.skip_white-rest-in-words.result.now < length c.words.rest.now =
    rw (c.skip_white-rest-in-words.ensures, c.split_word.ensures.rest) (shorter c.words.rest.now some c.words.invariant.begins) in
    less

pub words-preserved : goal.words-preserved
words-preserved c =
    let some = some_left (length c.words.rest.now) c.is_empty.result (c.is_empty.ensures ∙ ap (λ xs. length xs == 0) c.as_bytes.ensures.value) c.words-test.true in
    rw c.in_ok-push.ensures.items (record {
      whole = one_more c.args.text.now c.words.words.items c.split_word.result.0 c.words.rest.now _ _ c.words.invariant.whole some c.words.invariant.begins c.split_word.ensures.word c.split_word.ensures.rest c.skip_white-rest-in-words.ensures;
      begins = ap (prefix_len is_white) c.skip_white-rest-in-words.ensures ∙ begins_word c.split_word.result.1.now;
      utf8 = search rules;
    })

pub returns : goal.returns
returns c = none_left c.args.text.now c.words.words.items c.words.rest.now c.is_empty.result c.words.invariant.whole (c.is_empty.ensures ∙ ap (λ xs. length xs == 0) c.as_bytes.ensures.value) c.words-test.false
