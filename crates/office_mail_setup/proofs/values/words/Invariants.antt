use Rattle.std.proofs.Common.{◌≡◌, ◌++◌, length}
use Rattle.std.specs.List.{prefix_len}
use Rattle.deb_control.specs.Text.{is_white}
use denote.Text.{Utf8}
use denote.Shadow.{shadow}
use Rattle.office_mail_setup.specs.Values.{words}
use Rattle.office_mail_setup.proofs.Each.{texts}
use Rattle.office_mail_setup.proofs.values.words.Given as goal

-- the words so far and those of the rest, which begins with a word
abbrev pub invariant-words : goal.invariant-words
invariant-words l = record {
  whole : words l.text ≡ texts l.words.items ++ words l.rest;
  begins : prefix_len is_white l.rest ≡ 0;
  utf8 : shadow (Utf8 l.rest);
}

abbrev pub decreases-words : goal.decreases-words
decreases-words l = length l.rest
