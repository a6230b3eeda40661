-- What is known where a change is told of, as the code has it.
use Rattle.testing_rules_model.specs.Boxed.{unboxed}
use Rattle.testing_rules_refusals.specs.Texts.{Known}
use Rattle.office_core_breaks.specs.declared.offers.OfferInput.{OfferInput}
use Rattle.office_core_breaks.specs.Told.{known_for}

-- what the input of the lines on offers has
abbrev pub known_on : OfferInput → Known
known_on g = known_for g.archs.now (unboxed g.unstable.sources.now) g.excuses.now g.coming.now
