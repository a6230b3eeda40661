use Rattle.std.proofs.Common.{◌∷◌, [], map, sym, ap, subst, ◌∙◌}
use Rattle.std.specs.List.{AllByRecursion}
use Rattle.office_store_testing_tables.specs.steps.FactSteps.{fact_parameters, FitsFact}
use Rattle.office_store_testing_tables.proofs.Eights.{eight_are}
use Rattle.office_store_testing_tables.proofs.fact_changes.eight_values.Goals as goal

pub returns-clause-is : goal.returns-clause-is
returns-clause-is c = (λ i. c.values_of.ensures.is i ∷ c.values_of-in-len8.ensures.is i ∷ c.values_of-in-len8-2.ensures.is i ∷ c.values_of-in-len8-3.ensures.is i ∷ c.values_of-in-len8-4.ensures.is i ∷ c.values_of-in-len8-5.ensures.is i ∷ c.values_of-in-len8-6.ensures.is i ∷ c.values_of-in-len8-7.ensures.is i ∷ []) ∙ ap (map fact_parameters) (sym (eight_are c.args.facts.now _ c.requires.eight))

pub returns-clause-fits : goal.returns-clause-fits
returns-clause-fits c = subst (AllByRecursion FitsFact) (sym (eight_are c.args.facts.now _ c.requires.eight)) (c.values_of.ensures.fits, (c.values_of-in-len8.ensures.fits, (c.values_of-in-len8-2.ensures.fits, (c.values_of-in-len8-3.ensures.fits, (c.values_of-in-len8-4.ensures.fits, (c.values_of-in-len8-5.ensures.fits, (c.values_of-in-len8-6.ensures.fits, (c.values_of-in-len8-7.ensures.fits, tt))))))))
