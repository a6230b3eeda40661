use Rattle.std.proofs.Common.{◌∷◌, [], map, ap, subst, ◌∙◌}
use Rattle.std.specs.List.{AllByRecursion}
use Rattle.testing_rules_model.specs.declared.suite.RowIn.{RowIn}
use Rattle.office_store_testing_tables.specs.steps.EntrySteps.{row_parameters, FitsRow}
use Rattle.office_store_testing_tables.proofs.Eights.{eight_items}
use Rattle.office_store_testing_tables.proofs.testing.eight_row_values.Goals as goal

pub returns-clause-is : goal.returns-clause-is
returns-clause-is c =
    (λ i. c.values_of_row.ensures.is i ∷ c.values_of_row-in-len8.ensures.is i ∷ c.values_of_row-in-len8-2.ensures.is i ∷ c.values_of_row-in-len8-3.ensures.is i ∷ c.values_of_row-in-len8-4.ensures.is i ∷ c.values_of_row-in-len8-5.ensures.is i ∷ c.values_of_row-in-len8-6.ensures.is i ∷ c.values_of_row-in-len8-7.ensures.is i ∷ [])
    ∙ ap (map (λ (r : RowIn). row_parameters r.arch r.binary.name r.sender r.number r.place)) (eight_items c.first-item.result c.second-item.result c.third-item.result c.fourth-item.result c.fifth-item.result c.sixth-item.result c.seventh-item.result c.eighth-item.result c.args.rows.now c.requires.eight c.first-item.is c.second-item.is c.third-item.is c.fourth-item.is c.fifth-item.is c.sixth-item.is c.seventh-item.is c.eighth-item.is)

pub returns-clause-fits : goal.returns-clause-fits
returns-clause-fits c =
    subst (AllByRecursion (λ (r : RowIn). FitsRow r.arch r.sender r.number r.place)) (eight_items c.first-item.result c.second-item.result c.third-item.result c.fourth-item.result c.fifth-item.result c.sixth-item.result c.seventh-item.result c.eighth-item.result c.args.rows.now c.requires.eight c.first-item.is c.second-item.is c.third-item.is c.fourth-item.is c.fifth-item.is c.sixth-item.is c.seventh-item.is c.eighth-item.is)
    (c.values_of_row.ensures.fits, (c.values_of_row-in-len8.ensures.fits, (c.values_of_row-in-len8-2.ensures.fits, (c.values_of_row-in-len8-3.ensures.fits, (c.values_of_row-in-len8-4.ensures.fits, (c.values_of_row-in-len8-5.ensures.fits, (c.values_of_row-in-len8-6.ensures.fits, (c.values_of_row-in-len8-7.ensures.fits, tt))))))))
