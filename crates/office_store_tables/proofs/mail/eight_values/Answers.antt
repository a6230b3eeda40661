use Rattle.std.proofs.Common.{◌∷◌, [], map, ap, ◌∙◌}
use Rattle.office_store_testing_tables.specs.steps.TableSteps.{letter_parameters}
use Rattle.office_store_testing_tables.proofs.Eights.{eight_items}
use Rattle.office_store_tables.proofs.mail.eight_values.Goals as goal

pub returns : goal.returns
returns c =
    (λ i. c.values_of.ensures i ∷ c.values_of-in-len8.ensures i ∷ c.values_of-in-len8-2.ensures i ∷ c.values_of-in-len8-3.ensures i ∷ c.values_of-in-len8-4.ensures i ∷ c.values_of-in-len8-5.ensures i ∷ c.values_of-in-len8-6.ensures i ∷ c.values_of-in-len8-7.ensures i ∷ [])
    ∙ ap (map letter_parameters) (eight_items c.first-item.result c.second-item.result c.third-item.result c.fourth-item.result c.fifth-item.result c.sixth-item.result c.seventh-item.result c.eighth-item.result c.args.letters.now c.requires c.first-item.is c.second-item.is c.third-item.is c.fourth-item.is c.fifth-item.is c.sixth-item.is c.seventh-item.is c.eighth-item.is)
