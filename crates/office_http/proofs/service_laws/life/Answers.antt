use Rattle.office_http.proofs.LifeFacts.{life_excuses, life_led, life_rules, life_told, life_updates}
use Rattle.office_http.proofs.service_laws.life.Goals as goal

pub returns-clause-steps : goal.returns-clause-steps
returns-clause-steps g c = λ old new events lives was trusted. life_led g.K.Keeper events old new lives was trusted

pub returns-clause-rules : goal.returns-clause-rules
returns-clause-rules g c = λ old new events lives legible none trusted. life_rules g.K.Keeper events old new lives legible none trusted

pub returns-clause-told : goal.returns-clause-told
returns-clause-told g c = λ old new events k lives was trusted low. life_told g.K.Keeper events old new k lives was trusted low

pub returns-clause-excuses : goal.returns-clause-excuses
returns-clause-excuses g c = λ old new events k x y rest more lives was trusted low. life_excuses g.K.Keeper events old new k x y rest more lives was trusted low

pub returns-clause-updates : goal.returns-clause-updates
returns-clause-updates g c = λ old new events k x y rest more lives was trusted low. life_updates g.K.Keeper events old new k x y rest more lives was trusted low
