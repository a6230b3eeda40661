use Rattle.office_http.proofs.LifeFacts.{life_finished}
use Rattle.office_http.proofs.service_laws.life_finishes.Goals as goal

pub returns : goal.returns
returns g c = λ old mid new events k left input told reply code p lives legible none carries trusted x asks settle well. life_finished g.K.Keeper events old mid new k left input told reply code p lives legible none carries trusted x asks settle well
