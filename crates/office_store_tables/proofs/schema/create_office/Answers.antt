use Rattle.office_store_tables.proofs.CreateLemmas.{creates, office_is}
use Rattle.office_store_tables.proofs.schema.create_office.Goals as goal

pub returns : goal.returns
returns g c =
    let ran = c.execute.ensures in
    creates office_is c.args.tx.now.conn c.execute.new.self.conn c.execute.result ran.same_reference ran.ended ran.survives ran.runs c.requires.building
