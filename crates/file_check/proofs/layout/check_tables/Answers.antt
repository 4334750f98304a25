use Rattle.file_check.proofs.Stores.{store_found, store_refuted}
use Rattle.file_check.proofs.layout.check_tables.Goals as goal

pub returns-clause-sound : goal.returns-clause-sound
returns-clause-sound g c = λ clean has kept. store_found g.S.Store c.args.conn.now c.check_locals.new.conn c.schema.ensures.live clean has kept c.check_locals.result c.check_locals.ensures

pub returns-clause-unsound : goal.returns-clause-unsound
returns-clause-unsound g c = λ clean. store_refuted g.S.Store c.args.conn.now c.check_locals.new.conn c.schema.ensures.live clean c.check_locals.result c.check_locals.ensures
