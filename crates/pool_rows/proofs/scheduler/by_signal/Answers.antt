use Rattle.pool_rows.proofs.scheduler.by_signal.Goals as goal

pub take_three-taken-requires : goal.take_three-taken-requires
take_three-taken-requires g c = c.move_priority.ensures.kept c.put-3.new.pool c.put-3.ensures.kept
