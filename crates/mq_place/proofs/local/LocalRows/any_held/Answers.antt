use Rattle.mq_place.proofs.HeldLaws.{found_any, first_any, none_any}
use Rattle.mq_place.proofs.local.LocalRows.any_held.Goals as goal

pub returns-in-Some-clause-some : goal.returns-in-Some-clause-some
returns-in-Some-clause-some g c = found_any c.args.by.now c.args.after c.args.self.now.queue.rows c.in-Some.row.now c.in-Some.ensures

pub returns-in-None-clause-some : goal.returns-in-None-clause-some
returns-in-None-clause-some g c = first_any c.args.by.now c.args.self.now.queue.rows _ c.held_after-in-None.ensures

pub returns-in-None-clause-none : goal.returns-in-None-clause-none
returns-in-None-clause-none g c = none_any c.args.by.now c.args.self.now.queue.rows _ c.held_after-in-None.ensures
