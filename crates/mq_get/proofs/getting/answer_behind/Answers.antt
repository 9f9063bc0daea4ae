use Rattle.mq_calls.specs.declared.deltas.Why.TheVariants as whys
use Rattle.mq_get.specs.Leaving.{gone_parts}
use Rattle.mq_get.proofs.PathLaws.{run_comes, halt_comes}
use Rattle.mq_get.proofs.getting.answer_behind.Goals as goal

pub returns-in-Ok : goal.returns-in-Ok
returns-in-Ok g c = run_comes (gone_parts whys.Expired c.args.queue.now c.args.mets.now) c.args.answer c.args.parts.now c.drop_expired.new.parts c.drop_expired.new.effects c.in-Ok.ensures.tied c.in-Ok.ensures.run

pub returns-in-Err : goal.returns-in-Err
returns-in-Err g c = halt_comes (gone_parts whys.Expired c.args.queue.now c.args.mets.now) c.args.answer c.args.parts.now c.drop_expired.new.parts c.drop_expired.new.effects c.in-Err.halt c.requires.tied c.in-Err.ensures
