use Rattle.std.proofs.Common.{subst}
use Rattle.std.specs.Prelude.{Ok}
use Rattle.mq_spec_manager.specs.Agents.{receive}
use Rattle.mq_takes.specs.Placing.{ReceivedAs}
use Rattle.mq_takes.specs.declared.receiving.BatchTold.{BatchTold}
use Rattle.mq_takes.proofs.PlaceLaws.{up_was}
use Rattle.mq_takes.proofs.receiving.commit.Goals as goal

pub returns-in-Ok-Told : goal.returns-in-Ok-Told
returns-in-Ok-Told g c =
    let M : BatchTold → Type 0 = λ x. ReceivedAs (receive c.args.end.now.channel c.args.unit.now c.args.last c.args.end.now.kept c.args.manager.now.plain) (Ok x) c.args.manager.now c.received_by.new.manager in
    subst M c.in-Ok-Told.field-0-is c.in-Ok-Told.ensures

pub close_for-requires : goal.close_for-requires
close_for-requires g c =
    let M : BatchTold → Type 0 = λ x. ReceivedAs (receive c.args.end.now.channel c.args.unit.now c.args.last c.args.end.now.kept c.args.manager.now.plain) (Ok x) c.args.manager.now c.received_by.new.manager in
    record { up = up_was c.args.manager.now c.received_by.new.manager (subst M c.in-Ok-Refused.field-0-is c.in-Ok-Refused.ensures).1 c.requires.up }

pub returns-in-Ok-Refused : goal.returns-in-Ok-Refused
returns-in-Ok-Refused g c =
    let M : BatchTold → Type 0 = λ x. ReceivedAs (receive c.args.end.now.channel c.args.unit.now c.args.last c.args.end.now.kept c.args.manager.now.plain) (Ok x) c.args.manager.now c.received_by.new.manager in
    let m = subst M c.in-Ok-Refused.field-0-is c.in-Ok-Refused.ensures in
    c.close_for.ensures c.args.manager.now (receive c.args.end.now.channel c.args.unit.now c.args.last c.args.end.now.kept c.args.manager.now.plain) m.0 m.1
