use Rattle.std.proofs.Common.{subst, ap, ◌∙◌}
use Rattle.std.specs.Prelude.{Err}
use Rattle.mq_turn_parts.specs.from_agents.Ends.{by_place}
use Rattle.mq_calls.specs.declared.agents.PlaceFault.{PlaceFault}
use Rattle.mq_calls.specs.declared.agents.PlaceFault.TheVariants as faults
use Rattle.mq_core.specs.Values.{manager_of}
use Rattle.mq_disk.specs.declared.cutter.Stop.TheVariants as stops
use Rattle.mq_calls.specs.Meeting.{MeetsAs}
use Rattle.mq_calls.specs.Meeting.Wants.{Anywhere}
use Rattle.mq_spec_manager.specs.Agents.{receive}
use Rattle.mq_turn_parts.proofs.PartLaws.{want_made}
use Rattle.mq_takes.proofs.PlaceLaws.{receive_short, received_ran, received_refused, received_stopped}
use Rattle.mq_takes.proofs.receiving.received.Goals as goal

pub returns-in-Ok : goal.returns-in-Ok
returns-in-Ok g c = received_ran (receive c.args.channel.now c.args.unit.now c.args.last c.args.batch.now c.args.manager.now.plain) c.ran.result c.args.manager.now c.receive.new.self c.ran.new.manager c.in-Ok.ensures.meets c.ran.ensures.choice c.ran.ensures.delta c.ran.ensures.left

pub returns-in-Err-Refused : goal.returns-in-Err-Refused
returns-in-Err-Refused g c =
    let M : PlaceFault → Type 0 = λ x. MeetsAs Anywhere (manager_of c.args.manager.now) (receive c.args.channel.now c.args.unit.now c.args.last c.args.batch.now c.args.manager.now.plain) (by_place (Err x)) (manager_of c.receive.new.self) in
    received_refused (receive c.args.channel.now c.args.unit.now c.args.last c.args.batch.now c.args.manager.now.plain) c.in-Err-Refused.reason c.args.manager.now c.receive.new.self (subst M c.in-Err-Refused.field-0-is c.in-Err-Refused.ensures.meets)

pub returns-in-Err-Stop-NoMemory : goal.returns-in-Err-Stop-NoMemory
returns-in-Err-Stop-NoMemory g c =
    let M : PlaceFault → Type 0 = λ x. MeetsAs Anywhere (manager_of c.args.manager.now) (receive c.args.channel.now c.args.unit.now c.args.last c.args.batch.now c.args.manager.now.plain) (by_place (Err x)) (manager_of c.receive.new.self) in
    want_made (receive c.args.channel.now c.args.unit.now c.args.last c.args.batch.now c.args.manager.now.plain) c.args.manager.now c.receive.new.self (subst M (c.in-Err-Stop-NoMemory.field-0-is ∙ ap faults.Stop c.in-Err-Stop-NoMemory.field-0-0-is) c.in-Err-Stop-NoMemory.ensures.meets)

pub returns-in-Err-Stop-Disk : goal.returns-in-Err-Stop-Disk
returns-in-Err-Stop-Disk g c =
    let M : PlaceFault → Type 0 = λ x. MeetsAs Anywhere (manager_of c.args.manager.now) (receive c.args.channel.now c.args.unit.now c.args.last c.args.batch.now c.args.manager.now.plain) (by_place (Err x)) (manager_of c.receive.new.self) in
    received_stopped (receive c.args.channel.now c.args.unit.now c.args.last c.args.batch.now c.args.manager.now.plain) stops.Disk c.stopped.result c.args.manager.now c.receive.new.self c.stopped.new.manager (receive_short c.args.channel.now c.args.unit.now c.args.last c.args.batch.now c.args.manager.now.plain) (subst M (c.in-Err-Stop-Disk.field-0-is ∙ ap faults.Stop c.in-Err-Stop-Disk.field-0-0-is) c.in-Err-Stop-Disk.ensures.meets) c.stopped.ensures.choice c.stopped.ensures.delta c.stopped.ensures.left

pub returns-in-Err-Stop-Cut : goal.returns-in-Err-Stop-Cut
returns-in-Err-Stop-Cut g c =
    let M : PlaceFault → Type 0 = λ x. MeetsAs Anywhere (manager_of c.args.manager.now) (receive c.args.channel.now c.args.unit.now c.args.last c.args.batch.now c.args.manager.now.plain) (by_place (Err x)) (manager_of c.receive.new.self) in
    received_stopped (receive c.args.channel.now c.args.unit.now c.args.last c.args.batch.now c.args.manager.now.plain) stops.Cut c.stopped-in-Err-Stop-Cut.result c.args.manager.now c.receive.new.self c.stopped-in-Err-Stop-Cut.new.manager (receive_short c.args.channel.now c.args.unit.now c.args.last c.args.batch.now c.args.manager.now.plain) (subst M (c.in-Err-Stop-Cut.field-0-is ∙ ap faults.Stop c.in-Err-Stop-Cut.field-0-0-is) c.in-Err-Stop-Cut.ensures.meets) c.stopped-in-Err-Stop-Cut.ensures.choice c.stopped-in-Err-Stop-Cut.ensures.delta c.stopped-in-Err-Stop-Cut.ensures.left
