use Rattle.std.proofs.Common.{subst}
use Rattle.std.specs.Prelude.{Err}
use Rattle.mq_calls.specs.declared.agents.AgentStop.{AgentStop}
use Rattle.mq_disk.specs.declared.cutter.Stop.TheVariants as stops
use Rattle.mq_events.specs.from_agents.Ends.{by_agent}
use Rattle.mq_core.specs.Values.{manager_of}
use Rattle.mq_calls.specs.Meeting.{MeetsAs}
use Rattle.mq_calls.specs.Meeting.Wants.{Anywhere}
use Rattle.mq_spec_manager.specs.Agents.{harden}
use Rattle.mq_turn_parts.proofs.AgentLaws.{agent_ran, agent_stopped}
use Rattle.mq_turn_parts.proofs.PartLaws.{want_made}
use Rattle.mq_turn_parts.proofs.parting.hardened.Goals as goal

pub returns-in-Ok : goal.returns-in-Ok
returns-in-Ok g c = agent_ran (harden c.args.channel.now c.args.note.now c.args.manager.now.plain) tt c.ran.result c.args.manager.now c.harden.new.self c.ran.new.manager c.in-Ok.ensures.meets c.ran.ensures.choice c.ran.ensures.delta c.ran.ensures.left

pub returns-in-Err-NoMemory : goal.returns-in-Err-NoMemory
returns-in-Err-NoMemory g c =
    let M : AgentStop → Type 0 = λ x. MeetsAs Anywhere (manager_of c.args.manager.now) (harden c.args.channel.now c.args.note.now c.args.manager.now.plain) (by_agent (Err x)) (manager_of c.harden.new.self) in
    want_made (harden c.args.channel.now c.args.note.now c.args.manager.now.plain) c.args.manager.now c.harden.new.self (subst M c.in-Err-NoMemory.field-0-is c.in-Err-NoMemory.ensures.meets)

pub returns-in-Err-Disk : goal.returns-in-Err-Disk
returns-in-Err-Disk g c =
    let M : AgentStop → Type 0 = λ x. MeetsAs Anywhere (manager_of c.args.manager.now) (harden c.args.channel.now c.args.note.now c.args.manager.now.plain) (by_agent (Err x)) (manager_of c.harden.new.self) in
    agent_stopped (harden c.args.channel.now c.args.note.now c.args.manager.now.plain) stops.Disk c.stopped.result c.args.manager.now c.harden.new.self c.stopped.new.manager tt (subst M c.in-Err-Disk.field-0-is c.in-Err-Disk.ensures.meets) c.stopped.ensures.choice c.stopped.ensures.delta c.stopped.ensures.left

pub returns-in-Err-Cut : goal.returns-in-Err-Cut
returns-in-Err-Cut g c =
    let M : AgentStop → Type 0 = λ x. MeetsAs Anywhere (manager_of c.args.manager.now) (harden c.args.channel.now c.args.note.now c.args.manager.now.plain) (by_agent (Err x)) (manager_of c.harden.new.self) in
    agent_stopped (harden c.args.channel.now c.args.note.now c.args.manager.now.plain) stops.Cut c.stopped-in-Err-Cut.result c.args.manager.now c.harden.new.self c.stopped-in-Err-Cut.new.manager tt (subst M c.in-Err-Cut.field-0-is c.in-Err-Cut.ensures.meets) c.stopped-in-Err-Cut.ensures.choice c.stopped-in-Err-Cut.ensures.delta c.stopped-in-Err-Cut.ensures.left
