use Rattle.std.proofs.Common.{refl, subst}
use Rattle.std.specs.Prelude.{None, Some, Err}
use Rattle.mq_calls.specs.declared.agents.SeizeFault.{SeizeFault}
use Rattle.mq_calls.specs.declared.agents.SeizeFault.TheVariants as faults
use Rattle.mq_history.specs.declared.acts.OpRefusal.TheVariants as reasons
use Rattle.mq_turn_parts.specs.from_agents.Ends.{by_seize}
use Rattle.mq_core.specs.Values.{manager_of}
use Rattle.mq_calls.specs.Meeting.{MeetsAs}
use Rattle.mq_calls.specs.Meeting.Wants.{Anywhere}
use Rattle.mq_spec_manager.specs.Agents.{seize}
use Rattle.mq_turn_parts.proofs.PartLaws.{want_made}
use Rattle.mq_operate.proofs.StartLaws.{sought_ran, sought_refused}
use Rattle.mq_operate.proofs.senders.sought.Goals as goal

pub returns-in-Ok : goal.returns-in-Ok
returns-in-Ok g c =
    sought_ran (seize c.args.channel.now c.args.manager.now.plain) (record { told = c.ran.result; refusal = None }) c.args.manager.now c.seize.new.self c.ran.new.manager c.in-Ok.ensures.meets refl c.ran.ensures.choice c.ran.ensures.delta c.ran.ensures.left

pub returns-in-Err-NoMemory : goal.returns-in-Err-NoMemory
returns-in-Err-NoMemory g c =
    let M : SeizeFault → Type 0 = λ x. MeetsAs Anywhere (manager_of c.args.manager.now) (seize c.args.channel.now c.args.manager.now.plain) (by_seize (Err x)) (manager_of c.seize.new.self) in
    want_made (seize c.args.channel.now c.args.manager.now.plain) c.args.manager.now c.seize.new.self (subst M c.in-Err-NoMemory.field-0-is c.in-Err-NoMemory.ensures.meets)

pub returns-in-Err-BadQueue : goal.returns-in-Err-BadQueue
returns-in-Err-BadQueue g c =
    let M : SeizeFault → Type 0 = λ x. MeetsAs Anywhere (manager_of c.args.manager.now) (seize c.args.channel.now c.args.manager.now.plain) (by_seize (Err x)) (manager_of c.seize.new.self) in
    sought_refused (seize c.args.channel.now c.args.manager.now.plain) faults.BadQueue (record { told = c.ran-in-Err-BadQueue.result; refusal = Some reasons.BadQueue }) c.args.manager.now c.seize.new.self c.ran-in-Err-BadQueue.new.manager
    (subst M c.in-Err-BadQueue.field-0-is c.in-Err-BadQueue.ensures.meets) refl c.ran-in-Err-BadQueue.ensures.choice c.ran-in-Err-BadQueue.ensures.delta c.ran-in-Err-BadQueue.ensures.left

pub returns-in-Err-QueueInUse : goal.returns-in-Err-QueueInUse
returns-in-Err-QueueInUse g c =
    let M : SeizeFault → Type 0 = λ x. MeetsAs Anywhere (manager_of c.args.manager.now) (seize c.args.channel.now c.args.manager.now.plain) (by_seize (Err x)) (manager_of c.seize.new.self) in
    sought_refused (seize c.args.channel.now c.args.manager.now.plain) faults.QueueInUse (record { told = c.ran-in-Err-QueueInUse.result; refusal = Some reasons.QueueInUse }) c.args.manager.now c.seize.new.self c.ran-in-Err-QueueInUse.new.manager
    (subst M c.in-Err-QueueInUse.field-0-is c.in-Err-QueueInUse.ensures.meets) refl c.ran-in-Err-QueueInUse.ensures.choice c.ran-in-Err-QueueInUse.ensures.delta c.ran-in-Err-QueueInUse.ensures.left
