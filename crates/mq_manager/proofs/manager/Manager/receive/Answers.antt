use Rattle.std.proofs.Common.{sym, subst}
use Rattle.mq_spec_manager.specs.Agents.{IsUp, CanReceive}
use Rattle.mq_receive.specs.from_core.Values.{CoreValue}
use Rattle.mq_receive.specs.from_agents.Ends.{by_place}
use Rattle.mq_manager.specs.Facts.{MayCount}
use Rattle.mq_manager.proofs.CallLaws.{kept_received}
use Rattle.mq_manager.proofs.CountLaws.{can_count}
use Rattle.mq_manager.proofs.manager.Manager.receive.Goals as goal

pub receive_named-requires-clause-up : goal.receive_named-requires-clause-up
receive_named-requires-clause-up g c = subst (λ (v : CoreValue). IsUp v.plain) (sym c.self.view_is) c.requires.up

pub receive_named-requires-clause-low : goal.receive_named-requires-clause-low
receive_named-requires-clause-low g c = can_count c.self.inside.core.plain c.self.invariant.well (subst (λ (v : CoreValue). MayCount v.plain) (sym c.self.view_is) c.requires.low)

pub receive_named-requires-clause-sound : goal.receive_named-requires-clause-sound
receive_named-requires-clause-sound g c = (c.self.invariant.well.up (subst (λ (v : CoreValue). IsUp v.plain) (sym c.self.view_is) c.requires.up)).facts

pub receive_named-requires-clause-named : goal.receive_named-requires-clause-named
receive_named-requires-clause-named g c = (c.self.invariant.well.up (subst (λ (v : CoreValue). IsUp v.plain) (sym c.self.view_is) c.requires.up)).named

pub invariant_of-self : goal.invariant_of-self
invariant_of-self g c = kept_received g.D.Disk.tells c.self.inside.read c.self.inside.core c.receive_named.new.core c.self.invariant (subst (λ (v : CoreValue). IsUp v.plain) (sym c.self.view_is) c.requires.up) c.args.channel.now c.args.unit.now c.args.last c.args.batch.now (by_place c.receive_named.result) (subst (λ (v : CoreValue). CanReceive c.args.channel.now c.args.unit.now v.plain) (sym c.self.view_is) c.requires.can) c.receive_named.ensures.unfit c.receive_named.ensures.meets c.receive_named.ensures.told
