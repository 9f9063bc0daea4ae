use Rattle.std.proofs.Common.{Bool, sym, subst}
use Rattle.std.specs.Prelude.{Ok}
use Rattle.mq_calls.specs.Words.{MeetsInRoom}
use Rattle.mq_spec_manager.specs.Agents.{set_bound}
use Rattle.mq_core.specs.Values.{WritesLog, manager_of}
use Rattle.mq_agents.proofs.seizing.set_bound.Goals as goal

pub returns-then-bound-clause-meets : goal.returns-then-bound-clause-meets
returns-then-bound-clause-meets g c = subst (λ (b : Bool). MeetsInRoom (manager_of c.args.core.now) (set_bound c.args.channel.now b c.args.core.now.plain) (Ok tt) (manager_of c.bind.new.core)) (sym c.if-bound.true) c.bind.ensures.room

pub returns-then-bound-clause-told : goal.returns-then-bound-clause-told
returns-then-bound-clause-told g c = subst (λ (b : Bool). WritesLog c.args.core.now (set_bound c.args.channel.now b c.args.core.now.plain) (Ok tt) c.bind.new.core) (sym c.if-bound.true) c.bind.ensures.told

pub returns-clause-meets : goal.returns-clause-meets
returns-clause-meets g c = subst (λ (b : Bool). MeetsInRoom (manager_of c.args.core.now) (set_bound c.args.channel.now b c.args.core.now.plain) (Ok tt) (manager_of c.unbind.new.core)) (sym c.if-bound.false) c.unbind.ensures.room

pub returns-clause-told : goal.returns-clause-told
returns-clause-told g c = subst (λ (b : Bool). WritesLog c.args.core.now (set_bound c.args.channel.now b c.args.core.now.plain) (Ok tt) c.unbind.new.core) (sym c.if-bound.false) c.unbind.ensures.told
