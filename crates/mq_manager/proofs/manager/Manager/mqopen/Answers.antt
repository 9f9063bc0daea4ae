use Rattle.std.proofs.Common.{◌^◌, sym, subst, arith}
use Rattle.mq_receive.specs.from_core.Values.{CoreValue}
use Rattle.mq_manager.proofs.CallLaws.{kept_open}
use Rattle.mq_manager.proofs.CountLaws.{can_count}
use Rattle.mq_manager.proofs.WellLaws.{handle_low}
use Rattle.mq_manager.specs.Facts.{MayCount}
use Rattle.mq_manager.proofs.manager.Manager.mqopen.Goals as goal

pub invariant_of-self : goal.invariant_of-self
invariant_of-self g c = kept_open g.D.Disk.tells c.self.inside.read c.self.inside.core c.mqopen.new.core c.self.invariant c.args.hc c.args.name.now c.args.qmgr.now c.args.how.now c.mqopen.result c.mqopen.ensures.meets c.mqopen.ensures.told

pub mqopen-requires : goal.mqopen-requires
mqopen-requires g c =
    let low = can_count c.self.inside.core.plain c.self.invariant.well (subst (λ (v : CoreValue). MayCount v.plain) (sym c.self.view_is) c.requires.low) in
    record { count = handle_low (2 ^ 63) c.args.hc.number c.self.inside.core.plain.connections low.handles (omega arith) }
