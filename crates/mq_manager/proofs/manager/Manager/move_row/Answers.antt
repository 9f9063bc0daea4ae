use Rattle.std.proofs.Common.{sym, subst}
use Rattle.mq_spec_manager.specs.Agents.{IsUp, CanMove}
use Rattle.mq_receive.specs.from_core.Values.{CoreValue}
use Rattle.mq_receive.specs.from_agents.Ends.{by_place}
use Rattle.mq_manager.proofs.CallLaws.{kept_move}
use Rattle.mq_manager.proofs.manager.Manager.move_row.Goals as goal

pub invariant_of-self : goal.invariant_of-self
invariant_of-self g c = kept_move g.D.Disk.tells c.self.inside.read c.self.inside.core c.move_row.new.core c.self.invariant (subst (λ (v : CoreValue). IsUp v.plain) (sym c.self.view_is) c.requires.up) c.args.from.now c.args.ident.now c.args.to.now c.args.bare (by_place c.move_row.result) (subst (λ (v : CoreValue). CanMove c.args.from.now c.args.ident.now c.args.bare v.plain) (sym c.self.view_is) c.requires.can) c.move_row.ensures.meets c.move_row.ensures.told
