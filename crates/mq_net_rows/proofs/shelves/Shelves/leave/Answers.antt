use Rattle.std.proofs.Common.{sym, ◌∙◌}
use Rattle.mq_net_rows.specs.Homes.{home_of}
use Rattle.mq_net_rows.proofs.QueueLaws.{left_all, all_kept, left_one, one_kept, left_as_is}
use Rattle.mq_net_rows.proofs.shelves.Shelves.leave.Goals as goal

pub invariant_of-self : goal.invariant_of-self
invariant_of-self c = all_kept c.self.inside.store c.self.inside.queues (home_of c.self.inside.homes) c.self.inside.doubled c.args.self.now c.self.invariant c.self.view_is c.args.ident.now c.clear_each.new.self c.clear_each.ensures

pub invariant_of-self-in-Some : goal.invariant_of-self-in-Some
invariant_of-self-in-Some c = one_kept c.self.inside.store c.self.inside.queues (home_of c.self.inside.homes) c.self.inside.doubled c.args.self.now c.self.invariant c.self.view_is c.args.ident.now c.in-Some.at c.clear_at.new.self (home_of c.drop_home.new.homes) c.if-self.false (sym c.home_of.ensures ∙ c.in-Some.is) c.clear_at.ensures c.drop_home.ensures

pub returns-then-self : goal.returns-then-self
returns-then-self c = left_all c.self.inside.store c.self.inside.queues (home_of c.self.inside.homes) c.self.inside.doubled c.args.self.now c.self.invariant c.self.view_is c.args.ident.now c.clear_each.new.self c.clear_each.ensures

pub returns-in-Some : goal.returns-in-Some
returns-in-Some c = left_one c.self.inside.store c.self.inside.queues (home_of c.self.inside.homes) c.self.inside.doubled c.args.self.now c.self.invariant c.self.view_is c.args.ident.now c.in-Some.at c.clear_at.new.self c.if-self.false (sym c.home_of.ensures ∙ c.in-Some.is) c.clear_at.ensures

pub returns-in_default : goal.returns-in_default
returns-in_default c = left_as_is c.self.inside.store c.self.inside.queues (home_of c.self.inside.homes) c.self.inside.doubled c.args.self.now c.self.invariant c.self.view_is c.args.ident.now c.if-self.false (sym c.home_of.ensures ∙ c.in_default.is)
