use Rattle.std.proofs.Common.{List, [], ◌∷◌, ◌++◌, sym, subst, ap, ◌∙◌}
use Rattle.mq_net_rows.specs.declared.lanes.Lane.{Lane}
use Rattle.mq_net_rows.specs.declared.lanes.Named.{Named}
use Rattle.mq_net_rows.specs.Homes.{home_of}
use Rattle.mq_net_rows.specs.Stored.{IsStore}
use Rattle.mq_net_rows.proofs.QueueLaws.{fresh_store}
use Rattle.mq_net_rows.proofs.shelves.Shelves.add_queue.Goals as goal

pub invariant_of-self-2 : goal.invariant_of-self-2
invariant_of-self-2 c = subst (λ (qs : List Named). IsStore c.self.inside.store qs (home_of c.self.inside.homes) c.self.inside.doubled)
    (sym (c.in_ok-push.ensures.ok ∙ ap (λ (ls : List Lane). let q : Named = record { name = c.args.name; lanes = ls } in c.self.inside.queues ++ q ∷ []) c.new.ensures))
    (fresh_store c.self.inside.store c.self.inside.queues (home_of c.self.inside.homes) c.self.inside.doubled c.args.name c.self.invariant)
