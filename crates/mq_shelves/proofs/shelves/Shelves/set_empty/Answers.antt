use Rattle.std.proofs.Common.{[]}
use Rattle.mq_spec_log.specs.Shelves.{set_shelf}
use Rattle.mq_shelves.specs.Holds.{noted_for, AreNoted}
use Rattle.mq_shelves.proofs.NotedLaws.{by_result, noted_empty}
use Rattle.mq_shelves.proofs.shelves.Shelves.set_empty.Goals as goal

pub invariant_of-self : goal.invariant_of-self
invariant_of-self c =
    by_result (AreNoted (noted_for c.self.inside.holds)) c.set_empty.result c.set_empty.new.self (set_shelf (record { name = c.args.name.now; rows = [] }) c.self.inside.rows) c.self.inside.rows c.set_empty.ensures.ok c.set_empty.ensures.err
    (noted_empty (noted_for c.self.inside.holds) c.self.inside.rows c.self.invariant c.args.name.now) c.self.invariant
