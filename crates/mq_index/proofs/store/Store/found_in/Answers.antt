use Rattle.std.proofs.Common.{sym}
use Rattle.mq_index.specs.Walks.{is_taken}
use Rattle.mq_index.proofs.WalkLaws.{bare, walk_none}
use Rattle.mq_index.proofs.store.Store.found_in.Goals as goal

pub returns-then-is_bare : goal.returns-then-is_bare
returns-then-is_bare c =
    sym (walk_none (is_taken c.args.lane c.args.any c.args.want.now c.args.after) c.args.self.now.slots
    (bare c.args.lane c.args.any c.args.want.now c.args.after c.args.self.now.slots (c.is_bare.ensures c.if-is_bare.true)))
