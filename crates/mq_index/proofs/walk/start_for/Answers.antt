use Rattle.std.proofs.Common.{arith}
use Rattle.std.specs.Prelude.{None}
use Rattle.mq_index.proofs.WalkLaws.{walks_from}
use Rattle.mq_index.proofs.walk.start_for.Goals as goal

pub returns-in-None : goal.returns-in-None
returns-in-None c test fits = walks_from test c.args.after c.args.kind c.args.key.now c.args.slots.now fits None c.first.result (λ at row lt there. absurd (omega (arith, lt))) c.first.ensures

pub returns-else-key-place-2 : goal.returns-else-key-place-2
returns-else-key-place-2 c test fits = walks_from test c.args.after c.args.kind c.args.key.now c.args.slots.now fits None c.first-else-key-place-2.result (λ at row lt there. absurd (omega (arith, lt))) c.first-else-key-place-2.ensures
