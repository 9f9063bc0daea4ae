use Rattle.std.proofs.Common.{sym, subst}
use Rattle.std.specs.Prelude.{not}
use Rattle.std.specs.Str.{bytes_eq}
use Rattle.mq_calls.specs.declared.image.Shelf.{Shelf}
use Rattle.mq_shelves.specs.Holds.{noted_for, AreNoted}
use Rattle.mq_shelves.proofs.NotedLaws.{noted_filtered}
use Rattle.mq_shelves.proofs.shelves.Shelves.drop_queue.Goals as goal

pub invariant_of-self : goal.invariant_of-self
invariant_of-self c = subst (AreNoted (noted_for c.self.inside.holds)) (sym c.drop_queue.ensures) (noted_filtered (noted_for c.self.inside.holds) c.self.inside.rows c.self.invariant (λ (s : Shelf). not (bytes_eq c.args.name.now s.name)))
