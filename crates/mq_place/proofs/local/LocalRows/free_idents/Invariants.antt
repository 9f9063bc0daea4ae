use Rattle.std.proofs.Common.{◌≡◌, ◌-◌, ◌++◌}
use Rattle.mq_place.specs.States.{free_idents}
use Rattle.mq_place.proofs.AfterLaws.{idents_left}
use Rattle.mq_place.proofs.local.LocalRows.free_idents.Given as goal

abbrev pub invariant-loop-seen : goal.invariant-loop-seen
invariant-loop-seen g l = l.idents ++ idents_left (l.most - l.seen) l.after l.self.queue.rows ≡ l.fn.idents ++ free_idents l.most l.self.queue.rows
