use Rattle.std.proofs.Common.{◌≡◌}
use Rattle.mq_soak.specs.Drawn.{drawn}
use Rattle.mq_soak.specs.Soak.{lines_to}
use Rattle.mq_soak.proofs.script.lines.Given as goal

abbrev pub invariant-loop-done : goal.invariant-loop-done
invariant-loop-done l = (l.out ≡ lines_to l.n l.done) × (l.x ≡ drawn l.n l.done)
