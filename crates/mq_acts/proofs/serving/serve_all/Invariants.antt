use Rattle.std.proofs.Common.{◌-◌, ◌^◌, length}
use Rattle.mq_acts.specs.Serving.{Serves}
use Rattle.mq_acts.proofs.serving.serve_all.Given as goal

abbrev pub decreases-serving : goal.decreases-serving
decreases-serving g l = 2 ^ 48 - length l.node.history.entries

abbrev pub invariant-serving : goal.invariant-serving
invariant-serving g l = record {
  turns : Serves l.fn.node l.node;
}
