use Rattle.std.specs.Prelude.{◌≡◌, drop}
use Rattle.mq_spec_node.specs.Scripts.{hobj_in}
use Rattle.mq_lines.proofs.memory.hobj_in.Given as goal

abbrev pub invariant-loop-bound : goal.invariant-loop-bound
invariant-loop-bound l = hobj_in l.label (drop l.bound-index l.handles) ≡ hobj_in l.fn.label l.fn.handles
