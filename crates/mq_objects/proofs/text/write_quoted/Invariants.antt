use Rattle.std.proofs.Common.{◌≡◌, ◌++◌, ◌∷◌, [], drop}
use Rattle.mq_objects.specs.Attributes.{doubled}
use Rattle.mq_objects.proofs.text.write_quoted.Given as goal

abbrev pub invariant-loop-b : goal.invariant-loop-b
invariant-loop-b l = l.text ++ doubled (drop l.b-index l.value) ≡ l.fn.text ++ 39 ∷ [] ++ doubled l.value
