use Rattle.std.proofs.Common.{◌≡◌, ℕ, ◌+◌, ◌<◌, ◌≤◌, ◌==◌, false, get_or}
use Rattle.std.specs.Prelude.{◌&&◌, ◌||◌}
use Rattle.mq_rules.proofs.pattern.pass_one.Given as goal

abbrev pub invariant-loop-at : goal.invariant-loop-at
invariant-loop-at l = record {
  done : (i : ℕ) → i < l.at → get_or l.places i false ≡ ((l.byte == 63 || l.byte == get_or l.text i 0) && get_or l.fn.places (i + 1) false);
  kept : (i : ℕ) → l.at ≤ i → get_or l.places i false ≡ get_or l.fn.places i false;
}
