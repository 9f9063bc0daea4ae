use Rattle.std.proofs.Common.{◌≡◌, ℕ, ◌+◌, ◌<◌, ◌≤◌, false, get_or}
use Rattle.std.specs.Prelude.{◌||◌}
use Rattle.mq_rules.proofs.pattern.spread.Given as goal

abbrev pub invariant-spreading : goal.invariant-spreading
invariant-spreading l = record {
  within : l.at ≤ l.len;
  last : get_or l.places l.len false ≡ get_or l.fn.places l.len false;
  done : (i : ℕ) → l.at ≤ i → i < l.len → get_or l.places i false ≡ (get_or l.fn.places i false || get_or l.places (i + 1) false);
  kept : (i : ℕ) → i < l.at → get_or l.places i false ≡ get_or l.fn.places i false;
}

abbrev pub decreases-spreading : goal.decreases-spreading
decreases-spreading l = l.at
