use Rattle.std.proofs.Common.{◌≡◌, ◌++◌, ℕ, List, true, length}
use Rattle.mq_scn_heading.specs.Distinct.{are_distinct}
use Rattle.mq_scn_heading.proofs.DistinctLaws.{Holds}
use Rattle.mq_scn_heading.proofs.distinct.are_distinct.Given as goal

abbrev pub invariant-comparing : goal.invariant-comparing
invariant-comparing l = (behind : List ℕ) × (l.fn.numbers ≡ l.rest ++ behind) × (are_distinct behind ≡ true) × Holds l.behind behind

abbrev pub decreases-comparing : goal.decreases-comparing
decreases-comparing l = length l.rest
