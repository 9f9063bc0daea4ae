-- Counters of a manager whose facts hold.
use Rattle.mq_calls.specs.Words.{Plain}
use Rattle.mq_receive.specs.from_core.Counting.{CanCount}
use Rattle.mq_manager.specs.Facts.{IsWell, MayCount}

pub can_count : (p : Plain) → IsWell p → MayCount p → CanCount p
can_count p well may = may well.rest.named
