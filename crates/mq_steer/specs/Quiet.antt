-- Calls that write nothing: what is seen of a manager after them. Its log tells what it told.
use Rattle.std.specs.Prelude.{◌≡◌, [], None}
use Rattle.mq_calls.specs.Words.{Plain, After}
use Rattle.mq_calls.specs.Steps.Outcome.{Answered}
use Rattle.mq_core.specs.Values.{CoreValue}

-- a call that changes the plain manager so, and of which nothing is told
abbrev pub quietly : (Plain → Plain) → CoreValue → CoreValue
quietly change v = record v { plain = change v.plain; delta = []; stopped = None }

-- a call that ends so, with this answer
pub record Comes {F T : Type 0} (after : After F T) (reply : T) (old new : CoreValue) : Type 0 where
  pub answered : after.outcome ≡ Answered reply
  pub becomes : new ≡ record old { plain = after.next; delta = after.delta; stopped = None }
