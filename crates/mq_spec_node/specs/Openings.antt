-- A node at its first start, and after a restart that read a log which its history doesn't allow.
use Rattle.std.specs.Prelude.{ℕ, ◌+◌}
use Rattle.mq_spec_node.specs.Terms.{Image, Plain, Given, calls_of_write, begun, raised, first_start, started_need, calls_of_empty_start}
use Rattle.mq_spec_node.specs.Node.{Node, Own}
use Rattle.mq_spec_node.specs.Deeds.{begun_anew}

-- the most device calls that a restart makes: on a log that was emptied
abbrev pub most_restart_calls : ℕ
most_restart_calls = calls_of_empty_start + calls_of_write

-- a restart from what it read, with so many calls left before an armed cut
abbrev pub resumed : Image → (length left : ℕ) → Plain → Plain
resumed image length left p = begun p.given (raised 0 image) (record { length = length + started_need p.given; armed = left }) p.moment

-- the first start
abbrev pub first_node : Given → Own → Image → (length moment : ℕ) → Node
first_node given own image length moment = begun_anew (first_start given image length moment) own
