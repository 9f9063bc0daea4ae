-- An end whose messages are taken out of its place.
use Rattle.std.specs.Prelude.{ℕ, ◌==◌, List, [], ◌∷◌, if◌then◌else◌}
use Rattle.mq_own.specs.from_spec_node.Node.{ChannelEnd, Own, cable_of}
use Rattle.mq_own.specs.from_spec_node.Node.ChannelEnd.{Sends, Receives}

-- what is left in its place
abbrev pub lifted : ChannelEnd → ChannelEnd
lifted (Sends e) = Sends e
lifted (Receives e) = Receives (record e { kept = [] })

abbrev pub lifted_ends : ℕ → List ChannelEnd → List ChannelEnd
lifted_ends cable [] = []
lifted_ends cable (e ∷ es) = if cable_of e == cable then lifted e ∷ es else e ∷ lifted_ends cable es

abbrev pub with_lifted : ℕ → Own → Own
with_lifted cable own = record own { ends = lifted_ends cable own.ends }
