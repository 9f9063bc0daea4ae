-- What a node has as its own, as its manager begins.
use Rattle.std.specs.Prelude.{ℕ, suc, List, [], ◌∷◌, ◌++◌, map}
use Rattle.mq_history.specs.declared.scenario.CableLine.{CableLine}
use Rattle.mq_history.specs.declared.scenario.Scenario.{Scenario}
use Rattle.mq_calls.specs.State.{Plain}
use Rattle.mq_spec_node.specs.Words.{ChannelEnd, end_begun}
use Rattle.mq_spec_network.specs.Given.{end_at}

-- The ends of a manager's channels, cable by cable: senders were never started, receivers have what is hardened.
abbrev pub begun_from : Plain → Scenario → ℕ → ℕ → List CableLine → List ChannelEnd
begun_from p s m cable [] = []
begun_from p s m cable (c ∷ cs) = map (end_begun p) (end_at s m cable c) ++ begun_from p s m (suc cable) cs
