use Rattle.std.proofs.Common.{refl}
use Rattle.mq_spec_node.specs.Node.{Node}
use Rattle.mq_spec_node.specs.Replays.{after, opening_node}
use Rattle.mq_spec_network.specs.Given.{surroundings}
use Rattle.mq_law_node.specs.Ends.{receiver_of, sender_of}
use Rattle.mq_law_node.proofs.NearDoes.{near_does_all}
use Rattle.mq_law_keys.proofs.Starting.{run_keyed}
use Rattle.mq_law_keys.proofs.Taking.{far_does_all}
use Rattle.mq_law_keys.proofs.Telling.{far_told_apart, told_apart}
use Rattle.mq_law_keys.proofs.deeds_of_runs_are_known.Goals as goal

pub returns : goal.returns
returns d = record {
  near = λ s m h es w stamp actor call seen c is sends up ours.
      let n : Node = after (opening_node (surroundings s m) h) es in near_does_all w stamp actor call seen n c (told_apart w n (sender_of w c.sender) (run_keyed s m h es is) sends.here refl) sends up ours;
  far = λ s m h es w stamp actor call seen c p is takes up ours.
      let n : Node = after (opening_node (surroundings s m) h) es in far_does_all w stamp actor call seen n c p (far_told_apart w n (receiver_of w c.receiver c.kept) (run_keyed s m h es is) takes.here refl) takes up ours;
}
