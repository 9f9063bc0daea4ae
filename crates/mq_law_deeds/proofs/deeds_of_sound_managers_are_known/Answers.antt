use Rattle.std.proofs.Common.{refl}
use Rattle.mq_spec_node.specs.Node.{Node}
use Rattle.mq_spec_node.specs.Replays.{after, opening_node}
use Rattle.mq_spec_network.specs.Given.{surroundings}
use Rattle.mq_law_node.specs.Ends.{sender_of}
use Rattle.mq_law_unshared.proofs.from_law_keys.Starting.{run_keyed}
use Rattle.mq_law_unshared.proofs.from_law_keys.Telling.{told_apart}
use Rattle.mq_law_deeds.proofs.Knowing.{known_all}
use Rattle.mq_law_deeds.proofs.deeds_of_sound_managers_are_known.Goals as goal

pub returns : goal.returns
returns d = record {
  deeds = known_all;
  runs = λ s m h es w stamp actor call seen c is sends up ours.
      let n : Node = after (opening_node (surroundings s m) h) es in known_all w stamp actor call seen n c (told_apart w n (sender_of w c.sender) (run_keyed s m h es is) sends.here refl) sends up ours;
}
