-- What a run leaves of its managers: their histories, each from the log on its own disk.
use Rattle.std.specs.Prelude.{◌≡◌, ℕ, suc, List, [], ◌∷◌, Some, Ok, length, slice_get}
use Rattle.std.specs.List.{AllByRecursion}
use Rattle.mq_frame.specs.Reading.{IsBytes}
use Rattle.mq_history.specs.declared.history.History.{History}
use Rattle.mq_history.specs.declared.scenario.CableLine.{CableLine}
use Rattle.mq_history.specs.declared.scenario.ManagerLine.{ManagerLine}
use Rattle.mq_history.specs.declared.scenario.Scenario.{Scenario}
use Rattle.mq_log.specs.Bodies.{IsLog}
use Rattle.mq_log.specs.State.{log_length}
use Rattle.mq_calls.specs.declared.image.Image.{Image}
use Rattle.mq_calls.specs.Recovery.{IsImage, AreKnown}
use Rattle.mq_spec_log.specs.Applies.Start.{First}
use Rattle.mq_spec_log.specs.Bodies.{image}
use Rattle.mq_spec_node.specs.Node.{Node}
use Rattle.mq_spec_node.specs.Openings.{first_node}
use Rattle.mq_spec_node.specs.Replays.{Surroundings, opening_node, state_of}
use Rattle.mq_spec_network.specs.Given.{first_moment, surroundings}
use Rattle.mq_spec_network.specs.Lawful.{IsCarried, IsHistory}
use Rattle.mq_standing.specs.from_net_stands.{Standing}
use Rattle.mq_standing.specs.Stands.{standing_of}

-- the scenario that was run, and the histories of its managers
pub record Left : Type 0 where
  pub scenario : Scenario
  pub histories : List History

-- the node to which each history replays, and how these stand
abbrev pub nodes_from : Scenario → ℕ → List History → List Node
nodes_from s m [] = []
nodes_from s m (h ∷ hs) = state_of (surroundings s m) h ∷ nodes_from s (suc m) hs

abbrev pub standing_left : Left → Standing
standing_left l = standing_of l.scenario (nodes_from l.scenario 0 l.histories)

-- A history begins with the first start of the image of the bodies that the log on its disk held, where that tells them, from this
-- moment on; and the image with which it opens is one of a log that knows its own idents.
pub record IsOpening (tells : Type 0) (holds : List ℕ → Type 0) (given : Surroundings) (moment : ℕ) (h : History) : Type 0 where
  pub seen : List ℕ
  pub is : (b : List ℕ) → holds b → seen ≡ b
  pub bodies : List (List ℕ)
  pub of_disk : tells → IsLog seen bodies
  pub told : Image
  pub read : image given.given First bodies ≡ Ok told
  pub begins : opening_node given h ≡ first_node given.given given.own told (log_length bodies) moment
  pub well : IsImage h.opening
  pub known : AreKnown given.given.number h.opening
  pub bytes : AllByRecursion IsBytes bodies

-- each on its own, where the shelf holds these bytes for a name
abbrev pub AreOpenings : Type 0 → (List ℕ → List ℕ → Type 0) → ℕ → Left → Type 0
AreOpenings tells held start l =
    (m : ℕ) (h : History) (line : ManagerLine) → slice_get l.histories m ≡ Some h → slice_get l.scenario.managers m ≡ Some line
    → IsOpening tells (held line.name) (surroundings l.scenario m) (first_moment l.scenario start) h

-- each history is its manager's, and replays
pub record AreHistories (s : Scenario) (hs : List History) : Type 0 where
  pub all : length hs ≡ length s.managers
  pub each : (m : ℕ) (h : History) → slice_get hs m ≡ Some h → IsHistory s m h

-- and the ends of each cable popped what was offered, as its faults have it
abbrev pub AreCarried : Scenario → List History → Type 0
AreCarried s hs = (n : ℕ) (c : CableLine) → slice_get s.cables n ≡ Some c → IsCarried n c hs

-- One that begins with the same node as another did.
pub record BeginsAs (s : Scenario) (gs : List History) (m : ℕ) (h : History) : Type 0 where
  pub before : History
  pub is : slice_get gs m ≡ Some before
  pub begins : opening_node (surroundings s m) before ≡ opening_node (surroundings s m) h
