-- What is seen of managers at rest, at a run's end.
use Rattle.std.specs.Prelude.{◌≡◌, ◌⊎◌, ◌≤◌, ◌+◌, ℕ, suc, List, [], ◌∷◌, Option, None, Some, map, slice_get}
use Rattle.mq_base.specs.Outside.{Rose}
use Rattle.mq_core.specs.Values.{CoreValue}
use Rattle.mq_history.specs.declared.history.History.{History}
use Rattle.mq_history.specs.declared.scenario.CableLine.{CableLine}
use Rattle.mq_history.specs.declared.scenario.Scenario.{Scenario}
use Rattle.mq_calls.specs.Recovery.{AreKnown, IsImage}
use Rattle.mq_spec_manager.specs.Stops.{last_moment}
use Rattle.mq_spec_node.specs.Words.{Node, Own, node_of}
use Rattle.mq_net_stands.specs.declared.standing.CableStanding.{CableStanding}
use Rattle.mq_net_stands.specs.declared.standing.ManagerStanding.{ManagerStanding}
use Rattle.mq_net_stands.specs.declared.standing.Standing.{Standing}
use Rattle.mq_law_ran.specs.from_standing.Stands.{manager_standing, receiver_standing, sender_standing}
use Rattle.mq_world.specs.Words.{RestState}
use Rattle.mq_law_ran.specs.Runs.{Left}

-- the scenario and the histories
abbrev pub left_of : RestState → Left
left_of w = record { scenario = w.scenario; histories = w.histories }

-- how a manager stands
abbrev pub manager_stands : CoreValue → ManagerStanding
manager_stands v = manager_standing v.plain

-- the node of the manager at a place
abbrev pub node_resting : Option CoreValue → Option Own → Option Node
node_resting None own = None
node_resting (Some v) None = None
node_resting (Some v) (Some own) = Some (node_of v.plain own)

abbrev pub node_at_rest : RestState → ℕ → Option Node
node_at_rest w m = node_resting (slice_get w.managers m) (slice_get w.owns m)

-- how a cable's ends stand at theirs
abbrev pub cable_stands : RestState → ℕ → CableLine → CableStanding
cable_stands w cable c = record {
  channel = c.channel;
  sender = sender_standing cable c.channel (node_at_rest w c.sender);
  receiver = receiver_standing cable c.channel (node_at_rest w c.receiver);
}

abbrev pub cables_stand : RestState → ℕ → List CableLine → List CableStanding
cables_stand w cable [] = []
cables_stand w cable (c ∷ cs) = cable_stands w cable c ∷ cables_stand w (suc cable) cs

-- all managers and cables of a scenario
abbrev pub stands_at_rest : Scenario → RestState → Standing
stands_at_rest s w = record { managers = map manager_stands w.managers; cables = cables_stand w 0 s.cables }

-- with images of logs that know their own idents
abbrev pub AreKnownImages : List History → Type 0
AreKnownImages hs = (m : ℕ) (h : History) → slice_get hs m ≡ Some h → IsImage h.opening × AreKnown (m + 1) h.opening

-- which open at moments that a clock shows
abbrev pub AreTimed : List History → Type 0
AreTimed hs = (m : ℕ) (h : History) → slice_get hs m ≡ Some h → h.moment ≤ last_moment

-- One of these disks has failed: their counts of faults were 0 when they were taken.
abbrev pub OneRose : List ℕ → Type 0
OneRose [] = ⊥
OneRose (c ∷ cs) = Rose 0 c ⊎ OneRose cs

-- Why a run tells that a disk failed: the shelf did, or a disk that is handed back; where all managers began, one of their disks.
abbrev pub DiskRose : (before now : ℕ) → Option (List ℕ) → (handed : List ℕ) → Type 0
DiskRose before now None handed = Rose before now ⊎ OneRose handed
DiskRose before now (Some counts) handed = OneRose counts
