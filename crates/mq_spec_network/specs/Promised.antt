-- What is promised of a lawful story of a joined network.
use Rattle.std.specs.Prelude.{◌≡◌, ◌+◌, All, ℕ, false, List, ◌++◌, Some, slice_get, flat_map, map}
use Rattle.mq_spec_network.specs.Terms.{Ident, Row, same_ident, History, Scenario, IsScenario, Plain, Queue, IsImage}
use Rattle.mq_spec_node.specs.from_calls.{SenderSide}
use Rattle.mq_spec_node.specs.from_calls.Recovery.{IsDoubtKnown}
use Rattle.mq_spec_network.specs.Story.{Line, Chain, IsStory}
use Rattle.mq_spec_network.specs.Ledger.{ledger, ledger_rows}
use Rattle.mq_spec_network.specs.Standing.{standing, standing_in, managers_at, opening_ledger, rows_told}
use Rattle.mq_spec_network.specs.Conflict.{NoConflict}
use Rattle.mq_spec_network.specs.Order.{AllInOrder}
use Rattle.mq_spec_network.specs.Apart.{IsJoined}
use Rattle.mq_spec_network.specs.Lawful.{IsLawful, AreOwn}

-- no ident comes twice
abbrev pub AreDistinct : List Ident → Type 0
AreDistinct idents = Chain (λ x y. same_ident x y ≡ false) idents

-- the idents of all standing rows of a network
abbrev pub standing_on : Scenario → List Plain → Plain → Queue → List Ident
standing_on s ps p q = map (λ (row : Row). row.message.ident) (standing_in s ps p q.rows)

abbrev pub all_standing : Scenario → List Plain → List Ident
all_standing s ps = flat_map (λ (p : Plain). flat_map (standing_on s ps p) p.queues) ps

-- After a prefix of the story: the standing rows of each queue are the ledger's, list for list; each ident stands at most
-- once, and is in at most one committed get; and each receiver's commit kept the order.
pub record Holds (s : Scenario) (hs : List History) (p : List Line) : Type 0 where
  pub rows : (m : ℕ) (name : List ℕ) → rows_told (standing s (managers_at s p hs) m name) ≡ rows_told (ledger_rows m name (ledger (opening_ledger s hs) p))
  pub once : AreDistinct (all_standing s (managers_at s p hs))
  pub got_once : AreDistinct (ledger (opening_ledger s hs) p).got
  pub order : AllInOrder (opening_ledger s hs) p

-- each history begins with an image of a log
abbrev pub AreImages : List History → Type 0
AreImages hs = (m : ℕ) (h : History) → slice_get hs m ≡ Some h → IsImage h.opening

-- Each log knew the incarnations of its manager's own idents that its units in doubt list. (Of those of rows the check that logs
-- belong together says so.)
abbrev pub AreDoubtsKnown : List History → Type 0
AreDoubtsKnown hs = (m : ℕ) (h : History) → slice_get hs m ≡ Some h → All (λ (s : SenderSide). IsDoubtKnown (m + 1) h.opening.incarnation s.hardened.in_doubt) h.opening.senders

-- What it is promised of: a lawful story of a scenario, begun with images of logs that belong together, over disks that tell
-- their bytes.
pub record Premises (s : Scenario) (hs : List History) : Type 0 where
  pub scenario : IsScenario s
  pub openings : AreImages hs
  pub known : AreDoubtsKnown hs
  pub joined : IsJoined s hs
  pub lawful : IsLawful s hs
  pub own : AreOwn hs

-- This holds of each prefix in which no operator's settlement is at odds with its receiver.
abbrev pub Promised : Scenario → List History → Type 0
Promised s hs = Premises s hs → (story p rest : List Line) → IsStory hs story → story ≡ p ++ rest → NoConflict s hs p → Holds s hs p
