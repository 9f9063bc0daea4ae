-- What an end of a cable took in a phase, entry by entry, as items of bytes.
use Rattle.std.specs.Prelude.{◌≡◌, ◌⊎◌, ◌+◌, ℕ, max, Bool, true, false, List, [], ◌∷◌, ◌++◌}
use Rattle.mq_cable.specs.declared.fault.Fault.{Fault}
use Rattle.mq_cable.specs.declared.item.Item.{Item}
use Rattle.mq_cable.specs.Offers.{Offering}
use Rattle.mq_frame.specs.Sight.{Shows}
use Rattle.mq_history.specs.declared.calls.Actor.{Actor}
use Rattle.mq_spec_node.specs.Terms.{Entry}
use Rattle.mq_spec_node.specs.Words.{stamp_after}
use Rattle.mq_spec_network.specs.Cables.{pops_item}
use Rattle.mq_ways.specs.Ways.{WayState}
use Rattle.mq_ruled.specs.Ends.{PipeEnds}
use Rattle.mq_split.specs.Facing.{Facing}

-- Among all entries of its manager, each one of the end that popped took the next item: it keeps what the item's bytes show, and its
-- stamp is one above the greater of the last entry's and the item's.
abbrev pub Took : (Actor → Bool) → ℕ → List Entry → List Item → Type 0
Took test last [] xs = xs ≡ []
Took test last (e ∷ es) [] = (pops_item test e ≡ false) × Took test e.stamp es []
Took test last (e ∷ es) (x ∷ xs) =
    ((pops_item test e ≡ false) × Took test e.stamp es (x ∷ xs))
    ⊎ ((pops_item test e ≡ true) × Shows x.bytes e.effect.popped × (e.stamp ≡ max last x.stamp + 1) × Took test e.stamp es xs)

-- a direction with these items, on which so much was offered
abbrev pub way : List Item → Offering → WayState
way items offers = record { items = items; offers = offers }

-- An end of a cable: its cable, whether it is the sender's, what was offered on the direction that it writes, and its wire.
pub record EndState : Type 0 where
  pub cable : ℕ
  pub sends : Bool
  pub offers : Offering
  pub wire : PipeEnds

-- What holds of an end in a phase: at the direction that it writes, what was sent, from what was left before the phase on, is what the
-- faults make of what its manager's entries offered, but for what the other manager's entries had popped before the phase; from
-- the other direction it took what its manager's entries since tell. `first` are that manager's entries before the phase, `since` those
-- in it, `peer` the other manager's before it.
pub record EndKept (fs : List Fault) (mine theirs : Actor → Bool) (first peer since : List Entry) (e : EndState) : Type 0 where
  pub write : Facing fs mine theirs (first ++ since) peer (way e.wire.sent e.offers)
  pub read : Took mine (stamp_after 0 first) since e.wire.taken
