-- A turn of a cable's end at its node, with the trigger turns behind it.
use Rattle.std.proofs.Common.{◌≡◌, ℕ, Bool, true, false, List, sym, ap, ◌∙◌, append-nil, inl, inr}
use Rattle.std.specs.Prelude.{Option, Result, Ok, Err, IfOk}
use Rattle.mq_base.specs.declared.want.NoMemory.{NoMemory as Want}
use Rattle.mq_cable.specs.declared.item.Item.{Item}
use Rattle.mq_cable.specs.Offers.{Offering}
use Rattle.mq_frame.specs.declared.frame.Seen.{Seen}
use Rattle.mq_history.specs.declared.calls.Actor.{Actor}
use Rattle.mq_history.specs.declared.calls.Call.TheVariants as calls
use Rattle.mq_spec_node.specs.Deeds.{Deed}
use Rattle.mq_watch.specs.from_events.States.{NodeState}
use Rattle.mq_nodes.specs.declared.nodes.Stop.{Stop}
use Rattle.mq_nodes.specs.declared.nodes.Stop.TheVariants as stops
use Rattle.mq_shared.specs.from_turn_parts.{Turn}
use Rattle.mq_shared.specs.from_turn_parts.TurnVariants as turns
use Rattle.mq_shared.specs.from_turn_parts.Unseen.{Empty, EndTurn, IsUnseen, Pushes, Rests, turn_deed}
use Rattle.mq_shared.specs.from_turn_parts.Wired.{Untaken}
use Rattle.mq_shared.proofs.from_turn_parts.WireLaws.{turn_widened}
use Rattle.mq_world.specs.Ends.{EndOn, IsBare, IsFilled, Passes, Reads, SideTurn, Sides, Writes}
use Rattle.mq_world.specs.Settling.{Settles}
use Rattle.mq_world.proofs.NodeLaws.{did_then, stays_so}

-- Over the two directions, by what it is over a wire.
unseen_so : (bar bare : Type 0) (deed : Seen → Option Deed) → (bar → bare) → IsUnseen bar deed → IsUnseen bare deed
unseen_so bar bare deed is (Empty n) = Empty (is n)
unseen_so bar bare deed is (Rests all) = Rests all
unseen_so bar bare deed is (Pushes d f pushed all) = Pushes d f pushed all

pub side_turn : (who : Actor) (a b : Sides) (reads writes : List Item → Type 0) (empty full : Type 0) (old : NodeState) (r : Result Turn Want) (new : NodeState) → ((xs : List Item) → reads xs → Reads a.read b.read xs) → ((xs : List Item) → writes xs → Writes a.write b.write xs) → (empty → IsBare b.read) → (full → IsFilled b.write)
    → EndTurn who reads writes empty full a.write.offers b.write.offers old r new → SideTurn who a b old r new
side_turn who a b reads writes empty full old r new read write bare filled t =
    turn_widened reads writes (Reads a.read b.read) (Writes a.write b.write) (IsUnseen empty (turn_deed who old)) full (IsUnseen (IsBare b.read) (turn_deed who old)) (IsFilled b.write) read write (λ none u. unseen_so empty (IsBare b.read) (turn_deed who old) bare u) filled
    who a.write.offers b.write.offers _ old r new t

-- where it was taken,
pub end_then : (who : Actor) (m : ℕ) (a b : Sides) (old mid new : NodeState) (r : Result Bool Stop) → SideTurn who a b old (Ok turns.Changed) mid → b.read.offers ≡ a.read.offers → Settles m mid r new → IfOk r (λ (x : Bool). x ≡ true) → EndOn who m a b old r new
end_then who m a b old mid new r t leaves s is = by_end r s is
  where
    passes : Passes who a b old t.entry
    passes = record { is = (t.adds.actor, t.adds.call); leaves = leaves; popped = t.popped; offered = t.offered }

    by_end : (x : Result Bool Stop) → Settles m mid x new → IfOk x (λ (y : Bool). y ≡ true) → EndOn who m a b old x new
    by_end (Ok true) z e = (did_then (Passes who a b old) who calls.Turn t.entry m old mid new (Ok true) passes t.adds z, z.ends.0, z.ends.1)
    by_end (Ok false) z e = absurd cc
    by_end (Err stops.NoMemory) z e = inr (did_then {T = Bool} (Passes who a b old) who calls.Turn t.entry m old mid new (Err stops.NoMemory) passes t.adds z)
    by_end (Err (stops.Spent k)) z e = (z.ends.0, did_then {T = Bool} (Passes who a b old) who calls.Turn t.entry m old mid new (Err (stops.Spent k)) passes t.adds z, z.ends.1)

-- and where it was not.
same_sides : (a b : Sides) → b.read.offers ≡ a.read.offers → b.write.offers ≡ a.write.offers → b.read.items ≡ a.read.items → b.write.items ≡ a.write.items → b ≡ a
same_sides a b ro wo ri wi =
    ap (λ (xs : List Item). record { read = record { items = xs; offers = b.read.offers }; write = b.write }) ri
    ∙ ap (λ (o : Offering). record { read = record { items = a.read.items; offers = o }; write = b.write }) ro
    ∙ ap (λ (xs : List Item). record { read = a.read; write = record { items = xs; offers = b.write.offers } }) wi
    ∙ ap (λ (o : Offering). record { read = a.read; write = record { items = a.write.items; offers = o } }) wo

untaken_sides : (a b : Sides) (old new : NodeState) → b.read.offers ≡ a.read.offers → Untaken (Reads a.read b.read) (Writes a.write b.write) a.write.offers b.write.offers old new → b ≡ a
untaken_sides a b old new leaves u = same_sides a b leaves u.offers.same (sym u.read) (u.offers.written.whole ∙ append-nil a.write.items)

pub end_still : (who : Actor) (m : ℕ) (a b : Sides) (old new : NodeState) → SideTurn who a b old (Ok turns.Still) new → b.read.offers ≡ a.read.offers → EndOn who m a b old (Ok false) new
end_still who m a b old new (u, still) leaves = (stays_so old new u.stays, untaken_sides a b old new leaves u, still)

pub end_none : (who : Actor) (m : ℕ) (a b : Sides) (old new : NodeState) (e : Want) → SideTurn who a b old (Err e) new → b.read.offers ≡ a.read.offers → EndOn who m a b old (Err stops.NoMemory) new
end_none who m a b old new e u leaves = inl (stays_so old new u.stays, untaken_sides a b old new leaves u)
