use Rattle.std.proofs.Common.{◌≡◌, ◌≤◌, ◌*◌, suc, drop, length}
use Rattle.mq_split.specs.Opening.{AreOpen, EachCable, IsBare, wholes}
use Rattle.mq_split.specs.Parting.{AreRows, names_from}
use Rattle.mq_split.proofs.PartLaws.{FirstJoined}
use Rattle.mq_split.proofs.parting.part_cables.Given as goal

abbrev pub ghost-part_cable : goal.ghost-part_cable
ghost-part_cable g a = record { begun = g.b; names = names_from (suc a.number) (drop (suc a.number) g.b.lines); room = 2 * a.number }

abbrev pub invariant-loop-open : goal.invariant-loop-open
invariant-loop-open g l = record {
  few : length l.passes.items ≤ length l.initial.passes.items;
  rows : length l.ends ≡ length l.initial.ends;
  long : length l.cables ≡ length l.initial.cables;
  opened : AreOpen l.pipes l.passes.items;
  bare : EachCable IsBare l.cables;
  joined : FirstJoined (length l.passes.items) l.lines g.b.done (wholes l.passes.items l.cables);
  placed : AreRows g.b (names_from (length l.passes.items) (drop (length l.passes.items) g.b.lines)) (2 * length l.passes.items) l.ends;
}

abbrev pub decreases-loop-open : goal.decreases-loop-open
decreases-loop-open g l = length l.passes.items
