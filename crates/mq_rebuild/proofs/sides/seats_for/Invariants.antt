use Rattle.std.proofs.Common.{◌≡◌, [], drop}
use Rattle.mq_rebuild.proofs.SeatLaws.{AreSeatedFrom}
use Rattle.mq_rebuild.proofs.sides.seats_for.Given as goal

abbrev pub invariant-loop-side : goal.invariant-loop-side
invariant-loop-side l = record {
  bound : l.bonds.bound ≡ [];
  rest : AreSeatedFrom l.bonds.seats (drop l.side-index l.sides) l.sides;
}
