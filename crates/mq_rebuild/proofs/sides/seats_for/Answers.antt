use Rattle.std.proofs.Common.{length, ap, arith, ◌∙◌}
use Rattle.std.proofs.lemmas.List.{drop_all}
use Rattle.mq_rebuild.proofs.SeatLaws.{seated_end, seated_next}
use Rattle.mq_rebuild.proofs.sides.seats_for.Goals as goal

pub loop-side-init : goal.loop-side-init
loop-side-init c = record { bound = ap (λ k. k.bound) c.new-bonds.ensures; rest = λ seats keeps all. all }

pub loop-side-preserved : goal.loop-side-preserved
loop-side-preserved c = record {
  bound = c.seat.ensures.bound ∙ c.loop-side.invariant.bound;
  rest = seated_next c.loop-side.bonds.seats c.seat.new.self.seats _ _ _ _ c.as_slice-side-items.ensures c.loop-side-test.true c.side-item.is c.seat.ensures.seats c.in-Ok.ensures.ok c.loop-side.invariant.rest;
}

pub returns-clause-bound : goal.returns-clause-bound
returns-clause-bound c = c.loop-side.invariant.bound

pub returns-clause-seats : goal.returns-clause-seats
returns-clause-seats c =
    let same = ap length c.as_slice-side-items.ensures in
    seated_end c.loop-side.bonds.seats _ _ (drop_all c.loop-side.side-index _ (omega (arith, same, c.loop-side-test.false))) c.loop-side.invariant.rest
