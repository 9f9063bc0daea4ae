use Rattle.std.proofs.Common.{List, length, refl, ap, arith, ◌∙◌}
use Rattle.mq_sides.specs.declared.bonds.Bond.{Bond}
use Rattle.mq_sides.specs.Bonds.{seats_of}
use Rattle.mq_sides.proofs.BondLaws.{unbound_end, unbound_long, unbound_next, unbound_seats}
use Rattle.mq_sides.proofs.bonds.clear_all.Goals as goal

pub loop-place-init : goal.loop-place-init
loop-place-init c = record { seats = refl; bound = refl; long = refl }

pub clear_at-requires : goal.clear_at-requires
clear_at-requires c = omega (arith, c.loop-place-test.true, c.loop-place.invariant.long, c.len-place-end.ensures)

pub loop-place-preserved : goal.loop-place-preserved
loop-place-preserved c = record {
  seats = ap seats_of c.clear_at.ensures ∙ unbound_seats c.loop-place.place c.loop-place.bonds ∙ c.loop-place.invariant.seats;
  bound = unbound_next c.loop-place.place c.loop-place.bonds c.clear_at.new.bonds c.clear_at.ensures c.loop-place.invariant.bound;
  long = ap (λ (bs : List Bond). length bs) c.clear_at.ensures ∙ unbound_long c.loop-place.place c.loop-place.bonds ∙ c.loop-place.invariant.long;
}

pub returns-clause-bound : goal.returns-clause-bound
returns-clause-bound c = unbound_end c.loop-place.place c.loop-place.bonds (omega (arith, c.loop-place-test.false, c.loop-place.invariant.long, c.len-place-end.ensures)) c.loop-place.invariant.bound

pub returns-clause-seats : goal.returns-clause-seats
returns-clause-seats c = c.loop-place.invariant.seats
