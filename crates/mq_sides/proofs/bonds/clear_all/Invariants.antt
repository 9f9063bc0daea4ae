use Rattle.std.proofs.Common.{◌≡◌, [], length}
use Rattle.std.specs.Prelude.{take}
use Rattle.mq_sides.specs.Bonds.{bound_of, seats_of}
use Rattle.mq_sides.proofs.bonds.clear_all.Given as goal

abbrev pub invariant-loop-place : goal.invariant-loop-place
invariant-loop-place l = record {
  seats : seats_of l.bonds ≡ seats_of l.fn.bonds;
  bound : bound_of (take l.place l.bonds) ≡ [];
  long : length l.bonds ≡ length l.fn.bonds;
}
