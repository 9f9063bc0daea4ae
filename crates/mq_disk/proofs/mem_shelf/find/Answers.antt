use Rattle.std.proofs.Common.{ℕ, arith, rules, sym, subst}
use Rattle.mq_disk.specs.Shelves.{IsOf, FirstAt}
use Rattle.mq_disk.proofs.Shelved.{later, here, behind, inside}
use Rattle.mq_disk.proofs.mem_shelf.find.Goals as goal

pub returns-then-is_of-clause-found : goal.returns-then-is_of-clause-found
returns-then-is_of-clause-found g c =
    let of : IsOf c.slot-item.result c.args.name.now c.args.side = search rules in
    subst (λ (n : ℕ). FirstAt c.args.slots.now c.args.name.now c.args.side n) (sym c.loop-slot.invariant.at)
    (here c.args.slots.now c.loop-slot.slot-index c.slot-item.result c.args.name.now c.args.side (omega arith) (sym c.slot-item.is) of c.loop-slot.invariant.so_far)

pub loop-slot-preserved : goal.loop-slot-preserved
loop-slot-preserved g c =
    let other : IsOf c.slot-item.result c.args.name.now c.args.side → ⊥ = search rules in
    record {
      at = omega arith;
      so_far = later c.args.slots.now c.loop-slot.slot-index c.slot-item.result c.args.name.now c.args.side (omega arith) (sym c.slot-item.is) other c.loop-slot.invariant.so_far;
      passed = behind c.args.slots.now c.loop-slot.slot-index c.slot-item.result c.args.name.now c.args.side (sym c.slot-item.is) other c.loop-slot.invariant.passed;
    }

pub returns-clause-nowhere : goal.returns-clause-nowhere
returns-clause-nowhere g c none place first =
    let at = inside c.args.slots.now c.args.name.now c.args.side place first in
    let past = c.loop-slot.invariant.passed place first in
    absurd (omega (arith, at, past))
