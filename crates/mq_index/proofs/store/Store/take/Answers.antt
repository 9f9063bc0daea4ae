use Rattle.std.proofs.Common.{arith}
use Rattle.mq_index.specs.Slots.{home_in, one}
use Rattle.mq_index.proofs.SlotLaws.{counted_gone, enough_there, homes_gone, marked_gone, total_gone}
use Rattle.mq_index.proofs.StoreLaws.{empty_set, empty_so, there_so}
use Rattle.mq_index.proofs.store.Store.take.Goals as goal

pub returns-in_default-clause-slots : goal.returns-in_default-clause-slots
returns-in_default-clause-slots c = rw (← c.self.view_is) (empty_set c.self.inside.slots.items c.args.at (empty_so c.self.inside.slots.items c.args.at (rw (← c.self.view_is) at c.requires.there) c.in_default.ensures))

pub count_out-requires : goal.count_out-requires
count_out-requires c = enough_there c.self.inside.slots.items c.args.at c.in-Some.row.now c.self.inside.frees (there_so _ c.in-Some.row.now c.in-Some.ensures) c.self.invariant.3

pub overflow_sub-self : goal.overflow_sub-self
overflow_sub-self c =
    let less = total_gone one c.self.inside.slots.items c.args.at c.in-Some.row.now (there_so _ c.in-Some.row.now c.in-Some.ensures) in
    omega (arith, less, c.self.invariant.4)

pub invariant_of-self : goal.invariant_of-self
invariant_of-self c =
    let there = there_so _ c.in-Some.row.now c.in-Some.ensures in (
      rw c.take_slot.ensures.slots (marked_gone c.self.inside.marks.items c.self.inside.slots.items c.self.inside.arrivals c.args.at c.self.invariant.0),
      rw c.take_slot.ensures.slots c.unlink.ensures.index,
      rw c.take_slot.ensures.slots (homes_gone c.self.inside.slots.items c.args.at c.in-Some.row.now (home_in c.self.inside.homes) (home_in c.drop_home.new.homes) c.self.invariant.2 there c.drop_home.ensures.dropped),
      rw c.take_slot.ensures.slots (counted_gone c.self.inside.slots.items c.args.at c.in-Some.row.now c.self.inside.frees c.count_out.new.frees there c.self.invariant.3 c.count_out.ensures),
      rw c.take_slot.ensures.slots (omega (arith, c.self.invariant.4, total_gone one c.self.inside.slots.items c.args.at c.in-Some.row.now there)),
      omega (arith, c.self.invariant.5, c.take_slot.ensures.len, c.take_slot.ensures.capacity),
      c.self.invariant.6,
      c.unlink.ensures.room c.self.inside.room c.self.invariant.7,
      omega (arith, c.self.invariant.8, c.drop_home.ensures.spare),
    )
