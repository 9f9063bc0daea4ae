use Rattle.std.proofs.Common.{refl, sym, ◌∙◌, arith}
use Rattle.mq_calls.specs.Changes.{forgotten}
use Rattle.mq_place.specs.States.{on_queue}
use Rattle.mq_place.proofs.EveryLaws.{changed_none, changed_next, changed_end}
use Rattle.mq_place.proofs.slots.forget.Goals as goal

pub loop-at-init : goal.loop-at-init
loop-at-init g c = record { so_far = sym (changed_none (on_queue forgotten) c.args.slots.now.items); len = refl; capacity = refl }

pub loop-at-preserved : goal.loop-at-preserved
loop-at-preserved g c = record {
  so_far = changed_next (on_queue forgotten) c.args.slots.now.items c.loop-at.slots.items c.forget_at.new.slots.items c.loop-at.at c.loop-at.invariant.so_far c.forget_at.ensures.slots;
  len = c.forget_at.ensures.len ∙ c.loop-at.invariant.len;
  capacity = c.forget_at.ensures.capacity ∙ c.loop-at.invariant.capacity;
}

pub returns-clause-slots : goal.returns-clause-slots
returns-clause-slots g c =
    changed_end (on_queue forgotten) c.args.slots.now.items c.loop-at.slots.items c.loop-at.at c.loop-at.invariant.so_far
    (omega (arith, c.loop-at-test.false, c.loop-at.auto.at-end, c.len-at-end.ensures, c.loop-at.invariant.len, c.args.slots.now.ok))
