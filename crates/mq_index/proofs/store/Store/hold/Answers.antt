use Rattle.std.proofs.Common.{arith, false, true, refl, sym, ◌≡◌, ◌∙◌}
use Rattle.std.specs.Prelude.{Some}
use Rattle.mq_queue.specs.Rows.{is_free}
use Rattle.mq_index.specs.Slots.{home_in, one}
use Rattle.mq_index.proofs.SlotLaws.{counted_held, enough_there, held_alike, homes_alike, marked_alike, total_changed}
use Rattle.mq_index.proofs.StoreLaws.{held_not, held_now, index_alike, there_so}
use Rattle.mq_index.proofs.store.Store.hold.Goals as goal

pub returns-then-not-is_free-clause-held : goal.returns-then-not-is_free-clause-held
returns-then-not-is_free-clause-held c row there =
    let seen = there_so _ c.in-Some.row.now c.in-Some.ensures in
    let held : is_free c.in-Some.row.now ≡ false = sym c.is_free.ensures ∙ c.if-not-is_free.true in
    rw (← c.self.view_is) (held_not c.self.inside.slots.items c.args.at c.args.by.now c.in-Some.row.now row seen (rw (← c.self.view_is) at there) held)

pub count_out-requires : goal.count_out-requires
count_out-requires c = enough_there c.self.inside.slots.items c.args.at c.in-Some.row.now c.self.inside.frees (there_so _ c.in-Some.row.now c.in-Some.ensures) c.self.invariant.3

pub invariant_of-self : goal.invariant_of-self
invariant_of-self c =
    let seen = there_so _ c.in-Some.row.now c.in-Some.ensures in
    let like = held_alike c.args.by.now c.in-Some.row.now in
    let is = c.hold_slot.ensures.held c.in-Some.row.now seen in (
      rw is (marked_alike c.self.inside.slots.items c.args.at c.in-Some.row.now _ seen like c.self.inside.marks.items c.self.inside.arrivals c.self.invariant.0),
      rw is (index_alike c.self.inside.slots.items c.args.at c.in-Some.row.now _ c.self.inside.index seen like c.self.invariant.1),
      rw is (homes_alike c.self.inside.slots.items c.args.at c.in-Some.row.now _ seen like (home_in c.self.inside.homes) c.self.invariant.2),
      rw is (counted_held c.self.inside.slots.items c.args.at c.in-Some.row.now _ c.self.inside.frees c.count_out.new.frees seen refl c.self.invariant.3 c.count_out.ensures),
      rw is (omega (arith, c.self.invariant.4, total_changed one c.self.inside.slots.items c.args.at c.in-Some.row.now (record c.in-Some.row.now { by = Some c.args.by.now }) seen)),
      omega (arith, c.self.invariant.5, c.hold_slot.ensures.len, c.hold_slot.ensures.capacity),
      c.self.invariant.6,
      c.self.invariant.7,
      c.self.invariant.8,
    )

pub returns-clause-held : goal.returns-clause-held
returns-clause-held c row there =
    let seen = there_so _ c.in-Some.row.now c.in-Some.ensures in
    let free : is_free c.in-Some.row.now ≡ true = sym c.is_free.ensures ∙ c.if-not-is_free.false in
    rw (← c.self.view_is) (held_now c.self.inside.slots.items c.args.at c.args.by.now c.in-Some.row.now row c.hold_slot.new.slots.items seen (rw (← c.self.view_is) at there) free (c.hold_slot.ensures.held c.in-Some.row.now seen))
