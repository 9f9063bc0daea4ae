use Rattle.std.specs.Prelude.{◌<◌, length, Some}
use Rattle.std.proofs.Common.{ℕ, Option, subst, sym}
use Rattle.mq_index.specs.Walks.{is_taken}
use Rattle.mq_index.proofs.WalkLaws.{at_end, at_place, left_at, passed_one, walk_found, walk_none, walks_from, walks_less, walks_within}
use Rattle.mq_index.proofs.walk.walk.Goals as goal

pub loop-at-init : goal.loop-at-init
loop-at-init c = c.requires.starts

pub taken_at-requires : goal.taken_at-requires
taken_at-requires c =
    let w = at_place (is_taken c.args.key.now.lane c.args.any c.args.want.now c.args.after) c.args.kind c.args.key.now c.args.slots.now c.loop-at.at c.in-Some.place c.in-Some.is c.loop-at.invariant in
    record { there = walks_within c.args.kind c.args.key.now c.args.slots.now c.in-Some.place w.0 }

pub returns-in-Some-taken_at : goal.returns-in-Some-taken_at
returns-in-Some-taken_at c =
    let w = at_place (is_taken c.args.key.now.lane c.args.any c.args.want.now c.args.after) c.args.kind c.args.key.now c.args.slots.now c.loop-at.at c.in-Some.place c.in-Some.is c.loop-at.invariant in
    sym (walk_found (is_taken c.args.key.now.lane c.args.any c.args.want.now c.args.after) c.args.slots.now c.in-Some.place c.in-Some-taken_at.row.now w.1 (sym c.in-Some-taken_at.ensures))

pub next-at-requires : goal.next-at-requires
next-at-requires c =
    let w = at_place (is_taken c.args.key.now.lane c.args.any c.args.want.now c.args.after) c.args.kind c.args.key.now c.args.slots.now c.loop-at.at c.in-Some.place c.in-Some.is c.loop-at.invariant in
    record { chain = c.requires.chain; there = w.0 }

pub loop-at-smaller : goal.loop-at-smaller
loop-at-smaller c =
    subst (λ (o : Option ℕ). left_at (length c.args.slots.now) c.next-at.result < left_at (length c.args.slots.now) o) (sym c.in-Some.is)
    (walks_less c.args.kind c.args.key.now c.args.slots.now c.in-Some.place c.next-at.result c.next-at.ensures)

pub loop-at-preserved : goal.loop-at-preserved
loop-at-preserved c =
    let w = at_place (is_taken c.args.key.now.lane c.args.any c.args.want.now c.args.after) c.args.kind c.args.key.now c.args.slots.now c.loop-at.at c.in-Some.place c.in-Some.is c.loop-at.invariant in
    walks_from (is_taken c.args.key.now.lane c.args.any c.args.want.now c.args.after) c.args.after c.args.kind c.args.key.now c.args.slots.now c.requires.keyed (Some c.in-Some.place) c.next-at.result
    (passed_one (is_taken c.args.key.now.lane c.args.any c.args.want.now c.args.after) c.args.slots.now c.in-Some.place w.1 (sym c.in_default-taken_at.ensures)) c.next-at.ensures

pub returns : goal.returns
returns c =
    sym (walk_none (is_taken c.args.key.now.lane c.args.any c.args.want.now c.args.after) c.args.slots.now
    (at_end (is_taken c.args.key.now.lane c.args.any c.args.want.now c.args.after) c.args.kind c.args.key.now c.args.slots.now c.loop-at.at c.in_default.is c.loop-at.invariant))
