use Rattle.std.proofs.Common.{arith, sym, ◌∙◌}
use Rattle.std.specs.Prelude.{◌≡◌, Some, slice_get}
use Rattle.mq_index.proofs.FoundLaws.{no_place, place_empty, place_is}
use Rattle.mq_index.proofs.ListLaws.{within}
use Rattle.mq_index.proofs.StoreLaws.{empty_so, there_so}
use Rattle.mq_index.proofs.walk.placed.Goals as goal

pub returns-in_default : goal.returns-in_default
returns-in_default c = sym (no_place c.args.place c.args.marks.now c.args.slots.now c.requires.marked.0 c.requires.marked.1 c.in_default.ensures.none)

pub row_at-requires : goal.row_at-requires
row_at-requires c =
    let here : slice_get c.args.marks.now c.in-Some.at ≡ Some c.args.place.arrival = c.in-Some.ensures.found in
    let lt = within c.args.marks.now c.args.place.arrival c.in-Some.at here in
    record { there = omega (arith, lt, c.requires.marked.1.long) }

pub returns-in-None : goal.returns-in-None
returns-in-None c =
    let here : slice_get c.args.marks.now c.in-Some.at ≡ Some c.args.place.arrival = c.in-Some.ensures.found in
    let lt = within c.args.marks.now c.args.place.arrival c.in-Some.at here in
    sym (place_empty c.args.place c.args.marks.now c.args.slots.now c.requires.marked.0 c.requires.marked.1 c.in-Some.at here (empty_so c.args.slots.now c.in-Some.at (omega (arith, lt, c.requires.marked.1.long)) c.in-None.ensures))

pub returns-in-Some-row_at : goal.returns-in-Some-row_at
returns-in-Some-row_at c =
    let here : slice_get c.args.marks.now c.in-Some.at ≡ Some c.args.place.arrival = c.in-Some.ensures.found in
    c.in_lane.ensures ∙ sym (place_is c.args.place c.args.marks.now c.args.slots.now c.requires.marked.0 c.requires.marked.1 c.in-Some.at c.in-Some-row_at.row.now here (there_so (slice_get c.args.slots.now c.in-Some.at) c.in-Some-row_at.row.now c.in-Some-row_at.ensures))
