use Rattle.std.proofs.Common.{arith}
use Rattle.std.specs.Prelude.{None, Some, ◌≡◌, slice_get}
use Rattle.mq_index.specs.Keys.{key_by}
use Rattle.mq_index.proofs.KeyedLaws.{keyed_there}
use Rattle.mq_index.proofs.ListLaws.{within}
use Rattle.mq_index.proofs.WalkLaws.{none_up_to, walks_from}
use Rattle.mq_index.proofs.walk.start_of.Goals as goal

pub returns-in_default : goal.returns-in_default
returns-in_default c test fits = walks_from test (Some c.args.place) c.args.kind c.args.key.now c.args.slots.now fits None c.first.result (λ at row lt there. absurd (omega (arith, lt))) c.first.ensures

pub has_key-requires : goal.has_key-requires
has_key-requires c =
    let here : slice_get c.args.marks.now c.in-Some.at ≡ Some c.args.place.arrival = c.in-Some.ensures.found in
    let lt = within c.args.marks.now c.args.place.arrival c.in-Some.at here in
    record { there = omega (arith, lt, c.requires.marked.1.long) }

pub next-requires-clause-there : goal.next-requires-clause-there
next-requires-clause-there c =
    let h = c.has_key.ensures c.if-has_key.true in
    (key_by c.args.kind h.0, keyed_there c.args.kind c.args.slots.now c.in-Some.at h.0 h.1, h.2)

pub returns-then-has_key : goal.returns-then-has_key
returns-then-has_key c test fits =
    let here : slice_get c.args.marks.now c.in-Some.at ≡ Some c.args.place.arrival = c.in-Some.ensures.found in
    walks_from test (Some c.args.place) c.args.kind c.args.key.now c.args.slots.now fits (Some c.in-Some.at) c.next.result
    (none_up_to test c.args.place c.args.kind c.args.key.now c.args.marks.now c.args.slots.now c.requires.marked.0 c.in-Some.at c.requires.marked.1 fits c.requires.lane here) c.next.ensures

pub returns-else-has_key : goal.returns-else-has_key
returns-else-has_key c test fits = walks_from test (Some c.args.place) c.args.kind c.args.key.now c.args.slots.now fits None c.first-else-has_key.result (λ at row lt there. absurd (omega (arith, lt))) c.first-else-has_key.ensures
