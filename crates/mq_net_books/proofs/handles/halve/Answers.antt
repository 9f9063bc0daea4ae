use Rattle.std.proofs.Common.{arith, sym, ◌∙◌}
use Rattle.mq_handles.proofs.SeatLaws.{handle_some}
use Rattle.mq_net_books.proofs.handles.halve.Goals as goal

pub returns-in-Some : goal.returns-in-Some
returns-in-Some c =
    let e = sym c.place_of_handle.ensures ∙ c.in-Some.is in
    grind (arith, handle_some c.args.number c.args.handles.now c.in-Some.at c.index-handles-at.result e, c.index-handles-at.is)
