use Rattle.std.proofs.Common.{◌+◌, length, ap, arith}
use Rattle.mq_place.specs.Rooms.{RowsKept}
use Rattle.mq_core.specs.declared.parts.ChannelEnds.{ChannelEnds}
use Rattle.mq_core.specs.Views.{PartsValue}
use Rattle.mq_agents.proofs.WriteLaws.{roomed_more}
use Rattle.mq_agents.proofs.preparing.aside_rows.Goals as goal

put_rows : RowsKept → PartsValue → PartsValue
put_rows k p = record p { ends = record p.ends { rows = k } }

pub returns-clause-more : goal.returns-clause-more
unfolding put_rows
returns-clause-more g c =
    let x : PartsValue = c.args.parts.now in
    let seen = c.parts.view_is in
    let new : RowsKept = c.set_aside.new.self in
    let had = ap (λ (p : PartsValue). p.ends.rows.room + length p.ends.rows.rows) seen in
    let room = ap (λ (k : RowsKept). k.room + length k.rows) c.in-Ok.ensures.ok in
    roomed_more x _ new x.log.room x.log.spare x.body (λ i. put_rows new (seen i)) (omega arith) (omega arith) (omega (arith, had, room)) (omega arith)

pub returns-in-Err-clause-more : goal.returns-in-Err-clause-more
unfolding put_rows
returns-in-Err-clause-more g c =
    let x : PartsValue = c.args.parts.now in
    let seen = c.parts.view_is in
    let new : RowsKept = c.set_aside.new.self in
    let had = ap (λ (p : PartsValue). p.ends.rows.room + length p.ends.rows.rows) seen in
    let room = ap (λ (k : RowsKept). k.room + length k.rows) c.in-Err.ensures.err in
    roomed_more x _ new x.log.room x.log.spare x.body (λ i. put_rows new (seen i)) (omega arith) (omega arith) (omega (arith, had, room)) (omega arith)

with_rows : RowsKept → ChannelEnds → ChannelEnds
with_rows k e = record e { rows = k }

pub returns-clause-ends : goal.returns-clause-ends
unfolding with_rows
returns-clause-ends g c = ap (λ (p : PartsValue). with_rows c.set_aside.new.self p.ends) c.parts.view_is

pub returns-in-Err-clause-ends : goal.returns-in-Err-clause-ends
unfolding with_rows
returns-in-Err-clause-ends g c = ap (λ (p : PartsValue). with_rows c.set_aside.new.self p.ends) c.parts.view_is

pub returns-clause-room : goal.returns-clause-room
returns-clause-room g c =
    let had = ap (λ (p : PartsValue). p.ends.rows.room + length p.ends.rows.rows) c.parts.view_is in
    let room = ap (λ (k : RowsKept). k.room + length k.rows) c.in-Ok.ensures.ok in
    omega (arith, had, room)
