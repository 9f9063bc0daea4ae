use Rattle.std.proofs.Common.{[], ◌∷◌, sym, ap, ◌∙◌}
use Rattle.std.specs.Prelude.{Option, Some, None}
use Rattle.mq_base.specs.Name.{padded}
use Rattle.mq_message.specs.declared.message.Dest.{Dest}
use Rattle.mq_frame.specs.Frames.{route_bytes, dest_bytes}
use Rattle.mq_record.specs.Room.{with_piece}
use Rattle.mq_record.proofs.RoomLaws.{piece_one, piece_more}
use Rattle.mq_record.proofs.SizeLaws.{route_whole}
use Rattle.mq_record.proofs.buffer.Buffer.put_route.Goals as goal

pub returns-in-None-clause-bytes : goal.returns-in-None-clause-bytes
unfolding route_bytes
returns-in-None-clause-bytes c = c.put.ensures ∙ ap (λ (r : Option Dest). with_piece (route_bytes r) c.args.self.now) (sym c.in-None.is)

pub returns-in-None-clause-size : goal.returns-in-None-clause-size
unfolding route_bytes
returns-in-None-clause-size c = rw c.in-None.is (route_whole None tt)

pub returns-in-Some-clause-bytes : goal.returns-in-Some-clause-bytes
unfolding route_bytes dest_bytes
returns-in-Some-clause-bytes c =
    let d = c.in-Some.dest in
    let e1 = piece_one _ _ (1 ∷ []) c.put-in-Some.ensures in
    let e2 = piece_more _ _ _ ((1 ∷ []) ∷ []) (padded 48 d.queue) e1 (c.put-in-Some-2.ensures ∙ ap (λ z. with_piece z c.put-in-Some.new.self) c.bytes.ensures.bytes) in
    let e3 = piece_more _ _ _ ((1 ∷ []) ∷ padded 48 d.queue ∷ []) (padded 48 d.qmgr) e2 (c.put-in-Some-3.ensures ∙ ap (λ z. with_piece z c.put-in-Some-2.new.self) c.bytes-in-Some.ensures.bytes) in
    e3 ∙ ap (λ (r : Option Dest). with_piece (route_bytes r) c.args.self.now) (sym c.in-Some.is)

pub returns-in-Some-clause-size : goal.returns-in-Some-clause-size
returns-in-Some-clause-size c = rw c.in-Some.is (route_whole (Some c.in-Some.dest) (record { queue = c.bytes.ensures.name; qmgr = c.bytes-in-Some.ensures.name }))
