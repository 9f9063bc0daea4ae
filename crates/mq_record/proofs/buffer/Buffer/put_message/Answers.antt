use Rattle.std.proofs.Common.{◌≡◌, ℕ, [], ◌∷◌, length, ◌+◌, ap, ◌∙◌, arith, rules}
use Rattle.byteorder.specs.Endian.{big_bytes}
use Rattle.mq_message.specs.Descriptor.{md_bytes}
use Rattle.mq_frame.specs.Frames.{ident_bytes, deadline_bytes, route_bytes, message_bytes}
use Rattle.mq_frame.proofs.Descriptor.{md_written}
use Rattle.mq_calls.specs.Sizes.{route_size}
use Rattle.mq_record.specs.Room.{with_piece}
use Rattle.mq_record.proofs.RoomLaws.{piece_one, piece_more, room_left}
use Rattle.mq_record.proofs.SizeLaws.{ident_whole, deadline_whole}
use Rattle.mq_record.proofs.buffer.Buffer.put_message.Goals as goal

pub put-requires : goal.put-requires
put-requires c =
    let m = c.args.message.now in
    let r1 = room_left _ _ (ident_bytes m.ident) 17 c.put_ident.ensures.bytes (ident_whole m.ident) in
    let long : length c.md_to_bytes.result ≡ 324 = search rules in
    omega (arith, r1, long, c.requires)

pub put_deadline-requires : goal.put_deadline-requires
put_deadline-requires c =
    let m = c.args.message.now in
    let r1 = room_left _ _ (ident_bytes m.ident) 17 c.put_ident.ensures.bytes (ident_whole m.ident) in
    let long : length c.md_to_bytes.result ≡ 324 = search rules in
    let r2 = room_left _ _ c.md_to_bytes.result 324 c.put.ensures long in
    omega (arith, r1, r2, c.requires)

pub put_route-requires : goal.put_route-requires
put_route-requires c =
    let m = c.args.message.now in
    let r1 = room_left _ _ (ident_bytes m.ident) 17 c.put_ident.ensures.bytes (ident_whole m.ident) in
    let long : length c.md_to_bytes.result ≡ 324 = search rules in
    let r2 = room_left _ _ c.md_to_bytes.result 324 c.put.ensures long in
    let r3 = room_left _ _ (deadline_bytes m.deadline) 8 c.put_deadline.ensures (deadline_whole m.deadline) in
    omega (arith, r1, r2, r3, c.requires)

pub put_length-requires : goal.put_length-requires
put_length-requires c =
    let m = c.args.message.now in
    let r1 = room_left _ _ (ident_bytes m.ident) 17 c.put_ident.ensures.bytes (ident_whole m.ident) in
    let long : length c.md_to_bytes.result ≡ 324 = search rules in
    let r2 = room_left _ _ c.md_to_bytes.result 324 c.put.ensures long in
    let r3 = room_left _ _ (deadline_bytes m.deadline) 8 c.put_deadline.ensures (deadline_whole m.deadline) in
    let r4 = room_left _ _ (route_bytes m.route) (1 + route_size m.route) c.put_route.ensures.bytes c.put_route.ensures.size in
    omega (arith, r1, r2, r3, r4, c.requires)

pub put-requires-2 : goal.put-requires-2
put-requires-2 c =
    let m = c.args.message.now in
    let r1 = room_left _ _ (ident_bytes m.ident) 17 c.put_ident.ensures.bytes (ident_whole m.ident) in
    let long : length c.md_to_bytes.result ≡ 324 = search rules in
    let r2 = room_left _ _ c.md_to_bytes.result 324 c.put.ensures long in
    let r3 = room_left _ _ (deadline_bytes m.deadline) 8 c.put_deadline.ensures (deadline_whole m.deadline) in
    let r4 = room_left _ _ (route_bytes m.route) (1 + route_size m.route) c.put_route.ensures.bytes c.put_route.ensures.size in
    let r5 = room_left _ _ (big_bytes 4 c.len.result) 4 c.put_length.ensures (search rules) in
    omega (arith, r1, r2, r3, r4, r5, c.requires, ap length c.as_slice.ensures)

pub returns-clause-bytes : goal.returns-clause-bytes
unfolding message_bytes
returns-clause-bytes c =
    let m = c.args.message.now in
    let e1 = piece_one _ _ (ident_bytes m.ident) c.put_ident.ensures.bytes in
    let e2 = piece_more _ _ _ (ident_bytes m.ident ∷ []) (md_bytes m.md) e1 (c.put.ensures ∙ ap (λ z. with_piece z c.put_ident.new.self) c.md_to_bytes.ensures.bytes) in
    let e3 = piece_more _ _ _ (ident_bytes m.ident ∷ md_bytes m.md ∷ []) (deadline_bytes m.deadline) e2 c.put_deadline.ensures in
    let e4 = piece_more _ _ _ (ident_bytes m.ident ∷ md_bytes m.md ∷ deadline_bytes m.deadline ∷ []) (route_bytes m.route) e3 c.put_route.ensures.bytes in
    let e5 = piece_more _ _ _ (ident_bytes m.ident ∷ md_bytes m.md ∷ deadline_bytes m.deadline ∷ route_bytes m.route ∷ []) (big_bytes 4 (length m.body)) e4 (c.put_length.ensures ∙ ap (λ (n : ℕ). with_piece (big_bytes 4 n) c.put_route.new.self) c.len.ensures) in
    piece_more _ _ _ (ident_bytes m.ident ∷ md_bytes m.md ∷ deadline_bytes m.deadline ∷ route_bytes m.route ∷ big_bytes 4 (length m.body) ∷ []) m.body e5 (c.put-2.ensures ∙ ap (λ z. with_piece z c.put_length.new.self) c.as_slice.ensures)

pub returns-clause-message : goal.returns-clause-message
returns-clause-message c =
    let long : length c.md_to_bytes.result ≡ 324 = search rules in
    let md = md_written c.args.message.now.md c.md_to_bytes.result c.md_to_bytes.ensures.bytes long (search rules) c.md_to_bytes.ensures.back in
    λ can. record {
      message = record { ident = c.put_ident.ensures.ident; md = md; deadline = can.words.deadline; route = c.put_route.ensures.dest; body = can.words.body };
      persistent = can.persistent;
    }
