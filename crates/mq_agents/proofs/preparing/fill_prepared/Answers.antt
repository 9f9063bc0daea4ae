use Rattle.std.proofs.Common.{◌≡◌, ℕ, ◌+◌, ◌∙◌, sym, ap, subst, arith}
use Rattle.std.specs.Prelude.{List, ◌++◌, length, ◌*◌}
use Rattle.std.specs.List.{flat_map, AllByRecursion}
use Rattle.std.proofs.lemmas.List.{length-append}
use Rattle.mq_message.specs.declared.message.Ident.{Ident}
use Rattle.mq_frame.specs.Frames.{ident_bytes, IsIdent}
use Rattle.mq_record.specs.Room.{Buffered}
use Rattle.mq_record.specs.Records.{prepared_front}
use Rattle.mq_log.specs.State.{LogState}
use Rattle.mq_core.specs.Views.{PartsValue}
use Rattle.mq_agents.proofs.FillLaws.{idents_length}
use Rattle.mq_agents.proofs.preparing.fill_prepared.Goals as goal

with_body : Buffered → PartsValue → PartsValue
with_body b x = record x { body = b }

with_both : LogState → Buffered → PartsValue → PartsValue
with_both log b x = record x { log = log; body = b }

with_room : PartsValue → LogState
with_room x = x.log

pub returns-clause-ok : goal.returns-clause-ok
unfolding with_body with_both
returns-clause-ok g c =
    let x : PartsValue = c.args.parts.now in
    let k : PartsValue = c.make_record_room.new.parts in
    let h = c.in-Ok.ensures.ok in
    let d = c.args.doubt.now in
    let pieces : List ℕ = flat_map ident_bytes d.idents in
    let ids = c.as_slice.ensures in
    let b : Buffered = c.put_idents.new.body in
    let none = ap (λ (b : Buffered). b.bytes) c.clear.ensures in
    let front : c.prepared_front.result ≡ prepared_front c.args.channel.now d.unit d.last d.queue (length d.idents) =
    c.prepared_front.ensures.bytes ∙ ap (λ (n : ℕ). prepared_front c.args.channel.now d.unit d.last d.queue n) c.len-count.ensures in
    let bytes =
    ap (λ (b : Buffered). b.bytes) c.put_idents.ensures.bytes ∙ ap (λ (is : List Ident). c.put.new.self.bytes ++ flat_map ident_bytes is) ids
    ∙ ap (λ (b : Buffered). b.bytes ++ pieces) c.put.ensures ∙ ap (λ (bs : List ℕ). (bs ++ c.prepared_front.result) ++ pieces) none ∙ ap (λ (f : List ℕ). f ++ pieces) front in
    let whole : length c.prepared_front.result ≡ 93 = omega (arith, c.prepared_front.type_inv) in
    let long : length pieces ≡ 17 * length d.idents = idents_length d.idents in
    let fronts = ap length front in
    let sum = length-append (prepared_front c.args.channel.now d.unit d.last d.queue (length d.idents)) pieces in
    let size : length (prepared_front c.args.channel.now d.unit d.last d.queue (length d.idents) ++ pieces) ≡ 93 + 17 * length d.idents = omega (arith, whole, fronts, long, sum) in
    let taken = ap (λ (p : PartsValue). p.body.room + length p.body.bytes) c.parts.view_is in
    let cleared = ap (λ (b : Buffered). b.room) c.clear.ensures in
    let first = ap (λ (b : Buffered). b.room) c.put.ensures in
    let second = ap (λ (b : Buffered). b.room) c.put_idents.ensures.bytes in
    let other = ap (λ (is : List Ident). length (flat_map ident_bytes is)) ids in
    let all = ap length bytes in
    let log = ap (λ (p : PartsValue). p.log) c.parts.view_is in
    let room = ap (λ (l : LogState). l.room) log in
    let count = c.len-count.ensures in
    record {
      roomy = record {
        same = (λ i. record (c.parts.view_is i) { body = b }) ∙ ap (with_body b) h.same ∙ (λ i. with_both (record x.log { room = sym room i }) b x);
        more = omega (arith, h.more, room);
        log = omega (arith, h.log, room, count);
        body = omega (arith, h.body, taken, cleared, first, second, other, whole, fronts, long, sum, all, count);
      };
      bytes = bytes;
      size = size;
      fits = λ named. c.prepared_front.ensures.record named d.idents (record { count = omega (arith, c.requires.few); each = subst (AllByRecursion IsIdent) ids c.put_idents.ensures.idents });
    }
