use Rattle.std.proofs.Common.{◌≡◌, ℕ, length, ap, arith, refl, subst, ◌∙◌}
use Rattle.mq_acts.specs.Restarts.{StaysOwn}
use Rattle.mq_shared.specs.Held.{entries_begun}
use Rattle.mq_shared.proofs.ShareLists.{none_at}
use Rattle.mq_shared.proofs.ShareLaws.{put_long}
use Rattle.mq_shared.proofs.TakeLaws.{done_more, free_more, longer, own_more, scripts_there, taken_on}
use Rattle.mq_shared.proofs.sharing.take_all.Goals as goal

pub loop-lock-init : goal.loop-lock-init
loop-lock-init g c =
    let none = c.requires.1.1.1.1.0 in
    let empty = ap length none.0 in
    let empty_ends = ap length none.1 in
    let room = c.requires.1.1.1.1.1.0 in
    record {
      count = omega (arith, empty);
      count_ends = omega (arith, empty_ends);
      room = omega (arith, empty, room.0, c.args.nodes.now.ok);
      room_ends = omega (arith, empty_ends, room.1, c.args.ends.now.ok);
      out = λ m n es at row. absurd (none_at c.args.nodes.now.items m n none.0 at);
      own = λ tells m n at. absurd (none_at c.args.nodes.now.items m n none.0 at);
      done = λ lacks m n at. absurd (none_at c.args.nodes.now.items m n none.0 at);
      free = λ lacks m es at. absurd (none_at c.args.ends.now.items m es none.1 at);
      long = refl;
      others = λ k other. refl;
      back = λ k p course part asked lt at. absurd (omega (arith, lt, empty));
    }

pub put_courses-requires : goal.put_courses-requires
put_courses-requires g c =
    let r = c.take_one-node.result in
    scripts_there g.a g.P.PhaseName.begun c.len.result r.node r.ends r.scripts r.wants c.requires.1.1.1.0 c.take_one-node.ensures.kept c.loop-lock.courses (c.loop-lock.invariant.long ∙ c.requires.1.1.1.1.1.1)

pub loop-lock-preserved : goal.loop-lock-preserved
loop-lock-preserved g c =
    let h = c.loop-lock.invariant in
    let b = g.P.PhaseName.begun in
    let r = c.take_one-node.result in
    let place : c.len.result ≡ length c.loop-lock.nodes.items = omega (arith, c.len.ensures, c.loop-lock.nodes.ok) in
    let same : length c.loop-lock.nodes.items ≡ length c.loop-lock.ends.items = omega (arith, h.count, h.count_ends) in
    let long_old = h.long ∙ c.requires.1.1.1.1.1.1 in
    let put = c.put_courses.ensures in
    let more = c.push_reserved.ensures.items in
    let more_ends = c.push_reserved-in-Some.ensures.items in
    let on = taken_on g.a b c.len.result c.loop-lock.nodes.items c.push_reserved.new.self.items c.loop-lock.ends.items c.push_reserved-in-Some.new.self.items c.loop-lock.courses c.put_courses.new.courses c.args.courses.now r.node r.ends r.scripts r.wants
    c.requires.1.1.1.0 place c.take_one-node.ensures.kept c.take_one-node.ensures.history more more_ends same long_old put h.out h.others h.back in
    let one = longer c.loop-lock.nodes.items c.push_reserved.new.self.items r.node more in
    let one_end = longer c.loop-lock.ends.items c.push_reserved-in-Some.new.self.items r.ends more_ends in
    record {
      count = omega (arith, h.count, one, c.in-Some.ensures.cases);
      count_ends = omega (arith, h.count_ends, one_end, c.in-Some.ensures.cases);
      room = omega (arith, h.room, c.push_reserved.ensures.len, c.push_reserved.ensures.capacity, c.in-Some.ensures.cases);
      room_ends = omega (arith, h.room_ends, c.push_reserved-in-Some.ensures.len, c.push_reserved-in-Some.ensures.capacity, c.in-Some.ensures.cases);
      out = on.0;
      own = λ tells. own_more b c.loop-lock.nodes.items c.push_reserved.new.self.items r.node more (subst (λ (m : ℕ). StaysOwn (entries_begun b m) r.node.history.entries) place (c.take_one-node.ensures.own tells)) (h.own tells);
      done = λ lacks. let two = c.either-wants.ensures lacks in done_more c.loop-lock.nodes.items c.push_reserved.new.self.items r.node more (c.take_one-node.ensures.kept.ready two.1) (h.done two.0);
      free = λ lacks. let two = c.either-wants.ensures lacks in free_more c.loop-lock.ends.items c.push_reserved-in-Some.new.self.items r.ends more_ends (c.take_one-node.ensures.kept.free two.1) (h.free two.0);
      long = ap length put ∙ put_long r.scripts c.loop-lock.courses ∙ h.long;
      others = on.1;
      back = on.2;
    }
