use Rattle.std.proofs.Common.{List, ℕ, Some, ◌<◌, ◌++◌, ◌∷◌, [], length, sym, ap, ◌∙◌, arith}
use Rattle.mq_calls.specs.declared.records.Remove.{Remove}
use Rattle.mq_place.specs.States.{held_on, named_row}
use Rattle.mq_place.specs.Held.{held_left}
use Rattle.mq_place.proofs.HeldLaws.{count_start, count_next, listed_start, listed_next, listed_none, listed_end, short_at}
use Rattle.mq_place.proofs.local.LocalRows.held_rows.Goals as goal

pub loop-seen-init : goal.loop-seen-init
loop-seen-init g c = record {
  told = ap (λ (rs : List Remove). c.args.rows.now.rows ++ rs) (listed_start c.args.by.now c.args.self.now.queue);
  left = count_start c.args.by.now c.args.self.now.queue.rows;
  room = omega arith;
}

pub returns-in_default-clause-rows : goal.returns-in_default-clause-rows
returns-in_default-clause-rows g c =
    sym (listed_none c.loop-seen.rows.rows c.args.by.now c.loop-seen.after c.args.self.now.queue c.in_default.ensures) ∙ c.loop-seen.invariant.told

pub returns-in_default-clause-room : goal.returns-in_default-clause-room
returns-in_default-clause-room g c = c.loop-seen.invariant.room

pub loop-seen-preserved : goal.loop-seen-preserved
loop-seen-preserved g c =
    let q = c.args.self.now.queue in
    let row = c.in-Some.row.now in
    let order = c.len-len.ensures.queue.in_order in
    let fewer = count_next c.args.by.now c.loop-seen.after q.rows row order c.in-Some.ensures in
    record {
      told = ap (λ (rs : List Remove). rs ++ held_left c.args.by.now (Some row.place) q) (c.in-Ok.ensures.rows ∙ ap (λ (name : List ℕ). c.loop-seen.rows.rows ++ named_row name row ∷ []) c.name.ensures)
          ∙ listed_next c.loop-seen.rows.rows c.args.by.now c.loop-seen.after q row order c.in-Some.ensures ∙ c.loop-seen.invariant.told;
      left = omega (arith, fewer, c.loop-seen.invariant.left);
      room = omega (arith, c.loop-seen.invariant.room, c.in-Ok.ensures.room);
    }

pub returns-in-Err-clause-room : goal.returns-in-Err-clause-room
returns-in-Err-clause-room g c = omega (arith, c.loop-seen.invariant.room, c.in-Err.ensures.room)

pub returns-in-Err-clause-memory : goal.returns-in-Err-clause-memory
returns-in-Err-clause-memory g c =
    let q = c.args.self.now.queue in
    let row = c.in-Some.row.now in
    let named : Remove = named_row q.name row in
    let next = listed_next c.loop-seen.rows.rows c.args.by.now c.loop-seen.after q row c.len-len.ensures.queue.in_order c.in-Some.ensures ∙ c.loop-seen.invariant.told in
    let none = c.in-Err.ensures.memory in
    let short : c.loop-seen.rows.room < length (named ∷ []) = omega (arith, none) in
    short_at c.loop-seen.rows.rows (named ∷ []) (held_left c.args.by.now (Some row.place) q) c.args.rows.now.rows (held_on c.args.by.now q) c.args.rows.now.room c.loop-seen.rows.room next c.loop-seen.invariant.room short

pub returns-clause-rows : goal.returns-clause-rows
returns-clause-rows g c =
    sym (listed_end c.loop-seen.rows.rows c.args.by.now c.loop-seen.after c.args.self.now.queue c.loop-seen.seen c.loop-seen.invariant.left (omega (arith, c.loop-seen-test.false, c.len-seen-end.ensures.len)))
    ∙ c.loop-seen.invariant.told

pub returns-clause-room : goal.returns-clause-room
returns-clause-room g c = c.loop-seen.invariant.room
