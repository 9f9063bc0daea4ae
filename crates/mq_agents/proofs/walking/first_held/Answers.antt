use Rattle.std.proofs.Common.{◌≡◌, ◌+◌, ◌-◌, ◌<◌, ℕ, List, ◌++◌, ◌∷◌, [], length, sym, ap, ◌∙◌, arith}
use Rattle.std.specs.Prelude.{Some, None, take}
use Rattle.mq_calls.specs.declared.records.Remove.{Remove}
use Rattle.mq_place.specs.States.{held_on, named_row}
use Rattle.mq_place.specs.Held.{held_left}
use Rattle.mq_place.proofs.HeldLaws.{listed_start, short_at}
use Rattle.mq_agents.proofs.WalkLaws.{few_none, few_next, few_done}
use Rattle.mq_agents.proofs.walking.first_held.Goals as goal

pub loop-seen-init : goal.loop-seen-init
loop-seen-init g c =
    let whole : c.args.most - 0 ≡ c.args.most = omega arith in
    record {
      told = ap (λ (n : ℕ). c.args.rows.now.rows ++ take n (held_left c.args.by.now None c.args.local.now.queue)) whole
          ∙ ap (λ (rs : List Remove). c.args.rows.now.rows ++ take c.args.most rs) (listed_start c.args.by.now c.args.local.now.queue);
      room = omega arith;
    }

pub returns-in_default-clause-rows : goal.returns-in_default-clause-rows
returns-in_default-clause-rows g c =
    sym (few_none c.loop-seen.rows.rows (c.args.most - c.loop-seen.seen) c.args.by.now c.loop-seen.after c.args.local.now.queue c.in_default.ensures) ∙ c.loop-seen.invariant.told

pub returns-in_default-clause-room : goal.returns-in_default-clause-room
returns-in_default-clause-room g c = c.loop-seen.invariant.room

pub loop-seen-preserved : goal.loop-seen-preserved
loop-seen-preserved g c =
    let q = c.args.local.now.queue in
    let row = c.in-Some.row.now in
    record {
      told = ap (λ (rs : List Remove). rs ++ take (c.args.most - (c.loop-seen.seen + 1)) (held_left c.args.by.now (Some row.place) q)) (c.in-Ok.ensures.rows ∙ ap (λ (name : List ℕ). c.loop-seen.rows.rows ++ named_row name row ∷ []) c.name.ensures)
          ∙ few_next c.loop-seen.rows.rows c.args.most c.loop-seen.seen c.args.by.now c.loop-seen.after q row c.len-len.ensures.queue.in_order (omega (arith, c.loop-seen-test.true, c.loop-seen.auto.seen-end)) c.in-Some.ensures
          ∙ c.loop-seen.invariant.told;
      room = omega (arith, c.loop-seen.invariant.room, c.in-Ok.ensures.room);
    }

pub returns-in-Err-clause-room : goal.returns-in-Err-clause-room
returns-in-Err-clause-room g c = omega (arith, c.loop-seen.invariant.room, c.in-Err.ensures.room)

pub returns-in-Err-clause-memory : goal.returns-in-Err-clause-memory
returns-in-Err-clause-memory g c =
    let q = c.args.local.now.queue in
    let row = c.in-Some.row.now in
    let named : Remove = named_row q.name row in
    let none = c.in-Err.ensures.memory in
    let short : c.loop-seen.rows.room < length (named ∷ []) = omega (arith, none) in
    short_at c.loop-seen.rows.rows (named ∷ []) (take (c.args.most - (c.loop-seen.seen + 1)) (held_left c.args.by.now (Some row.place) q)) c.args.rows.now.rows (take c.args.most (held_on c.args.by.now q)) c.args.rows.now.room c.loop-seen.rows.room
    (few_next c.loop-seen.rows.rows c.args.most c.loop-seen.seen c.args.by.now c.loop-seen.after q row c.len-len.ensures.queue.in_order (omega (arith, c.loop-seen-test.true, c.loop-seen.auto.seen-end)) c.in-Some.ensures ∙ c.loop-seen.invariant.told)
    c.loop-seen.invariant.room short

pub returns-clause-rows : goal.returns-clause-rows
returns-clause-rows g c =
    sym (few_done c.loop-seen.rows.rows c.args.most c.loop-seen.seen c.args.by.now c.loop-seen.after c.args.local.now.queue (omega (arith, c.loop-seen-test.false)))
    ∙ c.loop-seen.invariant.told

pub returns-clause-room : goal.returns-clause-room
returns-clause-room g c = c.loop-seen.invariant.room
