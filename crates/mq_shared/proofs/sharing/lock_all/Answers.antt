use Rattle.std.proofs.Common.{◌≡◌, ℕ, [], length, ap, arith, subst, ◌∙◌}
use Rattle.std.specs.Prelude.{◌≤◌, Some, slice_get}
use Rattle.mq_acts.specs.from_events.States.{NodeState}
use Rattle.mq_split.specs.Ends.{AreFree, EndsApart}
use Rattle.mq_shared.specs.Held.{cables_begun}
use Rattle.mq_split.specs.Parting.{AreEndsAt, EndRowState, ends_named, none_since}
use Rattle.mq_shared.specs.Taking.{CoursesBelow, ScriptRowState}
use Rattle.mq_shared.proofs.TakeLaws.{below_on, each_end, each_front, longer, others_on}
use Rattle.mq_shared.proofs.sharing.lock_all.Goals as goal

pub lock_one-locked-requires-clause-there : goal.lock_one-locked-requires-clause-there
lock_one-locked-requires-clause-there g c =
    ap (slice_get g.P.PhaseName.begun.nodes) c.len-manager.ensures
    ∙ each_end (λ (m : ℕ) (n : NodeState). slice_get g.P.PhaseName.begun.nodes m ≡ Some n) c.pop.new.self c.loop-node.nodes c.in-Some.node c.in-Some.ensures.last c.loop-node.invariant.nodes

pub lock_one-locked-requires-clause-ends : goal.lock_one-locked-requires-clause-ends
lock_one-locked-requires-clause-ends g c =
    let lines = c.args.scenario.now.cables in
    let rest = c.last_of-ends.new.list in
    let more = longer c.pop.new.self c.loop-node.nodes c.in-Some.node c.in-Some.ensures.last in
    let more_ends = longer rest c.loop-node.ends c.last_of-ends.result c.last_of-ends.ensures in
    let at : length rest ≡ c.len-manager.result = omega (arith, more, more_ends, c.loop-node.invariant.ends_long, c.len-manager.ensures) in
    subst (λ (m : ℕ). AreEndsAt (cables_begun g.P.PhaseName.begun) none_since (ends_named lines) m c.last_of-ends.result.ends × EndsApart c.last_of-ends.result.ends × AreFree c.last_of-ends.result.ends) at
    (each_end (λ (m : ℕ) (r : EndRowState). AreEndsAt (cables_begun g.P.PhaseName.begun) none_since (ends_named lines) m r.ends × EndsApart r.ends × AreFree r.ends) rest c.loop-node.ends c.last_of-ends.result c.last_of-ends.ensures c.loop-node.invariant.ends)

pub lock_one-locked-requires-clause-row : goal.lock_one-locked-requires-clause-row
lock_one-locked-requires-clause-row g c =
    each_end (λ (m : ℕ) (r : ScriptRowState). (r.scripts ≡ []) × (length c.args.scenario.now.scripts ≤ r.room)) c.last_of-row.new.list c.loop-node.rows c.last_of-row.result c.last_of-row.ensures c.loop-node.invariant.rows

pub lock_one-locked-requires-clause-courses : goal.lock_one-locked-requires-clause-courses
lock_one-locked-requires-clause-courses g c =
    let more = longer c.pop.new.self c.loop-node.nodes c.in-Some.node c.in-Some.ensures.last in
    c.loop-node.invariant.courses c.len-manager.result (omega (arith, more, c.len-manager.ensures))

pub loop-node-preserved : goal.loop-node-preserved
loop-node-preserved g c =
    let h = c.loop-node.invariant in
    let b = g.P.PhaseName.begun in
    let s = c.args.scenario.now in
    let more = longer c.pop.new.self c.loop-node.nodes c.in-Some.node c.in-Some.ensures.last in
    let more_ends = longer c.last_of-ends.new.list c.loop-node.ends c.last_of-ends.result c.last_of-ends.ensures in
    let more_rows = longer c.last_of-row.new.list c.loop-node.rows c.last_of-row.result c.last_of-row.ensures in
    let count = c.len-manager.ensures in
    let long_old : length c.loop-node.courses ≡ length s.scripts = h.long ∙ c.requires.long in
    let long_new : length c.lock_one-locked.new.courses ≡ length c.loop-node.courses = c.lock_one-locked.ensures.long in
    record {
      nodes = each_front (λ (m : ℕ) (n : NodeState). slice_get b.nodes m ≡ Some n) c.pop.new.self c.loop-node.nodes c.in-Some.node c.in-Some.ensures.last h.nodes;
      few = omega (arith, more, h.few);
      ends = each_front (λ (m : ℕ) (r : EndRowState). AreEndsAt (cables_begun b) none_since (ends_named s.cables) m r.ends × EndsApart r.ends × AreFree r.ends) c.last_of-ends.new.list c.loop-node.ends c.last_of-ends.result c.last_of-ends.ensures h.ends;
      ends_long = omega (arith, more, more_ends, h.ends_long);
      rows = each_front (λ (m : ℕ) (r : ScriptRowState). (r.scripts ≡ []) × (length s.scripts ≤ r.room)) c.last_of-row.new.list c.loop-node.rows c.last_of-row.result c.last_of-row.ensures h.rows;
      rows_long = omega (arith, more, more_rows, h.rows_long);
      long = long_new ∙ h.long;
      courses = subst (λ (m : ℕ). CoursesBelow (record { scenario = s; scripts = c.args.scripts.now }) b m c.lock_one-locked.new.courses) count
          (below_on (record { scenario = s; scripts = c.args.scripts.now }) b (length c.loop-node.nodes) c.len-manager.result c.loop-node.courses c.lock_one-locked.new.courses (omega (arith, more, count)) c.lock_one-locked.ensures.others h.courses);
      others = others_on (record { scenario = s; scripts = c.args.scripts.now }) c.len-manager.result c.args.courses.now c.loop-node.courses c.lock_one-locked.new.courses long_old (long_new ∙ long_old) c.lock_one-locked.ensures.others h.others;
      room = omega (arith, more, h.room, c.push_reserved.ensures.len, c.push_reserved.ensures.capacity);
      all = omega (arith, more, h.all, c.push_reserved.ensures.len);
    }
