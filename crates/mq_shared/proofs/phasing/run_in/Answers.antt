use Rattle.std.proofs.Common.{◌≡◌, List, length, ap, arith, rules, subst, sym, ◌∙◌}
use Rattle.std.specs.Prelude.{slice_get}
use Rattle.mq_acts.specs.from_events.States.{NodeState}
use Rattle.mq_split.specs.Opening.{wholes}
use Rattle.mq_split.specs.Parting.{AllFree}
use Rattle.mq_split.specs.Took.{EndState}
use Rattle.mq_shared.specs.Taking.{AreBack, AreOut, Asked, Begins, OwnOut}
use Rattle.mq_shared.proofs.OverLaws.{among_over, begins_over, begun_over, courses_over, ends_over, few_cables, few_managers, joined_over, long_whole, nodes_over, own_over, ran_over, wait_over}
use Rattle.mq_shared.proofs.RanLaws.{short_behind}
use Rattle.mq_shared.proofs.phasing.run_in.Goals as goal

pub part_cables-requires : goal.part_cables-requires
part_cables-requires g c κs within =
    let s = c.args.scenario.now in
    let ks = c.args.scripts.now in
    let ns = c.args.nodes.now in
    let cs = c.args.courses.now in
    let ws = wholes c.args.passes.items c.args.cables.now in
    let ps = c.args.pipes.now in
    let b = g.P.PhaseName.begun in
    let may = c.requires.1.1.1.1.1.1.1.1.1.1.1.0 in
    let is = c.requires.1.1.1.1.1.1.1.1.1.1.0 in
    let ls = c.as_slice-lines.result.now in
    let lines = c.as_slice-lines.ensures in
    let all = c.requires.1.1.1.1.1.1.1.1.1.1.1.1.1.0 in
    let room = c.requires.1.1.1.1.1.1.1.1.1.1.1.1.1.1.1.0 in
    let long = long_whole c.args.passes.items c.args.cables.now in
    let long_lines = ap length lines in
    let few = few_cables s ks ns cs ws ps b may is in (
      search rules,
      (
        c.requires.1.1.1.1.1.1.1.1.1.1.1.1.0,
        (
          c.requires.1.1.1.1.1.1.1.1.1.1.1.1.1.1.0,
          (
            begun_over s ks ns cs ws ps b may is ls lines,
            (
              (omega (arith, long_lines, may.cables, long, all.1), sym all.1, omega (arith, few, long, all.1)),
              (
                joined_over s ks ns cs ws ps b may is ls lines,
                (among_over s ks ns cs ws ps b may is ls (length c.args.room.ends) lines room.0, (λ i x at. let y = room.1 i x at in let most = y.1 in (y.0, omega (arith, most, all.1)))),
              ),
            ),
          ),
        ),
      ),
    )

pub lock_all-locks-requires-clause-begins : goal.lock_all-locks-requires-clause-begins
lock_all-locks-requires-clause-begins g c =
    let s = c.args.scenario.now in
    let ks = c.args.scripts.now in
    let ns = c.args.nodes.now in
    let cs = c.args.courses.now in
    let ws = wholes c.args.passes.items c.args.cables.now in
    let ps = c.args.pipes.now in
    let b = g.P.PhaseName.begun in
    let may = c.requires.1.1.1.1.1.1.1.1.1.1.1.0 in
    let is = c.requires.1.1.1.1.1.1.1.1.1.1.0 in
    begins_over s ks ns cs ws ps b may is

pub lock_all-locks-requires-clause-nodes : goal.lock_all-locks-requires-clause-nodes
lock_all-locks-requires-clause-nodes g c =
    let s = c.args.scenario.now in
    let ks = c.args.scripts.now in
    let ns = c.args.nodes.now in
    let cs = c.args.courses.now in
    let ws = wholes c.args.passes.items c.args.cables.now in
    let ps = c.args.pipes.now in
    let b = g.P.PhaseName.begun in
    let may = c.requires.1.1.1.1.1.1.1.1.1.1.1.0 in
    let is = c.requires.1.1.1.1.1.1.1.1.1.1.0 in
    let value = c.replace-taken.ensures.value in
    let long = ap length value in
    ((λ m n at. nodes_over s ks ns cs ws ps b may is m n (ap (λ (l : List NodeState). slice_get l m) (sym value) ∙ at)), omega (arith, long, may.managers))

pub lock_all-locks-requires-clause-ends : goal.lock_all-locks-requires-clause-ends
lock_all-locks-requires-clause-ends g c =
    let s = c.args.scenario.now in
    let ks = c.args.scripts.now in
    let ns = c.args.nodes.now in
    let cs = c.args.courses.now in
    let ws = wholes c.args.passes.items c.args.cables.now in
    let ps = c.args.pipes.now in
    let b = g.P.PhaseName.begun in
    let may = c.requires.1.1.1.1.1.1.1.1.1.1.1.0 in
    let is = c.requires.1.1.1.1.1.1.1.1.1.1.0 in
    let ls = c.as_slice-lines.result.now in
    let lines = c.as_slice-lines.ensures in
    let value = c.replace-taken.ensures.value in
    let long = ap length value in
    let room = c.requires.1.1.1.1.1.1.1.1.1.1.1.1.1.1.1.0 in
    let parted = c.part_cables.ensures.all in
    (wait_over s ks ns cs ws ps b may is ls c.part_cables.new.ends lines c.part_cables.ensures.ends c.part_cables.ensures.apart c.part_cables.ensures.free, omega (arith, parted.0, room.0, long))

pub lock_all-locks-requires-clause-rows : goal.lock_all-locks-requires-clause-rows
lock_all-locks-requires-clause-rows g c =
    let s = c.args.scenario.now in
    let ks = c.args.scripts.now in
    let ns = c.args.nodes.now in
    let cs = c.args.courses.now in
    let ws = wholes c.args.passes.items c.args.cables.now in
    let ps = c.args.pipes.now in
    let b = g.P.PhaseName.begun in
    let may = c.requires.1.1.1.1.1.1.1.1.1.1.1.0 in
    let is = c.requires.1.1.1.1.1.1.1.1.1.1.0 in
    let value = c.replace-taken.ensures.value in
    let long = ap length value in
    let room = c.requires.1.1.1.1.1.1.1.1.1.1.1.1.1.1.1.1.0 in
    ((λ m r at. let y = room.1 m r at in let most = y.1 in (y.0, omega (arith, most, may.scripts))), omega (arith, room.0, long))

pub lock_all-locks-requires-clause-courses : goal.lock_all-locks-requires-clause-courses
lock_all-locks-requires-clause-courses g c =
    let s = c.args.scenario.now in
    let ks = c.args.scripts.now in
    let ns = c.args.nodes.now in
    let cs = c.args.courses.now in
    let ws = wholes c.args.passes.items c.args.cables.now in
    let ps = c.args.pipes.now in
    let b = g.P.PhaseName.begun in
    let may = c.requires.1.1.1.1.1.1.1.1.1.1.1.0 in
    let is = c.requires.1.1.1.1.1.1.1.1.1.1.0 in
    courses_over s ks ns cs ws ps b may is (length c.replace-taken.result)

pub take_all-wants-requires : goal.take_all-wants-requires
take_all-wants-requires g c κs within =
    let s = c.args.scenario.now in
    let ks = c.args.scripts.now in
    let ns = c.args.nodes.now in
    let cs = c.args.courses.now in
    let ws = wholes c.args.passes.items c.args.cables.now in
    let ps = c.args.pipes.now in
    let b = g.P.PhaseName.begun in
    let may = c.requires.1.1.1.1.1.1.1.1.1.1.1.0 in
    let is = c.requires.1.1.1.1.1.1.1.1.1.1.0 in
    let asked = c.requires.1.1.1.1.1.1.1.1.1.0 in
    let locked = c.lock_all-locks.ensures.all in
    let taken = ap length c.replace-taken.ensures.value in
    let none = c.requires.1.1.1.1.1.1.1.1.1.1.1.1.1.1.1.1.1.0.0 in
    let nodes = c.requires.1.1.1.1.1.1.1.1.1.1.1.1.1.1.1.1.1.1.0 in
    let back = c.requires.1.1.1.1.1.1.1.1.1.1.1.1.1.1.1.1.1.1.1 in
    let long = c.lock_all-locks.ensures.long in
    let all = ap (λ (x : Asked). length x.scenario.scripts) asked in (
      search rules,
      (
        search rules,
        (
          search rules,
          (
            subst (λ (x : Asked). Begins x b) (sym asked) (begins_over s ks ns cs ws ps b may is),
            (
              (nodes.0, back.0),
              ((omega (arith, locked, taken, none, nodes.1), omega (arith, locked, taken, none, back.1)), omega (arith, long, may.scripts, all)),
            ),
          ),
        ),
      ),
    )

pub join_back-requires : goal.join_back-requires
join_back-requires g c κs within =
    let s = c.args.scenario.now in
    let ks = c.args.scripts.now in
    let ns = c.args.nodes.now in
    let cs = c.args.courses.now in
    let ws = wholes c.args.passes.items c.args.cables.now in
    let ps = c.args.pipes.now in
    let b = g.P.PhaseName.begun in
    let may = c.requires.1.1.1.1.1.1.1.1.1.1.1.0 in
    let is = c.requires.1.1.1.1.1.1.1.1.1.1.0 in
    let ls = c.as_slice-lines.result.now in
    let lines = c.as_slice-lines.ensures in
    let all_out = c.take_all-wants.ensures.all in
    let locked = c.lock_all-locks.ensures.all in
    let taken = ap length c.replace-taken.ensures.value in
    let none = c.requires.1.1.1.1.1.1.1.1.1.1.1.1.1.1.1.1.1.0.0 in
    let now = c.from_vec.ensures in
    let rows = c.from_vec-2.ensures in
    let long_now = ap length now in
    let long_rows = ap length rows in
    let count : length c.from_vec.result ≡ length ns = omega (arith, long_now, all_out.0, locked, taken, none) in
    let count_rows : length c.from_vec-2.result ≡ length ns = omega (arith, long_rows, all_out.1, locked, taken, none) in
    let out : AreOut b c.from_vec.result c.from_vec-2.result = subst (λ (l : List NodeState). AreOut b l c.from_vec-2.result) (sym now) (subst (λ (l : List (List EndState)). AreOut b c.take_all-wants.new.nodes.items l) (sym rows) c.take_all-wants.ensures.out) in
    let all = c.requires.1.1.1.1.1.1.1.1.1.1.1.1.1.0 in
    let parted = c.part_cables.ensures.all in
    let long = long_whole c.args.passes.items c.args.cables.now in
    let long_lines = ap length lines in (
      search rules,
      (
        search rules,
        (
          begun_over s ks ns cs ws ps b may is ls lines,
          (
            (omega (arith, all.0, long_lines, may.cables, long), omega (arith, parted.1, long_lines, may.cables, long)),
            (among_over s ks ns cs ws ps b may is ls (length c.from_vec-2.result) lines count_rows, (ends_over s ks ns cs ws ps b may is ls c.from_vec.result c.from_vec-2.result lines count count_rows out, c.part_cables.ensures.bare)),
          ),
        ),
      ),
    )

pub phase_ends-requires-clause-done : goal.phase_ends-requires-clause-done
phase_ends-requires-clause-done g c = λ lacks m n at. c.take_all-wants.ensures.done lacks m n (ap (λ (l : List NodeState). slice_get l m) (sym c.from_vec.ensures) ∙ at)

pub phase_ends-requires-clause-few : goal.phase_ends-requires-clause-few
phase_ends-requires-clause-few g c =
    let s = c.args.scenario.now in
    let ks = c.args.scripts.now in
    let ns = c.args.nodes.now in
    let cs = c.args.courses.now in
    let ws = wholes c.args.passes.items c.args.cables.now in
    let ps = c.args.pipes.now in
    let b = g.P.PhaseName.begun in
    let may = c.requires.1.1.1.1.1.1.1.1.1.1.1.0 in
    let is = c.requires.1.1.1.1.1.1.1.1.1.1.0 in
    let all = c.take_all-wants.ensures.all in
    let locked = c.lock_all-locks.ensures.all in
    let taken = ap length c.replace-taken.ensures.value in
    let none = c.requires.1.1.1.1.1.1.1.1.1.1.1.1.1.1.1.1.1.0.0 in
    let now = c.from_vec.ensures in
    let rows = c.from_vec-2.ensures in
    let long_now = ap length now in
    let long_rows = ap length rows in
    let count : length c.from_vec.result ≡ length ns = omega (arith, long_now, all.0, locked, taken, none) in
    let count_rows : length c.from_vec-2.result ≡ length ns = omega (arith, long_rows, all.1, locked, taken, none) in
    let out : AreOut b c.from_vec.result c.from_vec-2.result = subst (λ (l : List NodeState). AreOut b l c.from_vec-2.result) (sym now) (subst (λ (l : List (List EndState)). AreOut b c.take_all-wants.new.nodes.items l) (sym rows) c.take_all-wants.ensures.out) in
    let few = few_managers s ks ns cs ws ps b may is in
    omega (arith, few, count)

pub returns-clause-ran : goal.returns-clause-ran
returns-clause-ran g c =
    let s = c.args.scenario.now in
    let ks = c.args.scripts.now in
    let ns = c.args.nodes.now in
    let cs = c.args.courses.now in
    let ws = wholes c.args.passes.items c.args.cables.now in
    let ps = c.args.pipes.now in
    let b = g.P.PhaseName.begun in
    let may = c.requires.1.1.1.1.1.1.1.1.1.1.1.0 in
    let is = c.requires.1.1.1.1.1.1.1.1.1.1.0 in
    let ls = c.as_slice-lines.result.now in
    let lines = c.as_slice-lines.ensures in
    let all = c.take_all-wants.ensures.all in
    let locked = c.lock_all-locks.ensures.all in
    let taken = ap length c.replace-taken.ensures.value in
    let none = c.requires.1.1.1.1.1.1.1.1.1.1.1.1.1.1.1.1.1.0.0 in
    let now = c.from_vec.ensures in
    let rows = c.from_vec-2.ensures in
    let long_now = ap length now in
    let long_rows = ap length rows in
    let count : length c.from_vec.result ≡ length ns = omega (arith, long_now, all.0, locked, taken, none) in
    let count_rows : length c.from_vec-2.result ≡ length ns = omega (arith, long_rows, all.1, locked, taken, none) in
    let out : AreOut b c.from_vec.result c.from_vec-2.result = subst (λ (l : List NodeState). AreOut b l c.from_vec-2.result) (sym now) (subst (λ (l : List (List EndState)). AreOut b c.take_all-wants.new.nodes.items l) (sym rows) c.take_all-wants.ensures.out) in
    let asked = c.requires.1.1.1.1.1.1.1.1.1.0 in
    let long = long_whole c.args.passes.items c.args.cables.now in
    ran_over s ks ns cs ws ps b may is g.q ls c.from_vec.result c.from_vec-2.result c.lock_all-locks.new.courses c.take_all-wants.new.courses c.join_back.new.cables c.phase_ends.result asked lines count count_rows out
    (c.take_all-wants.ensures.long ∙ c.lock_all-locks.ensures.long) c.lock_all-locks.ensures.others c.take_all-wants.ensures.others
    (subst (λ (l : List NodeState). AreBack g.q b l c.take_all-wants.new.courses) (sym now) c.take_all-wants.ensures.back)
    (c.join_back.ensures.all ∙ c.part_cables.ensures.all.1 ∙ sym long) c.join_back.ensures.joined c.phase_ends.ensures.ends

pub returns-clause-own : goal.returns-clause-own
returns-clause-own g c =
    let s = c.args.scenario.now in
    let ks = c.args.scripts.now in
    let ns = c.args.nodes.now in
    let cs = c.args.courses.now in
    let ws = wholes c.args.passes.items c.args.cables.now in
    let ps = c.args.pipes.now in
    let b = g.P.PhaseName.begun in
    let may = c.requires.1.1.1.1.1.1.1.1.1.1.1.0 in
    let is = c.requires.1.1.1.1.1.1.1.1.1.1.0 in
    λ tells. own_over s ks ns cs ws ps b may is c.from_vec.result (subst (λ (l : List NodeState). OwnOut b l) (sym c.from_vec.ensures) (c.take_all-wants.ensures.own tells))

pub returns-clause-short : goal.returns-clause-short
returns-clause-short g c =
    short_behind c.take_all-wants.result c.phase_ends.result c.join_back.new.cables c.phase_ends.ensures.lacks
    (λ none. c.join_back.ensures.short (subst (λ (l : List (List EndState)). AllFree l) (sym c.from_vec-2.ensures) (c.take_all-wants.ensures.free none)))
