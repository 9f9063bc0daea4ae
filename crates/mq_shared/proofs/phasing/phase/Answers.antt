use Rattle.std.proofs.Common.{List, subst, sym}
use Rattle.std.specs.Prelude.{Err, Ok}
use Rattle.mq_nodes.specs.declared.nodes.Stop.TheVariants as stops
use Rattle.mq_ways.specs.Ways.{CableState}
use Rattle.mq_split.specs.declared.opening.Pipes.{Pipes}
use Rattle.mq_split.specs.Opening.{AreOpen}
use Rattle.mq_shared.specs.Phasing.{PhaseRan}
use Rattle.mq_shared.proofs.OverLaws.{low_cables}
use Rattle.mq_shared.proofs.RanLaws.{nothing_ran}
use Rattle.mq_shared.proofs.phasing.phase.Goals as goal

pub returns-then-not-are_short-clause-ran : goal.returns-then-not-are_short-clause-ran
returns-then-not-are_short-clause-ran g c =
    nothing_ran c.args.scenario.now c.args.scripts.now c.args.nodes.now c.args.courses.now c.keep_deadlines.new.courses c.args.cables.now (Ok tt) c.requires c.keep_deadlines.ensures.long c.keep_deadlines.ensures.left c.requires.ready

pub open_cables-requires-clause-low : goal.open_cables-requires-clause-low
open_cables-requires-clause-low g c = low_cables c.args.scenario.now c.args.scripts.now c.args.nodes.now c.args.courses.now c.args.cables.now c.requires

pub run-requires-clause-open : goal.run-requires-clause-open
run-requires-clause-open g c κs within = subst (λ (ps : List Pipes). AreOpen ps c.in-Ok.passes.items) (sym c.as_slice.ensures.value) c.in-Ok.ensures.open

pub returns-in-Err-clause-ran : goal.returns-in-Err-clause-ran
returns-in-Err-clause-ran g c =
    let s = c.args.scenario.now in
    let ks = c.args.scripts.now in
    let ns = c.args.nodes.now in
    let kept = c.keep_deadlines-in-Err in
    subst (λ (ws : List CableState). PhaseRan s ks ns (Err stops.NoMemory) ns kept.new.courses ws) (sym c.in-Err.ensures.err)
    (nothing_ran s ks ns c.args.courses.now kept.new.courses c.args.cables.now (Err stops.NoMemory) c.requires kept.ensures.long kept.ensures.left tt)
