use Rattle.std.proofs.Common.{◌∙◌, ap, map, subst, sym}
use Rattle.std.specs.Io.KnownBytes.{Keeps}
use Rattle.mq_disk.specs.declared.shelf.Side.TheVariants as sides
use Rattle.mq_world.specs.from_begin.Begun.{moment_or}
use Rattle.mq_spec_network.specs.Apart.{apart}
use Rattle.mq_world.specs.Words.{Began, RestState}
use Rattle.mq_run.specs.Ends.{NoneEnds}
use Rattle.mq_run.specs.declared.status.Status.TheVariants as status
use Rattle.mq_run.proofs.DiskLaws.{begun_risen}
use Rattle.mq_run.proofs.JoinLaws.{fresh}
use Rattle.mq_run.proofs.RunLaws.{begun_timed, run_apart, run_at, run_none, stays}
use Rattle.mq_run.proofs.running.run_scenario.Goals as goal

pub run_whole-requires-clause-same : goal.run_whole-requires-clause-same
run_whole-requires-clause-same g c κs within = ap (λ (w : RestState). w.scenario) c.into_rested-rested.ensures.same ∙ c.in-Ok.ensures.scenario

pub run_whole-requires-clause-fresh : goal.run_whole-requires-clause-fresh
run_whole-requires-clause-fresh g c κs within =
    let moment = moment_or c.args.scenario.now.moment c.args.start in
    fresh g.H.D.Disk.tells (λ n b. g.H.Shelf.holds c.args.shelf.now n sides.A b) c.args.scenario.now moment c.into_rested-rested.result c.into_rested-rested.ensures.rested
    (subst (λ (w : RestState). Began g.H.D.Disk.tells (λ n b. g.H.Shelf.holds c.args.shelf.now n sides.A b) c.args.scenario.now moment w) (sym c.into_rested-rested.ensures.same) c.in-Ok.ensures)

pub run_whole-requires-clause-timed : goal.run_whole-requires-clause-timed
run_whole-requires-clause-timed g c κs within =
    let moment = moment_or c.args.scenario.now.moment c.args.start in
    begun_timed g.H.D.Disk.tells (λ n b. g.H.Shelf.holds c.args.shelf.now n sides.A b) c.args.scenario.now c.args.start c.into_rested-rested.result c.requires.scenario c.into_rested-rested.ensures.rested
    (subst (λ (w : RestState). Began g.H.D.Disk.tells (λ n b. g.H.Shelf.holds c.args.shelf.now n sides.A b) c.args.scenario.now moment w) (sym c.into_rested-rested.ensures.same) c.in-Ok.ensures)

pub run_whole-requires-clause-together : goal.run_whole-requires-clause-together
run_whole-requires-clause-together g c κs within =
    (λ i. apart (sym c.in-Ok.ensures.scenario i) ((c.into_rested-rested.ensures.same i).histories)) ∙ sym c.apart-apart.ensures ∙ c.in-None.is

pub returns-in-Err-clause-ends : goal.returns-in-Err-clause-ends
returns-in-Err-clause-ends g c =
    let held = g.K.Sink.held c.args.sink.now in
    let counts = map g.H.D.Disk.faults c.in-Err.none.disks.items in
    subst (λ st. NoneEnds g.H.D.Disk.tells (λ n b. g.H.Shelf.holds c.args.shelf.now n sides.A b) c.args.start c.args.scenario.now (g.H.Shelf.faults c.args.shelf.now) (g.H.Shelf.faults c.begin.new.shelf) counts st × Keeps held held) (sym c.net_status.ensures)
    (run_none c.args.form g.H.D.Disk.tells (λ n b. g.H.Shelf.holds c.args.shelf.now n sides.A b) c.args.start c.args.scenario.now (g.H.Shelf.faults c.args.shelf.now) (g.H.Shelf.faults c.begin.new.shelf) held held counts c.in-Err.none.fault c.in-Err.ensures (stays held))

pub returns-in-Some-clause-ends : goal.returns-in-Some-clause-ends
returns-in-Some-clause-ends g c =
    let held = g.K.Sink.held c.args.sink.now in
    let counts = map g.H.D.Disk.faults c.ended_with.result.disks.items in
    let moment = moment_or c.args.scenario.now.moment c.args.start in
    run_at c.args.form g.H.D.Disk.tells (λ n b. g.H.Shelf.holds c.args.shelf.now n sides.A b) c.args.start c.args.scenario.now (g.H.Shelf.faults c.args.shelf.now) (g.H.Shelf.faults c.begin.new.shelf) held held c.into_rested-rested.result c.ended_with.result.status
    (status.Apart c.in-Some.found) c.ended_with.result.network counts c.ended_with.ensures.status c.ended_with.ensures.network
    (run_apart c.args.form g.H.D.Disk.tells (λ n b. g.H.Shelf.holds c.args.shelf.now n sides.A b) c.args.start c.args.scenario.now c.into_rested-rested.result (g.H.Shelf.faults c.args.shelf.now) (g.H.Shelf.faults c.begin.new.shelf) held held counts c.in-Some.found
    c.into_rested-rested.ensures.rested
    (subst (λ (w : RestState). Began g.H.D.Disk.tells (λ n b. g.H.Shelf.holds c.args.shelf.now n sides.A b) c.args.scenario.now moment w) (sym c.into_rested-rested.ensures.same) c.in-Ok.ensures)
    (ap (map g.H.D.Disk.faults) c.ended_with.ensures.disks)
    ((λ i. apart (sym c.in-Ok.ensures.scenario i) ((c.into_rested-rested.ensures.same i).histories)) ∙ sym c.apart-apart.ensures ∙ c.in-Some.is) (stays held))

pub returns-in-Some-clause-risen : goal.returns-in-Some-clause-risen
returns-in-Some-clause-risen g c =
    let moment = moment_or c.args.scenario.now.moment c.args.start in
    begun_risen g.H.D.Disk.tells (λ n b. g.H.Shelf.holds c.args.shelf.now n sides.A b) moment c.args.scenario.now c.into_rested-rested.result c.ended_with.result.network c.ended_with.ensures.network
    c.into_rested-rested.ensures.rested
    (subst (λ (w : RestState). Began g.H.D.Disk.tells (λ n b. g.H.Shelf.holds c.args.shelf.now n sides.A b) c.args.scenario.now moment w) (sym c.into_rested-rested.ensures.same) c.in-Ok.ensures)
