use Rattle.std.proofs.Common.{map}
use Rattle.std.specs.Prelude.{option_map}
use Rattle.std.specs.String.{string_bytes}
use Rattle.mq_disk.specs.declared.shelf.Side.TheVariants as sides
use Rattle.mq_run.specs.Leaves.{left_of}
use Rattle.mq_top.specs.Wanted.{task_of}
use Rattle.mq_run.proofs.DiskLaws.{disk_rose}
use Rattle.mq_top.proofs.Disks.{ran_of}
use Rattle.mq_top.proofs.Ending.{completes}
use Rattle.mq_top.proofs.top.mqnet.Goals as goal

pub returns-clause-complete : goal.returns-clause-complete
returns-clause-complete g c =
    completes (task_of (map string_bytes c.args.words.now)) (g.S.Source.left c.args.source.now) g.H.D.Disk.tells (λ n b. g.H.Shelf.holds c.args.shelf.now n sides.A b) c.args.start (g.H.Shelf.faults c.args.shelf.now) (g.H.Shelf.faults c.obey_words.new.shelf)
    (g.K.Sink.held c.args.sink.now) (g.K.Sink.held c.obey_words.new.sink) c.obey_words.result.status (option_map left_of c.obey_words.result.network) (map g.H.D.Disk.faults c.obey_words.result.disks.items)
    (g.S.Source.faults c.args.source.now) (g.S.Source.faults c.obey_words.new.source) (g.K.Sink.faults c.args.sink.now) (g.K.Sink.faults c.obey_words.new.sink)
    c.obey_words.ensures.ends c.obey_words.ensures.bad_scenario c.obey_words.ensures.read_fault c.obey_words.ensures.write_fault c.obey_words.ensures.too_long

pub returns-clause-disk_fault : goal.returns-clause-disk_fault
returns-clause-disk_fault g c = λ e.
    let tells = g.H.D.Disk.tells in
    let ran = ran_of (task_of (map string_bytes c.args.words.now)) (g.S.Source.left c.args.source.now) tells (λ n b. g.H.Shelf.holds c.args.shelf.now n sides.A b) c.args.start (g.H.Shelf.faults c.args.shelf.now) (g.H.Shelf.faults c.obey_words.new.shelf)
    (g.K.Sink.held c.args.sink.now) (g.K.Sink.held c.obey_words.new.sink) c.obey_words.result.status (option_map left_of c.obey_words.result.network) (map g.H.D.Disk.faults c.obey_words.result.disks.items) c.obey_words.ensures.ends e in
    disk_rose ran.form tells (λ n b. g.H.Shelf.holds c.args.shelf.now n sides.A b) c.args.start ran.scenario (g.H.Shelf.faults c.args.shelf.now) (g.H.Shelf.faults c.obey_words.new.shelf)
    (g.K.Sink.held c.args.sink.now) (g.K.Sink.held c.obey_words.new.sink) c.obey_words.result.status c.obey_words.result.network (map g.H.D.Disk.faults c.obey_words.result.disks.items) ran.ended c.obey_words.ensures.risen e
