use Rattle.std.proofs.Common.{length}
use denote.Param.Send.{sendable}
use Rattle.std.proofs.Crossing.{crosses}
use Rattle.mq_shared.proofs.ShareLists.{some_there}
use Rattle.mq_shared.proofs.SendLaws.{locked_send}
use Rattle.mq_shared.proofs.jobs.run_all.Goals as goal

pub for_each_mut-requires-sync-F : goal.for_each_mut-requires-sync-F
for_each_mut-requires-sync-F g c κs within =
    let s = c.type_bounds.send-D in
    let y = c.type_bounds.sync-R in
    let z = c.type_bounds.sync-G in
    search (crosses, sendable, locked_send) depth 60 fits 20000

pub for_each_mut-requires-clause-threads : goal.for_each_mut-requires-clause-threads
for_each_mut-requires-clause-threads g c κs within = some_there (length c.args.jobs.now) c.if-is_empty.ensures
