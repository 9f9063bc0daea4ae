use Rattle.std.proofs.Common.{ap, arith}
use Rattle.mq_calls.specs.Words.{PathStep}
use Rattle.mq_handles.specs.Users.{key_weight}
use Rattle.mq_handles.proofs.CountLaws.{path_on}
use Rattle.mq_handles.proofs.users.Users.add_path.Goals as goal

pub loop-at-preserved : goal.loop-at-preserved
loop-at-preserved c = λ key.
    let so_far = c.loop-at.invariant key in
    let more = c.in-Ok.ensures.ok key in
    let next = path_on c.args.path.now c.loop-at.at c.index-path-at.result c.loop-at-test.true c.index-path-at.is key in
    let same = ap (λ (s : PathStep). key_weight key s) c.index-path-at.is in
    omega (arith, so_far, more, next, same)
