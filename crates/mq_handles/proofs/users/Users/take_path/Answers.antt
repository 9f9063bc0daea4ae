use Rattle.std.proofs.Common.{◌≡◌, ◌+◌, length, take, ap, arith}
use Rattle.mq_handles.specs.Users.{path_weight}
use Rattle.mq_handles.proofs.CountLaws.{path_on, path_part, path_all}
use Rattle.mq_handles.proofs.users.Users.take_path.Goals as goal

pub take_step-requires : goal.take_step-requires
take_step-requires c = λ key.
    let so_far = c.loop-step.invariant key in
    let all = c.requires key in
    let next = path_on c.args.path.now c.loop-step.step-index c.step-item.result c.loop-step-test.true c.step-item.is key in
    let some = path_part c.args.path.now (c.loop-step.step-index + 1) key in
    omega (arith, so_far, all, next, some)

pub loop-step-preserved : goal.loop-step-preserved
loop-step-preserved c = λ key.
    let so_far = c.loop-step.invariant key in
    let took = c.take_step.ensures key in
    let next = path_on c.args.path.now c.loop-step.step-index c.step-item.result c.loop-step-test.true c.step-item.is key in
    omega (arith, so_far, took, next)

pub returns : goal.returns
returns c = λ key.
    let so_far = c.loop-step.invariant key in
    let past = c.loop-step-test.false in
    let within = c.loop-step.auto.step-index-end in
    let end : c.loop-step.step-index ≡ length c.args.path.now = omega (arith, past, within) in
    let whole = ap (λ n. path_weight (take n c.args.path.now) key) end in
    let all = path_all c.args.path.now key in
    omega (arith, so_far, whole, all)
