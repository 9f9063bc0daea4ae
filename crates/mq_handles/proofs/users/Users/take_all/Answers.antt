use Rattle.std.proofs.Common.{◌≡◌, ◌+◌, length, take, ap, arith}
use Rattle.mq_handles.specs.Users.{weight_of, handle_weight}
use Rattle.mq_handles.proofs.CountLaws.{handle_on, handle_part, handle_all}
use Rattle.mq_handles.proofs.users.Users.take_all.Goals as goal

pub take-requires : goal.take-requires
take-requires c = λ key.
    let so_far = c.loop-handle.invariant key in
    let all = c.requires key in
    let next = handle_on c.args.handles.now c.loop-handle.handle-index c.handle-item.result c.loop-handle-test.true c.handle-item.is key in
    let some = handle_part c.args.handles.now (c.loop-handle.handle-index + 1) key in
    omega (arith, so_far, all, next, some)

pub loop-handle-preserved : goal.loop-handle-preserved
loop-handle-preserved c = λ key.
    let so_far = c.loop-handle.invariant key in
    let took = c.take.ensures key in
    let next = handle_on c.args.handles.now c.loop-handle.handle-index c.handle-item.result c.loop-handle-test.true c.handle-item.is key in
    omega (arith, so_far, took, next)

pub returns : goal.returns
returns c = λ key.
    let so_far = c.loop-handle.invariant key in
    let past = c.loop-handle-test.false in
    let within = c.loop-handle.auto.handle-index-end in
    let end : c.loop-handle.handle-index ≡ length c.args.handles.now = omega (arith, past, within) in
    let whole = ap (λ n. weight_of (handle_weight key) (take n c.args.handles.now)) end in
    let all = handle_all c.args.handles.now key in
    omega (arith, so_far, whole, all)
