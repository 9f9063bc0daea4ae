use Rattle.std.proofs.Common.{false, Some, arith}
use Rattle.mq_sync.specs.Settlement.{data_prepared}
use Rattle.mq_recover.proofs.SideLaws.{sides_set}
use Rattle.mq_recover.proofs.StrikeLaws.{on_ok, each_put, now_prepared}
use Rattle.mq_recover.proofs.sides.prepare.Goals as goal

pub returns-clause-ok : goal.returns-clause-ok
returns-clause-ok c =
    on_ok c.put.result c.put.ensures.ok (λ n. λ struck low. sides_set struck c.args.channel (data_prepared c.args.doubt) c.args.sides.now.entries c.take.new.sides.entries c.put.new.sides.entries c.in_ok-kept.kept
    (record { hardened = record c.in_ok-kept.kept.hardened { force = false; in_doubt = Some c.args.doubt }; since = c.args.since }) c.in_ok-kept.ensures.ok n (c.in_ok-kept.ensures.was struck) (now_prepared struck c.args.since low c.args.doubt c.in_ok-kept.kept.hardened))

pub returns-clause-kept : goal.returns-clause-kept
returns-clause-kept c = λ known listed each.
    let was = c.in_ok-kept.ensures.kept known c.args.since each in
    each_put known c.args.since c.args.channel (record { hardened = record c.in_ok-kept.kept.hardened { force = false; in_doubt = Some c.args.doubt }; since = c.args.since }) c.args.sides.now.entries c.take.new.sides.entries c.put.new.sides.entries c.put.result c.in_ok-kept.ensures.ok c.put.ensures.ok c.put.ensures.err
    (record { since_then = omega arith; listed = listed }) each
