use Rattle.std.proofs.Common.{Some, None}
use Rattle.mq_sync.specs.Settlement.{data_settled, settle_by}
use Rattle.mq_recover.proofs.SideLaws.{sides_set}
use Rattle.mq_recover.proofs.StrikeLaws.{on_ok, each_put, now_settled}
use Rattle.mq_recover.proofs.sides.settle.Goals as goal

pub returns-clause-ok : goal.returns-clause-ok
returns-clause-ok c =
    on_ok c.put.result c.put.ensures.ok (λ n. λ struck. sides_set struck c.args.channel (data_settled (Some (settle_by c.args.commit))) c.args.sides.now.entries c.take.new.sides.entries c.put.new.sides.entries c.in_ok-kept.kept
    (record c.in_ok-kept.kept { hardened = record c.in_ok-kept.kept.hardened { last = c.last_settled-kept.result; in_doubt = None } }) c.in_ok-kept.ensures.ok n (c.in_ok-kept.ensures.was struck) (now_settled struck c.args.commit c.in_ok-kept.kept c.last_settled-kept.result c.last_settled-kept.ensures))

pub returns-clause-kept : goal.returns-clause-kept
returns-clause-kept c = λ known clock each.
    let was = c.in_ok-kept.ensures.kept known clock each in
    each_put known clock c.args.channel (record c.in_ok-kept.kept { hardened = record c.in_ok-kept.kept.hardened { last = c.last_settled-kept.result; in_doubt = None } }) c.args.sides.now.entries c.take.new.sides.entries c.put.new.sides.entries c.put.result c.in_ok-kept.ensures.ok c.put.ensures.ok c.put.ensures.err
    (record { since_then = was.since_then; listed = tt }) each
