use Rattle.std.proofs.Common.{◌≡◌, ◌+◌, ◌-◌, subst, arith}
use Rattle.mq_net_apart.specs.from_net_rows.Homes.{home_of}
use Rattle.mq_net_ledger.specs.Reasons.{AreTo}
use Rattle.mq_net_ledger.proofs.ReasonLaws.{told_next}
use Rattle.mq_net_ledger.proofs.reasons.places_told.Goals as goal

pub noting-preserved : goal.noting-preserved
noting-preserved c =
    let lt = c.noting-test.true in
    let less : c.noting.left ≡ (c.noting.left - 1) + 1 = omega (arith, lt) in
    told_next c.args.delta.now (c.noting.left - 1) c.noting.left (home_of c.noting.known) (home_of c.note_at.new.known) c.noting.invariant less c.in_ok-note_at.ensures

pub returns : goal.returns
returns c =
    let past = c.noting-test.false in
    let end : c.noting.left ≡ 0 = omega (arith, past) in
    subst (λ n. AreTo n (home_of c.noting.known) c.args.delta.now) end c.noting.invariant
