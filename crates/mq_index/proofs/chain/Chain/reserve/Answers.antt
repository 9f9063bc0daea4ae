use Rattle.mq_index.specs.Keys.{ends_in, keyed}
use Rattle.mq_index.proofs.ChainLaws.{chain_same}
use Rattle.mq_index.proofs.chain.Chain.reserve.Goals as goal

pub returns-clause-chain : goal.returns-clause-chain
returns-clause-chain c =
    chain_same (keyed c.args.kind c.args.slots.now.items) c.args.self.now.nexts.items c.reserve.new.self.items c.args.self.now.prevs.items c.reserve-else-is_err.new.self.items (ends_in c.args.self.now.ends) (ends_in c.reserve_ends.new.ends) c.reserve.ensures.items c.reserve-else-is_err.ensures.items c.reserve_ends.ensures.same c.requires.chain
