use Rattle.std.proofs.Common.{◌∙◌}
use Rattle.mq_index.specs.Keys.{ends_in}
use Rattle.mq_index.proofs.KeyedLaws.{pushed_so}
use Rattle.mq_index.proofs.chain.Chain.push.Goals as goal

pub returns-clause-chain : goal.returns-clause-chain
returns-clause-chain c =
    pushed_so c.args.kind c.args.slots.now.items c.args.row.now c.key_by-key.result c.args.self.now.nexts.items c.push_reserved.new.self.items c.set_link.new.links.items c.args.self.now.prevs.items c.push_reserved-2.new.self.items c.ends_of-before.result c.len-at.result c.ends_behind.result c.last_in-last.result
    (ends_in c.args.self.now.ends) (ends_in c.note_ends.new.ends)
    c.requires.chain c.key_by-key.ensures c.ends_of-before.ensures (c.len-at.ensures ∙ c.args.self.now.nexts.ok.0) c.last_in-last.ensures c.ends_behind.ensures c.set_link.ensures.linked c.push_reserved.ensures.items c.push_reserved-2.ensures.items c.note_ends.ensures.noted
