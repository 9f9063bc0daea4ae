use Rattle.std.proofs.Common.{arith, refl, subst, sym}
use Rattle.std.proofs.lemmas.Option.{slice_get_read}
use Rattle.mq_index.specs.declared.keys.Key.{Key}
use Rattle.mq_index.specs.Chains.{StandsAt}
use Rattle.mq_index.specs.Keys.{ends_in, keyed}
use Rattle.mq_index.proofs.ChainLaws.{has_ends, place_within, stands_within}
use Rattle.mq_index.proofs.KeyedLaws.{stands_there, unlinked_so}
use Rattle.mq_index.proofs.chain.Chain.unlink.Goals as goal

pub index-prev-requires : goal.index-prev-requires
index-prev-requires c =
    let lt = stands_within _ c.args.at _ (stands_there c.args.kind c.args.slots.now.items c.args.at c.args.row.now c.requires.there) in
    omega (arith, lt, c.requires.chain.long_back, c.args.self.now.prevs.ok)

pub index-next-requires : goal.index-next-requires
index-next-requires c =
    let lt = stands_within _ c.args.at _ (stands_there c.args.kind c.args.slots.now.items c.args.at c.args.row.now c.requires.there) in
    omega (arith, lt, c.requires.chain.long, c.args.self.now.nexts.ok)

pub returns-in_default-clause-chain : goal.returns-in_default-clause-chain
returns-in_default-clause-chain c =
    has_ends c.key_by-key.result (keyed c.args.kind c.args.slots.now.items) c.args.self.now.nexts.items c.args.self.now.prevs.items (ends_in c.args.self.now.ends) c.args.at c.requires.chain
    (subst (λ (k : Key). StandsAt k c.args.at (keyed c.args.kind c.args.slots.now.items)) (sym c.key_by-key.ensures) (stands_there c.args.kind c.args.slots.now.items c.args.at c.args.row.now c.requires.there)) (sym c.in_default.ensures)

pub set_link-requires : goal.set_link-requires
set_link-requires c =
    let here = stands_there c.args.kind c.args.slots.now.items c.args.at c.args.row.now c.requires.there in
    let lt = stands_within _ c.args.at _ here in
    let back = slice_get_read c.args.self.now.prevs.items _ c.args.at c.index-prev.result.now refl (omega (arith, lt, c.requires.chain.long_back)) c.index-prev.ensures in
    record { there = place_within _ (keyed c.args.kind c.args.slots.now.items) c.index-prev.result.now _ c.requires.chain.long (c.requires.chain.backs _ c.args.at c.index-prev.result.now here back).before }

pub set_link-requires-2 : goal.set_link-requires-2
set_link-requires-2 c =
    let here = stands_there c.args.kind c.args.slots.now.items c.args.at c.args.row.now c.requires.there in
    let lt = stands_within _ c.args.at _ here in
    let link = slice_get_read c.args.self.now.nexts.items _ c.args.at c.index-next.result.now refl (omega (arith, lt, c.requires.chain.long)) c.index-next.ensures in
    record { there = place_within _ (keyed c.args.kind c.args.slots.now.items) c.index-next.result.now _ c.requires.chain.long_back (c.requires.chain.steps _ c.args.at c.index-next.result.now here link).behind }

pub returns-clause-chain : goal.returns-clause-chain
returns-clause-chain c =
    let here = stands_there c.args.kind c.args.slots.now.items c.args.at c.args.row.now c.requires.there in
    let lt = stands_within _ c.args.at _ here in
    unlinked_so c.args.kind c.args.slots.now.items c.args.at c.args.row.now c.key_by-key.result c.args.self.now.nexts.items c.set_link.new.links.items c.args.self.now.prevs.items c.set_link-2.new.links.items c.in-Some.ends c.index-prev.result.now c.index-next.result.now c.ends_without.result
    (ends_in c.args.self.now.ends) (ends_in c.set_ends.new.ends)
    c.requires.chain c.key_by-key.ensures c.requires.there (sym c.in-Some.ensures)
    (slice_get_read c.args.self.now.prevs.items _ c.args.at c.index-prev.result.now refl (omega (arith, lt, c.requires.chain.long_back)) c.index-prev.ensures)
    (slice_get_read c.args.self.now.nexts.items _ c.args.at c.index-next.result.now refl (omega (arith, lt, c.requires.chain.long)) c.index-next.ensures)
    c.ends_without.ensures c.set_ends.ensures.noted c.set_link.ensures.linked c.set_link-2.ensures.linked
