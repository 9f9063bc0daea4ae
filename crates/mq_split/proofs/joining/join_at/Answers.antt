use Rattle.std.proofs.Common.{ℕ, false, true, List, ◌++◌, refl, sym, ap, subst, ◌∙◌, arith, rules}
use Rattle.std.specs.Prelude.{IfSome, Option, slice_get, slice_set}
use Rattle.std.proofs.lemmas.Option.{slice_get_read}
use Rattle.atomic_table.specs.Seated.{TableId}
use Rattle.mq_history.specs.declared.scenario.CableLine.{CableLine}
use Rattle.mq_ways.specs.Ways.{CableState}
use Rattle.mq_split.specs.Opening.{IsBare, IsShort}
use Rattle.mq_split.specs.Parting.{AreEnds, IsJoinedAt, back_queue, named_at, out_queue}
use Rattle.mq_split.proofs.PlaceLaws.{get_map, set_mine}
use Rattle.mq_split.proofs.PartLaws.{are_left, are_pair, far_some, free_less, joined_here, near_is, some_end, taken_long}
use Rattle.mq_split.proofs.joining.join_at.Goals as goal

pub take_end-near-requires-clause-some : goal.take_end-near-requires-clause-some
take_end-near-requires-clause-some g c =
    let P = g.p.passed in
    let b = P.begun in
    let k = c.args.at in
    let r = c.requires.1 in
    let l = c.index-lines-at.result in
    let line = slice_get_read _ _ _ _ refl r.0.0 c.index-lines-at.is in
    let h = subst (λ (o : Option CableLine). IfSome o (λ (x : CableLine). AreEnds b P.since (λ m. g.p.names m ++ named_at x.receiver m k false ++ named_at x.sender m k true) c.args.ends.now)) line r.1.1.1.0 in
    some_end b P.since (λ m. g.p.names m ++ named_at l.receiver m k false) l.sender k true c.args.ends.now h

pub take_end-far-requires-clause-there : goal.take_end-far-requires-clause-there
take_end-far-requires-clause-there g c =
    let P = g.p.passed in
    let b = P.begun in
    let k = c.args.at in
    let r = c.requires.1 in
    let l = c.index-lines-at.result in
    let line = slice_get_read _ _ _ _ refl r.0.0 c.index-lines-at.is in
    let h = subst (λ (o : Option CableLine). IfSome o (λ (x : CableLine). AreEnds b P.since (λ m. g.p.names m ++ named_at x.receiver m k false ++ named_at x.sender m k true) c.args.ends.now)) line r.1.1.1.0 in
    let near = c.take_end-near.result in
    let old = c.args.ends.now in
    let mid = c.take_end-near.new.ends in
    let t = c.take_end-near.ensures in
    let long = taken_long l.sender near old mid t in
    let among = (r.1.1.0 k l line).1 in
    omega (arith, long, among)

pub take_end-far-requires-clause-some : goal.take_end-far-requires-clause-some
take_end-far-requires-clause-some g c =
    let P = g.p.passed in
    let b = P.begun in
    let k = c.args.at in
    let r = c.requires.1 in
    let l = c.index-lines-at.result in
    let line = slice_get_read _ _ _ _ refl r.0.0 c.index-lines-at.is in
    let h = subst (λ (o : Option CableLine). IfSome o (λ (x : CableLine). AreEnds b P.since (λ m. g.p.names m ++ named_at x.receiver m k false ++ named_at x.sender m k true) c.args.ends.now)) line r.1.1.1.0 in
    let near = c.take_end-near.result in
    let old = c.args.ends.now in
    let mid = c.take_end-near.new.ends in
    let t = c.take_end-near.ensures in
    far_some P g.p.names k l near near old mid mid h t

pub join_again-requires : goal.join_again-requires
join_again-requires g c κs longer =
    let P = g.p.passed in
    let b = P.begun in
    let k = c.args.at in
    let r = c.requires.1 in
    let l = c.index-lines-at.result in
    let line = slice_get_read _ _ _ _ refl r.0.0 c.index-lines-at.is in
    let h = subst (λ (o : Option CableLine). IfSome o (λ (x : CableLine). AreEnds b P.since (λ m. g.p.names m ++ named_at x.receiver m k false ++ named_at x.sender m k true) c.args.ends.now)) line r.1.1.1.0 in
    let near = c.take_end-near.result in
    let far = c.take_end-far.result in
    let old = c.args.ends.now in
    let mid = c.take_end-near.new.ends in
    let new = c.take_end-far.new.ends in
    let t = c.take_end-near.ensures in
    let u = c.take_end-far.ensures in
    let there = ap (λ (xs : List CableLine). slice_get xs k) r.1.0.lines ∙ line in
    let is = near_is P g.p.names k l near far old mid new h t in
    let p = c.index-pipes-at.result in
    let pipe = slice_get_read _ _ _ _ refl r.0.1 c.index-pipes-at.is in
    let out = ap (λ (n : ℕ). slice_get b.outs n) is ∙ ap (λ (ts : List TableId). slice_get ts k) r.1.0.outs ∙ get_map out_queue c.args.pipes.now k p pipe in
    let back = ap (λ (n : ℕ). slice_get b.backs n) is ∙ ap (λ (ts : List TableId). slice_get ts k) r.1.0.backs ∙ get_map back_queue c.args.pipes.now k p pipe in
    let bare = subst (λ (o : Option CableState). IfSome o IsBare) c.at_mut.ensures.value r.1.1.1.1 in
    let pair = are_pair P g.p.names k l near far old mid new h t u there in
    (search rules, (pair, ((out, back), bare)))

pub returns-clause-joined : goal.returns-clause-joined
returns-clause-joined g c =
    let P = g.p.passed in
    let b = P.begun in
    let k = c.args.at in
    let r = c.requires.1 in
    let l = c.index-lines-at.result in
    let line = slice_get_read _ _ _ _ refl r.0.0 c.index-lines-at.is in
    let h = subst (λ (o : Option CableLine). IfSome o (λ (x : CableLine). AreEnds b P.since (λ m. g.p.names m ++ named_at x.receiver m k false ++ named_at x.sender m k true) c.args.ends.now)) line r.1.1.1.0 in
    let near = c.take_end-near.result in
    let far = c.take_end-far.result in
    let old = c.args.ends.now in
    let mid = c.take_end-near.new.ends in
    let new = c.take_end-far.new.ends in
    let t = c.take_end-near.ensures in
    let u = c.take_end-far.ensures in
    let there = ap (λ (xs : List CableLine). slice_get xs k) r.1.0.lines ∙ line in
    let c2 = c.join_again.new.cable in
    subst (λ (o : Option CableLine). IfSome o (λ (x : CableLine). IsJoinedAt P k x c.args.cables.now (slice_set c.args.cables.now k c2))) (sym line)
    (joined_here P g.p.names k l near far old mid new h t c2 c.args.cables.now there c.join_again.ensures.joined)

pub returns-clause-ends : goal.returns-clause-ends
returns-clause-ends g c =
    let P = g.p.passed in
    let b = P.begun in
    let k = c.args.at in
    let r = c.requires.1 in
    let l = c.index-lines-at.result in
    let line = slice_get_read _ _ _ _ refl r.0.0 c.index-lines-at.is in
    let h = subst (λ (o : Option CableLine). IfSome o (λ (x : CableLine). AreEnds b P.since (λ m. g.p.names m ++ named_at x.receiver m k false ++ named_at x.sender m k true) c.args.ends.now)) line r.1.1.1.0 in
    let near = c.take_end-near.result in
    let far = c.take_end-far.result in
    let old = c.args.ends.now in
    let mid = c.take_end-near.new.ends in
    let new = c.take_end-far.new.ends in
    let t = c.take_end-near.ensures in
    let u = c.take_end-far.ensures in
    let there = ap (λ (xs : List CableLine). slice_get xs k) r.1.0.lines ∙ line in
    are_left P g.p.names k l near far old mid new h t u

pub returns-clause-free : goal.returns-clause-free
returns-clause-free g c h =
    let l = c.index-lines-at.result in
    let one = free_less l.sender c.take_end-near.result c.args.ends.now c.take_end-near.new.ends c.take_end-near.ensures h in
    let two = free_less l.receiver c.take_end-far.result c.take_end-near.new.ends c.take_end-far.new.ends c.take_end-far.ensures one.0 in
    let cable = set_mine c.args.cables.now c.args.at c.join_again.new.cable c.at_mut.result.now c.at_mut.ensures.value in
    (two.0, subst (λ (o : Option CableState). IfSome o IsShort) (sym cable) (c.join_again.ensures.short one.1 two.1))
