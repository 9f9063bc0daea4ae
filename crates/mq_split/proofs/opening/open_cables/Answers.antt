use Rattle.std.proofs.Common.{◌≡◌, ◌<◌, ◌≤◌, ◌+◌, ◌++◌, ◌∷◌, [], List, length, sym, subst, rules}
use Rattle.mq_split.specs.declared.opening.Passes.{Passes}
use Rattle.mq_split.specs.declared.opening.Pipes.{Pipes}
use Rattle.mq_split.specs.Opening.{AreOpen, IsBare}
use Rattle.mq_split.proofs.OpenLaws.{Opened, each_all, opened_step}
use Rattle.mq_split.proofs.opening.open_cables.Goals as goal

pub close_cables-requires-clause-open : goal.close_cables-requires-clause-open
close_cables-requires-clause-open g c = subst (λ (l : List Pipes). AreOpen l c.loop-at.passes.items) (sym c.as_slice.ensures.value) c.loop-at.invariant.so_far.opened

pub loop-at-preserved : goal.loop-at-preserved
loop-at-preserved g c =
    let i = c.loop-at.invariant in
    let k = c.loop-at.at in
    let pipes : length c.loop-at.pipes.items ≡ k = search rules in
    let passes : length c.loop-at.passes.items ≡ k = search rules in
    let lt : k < length c.args.cables.now = search rules in
    record {
      pipes_long = search rules;
      passes_long = search rules;
      pipes_room = search rules;
      passes_room = search rules;
      so_far = subst (λ (l : List Pipes). Opened l c.push_reserved-in-Ok.new.self.items (k + 1) c.args.cables.now c.open_at.new.cables) (sym c.push_reserved.ensures.items)
          (subst (λ (l : List Passes). Opened (c.loop-at.pipes.items ++ c.in-Ok.queues ∷ []) l (k + 1) c.args.cables.now c.open_at.new.cables) (sym c.push_reserved-in-Ok.ensures.items)
          (opened_step c.loop-at.pipes.items c.loop-at.passes.items c.in-Ok.queues c.in-Ok.ends c.loop-at.cables c.open_at.new.cables c.args.cables.now k pipes passes lt i.so_far c.in-Ok.ensures.open.0 c.in-Ok.ensures.open.1));
    }

pub returns-clause-bare : goal.returns-clause-bare
returns-clause-bare g c =
    let past : length c.loop-at.cables ≤ c.loop-at.at = search rules in
    each_all IsBare c.loop-at.cables c.loop-at.at past c.loop-at.invariant.so_far.bare_are
