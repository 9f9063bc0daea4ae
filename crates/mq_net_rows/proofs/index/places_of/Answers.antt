use Rattle.std.proofs.Common.{rules, ℕ, List, ap, arith}
use Rattle.std.specs.Map.{lookup}
use Rattle.std.specs.Str.{bytes_eq}
use Rattle.indexmap.specs.IndexMap.{get}
use Rattle.mq_net_rows.specs.Rolls.{shelf_name}
use Rattle.mq_net_rows.proofs.RollLaws.{next, whole}
use Rattle.mq_net_rows.proofs.index.places_of.Goals as goal

pub loop-at-init : goal.loop-at-init
loop-at-init c = λ (name : List ℕ). ap (λ es. lookup (bytes_eq name) es) c.new-places.ensures.empty

pub loop-at-preserved : goal.loop-at-preserved
loop-at-preserved c =
    next shelf_name (get bytes_eq c.loop-at.places) (get bytes_eq c.note_first.new.places) c.args.shelves.now c.loop-at.at _ c.in_ok-note_first.ensures c.loop-at.invariant c.loop-at-test.true (search rules)

pub returns : goal.returns
returns c = whole shelf_name (get bytes_eq c.loop-at.places) c.args.shelves.now c.loop-at.at (omega (arith, c.loop-at-test.false)) c.loop-at.invariant
