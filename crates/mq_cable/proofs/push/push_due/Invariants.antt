use Rattle.std.proofs.Common.{length, ◌≡◌, ◌++◌, ◌<◌, ◌^◌, ◌+◌, [], List, All}
use Rattle.std.specs.Prelude.{filter}
use Rattle.mq_cable.specs.declared.item.Item.{Item}
use Rattle.mq_cable.specs.Offers.{due_of, is_left, IsLow}
use Rattle.mq_cable.proofs.push.push_due.Given as goal

abbrev pub invariant-pushing : goal.invariant-pushing
invariant-pushing g l = record {
  done : (done : List Item) × (due_of l.fn.frame l.fn.kept.items ≡ done ++ due_of l.frame l.kept.items) × (length done ≡ l.extras) × g.W.Wire.writes l.fn.out done l.out;
  left : filter (is_left l.frame) l.kept.items ≡ filter (is_left l.fn.frame) l.fn.kept.items;
  frame : l.frame ≡ l.fn.frame;
  low : All IsLow l.kept.items;
  few : l.extras + length (due_of l.frame l.kept.items) < 2 ^ 32;
  read : g.W.Wire.reads l.fn.out [] l.out;
  front : g.W.Wire.front_of l.out ≡ g.W.Wire.front_of l.fn.out;
  stays : g.W.Wire.low l.fn.out → g.W.Wire.low l.out;
}

abbrev pub decreases-pushing : goal.decreases-pushing
decreases-pushing g l = length (due_of l.frame l.kept.items)
