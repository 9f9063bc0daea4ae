use Rattle.std.proofs.Common.{◌≡◌, ◌+◌}
use Rattle.std.specs.Prelude.{drop, length}
use Rattle.mq_sides.specs.Places.{place_in}
use Rattle.mq_sides.proofs.sides.side_place.Given as goal

-- the places before don't count
abbrev pub invariant-loop-place : goal.invariant-loop-place
invariant-loop-place g l = record {
  seen : l.place + place_in g.T.OfChannel.channel_of l.channel (drop l.place l.items) ≡ place_in g.T.OfChannel.channel_of l.channel l.items;
  end : l.place-end ≡ length l.items;
}
