use Rattle.std.proofs.Common.{◌≡◌, ◌+◌, ◌-◌, ◌≤◌, ℕ, List, length, take}
use Rattle.std.specs.Str.{bytes_eq}
use Rattle.indexmap.specs.IndexMap.{get, spare, index_map_len}
use Rattle.mq_place.specs.Slots.{present, place_of}
use Rattle.mq_place.proofs.slots.close_gaps.Given as goal

abbrev pub invariant-loop-place : goal.invariant-loop-place
invariant-loop-place g l = record {
  found : (name : List ℕ) → get bytes_eq l.places name ≡ place_of name (take l.place l.slots.items);
  counted : index_map_len l.places ≡ length (present (take l.place l.slots.items));
  room : spare l.fn.places + (length l.slots.items - l.place) ≤ spare l.places;
}
