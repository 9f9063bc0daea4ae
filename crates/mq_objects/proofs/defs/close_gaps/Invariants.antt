use Rattle.std.proofs.Common.{◌≡◌, ◌+◌, ◌-◌, ◌≤◌, length, take}
use Rattle.indexmap.specs.IndexMap.{get, spare, index_map_len}
use Rattle.mq_objects.specs.declared.key.ObjectKey.{ObjectKey}
use Rattle.mq_objects.specs.Keys.{same_key}
use Rattle.mq_objects.specs.Slots.{present, place_of}
use Rattle.mq_objects.proofs.defs.close_gaps.Given as goal

abbrev pub invariant-loop-place : goal.invariant-loop-place
invariant-loop-place l = record {
  found : (key : ObjectKey) → get same_key l.places key ≡ place_of key (take l.place l.slots.items);
  counted : index_map_len l.places ≡ length (present (take l.place l.slots.items));
  room : spare l.fn.places + (length l.slots.items - l.place) ≤ spare l.places;
}
