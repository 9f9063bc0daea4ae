use Rattle.std.proofs.Common.{◌≡◌, ◌+◌, ◌≤◌, ℕ, drop}
use Rattle.mq_disk.specs.Shelves.{FirstAt}
use Rattle.mq_disk.proofs.mem_shelf.find.Given as goal

abbrev pub invariant-loop-slot : goal.invariant-loop-slot
invariant-loop-slot g l = record { at : l.place ≡ l.slot-index; so_far : (j : ℕ) → FirstAt (drop l.slot-index l.slots) l.name l.side j → FirstAt l.slots l.name l.side (l.slot-index + j); passed : (j : ℕ) → FirstAt l.slots l.name l.side j → l.slot-index ≤ j }
