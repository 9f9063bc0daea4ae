use Rattle.std.proofs.Common.{subst, sym, List}
use Rattle.mq_disk.specs.declared.mem_shelf.Slot.{Slot}
use Rattle.mq_disk.specs.Shelves.{AllFresh}
use Rattle.mq_disk.proofs.Shelved.{fresh_push}
use Rattle.mq_disk.proofs.mem_shelf.MemShelf.put.Goals as goal

pub invariant_of-self-2 : goal.invariant_of-self-2
invariant_of-self-2 g c =
    subst (λ (l : List (Slot _)). AllFresh g.D.Disk.faults l) (sym c.in_ok-push.ensures.items) (fresh_push g.D.Disk.faults _ _ c.self.invariant c.requires)
