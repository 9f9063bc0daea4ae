use Rattle.std.proofs.Common.{List, arith, ap, refl, subst, sym, ◌∙◌}
use Rattle.mq_disk.specs.declared.mem_shelf.Slot.{Slot}
use Rattle.mq_disk.specs.Shelves.{FirstAt, Stands, AllFresh, ShelfState}
use Rattle.mq_disk.proofs.Shelved.{inside, taken, others, somewhere, fresh_taken, fresh_remove}
use Rattle.mq_disk.proofs.mem_shelf.MemShelfShelf.take.Goals as goal

pub remove-requires : goal.remove-requires
remove-requires g c =
    let first = subst (λ (l : List (Slot _)). FirstAt l c.args.name.now c.args.side c.in-Some.place) c.deref-2.ensures.value c.in-Some.ensures.found in
    let at = inside _ _ _ _ first in
    omega (arith, at)

pub invariant_of-self-in-Some : goal.invariant_of-self-in-Some
invariant_of-self-in-Some g c =
    let first = subst (λ (l : List (Slot _)). FirstAt l c.args.name.now c.args.side c.in-Some.place) c.deref-2.ensures.value c.in-Some.ensures.found in
    subst (λ (l : List (Slot _)). AllFresh g.D.Disk.faults l) (sym c.remove.ensures.items) (fresh_remove g.D.Disk.faults _ _ _ _ first c.self.invariant)

pub returns-in-Some-clause-fresh : goal.returns-in-Some-clause-fresh
returns-in-Some-clause-fresh g c =
    let first = subst (λ (l : List (Slot _)). FirstAt l c.args.name.now c.args.side c.in-Some.place) c.deref-2.ensures.value c.in-Some.ensures.found in
    ap (λ (s : Slot _). g.D.Disk.faults s.disk) c.remove.ensures.value ∙ fresh_taken g.D.Disk.faults _ _ _ _ c.remove.result first c.self.invariant

pub returns-in-Some-clause-bytes : goal.returns-in-Some-clause-bytes
returns-in-Some-clause-bytes g c b stands =
    let first = subst (λ (l : List (Slot _)). FirstAt l c.args.name.now c.args.side c.in-Some.place) c.deref-2.ensures.value c.in-Some.ensures.found in
    let here = subst (λ (s : ShelfState _). Stands g.D.Disk.seen s.slots c.args.name.now c.args.side b) (sym c.self.view_is) stands in
    ap (λ (s : Slot _). g.D.Disk.seen s.disk) c.remove.ensures.value ∙ taken g.D.Disk.seen _ _ _ _ c.remove.result first b here

pub returns-in-Some-clause-others : goal.returns-in-Some-clause-others
returns-in-Some-clause-others g c n s b other stands =
    let first = subst (λ (l : List (Slot _)). FirstAt l c.args.name.now c.args.side c.in-Some.place) c.deref-2.ensures.value c.in-Some.ensures.found in
    let here = subst (λ (v : ShelfState _). Stands g.D.Disk.seen v.slots n s b) (sym c.self.view_is) stands in
    subst (λ (l : List (Slot _)). Stands g.D.Disk.seen l n s b) (sym c.remove.ensures.items) (others g.D.Disk.seen _ _ _ _ first n s b other here)

pub returns-in-None-clause-there : goal.returns-in-None-clause-there
returns-in-None-clause-there g c unlisted b stands =
    let here = subst (λ (v : ShelfState _). Stands g.D.Disk.seen v.slots c.args.name.now c.args.side b) (sym c.self.view_is) stands in
    let first = somewhere g.D.Disk.seen _ c.args.name.now c.args.side b here in
    absurd (c.in-None.ensures.nowhere refl first.0 (subst (λ (l : List (Slot _)). FirstAt l c.args.name.now c.args.side first.0) (sym c.deref-2.ensures.value) first.1))
