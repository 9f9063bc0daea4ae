use Rattle.std.specs.Prelude.{List, ◌==◌, not}
use Rattle.std.proofs.Common.{subst, sym}
use Rattle.mq_calls.specs.declared.state.Handle.{Handle}
use Rattle.mq_net_books.specs.Handles.{RiseSo}
use Rattle.mq_net_books.proofs.HandleLaws.{so_less}
use Rattle.mq_net_books.proofs.handles.Handles.remove.Goals as goal

pub invariant_of-self : goal.invariant_of-self
invariant_of-self c =
    subst (λ (hs : List Handle). RiseSo c.self.inside.rising c.self.inside.last hs) (sym c.drop_handle.ensures)
    (so_less c.self.inside.rising (λ (h : Handle). not (h.number == c.args.number)) c.self.inside.list.items c.self.inside.last c.self.invariant)
