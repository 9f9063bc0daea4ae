-- What lies under a lock may go to another thread. A snapshot among the fields of a node has no such proof made for it, so the types that
-- hold one have theirs here.
use denote.Param.Send.{IsSend, IsSync, plain_send, recorded_send, sendable, struct_send, view_send}
use denote.RattleType.{RattleType}
use denote.Ref.{NamedLft}
use denote.Struct.Declared.{shape}
use Rattle.std.below.std_heap.proofs.GlobalAllocator.TheSendSync as frees
use Rattle.std.proofs.alloc.Global.TheSendSync as heap
use Rattle.std.proofs.vec.Vec.TheSendSync as vec
use Rattle.std.specs.contracts.alloc.Global as Global
use Rattle.std.specs.contracts.impls.GlobalAllocator.TheImpl as allocator
use Rattle.std.specs.contracts.snapshot.Snapshot as Snapshot
use Rattle.mq_disk.specs.declared.disk.Disk.{Ghosts}
use Rattle.std.proofs.marker.PhantomData.TheSendSync as phantom
use Rattle.mq_base.proofs.items.Items.TheSendSync as items
use Rattle.mq_own.proofs.own.Own.TheSendSync as own
use Rattle.mq_own.specs.contracts.own.Own as Own
use Rattle.mq_history.proofs.history.Mark.TheSendSync as mark
use Rattle.mq_history.specs.contracts.history.Mark as Mark
use Rattle.mq_acts.proofs.from_manager.ManagerSendSync as manager
use Rattle.mq_acts.proofs.from_events.OpeningSendSync as opening
use Rattle.mq_acts.proofs.from_events.EntriesSendSync as entries
use Rattle.mq_acts.specs.from_events.NodeParts as NodeParts
use Rattle.mq_acts.specs.from_events.NodePartsInside as parts
use Rattle.mq_acts.specs.from_events.Node as Node
use Rattle.mq_acts.specs.from_events.NodeInside as node
use Rattle.mq_shared.specs.declared.locked.PhaseName.{Ghosts as PhaseGhosts}
use Rattle.mq_split.proofs.ends.HeldEnd.TheSendSync as end
use Rattle.mq_split.specs.contracts.ends.HeldEnd as HeldEnd
use Rattle.mq_shared.proofs.held.HeldScript.TheSendSync as script
use Rattle.mq_shared.specs.contracts.held.HeldScript as HeldScript
use Rattle.mq_shared.specs.contracts.locked.Locked as Locked
use Rattle.mq_shared.specs.contracts.locked.Locked.TheInside as locked

snapshot_send : (T : RattleType) → IsSend T → IsSend (Snapshot.the_row T)
snapshot_send T s = search sendable

module _ (T : RattleType) (g : Ghosts T.Denot) (s : IsSend T) where
  pub parts_send : IsSend (NodeParts.the_row T g)
  parts_send =
      view_send (parts.the_row T g) _ _ _ _
      (recorded_send (parts.the_field T g).row _ _ (parts.the_type T g).to_one
      (struct_send (shape (parts.the_type T g)) (
        heap.the_field_send,
        (
          manager.the_send T g s,
          (
            own.the_send,
            (
              snapshot_send Own.the_row own.the_send,
              (
                opening.the_field_send,
                (
                  entries.the_send,
                  (vec.the_send Mark.the_row Global.the_row allocator.ghosts mark.the_send heap.the_send frees.the_frees, (plain_send _ _ _ _ _, (plain_send _ _ _ _ _, tt))),
                ),
              ),
            ),
          ),
        ),
      )))

  pub node_send : IsSend (Node.the_row T g)
  node_send = view_send (node.the_row T g) _ _ _ _ (recorded_send (node.the_field T g).row _ _ (node.the_type T g).to_one (struct_send (shape (node.the_type T g)) (parts_send, tt)))

-- a value under a lock of a phase
pub locked_send : (a : NamedLft) (P D R : RattleType) (p : PhaseGhosts P.Denot) (g : Ghosts D.Denot) → IsSend D → IsSync R → IsSend (Locked.the_row a P D R p g)
locked_send a P D R p g s y =
    view_send (locked.the_row a P D R p g) _ _ _ _
    (recorded_send (locked.the_field a P D R p g).row _ _ (locked.the_type a P D R p g).to_one
    (struct_send (shape (locked.the_type a P D R p g)) (
      plain_send _ _ _ _ _,
      (
        node_send D g s,
        (
          items.the_send (HeldEnd.the_row a R) (end.the_send a R y),
          (items.the_send (HeldScript.the_row a) (script.the_send a), (plain_send _ _ _ _ _, (phantom.the_field_send P, tt))),
        ),
      ),
    )))
