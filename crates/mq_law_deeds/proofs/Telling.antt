-- Deltas tell the units that receivers commit, and operators' settlements; and what a delta of a prefix tells is told of the prefix.
use Rattle.std.proofs.Common.{ℕ, ◌≡◌, Bool, true, false, List, [], ◌∷◌, ◌++◌, refl, ap, sym, subst, inl, inr}
use Rattle.std.specs.Prelude.{Some, None, Result, Ok, Err, if◌then◌else◌, map}
use Rattle.mq_codes.specs.declared.reason.Reason.{Reason}
use Rattle.mq_message.specs.declared.place.Holder.TheVariants as holders
use Rattle.mq_frame.specs.declared.frame.Seen.{Seen}
use Rattle.mq_sync.specs.declared.unit.Settle.{Settle}
use Rattle.mq_sync.specs.declared.data.InDoubt.{InDoubt}
use Rattle.mq_sync.specs.declared.unit.Unit.{Unit as Luw}
use Rattle.mq_calls.specs.declared.agents.Note.TheVariants as notes
use Rattle.mq_calls.specs.declared.deltas.Did.{Did}
use Rattle.mq_calls.specs.declared.deltas.Did.TheVariants as did
use Rattle.mq_history.specs.declared.acts.OpRefusal.TheVariants as reasons
use Rattle.mq_receiver.specs.declared.state.Receiver.{Receiver}
use Rattle.mq_receiver.specs.declared.turns.ReceiverDoes.{ReceiverDoes}
use Rattle.mq_receiver.specs.declared.turns.ReceiverDoes.TheVariants as takes
use Rattle.mq_receiver.specs.After.{last_by}
use Rattle.mq_sender.specs.States as senders
use Rattle.mq_calls.specs.Reads.{is_full}
use Rattle.mq_calls.specs.Sizes.{need}
use Rattle.mq_calls.specs.Steps.{delta_of}
use Rattle.mq_sync.specs.Settlement.{is_commit}
use Rattle.mq_spec_manager.specs.Hardening.{held_rows, settle_did}
use Rattle.mq_spec_manager.specs.Agents.{Landed, landed, receive_landed, received_record}
use Rattle.mq_spec_node.specs.Node.{Node, ReceiverEnd, SenderEnd}
use Rattle.mq_spec_manager.specs.Agents.{harden}
use Rattle.mq_spec_node.specs.Deeds.{parts_of}
use Rattle.mq_spec_node.specs.Operators.{operated, refused_or, resolve_doubt}
use Rattle.mq_spec_node.specs.Receivers.{place_deed, receiver_deed_by}
use Rattle.mq_spec_network.specs.Conflict.{deeds, deeds_in}
use Rattle.mq_spec_network.specs.Story.{Line, Mem}
use Rattle.mq_law_channel.specs.Facts.{Letter}
use Rattle.mq_law_manager.proofs.Lists.{bool_case, mem_before, mem_behind}
use Rattle.mq_law_node.specs.Ends.{Where, place_out, receiver_of, receiver_out, stamped}
use Rattle.mq_law_node.proofs.ReceiverTurns.{placed_by}
use Rattle.mq_law_turns.specs.Agreed.{TellsCommit}
use Rattle.mq_law_deeds.specs.Deeds.{each_delta}

told_in : (m : ℕ) (d : Did) (ds : List Did) → Mem d ds → Mem (record { manager = m; did = d }) (deeds_in m ds)
told_in m d [] n = absurd n
told_in m d (x ∷ ds) (inl e) = inl (ap (λ (z : Did). record { manager = m; did = z }) e)
told_in m d (x ∷ ds) (inr n) = inr (told_in m d ds n)

pub in_prefix : (p : List Line) (x : Line) (d : Did) → Mem x p → Mem d x.entry.effect.delta → Mem (record { manager = x.manager; did = d }) (deeds p)
in_prefix [] x d n k = absurd n
in_prefix (y ∷ p) x d (inl e) k = mem_before (record { manager = x.manager; did = d }) (deeds_in y.manager y.entry.effect.delta) (deeds p)
    (subst (λ (z : Line). Mem (record { manager = x.manager; did = d }) (deeds_in z.manager z.entry.effect.delta)) e (told_in x.manager d x.entry.effect.delta k))
in_prefix (y ∷ p) x d (inr n) k = mem_behind (record { manager = x.manager; did = d }) (deeds_in y.manager y.entry.effect.delta) (deeds p) (in_prefix p x d n k)

-- A receiver's commit

places_told : (w : Where) (e : ReceiverEnd) (unit : Luw) (seen : Seen) (last t : ℕ) (res : Result Landed Reason) (n : Node) → w.channel ≡ e.channel
    → TellsCommit (place_out (receive_landed e.channel unit last res n.manager)) (takes.Place unit) w.channel (deeds_in t (each_delta (Some (place_deed e unit seen (receive_landed e.channel unit last res n.manager) n))))
places_told w e unit seen last t (Err reason) n same = tt
places_told w e unit seen last t (Ok l) n same = bool_case (is_full (need (received_record e.channel unit last l)) n.manager)
    (λ b. TellsCommit (place_out (placed_by (record { cable = e.cable; channel = e.channel; partner = e.partner }) unit last l n.manager b)) (takes.Place unit) w.channel
    (deeds_in t (each_delta (Some (place_deed e unit seen (placed_by (record { cable = e.cable; channel = e.channel; partner = e.partner }) unit last l n.manager b) n)))))
    (λ z. tt)
    (λ z. (
      t,
      subst (λ (c : List ℕ). Mem (record { manager = t; did = did.Received c unit }) (deeds_in t ((l.delta ++ did.Received e.channel unit ∷ []) ++ []))) (sym same)
          (told_in t (did.Received e.channel unit) ((l.delta ++ did.Received e.channel unit ∷ []) ++ []) (mem_before (did.Received e.channel unit) (l.delta ++ did.Received e.channel unit ∷ []) [] (mem_behind (did.Received e.channel unit) l.delta (did.Received e.channel unit ∷ []) (inl refl)))),
    ))

pub commits_told : (w : Where) (stamp t : ℕ) (seen : Seen) (n : Node) (m : Receiver) (kept : List Letter) (d : ReceiverDoes)
    → TellsCommit (receiver_out d w seen m kept n.manager) d w.channel (deeds_in t (each_delta (receiver_deed_by stamp (receiver_of w m kept) seen d n)))
commits_told w stamp t seen n m kept (takes.Place unit) = places_told w (receiver_of w m kept) unit seen (last_by seen m.last) t (landed w.channel (map stamped kept) n.manager) n refl
commits_told w stamp t seen n m kept takes.Still = tt
commits_told w stamp t seen n m kept takes.Ignore = tt
commits_told w stamp t seen n m kept takes.PushOwed = tt
commits_told w stamp t seen n m kept takes.Bind = tt
commits_told w stamp t seen n m kept takes.Keep = tt
commits_told w stamp t seen n m kept takes.Again = tt
commits_told w stamp t seen n m kept takes.Close = tt

-- An operator's settlement

pub settles_told : (e : SenderEnd) (settle : Settle) (d : InDoubt) (n : Node) → senders.is_running e.machine.state ≡ false
    → Mem (did.Hardened e.channel (notes.Resolved d.unit (is_commit settle) true)) (delta_of (resolve_doubt e settle (Some d) n).parts)
settles_told e settle d n stopped =
    let told : List Did = map (settle_did (is_commit settle)) (held_rows (holders.Batch e.channel) n.manager) in
    let x : Did = did.Hardened e.channel (notes.Resolved d.unit (is_commit settle) true) in
    subst (λ (b : Bool). Mem x (delta_of (refused_or (if b then Some reasons.Running else None) n.own (operated (parts_of (harden e.channel (notes.Resolved d.unit (is_commit settle) true) n.manager)) n.own)).parts)) (sym stopped)
    (mem_before x (told ++ x ∷ []) [] (mem_behind x told (x ∷ []) (inl refl)))
