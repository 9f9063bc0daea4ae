-- What holds of each sender of a node holds behind receivers' turns and behind commands that only harden or close, where their changes leave it; and
-- a turn of a sender's is looked at where it runs.
use Rattle.std.proofs.Common.{ℕ, ◌≡◌, ◌-◌, ◌⊎◌, Bool, true, false, List, [], ◌∷◌, ◌++◌, refl, ap, sym, subst, ◌∙◌, inl, inr}
use Rattle.std.proofs.lemmas.Bool.{true≢false}
use Rattle.std.specs.Prelude.{Option, Some, None, ◌==◌, ◌&&◌, if◌then◌else◌}
use Rattle.std.specs.Str.{bytes_eq}
use Rattle.mq_base.specs.Members.{Mem}
use Rattle.mq_codes.specs.declared.reason.Reason.{Reason}
use Rattle.mq_frame.specs.declared.frame.Seen.{Seen}
use Rattle.mq_queue.specs.declared.row.Row.{Row}
use Rattle.mq_sync.specs.declared.data.End.TheVariants as end_kinds
use Rattle.mq_sync.specs.declared.data.InDoubt.{InDoubt}
use Rattle.mq_sync.specs.declared.data.Stock.{Stock}
use Rattle.mq_sync.specs.declared.unit.Settle.{Settle}
use Rattle.mq_sync.specs.declared.unit.Unit.{Unit as Luw}
use Rattle.mq_sync.specs.Settlement.{is_commit, receiver_or}
use Rattle.mq_sender.specs.declared.state.Sender.{Sender}
use Rattle.mq_sender.specs.declared.state.SenderState.{SenderState}
use Rattle.mq_sender.specs.declared.state.SenderState.TheVariants as states
use Rattle.mq_sender.specs.declared.turns.SenderDoes.{SenderDoes}
use Rattle.mq_sender.specs.declared.turns.SenderDoes.TheVariants as does
use Rattle.mq_sender.specs.States as senders
use Rattle.mq_sender.specs.Table.{sender_lines, sender_next, waits}
use Rattle.mq_sync.specs.Turns.{first_line}
use Rattle.mq_receiver.specs.declared.turns.ReceiverDoes.{ReceiverDoes}
use Rattle.mq_receiver.specs.declared.turns.ReceiverDoes.TheVariants as takes
use Rattle.mq_receiver.specs.After.{bound_by, last_by}
use Rattle.mq_receiver.specs.States as receivers
use Rattle.mq_receiver.specs.Table.{receiver_next}
use Rattle.mq_calls.specs.declared.agents.Note.{Note}
use Rattle.mq_calls.specs.declared.agents.Note.TheVariants as notes
use Rattle.mq_calls.specs.declared.deltas.Why.{Why}
use Rattle.mq_history.specs.declared.acts.OpRefusal.{OpRefusal}
use Rattle.mq_history.specs.declared.acts.OpRefusal.TheVariants as reasons
use Rattle.mq_calls.specs.State.{Change, Plain}
use Rattle.mq_calls.specs.State.Change.{SetBound}
use Rattle.mq_calls.specs.Reads.{in_doubt_of, receiver_data, sender_data}
use Rattle.mq_calls.specs.Steps.{Part, Step, do_all, refusal, when}
use Rattle.mq_calls.specs.Steps.Step.{Do, Refuse}
use Rattle.mq_spec_manager.specs.Get.{removal_parts}
use Rattle.mq_spec_manager.specs.Agents.{harden, harden_part, receive, set_bound, stock}
use Rattle.mq_spec_node.specs.Node.{ChannelEnd, Node, ReceiverEnd, SenderEnd, cable_of, set_end, with_end}
use Rattle.mq_spec_node.specs.Node.ChannelEnd.{Receives, Sends}
use Rattle.mq_spec_node.specs.Deeds.{Deed, parts_of}
use Rattle.mq_spec_node.specs.Operators.{close_open, is_bad_number, is_in_doubt, is_open, limits_here, operated, refused_or, reset_end, resolve_doubt, resolve_end, start_end, stop_end}
use Rattle.mq_spec_node.specs.Receivers.{bind_parts, close_parts, is_receiver_defined, place_deed, receiver_deed, receiver_deed_by}
use Rattle.mq_spec_node.specs.Senders.{doubted, sender_deed, sender_deed_by, settle_parts_if}
use Rattle.mq_law_seized.specs.Each.{is_common, is_written, parts_of_all}
use Rattle.mq_law_seized.proofs.CommonCalls.{removal_common}
use Rattle.mq_law_seized.proofs.Each.{all_weaker, parts_behind, parts_weaker, step_weaker}
use Rattle.mq_law_manager.proofs.Lists.{bool_case, is_false, name_yes}
use Rattle.mq_law_seized.proofs.Written.{harden_written, receive_written}
use Rattle.mq_law_keys.proofs.from_law_node.Quiet.{step_parts}
use Rattle.mq_law_keys.proofs.from_law_node.Named.{nat_self, nat_yes}
use Rattle.mq_law_keys.specs.from_law_node.Deeds.{HoldsBehind}
use Rattle.mq_law_keys.specs.Keys.{AreKeyed, IsKeyed, key_of, keys}
use Rattle.mq_law_keys.proofs.Telling.{mem_keys, one_channel, other_kind, same_sender}
use Rattle.mq_law_unshared.specs.Senders.{AreEach, IsLeftBy}

-- WHICH ENDS: one takes the place of the one that has its cable
eq_back : (a b : ℕ) → (a == b) ≡ false → (b == a) ≡ false
eq_back a b e = is_false (b == a) (λ f. true≢false (sym (ap (λ k. k == b) (sym (nat_yes b a f)) ∙ nat_self b) ∙ e))

mem_set : (new old : ChannelEnd) (es : List ChannelEnd) (x : ChannelEnd) → AreKeyed (keys es) → Mem old es → cable_of new ≡ cable_of old → Mem x (set_end new es) → (x ≡ new) ⊎ (Mem x es × ((cable_of x == cable_of old) ≡ false))
mem_set new old [] x h n c m = absurd n
mem_set new old (y ∷ es) x h n c m = bool_case (cable_of y == cable_of new) (λ b. (cable_of y == cable_of new) ≡ b → Mem x (if b then new ∷ es else y ∷ set_end new es) → (x ≡ new) ⊎ (Mem x (y ∷ es) × ((cable_of x == cable_of old) ≡ false)))
    (λ z w k. elim k [
      | inl e ↦ inl e
      | inr j ↦ inr (inr j, ap (λ v. cable_of x == v) (sym (nat_yes (cable_of y) (cable_of new) w ∙ c)) ∙ eq_back (cable_of y) (cable_of x) (h.0 (key_of x) (mem_keys x es j)).0)
    ])
    (λ z w k. elim k [
      | inl e ↦ inr (inl e, (λ i. cable_of (e i) == sym c i) ∙ w)
      | inr j ↦ elim n [
        | inl o ↦ absurd (true≢false (sym (ap (λ v. v == cable_of new) (sym (ap cable_of o)) ∙ ap (λ v. v == cable_of new) (sym c) ∙ nat_self (cable_of new)) ∙ w))
        | inr o ↦ elim (mem_set new old es x h.1 o c j) [ inl e ↦ inl e | inr r ↦ inr (inr r.0, r.1) ]
      ]
    ]) refl m

-- so another sender's end is of another channel
other_channel : (n : Node) (e x : SenderEnd) → IsKeyed n → Mem (Sends e) n.own.ends → Mem (Sends x) n.own.ends → (x.cable == e.cable) ≡ false → bytes_eq x.channel e.channel ≡ false
other_channel n e x h a b apart = is_false (bytes_eq x.channel e.channel) (λ f.
    let same : Sends x ≡ Sends e = one_channel n.own.ends (Sends x) (Sends e) h b a (name_yes x.channel e.channel f) in
    true≢false (sym (ap (λ v. v == e.cable) (ap cable_of same) ∙ nat_self e.cable) ∙ apart))

-- a receiver's end that changes is no sender's
mem_beside : (y : ReceiverEnd) (es : List ChannelEnd) (x : SenderEnd) → Mem (Sends x) (set_end (Receives y) es) → Mem (Sends x) es
mem_beside y [] x n = n
mem_beside y (z ∷ es) x n = bool_case (cable_of z == y.cable) (λ b. Mem (Sends x) (if b then Receives y ∷ es else z ∷ set_end (Receives y) es) → Mem (Sends x) (z ∷ es))
    (λ w k. elim k [ inl e ↦ absurd (other_kind x y e) | inr j ↦ inr j ])
    (λ w k. elim k [ inl e ↦ inl e | inr j ↦ inr (mem_beside y es x j) ]) n

-- A SENDER'S TURN: one that doesn't run does nothing
abbrev does_in : Sender → Seen → Stock → SenderState → SenderDoes
does_in m seen st state = first_line does.Still (sender_lines (record m { state = state }) seen st)

abbrev IsIdle : SenderDoes → Type 0
IsIdle d = (d ≡ does.Ignore) ⊎ (d ≡ does.Still)

idle_line : (b : Bool) → IsIdle (if b then does.Ignore else does.Still)
idle_line true = inl refl
idle_line false = inr refl

idles_in : (m : Sender) (seen : Seen) (st : Stock) (state : SenderState) → senders.is_running state ≡ false → IsIdle (does_in m seen st state)
idles_in m seen st states.Inactive e = idle_line (waits seen)
idles_in m seen st (states.Stopped cause) e = idle_line (waits seen)
idles_in m seen st states.Starting e = absurd cc
idles_in m seen st states.Hailing e = absurd cc
idles_in m seen st states.Binding e = absurd cc
idles_in m seen st states.Running e = absurd cc
idles_in m seen st (states.Sending sent number) e = absurd cc
idles_in m seen st states.Ready e = absurd cc
idles_in m seen st states.Waiting e = absurd cc

pub turn_has : (has : Option Deed → Type 0) (stamp : ℕ) (e : SenderEnd) (seen : Seen) (n : Node) → has None → has (sender_deed_by stamp e does.Ignore n)
    → (senders.is_running e.machine.state ≡ true → has (sender_deed_by stamp e (sender_next e.machine seen (stock e.channel n.manager)) n)) → has (sender_deed stamp e seen n)
turn_has has stamp e seen n none ignores runs = bool_case (senders.is_running e.machine.state) (λ b. senders.is_running e.machine.state ≡ b → has (sender_deed stamp e seen n)) (λ z on. runs on)
    (λ z off. elim (idles_in e.machine seen (stock e.channel n.manager) e.machine.state off) [
      | inl w ↦ subst (λ (d : SenderDoes). has (sender_deed_by stamp e d n)) (sym w) ignores
      | inr w ↦ subst (λ (d : SenderDoes). has (sender_deed_by stamp e d n)) (sym w) none
    ]) refl

-- one that awaits an answer runs
pub awaits_runs : (st : SenderState) → senders.awaits st ≡ true → senders.is_running st ≡ true
awaits_runs states.Binding e = refl
awaits_runs states.Waiting e = refl
awaits_runs states.Inactive e = absurd cc
awaits_runs (states.Stopped cause) e = absurd cc
awaits_runs states.Starting e = absurd cc
awaits_runs states.Hailing e = absurd cc
awaits_runs states.Running e = absurd cc
awaits_runs (states.Sending sent number) e = absurd cc
awaits_runs states.Ready e = absurd cc

module _ (holds : SenderEnd → Plain → Type 0) (is : Change → Bool) (may : List ℕ → Change → Bool) (k : IsLeftBy holds is may) where
  pub set_each : (n : Node) (e : SenderEnd) (m : Sender) (parts : List Part) → IsKeyed n → Mem (Sends e) n.own.ends → AreEach holds n.own.ends n.manager → ((c : List ℕ) → bytes_eq c e.channel ≡ false → parts_of_all (may c) parts ≡ true)
      → holds (record e { machine = m }) (do_all parts n.manager) → AreEach holds (with_end (Sends (record e { machine = m })) n.own).ends (do_all parts n.manager)
  set_each n e m parts h there all others mine x at = elim (mem_set (Sends (record e { machine = m })) (Sends e) n.own.ends (Sends x) h there refl at) [
    | inl same ↦ subst (λ (v : SenderEnd). holds v (do_all parts n.manager)) (sym (same_sender x (record e { machine = m }) same)) mine
    | inr r ↦ k.kept x parts n.manager (others x.channel (other_channel n e x h there r.0 r.1)) (all x r.0)
  ]

  pub left_each : (n : Node) (es : List ChannelEnd) (parts : List Part) → parts_of_all is parts ≡ true → AreEach holds es n.manager → AreEach holds es (do_all parts n.manager)
  left_each n es parts e all x at = k.kept x parts n.manager (parts_weaker is (may x.channel) (k.wider x.channel) parts e) (all x at)

  beside_each : (n : Node) (y : ReceiverEnd) (parts : List Part) → parts_of_all is parts ≡ true → AreEach holds n.own.ends n.manager → AreEach holds (with_end (Receives y) n.own).ends (do_all parts n.manager)
  beside_each n y parts e all x at = left_each n n.own.ends parts e all x (mem_beside y n.own.ends x at)

  -- parts that ends ask
  pub hardened : (channel : List ℕ) (note : Note) (p : Plain) → parts_of_all is (parts_of (harden channel note p)) ≡ true
  hardened channel note p = ap (λ (b : Bool). b && true) (all_weaker is_written is k.written (harden_part channel note p).changes (harden_written channel note p))

  pub settled : (e : SenderEnd) (o : Option Settle) (p : Plain) → parts_of_all is (settle_parts_if e o p) ≡ true
  settled e None p = refl
  settled e (Some s) p = hardened e.channel (notes.Resolved (doubted e.machine.kept.doubt) (is_commit s) false) p

  pub removed : (why : Why) (queue : List ℕ) (rows : List Row) → parts_of_all is (removal_parts why queue rows) ≡ true
  removed why queue rows = parts_weaker is_common is k.common (removal_parts why queue rows) (removal_common why queue rows)

  bound : (channel : List ℕ) (b : Bool) (p : Plain) → parts_of_all is (parts_of (set_bound channel b p)) ≡ true
  bound channel b p = ap (λ (t : Bool). (t && true) && true) (k.common (SetBound channel b) refl)

  both : (channel : List ℕ) (note : Note) (b : Bool) (p : Plain) → parts_of_all is (parts_of (harden channel note p) ++ parts_of (set_bound channel b p)) ≡ true
  both channel note b p = parts_behind is (parts_of (harden channel note p)) (parts_of (set_bound channel b p)) (hardened channel note p) (bound channel b p)

  closed : (e : ReceiverEnd) (p : Plain) → parts_of_all is (close_open e p) ≡ true
  closed e p = bool_case (is_open (receiver_data e.channel p))
      (λ t. parts_of_all is (if t then parts_of (harden e.channel (notes.Closed (receiver_or (receiver_data e.channel p)).session) p) ++ parts_of (set_bound e.channel false p) else parts_of (set_bound e.channel false p)) ≡ true)
      (λ z. both e.channel (notes.Closed (receiver_or (receiver_data e.channel p)).session) false p) (λ z. bound e.channel false p)

  -- A RECEIVER'S TURN
  places : (n : Node) (e : ReceiverEnd) (seen : Seen) (s : Step Reason (Unit {0})) (unit : Luw) → parts_of_all is (parts_of s) ≡ true → AreEach holds n.own.ends n.manager → HoldsBehind (AreEach holds) n (Some (place_deed e unit seen s n))
  places n e seen (Refuse reason) unit w all = beside_each n _ (close_parts e n.manager) (both e.channel (notes.Closed e.machine.session) false n.manager) all
  places n e seen (Do reply parts) unit w all = beside_each n _ parts w all

  receiver_by : (stamp : ℕ) (n : Node) (e : ReceiverEnd) (seen : Seen) (d : ReceiverDoes) → AreEach holds n.own.ends n.manager → HoldsBehind (AreEach holds) n (receiver_deed_by stamp e seen d n)
  receiver_by stamp n e seen takes.Still all = tt
  receiver_by stamp n e seen takes.Ignore all = all
  receiver_by stamp n e seen takes.PushOwed all = beside_each n _ [] refl all
  receiver_by stamp n e seen takes.Bind all = beside_each n _ (bind_parts e (bound_by seen e.machine) n.manager) (both e.channel (notes.Bound e.partner (bound_by seen e.machine).session (bound_by seen e.machine).last) true n.manager) all
  receiver_by stamp n e seen takes.Keep all = beside_each n _ [] refl all
  receiver_by stamp n e seen (takes.Place unit) all =
      let s : Step Reason (Unit {0}) = receive e.channel unit (last_by seen e.machine.last) e.kept n.manager in
      places n e seen s unit (step_parts is s (step_weaker is_written is k.written s (receive_written e.channel unit (last_by seen e.machine.last) e.kept n.manager))) all
  receiver_by stamp n e seen takes.Again all = beside_each n _ [] refl all
  receiver_by stamp n e seen takes.Close all = beside_each n _ (close_parts e n.manager) (both e.channel (notes.Closed e.machine.session) false n.manager) all

  pub receiver_each : (stamp : ℕ) (n : Node) (e : ReceiverEnd) (seen : Seen) → AreEach holds n.own.ends n.manager → HoldsBehind (AreEach holds) n (receiver_deed stamp e seen n)
  receiver_each stamp n e seen all = receiver_by stamp n e seen (receiver_next e.machine seen (is_receiver_defined e.channel n.manager.definitions)) all

  -- COMMANDS
  pub refused_each : (n : Node) (o : Option OpRefusal) (d : Deed) → AreEach holds n.own.ends n.manager → HoldsBehind (AreEach holds) n (Some d) → HoldsBehind (AreEach holds) n (Some (refused_or o n.own d))
  refused_each n None d all w = w
  refused_each n (Some reason) d all w = all

  pub receiver_starts : (n : Node) (e : ReceiverEnd) → AreEach holds n.own.ends n.manager → HoldsBehind (AreEach holds) n (Some (start_end (Some (Receives e)) n))
  receiver_starts n e all = refused_each n (refusal (when (receivers.is_bound e.machine.state) reasons.Running ∷ [])) (operated [] (with_end (Receives (record e { machine = receivers.started e.machine })) n.own)) all (beside_each n (record e { machine = receivers.started e.machine }) [] refl all)

  pub receiver_stops : (n : Node) (e : ReceiverEnd) → AreEach holds n.own.ends n.manager → HoldsBehind (AreEach holds) n (Some (stop_end (Some (Receives e)) n))
  receiver_stops n e all = beside_each n (record e { machine = receivers.stopped e.machine; kept = [] }) (close_open e n.manager) (closed e n.manager) all

  pub resets_each : (seqnum : ℕ) (n : Node) (o : Option ChannelEnd) → AreEach holds n.own.ends n.manager → HoldsBehind (AreEach holds) n (Some (reset_end seqnum o n))
  resets_each seqnum n None all = all
  resets_each seqnum n (Some (Sends e)) all = refused_each n (refusal (
      when (is_in_doubt e.channel n) reasons.InDoubt
      ∷ when (senders.is_running e.machine.state) reasons.Running
      ∷ when (is_bad_number seqnum (limits_here e.channel n)) reasons.BadNumber
      ∷ [])) (operated (parts_of (harden e.channel (notes.SeqSet end_kinds.Sender (seqnum - 1)) n.manager)) n.own) all
      (left_each n n.own.ends (parts_of (harden e.channel (notes.SeqSet end_kinds.Sender (seqnum - 1)) n.manager)) (hardened e.channel (notes.SeqSet end_kinds.Sender (seqnum - 1)) n.manager) all)
  resets_each seqnum n (Some (Receives e)) all = refused_each n (refusal (
      when (receivers.is_bound e.machine.state) reasons.Running
      ∷ when (is_bad_number seqnum (limits_here e.channel n)) reasons.BadNumber
      ∷ [])) (operated (parts_of (harden e.channel (notes.SeqSet end_kinds.Receiver (seqnum - 1)) n.manager)) (with_end (Receives (record e { machine = receivers.numbered (seqnum - 1) e.machine })) n.own)) all
      (beside_each n (record e { machine = receivers.numbered (seqnum - 1) e.machine }) (parts_of (harden e.channel (notes.SeqSet end_kinds.Receiver (seqnum - 1)) n.manager)) (hardened e.channel (notes.SeqSet end_kinds.Receiver (seqnum - 1)) n.manager) all)

  resolves_doubt : (n : Node) (e : SenderEnd) (settle : Settle) (o : Option InDoubt) → AreEach holds n.own.ends n.manager → HoldsBehind (AreEach holds) n (Some (resolve_doubt e settle o n))
  resolves_doubt n e settle None all = all
  resolves_doubt n e settle (Some d) all = refused_each n (refusal (when (senders.is_running e.machine.state) reasons.Running ∷ [])) (operated (parts_of (harden e.channel (notes.Resolved d.unit (is_commit settle) true) n.manager)) n.own) all
      (left_each n n.own.ends (parts_of (harden e.channel (notes.Resolved d.unit (is_commit settle) true) n.manager)) (hardened e.channel (notes.Resolved d.unit (is_commit settle) true) n.manager) all)

  pub resolves_each : (settle : Settle) (n : Node) (o : Option SenderEnd) → AreEach holds n.own.ends n.manager → HoldsBehind (AreEach holds) n (Some (resolve_end settle o n))
  resolves_each settle n None all = all
  resolves_each settle n (Some e) all = resolves_doubt n e settle (in_doubt_of (sender_data e.channel n.manager)) all
