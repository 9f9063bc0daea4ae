-- What each turn of an end notes where its write is stopped.
use Rattle.std.proofs.Common.{ℕ, ◌≡◌, ◌⊎◌, Bool, true, false, List, [], ◌++◌, refl, ap, sym, subst, ◌∙◌, inl, inr, map}
use Rattle.std.specs.Prelude.{Option, Some, None, Result, Ok, Err, if◌then◌else◌}
use Rattle.std.specs.Option.{option_map}
use Rattle.mq_codes.specs.declared.reason.Reason.{Reason}
use Rattle.mq_frame.specs.declared.frame.Seen.{Seen}
use Rattle.mq_sync.specs.declared.unit.Unit.{Unit as Luw}
use Rattle.mq_sync.specs.declared.unit.Settle.TheVariants as settles
use Rattle.mq_sender.specs.declared.state.Kept.{Kept}
use Rattle.mq_sender.specs.declared.state.SenderState.{SenderState}
use Rattle.mq_sender.specs.declared.turns.SenderDoes.{SenderDoes}
use Rattle.mq_sender.specs.declared.turns.SenderDoes.TheVariants as does
use Rattle.mq_sender.specs.declared.turns.SenderOut.TheVariants as outs
use Rattle.mq_sender.specs.States.{is_running}
use Rattle.mq_sender.specs.After.{number_sent, sender_after}
use Rattle.mq_sender.specs.Table.{sender_next}
use Rattle.mq_receiver.specs.declared.turns.ReceiverDoes.{ReceiverDoes}
use Rattle.mq_receiver.specs.declared.turns.ReceiverDoes.TheVariants as takes
use Rattle.mq_receiver.specs.declared.turns.ReceiverOut.TheVariants as ends
use Rattle.mq_receiver.specs.After.{bound_by, last_by}
use Rattle.mq_receiver.specs.Table.{receiver_next}
use Rattle.mq_calls.specs.declared.agents.Note.TheVariants as notes
use Rattle.mq_calls.specs.declared.records.LogRecord.{LogRecord}
use Rattle.mq_calls.specs.declared.state.Batch.{Batch}
use Rattle.mq_calls.specs.State.{Plain}
use Rattle.mq_calls.specs.Reads.{batch_of, in_doubt_of, is_full, sender_data}
use Rattle.mq_calls.specs.Sizes.{need}
use Rattle.mq_calls.specs.Steps.{Part}
use Rattle.mq_spec_manager.specs.Agents.{Landed, harden_part, landed, leave, prepare_of, prepared_record, receive_landed, received_record, release_of, stock, unit_of}
use Rattle.mq_spec_node.specs.Node.{Node}
use Rattle.mq_spec_node.specs.Deeds.{parts_of}
use Rattle.mq_spec_node.specs.Receivers.{is_receiver_defined, place_deed, receiver_deed_by}
use Rattle.mq_spec_node.specs.Senders.{doubted, leave_if_stopped, prepare_deed, sender_deed_by}
use Rattle.mq_law_channel.specs.Channel.{Channel, Facts, Past}
use Rattle.mq_law_channel.specs.Following.{Said}
use Rattle.mq_law_channel.specs.Turns.{ReceiverTurn, SeenIn, SenderTurn, receiver_does, receiver_turned}
use Rattle.mq_law_channel.proofs.Following.{said}
use Rattle.mq_law_channel.proofs.Told.{doubt_is}
use Rattle.mq_law_turns.proofs.from_law_rows.Lists.{bool_case}
use Rattle.mq_law_node.specs.Data.{sends_at}
use Rattle.mq_law_node.specs.Ends.{SendsAs, Where, out_of, prepare_out, place_out, receiver_of, receiver_out, sender_of, stamped, taking_turn, turn_of}
use Rattle.mq_law_node.specs.Moves.{NearStep}
use Rattle.mq_law_node.proofs.Operators.{doubt_there}
use Rattle.mq_law_node.proofs.ReceiverTurns.{placed_by}
use Rattle.mq_law_node.proofs.SenderTable.{may_turn, prepared_by}
use Rattle.mq_law_turns.specs.Turns.{is_expiry}
use Rattle.mq_law_turns.proofs.Sending.{Settling, settles_so}
use Rattle.mq_law_stopped.specs.Noted.{EachFirst, EachWrites, IsSettling, SaysReceiver, SaysSender}
use Rattle.mq_law_stopped.specs.Noted.SenderKind.{Begins, Prepares, Settles}
use Rattle.mq_law_stopped.proofs.Leaving.{hardened_calm, prepared_lasts, settled_lasts, word_lasts}
use Rattle.mq_law_stopped.proofs.Redoing.{IsWord_, word_of}

-- parts that force nothing
pub leaving_first : (P : Part → LogRecord → Type 0) (c : List ℕ) (st : SenderState) (p : Plain) → EachFirst P (leave_if_stopped c st p)
leaving_first P c st p = bool_case (is_running st) (λ t. EachFirst P (if t then [] else parts_of (leave c p))) (λ e. tt) (λ e r f. absurd cc)

pub release_first : (P : Part → LogRecord → Type 0) (c : List ℕ) (o : Option Batch) (p : Plain) → EachFirst P (parts_of (release_of c o) ++ parts_of (leave c p))
release_first P c None p = λ r f. absurd cc
release_first P c (Some b) p = λ r f. absurd cc

-- what is left beside, where the sender stops
after_first : (P : Part → LogRecord → Type 0) (w : Where) (c : Channel) (d : SenderDoes) (n : Node) → EachFirst P (leave_if_stopped w.channel (sender_after c.sender d outs.Done).state n.manager)
after_first P w c d n = leaving_first P w.channel (sender_after c.sender d outs.Done).state n.manager

-- A SENDER'S TURN
abbrev Says : Where → ℕ → ℕ → Seen → Node → Channel → Part → LogRecord → Type 0
Says w left stamp seen n c = SaysSender w.channel left n.manager c (NearStep.Turn (turn_of w stamp seen c.sender n.manager))

settled_says : (w : Where) (left stamp : ℕ) (seen : Seen) (n : Node) (c : Channel) (y : Past) (d : SenderDoes) (commit : Bool) (r : LogRecord) → SendsAs w n c → Facts c y → SeenIn seen c.back → sender_next c.sender seen (stock w.channel n.manager) ≡ d
    → out_of d w c.sender n.manager ≡ outs.Done → IsSettling d commit → Says w left stamp seen n c (harden_part w.channel (notes.Resolved (doubted c.sender.kept.doubt) commit false) n.manager) r
settled_says w left stamp seen n c y d commit r sends facts offered e out so =
    let b : Plain = n.manager in
    let t : SenderTurn = turn_of w stamp seen c.sender b in
    let may = may_turn w stamp seen b c offered in
    let k : Settling c.sender seen d = subst (Settling c.sender seen) e (settles_so c.sender seen (stock w.channel b)) in
    let s : Said d t c y = subst (λ (o : SenderDoes). Said o t c y) e (said t c y facts may) in
    let v : IsWord_ c y commit = word_of c y t d commit may so k s in
    let free : batch_of w.channel b.channels.batches ≡ None = sends.unbatched v.off in
    let known = doubt_is (sends_at w.channel b).in_doubt v.doubt (sym (ap (λ (o : Kept). o.doubt) sends.data_) ∙ sym (ap (λ (o : Kept). o.doubt) (facts.tied.running v.runs)) ∙ v.is) in
    let held : option_map unit_of (in_doubt_of (sender_data w.channel b)) ≡ Some (doubted c.sender.kept.doubt) =
    ap (option_map unit_of) (doubt_there (sender_data w.channel b) ∙ known.is) ∙ ap (λ (u : Luw). Some u) (known.unit ∙ sym (ap doubted v.is)) in (
      Settles t d commit refl (record { done = ap (λ (o : SenderDoes). out_of o w c.sender b) e ∙ out; does = e }) so free refl,
      settled_lasts w.channel (doubted c.sender.kept.doubt) commit false b held free,
      hardened_calm w.channel (notes.Resolved (doubted c.sender.kept.doubt) commit false) b,
    )

prepare_says : (w : Where) (left stamp : ℕ) (seen : Seen) (n : Node) (c : Channel) (o : Option Batch) → sender_next c.sender seen (stock w.channel n.manager) ≡ does.Prepare → batch_of w.channel n.manager.channels.batches ≡ o
    → EachWrites (Says w left stamp seen n c) (Some (prepare_deed (sender_of w c.sender) (prepare_of w.channel (number_sent c.sender.state c.sender.kept.last) o n.manager) n))
prepare_says w left stamp seen n c None e found = after_first (Says w left stamp seen n c) w c does.Prepare n
prepare_says w left stamp seen n c (Some b) e found =
    let last : ℕ = number_sent c.sender.state c.sender.kept.last in
    bool_case (is_full (need (prepared_record w.channel last b)) n.manager)
    (λ f. is_full (need (prepared_record w.channel last b)) n.manager ≡ f → EachWrites (Says w left stamp seen n c) (Some (prepare_deed (sender_of w c.sender) (prepared_by w last b n.manager f) n)))
    (λ z f. release_first (Says w left stamp seen n c) w.channel (batch_of w.channel n.manager.channels.batches) n.manager)
    (λ z f r g. (
      Prepares (turn_of w stamp seen c.sender n.manager) b last refl (record {
        done = ap (λ (o : SenderDoes). out_of o w c.sender n.manager) e ∙ ap (λ (o : Option Batch). prepare_out (prepare_of w.channel last o n.manager)) found ∙ ap (λ t. prepare_out (prepared_by w last b n.manager t)) f;
        does = e;
      }) found refl,
      prepared_lasts w.channel last b n.manager,
      refl,
    )) refl

pub sender_says : (w : Where) (left stamp : ℕ) (seen : Seen) (n : Node) (c : Channel) (y : Past) (d : SenderDoes) → SendsAs w n c → Facts c y → SeenIn seen c.back → sender_next c.sender seen (stock w.channel n.manager) ≡ d → is_expiry d ≡ false
    → EachWrites (Says w left stamp seen n c) (sender_deed_by stamp (sender_of w c.sender) d n)
sender_says w left stamp seen n c y does.Still sends facts offered e plain = tt
sender_says w left stamp seen n c y does.Ignore sends facts offered e plain = tt
sender_says w left stamp seen n c y (does.HardenSession session) sends facts offered e plain = λ r f. (
  Begins (turn_of w stamp seen c.sender n.manager) w.partner session refl (record { done = ap (λ (o : SenderDoes). out_of o w c.sender n.manager) e; does = e }) refl,
  word_lasts w.channel (notes.Session w.partner session) n.manager tt,
  refl,
)
sender_says w left stamp seen n c y does.PushBind sends facts offered e plain = after_first (Says w left stamp seen n c) w c does.PushBind n
sender_says w left stamp seen n c y does.Expire sends facts offered e plain = absurd cc
sender_says w left stamp seen n c y (does.Begin k count) sends facts offered e plain = λ r f. absurd cc
sender_says w left stamp seen n c y (does.PushMsg index) sends facts offered e plain = after_first (Says w left stamp seen n c) w c (does.PushMsg index) n
sender_says w left stamp seen n c y does.Prepare sends facts offered e plain = prepare_says w left stamp seen n c (batch_of w.channel n.manager.channels.batches) e refl
sender_says w left stamp seen n c y does.PushEnd sends facts offered e plain = after_first (Says w left stamp seen n c) w c does.PushEnd n
sender_says w left stamp seen n c y (does.Bound None partner) sends facts offered e plain = after_first (Says w left stamp seen n c) w c (does.Bound None partner) n
sender_says w left stamp seen n c y (does.Bound (Some settles.Commit) partner) sends facts offered e plain = λ r f. settled_says w left stamp seen n c y (does.Bound (Some settles.Commit) partner) true r sends facts offered e refl refl
sender_says w left stamp seen n c y (does.Bound (Some settles.Backout) partner) sends facts offered e plain = λ r f. settled_says w left stamp seen n c y (does.Bound (Some settles.Backout) partner) false r sends facts offered e refl refl
sender_says w left stamp seen n c y does.Commit sends facts offered e plain = λ r f. settled_says w left stamp seen n c y does.Commit true r sends facts offered e refl refl
sender_says w left stamp seen n c y (does.Backout reason) sends facts offered e plain = λ r f. settled_says w left stamp seen n c y (does.Backout reason) false r sends facts offered e refl refl

-- A RECEIVER'S TURN
placed_not : (u : Luw) (d : ReceiverDoes) → d ≡ takes.Place u → d ≡ takes.Bind ⊎ d ≡ takes.Close → ⊥
placed_not u d e (inl f) = cc
placed_not u d e (inr f) = cc

abbrev Takes_ : Where → ℕ → Seen → Node → Channel → Part → LogRecord → Type 0
Takes_ w stamp seen n c = SaysReceiver w.channel n.manager c (taking_turn w stamp seen c.receiver c.kept n.manager)

closes_says : (w : Where) (stamp : ℕ) (seen : Seen) (n : Node) (c : Channel) (u : Luw) (reason : ℕ) (r : LogRecord) → receiver_next c.receiver seen (is_receiver_defined w.channel n.manager.definitions) ≡ takes.Place u
    → receiver_out (takes.Place u) w seen c.receiver c.kept n.manager ≡ ends.Refused reason → Takes_ w stamp seen n c (harden_part w.channel (notes.Closed c.receiver.session) n.manager) r
closes_says w stamp seen n c u reason r e out =
    let t : ReceiverTurn = taking_turn w stamp seen c.receiver c.kept n.manager in
    let o : t.outcome ≡ ends.Refused reason = ap (λ (d : ReceiverDoes). receiver_out d w seen c.receiver c.kept n.manager) e ∙ out in
    inl ((notes.Closed c.receiver.session, tt, refl), (λ i. (receiver_turned (o i) (receiver_does t c) t c).receives.unit), λ v f g. refused_not reason (sym o ∙ f))
  where
    refused_not : (k : ℕ) → ends.Refused k ≡ ends.Done → ⊥
    refused_not k f = cc

place_says : (w : Where) (stamp : ℕ) (seen : Seen) (n : Node) (c : Channel) (u : Luw) (o : Result Landed Reason) → receiver_next c.receiver seen (is_receiver_defined w.channel n.manager.definitions) ≡ takes.Place u → landed w.channel (map stamped c.kept) n.manager ≡ o
    → EachWrites (Takes_ w stamp seen n c) (Some (place_deed (receiver_of w c.receiver c.kept) u seen (receive_landed w.channel u (last_by seen c.receiver.last) o n.manager) n))
place_says w stamp seen n c u (Err reason) e lands = λ r f. closes_says w stamp seen n c u _ r e (ap (λ (v : Result Landed Reason). place_out (receive_landed w.channel u (last_by seen c.receiver.last) v n.manager)) lands)
place_says w stamp seen n c u (Ok ld) e lands =
    let last : ℕ = last_by seen c.receiver.last in
    bool_case (is_full (need (received_record w.channel u last ld)) n.manager)
    (λ f. is_full (need (received_record w.channel u last ld)) n.manager ≡ f → EachWrites (Takes_ w stamp seen n c) (Some (place_deed (receiver_of w c.receiver c.kept) u seen (placed_by w u last ld n.manager f) n)))
    (λ z f r g. closes_says w stamp seen n c u _ r e (ap (λ (v : Result Landed Reason). place_out (receive_landed w.channel u last v n.manager)) lands ∙ ap (λ t. place_out (placed_by w u last ld n.manager t)) f))
    (λ z f r g. inr (record {
      unit = u;
      last = last;
      land = ld;
      ran = ap (λ (d : ReceiverDoes). receiver_out d w seen c.receiver c.kept n.manager) e ∙ ap (λ (v : Result Landed Reason). place_out (receive_landed w.channel u last v n.manager)) lands ∙ ap (λ t. place_out (placed_by w u last ld n.manager t)) f;
      does = e;
      lands = lands;
      part_ = refl;
      record_ = some_is r (received_record w.channel u last ld) (sym g);
    })) refl
  where
    some_is : (a b : LogRecord) → Some a ≡ Some b → a ≡ b
    some_is a b q = cc

pub receiver_says : (w : Where) (stamp : ℕ) (seen : Seen) (n : Node) (c : Channel) (d : ReceiverDoes) → receiver_next c.receiver seen (is_receiver_defined w.channel n.manager.definitions) ≡ d
    → EachWrites (Takes_ w stamp seen n c) (receiver_deed_by stamp (receiver_of w c.receiver c.kept) seen d n)
receiver_says w stamp seen n c takes.Still e = tt
receiver_says w stamp seen n c takes.Ignore e = tt
receiver_says w stamp seen n c takes.PushOwed e = tt
receiver_says w stamp seen n c takes.Bind e = λ r f. inl (
  (notes.Bound w.partner (bound_by seen c.receiver).session (bound_by seen c.receiver).last, tt, refl),
  (λ i. (receiver_turned (receiver_out (e i) w seen c.receiver c.kept n.manager) (e i) (taking_turn w stamp seen c.receiver c.kept n.manager) c).receives.unit),
  λ v o g. placed_not v _ g (inl e),
)
receiver_says w stamp seen n c takes.Keep e = tt
receiver_says w stamp seen n c (takes.Place u) e = place_says w stamp seen n c u (landed w.channel (map stamped c.kept) n.manager) e refl
receiver_says w stamp seen n c takes.Again e = tt
receiver_says w stamp seen n c takes.Close e = λ r f. inl (
  (notes.Closed c.receiver.session, tt, refl),
  (λ i. (receiver_turned (receiver_out (e i) w seen c.receiver c.kept n.manager) (e i) (taking_turn w stamp seen c.receiver c.kept n.manager) c).receives.unit),
  λ v o g. placed_not v _ g (inr e),
)
