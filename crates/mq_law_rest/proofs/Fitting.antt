-- At each front of a manager's history, where the manager is up, its node has the facts of which it follows that it fits.
use Rattle.std.proofs.Common.{ℕ, zero, suc, ◌≡◌, ◌≤◌, ◌<◌, ◌⊎◌, true, false, List, [], ◌∷◌, ◌++◌, length, refl, ap, sym, subst, ◌∙◌, inl, inr, append_assoc, append-nil, arith}
use Rattle.std.specs.Prelude.{◌==◌, if◌then◌else◌, Option, Some, None, is_some, slice_get}
use Rattle.std.specs.Option.{option_map}
use Rattle.std.proofs.lemmas.Bool.{true≢false}
use Rattle.mq_base.specs.Members.{Mem}
use Rattle.mq_message.specs.declared.message.Ident.{Ident}
use Rattle.mq_queue.specs.declared.row.Row.{Row}
use Rattle.mq_sender.specs.Table.{is_sending}
use Rattle.mq_sender.specs.declared.state.SenderState.{SenderState}
use Rattle.mq_sender.specs.declared.state.SenderState.TheVariants as states
use Rattle.mq_history.specs.declared.calls.Entry.{Entry}
use Rattle.mq_history.specs.declared.history.History.{History}
use Rattle.mq_history.specs.declared.scenario.CableLine.{CableLine}
use Rattle.mq_history.specs.declared.scenario.Scenario.{Scenario}
use Rattle.mq_history.specs.Scenarios.{IsScenario}
use Rattle.mq_calls.specs.declared.state.Batch.{Batch}
use Rattle.mq_calls.specs.Reads.{batch_of, stored}
use Rattle.mq_calls.specs.State.{Plain, Running}
use Rattle.mq_calls.specs.State.Running.{Up, Down}
use Rattle.mq_spec_manager.specs.Agents.{batch_idents, batch_queue, row_with}
use Rattle.mq_spec_node.specs.Node.{ChannelEnd, Node, ReceiverEnd, SenderEnd, cable_of, end_in}
use Rattle.mq_spec_node.specs.Node.ChannelEnd.{Receives, Sends}
use Rattle.mq_spec_node.specs.Replays.{Follows, IsOwn, NoneForeign, after, done_by, opening_node}
use Rattle.mq_spec_network.specs.Given.{surroundings}
use Rattle.mq_spec_network.specs.Promised.{Premises}
use Rattle.mq_spec_network.specs.Standing.{node_after}
use Rattle.mq_spec_network.specs.Story.{Line, part}
use Rattle.mq_law_channel.specs.Channel.{Channel}
use Rattle.mq_law_channel.specs.Facts.{Letter}
use Rattle.mq_law_idle.specs.Measure.{batch_of as batch_counted}
use Rattle.mq_law_idle.proofs.Serving.{batch_serves}
use Rattle.mq_law_keys.specs.Keys.{AreKeyed, keys}
use Rattle.mq_law_keys.proofs.Starting.{run_keyed}
use Rattle.mq_law_keys.proofs.Telling.{one_cable}
use Rattle.mq_law_manager.specs.Facts.{IsSound}
use Rattle.mq_law_node.specs.Ends.{Batched, Reads, SendsAs, TakesAs, Where, letter_of, sender_of}
use Rattle.mq_law_node.specs.Nodes.{FarAt, FarNode, NearAt, NearNode}
use Rattle.mq_law_node.proofs.Named.{bool_case, nat_self, nat_yes}
use Rattle.mq_law_ran.specs.from_law_one.Alone.{IsState}
use Rattle.mq_law_pump.specs.Fit.{IsFit}
use Rattle.mq_law_pump.specs.Kept.{IsKeptNode, SendsBatch}
use Rattle.mq_law_pump.proofs.Fitting.{fits}
use Rattle.mq_law_pump.proofs.Histories.{after_more}
use Rattle.mq_law_queued.specs.Queued.{AreQueued, QueuedUp}
use Rattle.mq_law_queued.proofs.Events.{begins as begins_queued, events as stays_queued}
use Rattle.mq_law_ran.specs.from_law_run.Run.{Stand, far_at, near_at}
use Rattle.mq_law_ran.proofs.from_law_run.Cabling.{cable_there}
use Rattle.mq_law_ran.proofs.from_law_story.Weaving.{follows_at}
use Rattle.mq_law_rest.specs.Rests.{AreSome, IsPeaceful}
use Rattle.mq_law_rest.proofs.Standing.{StandAt, stand_at}

-- WHAT THE NETWORK'S FACTS SAY OF ONE NODE
down_up : (p : Plain) (r : Running) → r ≡ Up → IsState r p → IsSound p
down_up p Up e h = h
down_up p (Down noted starts) e h = absurd cc

near_up : (w : Where) (n : Node) (c : Channel) (r : Running) → r ≡ Up → NearAt w n c r → SendsAs w n c
near_up w n c Up e h = h
near_up w n c (Down noted starts) e h = absurd cc

far_up : (w : Where) (n : Node) (c : Channel) (r : Running) → r ≡ Up → FarAt w n c r → TakesAs w n c
far_up w n c Up e h = h
far_up w n c (Down noted starts) e h = absurd cc

pub sound_there : (s : Scenario) (hs : List History) (p : List Line) (m : ℕ) (h : History) → Stand s hs p → slice_get hs m ≡ Some h → (node_after s m p h).manager.running ≡ Up → IsSound (node_after s m p h).manager
sound_there s hs p m h z is up = down_up (node_after s m p h).manager (node_after s m p h).manager.running up (z.at m h is).state

pub sends_there : (s : Scenario) (hs : List History) (p : List Line) (m : ℕ) (h : History) (z : Stand s hs p) (i : ℕ) (k : CableLine) → slice_get s.cables i ≡ Some k → k.sender ≡ m → slice_get hs m ≡ Some h → (node_after s m p h).manager.running ≡ Up
    → SendsAs (near_at s i k) (node_after s m p h) (z.xs k.sender k.channel)
sends_there s hs p m h z i k there at is up =
    near_up (near_at s i k) (node_after s m p h) (z.xs k.sender k.channel) (node_after s m p h).manager.running up
    (subst (λ (a : ℕ). slice_get hs a ≡ Some h → NearNode (near_at s i k) (node_after s a p h) (z.xs k.sender k.channel)) at (λ e. (z.lines i k there).near h e) is)

pub takes_there : (s : Scenario) (hs : List History) (p : List Line) (m : ℕ) (h : History) (z : Stand s hs p) (i : ℕ) (k : CableLine) → slice_get s.cables i ≡ Some k → k.receiver ≡ m → slice_get hs m ≡ Some h → (node_after s m p h).manager.running ≡ Up
    → TakesAs (far_at s i k) (node_after s m p h) (z.xs k.sender k.channel)
takes_there s hs p m h z i k there at is up =
    far_up (far_at s i k) (node_after s m p h) (z.xs k.sender k.channel) (node_after s m p h).manager.running up
    (subst (λ (a : ℕ). slice_get hs a ≡ Some h → FarNode (far_at s i k) (node_after s a p h) (z.xs k.sender k.channel)) at (λ e. (z.lines i k there).far h e) is)

-- A BATCH THAT IS BEING SENT
-- it lists all its messages
letters_at : (letters : List Letter) (i : ℕ) → i < length letters → is_some (slice_get letters i) ≡ true
letters_at [] i less = absurd (omega (arith, less))
letters_at (l ∷ ls) zero less = refl
letters_at (l ∷ ls) (suc i) less = letters_at ls i (omega (arith, less))

no_row : (o : Option Ident) (rows : List Row) → is_some (option_map letter_of (row_with o rows)) ≡ true → is_some o ≡ true
no_row None rows e = e
no_row (Some i) rows e = refl

ident_at : (ids : List Ident) (i : ℕ) → is_some (slice_get ids i) ≡ true → i < length ids
ident_at [] i e = absurd cc
ident_at (x ∷ ids) zero e = omega arith
ident_at (x ∷ ids) (suc i) e = let r = ident_at ids i e in omega (arith, r)

all_listed : (n k : ℕ) → ((i : ℕ) → i < n → i < k) → n ≤ k
all_listed zero k f = omega arith
all_listed (suc n) k f = let r = f n (omega arith) in omega (arith, r)

lists_all : (channel : List ℕ) (letters : List Letter) (p : Plain) → Reads channel letters p → length letters ≤ length (batch_idents (batch_of channel p.channels.batches))
lists_all channel letters p reads =
    let ids : List Ident = batch_idents (batch_of channel p.channels.batches) in
    let rows : List Row = (stored (batch_queue (batch_of channel p.channels.batches)) p).rows in
    all_listed (length letters) (length ids) (λ i less. ident_at ids i (no_row (slice_get ids i) rows (ap is_some (reads i) ∙ letters_at letters i less)))

sending_counts : (st : SenderState) (count : ℕ) → is_sending st ≡ true → batch_counted st count ≡ count
sending_counts (states.Sending sent number) count e = refl
sending_counts states.Inactive count e = absurd cc
sending_counts (states.Stopped cause) count e = absurd cc
sending_counts states.Starting count e = absurd cc
sending_counts states.Hailing count e = absurd cc
sending_counts states.Binding count e = absurd cc
sending_counts states.Running count e = absurd cc
sending_counts states.Ready count e = absurd cc
sending_counts states.Waiting count e = absurd cc

-- the end that is found
found_in : (es : List ChannelEnd) (x : ChannelEnd) → AreKeyed (keys es) → Mem x es → end_in (cable_of x) es ≡ Some x
found_in [] x h n = absurd n
found_in (y ∷ es) x h n = bool_case (cable_of y == cable_of x) (λ t. (cable_of y == cable_of x) ≡ t → (if t then Some y else end_in (cable_of x) es) ≡ Some x)
    (λ z e. ap (λ (o : ChannelEnd). Some o) (one_cable (y ∷ es) y x h (inl refl) n (nat_yes (cable_of y) (cable_of x) e)))
    (λ z e. found_in es x h.1 (elim n [
      | inl q ↦ absurd (true≢false (sym (nat_self (cable_of x)) ∙ ap (λ (o : ChannelEnd). cable_of o == cable_of x) q ∙ e))
      | inr w ↦ w
    ])) refl

same_end : (e o : SenderEnd) → Some (Sends e) ≡ Some (Sends o) → e ≡ o
same_end e o f = cc

no_kind : (e : SenderEnd) (o : ReceiverEnd) → Some (Sends e) ≡ Some (Receives o) → ⊥
no_kind e o f = cc

sends_batch : (s : Scenario) (hs : List History) (p : List Line) (m : ℕ) (h : History) → IsScenario s → (z : Stand s hs p) → slice_get hs m ≡ Some h → (node_after s m p h).manager.running ≡ Up → AreQueued (node_after s m p h).own.ends (node_after s m p h).manager
    → (e : SenderEnd) → Mem (Sends e) (node_after s m p h).own.ends → is_sending e.machine.state ≡ true → SendsBatch e (node_after s m p h)
sends_batch s hs p m h scenario z is up q e there on = at w.2
  where
    n : Node
    n = node_after s m p h

    found : end_in e.cable n.own.ends ≡ Some (Sends e)
    found = found_in n.own.ends (Sends e) (run_keyed s m h (part m p) scenario) there

    w : (k : CableLine) × (slice_get s.cables e.cable ≡ Some k) × ((k.sender ≡ m) ⊎ (k.receiver ≡ m))
    w = cable_there s m p h e.cable (Sends e) scenario found

    x : Channel
    x = z.xs w.0.sender w.0.channel

    sends : w.0.sender ≡ m → SendsBatch e n
    sends here =
        let sa : SendsAs (near_at s e.cable w.0) n x = sends_there s hs p m h z e.cable w.0 w.1 here is up in
        let same : e ≡ sender_of (near_at s e.cable w.0) x.sender = same_end e (sender_of (near_at s e.cable w.0) x.sender) (sym found ∙ sa.here) in
        let sending : is_sending x.sender.state ≡ true = sym (ap (λ (y : SenderEnd). is_sending y.machine.state) same) ∙ on in
        let b : Batched w.0.channel x.sender x.batch n.manager = sa.batched sending in
        let named : batch_of e.channel n.manager.channels.batches ≡ Some b.batch = ap (λ (y : SenderEnd). batch_of y.channel n.manager.channels.batches) same ∙ b.is in
        let all : length x.batch ≤ length b.batch.idents = subst (λ (o : Option Batch). length x.batch ≤ length (batch_idents o)) b.is (lists_all w.0.channel x.batch n.manager b.reads) in
        let counted : batch_counted x.sender.state x.sender.count ≤ length x.batch = batch_serves x (z.ys w.0.sender w.0.channel) (z.lines e.cable w.0 w.1).facts in
        record {
          batch = b.batch;
          is = named;
          many = omega (arith, all, counted, sending_counts x.sender.state x.sender.count sending, ap (λ (y : SenderEnd). y.machine.count) same);
          once = (q e there).once b.batch named;
        }

    at : (w.0.sender ≡ m) ⊎ (w.0.receiver ≡ m) → SendsBatch e n
    at (inl here) = sends here
    at (inr here) = absurd (no_kind e _ (sym found ∙ (takes_there s hs p m h z e.cable w.0 w.1 here is up).here))

-- ONE NODE
kept_node : (s : Scenario) (hs : List History) (p : List Line) (m : ℕ) (h : History) → IsScenario s → (z : Stand s hs p) → slice_get hs m ≡ Some h → (node_after s m p h).manager.running ≡ Up → AreQueued (node_after s m p h).own.ends (node_after s m p h).manager
    → IsKeptNode (node_after s m p h)
kept_node s hs p m h scenario z is up q = record {
  keyed = run_keyed s m h (part m p) scenario;
  unshared = z.unshared m h is up;
  sound = (sound_there s hs p m h z is up).facts;
  queued = λ e there b k. (q e there).of b k;
  sends = λ e there on. sends_batch s hs p m h scenario z is up q e there on;
  some = λ e there on. (q e there).some on;
}

-- ALONG A HISTORY
own_at : (xs : List Entry) (e : Entry) (ys : List Entry) → NoneForeign (xs ++ e ∷ ys) → IsOwn e.chance
own_at [] e ys h = h.0
own_at (x ∷ xs) e ys h = own_at xs e ys h.1

pub sound_at : (s : Scenario) (hs : List History) → Premises s hs → IsPeaceful s hs → (m : ℕ) (h : History) (front back : List Entry) → slice_get hs m ≡ Some h → h.entries ≡ front ++ back
    → (after (opening_node (surroundings s m) h) front).manager.running ≡ Up → IsSound (after (opening_node (surroundings s m) h) front).manager
sound_at s hs premises calm m h front back is split =
    let r : StandAt s hs m front = stand_at s hs premises calm m h front back is split in
    subst (λ (es : List Entry). (after (opening_node (surroundings s m) h) es).manager.running ≡ Up → IsSound (after (opening_node (surroundings s m) h) es).manager) r.did (λ up. sound_there s hs r.prefix m h r.stand is up)

queued_along : (s : Scenario) (hs : List History) → Premises s hs → IsPeaceful s hs → AreSome s hs → (m : ℕ) (h : History) (pre es back : List Entry) → slice_get hs m ≡ Some h → h.entries ≡ pre ++ (es ++ back)
    → QueuedUp (after (opening_node (surroundings s m) h) pre) → QueuedUp (after (opening_node (surroundings s m) h) (pre ++ es))
queued_along s hs premises calm some m h pre [] back is split q = subst (λ (xs : List Entry). QueuedUp (after (opening_node (surroundings s m) h) xs)) (sym (append-nil pre)) q
queued_along s hs premises calm some m h pre (e ∷ es) back is split q =
    let n0 : Node = opening_node (surroundings s m) h in
    let n : Node = after n0 pre in
    let t = follows_at n0 0 pre e (es ++ back) (subst (Follows n0 0) split (premises.lawful.histories m h is).replays.follows) in
    let one : QueuedUp (done_by e n).next = stays_queued e.stamp e.actor e.call e.chance e.effect.popped n q (run_keyed s m h pre premises.scenario) (sound_at s hs premises calm m h pre (e ∷ (es ++ back)) is split)
    (λ on. some m h pre (e ∷ (es ++ back)) is split) t.1.event (own_at pre e (es ++ back) (subst NoneForeign split (premises.own m h is))) in
    subst (λ (xs : List Entry). QueuedUp (after n0 xs)) (append_assoc pre (e ∷ []) es)
    (queued_along s hs premises calm some m h (pre ++ e ∷ []) es back is (split ∙ sym (append_assoc pre (e ∷ []) (es ++ back))) (subst QueuedUp (sym (after_more n0 pre (e ∷ []))) one))

pub fit_at : (s : Scenario) (hs : List History) → Premises s hs → IsPeaceful s hs → AreSome s hs → (m : ℕ) (h : History) (front back : List Entry) → slice_get hs m ≡ Some h → h.entries ≡ front ++ back
    → (after (opening_node (surroundings s m) h) front).manager.running ≡ Up → IsFit (after (opening_node (surroundings s m) h) front)
fit_at s hs premises calm some m h front back is split up =
    let n0 : Node = opening_node (surroundings s m) h in
    let r : StandAt s hs m front = stand_at s hs premises calm m h front back is split in
    let q : QueuedUp (after n0 front) = queued_along s hs premises calm some m h [] front back is split (λ on. begins_queued (surroundings s m) h) in
    subst (λ (es : List Entry). (after n0 es).manager.running ≡ Up → QueuedUp (after n0 es) → IsFit (after n0 es)) r.did
    (λ on k. fits (node_after s m r.prefix h) (kept_node s hs r.prefix m h premises.scenario r.stand is on (k on))) up q
