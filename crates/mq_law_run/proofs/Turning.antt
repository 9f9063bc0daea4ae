-- Turns of ends that run, and timeouts, as moves of the network.
use Rattle.std.proofs.Common.{ℕ, ◌≡◌, List, [], ◌∷◌, ◌++◌, refl}
use Rattle.std.specs.Prelude.{Some, slice_get}
use Rattle.mq_sender.specs.Table.{sender_next}
use Rattle.mq_history.specs.declared.calls.Actor.TheVariants as actors
use Rattle.mq_history.specs.declared.calls.Call.TheVariants as calls
use Rattle.mq_history.specs.declared.history.History.{History}
use Rattle.mq_history.specs.declared.scenario.CableLine.{CableLine}
use Rattle.mq_history.specs.declared.scenario.Scenario.{Scenario}
use Rattle.mq_history.specs.Scenarios.{IsScenario}
use Rattle.mq_spec_manager.specs.Agents.{stock}
use Rattle.mq_spec_node.specs.Deeds.{Deed}
use Rattle.mq_spec_node.specs.Receivers.{receiver_deed}
use Rattle.mq_spec_node.specs.Replays.{IsOwn, Tells}
use Rattle.mq_spec_node.specs.Senders.{sender_deed, timeout_deed}
use Rattle.mq_spec_network.specs.Conflict.{Deed as ToldDeed, NoConflict, deeds}
use Rattle.mq_spec_network.specs.Standing.{node_after}
use Rattle.mq_spec_network.specs.Story.{Line}
use Rattle.mq_law_channel.specs.Turns.{SeenIn}
use Rattle.mq_law_node.specs.Ends.{receiver_of, sender_of}
use Rattle.mq_law_rows.proofs.Lists.{bool_case}
use Rattle.mq_law_stopped.specs.from_law_turns.Turns.{is_expiry}
use Rattle.mq_law_one.proofs.Running.{Told_}
use Rattle.mq_law_run.specs.Run.{IsRunning, Moves, Stand, far_at, near_at}
use Rattle.mq_law_run.proofs.Expiring.{expiry_moves}
use Rattle.mq_law_run.proofs.Receiving.{receiver_moves, receiver_run}
use Rattle.mq_law_run.proofs.Running.{IsRun, sound_at}
use Rattle.mq_law_run.proofs.Sending.{sender_moves, sender_run}
use Rattle.mq_law_run.proofs.Timing.{timeout_moves, timeout_run}

pub senders : (s : Scenario) (hs : List History) (p : List Line) (x : Line) (h : History) (stamp : ℕ) (z : Stand s hs p) (i : ℕ) (k : CableLine) (d : Deed) → IsScenario s → slice_get hs x.manager ≡ Some h → Tells (node_after s x.manager p h) stamp x.entry
    → IsOwn x.entry.chance → slice_get s.cables i ≡ Some k → k.sender ≡ x.manager → x.entry.actor ≡ actors.Sender i → x.entry.call ≡ calls.Turn → IsRunning s p x h d
    → sender_deed x.entry.stamp (sender_of (near_at s i k) (z.xs k.sender k.channel).sender) x.entry.effect.popped (node_after s x.manager p h) ≡ Some d → SeenIn x.entry.effect.popped (z.xs k.sender k.channel).back → Moves s hs p x h z
senders s hs p x h stamp z i k d scenario is tells own e q actor call run deed offered =
    let t : Told_ s hs p x = record { h = h; is = is; stamp = stamp; tells = tells; own = own } in
    let r : IsRun s hs p x t d = record { up = run.up; is = run.is; can = run.can; before = sound_at s hs p x z t run.up; after = sender_run s hs p x z t i k d e q run.up deed offered } in
    bool_case (is_expiry (sender_next (z.xs k.sender k.channel).sender x.entry.effect.popped (stock k.channel (node_after s x.manager p h).manager)))
    (λ b. is_expiry (sender_next (z.xs k.sender k.channel).sender x.entry.effect.popped (stock k.channel (node_after s x.manager p h).manager)) ≡ b → Moves s hs p x h z)
    (λ w f. expiry_moves s hs p x z t i k d scenario e q actor call r deed offered f)
    (λ w f. sender_moves s hs p x z t i k d scenario e q actor call r deed offered f) refl

pub receivers : (s : Scenario) (hs : List History) (whole p : List Line) (es : List ToldDeed) (x : Line) (h g : History) (stamp : ℕ) (z : Stand s hs p) (i : ℕ) (k : CableLine) (d : Deed) → IsScenario s → NoConflict s hs whole
    → deeds whole ≡ deeds (p ++ x ∷ []) ++ es → slice_get hs x.manager ≡ Some h → Tells (node_after s x.manager p h) stamp x.entry → IsOwn x.entry.chance → slice_get s.cables i ≡ Some k → k.receiver ≡ x.manager → slice_get hs k.sender ≡ Some g
    → x.entry.actor ≡ actors.Receiver i → x.entry.call ≡ calls.Turn → IsRunning s p x h d
    → receiver_deed x.entry.stamp (receiver_of (far_at s i k) (z.xs k.sender k.channel).receiver (z.xs k.sender k.channel).kept) x.entry.effect.popped (node_after s x.manager p h) ≡ Some d → SeenIn x.entry.effect.popped (z.xs k.sender k.channel).out
    → Moves s hs p x h z
receivers s hs whole p es x h g stamp z i k d scenario none split is tells own e q from actor call run deed offered =
    let t : Told_ s hs p x = record { h = h; is = is; stamp = stamp; tells = tells; own = own } in
    let r : IsRun s hs p x t d = record { up = run.up; is = run.is; can = run.can; before = sound_at s hs p x z t run.up; after = receiver_run s hs p x z t (receiver_of (far_at s i k) (z.xs k.sender k.channel).receiver (z.xs k.sender k.channel).kept) d run.up deed } in
    receiver_moves s hs whole p es x z t i k d g scenario none split e q from actor call r deed offered

pub timeouts : (s : Scenario) (hs : List History) (p : List Line) (x : Line) (h : History) (stamp : ℕ) (z : Stand s hs p) (i : ℕ) (k : CableLine) (d : Deed) → IsScenario s → slice_get hs x.manager ≡ Some h → Tells (node_after s x.manager p h) stamp x.entry
    → IsOwn x.entry.chance → slice_get s.cables i ≡ Some k → k.sender ≡ x.manager → x.entry.call ≡ calls.Timeout → IsRunning s p x h d
    → timeout_deed (sender_of (near_at s i k) (z.xs k.sender k.channel).sender) (node_after s x.manager p h) ≡ Some d → Moves s hs p x h z
timeouts s hs p x h stamp z i k d scenario is tells own e q call run deed =
    let t : Told_ s hs p x = record { h = h; is = is; stamp = stamp; tells = tells; own = own } in
    let r : IsRun s hs p x t d = record { up = run.up; is = run.is; can = run.can; before = sound_at s hs p x z t run.up; after = timeout_run s hs p x z t (sender_of (near_at s i k) (z.xs k.sender k.channel).sender) d run.up deed } in
    timeout_moves s hs p x z t i k d scenario e q call r deed
