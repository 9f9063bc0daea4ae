-- A deed that ran, at a manager that is up: what the parts of a move have in common.
use Rattle.std.proofs.Common.{ℕ, ◌≡◌, ◌⊎◌, true, List, [], ◌∷◌, ◌++◌, refl, ap, sym, subst, ◌∙◌, inl, inr}
use Rattle.std.specs.Prelude.{Option, Some, if◌then◌else◌, slice_get}
use Rattle.mq_sync.specs.declared.unit.Unit.{Unit as Luw}
use Rattle.mq_calls.specs.declared.choices.Choice.TheVariants.{Runs}
use Rattle.mq_history.specs.declared.history.History.{History}
use Rattle.mq_history.specs.declared.scenario.CableLine.{CableLine}
use Rattle.mq_history.specs.declared.scenario.Scenario.{Scenario}
use Rattle.mq_calls.specs.State.{Given, Noted, Numbers, Plain, Running}
use Rattle.mq_calls.specs.State.Running.{Up}
use Rattle.mq_calls.specs.Steps.{do_all}
use Rattle.mq_spec_node.specs.Node.{Node}
use Rattle.mq_spec_node.specs.Deeds.{CanCome, Deed, Done, done}
use Rattle.mq_spec_node.specs.Replays.{done_by}
use Rattle.mq_spec_network.specs.Conflict.{Deed as ToldDeed, deeds}
use Rattle.mq_spec_network.specs.Ledger as ledgers
use Rattle.mq_spec_network.specs.Ledger.{Ledger, ledger}
use Rattle.mq_spec_network.specs.Standing.{managers_at, node_after, opening_ledger}
use Rattle.mq_spec_network.specs.Story.{Line, Mem}
use Rattle.mq_law_channel.specs.Channel.{Channel, Past}
use Rattle.mq_law_manager.specs.Facts.{IsSound}
use Rattle.mq_law_node.specs.Ends.{SendsAs, TakesAs, Where}
use Rattle.mq_law_node.specs.Nodes.{FarAt, FarNode, NearAt, NearNode}
use Rattle.mq_law_rows.specs.Families.{is_here, put_at}
use Rattle.mq_law_rows.specs.World.{World}
use Rattle.mq_law_rows.proofs.Lists.{bool_case, here_yes}
use Rattle.mq_law_seen.specs.Seen.{book_of, world_of}
use Rattle.mq_law_events.specs.Tied.{IsNext}
use Rattle.mq_law_stopped.specs.from_law_turns.Agreed.{IsToldOf}
use Rattle.mq_law_stopped.specs.from_law_turns.Turns.{IsAt as IsSending, IsAtFar as IsReceiving, IsJoint, Scene, TurnedBy}
use Rattle.mq_law_stopped.proofs.from_law_turns.Agreeing.{grows}
use Rattle.mq_law_cables.proofs.Keeping.{joint_of}
use Rattle.mq_law_deeds.specs.Numbers.{AreCountedAt}
use Rattle.mq_law_stopped.specs.Noted.{EndNote}
use Rattle.mq_law_one.specs.Alone.{IsAt, IsState}
use Rattle.mq_law_one.proofs.Happening.{noted_up, state_up}
use Rattle.mq_law_one.proofs.Running.{Told_}
use Rattle.mq_law_run.specs.Run.{Moves, MovesTo, Stand, far_at, near_at}
use Rattle.mq_law_run.proofs.Beside.{IsBeside, beside_fresh, beside_timed, beside_told}
use Rattle.mq_law_run.proofs.Lining.{here, mem_at}
use Rattle.mq_law_run.proofs.Owning.{next_managers}

-- a network and one of its cables
abbrev pub scene : (s : Scenario) (hs : List History) (p : List Line) → Stand s hs p → CableLine → Where → Scene
scene s hs p z k w = record { scenario = s; given = z.given; managers = managers_at s p hs; ghost = z.ghost; book = book_of (ledger (opening_ledger s hs) p); sender = k.sender; receiver = k.receiver; place = w }

-- the deed of an entry ran, at a manager that is up
pub record IsRun (s : Scenario) (hs : List History) (p : List Line) (x : Line) (t : Told_ s hs p x) (d : Deed) : Type 0 where
  pub up : (node_after s x.manager p t.h).manager.running ≡ Up
  pub is : done_by x.entry (node_after s x.manager p t.h) ≡ done d Runs (node_after s x.manager p t.h)
  pub can : CanCome d Runs (node_after s x.manager p t.h)
  pub before : IsSound (node_after s x.manager p t.h).manager
  pub after : IsSound (do_all d.parts (node_after s x.manager p t.h).manager)

pub sound_at : (s : Scenario) (hs : List History) (p : List Line) (x : Line) (z : Stand s hs p) (t : Told_ s hs p x) → (node_after s x.manager p t.h).manager.running ≡ Up → IsSound (node_after s x.manager p t.h).manager
sound_at s hs p x z t up = subst (λ (r : Running). IsState r (node_after s x.manager p t.h).manager) up (z.at x.manager t.h t.is).state

pub run_next : (s : Scenario) (hs : List History) (p : List Line) (x : Line) (t : Told_ s hs p x) (d : Deed) (m : ℕ) → IsRun s hs p x t d → m ≡ x.manager
    → IsNext m (node_after s x.manager p t.h).manager (do_all d.parts (node_after s x.manager p t.h).manager) (managers_at s p hs) (managers_at s (p ++ x ∷ []) hs)
run_next s hs p x t d m r q =
    subst (λ a. IsNext a (node_after s x.manager p t.h).manager (do_all d.parts (node_after s x.manager p t.h).manager) (managers_at s p hs) (managers_at s (p ++ x ∷ []) hs)) (sym q)
    (subst (λ (w : Done). IsNext x.manager (node_after s x.manager p t.h).manager w.next.manager (managers_at s p hs) (managers_at s (p ++ x ∷ []) hs)) r.is (next_managers s hs p x t))

-- the halves of a cable at the entry's manager
pub near_here : (s : Scenario) (hs : List History) (p : List Line) (x : Line) (z : Stand s hs p) (t : Told_ s hs p x) (i : ℕ) (k : CableLine) → slice_get s.cables i ≡ Some k → k.sender ≡ x.manager → NearNode (near_at s i k) (node_after s x.manager p t.h) (z.xs k.sender k.channel)
near_here s hs p x z t i k e q = subst (λ w. NearNode (near_at s i k) (node_after s w p t.h) (z.xs k.sender k.channel)) q ((z.lines i k e).near t.h (ap (slice_get hs) q ∙ t.is))

pub far_here : (s : Scenario) (hs : List History) (p : List Line) (x : Line) (z : Stand s hs p) (t : Told_ s hs p x) (i : ℕ) (k : CableLine) → slice_get s.cables i ≡ Some k → k.receiver ≡ x.manager → FarNode (far_at s i k) (node_after s x.manager p t.h) (z.xs k.sender k.channel)
far_here s hs p x z t i k e q = subst (λ w. FarNode (far_at s i k) (node_after s w p t.h) (z.xs k.sender k.channel)) q ((z.lines i k e).far t.h (ap (slice_get hs) q ∙ t.is))

pub sends_here : (s : Scenario) (hs : List History) (p : List Line) (x : Line) (z : Stand s hs p) (t : Told_ s hs p x) (i : ℕ) (k : CableLine) → slice_get s.cables i ≡ Some k → k.sender ≡ x.manager → (node_after s x.manager p t.h).manager.running ≡ Up
    → SendsAs (near_at s i k) (node_after s x.manager p t.h) (z.xs k.sender k.channel)
sends_here s hs p x z t i k e q up = subst (NearAt (near_at s i k) (node_after s x.manager p t.h) (z.xs k.sender k.channel)) up (near_here s hs p x z t i k e q)

pub takes_here : (s : Scenario) (hs : List History) (p : List Line) (x : Line) (z : Stand s hs p) (t : Told_ s hs p x) (i : ℕ) (k : CableLine) → slice_get s.cables i ≡ Some k → k.receiver ≡ x.manager → (node_after s x.manager p t.h).manager.running ≡ Up
    → TakesAs (far_at s i k) (node_after s x.manager p t.h) (z.xs k.sender k.channel)
takes_here s hs p x z t i k e q up = subst (FarAt (far_at s i k) (node_after s x.manager p t.h) (z.xs k.sender k.channel)) up (far_here s hs p x z t i k e q)

-- what the network's facts say of a cable's two managers
pub joint_here : (s : Scenario) (hs : List History) (p : List Line) (z : Stand s hs p) (k : CableLine) → Mem k s.cables
    → IsJoint (world_of s z.given (managers_at s p hs)) z.ghost (book_of (ledger (opening_ledger s hs) p)) k.sender k.receiver k.channel (z.xs k.sender k.channel) (z.ys k.sender k.channel)
joint_here s hs p z k there = joint_of (world_of s z.given (managers_at s p hs)) z.ghost (book_of (ledger (opening_ledger s hs) p)) s.cables z.xs z.ys k there z.joint

-- the ends of a cable, each at the entry's manager, whose deed ran
pub sender_at : (s : Scenario) (hs : List History) (p : List Line) (x : Line) (z : Stand s hs p) (t : Told_ s hs p x) (i : ℕ) (k : CableLine) (d : Deed) → slice_get s.cables i ≡ Some k → k.sender ≡ x.manager → IsRun s hs p x t d
    → IsSending (scene s hs p z k (near_at s i k)) (node_after s x.manager p t.h) (z.xs k.sender k.channel) (z.ys k.sender k.channel)
sender_at s hs p x z t i k d e q r =
    record { at = (run_next s hs p x t d k.sender r q).at; sends = sends_here s hs p x z t i k e q r.up; facts = (z.lines i k e).facts; joint = joint_here s hs p z k (mem_at s.cables i k e) }

pub receiver_at : (s : Scenario) (hs : List History) (p : List Line) (x : Line) (z : Stand s hs p) (t : Told_ s hs p x) (i : ℕ) (k : CableLine) (d : Deed) → slice_get s.cables i ≡ Some k → k.receiver ≡ x.manager → IsRun s hs p x t d
    → IsReceiving (scene s hs p z k (far_at s i k)) (node_after s x.manager p t.h) (z.xs k.sender k.channel) (z.ys k.sender k.channel) (ledger (opening_ledger s hs) p)
receiver_at s hs p x z t i k d e q r =
    record { at = (run_next s hs p x t d k.receiver r q).at; takes_ = takes_here s hs p x z t i k e q r.up; facts = (z.lines i k e).facts; joint = joint_here s hs p z k (mem_at s.cables i k e); book = refl }

-- what is beside rows and channels stays: so does what is told of the manager, and where it stands
pub beside_at : {E : ledgers.Stopped → Noted → Plain → Type 0} (s : Scenario) (hs : List History) (p : List Line) (x : Line) (z : Stand s hs p) (t : Told_ s hs p x) (d : Deed) (l : Ledger) → IsRun s hs p x t d → l ≡ ledger (opening_ledger s hs) p
    → IsBeside (node_after s x.manager p t.h).manager (do_all d.parts (node_after s x.manager p t.h).manager) → IsAt E x.manager z.given (done d Runs (node_after s x.manager p t.h)).next l
beside_at {E} s hs p x z t d l r e b =
    let n : Node = node_after s x.manager p t.h in
    let q : Plain = do_all d.parts n.manager in
    let a = subst (λ (k : Ledger). IsAt (EndNote s (deeds p) z.xs x.manager) x.manager z.given n k) (sym e) (z.at x.manager t.h t.is) in
    let up : q.running ≡ Up = b.running ∙ r.up in
    record {
      told = beside_told x.manager n.manager q l b a.told;
      fresh = beside_fresh z.given n.manager q b a.fresh;
      number = ap (λ (g : Given). g.number) b.given ∙ a.number;
      timed = beside_timed x.manager n.manager q l b a.timed;
      state = state_up q up r.after;
      noted = noted_up E x.manager q l up;
    }

pub beside_counted : (s : Scenario) (hs : List History) (p : List Line) (x : Line) (z : Stand s hs p) (t : Told_ s hs p x) (d : Deed) (l : Ledger) → l ≡ ledger (opening_ledger s hs) p
    → IsBeside (node_after s x.manager p t.h).manager (do_all d.parts (node_after s x.manager p t.h).manager) → AreCountedAt (do_all d.parts (node_after s x.manager p t.h).manager).numbers.connections x.manager l
beside_counted s hs p x z t d l e b = subst (λ (k : Ledger). AreCountedAt (do_all d.parts (node_after s x.manager p t.h).manager).numbers.connections x.manager k) (sym e)
    (subst (λ (v : Numbers). AreCountedAt v.connections x.manager (ledger (opening_ledger s hs) p)) (sym b.numbers) (z.counted x.manager t.h t.is))

-- the move, where it is told of the deed and the ledger as they are
pub move_to : (s : Scenario) (hs : List History) (p : List Line) (x : Line) (h : History) (z : Stand s hs p) (d : Done) (l : Ledger) → done_by x.entry (node_after s x.manager p h) ≡ d → ledger (opening_ledger s hs) (p ++ x ∷ []) ≡ l → MovesTo s hs p x h z d l → Moves s hs p x h z
move_to s hs p x h z d l e f v = subst (λ (k : Ledger). MovesTo s hs p x h z (done_by x.entry (node_after s x.manager p h)) k) (sym f) (subst (λ (w : Done). MovesTo s hs p x h z w l) (sym e) v)

-- what is told of all cables, where it is of one, and the others stay
pub told_all : (s : Scenario) (ps : List Plain) (old new : List ToldDeed) (k : CableLine) (c : Channel) (y : Past) (xs : ℕ → List ℕ → Channel) (ys : ℕ → List ℕ → Past) → IsToldOf s ps (old ++ new) k.sender k.channel c y
    → ((h : CableLine) → Mem h s.cables → IsToldOf s ps old h.sender h.channel (xs h.sender h.channel) (ys h.sender h.channel))
    → (h : CableLine) → Mem h s.cables → IsToldOf s ps (old ++ new) h.sender h.channel (put_at xs k.sender k.channel c h.sender h.channel) (put_at ys k.sender k.channel y h.sender h.channel)
told_all s ps old new k c y xs ys mine others h n = bool_case (here k h) (λ t. here k h ≡ t → IsToldOf s ps (old ++ new) h.sender h.channel (if t then c else xs h.sender h.channel) (if t then y else ys h.sender h.channel))
    (λ z f. let w = here_yes k.sender k.channel h.sender h.channel f in subst (λ m. IsToldOf s ps (old ++ new) m h.channel c y) (sym w.0) (subst (λ d. IsToldOf s ps (old ++ new) k.sender d c y) (sym w.1) mine))
    (λ z f. grows s ps old new h.sender h.channel (xs h.sender h.channel) (ys h.sender h.channel) (others h n)) refl

-- what a unit has that an operator has committed
pub sent_kept : {o : Option Luw} (z : Scene) (v : World) (c : Channel) (y : Past) (r : TurnedBy o z v c y) (a : ℕ) (d : List ℕ) (u : Luw) → r.ghost.operated a d u ≡ true → r.ghost.sent a d u ≡ z.ghost.sent a d u
sent_kept {o} z v c y r a d u e = bool_case (is_here z.sender z.place.channel a d) (λ t. is_here z.sender z.place.channel a d ≡ t → r.ghost.sent a d u ≡ z.ghost.sent a d u)
    (λ w f.
    let q = here_yes z.sender z.place.channel a d f in
    subst (λ m. r.ghost.sent m d u ≡ z.ghost.sent m d u) (sym q.0) (subst (λ b. r.ghost.sent z.sender b u ≡ z.ghost.sent z.sender b u) (sym q.1)
    (r.kept u (subst (λ b. r.ghost.operated z.sender b u ≡ true) q.1 (subst (λ m. r.ghost.operated m d u ≡ true) q.0 e)))))
    (λ w f. r.sent a d u f) refl

-- what an operator had committed, and what he commits with it
pub operated_before : {o : Option Luw} (z : Scene) (v : World) (c : Channel) (y : Past) (r : TurnedBy o z v c y) (a : ℕ) (d : List ℕ) (u : Luw) → r.ghost.operated a d u ≡ true → (z.ghost.operated a d u ≡ true) ⊎ ((o ≡ Some u) × (a ≡ z.sender) × (d ≡ z.place.channel))
operated_before {o} z v c y r a d u e = bool_case (is_here z.sender z.place.channel a d) (λ t. is_here z.sender z.place.channel a d ≡ t → (z.ghost.operated a d u ≡ true) ⊎ ((o ≡ Some u) × (a ≡ z.sender) × (d ≡ z.place.channel)))
    (λ w f.
    let q = here_yes z.sender z.place.channel a d f in
    elim (r.own u (subst (λ b. r.ghost.operated z.sender b u ≡ true) q.1 (subst (λ m. r.ghost.operated m d u ≡ true) q.0 e))) [
      | inl old ↦ inl (subst (λ m. z.ghost.operated m d u ≡ true) (sym q.0) (subst (λ b. z.ghost.operated z.sender b u ≡ true) (sym q.1) old))
      | inr new ↦ inr (new, q.0, q.1)
    ])
    (λ w f. inl (sym (r.operated a d u f) ∙ e)) refl
