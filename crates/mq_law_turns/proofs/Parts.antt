-- The parts of a turn: what stands behind them beside what they change of rows, batches and units.
use Rattle.std.proofs.Common.{ℕ, ◌≡◌, ◌≢◌, ◌⊎◌, Bool, true, false, List, [], refl, ap, sym, subst, ◌∙◌, inl, map}
use Rattle.std.specs.Prelude.{Option, Some, None, ◌==◌, if◌then◌else◌, ◌&&◌, slice_get, is_some}
use Rattle.std.specs.Str.{bytes_eq}
use Rattle.mq_message.specs.declared.message.Ident.{Ident}
use Rattle.mq_sync.specs.declared.unit.Unit.{Unit as Luw}
use Rattle.mq_sync.specs.Units.{Upto}
use Rattle.mq_sync.specs.declared.data.InDoubt.{InDoubt}
use Rattle.mq_sender.specs.declared.state.SenderState.{SenderState}
use Rattle.mq_sender.specs.States.{is_running}
use Rattle.mq_calls.specs.declared.records.LogRecord.{LogRecord}
use Rattle.mq_calls.specs.declared.state.Batch.{Batch}
use Rattle.mq_history.specs.declared.scenario.Scenario.{Scenario}
use Rattle.mq_calls.specs.State.{Plain}
use Rattle.mq_calls.specs.Changes.{apply_all}
use Rattle.mq_calls.specs.Steps.{Part, do_all, do_part, logged, written}
use Rattle.mq_spec_manager.specs.Agents.{leave}
use Rattle.mq_spec_network.specs.Ledger.{change_at}
use Rattle.mq_spec_node.specs.Deeds.{parts_of}
use Rattle.mq_spec_node.specs.Senders.{leave_if_stopped}
use Rattle.mq_law_channel.specs.Channel.{Channel, Past}
use Rattle.mq_law_channel.specs.Facts.{now}
use Rattle.mq_law_story.specs.from_law_rows.Families.{is_here}
use Rattle.mq_law_story.specs.from_law_rows.World.{Ghost, Inv, World}
use Rattle.mq_law_story.proofs.from_law_rows.Lists.{bool_case, eqb_yes}
use Rattle.mq_law_story.specs.from_law_seen.Seen.{doubt_of, held_unit, holds_of, last_of, world_of}
use Rattle.mq_law_manager.proofs.Receiving.{log_aside}
use Rattle.mq_law_batches.specs.from_law_events.Tied.{IsNext}
use Rattle.mq_law_batches.proofs.from_law_events.Telling.{else_changed, here_changed}
use Rattle.mq_law_batches.proofs.Releasing.{IsNear, lasts}
use Rattle.mq_law_batches.proofs.Wording.{Stays, stays}
use Rattle.mq_law_story.specs.Needs.{letter_tag}
use Rattle.mq_law_turns.specs.Turns.{AreBegun, IsJoint, Scene, Turned, TurnedBy, world_in}

-- What is left as it was

pub stays_none : (p : Plain) → Stays p p
stays_none p = record { queues = refl; connections = refl; batches = refl; doubts = λ d. refl; near = record { given = refl; receivers = λ c. refl } }

pub stays_then : (p q r : Plain) → Stays p q → Stays q r → Stays p r
stays_then p q r a b = record {
  queues = b.queues ∙ a.queues;
  connections = b.connections ∙ a.connections;
  batches = b.batches ∙ a.batches;
  doubts = λ d. b.doubts d ∙ a.doubts d;
  near = record { given = b.near.given ∙ a.near.given; receivers = λ c. b.near.receivers c ∙ a.near.receivers c };
}

-- a record that is forced changes the log alone
pub part_stays : (part : Part) (p : Plain) → Stays (apply_all part.changes p) (do_part part p)
part_stays part p = go part.forced
  where
    go : (o : Option LogRecord) → Stays (apply_all part.changes p) (apply_all part.changes (logged o p))
    go None = stays_none (apply_all part.changes p)
    go (Some r) = subst (λ (q : Plain). Stays (apply_all part.changes p) q) (sym (log_aside part.changes (written r p.log) p)) (record { queues = refl; connections = refl; batches = refl; doubts = λ d. refl; near = record { given = refl; receivers = λ c. refl } })

-- so does an end that leaves its queue
pub leaving_stays : (c : List ℕ) (st : SenderState) (p q : Plain) → Stays q (do_all (leave_if_stopped c st p) q)
leaving_stays c st p q = bool_case (is_running st) (λ t. Stays q (do_all (if t then [] else parts_of (leave c p)) q)) (λ e. stays_none q)
    (λ e. record { queues = refl; connections = refl; batches = refl; doubts = λ d. refl; near = record { given = refl; receivers = λ c. refl } })

-- one manager changes, and no other
pub next_mid : (m : ℕ) (p q r : Plain) (ps rs : List Plain) → IsNext m p r ps rs → IsNext m p q ps (change_at m (λ (x : Plain). q) ps)
next_mid m p q r ps rs n = record { at = n.at; to = here_changed m (λ (x : Plain). q) ps p n.at; others = λ a e. else_changed m a (λ (x : Plain). q) ps e }

next_behind : (m : ℕ) (p q r : Plain) (ps rs : List Plain) → IsNext m p r ps rs → IsNext m q r (change_at m (λ (x : Plain). q) ps) rs
next_behind m p q r ps rs n = record { at = here_changed m (λ (x : Plain). q) ps p n.at; to = n.to; others = λ a e. n.others a e ∙ sym (else_changed m a (λ (x : Plain). q) ps e) }

pub next_to : (m : ℕ) (p q r : Plain) (ps rs : List Plain) → IsNext m p q ps rs → q ≡ r → IsNext m p r ps rs
next_to m p q r ps rs n e = record { at = n.at; to = n.to ∙ ap (λ (x : Plain). Some x) e; others = n.others }

pub world_behind : (s : Scenario) (given : Ident → Bool) (m : ℕ) (p q r : Plain) (ps rs : List Plain) → IsNext m p r ps rs → Stays q r → world_of s given rs ≡ world_of s given (change_at m (λ (x : Plain). q) ps)
world_behind s given m p q r ps rs n k = stays s given m q r (change_at m (λ (x : Plain). q) ps) rs (next_behind m p q r ps rs n) k

-- What a change of one channel leaves to the others

pub record IsOnly (c : List ℕ) (p q : Plain) : Type 0 where
  pub near : IsNear p q
  pub holds : (d : List ℕ) → bytes_eq d c ≡ false → holds_of d (Some q) ≡ holds_of d (Some p)
  pub doubts : (d : List ℕ) → bytes_eq d c ≡ false → doubt_of d (Some q) ≡ doubt_of d (Some p)

another : (m a : ℕ) (c d : List ℕ) → (a == m) ≡ true → is_here m c a d ≡ false → bytes_eq d c ≡ false
another m a c d e out = sym (ap (λ t. t && bytes_eq d c) e) ∙ out

pub else_holds : (m : ℕ) (p q : Plain) (ps qs : List Plain) (c : List ℕ) (a : ℕ) (d : List ℕ) → IsNext m p q ps qs → IsOnly c p q → is_here m c a d ≡ false → holds_of d (slice_get qs a) ≡ holds_of d (slice_get ps a)
else_holds m p q ps qs c a d n k out = bool_case (a == m) (λ t. (a == m) ≡ t → holds_of d (slice_get qs a) ≡ holds_of d (slice_get ps a))
    (λ z e. let is : a ≡ m = eqb_yes a m e in ap (holds_of d) (ap (slice_get qs) is ∙ n.to) ∙ k.holds d (another m a c d e out) ∙ sym (ap (holds_of d) (ap (slice_get ps) is ∙ n.at)))
    (λ z e. ap (holds_of d) (n.others a e)) refl

pub else_doubt : (m : ℕ) (p q : Plain) (ps qs : List Plain) (c : List ℕ) (a : ℕ) (d : List ℕ) → IsNext m p q ps qs → IsOnly c p q → is_here m c a d ≡ false → doubt_of d (slice_get qs a) ≡ doubt_of d (slice_get ps a)
else_doubt m p q ps qs c a d n k out = bool_case (a == m) (λ t. (a == m) ≡ t → doubt_of d (slice_get qs a) ≡ doubt_of d (slice_get ps a))
    (λ z e. let is : a ≡ m = eqb_yes a m e in ap (doubt_of d) (ap (slice_get qs) is ∙ n.to) ∙ k.doubts d (another m a c d e out) ∙ sym (ap (doubt_of d) (ap (slice_get ps) is ∙ n.at)))
    (λ z e. ap (doubt_of d) (n.others a e)) refl

-- Turns

-- the world is the same, and the channel is of one mind with it as before
pub same_turned : (z : Scene) (x k : Channel) (y l : Past) → IsJoint (world_in z) z.ghost z.book z.sender z.receiver z.place.channel x y → k.receives ≡ x.receives → l.near.holds ≡ y.near.holds → l.near.doubt ≡ y.near.doubt → l.forced ≡ y.forced
    → ((u : Luw) → l.content u ≡ y.content u) → ((u : Luw) → Upto u (now y.near) → Upto u (now l.near)) → Turned z (world_in z) k l
same_turned z x k y l j far holds doubt forced content rises = record {
  ghost = z.ghost;
  joint = record {
    inv = j.inv;
    tied = record {
      apart = j.tied.apart;
      last = j.tied.last ∙ ap (λ r. r.unit) (sym far);
      held = λ f. let h = j.tied.held (sym forced ∙ f) in (h.0 ∙ sym holds, h.1 ∙ sym doubt);
      idle = λ f. j.tied.idle (sym forced ∙ f);
      forced = λ u f h no_. j.tied.forced u (sym forced ∙ f) (sym holds ∙ h) (λ e. no_ (ap (λ r. r.unit) far ∙ e));
      content = λ u h. ap (map letter_tag) (content u) ∙ j.tied.content u (sym holds ∙ h);
    };
    begun = λ u e. rises u (j.begun u e);
  };
  sent = λ a d u e. refl;
  operated = λ a d u e. refl;
  own = λ u e. inl e;
  kept = λ u e. refl;
  loose = λ a d u e. e;
  holds = λ a d e. refl;
  doubt = λ a d e. refl;
  last = λ a d. refl;
}

pub turned_on : {o : Option Luw} (z : Scene) (v w : World) (x : Channel) (y : Past) → v ≡ w → TurnedBy o z v x y → TurnedBy o z w x y
turned_on {o} z v w x y e t = subst (λ (u : World). TurnedBy o z u x y) e t

-- what a manager has of the channel's unit after a change of it
pub record IsLeft (o : Option Luw) (z : Scene) (q : Plain) (g : Ghost) (x k : Channel) (y : Past) : Type 0 where
  pub far : k.receives ≡ x.receives
  pub held : y.forced ≡ false → (holds_of z.place.channel (Some q) ≡ y.near.holds) × (doubt_of z.place.channel (Some q) ≡ y.near.doubt)
  pub idle : y.forced ≡ true → holds_of z.place.channel (Some q) ≡ None
  pub forced : (u : Luw) → y.forced ≡ true → y.near.holds ≡ Some u → k.receives.unit ≢ u → g.operated z.sender z.place.channel u ≡ true
  pub content : (u : Luw) → y.near.holds ≡ Some u → map letter_tag (y.content u) ≡ g.sent z.sender z.place.channel u
  pub begun : AreBegun g z.sender z.place.channel y
  pub sent : (a : ℕ) (d : List ℕ) (u : Luw) → is_here z.sender z.place.channel a d ≡ false → g.sent a d u ≡ z.ghost.sent a d u
  pub operated : (a : ℕ) (d : List ℕ) (u : Luw) → is_here z.sender z.place.channel a d ≡ false → g.operated a d u ≡ z.ghost.operated a d u
  pub own : (u : Luw) → g.operated z.sender z.place.channel u ≡ true → (z.ghost.operated z.sender z.place.channel u ≡ true) ⊎ (o ≡ Some u)
  pub kept : (u : Luw) → g.operated z.sender z.place.channel u ≡ true → g.sent z.sender z.place.channel u ≡ z.ghost.sent z.sender z.place.channel u
  pub loose : (a : ℕ) (d : List ℕ) (u : Luw) → g.loose a d u ≡ true → z.ghost.loose a d u ≡ true

pub changed : {o : Option Luw} (z : Scene) (p q : Plain) (qs : List Plain) (g : Ghost) (x k : Channel) (y l : Past) → IsJoint (world_in z) z.ghost z.book z.sender z.receiver z.place.channel x y → IsNext z.sender p q z.managers qs → IsOnly z.place.channel p q
    → Inv (world_of z.scenario z.given qs) g z.book → IsLeft o z q g x k l → TurnedBy o z (world_of z.scenario z.given qs) k l
changed z p q qs g x k y l j n only inv left =
    let last : (a : ℕ) (d : List ℕ) → last_of z.scenario qs d (slice_get qs a) ≡ last_of z.scenario z.managers d (slice_get z.managers a) = λ a d. lasts z.scenario z.sender p q z.managers qs d a n only.near in
    record {
      ghost = g;
      joint = record {
        inv = inv;
        tied = record {
          apart = j.tied.apart;
          last = last z.sender z.place.channel ∙ j.tied.last ∙ ap (λ r. r.unit) (sym left.far);
          held = λ f. let h = left.held f in (ap (holds_of z.place.channel) n.to ∙ h.0, ap (doubt_of z.place.channel) n.to ∙ h.1);
          idle = λ f. ap (holds_of z.place.channel) n.to ∙ left.idle f;
          forced = left.forced;
          content = left.content;
        };
        begun = left.begun;
      };
      sent = left.sent;
      operated = left.operated;
      own = left.own;
      kept = left.kept;
      loose = left.loose;
      holds = λ a d e. else_holds z.sender p q z.managers qs z.place.channel a d n only e;
      doubt = λ a d e. else_doubt z.sender p q z.managers qs z.place.channel a d n only e;
      last = last;
    }

-- What the manager has of the unit, by what the channel has

pub here_holds : (z : Scene) (p : Plain) (o : Option Luw) → slice_get z.managers z.sender ≡ Some p → (world_in z).holds z.sender z.place.channel ≡ o → holds_of z.place.channel (Some p) ≡ o
here_holds z p o at e = sym (ap (holds_of z.place.channel) at) ∙ e

pub no_doubt_held : (o : Option InDoubt) (b : Option Batch) → held_unit o b ≡ None → o ≡ None
no_doubt_held None b e = refl
no_doubt_held (Some d) b e = absurd cc

abbrev unit_or : Luw → Option Luw → Luw
unit_or u None = u
unit_or u (Some v) = v

pub doubt_held : (o : Option InDoubt) (b : Option Batch) (u : Luw) → is_some o ≡ true → held_unit o b ≡ Some u → (d : InDoubt) × (o ≡ Some d) × (d.unit ≡ u)
doubt_held None b u e f = absurd cc
doubt_held (Some d) b u e f = (d, refl, ap (unit_or u) f)

pub not_doubted : (o : Option InDoubt) → is_some o ≡ false → o ≡ None
not_doubted None e = refl
not_doubted (Some d) e = absurd cc
