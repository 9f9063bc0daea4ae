-- Channels of which an event isn't: what ties them to the network stays.
use Rattle.std.proofs.Common.{ℕ, ◌≡◌, Bool, false, List, refl, ap, sym, ◌∙◌}
use Rattle.std.specs.Prelude.{Option, ◌==◌, is_some, slice_get}
use Rattle.mq_message.specs.declared.message.Ident.{Ident}
use Rattle.mq_sync.specs.declared.unit.Unit.{Unit as Luw}
use Rattle.mq_history.specs.declared.scenario.Scenario.{Scenario}
use Rattle.mq_calls.specs.State.{Plain}
use Rattle.mq_calls.specs.Reads.{batch_of, in_doubt_of, receiver_in, sender_in}
use Rattle.mq_spec_network.specs.Ledger.{Ledger}
use Rattle.mq_spec_network.specs.Standing.{last_unit_of}
use Rattle.mq_law_channel.specs.Channel.{Channel, Past}
use Rattle.mq_law_story.specs.from_law_rows.Families.{is_here}
use Rattle.mq_law_story.specs.from_law_rows.World.{Book, Ghost, World}
use Rattle.mq_law_story.proofs.from_law_rows.Lists.{bool_case, eqb_yes}
use Rattle.mq_law_story.specs.from_law_seen.Seen.{book_of, doubt_of, held_unit, holds_of, world_of}
use Rattle.mq_law_batches.specs.from_law_events.Local.{Moved, with_owner}
use Rattle.mq_law_batches.specs.from_law_events.Tied.{Follow, IsNext, IsSame, IsTold}
use Rattle.mq_law_batches.proofs.from_law_events.Stepping.{follows_on}
use Rattle.mq_law_batches.proofs.Releasing.{IsNear, lasts}
use Rattle.mq_law_story.specs.Needs.{IsTied}
use Rattle.mq_law_turns.specs.Turns.{AreBegun, IsJoint, Scene, Taken, TurnedBy, world_in}

-- what of a network a channel is tied to
pub tied_on : (w v : World) (g h : Ghost) (m t : ℕ) (c : List ℕ) (x : Channel) (y : Past) → v.holds m c ≡ w.holds m c → v.doubt m c ≡ w.doubt m c → v.last m c ≡ w.last m c → ((u : Luw) → h.sent m c u ≡ g.sent m c u) → ((u : Luw) → h.operated m c u ≡ g.operated m c u)
    → IsTied w g m t c x y → IsTied v h m t c x y
tied_on w v g h m t c x y holds doubt last sent operated k = record {
  apart = k.apart;
  last = last ∙ k.last;
  held = λ f. let o = k.held f in (holds ∙ o.0, doubt ∙ o.1);
  idle = λ f. holds ∙ k.idle f;
  forced = λ u f e no_. operated u ∙ k.forced u f e no_;
  content = λ u e. k.content u e ∙ sym (sent u);
}

begun_on : (g h : Ghost) (m : ℕ) (c : List ℕ) (y : Past) → ((u : Luw) → h.operated m c u ≡ g.operated m c u) → AreBegun g m c y → AreBegun h m c y
begun_on g h m c y operated k u e = k u (sym (operated u) ∙ e)

-- EVENTS OF NO CHANNEL
pub holds_same : (a m : ℕ) (p q : Plain) (ps qs : List Plain) (c : List ℕ) → IsNext a p q ps qs → IsSame p q → holds_of c (slice_get qs m) ≡ holds_of c (slice_get ps m)
holds_same a m p q ps qs c n k = bool_case (m == a) (λ t. (m == a) ≡ t → holds_of c (slice_get qs m) ≡ holds_of c (slice_get ps m))
    (λ z e. let is : m ≡ a = eqb_yes m a e in
    ap (holds_of c) (ap (slice_get qs) is ∙ n.to) ∙ (λ i. held_unit (in_doubt_of (sender_in c (k.senders i))) (batch_of c (k.batches i))) ∙ sym (ap (holds_of c) (ap (slice_get ps) is ∙ n.at)))
    (λ z e. ap (holds_of c) (n.others m e)) refl

pub doubt_same : (a m : ℕ) (p q : Plain) (ps qs : List Plain) (c : List ℕ) → IsNext a p q ps qs → IsSame p q → doubt_of c (slice_get qs m) ≡ doubt_of c (slice_get ps m)
doubt_same a m p q ps qs c n k = bool_case (m == a) (λ t. (m == a) ≡ t → doubt_of c (slice_get qs m) ≡ doubt_of c (slice_get ps m))
    (λ z e. let is : m ≡ a = eqb_yes m a e in
    ap (doubt_of c) (ap (slice_get qs) is ∙ n.to) ∙ (λ i. is_some (in_doubt_of (sender_in c (k.senders i)))) ∙ sym (ap (doubt_of c) (ap (slice_get ps) is ∙ n.at)))
    (λ z e. ap (doubt_of c) (n.others m e)) refl

pub follows : (s : Scenario) (given : Ident → Bool) (a : ℕ) (p q : Plain) (ps qs : List Plain) (l k : Ledger) (g : Ghost) → IsNext a p q ps qs → IsTold a p l → (f : Follow a given p l q k) → (m t : ℕ) (c : List ℕ) (x : Channel) (y : Past) → IsJoint (world_of s given ps) g (book_of l) m t c x y
    → (o : Moved g (world_of s f.now qs) (book_of k)) × IsJoint (world_of s f.now qs) (with_owner g o.owner) (book_of k) m t c x y
follows s given a p q ps qs l k g n told f m t c x y j =
    let o = follows_on s given a p q ps qs l k g n told f j.inv in
    let near : IsNear p q = record { given = f.same.given; receivers = λ d. ap (λ rs. last_unit_of (receiver_in d rs)) f.same.receivers } in (
      o,
      record {
        inv = o.inv;
        tied = tied_on (world_of s given ps) (world_of s f.now qs) g (with_owner g o.owner) m t c x y (holds_same a m p q ps qs c n f.same) (doubt_same a m p q ps qs c n f.same) (lasts s a p q ps qs c m n near) (λ u. refl) (λ u. refl) j.tied;
        begun = j.begun;
      },
    )

-- TURNS OF OTHER ENDS
pub senders_others : {o : Option Luw} (z : Scene) (v : World) (x : Channel) (y : Past) → (r : TurnedBy o z v x y) → (m t : ℕ) (c : List ℕ) (k : Channel) (l : Past) → is_here z.sender z.place.channel m c ≡ false → IsJoint (world_in z) z.ghost z.book m t c k l → IsJoint v r.ghost z.book m t c k l
senders_others z v x y r m t c k l out j = record {
  inv = r.joint.inv;
  tied = tied_on (world_in z) v z.ghost r.ghost m t c k l (r.holds m c out) (r.doubt m c out) (r.last m c) (λ u. r.sent m c u out) (λ u. r.operated m c u out) j.tied;
  begun = begun_on z.ghost r.ghost m c l (λ u. r.operated m c u out) j.begun;
}

pub receivers_others : (z : Scene) (v : World) (b : Book) (x : Channel) (y : Past) → (r : Taken z v b x y) → (m t : ℕ) (c : List ℕ) (k : Channel) (l : Past) → is_here z.sender z.place.channel m c ≡ false → IsJoint (world_in z) z.ghost z.book m t c k l → IsJoint v r.ghost b m t c k l
receivers_others z v b x y r m t c k l out j = record {
  inv = r.joint.inv;
  tied = tied_on (world_in z) v z.ghost r.ghost m t c k l (r.holds m c) (r.doubt m c) (r.last m c out) (λ u i. r.sent i m c u) (λ u. r.operated m c u out) j.tied;
  begun = begun_on z.ghost r.ghost m c l (λ u. r.operated m c u out) j.begun;
}
