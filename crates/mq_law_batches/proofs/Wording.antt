-- What ends harden beside settlements, and what they have of queues and bonds: the network is as it was, as the facts see it.
use Rattle.std.proofs.Common.{ℕ, ◌≡◌, Bool, true, false, List, refl, ap, sym, ◌∙◌}
use Rattle.std.specs.Prelude.{Option, Some, None, if◌then◌else◌, is_some}
use Rattle.std.specs.Str.{bytes_eq}
use Rattle.mq_message.specs.declared.message.Ident.{Ident}
use Rattle.mq_sync.specs.declared.data.End.TheVariants as ends
use Rattle.mq_sync.specs.declared.data.SenderData.{SenderData}
use Rattle.mq_sync.specs.declared.data.ReceiverData.{ReceiverData}
use Rattle.mq_sync.specs.Settlement.{receiver_or, sender_or}
use Rattle.mq_calls.specs.declared.agents.Note.{Note}
use Rattle.mq_calls.specs.declared.agents.Note.TheVariants as notes
use Rattle.mq_history.specs.declared.scenario.Scenario.{Scenario}
use Rattle.mq_calls.specs.State.{Plain}
use Rattle.mq_calls.specs.declared.state.Seizure.{Seizure}
use Rattle.mq_calls.specs.State.Change.{Seize, SetBound, SetReceiver, SetSender, Unseize}
use Rattle.mq_calls.specs.Reads.{batch_of, in_doubt_of, queue_in, receiver_data, receiver_in, sender_data, sender_in}
use Rattle.mq_calls.specs.Changes.{apply, apply_all}
use Rattle.mq_spec_manager.specs.Hardening.{harden_part}
use Rattle.mq_law_events.specs.from_spec_network.Standing.{last_unit_of}
use Rattle.mq_law_events.specs.from_law_rows.World.{World}
use Rattle.mq_law_events.proofs.from_law_rows.Lists.{name_yes}
use Rattle.mq_law_events.specs.from_law_seen.Seen.{doubt_of, held_unit, holds_of, rows_of, world_of}
use Rattle.mq_law_events.proofs.from_law_manager.Named.{receiver_set, sender_set}
use Rattle.mq_law_events.specs.Tied.{IsNext}
use Rattle.mq_law_batches.specs.Releases.{IsWord}
use Rattle.mq_law_batches.proofs.Releasing.{IsNear}
use Rattle.mq_law_batches.proofs.Settling.{looks}

-- rows, units and batches stay, and so do units in doubt and last units
pub record Stays (p q : Plain) : Type 0 where
  pub queues : q.queues ≡ p.queues
  pub connections : q.connections ≡ p.connections
  pub batches : q.channels.batches ≡ p.channels.batches
  pub doubts : (d : List ℕ) → in_doubt_of (sender_data d q) ≡ in_doubt_of (sender_data d p)
  pub near : IsNear p q

pub stays : (s : Scenario) (given : Ident → Bool) (m : ℕ) (p q : Plain) (ps qs : List Plain) → IsNext m p q ps qs → Stays p q → world_of s given qs ≡ world_of s given ps
stays s given m p q ps qs n k =
    let w : World = world_of s given ps in
    looks s given m p q ps qs w.rows w.holds w.doubt n k.near k.connections (record {
      rows_here = λ a d e f. ap (rows_of d) f ∙ sym (ap (λ x. (queue_in d x).rows) k.queues);
      rows_else = λ a d e. refl;
      holds_here = λ a d e f. ap (holds_of d) f ∙ sym (λ i. held_unit (k.doubts d i) (batch_of d (k.batches i)));
      holds_else = λ a d e. refl;
      doubt_here = λ a d e f. ap (doubt_of d) f ∙ sym (ap is_some (k.doubts d));
      doubt_else = λ a d e. refl;
    })

-- A sender's data, and a receiver's

or_doubt : (o : Option SenderData) → (sender_or o).in_doubt ≡ in_doubt_of o
or_doubt None = refl
or_doubt (Some x) = refl

or_unit : (o : Option ReceiverData) → (receiver_or o).unit ≡ last_unit_of o
or_unit None = refl
or_unit (Some x) = refl

sender_stays : (c d : List ℕ) (x : SenderData) (p : Plain) → x.in_doubt ≡ in_doubt_of (sender_data c p) → in_doubt_of (sender_data d (apply (SetSender c x) p)) ≡ in_doubt_of (sender_data d p)
sender_stays c d x p e = ap in_doubt_of (sender_set d c x p.channels.senders) ∙ by (bytes_eq d c) refl
  where
    by : (t : Bool) → bytes_eq d c ≡ t → in_doubt_of (if t then Some x else sender_in d p.channels.senders) ≡ in_doubt_of (sender_in d p.channels.senders)
    by true w = e ∙ sym (ap (λ z. in_doubt_of (sender_in z p.channels.senders)) (name_yes d c w))
    by false w = refl

receiver_stays : (c d : List ℕ) (x : ReceiverData) (p : Plain) → x.unit ≡ last_unit_of (receiver_data c p) → last_unit_of (receiver_in d (apply (SetReceiver c x) p).channels.receivers) ≡ last_unit_of (receiver_in d p.channels.receivers)
receiver_stays c d x p e = ap last_unit_of (receiver_set d c x p.channels.receivers) ∙ by (bytes_eq d c) refl
  where
    by : (t : Bool) → bytes_eq d c ≡ t → last_unit_of (if t then Some x else receiver_in d p.channels.receivers) ≡ last_unit_of (receiver_in d p.channels.receivers)
    by true w = e ∙ sym (ap (λ z. last_unit_of (receiver_in z p.channels.receivers)) (name_yes d c w))
    by false w = refl

by_sender : (c : List ℕ) (x : SenderData) (p : Plain) → x.in_doubt ≡ in_doubt_of (sender_data c p) → Stays p (apply (SetSender c x) p)
by_sender c x p e = record { queues = refl; connections = refl; batches = refl; doubts = λ d. sender_stays c d x p e; near = record { given = refl; receivers = λ d. refl } }

by_receiver : (c : List ℕ) (x : ReceiverData) (p : Plain) → x.unit ≡ last_unit_of (receiver_data c p) → Stays p (apply (SetReceiver c x) p)
by_receiver c x p e = record { queues = refl; connections = refl; batches = refl; doubts = λ d. refl; near = record { given = refl; receivers = λ d. receiver_stays c d x p e } }

word_stays : (c : List ℕ) (note : Note) (p : Plain) → IsWord note → Stays p (apply_all (harden_part c note p).changes p)
word_stays c (notes.Session partner session) p w = by_sender c (record (sender_or (sender_data c p)) { partner = partner; session = session }) p (or_doubt (sender_data c p))
word_stays c (notes.Resolved unit commit operator) p w = absurd w
word_stays c (notes.Bound partner session last) p w = by_receiver c (record (receiver_or (receiver_data c p)) { partner = partner; session = session; closed = false; last = last }) p (or_unit (receiver_data c p))
word_stays c (notes.Closed session) p w = by_receiver c (record (receiver_or (receiver_data c p)) { closed = true }) p (or_unit (receiver_data c p))
word_stays c (notes.SeqSet ends.Sender last) p w = by_sender c (record (sender_or (sender_data c p)) { last = last; force = true }) p (or_doubt (sender_data c p))
word_stays c (notes.SeqSet ends.Receiver last) p w = by_receiver c (record (receiver_or (receiver_data c p)) { last = last }) p (or_unit (receiver_data c p))

pub words : (s : Scenario) (given : Ident → Bool) (m : ℕ) (p : Plain) (ps qs : List Plain) (c : List ℕ) (note : Note) → IsWord note → IsNext m p (apply_all (harden_part c note p).changes p) ps qs → world_of s given qs ≡ world_of s given ps
words s given m p ps qs c note w n = stays s given m p (apply_all (harden_part c note p).changes p) ps qs n (word_stays c note p w)

pub seized : (s : Scenario) (given : Ident → Bool) (m : ℕ) (p : Plain) (ps qs : List Plain) (x : Seizure) → IsNext m p (apply (Seize x) p) ps qs → world_of s given qs ≡ world_of s given ps
seized s given m p ps qs x n = stays s given m p (apply (Seize x) p) ps qs n (record { queues = refl; connections = refl; batches = refl; doubts = λ d. refl; near = record { given = refl; receivers = λ d. refl } })

pub left : (s : Scenario) (given : Ident → Bool) (m : ℕ) (p : Plain) (ps qs : List Plain) (c : List ℕ) → IsNext m p (apply (Unseize c) p) ps qs → world_of s given qs ≡ world_of s given ps
left s given m p ps qs c n = stays s given m p (apply (Unseize c) p) ps qs n (record { queues = refl; connections = refl; batches = refl; doubts = λ d. refl; near = record { given = refl; receivers = λ d. refl } })

bound_stays : (is : Bool) (c : List ℕ) (p : Plain) → Stays p (apply (SetBound c is) p)
bound_stays true c p = record { queues = refl; connections = refl; batches = refl; doubts = λ d. refl; near = record { given = refl; receivers = λ d. refl } }
bound_stays false c p = record { queues = refl; connections = refl; batches = refl; doubts = λ d. refl; near = record { given = refl; receivers = λ d. refl } }

pub bound : (s : Scenario) (given : Ident → Bool) (m : ℕ) (p : Plain) (ps qs : List Plain) (c : List ℕ) (is : Bool) → IsNext m p (apply (SetBound c is) p) ps qs → world_of s given qs ≡ world_of s given ps
bound s given m p ps qs c is n = stays s given m p (apply (SetBound c is) p) ps qs n (bound_stays is c p)
