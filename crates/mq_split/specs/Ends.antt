-- The ends of cables that were split: what was known as they were, and what holds of each end at its manager.
use Rattle.std.specs.Prelude.{◌≡◌, ℕ, Bool, true, false, not, List, Option, Some, None, slice_get}
use Rattle.atomic_table.specs.Seated.{TableId}
use Rattle.mq_cable.specs.declared.fault.Fault.{Fault}
use Rattle.mq_history.specs.declared.calls.Actor.{Actor}
use Rattle.mq_history.specs.declared.calls.Actor.TheVariants as actors
use Rattle.mq_history.specs.declared.scenario.CableLine.{CableLine}
use Rattle.mq_spec_node.specs.Terms.{Entry}
use Rattle.mq_spec_node.specs.Words.{is_receiver, is_sender}
use Rattle.mq_split.specs.Took.{EndKept, EndState}

-- With what cables were split: their lines, the queue of each cable's two directions, and what each manager had done.
pub record Parted : Type 0 where
  pub lines : List CableLine
  pub outs : List TableId
  pub backs : List TableId
  pub done : ℕ → List Entry

-- an end's name: its cable, and whether it is the sender's
abbrev pub end_name : EndState → ℕ × Bool
end_name e = (e.cable, e.sends)

-- An end by its cable, the sender's or the receiver's: who acts as it, its manager, the faults and the queue of the direction that it writes.
abbrev pub end_actor : ℕ → Bool → Actor
end_actor k true = actors.Sender k
end_actor k false = actors.Receiver k

abbrev pub acts_as : ℕ → Bool → Actor → Bool
acts_as k true = is_sender k
acts_as k false = is_receiver k

abbrev pub manager_at : CableLine → Bool → ℕ
manager_at l true = l.sender
manager_at l false = l.receiver

abbrev pub faults_at : CableLine → Bool → List Fault
faults_at l true = l.out
faults_at l false = l.back

abbrev pub queue_at : Parted → ℕ → Bool → Option TableId
queue_at b k true = slice_get b.outs k
queue_at b k false = slice_get b.backs k

-- an end of a cable of this manager
pub record IsEndAt (b : Parted) (m : ℕ) (first since : List Entry) (e : EndState) : Type 0 where
  pub line : CableLine
  pub there : slice_get b.lines e.cable ≡ Some line
  pub here : manager_at line e.sends ≡ m
  pub out : queue_at b e.cable e.sends ≡ Some e.wire.out
  pub from : queue_at b e.cable (not e.sends) ≡ Some e.wire.from
  pub kept : EndKept (faults_at line e.sends) (acts_as e.cable e.sends) (acts_as e.cable (not e.sends)) first (b.done (manager_at line (not e.sends))) since e

-- each of a list, by its place
abbrev pub EachIs : {A : Type 0} → (A → Type 0) → List A → Type 0
EachIs {A} P xs = (i : ℕ) (x : A) → slice_get xs i ≡ Some x → P x

-- none of these ends holds an item that it looked at and did not take
abbrev pub AreFree : List EndState → Type 0
AreFree es = EachIs (λ (e : EndState). e.wire.fetched ≡ None) es

-- no end stands twice
abbrev pub EndsApart : List EndState → Type 0
EndsApart es = (i j : ℕ) (d e : EndState) → slice_get es i ≡ Some d → slice_get es j ≡ Some e → d.cable ≡ e.cable → d.sends ≡ e.sends → i ≡ j
