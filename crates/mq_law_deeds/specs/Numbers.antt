-- The numbers of a manager's connections, as the ledger tells them.
use Rattle.std.specs.Prelude.{ℕ, ◌≡◌, ◌≤◌, ◌+◌, ◌==◌, false, List, Option, Some, None, map, slice_get}
use Rattle.mq_base.specs.Members.{Chain, Mem}
use Rattle.mq_calls.specs.declared.answers.Answer.TheVariants as answers
use Rattle.mq_calls.specs.declared.state.Connection.{Connection}
use Rattle.mq_history.specs.declared.calls.Call.{Call}
use Rattle.mq_history.specs.declared.calls.Call.TheVariants as calls
use Rattle.mq_history.specs.declared.calls.Reply.{Reply}
use Rattle.mq_history.specs.declared.calls.Reply.TheVariants as replies
use Rattle.mq_calls.specs.State.{Plain}
use Rattle.mq_calls.specs.Steps.{do_all}
use Rattle.mq_spec_node.specs.Deeds.{Deed}
use Rattle.mq_spec_network.specs.Ledger.{Ledger, Users}

abbrev pub numbers_of : List Connection → List ℕ
numbers_of cs = map (λ (c : Connection). c.number) cs

-- none twice, and none above the last that was given
pub record AreCounted (last : ℕ) (ns : List ℕ) : Type 0 where
  pub apart : Chain (λ (a b : ℕ). (a == b) ≡ false) ns
  pub upto : (k : ℕ) → Mem k ns → k ≤ last

-- those of the manager's connections in the ledger
pub record AreCountedAt (last m : ℕ) (l : Ledger) : Type 0 where
  pub users : Users
  pub used : slice_get l.users m ≡ Some users
  pub counted : AreCounted last (numbers_of users.connections)

-- The last number that was given rises, and an MQCONN that is accepted has the next one.
abbrev pub IsNext : Call → Reply → ℕ → ℕ → Type 0
IsNext (calls.Mqconn qmgr appl) (replies.Connected (answers.Ok hc)) n k = (hc.number ≡ n + 1) × (n + 1 ≤ k)
IsNext _ _ n k = n ≤ k

-- so it is with a deed
abbrev pub EachNext : Call → Plain → Option Deed → Type 0
EachNext call p None = Unit {0}
EachNext call p (Some d) = IsNext call d.reply p.numbers.connections (do_all d.parts p).numbers.connections
