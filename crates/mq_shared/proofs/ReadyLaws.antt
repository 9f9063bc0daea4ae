-- How a phase ends where memory sufficed: each node may act, as far as they were looked at.
use Rattle.std.proofs.Common.{◌≡◌, ℕ, ◌+◌, ◌<◌, ◌≤◌, List, length, ap, sym, subst, ◌∙◌, ⊎_elim, arith}
use Rattle.std.specs.Prelude.{Some, slice_get}
use Rattle.mq_acts.specs.from_events.States.{NodeState}
use Rattle.mq_acts.specs.from_events.Events.{MayAct}
use Rattle.mq_shared.specs.Phasing.{AreReady}
use Rattle.mq_shared.specs.Taking.{AreDone}
use Rattle.mq_shared.proofs.KeptLaws.{served_of}
use Rattle.mq_shared.proofs.ShareLists.{less, some_is, under_or_not}

pub may_more : (ns : List NodeState) (at : ℕ) (x : NodeState) → ((m : ℕ) (n : NodeState) → m < at → slice_get ns m ≡ Some n → MayAct n) → slice_get ns at ≡ Some x → MayAct x → (m : ℕ) (n : NodeState) → m < at + 1 → slice_get ns m ≡ Some n → MayAct n
may_more ns at x before there may m n lt is = ⊎_elim (λ (u : m < at). before m n u is) here (under_or_not m at)
  where
    here : at ≤ m → MayAct n
    here v = let same : m ≡ at = omega (arith, v, lt) in subst MayAct (some_is x n (sym there ∙ ap (slice_get ns) (sym same) ∙ is)) may

pub all_ready : (ns : List NodeState) (at : ℕ) → length ns ≤ at → ((m : ℕ) (n : NodeState) → m < at → slice_get ns m ≡ Some n → MayAct n) → AreDone ns → AreReady ns
all_ready ns at long before done m n is =
    let h = less ns m n is in
    let may : MayAct n = before m n (omega (arith, h, long)) is in (served_of n (done m n is) may, may)
