-- A node's disk has failed at least as often as its history tells.
use Rattle.std.proofs.Common.{◌≡◌, ℕ, ◌+◌, ◌-◌, ◌^◌, ◌≤◌, Bool, true, false, refl, sym, ap, subst, List, [], ◌∷◌, ◌++◌, arith}
use Rattle.std.specs.Prelude.{Option, Some, None, Result, Ok, Err, min, if◌then◌else◌}
use Rattle.mq_base.specs.Outside.{Rose}
use Rattle.mq_base.specs.declared.want.NoMemory.{NoMemory as Want}
use Rattle.mq_spec_node.specs.Terms.{Actor, Call, Entry, History}
use Rattle.mq_spec_node.specs.Words.{Deed, NodeValue}
use Rattle.mq_events.specs.Disks.{HasRisen, disk_failed, disk_failures}
use Rattle.mq_events.specs.Events.{Adds, EventIs, Stays}
use Rattle.mq_events.specs.States.{NodeState}

sum_on : (a b c d : ℕ) → b ≡ c + d → a + b ≡ a + c + d
sum_on a b c d e = omega (arith, e)

one_on : (n : ℕ) → n + 0 ≡ 0 + n
one_on n = omega arith

failures_more : (es : List Entry) (e : Entry) → disk_failures (es ++ e ∷ []) ≡ disk_failures es + (if disk_failed e.reply then 1 else 0)
failures_more [] e = one_on (if disk_failed e.reply then 1 else 0)
failures_more (x ∷ xs) e = sum_on (if disk_failed x.reply then 1 else 0) (disk_failures (xs ++ e ∷ [])) (disk_failures xs) (if disk_failed e.reply then 1 else 0) (failures_more xs e)

-- once more where it rose
rose_on : (n a c : ℕ) → min n (2 ^ 64 - 1) ≤ a → Rose a c → min (n + 1) (2 ^ 64 - 1) ≤ c
rose_on n a c was rose = grind (arith, was, rose)

later_on : (n a c : ℕ) → min n (2 ^ 64 - 1) ≤ a → a ≤ c → min n (2 ^ 64 - 1) ≤ c
later_on n a c was le = omega (arith, was, le)

none_on : (n a c : ℕ) → min n (2 ^ 64 - 1) ≤ a → a ≤ c → min (n + 0) (2 ^ 64 - 1) ≤ c
none_on n a c was le = omega (arith, was, le)

rise_once : (b : Bool) (n a c : ℕ) → min n (2 ^ 64 - 1) ≤ a → a ≤ c → (b ≡ true → Rose a c) → min (n + (if b then 1 else 0)) (2 ^ 64 - 1) ≤ c
rise_once true n a c was le rose = rose_on n a c was (rose refl)
rise_once false n a c was le rose = none_on n a c was le

-- one entry more, or none
pub risen_later : (es : List Entry) (before now : ℕ) → HasRisen es before → before ≤ now → HasRisen es now
risen_later es before now was le = later_on (disk_failures es) before now was le

pub risen_with : (es : List Entry) (e : Entry) (before now : ℕ) → HasRisen es before → before ≤ now → (disk_failed e.reply ≡ true → Rose before now) → HasRisen (es ++ e ∷ []) now
risen_with es e before now was le rose =
    subst (λ (n : ℕ). min n (2 ^ 64 - 1) ≤ now) (sym (failures_more es e)) (rise_once (disk_failed e.reply) (disk_failures es) before now was le rose)

pub risen_more : (who : Actor) (what : Call) (e : Entry) (s t : NodeState) → HasRisen s.history.entries s.manager.faults → Adds who what e s t → HasRisen t.history.entries t.manager.faults
risen_more who what e s t was a =
    subst (λ (es : List Entry). HasRisen es t.manager.faults) (sym (ap (λ (h : History). h.entries) a.grows.history)) (risen_with s.history.entries e s.manager.faults t.manager.faults was a.faults a.rose)

pub risen_still : (s t : NodeState) → HasRisen s.history.entries s.manager.faults → Stays s t → HasRisen t.history.entries t.manager.faults
risen_still s t was h =
    subst (λ (es : List Entry). HasRisen es t.manager.faults) (sym (ap (λ (v : NodeValue). v.history.entries) h.same)) (later_on (disk_failures s.history.entries) s.manager.faults t.manager.faults was h.faults)

pub risen_event : (who : Actor) (what : Call) (d : Option Deed) (s : NodeState) (r : Result Bool Want) (t : NodeState) → HasRisen s.history.entries s.manager.faults → EventIs who what d s r t → HasRisen t.history.entries t.manager.faults
risen_event who what d s (Err e) t was h = risen_still s t was h
risen_event who what None s (Ok true) t was h = absurd h
risen_event who what (Some d) s (Ok true) t was h = risen_more who what h.0 s t was h.1
risen_event who what None s (Ok false) t was h = risen_still s t was h
risen_event who what (Some d) s (Ok false) t was h = absurd h

-- where nothing has happened
none_told : (n : ℕ) → min 0 (2 ^ 64 - 1) ≤ n
none_told n = omega arith

pub risen_none : (es : List Entry) (count : ℕ) → es ≡ [] → HasRisen es count
risen_none es count none = subst (λ (l : List Entry). HasRisen l count) (sym none) (none_told count)
