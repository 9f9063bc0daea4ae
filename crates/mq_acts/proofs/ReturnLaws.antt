-- A restart of a manager, as the history keeps it.
use Rattle.std.proofs.Common.{◌≡◌, ℕ, ◌+◌, Bool, true, false, [], refl, ap, sym, subst, ◌∙◌}
use Rattle.std.specs.Prelude.{List, Option, Some, None, Result, Ok, Err}
use Rattle.mq_base.specs.declared.want.NoMemory.{NoMemory as Want}
use Rattle.mq_calls.specs.declared.choices.Return.{Return}
use Rattle.mq_calls.specs.declared.choices.Return.TheVariants.{Comes, Fails}
use Rattle.mq_calls.specs.declared.commands.RestartFault.{RestartFault}
use Rattle.mq_calls.specs.declared.commands.RestartFault.TheVariants as faults
use Rattle.mq_history.specs.declared.acts.Acted.TheVariants as acted
use Rattle.mq_history.specs.declared.calls.Chance.TheVariants as chances
use Rattle.mq_history.specs.declared.calls.Reply.TheVariants as replies
use Rattle.mq_calls.specs.State.{LogState, Noted, Running}
use Rattle.mq_calls.specs.State.Running.{Up, Down}
use Rattle.mq_calls.specs.Words.{Plain, is_up}
use Rattle.mq_spec_manager.specs.Stops.{failed, restart_at}
use Rattle.mq_operate.specs.from_core.Values.{CoreValue}
use Rattle.mq_events.specs.from_restart.{Unreturned}
use Rattle.mq_events.specs.from_restart.Returned.{CanEnd, Ends, Passes, Stayed}
use Rattle.mq_events.specs.from_restarts.{Back}
use Rattle.mq_events.specs.from_restarts.BackVariants as backs
use Rattle.mq_events.specs.from_restarts.Backs.{IsBack, IsBackFrom}
use Rattle.mq_spec_node.specs.Terms.{Did}
use Rattle.mq_spec_node.specs.Words.{Own, node_of, begun_anew, quiet, restarted, IsReturn, IsToldReturn}
use Rattle.mq_events.specs.Counts.{AreBelow}
use Rattle.mq_acts.specs.declared.restarting.Restarted.{Restarted}
use Rattle.mq_acts.specs.Restarts.{IsRestart, RestartsAs, came_as, is_wanting, refused_as, StayedAs}

-- ---- it came up

own_can : (kept : Bool) (started : ℕ) (tells : Type 0) (p : Plain) (r : Running) → p.running ≡ r → is_up r ≡ false → CanEnd tells (Comes kept started) r p → IsReturn (chances.Restart (Comes kept started)) r p
own_can kept started tells p Up e down h = absurd cc
own_can kept started tells p (Down n starts) e down h = (h.0, tt)

own_down : (tells : Type 0) (kept : Bool) (started : ℕ) (p : Plain) (r : Running) → CanEnd tells (Comes kept started) r p → is_up r ≡ false
own_down tells kept started p Up h = absurd cc
own_down tells kept started p (Down n starts) h = refl

own_does : (kept : Bool) (started : ℕ) (p new : Plain) (delta : List Did) (own : Own) (r : Running) → p.running ≡ r → is_up r ≡ false → new ≡ (restart_at r (Comes kept started) p).next → delta ≡ (restart_at r (Comes kept started) p).delta
    → restarted (restart_at r (Comes kept started) p) (node_of p own) ≡ quiet (replies.Acted acted.Done) delta (begun_anew new own)
own_does kept started p new delta own Up e down is told = absurd cc
own_does kept started p new delta own (Down n starts) e down is told =
    ap (λ (q : Plain). quiet (replies.Acted acted.Done) (restart_at (Down n starts) (Comes kept started) p).delta (begun_anew q own)) (sym is)
    ∙ ap (λ (ds : List Did). quiet (replies.Acted acted.Done) ds (begun_anew new own)) (sym told)

came_disk : None ≡ Some faults.Disk → ⊥
came_disk e = absurd cc

fault_is : (a b : RestartFault) → Some a ≡ Some b → a ≡ b
fault_is a b e = cc

pub came_up : (tells : Type 0) (old new : CoreValue) (b : Back) → IsBack tells old.plain b new → Passes old new → IsRestart tells old (came_as b new.delta) (record new { delta = [] })
came_up tells old new (backs.Own kept started) b p =
    let ends : Ends tells (Comes kept started) old.plain new = b.ends in
    let down : is_up old.plain.running ≡ false = own_down tells kept started old.plain old.plain.running ends.can in
    record {
      can = own_can kept started tells old.plain old.plain.running refl down ends.can;
      does = λ own. own_does kept started old.plain new.plain new.delta own old.plain.running refl down ends.plain ends.delta;
      own = λ t. tt;
      counts = b.image;
      later = p.later;
      rose = λ disk. absurd (came_disk disk);
    }
came_up tells old new (backs.Foreign image length left) b p =
    let from : IsBackFrom tells image length left old.plain new = b.ends in
    record {
      can = from.can;
      does = λ own.
          ap (λ (q : Plain). quiet (replies.Acted acted.Done) [] (begun_anew q own)) (sym from.plain)
          ∙ ap (λ (ds : List Did). quiet (replies.Acted acted.Done) ds (begun_anew new.plain own)) (sym from.delta);
      own = λ t. absurd (from.untold t);
      counts = b.image;
      later = p.later;
      rose = λ disk. absurd (came_disk disk);
    }

pub came_told : (tells : Type 0) (old m new : CoreValue) (b : Back) (r : Restarted) (delta : List Did) → IsBack tells old.plain b m → Passes old m → r ≡ came_as b delta → delta ≡ m.delta → new ≡ record m { delta = [] } → IsRestart tells old r new
came_told tells old m new b r delta back p is told left =
    subst (λ (x : CoreValue). IsRestart tells old r x) (sym left)
    (subst (λ (x : Restarted). IsRestart tells old x (record m { delta = [] })) (sym (is ∙ ap (came_as b) told)) (came_up tells old m b back p))

-- ---- it was refused

told_fault : (fault : RestartFault) (in_write : Bool) (left : ℕ) → is_wanting fault ≡ false → IsToldReturn (Fails fault in_write left)
told_fault faults.NoMemory in_write left e = absurd cc
told_fault faults.Up in_write left e = tt
told_fault faults.Disk in_write left e = tt
told_fault faults.Cut in_write left e = tt
told_fault (faults.BadLog place) in_write left e = tt

refused_can : (tells : Type 0) (fault : RestartFault) (in_write : Bool) (left : ℕ) (p : Plain) (r : Running) → is_wanting fault ≡ false → CanEnd tells (Fails fault in_write left) r p → IsReturn (chances.Restart (Fails fault in_write left)) r p
refused_can tells fault in_write left p Up w h = h
refused_can tells fault in_write left p (Down n starts) w h = (h.0, told_fault fault in_write left w)

-- a manager that is up answers Up
up_fault : (fault : RestartFault) (in_write : Bool) (left armed : ℕ) → Fails fault in_write left ≡ Fails faults.Up false armed → fault ≡ faults.Up
up_fault fault in_write left armed e = ap fault_in e
  where
    fault_in : Return → RestartFault
    fault_in (Comes kept started) = faults.Up
    fault_in (Fails f w l) = f

failed_does : (fault : RestartFault) (in_write : Bool) (left : ℕ) (n : Option Noted) (starts : ℕ) (p : Plain) (own : Own) → is_wanting fault ≡ false
    → restarted (failed fault in_write left n starts p) (node_of p own) ≡ quiet (replies.Acted (acted.Start fault)) [] (node_of (failed fault in_write left n starts p).next own)
failed_does faults.NoMemory in_write left n starts p own w = absurd cc
failed_does faults.Up true left n starts p own w = refl
failed_does faults.Up false left n starts p own w = refl
failed_does faults.Disk true left n starts p own w = refl
failed_does faults.Disk false left n starts p own w = refl
failed_does faults.Cut true left n starts p own w = refl
failed_does faults.Cut false left n starts p own w = refl
failed_does (faults.BadLog place) true left n starts p own w = refl
failed_does (faults.BadLog place) false left n starts p own w = refl

refused_does : (tells : Type 0) (fault : RestartFault) (in_write : Bool) (left : ℕ) (p : Plain) (own : Own) (r : Running) → is_wanting fault ≡ false → CanEnd tells (Fails fault in_write left) r p
    → restarted (restart_at r (Fails fault in_write left) p) (node_of p own) ≡ quiet (replies.Acted (acted.Start fault)) [] (node_of (restart_at r (Fails fault in_write left) p).next own)
refused_does tells fault in_write left p own Up w h = ap (λ (f : RestartFault). quiet (replies.Acted (acted.Start f)) [] (node_of p own)) (sym (up_fault fault in_write left p.log.armed h))
refused_does tells fault in_write left p own (Down n starts) w h = failed_does fault in_write left n starts p own w

-- it is down otherwise, and its cut is armed otherwise: no counter is higher
below_over : (r : Running) (log : LogState) (p : Plain) (most : ℕ) → AreBelow most p → AreBelow most (record p { running = r; log = log })
below_over r log p most b = record { idents = b.idents; connections = b.connections; handles = b.handles; arrivals = b.arrivals; due = b.due }

below_failed : (fault : RestartFault) (in_write : Bool) (left : ℕ) (n : Option Noted) (starts : ℕ) (p : Plain) (most : ℕ) → AreBelow most p → AreBelow most (failed fault in_write left n starts p).next
below_failed faults.NoMemory in_write left n starts p most b = b
below_failed faults.Up true left n starts p most b = below_over (Down n (starts + 1)) (record p.log { armed = left }) p most b
below_failed faults.Up false left n starts p most b = below_over p.running (record p.log { armed = left }) p most b
below_failed faults.Disk true left n starts p most b = below_over (Down n (starts + 1)) (record p.log { armed = left }) p most b
below_failed faults.Disk false left n starts p most b = below_over p.running (record p.log { armed = left }) p most b
below_failed faults.Cut true left n starts p most b = below_over (Down n (starts + 1)) (record p.log { armed = left }) p most b
below_failed faults.Cut false left n starts p most b = below_over p.running (record p.log { armed = left }) p most b
below_failed (faults.BadLog place) true left n starts p most b = below_over (Down n (starts + 1)) (record p.log { armed = left }) p most b
below_failed (faults.BadLog place) false left n starts p most b = below_over p.running (record p.log { armed = left }) p most b

below_refused : (r : Running) (fault : RestartFault) (in_write : Bool) (left : ℕ) (p : Plain) (most : ℕ) → AreBelow most p → AreBelow most (restart_at r (Fails fault in_write left) p).next
below_refused Up fault in_write left p most b = b
below_refused (Down n starts) fault in_write left p most b = below_failed fault in_write left n starts p most b

refused : (tells : Type 0) (old new : CoreValue) (e : Unreturned) → is_wanting e.fault ≡ false → Stayed tells old.plain old.faults e new → Passes old new → IsRestart tells old (refused_as e) new
refused tells old new e w s p = record {
  can = refused_can tells e.fault e.in_write e.left old.plain old.plain.running w s.ends.can;
  does = λ own.
      refused_does tells e.fault e.in_write e.left old.plain own old.plain.running w s.ends.can
      ∙ ap (λ (q : Plain). quiet (replies.Acted (acted.Start e.fault)) [] (node_of q own)) (sym s.ends.plain);
  own = λ t. tt;
  counts = λ most b. subst (AreBelow most) (sym s.ends.plain) (below_refused old.plain.running e.fault e.in_write e.left old.plain most b);
  later = p.later;
  rose = λ disk. s.disk (fault_is e.fault faults.Disk disk);
}

-- there was no memory
unchanged : (r : Running) (fault : RestartFault) (in_write : Bool) (left : ℕ) (p : Plain) → is_wanting fault ≡ true → (restart_at r (Fails fault in_write left) p).next ≡ p
unchanged Up fault in_write left p w = refl
unchanged (Down n starts) faults.NoMemory in_write left p w = refl
unchanged (Down n starts) faults.Up in_write left p w = absurd cc
unchanged (Down n starts) faults.Disk in_write left p w = absurd cc
unchanged (Down n starts) faults.Cut in_write left p w = absurd cc
unchanged (Down n starts) (faults.BadLog place) in_write left p w = absurd cc

pub stayed_down : (tells : Type 0) (old new : CoreValue) (e : Unreturned) (result : Result Restarted Want) → Stayed tells old.plain old.faults e new → Passes old new → StayedAs e result → RestartsAs tells old result new
stayed_down tells old new e (Ok r) s p h = subst (λ (x : Restarted). IsRestart tells old x new) (sym h.0) (refused tells old new e h.1 s p)
stayed_down tells old new e (Err x) s p h = record { same = s.ends.plain ∙ unchanged old.plain.running e.fault e.in_write e.left old.plain h; later = p.later }
