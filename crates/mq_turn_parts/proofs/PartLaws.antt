-- Parts one behind the other: what each call of the manager comes to, and what they come to together.
use Rattle.std.proofs.Common.{◌≡◌, ℕ, zero, suc, ◌+◌, ◌<◌, ◌≤◌, refl, sym, ap, subst, ◌∙◌, List, [], ◌∷◌, ◌++◌, Bool, true, false, arith}
use Rattle.std.specs.Prelude.{None, Ok, Err}
use Rattle.mq_calls.specs.declared.choices.Choice.{Choice}
use Rattle.mq_calls.specs.declared.choices.Choice.TheVariants.{Runs, NoMemory, Stopped}
use Rattle.mq_calls.specs.declared.commands.Halt.TheVariants as halts
use Rattle.mq_disk.specs.declared.cutter.Stop.{Stop}
use Rattle.mq_calls.specs.Steps.{IsWrite, calls_at, calls_before, forced_calls, write_calls, StopsAt}
use Rattle.mq_calls.specs.Meeting.{ManagerValue, MeetsAs, MeetsInRoom, StoppedIn, Wants}
use Rattle.mq_calls.specs.Meeting.Wants.{Nowhere, Anywhere}
use Rattle.mq_spec_node.specs.Terms.{Did, Part, Step, Refuse, Do, do_all, delta_of, delta_before, stopped_at}
use Rattle.mq_spec_manager.specs.Agents.{leave}
use Rattle.mq_spec_node.specs.Words.{parts_of}
use Rattle.mq_core.specs.Values.{CoreValue, manager_of}
use Rattle.mq_core.proofs.PartLaws.{do_both, calls_both, write_front, at_front, before_front, stopped_front, delta_front}
use Rattle.mq_law_manager.proofs.ShortSteps.{IsShort, StepIsShort}
use Rattle.mq_events.proofs.CallLaws.{later, where_wider}
use Rattle.mq_events.proofs.TurnLaws.{ran}
use Rattle.mq_turn_parts.specs.Turns.{IsAsWas, IsBehind, Made, has_run, left_parts}

-- Parts that neither write nor tell.
abbrev pub AreSilent : List Part → Type 0
AreSilent [] = Unit {0}
AreSilent (x ∷ xs) = (x.forced ≡ None) × (x.delta ≡ []) × AreSilent xs

silent_told : (qs : List Part) → AreSilent qs → delta_of qs ≡ []
silent_told [] s = refl
silent_told (x ∷ qs) s = ap (λ (d : List Did). d ++ delta_of qs) s.1 ∙ silent_told qs s.2

told_append : (ps qs : List Part) → AreSilent qs → delta_of (ps ++ qs) ≡ delta_of ps
told_append [] qs s = silent_told qs s
told_append (x ∷ ps) qs s = ap (λ (d : List Did). x.delta ++ d) (told_append ps qs s)

silent_calls : (qs : List Part) → AreSilent qs → write_calls qs ≡ 0
silent_calls [] s = refl
silent_calls (x ∷ qs) s = let e = ap forced_calls s.0 in let r = silent_calls qs s.2 in omega (arith, e, r)

calls_append : (ps qs : List Part) → AreSilent qs → write_calls (ps ++ qs) ≡ write_calls ps
calls_append ps qs s = let both = calls_both ps qs in let none = silent_calls qs s in omega (arith, both, none)

abbrev pub behind_if : Choice → List Part → List Part
behind_if Runs qs = qs
behind_if NoMemory qs = []
behind_if (Stopped by n left) qs = []

pub le_self : (n : ℕ) → n ≤ n
le_self n = omega arith

same_le : (a b : ℕ) → b ≡ a → a ≤ b
same_le a b e = omega (arith, e)

-- Parts, and silent ones behind them where all was done.
pub made_behind : (ps qs : List Part) (choice : Choice) (delta : List Did) (old mid new : CoreValue) → AreSilent qs → Made ps choice delta old mid → IsBehind (behind_if choice qs) mid new → Made (ps ++ qs) choice delta old new
made_behind ps qs Runs delta old mid new s m b = record {
  made = tt;
  can = λ a. let c = m.can a in subst (λ (n : ℕ). n < old.plain.log.armed) (sym (calls_append ps qs s)) c;
  told = m.told ∙ sym (told_append ps qs s);
  plain = b.plain ∙ ap (do_all qs) m.plain ∙ sym (do_both ps qs old.plain);
  later = omega (arith, m.later, b.later);
  rose = tt;
}
made_behind ps qs NoMemory delta old mid new s m b = absurd m.made
made_behind ps qs (Stopped by n left) delta old mid new s m b =
    let S : ℕ → ℕ → Type 0 = λ c k. StopsAt by c old.plain.log.armed k left in
    let w : IsWrite n ps = m.can.0 in
    record {
      made = tt;
      can = (write_front n ps qs w, subst (λ (c : ℕ). S c (calls_before n (ps ++ qs))) (sym (at_front n ps qs w)) (subst (λ (k : ℕ). S (calls_at n ps) k) (sym (before_front n ps qs w)) m.can.1));
      told = m.told ∙ sym (delta_front n ps qs w);
      plain = b.plain ∙ m.plain ∙ sym (stopped_front n ps qs left old.plain w);
      later = omega (arith, m.later, b.later);
      rose = where_wider (Stopped by n left) old.faults old.faults mid.faults new.faults (le_self old.faults) m.rose b.later;
    }

-- A call of the manager that ran, one whose only write was stopped, one that found no memory.
pub ran_made : {F T : Type 0} (wants : Wants) (step : Step F T) (value : T) (delta : List Did) (old mid new : CoreValue) → MeetsAs wants (manager_of old) step (Ok value) (manager_of mid) → delta ≡ mid.delta → new ≡ record mid { delta = [] }
    → Made (parts_of step) Runs delta old new
ran_made wants step value delta old mid new m d e =
    let r = ran wants (manager_of old) (manager_of mid) step value m in
    record {
      made = tt;
      can = r.can;
      told = d ∙ ap (λ (v : ManagerValue). v.delta) r.next;
      plain = ap (λ (v : CoreValue). v.plain) e ∙ ap (λ (v : ManagerValue). v.plain) r.next;
      later = omega (arith, later wants (manager_of old) (manager_of mid) step (Ok value) m, ap (λ (v : CoreValue). v.faults) e);
      rose = tt;
    }

first_write : (n : ℕ) (ps : List Part) → IsShort ps → IsWrite n ps → n ≡ 0
first_write n [] s w = absurd w
first_write zero (x ∷ []) s w = refl
first_write (suc n) (x ∷ []) s w = absurd w
first_write n (x ∷ y ∷ ps) s w = absurd s

stopped_first : (by : Stop) (parts : List Part) (delta : List Did) (old mid new : CoreValue) → IsShort parts → StoppedIn by parts (manager_of old) (manager_of mid) → delta ≡ mid.delta → new ≡ record mid { delta = [] }
    → Made parts (Stopped by 0 mid.plain.log.armed) delta old new
stopped_first by parts delta old mid new short s d e =
    let zero_is : s.part ≡ 0 = first_write s.part parts short s.write in
    let C : ℕ → Type 0 = λ n. IsWrite n parts × StopsAt by (calls_at n parts) old.plain.log.armed (calls_before n parts) mid.plain.log.armed in
    record {
      made = tt;
      can = subst C zero_is (s.write, s.stop);
      told = d ∙ ap (λ (v : ManagerValue). v.delta) s.next ∙ ap (λ (n : ℕ). delta_before n parts) zero_is;
      plain = ap (λ (v : CoreValue). v.plain) e ∙ ap (λ (v : ManagerValue). v.plain) s.next ∙ ap (λ (n : ℕ). stopped_at n parts mid.plain.log.armed old.plain) zero_is;
      later = omega (arith, s.later, ap (λ (v : CoreValue). v.faults) e);
      rose = where_wider (Stopped by 0 mid.plain.log.armed) old.faults old.faults mid.faults new.faults (le_self old.faults) s.rose (same_le mid.faults new.faults (ap (λ (v : CoreValue). v.faults) e));
    }

pub stopped_made : {F T : Type 0} (wants : Wants) (step : Step F T) (by : Stop) (delta : List Did) (old mid new : CoreValue) → StepIsShort step → MeetsAs wants (manager_of old) step (Err (halts.Stopped by)) (manager_of mid) → delta ≡ mid.delta
    → new ≡ record mid { delta = [] } → Made (parts_of step) (Stopped by 0 mid.plain.log.armed) delta old new
stopped_made wants (Refuse reason) by delta old mid new short m d e = absurd m
stopped_made wants (Do reply parts) by delta old mid new short m d e = stopped_first by parts delta old mid new short m d e

pub want_made : {F T : Type 0} (step : Step F T) (old new : CoreValue) → MeetsAs Anywhere (manager_of old) step (Err halts.NoMemory) (manager_of new) → IsAsWas old new
want_made (Refuse reason) old new m = record { plain = ap (λ (v : ManagerValue). v.plain) m; later = omega (arith, ap (λ (v : ManagerValue). v.faults) m) }
want_made (Do reply parts) old new m = record { plain = ap (λ (v : ManagerValue). v.plain) m; later = omega (arith, ap (λ (v : ManagerValue). v.faults) m) }

-- one behind the others, or none
pub behind_ran : {F T : Type 0} (wants : Wants) (step : Step F T) (value : T) (old new : CoreValue) → MeetsAs wants (manager_of old) step (Ok value) (manager_of new) → IsBehind (parts_of step) old new
behind_ran wants step value old new m =
    let r = ran wants (manager_of old) (manager_of new) step value m in
    record { plain = ap (λ (v : ManagerValue). v.plain) r.next; later = later wants (manager_of old) (manager_of new) step (Ok value) m }

pub behind_none : (v : CoreValue) → IsBehind [] v v
behind_none v = record { plain = refl; later = omega arith }

-- nothing is done
pub none_made : (choice : Choice) (delta : List Did) (v : CoreValue) → choice ≡ Runs → delta ≡ [] → Made [] choice delta v v
none_made choice delta v c d =
    let M : Choice → Type 0 = λ x. Made [] x delta v v in
    subst M (sym c) (record { made = tt; can = λ h. h; told = d; plain = refl; later = omega arith; rose = tt })

-- what a sender leaves behind
pub ran_is : (choice : Choice) → has_run choice ≡ true → choice ≡ Runs
ran_is Runs h = refl
ran_is NoMemory h = absurd cc
ran_is (Stopped by n left) h = absurd cc

pub left_done : (channel : List ℕ) (choice : Choice) (running : Bool) (old new : CoreValue) → has_run choice ≡ true → running ≡ false → MeetsInRoom (manager_of old) (leave channel old.plain) (Ok tt) (manager_of new) → IsBehind (left_parts channel choice running old.plain) old new
left_done channel Runs false old new h r m = behind_ran Nowhere (leave channel old.plain) tt old new m
left_done channel Runs true old new h r m = absurd cc
left_done channel NoMemory running old new h r m = absurd cc
left_done channel (Stopped by n left) running old new h r m = absurd cc

pub left_undone : (channel : List ℕ) (choice : Choice) (running : Bool) (v : CoreValue) → has_run choice ≡ false → IsBehind (left_parts channel choice running v.plain) v v
left_undone channel Runs running v h = absurd cc
left_undone channel NoMemory running v h = behind_none v
left_undone channel (Stopped by n left) running v h = behind_none v

pub left_running : (channel : List ℕ) (choice : Choice) (running : Bool) (v : CoreValue) → running ≡ true → IsBehind (left_parts channel choice running v.plain) v v
left_running channel Runs true v r = behind_none v
left_running channel Runs false v r = absurd cc
left_running channel NoMemory running v r = behind_none v
left_running channel (Stopped by n left) running v r = behind_none v
