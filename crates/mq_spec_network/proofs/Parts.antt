-- What is no part: before LONDON's first line is done, PARIS does nothing but trigger turns; so its clock doesn't advance.
use Rattle.std.specs.Prelude.{◌≡◌, ℕ, ◌==◌, true, false, List, [], ◌∷◌, ◌++◌, if◌then◌else◌, None, refl}
use Rattle.std.proofs.Common.{ap, subst, sym, arith, inl, inr, ◌⊎◌, ◌∙◌}
use Rattle.std.proofs.lemmas.Bool.Decides.{nat_tests}
use Rattle.mq_spec_node.specs.from_history.CallVariants as calls
use Rattle.mq_spec_node.specs.from_history.{Entry}
use Rattle.mq_spec_network.specs.Turns.{Network, more_at}
use Rattle.mq_spec_node.specs.Lines.{left_after}
use Rattle.mq_spec_network.specs.Tasks.{Task}
use Rattle.mq_spec_network.specs.Tasks.Task.{Script, Lines}
use Rattle.mq_spec_network.specs.Steps.{Goes, Moves, Passes, AreTriggers}
use Rattle.mq_spec_network.specs.Steps.Goes.{stays, moves, serves, passes}
use Rattle.mq_spec_network.proofs.Going.{bool_case}
use Rattle.mq_spec_network.proofs.Waiting.{script, network0, advances}

abbrev run : Task
run = Script 0 script None None

abbrev all_lines : Task
all_lines = Lines 0 script None script.lines

-- so long as LONDON has done nothing
pub record Early (w : Network) (ts : List Task) : Type 0 where
  pub kept : w ≡ record network0 { done = w.done }
  pub tasks : (ts ≡ run ∷ []) ⊎ (ts ≡ all_lines ∷ [])
  pub paris : AreTriggers (w.done 1)

abbrev head_or : Task → List Task → Task
head_or d [] = d
head_or d (t ∷ ts) = t

abbrev tail_of : List Task → List Task
tail_of [] = []
tail_of (t ∷ ts) = ts

not_empty : (es : List Entry) (e : Entry) → es ++ e ∷ [] ≡ [] → ⊥
not_empty [] e h = absurd cc
not_empty (x ∷ es) e h = absurd cc

two_tests : true ≡ false → ⊥
two_tests h = absurd cc

not_true : false ≡ true → ⊥
not_true h = absurd cc

-- an entry at another manager than LONDON
not_london : (m : ℕ) (e : Entry) (done : ℕ → List Entry) → more_at m (e ∷ []) done 0 ≡ [] → ((0 == m) ≡ false) × (done 0 ≡ [])
not_london m e done = bool_case (λ b. (if b then done 0 ++ e ∷ [] else done 0) ≡ [] → (b ≡ false) × (done 0 ≡ [])) (λ h. absurd (not_empty (done 0) e h)) (λ h. (refl, h)) (0 == m)

london_is_zero : (m : ℕ) → m ≡ 0 → (0 == m) ≡ true
london_is_zero m e = grind (arith, nat_tests)

no_move : (w : Network) (t : Task) (ts : List Task) (m : ℕ) (e : Entry) → Early w (t ∷ ts) → (0 == m) ≡ false → Moves w t m e → ⊥
no_move w t ts m e early other mv = told early.tasks
  where
    told : (t ∷ ts ≡ run ∷ []) ⊎ (t ∷ ts ≡ all_lines ∷ []) → ⊥
    told (inl is) = subst (λ (x : Task). Moves w x m e) (ap (head_or run) is) mv
    told (inr is) =
        let line = subst (λ (x : Task). Moves w x m e) (ap (head_or run) is) mv in
        two_tests (sym (london_is_zero m line.is.0) ∙ other)

more_triggers : (es : List Entry) (e : Entry) → AreTriggers es → e.call ≡ calls.Trigger → AreTriggers (es ++ e ∷ [])
more_triggers [] e h due = (due, tt)
more_triggers (x ∷ es) e h due = (h.0, more_triggers es e h.1 due)

at_paris : (m : ℕ) (e : Entry) (done : ℕ → List Entry) → AreTriggers (done 1) → e.call ≡ calls.Trigger → AreTriggers (more_at m (e ∷ []) done 1)
at_paris m e done h due = bool_case (λ b. AreTriggers (if b then done 1 ++ e ∷ [] else done 1)) (more_triggers (done 1) e h due) h (1 == m)

-- MQCONN doesn't wait
no_wait : (w : Network) (next : List Task) → w ≡ record network0 { done = w.done } → w.done 0 ≡ [] → Passes w all_lines next → ⊥
no_wait w next kept none p =
    no_wait_at (w.done) none (subst (λ (x : Network). Passes x all_lines next) kept p)
  where
    no_wait_at : (done : ℕ → List Entry) → done 0 ≡ [] → Passes (record network0 { done = done }) all_lines next → ⊥
    no_wait_at done none p = not_true (p.waits)

lines_of : (w : Network) (next : List Task) → w.done 0 ≡ [] → Passes w run next → next ≡ all_lines ∷ []
lines_of w next none p = p ∙ ap (λ (es : List Entry). Lines 0 script None (left_after 0 script es) ∷ []) none

passed_on : (w : Network) (t : Task) (next ts : List Task) → w.done 0 ≡ [] → Passes w t next → Early w (t ∷ ts) → (t ∷ ts ≡ run ∷ []) ⊎ (t ∷ ts ≡ all_lines ∷ []) → Early w (next ++ ts)
passed_on w t next ts none p h (inl is) = record {
  kept = h.kept;
  tasks = inr (ap (λ (x : List Task). x ++ ts) (lines_of w next none (subst (λ (x : Task). Passes w x next) (ap (head_or run) is) p)) ∙ ap (λ (x : List Task). all_lines ∷ x) (ap tail_of is));
  paris = h.paris;
}
passed_on w t next ts none p h (inr is) = absurd (no_wait w next h.kept none (subst (λ (x : Task). Passes w x next) (ap (head_or run) is) p))

pub early : {w : Network} {ts : List Task} → Goes network0 (run ∷ []) w ts → w.done 0 ≡ [] → Early w ts
early stays none = record { kept = refl; tasks = inl refl; paris = tt }
early (moves w t ts m e g mv) none =
    let (other, before) = not_london m e w.done none in
    absurd (no_move w t ts m e (early g before) other mv)
early (serves w ts m e g due) none =
    let (other, before) = not_london m e w.done none in
    let h = early g before in
    record { kept = ap (λ (x : Network). record x { done = more_at m (e ∷ []) w.done }) h.kept; tasks = h.tasks; paris = at_paris m e w.done h.paris due }
early (passes w t next ts g s p) none = passed_on w t next ts none p (early g none) (early g none).tasks

no_trigger : calls.Trigger ≡ advances → ⊥
no_trigger e = absurd cc

-- "LONDON did nothing, PARIS's clock advanced" is no part of the RUN
no_part : {w : Network} {ts : List Task} → Goes network0 (run ∷ []) w ts → w.done 0 ≡ [] → (e : Entry) → w.done 1 ≡ e ∷ [] → e.call ≡ advances → ⊥
no_part g none e one clock =
    let triggers = subst AreTriggers one (early g none).paris in
    no_trigger (sym triggers.0 ∙ clock)
