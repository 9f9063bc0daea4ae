-- How the call of a receiver's commit meets its step.
use Rattle.std.proofs.Common.{◌≡◌, ℕ, ◌<◌, Bool, true, false, List, [], ◌++◌, refl, ap, arith, sym, subst, ◌∙◌}
use Rattle.std.specs.Prelude.{Option, Some, None, Ok, Err, if◌then◌else◌}
use Rattle.mq_base.specs.Outside.{Rose}
use Rattle.mq_disk.specs.declared.cutter.Stop.{Stop}
use Rattle.mq_log.specs.Force.{Stops}
use Rattle.mq_codes.specs.declared.reason.Reason.TheVariants as reasons
use Rattle.mq_calls.specs.declared.agents.AgentStop.TheVariants as agent_stops
use Rattle.mq_calls.specs.declared.agents.PlaceFault.TheVariants as place_faults
use Rattle.mq_calls.specs.Meeting.Wants.{Anywhere}
use Rattle.mq_calls.specs.Words.{Luw, MeetsOrWants, Message, Part, Plain, Reason, Step, Refuse, Do, untouched, apply_all, freeze, is_full, logged, need, note_of, refused_or}
use Rattle.mq_calls.specs.declared.agents.AgentStop.{AgentStop}
use Rattle.mq_calls.specs.declared.deltas.Did.{Did}
use Rattle.mq_calls.specs.declared.records.LogRecord.{LogRecord}
use Rattle.mq_calls.specs.declared.agents.PlaceFault.{PlaceFault}
use Rattle.mq_spec_manager.specs.Agents.{landed, receive, receive_landed}
use Rattle.mq_core.specs.declared.parts.Arrival.{Arrival}
use Rattle.mq_core.specs.Views.{PartsValue, plain_of}
use Rattle.mq_core.specs.Ties.{Tied}
use Rattle.mq_core.specs.Values.{CoreValue, WritesLog, manager_of, bodies_in, behind_record, pending_record}
use Rattle.mq_core.specs.Writes.{all_landed}
use Rattle.mq_moves.specs.from_agents.Ends.{by_place, halt_of, stopped_agent}
use Rattle.mq_moves.specs.from_agents.Written.{agent_of, stop_of}
use Rattle.mq_moves.specs.from_agents.{Unwritten}
use Rattle.mq_moves.specs.from_agents.UnwrittenVariants as unwritten
use Rattle.mq_moves.proofs.from_agents.WriteLaws.{wrote_as, broke_as, broke_told, halt_stopped}
use Rattle.mq_receive.specs.Planned.{Plans}
use Rattle.mq_receive.specs.Committed.{batch_record, batch_part, batch_step, IsDone, Commits}
use Rattle.mq_receive.proofs.PlanLaws.{plan_ends}

-- The parts, as they are seen of the manager
abbrev pub seen_of : PartsValue → List Did → Option Stop → CoreValue
seen_of y tells stopped = record { plain = plain_of y; delta = tells; stopped = stopped; faults = y.log.faults; log = bodies_in y.log }

pub record IsSeen (v : CoreValue) (x : PartsValue) (old : List Did) : Type 0 where
  pub plain : plain_of x ≡ v.plain
  pub faults : x.log.faults ≡ v.faults
  pub log : bodies_in x.log ≡ v.log
  pub told : old ≡ []

done_by : List ℕ → Luw → ℕ → List Arrival → Plain → Plain
done_by channel unit last landed p = apply_all (batch_part channel unit last landed p).changes (logged (Some (batch_record channel unit last landed)) p)

pub commit_done : (v : CoreValue) (channel : List ℕ) (unit : Luw) (last : ℕ) (landed : List Arrival) (x y : PartsValue) (told tells : List Did) (stopped : Option Stop) → IsSeen v x told → stopped ≡ None
    → IsDone (batch_part channel unit last landed (plain_of x)) (batch_record channel unit last landed) x told y tells
    → MeetsOrWants (manager_of v) (batch_step channel unit last landed v.plain) (Ok (let nothing : Unit {0} = tt in nothing)) (manager_of (seen_of y tells stopped))
unfolding done_by
commit_done v channel unit last landed x y told tells stopped s quiet d =
    let nothing : Unit {0} = tt in
    let part : Part = batch_part channel unit last landed v.plain in
    let armed : x.log.armed ≡ v.plain.log.armed = ap (λ (p : Plain). p.log.armed) s.plain in
    let had = s.faults in
    wrote_as Reason Anywhere (manager_of v) (manager_of (seen_of y tells stopped)) nothing nothing (batch_record channel unit last landed) part.changes part.delta refl
    (d.plain ∙ ap (done_by channel unit last landed) s.plain) (d.told ∙ ap (λ (ds : List Did). ds ++ part.delta) s.told) quiet
    (omega (arith, had, d.later)) (λ some. let here : 0 < x.log.armed = omega (arith, armed, some) in let more = d.ran here in omega (arith, armed, more))

pub commit_wrote : (v : CoreValue) (channel : List ℕ) (unit : Luw) (last : ℕ) (landed : List Arrival) (x y : PartsValue) (told tells : List Did) (stopped : Option Stop) → IsSeen v x told
    → IsDone (batch_part channel unit last landed (plain_of x)) (batch_record channel unit last landed) x told y tells
    → WritesLog v (batch_step channel unit last landed v.plain) (Ok (let nothing : Unit {0} = tt in nothing)) (seen_of y tells stopped)
commit_wrote v channel unit last landed x y told tells stopped s d = (d.bodies ∙ ap (behind_record (Some (batch_record channel unit last landed))) s.log, (d.fits, tt))

froze_by : List ℕ → Luw → ℕ → List Arrival → ℕ → Plain → Plain
froze_by channel unit last landed left p = freeze (note_of (batch_part channel unit last landed p) (Some (batch_record channel unit last landed))) left p

ends_by : (u : Unwritten) (v : CoreValue) (channel : List ℕ) (unit : Luw) (last : ℕ) (landed : List Arrival) (x y : PartsValue) (told tells : List Did) → IsSeen v x told
    → Commits (batch_part channel unit last landed (plain_of x)) (batch_record channel unit last landed) x told (Err u) y tells
    → MeetsOrWants (manager_of v) (batch_step channel unit last landed v.plain) (by_place (Err (place_faults.Stop (agent_of u)))) (manager_of (seen_of y tells (stop_of u)))
unfolding froze_by
ends_by unwritten.NoMemory v channel unit last landed x y told tells s c =
    let plain = c.plain ∙ s.plain in
    let none = c.told ∙ s.told in
    let faults = c.faults ∙ s.faults in
    λ i. record { plain = plain i; delta = none i; stopped = None; faults = faults i }
ends_by (unwritten.Stopped stop) v channel unit last landed x y told tells s c =
    let nothing : Unit {0} = tt in
    let part : Part = batch_part channel unit last landed v.plain in
    let armed : x.log.armed ≡ v.plain.log.armed = ap (λ (p : Plain). p.log.armed) s.plain in
    let had = s.faults in
    broke_as Anywhere (manager_of v) (manager_of (seen_of y tells (Some stop))) nothing (batch_record channel unit last landed) part.changes part.delta stop (halt_of {F = Reason} (stopped_agent stop)) (halt_stopped {F = Reason} stop)
    (c.plain ∙ ap (froze_by channel unit last landed y.log.armed) s.plain) (c.told ∙ s.told) refl
    (subst (λ (k : ℕ). Stops k (Err stop) y.log.armed) armed c.ends) (omega (arith, had, c.later)) (λ d. subst (λ (k : ℕ). Rose k y.log.faults) had (c.rose d))

pub commit_ends : (u : Unwritten) (v : CoreValue) (channel : List ℕ) (unit : Luw) (last : ℕ) (landed : List Arrival) (x y : PartsValue) (told tells : List Did) (agent : AgentStop) (stopped : Option Stop) → agent ≡ agent_of u → stopped ≡ stop_of u → IsSeen v x told
    → Commits (batch_part channel unit last landed (plain_of x)) (batch_record channel unit last landed) x told (Err u) y tells
    → MeetsOrWants (manager_of v) (batch_step channel unit last landed v.plain) (by_place (Err (place_faults.Stop agent))) (manager_of (seen_of y tells stopped))
commit_ends u v channel unit last landed x y told tells agent stopped a o s c =
    subst (λ (k : AgentStop). MeetsOrWants (manager_of v) (batch_step channel unit last landed v.plain) (by_place (Err (place_faults.Stop k))) (manager_of (seen_of y tells stopped))) (sym a)
    (subst (λ (k : Option Stop). MeetsOrWants (manager_of v) (batch_step channel unit last landed v.plain) (by_place (Err (place_faults.Stop (agent_of u)))) (manager_of (seen_of y tells k))) (sym o)
    (ends_by u v channel unit last landed x y told tells s c))

told_by : (u : Unwritten) (v : CoreValue) (channel : List ℕ) (unit : Luw) (last : ℕ) (landed : List Arrival) (x y : PartsValue) (told tells : List Did) (stopped : Option Stop) → IsSeen v x told
    → Commits (batch_part channel unit last landed (plain_of x)) (batch_record channel unit last landed) x told (Err u) y tells
    → WritesLog v (batch_step channel unit last landed v.plain) (by_place (Err (place_faults.Stop (agent_of u)))) (seen_of y tells stopped)
unfolding froze_by
told_by unwritten.NoMemory v channel unit last landed x y told tells stopped s c = c.bodies ∙ s.log
told_by (unwritten.Stopped stop) v channel unit last landed x y told tells stopped s c =
    let nothing : Unit {0} = tt in
    broke_told {F = Reason} v (seen_of y tells stopped) (halt_of {F = Reason} (stopped_agent stop)) stop nothing (batch_part channel unit last landed v.plain) (halt_stopped {F = Reason} stop) refl c.fits
    (c.plain ∙ ap (froze_by channel unit last landed y.log.armed) s.plain) (c.bodies ∙ ap (pending_record (Some (batch_record channel unit last landed))) s.log)

pub commit_told : (u : Unwritten) (v : CoreValue) (channel : List ℕ) (unit : Luw) (last : ℕ) (landed : List Arrival) (x y : PartsValue) (told tells : List Did) (agent : AgentStop) (stopped : Option Stop) → agent ≡ agent_of u → IsSeen v x told
    → Commits (batch_part channel unit last landed (plain_of x)) (batch_record channel unit last landed) x told (Err u) y tells
    → WritesLog v (batch_step channel unit last landed v.plain) (by_place (Err (place_faults.Stop agent))) (seen_of y tells stopped)
commit_told u v channel unit last landed x y told tells agent stopped a s c =
    subst (λ (k : AgentStop). WritesLog v (batch_step channel unit last landed v.plain) (by_place (Err (place_faults.Stop k))) (seen_of y tells stopped)) (sym a) (told_by u v channel unit last landed x y told tells stopped s c)

pub ends_tied : (u : Unwritten) (part : Part) (r : LogRecord) (x y : PartsValue) (told tells : List Did) → Commits part r x told (Err u) y tells → Tied y
ends_tied unwritten.NoMemory part r x y told tells c = c.tied
ends_tied (unwritten.Stopped stop) part r x y told tells c = c.tied

-- No memory, whatever the step is
pub wants : (v new : CoreValue) (step : Step Reason (Unit {0})) → manager_of new ≡ untouched (manager_of v) → MeetsOrWants (manager_of v) step (by_place (Err (place_faults.Stop agent_stops.NoMemory))) (manager_of new)
wants v new (Refuse reason) e = e
wants v new (Do reply parts) e = e

pub wants_told : (v new : CoreValue) (step : Step Reason (Unit {0})) → new.log ≡ v.log → WritesLog v step (by_place (Err (place_faults.Stop agent_stops.NoMemory))) new
wants_told v new (Refuse reason) e = e
wants_told v new (Do reply parts) e = e

-- A refusal
pub refuses : (v new : CoreValue) (step : Step Reason (Unit {0})) (reason : Reason) → step ≡ Refuse reason → manager_of new ≡ untouched (manager_of v) → MeetsOrWants (manager_of v) step (by_place (Err (place_faults.Refused reason))) (manager_of new)
refuses v new step reason is e = subst (λ (s : Step Reason (Unit {0})). MeetsOrWants (manager_of v) s (by_place (Err (place_faults.Refused reason))) (manager_of new)) (sym is) (refl, e)

pub refuses_told : (v new : CoreValue) (step : Step Reason (Unit {0})) (reason : Reason) → step ≡ Refuse reason → new.log ≡ v.log → WritesLog v step (by_place (Err (place_faults.Refused reason))) new
refuses_told v new step reason is e = subst (λ (s : Step Reason (Unit {0})). WritesLog v s (by_place (Err (place_faults.Refused reason))) new) (sym is) e

-- Where the log has room, and where it has none
pub has_room : (channel : List ℕ) (unit : Luw) (last : ℕ) (landed : List Arrival) (p : Plain) → is_full (need (batch_record channel unit last landed)) p ≡ false → receive_landed channel unit last (Ok (all_landed landed)) p ≡ batch_step channel unit last landed p
has_room channel unit last landed p e = ap (λ (b : Bool). refused_or (if b then Some reasons.ResourceProblem else None) (batch_step channel unit last landed p)) e

pub has_none : (channel : List ℕ) (unit : Luw) (last : ℕ) (landed : List Arrival) (p : Plain) → is_full (need (batch_record channel unit last landed)) p ≡ true → receive_landed channel unit last (Ok (all_landed landed)) p ≡ Refuse reasons.ResourceProblem
has_none channel unit last landed p e = ap (λ (b : Bool). refused_or (if b then Some reasons.ResourceProblem else None) (batch_step channel unit last landed p)) e

-- A plan that ends
pub plan_fails : (v new : CoreValue) (channel : List ℕ) (unit : Luw) (last : ℕ) (batch : List Message) (fault : PlaceFault) → Plans channel batch v.plain (Err fault) → manager_of new ≡ untouched (manager_of v)
    → MeetsOrWants (manager_of v) (receive channel unit last batch v.plain) (by_place (Err fault)) (manager_of new)
plan_fails v new channel unit last batch (place_faults.Refused reason) e same = refuses v new (receive channel unit last batch v.plain) reason (plan_ends channel unit last batch v.plain reason e) same
plan_fails v new channel unit last batch (place_faults.Stop stop) e same =
    subst (λ (s : AgentStop). MeetsOrWants (manager_of v) (receive channel unit last batch v.plain) (by_place (Err (place_faults.Stop s))) (manager_of new)) (sym e) (wants v new (receive channel unit last batch v.plain) same)

pub plan_fails_told : (v new : CoreValue) (channel : List ℕ) (unit : Luw) (last : ℕ) (batch : List Message) (fault : PlaceFault) → Plans channel batch v.plain (Err fault) → new.log ≡ v.log
    → WritesLog v (receive channel unit last batch v.plain) (by_place (Err fault)) new
plan_fails_told v new channel unit last batch (place_faults.Refused reason) e same = refuses_told v new (receive channel unit last batch v.plain) reason (plan_ends channel unit last batch v.plain reason e) same
plan_fails_told v new channel unit last batch (place_faults.Stop stop) e same =
    subst (λ (s : AgentStop). WritesLog v (receive channel unit last batch v.plain) (by_place (Err (place_faults.Stop s))) new) (sym e) (wants_told v new (receive channel unit last batch v.plain) same)
