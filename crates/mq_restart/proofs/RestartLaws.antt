-- A restart that comes up is what the manager's history says.
use Rattle.std.proofs.Common.{◌≡◌, ℕ, ◌+◌, ◌-◌, ◌*◌, ◌<◌, ◌≤◌, ◌^◌, Bool, true, false, List, [], ◌∷◌, refl, ap, arith, sym, ◌∙◌}
use Rattle.std.specs.Prelude.{Option, Some, None}
use Rattle.mq_log.specs.State.{LogState, log_length}
use Rattle.mq_calls.specs.State.{Plain, Noted, Given, Change, LogState as PlainLog}
use Rattle.mq_calls.specs.State.Change.{Try, SetBound}
use Rattle.mq_calls.specs.Changes.{apply, apply_all, try_if}
use Rattle.mq_calls.specs.Condition.{condition}
use Rattle.mq_calls.specs.Steps.{stands_in}
use Rattle.mq_calls.specs.Images.{begun, raised}
use Rattle.mq_objects.specs.Names.{local_of}
use Rattle.mq_spec_manager.specs.Stops.{redone_if, restarted, grown, started_need}
use Rattle.mq_spec_manager.specs.Words.{last_moment}
use Rattle.mq_law_image.proofs.from_law_manager.Untouched.{changes_untouched}
use Rattle.mq_spec_log.specs.Applies.Start.{Later}
use Rattle.mq_law_image.proofs.Telling.{redone_given, begun_restarted}
use Rattle.mq_rebuild.specs.declared.building.Built.{Built}
use Rattle.mq_redo.specs.from_core.Ties.{Tied}
use Rattle.mq_redo.specs.from_core.Views.{plain_of}
use Rattle.mq_restart.specs.Begun.{given_by, begun_parts, IsReadFrom}
use Rattle.mq_restart.specs.Tells.{Stood, HasRestarted}
use Rattle.mq_restart.proofs.SeenLaws.{begun_seen}
use Rattle.mq_restart.proofs.TieLaws.{begun_tied}

-- no change touches the log
pub logs_kept : (cs : List Change) (p : Plain) → (apply_all cs p).log ≡ p.log
logs_kept cs p = (changes_untouched cs p).log

redone_armed : (kept : Bool) (noted : Option Noted) (p : Plain) → (redone_if kept noted p).log.armed ≡ p.log.armed
redone_armed true (Some n) p = ap (λ (l : PlainLog). l.armed) (logs_kept n.changes (record p { log = stands_in n.written p.log }))
redone_armed true None p = refl
redone_armed false noted p = refl

-- nor the incarnation
tried_number : (b : Bool) (name : List ℕ) (p : Plain) → (try_if b name p).numbers.incarnation ≡ p.numbers.incarnation
tried_number true name p = refl
tried_number false name p = refl

number_kept : (c : Change) (p : Plain) → (apply c p).numbers.incarnation ≡ p.numbers.incarnation
number_kept (Try name priority) p = tried_number (condition (local_of name p.definitions) priority p) name p
number_kept (SetBound channel true) p = refl
number_kept (SetBound channel false) p = refl
number_kept c p = refl

numbers_kept : (cs : List Change) (p : Plain) → (apply_all cs p).numbers.incarnation ≡ p.numbers.incarnation
numbers_kept [] p = refl
numbers_kept (c ∷ cs) p = numbers_kept cs (apply c p) ∙ number_kept c p

pub redone_incarnation : (kept : Bool) (noted : Option Noted) (p : Plain) → (redone_if kept noted p).numbers.incarnation ≡ p.numbers.incarnation
redone_incarnation true (Some n) p = numbers_kept n.changes (record p { log = stands_in n.written p.log })
redone_incarnation true None p = refl
redone_incarnation false noted p = refl

-- ---- how it is seen, and what ties it

given_same : (g : Given) (max : ℕ) → max ≡ g.log_max → given_by g.number g.name max ≡ g
given_same g max e = ap (given_by g.number g.name) e

abbrev plain_log : ℕ → ℕ → PlainLog
plain_log long armed = record { length = long; armed = armed }

log_is : (long armed l a : ℕ) → long ≡ l → armed ≡ a → plain_log long armed ≡ plain_log l a
log_is long armed l a e f = ap (λ (n : ℕ). plain_log n armed) e ∙ ap (plain_log l) f

pub restarted_seen : (kept : Bool) (started : ℕ) (noted : Option Noted) (starts : ℕ) (found : List (List ℕ)) (p : Plain) (b : Built) (log : LogState) → Stood kept started noted starts found p → IsReadFrom p.given Later found b → HasRestarted p found b log
    → plain_of (begun_parts p.given.number p.given.name p.moment b log) ≡ restarted kept started noted p
restarted_seen kept started noted starts found p b log stood r s =
    begun_seen p.given.number p.given.name p.moment r.told b log r.built
    ∙ ap (λ (g : Given). begun g (raised 0 r.told) (record { length = log_length log.bodies; armed = log.armed }) p.moment) (given_same p.given log.max s.fresh.most)
    ∙ ap (λ (l : PlainLog). begun p.given (raised 0 r.told) l p.moment) grew
    ∙ (begun_restarted Later found kept started noted p r.told stood.tells r.read).0
  where
    long : log_length log.bodies ≡ (redone_if kept noted p).log.length + (started + 1) * started_need (redone_if kept noted p).given
    long =
        let a = s.long in let b = stood.long in
        let more : (started + 1) * started_need p.given ≡ started * started_need p.given + started_need p.given = grind arith in
        let one : log_length log.bodies ≡ (redone_if kept noted p).log.length + (started + 1) * started_need p.given = omega (arith, a, b, more) in
        one ∙ ap (λ (g : Given). (redone_if kept noted p).log.length + (started + 1) * started_need g) (sym (redone_given kept noted p))

    grew : plain_log (log_length log.bodies) log.armed ≡ grown started (redone_if kept noted p)
    grew = log_is (log_length log.bodies) log.armed (grown started (redone_if kept noted p)).length (grown started (redone_if kept noted p)).armed long (s.armed ∙ ap (λ (n : ℕ). n - 5) (sym (redone_armed kept noted p)))

pub restarted_tied : (found : List (List ℕ)) (p : Plain) (b : Built) (log : LogState) → IsReadFrom p.given Later found b → HasRestarted p found b log → p.given.log_max < 2 ^ 32 → p.moment ≤ last_moment
    → Tied (begun_parts p.given.number p.given.name p.moment b log)
restarted_tied found p b log r s small late = begun_tied p.given.number p.given.name p.moment p.given.log_max r.told b log r.built r.well r.known s.fresh s.aside small late
