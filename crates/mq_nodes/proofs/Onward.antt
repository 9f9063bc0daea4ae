-- What each loop keeps: from a beginning so much was done, and these tasks are left; and how each answer of a call goes on.
use Rattle.std.specs.Prelude.{◌≡◌, List, [], ◌∷◌, ◌++◌, Ok, Err, refl}
use Rattle.std.proofs.Common.{ap, subst, sym, append-nil, inl, inr, ◌∙◌}
use Rattle.mq_spec_network.specs.Turns.{Network}
use Rattle.mq_spec_network.specs.Tasks.{Task}
use Rattle.mq_spec_network.specs.Steps.{Goes, Moves, Passes, left_by}
use Rattle.mq_spec_network.specs.Steps.Goes.{stays, moves, serves, passes}
use Rattle.mq_spec_network.proofs.Going.{on, one_more, before_others}
use Rattle.mq_nodes.specs.declared.nodes.Stop.{Stop}
use Rattle.mq_nodes.specs.declared.nodes.Stop.TheVariants as stops
use Rattle.mq_nodes.specs.Course.{Course, Did, Ready}
use Rattle.mq_nodes.specs.Told.{Broke, Part, Ended, Onward}

-- The network's scenario stays.
pub same_scenario : {w0 : Network} {all : List Task} {w : Network} {ts : List Task} → Goes w0 all w ts → w.scenario ≡ w0.scenario
same_scenario stays = refl
same_scenario (moves w t ts m e g mv) = same_scenario g
same_scenario (serves w ts m e g due) = same_scenario g
same_scenario (passes w t next ts g s p) = same_scenario g

pub begin : (all : List Task) (c : Course) → Ready c.net → Onward all all c c
begin all c r = record { goes = stays; ready = r; marks = refl; rests = λ h. h }

pub same : (all left : List Task) (c d : Course) → Onward all left c d → d.net.scenario ≡ c.net.scenario
same all left c d h = same_scenario h.goes

-- an event of the first task
pub moved : (all : List Task) (t : Task) (ts : List Task) (c d e : Course) → Onward all (t ∷ ts) c d → (x : Did (Moves d.net t) d e) → Ready e.net → Onward all (left_by d.net t x.entry ++ ts) c e
moved all t ts c d e h x r = record {
  goes = subst (λ (n : Network). Goes c.net all n (left_by d.net t x.entry ++ ts)) (sym (ap (λ (y : Course). y.net) x.is)) (one_more c.net d.net all t ts x.at x.entry x.behind h.goes x.fits x.triggers);
  ready = r;
  marks = ap (λ (y : Course). y.marks) x.is ∙ h.marks;
  rests = λ q k. ap (λ (y : Course). y.waits k) x.is ∙ h.rests q k;
}

-- the first task gives way to others
pub passed : (all : List Task) (t : Task) (next ts : List Task) (c d : Course) → Onward all (t ∷ ts) c d → Passes d.net t next → Onward all (next ++ ts) c d
passed all t next ts c d h p = record { goes = passes d.net t next ts h.goes h.ready.served p; ready = h.ready; marks = h.marks; rests = h.rests }

-- One part after another, with tasks that wait behind.
pub behind : (all ts us more : List Task) (c d e : Course) → Onward all (ts ++ more) c d → Onward ts us d e → Onward all (us ++ more) c e
behind all ts us more c d e h x = record { goes = on h.goes (before_others more x.goes); ready = x.ready; marks = x.marks ∙ h.marks; rests = λ q. x.rests (h.rests q) }

pub after : (all ts us : List Task) (c d e : Course) → Onward all ts c d → Onward ts us d e → Onward all us c e
after all ts us c d e h x = record { goes = on h.goes x.goes; ready = x.ready; marks = x.marks ∙ h.marks; rests = λ q. x.rests (h.rests q) }

-- all is done
pub whole : {T : Type 0} (all : List Task) (c d : Course) (value : T) → Onward all [] c d → Part all (Ok value) c d
whole all c d value h = record { left = []; goes = h.goes; marks = h.marks; ends = (refl, h.ready, h.rests) }

pub of_part : {T : Type 0} (all : List Task) (c d : Course) (value : T) → Part all (Ok value) c d → Onward all [] c d
of_part all c d value p = record { goes = subst (λ (ts : List Task). Goes c.net all d.net ts) p.ends.0 p.goes; ready = p.ends.1; marks = p.marks; rests = p.ends.2 }

-- the same with an answer that says something else
pub answered : {T U : Type 0} (all : List Task) (c d : Course) (value : T) (other : U) → Part all (Ok value) c d → Part all (Ok other) c d
answered all c d value other p = record { left = p.left; goes = p.goes; marks = p.marks; ends = p.ends }

-- A call that ends the run.
pub stopped : {T U : Type 0} (all ts more : List Task) (c d e : Course) (stop : Stop) → Onward all (ts ++ more) c d → Part {T = T} ts (Err stop) d e → Part {T = U} all (Err stop) c e
stopped {T} {U} all ts more c d e stop h p = record {
  left = p.left ++ more;
  goes = on h.goes (before_others more p.goes);
  marks = p.marks ∙ h.marks;
  ends = ends_so stop p.ends;
} where
  ends_so : (s : Stop) → Ended {T = T} (Err s) p.left d e → Ended {T = U} (Err s) (p.left ++ more) c e
  ends_so stops.NoMemory x = tt
  ends_so (stops.Spent m) x = x

-- one that would have done an event of the first task
pub broke : {U : Type 0} (all : List Task) (t : Task) (ts : List Task) (c d e : Course) (stop : Stop) → Onward all (t ∷ ts) c d → Broke (Moves d.net t) stop d e → Part {T = U} all (Err stop) c e
broke all t ts c d e stops.NoMemory h (inl none) = record {
  left = t ∷ ts;
  goes = subst (λ (y : Course). Goes c.net all y.net (t ∷ ts)) (sym none) h.goes;
  marks = ap (λ (y : Course). y.marks) none ∙ h.marks;
  ends = tt;
}
broke all t ts c d e stops.NoMemory h (inr x) = record {
  left = left_by d.net t x.entry ++ ts;
  goes = subst (λ (n : Network). Goes c.net all n (left_by d.net t x.entry ++ ts)) (sym (ap (λ (y : Course). y.net) x.is)) (one_more c.net d.net all t ts x.at x.entry x.behind h.goes x.fits x.triggers);
  marks = ap (λ (y : Course). y.marks) x.is ∙ h.marks;
  ends = tt;
}
broke all t ts c d e (stops.Spent m) h (x, spent) = record {
  left = left_by d.net t x.entry ++ ts;
  goes = subst (λ (n : Network). Goes c.net all n (left_by d.net t x.entry ++ ts)) (sym (ap (λ (y : Course). y.net) x.is)) (one_more c.net d.net all t ts x.at x.entry x.behind h.goes x.fits x.triggers);
  marks = ap (λ (y : Course). y.marks) x.is ∙ h.marks;
  ends = spent;
}

-- no tasks behind
pub alone : (all ts : List Task) (c d : Course) → Onward all ts c d → Onward all (ts ++ []) c d
alone all ts c d h = subst (λ (x : List Task). Onward all x c d) (sym (append-nil ts)) h

pub unframed : (all ts : List Task) (c d : Course) → Onward all (ts ++ []) c d → Onward all ts c d
unframed all ts c d h = subst (λ (x : List Task). Onward all x c d) (append-nil ts) h
