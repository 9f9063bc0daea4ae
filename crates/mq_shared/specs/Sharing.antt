-- How a phase begins: which scripts are its, whose they are, and what its locks know of it.
use Rattle.std.specs.Prelude.{◌==◌, ◌&&◌, ℕ, zero, suc, Bool, true, false, List, [], ◌∷◌, ◌++◌, Option, Some, None, length, slice_get, slice_set}
use Rattle.atomic_table.specs.Seated.{TableId}
use Rattle.mq_history.specs.declared.scenario.Scenario.{Scenario}
use Rattle.mq_spec_node.specs.Terms.{ScriptLine, ScriptPart}
use Rattle.mq_spec_node.specs.Words.{fresh}
use Rattle.mq_progress.specs.Course.{Course, until_in}
use Rattle.mq_acts.specs.from_events.States.{NodeState}
use Rattle.mq_shared.specs.Held.{Begun, ScriptState}
use Rattle.mq_split.specs.Parting.{ends_named}
use Rattle.mq_shared.specs.Phasing.{among, tries_in}

-- whether a script is one of these, and this manager's
abbrev pub is_here : List ℕ → ℕ → ℕ → ScriptPart → Bool
is_here ks m k p = (p.manager == m) && among ks k

abbrev pub first_if : {A : Type 0} → Bool → A → List A → List A
first_if true x xs = x ∷ xs
first_if false x xs = xs

-- the scripts of a phase at a manager, from a place on
abbrev pub named_from : List ℕ → ℕ → ℕ → List ScriptPart → List ℕ
named_from ks m k [] = []
named_from ks m k (p ∷ ps) = first_if (is_here ks m k p) k (named_from ks m (suc k) ps)

abbrev pub named : Scenario → List ℕ → ℕ → List ℕ
named s ks m = named_from ks m 0 s.scripts

-- one for each of so many managers
abbrev pub by_manager : {A : Type 0} → (ℕ → A) → ℕ → List A
by_manager f zero = []
by_manager f (suc n) = by_manager f n ++ f n ∷ []

-- with what the locks of a phase begin
abbrev pub begun_with : Scenario → List ℕ → List NodeState → List TableId → List TableId → Begun
begun_with s ks ns outs backs = record {
  nodes = ns;
  lines = s.cables;
  outs = outs;
  backs = backs;
  tries = tries_in s ns ks;
  ends = by_manager (ends_named s.cables) (length s.managers);
  scripts = by_manager (named s ks) (length s.managers);
}

-- the course of a script that has done nothing
abbrev pub unbegun : Course
unbegun = record { memory = fresh; room = 0; done = 0; until = None }

-- The course that goes back into its place: the deadline of its next line's get is from the moment with which the phase began, the moment of
-- its first try.
abbrev pub until_of : Course → ℕ → Option ScriptLine → Option ℕ
until_of c moment None = None
until_of c moment (Some l) = until_in c moment l

abbrev pub kept_course : ℕ → ScriptPart → Course → Course
kept_course moment p c = record c { until = until_of c moment (slice_get p.lines c.done) }

-- where a script is one of a phase's
abbrev pub kept_if : Bool → ℕ → Course → List Course → List Course
kept_if true k c cs = slice_set cs k c
kept_if false k c cs = cs

abbrev pub course_then : ScriptState → Course
course_then s = kept_course s.moment s.part s.course

-- a script goes to its manager's, where it is here: it is the last there, and its course is out
abbrev pub last_if : {A : Type 0} → Bool → A → List A → List A
last_if true x xs = xs ++ x ∷ []
last_if false x xs = xs

abbrev pub out_if : Bool → ℕ → List Course → List Course
out_if true k cs = slice_set cs k unbegun
out_if false k cs = cs

-- scripts' courses are back in their places
abbrev pub put_all : List ScriptState → List Course → List Course
put_all [] cs = cs
put_all (s ∷ ss) cs = slice_set (put_all ss cs) s.script (course_then s)
