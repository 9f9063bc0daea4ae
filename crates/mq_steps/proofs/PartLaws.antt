-- Answers that say something else of the same part.
use Rattle.std.specs.Prelude.{◌≡◌, ℕ, List, [], Option, Some, None, Result, Ok, Err, IsErrAnd, All, slice_get, Bool}
use Rattle.std.proofs.Common.{ap, subst, sym}
use Rattle.std.proofs.lemmas.List.Elements.{All-get_or}
use Rattle.std.proofs.lemmas.Option.{get_or_from_slice_get, slice_get_within}
use Rattle.mq_base.specs.declared.want.NoMemory.{NoMemory}
use Rattle.mq_history.specs.declared.scenario.ScriptPart.{ScriptPart}
use Rattle.mq_spec_network.specs.Tasks.{Task}
use Rattle.mq_nodes.specs.declared.nodes.Stop.{Stop}
use Rattle.mq_nodes.specs.declared.nodes.Stop.TheVariants as stops
use Rattle.mq_nodes.specs.Course.{Course, Ready}
use Rattle.mq_nodes.specs.Told.{LineRan, Part, Onward}
use Rattle.mq_nodes.proofs.Onward.{begin, same_scenario, whole}
use Rattle.mq_steps.specs.declared.pumping.Pumped.{Pumped}
use Rattle.mq_steps.specs.Counts.{idle_or_spent, idle_unless, pumped_then, spent_or}

-- an end for the same cause
pub stops_too : {T U : Type 0} (ts : List Task) (stop : Stop) (c d : Course) → Part {T = T} ts (Err stop) c d → Part {T = U} ts (Err stop) c d
stops_too ts stops.NoMemory c d p = record { left = p.left; goes = p.goes; marks = p.marks; ends = p.ends }
stops_too ts (stops.Spent m) c d p = record { left = p.left; goes = p.goes; marks = p.marks; ends = p.ends }

pub pumped_part : (ts : List Task) (r : Result Pumped NoMemory) (c d : Course) → Part ts (pumped_then r) c d → Part ts (idle_or_spent r) c d
pumped_part ts (Err x) c d p = record { left = p.left; goes = p.goes; marks = p.marks; ends = p.ends }
pumped_part ts (Ok x) c d p = by_spent x.spent p
  where
    by_spent : (spent : Option ℕ) → Part ts (spent_or spent) c d → Part ts (idle_unless x.idle spent) c d
    by_spent None q = record { left = q.left; goes = q.goes; marks = q.marks; ends = q.ends }
    by_spent (Some m) q = record { left = q.left; goes = q.goes; marks = q.marks; ends = q.ends }

-- what holds of all holds of the one at a place
pub at_it : {A : Type 0} (P : A → Type 0) (xs : List A) (k : ℕ) (x : A) → All P xs → slice_get xs k ≡ Some x → P x
at_it P xs k x all h = subst P (get_or_from_slice_get xs k x x h) (All-get_or P xs k x (slice_get_within xs k x h) all)

-- nothing is asked, and nothing is done
pub nothing_asked : {T : Type 0} (ts : List Task) (c : Course) (value : T) → Ready c.net → ts ≡ [] → Part {T = T} ts (Ok value) c c
nothing_asked ts c value ready is = whole ts c c value (subst (λ (xs : List Task). Onward ts xs c c) is (begin ts c ready))

-- What the exit of a `?` returns.
pub err_is : {T E : Type 0} (r : Result T E) (e : E) → IsErrAnd r (λ (y : E). y ≡ e) → r ≡ Err e
err_is (Ok x) e h = absurd h
err_is (Err y) e h = ap (λ (z : _). Err z) h

pub part_breaks : {T U : Type 0} (ts : List Task) (r : Result T Stop) (stop : Stop) (c d : Course) → IsErrAnd r (λ (y : Stop). y ≡ stop) → Part {T = U} ts (Err stop) c d → Part {T = T} ts r c d
part_breaks {T} {U} ts r stop c d h p = subst (λ (x : Result T Stop). Part {T = T} ts x c d) (sym (err_is r stop h)) (stops_too {T = U} {U = T} ts stop c d p)

pub line_breaks_so : (k : ℕ) (p : ScriptPart) (r : Result Bool Stop) (stop : Stop) (c d : Course) → IsErrAnd r (λ (y : Stop). y ≡ stop) → LineRan k p (Err stop) c d → LineRan k p r c d
line_breaks_so k p r stop c d h x = subst (λ (y : Result Bool Stop). LineRan k p y c d) (sym (err_is r stop h)) x

-- the scenario stays
pub scenario_stays : {T : Type 0} (ts : List Task) (r : Result T Stop) (c d : Course) → Part {T = T} ts r c d → d.net.scenario ≡ c.net.scenario
scenario_stays ts r c d p = same_scenario p.goes
