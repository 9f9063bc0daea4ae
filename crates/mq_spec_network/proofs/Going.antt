-- A step goes on: from what was done, by an entry more with its trigger turns, or past a task; parts after parts.
use Rattle.std.specs.Prelude.{◌≡◌, ℕ, ◌==◌, Bool, true, false, List, [], ◌∷◌, ◌++◌, if◌then◌else◌, refl}
use Rattle.std.proofs.Common.{ap, subst, sym, append_assoc, append-nil}
use Rattle.mq_spec_node.specs.from_history.{Entry}
use Rattle.mq_spec_network.specs.Turns.{Network, does, more_at}
use Rattle.mq_spec_network.specs.Tasks.{Task}
use Rattle.mq_spec_network.specs.Steps.{Goes, Moves, AreTriggers, left_by}
use Rattle.mq_spec_network.specs.Steps.Goes.{stays, moves, serves, passes}

pub bool_case : (P : Bool → Type 0) → P true → P false → (b : Bool) → P b
bool_case P if_so if_not b = elim b as P [ true ↦ if_so | false ↦ if_not ]

-- two networks that did the same
pub same_network : (w v : Network) → w.scenario ≡ v.scenario → ((m : ℕ) → w.first m ≡ v.first m) → ((m : ℕ) → w.done m ≡ v.done m) → w ≡ v
same_network w v s f d = λ i. record { scenario = s i; first = λ m. f m i; done = λ m. d m i }

more_twice : (m : ℕ) (ds es : List Entry) (done : ℕ → List Entry) (n : ℕ) → more_at m es (more_at m ds done) n ≡ more_at m (ds ++ es) done n
more_twice m ds es done n = bool_case
    (λ b. (if b then (if b then done n ++ ds else done n) ++ es else (if b then done n ++ ds else done n)) ≡ (if b then done n ++ (ds ++ es) else done n))
    (append_assoc (done n) ds es)
    refl
    (n == m)

more_none : (m : ℕ) (done : ℕ → List Entry) (n : ℕ) → more_at m [] done n ≡ done n
more_none m done n = bool_case (λ b. (if b then done n ++ [] else done n) ≡ done n) (append-nil (done n)) refl (n == m)

-- what one manager does is nothing to the others
pub elsewhere : (m n : ℕ) (es : List Entry) (done : ℕ → List Entry) → (n == m) ≡ false → more_at m es done n ≡ done n
elsewhere m n es done other = ap (λ (b : Bool). if b then done n ++ es else done n) other

pub here : (m : ℕ) (es : List Entry) (done : ℕ → List Entry) → (m == m) ≡ true → more_at m es done m ≡ done m ++ es
here m es done same = ap (λ (b : Bool). if b then done m ++ es else done m) same

pub does_twice : (m : ℕ) (ds es : List Entry) (w : Network) → does m es (does m ds w) ≡ does m (ds ++ es) w
does_twice m ds es w = λ i. record w { done = λ n. more_twice m ds es w.done n i }

pub does_none : (m : ℕ) (w : Network) → does m [] w ≡ w
does_none m w = λ i. record w { done = λ n. more_none m w.done n i }

-- Trigger turns more; and one entry with those that follow it.
pub served : (w0 w : Network) (all ts : List Task) (m : ℕ) (es : List Entry) → Goes w0 all w ts → AreTriggers es → Goes w0 all (does m es w) ts
served w0 w all ts m [] g h = subst (λ v. Goes w0 all v ts) (sym (does_none m w)) g
served w0 w all ts m (e ∷ es) g h =
    subst (λ v. Goes w0 all v ts) (does_twice m (e ∷ []) es w) (served w0 (does m (e ∷ []) w) all ts m es (serves w ts m e g h.0) h.1)

pub one_more : (w0 w : Network) (all : List Task) (t : Task) (ts : List Task) (m : ℕ) (e : Entry) (es : List Entry)
    → Goes w0 all w (t ∷ ts) → Moves w t m e → AreTriggers es → Goes w0 all (does m (e ∷ es) w) (left_by w t e ++ ts)
one_more w0 w all t ts m e es g mv h =
    subst (λ v. Goes w0 all v (left_by w t e ++ ts)) (does_twice m (e ∷ []) es w) (served w0 (does m (e ∷ []) w) all (left_by w t e ++ ts) m es (moves w t ts m e g mv) h)

-- One part after another.
pub on : {w0 w : Network} {all ts : List Task} {v : Network} {us : List Task} → Goes w0 all w ts → Goes w ts v us → Goes w0 all v us
on g stays = g
on g (moves v t us m e h mv) = moves v t us m e (on g h) mv
on g (serves v us m e h due) = serves v us m e (on g h) due
on g (passes v t next us h sv p) = passes v t next us (on g h) sv p

-- Tasks that wait behind change nothing.
pub before_others : {w0 : Network} {all : List Task} {w : Network} {ts : List Task} (more : List Task) → Goes w0 all w ts → Goes w0 (all ++ more) w (ts ++ more)
before_others more stays = stays
before_others {w0} {all = all} more (moves v t us m e h mv) =
    subst (λ x. Goes w0 (all ++ more) (does m (e ∷ []) v) x) (sym (append_assoc (left_by v t e) us more)) (moves v t (us ++ more) m e (before_others more h) mv)
before_others more (serves v us m e h due) = serves v (us ++ more) m e (before_others more h) due
before_others {w0} {all = all} more (passes v t next us h sv p) =
    subst (λ x. Goes w0 (all ++ more) v x) (sym (append_assoc next us more)) (passes v t next (us ++ more) (before_others more h) sv p)
