-- A PUMP goes from lanes to lanes, and its rounds know which lanes are quiet.
use Rattle.std.proofs.Common.{ℕ, zero, suc, ◌≡◌, ◌<◌, ◌≤◌, ◌+◌, ◌⊎◌, Bool, true, false, List, [], ◌∷◌, ◌++◌, refl, ap, sym, subst, arith, inl, inr, ◌∙◌}
use Rattle.std.specs.Prelude.{Option, Some, None, slice_get}
use Rattle.mq_history.specs.declared.calls.Call.TheVariants as calls
use Rattle.mq_history.specs.declared.calls.Entry.{Entry}
use Rattle.mq_history.specs.declared.scenario.CableLine.{CableLine}
use Rattle.mq_history.specs.declared.scenario.Scenario.{Scenario}
use Rattle.mq_spec_network.specs.Turns.{Network, does, is_idle, idle_from, node_at}
use Rattle.mq_spec_network.specs.Tasks.{Slot, Task}
use Rattle.mq_spec_network.specs.Tasks.Slot.{Sends, Receives, TimesOut}
use Rattle.mq_spec_network.specs.Tasks.Task.{Pump}
use Rattle.mq_spec_network.specs.Steps.{Goes, Moves as TaskMoves, Passes, PumpSkips, PumpTakes, Served, TakesTurn, left_by, none_due, pump_on, turn_in}
use Rattle.mq_spec_network.specs.Steps.Goes.{stays, moves, serves, passes}
use Rattle.mq_law_idle.specs.Roads.{Quiet}
use Rattle.mq_law_idle.specs.Lanes.{Aside, AllAside, Begins, Lane, OneMoves, Pumps, bound}
use Rattle.mq_law_idle.proofs.Pumping.{pumps_below}
use Rattle.mq_law_pump.specs.Steady.{ArePumps, IsOf, IsSteady, IsStill, Moved, SeesAll, IsPumped, TimeoutFits}

-- LISTS OF LANES
abbrev pub AllQuiet : List Lane → Type 0
AllQuiet [] = Unit {0}
AllQuiet (l ∷ ls) = Quiet l.road × AllQuiet ls

-- the first so many are quiet; all but the first so many are
abbrev pub QuietUpto : ℕ → List Lane → Type 0
QuietUpto zero ls = Unit {0}
QuietUpto (suc n) [] = Unit {0}
QuietUpto (suc n) (l ∷ ls) = Quiet l.road × QuietUpto n ls

abbrev pub QuietFrom : ℕ → List Lane → Type 0
QuietFrom zero ls = AllQuiet ls
QuietFrom (suc n) [] = Unit {0}
QuietFrom (suc n) (l ∷ ls) = QuietFrom n ls

pub from_on : (n : ℕ) (ls : List Lane) → QuietFrom n ls → QuietFrom (suc n) ls
from_on zero [] q = tt
from_on zero (l ∷ ls) q = q.1
from_on (suc n) [] q = tt
from_on (suc n) (l ∷ ls) q = from_on n ls q

-- a lane that is left alone
pub aside_self : (l : Lane) → Aside l l
aside_self l = record { fresh = refl; sender = refl; receiver = refl; out = refl; back = refl; free = omega arith; held = omega arith }

pub asides_self : (ls : List Lane) → AllAside ls ls
asides_self [] = tt
asides_self (l ∷ ls) = (aside_self l, asides_self ls)

-- one more turn
pub one_more : (k : ℕ) (ls ms xs : List Lane) → Pumps k ls ms → OneMoves ms xs → Pumps (suc k) ls xs
one_more zero ls ms xs e one = (xs, subst (λ (ys : List Lane). OneMoves ys xs) (sym e) one, refl)
one_more (suc k) ls ms xs (via, first, rest) one = (via, first, one_more k via ms xs rest one)

-- which lanes a slot needs quiet
abbrev pub FitsFrom : Slot → ℕ → List Lane → Type 0
FitsFrom Sends n ls = Unit {0}
FitsFrom Receives n ls = Unit {0}
FitsFrom TimesOut n ls = QuietFrom n ls

fits_head : (slot : Slot) (l : Lane) (ls : List Lane) → FitsFrom slot 0 (l ∷ ls) → TimeoutFits slot l
fits_head Sends l ls f = tt
fits_head Receives l ls f = tt
fits_head TimesOut l ls f = f.0

fits_tail : (slot : Slot) (n : ℕ) (l : Lane) (ls : List Lane) → FitsFrom slot (suc n) (l ∷ ls) → FitsFrom slot n ls
fits_tail Sends n l ls f = tt
fits_tail Receives n l ls f = tt
fits_tail TimesOut n l ls f = f

-- ONE EVENT
-- What a turn of one cable makes of all lanes.
pub record After (Sees : Network → ℕ → CableLine → Lane → Type 0) (w : Network) (k n : ℕ) (cs : List CableLine) (ls : List Lane) : Type 0 where
  pub lanes : List Lane
  pub one : OneMoves ls lanes
  pub sees : SeesAll Sees w k cs lanes
  pub tail : QuietFrom (suc n) ls → QuietFrom (suc n) lanes

nothing_more : (n : ℕ) → 0 + n ≡ n
nothing_more n = omega arith

-- the cables from a number on are those of the scenario
abbrev pub AreFrom : List CableLine → ℕ → List CableLine → Type 0
AreFrom all k cs = (i : ℕ) → slice_get all (k + i) ≡ slice_get cs i

from_tail : (all : List CableLine) (k : ℕ) (c : CableLine) (cs : List CableLine) → AreFrom all k (c ∷ cs) → AreFrom all (suc k) cs
from_tail all k c cs a i = subst (λ (j : ℕ). slice_get all j ≡ slice_get cs i) (omega arith) (a (suc i))

from_head : (all : List CableLine) (k : ℕ) (c : CableLine) (cs : List CableLine) → AreFrom all k (c ∷ cs) → slice_get all k ≡ Some c
from_head all k c cs a = subst (λ (j : ℕ). slice_get all j ≡ Some c) (omega arith) (a 0)

from_start : (all : List CableLine) → AreFrom all 0 all
from_start all i = ap (slice_get all) (nothing_more i)

-- the other lanes
others : (Good : Network → Type 0) (Sees : Network → ℕ → CableLine → Lane → Type 0) → IsSteady Good Sees → (w : Network) (t : ℕ) (c : CableLine) (m : ℕ) (e : Entry) → Good (does m (e ∷ []) w)
    → slice_get w.scenario.cables t ≡ Some c → (moving : Lane) → Sees w t c moving → IsOf w t c m e → (k : ℕ) (cs : List CableLine) (ls : List Lane) → AreFrom w.scenario.cables k cs → t < k → SeesAll Sees w k cs ls → SeesAll Sees (does m (e ∷ []) w) k cs ls
others Good Sees st w t c m e g there moving seen of k [] [] a less s = tt
others Good Sees st w t c m e g there moving seen of k (d ∷ ds) (l ∷ ls) a less s = (
  st.other w t c m e k d l moving g there (from_head w.scenario.cables k d ds a) s.0 seen of (λ same. omega (arith, same, less)),
  others Good Sees st w t c m e g there moving seen of (suc k) ds ls (from_tail w.scenario.cables k d ds a) (omega (arith, less)) s.1,
)
others Good Sees st w t c m e g there moving seen of k [] (l ∷ ls) a less s = absurd s
others Good Sees st w t c m e g there moving seen of k (d ∷ ds) [] a less s = absurd s

-- the lane of one of the cables
lane_at : (Sees : Network → ℕ → CableLine → Lane → Type 0) (w : Network) (k n : ℕ) (cs : List CableLine) (ls : List Lane) (t : ℕ) (c : CableLine) → t ≡ k + n → slice_get cs n ≡ Some c → SeesAll Sees w k cs ls → (l : Lane) × Sees w t c l
lane_at Sees w k zero (d ∷ ds) (l ∷ ls) t c is here s = (l, subst (λ (z : CableLine). Sees w t z l) (some_same d c here) (subst (λ (j : ℕ). Sees w j d l) (omega (arith, is)) s.0))
  where
    some_same : (x y : CableLine) → Some x ≡ Some y → x ≡ y
    some_same x y eq = cc
lane_at Sees w k (suc n) (d ∷ ds) (l ∷ ls) t c is here s = lane_at Sees w (suc k) n ds ls t c (omega (arith, is)) here s.1
lane_at Sees w k n [] ls t c is here s = absurd cc
lane_at Sees w k n (d ∷ ds) [] t c is here s = absurd s

turns_one : (Good : Network → Type 0) (Sees : Network → ℕ → CableLine → Lane → Type 0) → IsSteady Good Sees → (w : Network) (slot : Slot) (t : ℕ) (c : CableLine) (m : ℕ) (e : Entry) → Good (does m (e ∷ []) w)
    → slice_get w.scenario.cables t ≡ Some c → TakesTurn (turn_in w slot t c) m e → (k n : ℕ) (cs : List CableLine) (ls : List Lane) → AreFrom w.scenario.cables k cs → t ≡ k + n → slice_get cs n ≡ Some c → FitsFrom slot n ls
    → SeesAll Sees w k cs ls → After Sees (does m (e ∷ []) w) k n cs ls
turns_one Good Sees st w slot t c m e g there turn k zero (d ∷ ds) (l ∷ ls) a is here fits s =
    let same : t ≡ k = omega (arith, is) in
    let line : d ≡ c = some_same d c here in
    let seen : Sees w t c l = subst (λ (x : CableLine). Sees w t x l) line (subst (λ (j : ℕ). Sees w j d l) (sym same) s.0) in
    let moved : Moved Sees (does m (e ∷ []) w) t c l = st.own w slot t c m e l g there seen (fits_head slot l ls fits) turn in
    record {
      lanes = moved.lane ∷ ls;
      one = inl (moved.moves, asides_self ls);
      sees = (
        subst (λ (j : ℕ). Sees (does m (e ∷ []) w) j d moved.lane) same (subst (λ (x : CableLine). Sees (does m (e ∷ []) w) t x moved.lane) (sym line) moved.sees),
        others Good Sees st w t c m e g there l seen (slot, turn) (suc k) ds ls (from_tail w.scenario.cables k d ds a) (omega (arith, same)) s.1,
      );
      tail = λ q. q;
    }
  where
    some_same : (x y : CableLine) → Some x ≡ Some y → x ≡ y
    some_same x y eq = cc
turns_one Good Sees st w slot t c m e g there turn k (suc n) (d ∷ ds) (l ∷ ls) a is here fits s =
    let mine : (x : Lane) × Sees w t c x = lane_at Sees w (suc k) n ds ls t c (omega (arith, is)) here s.1 in
    let rest : After Sees (does m (e ∷ []) w) (suc k) n ds ls = turns_one Good Sees st w slot t c m e g there turn (suc k) n ds ls (from_tail w.scenario.cables k d ds a) (omega (arith, is)) here (fits_tail slot n l ls fits) s.1 in
    record {
      lanes = l ∷ rest.lanes;
      one = inr (aside_self l, rest.one);
      sees = (st.other w t c m e k d l mine.0 g there (from_head w.scenario.cables k d ds a) s.0 mine.1 (slot, turn) (λ same. omega (arith, same, is)), rest.sees);
      tail = rest.tail;
    }
turns_one Good Sees st w slot t c m e g there turn k n [] ls a is here fits s = absurd cc
turns_one Good Sees st w slot t c m e g there turn k n (d ∷ ds) [] a is here fits s = absurd s

-- a trigger turn
serves_all : (Good : Network → Type 0) (Sees : Network → ℕ → CableLine → Lane → Type 0) → IsSteady Good Sees → (w : Network) (m : ℕ) (e : Entry) → Good (does m (e ∷ []) w) → e.call ≡ calls.Trigger
    → (k : ℕ) (cs : List CableLine) (ls : List Lane) → AreFrom w.scenario.cables k cs → SeesAll Sees w k cs ls → SeesAll Sees (does m (e ∷ []) w) k cs ls
serves_all Good Sees st w m e g call k [] [] a s = tt
serves_all Good Sees st w m e g call k (d ∷ ds) (l ∷ ls) a s =
    (st.aside w m e k d l g (from_head w.scenario.cables k d ds a) s.0 call, serves_all Good Sees st w m e g call (suc k) ds ls (from_tail w.scenario.cables k d ds a) s.1)
serves_all Good Sees st w m e g call k [] (l ∷ ls) a s = absurd s
serves_all Good Sees st w m e g call k (d ∷ ds) [] a s = absurd s

-- QUIET LANES
-- both ends of one cable more have nothing to do
quiet_more : (Good : Network → Type 0) (Sees : Network → ℕ → CableLine → Lane → Type 0) → IsSteady Good Sees → (w : Network) (t : ℕ) (c : CableLine) → Good w → slice_get w.scenario.cables t ≡ Some c
    → IsStill w Sends t c → IsStill w Receives t c → (k n : ℕ) (cs : List CableLine) (ls : List Lane) → t ≡ k + n → slice_get cs n ≡ Some c → SeesAll Sees w k cs ls → QuietUpto n ls → QuietUpto (suc n) ls
quiet_more Good Sees st w t c g there x y k zero (d ∷ ds) (l ∷ ls) is here s q =
    (st.quiet w t c l g there (subst (λ (z : CableLine). Sees w t z l) (some_same d c here) (subst (λ (j : ℕ). Sees w j d l) (omega (arith, is)) s.0)) x y, tt)
  where
    some_same : (a b : CableLine) → Some a ≡ Some b → a ≡ b
    some_same a b eq = cc
quiet_more Good Sees st w t c g there x y k (suc n) (d ∷ ds) (l ∷ ls) is here s q =
    (q.0, quiet_more Good Sees st w t c g there x y (suc k) n ds ls (omega (arith, is)) here s.1 q.1)
quiet_more Good Sees st w t c g there x y k n [] ls is here s q = absurd cc
quiet_more Good Sees st w t c g there x y k n (d ∷ ds) [] is here s q = absurd s

-- behind the last cable all are
quiet_all : (Sees : Network → ℕ → CableLine → Lane → Type 0) (w : Network) (k n : ℕ) (cs : List CableLine) (ls : List Lane) → SeesAll Sees w k cs ls → slice_get cs n ≡ None → QuietUpto n ls → AllQuiet ls
quiet_all Sees w k n [] [] s none q = tt
quiet_all Sees w k zero (d ∷ ds) (l ∷ ls) s none q = absurd cc
quiet_all Sees w k (suc n) (d ∷ ds) (l ∷ ls) s none q = (q.0, quiet_all Sees w (suc k) n ds ls s.1 none q.1)
quiet_all Sees w k n [] (l ∷ ls) s none q = absurd s
quiet_all Sees w k n (d ∷ ds) [] s none q = absurd s

-- WHERE A PUMP STANDS
-- what a round so far says of the lanes
abbrev pub SoFar : Network → Slot → ℕ → Bool → List Lane → Type 0
SoFar w Sends zero any ls = Unit {0}
SoFar w Sends (suc n) true ls = Unit {0}
SoFar w Sends (suc n) false ls = Served w × QuietUpto (suc n) ls
SoFar w Receives n true ls = Unit {0}
SoFar w Receives n false ls = Served w × QuietUpto n ls × ((c : CableLine) → slice_get w.scenario.cables n ≡ Some c → IsStill w Sends n c)
SoFar w TimesOut n any ls = QuietFrom n ls

-- so many turns of n are taken, and these tasks are left
pub data At (n k : ℕ) (w : Network) (ls : List Lane) (ts : List Task) : Type 0 where
  pumps_on : (left : ℕ) (slot : Slot) (cable : ℕ) (any : Bool) → ts ≡ Pump left slot cable any ∷ [] → k + left ≡ n → SoFar w slot cable any ls → At n k w ls ts
  is_over : ts ≡ [] → Served w → (is_idle w ≡ true) ⊎ (k ≡ n) → At n k w ls ts

pub record Standing (Sees : Network → ℕ → CableLine → Lane → Type 0) (w0 : Network) (start : List Lane) (n : ℕ) (w : Network) (ts : List Task) : Type 0 where
  pub lanes : List Lane
  pub taken : ℕ
  pub pumps : Pumps taken start lanes
  pub sees : SeesAll Sees w 0 w.scenario.cables lanes
  pub scenario : w.scenario ≡ w0.scenario
  pub at : At n taken w lanes ts

-- A turn is taken.
behind_turn : (w : Network) (slot : Slot) (cable : ℕ) (any : Bool) (n k left : ℕ) (ls ms : List Lane) (v : Network) → SoFar w slot cable any ls → (QuietFrom (suc cable) ls → QuietFrom (suc cable) ms) → suc k + left ≡ n
    → At n (suc k) v ms (pump_on left slot cable true ++ [])
behind_turn w Sends cable any n k left ls ms v so tail sum = pumps_on left Receives cable true refl sum tt
behind_turn w Receives cable any n k left ls ms v so tail sum = pumps_on left Sends (suc cable) true refl sum tt
behind_turn w TimesOut cable any n k left ls ms v so tail sum = pumps_on left TimesOut (suc cable) true refl sum (tail (from_on cable ls so))

fits_so : (w : Network) (slot : Slot) (cable : ℕ) (any : Bool) (ls : List Lane) → SoFar w slot cable any ls → FitsFrom slot cable ls
fits_so w Sends cable any ls so = tt
fits_so w Receives cable any ls so = tt
fits_so w TimesOut cable any ls so = so

turn_stands : (Good : Network → Type 0) (Sees : Network → ℕ → CableLine → Lane → Type 0) → IsSteady Good Sees → (w0 : Network) (start : List Lane) (n : ℕ) (w : Network) (ts : List Task) (z : Standing Sees w0 start n w ts)
    → (left : ℕ) (slot : Slot) (cable : ℕ) (any : Bool) → z.taken + suc left ≡ n → SoFar w slot cable any z.lanes → (m : ℕ) (e : Entry) → Good (does m (e ∷ []) w) → (o : Option CableLine) → slice_get w.scenario.cables cable ≡ o
    → PumpTakes w slot cable o m e → Standing Sees w0 start n (does m (e ∷ []) w) (pump_on left slot cable true ++ [])
turn_stands Good Sees st w0 start n w ts z left slot cable any sum so m e g None there takes = absurd takes
turn_stands Good Sees st w0 start n w ts z left slot cable any sum so m e g (Some c) there takes =
    let one : After Sees (does m (e ∷ []) w) 0 cable w.scenario.cables z.lanes =
    turns_one Good Sees st w slot cable c m e g there takes 0 cable w.scenario.cables z.lanes (from_start w.scenario.cables) (sym (nothing_more cable)) there (fits_so w slot cable any z.lanes so) z.sees in
    record {
      lanes = one.lanes;
      taken = suc z.taken;
      pumps = one_more z.taken start z.lanes one.lanes z.pumps one.one;
      sees = one.sees;
      scenario = z.scenario;
      at = behind_turn w slot cable any n z.taken left z.lanes one.lanes (does m (e ∷ []) w) so one.tail (omega (arith, sum));
    }

task_stands : (Good : Network → Type 0) (Sees : Network → ℕ → CableLine → Lane → Type 0) → IsSteady Good Sees → (w0 : Network) (start : List Lane) (n : ℕ) (w : Network) (ts : List Task) (z : Standing Sees w0 start n w ts)
    → (left : ℕ) (slot : Slot) (cable : ℕ) (any : Bool) → z.taken + left ≡ n → SoFar w slot cable any z.lanes → (m : ℕ) (e : Entry) → Good (does m (e ∷ []) w) → TaskMoves w (Pump left slot cable any) m e
    → Standing Sees w0 start n (does m (e ∷ []) w) (left_by w (Pump left slot cable any) e ++ [])
task_stands Good Sees st w0 start n w ts z zero slot cable any sum so m e g mv = absurd mv
task_stands Good Sees st w0 start n w ts z (suc left) slot cable any sum so m e g mv = turn_stands Good Sees st w0 start n w ts z left slot cable any sum so m e g (slice_get w.scenario.cables cable) refl mv

abbrev pub first_of : Task → List Task → Task
first_of t [] = t
first_of t (x ∷ xs) = x

abbrev pub rest_of : List Task → List Task
rest_of [] = []
rest_of (x ∷ xs) = xs

moves_stands : (Good : Network → Type 0) (Sees : Network → ℕ → CableLine → Lane → Type 0) → IsSteady Good Sees → (w0 : Network) (start : List Lane) (n : ℕ) (w : Network) (t : Task) (ts : List Task) (z : Standing Sees w0 start n w (t ∷ ts))
    → At n z.taken w z.lanes (t ∷ ts) → (m : ℕ) (e : Entry) → Good (does m (e ∷ []) w) → TaskMoves w t m e → Standing Sees w0 start n (does m (e ∷ []) w) (left_by w t e ++ ts)
moves_stands Good Sees st w0 start n w t ts z (pumps_on left slot cable any is sum so) m e g mv =
    let task : t ≡ Pump left slot cable any = ap (first_of t) is in
    let none : ts ≡ [] = ap rest_of is in
    subst (λ (us : List Task). Standing Sees w0 start n (does m (e ∷ []) w) (left_by w t e ++ us)) (sym none)
    (subst (λ (u : Task). Standing Sees w0 start n (does m (e ∷ []) w) (left_by w u e ++ [])) (sym task)
    (task_stands Good Sees st w0 start n w (t ∷ ts) z left slot cable any sum so m e g (subst (λ (u : Task). TaskMoves w u m e) task mv)))
moves_stands Good Sees st w0 start n w t ts z (is_over is served at) m e g mv = absurd cc

-- A trigger turn comes.
unserved : (Good : Network → Type 0) (Sees : Network → ℕ → CableLine → Lane → Type 0) → IsSteady Good Sees → (w : Network) (m : ℕ) (e : Entry) → Good (does m (e ∷ []) w) → e.call ≡ calls.Trigger → Served w → ⊥
unserved Good Sees st w m e g call served = apart (none_due (node_at w m)) (served m) (st.due w m e g call)
  where
    apart : (b : Bool) → b ≡ true → b ≡ false → ⊥
    apart b x y = absurd cc

so_served : (w v : Network) (slot : Slot) (cable : ℕ) (any : Bool) (ls : List Lane) → (Served w → ⊥) → SoFar w slot cable any ls → SoFar v slot cable any ls
so_served w v Sends zero any ls none so = tt
so_served w v Sends (suc n) true ls none so = tt
so_served w v Sends (suc n) false ls none so = absurd (none so.0)
so_served w v Receives n true ls none so = tt
so_served w v Receives n false ls none so = absurd (none so.0)
so_served w v TimesOut n any ls none so = so

at_served : (n k : ℕ) (w v : Network) (ls : List Lane) (ts : List Task) → (Served w → ⊥) → At n k w ls ts → At n k v ls ts
at_served n k w v ls ts none (pumps_on left slot cable any is sum so) = pumps_on left slot cable any is sum (so_served w v slot cable any ls none so)
at_served n k w v ls ts none (is_over is served at) = absurd (none served)

-- A task gives way.
upto_so : (w : Network) (cable : ℕ) (ls : List Lane) → SoFar w Sends cable false ls → QuietUpto cable ls
upto_so w zero ls so = tt
upto_so w (suc n) ls so = so.1

skips : (Good : Network → Type 0) (Sees : Network → ℕ → CableLine → Lane → Type 0) → IsSteady Good Sees → (w : Network) (ls : List Lane) → Good w → SeesAll Sees w 0 w.scenario.cables ls → Served w
    → (n k left : ℕ) (slot : Slot) (cable : ℕ) (any : Bool) → k + left ≡ n → SoFar w slot cable any ls → (o : Option CableLine) → slice_get w.scenario.cables cable ≡ o → (next : List Task)
    → PumpSkips w left slot cable any o next → At n k w ls next
skips Good Sees st w ls g s served n k left Sends cable true sum so None there next p = pumps_on left Sends 0 false p sum tt
skips Good Sees st w ls g s served n k left Sends cable false sum so None there next p =
    pumps_on left TimesOut 0 false p sum (quiet_all Sees w 0 cable w.scenario.cables ls s there (upto_so w cable ls so))
skips Good Sees st w ls g s served n k left Receives cable any sum so None there next p = pumps_on left Sends 0 false p sum tt
skips Good Sees st w ls g s served n k left TimesOut cable any sum so None there next p = pumps_on left Sends 0 false p sum tt
skips Good Sees st w ls g s served n k left Sends cable true sum so (Some c) there next p = pumps_on left Receives cable true p.1 sum tt
skips Good Sees st w ls g s served n k left Sends cable false sum so (Some c) there next p =
    pumps_on left Receives cable false p.1 sum (served, upto_so w cable ls so, λ d here. subst (λ (x : CableLine). IsStill w Sends cable x) (some_same c d (sym there ∙ here)) p.0)
  where
    some_same : (a b : CableLine) → Some a ≡ Some b → a ≡ b
    some_same a b eq = cc
skips Good Sees st w ls g s served n k left Receives cable true sum so (Some c) there next p = pumps_on left Sends (suc cable) true p.1 sum tt
skips Good Sees st w ls g s served n k left Receives cable false sum so (Some c) there next p =
    pumps_on left Sends (suc cable) false p.1 sum (served, quiet_more Good Sees st w cable c g there (so.2 c there) p.0 0 cable w.scenario.cables ls (sym (nothing_more cable)) there s so.1)
skips Good Sees st w ls g s served n k left TimesOut cable any sum so (Some c) there next p = pumps_on left TimesOut (suc cable) any p.1 sum (from_on cable ls so)

gives_way : (Good : Network → Type 0) (Sees : Network → ℕ → CableLine → Lane → Type 0) → IsSteady Good Sees → (w : Network) (ls : List Lane) → Good w → SeesAll Sees w 0 w.scenario.cables ls → Served w
    → (n k left : ℕ) (slot : Slot) (cable : ℕ) (any : Bool) → k + left ≡ n → SoFar w slot cable any ls → (next : List Task) → Passes w (Pump left slot cable any) next → At n k w ls next
gives_way Good Sees st w ls g s served n k zero slot cable any sum so next p = is_over p served (inr (omega (arith, sum)))
gives_way Good Sees st w ls g s served n k (suc left) slot cable any sum so next (inl (idle, none)) = is_over none served (inl idle)
gives_way Good Sees st w ls g s served n k (suc left) slot cable any sum so next (inr p) = skips Good Sees st w ls g s served n k (suc left) slot cable any sum so (slice_get w.scenario.cables cable) refl next p

nil_behind : (xs : List Task) → xs ++ [] ≡ xs
nil_behind [] = refl
nil_behind (x ∷ xs) = ap (λ (ys : List Task). x ∷ ys) (nil_behind xs)

passes_at : (Good : Network → Type 0) (Sees : Network → ℕ → CableLine → Lane → Type 0) → IsSteady Good Sees → (w : Network) (ls : List Lane) → Good w → SeesAll Sees w 0 w.scenario.cables ls → Served w
    → (n k : ℕ) (t : Task) (ts next : List Task) → At n k w ls (t ∷ ts) → Passes w t next → At n k w ls (next ++ ts)
passes_at Good Sees st w ls g s served n k t ts next (pumps_on left slot cable any is sum so) p =
    subst (λ (us : List Task). At n k w ls (next ++ us)) (sym (ap rest_of is))
    (subst (λ (us : List Task). At n k w ls us) (sym (nil_behind next))
    (gives_way Good Sees st w ls g s served n k left slot cable any sum so next (subst (λ (u : Task). Passes w u next) (ap (first_of t) is) p)))
passes_at Good Sees st w ls g s served n k t ts next (is_over is served_too at) p = absurd cc

-- THE WHOLE
pumps_left : (left : ℕ) (slot : Slot) (cable : ℕ) → ArePumps (pump_on left slot cable true ++ [])
pumps_left left Sends cable = inr (left, Receives, cable, true, refl)
pumps_left left Receives cable = inr (left, Sends, suc cable, true, refl)
pumps_left left TimesOut cable = inr (left, TimesOut, suc cable, true, refl)

skipped_left : (w : Network) (left : ℕ) (slot : Slot) (cable : ℕ) (any : Bool) (o : Option CableLine) (next : List Task) → PumpSkips w left slot cable any o next → ArePumps next
skipped_left w left Sends cable true None next p = inr (left, Sends, 0, false, p)
skipped_left w left Sends cable false None next p = inr (left, TimesOut, 0, false, p)
skipped_left w left Receives cable any None next p = inr (left, Sends, 0, false, p)
skipped_left w left TimesOut cable any None next p = inr (left, Sends, 0, false, p)
skipped_left w left Sends cable any (Some c) next p = inr (left, Receives, cable, any, p.1)
skipped_left w left Receives cable any (Some c) next p = inr (left, Sends, suc cable, any, p.1)
skipped_left w left TimesOut cable any (Some c) next p = inr (left, TimesOut, suc cable, any, p.1)

passed_left : (w : Network) (left : ℕ) (slot : Slot) (cable : ℕ) (any : Bool) (next : List Task) → Passes w (Pump left slot cable any) next → ArePumps next
passed_left w zero slot cable any next p = inl p
passed_left w (suc left) slot cable any next (inl (idle, none)) = inl none
passed_left w (suc left) slot cable any next (inr p) = skipped_left w (suc left) slot cable any (slice_get w.scenario.cables cable) next p

moved_left : (w : Network) (left : ℕ) (slot : Slot) (cable : ℕ) (any : Bool) (m : ℕ) (e : Entry) → TaskMoves w (Pump left slot cable any) m e → ArePumps (left_by w (Pump left slot cable any) e ++ [])
moved_left w zero slot cable any m e mv = absurd mv
moved_left w (suc left) slot cable any m e mv = pumps_left left slot cable

moved_tasks : (w : Network) (t : Task) (ts : List Task) → ArePumps (t ∷ ts) → (m : ℕ) (e : Entry) → TaskMoves w t m e → ArePumps (left_by w t e ++ ts)
moved_tasks w t ts (inl is) m e mv = absurd cc
moved_tasks w t ts (inr (left, slot, cable, any, is)) m e mv =
    subst (λ (us : List Task). ArePumps (left_by w t e ++ us)) (sym (ap rest_of is))
    (subst (λ (u : Task). ArePumps (left_by w u e ++ [])) (sym (ap (first_of t) is)) (moved_left w left slot cable any m e (subst (λ (u : Task). TaskMoves w u m e) (ap (first_of t) is) mv)))

passed_tasks : (w : Network) (t : Task) (ts next : List Task) → ArePumps (t ∷ ts) → Passes w t next → ArePumps (next ++ ts)
passed_tasks w t ts next (inl is) p = absurd cc
passed_tasks w t ts next (inr (left, slot, cable, any, is)) p =
    subst (λ (us : List Task). ArePumps (next ++ us)) (sym (ap rest_of is))
    (subst ArePumps (sym (nil_behind next)) (passed_left w left slot cable any next (subst (λ (u : Task). Passes w u next) (ap (first_of t) is) p)))

pub are_pumps : (w0 : Network) (n : ℕ) {w : Network} {ts : List Task} → Goes w0 (Pump n Sends 0 false ∷ []) w ts → ArePumps ts
are_pumps w0 n stays = inr (n, Sends, 0, false, refl)
are_pumps w0 n (moves w t ts m e go mv) = moved_tasks w t ts (are_pumps w0 n go) m e mv
are_pumps w0 n (serves w ts m e go call) = are_pumps w0 n go
are_pumps w0 n (passes w t next ts go served p) = passed_tasks w t ts next (are_pumps w0 n go) p

pub pump_tasks : (w v : Network) (n : ℕ) (ts : List Task) → Goes w (Pump n Sends 0 false ∷ []) v ts → ArePumps ts
pump_tasks w v n ts go = are_pumps w n go

-- so each of its entries is a turn, a timeout or a trigger turn
turned_call : (w : Network) (slot : Slot) (k : ℕ) (c : CableLine) (m : ℕ) (e : Entry) → TakesTurn (turn_in w slot k c) m e → IsPumped e.call
turned_call w Sends k c m e t = inl t.is.2
turned_call w Receives k c m e t = inl t.is.2
turned_call w TimesOut k c m e t = inr (inl t.is.2)

taken_call : (w : Network) (slot : Slot) (k : ℕ) (o : Option CableLine) (m : ℕ) (e : Entry) → PumpTakes w slot k o m e → IsPumped e.call
taken_call w slot k None m e t = absurd t
taken_call w slot k (Some c) m e t = turned_call w slot k c m e t

pump_call : (w : Network) (left : ℕ) (slot : Slot) (cable : ℕ) (any : Bool) (m : ℕ) (e : Entry) → TaskMoves w (Pump left slot cable any) m e → IsPumped e.call
pump_call w zero slot cable any m e mv = absurd mv
pump_call w (suc left) slot cable any m e mv = taken_call w slot cable (slice_get w.scenario.cables cable) m e mv

pub moved_call : (w : Network) (t : Task) (ts : List Task) → ArePumps (t ∷ ts) → (m : ℕ) (e : Entry) → TaskMoves w t m e → IsPumped e.call
moved_call w t ts (inl is) m e mv = absurd cc
moved_call w t ts (inr (left, slot, cable, any, is)) m e mv = pump_call w left slot cable any m e (subst (λ (u : Task). TaskMoves w u m e) (ap (first_of t) is) mv)

pub goes_stands : (Good : Network → Type 0) (Sees : Network → ℕ → CableLine → Lane → Type 0) → IsSteady Good Sees → (w0 : Network) (start : List Lane) (n : ℕ) → SeesAll Sees w0 0 w0.scenario.cables start
    → {w : Network} {ts : List Task} → Goes w0 (Pump n Sends 0 false ∷ []) w ts → Good w → Standing Sees w0 start n w ts
goes_stands Good Sees st w0 start n z stays g = record {
  lanes = start;
  taken = 0;
  pumps = refl;
  sees = z;
  scenario = refl;
  at = pumps_on n Sends 0 false refl (nothing_more n) tt;
}
goes_stands Good Sees st w0 start n z (moves w t ts m e go mv) g =
    let y : Standing Sees w0 start n w (t ∷ ts) = goes_stands Good Sees st w0 start n z go (st.earlier w m e (moved_call w t ts (are_pumps w0 n go) m e mv) g) in
    moves_stands Good Sees st w0 start n w t ts y y.at m e g mv
goes_stands Good Sees st w0 start n z (serves w ts m e go call) g =
    let y : Standing Sees w0 start n w ts = goes_stands Good Sees st w0 start n z go (st.earlier w m e (inr (inr call)) g) in
    record {
      lanes = y.lanes;
      taken = y.taken;
      pumps = y.pumps;
      sees = serves_all Good Sees st w m e g call 0 w.scenario.cables y.lanes (from_start w.scenario.cables) y.sees;
      scenario = y.scenario;
      at = at_served n y.taken w (does m (e ∷ []) w) y.lanes ts (unserved Good Sees st w m e g call) y.at;
    }
goes_stands Good Sees st w0 start n z (passes w t next ts go served p) g =
    let y : Standing Sees w0 start n w (t ∷ ts) = goes_stands Good Sees st w0 start n z go g in
    record {
      lanes = y.lanes;
      taken = y.taken;
      pumps = y.pumps;
      sees = y.sees;
      scenario = y.scenario;
      at = passes_at Good Sees st w y.lanes g y.sees served n y.taken t ts next y.at p;
    }

no_cables : (Sees : Network → ℕ → CableLine → Lane → Type 0) (w : Network) (k : ℕ) (cs : List CableLine) → SeesAll Sees w k cs [] → cs ≡ []
no_cables Sees w k [] s = refl
no_cables Sees w k (c ∷ cs) s = absurd s

at_last : (Sees : Network → ℕ → CableLine → Lane → Type 0) (w v : Network) (start ls : List Lane) (n k : ℕ) → SeesAll Sees w 0 w.scenario.cables start → Begins start → v.scenario ≡ w.scenario → Pumps k start ls → bound start ≤ n
    → At n k v ls [] → is_idle v ≡ true
at_last Sees w v start ls n k s b same p most (pumps_on left slot cable any is sum so) = absurd cc
at_last Sees w v start ls n k s b same p most (is_over is served (inl idle)) = idle
at_last Sees w v [] ls n k s b same p most (is_over is served (inr all)) =
    ap (λ (x : Scenario). idle_from v 0 x.cables) same ∙ ap (λ (cs : List CableLine). idle_from v 0 cs) (no_cables Sees w 0 w.scenario.cables s)
at_last Sees w v (l ∷ more) ls n k s b same p most (is_over is served (inr all)) = absurd (omega (arith, most, all, pumps_below k l more ls b p))

pub rests_at_last : (Good : Network → Type 0) (Sees : Network → ℕ → CableLine → Lane → Type 0) (w v : Network) (ls : List Lane) (n : ℕ) → IsSteady Good Sees → SeesAll Sees w 0 w.scenario.cables ls → Begins ls → Good v
    → Goes w (Pump n Sends 0 false ∷ []) v [] → bound ls ≤ n → is_idle v ≡ true
rests_at_last Good Sees w v ls n st z b g go most =
    let y : Standing Sees w ls n v [] = goes_stands Good Sees st w ls n z go g in
    at_last Sees w v ls y.lanes n y.taken z b y.scenario y.pumps most y.at
