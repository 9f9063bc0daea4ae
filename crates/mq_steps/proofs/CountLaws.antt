-- A pump counts its turns.
use Rattle.std.specs.Prelude.{◌≡◌, ◌<◌, ◌≤◌, ◌+◌, ◌-◌, ℕ, zero, suc, Bool, true, false, List, ◌∷◌, Result, Ok, Err, IsErrAnd, length, refl}
use Rattle.std.proofs.Common.{ap, subst, sym, arith, inl, inr, ◌∙◌}
use Rattle.mq_history.specs.declared.calls.Entry.{Entry}
use Rattle.mq_history.specs.declared.scenario.CableLine.{CableLine}
use Rattle.mq_spec_network.specs.Turns.{Network, does}
use Rattle.mq_history.specs.declared.scenario.Scenario.{Scenario}
use Rattle.mq_spec_network.specs.Tasks.{Slot, Task}
use Rattle.mq_spec_network.specs.Tasks.Slot.{Sends, Receives, TimesOut}
use Rattle.mq_spec_network.specs.Steps.{TakesTurn, turn_in}
use Rattle.mq_nodes.specs.declared.nodes.Stop.{Stop}
use Rattle.mq_nodes.specs.declared.nodes.Stop.TheVariants as stops
use Rattle.mq_nodes.specs.Course.{Course, Did, Ready}
use Rattle.mq_nodes.specs.Told.{DoesOrNot, Onward, Part}
use Rattle.mq_nodes.specs.Pumps.{AllStill, IsStill, RoundOf, RoundTold, TimeoutsStill, TurnIn, TurnsIn, TurnsStill, from_start, pumping, round_then}
use Rattle.mq_nodes.proofs.Asking.{at_place}
use Rattle.mq_nodes.proofs.Onward.{same_scenario}
use Rattle.mq_nodes.proofs.PumpLaws.{InRound, InTimeouts, Pumping, none_taken, pump_breaks, pump_ends, pump_rests, round_breaks, timeout_breaks, timeouts_break}
use Rattle.mq_steps.specs.declared.pumping.Halt.{Halt}
use Rattle.mq_steps.specs.declared.pumping.Halt.TheVariants as halts
use Rattle.mq_steps.specs.Counts.{Counts, Fewer, IsTurn, RoundsTold, Took, left_by, without_number}
use Rattle.mq_steps.specs.Counts.Took.{none, one}
use Rattle.mq_steps.proofs.PartLaws.{err_is}

no_more : (m n : ℕ) → m ≡ 0 + n → n ≡ m
no_more m n e = omega arith

one_up : (m i n : ℕ) → m ≡ suc i + n → suc (i + n) ≡ m
one_up m i n e = omega arith

took_on : {w0 w : Network} (m k n : ℕ) (v : Network) → m ≡ k + n → Took w0 n w → Took w k v → Took w0 m v
took_on {w0} {w} m k n v sum h none = subst (λ (x : ℕ). Took w0 x w) (no_more m n sum) h
took_on {w0} {w} m k n v sum h (one i x at e es more turn due) =
    subst (λ (y : ℕ). Took w0 y (does at (e ∷ es) x)) (one_up m i n sum) (one (i + n) x at e es (took_on (i + n) i n x refl h more) turn due)

none_and : (n : ℕ) → n ≡ 0 + n
none_and n = omega arith

pub fewer_none : (n : ℕ) (w : Network) → Fewer n n w w
fewer_none n w = record { taken = 0; is = none_and n; took = none }

pub fewer_on : (most left rest : ℕ) (w v u : Network) → Fewer most left w v → Fewer left rest v u → Fewer most rest w u
fewer_on most left rest w v u h x = record {
  taken = x.taken + h.taken;
  is = sum h.taken x.taken h.is x.is;
  took = took_on (x.taken + h.taken) x.taken h.taken u refl h.took x.took;
} where
  sum : (a b : ℕ) → most ≡ a + left → left ≡ b + rest → most ≡ b + a + rest
  sum a b p q = omega arith

-- a turn of a cable's end is one
is_turn : (slot : Slot) (cable : ℕ) (l : CableLine) (w : Network) (m : ℕ) (e : Entry) → TakesTurn (turn_in w slot cable l) m e → IsTurn e
is_turn Sends cable l w m e h = inl h.is.2
is_turn Receives cable l w m e h = inl h.is.2
is_turn TimesOut cable l w m e h = inr h.is.2

one_less : (n : ℕ) → 0 < n → n ≡ suc (n - 1)
one_less n h = omega arith

one_and : (n : ℕ) → 0 < n → n ≡ 1 + (n - 1)
one_and n h = omega arith

took_one : (slot : Slot) (cable : ℕ) (l : CableLine) (left : ℕ) (c d : Course) → 0 < left → Did (TakesTurn (turn_in c.net slot cable l)) c d → Fewer left (left - 1) c.net d.net
took_one slot cable l left c d lt x = record {
  taken = 1;
  is = one_and left lt;
  took = subst (λ (w : Network). Took c.net 1 w) (sym (ap (λ (y : Course). y.net) x.is)) (one 0 c.net x.at x.entry x.behind none (is_turn slot cable l c.net x.at x.entry x.fits) x.triggers);
}

-- A turn, where any is left.
pub turn_told : (slot : Slot) (cable left : ℕ) (r : Result Bool Stop) (c d : Course) → 0 < left → TurnIn slot cable r c d → TurnsIn slot cable left (without_number (left_by r left)) c d
turn_told slot cable left (Ok true) c d lt t = λ l known. let (x, ready) = t l known in inl (one_less left lt, x, ready)
turn_told slot cable left (Ok false) c d lt t = λ l known. let (same, still) = t l known in inr (refl, same, λ some. still)
turn_told slot cable left (Err stops.NoMemory) c d lt t = λ l known. (lt, t l known)
turn_told slot cable left (Err (stops.Spent m)) c d lt t = λ l known. (lt, t l known)

pub turn_counted : (slot : Slot) (cable left : ℕ) (r : Result Bool Stop) (c d : Course) → 0 < left → cable < length c.net.scenario.cables → TurnIn slot cable r c d → Counts left (left_by r left) c d
turn_counted slot cable left r c d lt there t =
    let (l, known, rest) = at_place c.net.scenario.cables cable there in
    by_answer l r (t l known)
  where
    by_answer : (l : CableLine) (r : Result Bool Stop) → DoesOrNot (TakesTurn (turn_in c.net slot cable l)) (IsStill c.net slot cable l) r c d → Counts left (left_by r left) c d
    by_answer l (Ok true) h = took_one slot cable l left c d lt h.0
    by_answer l (Ok false) h = subst (λ (y : Course). Fewer left left c.net y.net) (sym h.0) (fewer_none left c.net)
    by_answer l (Err stops.NoMemory) h = tt
    by_answer l (Err (stops.Spent m)) h = took_one slot cable l left c d lt h.0

-- where none is left, nothing is done
pub no_turn : (slot : Slot) (cable left : ℕ) (c : Course) → left ≡ 0 → TurnsIn slot cable left (Ok 0) c c
no_turn slot cable left c is = λ l known. inr (sym is, refl, λ some. absurd (not_any left is some))
  where
    not_any : (n : ℕ) → n ≡ 0 → 0 < n → ⊥
    not_any n e lt = omega arith

pub none_counted : (left : ℕ) (c : Course) → left ≡ 0 → Fewer left 0 c.net c.net
none_counted left c is = subst (λ (n : ℕ). Fewer n 0 c.net c.net) (sym is) (fewer_none 0 c.net)

-- how many were taken
pub so_many : (turns left : ℕ) (w v : Network) → Fewer turns left w v → Took w (turns - left) v
so_many turns left w v h = subst (λ (n : ℕ). Took w n v) (same turns h.taken h.is) h.took
  where
    same : (t n : ℕ) → t ≡ n + left → n ≡ t - left
    same t n e = omega arith

pub not_more : (turns left : ℕ) (w v : Network) → Fewer turns left w v → left ≤ turns
not_more turns left w v h = few turns h.taken h.is
  where
    few : (t n : ℕ) → t ≡ n + left → left ≤ t
    few t n e = omega arith

pub any_left : (n : ℕ) → (n ≡ 0 → ⊥) → 0 < n
any_left zero h = absurd (h refl)
any_left (suc n) h = omega arith

-- Where turns break off.
pub cable_there : (cable end : ℕ) (from left : List Task) (c d : Course) → cable < end → end ≡ length c.net.scenario.cables → Onward from left c d → cable < length d.net.scenario.cables
cable_there cable end from left c d lt upto h = subst (λ (n : ℕ). cable < n) (upto ∙ sym (ap (λ (s : Scenario). length s.cables) (same_scenario h.goes))) lt

pub counts_stop : (most left : ℕ) (r : Result ℕ Halt) (h : Halt) (c d e : Course) → IsErrAnd r (λ (y : Halt). y ≡ h) → Fewer most left c.net d.net → Counts left (Err h) d e → Counts most r c e
counts_stop most left r h c d e is before told = subst (λ (y : Result ℕ Halt). Counts most y c e) (sym (err_is r h is)) (so h told)
  where
    so : (x : Halt) → Counts left (Err x) d e → Counts most (Err x) c e
    so halts.NoMemory t = tt
    so (halts.Spent m rest) t = fewer_on most left rest c.net d.net e.net before t

round_broke : (slot : Slot) (cable s r most left end : ℕ) (c d e : Course) (h : Halt) → cable < end → InRound slot cable s r most left end c d → TurnsIn slot cable left (without_number (Err h)) d e → Part {T = ℕ} (pumping most Sends 0 false) (without_number (Err h)) c e
round_broke slot cable s r most left end c d e halts.NoMemory lt i told = round_breaks slot cable s r most left end c d e stops.NoMemory lt i told
round_broke slot cable s r most left end c d e (halts.Spent m rest) lt i told = round_breaks slot cable s r most left end c d e (stops.Spent m) lt i told

pub round_stops : (slot : Slot) (cable s t most left end : ℕ) (r : Result ℕ Halt) (h : Halt) (c d e : Course) → IsErrAnd r (λ (y : Halt). y ≡ h) → cable < end → InRound slot cable s t most left end c d → TurnsIn slot cable left (without_number (Err h)) d e
    → RoundTold (pumping most Sends 0 false) round_then TurnsStill most (without_number r) c e
round_stops slot cable s t most left end r h c d e is lt i told =
    subst (λ (y : Result ℕ Halt). RoundTold (pumping most Sends 0 false) round_then TurnsStill most (without_number y) c e) (sym (err_is r h is)) (so h (round_broke slot cable s t most left end c d e h lt i told))
  where
    so : (x : Halt) → Part {T = ℕ} (pumping most Sends 0 false) (without_number (Err x)) c e → RoundTold (pumping most Sends 0 false) round_then TurnsStill most (without_number (Err x)) c e
    so halts.NoMemory p = p
    so (halts.Spent m rest) p = p

pub timeouts_stop : (cable most left end : ℕ) (r : Result ℕ Halt) (h : Halt) (c d e : Course) → IsErrAnd r (λ (y : Halt). y ≡ h) → cable < end → InTimeouts cable most left end c d → TurnsIn TimesOut cable left (without_number (Err h)) d e
    → RoundTold (pumping most TimesOut 0 false) from_start TimeoutsStill most (without_number r) c e
timeouts_stop cable most left end r h c d e is lt i told =
    subst (λ (y : Result ℕ Halt). RoundTold (pumping most TimesOut 0 false) from_start TimeoutsStill most (without_number y) c e) (sym (err_is r h is)) (so h told)
  where
    so : (x : Halt) → TurnsIn TimesOut cable left (without_number (Err x)) d e → RoundTold (pumping most TimesOut 0 false) from_start TimeoutsStill most (without_number (Err x)) c e
    so halts.NoMemory t = timeout_breaks cable most left end c d e stops.NoMemory lt i t
    so (halts.Spent m rest) t = timeout_breaks cable most left end c d e (stops.Spent m) lt i t

-- after a round of none come the timeouts
pub both : (most rest : ℕ) (r : Result ℕ Halt) (c d e : Course) → most ≤ rest → RoundOf (pumping most Sends 0 false) round_then TurnsStill most rest c d
    → RoundTold (pumping rest TimesOut 0 false) from_start TimeoutsStill rest (without_number r) d e → RoundTold (pumping most Sends 0 false) from_start AllStill most (without_number r) c e
both most rest r c d e le h x = by_answer r x
  where
    clash : most ≤ rest → rest < most → ⊥
    clash a b = omega arith

    by_answer : (y : Result ℕ Halt) → RoundTold (pumping rest TimesOut 0 false) from_start TimeoutsStill rest (without_number y) d e → RoundTold (pumping most Sends 0 false) from_start AllStill most (without_number y) c e
    by_answer (Ok last) t = none_taken most rest last c d e (clash le) h t
    by_answer (Err halts.NoMemory) t = timeouts_break most rest c d e stops.NoMemory (clash le) h t
    by_answer (Err (halts.Spent m last)) t = timeouts_break most rest c d e (stops.Spent m) (clash le) h t

-- Rounds.
pub rounds_stop : (turns rounds left : ℕ) (r : Result ℕ Halt) (h : Halt) (c d e : Course) → IsErrAnd r (λ (y : Halt). y ≡ h) → Ready c.net → Pumping turns rounds left c d → RoundTold (pumping left Sends 0 false) from_start AllStill left (without_number (Err h)) d e
    → RoundsTold turns r c e
rounds_stop turns rounds left r h c d e is ready p told = subst (λ (y : Result ℕ Halt). RoundsTold turns y c e) (sym (err_is r h is)) (so h told)
  where
    so : (x : Halt) → RoundTold (pumping left Sends 0 false) from_start AllStill left (without_number (Err x)) d e → RoundsTold turns (Err x) c e
    so halts.NoMemory t = pump_breaks turns rounds left c d e stops.NoMemory ready p t
    so (halts.Spent m rest) t = pump_breaks turns rounds left c d e (stops.Spent m) ready p t

pub rounds_rest : (turns rounds left rest : ℕ) (c d e : Course) → Ready c.net → Pumping turns rounds left c d → RoundOf (pumping left Sends 0 false) from_start AllStill left rest d e → rest ≡ left → RoundsTold turns (Ok left) c e
rounds_rest turns rounds left rest c d e ready p x same = λ law. let ends = pump_rests turns rounds left rest c d e ready p x same law in (ends.on, ends.all)

pub rounds_over : (turns rounds left : ℕ) (c d : Course) → Ready c.net → Pumping turns rounds left c d → turns ≤ rounds → RoundsTold turns (Ok left) c d
rounds_over turns rounds left c d ready p le = λ law. let ends = pump_ends turns rounds left c d ready p le in (ends.on, ends.all)

-- of a number that comes to the same
pub fewer_same : (most left rest : ℕ) (w v : Network) → rest ≡ left → Fewer most rest w v → Fewer most left w v
fewer_same most left rest w v same h = subst (λ (n : ℕ). Fewer most n w v) same h
