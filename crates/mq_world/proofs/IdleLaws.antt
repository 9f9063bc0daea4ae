-- Whether nothing can change in a network, cable by cable.
use Rattle.std.proofs.Common.{◌≡◌, ℕ, zero, suc, ◌+◌, ◌<◌, Bool, true, false, ◌&&◌, List, [], ◌∷◌, length, inl, inr, refl, sym, ap, subst, ◌∙◌, arith}
use Rattle.std.specs.Prelude.{◌⊎◌, None, Some, slice_get}
use Rattle.std.proofs.lemmas.Option.{slice_get_within}
use Rattle.mq_history.specs.declared.scenario.CableLine.{CableLine}
use Rattle.mq_history.specs.Scenarios.{IsCable}
use Rattle.mq_spec_network.specs.Turns.{Network, cable_idle, idle_from, is_idle}
use Rattle.mq_nodes.specs.Pumps.{AllStill}
use Rattle.mq_steps.proofs.PartLaws.{at_it}
use Rattle.mq_watch.specs.from_events.States.{NodeState}
use Rattle.mq_ways.specs.Ways.{CableState}
use Rattle.mq_idle.specs.Sights.{IsSightOf}
use Rattle.mq_idle.proofs.StillLaws.{still_is_idle, all_idle as all_from}
use Rattle.mq_shared.specs.from_split.Facing.{IsJoined}
use Rattle.mq_world.specs.Worlds.{IsNetwork, NetState, course_in, histories_in}
use Rattle.mq_world.proofs.ListLaws.{some_is, there}
use Rattle.mq_world.proofs.SeenLaws.{node_there}

-- a place that is there
pub not_past : {A : Type 0} (xs : List A) (i m : ℕ) → m < length xs → i ≡ m → None ≡ slice_get xs i → ⊥
not_past xs i m lt e none =
    let t = there xs i (subst (λ (n : ℕ). n < length xs) (sym e) lt) in
    let no : None ≡ Some t.0 = none ∙ t.1 in cc

-- What is there of a cable: its line, what lies on it, and the nodes of its ends.
pub line_there : (w : NetState) (k : ℕ) → IsNetwork w → k < length w.scenario.cables → k < length w.lines
line_there w k h lt = subst (λ (ls : List CableLine). k < length ls) (sym h.lines) lt

pub cable_line : (w : NetState) (k : ℕ) (l : CableLine) → IsNetwork w → slice_get w.lines k ≡ Some l → slice_get w.scenario.cables k ≡ Some l
cable_line w k l h found = sym (ap (λ (ls : List CableLine). slice_get ls k) h.lines) ∙ found

pub cable_there : (w : NetState) (k : ℕ) → IsNetwork w → k < length w.scenario.cables → k < length w.cables
cable_there w k h lt = subst (λ (n : ℕ). k < n) (sym h.joined) lt

line_fits : (w : NetState) (k : ℕ) (l : CableLine) → IsNetwork w → slice_get w.lines k ≡ Some l → IsCable w.scenario l
line_fits w k l h found = at_it (IsCable w.scenario) w.scenario.cables k l h.scenario.cables (cable_line w k l h found)

pub sender_there : (w : NetState) (k : ℕ) (l : CableLine) → IsNetwork w → slice_get w.lines k ≡ Some l → l.sender < length w.nodes
sender_there w k l h found = subst (λ (n : ℕ). l.sender < n) (sym h.all) (line_fits w k l h found).sender

pub receiver_there : (w : NetState) (k : ℕ) (l : CableLine) → IsNetwork w → slice_get w.lines k ≡ Some l → l.receiver < length w.nodes
receiver_there w k l h found = subst (λ (n : ℕ). l.receiver < n) (sym h.all) (line_fits w k l h found).receiver

pub sight_at : (w : NetState) (k : ℕ) (l : CableLine) (s r : NodeState) (c : CableState) → IsNetwork w → slice_get w.lines k ≡ Some l → slice_get w.nodes l.sender ≡ Some s → slice_get w.nodes l.receiver ≡ Some r → slice_get w.cables k ≡ Some c
    → IsSightOf (course_in w).net k l s r c
sight_at w k l s r c h line sender receiver cable =
    let j : IsJoined k l (course_in w).net.done c = h.ways k l c (cable_line w k l h line) cable in
    record {
      sender = node_there w.scenario w.nodes l.sender s sender (h.nodes l.sender s sender);
      receiver = node_there w.scenario w.nodes l.receiver r receiver (h.nodes l.receiver r receiver);
      at = record { out = j.out.way; back = j.back.way };
      out = j.out.shown;
      back = j.back.shown;
    }

-- what is asked of the line that was found is asked of the scenario's
pub asked_of : (w : NetState) (k : ℕ) (l : CableLine) (b : Bool) → IsNetwork w → slice_get w.lines k ≡ Some l → b ≡ cable_idle (course_in w).net k l → (x : CableLine) → slice_get w.scenario.cables k ≡ Some x → b ≡ cable_idle (course_in w).net k x
asked_of w k l b h found is x at = subst (λ (y : CableLine). b ≡ cable_idle (course_in w).net k y) (some_is l x (sym (cable_line w k l h found) ∙ at)) is

-- The first cables are idle.
abbrev pub IdleTo : Network → List CableLine → ℕ → Type 0
IdleTo w ls n = (i : ℕ) (l : CableLine) → i < n → slice_get ls i ≡ Some l → cable_idle w i l ≡ true

pub none_yet : (w : Network) (ls : List CableLine) → IdleTo w ls 0
none_yet w ls i l lt e = absurd (no i lt)
  where
    no : (j : ℕ) → j < 0 → ⊥
    no j k = omega (arith, k)

before_or_at : (i n : ℕ) → i < suc n → (i < n) ⊎ (i ≡ n)
before_or_at i n lt = grind (arith, lt)

pub one_more : (w : Network) (ls : List CableLine) (n : ℕ) → IdleTo w ls n → ((l : CableLine) → slice_get ls n ≡ Some l → cable_idle w n l ≡ true) → IdleTo w ls (n + 1)
one_more w ls n before here i l lt e = by (before_or_at i n (omega (arith, lt)))
  where
    by : (i < n) ⊎ (i ≡ n) → cable_idle w i l ≡ true
    by (inl less) = before i l less e
    by (inr same) = subst (λ (j : ℕ). cable_idle w j l ≡ true) (sym same) (here l (subst (λ (j : ℕ). slice_get ls j ≡ Some l) same e))

both : (a b : Bool) → a ≡ true → b ≡ true → (a && b) ≡ true
both true b e f = f
both false b e f = absurd cc

not_first : (a b : Bool) → a ≡ false → (a && b) ≡ false
not_first true b e = absurd cc
not_first false b e = refl

not_then : (a b : Bool) → b ≡ false → (a && b) ≡ false
not_then true b e = e
not_then false b e = refl

nothing_more : (j : ℕ) → j + 0 ≡ j
nothing_more j = omega arith

one_up : (j i : ℕ) → j + suc i ≡ suc j + i
one_up j i = omega arith

from_zero : (i : ℕ) → i ≡ 0 + i
from_zero i = omega arith

not_from : (w : Network) (cs : List CableLine) (j i : ℕ) (l : CableLine) → slice_get cs i ≡ Some l → cable_idle w (j + i) l ≡ false → idle_from w j cs ≡ false
not_from w [] j i l at e = absurd cc
not_from w (c ∷ cs) j zero l at e =
    not_first (cable_idle w j c) (idle_from w (suc j) cs)
    (subst (λ (n : ℕ). cable_idle w n c ≡ false) (nothing_more j) (subst (λ (x : CableLine). cable_idle w (j + 0) x ≡ false) (sym (some_is c l at)) e))
not_from w (c ∷ cs) j (suc i) l at e =
    not_then (cable_idle w j c) (idle_from w (suc j) cs) (not_from w cs (suc j) i l at (subst (λ (n : ℕ). cable_idle w n l ≡ false) (one_up j i) e))

pub all_idle : (w : Network) → IdleTo w w.scenario.cables (length w.scenario.cables) → true ≡ is_idle w
all_idle w h = sym (all_from w w.scenario.cables 0 (λ i l at. subst (λ (n : ℕ). cable_idle w n l ≡ true) (from_zero i) (h i l (slice_get_within w.scenario.cables i l at) at)))

pub one_not : (w : Network) (k : ℕ) → k < length w.scenario.cables → ((l : CableLine) → slice_get w.scenario.cables k ≡ Some l → false ≡ cable_idle w k l) → false ≡ is_idle w
one_not w k lt h =
    let l = there w.scenario.cables k lt in
    sym (not_from w w.scenario.cables 0 k l.0 l.1 (subst (λ (n : ℕ). cable_idle w n l.0 ≡ false) (from_zero k) (sym (h l.0 l.1))))

-- Where no turn and no timeout would change a thing, nothing can change.
pub still_law : (w : NetState) → IsNetwork w → AllStill (course_in w).net → is_idle (course_in w).net ≡ true
still_law w h still = still_is_idle (course_in w).net (λ (m : ℕ). slice_get (histories_in w) m) h.scenario (λ m. refl) still
