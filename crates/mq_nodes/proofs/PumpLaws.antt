-- A pump's rounds in loops: how each answer of a turn goes on.
use Rattle.std.specs.Prelude.{◌≡◌, ◌<◌, ◌≤◌, ◌+◌, ◌⊎◌, ℕ, zero, suc, nat_lt, Bool, true, false, List, [], ◌∷◌, Option, Some, None, Ok, Err, length, slice_get, refl}
use Rattle.std.proofs.Common.{ap, subst, sym, arith, inl, inr, ◌∙◌}
use Rattle.std.proofs.lemmas.Bool.Decides.{nat_tests}
use Rattle.std.proofs.lemmas.Option.{slice_get_past}
use Rattle.mq_history.specs.declared.calls.Entry.{Entry}
use Rattle.mq_history.specs.declared.scenario.CableLine.{CableLine}
use Rattle.mq_history.specs.declared.scenario.Scenario.{Scenario}
use Rattle.mq_spec_network.specs.Turns.{Network, is_idle}
use Rattle.mq_spec_network.specs.Tasks.{Task, Slot}
use Rattle.mq_spec_network.specs.Tasks.Task.{Pump}
use Rattle.mq_spec_network.specs.Tasks.Slot.{Sends, Receives, TimesOut}
use Rattle.mq_spec_network.specs.Steps.{PumpTakes, PumpSkips, TakesTurn, turn_in, pump_on, next_round}
use Rattle.mq_spec_network.specs.Steps.Goes.{stays as stays_there, passes}
use Rattle.mq_spec_network.proofs.Going.{on}
use Rattle.mq_nodes.specs.declared.nodes.Stop.{Stop}
use Rattle.mq_nodes.specs.declared.nodes.Stop.TheVariants as stops
use Rattle.mq_nodes.specs.Course.{Course, Did, Ready}
use Rattle.mq_nodes.specs.Told.{Broke, Part, Onward}
use Rattle.mq_nodes.specs.Pumps.{IsStill, StillAt, AllStill, TurnsOf, TurnsIn, pumping, round_then, RoundOf, TurnsStill, TimeoutsStill, from_start}
use Rattle.mq_nodes.proofs.Onward.{begin, moved, broke, passed, unframed, after, same_scenario}
use Rattle.mq_nodes.proofs.Asking.{at_place, same_value, same_or_less}
use Rattle.mq_nodes.proofs.LineLaws.{fits_too}

-- where it stands behind a turn
abbrev pub pumping_on : ℕ → Slot → ℕ → Bool → List Task
pumping_on left Sends cable any = pumping left Receives cable any
pumping_on left Receives cable any = pumping left Sends (suc cable) any
pumping_on left TimesOut cable any = pumping left TimesOut (suc cable) any

on_is : (left : ℕ) (slot : Slot) (cable : ℕ) (any : Bool) → pump_on (suc left) slot cable any ≡ pumping_on (suc left) slot cable any
on_is left Sends cable any = refl
on_is left Receives cable any = refl
on_is left TimesOut cable any = refl

none_left : (all : List Task) (slot : Slot) (cable : ℕ) (any : Bool) (c d : Course) → Onward all (pump_on 0 slot cable any) c d → Onward all (pumping_on 0 slot cable any) c d
none_left all Sends cable any c d h = passed all (Pump 0 Receives cable any) [] [] c d h refl
none_left all Receives cable any c d h = passed all (Pump 0 Sends (suc cable) any) [] [] c d h refl
none_left all TimesOut cable any c d h = passed all (Pump 0 TimesOut (suc cable) any) [] [] c d h refl

go_on : (all : List Task) (left : ℕ) (slot : Slot) (cable : ℕ) (any : Bool) (c d : Course) → Onward all (pump_on left slot cable any) c d → Onward all (pumping_on left slot cable any) c d
go_on all zero slot cable any c d h = none_left all slot cable any c d h
go_on all (suc left) slot cable any c d h = subst (λ (ts : List Task). Onward all ts c d) (on_is left slot cable any) h

takes_it : (slot : Slot) (cable : ℕ) (l : CableLine) (w : Network) → slice_get w.scenario.cables cable ≡ Some l → (m : ℕ) (e : Entry) → TakesTurn (turn_in w slot cable l) m e → PumpTakes w slot cable (slice_get w.scenario.cables cable) m e
takes_it slot cable l w known m e h = subst (λ (x : Option CableLine). PumpTakes w slot cable x m e) (sym known) h

-- A turn is taken, or would change nothing.
taken : (all : List Task) (left : ℕ) (slot : Slot) (cable : ℕ) (l : CableLine) (any : Bool) (c d e : Course) → slice_get d.net.scenario.cables cable ≡ Some l → Onward all (pumping (suc left) slot cable any) c d
    → Did (TakesTurn (turn_in d.net slot cable l)) d e → Ready e.net → Onward all (pumping_on left slot cable true) c e
taken all left slot cable l any c d e known h x ready =
    go_on all left slot cable true c e (unframed all (pump_on left slot cable true) c e
    (moved all (Pump (suc left) slot cable any) [] c d e h (fits_too d e (takes_it slot cable l d.net known) x) ready))

skipped : (all : List Task) (left : ℕ) (slot : Slot) (cable : ℕ) (l : CableLine) (any : Bool) (c d : Course) → slice_get d.net.scenario.cables cable ≡ Some l → Onward all (pumping left slot cable any) c d
    → (0 < left → IsStill d.net slot cable l) → Onward all (pumping_on left slot cable any) c d
skipped all zero Sends cable l any c d known h still = h
skipped all zero Receives cable l any c d known h still = h
skipped all zero TimesOut cable l any c d known h still = h
skipped all (suc left) slot cable l any c d known h still =
    go_on all (suc left) slot cable any c d (unframed all (pump_on (suc left) slot cable any) c d
    (passed all (Pump (suc left) slot cable any) (pump_on (suc left) slot cable any) [] c d h
    (inr (subst (λ (x : Option CableLine). PumpSkips d.net (suc left) slot cable any x (pump_on (suc left) slot cable any)) (sym known) (still (omega arith), refl)))))

is_any : (rest most : ℕ) → suc rest ≤ most → nat_lt rest most ≡ true
is_any rest most h = grind (arith, nat_tests)

-- What a loop over cables keeps: the turns of so many cables are over.
pub record Rounding (from : List Task) (slot : Slot) (cable most left : ℕ) (Still : Network → Type 0) (c d : Course) : Type 0 where
  pub few : left ≤ most
  pub on : Onward from (pumping left slot cable (nat_lt left most)) c d
  pub still : left ≡ most → 0 < most → (d ≡ c) × Still c.net

-- after a turn, also of one cable more
pub turned : (from : List Task) (slot : Slot) (cable : ℕ) (l : CableLine) (most left rest : ℕ) (Still : Network → Type 0) (c d e : Course) → slice_get d.net.scenario.cables cable ≡ Some l
    → Rounding from slot cable most left Still c d → TurnsOf slot cable l left (Ok rest) d e
    → (rest ≤ most) × Onward from (pumping_on rest slot cable (nat_lt rest most)) c e × (rest ≡ most → 0 < most → (e ≡ c) × Still c.net × IsStill c.net slot cable l)
turned from slot cable l most left rest Still c d e known h (inl (one, x, ready)) = (
  omega (arith, h.few),
  subst (λ (b : Bool). Onward from (pumping_on rest slot cable b) c e) (sym (is_any rest most (room one h.few)))
      (taken from rest slot cable l (nat_lt left most) c d e known (subst (λ (n : ℕ). Onward from (pumping n slot cable (nat_lt left most)) c d) one h.on) x ready),
  λ same some. absurd (too_few one h.few same),
)
  where
    room : left ≡ suc rest → left ≤ most → suc rest ≤ most
    room a b = omega arith

    too_few : left ≡ suc rest → left ≤ most → rest ≡ most → ⊥
    too_few a b z = omega arith
turned from slot cable l most left rest Still c d e known h (inr (same, none, still)) = (
  omega (arith, h.few),
  subst (λ (y : Course). Onward from (pumping_on rest slot cable (nat_lt rest most)) c y) (sym none)
      (subst (λ (n : ℕ). Onward from (pumping_on n slot cable (nat_lt n most)) c d) (sym same) (skipped from left slot cable l (nat_lt left most) c d known h.on still)),
  λ all some.
      let (is, before) = h.still (sym same ∙ all) some in
      (none ∙ is, before, subst (λ (y : Course). IsStill y.net slot cable l) is (still (any_left (sym same ∙ all) some))),
)
  where
    any_left : left ≡ most → 0 < most → 0 < left
    any_left a b = omega arith

-- one cable more is still
one_more_still : (w : Network) (slot : Slot) (n : ℕ) (l : CableLine) → slice_get w.scenario.cables n ≡ Some l → StillAt w slot n → IsStill w slot n l → StillAt w slot (suc n)
one_more_still w slot n l known h one m k lt is = at_it (below m n lt)
  where
    below : (m n : ℕ) → m < suc n → (m ≡ n) ⊎ (m < n)
    below m n lt = same_or_less m n (omega arith)

    at_it : (m ≡ n) ⊎ (m < n) → IsStill w slot m k
    at_it (inl same) =
        subst (λ (x : ℕ). IsStill w slot x k) (sym same)
        (subst (λ (x : CableLine). IsStill w slot n x) (same_value l k (sym known ∙ subst (λ (x : ℕ). slice_get w.scenario.cables x ≡ Some k) same is)) one)
    at_it (inr lt) = h m k lt is

none_still : (w : Network) (slot : Slot) → StillAt w slot 0
none_still w slot m l lt is = absurd (nothing m lt)
  where
    nothing : (m : ℕ) → m < 0 → ⊥
    nothing m lt = omega arith

pub cable_at : (n end : ℕ) (from : List Task) (left : List Task) (c d : Course) → n < end → end ≡ length c.net.scenario.cables → Onward from left c d → (l : CableLine) × (slice_get d.net.scenario.cables n ≡ Some l) × (slice_get c.net.scenario.cables n ≡ Some l)
cable_at n end from left c d lt upto h =
    let (l, is, unrolled) = at_place c.net.scenario.cables n (subst (λ (x : ℕ). n < x) upto lt) in
    (l, ap (λ (x : Scenario). slice_get x.cables n) (same_scenario h.goes) ∙ is, is)

breaks : {U : Type 0} (from : List Task) (slot : Slot) (cable : ℕ) (l : CableLine) (left : ℕ) (any : Bool) (c d e : Course) (stop : Stop) → slice_get d.net.scenario.cables cable ≡ Some l → Onward from (pumping left slot cable any) c d
    → (0 < left) × Broke (TakesTurn (turn_in d.net slot cable l)) stop d e → Part {T = U} from (Err stop) c e
breaks from slot cable l zero any c d e stop known h (some, b) = absurd (nothing some)
  where
    nothing : 0 < 0 → ⊥
    nothing lt = omega arith
breaks from slot cable l (suc left) any c d e stop known h (some, b) = broke from (Pump (suc left) slot cable any) [] c d e stop h (too stop b)
  where
    too : (s : Stop) → Broke (TakesTurn (turn_in d.net slot cable l)) s d e → Broke (PumpTakes d.net slot cable (slice_get d.net.scenario.cables cable)) s d e
    too stops.NoMemory (inl same) = inl same
    too stops.NoMemory (inr x) = inr (fits_too d e (takes_it slot cable l d.net known) x)
    too (stops.Spent m) (x, spent) = (fits_too d e (takes_it slot cable l d.net known) x, spent)

-- A round of turns. So many cables had their sender's turn, and so many their receiver's.
abbrev pub StillTo : ℕ → ℕ → Network → Type 0
StillTo sent received w = StillAt w Sends sent × StillAt w Receives received

pub record InRound (slot : Slot) (cable sent received most left end : ℕ) (c d : Course) : Type 0 where
  pub round : Rounding (pumping most Sends 0 false) slot cable most left (StillTo sent received) c d
  pub upto : end ≡ length c.net.scenario.cables

not_less : (n : ℕ) → nat_lt n n ≡ false
not_less n = grind (arith, nat_tests)

pub begins : (most end : ℕ) (c : Course) → Ready c.net → end ≡ length c.net.scenario.cables → InRound Sends 0 0 0 most most end c c
begins most end c ready upto = record {
  round = record {
    few = omega arith;
    on = subst (λ (b : Bool). Onward (pumping most Sends 0 false) (pumping most Sends 0 b) c c) (sym (not_less most)) (begin (pumping most Sends 0 false) c ready);
    still = λ same some. (refl, (none_still c.net Sends, none_still c.net Receives));
  };
  upto = upto;
}

pub sent : (cable most left rest end : ℕ) (c d e : Course) → cable < end → InRound Sends cable cable cable most left end c d → TurnsIn Sends cable left (Ok rest) d e → InRound Receives cable (suc cable) cable most rest end c e
sent cable most left rest end c d e lt h told =
    let (l, known, first) = cable_at cable end _ _ c d lt h.upto h.round.on in
    let (few, on, still) = turned (pumping most Sends 0 false) Sends cable l most left rest (StillTo cable cable) c d e known h.round (told l known) in
    record {
      round = record {
        few = few;
        on = on;
        still = λ same some.
            let (is, (s, r), one) = still same some in
            (is, (one_more_still c.net Sends cable l first s one, r));
      };
      upto = h.upto;
    }

pub received : (cable most left rest end : ℕ) (c d e : Course) → cable < end → InRound Receives cable (suc cable) cable most left end c d → TurnsIn Receives cable left (Ok rest) d e → InRound Sends (cable + 1) (cable + 1) (cable + 1) most rest end c e
received cable most left rest end c d e lt h told =
    let (l, known, first) = cable_at cable end _ _ c d lt h.upto h.round.on in
    let (few, on, still) = turned (pumping most Sends 0 false) Receives cable l most left rest (StillTo (suc cable) cable) c d e known h.round (told l known) in
    subst (λ (n : ℕ). InRound Sends n n n most rest end c e) (up cable) (record {
      round = record {
        few = few;
        on = on;
        still = λ same some.
            let (is, (s, r), one) = still same some in
            (is, (s, one_more_still c.net Receives cable l first r one));
      };
      upto = h.upto;
    })
  where
    up : (n : ℕ) → suc n ≡ n + 1
    up n = omega arith

pub round_breaks : (slot : Slot) (cable s r most left end : ℕ) (c d e : Course) (stop : Stop) → cable < end → InRound slot cable s r most left end c d → TurnsIn slot cable left (Err stop) d e → Part {T = ℕ} (pumping most Sends 0 false) (Err stop) c e
round_breaks slot cable s r most left end c d e stop lt h told =
    let (l, known, first) = cable_at cable end _ _ c d lt h.upto h.round.on in
    breaks (pumping most Sends 0 false) slot cable l left (nat_lt left most) c d e stop known h.round.on (told l known)

-- The round is over.
ends_round : (from : List Task) (slot : Slot) (cable left : ℕ) (any : Bool) (c d : Course) → slice_get d.net.scenario.cables cable ≡ None → Onward from (pumping (suc left) slot cable any) c d → Onward from (next_round (suc left) slot any) c d
ends_round from slot cable left any c d none h =
    unframed from (next_round (suc left) slot any) c d
    (passed from (Pump (suc left) slot cable any) (next_round (suc left) slot any) [] c d h
    (inr (subst (λ (x : Option CableLine). PumpSkips d.net (suc left) slot cable any x (next_round (suc left) slot any)) (sym none) refl)))

no_cable : (cable end : ℕ) (from left : List Task) (c d : Course) → end ≤ cable → end ≡ length c.net.scenario.cables → Onward from left c d → slice_get d.net.scenario.cables cable ≡ None
no_cable cable end from left c d le upto h =
    ap (λ (x : Scenario). slice_get x.cables cable) (same_scenario h.goes) ∙ slice_get_past c.net.scenario.cables cable (subst (λ (x : ℕ). x ≤ cable) upto le)

sends_over : (from : List Task) (cable left : ℕ) (any : Bool) (c d : Course) → slice_get d.net.scenario.cables cable ≡ None → Onward from (pumping left Sends cable any) c d → Onward from (round_then left any) c d
sends_over from cable zero any c d none h = h
sends_over from cable (suc left) any c d none h = ends_round from Sends cable left any c d none h

pub round_over : (cable most left end : ℕ) (c d : Course) → end ≤ cable → cable ≤ end → InRound Sends cable cable cable most left end c d → RoundOf (pumping most Sends 0 false) round_then TurnsStill most left c d
round_over cable most left end c d le ge h = record {
  few = h.round.few;
  on = sends_over (pumping most Sends 0 false) cable left (nat_lt left most) c d (no_cable cable end _ _ c d le h.upto h.round.on) h.round.on;
  still = λ same some.
      let (is, (s, r)) = h.round.still same some in
      (is, (subst (λ (n : ℕ). StillAt c.net Sends n) (at_end cable end le ge ∙ h.upto) s, subst (λ (n : ℕ). StillAt c.net Receives n) (at_end cable end le ge ∙ h.upto) r));
} where
  at_end : (a b : ℕ) → b ≤ a → a ≤ b → a ≡ b
  at_end a b x y = omega arith

-- Timeouts.
pub record InTimeouts (cable most left end : ℕ) (c d : Course) : Type 0 where
  pub round : Rounding (pumping most TimesOut 0 false) TimesOut cable most left (λ (w : Network). StillAt w TimesOut cable) c d
  pub upto : end ≡ length c.net.scenario.cables

pub timeouts_begin : (most end : ℕ) (c : Course) → Ready c.net → end ≡ length c.net.scenario.cables → InTimeouts 0 most most end c c
timeouts_begin most end c ready upto = record {
  round = record {
    few = omega arith;
    on = subst (λ (b : Bool). Onward (pumping most TimesOut 0 false) (pumping most TimesOut 0 b) c c) (sym (not_less most)) (begin (pumping most TimesOut 0 false) c ready);
    still = λ same some. (refl, none_still c.net TimesOut);
  };
  upto = upto;
}

pub timed_out : (cable most left rest end : ℕ) (c d e : Course) → cable < end → InTimeouts cable most left end c d → TurnsIn TimesOut cable left (Ok rest) d e → InTimeouts (cable + 1) most rest end c e
timed_out cable most left rest end c d e lt h told =
    let (l, known, first) = cable_at cable end _ _ c d lt h.upto h.round.on in
    let (few, on, still) = turned (pumping most TimesOut 0 false) TimesOut cable l most left rest (λ (w : Network). StillAt w TimesOut cable) c d e known h.round (told l known) in
    subst (λ (n : ℕ). InTimeouts n most rest end c e) (up cable) (record {
      round = record {
        few = few;
        on = on;
        still = λ same some.
            let (is, s, one) = still same some in
            (is, one_more_still c.net TimesOut cable l first s one);
      };
      upto = h.upto;
    })
  where
    up : (n : ℕ) → suc n ≡ n + 1
    up n = omega arith

pub timeout_breaks : (cable most left end : ℕ) (c d e : Course) (stop : Stop) → cable < end → InTimeouts cable most left end c d → TurnsIn TimesOut cable left (Err stop) d e → Part {T = ℕ} (pumping most TimesOut 0 false) (Err stop) c e
timeout_breaks cable most left end c d e stop lt h told =
    let (l, known, first) = cable_at cable end _ _ c d lt h.upto h.round.on in
    breaks (pumping most TimesOut 0 false) TimesOut cable l left (nat_lt left most) c d e stop known h.round.on (told l known)

timeouts_past : (from : List Task) (cable left : ℕ) (any : Bool) (c d : Course) → slice_get d.net.scenario.cables cable ≡ None → Onward from (pumping left TimesOut cable any) c d → Onward from (pumping left Sends 0 false) c d
timeouts_past from cable zero any c d none h = h
timeouts_past from cable (suc left) any c d none h = ends_round from TimesOut cable left any c d none h

pub timeouts_over : (cable most left end : ℕ) (c d : Course) → end ≤ cable → cable ≤ end → InTimeouts cable most left end c d → RoundOf (pumping most TimesOut 0 false) from_start TimeoutsStill most left c d
timeouts_over cable most left end c d le ge h = record {
  few = h.round.few;
  on = timeouts_past (pumping most TimesOut 0 false) cable left (nat_lt left most) c d (no_cable cable end _ _ c d le h.upto h.round.on) h.round.on;
  still = λ same some.
      let (is, s) = h.round.still same some in
      (is, subst (λ (n : ℕ). StillAt c.net TimesOut n) (at_end cable end le ge ∙ h.upto) s);
} where
  at_end : (a b : ℕ) → b ≤ a → a ≤ b → a ≡ b
  at_end a b x y = omega arith

-- A round, and where none was taken in it, timeouts.
pub some_taken : (most rest : ℕ) (c d : Course) → rest < most → RoundOf (pumping most Sends 0 false) round_then TurnsStill most rest c d → RoundOf (pumping most Sends 0 false) from_start AllStill most rest c d
some_taken most rest c d lt h = record {
  few = h.few;
  on = so rest (subst (λ (b : Bool). Onward (pumping most Sends 0 false) (round_then rest b) c d) (is_any rest most (omega arith)) h.on);
  still = λ same some. absurd (not_both same lt);
} where
  not_both : rest ≡ most → rest < most → ⊥
  not_both a b = omega arith

  so : (n : ℕ) → Onward (pumping most Sends 0 false) (round_then n true) c d → Onward (pumping most Sends 0 false) (pumping n Sends 0 false) c d
  so zero x = x
  so (suc n) x = x

at_timeouts : (most rest : ℕ) (c d : Course) → rest ≡ most → RoundOf (pumping most Sends 0 false) round_then TurnsStill most rest c d → Onward (pumping most Sends 0 false) (pumping rest TimesOut 0 false) c d
at_timeouts most rest c d same h =
    so rest (subst (λ (b : Bool). Onward (pumping most Sends 0 false) (round_then rest b) c d) (subst (λ (n : ℕ). nat_lt rest n ≡ false) same (not_less rest)) h.on)
  where
    so : (n : ℕ) → Onward (pumping most Sends 0 false) (round_then n false) c d → Onward (pumping most Sends 0 false) (pumping n TimesOut 0 false) c d
    so zero x = x
    so (suc n) x = x

all_same : (most rest : ℕ) → rest ≤ most → (rest < most → ⊥) → rest ≡ most
all_same most rest le not_less_so = at_it (same_or_less rest most le)
  where
    at_it : (rest ≡ most) ⊎ (rest < most) → rest ≡ most
    at_it (inl e) = e
    at_it (inr lt) = absurd (not_less_so lt)

pub none_taken : (most rest last : ℕ) (c d e : Course) → (rest < most → ⊥) → RoundOf (pumping most Sends 0 false) round_then TurnsStill most rest c d → RoundOf (pumping rest TimesOut 0 false) from_start TimeoutsStill rest last d e
    → RoundOf (pumping most Sends 0 false) from_start AllStill most last c e
none_taken most rest last c d e not_so h x =
    let same = all_same most rest h.few not_so in
    record {
      few = subst (λ (n : ℕ). last ≤ n) same x.few;
      on = after (pumping most Sends 0 false) (pumping rest TimesOut 0 false) (pumping last Sends 0 false) c d e (at_timeouts most rest c d same h) x.on;
      still = λ all some.
          let (is, (s, r)) = h.still same some in
          let (is_too, t) = x.still (all ∙ sym same) (subst (λ (n : ℕ). 0 < n) (sym same) some) in
          (is_too ∙ is, by_slot s r (subst (λ (y : Course). TimeoutsStill y.net) is t));
    }
  where
    by_slot : StillAt c.net Sends (length c.net.scenario.cables) → StillAt c.net Receives (length c.net.scenario.cables) → TimeoutsStill c.net → AllStill c.net
    by_slot s r t Sends = s
    by_slot s r t Receives = r
    by_slot s r t TimesOut = t

pub timeouts_break : (most rest : ℕ) (c d e : Course) (stop : Stop) → (rest < most → ⊥) → RoundOf (pumping most Sends 0 false) round_then TurnsStill most rest c d → Part {T = ℕ} (pumping rest TimesOut 0 false) (Err stop) d e
    → Part {T = ℕ} (pumping most Sends 0 false) (Err stop) c e
timeouts_break most rest c d e stop not_so h part =
    ended_part stop (at_timeouts most rest c d (all_same most rest h.few not_so) h) part
  where
    ended_part : (s : Stop) → Onward (pumping most Sends 0 false) (pumping rest TimesOut 0 false) c d → Part {T = ℕ} (pumping rest TimesOut 0 false) (Err s) d e → Part {T = ℕ} (pumping most Sends 0 false) (Err s) c e
    ended_part stops.NoMemory o p = record { left = p.left; goes = on o.goes p.goes; marks = p.marks ∙ o.marks; ends = tt }
    ended_part (stops.Spent m) o p = record { left = p.left; goes = on o.goes p.goes; marks = p.marks ∙ o.marks; ends = p.ends }

-- The pump: so many rounds, in each of which a turn was taken.
pub record Pumping (turns rounds left : ℕ) (c d : Course) : Type 0 where
  pub on : Onward (pumping turns Sends 0 false) (pumping left Sends 0 false) c d
  pub few : left + rounds ≤ turns
  pub least : left ≤ turns

pub pump_begins : (turns : ℕ) (c : Course) → Ready c.net → Pumping turns 0 turns c c
pump_begins turns c ready = record { on = begin (pumping turns Sends 0 false) c ready; few = omega arith; least = omega arith }

pub pump_goes_on : (turns rounds left rest : ℕ) (c d e : Course) → Pumping turns rounds left c d → RoundOf (pumping left Sends 0 false) from_start AllStill left rest d e → (rest ≡ left → ⊥) → Pumping turns (rounds + 1) rest c e
pump_goes_on turns rounds left rest c d e h x not_so = record {
  on = after (pumping turns Sends 0 false) (pumping left Sends 0 false) (pumping rest Sends 0 false) c d e h.on x.on;
  few = fewer (same_or_less rest left x.few) h.few;
  least = omega (arith, x.few, h.least);
} where
  fewer : (rest ≡ left) ⊎ (rest < left) → left + rounds ≤ turns → rest + (rounds + 1) ≤ turns
  fewer (inl same) le = absurd (not_so same)
  fewer (inr lt) le = omega arith

from_task : (turns : ℕ) (ts : List Task) (c d : Course) → Ready c.net → Onward (pumping turns Sends 0 false) ts c d → Onward (Pump turns Sends 0 false ∷ []) ts c d
from_task zero ts c d ready h = record { goes = on (passes c.net (Pump 0 Sends 0 false) [] [] stays_there ready.served refl) h.goes; ready = h.ready; marks = h.marks; rests = h.rests }
from_task (suc turns) ts c d ready h = h

part_of : (turns : ℕ) (c d : Course) (stop : Stop) → Ready c.net → Part {T = ℕ} (pumping turns Sends 0 false) (Err stop) c d → Part {T = ℕ} (Pump turns Sends 0 false ∷ []) (Err stop) c d
part_of zero c d stop ready p = record { left = p.left; goes = on (passes c.net (Pump 0 Sends 0 false) [] [] stays_there ready.served refl) p.goes; marks = p.marks; ends = p.ends }
part_of (suc turns) c d stop ready p = p

pub pump_breaks : {U : Type 0} (turns rounds left : ℕ) (c d e : Course) (stop : Stop) → Ready c.net → Pumping turns rounds left c d → Part {T = ℕ} (pumping left Sends 0 false) (Err stop) d e → Part {T = U} (Pump turns Sends 0 false ∷ []) (Err stop) c e
pump_breaks turns rounds left c d e stop ready h part =
    ended_part stop (from_task turns (pumping left Sends 0 false) c d ready h.on) part
  where
    ended_part : {U : Type 0} (s : Stop) → Onward (Pump turns Sends 0 false ∷ []) (pumping left Sends 0 false) c d → Part {T = ℕ} (pumping left Sends 0 false) (Err s) d e → Part {T = U} (Pump turns Sends 0 false ∷ []) (Err s) c e
    ended_part stops.NoMemory o p = record { left = p.left; goes = on o.goes p.goes; marks = p.marks ∙ o.marks; ends = tt }
    ended_part (stops.Spent m) o p = record { left = p.left; goes = on o.goes p.goes; marks = p.marks ∙ o.marks; ends = p.ends }

-- In the last round none was taken: not_so turn is left, or nothing can change.
pub record PumpEnds (turns left : ℕ) (c e : Course) : Type 0 where
  pub on : Onward (Pump turns Sends 0 false ∷ []) [] c e
  pub all : is_idle e.net ≡ false → left ≡ 0

pub pump_rests : (turns rounds left rest : ℕ) (c d e : Course) → Ready c.net → Pumping turns rounds left c d → RoundOf (pumping left Sends 0 false) from_start AllStill left rest d e → rest ≡ left
    → (AllStill e.net → is_idle e.net ≡ true) → PumpEnds turns left c e
pump_rests turns rounds left rest c d e ready h x same law = at_left left refl
  where
    on_e : Onward (Pump turns Sends 0 false ∷ []) (pumping rest Sends 0 false) c e
    on_e = from_task turns (pumping rest Sends 0 false) c e ready (after (pumping turns Sends 0 false) (pumping left Sends 0 false) (pumping rest Sends 0 false) c d e h.on x.on)

    not_idle : is_idle e.net ≡ true → is_idle e.net ≡ false → left ≡ 0
    not_idle a b = absurd (clash a b)
      where
        clash : is_idle e.net ≡ true → is_idle e.net ≡ false → ⊥
        clash p q = cc

    at_left : (n : ℕ) → left ≡ n → PumpEnds turns left c e
    at_left zero is = record { on = subst (λ (m : ℕ). Onward (Pump turns Sends 0 false ∷ []) (pumping m Sends 0 false) c e) (same ∙ is) on_e; all = λ not_so. is }
    at_left (suc n) is =
        let (still_is, still) = x.still same (subst (λ (m : ℕ). 0 < m) (sym is) (omega arith)) in
        let idle = law (subst (λ (y : Course). AllStill y.net) (sym still_is) still) in
        record {
          on = passed (Pump turns Sends 0 false ∷ []) (Pump (suc n) Sends 0 false) [] [] c e (subst (λ (m : ℕ). Onward (Pump turns Sends 0 false ∷ []) (pumping m Sends 0 false) c e) (same ∙ is) on_e) (inl (idle, refl));
          all = λ not_so. not_idle idle not_so;
        }

pub pump_ends : (turns rounds left : ℕ) (c d : Course) → Ready c.net → Pumping turns rounds left c d → turns ≤ rounds → PumpEnds turns left c d
pump_ends turns rounds left c d ready h le = record {
  on = subst (λ (m : ℕ). Onward (Pump turns Sends 0 false ∷ []) (pumping m Sends 0 false) c d) (none h.few le) (from_task turns (pumping left Sends 0 false) c d ready h.on);
  all = λ not_so. none h.few le;
} where
  none : left + rounds ≤ turns → turns ≤ rounds → left ≡ 0
  none a b = omega arith
