-- A manager that came up: as its history says, or from other bytes.
use Rattle.std.proofs.Common.{◌≡◌, ℕ, zero, suc, ◌+◌, ◌-◌, ◌<◌, ◌≤◌, ◌^◌, Bool, true, false, [], refl, ap, arith, sym, subst, ◌∙◌, inl, inr}
use Rattle.std.specs.Prelude.{Option, Some, None, Ok, nat_lt, if◌then◌else◌}
use Rattle.std.proofs.lemmas.Bool.Decides.{nat_tests}
use Rattle.mq_log.specs.declared.images.Found.{Found}
use Rattle.mq_log.specs.declared.images.Found.TheVariants.{Before, After, Other}
use Rattle.mq_log.specs.Force.{Stops}
use Rattle.mq_log.specs.Open.{EndsByOneOrThree}
use Rattle.mq_log.specs.State.{log_length}
use Rattle.mq_calls.specs.declared.choices.Return.TheVariants.{Comes}
use Rattle.mq_calls.specs.State.{Plain, Noted, Running}
use Rattle.mq_calls.specs.State.Running.{Up, Down}
use Rattle.mq_calls.specs.Images.{begun, raised}
use Rattle.mq_spec_manager.specs.Stops.{restart_at, redone_delta, started_need, calls_of_restart, Spent}
use Rattle.mq_redo.specs.from_core.Ties.{Tied}
use Rattle.mq_redo.specs.from_core.Values.{CoreValue, bodies_in}
use Rattle.mq_redo.specs.from_core.Views.{PartsValue, plain_of, frozen_of, noted}
use Rattle.mq_restart.specs.Begun.{given_by}
use Rattle.mq_restart.specs.Raised.{Raises, ComesUp, given_of}
use Rattle.mq_restart.proofs.RaiseLaws.{comes_up, most_kept}
use Rattle.mq_redo.specs.Redone.{redone_of, noted_in}
use Rattle.mq_restart.specs.declared.reading.LogRead.{LogRead}
use Rattle.mq_restart.specs.declared.reading.LogRead.TheVariants.{Unread, Known, Foreign}
use Rattle.mq_restart.specs.Stands.{read_found, read_up, unread_if, is_kept, LogStandsAt, LogStands, CanStart, CanStartAt}
use Rattle.mq_restart.specs.Returned.{returned_as, Ends, CanEnd, CameUpAs, CameUp, ComesForeign, IsOfImage}
use Rattle.mq_restart.proofs.FallenLaws.{IsDown, down_running}
use Rattle.mq_restart.proofs.RiseLaws.{rise_seen, rise_running, rise_image, rise_log, rise_stands}

-- what is known of one that came up
abbrev pub RiseAs : Type 0 → LogRead → Option Noted → ℕ → PartsValue → PartsValue → Type 0
RiseAs tells Unread n starts x y = ⊥
RiseAs tells (Known kept) n starts x y = ComesUp kept n starts x y
RiseAs tells Foreign n starts x y = tells → ⊥

pub rise_as : (tells : Type 0) (read : LogRead) (found : Found) (n : Option Noted) (starts : ℕ) (x y : PartsValue) → Raises tells x found y → Tied x → LogStandsAt tells read (Down n starts) (bodies_in x.log) (plain_of x)
    → RiseAs tells (read_found read found) n starts x y
rise_as tells Unread Before n starts x y r t s = comes_up tells None n starts x y Before r (λ e. absurd cc) t s
rise_as tells Unread After n starts x y r t s = comes_up tells None n starts x y After r (λ e. absurd cc) t s
rise_as tells Unread Other n starts x y r t s = λ k. r.read.known k refl
rise_as tells (Known kept) Before n starts x y r t s = comes_up tells (Some (record { kept = kept; length = (plain_of x).log.length })) n starts x y Before r (λ e. absurd cc) t s
rise_as tells (Known kept) After n starts x y r t s = comes_up tells (Some (record { kept = kept; length = (plain_of x).log.length })) n starts x y After r (λ e. absurd cc) t s
rise_as tells (Known kept) Other n starts x y r t s = λ k. r.read.known k refl
rise_as tells Foreign found n starts x y r t s = s

-- ---- as its history says

redone_down : (n : Option Noted) (starts : ℕ) (p : Plain) → p.running ≡ Down n starts → redone_of p ≡ redone_delta true n p
redone_down n starts p e = ap (λ (r : Running). redone_delta true (noted_in r) p) e

kept_delta : (kept : Bool) (n : Option Noted) (starts : ℕ) (p : Plain) → p.running ≡ Down n starts → (if kept then redone_of p else []) ≡ redone_delta kept n p
kept_delta true n starts p e = redone_down n starts p e
kept_delta false n starts p e = refl

came_own : (tells : Type 0) (kept : Bool) (n : Option Noted) (starts : ℕ) (x y : PartsValue) (new : CoreValue) → new.plain ≡ plain_of y → (plain_of x).running ≡ Down n starts
    → new.delta ≡ (if kept then redone_of (plain_of x) else []) → (c : ComesUp kept n starts x y) → Ends tells (Comes kept c.started) (plain_of x) new
came_own tells kept n starts x y new is down told c = record {
  can = subst (λ (r : Running). CanEnd tells (Comes kept c.started) r (plain_of x)) (sym down) ((c.can, c.few, c.calls), λ t. (c.can, c.few, c.calls));
  plain = is ∙ c.plain ∙ ap (λ (r : Running). (restart_at r (Comes kept c.started) (plain_of x)).next) (sym down);
  delta = told ∙ kept_delta kept n starts (plain_of x) down ∙ ap (λ (r : Running). (restart_at r (Comes kept c.started) (plain_of x)).delta) (sym down);
}

-- ---- from other bytes

pub three : (armed mid left n : ℕ) → 1 ≤ n → n ≤ 3 → mid ≡ armed - n → (0 < armed → n < armed) → left ≡ mid - 4 → (0 < mid → 4 < mid) → Spent calls_of_restart 7 armed left
three zero mid left n low high a b c d = inl (refl, omega (arith, a, c))
three (suc m) mid left n low high a b c d =
    let lt : n < suc m = b (omega arith) in
    let more : 4 < mid = d (omega (arith, a, lt)) in
    inr (omega (arith, c, more), omega (arith, a, c, more, low), omega (arith, a, c, more, high))

spent_by : (armed mid left : ℕ) (found : Found) → EndsByOneOrThree {T = Found} armed (Ok found) mid → Stops mid (Ok tt) left → Spent calls_of_restart 7 armed left
spent_by armed mid left found (inl e) s = three armed mid left 1 (omega arith) (omega arith) e.0 e.1 s.0 s.1
spent_by armed mid left found (inr e) s = three armed mid left 3 (omega arith) (omega arith) e.0 e.1 s.0 s.1

came_foreign : (tells : Type 0) (x y : PartsValue) (found : Found) (new : CoreValue) → (tells → ⊥) → (r : Raises tells x found y) → new.plain ≡ plain_of y → new.log ≡ bodies_in y.log → new.delta ≡ [] → ComesForeign tells (plain_of x) new
came_foreign tells x y found new untold r is log told = record {
  untold = untold;
  bodies = r.log.bodies;
  told = r.told.told;
  read = r.told.read;
  plain = is ∙ rise_seen tells x y found r ∙ foreign_log;
  log = log ∙ rise_log tells x y found r;
  delta = told;
  calls = subst (λ (n : ℕ). Spent calls_of_restart 7 x.log.armed n) (sym (ap (λ (p : Plain). p.log.armed) is)) (spent_by x.log.armed r.log.armed y.log.armed found r.read.ends r.raised.started.ends);
}
  where
    foreign_log : begun (given_of x) (raised 0 r.told.told) (record { length = log_length y.log.bodies; armed = y.log.armed }) x.moment
        ≡ begun (given_of x) (raised 0 r.told.told) (record { length = log_length r.log.bodies + started_need (given_of x); armed = new.plain.log.armed }) x.moment
    foreign_log =
        ap (λ (n : ℕ). begun (given_of x) (raised 0 r.told.told) (record { length = n; armed = y.log.armed }) x.moment) (r.raised.started.long ∙ ap (λ (n : ℕ). log_length r.log.bodies + started_need (given_by x.number x.name n)) (most_kept tells x y found r))
        ∙ ap (λ (n : ℕ). begun (given_of x) (raised 0 r.told.told) (record { length = log_length r.log.bodies + started_need (given_of x); armed = n }) x.moment) (sym (ap (λ (p : Plain). p.log.armed) is))

-- ---- both

one_less : (a b s : ℕ) → b ≡ a + s + 1 → b - a - 1 ≡ s
one_less a b s e = omega (arith, e)

came_as : (tells : Type 0) (k : LogRead) (n : Option Noted) (starts : ℕ) (x y : PartsValue) (found : Found) (new : CoreValue) → Raises tells x found y → RiseAs tells k n starts x y → new.plain ≡ plain_of y → new.log ≡ bodies_in y.log → (plain_of x).running ≡ Down n starts
    → new.delta ≡ (if is_kept k then redone_of (plain_of x) else []) → CameUpAs tells (plain_of x) (returned_as k x.incarnation y.incarnation) new
came_as tells Unread n starts x y found new r h is log down told = absurd h
came_as tells (Known kept) n starts x y found new r h is log down told =
    subst (λ (s : ℕ). Ends tells (Comes kept s) (plain_of x) new) (sym (one_less x.incarnation y.incarnation h.started h.number)) (came_own tells kept n starts x y new is down told h)
came_as tells Foreign n starts x y found new r h is log down told = came_foreign tells x y found new h r is log told

pub came_up : (tells : Type 0) (read : LogRead) (found : Found) (x y : PartsValue) (d : IsDown x.mode) (new : CoreValue) → Raises tells x found y → Tied x → LogStands tells read (bodies_in x.log) (plain_of x) → new.plain ≡ plain_of y → new.log ≡ bodies_in y.log
    → new.delta ≡ (if is_kept (read_found read found) then redone_of (plain_of x) else []) → CameUp tells (plain_of x) (returned_as (read_found read found) x.incarnation y.incarnation) new
came_up tells read found x y d new r t s is log told = record {
  ends = came_as tells (read_found read found) (noted (frozen_of x) d.write) d.starts x y found new r
      (rise_as tells read found (noted (frozen_of x) d.write) d.starts x y r t (subst (λ (k : Running). LogStandsAt tells read k (bodies_in x.log) (plain_of x)) (down_running x d) s))
      is log (down_running x d) told;
  image = subst IsOfImage (sym is) (rise_image tells x y found r);
}

-- what its log then tells
up_as : (tells : Type 0) (k : LogRead) (n : Option Noted) (starts : ℕ) (x y : PartsValue) (found : Found) → Raises tells x found y → RiseAs tells k n starts x y → x.incarnation + starts + 1 < 2 ^ 61 → LogStandsAt tells (read_up y.incarnation k) Up (bodies_in y.log) (plain_of y)
up_as tells Unread n starts x y found r h low = absurd h
up_as tells (Known kept) n starts x y found r h low = rise_stands tells x y found r (let e = h.number in let few = h.few in omega (arith, e, few, low))
up_as tells Foreign n starts x y found r h low = by (nat_lt y.incarnation 2305843009213693952) refl
  where
    below : (m : ℕ) → nat_lt m 2305843009213693952 ≡ true → m < 2 ^ 61
    below m e = grind (arith, nat_tests, e)

    by : (b : Bool) → nat_lt y.incarnation 2305843009213693952 ≡ b → LogStandsAt tells (unread_if b) Up (bodies_in y.log) (plain_of y)
    by true e = rise_stands tells x y found r (below y.incarnation e)
    by false e = h

pub up_stands : (tells : Type 0) (read : LogRead) (found : Found) (x y : PartsValue) (d : IsDown x.mode) → Raises tells x found y → Tied x → LogStands tells read (bodies_in x.log) (plain_of x) → CanStart (plain_of x)
    → LogStands tells (read_up y.incarnation (read_found read found)) (bodies_in y.log) (plain_of y)
up_stands tells read found x y d r t s low =
    subst (λ (k : Running). LogStandsAt tells (read_up y.incarnation (read_found read found)) k (bodies_in y.log) (plain_of y)) (sym (rise_running tells x y found r))
    (up_as tells (read_found read found) (noted (frozen_of x) d.write) d.starts x y found r
    (rise_as tells read found (noted (frozen_of x) d.write) d.starts x y r t (subst (λ (k : Running). LogStandsAt tells read k (bodies_in x.log) (plain_of x)) (down_running x d) s))
    (subst (λ (k : Running). CanStartAt k (plain_of x)) (down_running x d) low))
