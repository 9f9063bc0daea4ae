-- The call's clauses from those of what it calls.
use Rattle.std.proofs.Common.{◌≡◌, ℕ, ◌+◌, ◌-◌, ◌<◌, ◌≤◌, ◌^◌, Bool, false, List, [], refl, ap, arith, sym, subst, ◌∙◌}
use Rattle.std.specs.Prelude.{Option, Some, None, if◌then◌else◌}
use Rattle.mq_disk.specs.declared.cutter.Stop.{Stop}
use Rattle.mq_calls.specs.declared.deltas.Did.{Did}
use Rattle.mq_calls.specs.declared.choices.Return.TheVariants.{Comes}
use Rattle.mq_log.specs.declared.images.Found.{Found}
use Rattle.mq_log.specs.declared.images.Found.TheVariants.{Before, After, Other}
use Rattle.mq_calls.specs.State.{Plain, Running}
use Rattle.mq_calls.specs.State.Running.{Up, Down}
use Rattle.mq_calls.specs.declared.image.Image.{Image}
use Rattle.mq_calls.specs.Counts.{starts_of as starts_in}
use Rattle.mq_calls.specs.Words.{is_up}
use Rattle.mq_restart.specs.from_core.Ties.{Tied}
use Rattle.mq_restart.specs.from_core.Values.{CoreValue, bodies_in}
use Rattle.mq_restart.specs.from_core.Views.{PartsValue, plain_of, frozen_of}
use Rattle.mq_restart.specs.declared.reading.Unraised.{Unraised}
use Rattle.mq_restart.specs.Raised.{Raises}
use Rattle.mq_restart.specs.from_redo.Redone.{redone_of}
use Rattle.mq_restart.specs.declared.reading.LogRead.{LogRead}
use Rattle.mq_restart.specs.declared.reading.LogRead.TheVariants as reads
use Rattle.mq_restart.specs.declared.reading.Returned.{Returned}
use Rattle.mq_restart.specs.Stands.{read_found, read_up, read_fallen, is_kept, LogStands, CanStart, CanStartAt}
use Rattle.mq_restart.specs.Falls.{fallen, starts_of}
use Rattle.mq_restart.specs.Returned.{returned_as, IsOfImage, Ends, CameUp, CameUpAs, Stayed}
use Rattle.mq_restart.proofs.FallenLaws.{IsDown, is_down, down_running}
use Rattle.mq_restart.proofs.RiseLaws.{rise_tied}
use Rattle.mq_restart.proofs.ReturnLaws.{core_seen, rises, rises_stands, rises_later, fall_starts, falls_tied, falls_stayed, falls_stands, falls_later}
use Rattle.mq_restarts.specs.declared.coming.Coming.{Coming}
use Rattle.mq_restarts.specs.declared.restarting.Back.TheVariants.{Own, Foreign}
use Rattle.mq_restarts.specs.Comings.{is_foreign, IsFirstAbove, ComesBack, StaysBack}
use Rattle.mq_restarts.specs.Backs.{IsBack}
use Rattle.mq_restarts.proofs.ComingLaws.{raises_own, FellBack, Near, Far, fell_back}
use Rattle.mq_restarts.proofs.FarLaws.{untold_by, foreign_is, far_tied, far_back, far_stands, far_from}
use Rattle.mq_restarts.proofs.EndLaws.{stopped_mode, stopped_later, stopped_tied, stopped_stayed, stopped_stands}

-- ---- numbers are low

can_start_at : (least : ℕ) (p : Plain) (r : Running) → p.running ≡ r → IsFirstAbove least p → CanStartAt r p
can_start_at least p Up e h = tt
can_start_at least p (Down n starts) e h = let a = h.is in let b = h.low in let c = ap starts_in e in omega (arith, a, b, c)

pub can_start : (least : ℕ) (p : Plain) → IsFirstAbove least p → CanStart p
can_start least p h = can_start_at least p p.running refl h

down_of : (x : PartsValue) (dids : List Did) (s : Option Stop) (old : CoreValue) → core_seen x dids s ≡ old → is_up old.plain.running ≡ false → IsDown x.mode
down_of x dids s old v down = is_down (frozen_of x) x.mode (subst (λ (o : CoreValue). is_up o.plain.running ≡ false) (sym v) down)

-- ---- it came up from its own log

own_known : (read : LogRead) (found : Found) → is_foreign (read_found read found) ≡ false → read_found read found ≡ reads.Known (is_kept (read_found read found))
own_known reads.Unread Before e = refl
own_known reads.Unread After e = refl
own_known reads.Unread Other e = absurd cc
own_known (reads.Known kept) Before e = refl
own_known (reads.Known kept) After e = refl
own_known (reads.Known kept) Other e = absurd cc
own_known reads.Foreign found e = absurd cc

pub coming_as : (tells : Type 0) (read : LogRead) (least : ℕ) (x y : PartsValue) (c : Coming) (o : Option Image) → c.image ≡ o → ComesBack tells read least x c y → ComesBack tells read least x (record { found = c.found; length = c.length; image = o }) y
coming_as tells read least x y c o e h = subst (λ (k : Option Image). ComesBack tells read least x (record { found = c.found; length = c.length; image = k }) y) e h

module _ (tells : Type 0) (x y : PartsValue) (dids : List Did) (s : Option Stop) (old : CoreValue) (read : LogRead) (least found_long : ℕ) (found : Found) (v : core_seen x dids s ≡ old) (down : is_up old.plain.running ≡ false)
    (stands : LogStands tells read old.log old.plain) (tied : Tied x) (above_all : IsFirstAbove least old.plain) where
  here : IsFirstAbove least (plain_of x)
  here = subst (λ (o : CoreValue). IsFirstAbove least o.plain) (sym v) above_all

  stands_here : LogStands tells read (bodies_in x.log) (plain_of x)
  stands_here = subst (λ (o : CoreValue). LogStands tells read o.log o.plain) (sym v) stands

  module _ (c : ComesBack tells read least x (record { found = found; length = found_long; image = None }) y) where
    raised : Raises tells x found y
    raised = raises_own tells found x y c.log c.read_again c.comes.1

    pub comes_own : (new : CoreValue) (known : LogRead) (kept : Bool) (started : ℕ) → old.delta ≡ redone_of old.plain → known ≡ read_found read found → kept ≡ is_kept known → started ≡ y.incarnation - x.incarnation - 1
        → new.plain ≡ plain_of y → new.log ≡ bodies_in y.log → new.delta ≡ (if kept then dids else []) → IsBack tells old.plain (Own kept started) new
    comes_own new known kept started told known_is kept_is started_is plain log delta =
        let came : CameUp tells old.plain (returned_as known x.incarnation y.incarnation) new =
        rises tells x y dids s old new read found known kept (returned_as known x.incarnation y.incarnation) v down told stands raised tied known_is kept_is plain log delta refl in
        let is : known ≡ reads.Known kept = known_is ∙ own_known read found c.comes.0 ∙ ap (λ (k : LogRead). reads.Known (is_kept k)) (sym known_is) ∙ ap reads.Known (sym kept_is) in
        let ended : Ends tells (Comes kept (y.incarnation - x.incarnation - 1)) old.plain new =
        subst (λ (k : Returned). CameUpAs tells old.plain k new) (ap (λ (k : LogRead). returned_as k x.incarnation y.incarnation) is) came.ends in
        let ends : Ends tells (Comes kept started) old.plain new = subst (λ (n : ℕ). Ends tells (Comes kept n) old.plain new) (sym started_is) ended in
        record { ends = ends; image = came.image }

    pub comes_own_stands : (known next : LogRead) → known ≡ read_found read found → next ≡ read_up y.incarnation known → LogStands tells next (bodies_in y.log) (plain_of y)
    comes_own_stands known next known_is next_is = rises_stands tells x y dids s old read found known next v down stands (can_start least old.plain above_all) raised tied known_is next_is

    pub comes_own_later : old.faults ≤ y.log.faults
    comes_own_later = rises_later tells x y dids s old found v raised

    pub comes_own_tied : Tied y
    comes_own_tied = rise_tied tells x y found raised tied

  -- ---- from one that was changed from outside
  module _ (i : Image) (c : ComesBack tells read least x (record { found = found; length = found_long; image = Some i }) y) where
    untold : tells → ⊥
    untold = untold_by tells read found x.log c.log (bodies_in x.log) (plain_of x) c.comes.0 c.read_again stands_here

    pub comes_far : (new : CoreValue) (left : ℕ) → left ≡ y.log.armed → new.plain ≡ plain_of y → new.delta ≡ [] → IsBack tells old.plain (Foreign i found_long left) new
    comes_far new left at plain delta = subst (λ (o : CoreValue). IsBack tells o.plain (Foreign i found_long left) new) v (record {
      ends = far_from tells least x y found c.log i c.read_again c.comes.1 above_all.low (down_of x dids s old v down) new found_long left here untold plain delta c.long at;
      image = subst IsOfImage (sym plain) (far_back tells least x y found c.log i c.read_again c.comes.1 above_all.low);
    })

    pub comes_far_stands : (known next : LogRead) → known ≡ read_found read found → next ≡ read_up y.incarnation known → LogStands tells next (bodies_in y.log) (plain_of y)
    comes_far_stands known next known_is next_is =
        subst (λ (k : LogRead). LogStands tells k (bodies_in y.log) (plain_of y)) (sym (next_is ∙ ap (read_up y.incarnation) (known_is ∙ foreign_is (read_found read found) c.comes.0)))
        (far_stands tells least x y found c.log i c.read_again c.comes.1 above_all.low untold)

    pub comes_far_later : old.faults ≤ y.log.faults
    comes_far_later =
        let a = c.read_again.later in
        let b = c.comes.1.rises.raised.started.later in
        let d = ap (λ (o : CoreValue). o.faults) v in
        omega (arith, a, b, d)

    pub comes_far_tied : Tied y
    comes_far_tied = far_tied tells least x y found c.log i c.read_again c.comes.1 above_all.low tied

-- ---- it stayed down

module _ (tells : Type 0) (x y : PartsValue) (dids : List Did) (s : Option Stop) (old : CoreValue) (read : LogRead) (least : ℕ) (e : Unraised) (v : core_seen x dids s ≡ old) (down : is_up old.plain.running ≡ false)
    (stands : LogStands tells read old.log old.plain) (above_all : IsFirstAbove least old.plain) (back : StaysBack tells read least x e y) where
  low : CanStart old.plain
  low = can_start least old.plain above_all

  pub stays_starts : starts_of y.mode + 1 < 2 ^ 64
  stays_starts = by (fell_back tells read least x y e back)
    where
      d : IsDown x.mode
      d = down_of x dids s old v down

      by : FellBack tells read x e y → starts_of y.mode + 1 < 2 ^ 64
      by (Near fell) = fall_starts tells x y dids s old e v down low fell
      by (Far f) =
          let a = ap starts_of (stopped_mode tells read x y e f ∙ d.is) in
          let b = subst (λ (k : Running). CanStartAt k (plain_of x)) (down_running x d) (subst (λ (o : CoreValue). CanStart o.plain) (sym v) low) in
          omega (arith, a, b)

  pub stays_tied : (z : PartsValue) (length armed : ℕ) → Tied x → z ≡ fallen read length armed e y → Tied z
  stays_tied z length armed tied is = by (fell_back tells read least x y e back)
    where
      by : FellBack tells read x e y → Tied z
      by (Near fell) = falls_tied tells x y z dids s old read length armed e v down fell tied is
      by (Far f) = stopped_tied tells read x y e f length armed z (down_of x dids s old v down) tied is

  pub stays_stayed : (z : PartsValue) (new : CoreValue) (length armed left : ℕ) → length ≡ (plain_of x).log.length → armed ≡ x.log.armed → z ≡ fallen read length armed e y → left ≡ z.log.armed → new.plain ≡ plain_of z → new.delta ≡ [] → new.faults ≡ z.log.faults
      → Stayed tells old.plain old.faults (record { fault = e.fault; in_write = e.in_write; left = left }) new
  stays_stayed z new length armed left long same is left_is plain told count = by (fell_back tells read least x y e back)
    where
      here : z ≡ fallen read (plain_of x).log.length x.log.armed e y
      here = is ∙ ap (λ (n : ℕ). fallen read n armed e y) long ∙ ap (λ (n : ℕ). fallen read (plain_of x).log.length n e y) same

      by : FellBack tells read x e y → Stayed tells old.plain old.faults (record { fault = e.fault; in_write = e.in_write; left = left }) new
      by (Near fell) = falls_stayed tells x y z dids s old new read length armed left e v down stands fell long same is left_is plain told count
      by (Far f) =
          subst (λ (o : CoreValue). Stayed tells o.plain o.faults (record { fault = e.fault; in_write = e.in_write; left = left }) new) v
          (subst (λ (n : ℕ). Stayed tells (plain_of x) x.log.faults (record { fault = e.fault; in_write = e.in_write; left = n }) new) (sym left_is)
          (stopped_stayed tells read x y e f (down_of x dids s old v down) z new
          (untold_by tells read f.found x.log f.log (bodies_in x.log) (plain_of x) f.foreign f.read_again (subst (λ (o : CoreValue). LogStands tells read o.log o.plain) (sym v) stands)) here plain told count))

  pub stays_stands : (z : PartsValue) (next : LogRead) (length armed : ℕ) → length ≡ (plain_of x).log.length → armed ≡ x.log.armed → z ≡ fallen read length armed e y → next ≡ read_fallen e.found read → LogStands tells next (bodies_in z.log) (plain_of z)
  stays_stands z next length armed long same is next_is = by (fell_back tells read least x y e back)
    where
      by : FellBack tells read x e y → LogStands tells next (bodies_in z.log) (plain_of z)
      by (Near fell) = falls_stands tells x y z dids s old read next length armed e v down stands low fell long same is next_is
      by (Far f) =
          subst (λ (k : LogRead). LogStands tells k (bodies_in z.log) (plain_of z)) (sym next_is)
          (stopped_stands tells read x y e f (bodies_in z.log) (plain_of z)
          (untold_by tells read f.found x.log f.log (bodies_in x.log) (plain_of x) f.foreign f.read_again (subst (λ (o : CoreValue). LogStands tells read o.log o.plain) (sym v) stands)))

  pub stays_later : (z : PartsValue) (length armed : ℕ) → z ≡ fallen read length armed e y → old.faults ≤ z.log.faults
  stays_later z length armed is = by (fell_back tells read least x y e back)
    where
      by : FellBack tells read x e y → old.faults ≤ z.log.faults
      by (Near fell) = falls_later tells x y z dids s old read length armed e v fell is
      by (Far f) =
          let a = stopped_later tells read x y e f in
          let b = ap (λ (w : PartsValue). w.log.faults) is in
          let c = ap (λ (o : CoreValue). o.faults) v in
          omega (arith, a, b, c)
