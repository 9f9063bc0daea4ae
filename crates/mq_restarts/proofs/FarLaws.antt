-- A manager that came up from a log that was changed from outside.
use Rattle.std.proofs.Common.{◌≡◌, ℕ, ◌+◌, ◌-◌, ◌<◌, ◌≤◌, ◌^◌, Bool, true, false, List, [], ◌∷◌, ◌++◌, length, refl, ap, arith, sym, subst, ◌∙◌, inl, inr}
use Rattle.std.specs.Prelude.{Option, Ok, max, nat_lt}
use Rattle.std.proofs.lemmas.Bool.Decides.{nat_tests}
use Rattle.std.proofs.lemmas.List.{length-append}
use Rattle.mq_log.specs.declared.images.Found.{Found}
use Rattle.mq_log.specs.declared.images.Found.TheVariants.{Before, After, Other}
use Rattle.mq_log.specs.Force.{Stops}
use Rattle.mq_log.specs.Open.{EndsByOneOrThree}
use Rattle.mq_log.specs.State.{LogState, log_length}
use Rattle.mq_spec_node.specs.from_history.ChanceVariants as chances
use Rattle.mq_restart.specs.from_record.Records.{record_bytes, IsRecord}
use Rattle.mq_calls.specs.State.{Plain, Noted, Running, LogState as PlainLog}
use Rattle.mq_calls.specs.State.Running.{Up, Down}
use Rattle.mq_calls.specs.Images.{begun, raised}
use Rattle.mq_calls.specs.declared.image.Image.{Image}
use Rattle.mq_calls.specs.Counts.{starts_of}
use Rattle.mq_restart.specs.from_spec_manager.Stops.{started_record, started_need, calls_of_restart, Spent}
use Rattle.mq_restart.specs.from_spec_log.Applies.Start.{Later}
use Rattle.mq_restart.specs.from_spec_log.Bodies.{image}
use Rattle.mq_restart.proofs.from_law_image.Logged.{image_text}
use Rattle.mq_restart.specs.from_law_image.Tells.{Tells}
use Rattle.mq_restart.specs.from_core.Ties.{Tied}
use Rattle.mq_restart.specs.from_core.Values.{CoreValue, LogBodies, bodies_in}
use Rattle.mq_restart.specs.from_core.Views.{PartsValue, plain_of, frozen_of, noted}
use Rattle.mq_restart.specs.Begun.{given_by, begun_parts, IsFresh, IsStarted}
use Rattle.mq_restart.specs.Raised.{given_of, with_log, HasRead}
use Rattle.mq_restart.proofs.RaiseLaws.{tied_body}
use Rattle.mq_restart.proofs.RestartLaws.{redone_incarnation}
use Rattle.mq_restart.proofs.SeenLaws.{begun_seen}
use Rattle.mq_restart.proofs.TieLaws.{begun_tied}
use Rattle.mq_restart.specs.declared.reading.LogRead.{LogRead}
use Rattle.mq_restart.specs.declared.reading.LogRead.TheVariants as reads
use Rattle.mq_restart.specs.Stands.{read_found, read_up, unread_if, LogStandsAt, LogStands, StandsUp}
use Rattle.mq_restart.specs.Returned.{IsOfImage}
use Rattle.mq_restart.proofs.FallenLaws.{IsDown, down_running}
use Rattle.mq_spec_node.specs.Words.{IsForeign, IsReturn}
use Rattle.mq_restart.proofs.OwnLaws.{three}
use Rattle.mq_restarts.specs.Comings.{is_foreign, above, ComesFar, IsFirstAbove}
use Rattle.mq_restarts.specs.Backs.{IsBackFrom}
use Rattle.mq_restarts.proofs.ComingLaws.{most_same}
use Rattle.mq_restarts.proofs.AboveLaws.{above_image, above_known, above_tells}

-- ---- only over a disk that doesn't tell its bytes

untold_at : (tells : Type 0) (running : Running) (log : LogBodies) (p : Plain) → LogStandsAt tells reads.Foreign running log p → tells → ⊥
untold_at tells Up log p s = s
untold_at tells (Down n starts) log p s = s

pub untold_by : (tells : Type 0) (read : LogRead) (found : Found) (old new : LogState) (log : LogBodies) (p : Plain) → is_foreign (read_found read found) ≡ true → HasRead tells old found new → LogStands tells read log p → tells → ⊥
untold_by tells reads.Unread Before old new log p f r s = absurd cc
untold_by tells reads.Unread After old new log p f r s = absurd cc
untold_by tells reads.Unread Other old new log p f r s = λ t. r.known t refl
untold_by tells (reads.Known kept) Before old new log p f r s = absurd cc
untold_by tells (reads.Known kept) After old new log p f r s = absurd cc
untold_by tells (reads.Known kept) Other old new log p f r s = λ t. r.known t refl
untold_by tells reads.Foreign found old new log p f r s = untold_at tells p.running log p s

pub foreign_is : (read : LogRead) → is_foreign read ≡ true → read ≡ reads.Foreign
foreign_is reads.Unread e = absurd cc
foreign_is (reads.Known kept) e = absurd cc
foreign_is reads.Foreign e = refl

-- ---- the calls of its disk

spent_by : (armed mid left : ℕ) (found : Found) → EndsByOneOrThree {T = Found} armed (Ok found) mid → Stops mid (Ok tt) left → Spent calls_of_restart 7 armed left
spent_by armed mid left found (inl e) s = three armed mid left 1 (omega arith) (omega arith) e.0 e.1 s.0 s.1
spent_by armed mid left found (inr e) s = three armed mid left 3 (omega arith) (omega arith) e.0 e.1 s.0 s.1

-- ---- what it is

below : (m : ℕ) → nat_lt m 2305843009213693952 ≡ true → m < 2 ^ 61
below m e = grind (arith, nat_tests, e)

module _ (tells : Type 0) (least : ℕ) (x y : PartsValue) (found : Found) (log : LogState) (i : Image) (r : HasRead tells x.log found log) (c : ComesFar least (with_log log x) i y) (high : least + 1 < 2 ^ 61) where
  max_log : log.max ≡ x.log.max
  max_log = most_same tells found x.log log r

  read : image (given_of x) Later log.bodies ≡ Ok c.told
  read = subst (λ (n : ℕ). image (given_by x.number x.name n) Later log.bodies ≡ Ok c.told) max_log c.is.read

  started : IsStarted (given_of x) c.rises.built log y.log
  started = subst (λ (n : ℕ). IsStarted (given_by x.number x.name n) c.rises.built log y.log) max_log c.rises.raised.started

  fresh : IsFresh x.log.max y.log
  fresh = subst (λ (n : ℕ). IsFresh n y.log) max_log started.fresh

  own : c.rises.built.incarnation ≡ max c.told.incarnation least
  own = c.rises.is.incarnation

  pub far_tied : Tied x → Tied y
  far_tied t = subst Tied (sym c.rises.raised.becomes)
      (tied_body (begun_parts x.number x.name x.moment c.rises.built y.log) x.body fresh.free
      (begun_tied x.number x.name x.moment x.log.max (above least c.told) c.rises.built y.log c.rises.is
      (above_image (given_of x) log.bodies c.told least read c.is.bytes (omega (arith, high))) (above_known (given_of x) log.bodies c.told least read c.is.bytes (omega (arith, high))) fresh started.aside t.max t.moment))

  pub far_seen : plain_of y ≡ begun (given_of x) (raised 0 (above least c.told)) (record { length = log_length y.log.bodies; armed = y.log.armed }) x.moment
  far_seen =
      ap plain_of c.rises.raised.becomes
      ∙ begun_seen x.number x.name x.moment (above least c.told) c.rises.built y.log c.rises.is
      ∙ ap (λ (n : ℕ). begun (given_by x.number x.name n) (raised 0 (above least c.told)) (record { length = log_length y.log.bodies; armed = y.log.armed }) x.moment) fresh.most

  pub far_running : (plain_of y).running ≡ Up
  far_running = ap (λ (p : Plain). p.running) far_seen

  abbrev plain_log : PlainLog
  plain_log = record { length = log_length y.log.bodies; armed = y.log.armed }

  pub far_back : IsOfImage (plain_of y)
  far_back = subst IsOfImage (sym far_seen) (record {
    told = above least c.told;
    log = plain_log;
    well = above_image (given_of x) log.bodies c.told least read c.is.bytes (omega (arith, high));
    known = above_known (given_of x) log.bodies c.told least read c.is.bytes (omega (arith, high));
    texts = image_text (given_of x) Later log.bodies c.told read c.is.bytes;
    plain = refl;
  })

  pub far_number : y.incarnation ≡ max c.told.incarnation least + 1
  far_number = ap (λ (z : PartsValue). z.incarnation) c.rises.raised.becomes ∙ ap (λ (n : ℕ). n + 1) own

  -- its log
  far_bodies : y.log.bodies ≡ log.bodies ++ record_bytes (started_record (given_of x) (max c.told.incarnation least + 1)) ∷ []
  far_bodies = started.bodies ∙ ap (λ (n : ℕ). log.bodies ++ record_bytes (started_record (given_of x) (n + 1)) ∷ []) own

  whole : IsRecord (started_record (given_of x) (max c.told.incarnation least + 1))
  whole = subst (λ (n : ℕ). IsRecord (started_record (given_of x) (n + 1))) own started.is

  top : y.incarnation < 2 ^ 61 → max c.told.incarnation least + 1 < 2 ^ 61
  top lt = let e = far_number in omega (arith, e, lt)

  low : y.incarnation < 2 ^ 61 → c.told.incarnation + 1 < 2 ^ 61
  low lt = let e = far_number in omega (arith, e, lt)

  far_tells : y.incarnation < 2 ^ 61 → Tells Later y.log.bodies (plain_of y)
  far_tells lt =
      subst (λ (p : Plain). Tells Later y.log.bodies p) (sym far_seen)
      (subst (λ (bs : List (List ℕ)). Tells Later bs (begun (given_of x) (raised 0 (above least c.told)) plain_log x.moment)) (sym far_bodies)
      (above_tells (given_of x) log.bodies c.told least x.moment plain_log read c.is.bytes whole (low lt) (top lt)))

  far_stands_up : y.incarnation < 2 ^ 61 → StandsUp (bodies_in y.log) (plain_of y)
  far_stands_up lt = record {
    settled = fresh.settled;
    some = let e = ap (λ (bs : List (List ℕ)). length bs) far_bodies in let l = length-append log.bodies (record_bytes (started_record (given_of x) (max c.told.incarnation least + 1)) ∷ []) in omega (arith, e, l);
    tells = far_tells lt;
    long = ap (λ (p : Plain). p.log.length) far_seen;
  }

  pub far_stands : (tells → ⊥) → LogStands tells (read_up y.incarnation reads.Foreign) (bodies_in y.log) (plain_of y)
  far_stands untold =
      subst (λ (k : Running). LogStandsAt tells (read_up y.incarnation reads.Foreign) k (bodies_in y.log) (plain_of y)) (sym far_running) (by (nat_lt y.incarnation 2305843009213693952) refl)
    where
      by : (b : Bool) → nat_lt y.incarnation 2305843009213693952 ≡ b → LogStandsAt tells (unread_if b) Up (bodies_in y.log) (plain_of y)
      by true e = far_stands_up (below y.incarnation e)
      by false e = untold

  -- It is in no way as the history allows: its incarnation is above all those.
  foreign : (n : Option Noted) (starts length : ℕ) → least ≡ x.incarnation + starts + 1 → IsForeign i length n starts (plain_of x)
  foreign n starts length is kept went can few allowed =
      let a = ap (λ (k : Image). k.incarnation) allowed.read in
      let b = ap (λ (k : Image). k.incarnation) c.image in
      let d = redone_incarnation kept n (plain_of x) in
      omega (arith, a, b, d, is, few)

  long : (length : ℕ) → length ≡ log_length log.bodies → log_length y.log.bodies ≡ length + started_need (given_of x)
  long length e = started.long ∙ ap (λ (n : ℕ). n + started_need (given_of x)) (sym e)

  pub far_from : (d : IsDown x.mode) (new : CoreValue) (length left : ℕ) → IsFirstAbove least (plain_of x) → (tells → ⊥) → new.plain ≡ plain_of y → new.delta ≡ [] → length ≡ log_length log.bodies → left ≡ y.log.armed → IsBackFrom tells i length left (plain_of x) new
  far_from d new length left above_all untold is told read_long at = record {
    untold = untold;
    can = subst (λ (k : Running). IsReturn (chances.Foreign i length left) k (plain_of x)) (sym (down_running x d)) (
      foreign (noted (frozen_of x) d.write) d.starts length (above_all.is ∙ ap (λ (k : Running). x.incarnation + starts_of k + 1) (down_running x d)),
      subst (λ (n : ℕ). Spent calls_of_restart 7 x.log.armed n) (sym at) (spent_by x.log.armed log.armed y.log.armed found r.ends started.ends),
    );
    plain = is ∙ far_seen
        ∙ ap (λ (k : Image). begun (given_of x) (raised 0 k) (record { length = log_length y.log.bodies; armed = y.log.armed }) x.moment) (sym c.image)
        ∙ ap (λ (n : ℕ). begun (given_of x) (raised 0 i) (record { length = n; armed = y.log.armed }) x.moment) (long length read_long)
        ∙ ap (λ (n : ℕ). begun (given_of x) (raised 0 i) (record { length = length + started_need (given_of x); armed = n }) x.moment) (sym at);
    delta = told;
  }
