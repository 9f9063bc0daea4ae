-- A manager that came up: its parts are tied, it is that of an image, and its log tells what lasts of it.
use Rattle.std.proofs.Common.{◌≡◌, ℕ, ◌+◌, ◌<◌, ◌^◌, true, List, [], ◌∷◌, ◌++◌, length, refl, ap, arith, sym, subst, ◌∙◌}
use Rattle.std.specs.Prelude.{Some, None}
use Rattle.std.proofs.lemmas.Bool.Decides.{nat_tests}
use Rattle.std.proofs.lemmas.List.{length-append}
use Rattle.mq_log.specs.declared.images.Found.{Found}
use Rattle.mq_log.specs.State.{log_length}
use Rattle.mq_record.specs.Records.{record_bytes, IsRecord}
use Rattle.mq_calls.specs.State.{Given, Plain, LogState as PlainLog}
use Rattle.mq_calls.specs.State.Running.{Up}
use Rattle.mq_calls.specs.Images.{begun, raised}
use Rattle.mq_spec_manager.specs.Stops.{started_record}
use Rattle.mq_spec_log.specs.Applies.{is_in_bounds}
use Rattle.mq_spec_log.specs.Applies.Start.{Later}
use Rattle.mq_spec_log.specs.Bodies.{record_of}
use Rattle.mq_spec_log.proofs.BodyLaws.{record_back}
use Rattle.mq_law_image.specs.Tells.{Tells}
use Rattle.mq_law_image.proofs.Logged.{image_text}
use Rattle.mq_law_image.proofs.Starting.{first_told}
use Rattle.mq_redo.specs.from_core.Ties.{Tied}
use Rattle.mq_redo.specs.from_core.Values.{bodies_in}
use Rattle.mq_redo.specs.from_core.Views.{PartsValue, plain_of}
use Rattle.mq_restart.specs.Begun.{given_by, begun_parts, IsFresh}
use Rattle.mq_restart.specs.Raised.{Raises, given_of}
use Rattle.mq_restart.proofs.RaiseLaws.{most_kept, tied_body}
use Rattle.mq_restart.proofs.SeenLaws.{begun_seen}
use Rattle.mq_restart.proofs.TieLaws.{begun_tied}
use Rattle.mq_restart.specs.Stands.{StandsUp}
use Rattle.mq_restart.specs.Returned.{IsOfImage}

module _ (tells : Type 0) (x y : PartsValue) (found : Found) (r : Raises tells x found y) where
  fresh : IsFresh x.log.max y.log
  fresh = subst (λ (n : ℕ). IsFresh n y.log) (most_kept tells x y found r) r.raised.started.fresh

  pub rise_tied : Tied x → Tied y
  rise_tied t = subst Tied (sym r.raised.becomes)
      (tied_body (begun_parts x.number x.name x.moment r.built y.log) x.body fresh.free
      (begun_tied x.number x.name x.moment x.log.max r.told.told r.built y.log r.told.built r.told.well r.told.known fresh r.raised.started.aside t.max t.moment))

  -- what it is seen as
  abbrev plain_log : PlainLog
  plain_log = record { length = log_length y.log.bodies; armed = y.log.armed }

  pub rise_seen : plain_of y ≡ begun (given_of x) (raised 0 r.told.told) (record { length = log_length y.log.bodies; armed = y.log.armed }) x.moment
  rise_seen =
      ap plain_of r.raised.becomes
      ∙ begun_seen x.number x.name x.moment r.told.told r.built y.log r.told.built
      ∙ ap (λ (n : ℕ). begun (given_by x.number x.name n) (raised 0 r.told.told) (record { length = log_length y.log.bodies; armed = y.log.armed }) x.moment) fresh.most

  pub rise_running : (plain_of y).running ≡ Up
  rise_running = ap (λ (p : Plain). p.running) rise_seen

  pub rise_image : IsOfImage (plain_of y)
  rise_image = subst IsOfImage (sym rise_seen) (record {
    told = r.told.told;
    log = plain_log;
    well = r.told.well;
    known = r.told.known;
    texts = image_text (given_of x) Later r.log.bodies r.told.told r.told.read r.told.bytes;
    plain = refl;
  })

  -- its log
  own : r.built.incarnation ≡ r.told.told.incarnation
  own = r.told.built.incarnation

  max_log : r.log.max ≡ x.log.max
  max_log = most_kept tells x y found r

  pub rise_number : y.incarnation ≡ r.told.told.incarnation + 1
  rise_number = ap (λ (z : PartsValue). z.incarnation) r.raised.becomes ∙ ap (λ (n : ℕ). n + 1) own

  abbrev next : List ℕ
  next = record_bytes (started_record (given_of x) (r.told.told.incarnation + 1))

  pub rise_bodies : y.log.bodies ≡ r.log.bodies ++ record_bytes (started_record (given_of x) (r.told.told.incarnation + 1)) ∷ []
  rise_bodies =
      r.raised.started.bodies
      ∙ ap (λ (n : ℕ). r.log.bodies ++ record_bytes (started_record (given_by x.number x.name n) (r.built.incarnation + 1)) ∷ []) max_log
      ∙ ap (λ (n : ℕ). r.log.bodies ++ record_bytes (started_record (given_of x) (n + 1)) ∷ []) own

  pub rise_log : bodies_in y.log ≡ record { bodies = r.log.bodies ++ record_bytes (started_record (given_of x) (r.told.told.incarnation + 1)) ∷ []; pending = None }
  rise_log =
      let bodies = rise_bodies in let settled = fresh.settled in
      λ i. record { bodies = bodies i; pending = settled i }

  is_record : IsRecord (started_record (given_of x) (r.told.told.incarnation + 1))
  is_record =
      subst (λ (n : ℕ). IsRecord (started_record (given_of x) (n + 1))) own
      (subst (λ (n : ℕ). IsRecord (started_record (given_by x.number x.name n) (r.built.incarnation + 1))) max_log r.raised.started.is)

  back : record_of (record_bytes (started_record (given_of x) (r.told.told.incarnation + 1))) ≡ Some (started_record (given_of x) (r.told.told.incarnation + 1))
  back = record_back (started_record (given_of x) (r.told.told.incarnation + 1)) tt is_record

  bounds : (g : Given) (n : ℕ) → n < 2 ^ 61 → is_in_bounds Later (started_record g n) ≡ true
  bounds g n lt = grind (arith, nat_tests, lt)

  lower : (n : ℕ) → y.incarnation ≡ n → y.incarnation < 2 ^ 61 → n < 2 ^ 61
  lower n e lt = omega (arith, e, lt)

  rise_tells : y.incarnation < 2 ^ 61 → Tells Later y.log.bodies (plain_of y)
  rise_tells low =
      subst (λ (p : Plain). Tells Later y.log.bodies p) (sym rise_seen)
      (subst (λ (bs : List (List ℕ)). Tells Later bs (begun (given_of x) (raised 0 r.told.told) plain_log x.moment)) (sym rise_bodies)
      (first_told (given_of x) Later r.log.bodies next r.told.told (log_length r.log.bodies) x.moment r.told.read r.told.bytes back
      (bounds (given_of x) (r.told.told.incarnation + 1) (lower (r.told.told.incarnation + 1) rise_number low))))

  pub rise_stands : y.incarnation < 2 ^ 61 → StandsUp (bodies_in y.log) (plain_of y)
  rise_stands low = record {
    settled = fresh.settled;
    some = let e = ap (λ (bs : List (List ℕ)). length bs) rise_bodies in let l = length-append r.log.bodies (next ∷ []) in omega (arith, e, l);
    tells = rise_tells low;
    long = ap (λ (p : Plain). p.log.length) rise_seen;
  }
