-- What each step of a restart comes to, as the definitions say it.
use Rattle.std.proofs.Common.{◌≡◌, ℕ, ◌+◌, ◌<◌, ◌^◌, Bool, true, false, refl, ap, arith, sym, subst, ◌∙◌}
use Rattle.std.specs.Prelude.{Some, None, Result, Ok, Err, MatchResult, max}
use Rattle.std.specs.List.{AllByRecursion}
use Rattle.mq_calls.specs.declared.commands.RestartFault.TheVariants as faults
use Rattle.mq_frame.specs.Reading.{IsBytes}
use Rattle.mq_log.specs.declared.images.Found.{Found}
use Rattle.mq_log.specs.State.{LogState, log_length}
use Rattle.mq_calls.specs.declared.image.Image.{Image}
use Rattle.mq_calls.specs.Recovery.{IsImage}
use Rattle.mq_restart.specs.from_spec_log.Applies.Start.{Later}
use Rattle.mq_restart.specs.from_spec_log.Bodies.{image}
use Rattle.mq_restart.specs.from_recover.{RecoverFault}
use Rattle.mq_restart.specs.from_recover.Found.{Recovers}
use Rattle.mq_restart.specs.from_rebuild.{Built}
use Rattle.mq_restart.specs.from_rebuild.Rebuilt.{IsBuilt}
use Rattle.mq_restart.proofs.from_law_image.Recovered.{recovered}
use Rattle.mq_restart.specs.from_core.Views.{PartsValue}
use Rattle.mq_restart.specs.declared.reading.Unraised.{Unraised}
use Rattle.mq_restart.specs.Begun.{given_by, IsFresh, IsUnread}
use Rattle.mq_restart.specs.Raised.{given_of, with_log, read_fault, HasRead, HasHalted, IsRaised, IsUnraised, Fell}
use Rattle.mq_restart.specs.Raised.HasHalted.{Wanting, Halted}
use Rattle.mq_restart.proofs.LowLaws.{image_low}
use Rattle.mq_restart.proofs.ReadLaws.{is_unread}
use Rattle.mq_restart.specs.declared.reading.LogRead.{LogRead}
use Rattle.mq_restart.specs.Stands.{read_found}
use Rattle.mq_restarts.specs.declared.coming.Coming.{Coming}
use Rattle.mq_restarts.specs.Comings.{is_foreign, above, IsReread, IsToldBy, Rises, Halts, Wants, Breaks, StaysBy, Unmade, Unstarted, ComesOwn, ComesFar, StaysOwn, StaysFar, StaysAs, ComesBack, StaysBack, Unopened, Reread}
use Rattle.mq_restarts.proofs.ComingLaws.{fresh_read}
use Rattle.mq_restarts.proofs.AboveLaws.{above_image}

-- ---- its log is read again

pub is_reread : (tells : Type 0) (found : Found) (new : LogState) (v x : PartsValue) → v ≡ x → HasRead tells v.log found new → IsReread tells x found (with_log new v)
is_reread tells found new v x view r = subst (λ (z : PartsValue). IsReread tells z found (with_log new v)) view (record { read = r; same = refl })

-- ---- what it tells

of_image : (r : Result Image ℕ) (i : Image) → Recovers r (Ok i) → r ≡ Ok i
of_image (Ok meant) i h = ap (λ (j : Image). Ok j) (sym h)
of_image (Err at) i h = absurd h

pub told_is : (x : PartsValue) (i : Image) → Recovers (image (given_by x.number x.name x.log.max) Later x.log.bodies) (Ok i) → AllByRecursion IsBytes x.log.bodies → IsToldBy x i
told_is x i r h =
    let e = of_image (image (given_of x) Later x.log.bodies) i r in
    let k = recovered (given_of x) Later x.log.bodies i e h in
    record { read = e; well = k.0; known = k.1; bytes = h }

pub untold_is : (x : PartsValue) (fault : RecoverFault) → Recovers (image (given_by x.number x.name x.log.max) Later x.log.bodies) (Err fault) → IsUnread (given_of x) Later x.log.bodies fault
untold_is x fault r = is_unread (given_of x) Later x.log.bodies fault r

pub told_at : (v x : PartsValue) (i : Image) → v ≡ x → Recovers (image (given_by v.number v.name v.log.max) Later v.log.bodies) (Ok i) → AllByRecursion IsBytes v.log.bodies → IsToldBy x i
told_at v x i view r h = subst (λ (z : PartsValue). IsToldBy z i) view (told_is v i r h)

pub untold_at : (v x : PartsValue) (fault : RecoverFault) → v ≡ x → Recovers (image (given_by v.number v.name v.log.max) Later v.log.bodies) (Err fault) → IsUnread (given_of x) Later x.log.bodies fault
untold_at v x fault view r = subst (λ (z : PartsValue). IsUnread (given_of z) Later z.log.bodies fault) view (untold_is v fault r)

-- ---- a Started record behind it

pub low_built : (i : Image) (b : Built) → IsBuilt i b → i.incarnation + 1 < 2 ^ 64 → b.incarnation + 1 < 2 ^ 64
low_built i b is lt = let e = is.incarnation in omega (arith, e, lt)

halts_by : (x y : PartsValue) (i : Image) (b : Built) (e : Unraised) → IsBuilt i b → IsUnraised b x e y → Halts x i e y
halts_by x y i b e is u = by u.halted
  where
    by : HasHalted (given_of x) b x.log e y.log → Halts x i e y
    by (Wanting fault out same) = Wants fault out same u.same
    by (Halted stop fault out halted) = Breaks (record { built = b; is = is; by = stop; fault = fault; in_write = out; halted = halted; same = u.same })

pub started : (x y : PartsValue) (i : Image) (b : Built) (result : Result (Unit {0}) Unraised) → IsBuilt i b → MatchResult result (λ u. IsRaised b x y) (λ e. IsUnraised b x e y) → MatchResult result (λ u. Rises x i y) (λ e. Halts x i e y)
started x y i b (Ok u) is m = record { built = b; is = is; raised = m }
started x y i b (Err e) is m = halts_by x y i b e is m

pub wanted : (x : PartsValue) (i : Image) (e : Unraised) → e.fault ≡ faults.NoMemory → e.in_write ≡ false → Halts x i e x
wanted x i e fault out = Wants fault out refl refl

-- ---- from its own log

pub unmade : (f : Image → Image) (found : Found) (x : PartsValue) (fault : RecoverFault) (e : Unraised) → e ≡ record { fault = read_fault fault; found = Some found; in_write = false } → IsUnread (given_of x) Later x.log.bodies fault → StaysBy f found x e x
unmade f found x fault e is u = Unmade (record { fault = fault; is = is; unread = u; same = refl })

pub own_well : (x : PartsValue) (i : Image) → IsToldBy x i → IsImage i
own_well x i t = t.well

pub own_low : (x : PartsValue) (i : Image) → IsToldBy x i → i.incarnation + 1 < 2 ^ 64
own_low x i t = let lt = image_low (given_of x) Later x.log.bodies i t.read in omega (arith, lt)

pub own_ends : (x y : PartsValue) (i : Image) (found : Found) (result : Result (Unit {0}) Unraised) → IsToldBy x i → MatchResult result (λ u. Unit {0}) (λ e. e.found ≡ Some found) → MatchResult result (λ u. Rises x i y) (λ e. Halts x i e y)
    → MatchResult result (λ u. ComesOwn x y) (λ e. StaysOwn found x e y)
own_ends x y i found (Ok u) t f m = record { told = i; is = t; rises = m }
own_ends x y i found (Err e) t f m = Unstarted i t f m

-- ---- from one that was changed

same_told : (x : PartsValue) (i j : Image) → IsToldBy x i → IsToldBy x j → i ≡ j
same_told x i j a b = by (image (given_of x) Later x.log.bodies) a.read b.read
  where
    or_image : Image → Result Image ℕ → Image
    or_image d (Ok k) = k
    or_image d (Err place) = d

    by : (r : Result Image ℕ) → r ≡ Ok i → r ≡ Ok j → i ≡ j
    by r e f = ap (or_image i) (sym e ∙ f)

less : (n : ℕ) → n + 1 < 2 ^ 61 → n < 2 ^ 61
less n lt = omega (arith, lt)

pub far_well : (x : PartsValue) (i j : Image) (least : ℕ) → least + 1 < 2 ^ 61 → IsToldBy x i → j ≡ above least i → IsImage j
far_well x i j least low t e = subst IsImage (sym e) (above_image (given_of x) x.log.bodies i least t.read t.bytes (less least low))

high : (a b : ℕ) → a < 2 ^ 61 → b + 1 < 2 ^ 61 → max a b + 1 < 2 ^ 64
high a b lt low = omega (arith, lt, low)

pub far_low : (x : PartsValue) (i j : Image) (least : ℕ) → least + 1 < 2 ^ 61 → IsToldBy x i → j ≡ above least i → j.incarnation + 1 < 2 ^ 64
far_low x i j least low t e = subst (λ (k : Image). k.incarnation + 1 < 2 ^ 64) (sym e) (high i.incarnation least (image_low (given_of x) Later x.log.bodies i t.read) low)

pub far_comes : (x y : PartsValue) (i copy out : Image) (least : ℕ) → IsToldBy x i → IsToldBy x copy → out ≡ above least copy → Rises x (above least i) y → ComesFar least x out y
far_comes x y i copy out least t c e m = record { told = i; is = t; image = e ∙ ap (above least) (sym (same_told x i copy t c)); rises = m }

pub far_stays : (x y : PartsValue) (i j : Image) (found : Found) (e : Unraised) (least : ℕ) → IsToldBy x i → j ≡ above least i → e.found ≡ Some found → Halts x j e y → StaysFar least found x e y
far_stays x y i j found e least t is f m = Unstarted i t f (subst (λ (k : Image). Halts x k e y) is m)

-- ---- whatever it tells

pub reread_fresh : (tells : Type 0) (x y : PartsValue) (found : Found) → IsReread tells x found y → IsFresh y.log.max y.log
reread_fresh tells x y found r = fresh_read tells found x.log y.log r.read

module _ (tells : Type 0) (read : LogRead) (least : ℕ) (x m : PartsValue) (found : Found) (r : IsReread tells x found m) where
  pub back_far : (y : PartsValue) (i : Image) (c : Coming) → is_foreign (read_found read found) ≡ true → ComesFar least m i y → c ≡ record { found = found; length = log_length m.log.bodies; image = Some i } → ComesBack tells read least x c y
  back_far y i c f h is = subst (λ (k : Coming). ComesBack tells read least x k y) (sym is) (record {
    log = m.log;
    read_again = r.read;
    long = refl;
    comes = (f, subst (λ (z : PartsValue). ComesFar least z i y) r.same h);
  })

  pub back_own : (y : PartsValue) (c : Coming) → is_foreign (read_found read found) ≡ false → ComesOwn m y → c ≡ record { found = found; length = log_length m.log.bodies; image = None } → ComesBack tells read least x c y
  back_own y c f h is = subst (λ (k : Coming). ComesBack tells read least x k y) (sym is) (record {
    log = m.log;
    read_again = r.read;
    long = refl;
    comes = (f, subst (λ (z : PartsValue). ComesOwn z y) r.same h);
  })

  pub still_far : (y : PartsValue) (e : Unraised) → is_foreign (read_found read found) ≡ true → StaysFar least found m e y → StaysBack tells read least x e y
  still_far y e f h = Reread found m.log r.read (subst (λ (b : Bool). StaysAs b least found (with_log m.log x) e y) (sym f) (subst (λ (z : PartsValue). StaysFar least found z e y) r.same h))

  pub still_own : (y : PartsValue) (e : Unraised) → is_foreign (read_found read found) ≡ false → StaysOwn found m e y → StaysBack tells read least x e y
  still_own y e f h = Reread found m.log r.read (subst (λ (b : Bool). StaysAs b least found (with_log m.log x) e y) (sym f) (subst (λ (z : PartsValue). StaysOwn found z e y) r.same h))

pub still_down : (tells : Type 0) (read : LogRead) (least : ℕ) (x y : PartsValue) (e : Unraised) → Fell tells x e y → StaysBack tells read least x e y
still_down tells read least x y e fell = Unopened fell
