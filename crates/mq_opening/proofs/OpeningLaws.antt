-- What a log tells of a manager that has just begun is what its first start read.
use Rattle.std.proofs.Common.{ℕ, ◌≡◌, ◌+◌, ◌-◌, ap, sym, subst, ◌∙◌, arith}
use Rattle.std.specs.Prelude.{Result, Ok, Err}
use Rattle.mq_calls.specs.State.{Plain}
use Rattle.mq_calls.specs.Images.{lasting, raised}
use Rattle.mq_calls.specs.declared.image.Image.{Image}
use Rattle.mq_spec_manager.specs.Stops.{started_need}
use Rattle.mq_spec_log.specs.Applies.Start.{First, Later}
use Rattle.mq_spec_log.specs.Bodies.{image}
use Rattle.mq_log.specs.State.{log_length}
use Rattle.mq_restart.proofs.from_law_image.Recovered.{image_so_far}
use Rattle.mq_restart.proofs.from_law_image.Starting.{begun_lasts}
use Rattle.mq_restart.specs.from_recover.RecoverFaultVariants.{BadRecord}
use Rattle.mq_restart.specs.from_recover.Found.{Recovers}
use Rattle.mq_restart.specs.from_core.Values.{CoreValue}
use Rattle.mq_opening.specs.Opened.{IsOpening, IsOpenLength, JustBegun, before_start}

-- The image of all bodies.
now_is : (tells : Type 0) (core : CoreValue) → (b : JustBegun tells core) → image core.plain.given Later core.log.bodies ≡ Ok (raised 0 b.has.told)
now_is tells core b =
    b.has.log_tells
    ∙ ap (λ (p : Plain). Ok (lasting p)) b.has.plain
    ∙ ap (λ (i : Image). Ok i) (begun_lasts b.given b.has.told (record { length = log_length b.has.bodies + started_need b.given; armed = 0 }) b.moment (image_so_far b.given First b.has.bodies b.has.told b.has.read b.has.bytes))

recovered_is : (meant : Result Image ℕ) (i j : Image) → meant ≡ Ok j → Recovers meant (Ok i) → i ≡ j
recovered_is (Ok k) i j e h = let same : k ≡ j = cc in h ∙ same
recovered_is (Err at) i j e h = absurd h

pub opening_is : (tells : Type 0) (core : CoreValue) (i : Image) → Recovers (image core.plain.given Later core.log.bodies) (Ok i) → IsOpening tells core (before_start i)
opening_is tells core i h b =
    ap before_start (recovered_is (image core.plain.given Later core.log.bodies) i (raised 0 b.has.told) (now_is tells core b) h)
    ∙ ap (λ (n : ℕ). record b.has.told { incarnation = n }) (one_less b.has.told.incarnation)
  where
    one_less : (n : ℕ) → n + 0 + 1 - 1 ≡ n
    one_less n = omega arith

pub none_bad : (tells : Type 0) (core : CoreValue) (at : ℕ) → JustBegun tells core → Recovers (image core.plain.given Later core.log.bodies) (Err (BadRecord at)) → ⊥
none_bad tells core at b h = bad (image core.plain.given Later core.log.bodies) (raised 0 b.has.told) (now_is tells core b) h
  where
    bad : (meant : Result Image ℕ) (j : Image) → meant ≡ Ok j → Recovers meant (Err (BadRecord at)) → ⊥
    bad (Ok k) j e x = x
    bad (Err place) j e x = absurd cc

-- and how long the log was
pub length_is : (tells : Type 0) (core : CoreValue) (n : ℕ) → n ≡ log_length core.log.bodies - 63 → core.plain.log.length ≡ log_length core.log.bodies → IsOpenLength tells core n
length_is tells core n is long b = less n (log_length core.log.bodies) core.plain.log.length (log_length b.has.bodies) is long (ap (λ (p : Plain). p.log.length) b.has.plain)
  where
    less : (n now plain before : ℕ) → n ≡ now - 63 → plain ≡ now → plain ≡ before + 63 → n ≡ before
    less n now plain before e f h = omega arith

-- the same of a manager that is seen so
pub opening_so : (tells : Type 0) (v core : CoreValue) (i r : Image) → v ≡ core → r ≡ before_start i → Recovers (image v.plain.given Later v.log.bodies) (Ok i) → IsOpening tells core r
opening_so tells v core i r seen is h =
    subst (λ (x : CoreValue). IsOpening tells x r) seen (subst (λ (j : Image). IsOpening tells v j) (sym is) (opening_is tells v i h))

pub none_so : (tells : Type 0) (v core : CoreValue) (at : ℕ) → v ≡ core → JustBegun tells core → Recovers (image v.plain.given Later v.log.bodies) (Err (BadRecord at)) → ⊥
none_so tells v core at seen b h = none_bad tells v at (subst (λ (x : CoreValue). JustBegun tells x) (sym seen) b) h

pub length_so : (tells : Type 0) (v core : CoreValue) (n : ℕ) → v ≡ core → n ≡ log_length v.log.bodies - 63 → IsOpenLength tells core n
length_so tells v core n seen is = subst (λ (x : CoreValue). IsOpenLength tells x n) seen (λ b. length_is tells v n is b.has.long b)
