-- A manager whose log was read again comes up as its history says.
use Rattle.std.proofs.Common.{◌≡◌, ℕ, ◌+◌, ◌<◌, Bool, true, false, List, [], ◌∷◌, ◌++◌, length, refl, ap, arith, sym, subst, ◌∙◌}
use Rattle.std.specs.Prelude.{◌≢◌, Option, Some, None, Ok, Err, Result}
use Rattle.mq_log.specs.declared.images.Found.{Found}
use Rattle.mq_log.specs.declared.images.Found.TheVariants.{Before, After, Other}
use Rattle.mq_log.specs.Images.{IsFound}
use Rattle.mq_log.specs.State.{LogState, log_length}
use Rattle.mq_record.specs.Records.{record_bytes}
use Rattle.mq_record.specs.Room.{Buffered}
use Rattle.mq_calls.specs.State.{Plain, Noted}
use Rattle.mq_calls.specs.Images.{lasting}
use Rattle.mq_calls.specs.declared.image.Image.{Image}
use Rattle.mq_spec_log.specs.Applies.Start.{Later}
use Rattle.mq_spec_log.specs.Bodies.{image}
use Rattle.mq_spec_manager.specs.Stops.{started_need, started_record, redone_if}
use Rattle.mq_law_image.specs.Tells.{later_by}
use Rattle.mq_rebuild.specs.declared.building.Built.{Built}
use Rattle.mq_redo.specs.from_core.{ReadLog}
use Rattle.mq_redo.specs.from_core.Views.{PartsValue, plain_of}
use Rattle.mq_redo.specs.from_core.Ties.{Tied}
use Rattle.mq_redo.proofs.from_core.ForceLaws.{tied_where}
use Rattle.mq_restart.specs.Begun.{given_by, begun_parts, IsFresh, IsReadFrom}
use Rattle.mq_restart.specs.Tells.{Stood, LogStood, StoodBy, HasRestarted, kept_of}
use Rattle.mq_restart.specs.Raised.{given_of, Raises, ComesUp}
use Rattle.mq_restart.proofs.RestartLaws.{restarted_seen, restarted_tied, redone_incarnation}

-- what was found stands in the log as the history says
pub found_stood : (read : Option ReadLog) (noted : Option Noted) (starts : ℕ) (bodies : List (List ℕ)) (pending : Option (List ℕ)) (found : Found) (new : List (List ℕ)) (p : Plain)
    → LogStood read noted starts bodies pending p → IsFound bodies pending found new → found ≢ Other → StoodBy read found noted starts new p
found_stood None noted starts bodies pending Before new p h is known = record { started = 0; stood = subst (λ (bs : List (List ℕ)). Stood false 0 noted starts bs p) (sym is) h.without }
found_stood None noted starts bodies None After new p h is known = absurd is
found_stood None noted starts bodies (Some body) After new p h is known = record { started = 0; stood = subst (λ (bs : List (List ℕ)). Stood true 0 noted starts bs p) (sym is) h.with_it }
found_stood None noted starts bodies pending Other new p h is known = absurd (known refl)
found_stood (Some read) noted starts bodies pending Before new p h is known = record { started = h.started; stood = subst (λ (bs : List (List ℕ)). Stood read.kept h.started noted starts bs p) (sym is) h.without }
found_stood (Some read) noted starts bodies None After new p h is known = absurd is
found_stood (Some read) noted starts bodies (Some body) After new p h is known = record { started = h.started + 1; stood = subst (λ (bs : List (List ℕ)). Stood read.kept (h.started + 1) noted starts bs p) (sym is) h.with_it }
found_stood (Some read) noted starts bodies pending Other new p h is known = absurd (known refl)

-- the log behind its Started record
pub most_kept : (tells : Type 0) (x y : PartsValue) (found : Found) (r : Raises tells x found y) → r.log.max ≡ x.log.max
most_kept tells x y found r = ap (λ (l : LogState). l.max) r.read.same

pub has_restarted : (tells : Type 0) (x y : PartsValue) (found : Found) (r : Raises tells x found y) → 0 < length r.log.bodies → HasRestarted (plain_of x) r.log.bodies r.built y.log
has_restarted tells x y found r some =
    let max = most_kept tells x y found r in
    let s = r.raised.started in
    let one = r.read.one some in
    let four = s.ends.0 in
    record {
      fresh = subst (λ (n : ℕ). IsFresh n y.log) max s.fresh;
      bodies = s.bodies ∙ ap (λ (n : ℕ). r.log.bodies ++ record_bytes (started_record (given_by x.number x.name n) (r.built.incarnation + 1)) ∷ []) max;
      long = s.long ∙ ap (λ (n : ℕ). log_length r.log.bodies + started_need (given_by x.number x.name n)) max;
      armed = let a = one.0 in omega (arith, a, four);
      aside = s.aside;
    }

-- its own room for a record changes no tie
pub tied_body : (x : PartsValue) (b : Buffered) → x.log.reserved ≡ 0 → Tied x → Tied (record x { body = b })
tied_body x b none t =
    tied_where [] [] x.ends x.log b x.mode x (λ u. let w = t.up u in record { live = w.live; settled = w.settled; ends = w.ends; room = w.room; body = omega (arith, none) }) t.reserved t.within t.max t

-- the incarnation that was read
abbrev or_image : Image → Result Image ℕ → Image
or_image d (Ok i) = i
or_image d (Err place) = d

image_is : (e : Result Image ℕ) (i j : Image) → e ≡ Ok i → e ≡ Ok j → j ≡ i
image_is e i j a b = ap (or_image i) (sym b ∙ a)

pub read_number : (kept : Bool) (started : ℕ) (noted : Option Noted) (starts : ℕ) (bodies : List (List ℕ)) (x : PartsValue) (b : Built) → Stood kept started noted starts bodies (plain_of x) → IsReadFrom (given_of x) Later bodies b → b.incarnation ≡ x.incarnation + started
read_number kept started noted starts bodies x b s r =
    let is = image_is (image (given_of x) Later bodies) (later_by started (lasting (redone_if kept noted (plain_of x)))) r.told (s.tells (plain_of x).running (plain_of x).log (plain_of x).moment) r.read in
    let k = ap (λ (j : Image). j.incarnation) is in
    let n = redone_incarnation kept noted (plain_of x) in
    let e = r.built.incarnation in
    omega (arith, e, k, n)

pub comes_up : (tells : Type 0) (read : Option ReadLog) (noted : Option Noted) (starts : ℕ) (x y : PartsValue) (found : Found) → Raises tells x found y → found ≢ Other → Tied x
    → LogStood read noted starts x.log.bodies x.log.pending (plain_of x) → ComesUp (kept_of read found) noted starts x y
comes_up tells read noted starts x y found r known tied stood =
    let s = found_stood read noted starts x.log.bodies x.log.pending found r.log.bodies (plain_of x) stood r.read.bodies known in
    let h = has_restarted tells x y found r s.stood.some in
    let one = r.read.one s.stood.some in
    let four = r.raised.started.ends in
    record {
      started = s.started;
      can = s.stood.can;
      few = s.stood.few;
      plain = ap plain_of r.raised.becomes ∙ restarted_seen (kept_of read found) s.started noted starts r.log.bodies (plain_of x) r.built y.log s.stood r.told h;
      tied = subst Tied (sym r.raised.becomes) (tied_body (begun_parts x.number x.name x.moment r.built y.log) x.body h.fresh.free (restarted_tied r.log.bodies (plain_of x) r.built y.log r.told h tied.max tied.moment));
      calls = λ some. let a = one.1 some in let b = one.0 in let more : 0 < r.log.armed = omega (arith, a, b) in let c = four.1 more in omega (arith, b, c);
      number = ap (λ (z : PartsValue). z.incarnation) r.raised.becomes ∙ ap (λ (n : ℕ). n + 1) (read_number (kept_of read found) s.started noted starts r.log.bodies x r.built s.stood r.told);
    }
