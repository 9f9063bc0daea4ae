-- A manager that is down reads its log again: what it comes to.
use Rattle.std.proofs.Common.{◌≡◌, ℕ, ◌+◌, ◌≤◌, ◌<◌, true, false, List, length, refl, ap, arith, sym, subst, ◌∙◌}
use Rattle.std.specs.Prelude.{◌≢◌, Some, None, Ok, Err}
use Rattle.mq_base.specs.Outside.{Rose}
use Rattle.mq_disk.specs.declared.cutter.Stop.{Stop}
use Rattle.mq_disk.specs.declared.cutter.Stop.TheVariants as stops
use Rattle.mq_log.specs.declared.open.StartFault.{StartFault}
use Rattle.mq_log.specs.declared.open.StartFault.TheVariants as opens
use Rattle.mq_log.specs.declared.images.Found.{Found}
use Rattle.mq_log.specs.declared.images.Found.TheVariants.{Other}
use Rattle.mq_log.specs.Images.{IsFound}
use Rattle.mq_log.specs.Open.{EndsByOneOrThree, RestartEnds, IsNotBad}
use Rattle.mq_log.specs.State.{LogState, Appended}
use Rattle.mq_log.specs.Force.{Stops}
use Rattle.mq_record.specs.Records.{record_bytes, IsRecord}
use Rattle.mq_spec_manager.specs.Stops.{started_record}
use Rattle.mq_rebuild.specs.declared.building.Built.{Built}
use Rattle.mq_redo.specs.from_core.Views.{PartsValue}
use Rattle.mq_restart.specs.declared.reading.Unraised.{Unraised}
use Rattle.mq_redo.specs.from_core.Ties.{ends_need}
use Rattle.mq_restart.specs.Begun.{begun_ends, IsFresh, IsStarted}
use Rattle.mq_restart.specs.Raised.{given_of, raised_parts, start_fault, stop_fault, with_log, HasRead, IsHalted, IsRaised, Halted, IsUnraised, Fell, Unopened}
use Rattle.mq_restart.proofs.BeginLaws.{has_started}

-- ---- its Started record stands, or was stopped (`v` are the parts as they stand field by field)

pub is_raised : (b : Built) (bytes : List ℕ) (roomy new : LogState) (v x y : PartsValue) → v ≡ x → IsFresh x.log.max x.log → roomy ≡ record v.log { room = roomy.room; spare = roomy.spare } → ends_need (begun_ends b) ≤ roomy.spare → Appended roomy bytes (Ok tt) new → Stops roomy.armed (Ok tt) new.armed → roomy.faults ≤ new.faults
    → bytes ≡ record_bytes (started_record (given_of v) (b.incarnation + 1)) → length bytes ≡ 58 → IsRecord (started_record (given_of v) (b.incarnation + 1)) → y ≡ raised_parts b (with_log new v) → IsRaised b x y
is_raised b bytes roomy new v x y view fresh room aside appended ends later are long record_is is = subst (λ (z : PartsValue). IsRaised b z y) view (record {
  started = subst (λ (l : LogState). IsStarted (given_of v) b v.log l) (sym log) (has_started b v.number v.name bytes v.log roomy new (subst (λ (z : PartsValue). IsFresh z.log.max z.log) (sym view) fresh) room aside appended ends later are long record_is);
  becomes = is ∙ ap (λ (l : LogState). raised_parts b (with_log l v)) (sym log);
})
  where
    log : y.log ≡ new
    log = ap (λ (z : PartsValue). z.log) is

pub is_unraised : (b : Built) (bytes : List ℕ) (roomy new : LogState) (stop : Stop) (e : Unraised) (v x : PartsValue) → v ≡ x → roomy ≡ record v.log { room = roomy.room; spare = roomy.spare } → Appended roomy bytes (Err stop) new → Stops roomy.armed (Err stop) new.armed → roomy.faults ≤ new.faults
    → (stop ≡ stops.Disk → Rose roomy.faults new.faults) → IsRecord (started_record (given_of v) (b.incarnation + 1)) → bytes ≡ record_bytes (started_record (given_of v) (b.incarnation + 1)) → length bytes ≡ 58
    → e.fault ≡ stop_fault stop → e.in_write ≡ true → IsUnraised b x e (with_log new v)
is_unraised b bytes roomy new stop e v x view room appended ends later disk is are long fault out = subst (λ (z : PartsValue). IsUnraised b z e (with_log new v)) view (record { same = refl; halted = Halted stop fault out halted })
  where
    halted : IsHalted (given_of v) b stop v.log new
    halted = record {
      is = is;
      long = sym (ap length are) ∙ long;
      log =
          appended
          ∙ ap (λ (n : ℕ). let k : LogState = record roomy { live = false; pending = Some bytes; room = new.room; spare = n; armed = new.armed; faults = new.faults } in k) (sym (ap (λ (l : LogState). l.spare) appended))
          ∙ ap (λ (l : LogState). let k : LogState = record l { live = false; pending = Some bytes; room = new.room; spare = new.spare; armed = new.armed; faults = new.faults } in k) room
          ∙ ap (λ (body : List ℕ). let k : LogState = record v.log { live = false; pending = Some body; room = new.room; spare = new.spare; armed = new.armed; faults = new.faults } in k) are;
      ends = subst (λ (n : ℕ). Stops n (Err stop) new.armed) (ap (λ (l : LogState). l.armed) room) ends;
      later = let r = ap (λ (l : LogState). l.faults) room in omega (arith, r, later);
      disk = λ d. subst (λ (n : ℕ). Rose n new.faults) (ap (λ (l : LogState). l.faults) room) (disk d);
    }

-- ---- its log was read, or not

pub has_read : (tells : Type 0) (found : Found) (old new : LogState) → IsFound old.bodies old.pending found new.bodies → (tells → found ≢ Other)
    → new ≡ record old { bodies = new.bodies; live = true; pending = None; reserved = 0; room = new.room; spare = 0; armed = new.armed; faults = new.faults }
    → EndsByOneOrThree {T = Found} old.armed (Ok found) new.armed → (0 < length new.bodies → RestartEnds {T = Found} 1 old.armed (Ok found) new.armed) → old.faults ≤ new.faults → HasRead tells old found new
has_read tells found old new bodies known same ends one later = record {
  bodies = bodies;
  known = known;
  same =
      same
      ∙ ap (λ (n : ℕ). let k : LogState = record old { bodies = new.bodies; live = true; pending = None; reserved = 0; room = new.room; spare = n; armed = new.armed; faults = new.faults } in k) (sym (ap (λ (l : LogState). l.spare) same));
  ends = ends;
  one = one;
  later = later;
}

pub unopened : (tells : Type 0) (fault : StartFault) (e : Unraised) (new : LogState) (v x : PartsValue) → v ≡ x → new ≡ record v.log { live = false; room = new.room; armed = new.armed; faults = new.faults } → (tells → IsNotBad fault)
    → EndsByOneOrThree {T = Found} v.log.armed (Err fault) new.armed → (tells → 0 < length v.log.bodies → RestartEnds {T = Found} 1 v.log.armed (Err fault) new.armed) → v.log.faults ≤ new.faults
    → (fault ≡ opens.Disk → Rose v.log.faults new.faults) → e.fault ≡ start_fault fault → e.found ≡ None → e.in_write ≡ false → Fell tells x e (with_log new v)
unopened tells fault e new v x view same good ends told later disk is none out =
    subst (λ (z : PartsValue). Fell tells z e (with_log new v)) view (Unopened fault is none out (record { same = same; good = good; ends = ends; told = told; later = later; disk = disk }) refl)
