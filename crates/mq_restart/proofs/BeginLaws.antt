-- A first start: what it comes to.
use Rattle.std.proofs.Common.{◌≡◌, ℕ, ◌+◌, ◌<◌, ◌≤◌, ◌^◌, true, List, [], ◌∷◌, ◌++◌, length, refl, ap, arith, sym, subst, ◌∙◌, inr}
use Rattle.std.specs.Prelude.{Option, Ok, Err, Some, None}
use Rattle.std.specs.List.{AllByRecursion}
use Rattle.std.proofs.lemmas.Bool.Decides.{nat_tests}
use Rattle.mq_base.specs.Outside.{Rose}
use Rattle.mq_disk.specs.declared.cutter.Stop.{Stop}
use Rattle.mq_disk.specs.declared.cutter.Stop.TheVariants as stops
use Rattle.mq_calls.specs.declared.commands.BeginFault.{BeginFault}
use Rattle.mq_calls.specs.declared.commands.BeginFault.TheVariants as faults
use Rattle.mq_log.specs.Bodies.{IsLog}
use Rattle.mq_log.specs.State.{LogState, log_length, Appended}
use Rattle.mq_log.specs.Force.{Stops}
use Rattle.mq_log.proofs.Logs.{log_length-push}
use Rattle.mq_record.specs.Records.{record_bytes, IsRecord}
use Rattle.mq_calls.specs.State.{Given}
use Rattle.mq_calls.specs.Images.{begun, raised}
use Rattle.mq_calls.specs.declared.image.Image.{Image}
use Rattle.mq_spec_manager.specs.Stops.{first_start, started_record, started_need}
use Rattle.mq_spec_manager.specs.Words.{last_moment}
use Rattle.mq_frame.specs.Reading.{IsBytes}
use Rattle.mq_calls.specs.State.{Plain}
use Rattle.mq_spec_log.specs.Applies.{Start, is_in_bounds}
use Rattle.mq_spec_log.specs.Applies.Start.{First, Later}
use Rattle.mq_spec_log.specs.Bodies.{image, record_of}
use Rattle.mq_spec_log.proofs.BodyLaws.{record_back}
use Rattle.mq_law_image.specs.Tells.{Tells}
use Rattle.mq_law_image.proofs.Starting.{first_told}
use Rattle.mq_law_image.proofs.Telling.{later_read}
use Rattle.mq_recover.specs.declared.recovery.RecoverFault.{RecoverFault}
use Rattle.mq_recover.specs.declared.recovery.RecoverFault.TheVariants.{BadRecord, NoMemory}
use Rattle.mq_rebuild.specs.declared.building.Built.{Built}
use Rattle.mq_rebuild.specs.Rebuilt.{IsBuilt}
use Rattle.mq_redo.specs.from_core.Ties.{Tied, ends_need}
use Rattle.mq_redo.specs.from_core.Views.{plain_of}
use Rattle.mq_redo.specs.from_core.Values.{CoreValue, LogBodies, bodies_in}
use Rattle.mq_restart.specs.Begun.{given_by, begun_ends, begun_parts, begun_core, recovered_fault, IsFresh, HasOpened, IsStarted, BeginsFrom, IsReadFrom, IsUnread, HasBegun, HasNotBegun}
use Rattle.mq_restart.proofs.LowLaws.{image_low, image_under}
use Rattle.mq_restart.proofs.SeenLaws.{begun_seen}
use Rattle.mq_restart.proofs.TieLaws.{begun_tied}

pub has_started : (b : Built) (number : ℕ) (name bytes : List ℕ) (old roomy new : LogState) → IsFresh old.max old → roomy ≡ record old { room = roomy.room; spare = roomy.spare } → ends_need (begun_ends b) ≤ roomy.spare → Appended roomy bytes (Ok tt) new → Stops roomy.armed (Ok tt) new.armed → roomy.faults ≤ new.faults
    → bytes ≡ record_bytes (started_record (given_by number name old.max) (b.incarnation + 1)) → length bytes ≡ 58 → IsRecord (started_record (given_by number name old.max) (b.incarnation + 1)) → IsStarted (given_by number name old.max) b old new
has_started b number name bytes old roomy new first room aside appended ends later are long is = record {
  is = is;
  fresh = record {
    live = ap (λ (l : LogState). l.live) appended ∙ ap (λ (l : LogState). l.live) room ∙ first.live;
    settled = ap (λ (l : LogState). l.pending) appended ∙ ap (λ (l : LogState). l.pending) room ∙ first.settled;
    free = ap (λ (l : LogState). l.reserved) appended ∙ ap (λ (l : LogState). l.reserved) room ∙ first.free;
    most = ap (λ (l : LogState). l.max) appended ∙ ap (λ (l : LogState). l.max) room;
  };
  bodies = behind ∙ ap (λ (body : List ℕ). old.bodies ++ body ∷ []) are;
  long = let p = log_length-push old.bodies bytes in let e = ap log_length behind in omega (arith, e, p, long);
  ends = subst (λ (n : ℕ). Stops n (Ok tt) new.armed) (ap (λ (l : LogState). l.armed) room) ends;
  later = let r = ap (λ (l : LogState). l.faults) room in omega (arith, r, later);
  aside = let s = ap (λ (l : LogState). l.spare) appended in omega (arith, s, aside);
}
  where
    behind : new.bodies ≡ old.bodies ++ bytes ∷ []
    behind = ap (λ (l : LogState). l.bodies) appended ∙ ap (λ (l : LogState). l.bodies ++ bytes ∷ []) room

none_armed : (b : Built) (g : Given) (old new : LogState) → old.armed ≡ 0 → IsStarted g b old new → new.armed ≡ 0
none_armed b g old new none s = let e = s.ends.0 in omega (arith, none, e)

plain_begun : (b : Built) (number : ℕ) (name : List ℕ) (moment : ℕ) (old new : LogState) (i : Image) → IsBuilt i b → old.armed ≡ 0 → IsStarted (given_by number name old.max) b old new
    → plain_of (begun_parts number name moment b new) ≡ first_start (given_by number name old.max) i (log_length old.bodies) moment
plain_begun b number name moment old new i built none s =
    begun_seen number name moment i b new built
    ∙ ap (λ (max : ℕ). begun (given_by number name max) (raised 0 i) (record { length = log_length new.bodies; armed = new.armed }) moment) s.fresh.most
    ∙ ap (λ (long : ℕ). begun (given_by number name old.max) (raised 0 i) (record { length = long; armed = new.armed }) moment) s.long
    ∙ ap (λ (armed : ℕ). begun (given_by number name old.max) (raised 0 i) (record { length = log_length old.bodies + started_need (given_by number name old.max); armed = armed }) moment) (none_armed b (given_by number name old.max) old new none s)

-- the log behind a first start tells what lasts
bounds_begun : (g : Given) (n : ℕ) → n < 2 ^ 60 → is_in_bounds Later (started_record g (n + 1)) ≡ true
bounds_begun g n lt = grind (arith, nat_tests, lt)

begun_tells : (g : Given) (bodies : List (List ℕ)) (i : Image) (long moment : ℕ) → image g First bodies ≡ Ok i → AllByRecursion IsBytes bodies
    → record_of (record_bytes (started_record g (i.incarnation + 1))) ≡ Some (started_record g (i.incarnation + 1)) → Tells Later (bodies ++ record_bytes (started_record g (i.incarnation + 1)) ∷ []) (first_start g i long moment)
begun_tells g bodies i long moment e bytes read =
    first_told g Later bodies (record_bytes (started_record g (i.incarnation + 1))) i long moment (later_read g bodies i e) bytes read (bounds_begun g i.incarnation (image_under g First bodies i e))

pub begins : (tells : Type 0) (b : Built) (number : ℕ) (name : List ℕ) (moment : ℕ) (old new : LogState) (core : CoreValue) → IsReadFrom (given_by number name old.max) First old.bodies b → old.armed ≡ 0 → IsStarted (given_by number name old.max) b old new
    → core ≡ begun_core number name moment b new → BeginsFrom tells old (given_by number name old.max) moment core
begins tells b number name moment old new core r none s is seen before log less = record {
  bodies = old.bodies;
  told = r.told;
  of_disk = log;
  read = r.read;
  well = r.well;
  known = r.known;
  bytes = r.bytes;
  plain = ap (λ (v : CoreValue). v.plain) is ∙ plain_begun b number name moment old new r.told r.built none s;
  untold = ap (λ (v : CoreValue). v.delta) is;
  unstopped = ap (λ (v : CoreValue). v.stopped) is;
  log = ap (λ (v : CoreValue). v.log) is ∙ logged;
  log_tells = told;
  long = ap (λ (v : CoreValue). v.plain.log.length) is ∙ sym (ap (λ (v : CoreValue). log_length v.log.bodies) is);
  later = let f = ap (λ (v : CoreValue). v.faults) is in let k = s.later in omega (arith, less, f, k);
}
  where
    g : Given
    g = given_by number name old.max

    own : r.told.incarnation ≡ b.incarnation
    own = sym r.built.incarnation

    read_back : record_of (record_bytes (started_record g (r.told.incarnation + 1))) ≡ Some (started_record g (r.told.incarnation + 1))
    read_back = record_back (started_record g (r.told.incarnation + 1)) tt (subst (λ (n : ℕ). IsRecord (started_record g (n + 1))) (sym own) s.is)

    logged : bodies_in new ≡ record { bodies = old.bodies ++ record_bytes (started_record (given_by number name old.max) (r.told.incarnation + 1)) ∷ []; pending = None }
    logged =
        ap (λ (bodies : List (List ℕ)). let l : LogBodies = record { bodies = bodies; pending = new.pending } in l) s.bodies
        ∙ ap (λ (n : ℕ). let l : LogBodies = record { bodies = old.bodies ++ record_bytes (started_record (given_by number name old.max) (n + 1)) ∷ []; pending = new.pending } in l) r.built.incarnation
        ∙ ap (λ (o : Option (List ℕ)). let l : LogBodies = record { bodies = old.bodies ++ record_bytes (started_record (given_by number name old.max) (r.told.incarnation + 1)) ∷ []; pending = o } in l) s.fresh.settled

    told : Tells Later core.log.bodies core.plain
    told =
        subst (λ (q : Plain). Tells Later core.log.bodies q) (sym (ap (λ (v : CoreValue). v.plain) is ∙ plain_begun b number name moment old new r.told r.built none s))
        (subst (λ (bs : List (List ℕ)). Tells Later bs (first_start g r.told (log_length old.bodies) moment)) (sym (ap (λ (v : CoreValue). v.log.bodies) is ∙ ap (λ (l : LogBodies). l.bodies) logged))
        (begun_tells g old.bodies r.told (log_length old.bodies) moment r.read r.bytes read_back))

pub ties : (b : Built) (number : ℕ) (name : List ℕ) (moment : ℕ) (old new : LogState) → IsReadFrom (given_by number name old.max) First old.bodies b → IsStarted (given_by number name old.max) b old new → old.max < 2 ^ 32 → moment ≤ last_moment
    → Tied (begun_parts number name moment b new)
ties b number name moment old new r s small late = begun_tied number name moment old.max r.told b new r.built r.well r.known s.fresh s.aside small late

-- ---- what it is refused for

pub no_memory : (tells : Type 0) (seen : List ℕ) (g : Given) (old new : ℕ) → old ≤ new → HasNotBegun tells seen g old faults.NoMemory new
no_memory tells seen g old new le = record { bad = λ t. tt; later = le; rose = λ e. absurd cc }

-- (no cut is armed)
pub no_disk : (tells : Type 0) (seen : List ℕ) (g : Given) (old new armed left : ℕ) (by : Stop) → armed ≡ 0 → Stops armed (Err by) left → old ≤ new → (by ≡ stops.Disk → Rose old new) → HasNotBegun tells seen g old faults.Disk new
no_disk tells seen g old new armed left stops.Cut none ends le rose = let k = ends.0 in absurd (omega (arith, none, k))
no_disk tells seen g old new armed left stops.Disk none ends le rose = record { bad = λ t. tt; later = le; rose = λ e. rose refl }

pub not_read : (tells : Type 0) (seen : List ℕ) (g : Given) (bodies : List (List ℕ)) (old new : ℕ) (fault : RecoverFault) → (tells → IsLog seen bodies) → IsUnread g First bodies fault → old ≤ new → HasNotBegun tells seen g old (recovered_fault fault) new
not_read tells seen g bodies old new (BadRecord place) log e le = record { bad = λ t. inr (bodies, log t, e); later = le; rose = λ f. absurd cc }
not_read tells seen g bodies old new NoMemory log e le = no_memory tells seen g old new le

-- counts of faults that rose later rose
pub not_begun_later : (tells : Type 0) (seen : List ℕ) (g : Given) (first old new : ℕ) (fault : BeginFault) → first ≤ old → HasNotBegun tells seen g old fault new → HasNotBegun tells seen g first fault new
not_begun_later tells seen g first old new fault le h = record {
  bad = h.bad;
  later = let k = h.later in omega (arith, le, k);
  rose = λ e. rose_from first old new le (h.rose e);
}
  where
    rose_from : (first old new : ℕ) → first ≤ old → Rose old new → Rose first new
    rose_from first old new le r = grind (arith, le, r)

pub is_low : (g : Given) (start : Start) (bodies : List (List ℕ)) (b : Built) → IsReadFrom g start bodies b → b.incarnation + 1 < 2 ^ 64
is_low g start bodies b r = let k = image_low g start bodies r.told r.read in let e = r.built.incarnation in omega (arith, k, e)

-- ---- a first start as a whole

pub begun_whole : (tells : Type 0) (seen : List ℕ) (before max number : ℕ) (name : List ℕ) (moment : ℕ) (log : LogState) (core : CoreValue) → HasOpened tells seen before max log → BeginsFrom tells log (given_by number name log.max) moment core
    → HasBegun tells seen before (given_by number name max) moment core
begun_whole tells seen before max number name moment log core o h = subst (λ (n : ℕ). HasBegun tells seen before (given_by number name n) moment core) o.opened.fresh.most (h seen before o.read o.later)

pub refused_whole : (tells : Type 0) (seen : List ℕ) (before max number : ℕ) (name : List ℕ) (log : LogState) (fault : BeginFault) (new : ℕ) → HasOpened tells seen before max log → HasNotBegun tells seen (given_by number name log.max) log.faults fault new
    → HasNotBegun tells seen (given_by number name max) before fault new
refused_whole tells seen before max number name log fault new o h =
    not_begun_later tells seen (given_by number name max) before log.faults new fault o.later (subst (λ (n : ℕ). HasNotBegun tells seen (given_by number name n) log.faults fault new) o.opened.fresh.most h)

pub unread_whole : (tells : Type 0) (seen : List ℕ) (before max number : ℕ) (name : List ℕ) (log : LogState) (fault : RecoverFault) (begin : BeginFault) (new : ℕ) → HasOpened tells seen before max log → IsUnread (given_by number name log.max) First log.bodies fault
    → begin ≡ recovered_fault fault → new ≡ log.faults → HasNotBegun tells seen (given_by number name max) before begin new
unread_whole tells seen before max number name log fault begin new o h e same =
    refused_whole tells seen before max number name log begin new o
    (subst (λ (b : BeginFault). HasNotBegun tells seen (given_by number name log.max) log.faults b new) (sym e) (not_read tells seen (given_by number name log.max) log.bodies log.faults new fault o.read h (omega (arith, same))))
