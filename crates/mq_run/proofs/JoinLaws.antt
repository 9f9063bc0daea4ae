-- From managers at rest to what a run leaves.
use Rattle.std.proofs.Common.{ℕ, zero, suc, ◌≡◌, ◌+◌, List, [], ◌∷◌, refl, ap, sym, subst, ◌∙◌, arith, length, map}
use Rattle.std.specs.Prelude.{Option, Some, None, slice_get}
use Rattle.mq_core.specs.Values.{CoreValue}
use Rattle.mq_history.specs.declared.history.History.{History}
use Rattle.mq_history.specs.declared.scenario.CableLine.{CableLine}
use Rattle.mq_history.specs.declared.scenario.ManagerLine.{ManagerLine}
use Rattle.mq_history.specs.declared.scenario.Scenario.{Scenario}
use Rattle.mq_log.specs.State.{log_length}
use Rattle.mq_calls.specs.State.{Given}
use Rattle.mq_calls.specs.Recovery.{AreKnown, IsImage}
use Rattle.mq_spec_node.specs.Node.{Own}
use Rattle.mq_spec_node.specs.Openings.{first_node}
use Rattle.mq_spec_network.specs.Given as givens
use Rattle.mq_spec_network.specs.Lawful.{marks_at, marks_or}
use Rattle.mq_spec_network.specs.Story.{entries_at, entries_or}
use Rattle.mq_nodes.proofs.CarriedLaws.{carried_undone}
use Rattle.mq_world.specs.from_begin.Begun.{AllBegan, BeginsOn, Held, moment_or}
use Rattle.mq_world.specs.from_begin.Begun as begun
use Rattle.mq_world.specs.from_opening.Opened.{JustBegun}
use Rattle.mq_world.specs.Words.{Began, IsRested, IsRestedAt, OpensWith, RestState}
use Rattle.mq_law_ran.specs.Runs.{AreHistories, AreOpenings, BeginsAs, IsOpening, nodes_from, standing_left}
use Rattle.mq_law_ran.proofs.Lawfuls as lawfuls
use Rattle.mq_spec_network.specs.Given.{surroundings}
use Rattle.mq_spec_node.specs.Node.{Node}
use Rattle.mq_spec_node.specs.Replays.{state_of}
use Rattle.mq_calls.specs.State.{Plain}
use Rattle.mq_law_ran.specs.from_standing.Stands.{cable_standing, cables_standing, manager_standing, receiver_standing, sender_standing}
use Rattle.mq_world.specs.Starting.{IsFresh}
use Rattle.mq_law_ran.proofs.Lawfuls.{there}
use Rattle.mq_run.specs.Ends.{RanOn}
use Rattle.mq_run.specs.Leaves.{AreKnownImages, cable_stands, cables_stand, left_of, manager_stands, node_at_rest, node_resting, stands_at_rest}

-- ---- histories that replay

rested_at : (w : RestState) → IsRested w → (m : ℕ) (h : History) → slice_get w.histories m ≡ Some h → (v : CoreValue) × (own : Own) × IsRestedAt w.scenario m v own h
rested_at w r m h e =
    let (v, is) = there w.histories w.managers (r.histories ∙ sym r.managers) m h e in
    let (own, here) = there w.histories w.owns (r.histories ∙ sym r.owns) m h e in
    (v, own, r.each m v own h is here e)

pub histories : (w : RestState) → IsRested w → AreHistories w.scenario w.histories
histories w r = record { all = r.histories; each = λ m h e. let x = rested_at w r m h e in record { replays = x.2.replays; triggers = x.2.triggers } }

-- ---- openings

began_at : (tells : Type 0) (held : Held) (moment place : ℕ) (ls : List ManagerLine) (vs : List CoreValue) → AllBegan tells held moment place ls vs → (m : ℕ) (l : ManagerLine) (v : CoreValue) → slice_get ls m ≡ Some l → slice_get vs m ≡ Some v
    → BeginsOn tells (held l.name) (begun.given_at (place + m) l) moment v
began_at tells held moment place [] vs h m l v e f = absurd cc
began_at tells held moment place (l ∷ ls) [] h m x v e f = absurd h
began_at tells held moment place (l ∷ ls) (v ∷ vs) h zero x y e f =
    let line : l ≡ x = cc in
    let core : v ≡ y = cc in
    subst (λ (n : ℕ). BeginsOn tells (held x.name) (begun.given_at n x) moment y) (omega arith)
    (subst (λ (z : ManagerLine). BeginsOn tells (held z.name) (begun.given_at place z) moment y) line (subst (λ (z : CoreValue). BeginsOn tells (held l.name) (begun.given_at place l) moment z) core h.0))
began_at tells held moment place (l ∷ ls) (v ∷ vs) h (suc m) x y e f =
    subst (λ (n : ℕ). BeginsOn tells (held x.name) (begun.given_at n x) moment y) (omega arith) (began_at tells held moment (suc place) ls vs h.1 m x y e f)

pub first_is : (moment : Option ℕ) (start : ℕ) → moment_or moment start ≡ givens.moment_or moment start
first_is None start = refl
first_is (Some m) start = refl

given_is : (s : Scenario) (m : ℕ) (l : ManagerLine) → slice_get s.managers m ≡ Some l → begun.given_at m l ≡ givens.given_at s m
given_is s m l e = ap (λ (x : Option ManagerLine). record { number = m + 1; name = givens.name_or x; log_max = givens.log_max_or x }) (sym e)

-- as its disk told it, with what the scenario gives it
opening_at : (tells : Type 0) (holds : List ℕ → Type 0) (g : Given) (own : Own) (moment : ℕ) (v : CoreValue) (h : History) → BeginsOn tells holds g moment v → OpensWith tells v h → IsOpening tells holds (record { given = g; own = own }) moment h
opening_at tells holds g own moment v h b o =
    let just : JustBegun tells v = record { seen = b.seen; before = 0; given = g; moment = moment; has = b.begun } in
    let opening : h.opening ≡ b.begun.told = o.opening just in
    let long : h.length ≡ log_length b.begun.bodies = o.long just in
    let began : h.moment ≡ moment = o.moment ∙ ap (λ (p : Plain). p.moment) b.begun.plain in
    record {
      seen = b.seen;
      is = b.is;
      bodies = b.begun.bodies;
      of_disk = b.begun.of_disk;
      told = b.begun.told;
      read = b.begun.read;
      begins = λ i. first_node g own (opening i) (long i) (began i);
      well = subst IsImage (sym opening) b.begun.well;
      known = subst (AreKnown g.number) (sym opening) b.begun.known;
      bytes = b.begun.bytes;
    }

pub openings : (tells : Type 0) (held : Held) (s : Scenario) (start : ℕ) (w : RestState) → IsRested w → Began tells held s (moment_or s.moment start) w → AreOpenings tells held start (left_of w)
openings tells held s start w r b m h line e f =
    let (v, is) = there w.histories w.managers (r.histories ∙ sym r.managers) m h e in
    let same : slice_get s.managers m ≡ Some line = ap (λ (x : Scenario). slice_get x.managers m) (sym b.scenario) ∙ f in
    let on : BeginsOn tells (held line.name) (begun.given_at m line) (moment_or s.moment start) v =
    subst (λ (n : ℕ). BeginsOn tells (held line.name) (begun.given_at n line) (moment_or s.moment start) v) (omega arith) (began_at tells held (moment_or s.moment start) 0 s.managers w.managers b.began m line v same is) in
    let opens : IsOpening tells (held line.name) (record { given = begun.given_at m line; own = givens.own_at w.scenario m }) (moment_or s.moment start) h = opening_at tells (held line.name) (begun.given_at m line) (givens.own_at w.scenario m) (moment_or s.moment start) v h on (b.opened m v h is e) in
    subst (λ (n : ℕ). IsOpening tells (held line.name) (surroundings w.scenario m) n h) (first_is s.moment start ∙ ap (λ (x : Scenario). givens.first_moment x start) (sym b.scenario))
    (subst (λ (g : Given). IsOpening tells (held line.name) (record { given = g; own = givens.own_at w.scenario m }) (moment_or s.moment start) h) (given_is w.scenario m line f) opens)

-- Histories that begin with the same nodes, of logs that know their idents.
pub alike : (tells : Type 0) (held : Held) (start : ℕ) (s : Scenario) (gs hs : List History) → ((m : ℕ) (h : History) → slice_get hs m ≡ Some h → BeginsAs s gs m h) → AreKnownImages hs
    → AreOpenings tells held start (record { scenario = s; histories = gs }) → AreOpenings tells held start (record { scenario = s; histories = hs })
alike tells held start s gs hs same known o m h line e f =
    let x = same m h e in
    let y = o m x.before line x.is f in
    record { seen = y.seen; is = y.is; bodies = y.bodies; of_disk = y.of_disk; told = y.told; read = y.read; begins = sym x.begins ∙ y.begins; well = (known m h e).0; known = (known m h e).1; bytes = y.bytes }

-- ---- nothing was done yet

pub fresh : (tells : Type 0) (held : Held) (s : Scenario) (moment : ℕ) (w : RestState) → IsRested w → Began tells held s moment w → IsFresh w
fresh tells held s moment w r b = record {
  undone = λ m h e. let (v, is) = there w.histories w.managers (r.histories ∙ sym r.managers) m h e in (b.opened m v h is e).entries;
  unmarked = λ m h e. let (v, is) = there w.histories w.managers (r.histories ∙ sym r.managers) m h e in (b.opened m v h is e).marks;
}

none_of : (w : RestState) → IsFresh w → (m : ℕ) (x : Option History) → slice_get w.histories m ≡ x → (entries_or x ≡ []) × (marks_or x ≡ [])
none_of w f m None e = (refl, refl)
none_of w f m (Some h) e = (f.undone m h e, f.unmarked m h e)

pub nothing_done : (w : RestState) → IsFresh w → (m : ℕ) → entries_at w.histories m ≡ []
nothing_done w f m = (none_of w f m (slice_get w.histories m) refl).0

pub nothing_noted : (w : RestState) → IsFresh w → (m : ℕ) → marks_at w.histories m ≡ []
nothing_noted w f m = (none_of w f m (slice_get w.histories m) refl).1

pub knows : (w : RestState) → IsRested w → AreKnownImages w.histories
knows w r m h e = let x = rested_at w r m h e in (x.2.image, x.2.known)

-- no step was done
pub ran_none : (w : RestState) → IsRested w → IsFresh w → RanOn w.scenario w.histories (left_of w)
ran_none w r f = record {
  scenario = refl;
  histories = histories w r;
  lawful = lawfuls.lawful w.scenario w.histories (histories w r) r.carried (lawfuls.begun w.scenario w.histories (nothing_done w f) (nothing_noted w f));
  carried = carried_undone w.scenario w.histories (nothing_done w f);
  begins = λ m h e. record { before = h; is = e; begins = refl };
  known = knows w r;
  apart = refl;
}

-- ---- how they stand

stands_from : (s : Scenario) (m : ℕ) (vs : List CoreValue) (owns : List Own) (hs : List History) → length vs ≡ length hs → length owns ≡ length hs
    → ((k : ℕ) (v : CoreValue) (own : Own) (h : History) → slice_get vs k ≡ Some v → slice_get owns k ≡ Some own → slice_get hs k ≡ Some h → IsRestedAt s (m + k) v own h)
    → map (λ (n : Node). manager_standing n.manager) (nodes_from s m hs) ≡ map manager_stands vs
stands_from s m [] owns [] a b f = refl
stands_from s m (v ∷ vs) owns [] a b f = absurd (omega (arith, a))
stands_from s m [] owns (h ∷ hs) a b f = absurd (omega (arith, a))
stands_from s m (v ∷ vs) [] (h ∷ hs) a b f = absurd (omega (arith, b))
stands_from s m (v ∷ vs) (own ∷ owns) (h ∷ hs) a b f =
    let here : IsRestedAt s m v own h = subst (λ (n : ℕ). IsRestedAt s n v own h) (omega arith) (f 0 v own h refl refl refl) in
    let head : (state_of (surroundings s m) h).manager ≡ v.plain = sym (ap (λ (n : Node). n.manager) here.node) in
    let rest = stands_from s (suc m) vs owns hs (omega (arith, a)) (omega (arith, b)) (λ k x o g p q r. subst (λ (n : ℕ). IsRestedAt s n x o g) (omega arith) (f (suc k) x o g p q r)) in
    λ i. manager_standing (head i) ∷ rest i

-- the node at a place, as its history leads to it
node_from : (s : Scenario) (m : ℕ) (vs : List CoreValue) (owns : List Own) (hs : List History) → length vs ≡ length hs → length owns ≡ length hs
    → ((k : ℕ) (v : CoreValue) (own : Own) (h : History) → slice_get vs k ≡ Some v → slice_get owns k ≡ Some own → slice_get hs k ≡ Some h → IsRestedAt s (m + k) v own h)
    → (k : ℕ) → node_resting (slice_get vs k) (slice_get owns k) ≡ slice_get (nodes_from s m hs) k
node_from s m [] owns [] a b f k = refl
node_from s m (v ∷ vs) owns [] a b f k = absurd (omega (arith, a))
node_from s m [] owns (h ∷ hs) a b f k = absurd (omega (arith, a))
node_from s m (v ∷ vs) [] (h ∷ hs) a b f k = absurd (omega (arith, b))
node_from s m (v ∷ vs) (own ∷ owns) (h ∷ hs) a b f zero =
    let here : IsRestedAt s m v own h = subst (λ (n : ℕ). IsRestedAt s n v own h) (omega arith) (f 0 v own h refl refl refl) in
    ap (λ (n : Node). Some n) here.node
node_from s m (v ∷ vs) (own ∷ owns) (h ∷ hs) a b f (suc k) =
    node_from s (suc m) vs owns hs (omega (arith, a)) (omega (arith, b)) (λ j x o g p q r. subst (λ (n : ℕ). IsRestedAt s n x o g) (omega arith) (f (suc j) x o g p q r)) k

node_at : (w : RestState) → IsRested w → (m : ℕ) → node_at_rest w m ≡ slice_get (nodes_from w.scenario 0 w.histories) m
node_at w r m = node_from w.scenario 0 w.managers w.owns w.histories (r.managers ∙ sym r.histories) (r.owns ∙ sym r.histories) (λ k v own h e f g. subst (λ (n : ℕ). IsRestedAt w.scenario n v own h) (omega arith) (r.each k v own h e f g)) m

cable_at : (w : RestState) → IsRested w → (cable : ℕ) (c : CableLine) → cable_stands w cable c ≡ cable_standing (nodes_from w.scenario 0 w.histories) cable c
cable_at w r cable c = λ i. record {
  channel = c.channel;
  sender = sender_standing cable c.channel (node_at w r c.sender i);
  receiver = receiver_standing cable c.channel (node_at w r c.receiver i);
}

cables_from : (w : RestState) → IsRested w → (cable : ℕ) (cs : List CableLine) → cables_stand w cable cs ≡ cables_standing (nodes_from w.scenario 0 w.histories) cable cs
cables_from w r cable [] = refl
cables_from w r cable (c ∷ cs) = λ i. cable_at w r cable c i ∷ cables_from w r (suc cable) cs i

pub standing : (w : RestState) → IsRested w → stands_at_rest w.scenario w ≡ standing_left (left_of w)
standing w r =
    let managers = stands_from w.scenario 0 w.managers w.owns w.histories (r.managers ∙ sym r.histories) (r.owns ∙ sym r.histories) (λ k v own h e f g. subst (λ (n : ℕ). IsRestedAt w.scenario n v own h) (omega arith) (r.each k v own h e f g)) in
    let cables = cables_from w r 0 w.scenario.cables in
    λ i. record { managers = sym managers i; cables = cables i }
