-- Where a story tells of a failed disk, the count of its faults is above 0.
use Rattle.std.proofs.Common.{◌≡◌, ℕ, zero, suc, ◌+◌, ◌-◌, ◌^◌, ◌≤◌, Bool, true, false, ◌||◌, List, [], ◌∷◌, ◌++◌, length, refl, sym, ap, subst, ◌∙◌, inl, inr, arith}
use Rattle.std.specs.Prelude.{◌⊎◌, IfSome, Option, Some, None, if◌then◌else◌, map, min, slice_get, ◌==◌, option_map, option_to_list}
use Rattle.std.proofs.lemmas.List.{length-map}
use Rattle.std.proofs.lemmas.Bool.Decides.{nat_tests}
use Rattle.mq_base.specs.Members.{Mem}
use Rattle.mq_base.specs.Outside.{Rose}
use Rattle.mq_history.specs.declared.history.History.{History}
use Rattle.mq_spec_network.specs.Story.{Line, entries_at, entries_or, part}
use Rattle.mq_spec_node.specs.Terms.{Entry}
use Rattle.mq_world.specs.from_events.Disks.{HasRisen, disk_failed, disk_failures}
use Rattle.mq_world.specs.from_begin.Begun.{Held, NotBegan, RefusesAt}
use Rattle.mq_world.specs.from_begin.Begun as begun
use Rattle.mq_world.specs.from_begin.NetFaultVariants as faults
use Rattle.mq_calls.specs.declared.commands.RestartFault.{RestartFault}
use Rattle.mq_calls.specs.declared.commands.RestartFault.TheVariants as starts
use Rattle.mq_calls.specs.declared.commands.ScRefusal.{ScRefusal}
use Rattle.mq_calls.specs.declared.commands.ScRefusal.TheVariants as refusals
use Rattle.mq_core.specs.Values.{CoreValue}
use Rattle.mq_disk.specs.declared.cutter.Stop.TheVariants as stops
use Rattle.mq_ending.specs.declared.verdict.BadLog.{BadLog}
use Rattle.mq_ending.specs.declared.verdict.Verdict.TheVariants as verdicts
use Rattle.mq_ending.specs.Verdicts.{acted_disk, any_disk, by_conflict, by_disk, by_log, first_bad, op_disk, sc_disk, start_disk, tells_disk, verdict}
use Rattle.mq_history.specs.declared.acts.Acted.{Acted}
use Rattle.mq_history.specs.declared.acts.Acted.TheVariants as acted
use Rattle.mq_history.specs.declared.acts.OpRefusal.{OpRefusal}
use Rattle.mq_history.specs.declared.acts.OpRefusal.TheVariants as reasons
use Rattle.mq_history.specs.declared.calls.Reply.{Reply}
use Rattle.mq_history.specs.declared.calls.Reply.TheVariants as replies
use Rattle.mq_history.specs.declared.scenario.ManagerLine.{ManagerLine}
use Rattle.mq_history.specs.declared.scenario.Scenario.{Scenario}
use Rattle.mq_history.specs.declared.story.Conflict.{Conflict}
use Rattle.mq_law_ran.specs.Runs.{AreHistories}
use Rattle.mq_spec_network.specs.Conflict.{conflict}
use Rattle.mq_spec_network.specs.Given.{first_moment, surroundings}
use Rattle.mq_spec_network.specs.Story.{IsStory}
use Rattle.mq_spec_node.specs.Words.{opening_node}
use Rattle.mq_world.specs.Resting.{AreRisen, IsRisen, counts_in, faults_in}
use Rattle.mq_world.specs.Starting.{IsFresh}
use Rattle.mq_world.specs.Words.{Began, IsRested, RestState}
use Rattle.mq_run.specs.declared.reporting.Form.{Form}
use Rattle.mq_run.specs.Ends.{LeftEnds, NoneEnds, RunEnds}
use Rattle.mq_run.specs.Leaves.{DiskRose, OneRose, left_of}
use Rattle.mq_run.specs.declared.status.Status.{Status}
use Rattle.mq_run.specs.declared.status.Status.TheVariants as status
use Rattle.mq_run.proofs.JoinLaws.{fresh}
use Rattle.mq_run.proofs.StoredLaws.{IsStored, all_stored}

-- what a line did is its manager's part
same_number : (n : ℕ) → (n == n) ≡ true
same_number n = nat_tests_refl n
  where
    nat_tests_refl : (n : ℕ) → (n == n) ≡ true
    nat_tests_refl n = grind (arith, nat_tests)

mem_part : (story : List Line) (x : Line) → Mem x story → Mem x.entry (part x.manager story)
mem_part [] x m = absurd m
mem_part (y ∷ ys) x (inl same) =
    subst (λ (z : Line). Mem x.entry (if x.manager == z.manager then z.entry ∷ part x.manager ys else part x.manager ys)) same
    (subst (λ (b : Bool). Mem x.entry (if b then x.entry ∷ part x.manager ys else part x.manager ys)) (sym (same_number x.manager)) (inl refl))
mem_part (y ∷ ys) x (inr m) = either_way (x.manager == y.manager) (mem_part ys x m)
  where
    either_way : (b : Bool) → Mem x.entry (part x.manager ys) → Mem x.entry (if b then y.entry ∷ part x.manager ys else part x.manager ys)
    either_way true k = inr k
    either_way false k = k

entry_in : (o : Option History) (e : Entry) → Mem e (entries_or o) → (h : History) × (o ≡ Some h) × Mem e h.entries
entry_in None e m = absurd m
entry_in (Some h) e m = (h, refl, m)

-- one that tells so counts
some_on : (a b : ℕ) → 1 ≤ b → 1 ≤ a + b
some_on a b le = omega (arith, le)

one_more : (b : ℕ) → 1 ≤ 1 + b
one_more b = omega arith

failed_once : (es : List Entry) (e : Entry) → Mem e es → disk_failed e.reply ≡ true → 1 ≤ disk_failures es
failed_once [] e m told = absurd m
failed_once (x ∷ xs) e (inl same) told =
    subst (λ (b : Bool). 1 ≤ (if b then 1 else 0) + disk_failures xs) (sym (ap (λ (y : Entry). disk_failed y.reply) (sym same) ∙ told)) (one_more (disk_failures xs))
failed_once (x ∷ xs) e (inr m) told = some_on (if disk_failed x.reply then 1 else 0) (disk_failures xs) (failed_once xs e m told)

rose_from : (n count : ℕ) → 1 ≤ n → min n (2 ^ 64 - 1) ≤ count → Rose 0 count
rose_from n count some le = grind (arith, some, le)

pub one_rose : (cs : List ℕ) (hs : List History) (m : ℕ) (h : History) → AreRisen cs hs → slice_get hs m ≡ Some h → 1 ≤ disk_failures h.entries → OneRose cs
one_rose [] [] m h r at some = absurd cc
one_rose [] (x ∷ xs) m h r at some = absurd r
one_rose (c ∷ cs) [] m h r at some = absurd r
one_rose (c ∷ cs) (x ∷ xs) zero h r at some =
    let same : x ≡ h = cc in
    inl (rose_from (disk_failures x.entries) c (subst (λ (y : History). 1 ≤ disk_failures y.entries) (sym same) some) r.0)
one_rose (c ∷ cs) (x ∷ xs) (suc m) h r at some = inr (one_rose cs xs m h r.1 at some)

-- the last of them
pub last_rose : (cs : List ℕ) (o : Option ℕ) (c : ℕ) → o ≡ Some c → Rose 0 c → OneRose (cs ++ option_to_list o)
last_rose [] o c is rose = subst (λ (x : Option ℕ). OneRose (option_to_list x)) (sym is) (inl rose)
last_rose (x ∷ xs) o c is rose = inr (last_rose xs o c is rose)

-- nothing has happened
zero_risen : (count : ℕ) → min 0 (2 ^ 64 - 1) ≤ count
zero_risen count = omega arith

pub none_risen : (cs : List ℕ) (hs : List History) → length cs ≡ length hs → ((m : ℕ) (h : History) → slice_get hs m ≡ Some h → h.entries ≡ []) → AreRisen cs hs
none_risen [] [] long none = tt
none_risen [] (h ∷ hs) long none = absurd cc
none_risen (c ∷ cs) [] long none = absurd cc
none_risen (c ∷ cs) (h ∷ hs) long none =
    (subst (λ (es : List Entry). HasRisen es c) (sym (none zero h refl)) (zero_risen c), none_risen cs hs (omega (arith, long)) (λ m k at. none (suc m) k at))

pub fresh_risen : (w v : RestState) → v ≡ w → IsRested w → IsFresh w → IsRisen v
fresh_risen w v same r f = subst IsRisen (sym same) (none_risen (counts_in w) w.histories (length-map w.managers faults_in ∙ r.managers ∙ sym r.histories) f.undone)

-- as the code has them
pub ended_risen : (w : RestState) (net : Option RestState) → net ≡ Some w → IsRisen w → IfSome net IsRisen
ended_risen w net e r = subst (λ (x : Option RestState). IfSome x IsRisen) (sym e) r

pub begun_risen : (tells : Type 0) (held : Held) (moment : ℕ) (s : Scenario) (w : RestState) (net : Option RestState) → net ≡ Some w → IsRested w → Began tells held s moment w → IfSome net IsRisen
begun_risen tells held moment s w net e r b = ended_risen w net e (fresh_risen w w refl r (fresh tells held s moment w r b))

-- what a story tells of a disk is stored so
sc_told : (r : ScRefusal) → IsStored (replies.Acted (acted.Sc r)) → sc_disk r ≡ true → ⊥
sc_told refusals.Down s e = absurd cc
sc_told refusals.Exists s e = absurd cc
sc_told refusals.Missing s e = absurd cc
sc_told (refusals.BadValue keyword) s e = absurd cc
sc_told refusals.InUse s e = absurd cc
sc_told refusals.NotEmpty s e = absurd cc
sc_told refusals.NoMemory s e = absurd cc
sc_told refusals.Disk s e = s
sc_told refusals.Cut s e = absurd cc

op_told : (r : OpRefusal) → IsStored (replies.Acted (acted.Op r)) → op_disk r ≡ true → ⊥
op_told reasons.Down s e = absurd cc
op_told reasons.NotFound s e = absurd cc
op_told reasons.Running s e = absurd cc
op_told reasons.BadQueue s e = absurd cc
op_told reasons.QueueInUse s e = absurd cc
op_told reasons.InDoubt s e = absurd cc
op_told reasons.NotInDoubt s e = absurd cc
op_told reasons.BadNumber s e = absurd cc
op_told reasons.NoMemory s e = absurd cc
op_told reasons.Disk s e = s
op_told reasons.Cut s e = absurd cc

start_told : (f : RestartFault) → start_disk f ≡ true → disk_failed (replies.Acted (acted.Start f)) ≡ true
start_told starts.Up e = absurd cc
start_told starts.Disk e = refl
start_told starts.Cut e = absurd cc
start_told (starts.BadLog place) e = absurd cc
start_told starts.NoMemory e = absurd cc

acted_told : (a : Acted) → IsStored (replies.Acted a) → acted_disk a ≡ true → disk_failed (replies.Acted a) ≡ true
acted_told acted.Done s e = absurd cc
acted_told (acted.Shown shown) s e = absurd cc
acted_told acted.Down s e = absurd cc
acted_told (acted.Sc r) s e = absurd (sc_told r s e)
acted_told (acted.Op r) s e = absurd (op_told r s e)
acted_told (acted.Start f) s e = start_told f e

reply_told : (r : Reply) → IsStored r → tells_disk r ≡ true → disk_failed r ≡ true
reply_told (replies.Connected a) s e = absurd cc
reply_told (replies.Opened a) s e = absurd cc
reply_told (replies.Ended a) s e = absurd cc
reply_told (replies.Put a) s e = absurd cc
reply_told (replies.Got a) s e = absurd cc
reply_told (replies.Acted a) s e = acted_told a s e
reply_told replies.Changed s e = absurd cc
reply_told replies.Tried s e = absurd cc
reply_told (replies.Triggered q) s e = absurd cc
reply_told (replies.Stopped stops.Disk) s e = refl
reply_told (replies.Stopped stops.Cut) s e = absurd cc

-- a line of the story
line_told : (story : List Line) → any_disk story ≡ true → (x : Line) × Mem x story × (tells_disk x.entry.reply ≡ true)
line_told [] e = absurd cc
line_told (x ∷ xs) e = first (tells_disk x.entry.reply) refl e (line_told xs)
  where
    first : (b : Bool) → tells_disk x.entry.reply ≡ b → (b || any_disk xs) ≡ true → (any_disk xs ≡ true → (z : Line) × Mem z xs × (tells_disk z.entry.reply ≡ true)) → (y : Line) × Mem y (x ∷ xs) × (tells_disk y.entry.reply ≡ true)
    first true is t rest = (x, inl refl, is)
    first false is t rest = let k = rest t in (k.0, inr k.1, k.2)

log_whole : (o : Option BadLog) → verdicts.DiskFault ≡ by_log o → ⊥
log_whole None e = absurd cc
log_whole (Some bad) e = absurd cc

disk_by : (o : Option Conflict) (b : Bool) (bad : Option BadLog) → verdicts.DiskFault ≡ by_conflict o (by_disk b (by_log bad)) → b ≡ true
disk_by (Some found) b bad e = absurd cc
disk_by None true bad e = refl
disk_by None false bad e = absurd (log_whole bad e)

-- Where this is the verdict, a disk of the network has failed.
pub verdict_rose : (w : RestState) (story : List Line) → AreHistories w.scenario w.histories → IsRisen w → IsStory w.histories story → verdicts.DiskFault ≡ verdict w.scenario w.histories story → OneRose (counts_in w)
verdict_rose w story hs risen is e =
    let x = line_told story (disk_by (conflict w.scenario w.histories story) (any_disk story) (first_bad story) e) in
    let there : Mem x.0.entry (entries_at w.histories x.0.manager) = subst (Mem x.0.entry) (is.parts x.0.manager) (mem_part story x.0 x.1) in
    let h = entry_in (slice_get w.histories x.0.manager) x.0.entry there in
    let follows = (hs.each x.0.manager h.0 h.1).replays.follows in
    let told : disk_failed x.0.entry.reply ≡ true = reply_told x.0.entry.reply (all_stored (opening_node (surroundings w.scenario x.0.manager) h.0) 0 h.0.entries follows x.0.entry h.2) x.2 in
    one_rose (counts_in w) w.histories x.0.manager h.0 risen h.1 (failed_once h.0.entries x.0.entry h.2 told)

-- By status.
failed_handed : (own : Option ℕ) (cs : List ℕ) (before : List ℕ) → begun.HasFailed own → cs ≡ before ++ option_to_list own → OneRose cs
failed_handed None cs before failed handed = absurd failed
failed_handed (Some count) cs before failed handed = subst OneRose (sym handed) (last_rose before (Some count) count refl failed)

refused_rose : (tells : Type 0) (held : Held) (place before now : ℕ) (own : Option ℕ) (o : Option ManagerLine) (cs handed : List ℕ) → RefusesAt tells held place before now own faults.DiskFault o → cs ≡ handed ++ option_to_list own → Rose before now ⊎ OneRose cs
refused_rose tells held place before now own None cs handed r is = absurd r
refused_rose tells held place before now own (Some l) cs handed (inl rose) is = inl rose
refused_rose tells held place before now own (Some l) cs handed (inr failed) is = inr (failed_handed own cs handed failed is)

pub none_rose : (tells : Type 0) (held : Held) (moment : ℕ) (ls : List ManagerLine) (before now : ℕ) (cs : List ℕ) → NotBegan tells held moment ls before now cs faults.DiskFault → Rose before now ⊎ OneRose cs
none_rose tells held moment ls before now cs n = refused_rose tells held (length n.before) before now n.own (slice_get ls (length n.before)) cs (map (λ (c : CoreValue). c.faults) n.before) n.refuses n.handed

disk_none : (tells : Type 0) (held : List ℕ → List ℕ → Type 0) (start : ℕ) (s : Scenario) (before now : ℕ) (cs : List ℕ) (st : Status) → NoneEnds tells held start s before now cs st → st ≡ status.DiskFault → Rose before now ⊎ OneRose cs
disk_none tells held start s before now cs st n e =
    none_rose tells held (first_moment s start) s.managers before now cs (subst (NoneEnds tells held start s before now cs) e n)

disk_left : (form : Form) (old new : Option (List ℕ)) (st : Status) (w : RestState) → AreHistories w.scenario w.histories → LeftEnds form old new st (left_of w) → IsRisen w → st ≡ status.DiskFault → OneRose (counts_in w)
disk_left form old new st w hs ends risen e =
    let wrote = subst (λ (x : Status). LeftEnds form old new x (left_of w)) e ends in
    verdict_rose w wrote.ended.story hs risen wrote.ended.is wrote.ended.verdict

pub disk_rose : (form : Form) (tells : Type 0) (held : List ℕ → List ℕ → Type 0) (start : ℕ) (s : Scenario) (before now : ℕ) (old new : Option (List ℕ)) (st : Status) (net : Option RestState) (cs : List ℕ)
    → RunEnds form tells held start s before now old new st (option_map left_of net) cs → IfSome net IsRisen → st ≡ status.DiskFault → DiskRose before now (option_map counts_in net) cs
disk_rose form tells held start s before now old new st None cs ends risen e = disk_none tells held start s before now cs st ends.0 e
disk_rose form tells held start s before now old new st (Some w) cs ends risen e = disk_left form old new st w ends.0.histories ends.1 risen e
