-- The end of a run, by what its story says, and by what was written.
use Rattle.std.proofs.Common.{◌≡◌, ℕ, List}
use Rattle.std.specs.Prelude.{Option}
use Rattle.std.specs.Io.KnownBytes.{Appends, Keeps}
use Rattle.mq_ending.specs.declared.ending.Ending.{Ending}
use Rattle.mq_ending.specs.declared.verdict.Verdict.{Verdict}
use Rattle.mq_ending.specs.declared.verdict.Verdict.TheVariants as verdicts
use Rattle.mq_ending.specs.Ends.{IsEnding}
use Rattle.mq_history.specs.declared.history.History.{History}
use Rattle.mq_history.specs.declared.scenario.Scenario.{Scenario}
use Rattle.mq_net_stands.specs.declared.standing.Standing.{Standing}
use Rattle.mq_run.specs.declared.reporting.Form.{Form}
use Rattle.mq_run.specs.declared.reporting.Form.TheVariants as forms
use Rattle.mq_run.specs.Forms.{EndsBy}
use Rattle.mq_run.specs.declared.status.Status.TheVariants as status
use Rattle.mq_law_ran.specs.Runs.{Left}
use Rattle.mq_run.specs.Ends.{DidAll, HasEnded, LeftEnds, Wrote, WroteFront}
use Rattle.mq_run.specs.Statuses.{verdict_status}

whole : (form : Form) (old new : Option (List ℕ)) (v : Verdict) (l : Left) (text : List ℕ) → DidAll l → HasEnded form l v text → Appends old new text → Wrote form old new v l
whole form old new v l text did ended written = record { did = did; text = text; ended = ended; written = written }

pub wrote : (form : Form) (old new : Option (List ℕ)) (v : Verdict) (l : Left) (text : List ℕ) → DidAll l → HasEnded form l v text → Appends old new text → LeftEnds form old new (verdict_status v) l
wrote form old new verdicts.Whole l text did ended written = whole form old new verdicts.Whole l text did ended written
wrote form old new (verdicts.Conflict found) l text did ended written = whole form old new (verdicts.Conflict found) l text did ended written
wrote form old new verdicts.DiskFault l text did ended written = whole form old new verdicts.DiskFault l text did ended written
wrote form old new (verdicts.BadLog bad) l text did ended written = whole form old new (verdicts.BadLog bad) l text did ended written

pub wrote_some : (form : Form) (old new : Option (List ℕ)) (v : Verdict) (l : Left) (text : List ℕ) (n : ℕ) → DidAll l → HasEnded form l v text → WroteFront old new n text → LeftEnds form old new (status.WriteFault n) l
wrote_some form old new v l text n did ended written = record { did = did; verdict = v; text = text; ended = ended; written = written }

pub wrote_none : (form : Form) (old new : Option (List ℕ)) (l : Left) → Keeps old new → LeftEnds form old new status.NoMemory l
wrote_none form old new l kept = kept

-- a run that ended well is no write that failed
pub no_fault : {A : Type 0} (v : Verdict) (n : ℕ) → verdict_status v ≡ status.WriteFault n → A
no_fault verdicts.Whole n e = absurd cc
no_fault (verdicts.Conflict found) n e = absurd cc
no_fault verdicts.DiskFault n e = absurd cc
no_fault (verdicts.BadLog bad) n e = absurd cc

-- the end with its report
pub by_report : (s : Scenario) (hs : List History) (standing : Standing) (e : Ending) → IsEnding s hs standing e → EndsBy forms.Report s hs standing e
by_report s hs standing e h = record { story = h.story; is = h.is; verdict = h.verdict; text = h.report }
