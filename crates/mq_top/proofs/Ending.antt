-- What a call of the program comes to, from what its parts promise.
use Rattle.std.proofs.Common.{◌≡◌, ◌≤◌, ℕ, List, [], ◌∷◌, refl, ap, sym, subst, ◌∙◌, inl, inr, arith, length, map, ◌<◌, get_or}
use Rattle.std.specs.Prelude.{IfSome, Option, None, Some, Ok}
use Rattle.mq_base.specs.Outside.{Rose, IsLonger}
use Rattle.mq_history.specs.Scenarios.{IsScenario}
use Rattle.mq_history.specs.declared.scenario.Scenario.{Scenario}
use Rattle.mq_law_image.proofs.Made.{line_text}
use Rattle.mq_law_commands.specs.Written.{IsWritten}
use Rattle.mq_law_commands.proofs.Commanding.{texts_written}
use Rattle.mq_law_commands.proofs.from_law_scenario.Either.{text_found}
use Rattle.mq_law_commands.proofs.from_law_scenario.Kept.{text_kept}
use Rattle.mq_nodes.specs.Texts.{AllFit}
use Rattle.mq_nodes.proofs.TextLaws.{all_weaker}
use Rattle.mq_sc_parse.specs.declared.command.Command.{Command}
use Rattle.mq_sc_parse.specs.declared.command.Command.TheVariants as commands
use Rattle.mq_scn_text.specs.Reading.{scenario_of}
use Rattle.mq_run.specs.declared.status.BadCause.{BadCause}
use Rattle.mq_run.specs.declared.status.Status.{Status}
use Rattle.mq_run.specs.declared.status.Status.TheVariants as status
use Rattle.mq_run.specs.Ends.{LeftEnds, NoneEnds, RunEnds, RunLeaves}
use Rattle.mq_run.specs.Words.{GotOnce, IsPromised, IsTextCommand, Left, OrderKept, RestartsAreOwn, RowsAreLedgers, StandOnce}
use Rattle.mq_run.proofs.Promising as promising
use Rattle.mq_run.specs.from_soak.Soak.{soak}
use Rattle.mq_run.proofs.from_soak.Soaks as soaks
use Rattle.mq_run.specs.declared.reporting.Form.{Form}
use Rattle.mq_run.specs.declared.reporting.Form.TheVariants as forms
use Rattle.mq_top.specs.declared.top.Purpose.{Purpose}
use Rattle.mq_top.specs.declared.top.Purpose.TheVariants as purposes
use Rattle.mq_top.specs.declared.top.Task.{Task}
use Rattle.mq_top.specs.declared.top.Task.TheVariants as tasks
use Rattle.mq_top.specs.declared.top.Work.{Work}
use Rattle.mq_top.specs.declared.top.Work.TheVariants as works
use Rattle.mq_top.specs.Wanted.{task_of, text_status, wanted, word_task}
use Rattle.mq_top.specs.Work.{FitsWork, IsWork, WorkEnds}
use Rattle.mq_top.specs.Headline.{Checked, Comes, ComesOf, Completes, Ends, IsEarly, IsOfRun, IsRead, Nothing, RanScenario, ReadNoScenario, SoakEnds, WasRead, Writes, check_text}

pub one_word : {A : Type 0} (f : A → List ℕ) (ws : List A) (w : A) → 1 ≤ length ws → length ws < 2 → w ≡ get_or ws 0 w → word_task (f w) ≡ task_of (map f ws)
one_word f [] w le lt e = absurd (omega arith)
one_word f (x ∷ y ∷ zs) w le lt e = absurd (omega arith)
one_word f (x ∷ []) w le lt e = ap word_task (ap f e)

-- ---- what a run asks of its scenario

may_obey : (c : Command) → IsWritten c → IsTextCommand c
may_obey (commands.Objects o) w = line_text w.text w.lines w.line o w.read w.there w.parsed
may_obey (commands.Operate op) w = tt
may_obey (commands.ShowStatus name any_end) w = tt

-- all commands of a scenario that is read
pub fits : (bytes : List ℕ) (s : Scenario) → scenario_of bytes ≡ Ok s → FitsWork (works.Run s)
fits bytes s e = (text_kept bytes s (text_found bytes s e), all_weaker IsWritten IsTextCommand may_obey s (texts_written bytes s e))

-- ---- work that is done

read_by : (left : Option (List ℕ)) (bytes : List ℕ) (s : Scenario) → WasRead left bytes → scenario_of bytes ≡ Ok s → IsRead left s
read_by left bytes s read text = record { bytes = bytes; read = read; text = text }

checked : (left old new : Option (List ℕ)) (s : Scenario) (st : Status) → IsRead left s → Writes old new check_text st → Checked left old new st
checked left old new s status.Ok r h = (s, r, h)
checked left old new s (status.WriteFault n) r h = (s, r, h)
checked left old new s status.BadWords r h = absurd h
checked left old new s (status.BadScenario line cause) r h = absurd h
checked left old new s status.ReadFault r h = absurd h
checked left old new s status.DiskFault r h = absurd h
checked left old new s status.NoMemory r h = absurd h
checked left old new s status.TooLong r h = absurd h
checked left old new s (status.Conflict found) r h = absurd h
checked left old new s (status.BadLog bad) r h = absurd h
checked left old new s (status.Apart found) r h = absurd h
checked left old new s (status.Spent m) r h = absurd h

pub done_ends : (left : Option (List ℕ)) (bytes : List ℕ) (tells : Type 0) (held : List ℕ → List ℕ → Type 0) (start before now : ℕ) (old new : Option (List ℕ)) (purpose : Purpose) (w : Work) (st : Status) (net : Option Left) (counts : List ℕ)
    → WasRead left bytes → IsWork purpose bytes w → WorkEnds w tells held start before now old new st net counts → Ends (Some (tasks.Read purpose)) left tells held start before now old new st net counts
done_ends left bytes tells held start before now old new purposes.Run (works.Run s) st net counts read is h = inr (record { scenario = s; read = read_by left bytes s read is; ended = h })
done_ends left bytes tells held start before now old new purposes.Run works.Check st net counts read is h = absurd is
done_ends left bytes tells held start before now old new purposes.Check (works.Run s) st net counts read is h = absurd is
done_ends left bytes tells held start before now old new purposes.Check works.Check st net counts read is h = inr (h.0, h.1, checked left old new is.0 st (read_by left bytes is.0 read is.1) h.2)

-- ---- nothing is done

pub early_ends : (left : Option (List ℕ)) (tells : Type 0) (held : List ℕ → List ℕ → Type 0) (start before now : ℕ) (old new : Option (List ℕ)) (purpose : Purpose) (st : Status) (net : Option Left) (counts : List ℕ)
    → IsEarly st → Nothing old new net counts → Ends (Some (tasks.Read purpose)) left tells held start before now old new st net counts
early_ends left tells held start before now old new purposes.Run st net counts early nothing = inl (early, nothing)
early_ends left tells held start before now old new purposes.Check st net counts early nothing = inl (early, nothing)

-- ---- what is promised

none_of : (P : Left → Type 0) (net : Option Left) → net ≡ None → IfSome net P
none_of P net e = subst (λ (x : Option Left). IfSome x P) (sym e) tt

-- the commands of a large run
soak_texts : (n : ℕ) → AllFit IsTextCommand (soak n)
soak_texts n = soaks.all_fit IsTextCommand (λ c h. h) (λ op. tt) n

ran_of : (P : Left → Type 0) (left : Option (List ℕ)) (tells : Type 0) (held : List ℕ → List ℕ → Type 0) (start before now : ℕ) (old new : Option (List ℕ)) (st : Status) (net : Option Left) (counts : List ℕ)
    → ((l : Left) → (s : Scenario) → IsScenario s → AllFit IsTextCommand s → RunLeaves tells held start s counts l → P l) → RanScenario left tells held start before now old new st net counts → IfSome net P
ran_of P left tells held start before now old new st None counts f r = tt
ran_of P left tells held start before now old new st (Some l) counts f r = let here = fits r.read.bytes r.scenario r.read.text in f l r.scenario here.0 here.1 r.ended.0

pub promised_of : (P : Left → Type 0) (asked : Option Task) (left : Option (List ℕ)) (tells : Type 0) (held : List ℕ → List ℕ → Type 0) (start before now : ℕ) (old new : Option (List ℕ)) (st : Status) (net : Option Left) (counts : List ℕ)
    → ((l : Left) → (s : Scenario) → IsScenario s → AllFit IsTextCommand s → RunLeaves tells held start s counts l → P l) → Ends asked left tells held start before now old new st net counts → IfSome net P
promised_of P None left tells held start before now old new st net counts f e = none_of P net e.1.network
promised_of P (Some (tasks.Read purposes.Run)) left tells held start before now old new st net counts f (inl e) = none_of P net e.1.network
promised_of P (Some (tasks.Read purposes.Run)) left tells held start before now old new st net counts f (inr r) = ran_of P left tells held start before now old new st net counts f r
promised_of P (Some (tasks.Read purposes.Check)) left tells held start before now old new st net counts f (inl e) = none_of P net e.1.network
promised_of P (Some (tasks.Read purposes.Check)) left tells held start before now old new st net counts f (inr e) = none_of P net e.0
promised_of P (Some (tasks.Soak n)) left tells held start before now old new st net counts f (few, inl e) = none_of P net e.1.network
promised_of P (Some (tasks.Soak n)) left tells held start before now old new st None counts f (few, inr e) = tt
promised_of P (Some (tasks.Soak n)) left tells held start before now old new st (Some l) counts f (few, inr e) = f l (soak n) (soaks.is_scenario n few) (soak_texts n) e.0

pub own_of : (asked : Option Task) (left : Option (List ℕ)) (tells : Type 0) (held : List ℕ → List ℕ → Type 0) (start before now : ℕ) (old new : Option (List ℕ)) (st : Status) (net : Option Left) (counts : List ℕ)
    → Ends asked left tells held start before now old new st net counts → IfSome net (RestartsAreOwn tells)
own_of asked left tells held start before now old new st net counts e = promised_of (RestartsAreOwn tells) asked left tells held start before now old new st net counts (λ l s r k h. h.own) e

pub rows_of : (asked : Option Task) (left : Option (List ℕ)) (tells : Type 0) (held : List ℕ → List ℕ → Type 0) (start before now : ℕ) (old new : Option (List ℕ)) (st : Status) (net : Option Left) (counts : List ℕ)
    → Ends asked left tells held start before now old new st net counts → IfSome net (IsPromised tells RowsAreLedgers)
rows_of asked left tells held start before now old new st net counts e = promised_of (IsPromised tells RowsAreLedgers) asked left tells held start before now old new st net counts
    (λ l s r k h. promising.rows tells held start s counts l r h) e

pub once_of : (asked : Option Task) (left : Option (List ℕ)) (tells : Type 0) (held : List ℕ → List ℕ → Type 0) (start before now : ℕ) (old new : Option (List ℕ)) (st : Status) (net : Option Left) (counts : List ℕ)
    → Ends asked left tells held start before now old new st net counts → IfSome net (IsPromised tells StandOnce)
once_of asked left tells held start before now old new st net counts e = promised_of (IsPromised tells StandOnce) asked left tells held start before now old new st net counts
    (λ l s r k h. promising.once tells held start s counts l r h) e

pub got_once_of : (asked : Option Task) (left : Option (List ℕ)) (tells : Type 0) (held : List ℕ → List ℕ → Type 0) (start before now : ℕ) (old new : Option (List ℕ)) (st : Status) (net : Option Left) (counts : List ℕ)
    → Ends asked left tells held start before now old new st net counts → IfSome net (IsPromised tells GotOnce)
got_once_of asked left tells held start before now old new st net counts e = promised_of (IsPromised tells GotOnce) asked left tells held start before now old new st net counts
    (λ l s r k h. promising.got_once tells held start s counts l r h) e

pub order_of : (asked : Option Task) (left : Option (List ℕ)) (tells : Type 0) (held : List ℕ → List ℕ → Type 0) (start before now : ℕ) (old new : Option (List ℕ)) (st : Status) (net : Option Left) (counts : List ℕ)
    → Ends asked left tells held start before now old new st net counts → IfSome net (IsPromised tells OrderKept)
order_of asked left tells held start before now old new st net counts e = promised_of (IsPromised tells OrderKept) asked left tells held start before now old new st net counts
    (λ l s r k h. promising.order tells held start s counts l r h) e

-- ---- completeness

-- want of memory may come instead of each
memory_of : (purpose : Purpose) → ComesOf purpose status.NoMemory
memory_of purposes.Run = tt
memory_of purposes.Check = inr refl

comes_memory : (purpose : Purpose) (x : Status) → Comes purpose x status.NoMemory
comes_memory purpose status.Ok = memory_of purpose
comes_memory purpose status.BadWords = inr refl
comes_memory purpose (status.BadScenario line cause) = inr refl
comes_memory purpose status.ReadFault = inr refl
comes_memory purpose (status.WriteFault n) = inr refl
comes_memory purpose status.DiskFault = inr refl
comes_memory purpose status.NoMemory = inr refl
comes_memory purpose status.TooLong = inr refl
comes_memory purpose (status.Conflict found) = inr refl
comes_memory purpose (status.BadLog bad) = inr refl
comes_memory purpose (status.Apart found) = inr refl
comes_memory purpose (status.Spent m) = inr refl

-- a run ends by no status of the bytes
of_left : (form : Form) (old new : Option (List ℕ)) (st : Status) (l : Left) → LeftEnds form old new st l → ((n : ℕ) → st ≡ status.WriteFault n → ⊥) → IsOfRun st
of_left form old new status.Ok l h nw = tt
of_left form old new status.BadWords l h nw = h
of_left form old new (status.BadScenario line cause) l h nw = h
of_left form old new status.ReadFault l h nw = h
of_left form old new (status.WriteFault n) l h nw = nw n refl
of_left form old new status.DiskFault l h nw = tt
of_left form old new status.NoMemory l h nw = tt
of_left form old new status.TooLong l h nw = h
of_left form old new (status.Conflict found) l h nw = tt
of_left form old new (status.BadLog bad) l h nw = tt
of_left form old new (status.Apart found) l h nw = tt
of_left form old new (status.Spent m) l h nw = tt

of_none : (tells : Type 0) (held : List ℕ → List ℕ → Type 0) (start : ℕ) (s : Scenario) (before now : ℕ) (counts : List ℕ) (st : Status) → NoneEnds tells held start s before now counts st → IsOfRun st
of_none tells held start s before now counts status.Ok h = absurd h
of_none tells held start s before now counts status.BadWords h = absurd h
of_none tells held start s before now counts (status.BadScenario line cause) h = absurd h
of_none tells held start s before now counts status.ReadFault h = absurd h
of_none tells held start s before now counts (status.WriteFault n) h = absurd h
of_none tells held start s before now counts status.DiskFault h = tt
of_none tells held start s before now counts status.NoMemory h = tt
of_none tells held start s before now counts status.TooLong h = absurd h
of_none tells held start s before now counts (status.Conflict found) h = absurd h
of_none tells held start s before now counts (status.BadLog bad) h = tt
of_none tells held start s before now counts (status.Apart found) h = absurd h
of_none tells held start s before now counts (status.Spent m) h = absurd h

of_run : (form : Form) (tells : Type 0) (held : List ℕ → List ℕ → Type 0) (start : ℕ) (s : Scenario) (before now : ℕ) (old new : Option (List ℕ)) (st : Status) (net : Option Left) (counts : List ℕ) → RunEnds form tells held start s before now old new st net counts
    → ((n : ℕ) → st ≡ status.WriteFault n → ⊥) → IsOfRun st
of_run form tells held start s before now old new st None counts h nw = of_none tells held start s before now counts st h.0
of_run form tells held start s before now old new st (Some l) counts h nw = of_left form old new st l h.1 nw

-- the bytes are those that the source had
same_bytes : (bytes : List ℕ) (s : Scenario) → IsRead (Some bytes) s → scenario_of bytes ≡ Ok s
same_bytes bytes s r = ap scenario_of r.read.0 ∙ r.text

good_wanted : (bytes : List ℕ) (s : Scenario) → IsRead (Some bytes) s → wanted bytes ≡ status.Ok
good_wanted bytes s r = ap text_status (same_bytes bytes s r)

fault_wanted : (bytes : List ℕ) (line : ℕ) (cause : BadCause) → ReadNoScenario (Some bytes) line cause → wanted bytes ≡ status.BadScenario line cause
fault_wanted bytes line cause h = ap text_status (ap scenario_of h.read.0 ∙ h.text) ∙ h.told

-- what was found out early is what the bytes ask for
early_comes : (purpose : Purpose) (bytes : List ℕ) (r0 r1 : ℕ) (st : Status) → IsEarly st → ((line : ℕ) (cause : BadCause) → st ≡ status.BadScenario line cause → ReadNoScenario (Some bytes) line cause)
    → (st ≡ status.ReadFault → Rose r0 r1) → (st ≡ status.TooLong → IsLonger (Some bytes) 1048576) → length bytes ≤ 1048576 → ¬ Rose r0 r1 → Comes purpose (wanted bytes) st
early_comes purpose bytes r0 r1 (status.BadScenario line cause) h bs rf tl few nr = subst (λ (x : Status). Comes purpose x (status.BadScenario line cause)) (sym (fault_wanted bytes line cause (bs line cause refl))) (inl refl)
early_comes purpose bytes r0 r1 status.ReadFault h bs rf tl few nr = absurd (nr (rf refl))
early_comes purpose bytes r0 r1 status.TooLong h bs rf tl few nr = let longer : IsLonger (Some bytes) 1048576 = tl refl in absurd (omega (arith, longer, few))
early_comes purpose bytes r0 r1 status.NoMemory h bs rf tl few nr = comes_memory purpose (wanted bytes)
early_comes purpose bytes r0 r1 status.Ok h bs rf tl few nr = absurd h
early_comes purpose bytes r0 r1 status.BadWords h bs rf tl few nr = absurd h
early_comes purpose bytes r0 r1 (status.WriteFault n) h bs rf tl few nr = absurd h
early_comes purpose bytes r0 r1 status.DiskFault h bs rf tl few nr = absurd h
early_comes purpose bytes r0 r1 (status.Conflict found) h bs rf tl few nr = absurd h
early_comes purpose bytes r0 r1 (status.BadLog bad) h bs rf tl few nr = absurd h
early_comes purpose bytes r0 r1 (status.Apart found) h bs rf tl few nr = absurd h
early_comes purpose bytes r0 r1 (status.Spent m) h bs rf tl few nr = absurd h

checked_comes : (bytes : List ℕ) (old new : Option (List ℕ)) (st : Status) → Checked (Some bytes) old new st → ((n : ℕ) → st ≡ status.WriteFault n → ⊥) → Comes purposes.Check (wanted bytes) st
checked_comes bytes old new status.Ok h nw = subst (λ (x : Status). Comes purposes.Check x status.Ok) (sym (good_wanted bytes h.0 h.1)) (inl refl)
checked_comes bytes old new (status.WriteFault n) h nw = absurd (nw n refl)
checked_comes bytes old new status.BadWords h nw = absurd h
checked_comes bytes old new (status.BadScenario line cause) h nw = absurd h
checked_comes bytes old new status.ReadFault h nw = absurd h
checked_comes bytes old new status.DiskFault h nw = absurd h
checked_comes bytes old new status.NoMemory h nw = absurd h
checked_comes bytes old new status.TooLong h nw = absurd h
checked_comes bytes old new (status.Conflict found) h nw = absurd h
checked_comes bytes old new (status.BadLog bad) h nw = absurd h
checked_comes bytes old new (status.Apart found) h nw = absurd h
checked_comes bytes old new (status.Spent m) h nw = absurd h

text_comes : (purpose : Purpose) (bytes : List ℕ) (tells : Type 0) (held : List ℕ → List ℕ → Type 0) (start before now : ℕ) (old new : Option (List ℕ)) (st : Status) (net : Option Left) (counts : List ℕ) (r0 r1 w0 w1 : ℕ)
    → Ends (Some (tasks.Read purpose)) (Some bytes) tells held start before now old new st net counts → ((line : ℕ) (cause : BadCause) → st ≡ status.BadScenario line cause → ReadNoScenario (Some bytes) line cause)
    → (st ≡ status.ReadFault → Rose r0 r1) → ((n : ℕ) → st ≡ status.WriteFault n → Rose w0 w1) → (st ≡ status.TooLong → IsLonger (Some bytes) 1048576)
    → length bytes ≤ 1048576 → ¬ Rose r0 r1 → ¬ Rose w0 w1 → Comes purpose (wanted bytes) st
text_comes purposes.Run bytes tells held start before now old new st net counts r0 r1 w0 w1 (inl e) bs rf wf tl few nr nw = early_comes purposes.Run bytes r0 r1 st e.0 bs rf tl few nr
text_comes purposes.Run bytes tells held start before now old new st net counts r0 r1 w0 w1 (inr r) bs rf wf tl few nr nw =
    subst (λ (x : Status). Comes purposes.Run x st) (sym (good_wanted bytes r.scenario r.read)) (of_run forms.Report tells held start r.scenario before now old new st net counts r.ended (λ n e. nw (wf n e)))
text_comes purposes.Check bytes tells held start before now old new st net counts r0 r1 w0 w1 (inl e) bs rf wf tl few nr nw = early_comes purposes.Check bytes r0 r1 st e.0 bs rf tl few nr
text_comes purposes.Check bytes tells held start before now old new st net counts r0 r1 w0 w1 (inr e) bs rf wf tl few nr nw = checked_comes bytes old new st e.2 (λ n e. nw (wf n e))

-- of a large run, whatever the source has
pub soak_comes : (n : ℕ) (tells : Type 0) (held : List ℕ → List ℕ → Type 0) (start before now : ℕ) (old new : Option (List ℕ)) (st : Status) (net : Option Left) (counts : List ℕ)
    → SoakEnds n tells held start before now old new st net counts → ((k : ℕ) → st ≡ status.WriteFault k → ⊥) → IsOfRun st
soak_comes n tells held start before now old new st net counts (few, inl e) nw = subst IsOfRun (sym e.0) tt
soak_comes n tells held start before now old new st net counts (few, inr e) nw = of_run (forms.Line n) tells held start (soak n) before now old new st net counts e nw

pub completes : (asked : Option Task) (left : Option (List ℕ)) (tells : Type 0) (held : List ℕ → List ℕ → Type 0) (start before now : ℕ) (old new : Option (List ℕ)) (st : Status) (net : Option Left) (counts : List ℕ) (r0 r1 w0 w1 : ℕ)
    → Ends asked left tells held start before now old new st net counts → ((line : ℕ) (cause : BadCause) → st ≡ status.BadScenario line cause → ReadNoScenario left line cause)
    → (st ≡ status.ReadFault → Rose r0 r1) → ((n : ℕ) → st ≡ status.WriteFault n → Rose w0 w1) → (st ≡ status.TooLong → IsLonger left 1048576)
    → Completes asked left r0 r1 w0 w1 st
completes None left tells held start before now old new st net counts r0 r1 w0 w1 ends bs rf wf tl = tt
completes (Some (tasks.Read purpose)) left tells held start before now old new st net counts r0 r1 w0 w1 ends bs rf wf tl = λ bytes l few nr nw.
    text_comes purpose bytes tells held start before now old new st net counts r0 r1 w0 w1
    (subst (λ (x : Option (List ℕ)). Ends (Some (tasks.Read purpose)) x tells held start before now old new st net counts) l ends)
    (λ line cause e. subst (λ (x : Option (List ℕ)). ReadNoScenario x line cause) l (bs line cause e))
    rf wf
    (λ e. subst (λ (x : Option (List ℕ)). IsLonger x 1048576) l (tl e))
    few nr nw
completes (Some (tasks.Soak n)) left tells held start before now old new st net counts r0 r1 w0 w1 ends bs rf wf tl = λ nw. soak_comes n tells held start before now old new st net counts ends (λ k e. nw (wf k e))

-- ---- bad words

no_bad_words : (task : Task) (left : Option (List ℕ)) (tells : Type 0) (held : List ℕ → List ℕ → Type 0) (start before now : ℕ) (old new : Option (List ℕ)) (st : Status) (net : Option Left) (counts : List ℕ)
    → Ends (Some task) left tells held start before now old new st net counts → st ≡ status.BadWords → ⊥
no_bad_words (tasks.Read purposes.Run) left tells held start before now old new st net counts (inl e) is = subst IsEarly is e.0
no_bad_words (tasks.Read purposes.Run) left tells held start before now old new st net counts (inr r) is =
    of_run forms.Report tells held start r.scenario before now old new status.BadWords net counts (subst (λ (x : Status). RunEnds forms.Report tells held start r.scenario before now old new x net counts) is r.ended) (λ n e. absurd cc)
no_bad_words (tasks.Read purposes.Check) left tells held start before now old new st net counts (inl e) is = subst IsEarly is e.0
no_bad_words (tasks.Read purposes.Check) left tells held start before now old new st net counts (inr e) is = subst (Checked left old new) is e.2
no_bad_words (tasks.Soak n) left tells held start before now old new st net counts e is = subst IsOfRun is (soak_comes n tells held start before now old new st net counts e (λ k x. absurd cc))

pub bad_words : (asked : Option Task) (left : Option (List ℕ)) (tells : Type 0) (held : List ℕ → List ℕ → Type 0) (start before now : ℕ) (old new : Option (List ℕ)) (st : Status) (net : Option Left) (counts : List ℕ)
    → Ends asked left tells held start before now old new st net counts → (st ≡ status.BadWords → asked ≡ None) × (asked ≡ None → st ≡ status.BadWords)
bad_words None left tells held start before now old new st net counts e = (λ is. refl, λ is. e.0)
bad_words (Some task) left tells held start before now old new st net counts e = (λ is. absurd (no_bad_words task left tells held start before now old new st net counts e is), λ is. absurd cc)
