-- Such a scenario is one, and its commands are such as texts give.
use Rattle.std.proofs.Common.{ℕ, zero, suc, ◌≡◌, ◌≢◌, ◌≤◌, ◌<◌, ◌*◌, List, [], ◌∷◌, refl, ap, sym, ◌∙◌, arith, length, get_or, map}
use Rattle.std.specs.Prelude.{All, Bool, true, false, if◌then◌else◌, ◌==◌, ◌%◌, codes, Some}
use Rattle.std.specs.List.{AllByRecursion}
use Rattle.std.proofs.lemmas.List.Elements.{All-append, All-cons, All-from_recursion, All-nil}
use Rattle.std.proofs.lemmas.List.Kept.{AllPairs-cons}
use Rattle.mq_base.specs.Name.{IsName}
use Rattle.mq_objects.specs.declared.object.Usage.TheVariants as usages
use Rattle.mq_objects.specs.declared.setting.ChannelType.TheVariants as ends
use Rattle.mq_objects.specs.declared.setting.Setting.TheVariants as settings
use Rattle.mq_objects.specs.declared.command.Subject.TheVariants as subjects
use Rattle.mq_objects.specs.declared.command.Command.{Command as ObjectCommand}
use Rattle.mq_objects.specs.declared.command.Command.TheVariants as objects
use Rattle.mq_sc_parse.specs.declared.command.Command.{Command}
use Rattle.mq_sc_parse.specs.declared.command.Command.TheVariants as commands
use Rattle.mq_sc_parse.specs.declared.command.Op.{Op}
use Rattle.mq_sc_parse.specs.declared.command.Op.TheVariants as ops
use Rattle.mq_history.specs.declared.scripts.ScriptLine.TheVariants as lines
use Rattle.mq_history.specs.declared.scenario.CableLine.{CableLine}
use Rattle.mq_history.specs.declared.scenario.ManagerLine.{ManagerLine}
use Rattle.mq_history.specs.declared.scenario.MonitorLine.{MonitorLine}
use Rattle.mq_history.specs.declared.scenario.RulesPart.{RulesPart}
use Rattle.mq_history.specs.declared.scenario.ScriptPart.{ScriptPart}
use Rattle.mq_history.specs.declared.scenario.Section.{Section}
use Rattle.mq_history.specs.declared.scenario.Step.TheVariants as steps
use Rattle.mq_history.specs.Scenarios.{AllDiffer, IsCable, IsManager, IsScenario, IsStep, Within, labels}
use Rattle.mq_law_image.specs.Values.{IsCommandText}
use Rattle.mq_nodes.specs.Texts.{AllFit, LineFits, StepFits}
use Rattle.mq_soak.specs.Drawn.{drawn, upper}
use Rattle.mq_soak.specs.Soak.{begin, cables, commit_after, define_local, define_receiver, define_sender, define_transmission, first_commands, lines_in, lines_to, managers, put, round, script, second_commands, sections, send_by_default, soak, steps_to, stop, stop_after, third_commands}
use Rattle.mq_soak.specs.Texts.{IsText}
use Rattle.mq_soak.proofs.Lengths.{few_lines, few_steps}

within : (least most n : ℕ) → least ≤ n → n ≤ most → Within least most n
within least most n low high = (low, high)

-- ---- managers and cables

managed : (name : List ℕ) → 1 ≤ length name → IsManager (record { name = name; log_max = 268435456 })
managed name some = record { named = some; room = within 4096 268435456 268435456 (omega arith) (omega arith) }

managers_are : All IsManager managers
managers_are = All-from_recursion IsManager managers (managed (codes "M1") (omega arith), (managed (codes "M2") (omega arith), (managed (codes "M3") (omega arith), tt)))

cables_are : (n : ℕ) → All (IsCable (soak n)) cables
cables_are n = All-from_recursion (IsCable (soak n)) cables
    (record { sender = omega arith; receiver = omega arith; apart = λ e. absurd (omega (arith, e)) }, (record { sender = omega arith; receiver = omega arith; apart = λ e. absurd (omega (arith, e)) }, tt))

-- ---- names that differ

alone : (xs : List (List ℕ)) → xs ≡ [] → AllDiffer xs
alone [] e = λ i j d lt there. absurd (omega (arith, lt, there))
alone (x ∷ xs) e = absurd cc

more : (x : List ℕ) (xs : List (List ℕ)) → AllByRecursion (λ y. x ≢ y) xs → AllDiffer xs → AllDiffer (x ∷ xs)
more x xs far rest = AllPairs-cons (λ x y. x ≢ y) x xs (All-from_recursion (λ y. x ≢ y) xs far) rest

differ_at : (k a b : ℕ) (xs ys : List ℕ) → get_or xs k 0 ≡ a → get_or ys k 0 ≡ b → a < b → xs ≢ ys
differ_at k a b xs ys p q lt e = let same : a ≡ b = sym p ∙ ap (λ (x : List ℕ). get_or x k 0) e ∙ q in omega (arith, lt, same)

names_differ : AllDiffer (map (λ (m : ManagerLine). m.name) managers)
names_differ =
    more (codes "M1") (codes "M2" ∷ codes "M3" ∷ []) (differ_at 1 49 50 (codes "M1") (codes "M2") refl refl (omega arith), (differ_at 1 49 51 (codes "M1") (codes "M3") refl refl (omega arith), tt))
    (more (codes "M2") (codes "M3" ∷ []) (differ_at 1 50 51 (codes "M2") (codes "M3") refl refl (omega arith), tt)
    (more (codes "M3") [] tt (alone [] refl)))

channels_differ : AllDiffer (map (λ (c : CableLine). c.channel) cables)
channels_differ = more (codes "M1.M2") (codes "M2.M3" ∷ []) (differ_at 1 49 50 (codes "M1.M2") (codes "M2.M3") refl refl (omega arith), tt) (more (codes "M2.M3") [] tt (alone [] refl))

labels_differ : (n : ℕ) → AllDiffer (labels (soak n))
labels_differ n =
    more (codes "D1") (codes "D2" ∷ codes "D3" ∷ codes "P" ∷ [])
    (differ_at 1 49 50 (codes "D1") (codes "D2") refl refl (omega arith), (differ_at 1 49 51 (codes "D1") (codes "D3") refl refl (omega arith), (differ_at 0 68 80 (codes "D1") (codes "P") refl refl (omega arith), tt)))
    (more (codes "D2") (codes "D3" ∷ codes "P" ∷ []) (differ_at 1 50 51 (codes "D2") (codes "D3") refl refl (omega arith), (differ_at 0 68 80 (codes "D2") (codes "P") refl refl (omega arith), tt))
    (more (codes "D3") (codes "P" ∷ []) (differ_at 0 68 80 (codes "D3") (codes "P") refl refl (omega arith), tt)
    (more (codes "P") [] tt (alone [] refl))))

-- ---- steps

stop_is : (n : ℕ) (b : Bool) → All (IsStep (soak n)) (if b then stop else [])
stop_is n true = All-from_recursion (IsStep (soak n)) stop (omega arith, (omega arith, (omega arith, (within 1 100000 1000 (omega arith) (omega arith), tt))))
stop_is n false = All-nil (IsStep (soak n))

steps_are : (n k : ℕ) → All (IsStep (soak n)) (steps_to k)
steps_are n zero = All-from_recursion (IsStep (soak n)) begin (omega arith, (omega arith, (omega arith, (omega arith, (omega arith, tt)))))
steps_are n (suc k) =
    All-append (IsStep (soak n)) (steps_to k) (round (suc k)) (steps_are n k)
    (All-append (IsStep (soak n)) (steps.Run 0 (Some (lines_in (suc k))) ∷ steps.Pump 1000 ∷ []) (stop_after (suc k))
    (All-from_recursion (IsStep (soak n)) (steps.Run 0 (Some (lines_in (suc k))) ∷ steps.Pump 1000 ∷ []) (omega arith, (within 1 100000 1000 (omega arith) (omega arith), tt)))
    (stop_is n (suc k % 10 == 0)))

pub is_scenario : (n : ℕ) → n ≤ 1000 → IsScenario (soak n)
is_scenario n le = record {
  few = record { managers = within 1 8 3 (omega arith) (omega arith); cables = omega arith; sections = omega arith; scripts = omega arith; monitors = omega arith; steps = few_steps n le };
  moment = omega arith;
  managers = managers_are;
  names = names_differ;
  cables = cables_are n;
  channels = channels_differ;
  labelled = labels_differ n;
  sections = All-from_recursion (λ (p : Section). p.manager < length managers) sections (omega arith, (omega arith, (omega arith, tt)));
  rules = All-nil (λ (r : RulesPart). r.manager < length managers);
  scripts = All-from_recursion (λ (p : ScriptPart). (p.manager < length managers) × (length p.lines ≤ 25000)) (script n ∷ []) ((omega arith, few_lines n le), tt);
  monitors = All-nil (λ (l : MonitorLine). l.manager < length managers);
  steps = steps_are n n;
}

-- ---- commands

-- what is asked of each
record Fits (T : Command → Type 0) : Type 0 where
  objects : (c : ObjectCommand) → IsCommandText c → T (commands.Objects c)
  operate : (op : Op) → T (commands.Operate op)

transmission_fits : (T : Command → Type 0) → Fits T → (name : List ℕ) → IsName 48 name → 0 < length name → T (define_transmission name)
transmission_fits T f name is some = f.objects (objects.Define (record { subject = subjects.Local name; replace = true; settings = settings.Usage usages.Transmission ∷ settings.MaxDepth 999999 ∷ [] })) ((is, some), (tt, (omega arith, tt)))

local_fits : (T : Command → Type 0) → Fits T → (name : List ℕ) → IsName 48 name → 0 < length name → T (define_local name)
local_fits T f name is some = f.objects (objects.Define (record { subject = subjects.Local name; replace = true; settings = settings.MaxDepth 999999 ∷ [] })) ((is, some), (omega arith, tt))

sender_fits : (T : Command → Type 0) → Fits T → (name queue : List ℕ) → IsName 20 name → 0 < length name → IsName 48 queue → T (define_sender name queue)
sender_fits T f name queue is some to = f.objects (objects.Define (record { subject = subjects.Channel name; replace = true; settings = settings.ChannelType ends.Sender ∷ settings.TransmissionQueue queue ∷ [] })) ((is, some), (tt, (to, tt)))

receiver_fits : (T : Command → Type 0) → Fits T → (name : List ℕ) → IsName 20 name → 0 < length name → T (define_receiver name)
receiver_fits T f name is some = f.objects (objects.Define (record { subject = subjects.Channel name; replace = true; settings = settings.ChannelType ends.Receiver ∷ [] })) ((is, some), (tt, tt))

default_fits : (T : Command → Type 0) → Fits T → (name : List ℕ) → IsName 48 name → T (send_by_default name)
default_fits T f name is = f.objects (objects.AlterManager (record { force = false; settings = settings.DefaultTransmissionQueue name ∷ [] })) (is, tt)

sections_fit : (T : Command → Type 0) → Fits T → All (λ (p : Section). All T p.commands) sections
sections_fit T f =
    let m2 : IsName 48 (codes "M2") = record { fits = omega arith; bytes = refl } in
    let m3 : IsName 48 (codes "M3") = record { fits = omega arith; bytes = refl } in
    let t : IsName 48 (codes "T") = record { fits = omega arith; bytes = refl } in
    let near : IsName 20 (codes "M1.M2") = record { fits = omega arith; bytes = refl } in
    let far : IsName 20 (codes "M2.M3") = record { fits = omega arith; bytes = refl } in
    All-from_recursion (λ (p : Section). All T p.commands) sections (
      All-from_recursion T first_commands (transmission_fits T f (codes "M2") m2 (omega arith), (default_fits T f (codes "M2") m2, (sender_fits T f (codes "M1.M2") (codes "M2") near (omega arith) m2, tt))),
      (
        All-from_recursion T second_commands (transmission_fits T f (codes "M3") m3 (omega arith), (receiver_fits T f (codes "M1.M2") near (omega arith), (sender_fits T f (codes "M2.M3") (codes "M3") far (omega arith) m3, tt))),
        (All-from_recursion T third_commands (local_fits T f (codes "T") t (omega arith), (receiver_fits T f (codes "M2.M3") far (omega arith), tt)), tt),
      ),
    )

commit_fits : (T : Command → Type 0) (b : Bool) → All (LineFits T) (if b then lines.Mqcmit ∷ [] else [])
commit_fits T true = All-from_recursion (LineFits T) (lines.Mqcmit ∷ []) (tt, tt)
commit_fits T false = All-nil (LineFits T)

lines_fit : (T : Command → Type 0) (n k : ℕ) → All (LineFits T) (lines_to n k)
lines_fit T n zero = All-from_recursion (LineFits T) (lines.Mqconn [] ∷ []) (tt, tt)
lines_fit T n (suc k) =
    All-append (LineFits T) (lines_to n k) (put (suc k) (upper (drawn n (suc k))) ∷ commit_after (suc k)) (lines_fit T n k)
    (All-cons (LineFits T) (put (suc k) (upper (drawn n (suc k)))) (commit_after (suc k)) tt (commit_fits T (suc k % 20 == 0)))

stop_fits : (T : Command → Type 0) → Fits T → (b : Bool) → All (StepFits T) (if b then stop else [])
stop_fits T f true = All-from_recursion (StepFits T) stop (tt, (tt, (f.operate (ops.Start (codes "M2.M3")), (tt, tt))))
stop_fits T f false = All-nil (StepFits T)

steps_fit : (T : Command → Type 0) → Fits T → (k : ℕ) → All (StepFits T) (steps_to k)
steps_fit T f zero = All-from_recursion (StepFits T) begin (tt, (tt, (tt, (f.operate (ops.Start (codes "M1.M2")), (f.operate (ops.Start (codes "M2.M3")), tt)))))
steps_fit T f (suc k) =
    All-append (StepFits T) (steps_to k) (round (suc k)) (steps_fit T f k)
    (All-cons (StepFits T) (steps.Run 0 (Some (lines_in (suc k)))) (steps.Pump 1000 ∷ stop_after (suc k)) tt
    (All-cons (StepFits T) (steps.Pump 1000) (stop_after (suc k)) tt (stop_fits T f (suc k % 10 == 0))))

pub all_fit : (T : Command → Type 0) → ((c : ObjectCommand) → IsCommandText c → T (commands.Objects c)) → ((op : Op) → T (commands.Operate op)) → (n : ℕ) → AllFit T (soak n)
all_fit T objects operate n =
    let f : Fits T = record { objects = objects; operate = operate } in
    record {
      sections = sections_fit T f;
      scripts = All-from_recursion (λ (p : ScriptPart). All (LineFits T) p.lines) (script n ∷ []) (lines_fit T n (20 * n), tt);
      steps = steps_fit T f n;
    }

pub texts : (n : ℕ) → AllFit IsText (soak n)
texts n = all_fit IsText (λ c h. h) (λ op. tt) n
