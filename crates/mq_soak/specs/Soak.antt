-- The scenario of a number.
use Rattle.std.specs.Prelude.{ℕ, pos, negsuc, zero, suc, ◌+◌, ◌*◌, ◌%◌, ◌==◌, true, false, List, [], ◌∷◌, ◌++◌, replicate, if◌then◌else◌, Some, None, codes}
use Rattle.std.specs.Fmt.{decimal}
use Rattle.mq_objects.specs.declared.object.Usage.TheVariants as usages
use Rattle.mq_objects.specs.declared.setting.ChannelType.TheVariants as ends
use Rattle.mq_objects.specs.declared.setting.Setting.{Setting}
use Rattle.mq_objects.specs.declared.setting.Setting.TheVariants as settings
use Rattle.mq_objects.specs.declared.command.Subject.{Subject}
use Rattle.mq_objects.specs.declared.command.Subject.TheVariants as subjects
use Rattle.mq_objects.specs.declared.command.Command.TheVariants as objects
use Rattle.mq_sc_parse.specs.declared.command.Op.TheVariants as ops
use Rattle.mq_sc_parse.specs.declared.command.Command.{Command}
use Rattle.mq_sc_parse.specs.declared.command.Command.TheVariants as commands
use Rattle.mq_history.specs.declared.scripts.Body.TheVariants as bodies
use Rattle.mq_history.specs.declared.scripts.PutOptions.{PutOptions}
use Rattle.mq_history.specs.declared.scripts.ScriptLine.{ScriptLine}
use Rattle.mq_history.specs.declared.scripts.ScriptLine.TheVariants as lines
use Rattle.mq_history.specs.declared.scenario.CableLine.{CableLine}
use Rattle.mq_history.specs.declared.scenario.ManagerLine.{ManagerLine}
use Rattle.mq_history.specs.declared.scenario.Scenario.{Scenario}
use Rattle.mq_history.specs.declared.scenario.ScriptPart.{ScriptPart}
use Rattle.mq_history.specs.declared.scenario.Section.{Section}
use Rattle.mq_history.specs.declared.scenario.Step.{Step}
use Rattle.mq_history.specs.declared.scenario.Step.TheVariants as steps
use Rattle.mq_soak.specs.Drawn.{drawn, upper}

-- Three managers in a row, with a cable between each and the next.
abbrev pub manager : List ℕ → ManagerLine
manager name = record { name = name; log_max = 268435456 }

abbrev pub cable : List ℕ → ℕ → ℕ → CableLine
cable channel sender receiver = record { channel = channel; sender = sender; receiver = receiver; out = []; back = [] }

abbrev pub managers : List ManagerLine
managers = manager (codes "M1") ∷ manager (codes "M2") ∷ manager (codes "M3") ∷ []

abbrev pub cables : List CableLine
cables = cable (codes "M1.M2") 0 1 ∷ cable (codes "M2.M3") 1 2 ∷ []

-- Definitions, each with REPLACE: DEFINE QLOCAL with MAXDEPTH(999999), and USAGE(XMITQ) or not; DEFINE CHANNEL of a sender, of a
-- receiver; and ALTER QMGR with DEFXMITQ.
abbrev pub define : Subject → List Setting → Command
define subject given = commands.Objects (objects.Define (record { subject = subject; replace = true; settings = given }))

abbrev pub define_transmission : List ℕ → Command
define_transmission name = define (subjects.Local name) (settings.Usage usages.Transmission ∷ settings.MaxDepth 999999 ∷ [])

abbrev pub define_local : List ℕ → Command
define_local name = define (subjects.Local name) (settings.MaxDepth 999999 ∷ [])

abbrev pub define_sender : List ℕ → List ℕ → Command
define_sender name xmitq = define (subjects.Channel name) (settings.ChannelType ends.Sender ∷ settings.TransmissionQueue xmitq ∷ [])

abbrev pub define_receiver : List ℕ → Command
define_receiver name = define (subjects.Channel name) (settings.ChannelType ends.Receiver ∷ [])

abbrev pub send_by_default : List ℕ → Command
send_by_default name = commands.Objects (objects.AlterManager (record { force = false; settings = settings.DefaultTransmissionQueue name ∷ [] }))

abbrev pub start : List ℕ → Command
start channel = commands.Operate (ops.Start channel)

-- the sections of the three managers
abbrev pub section : List ℕ → ℕ → List Command → Section
section label at given = record { label = label; manager = at; commands = given }

abbrev pub first_commands : List Command
first_commands = define_transmission (codes "M2") ∷ send_by_default (codes "M2") ∷ define_sender (codes "M1.M2") (codes "M2") ∷ []

abbrev pub second_commands : List Command
second_commands = define_transmission (codes "M3") ∷ define_receiver (codes "M1.M2") ∷ define_sender (codes "M2.M3") (codes "M3") ∷ []

abbrev pub third_commands : List Command
third_commands = define_local (codes "T") ∷ define_receiver (codes "M2.M3") ∷ []

abbrev pub sections : List Section
sections = section (codes "D1") 0 first_commands ∷ section (codes "D2") 1 second_commands ∷ section (codes "D3") 2 third_commands ∷ []

-- The script: MQCONN, then the puts, the k-th of k in decimal to T at M3 inside the unit of work, by what its number has drawn: of its
-- last digit as priority, and persistent where that is even; after each twentieth MQCMIT.
abbrev pub options_by : ℕ → PutOptions
options_by r = record {
  sync = true;
  priority = pos (r % 10);
  persistence = if r % 2 == 0 then pos 1 else pos 0;
  expiry = negsuc 0;
  msg_id = replicate 24 0;
  correl_id = None;
  msg_type = pos 8;
  reply_to_q = [];
  reply_to_q_mgr = [];
  format = codes "MQSTR   ";
  feedback = pos 0;
  appl_identity_data = replicate 32 32;
}

abbrev pub put : ℕ → ℕ → ScriptLine
put k r = lines.Mqput1 (codes "T") (codes "M3") (bodies.Text (decimal k)) (options_by r)

abbrev pub commit_after : ℕ → List ScriptLine
commit_after k = if k % 20 == 0 then lines.Mqcmit ∷ [] else []

abbrev pub lines_to : ℕ → ℕ → List ScriptLine
lines_to n zero = lines.Mqconn [] ∷ []
lines_to n (suc k) = lines_to n k ++ put (suc k) (upper (drawn n (suc k))) ∷ commit_after (suc k)

abbrev pub script : ℕ → ScriptPart
script n = record { label = codes "P"; manager = 0; lines = lines_to n (20 * n) }

-- The steps: the sections, both senders are started; then round by round a unit of the script and a PUMP, and after each tenth round a
-- stop of M2, its restart, its sender started, and a PUMP.
abbrev pub begin : List Step
begin = steps.Obey 0 ∷ steps.Obey 1 ∷ steps.Obey 2 ∷ steps.Do 0 (start (codes "M1.M2")) ∷ steps.Do 1 (start (codes "M2.M3")) ∷ []

abbrev pub lines_in : ℕ → ℕ
lines_in k = if k == 1 then 22 else 21

abbrev pub stop : List Step
stop = steps.Crash 1 ∷ steps.Restart 1 ∷ steps.Do 1 (start (codes "M2.M3")) ∷ steps.Pump 1000 ∷ []

abbrev pub stop_after : ℕ → List Step
stop_after k = if k % 10 == 0 then stop else []

abbrev pub round : ℕ → List Step
round k = steps.Run 0 (Some (lines_in k)) ∷ steps.Pump 1000 ∷ stop_after k

abbrev pub steps_to : ℕ → List Step
steps_to zero = begin
steps_to (suc k) = steps_to k ++ round (suc k)

abbrev pub soak : ℕ → Scenario
soak n = record {
  moment = Some 0;
  managers = managers;
  cables = cables;
  sections = sections;
  rules = [];
  scripts = script n ∷ [];
  monitors = [];
  steps = steps_to n;
}
