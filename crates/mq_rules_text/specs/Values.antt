-- The values that keywords take.
use Rattle.std.specs.Prelude.{ℕ, ℤ, pos, ◌==◌, Bool, true, false, List, [], codes, if◌then◌else◌, Option, Some, None, Result, Ok, Err}
use Rattle.std.specs.List.{list_all}
use Rattle.std.specs.Str.{bytes_eq}
use Rattle.mq_base.specs.declared.fault.NameFault.{NameFault}
use Rattle.mq_base.specs.Name.{name_of}
use Rattle.mq_codes.specs.declared.reason.Reason.{Reason}
use Rattle.mq_codes.specs.Numbers.{number, of_name}
use Rattle.mq_text.specs.declared.numbers.NumberFault.{NumberFault}
use Rattle.mq_text.specs.Numbers.{number_in, signed_of}
use Rattle.mq_rules.specs.declared.rule.NumberField.{NumberField}
use Rattle.mq_rules.specs.declared.rule.NumberField.TheVariants as numbers
use Rattle.mq_rules.specs.declared.rule.Target.{Target}
use Rattle.mq_rules.specs.declared.rule.Target.TheVariants as targets
use Rattle.mq_rules.specs.declared.rule.Wait.{Wait}
use Rattle.mq_rules.specs.declared.rule.Wait.TheVariants as waits
use Rattle.mq_rules_text.specs.declared.values.Verb.{Verb}
use Rattle.mq_rules_text.specs.declared.values.Verb.TheVariants as verbs
use Rattle.mq_rules_text.specs.declared.fault.Flaw.{Flaw}
use Rattle.mq_rules_text.specs.declared.fault.Flaw.TheVariants.{Value}

abbrev pub as_name : Result (List ℕ) NameFault → Result (List ℕ) Flaw
as_name (Ok name) = Ok name
as_name (Err fault) = Err Value

-- a name
unfoldable pub name_value : List ℕ → Result (List ℕ) Flaw
name_value text = as_name (name_of 48 text)

abbrev pub is_blank : List ℕ → Bool
is_blank text = list_all (λ b. b == 32) text

-- a name, or the blank one
unfoldable pub name_or_blank : List ℕ → Result (List ℕ) Flaw
name_or_blank text = if is_blank text then Ok [] else name_value text

-- a field that a target stands for
unfoldable pub field_target : List ℕ → Option Target
field_target text =
    if bytes_eq text (codes "&DESTQ") then Some targets.DestQueue
    else if bytes_eq text (codes "&DESTQM") then Some targets.DestQueueManager
    else if bytes_eq text (codes "&REPLYQ") then Some targets.ReplyQueue
    else if bytes_eq text (codes "&REPLYQM") then Some targets.ReplyQueueManager
    else None

abbrev pub or_name : Option Target → Result (List ℕ) Flaw → Result Target Flaw
or_name (Some target) name = Ok target
or_name None (Ok name) = Ok (targets.Name name)
or_name None (Err flaw) = Err flaw

-- a queue to which a rule forwards, and a manager, which may be blank
abbrev pub queue_target : List ℕ → Result Target Flaw
queue_target text = or_name (field_target text) (name_value text)

abbrev pub manager_target : List ℕ → Result Target Flaw
manager_target text = or_name (field_target text) (name_or_blank text)

abbrev pub reason_number : Option Reason → Option ℤ
reason_number None = None
reason_number (Some reason) = Some (pos (number reason))

-- the number for which a symbol stands
abbrev pub symbol_of : NumberField → List ℕ → Option ℤ
symbol_of numbers.ApplicationType text = if bytes_eq text (codes "MQAT_NO_CONTEXT") then Some (pos 0) else if bytes_eq text (codes "MQAT_UNIX") then Some (pos 6) else None
symbol_of numbers.Feedback text =
    if bytes_eq text (codes "MQFB_NONE") then Some (pos 0)
    else if bytes_eq text (codes "MQFB_EXPIRATION") then Some (pos 258)
    else if bytes_eq text (codes "MQFB_COA") then Some (pos 259)
    else if bytes_eq text (codes "MQFB_COD") then Some (pos 260)
    else None
symbol_of numbers.MessageType text =
    if bytes_eq text (codes "MQMT_REQUEST") then Some (pos 1)
    else if bytes_eq text (codes "MQMT_REPLY") then Some (pos 2)
    else if bytes_eq text (codes "MQMT_REPORT") then Some (pos 4)
    else if bytes_eq text (codes "MQMT_DATAGRAM") then Some (pos 8)
    else None
symbol_of numbers.Persistence text = if bytes_eq text (codes "MQPER_NOT_PERSISTENT") then Some (pos 0) else if bytes_eq text (codes "MQPER_PERSISTENT") then Some (pos 1) else None
symbol_of numbers.Reason text = reason_number (of_name text)

abbrev pub or_number : Option ℤ → Result ℤ NumberFault → Result ℤ Flaw
or_number (Some z) number = Ok z
or_number None (Ok z) = Ok z
or_number None (Err fault) = Err Value

-- a symbol, or a number of 32 bits
unfoldable pub number_value : NumberField → List ℕ → Result ℤ Flaw
number_value field text = or_number (symbol_of field text) (signed_of text)

abbrev pub as_number : Result ℕ NumberFault → Result ℕ Flaw
as_number (Ok n) = Ok n
as_number (Err fault) = Err Value

-- a number in a range
unfoldable pub ranged : ℕ → ℕ → List ℕ → Result ℕ Flaw
ranged low high text = as_number (number_in low high text)

unfoldable pub yes_or_no : List ℕ → Result Bool Flaw
yes_or_no text = if bytes_eq text (codes "YES") then Ok true else if bytes_eq text (codes "NO") then Ok false else Err Value

unfoldable pub verb_of : List ℕ → Result Verb Flaw
verb_of text =
    if bytes_eq text (codes "DISCARD") then Ok verbs.Discard
    else if bytes_eq text (codes "IGNORE") then Ok verbs.Ignore
    else if bytes_eq text (codes "RETRY") then Ok verbs.Retry
    else if bytes_eq text (codes "FWD") then Ok verbs.Forward
    else Err Value

abbrev pub as_seconds : Result ℕ Flaw → Result Wait Flaw
as_seconds (Ok n) = Ok (waits.Seconds n)
as_seconds (Err flaw) = Err flaw

unfoldable pub wait_of : List ℕ → Result Wait Flaw
wait_of text = if bytes_eq text (codes "YES") then Ok waits.Yes else if bytes_eq text (codes "NO") then Ok waits.No else as_seconds (ranged 0 999999999 text)
