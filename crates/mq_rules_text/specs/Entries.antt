-- What an entry's pairs say, a rule's or the control entry's.
use Rattle.std.specs.Prelude.{ℕ, ℤ, ◌&&◌, Bool, true, false, List, [], ◌∷◌, ◌++◌, codes, if◌then◌else◌, Option, Some, None, Result, Ok, Err}
use Rattle.std.specs.List.{list_all}
use Rattle.std.specs.Str.{bytes_eq}
use Rattle.mq_rules.specs.declared.rule.NumberField.{NumberField}
use Rattle.mq_rules.specs.declared.rule.Condition.{Condition}
use Rattle.mq_rules.specs.declared.rule.Condition.TheVariants as conditions
use Rattle.mq_rules.specs.declared.rule.Target.{Target}
use Rattle.mq_rules.specs.declared.rule.Target.TheVariants as targets
use Rattle.mq_rules.specs.declared.rule.Action.TheVariants as actions
use Rattle.mq_rules.specs.declared.rule.Rule.{Rule}
use Rattle.mq_rules.specs.declared.rule.Wait.{Wait}
use Rattle.mq_rules.specs.declared.rule.Wait.TheVariants as waits
use Rattle.mq_rules_text.specs.declared.fault.Flaw.{Flaw}
use Rattle.mq_rules_text.specs.declared.fault.Flaw.TheVariants as flaws
use Rattle.mq_rules_text.specs.declared.keyword.Keyword.{Keyword}
use Rattle.mq_rules_text.specs.declared.keyword.Keyword.TheVariants as words
use Rattle.mq_rules_text.specs.declared.pairs.Pair.{Pair}
use Rattle.mq_rules_text.specs.declared.values.Verb.{Verb}
use Rattle.mq_rules_text.specs.declared.values.Verb.TheVariants as verbs
use Rattle.mq_rules_text.specs.declared.draft.Draft.{Draft}
use Rattle.mq_rules_text.specs.declared.control.Control.{Control}
use Rattle.mq_rules_text.specs.Faults.{and_then}
use Rattle.mq_rules_text.specs.Pairs.{allowed, distinct}
use Rattle.mq_rules_text.specs.Values.{queue_target, manager_target, name_or_blank, number_value, ranged, yes_or_no, verb_of, wait_of}

-- a rule of which nothing is said yet
abbrev pub empty_draft : Draft
empty_draft = record { conditions = []; action = None; queue = None; qmgr = targets.Name []; header = true; retries = 1 }

abbrev pub with_condition : Draft → Condition → Draft
with_condition d condition = record d { conditions = d.conditions ++ condition ∷ [] }

abbrev pub with_number : NumberField → Draft → Result ℤ Flaw → Result Draft Flaw
with_number field d (Ok value) = Ok (with_condition d (conditions.Number field value))
with_number field d (Err flaw) = Err flaw

-- a star stands for any number
unfoldable pub number_test : NumberField → List ℕ → Draft → Result Draft Flaw
number_test field value d = if bytes_eq value (codes "*") then Ok d else with_number field d (number_value field value)

abbrev pub with_verb : Draft → Result Verb Flaw → Result Draft Flaw
with_verb d (Ok verb) = Ok (record d { action = Some verb })
with_verb d (Err flaw) = Err flaw

abbrev pub with_queue : Draft → Result Target Flaw → Result Draft Flaw
with_queue d (Ok target) = Ok (record d { queue = Some target })
with_queue d (Err flaw) = Err flaw

abbrev pub with_manager : Draft → Result Target Flaw → Result Draft Flaw
with_manager d (Ok target) = Ok (record d { qmgr = target })
with_manager d (Err flaw) = Err flaw

abbrev pub with_header : Draft → Result Bool Flaw → Result Draft Flaw
with_header d (Ok header) = Ok (record d { header = header })
with_header d (Err flaw) = Err flaw

abbrev pub with_retries : Draft → Result ℕ Flaw → Result Draft Flaw
with_retries d (Ok retries) = Ok (record d { retries = retries })
with_retries d (Err flaw) = Err flaw

-- a keyword and its value, added to what is said of a rule
abbrev pub put : Keyword → List ℕ → Draft → Result Draft Flaw
put (words.Text field) value d = Ok (with_condition d (conditions.Text field value))
put (words.Number field) value d = number_test field value d
put words.Action value d = with_verb d (verb_of value)
put words.ForwardQueue value d = with_queue d (queue_target value)
put words.ForwardManager value d = with_manager d (manager_target value)
put words.Header value d = with_header d (yes_or_no value)
put words.Retry value d = with_retries d (ranged 1 999999999 value)
put words.InputQueue value d = Err flaws.Keyword
put words.InputManager value d = Err flaws.Keyword
put words.RetryInterval value d = Err flaws.Keyword
put words.Wait value d = Err flaws.Keyword

abbrev pub put_word : Option Keyword → List ℕ → Draft → Result Draft Flaw
put_word None value d = Err flaws.Keyword
put_word (Some keyword) value d = put keyword value d

-- all pairs of a rule
abbrev pub drafted : List Pair → Draft → Result Draft Flaw
drafted [] d = Ok d
drafted (p ∷ ps) d = and_then (put_word p.keyword p.value d) (drafted ps)

abbrev pub forwarding : Option Target → Draft → Result Rule Flaw
forwarding None d = Err flaws.Target
forwarding (Some queue) d = Ok (record { conditions = d.conditions; action = actions.Forward (record { queue = queue; qmgr = d.qmgr; header = d.header }); retries = d.retries })

abbrev pub acting : Option Verb → Draft → Result Rule Flaw
acting None d = Err flaws.Action
acting (Some verbs.Discard) d = Ok (record { conditions = d.conditions; action = actions.Discard; retries = d.retries })
acting (Some verbs.Ignore) d = Ok (record { conditions = d.conditions; action = actions.Ignore; retries = d.retries })
acting (Some verbs.Retry) d = Ok (record { conditions = d.conditions; action = actions.Retry; retries = d.retries })
acting (Some verbs.Forward) d = forwarding d.queue d

-- the rule that is said
abbrev pub finished : Draft → Result Rule Flaw
finished d = acting d.action d

-- a rule: only its keywords, none twice, each with a value that it takes, and an action
unfoldable pub rule_of : List Pair → Result Rule Flaw
rule_of pairs = if list_all (allowed false) pairs && distinct pairs then and_then (drafted pairs empty_draft) finished else Err flaws.Keyword

-- what the control entry says where it says nothing
abbrev pub default_control : Control
default_control = record { input_q = []; retry_interval = 60; wait = waits.Yes }

abbrev pub with_input : Control → Result (List ℕ) Flaw → Result Control Flaw
with_input c (Ok name) = Ok (record c { input_q = name })
with_input c (Err flaw) = Err flaw

-- a manager's name that must be blank or the own one
abbrev pub own_only : List ℕ → Control → Result (List ℕ) Flaw → Result Control Flaw
own_only own c (Ok []) = Ok c
own_only own c (Ok (b ∷ bs)) = if bytes_eq (b ∷ bs) own then Ok c else Err flaws.Value
own_only own c (Err flaw) = Err flaw

abbrev pub with_interval : Control → Result ℕ Flaw → Result Control Flaw
with_interval c (Ok seconds) = Ok (record c { retry_interval = seconds })
with_interval c (Err flaw) = Err flaw

abbrev pub with_wait : Control → Result Wait Flaw → Result Control Flaw
with_wait c (Ok wait) = Ok (record c { wait = wait })
with_wait c (Err flaw) = Err flaw

abbrev pub set : List ℕ → Keyword → List ℕ → Control → Result Control Flaw
set own (words.Text field) value c = Err flaws.Keyword
set own (words.Number field) value c = Err flaws.Keyword
set own words.Action value c = Err flaws.Keyword
set own words.ForwardQueue value c = Err flaws.Keyword
set own words.ForwardManager value c = Err flaws.Keyword
set own words.Header value c = Err flaws.Keyword
set own words.Retry value c = Err flaws.Keyword
set own words.InputQueue value c = with_input c (name_or_blank value)
set own words.InputManager value c = own_only own c (name_or_blank value)
set own words.RetryInterval value c = with_interval c (ranged 1 999999999 value)
set own words.Wait value c = with_wait c (wait_of value)

abbrev pub set_word : List ℕ → Option Keyword → List ℕ → Control → Result Control Flaw
set_word own None value c = Err flaws.Keyword
set_word own (Some keyword) value c = set own keyword value c

abbrev pub settled : List ℕ → List Pair → Control → Result Control Flaw
settled own [] c = Ok c
settled own (p ∷ ps) c = and_then (set_word own p.keyword p.value c) (settled own ps)

-- the control entry: only its keywords, none twice, each with a value that it takes
unfoldable pub control_of : List ℕ → List Pair → Result Control Flaw
control_of own pairs = if list_all (allowed true) pairs && distinct pairs then settled own pairs default_control else Err flaws.Keyword
