-- Which rule is chosen for a dead letter.
use Rattle.std.specs.Prelude.{ℕ, ℤ, ◌+◌, ◌^◌, nat_lt, Bool, List, [], drop, position, if◌then◌else◌, Option, Some, None, Result, Ok, Err}
use Rattle.std.specs.List.{list_all}
use Rattle.std.specs.Ordering.{int_eq}
use Rattle.mq_heads.specs.from_base.{NameFault}
use Rattle.mq_heads.specs.from_base.Name.{name_of}
use Rattle.mq_heads.specs.from_message.{Md}
use Rattle.mq_heads.specs.declared.headers.Dlh.{Dlh}
use Rattle.mq_rules.specs.declared.rule.TextField.{TextField}
use Rattle.mq_rules.specs.declared.rule.TextField.TheVariants as texts
use Rattle.mq_rules.specs.declared.rule.NumberField.{NumberField}
use Rattle.mq_rules.specs.declared.rule.NumberField.TheVariants as numbers
use Rattle.mq_rules.specs.declared.rule.Condition.{Condition}
use Rattle.mq_rules.specs.declared.rule.Condition.TheVariants as conditions
use Rattle.mq_rules.specs.declared.rule.Target.{Target}
use Rattle.mq_rules.specs.declared.rule.Target.TheVariants as targets
use Rattle.mq_rules.specs.declared.rule.Rule.{Rule}
use Rattle.mq_rules.specs.Patterns.{like, trimmed}

-- the destination and the format are those of the dead-letter header, the other texts those of the descriptor
abbrev pub text_field : Md → Dlh → TextField → List ℕ
text_field md dlh texts.IdentityData = md.appl_identity_data
text_field md dlh texts.ApplicationName = md.put_appl_name
text_field md dlh texts.DestQueue = dlh.dest_q_name
text_field md dlh texts.DestQueueManager = dlh.dest_q_mgr_name
text_field md dlh texts.Format = dlh.format
text_field md dlh texts.ReplyQueue = md.reply_to_q
text_field md dlh texts.ReplyQueueManager = md.reply_to_q_mgr
text_field md dlh texts.UserIdentifier = md.user_identifier

-- the reason is that of the dead-letter header, the other numbers those of the descriptor
abbrev pub number_field : Md → Dlh → NumberField → ℤ
number_field md dlh numbers.ApplicationType = md.put_appl_type
number_field md dlh numbers.Feedback = md.feedback
number_field md dlh numbers.MessageType = md.msg_type
number_field md dlh numbers.Persistence = md.persistence
number_field md dlh numbers.Reason = dlh.reason

abbrev pub holds : Md → Dlh → Condition → Bool
holds md dlh (conditions.Text field pattern) = like pattern (trimmed (text_field md dlh field))
holds md dlh (conditions.Number field value) = int_eq (number_field md dlh field) value

-- a rule matches where each of its conditions holds
abbrev pub matches : Md → Dlh → Rule → Bool
matches md dlh rule = list_all (holds md dlh) rule.conditions

-- a number of 32 bits
abbrev pub in_range : Option ℕ → Option ℕ
in_range None = None
in_range (Some n) = if nat_lt n (2 ^ 32) then Some n else None

abbrev pub behind_place : ℕ → Option ℕ → Option ℕ
behind_place from None = None
behind_place from (Some k) = in_range (Some (from + k))

-- the number of the first rule that matches, of those from a number on
abbrev pub decision : List Rule → Md → Dlh → ℕ → Option ℕ
decision rules md dlh from = behind_place from (position (matches md dlh) (drop from rules))

abbrev pub name_or_blank : Result (List ℕ) NameFault → List ℕ
name_or_blank (Ok name) = name
name_or_blank (Err fault) = []

-- the name that a field holds; one that isn't a name is the blank one
abbrev pub name_in : List ℕ → List ℕ
name_in field = name_or_blank (name_of 48 (trimmed field))

-- the name that a target stands for
abbrev pub target_name : Md → Dlh → Target → List ℕ
target_name md dlh (targets.Name name) = name
target_name md dlh targets.DestQueue = name_in dlh.dest_q_name
target_name md dlh targets.DestQueueManager = name_in dlh.dest_q_mgr_name
target_name md dlh targets.ReplyQueue = name_in md.reply_to_q
target_name md dlh targets.ReplyQueueManager = name_in md.reply_to_q_mgr
