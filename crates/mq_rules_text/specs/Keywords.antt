-- The keywords of a rules table.
use Rattle.std.specs.Prelude.{ℕ, Bool, true, false, List, [], ◌∷◌, codes, Option, find}
use Rattle.std.specs.Str.{bytes_eq}
use Rattle.mq_rules.specs.declared.rule.TextField.{TextField}
use Rattle.mq_rules.specs.declared.rule.TextField.TheVariants as texts
use Rattle.mq_rules.specs.declared.rule.NumberField.{NumberField}
use Rattle.mq_rules.specs.declared.rule.NumberField.TheVariants as numbers
use Rattle.mq_rules_text.specs.declared.keyword.Keyword.{Keyword}
use Rattle.mq_rules_text.specs.declared.keyword.Keyword.TheVariants as words

abbrev pub keywords : List Keyword
keywords =
    words.Text texts.IdentityData ∷ words.Text texts.ApplicationName ∷ words.Text texts.DestQueue ∷ words.Text texts.DestQueueManager ∷ words.Text texts.Format ∷ words.Text texts.ReplyQueue ∷ words.Text texts.ReplyQueueManager ∷ words.Text texts.UserIdentifier ∷ words.Number numbers.ApplicationType ∷ words.Number numbers.Feedback ∷ words.Number numbers.MessageType ∷ words.Number numbers.Persistence ∷ words.Number numbers.Reason ∷ words.Action ∷ words.ForwardQueue ∷ words.ForwardManager ∷ words.Header ∷ words.Retry ∷ words.InputQueue ∷ words.InputManager ∷ words.RetryInterval ∷ words.Wait ∷ []

abbrev pub text_word : TextField → List ℕ
text_word texts.IdentityData = codes "APPLIDAT"
text_word texts.ApplicationName = codes "APPLNAME"
text_word texts.DestQueue = codes "DESTQ"
text_word texts.DestQueueManager = codes "DESTQM"
text_word texts.Format = codes "FORMAT"
text_word texts.ReplyQueue = codes "REPLYQ"
text_word texts.ReplyQueueManager = codes "REPLYQM"
text_word texts.UserIdentifier = codes "USERID"

abbrev pub number_word : NumberField → List ℕ
number_word numbers.ApplicationType = codes "APPLTYPE"
number_word numbers.Feedback = codes "FEEDBACK"
number_word numbers.MessageType = codes "MSGTYPE"
number_word numbers.Persistence = codes "PERSIST"
number_word numbers.Reason = codes "REASON"

-- the word that stands for a keyword
abbrev pub word : Keyword → List ℕ
word (words.Text field) = text_word field
word (words.Number field) = number_word field
word words.Action = codes "ACTION"
word words.ForwardQueue = codes "FWDQ"
word words.ForwardManager = codes "FWDQM"
word words.Header = codes "HEADER"
word words.Retry = codes "RETRY"
word words.InputQueue = codes "INPUTQ"
word words.InputManager = codes "INPUTQM"
word words.RetryInterval = codes "RETRYINT"
word words.Wait = codes "WAIT"

-- the keyword that a word is
unfoldable pub keyword_of : List ℕ → Option Keyword
keyword_of text = find (λ k. bytes_eq (word k) text) keywords

-- those of the control entry
abbrev pub is_control : Keyword → Bool
is_control (words.Text field) = false
is_control (words.Number field) = false
is_control words.Action = false
is_control words.ForwardQueue = false
is_control words.ForwardManager = false
is_control words.Header = false
is_control words.Retry = false
is_control words.InputQueue = true
is_control words.InputManager = true
is_control words.RetryInterval = true
is_control words.Wait = true

unfoldable pub same_keyword : Keyword → Keyword → Bool
same_keyword one other = bytes_eq (word one) (word other)
