-- What a put comes to where no refusal applies.
use Rattle.std.specs.Prelude.{◌≡◌, ℕ, ◌-◌, ◌^◌, ◌<◌, ◌≤◌, ◌&&◌, ◌++◌, Bool, true, false, List, [], ◌∷◌, length, Result, Ok, Err, IsSome, IfSome}
use Rattle.mq_calls.specs.Words.{Reason, Message, Md, Route, PathStep, Plain, Step, Test, Refuse, Do, when, is_int, connection_at, is_up, local_of}
use Rattle.mq_calls.specs.declared.answers.Answer.{Answer}
use Rattle.mq_calls.specs.declared.answers.Sent.{Sent}
use Rattle.mq_calls.specs.declared.state.Connection.{Connection}
use Rattle.mq_spec_manager.specs.Words.{sent_answer, put_part, put_route, next_ident, log_full, is_high, is_bad_expiry, is_blank, inhibited_tests, length_tests, full_tests, sync_full}
use Rattle.mq_codes.specs.declared.reason.Reason.TheVariants as reasons
use Rattle.mq_fill.specs.Drafts.{message_of}
use Rattle.mq_mqi.specs.declared.drafts.Letter.{Letter}
use Rattle.mq_core.specs.Calls.{at_number}

-- the message of a letter with its body
abbrev pub letter_message : Letter → List ℕ → Message
letter_message l body = message_of l.draft body

-- the step of a connection
abbrev pub letter_step : Letter → Bool → Bool → List ℕ → Connection → Step Reason (Answer Sent)
letter_step l high sync body c = Do (sent_answer high (letter_message l body)) (put_part sync c l.queue (letter_message l body) ∷ [])

-- the refusals behind a route, in three groups, and that of the log behind them
abbrev pub options_tests : Md → List (Test Reason)
options_tests md = when (is_bad_expiry md.expiry) reasons.ExpiryError ∷ when (is_int 1 md.msg_type && is_blank md.reply_to_q) reasons.MissingReplyToQueue ∷ []

abbrev pub definitions_tests : List PathStep → List ℕ → ℕ → Plain → List (Test Reason)
definitions_tests path queue bytes p = inhibited_tests path p ++ length_tests queue bytes p

abbrev pub counts_tests : Connection → List ℕ → Bool → Plain → List (Test Reason)
counts_tests c queue sync p = when (sync_full sync c p) reasons.SyncpointLimitReached ∷ full_tests queue p

-- the message can be placed on the queue
pub record CanPost (l : Letter) (sync : Bool) (body : List ℕ) (c : Connection) (p : Plain) : Type 0 where
  pub ident : l.draft.ident ≡ next_ident p
  pub there : IsSome (local_of l.queue p.definitions)
  pub short : length body ≤ p.definitions.manager.max_message_length
  pub deadline : IfSome l.draft.deadline (λ d. d < 2 ^ 64 - 1)
  pub fits : log_full sync c (letter_message l body) p ≡ false

abbrev pub Posts : Connection → Route → Md → List ℕ → Bool → Plain → Result Letter Reason → Type 0
Posts c route md body sync p (Ok l) = (put_route c route md body sync p ≡ letter_step l (is_high md.priority) sync body c) × CanPost l sync body c p
Posts c route md body sync p (Err reason) = put_route c route md body sync p ≡ Refuse reason

-- MQPUT and MQPUT1
abbrev pub letter_at : ℕ → Letter → Bool → Bool → List ℕ → Plain → Step Reason (Answer Sent)
letter_at number l high sync body p = at_number number p (letter_step l high sync body)

pub record CanPut (step : Step Reason (Answer Sent)) (number : ℕ) (l : Letter) (high sync : Bool) (body : List ℕ) (p : Plain) : Type 0 where
  pub is : step ≡ letter_at number l high sync body p
  pub up : is_up p.running ≡ true
  pub live : IsSome (connection_at number p.connections)
  pub can : IfSome (connection_at number p.connections) (λ c. CanPost l sync body c p)

abbrev pub Puts : Step Reason (Answer Sent) → ℕ → Bool → Bool → List ℕ → Plain → Result Letter Reason → Type 0
Puts step number high sync body p (Ok l) = CanPut step number l high sync body p
Puts step number high sync body p (Err reason) = step ≡ Refuse reason
