-- Worked rows of reports: what answers, queues and channels look like.
use Rattle.std.specs.Prelude.{◌≡◌, [], ◌∷◌, Some, None, codes, true, false}
use Rattle.std.proofs.Common.{refl}
use Rattle.std.specs.Fmt.{digits}
use Rattle.mq_message.specs.declared.message.Md.{Md}
use Rattle.mq_codes.specs.declared.reason.Reason.TheVariants as reasons
use Rattle.mq_calls.specs.declared.answers.Answer.TheVariants as answers
use Rattle.mq_calls.specs.declared.commands.ScRefusal.TheVariants as sc
use Rattle.mq_calls.specs.declared.commands.RestartFault.TheVariants as faults
use Rattle.mq_history.specs.declared.acts.Acted.TheVariants as acted
use Rattle.mq_history.specs.declared.calls.Reply.TheVariants as replies
use Rattle.mq_sender.specs.declared.state.SenderState.TheVariants as sender_states
use Rattle.mq_sender.specs.declared.state.StopCause.TheVariants as causes
use Rattle.mq_receiver.specs.declared.state.ReceiverState.TheVariants as receiver_states
use Rattle.mq_net_stands.specs.Replies.{number4, put_text, message_text, act_text, displayed}
use Rattle.mq_net_stands.specs.Stands.{cable_text, manager_text}

-- numbers of lines
pub four_places : number4 3 ≡ codes "0003"
unfolding digits
four_places = refl

pub more_places : number4 12345 ≡ codes "12345"
unfolding digits
more_places = refl

-- a put that is answered OK, with a warning, and one that is refused
pub put_ok : (md : Md) → put_text (answers.Ok (record { ident = record { manager = 2; incarnation = 1; number = 15 }; md = md })) ≡ codes "0 0 ID 2.1.15"
unfolding digits
put_ok md = refl

pub put_warned : (md : Md) → put_text (answers.Warning reasons.PriorityExceedsMaximum (record { ident = record { manager = 2; incarnation = 1; number = 15 }; md = md })) ≡ codes "1 2049 ID 2.1.15"
unfolding digits
put_warned md = refl

pub put_refused : put_text (answers.Failed reasons.QueueFull) ≡ codes "2 2053"
unfolding digits
put_refused = refl

-- a get, with a byte that isn't shown
pub got : (md : Md) → message_text (record { ident = record { manager = 1; incarnation = 2; number = 3 }; md = md; body = 72 ∷ 10 ∷ 73 ∷ []; length = 3 }) ≡ codes " ID 1.2.3 LEN 3 BYTES 'H.I'"
unfolding digits
got md = refl

-- commands, and a restart that a cut stopped
pub obeyed : act_text (replies.Acted acted.Done) ≡ codes "OK"
obeyed = refl

pub missing : act_text (replies.Acted (acted.Sc sc.Missing)) ≡ codes "REFUSED MISSING"
missing = refl

pub cut : act_text (replies.Acted (acted.Start faults.Cut)) ≡ codes "REFUSED CUT"
cut = refl

pub display : displayed (codes "    ") (replies.Acted (acted.Shown (record { lines = codes "QLOCAL(Q1) CURDEPTH(2)" ∷ [] }))) ≡ codes "    QLOCAL(Q1) CURDEPTH(2)\n"
display = refl

-- a channel that an operator stopped, with its receiver bound; one whose partner didn't answer; one of managers that are down
pub stopped :
    cable_text (record {
      channel = codes "LON.PAR";
      sender = Some (record { state = sender_states.Stopped causes.Operator; session = 1; last = 1; in_doubt = None });
      receiver = Some (record { state = receiver_states.Bound 1 1; session = 1; last = 1; unit = record { session = 1; n = 1 } });
    }) ≡ codes "CH LON.PAR SENDER STOPPED SESSION 1 SEQ 1 INDOUBT -\nCH LON.PAR RECEIVER RUNNING SESSION 1 SEQ 1 LAST 1.1\n"
unfolding digits
stopped = refl

pub unanswered :
    cable_text (record {
      channel = codes "A";
      sender = Some (record { state = sender_states.Stopped causes.NoAnswer; session = 12; last = 0; in_doubt = Some (record { session = 2; n = 1 }) });
      receiver = None;
    }) ≡ codes "CH A SENDER STOPPED NOANSWER SESSION 12 SEQ 0 INDOUBT 2.1\nCH A RECEIVER DOWN\n"
unfolding digits
unanswered = refl

pub numbers_differ :
    cable_text (record {
      channel = codes "A";
      sender = Some (record { state = sender_states.Stopped (causes.SequenceError 4 7); session = 3; last = 4; in_doubt = None });
      receiver = Some (record { state = receiver_states.Inactive; session = 3; last = 7; unit = record { session = 0; n = 0 } });
    }) ≡ codes "CH A SENDER STOPPED SEQERR 4 7 SESSION 3 SEQ 4 INDOUBT -\nCH A RECEIVER INACTIVE SESSION 3 SEQ 7 LAST 0.0\n"
unfolding digits
numbers_differ = refl

-- a manager with an empty queue, and one that is down
pub queues : manager_text (record { name = codes "PARIS"; is_up = true; queues = record { name = codes "Q1"; depth = 0; rows = [] } ∷ [] }) ≡ codes "QMGR PARIS UP\nQ1 DEPTH 0\n"
unfolding digits
queues = refl

pub down : manager_text (record { name = codes "PARIS"; is_up = false; queues = [] }) ≡ codes "QMGR PARIS DOWN\n"
down = refl
