-- A get that may still wait, computed: it is no event, also where memory is wanting; at its deadline it is one.
use Rattle.std.specs.Prelude.{◌≡◌, ℕ, ◌+◌, false, [], Some, None, codes, refl}
use Rattle.mq_codes.specs.declared.reason.Reason.TheVariants as reasons
use Rattle.mq_history.specs.from_frame.SeenVariants as items
use Rattle.mq_history.specs.from_calls.AnswerVariants as answers
use Rattle.mq_history.specs.from_calls.{Choice, Hconn}
use Rattle.mq_history.specs.from_calls.TakeVariants as takes
use Rattle.mq_history.specs.from_calls.ChoiceVariants.{NoMemory}
use Rattle.mq_history.specs.declared.calls.Actor.TheVariants as actors
use Rattle.mq_history.specs.declared.calls.Call.{Call}
use Rattle.mq_history.specs.declared.calls.Call.TheVariants as calls
use Rattle.mq_history.specs.declared.calls.Chance.TheVariants as chances
use Rattle.mq_history.specs.declared.calls.Reply.TheVariants as replies
use Rattle.mq_spec_manager.proofs.Script.{script_appl, handle, all_ways, whole_get}
use Rattle.mq_spec_node.specs.Node.{Node}
use Rattle.mq_spec_node.specs.Happens.{event, deed_of, IsEvent}
use Rattle.mq_spec_node.proofs.Pair.{paris, at_paris, runs}

abbrev does : Call → Node → Node
does call n = (event 1 (actors.Script 0) call runs items.Nothing n).next

abbrev hc : Hconn
hc = record { manager = 2; incarnation = 1; number = 1 }

abbrev opened : Node
opened = does (calls.Mqopen hc (codes "Q1") [] all_ways) (does (calls.Mqconn [] script_appl) (paris at_paris []))

abbrev get_until : ℕ → Call
get_until until = calls.Mqget hc (handle 1) (whole_get takes.Next false) (Some until)

-- a moment before its deadline it is no event, whatever comes
waits : deed_of 1 (actors.Script 0) (get_until (opened.manager.moment + 1)) items.Nothing opened ≡ None
waits = refl

no_answer : (choice : Choice) → IsEvent 1 (actors.Script 0) (get_until (opened.manager.moment + 1)) (chances.Call choice) items.Nothing opened → ⊥
no_answer choice h = h

-- at its deadline it finds nothing; or no memory
at_deadline : (event 1 (actors.Script 0) (get_until opened.manager.moment) runs items.Nothing opened).reply ≡ replies.Got (answers.Failed reasons.NoMessageAvailable)
at_deadline = refl

no_memory : (event 1 (actors.Script 0) (get_until opened.manager.moment) (chances.Call NoMemory) items.Nothing opened).reply ≡ replies.Got (answers.Failed reasons.StorageNotAvailable)
no_memory = refl

may_want : IsEvent 1 (actors.Script 0) (get_until opened.manager.moment) (chances.Call NoMemory) items.Nothing opened
may_want = tt
