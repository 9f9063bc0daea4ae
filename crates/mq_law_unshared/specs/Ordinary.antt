-- What holds of the parts of each call of a manager, of its commands, triggers and moves; and so of the parts of each deed that is no end's.
use Rattle.std.specs.Prelude.{◌≡◌, ℕ, Bool, true, List, [], Option, Some, None}
use Rattle.mq_message.specs.declared.message.Dest.{Dest}
use Rattle.mq_message.specs.declared.message.Md.{Md}
use Rattle.mq_queue.specs.declared.row.Row.{Row}
use Rattle.mq_objects.specs.declared.command.Command.{Command}
use Rattle.mq_objects.specs.Names.{local_of}
use Rattle.mq_calls.specs.declared.answers.Appl.{Appl}
use Rattle.mq_calls.specs.declared.answers.Get.{Get}
use Rattle.mq_calls.specs.declared.answers.Hconn.{Hconn}
use Rattle.mq_calls.specs.declared.answers.Hobj.{Hobj}
use Rattle.mq_calls.specs.declared.answers.Open.{Open}
use Rattle.mq_calls.specs.State.{Plain}
use Rattle.mq_calls.specs.Steps.{Part}
use Rattle.mq_spec_manager.specs.Words.{mqconn, mqopen, mqclose, mqput, mqput1, mqget, mqcmit, mqback, mqdisc, command, trigger_turn}
use Rattle.mq_spec_manager.specs.Agents.{discard, move_row}
use Rattle.mq_spec_node.specs.Node.{Handler}
use Rattle.mq_spec_node.specs.Deeds.{Deed, parts_of}
use Rattle.mq_spec_node.specs.Handlers.{is_readable, next_letter}

-- a deed's parts have it, where there is a deed
abbrev pub EachHas : (List Part → Type 0) → Option Deed → Type 0
EachHas has None = Unit {0}
EachHas has (Some d) = has d.parts

-- so do those of each call of an application, each command, trigger and move; of the handler's it is the next dead letter that is moved
pub record CallsHave (has : List Part → Type 0) (p : Plain) : Type 0 where
  pub none : has []
  pub connects : (qmgr : List ℕ) (appl : Appl) → has (parts_of (mqconn qmgr appl p))
  pub opens : (hc : Hconn) (name qmgr : List ℕ) (how : Open) → has (parts_of (mqopen hc name qmgr how p))
  pub closes : (hc : Hconn) (ho : Hobj) → has (parts_of (mqclose hc ho p))
  pub puts : (hc : Hconn) (ho : Hobj) (md : Md) (body : List ℕ) (sync : Bool) → has (parts_of (mqput hc ho md body sync p))
  pub puts_once : (hc : Hconn) (name qmgr : List ℕ) (md : Md) (body : List ℕ) (sync : Bool) → has (parts_of (mqput1 hc name qmgr md body sync p))
  pub gets : (hc : Hconn) (ho : Hobj) (get : Get) (until : Option ℕ) → has (parts_of (mqget hc ho get until p))
  pub commits : (hc : Hconn) → has (parts_of (mqcmit hc p))
  pub backs_out : (hc : Hconn) → has (parts_of (mqback hc p))
  pub disconnects : (hc : Hconn) → has (parts_of (mqdisc hc p))
  pub obeys : (c : Command) → has (parts_of (command c p))
  pub triggers : has (parts_of (trigger_turn p))
  pub moves : (q : List ℕ) (h : Handler) (x : Row) (to : Dest) (bare : Bool) → is_readable (local_of q p.definitions) ≡ true → next_letter q h p ≡ Some x → has (parts_of (move_row q x.message.ident to bare p))
  pub discards : (q : List ℕ) (h : Handler) (x : Row) → is_readable (local_of q p.definitions) ≡ true → next_letter q h p ≡ Some x → has (parts_of (discard q x.message.ident p))
