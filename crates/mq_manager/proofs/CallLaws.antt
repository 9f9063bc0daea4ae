-- What holds of a manager and of its log between its calls is kept by each of them.
use Rattle.std.proofs.Common.{◌≡◌, ℕ, ◌<◌, Bool, true, false, List, length, refl, ap, sym, subst, arith, ◌∙◌}
use Rattle.std.specs.Prelude.{Option, Result, ◌&&◌, ◌||◌}
use Rattle.std.specs.List.{AllByRecursion}
use Rattle.std.proofs.lemmas.Bool.Decides.{nat_tests}
use Rattle.mq_calls.specs.declared.agents.Note.{Note}
use Rattle.mq_calls.specs.declared.agents.Note.TheVariants as notes
use Rattle.mq_message.specs.declared.message.Ident.{Ident}
use Rattle.mq_objects.specs.declared.command.Command.{Command}
use Rattle.mq_calls.specs.declared.commands.ScRefusal.{ScRefusal}
use Rattle.mq_calls.specs.Words.{Reason, Dest, Message, Luw, Md, Step, Wants, MeetsAs, Meets, MeetsInRoom, MeetsOrWants, is_up}
use Rattle.mq_calls.specs.declared.answers.Answer.{Answer}
use Rattle.mq_calls.specs.declared.answers.Get.{Get}
use Rattle.mq_calls.specs.declared.answers.GetAnswer.{GetAnswer}
use Rattle.mq_calls.specs.declared.answers.Sent.{Sent}
use Rattle.mq_calls.specs.declared.answers.Hconn.{Hconn}
use Rattle.mq_calls.specs.declared.answers.Hobj.{Hobj}
use Rattle.mq_calls.specs.declared.answers.Appl.{Appl}
use Rattle.mq_calls.specs.declared.answers.Open.{Open}
use Rattle.mq_calls.specs.declared.commands.Shown.{Shown}
use Rattle.mq_calls.specs.declared.commands.Halt.{Halt}
use Rattle.mq_calls.specs.declared.agents.SeizeFault.{SeizeFault}
use Rattle.mq_calls.specs.declared.agents.PrepareFault.{PrepareFault}
use Rattle.mq_calls.specs.Meeting.Wants.{Nowhere, Behind, Anywhere}
use Rattle.mq_calls.specs.Images.{lasting}
use Rattle.mq_calls.specs.State.{Plain, Running}
use Rattle.mq_calls.specs.State.Running.{Up, Down}
use Rattle.mq_frame.specs.Reading.{IsBytes}
use Rattle.mq_law_log.specs.from_spec_log.Applies.Start.{Later}
use Rattle.mq_spec_manager.specs.Words.{Never, mqconn, mqopen, mqclose, mqput, mqput1, mqget, mqcmit, mqback, mqdisc}
use Rattle.mq_spec_manager.specs.Triggers.{trigger_turn}
use Rattle.mq_spec_manager.specs.Commands.{command}
use Rattle.mq_spec_manager.specs.Agents.{IsUp, CanHold, CanPrepare, CanHarden, CanMove, CanReceive, HasFreeRow, seize, leave, set_bound, expire, hold_batch, release_batch, prepare, harden, receive, move_row, discard}
use Rattle.mq_law_manager.specs.Facts.{IsSound}
use Rattle.mq_law_log.specs.Restarts.{StepHarmless}
use Rattle.mq_law_log.proofs.Applications.{conn_harmless, open_harmless, close_harmless, put_harmless_whole, put1_harmless, get_harmless, cmit_harmless, back_harmless, disc_harmless}
use Rattle.mq_law_log.proofs.Agents.{trigger_harmless, seize_harmless, leave_harmless, bound_harmless, expire_harmless, hold_harmless, release_harmless, prepare_harmless_whole, harden_harmless_whole, discard_harmless}
use Rattle.mq_law_log.proofs.Landings.{receive_harmless}
use Rattle.mq_law_log.proofs.Moves.{move_harmless}
use Rattle.mq_law_log.proofs.Commanded.{command_harmless}
use Rattle.mq_law_image.specs.Values.{IsCommandText, StepMakes}
use Rattle.mq_receive.specs.from_core.Values.{CoreValue, WritesLog, begun_call, manager_of}
use Rattle.mq_restarts.specs.from_restart.{LogRead}
use Rattle.mq_restarts.specs.from_restart.LogReadVariants as reads
use Rattle.mq_restarts.specs.from_restart.Stands.{StandsUp}
use Rattle.mq_manager.specs.Facts.{IsWell}
use Rattle.mq_manager.specs.Limits.{fits}
use Rattle.mq_manager.specs.Reads.{StepCanBeRead, IsLowNote, IsEnding, has_name, is_ending, is_low, can_harden}
use Rattle.mq_manager.specs.Kept.{IsKept}
use Rattle.mq_manager.proofs.WellLaws.{Idles, true_false, conn_down, going_down, for_down, turn_down, well_conn, well_open, well_close, well_put, well_put1, well_get, well_cmit, well_back, well_disc, well_turn}
use Rattle.mq_manager.proofs.CommandLaws.{command_down, well_command}
use Rattle.mq_manager.proofs.AgentLaws.{well_seize, well_leave, well_bound, well_expire, well_hold, well_release, well_prepare, well_harden, well_discard, well_move, well_receive}
use Rattle.mq_manager.proofs.ReadableLaws.{readable, harden_can, command_can}
use Rattle.mq_law_manager.proofs.Forcing.{conn_forces, open_forces, close_forces, put_forces, put1_forces, get_forces, cmit_forces, back_forces, disc_forces, trigger_forces, seize_forces, leave_forces, bound_forces, expire_forces, hold_forces, release_forces, prepare_forces, receive_forces, move_forces, discard_forces}
use Rattle.mq_manager.proofs.KeepLaws.{at_up, foreign_keeps, log_after}
use Rattle.mq_manager.proofs.NamedLaws.{ending_named, image_names}

named_is : (channel : List ℕ) → has_name channel ≡ true → 0 < length channel
named_is channel e = grind (arith, nat_tests, e)

low_is : (note : Note) → is_low note ≡ true → IsLowNote note
low_is (notes.Session partner session) e = grind (arith, nat_tests, e)
low_is (notes.Resolved unit commit operator) e = tt
low_is (notes.Bound partner session last) e = tt
low_is (notes.Closed session) e = tt
low_is (notes.SeqSet end last) e = tt

module _ (tells : Type 0) (read : LogRead) (v new : CoreValue) (k : IsKept tells read v) where
  kept_by : {F T : Type 0} (wants : Wants) (step : Step F T) (result : Result T (Halt F)) → MeetsAs wants (manager_of v) step result (manager_of new) → WritesLog v step result new → (is_up v.plain.running ≡ false → Idles step) → (IsSound v.plain → StepHarmless step v.plain)
      → StepCanBeRead step → IsWell new.plain → IsKept tells read new
  kept_by wants step result m w down harmless can well = record { well = well; log = log_after tells read wants v new step result m w k.well k.log down harmless can }

  pub kept_conn : (qmgr : List ℕ) (appl : Appl) (result : Result (Answer Hconn) (Halt Reason)) → Meets (manager_of v) (mqconn qmgr appl v.plain) result (manager_of new) → WritesLog v (mqconn qmgr appl v.plain) result new → IsKept tells read new
  kept_conn qmgr appl result m w = kept_by Behind (mqconn qmgr appl v.plain) result m w (conn_down qmgr appl v.plain) (λ s. conn_harmless qmgr appl v.plain) (conn_forces readable qmgr appl v.plain) (well_conn (manager_of v) (manager_of new) k.well qmgr appl result m)

  pub kept_open : (hc : Hconn) (name qmgr : List ℕ) (how : Open) (result : Result (Answer Hobj) (Halt Reason)) → Meets (manager_of v) (mqopen hc name qmgr how v.plain) result (manager_of new) → WritesLog v (mqopen hc name qmgr how v.plain) result new → IsKept tells read new
  kept_open hc name qmgr how result m w = kept_by Behind (mqopen hc name qmgr how v.plain) result m w (going_down hc v.plain _) (λ s. open_harmless hc name qmgr how v.plain) (open_forces readable hc name qmgr how v.plain) (well_open (manager_of v) (manager_of new) k.well hc name qmgr how result m)

  pub kept_close : (hc : Hconn) (ho : Hobj) (result : Result (Answer (Unit {0})) (Halt Reason)) → MeetsInRoom (manager_of v) (mqclose hc ho v.plain) result (manager_of new) → WritesLog v (mqclose hc ho v.plain) result new → IsKept tells read new
  kept_close hc ho result m w = kept_by Nowhere (mqclose hc ho v.plain) result m w (for_down hc v.plain _) (λ s. close_harmless hc ho v.plain) (close_forces readable hc ho v.plain) (well_close (manager_of v) (manager_of new) k.well hc ho result m)

  pub kept_put : (hc : Hconn) (ho : Hobj) (md : Md) (body : List ℕ) (sync : Bool) (result : Result (Answer Sent) (Halt Reason)) → Meets (manager_of v) (mqput hc ho md body sync v.plain) result (manager_of new) → WritesLog v (mqput hc ho md body sync v.plain) result new → IsKept tells read new
  kept_put hc ho md body sync result m w = kept_by Behind (mqput hc ho md body sync v.plain) result m w (for_down hc v.plain _) (λ s. put_harmless_whole hc ho md body sync v.plain s) (put_forces readable hc ho md body sync v.plain) (well_put (manager_of v) (manager_of new) k.well hc ho md body sync result m)

  pub kept_put1 : (hc : Hconn) (name qmgr : List ℕ) (md : Md) (body : List ℕ) (sync : Bool) (result : Result (Answer Sent) (Halt Reason)) → Meets (manager_of v) (mqput1 hc name qmgr md body sync v.plain) result (manager_of new) → WritesLog v (mqput1 hc name qmgr md body sync v.plain) result new → IsKept tells read new
  kept_put1 hc name qmgr md body sync result m w = kept_by Behind (mqput1 hc name qmgr md body sync v.plain) result m w (for_down hc v.plain _) (λ s. put1_harmless hc name qmgr md body sync v.plain s) (put1_forces readable hc name qmgr md body sync v.plain) (well_put1 (manager_of v) (manager_of new) k.well hc name qmgr md body sync result m)

  pub kept_get : (hc : Hconn) (ho : Hobj) (get : Get) (until : Option ℕ) (result : Result GetAnswer (Halt Reason)) → Meets (manager_of v) (mqget hc ho get until v.plain) result (manager_of new) → WritesLog v (mqget hc ho get until v.plain) result new → IsKept tells read new
  kept_get hc ho get until result m w = kept_by Behind (mqget hc ho get until v.plain) result m w (for_down hc v.plain _) (λ s. get_harmless hc ho get until v.plain s) (get_forces readable hc ho get until v.plain) (well_get (manager_of v) (manager_of new) k.well hc ho get until result m)

  pub kept_cmit : (hc : Hconn) (result : Result (Answer (Unit {0})) (Halt Reason)) → MeetsInRoom (manager_of v) (mqcmit hc v.plain) result (manager_of new) → WritesLog v (mqcmit hc v.plain) result new → IsKept tells read new
  kept_cmit hc result m w = kept_by Nowhere (mqcmit hc v.plain) result m w (for_down hc v.plain _) (λ s. cmit_harmless hc v.plain s) (cmit_forces readable hc v.plain) (well_cmit (manager_of v) (manager_of new) k.well hc result m)

  pub kept_back : (hc : Hconn) (result : Result (Answer (Unit {0})) (Halt Reason)) → MeetsInRoom (manager_of v) (mqback hc v.plain) result (manager_of new) → WritesLog v (mqback hc v.plain) result new → IsKept tells read new
  kept_back hc result m w = kept_by Nowhere (mqback hc v.plain) result m w (for_down hc v.plain _) (λ s. back_harmless hc v.plain s) (back_forces readable hc v.plain) (well_back (manager_of v) (manager_of new) k.well hc result m)

  pub kept_disc : (hc : Hconn) (result : Result (Answer (Unit {0})) (Halt Reason)) → MeetsInRoom (manager_of v) (mqdisc hc v.plain) result (manager_of new) → WritesLog v (mqdisc hc v.plain) result new → IsKept tells read new
  kept_disc hc result m w = kept_by Nowhere (mqdisc hc v.plain) result m w (for_down hc v.plain _) (λ s. disc_harmless hc v.plain s) (disc_forces readable hc v.plain) (well_disc (manager_of v) (manager_of new) k.well hc result m)

  pub kept_turn : (result : Result Bool (Halt Never)) → Meets (manager_of v) (trigger_turn v.plain) result (manager_of new) → WritesLog v (trigger_turn v.plain) result new → IsKept tells read new
  kept_turn result m w = kept_by Behind (trigger_turn v.plain) result m w (turn_down v.plain) (λ s. trigger_harmless v.plain s) (trigger_forces readable v.plain) (well_turn (manager_of v) (manager_of new) k.well result m)

  pub kept_command : (c : Command) (result : Result Shown (Halt ScRefusal)) → IsCommandText c → (fits c ≡ false → new ≡ begun_call v) → MeetsOrWants (manager_of v) (command c v.plain) result (manager_of new) → WritesLog v (command c v.plain) result new → IsKept tells read new
  kept_command c result text unfit m w = kept_by Anywhere (command c v.plain) result m w (command_down c v.plain) (λ s. command_harmless c v.plain s) (command_can c v.plain text k.log.texts) (well_command v new k.well c result unfit m)

-- a channel end hardens: what restarts read of a log that is its own is read again
kept_harden : (tells : Type 0) (read : LogRead) (v new : CoreValue) → IsKept tells read v → IsUp v.plain → (channel : List ℕ) (note : Note) (result : Result (Unit {0}) (Halt Never)) → CanHarden channel note v.plain → 0 < length channel → IsLowNote note
    → MeetsOrWants (manager_of v) (harden channel note v.plain) result (manager_of new) → WritesLog v (harden channel note v.plain) result new → IsKept tells read new
kept_harden tells read v new k up channel note result can named low m w =
    kept_by tells read v new k Anywhere (harden channel note v.plain) result m w (λ d. absurd (true_false _ d up)) (λ s. harden_harmless_whole channel note v.plain can) (harden_can channel note v.plain named low)
    (well_harden (manager_of v) (manager_of new) k.well up channel note result can m)

-- a session is closed, or a unit in doubt settled: its channel has a name where the log tells of it
ending_low : (note : Note) → IsEnding note → IsLowNote note
ending_low (notes.Session partner session) h = absurd h
ending_low (notes.Resolved unit commit operator) h = tt
ending_low (notes.Bound partner session last) h = tt
ending_low (notes.Closed session) h = tt
ending_low (notes.SeqSet end last) h = tt

ending_is : (note : Note) → is_ending note ≡ true → IsEnding note
ending_is (notes.Session partner session) e = absurd cc
ending_is (notes.Resolved unit commit operator) e = tt
ending_is (notes.Bound partner session last) e = absurd cc
ending_is (notes.Closed session) e = tt
ending_is (notes.SeqSet end last) e = absurd cc

ending_makes : (channel : List ℕ) (note : Note) (p : Plain) → IsEnding note → StepMakes (harden channel note p)
ending_makes channel (notes.Session partner session) p h = absurd h
ending_makes channel (notes.Resolved unit commit operator) p h = (tt, tt)
ending_makes channel (notes.Bound partner session last) p h = absurd h
ending_makes channel (notes.Closed session) p h = (tt, tt)
ending_makes channel (notes.SeqSet end last) p h = absurd h

runs_up : (r : Running) → is_up r ≡ true → r ≡ Up
runs_up Up e = refl
runs_up (Down noted starts) e = absurd cc

kept_ending : (tells : Type 0) (read : LogRead) (v new : CoreValue) → IsKept tells read v → IsUp v.plain → (channel : List ℕ) (note : Note) (result : Result (Unit {0}) (Halt Never)) → AllByRecursion IsBytes v.log.bodies → CanHarden channel note v.plain → IsEnding note
    → MeetsOrWants (manager_of v) (harden channel note v.plain) result (manager_of new) → WritesLog v (harden channel note v.plain) result new → IsKept tells read new
kept_ending tells reads.Unread v new k up channel note result bytes can ending m w =
    let stands : StandsUp v.log v.plain = at_up tells reads.Unread v.log v.plain (runs_up v.plain.running up) k.log.stands in
    kept_harden tells reads.Unread v new k up channel note result can (ending_named channel note v.plain (image_names v.plain.given Later v.log.bodies (lasting v.plain) stands.tells bytes) can ending) (ending_low note ending) m w
kept_ending tells (reads.Known kept) v new k up channel note result bytes can ending m w = absurd (at_up tells (reads.Known kept) v.log v.plain (runs_up v.plain.running up) k.log.stands)
kept_ending tells reads.Foreign v new k up channel note result bytes can ending m w = record {
  well = well_harden (manager_of v) (manager_of new) k.well up channel note result can m;
  log = foreign_keeps tells Anywhere v new (harden channel note v.plain) result m w (runs_up v.plain.running up) k.log (harden_harmless_whole channel note v.plain can) (ending_makes channel note v.plain ending);
}

-- of a manager that is up
module _ (tells : Type 0) (read : LogRead) (v new : CoreValue) (k : IsKept tells read v) (up : IsUp v.plain) where
  kept_at : {F T : Type 0} (wants : Wants) (step : Step F T) (result : Result T (Halt F)) → MeetsAs wants (manager_of v) step result (manager_of new) → WritesLog v step result new → (IsSound v.plain → StepHarmless step v.plain)
      → StepCanBeRead step → IsWell new.plain → IsKept tells read new
  kept_at wants step result m w harmless can well = kept_by tells read v new k wants step result m w (λ d. absurd (true_false _ d up)) harmless can well

  pub kept_seize : (channel : List ℕ) (result : Result (Unit {0}) (Halt SeizeFault)) → MeetsOrWants (manager_of v) (seize channel v.plain) result (manager_of new) → WritesLog v (seize channel v.plain) result new → IsKept tells read new
  kept_seize channel result m w = kept_at Anywhere (seize channel v.plain) result m w (λ s. seize_harmless channel v.plain) (seize_forces readable channel v.plain) (well_seize (manager_of v) (manager_of new) k.well up channel result m)

  pub kept_leave : (channel : List ℕ) (result : Result (Unit {0}) (Halt Never)) → MeetsInRoom (manager_of v) (leave channel v.plain) result (manager_of new) → WritesLog v (leave channel v.plain) result new → IsKept tells read new
  kept_leave channel result m w = kept_at Nowhere (leave channel v.plain) result m w (λ s. leave_harmless channel v.plain) (leave_forces readable channel v.plain) (well_leave (manager_of v) (manager_of new) k.well up channel result m)

  pub kept_bound : (channel : List ℕ) (b : Bool) (result : Result (Unit {0}) (Halt Never)) → MeetsOrWants (manager_of v) (set_bound channel b v.plain) result (manager_of new) → WritesLog v (set_bound channel b v.plain) result new → IsKept tells read new
  kept_bound channel b result m w = kept_at Anywhere (set_bound channel b v.plain) result m w (λ s. bound_harmless channel b v.plain) (bound_forces readable channel b v.plain) (well_bound (manager_of v) (manager_of new) k.well up channel b result m)

  pub kept_expire : (channel : List ℕ) (result : Result (Unit {0}) (Halt Never)) → MeetsOrWants (manager_of v) (expire channel v.plain) result (manager_of new) → WritesLog v (expire channel v.plain) result new → IsKept tells read new
  kept_expire channel result m w = kept_at Anywhere (expire channel v.plain) result m w (λ s. expire_harmless channel v.plain s) (expire_forces readable channel v.plain) (well_expire (manager_of v) (manager_of new) k.well up channel result m)

  pub kept_hold : (channel : List ℕ) (unit : Luw) (most : ℕ) (result : Result ℕ (Halt Never)) → CanHold channel v.plain → MeetsOrWants (manager_of v) (hold_batch channel unit most v.plain) result (manager_of new) → WritesLog v (hold_batch channel unit most v.plain) result new → IsKept tells read new
  kept_hold channel unit most result can m w = kept_at Anywhere (hold_batch channel unit most v.plain) result m w (λ s. hold_harmless channel unit most v.plain can) (hold_forces readable channel unit most v.plain) (well_hold (manager_of v) (manager_of new) k.well up channel unit most result can m)

  pub kept_release : (channel : List ℕ) (result : Result (Unit {0}) (Halt Never)) → MeetsInRoom (manager_of v) (release_batch channel v.plain) result (manager_of new) → WritesLog v (release_batch channel v.plain) result new → IsKept tells read new
  kept_release channel result m w = kept_at Nowhere (release_batch channel v.plain) result m w (λ s. release_harmless channel v.plain) (release_forces readable channel v.plain) (well_release (manager_of v) (manager_of new) k.well up channel result m)

  pub kept_prepare : (channel : List ℕ) (last : ℕ) (result : Result (Unit {0}) (Halt PrepareFault)) → CanPrepare channel v.plain → 0 < length channel → MeetsOrWants (manager_of v) (prepare channel last v.plain) result (manager_of new) → WritesLog v (prepare channel last v.plain) result new → IsKept tells read new
  kept_prepare channel last result can named m w = kept_at Anywhere (prepare channel last v.plain) result m w (λ s. prepare_harmless_whole channel last v.plain can s) (prepare_forces readable channel last v.plain (λ b. named)) (well_prepare (manager_of v) (manager_of new) k.well up channel last result m)

  pub kept_discard : (queue : List ℕ) (ident : Ident) (result : Result (Unit {0}) (Halt Never)) → HasFreeRow queue ident v.plain → MeetsOrWants (manager_of v) (discard queue ident v.plain) result (manager_of new) → WritesLog v (discard queue ident v.plain) result new → IsKept tells read new
  kept_discard queue ident result can m w = kept_at Anywhere (discard queue ident v.plain) result m w (λ s. discard_harmless queue ident v.plain can s) (discard_forces readable queue ident v.plain) (well_discard (manager_of v) (manager_of new) k.well up queue ident result can m)

  pub kept_move : (from : List ℕ) (ident : Ident) (to : Dest) (bare : Bool) (result : Result (Unit {0}) (Halt Reason)) → CanMove from ident bare v.plain → MeetsOrWants (manager_of v) (move_row from ident to bare v.plain) result (manager_of new) → WritesLog v (move_row from ident to bare v.plain) result new → IsKept tells read new
  kept_move from ident to bare result can m w = kept_at Anywhere (move_row from ident to bare v.plain) result m w (λ s. move_harmless from ident to bare v.plain can s) (move_forces readable from ident to bare v.plain) (well_move (manager_of v) (manager_of new) k.well up from ident to bare result can m)

  pub kept_receive : (channel : List ℕ) (unit : Luw) (last : ℕ) (batch : List Message) (result : Result (Unit {0}) (Halt Reason)) → CanReceive channel unit v.plain → 0 < length channel → MeetsOrWants (manager_of v) (receive channel unit last batch v.plain) result (manager_of new) → WritesLog v (receive channel unit last batch v.plain) result new → IsKept tells read new
  kept_receive channel unit last batch result can named m w = kept_at Anywhere (receive channel unit last batch v.plain) result m w (λ s. receive_harmless channel unit last batch v.plain can s) (receive_forces readable channel unit last batch v.plain (λ l. named)) (well_receive (manager_of v) (manager_of new) k.well up channel unit last batch result m)

  -- where no restart would read the record, nothing is written
  begun_kept : new ≡ begun_call v → IsKept tells read new
  begun_kept e = subst (IsKept tells read) (sym e) (record { well = k.well; log = k.log })

  pub kept_hardened : (channel : List ℕ) (note : Note) (result : Result (Unit {0}) (Halt Never)) → AllByRecursion IsBytes v.log.bodies → CanHarden channel note v.plain → (can_harden channel note ≡ false → new ≡ begun_call v) → MeetsOrWants (manager_of v) (harden channel note v.plain) result (manager_of new)
      → WritesLog v (harden channel note v.plain) result new → IsKept tells read new
  kept_hardened channel note result bytes can unfit m w = by (is_ending note) (has_name channel) (is_low note) refl refl refl
    where
      by : (c a b : Bool) → is_ending note ≡ c → has_name channel ≡ a → is_low note ≡ b → IsKept tells read new
      by true a b g e f = kept_ending tells read v new k up channel note result bytes can (ending_is note g) m w
      by false false b g e f = begun_kept (unfit (ap (λ (x : Bool). x || (has_name channel && is_low note)) g ∙ ap (λ (x : Bool). x && is_low note) e))
      by false true false g e f = begun_kept (unfit (ap (λ (x : Bool). x || (has_name channel && is_low note)) g ∙ ap (λ (x : Bool). x && is_low note) e ∙ f))
      by false true true g e f = kept_harden tells read v new k up channel note result can (named_is channel e) (low_is note f) m w

  pub kept_prepared : (channel : List ℕ) (last : ℕ) (result : Result (Unit {0}) (Halt PrepareFault)) → CanPrepare channel v.plain → (has_name channel ≡ false → new ≡ begun_call v) → MeetsOrWants (manager_of v) (prepare channel last v.plain) result (manager_of new)
      → WritesLog v (prepare channel last v.plain) result new → IsKept tells read new
  kept_prepared channel last result can unfit m w = by (has_name channel) refl
    where
      by : (a : Bool) → has_name channel ≡ a → IsKept tells read new
      by false e = begun_kept (unfit e)
      by true e = kept_prepare channel last result can (named_is channel e) m w

  pub kept_received : (channel : List ℕ) (unit : Luw) (last : ℕ) (batch : List Message) (result : Result (Unit {0}) (Halt Reason)) → CanReceive channel unit v.plain → (has_name channel ≡ false → new ≡ begun_call v)
      → MeetsOrWants (manager_of v) (receive channel unit last batch v.plain) result (manager_of new) → WritesLog v (receive channel unit last batch v.plain) result new → IsKept tells read new
  kept_received channel unit last batch result can unfit m w = by (has_name channel) refl
    where
      by : (a : Bool) → has_name channel ≡ a → IsKept tells read new
      by false e = begun_kept (unfit e)
      by true e = kept_receive channel unit last batch result can (named_is channel e) m w
