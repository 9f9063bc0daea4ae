-- Commands on objects as events.
use Rattle.std.proofs.Common.{◌≡◌, refl, sym, ap, ◌∙◌, List, [], ◌∷◌, false, not, inl, inr}
use Rattle.std.specs.Prelude.{Option, Some, None, Result, Ok, Err, ◌⊎◌}
use Rattle.mq_base.specs.declared.want.NoMemory.{NoMemory as Want}
use Rattle.mq_calls.specs.declared.commands.Halt.{Halt}
use Rattle.mq_calls.specs.declared.commands.Halt.TheVariants as halts
use Rattle.mq_calls.specs.declared.commands.ScRefusal.TheVariants as refusals
use Rattle.mq_calls.specs.declared.choices.Choice.{Choice}
use Rattle.mq_objects.specs.declared.command.Command.{Command as Objects}
use Rattle.mq_sc_apply.specs.declared.answers.Plan.{Plan}
use Rattle.mq_sc_apply.specs.declared.answers.Plan.TheVariants as plans
use Rattle.mq_sc_apply.specs.Commands.{plan}
use Rattle.mq_sc_parse.specs.declared.command.Command.TheVariants as commands
use Rattle.mq_history.specs.declared.acts.Act.TheVariants as acts
use Rattle.mq_history.specs.declared.acts.Acted.{Acted}
use Rattle.mq_history.specs.declared.acts.Acted.TheVariants as acted
use Rattle.mq_history.specs.declared.calls.Call.TheVariants as calls
use Rattle.mq_history.specs.declared.calls.Reply.TheVariants as replies
use Rattle.mq_calls.specs.Meeting.{ManagerValue, MeetsAs}
use Rattle.mq_calls.specs.Meeting.Wants.{Anywhere}
use Rattle.mq_calls.specs.Steps.{when, refusal, refused_or}
use Rattle.mq_spec_node.specs.Terms.{Did, Reply, Plain, Part, Step, Refuse, Do, Shown, ScRefusal, do_all, command, is_up}
use Rattle.mq_spec_node.specs.Words.{Own, node_of, command_deed, answer_of}
use Rattle.mq_spec_manager.specs.Commands.{planned_step, uses_of}
use Rattle.mq_manager.specs.from_core.Values.{CoreValue, manager_of}
use Rattle.mq_events.specs.Outcomes.{StepIsNumbered, choice_by, reply_of, acted_of, is_wanting, WantsCopy, Came, ObeysAs}
use Rattle.mq_events.proofs.NumberLaws.{numbered}
use Rattle.mq_manager.proofs.from_law_manager.ShortSteps.{command_short}
use Rattle.mq_events.specs.Disks.{RoseBy}
use Rattle.mq_events.proofs.CallLaws.{silent, rose_then, stopped, later, faults_so, same_plain, came_so, outcome_by, nothing_possible}

module _ (own : Own) (old new : ManagerValue) where
  came : (step : Step ScRefusal Shown) (ended : Result Shown (Halt ScRefusal)) → StepIsNumbered step → is_wanting ended ≡ false → MeetsAs Anywhere old step ended new
      → Came (command_deed own step) (node_of old.plain own) (outcome_by (choice_by ended new.delta new.plain.log.armed) (reply_of ended) new.delta) new.plain
  came (Refuse reason) (Ok value) n w m = absurd m
  came (Refuse reason) (Err (halts.Refused other)) n w m = record {
    can = nothing_possible old.plain.log.armed;
    reply = ap (λ (r : ScRefusal). replies.Acted (acted.Sc r)) m.0;
    delta = ap (λ (v : ManagerValue). v.delta) m.1;
    manager = ap (λ (v : ManagerValue). v.plain) m.1;
    own = refl;
    pushed = refl;
    received = refl;
  }
  came (Refuse reason) (Err halts.NoMemory) n w m = absurd cc
  came (Refuse reason) (Err (halts.Stopped by)) n w m = absurd m
  came (Do reply parts) (Ok value) n w m = record {
    can = m.1;
    reply = ap (λ (s : Shown). replies.Acted (acted.Shown s)) m.0;
    delta = ap (λ (v : ManagerValue). v.delta) m.3;
    manager = ap (λ (v : ManagerValue). v.plain) m.3;
    own = refl;
    pushed = refl;
    received = refl;
  }
  came (Do reply parts) (Err (halts.Refused other)) n w m = absurd m
  came (Do reply parts) (Err halts.NoMemory) n w m = absurd cc
  came (Do reply parts) (Err (halts.Stopped by)) n w m = stopped replies.Ended own old new (command_deed own (Do reply parts)) by refl refl refl n m

-- lines are shown, or something is changed
abbrev LinesOrParts : Step ScRefusal Shown → Type 0
LinesOrParts (Refuse reason) = Unit {0}
LinesOrParts (Do shown parts) = (shown.lines ≡ []) ⊎ (parts ≡ [])

lines_or : (c : Objects) (p : Plain) → LinesOrParts (command c p)
lines_or c p = at (refusal (when (not (is_up p.running)) refusals.Down ∷ []))
  where
    planned : (r : Result Plan ScRefusal) → LinesOrParts (planned_step r p.definitions)
    planned (Ok (plans.Change q)) = inl refl
    planned (Ok (plans.Show shown)) = inr refl
    planned (Err reason) = tt

    at : (o : Option ScRefusal) → LinesOrParts (refused_or o (planned_step (plan c p.given.name p.definitions (uses_of p)) p.definitions))
    at None = planned (plan c p.given.name p.definitions (uses_of p))
    at (Some reason) = tt

want_same : (old new : ManagerValue) (step : Step ScRefusal Shown) (ended : Result Shown (Halt ScRefusal)) → MeetsAs Anywhere old step ended new → LinesOrParts step → WantsCopy ended → new.plain ≡ old.plain
want_same old new (Refuse reason) (Ok value) m l w = absurd m
want_same old new (Refuse reason) (Err (halts.Refused other)) m l w = absurd w
want_same old new (Refuse reason) (Err halts.NoMemory) m l w = ap (λ (v : ManagerValue). v.plain) m
want_same old new (Refuse reason) (Err (halts.Stopped by)) m l w = absurd w
want_same old new (Do reply parts) (Ok value) m (inl e) w = absurd (w (ap (λ (s : Shown). s.lines) m.0 ∙ e))
want_same old new (Do reply parts) (Ok value) m (inr e) w = ap (λ (v : ManagerValue). v.plain) m.3 ∙ ap (λ (ps : List Part). do_all ps old.plain) e
want_same old new (Do reply parts) (Err (halts.Refused other)) m l w = absurd w
want_same old new (Do reply parts) (Err halts.NoMemory) m l w = ap (λ (v : ManagerValue). v.plain) m
want_same old new (Do reply parts) (Err (halts.Stopped by)) m l w = absurd w

pub command_wants : (c : Objects) (old new : CoreValue) (x : Want) (ended : Result Shown (Halt ScRefusal)) → MeetsAs Anywhere (manager_of old) (command c old.plain) ended (manager_of new) → WantsCopy ended → ObeysAs c old (Err x) new
command_wants c old new x ended m w = record {
  ends = λ stamp actor own. want_same (manager_of old) (manager_of new) (command c old.plain) ended m (lines_or c old.plain) w;
  later = later Anywhere (manager_of old) (manager_of new) (command c old.plain) ended m;
  rose = tt;
}

answers : (c : Objects) (ended : Result Shown (Halt ScRefusal)) → is_wanting ended ≡ false → answer_of (calls.Act (acts.Obey (commands.Objects c))) (reply_of ended) ≡ replies.Acted (acted_of ended)
answers c (Ok shown) w = refl
answers c (Err (halts.Refused reason)) w = refl
answers c (Err halts.NoMemory) w = absurd cc
answers c (Err (halts.Stopped by)) w = refl

command_rose : (old mid new : CoreValue) (step : Step ScRefusal Shown) (ended : Result Shown (Halt ScRefusal)) (reply : Reply) → reply ≡ reply_of ended → new ≡ record mid { delta = [] } → MeetsAs Anywhere (manager_of old) step ended (manager_of mid) → RoseBy reply old.faults new.faults
command_rose old mid new step (Ok shown) reply r e m = silent reply (replies.Acted (acted.Shown shown)) old.faults new.faults r refl
command_rose old mid new step (Err (halts.Refused reason)) reply r e m = silent reply (replies.Acted (acted.Sc reason)) old.faults new.faults r refl
command_rose old mid new step (Err halts.NoMemory) reply r e m = silent reply (replies.Acted (acted.Sc refusals.NoMemory)) old.faults new.faults r refl
command_rose old mid new (Refuse reason) (Err (halts.Stopped by)) reply r e m = absurd m
command_rose old mid new (Do shown parts) (Err (halts.Stopped by)) reply r e m = rose_then by parts old mid new reply r e m

pub command_ends : (c : Objects) (old mid new : CoreValue) (ended : Result Shown (Halt ScRefusal)) (choice : Choice) (reply : Reply) (delta : List Did) (a : Acted) → MeetsAs Anywhere (manager_of old) (command c old.plain) ended (manager_of mid)
    → a ≡ acted_of ended → is_wanting ended ≡ false → choice ≡ choice_by ended mid.delta mid.plain.log.armed → reply ≡ reply_of ended → delta ≡ mid.delta → new ≡ record mid { delta = [] }
    → ObeysAs c old (Ok (record { outcome = record { choice = choice; reply = reply; delta = delta }; acted = a })) new
command_ends c old mid new ended choice reply delta a m is w ch re de e = (
  record {
    ends = λ stamp actor own. came_so _ _ (outcome_by (choice_by ended mid.delta mid.plain.log.armed) (reply_of ended) mid.delta) (outcome_by choice reply delta) mid.plain new.plain
        (ap (λ (x : Choice). outcome_by x reply delta) ch ∙ ap (λ (x : Reply). outcome_by (choice_by ended mid.delta mid.plain.log.armed) x delta) re ∙ ap (λ (x : List Did). outcome_by (choice_by ended mid.delta mid.plain.log.armed) (reply_of ended) x) de)
        (same_plain mid new e)
        (came own (manager_of old) (manager_of mid) (command c old.plain) ended (numbered (command c old.plain) (command_short c old.plain)) w m);
    later = faults_so Anywhere old mid new (command c old.plain) ended e m;
    rose = command_rose old mid new (command c old.plain) ended reply re e m;
  },
  ap (λ (x : Reply). answer_of (calls.Act (acts.Obey (commands.Objects c))) x) re ∙ answers c ended w ∙ ap (λ (x : Acted). replies.Acted x) (sym is),
)
