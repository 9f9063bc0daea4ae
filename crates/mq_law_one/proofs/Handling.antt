-- Turns of the dead-letter handler: the ledger follows.
use Rattle.std.proofs.Common.{ℕ, ◌≡◌, ◌⊎◌, Bool, true, false, not, List, [], ◌∷◌, ◌++◌, refl, ap, sym, subst, ◌∙◌, inl, inr}
use Rattle.std.specs.Prelude.{Option, Some, None, Result, Ok, Err, ◌+◌, slice_get, filter, length}
use Rattle.std.specs.Option.{option_map}
use Rattle.mq_message.specs.declared.message.Dest.{Dest}
use Rattle.mq_message.specs.declared.message.Ident.{Ident}
use Rattle.mq_message.specs.declared.message.Message.{Message}
use Rattle.mq_codes.specs.declared.reason.Reason.{Reason}
use Rattle.mq_codes.specs.declared.reason.Reason.TheVariants as reasons
use Rattle.mq_queue.specs.declared.row.Row.{Row}
use Rattle.mq_queue.specs.Rows.{has_ident}
use Rattle.mq_objects.specs.Names.{local_of}
use Rattle.mq_resolve.specs.declared.route.Route.{Route}
use Rattle.mq_resolve.specs.Resolved.{resolve}
use Rattle.mq_calls.specs.declared.choices.Choice.{Choice}
use Rattle.mq_calls.specs.declared.choices.Choice.TheVariants.{Runs, NoMemory, Stopped}
use Rattle.mq_calls.specs.declared.deltas.Did.{Did}
use Rattle.mq_calls.specs.declared.deltas.Why.TheVariants as whys
use Rattle.mq_calls.specs.declared.records.LogRecord.{LogRecord}
use Rattle.mq_rules.specs.declared.rule.Rule.{Rule}
use Rattle.mq_rules.specs.declared.rule.Action.{Action}
use Rattle.mq_rules.specs.declared.rule.Action.TheVariants as actions
use Rattle.mq_history.specs.declared.calls.Actor.{Actor}
use Rattle.mq_history.specs.declared.calls.Call.TheVariants as calls
use Rattle.mq_history.specs.declared.calls.Chance.TheVariants as chances
use Rattle.mq_history.specs.declared.calls.Entry.{Entry}
use Rattle.mq_history.specs.declared.calls.Reply.TheVariants as replies
use Rattle.mq_calls.specs.State.{Plain, Running, Noted}
use Rattle.mq_calls.specs.State.Running.{Up, Down}
use Rattle.mq_calls.specs.Reads.{stored}
use Rattle.mq_calls.specs.Steps.{Step, Part, when, delta_of, do_part, do_all, logged}
use Rattle.mq_calls.specs.Steps.Step.{Refuse, Do}
use Rattle.mq_spec_manager.specs.Get.{removal_parts}
use Rattle.mq_spec_manager.specs.Triggers.{Never}
use Rattle.mq_spec_manager.specs.Landing.{Landing, landing, route_tests}
use Rattle.mq_spec_manager.specs.Moves.{bare_if, move_part, move_full, moved_forced, move_resolved, move_found, move_row, discard}
use Rattle.mq_spec_node.specs.Node.{Node, Own, Handler, with_handler}
use Rattle.mq_spec_node.specs.Deeds.{Deed, told, parts_of, CanCome, forgotten_rows}
use Rattle.mq_spec_node.specs.Handlers as handlers
use Rattle.mq_spec_node.specs.Happens.{IsDeed, where_up, handler_turn, done_or, remembered, remembering}
use Rattle.mq_spec_network.specs.Ledger as ledgers
use Rattle.mq_spec_network.specs.Ledger.{Ledger, posted, take_all_gone, move_all, received_on, receive_if}
use Rattle.mq_spec_network.specs.Story.{Mem}
use Rattle.mq_law_story.specs.from_law_rows.World.{ident_of}
use Rattle.mq_law_story.proofs.from_law_rows.Lists.{ident_yes}
use Rattle.mq_law_manager.specs.Kept.{AllKeep, StepKeeps}
use Rattle.mq_law_manager.specs.Facts.{IsSound}
use Rattle.mq_law_manager.proofs.Ending.{joined}
use Rattle.mq_law_manager.proofs.Handling.{move_row_keeps, discard_keeps}
use Rattle.mq_law_manager.proofs.Lists.{one_row}
use Rattle.mq_law_manager.proofs.Stocks.{move_stocked, discard_stocked}
use Rattle.mq_law_events.specs.Tied.{AreShelved, IsTold, IsFresh, Follow}
use Rattle.mq_law_events.specs.Posting.{StopFollows}
use Rattle.mq_law_events.proofs.Events as events
use Rattle.mq_law_events.proofs.Halting.{short_stops}
use Rattle.mq_law_manager.proofs.ShortSteps.{IsShort, tested_all}
use Rattle.mq_law_events.proofs.Moving.{move_follows, moved, bare_ident}
use Rattle.mq_law_events.proofs.Serving.{discard_follows}
use Rattle.mq_law_events.proofs.Taking.{removed_all}
use Rattle.mq_law_manager.proofs.Removals.{mem_filter, differ_filter}
use Rattle.mq_law_node.proofs.Letters.{IsLetter, can_move, found_one, free_row, letter_of}
use Rattle.mq_law_found.specs.Finds.{StepNotes}
use Rattle.mq_law_found.proofs.Finding.{one_noted}
use Rattle.mq_law_found.proofs.Getting.{removals_noted, discard_posts}
use Rattle.mq_law_found.proofs.Shifting.{move_noted}
use Rattle.mq_law_one.specs.Alone.{IsState, IsAt, Became}
use Rattle.mq_law_one.proofs.Happening.{Deeded, entry_of, nothing, step_happens}

-- what a turn posts
abbrev post_turn : ℕ → List Did → Ledger → Ledger
post_turn m ds l = receive_if m (received_on ds) [] ds (move_all m ds l)

-- What a turn is: an answer alone, or parts that the ledger follows

abbrev IsAnswer : Own → Deed → Type 0
IsAnswer own d = (o : Own) × (d ≡ told replies.Tried o)

record IsParts (m : ℕ) (given : Ident → Bool) (p : Plain) (l : Ledger) (own : Own) (d : Deed) : Type 0 where
  parts : List Part
  is : d ≡ record (told replies.Tried own) { parts = parts }
  follow : Follow m given p l (do_all parts p) (post_turn m (delta_of parts) (take_all_gone m (delta_of parts) l))
  stop : StopFollows {F = Never} {T = Unit {0}} m given p l (Do (tt {0}) parts)
  keep : AllKeep IsSound parts p
  notes : StepNotes {F = Never} {T = Unit {0}} m calls.Turn p (Do (tt {0}) parts)

abbrev TurnFits : ℕ → (Ident → Bool) → Plain → Ledger → Own → Deed → Type 0
TurnFits m given p l own d = IsAnswer own d ⊎ IsParts m given p l own d

-- a discard
removed_posts : (m : ℕ) (q : List ℕ) (xs : List Row) (ds : List Did) (l : Ledger) → (received_on (removed_all whys.Discarded q xs ++ ds) ≡ received_on ds) × (move_all m (removed_all whys.Discarded q xs ++ ds) l ≡ move_all m ds l)
removed_posts m q [] ds l = (refl, refl)
removed_posts m q (x ∷ xs) ds l = removed_posts m q xs ds l

parts_post : (m : ℕ) (q : List ℕ) (xs : List Row) (l : Ledger) → post_turn m (delta_of (removal_parts whys.Discarded q xs)) l ≡ l
parts_post m q [] l = refl
parts_post m q (x ∷ xs) l = let e = removed_posts m q (x ∷ xs) [] l in (λ i. receive_if m (e.0 i) [] (delta_of (removal_parts whys.Discarded q (x ∷ xs))) (e.1 i))

parts_short : (q : List ℕ) (xs : List Row) → IsShort (removal_parts whys.Discarded q xs)
parts_short q [] = tt
parts_short q (x ∷ xs) = tt

discards : (m : ℕ) (given : Ident → Bool) (p : Plain) (l : Ledger) (own : Own) (q : List ℕ) (x : Row) → IsFresh given p → IsTold m p l → IsSound p → IsLetter q p x → TurnFits m given p l own (record (told replies.Tried own) { parts = parts_of (discard q x.message.ident p) })
discards m given p l own q x f t h k =
    let xs : List Row = filter (has_ident x.message.ident) (stored q p).rows in
    let parts : List Part = removal_parts whys.Discarded q xs in
    let kept : AllKeep IsSound parts p = joined (discard q x.message.ident p) p h (discard_keeps q x.message.ident p h.facts (free_row q p x h k)) (discard_stocked q x.message.ident p h.stocked) in
    inr (record {
      parts = parts;
      is = refl;
      follow = subst (λ y. Follow m given p l (do_all parts p) y) (sym (parts_post m q xs (take_all_gone m (delta_of parts) l)))
          (discard_follows m given p l q x.message.ident f t (h.facts.apart.once q) (λ y n e. ap (λ (r : Row). r.by) (one_row (stored q p).rows y x (h.facts.apart.once q) n k.there e) ∙ k.free));
      stop = short_stops Never m given p l (tt {0}) parts f t (parts_short q xs);
      keep = kept;
      notes = removals_noted Never m calls.Turn p whys.Discarded q xs (tt {0}) h
          (record {
            each = λ y n. let f = mem_filter y (has_ident x.message.ident) (stored q p).rows n in (f.0, ap (λ (r : Row). r.by) (one_row (stored q p).rows y x (h.facts.apart.once q) f.0 k.there (ident_yes y.message.ident x.message.ident f.1)) ∙ k.free);
            once = differ_filter ident_of (has_ident x.message.ident) (stored q p).rows (h.facts.apart.once q);
          })
          refl (discard_posts m q) kept;
    })

-- a move
abbrev MoveFits : ℕ → (Ident → Bool) → Plain → Ledger → Step Reason (Unit {0}) → Type 0
MoveFits m given p l (Refuse reason) = Unit {0}
MoveFits m given p l (Do reply parts) = Follow m given p l (do_all parts p) (post_turn m (delta_of parts) (take_all_gone m (delta_of parts) l)) × IsShort parts × (AllKeep IsSound parts p → StepNotes {F = Never} {T = Unit {0}} m calls.Turn p (Do (tt {0}) parts))

shelves_of : (m : ℕ) (p : Plain) (l : Ledger) (t : IsTold m p l) → AreShelved (ledgers.places_at m l).queues
shelves_of m p l t = subst (λ o. AreShelved (ledgers.places_or o).queues) (sym t.placed) t.shelved

part_follows : (m : ℕ) (given : Ident → Bool) (p : Plain) (l : Ledger) (q : List ℕ) (x : Row) (to : Dest) (bare : Bool) (route : Route) (r : Option LogRecord) → IsFresh given p → IsTold m p l → Mem x (stored q p).rows → x.by ≡ None → resolve p.definitions p.given.name to.queue to.qmgr ≡ Ok route
    → Follow m given p l (moved q bare route x (logged r p)) (ledgers.move_row m to bare (ledgers.row_in x.message.ident (ledgers.places_at m l).queues) l)
part_follows m given p l q x to bare route None f t n free is = move_follows m given p l q x to bare route f t (shelves_of m p l t) n free is
part_follows m given p l q x to bare route (Some r) f t n free is =
    events.from_logged m given (Some r) p (moved q bare route x (logged (Some r) p)) l (ledgers.move_row m to bare (ledgers.row_in x.message.ident (ledgers.places_at m l).queues) l)
    (move_follows m given (logged (Some r) p) l q x to bare route f (events.told_logged m (Some r) p l t) (shelves_of m p l t) n free is)

move_fits : (m : ℕ) (given : Ident → Bool) (p : Plain) (l : Ledger) (q : List ℕ) (x : Row) (to : Dest) (bare : Bool) → IsFresh given p → IsTold m p l → IsSound p → IsLetter q p x → MoveFits m given p l (move_row q x.message.ident to bare p)
move_fits m given p l q x to bare f t h k =
    subst (λ (o : Option Message). MoveFits m given p l (move_found q to bare o p)) (sym (ap (option_map (λ (row : Row). row.message)) (found_one (stored q p).rows x (h.facts.apart.once q) k.there)))
    (go (resolve p.definitions p.given.name to.queue to.qmgr) refl)
  where
    go : (r : Result Route Reason) → resolve p.definitions p.given.name to.queue to.qmgr ≡ r → MoveFits m given p l (move_resolved q to bare r (bare_if bare x.message) p)
    go (Err reason) e = tt
    go (Ok route) e =
        let lnd : Landing = landing route (bare_if bare x.message) in
        let part : Part = move_part q to bare lnd in
        tested_all (MoveFits m given p l) (λ r. tt) (route_tests route (length lnd.message.body) p ++ when (move_full q lnd p) reasons.ResourceProblem ∷ []) (Do (tt {0}) (part ∷ [])) (
          subst (λ i. Follow m given p l (do_part part p) (ledgers.move_row m to bare (ledgers.row_in i (ledgers.places_at m l).queues) l)) (sym (bare_ident bare x.message))
              (part_follows m given p l q x to bare route (moved_forced q lnd) f t k.there k.free e),
          tt,
          λ kept. one_noted Never m calls.Turn p (tt {0}) part (move_noted m p.moment p q x to bare route h k.there k.free e kept.0),
        )

-- a move that is refused is a failed try
combine : (m : ℕ) (given : Ident → Bool) (p : Plain) (l : Ledger) (own : Own) (q : List ℕ) (message : Message) (n : ℕ) (rule : Rule) (tries : ℕ) (h : Handler) (step : Step Reason (Unit {0})) → IsFresh given p → IsTold m p l → MoveFits m given p l step → StepKeeps IsSound step p
    → TurnFits m given p l own (handlers.moved q message n rule tries h p own step)
combine m given p l own q message n rule tries h (Refuse reason) f t fit keep = inl (with_handler (handlers.tried_as (handlers.try_later q message.ident n (tries + 1) rule h p) h) own, refl)
combine m given p l own q message n rule tries h (Do reply parts) f t fit keep = inr (record { parts = parts; is = refl; follow = fit.0; stop = short_stops Never m given p l (tt {0}) parts f t fit.1; keep = keep; notes = fit.2 keep })

moves : (m : ℕ) (given : Ident → Bool) (p : Plain) (l : Ledger) (own : Own) (q : List ℕ) (x : Row) (n : ℕ) (rule : Rule) (tries : ℕ) (h : Handler) (to : Dest) (bare : Bool) → IsFresh given p → IsTold m p l → IsSound p → IsLetter q p x
    → TurnFits m given p l own (handlers.moved q x.message n rule tries h p own (move_row q x.message.ident to bare p))
moves m given p l own q x n rule tries h to bare f t sound k =
    combine m given p l own q x.message n rule tries h (move_row q x.message.ident to bare p) f t (move_fits m given p l q x to bare f t sound k)
    (joined (move_row q x.message.ident to bare p) p sound (move_row_keeps q x.message.ident to bare p sound.facts (can_move q p x bare sound k))
    (move_stocked q x.message.ident to bare p (can_move q p x bare sound k) sound.facts sound.stocked))

-- by the rule in force
abbrev own_ignored : List ℕ → Ident → Handler → Own → Own
own_ignored q i h own = with_handler (handlers.tried_as (record { queue = q; ident = i; ignored = true; from = 0; failed = 0; due = 0 }) h) own

acted_fits : (m : ℕ) (given : Ident → Bool) (p : Plain) (l : Ledger) (own : Own) (q : List ℕ) (x : Row) (n : ℕ) (rule : Rule) (action : Action) (tries : ℕ) (h : Handler) → IsFresh given p → IsTold m p l → IsSound p → IsLetter q p x
    → TurnFits m given p l own (handlers.acted q x.message n rule action tries h p own)
acted_fits m given p l own q x n rule actions.Discard tries h f t sound k = discards m given p l own q x f t sound k
acted_fits m given p l own q x n rule actions.Ignore tries h f t sound k = inl (own_ignored q x.message.ident h own, refl)
acted_fits m given p l own q x n rule actions.Retry tries h f t sound k = moves m given p l own q x n rule tries h (handlers.retry_to x.message) true f t sound k
acted_fits m given p l own q x n rule (actions.Forward y) tries h f t sound k = moves m given p l own q x n rule tries h (handlers.forward_to x.message y) (not y.header) f t sound k

ruled_fits : (m : ℕ) (given : Ident → Bool) (p : Plain) (l : Ledger) (own : Own) (q : List ℕ) (x : Row) (n : ℕ) (o : Option Rule) (tries : ℕ) (h : Handler) → IsFresh given p → IsTold m p l → IsSound p → IsLetter q p x
    → TurnFits m given p l own (handlers.ruled q x.message n o tries h p own)
ruled_fits m given p l own q x n None tries h f t sound k = inl (own_ignored q x.message.ident h own, refl)
ruled_fits m given p l own q x n (Some rule) tries h f t sound k = acted_fits m given p l own q x n rule rule.action tries h f t sound k

letter_fits : (m : ℕ) (given : Ident → Bool) (p : Plain) (l : Ledger) (own : Own) (q : List ℕ) (x : Row) (o : Option ℕ) (tries : ℕ) (h : Handler) → IsFresh given p → IsTold m p l → IsSound p → IsLetter q p x
    → TurnFits m given p l own (handlers.in_force q x.message o tries h p own)
letter_fits m given p l own q x None tries h f t sound k = inl (own_ignored q x.message.ident h own, refl)
letter_fits m given p l own q x (Some n) tries h f t sound k = ruled_fits m given p l own q x n (slice_get h.table.rules n) tries h f t sound k

-- The turn

abbrev AreTurns : ℕ → (Ident → Bool) → Plain → Ledger → Own → Option Deed → Type 0
AreTurns m given p l own None = Unit {0}
AreTurns m given p l own (Some d) = TurnFits m given p l own d

turn_fits : (m : ℕ) (given : Ident → Bool) (n : Node) (l : Ledger) (o : Option Handler) → IsFresh given n.manager → IsTold m n.manager l → IsSound n.manager → AreTurns m given n.manager l n.own (handler_turn o n)
turn_fits m given n l None f t sound = tt
turn_fits m given n l (Some h) f t sound = on (handlers.is_readable (local_of (handlers.input_queue h.table n.manager) n.manager.definitions)) refl
  where
    row : handlers.is_readable (local_of (handlers.input_queue h.table n.manager) n.manager.definitions) ≡ true → (r : Option Row) → handlers.next_letter (handlers.input_queue h.table n.manager) h n.manager ≡ r
        → AreTurns m given n.manager l n.own (handlers.handler_row (handlers.input_queue h.table n.manager) h r n)
    row readable None e = tt
    row readable (Some x) e =
        let q : List ℕ = handlers.input_queue h.table n.manager in
        let t_of = handlers.tries_of q x.message.ident h in
        letter_fits m given n.manager l n.own q x (handlers.rule_in_force h.table x.message t_of) (handlers.failed_of t_of) h f t sound (letter_of q h n.manager x readable e)

    on : (b : Bool) → handlers.is_readable (local_of (handlers.input_queue h.table n.manager) n.manager.definitions) ≡ b → AreTurns m given n.manager l n.own (handlers.handler_on b (handlers.input_queue h.table n.manager) h n)
    on false e = tt
    on true e = row e (handlers.next_letter (handlers.input_queue h.table n.manager) h n.manager) refl

-- an answer alone, with another own
answer_happens : {E : ledgers.Stopped → Noted → Plain → Type 0} (m : ℕ) (given : Ident → Bool) (n : Node) (l : Ledger) (e : Entry) (actor : Actor) (choice : Choice) (own : Own) → IsAt E m given n l → CanCome (told replies.Tried own) choice n → Deeded E m given n l e actor calls.Turn choice (told replies.Tried own)
answer_happens {E} m given n l e actor Runs own a can = nothing m given n l (remembered actor calls.Turn replies.Tried (forgotten_rows [] own)) a
answer_happens {E} m given n l e actor NoMemory own a can = absurd can
answer_happens {E} m given n l e actor (Stopped by_ part left) own a can = absurd can.0

deed_happens : {E : ledgers.Stopped → Noted → Plain → Type 0} (m : ℕ) (given : Ident → Bool) (n : Node) (l : Ledger) (e : Entry) (actor : Actor) (choice : Choice) (d : Deed) → IsAt E m given n l → n.manager.running ≡ Up → IsSound n.manager → TurnFits m given n.manager l n.own d → CanCome d choice n → Deeded E m given n l e actor calls.Turn choice d
deed_happens {E} m given n l e actor choice d a up sound (inl fit) can = subst (λ x. Deeded E m given n l e actor calls.Turn choice x) (sym fit.1) (answer_happens m given n l e actor choice fit.0 a (subst (λ x. CanCome x choice n) fit.1 can))
deed_happens {E} m given n l e actor choice d a up sound (inr fit) can =
    subst (λ x. Deeded E m given n l e actor calls.Turn choice x) (sym fit.is)
    (step_happens Never m given n l e actor calls.Turn choice None (λ (u : Unit {0}). replies.Tried) (λ reply ds k. post_turn m ds k) (tt {0}) fit.parts a up sound fit.follow fit.stop fit.keep fit.notes (λ ds. refl) (λ r z. absurd cc) (subst (λ x. CanCome x choice n) fit.is can))

pub turn_happens : {E : ledgers.Stopped → Noted → Plain → Type 0} (m : ℕ) (given : Ident → Bool) (n : Node) (l : Ledger) (e : Entry) (actor : Actor) (choice : Choice) (r : Running) (o : Option Handler) → IsAt E m given n l → n.manager.running ≡ r → IsDeed (where_up r (handler_turn o n)) (chances.Call choice) n
    → Became E m given n l (remembering actor calls.Turn (done_or (where_up r (handler_turn o n)) choice n)).next
    (posted m (entry_of e calls.Turn (chances.Call choice) (done_or (where_up r (handler_turn o n)) choice n).reply (done_or (where_up r (handler_turn o n)) choice n).delta (done_or (where_up r (handler_turn o n)) choice n).received) (done_or (where_up r (handler_turn o n)) choice n).reply l)
turn_happens {E} m given n l e actor choice (Down noted starts) o a z can = absurd can
turn_happens {E} m given n l e actor choice Up o a z can =
    let sound : IsSound n.manager = subst (λ r. IsState r n.manager) z a.state in go (handler_turn o n) (turn_fits m given n l o a.fresh a.told sound) can sound
  where
    go : (d : Option Deed) → AreTurns m given n.manager l n.own d → IsDeed d (chances.Call choice) n → IsSound n.manager
        → Became E m given n l (remembering actor calls.Turn (done_or d choice n)).next (posted m (entry_of e calls.Turn (chances.Call choice) (done_or d choice n).reply (done_or d choice n).delta (done_or d choice n).received) (done_or d choice n).reply l)
    go None fit can sound = absurd can
    go (Some d) fit can sound = deed_happens m given n l e actor choice d a z sound fit can
