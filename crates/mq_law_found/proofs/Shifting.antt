-- Moves by a rule of the dead-letter queue's handler, whose write was stopped and is found.
use Rattle.std.proofs.Common.{ℕ, ◌≡◌, Bool, true, List, [], ◌∷◌, refl, sym, subst, ◌∙◌}
use Rattle.std.specs.Prelude.{Some, None, Ok, if◌then◌else◌, is_some}
use Rattle.mq_message.specs.declared.message.Dest.{Dest}
use Rattle.mq_message.specs.declared.message.Ident.{Ident}
use Rattle.mq_queue.specs.declared.row.Row.{Row}
use Rattle.mq_objects.specs.Names.{local_of}
use Rattle.mq_resolve.specs.declared.route.Route.{Route}
use Rattle.mq_resolve.specs.Resolved.{resolve}
use Rattle.mq_calls.specs.declared.records.LogRecord.{LogRecord}
use Rattle.mq_history.specs.declared.calls.Call.TheVariants as calls
use Rattle.mq_calls.specs.State.{Plain, Noted}
use Rattle.mq_calls.specs.State.Change.{Leave}
use Rattle.mq_calls.specs.State.Which.{Among}
use Rattle.mq_calls.specs.Reads.{stored, is_persistent}
use Rattle.mq_calls.specs.Changes.{apply}
use Rattle.mq_calls.specs.Steps.{Part, do_part, volatile_gone, stands_in}
use Rattle.mq_spec_manager.specs.Put.{queue_at}
use Rattle.mq_spec_manager.specs.Stops.{redone}
use Rattle.mq_spec_manager.specs.Landing.{Landing, landing}
use Rattle.mq_spec_manager.specs.Moves.{bare_if, move_part, moved_forced, moved_record}
use Rattle.mq_spec_network.specs.Ledger as ledgers
use Rattle.mq_spec_network.specs.Ledger.{Ledger, at_moment, places_at, row_in}
use Rattle.mq_spec_network.specs.Story.{Mem}
use Rattle.mq_law_events.proofs.from_law_rows.Lists.{bool_case}
use Rattle.mq_law_manager.specs.Facts.{IsSound}
use Rattle.mq_law_manager.proofs.Resolving.{route_stands, end_there}
use Rattle.mq_law_manager.proofs.Stocks.{bare_kind}
use Rattle.mq_law_manager.proofs.Untouched.{part_given}
use Rattle.mq_law_log.proofs.Landings.{placed_steady}
use Rattle.mq_law_log.proofs.Placings.{has_mapped}
use Rattle.mq_law_events.specs.Tied.{Follow}
use Rattle.mq_law_events.proofs.Moving.{move_once_told, moved, bare_ident}
use Rattle.mq_law_found.specs.Finds.{since, PartNotes}
use Rattle.mq_law_events.proofs.Events.{from_log}
use Rattle.mq_law_found.proofs.Finding.{told_since, told_then, in_moment}
use Rattle.mq_law_found.proofs.Again.{steady_lasts, rises}
use Rattle.mq_law_found.proofs.Going.{lasting_row}

forced_persists : (from : List ℕ) (l : Landing) (r : LogRecord) → moved_forced from l ≡ Some r → is_persistent l.message ≡ true
forced_persists from l r = bool_case (is_persistent l.message) (λ t. (if t then Some (moved_record from l) else None) ≡ Some r → t ≡ true) (λ z e. refl) (λ z e. absurd cc)

pub move_noted : (m : ℕ) (moment : ℕ) (p : Plain) (from : List ℕ) (x : Row) (to : Dest) (bare : Bool) (route : Route) → IsSound p → Mem x (stored from p).rows → x.by ≡ None → resolve p.definitions p.given.name to.queue to.qmgr ≡ Ok route
    → IsSound (do_part (move_part from to bare (landing route (bare_if bare x.message))) p) → PartNotes m calls.Turn moment p (move_part from to bare (landing route (bare_if bare x.message)))
move_noted m moment p from x to bare route h n free is sound r e chance by_ ds forced =
    let l0 : Landing = landing route (bare_if bare x.message) in
    let part : Part = move_part from to bare l0 in
    let note_ : Noted = record { written = r; changes = part.changes; delta = part.delta } in
    let left : Mem x (stored from (volatile_gone p)).rows = lasting_row p from x n (sym (bare_kind bare x.message).0 ∙ forced_persists from l0 r forced) in
    let there : is_some (local_of (queue_at route.end) p.definitions) ≡ true = end_there route.end p.definitions (route_stands p to.queue to.qmgr route is).0 in
    let which = Among from (l0.message.ident ∷ []) in
    record {
      followed = λ given running now log l fresh told.
          let down : Plain = since (volatile_gone p) running now log in
          let down2 : Plain = since (volatile_gone p) running now (stands_in r log) in
          let at_move : Ledger = at_moment m moment l in
          let end : Ident → Ledger = λ i. ledgers.move_row m to bare (row_in i (places_at m at_move).queues) at_move in
          let inner : Follow m given down2 at_move (moved from bare route x down2) (end x.message.ident) =
          move_once_told m given down2 at_move from x to bare route fresh (told_then m moment down2 l (told_since m down running now (stands_in r log) l told)) left free is in
          in_moment m moment given down (redone note_ down) l (end l0.message.ident) told
          (from_log m given down (redone note_ down) (stands_in r log) at_move (end l0.message.ident) (subst (λ (i : Ident). Follow m given down2 at_move (moved from bare route x down2) (end i)) (sym (bare_ident bare x.message)) inner));
      sound = rises note_ p (do_part part p) sound (part_given part p) (λ running now log. steady_lasts part.changes p part.forced running now log h
          (tt, placed_steady l0.queue l0.message (apply (Leave which) p) (has_mapped l0.queue which p.queues ∙ h.stocked.placed l0.queue there)));
      quiet = refl;
    }
