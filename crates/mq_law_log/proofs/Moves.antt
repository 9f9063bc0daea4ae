-- A handler's move makes a crash harmless, in a sound manager.
use Rattle.std.proofs.Common.{ℕ, ◌≡◌, Bool, true, List, [], ◌∷◌, ◌++◌, refl, ap, sym, ◌∙◌, subst, length}
use Rattle.std.specs.Prelude.{Option, Some, None, Result, Ok, Err, find, not, ◌&&◌, if◌then◌else◌}
use Rattle.mq_codes.specs.declared.reason.Reason.{Reason}
use Rattle.mq_codes.specs.declared.reason.Reason.TheVariants as reasons
use Rattle.mq_message.specs.declared.message.Dest.{Dest}
use Rattle.mq_message.specs.declared.message.Ident.{Ident}
use Rattle.mq_message.specs.declared.message.Message.{Message}
use Rattle.mq_queue.specs.declared.row.Row.{Row}
use Rattle.mq_queue.specs.Rows.{has_ident}
use Rattle.mq_queue.specs.Queues.{Lacks}
use Rattle.mq_objects.specs.Names.{local_of}
use Rattle.mq_resolve.specs.declared.route.Route.{Route}
use Rattle.mq_resolve.specs.Resolved.{resolve}
use Rattle.mq_calls.specs.State.{Plain, Queue}
use Rattle.mq_calls.specs.State.Which.{Among}
use Rattle.mq_calls.specs.State.Change.{Leave}
use Rattle.mq_calls.specs.Reads.{stored, is_persistent}
use Rattle.mq_calls.specs.Changes.{apply, kept_in, selects}
use Rattle.mq_calls.specs.Steps.{when}
use Rattle.mq_calls.specs.Images.{lasting}
use Rattle.mq_spec_manager.specs.Handles.{is_unfit}
use Rattle.mq_spec_manager.specs.Put.{output_only, placing_tests}
use Rattle.mq_spec_manager.specs.Agents.{CanMove, Landing, landing, route_tests, bare_if, move_full, moved_record, moved_forced, is_unborn, move_part, move_resolved, move_found, move_row}
use Rattle.mq_law_manager.specs.View.{view}
use Rattle.mq_law_manager.specs.Facts.{Mem, IsSound, IsFit, IsUnlisted}
use Rattle.mq_law_manager.proofs.Apart.{IsNew}
use Rattle.mq_law_manager.proofs.QueueNames.{mapped_named}
use Rattle.mq_law_manager.proofs.Shelves.{has_mapped}
use Rattle.mq_law_manager.proofs.Handling.{find_mem, is_loose, left_new}
use Rattle.mq_law_manager.proofs.Receiving.{first_passes}
use Rattle.mq_law_manager.proofs.Resolving.{route_fits}
use Rattle.mq_law_manager.proofs.Stocks.{first, bare_kind, free_unlisted}
use Rattle.mq_law_log.specs.Keeps.{AreLaned, IsPlaceable, IsTakeable}
use Rattle.mq_law_log.specs.Restarts.{IsHarmless, IsGivenIn, StepHarmless}
use Rattle.mq_law_log.proofs.Ready.{row_takeable, free_lasts}
use Rattle.mq_law_log.proofs.Parts.{move_does}
use Rattle.mq_law_log.proofs.Placings.{all_found, all_mapped, laned_kept}
use Rattle.mq_law_log.proofs.Bridge.{each_queue, lacks_by, sound_logs, fit_fits, unlisted}
use Rattle.mq_law_log.proofs.Givens.{born_given}
use Rattle.mq_law_manager.proofs.Lists.{bool_case}
use Rattle.mq_law_log.proofs.Steady.{steady_harmless}
use Rattle.mq_law_log.proofs.Landings.{placed_steady}
use Rattle.mq_law_log.proofs.Applications.{tested_h, is_free_of}

-- a message that goes from its queue can be placed on another
placeable : (from : List ℕ) (r : Row) (l : Landing) (p : Plain) → IsSound p → Mem r ((view p).rows from) → r.by ≡ None → l.message.ident ≡ r.message.ident → is_persistent l.message ≡ is_persistent r.message → IsFit (local_of l.queue p.definitions) l.message
    → IsPlaceable l.queue l.message (apply (Leave (Among from (l.message.ident ∷ []))) p)
placeable from r l p h there free is kind fit =
    let q : Plain = apply (Leave (Among from (l.message.ident ∷ []))) p in
    let new : IsNew l.message.ident (view q).rows (view q).puts (view q).unborn = subst (λ (i : Ident). IsNew i (view (apply (Leave (Among from (i ∷ []))) p)).rows (view p).puts (view p).unborn) (sym is) (left_new p from r h.facts there) in
    record {
      there = has_mapped _ (λ x. refl) l.queue p.queues ∙ h.stocked.placed l.queue fit.0;
      laned = all_found (λ (x : Queue). AreLaned x.rows) l.queue q.queues tt (all_mapped (λ (x : Queue). AreLaned x.rows) (kept_in (Among from (l.message.ident ∷ []))) (λ x w. laned_kept (λ (row : Row). not (selects (Among from (l.message.ident ∷ [])) x.name row)) x.rows w) p.queues (sound_logs p h).laned);
      fit = λ e. fit_fits (local_of l.queue p.definitions) l.message fit;
      fresh = λ e. record {
        rows = each_queue (Lacks l.message.ident) q (mapped_named (kept_in (Among from (l.message.ident ∷ []))) (λ x. refl) p.queues h.named) (λ name. lacks_by l.message.ident ((view q).rows name) (λ y m z. new.no_row name y m (sym z)));
        lists = unlisted l.message.ident q (subst (λ (i : Ident). IsUnlisted i p.channels.senders) (sym is) (free_unlisted from r p h.stocked there free (sym kind ∙ e)));
      };
    }

takeable : (from : List ℕ) (r : Row) (l : Landing) (p : Plain) → IsSound p → Mem r ((view p).rows from) → r.by ≡ None → l.message.ident ≡ r.message.ident → is_persistent l.message ≡ is_persistent r.message → IsTakeable (is_persistent l.message) from l.message.ident (lasting p)
takeable from r l p h there free is kind = subst (λ (b : Bool). IsTakeable b from l.message.ident (lasting p)) (sym kind) (subst (λ (i : Ident). IsTakeable (is_persistent r.message) from i (lasting p)) (sym is)
    (row_takeable from r p (sound_logs p h).once there (free_lasts p.channels.batches r (is_free_of r free))))

part_h : (from : List ℕ) (to : Dest) (bare : Bool) (r : Row) (l : Landing) (p : Plain) → IsSound p → Mem r ((view p).rows from) → r.by ≡ None → l.message.ident ≡ r.message.ident → is_persistent l.message ≡ is_persistent r.message → IsFit (local_of l.queue p.definitions) l.message
    → IsHarmless (move_part from to bare l) p
part_h from to bare r l p h there free is kind fit =
    let place = placeable from r l p h there free is kind fit in
    steady_harmless (move_part from to bare l) p (sound_logs p h).laned (tt, placed_steady l.queue l.message (apply (Leave (Among from (l.message.ident ∷ []))) p) place.there)
    (move_does from to bare l p (takeable from r l p h there free is kind) place)

moved_given : (from : List ℕ) (l : Landing) (r : Row) (p : Plain) → IsSound p → Mem r ((view p).rows from) → l.message.ident ≡ r.message.ident → IsGivenIn (moved_forced from l) p
moved_given from l r p h there is = bool_case (is_persistent l.message) (λ b. IsGivenIn (if b then Some (moved_record from l) else None) p)
    (λ e. ap (λ (b : Bool). b && true) (born_given l.message.ident p (ap (λ (i : Ident). is_unborn i p) is ∙ h.facts.apart.given from r there))) (λ e. tt)

resolved_h : (from : List ℕ) (to : Dest) (bare : Bool) (o : Result Route Reason) (m : Message) (r : Row) (p : Plain) → resolve p.definitions p.given.name to.queue to.qmgr ≡ o → IsSound p → Mem r ((view p).rows from) → r.by ≡ None → m.ident ≡ r.message.ident → is_persistent m ≡ is_persistent r.message
    → StepHarmless (move_resolved from to bare o m p) p
resolved_h from to bare (Err reason) m r p e h there free is kind = tt
resolved_h from to bare (Ok route) m r p e h there free is kind = tested_h (route_tests route (length m.body) p ++ when (move_full from (landing route m) p) reasons.ResourceProblem ∷ []) _ p
    (λ z. (
      part_h from to bare r (landing route m) p h there free is kind
          (route_fits output_only route p to.queue to.qmgr e (first_passes (is_unfit output_only route.end p) reasons.OptionNotValidForType (placing_tests route (length m.body) p)
          (first (route_tests route (length m.body) p) (when (move_full from (landing route m) p) reasons.ResourceProblem ∷ []) z)) refl (landing route m).message refl),
      moved_given from (landing route m) r p h there is,
      tt,
    ))

pub move_harmless : (from : List ℕ) (ident : Ident) (to : Dest) (bare : Bool) (p : Plain) → CanMove from ident bare p → IsSound p → StepHarmless (move_row from ident to bare p) p
move_harmless from ident to bare p can h = at (find (has_ident ident) (stored from p).rows) refl
  where
    at : (o : Option Row) → find (has_ident ident) (stored from p).rows ≡ o → StepHarmless (move_found from to bare (elim o as (λ x. Option Message) [ None ↦ None | Some row ↦ Some row.message ]) p) p
    at None e = tt
    at (Some r) e =
        let k = find_mem ident ((view p).rows from) r e in
        let b = bare_kind bare r.message in
        resolved_h from to bare (resolve p.definitions p.given.name to.queue to.qmgr) (bare_if bare r.message) r p refl h k.0 (is_loose from ident p h.facts can.free r k.0 k.1) b.1 b.0
