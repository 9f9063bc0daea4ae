-- A receiver's commit.
use Rattle.std.proofs.Common.{ℕ, ◌≡◌, Bool, true, false, List, [], ◌∷◌, refl, ap, sym, ◌∙◌, subst}
use Rattle.std.specs.Prelude.{Result, Ok, Err, not, ◌++◌, ◌&&◌, ◌||◌, if◌then◌else◌}
use Rattle.std.specs.List.{AllByRecursion}
use Rattle.std.specs.Str.{bytes_eq}
use Rattle.mq_codes.specs.declared.reason.Reason.{Reason}
use Rattle.mq_message.specs.declared.message.Ident.{Ident}
use Rattle.mq_queue.specs.declared.row.Row.{Row}
use Rattle.mq_queue.specs.Rows.{has_ident, keep}
use Rattle.mq_queue.specs.Queues.{Lacks}
use Rattle.mq_spec_manager.specs.Put.{placed}
use Rattle.mq_calls.specs.State.Which.{Among}
use Rattle.mq_message.specs.declared.message.Message.{Message}
use Rattle.mq_sync.specs.declared.unit.Unit.{Unit as Luw}
use Rattle.mq_sync.specs.declared.data.ReceiverData.{ReceiverData}
use Rattle.mq_calls.specs.declared.records.Add.{Add}
use Rattle.mq_calls.specs.State.{Plain, Queue}
use Rattle.mq_calls.specs.declared.state.SenderSide.{SenderSide}
use Rattle.mq_calls.specs.declared.state.ReceiverSide.{ReceiverSide}
use Rattle.mq_calls.specs.State.Change.{Place as Places, Leave, SetReceiver, Undoubt}
use Rattle.mq_calls.specs.Reads.{is_persistent, receiver_data, receiver_in}
use Rattle.mq_calls.specs.Changes.{apply, apply_all, kept_in, selects}
use Rattle.mq_spec_manager.specs.Agents.{Landing, Landed, Standing, Absent, InDoubtAt, standing_at, is_present, land, landed, landed_by, landed_unless, before, land_changes, drop_changes, undoubted}
use Rattle.mq_sync.specs.Settlement.{receiver_or}
use Rattle.mq_calls.specs.Changes.{off_lists}
use Rattle.mq_calls.specs.Images.{lasting}
use Rattle.mq_calls.specs.declared.image.Shelf.{Shelf}
use Rattle.mq_calls.specs.declared.image.Image.{Image}
use Rattle.mq_spec_log.specs.Shelves.{added, added_all, with_receiver, shelved, cleared, on_all, less_rows, without_ident}
use Rattle.mq_spec_log.specs.Applies.{can_add_all, can_receive, stands_on}
use Rattle.mq_law_log.specs.Keeps.{IsPlaceable, IsLandable, LandTold, AllLand, AreLaned, CameBack, Does, received_part}
use Rattle.mq_law_log.proofs.Rows.{bool_case}
use Rattle.mq_law_log.proofs.Changes.{left_lasts, placed_lasts, placed_is_there, tried_lasts}
use Rattle.mq_law_log.proofs.Shelves.{off_all, none_off}
use Rattle.mq_law_log.proofs.Placings.{all_found, all_mapped, laned_kept}
use Rattle.mq_law_log.proofs.Parts.{placing_told, placing_aside, applied_append}

-- one that stands nowhere; its ident leaves the lists of units in doubt, where it lasts
abbrev unlisted : Ident → Plain → Plain
unlisted ident p = apply (Undoubt ident) p

landable : (queue : List ℕ) (m : Message) (p : Plain) → IsLandable queue m p → IsPlaceable queue m (unlisted m.ident p)
landable queue m p h = record {
  there = h.there;
  laned = h.laned;
  fit = h.fit;
  fresh = λ e. record { rows = h.rows e; lists = off_all m.ident p.channels.senders };
}

brief : (queue : List ℕ) (m : Message) (p : Plain) → IsLandable queue m p → is_persistent m ≡ false → IsPlaceable queue m p
brief queue m p h e = record { there = h.there; laned = h.laned; fit = h.fit; fresh = λ y. absurd (cc (e, y)) }

lasting_lands : (l : Landing) (p : Plain) → IsLandable l.queue l.message p → is_persistent l.message ≡ true → LandTold true l Absent p
lasting_lands l p h e =
    let told = placing_told l.queue l.message (unlisted l.message.ident p) (landable l.queue l.message p h) e in (
      told.0,
      ap (λ (b : Bool). lasting (apply_all (undoubted b l.message.ident ++ placed l.queue l.message) p)) e
          ∙ told.1
          ∙ ap (λ (ss : List SenderSide). shelved l.queue l.message (record (cleared l.message.ident (lasting p)) { senders = ss })) (none_off l.message.ident (off_lists l.message.ident p.channels.senders) (off_all l.message.ident p.channels.senders)),
    )

brief_lands : (l : Landing) (p : Plain) → IsLandable l.queue l.message p → is_persistent l.message ≡ false → LandTold false l Absent p
brief_lands l p h e = ap (λ (b : Bool). lasting (apply_all (undoubted b l.message.ident ++ placed l.queue l.message) p)) e ∙ placing_aside l.queue l.message p (brief l.queue l.message p h e) e

pub absent_lands : (l : Landing) (p : Plain) → IsLandable l.queue l.message p → LandTold (is_persistent l.message) l Absent p
absent_lands l p h = bool_case (is_persistent l.message) (λ b. is_persistent l.message ≡ b → LandTold b l Absent p) (λ y e. lasting_lands l p h e) (λ y e. brief_lands l p h e) refl

abbrev LandedTold : Result Landed Reason → Plain → Type 0
LandedTold (Err reason) p = Unit {0}
LandedTold (Ok r) p = (can_add_all r.adds (lasting p) ≡ true) × (lasting (apply_all r.changes p) ≡ added_all r.adds (lasting p))

joined : (m : Message) (l : Landing) (s : Standing) (p : Plain) (rest : Result Landed Reason) → LandTold (is_persistent l.message) l s p → LandedTold rest (apply_all (land_changes l s) p) → LandedTold (before m l s rest) p
joined m l s p (Err reason) step h = tt
joined m l s p (Ok r) step h =
    let a : Add = record { queue = l.queue; message = l.message } in
    bool_case (is_persistent l.message)
    (λ b. LandTold b l s p → (can_add_all ((if b then a ∷ [] else []) ++ r.adds) (lasting p) ≡ true) × (lasting (apply_all (land_changes l s ++ r.changes) p) ≡ added_all ((if b then a ∷ [] else []) ++ r.adds) (lasting p)))
    (λ e w. (
      ap (λ (b : Bool). b && can_add_all r.adds (added a (lasting p))) w.0 ∙ subst (λ (i : Image). can_add_all r.adds i ≡ true) w.1 h.0,
      ap lasting (applied_append (land_changes l s) r.changes p) ∙ h.1 ∙ ap (added_all r.adds) w.1,
    ))
    (λ e w. (subst (λ (i : Image). can_add_all r.adds i ≡ true) w h.0, ap lasting (applied_append (land_changes l s) r.changes p) ∙ h.1 ∙ ap (added_all r.adds) w))
    step

by_landing : (channel : List ℕ) (m : Message) (ms : List Message) (s : Standing) (p : Plain) (x : Result Landing Reason) → ((l : Landing) → x ≡ Ok l → LandTold (is_persistent l.message) l s p)
    → ((l : Landing) → x ≡ Ok l → LandedTold (landed channel ms (apply_all (land_changes l s) p)) (apply_all (land_changes l s) p))
    → LandedTold (landed_by x m s p (λ q. landed channel ms q)) p
by_landing channel m ms s p (Err reason) f g = tt
by_landing channel m ms s p (Ok l) f g = joined m l s p (landed channel ms (apply_all (land_changes l s) p)) (f l refl) (g l refl)

by_standing : (channel : List ℕ) (m : Message) (ms : List Message) (p : Plain) (b : Bool) → is_present (standing_at m p) ≡ b → AllLand channel (m ∷ ms) p
    → ((q : Plain) → AllLand channel ms q → LandedTold (landed channel ms q) q)
    → LandedTold (landed_unless b channel m (standing_at m p) p (λ q. landed channel ms q)) p
by_standing channel m ms p true e h rest = rest p (h.1 e)
by_standing channel m ms p false e h rest = by_landing channel m ms (standing_at m p) p (land channel m p) (λ l w. (h.0 l e w).0) (λ l w. rest (apply_all (land_changes l (standing_at m p)) p) (h.0 l e w).1)

landed_told : (channel : List ℕ) (ms : List Message) (p : Plain) → AllLand channel ms p → LandedTold (landed channel ms p) p
landed_told channel [] p h = (refl, refl)
landed_told channel (m ∷ ms) p h = by_standing channel m ms p (is_present (standing_at m p)) refl h (λ q w. landed_told channel ms q w)

same_receivers : (as_ : List Add) (i : Image) → (added_all as_ i).receivers ≡ i.receivers
same_receivers [] i = refl
same_receivers (a ∷ as_) i = same_receivers as_ (added a i)

pub received_does : (channel : List ℕ) (unit : Luw) (last : ℕ) (ms : List Message) (l : Landed) (p : Plain) → landed channel ms p ≡ Ok l → AllLand channel ms p
    → can_receive unit (receiver_or (receiver_data channel p)) ≡ true → Does (received_part channel unit last l p) p
received_does channel unit last ms l p e h can =
    let told : LandedTold (Ok l) p = subst (λ (x : Result Landed Reason). LandedTold x p) e (landed_told channel ms p h) in
    let d : List ReceiverSide → ReceiverData = λ rs. record (receiver_or (receiver_in channel rs)) { unit = unit; last = last } in (
      ap (λ (b : Bool). b && can_add_all l.adds (lasting p)) can ∙ told.0,
      ap lasting (applied_append l.changes (SetReceiver channel (d p.channels.receivers) ∷ []) p)
          ∙ ap (λ (i : Image). with_receiver channel (d p.channels.receivers) i) told.1
          ∙ ap (λ (rs : List ReceiverSide). with_receiver channel (d rs) (added_all l.adds (lasting p))) (sym (same_receivers l.adds (lasting p))),
    )

-- A message that came back: the row that the unit in doubt held goes, and the ident leaves its list.
same_rows : (name queue : List ℕ) (ident : Ident) (rows : List Row) → (bytes_eq name queue ≡ false → Lacks ident rows) → keep (λ (row : Row). not (selects (Among queue (ident ∷ [])) name row)) rows ≡ keep (λ (row : Row). not (has_ident ident row)) rows
same_rows name queue ident rows h = bool_case (bytes_eq name queue)
    (λ b. bytes_eq name queue ≡ b → keep (λ (row : Row). not (b && (has_ident ident row || false))) rows ≡ keep (λ (row : Row). not (has_ident ident row)) rows)
    (λ y e. here rows) (λ y e. there rows (h e)) refl
  where
    step : (b : Bool) → (b || false) ≡ b
    step true = refl
    step false = refl

    here : (rows : List Row) → keep (λ (row : Row). not (has_ident ident row || false)) rows ≡ keep (λ (row : Row). not (has_ident ident row)) rows
    here [] = refl
    here (row ∷ rows) = ap (λ (b : Bool). if not b then row ∷ keep (λ (x : Row). not (has_ident ident x || false)) rows else keep (λ (x : Row). not (has_ident ident x || false)) rows) (step (has_ident ident row))
        ∙ ap (λ (x : List Row). if not (has_ident ident row) then row ∷ x else x) (here rows)

    there : (rows : List Row) → Lacks ident rows → keep (λ (row : Row). not (false && (has_ident ident row || false))) rows ≡ keep (λ (row : Row). not (has_ident ident row)) rows
    there [] h = refl
    there (row ∷ rows) h = ap (λ (x : List Row). row ∷ x) (there rows h.1)
        ∙ sym (ap (λ (b : Bool). if not b then row ∷ keep (λ (x : Row). not (has_ident ident x)) rows else keep (λ (x : Row). not (has_ident ident x)) rows) h.0)

same_shelves : (queue : List ℕ) (ident : Ident) (ss : List Shelf) → AllByRecursion (λ (s : Shelf). bytes_eq s.name queue ≡ false → Lacks ident s.rows) ss → on_all (less_rows (Among queue (ident ∷ []))) ss ≡ on_all (without_ident ident) ss
same_shelves queue ident [] h = refl
same_shelves queue ident (s ∷ ss) h = ap (λ (x : List Row). record s { rows = x } ∷ on_all (less_rows (Among queue (ident ∷ []))) ss) (same_rows s.name queue ident s.rows h.0)
    ∙ ap (λ (x : List Shelf). without_ident ident s ∷ x) (same_shelves queue ident ss h.1)

-- the state behind the drop
abbrev dropped : List ℕ → Ident → Plain → Plain
dropped queue ident p = apply (Undoubt ident) (apply (Leave (Among queue (ident ∷ []))) p)

drop_told : (queue : List ℕ) (l : Landing) (p : Plain) → CameBack queue l p → lasting (dropped queue l.message.ident p) ≡ cleared l.message.ident (lasting p)
drop_told queue l p h = ap (λ (i : Image). record i { senders = off_lists l.message.ident p.channels.senders }) (left_lasts queue (l.message.ident ∷ []) p)
    ∙ (λ i. record (lasting p) { shelves = same_shelves queue l.message.ident (lasting p).shelves h.elsewhere i; senders = off_lists l.message.ident p.channels.senders })

pub back_lands : (queue : List ℕ) (l : Landing) (p : Plain) → is_persistent l.message ≡ true → CameBack queue l p → LandTold true l (InDoubtAt queue) p
back_lands queue l p e h =
    let s : Plain = dropped queue l.message.ident p in (
      ap (λ (b : Bool). b && not (stands_on l.message.ident (lasting p).shelves)) h.fit ∙ ap (λ (b : Bool). not b) h.held,
      ap lasting (applied_append (drop_changes l.message (InDoubtAt queue)) (placed l.queue l.message) p)
          ∙ ap (λ (b : Bool). lasting (apply_all (placed l.queue l.message) (apply_all (undoubted b l.message.ident) (apply (Leave (Among queue (l.message.ident ∷ []))) p)))) e
          ∙ tried_lasts l.queue l.message.md.priority (apply (Places l.queue l.message) s) (placed_is_there l.queue l.message s)
          ∙ placed_lasts l.queue l.message s (all_found (λ (q : Queue). AreLaned q.rows) l.queue s.queues tt
          (all_mapped (λ (q : Queue). AreLaned q.rows) (kept_in (Among queue (l.message.ident ∷ []))) (λ q w. laned_kept (λ (row : Row). not (selects (Among queue (l.message.ident ∷ [])) q.name row)) q.rows w) p.queues h.laned)) e
          ∙ ap (λ (i : Image). shelved l.queue l.message i) (drop_told queue l p h),
    )
