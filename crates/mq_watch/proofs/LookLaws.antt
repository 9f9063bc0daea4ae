-- The row that a monitor's get finds is the first that is free and has not expired.
use Rattle.std.proofs.Common.{◌≡◌, refl, sym, ap, ◌∙◌, List, [], ◌∷◌, Bool, true, false, cond}
use Rattle.std.specs.Prelude.{Some, find, not, ◌&&◌}
use Rattle.mq_queue.specs.declared.row.Row.{Row}
use Rattle.mq_queue.specs.Rows.{is_free}
use Rattle.mq_calls.specs.Words.{Plain, is_expired, stored}
use Rattle.mq_calls.specs.declared.state.Handle.{Handle}
use Rattle.mq_spec_manager.specs.Words.{Scan, queue_at, scan, scan_row, scanned}
use Rattle.mq_spec_node.specs.Words.{monitor_get}
use Rattle.mq_watch.specs.Looks.{is_fresh, row_fits, queue_fits, handle_fits}

scan_step : (p : Plain) (row : Row) (rows : List Row) (free past : Bool) (rest : Scan) → rest.found ≡ find (is_fresh p.moment) rows
    → (scan_row free past row rest).found ≡ cond (free && not past) (Some row) (find (is_fresh p.moment) rows)
scan_step p row rows false past rest e = e
scan_step p row rows true true rest e = e
scan_step p row rows true false rest e = refl

and_true : (b : Bool) → (b && true) ≡ b
and_true true = refl
and_true false = refl

scan_found : (p : Plain) (rows : List Row) → (scan monitor_get.want p rows).found ≡ find (is_fresh p.moment) rows
scan_found p [] = refl
scan_found p (row ∷ rows) =
    ap (λ (b : Bool). (scan_row b (is_expired p row) row (scan monitor_get.want p rows)).found) (and_true (is_free row)) ∙ scan_step p row rows (is_free row) (is_expired p row) (scan monitor_get.want p rows) (scan_found p rows)

pub found_is : (h : Handle) (p : Plain) → (scanned monitor_get h p).found ≡ find (is_fresh p.moment) (stored (queue_at h.leads) p).rows
found_is h p = scan_found p (stored (queue_at h.leads) p).rows

pub found_fits : (h : Handle) (p : Plain) → queue_fits (queue_at h.leads) p ≡ handle_fits p h
found_fits h p = ap row_fits (sym (found_is h p))
