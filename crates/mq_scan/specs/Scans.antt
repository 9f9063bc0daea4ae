-- What a scan of a get finds, from a cursor on.
use Rattle.std.specs.Prelude.{ℕ, ◌&&◌, List, [], ◌∷◌, Option, None}
use Rattle.mq_calls.specs.Words.{Place, Want, Row, Plain, is_free, is_wanted, is_past, is_persistent}
use Rattle.mq_calls.specs.declared.answers.Get.{Get}
use Rattle.mq_calls.specs.declared.answers.Take.{Take}
use Rattle.mq_calls.specs.declared.answers.Take.TheVariants as takes
use Rattle.mq_spec_manager.specs.Get.{Scan, scan, scan_row, asked, looked_at}
use Rattle.mq_scan.specs.declared.scanning.Met.{Met}

-- the scan of a get over the rows of its queue
abbrev pub scan_of : Get → Option Place → Plain → List Row → Scan
scan_of get cursor p rows = scan (asked get) p (looked_at get.take cursor rows)

-- the place behind which a scan begins; none for the front
abbrev pub start_of : Take → Option Place → Option Place
start_of takes.Next cursor = None
start_of takes.BrowseFirst cursor = None
start_of takes.BrowseNext cursor = cursor
start_of takes.UnderCursor cursor = cursor
start_of takes.BrowseUnder cursor = cursor

-- what is kept of an expired row
abbrev pub met_of : Row → Met
met_of row = record { ident = row.message.ident; persistent = is_persistent row.message }

-- the scan at a moment, of which alone it depends
abbrev pub scanned_at : Want → ℕ → List Row → Scan
scanned_at want moment [] = record { expired = []; found = None }
scanned_at want moment (row ∷ rows) = scan_row (is_free row && is_wanted want row) (is_past moment row.message.deadline) row (scanned_at want moment rows)
