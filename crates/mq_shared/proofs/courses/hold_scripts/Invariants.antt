use Rattle.std.proofs.Common.{◌≡◌, ◌≤◌, ◌+◌, ◌++◌, ℕ, false, length, map, drop}
use Rattle.std.specs.Prelude.{Some, slice_get}
use Rattle.mq_history.specs.declared.scenario.ScriptPart.{ScriptPart}
use Rattle.mq_split.specs.Ends.{EachIs}
use Rattle.mq_shared.specs.Held.{IsScriptIn, entries_begun, script_name}
use Rattle.mq_shared.specs.Sharing.{is_here, named, named_from}
use Rattle.mq_shared.proofs.courses.hold_scripts.Given as goal

abbrev pub invariant-loop-at : goal.invariant-loop-at
invariant-loop-at g l = record {
  named : map script_name l.row.scripts ++ named_from l.scripts l.manager l.at (drop l.at l.scenario.scripts) ≡ named l.scenario l.scripts l.manager;
  each : EachIs (IsScriptIn g.b l.manager (entries_begun g.b l.manager)) l.row.scripts;
  room : length l.scenario.scripts ≤ l.row.room + l.at;
  long : length l.courses ≡ length l.fn.courses;
  ahead : (k : ℕ) → l.at ≤ k → slice_get l.courses k ≡ slice_get l.fn.courses k;
  others : (k : ℕ) (p : ScriptPart) → slice_get l.scenario.scripts k ≡ Some p → is_here l.scripts l.manager k p ≡ false → slice_get l.courses k ≡ slice_get l.fn.courses k;
}
