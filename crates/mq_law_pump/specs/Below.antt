-- A sender's session is the highest on its lane: its receiver knows none above it, and no BIND on the way bears one.
use Rattle.std.specs.Prelude.{◌≡◌, ◌≤◌, ℕ, true, List, [], ◌∷◌}
use Rattle.mq_frame.specs.declared.frame.Seen.{Seen}
use Rattle.mq_frame.specs.declared.frame.Seen.TheVariants as items
use Rattle.mq_receiver.specs.Table.{kind_is_bind}
use Rattle.mq_law_idle.specs.Roads.{Road}

abbrev pub BindsUpto : ℕ → List Seen → Type 0
BindsUpto session [] = Unit {0}
BindsUpto session (items.Frame f ∷ xs) = (kind_is_bind f.kind ≡ true → f.session ≤ session) × BindsUpto session xs
BindsUpto session (x ∷ xs) = BindsUpto session xs

pub record IsBelow (w : Road) : Type 0 where
  pub known : w.receiver.session ≤ w.sender.kept.session
  pub binds : BindsUpto w.sender.kept.session w.out
