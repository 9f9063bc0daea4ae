-- How a restart ends, with what the history of its node keeps of it.
use Rattle.std.specs.Prelude.{◌≡◌, ℕ, []}
use Rattle.mq_calls.specs.declared.choices.Return.TheVariants.{Comes}
use Rattle.mq_spec_node.specs.from_history.ChanceVariants as chances
use Rattle.mq_calls.specs.State.{Plain}
use Rattle.mq_calls.specs.declared.image.Image.{Image}
use Rattle.mq_restart.specs.from_core.Values.{CoreValue}
use Rattle.mq_restart.specs.Returned.{Ends, IsOfImage}
use Rattle.mq_spec_node.specs.Words.{IsReturn, resumed}
use Rattle.mq_restarts.specs.declared.restarting.Back.{Back}
use Rattle.mq_restarts.specs.declared.restarting.Back.TheVariants.{Own, Foreign}

-- From a log that its history doesn't allow: what it took is in no way one of those that it does.
pub record IsBackFrom (tells : Type 0) (image : Image) (length left : ℕ) (p : Plain) (new : CoreValue) : Type 0 where
  pub untold : tells → ⊥
  pub can : IsReturn (chances.Foreign image length left) p.running p
  pub plain : new.plain ≡ resumed image length left p
  pub delta : new.delta ≡ []

abbrev pub IsBackAs : Type 0 → Back → Plain → CoreValue → Type 0
IsBackAs tells (Own kept started) p new = Ends tells (Comes kept started) p new
IsBackAs tells (Foreign image length left) p new = IsBackFrom tells image length left p new

pub record IsBack (tells : Type 0) (p : Plain) (b : Back) (new : CoreValue) : Type 0 where
  pub ends : IsBackAs tells b p new
  pub image : IsOfImage new.plain
