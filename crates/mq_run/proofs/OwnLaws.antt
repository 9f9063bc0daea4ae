-- No restart of a run over disks that tell their bytes read a log that was changed from outside.
use Rattle.std.proofs.Common.{◌≡◌, sym, subst}
use Rattle.std.specs.Prelude.{IfSome, Option, Some, option_map}
use Rattle.mq_spec_node.specs.Replays.{NoneForeign}
use Rattle.mq_spec_network.specs.Lawful.{AreOwn}
use Rattle.mq_law_ran.specs.Promises.{RestartsAreOwn}
use Rattle.mq_world.specs.Starting.{IsFresh}
use Rattle.mq_world.specs.Words.{RestState}
use Rattle.mq_run.specs.Leaves.{left_of}

-- where nothing was done
none_own : (w : RestState) → IsFresh w → AreOwn w.histories
none_own w f m h e = subst NoneForeign (sym (f.undone m h e)) tt

pub begun_own : (tells : Type 0) (w : RestState) → IsFresh w → RestartsAreOwn tells (left_of w)
begun_own tells w f is = none_own w f

pub fresh_own : (tells : Type 0) (w v : RestState) → v ≡ w → IsFresh w → tells → AreOwn v.histories
fresh_own tells w v same f is = subst (λ (x : RestState). AreOwn x.histories) (sym same) (none_own w f)

-- as the code has them
pub ended_own : (tells : Type 0) (w : RestState) (net : Option RestState) → net ≡ Some w → (tells → AreOwn w.histories) → IfSome (option_map left_of net) (RestartsAreOwn tells)
ended_own tells w net e own = subst (λ (x : Option RestState). IfSome (option_map left_of x) (RestartsAreOwn tells)) (sym e) own
