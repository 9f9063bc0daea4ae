-- Objects that are set where none has their name, and commands that are refused.
use Rattle.std.proofs.Common.{◌≡◌, false, List, [], ◌∷◌, ◌++◌, refl, sym, ◌∙◌, arith}
use Rattle.std.specs.Prelude.{Result, Ok, Err, OnOk, OnErr}
use Rattle.std.specs.List.{list_any}
use Rattle.mq_calls.specs.declared.commands.ScRefusal.{ScRefusal}
use Rattle.mq_calls.specs.declared.commands.Shown.{Shown}
use Rattle.mq_calls.specs.declared.commands.ScRefusal.TheVariants as refusals
use Rattle.mq_objects.specs.declared.object.Definitions.{Definitions}
use Rattle.mq_sc_apply.specs.declared.answers.Plan.{Plan}
use Rattle.mq_sc_apply.specs.declared.answers.Plan.TheVariants as plans
use Rattle.mq_sc_apply.specs.Commands.{reply, after, Gives, GivesErr}
use Rattle.mq_net_books.specs.Openings.{is_memory, IsSettled}
use Rattle.mq_objects.specs.declared.object.Object.{Object}
use Rattle.mq_objects.specs.Names.{is_object, space_of, name_of}
use Rattle.mq_objects.specs.Changed.{set_in}

pub set_new : (x : Object) (xs : List Object) → list_any (is_object (space_of x) (name_of x)) xs ≡ false → set_in x xs ≡ xs ++ x ∷ []
set_new x [] e = refl
set_new x (y ∷ xs) e = grind (arith, set_new x xs)

-- a command that is refused changes nothing
no_ok : {T : Type 0} (r : ScRefusal) (t : T) → GivesErr {T = T} r (Ok t) → is_memory r ≡ false → ⊥
no_ok refusals.NoMemory t g e = cc
no_ok refusals.Down t g e = cc
no_ok refusals.Exists t g e = cc
no_ok refusals.Missing t g e = cc
no_ok (refusals.BadValue keyword) t g e = cc
no_ok refusals.InUse t g e = cc
no_ok refusals.NotEmpty t g e = cc
no_ok refusals.Disk t g e = cc
no_ok refusals.Cut t g e = cc

pub refused_stays : (a : Result Plan ScRefusal) (r : ScRefusal) (d : Definitions) → GivesErr r (reply a) → is_memory r ≡ false → after a d ≡ d
refused_stays (Err fault) r d g e = refl
refused_stays (Ok (plans.Show shown)) r d g e = refl
refused_stays (Ok (plans.Change planned)) r d g e = absurd (no_ok r _ g e)

pub settled_after : (a : Result Plan ScRefusal) (r : Result Shown ScRefusal) (old new : Definitions) → Gives r (reply a) → OnOk r (new ≡ after a old) → OnErr r (new ≡ old) → IsSettled r → new ≡ after a old
settled_after a (Ok shown) old new g changes stays s = changes
settled_after a (Err refusal) old new g changes stays s = stays ∙ sym (refused_stays a refusal old g s)
