-- The first bodies of a log, with what they told.
use Rattle.std.specs.Prelude.{◌≡◌, ◌++◌, ℕ, List, length, drop, true, Result, Ok, Err}
use Rattle.mq_log.specs.Bodies.{frames, AllFit}
use Rattle.mq_calls.specs.State.{Given}
use Rattle.mq_calls.specs.declared.image.Image.{Image}
use Rattle.mq_recover.specs.from_spec_log.Applies.Start.{Later}
use Rattle.mq_recover.specs.from_spec_log.Bodies.{image_from, empty_image, begins, image}
use Rattle.mq_recover.specs.declared.recovery.RecoverFault.{RecoverFault}
use Rattle.mq_recover.specs.Recovering.{seen}
use Rattle.mq_recover.specs.Found.{Told}
use Rattle.mq_told.specs.declared.front.Front.{Front}

-- these bytes are bodies
pub record AreBodies (framed : List ℕ) : Type 0 where
  pub bodies : List (List ℕ)
  pub fits : AllFit bodies
  pub framed_is : framed ≡ frames bodies

-- these bytes are bodies that tell this image, from the beginning of a log
pub record HasTold (g : Given) (framed : List ℕ) (i : Image) : Type 0 where
  pub bodies : List (List ℕ)
  pub fits : AllFit bodies
  pub framed_is : framed ≡ frames bodies
  pub told : image_from g Later 0 bodies empty_image ≡ Ok i

-- these bytes begin with bodies that have told this
pub record IsFront (g : Given) (framed : List ℕ) (front : Front) : Type 0 where
  pub told : HasTold g front.framed (seen front.recovering)
  pub is : framed ≡ front.framed ++ drop (length front.framed) framed

-- so these bodies end, where they tell no image
abbrev pub Fails : Given → List (List ℕ) → RecoverFault → Type 0
Fails g all fault = Told (image_from g Later 0 all empty_image) (Err fault)

-- what a reader of these bodies has in the end, with their bytes
abbrev pub TellsAll : Given → List (List ℕ) → Front → Type 0
TellsAll g all front = (image_from g Later 0 all empty_image ≡ Ok (seen front.recovering)) × (front.framed ≡ frames all)

abbrev pub Goes : {A : Type 0} → Given → List (List ℕ) → Front → Result A RecoverFault → Type 0
Goes g all front (Ok done) = TellsAll g all front
Goes g all front (Err fault) = Fails g all fault

-- these bodies tell no image, whatever else was given to the manager
abbrev pub Misses : ℕ → List ℕ → List (List ℕ) → RecoverFault → Type 0
Misses number name all fault = (g : Given) → g.number ≡ number → g.name ≡ name → Told (image g Later all) (Err fault)

-- these bodies begin with a start, or tell no image
abbrev pub Opens : {A : Type 0} → Given → List (List ℕ) → Result A RecoverFault → Type 0
Opens g all (Ok done) = begins all ≡ true
Opens g all (Err fault) = Told (image g Later all) (Err fault)

-- and what a reader of them has in the end, from a start on
pub record IsWhole (g : Given) (all : List (List ℕ)) (front : Front) : Type 0 where
  pub begun : begins all ≡ true
  pub told : TellsAll g all front
