-- Going through bodies.
use Rattle.std.specs.Prelude.{◌≡◌, ℕ, List, [], ◌∷◌, Option, Some, None}
use Rattle.mq_log.specs.declared.bodies.Split.{Split}
use Rattle.mq_log.specs.Bodies.{frames}

-- the first body and the others, none at the end
abbrev pub Walks : List (List ℕ) → Option Split → Type 0
Walks [] result = result ≡ None
Walks (body ∷ bodies) None = ⊥
Walks (body ∷ bodies) (Some split) = (split.body.now ≡ body) × (split.rest.framed.now ≡ frames bodies)
