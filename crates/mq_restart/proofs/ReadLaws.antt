-- The bodies of a log in memory are bytes, so the image that they tell is one.
use Rattle.std.proofs.Common.{◌≡◌, ℕ, zero, suc, List, [], ◌∷◌, ◌++◌, length, ap, sym, arith}
use Rattle.std.specs.Prelude.{Result, Ok, Err}
use Rattle.std.specs.List.{AllByRecursion}
use Rattle.mq_frame.specs.Reading.{IsBytes}
use Rattle.mq_log.specs.Bodies.{number_bytes, frame, frames}
use Rattle.mq_calls.specs.State.{Given}
use Rattle.mq_calls.specs.declared.image.Image.{Image}
use Rattle.mq_calls.specs.Recovery.{IsImage}
use Rattle.mq_spec_log.specs.Applies.{Start}
use Rattle.mq_spec_log.specs.Bodies.{image}
use Rattle.mq_recover.specs.declared.recovery.RecoverFault.{RecoverFault}
use Rattle.mq_recover.specs.declared.recovery.RecoverFault.TheVariants.{BadRecord, NoMemory}
use Rattle.mq_recover.specs.Found.{Recovers}
use Rattle.mq_rebuild.specs.declared.building.Built.{Built}
use Rattle.mq_rebuild.specs.Rebuilt.{IsBuilt}
use Rattle.mq_law_image.proofs.Recovered.{recovered}
use Rattle.mq_restart.specs.Begun.{IsReadFrom, IsUnread}

-- the end of bytes is bytes
behind : (xs ys : List ℕ) → IsBytes (xs ++ ys) → IsBytes ys
behind [] ys h = h
behind (x ∷ xs) ys h = behind xs ys (λ i. h (suc i))

front : (xs ys : List ℕ) → IsBytes (xs ++ ys) → IsBytes xs
front [] ys h i = omega arith
front (x ∷ xs) ys h zero = h 0
front (x ∷ xs) ys h (suc i) = front xs ys (λ j. h (suc j)) i

framed : (body rest : List ℕ) → IsBytes (frame body ++ rest) → IsBytes body × IsBytes rest
framed body rest h = (behind (number_bytes (length body)) body (λ i. front (frame body) rest h (suc i)), behind (frame body) rest h)

pub bodies_are : (bodies : List (List ℕ)) → IsBytes (frames bodies) → AllByRecursion IsBytes bodies
bodies_are [] h = tt
bodies_are (body ∷ bodies) h = let k = framed body (frames bodies) h in (k.0, bodies_are bodies k.1)

-- what was read
of_image : (r : Result Image ℕ) (i : Image) → Recovers r (Ok i) → r ≡ Ok i
of_image (Ok meant) i h = ap (λ (j : Image). Ok j) (sym h)
of_image (Err at) i h = absurd h

pub is_image : (g : Given) (start : Start) (bodies : List (List ℕ)) (i : Image) → Recovers (image g start bodies) (Ok i) → AllByRecursion IsBytes bodies → IsImage i
is_image g start bodies i r h = (recovered g start bodies i (of_image (image g start bodies) i r) h).0

pub is_read : (g : Given) (start : Start) (bodies : List (List ℕ)) (i : Image) (b : Built) → Recovers (image g start bodies) (Ok i) → AllByRecursion IsBytes bodies → IsBuilt i b → IsReadFrom g start bodies b
is_read g start bodies i b r h built = record {
  told = i;
  read = of_image (image g start bodies) i r;
  well = is_image g start bodies i r h;
  known = (recovered g start bodies i (of_image (image g start bodies) i r) h).1;
  bytes = h;
  built = built;
}

pub is_unread : (g : Given) (start : Start) (bodies : List (List ℕ)) (fault : RecoverFault) → Recovers (image g start bodies) (Err fault) → IsUnread g start bodies fault
is_unread g start bodies (BadRecord place) r = by (image g start bodies) r
  where
    by : (m : Result Image ℕ) → Recovers m (Err (BadRecord place)) → m ≡ Err place
    by (Ok i) r = absurd r
    by (Err at) r = ap (λ (k : ℕ). Err k) (sym r)
is_unread g start bodies NoMemory r = tt
