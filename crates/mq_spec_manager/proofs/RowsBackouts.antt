-- BackoutCount of a message that a unit got and gives back: it stops at the field's largest value, and counts on from below 0.
use Rattle.std.specs.Prelude.{◌≡◌, ℕ, ℤ, pos, negsuc, true, List, [], ◌∷◌, None, map, codes, refl}
use Rattle.mq_sc_apply.specs.from_calls.Words.{Message, Plain, stored, apply, next, Row}
use Rattle.mq_sc_apply.specs.from_calls.TakeVariants as takes
use Rattle.mq_sc_apply.specs.from_calls.State.Change.{Place}
use Rattle.mq_spec_manager.specs.Get.{mqget}
use Rattle.mq_spec_manager.specs.Units.{mqback}
use Rattle.mq_spec_manager.proofs.Script.{london_with, local, connect, connection, handle, shared_output, open_at, persistent_md, whole_get}

abbrev q1 : List ℕ
q1 = codes "Q1"

-- a message that a channel brought, with the count that it came with
abbrev brought : ℤ → Message
brought count = record {
  ident = record { manager = 2; incarnation = 1; number = 1 };
  md = record persistent_md { backout_count = count };
  route = None;
  deadline = None;
  body = [];
}

abbrev ready : ℤ → Plain
ready count = open_at 1 q1 shared_output (connect (apply (Place q1 (brought count)) (london_with 268435456 (local q1 [] ∷ []))))

abbrev taken : Plain → Plain
taken p = next (mqget (connection 1) (handle 1) (whole_get takes.Next true) None p) p

abbrev given_back : Plain → Plain
given_back p = next (mqback (connection 1) p) p

abbrev counts : Plain → List ℤ
counts p = map (λ (row : Row). row.message.md.backout_count) (stored q1 p).rows

one_more : counts (given_back (taken (ready (pos 4)))) ≡ pos 5 ∷ []
one_more = refl

largest : counts (given_back (taken (ready (pos 2147483647)))) ≡ pos 2147483647 ∷ []
largest = refl

below_none : counts (given_back (taken (ready (negsuc 2)))) ≡ negsuc 1 ∷ []
below_none = refl
