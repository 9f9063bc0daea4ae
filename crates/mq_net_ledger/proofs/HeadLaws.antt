-- A body that is read as a dead letter's has the 172 bytes of its header, and is read as they say.
use Rattle.std.proofs.Common.{ℕ, ◌≡◌, ◌≤◌, Bool, true, false, List, length, arith, refl}
use Rattle.std.specs.Prelude.{Option, Some, None, Ok, nat_lt, codes}
use Rattle.std.proofs.lemmas.Bool.Decides.{nat_tests}
use Rattle.mq_message.specs.declared.head.HeadFault.{HeadFault}
use Rattle.mq_message.specs.Descriptor.{id_fault, or_short, unless}
use Rattle.mq_heads.specs.Headers.{dlh_read, dlh_in}
use Rattle.mq_heads.specs.declared.headers.Dlh.{Dlh}

pub head_long : (body : List ℕ) (h : Dlh) → dlh_read body ≡ Ok h → 172 ≤ length body
unfolding dlh_read
head_long body h e = by (nat_lt (length body) 172) (id_fault (codes "DLH ") 0 body) refl e
  where
    by : (b : Bool) (f : Option HeadFault) → nat_lt (length body) 172 ≡ b → unless (or_short b f) (dlh_in body) ≡ Ok h → 172 ≤ length body
    by true f t e = absurd cc
    by false f t e = grind (arith, nat_tests, t)

pub head_is : (body : List ℕ) (h : Dlh) → dlh_read body ≡ Ok h → h ≡ dlh_in body
unfolding dlh_read
head_is body h e = by (nat_lt (length body) 172) (id_fault (codes "DLH ") 0 body) e
  where
    by : (b : Bool) (f : Option HeadFault) → unless (or_short b f) (dlh_in body) ≡ Ok h → h ≡ dlh_in body
    by true f e = absurd cc
    by false None e = cc
    by false (Some f) e = absurd cc
