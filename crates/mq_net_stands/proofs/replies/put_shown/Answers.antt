use Rattle.std.proofs.Common.{◌≡◌, ℕ, ◌≤◌, ◌++◌, ◌∙◌, List, length, take, ap, sym, arith, map, min, Bool, true, false, ltb, refl}
use Rattle.std.proofs.lemmas.List.{take_all}
use Rattle.std.proofs.lemmas.Bool.Decides.{nat_tests}
use Rattle.mq_net_stands.specs.Replies.{shown_byte}
use Rattle.mq_net_stands.proofs.replies.put_shown.Goals as goal

take_min : (bytes : List ℕ) → take (min (length bytes) 32) bytes ≡ take 32 bytes
take_min bytes = by_cases (ltb (length bytes) 32) refl where
  by_cases : (t : Bool) → ltb (length bytes) 32 ≡ t → take (min (length bytes) 32) bytes ≡ take 32 bytes
  by_cases true e =
      let le : length bytes ≤ 32 = grind (arith, nat_tests) in
      let m : min (length bytes) 32 ≡ length bytes = omega arith in
      rw m (take_all (length bytes) bytes (omega arith) ∙ sym (take_all 32 bytes le))
  by_cases false e =
      let le : 32 ≤ length bytes = grind (arith, nat_tests) in
      let m : min (length bytes) 32 ≡ 32 = omega arith in
      ap (λ (n : ℕ). take n bytes) m

pub returns : goal.returns
returns c =
    let front : take c.showing.b-index c.split_at.result.0.now ≡ take 32 c.args.body.now = take_all c.showing.b-index c.split_at.result.0.now c.showing-test.false ∙ c.split_at.ensures.front ∙ ap (λ (n : ℕ). take n c.args.body.now) c.min.ensures ∙ take_min c.args.body.now in
    c.showing.invariant ∙ ap (λ (x : List ℕ). c.args.out.now ++ map shown_byte x) front
