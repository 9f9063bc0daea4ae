-- The rule in force for a dead letter.
use Rattle.std.proofs.Common.{◌≡◌, ℕ, refl, sym, ap, ◌∙◌, List, true, false}
use Rattle.std.specs.Prelude.{Option, Some, None, Result, Err, is_ok}
use Rattle.mq_message.specs.declared.head.HeadFault.{HeadFault}
use Rattle.mq_heads.specs.declared.headers.Dlh.{Dlh}
use Rattle.mq_heads.specs.Headers.{dlh_read}
use Rattle.mq_spec_manager.specs.Words.{is_dead}
use Rattle.mq_spec_node.specs.Terms.{Message, Table, decision}
use Rattle.mq_spec_node.specs.Words.{Tried, rule_in_force, head_of}
use Rattle.mq_handle.specs.Rulings.{from_of, ruling, ruling_in}

-- a body that is no dead letter's
pub not_dead : (body : List ℕ) (fault : HeadFault) → dlh_read body ≡ Err fault → is_dead body ≡ true → ⊥
not_dead body fault e d = differ (sym (ap (λ (r : Result Dlh HeadFault). is_ok r) e) ∙ d)
  where
    differ : false ≡ true → ⊥
    differ h = absurd cc

in_force : (t : Table) (m : Message) (tried : Option Tried) → rule_in_force t m tried ≡ decision t.rules m.md (head_of m) (from_of tried)
in_force t m None = refl
in_force t m (Some x) = refl

-- the ruling by the header that was read
pub ruled : (t : Table) (m : Message) (tried : Option Tried) (head : Dlh) (number : Option ℕ) → head ≡ head_of m → number ≡ decision t.rules m.md head (from_of tried) → ruling_in t m number ≡ ruling t m tried
ruled t m tried head number h e =
    ap (ruling_in t m) (e ∙ ap (λ (d : Dlh). decision t.rules m.md d (from_of tried)) h ∙ sym (in_force t m tried))
