-- Which script a trigger message begins.
use Rattle.std.proofs.Common.{◌≡◌, ℕ, suc, refl, sym, ap, ◌∙◌, List, [], ◌∷◌, length, Bool, true, false, cond, not, arith}
use Rattle.std.proofs.lemmas.Bool.Decides.{nat_tests}
use Rattle.std.specs.Prelude.{Option, Some, None, Result, Ok, Err, ◌==◌, ◌&&◌, ◌||◌, find, filter, is_ok, codes, if◌then◌else◌}
use Rattle.std.specs.Option.{option_map}
use Rattle.std.specs.List.{list_any}
use Rattle.std.specs.Str.{bytes_eq}
use Rattle.mq_message.specs.declared.head.HeadFault.{HeadFault}
use Rattle.mq_message.specs.Descriptor.{head_fault, unless}
use Rattle.mq_heads.specs.declared.headers.Tm.{Tm}
use Rattle.mq_heads.specs.Headers.{tm_in, tm_read}
use Rattle.mq_spec_node.specs.Terms.{Entry, Reply, trimmed}
use Rattle.mq_spec_node.specs.Words.{Script, appl_id, begins, got_body, is_script, is_trigger, lines_done, script_named, unless_begun}
use Rattle.mq_watch.specs.Turns.{is_line}

named_step : (label : List ℕ) (s : Script) (ss : List Script) (b : Bool) → option_map (λ (s : Script). s.number) (find (λ (s : Script). bytes_eq label s.part.label) ss) ≡ script_named label ss
    → option_map (λ (s : Script). s.number) (cond b (Some s) (find (λ (s : Script). bytes_eq label s.part.label) ss)) ≡ cond b (Some s.number) (script_named label ss)
named_step label s ss true rest = refl
named_step label s ss false rest = rest

pub named_is : (label : List ℕ) (ss : List Script) → option_map (λ (s : Script). s.number) (find (λ (s : Script). bytes_eq label s.part.label) ss) ≡ script_named label ss
named_is label [] = refl
named_is label (s ∷ ss) = named_step label s ss (bytes_eq label s.part.label) (named_is label ss)

-- no line of a script was done
some_done : (n : ℕ) → false ≡ (suc n == 0)
some_done n = grind (arith, nat_tests)

abbrev by_script : ℕ → List Entry → List Entry
by_script k es = filter (λ (e : Entry). is_script k e.actor) es

abbrev no_trigger : List Entry → List Entry
no_trigger es = filter (λ (e : Entry). not (is_trigger e.call)) es

done_step : (k : ℕ) (e : Entry) (es : List Entry) (t s : Bool) → is_script k e.actor ≡ s → not (list_any (is_line k) es) ≡ (length (by_script k (no_trigger es)) == 0)
    → not ((s && not t) || list_any (is_line k) es) ≡ (length (by_script k (cond (not t) (e ∷ no_trigger es) (no_trigger es))) == 0)
done_step k e es true true is rest = rest
done_step k e es true false is rest = rest
done_step k e es false true is rest = some_done (length (by_script k (no_trigger es))) ∙ ap (λ (b : Bool). length (cond b (e ∷ by_script k (no_trigger es)) (by_script k (no_trigger es))) == 0) (sym is)
done_step k e es false false is rest = rest ∙ ap (λ (b : Bool). length (cond b (e ∷ by_script k (no_trigger es)) (by_script k (no_trigger es))) == 0) (sym is)

pub none_done : (k : ℕ) (es : List Entry) → not (list_any (is_line k) es) ≡ (lines_done k es == 0)
none_done k [] = refl
none_done k (e ∷ es) =
    ap (λ (b : Bool). not ((b && not (is_trigger e.call)) || list_any (is_line k) es)) refl ∙ done_step k e es (is_trigger e.call) (is_script k e.actor) refl (none_done k es)

-- a body that is no trigger message, and one that is
pub no_message : (ss : List Script) (es : List Entry) (reply : Reply) (fault : HeadFault) → tm_read (got_body reply) ≡ Err fault → begins ss es reply ≡ None
no_message ss es reply fault e =
    ap (λ (r : Result Tm HeadFault). if is_ok r then unless_begun es (script_named (appl_id (got_body reply)) ss) else None) e

tm_is : (f : Option HeadFault) (body : List ℕ) (h : Tm) → unless f (tm_in body) ≡ Ok h → h ≡ tm_in body
tm_is None body h e = cc
tm_is (Some fault) body h e = absurd cc

read_is : (body : List ℕ) (h : Tm) → tm_read body ≡ Ok h → h ≡ tm_in body
unfolding tm_read
read_is body h e = tm_is (head_fault 684 (codes "TM  ") body) body h e

pub message_begins : (ss : List Script) (es : List Entry) (reply : Reply) (h : Tm) → tm_read (got_body reply) ≡ Ok h → begins ss es reply ≡ unless_begun es (script_named (trimmed h.appl_id) ss)
message_begins ss es reply h e =
    ap (λ (r : Result Tm HeadFault). if is_ok r then unless_begun es (script_named (appl_id (got_body reply)) ss) else None) e
    ∙ ap (λ (x : Tm). unless_begun es (script_named (trimmed x.appl_id) ss)) (sym (read_is (got_body reply) h e))
