-- Keywords that came before, one after the other.
use Rattle.std.proofs.Common.{◌≡◌, ℕ, suc, ◌+◌, ◌<◌, ◌≤◌, Bool, true, cond, List, [], ◌∷◌, ◌++◌, length, take, drop, get_or, sym, ap, ◌∙◌, add-one}
use Rattle.std.specs.Prelude.{Option, Some, None}
use Rattle.std.proofs.Math.Seq.{drop-cons}
use Rattle.std.proofs.Math.ListN.{drop_of_length-le}
use Rattle.mq_sc_lex.specs.declared.token.Span.{Span}
use Rattle.mq_sc_keys.specs.declared.verbs.Verb.{Verb}
use Rattle.mq_sc_keys.specs.declared.attributes.Kind.{Kind}
use Rattle.mq_sc_parse.specs.declared.splitting.Item.{Item}
use Rattle.mq_sc_parse.specs.Checks.{is_among, repeated_from}

pub item_at : (items : List Item) (at : ℕ) (i : Item) → at < length items → i ≡ get_or items at i → drop at items ≡ i ∷ drop (at + 1) items
item_at items at i lt e = rw (add-one, drop-cons items at i) (ap (λ (x : Item). x ∷ drop (suc at) items) (sym e))

pub repeated_here : (verb : Verb) (kind : Kind) (items : List Item) (at : ℕ) (i : Item) (total : Option Span) → at < length items → i ≡ get_or items at i → is_among verb kind i (take at items) ≡ true
    → repeated_from verb kind (take at items) (drop at items) ≡ total → Some i.span ≡ total
repeated_here verb kind items at i total lt e among h =
    let one : repeated_from verb kind (take at items) (drop at items) ≡ Some i.span = ap (repeated_from verb kind (take at items)) (item_at items at i lt e) ∙ ap (λ (b : Bool). cond b (Some i.span) (repeated_from verb kind (take at items ++ i ∷ []) (drop (at + 1) items))) among in
    sym one ∙ h

abbrev pub no_span : Option Span
no_span = None

pub none_repeated : (verb : Verb) (kind : Kind) (items : List Item) (at : ℕ) (total : Option Span) → length items ≤ at → repeated_from verb kind (take at items) (drop at items) ≡ total → no_span ≡ total
none_repeated verb kind items at total le h = sym (ap (repeated_from verb kind (take at items)) (drop_of_length-le items le)) ∙ h
