-- Attributes written one after another are their texts one after another.
use Rattle.std.proofs.Common.{◌≡◌, ℕ, Bool, true, false, List, [], ◌∷◌, ◌++◌, sym, ap, ◌∙◌, append_assoc}
use Rattle.std.specs.Prelude.{flat_map, filter, if◌then◌else◌}
use Rattle.std.proofs.lemmas.List.{append-nil}
use Rattle.mq_objects.specs.declared.object.KeptAttribute.{KeptAttribute}
use Rattle.mq_objects.specs.declared.setting.Keyword.{Keyword}
use Rattle.mq_objects.specs.declared.text.Style.{Style}
use Rattle.mq_objects.specs.declared.text.Style.TheVariants.{Command}
use Rattle.mq_objects.specs.Attributes.{Attribute, command_attribute, kept_attribute}
use Rattle.mq_objects.specs.Written.{is_asked, styled, put_all, put_kept}

pub put_all-command : (text : List ℕ) (as_ : List Attribute) → put_all Command [] text as_ ≡ text ++ flat_map (λ (a : Attribute). command_attribute a.word a.value) as_
put_all-command text [] = sym (append-nil text)
put_all-command text (a ∷ as_) = put_all-command (text ++ command_attribute a.word a.value) as_ ∙ append_assoc text (command_attribute a.word a.value) (flat_map (λ (b : Attribute). command_attribute b.word b.value) as_)

pub put_kept-all : (text : List ℕ) (ks : List KeptAttribute) → put_kept text ks ≡ text ++ flat_map kept_attribute ks
put_kept-all text [] = sym (append-nil text)
put_kept-all text (k ∷ ks) = put_kept-all (text ++ kept_attribute k) ks ∙ append_assoc text (kept_attribute k) (flat_map kept_attribute ks)

pub put_object : (text : List ℕ) (as_ : List Attribute) (ks : List KeptAttribute) → put_kept (put_all Command [] text as_) ks ≡ text ++ flat_map (λ (a : Attribute). command_attribute a.word a.value) as_ ++ flat_map kept_attribute ks
put_object text as_ ks = put_kept-all (put_all Command [] text as_) ks ∙ ap (λ (t : List ℕ). t ++ flat_map kept_attribute ks) (put_all-command text as_)

-- in any style, with the attributes that are asked
pub put_all-styled : (style : Style) (asked : List Keyword) (text : List ℕ) (as_ : List Attribute)
    → put_all style asked text as_ ≡ text ++ flat_map (λ (a : Attribute). styled style a.word a.value) (filter (λ (a : Attribute). is_asked asked a.keyword) as_)
put_all-styled style asked text [] = sym (append-nil text)
put_all-styled style asked text (a ∷ as_) = by (is_asked asked a.keyword) (put_all-styled style asked (text ++ styled style a.word a.value) as_) (put_all-styled style asked text as_)
  where
    by : (b : Bool)
        → put_all style asked (text ++ styled style a.word a.value) as_ ≡ (text ++ styled style a.word a.value) ++ flat_map (λ (b : Attribute). styled style b.word b.value) (filter (λ (b : Attribute). is_asked asked b.keyword) as_)
        → put_all style asked text as_ ≡ text ++ flat_map (λ (b : Attribute). styled style b.word b.value) (filter (λ (b : Attribute). is_asked asked b.keyword) as_)
        → put_all style asked (if b then text ++ styled style a.word a.value else text) as_
        ≡ text ++ flat_map (λ (b : Attribute). styled style b.word b.value) (if b then a ∷ filter (λ (b : Attribute). is_asked asked b.keyword) as_ else filter (λ (b : Attribute). is_asked asked b.keyword) as_)
    by true one two = one ∙ append_assoc text (styled style a.word a.value) (flat_map (λ (b : Attribute). styled style b.word b.value) (filter (λ (b : Attribute). is_asked asked b.keyword) as_))
    by false one two = two
