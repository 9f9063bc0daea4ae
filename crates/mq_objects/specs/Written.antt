-- Attributes written one after another, behind a text.
use Rattle.std.specs.Prelude.{ℕ, Bool, ◌==◌, ◌||◌, length, List, [], ◌∷◌, ◌++◌, if◌then◌else◌}
use Rattle.std.specs.List.{list_any}
use Rattle.mq_objects.specs.declared.object.KeptAttribute.{KeptAttribute}
use Rattle.mq_objects.specs.declared.setting.Keyword.{Keyword}
use Rattle.mq_objects.specs.declared.text.Style.{Style}
use Rattle.mq_objects.specs.declared.text.Style.TheVariants.{Shown, Command}
use Rattle.mq_objects.specs.Attributes.{Value, Attribute, same_keyword, shown_attribute, command_attribute, kept_attribute}

-- none asked is all asked
abbrev pub is_asked : List Keyword → Keyword → Bool
is_asked asked keyword = length asked == 0 || list_any (same_keyword keyword) asked

abbrev pub styled : Style → List ℕ → Value → List ℕ
styled Shown word value = shown_attribute word value
styled Command word value = command_attribute word value

-- an attribute behind a text, where it is asked
abbrev pub put : Style → List Keyword → List ℕ → Attribute → List ℕ
put style asked text a = if is_asked asked a.keyword then text ++ styled style a.word a.value else text

abbrev pub put_all : Style → List Keyword → List ℕ → List Attribute → List ℕ
put_all style asked text [] = text
put_all style asked text (a ∷ as_) = put_all style asked (put style asked text a) as_

-- attributes kept without effect, behind a text
abbrev pub put_kept : List ℕ → List KeptAttribute → List ℕ
put_kept text [] = text
put_kept text (k ∷ ks) = put_kept (text ++ kept_attribute k) ks
