use Rattle.std.proofs.Common.{◌≡◌, true, Some, refl}
use Rattle.mq_sc_keys.specs.declared.verbs.Verb.{Verb}
use Rattle.mq_sc_keys.specs.declared.verbs.Verb.TheVariants as verbs
use Rattle.mq_sc_keys.specs.declared.verbs.Noun.{Noun}
use Rattle.mq_sc_keys.specs.declared.verbs.Noun.TheVariants as nouns
use Rattle.mq_sc_keys.specs.Verbs.{verb_text, verb_short, object_text, object_short, takes, verb_of, object_of}
use Rattle.mq_sc_keys.proofs.verbs.words_are_found.Goals as goal

verb_found : (v : Verb) → (verb_of (verb_text v) ≡ Some v) × (verb_of (verb_short v) ≡ Some v)
unfolding verb_of
verb_found verbs.Define = (refl, refl)
verb_found verbs.Alter = (refl, refl)
verb_found verbs.Delete = (refl, refl)
verb_found verbs.Display = (refl, refl)
verb_found verbs.Start = (refl, refl)
verb_found verbs.Stop = (refl, refl)
verb_found verbs.Reset = (refl, refl)
verb_found verbs.Resolve = (refl, refl)

-- each verb with each object, those that it doesn't take included
object_found : (v : Verb) (n : Noun) → takes v n ≡ true → (object_of v (object_text n) ≡ Some n) × (object_of v (object_short n) ≡ Some n)
unfolding object_of
object_found verbs.Define nouns.Local h = (refl, refl)
object_found verbs.Define nouns.Alias h = (refl, refl)
object_found verbs.Define nouns.Remote h = (refl, refl)
object_found verbs.Define nouns.Channel h = (refl, refl)
object_found verbs.Define nouns.Process h = (refl, refl)
object_found verbs.Define nouns.Manager h = absurd cc
object_found verbs.Define nouns.Queue h = absurd cc
object_found verbs.Define nouns.Status h = absurd cc
object_found verbs.Alter nouns.Local h = (refl, refl)
object_found verbs.Alter nouns.Alias h = (refl, refl)
object_found verbs.Alter nouns.Remote h = (refl, refl)
object_found verbs.Alter nouns.Channel h = (refl, refl)
object_found verbs.Alter nouns.Process h = (refl, refl)
object_found verbs.Alter nouns.Manager h = (refl, refl)
object_found verbs.Alter nouns.Queue h = absurd cc
object_found verbs.Alter nouns.Status h = absurd cc
object_found verbs.Delete nouns.Local h = (refl, refl)
object_found verbs.Delete nouns.Alias h = (refl, refl)
object_found verbs.Delete nouns.Remote h = (refl, refl)
object_found verbs.Delete nouns.Channel h = (refl, refl)
object_found verbs.Delete nouns.Process h = (refl, refl)
object_found verbs.Delete nouns.Manager h = absurd cc
object_found verbs.Delete nouns.Queue h = absurd cc
object_found verbs.Delete nouns.Status h = absurd cc
object_found verbs.Display nouns.Local h = (refl, refl)
object_found verbs.Display nouns.Alias h = (refl, refl)
object_found verbs.Display nouns.Remote h = (refl, refl)
object_found verbs.Display nouns.Channel h = (refl, refl)
object_found verbs.Display nouns.Process h = (refl, refl)
object_found verbs.Display nouns.Manager h = (refl, refl)
object_found verbs.Display nouns.Queue h = (refl, refl)
object_found verbs.Display nouns.Status h = (refl, refl)
object_found verbs.Start nouns.Local h = absurd cc
object_found verbs.Start nouns.Alias h = absurd cc
object_found verbs.Start nouns.Remote h = absurd cc
object_found verbs.Start nouns.Channel h = (refl, refl)
object_found verbs.Start nouns.Process h = absurd cc
object_found verbs.Start nouns.Manager h = absurd cc
object_found verbs.Start nouns.Queue h = absurd cc
object_found verbs.Start nouns.Status h = absurd cc
object_found verbs.Stop nouns.Local h = absurd cc
object_found verbs.Stop nouns.Alias h = absurd cc
object_found verbs.Stop nouns.Remote h = absurd cc
object_found verbs.Stop nouns.Channel h = (refl, refl)
object_found verbs.Stop nouns.Process h = absurd cc
object_found verbs.Stop nouns.Manager h = absurd cc
object_found verbs.Stop nouns.Queue h = absurd cc
object_found verbs.Stop nouns.Status h = absurd cc
object_found verbs.Reset nouns.Local h = absurd cc
object_found verbs.Reset nouns.Alias h = absurd cc
object_found verbs.Reset nouns.Remote h = absurd cc
object_found verbs.Reset nouns.Channel h = (refl, refl)
object_found verbs.Reset nouns.Process h = absurd cc
object_found verbs.Reset nouns.Manager h = absurd cc
object_found verbs.Reset nouns.Queue h = absurd cc
object_found verbs.Reset nouns.Status h = absurd cc
object_found verbs.Resolve nouns.Local h = absurd cc
object_found verbs.Resolve nouns.Alias h = absurd cc
object_found verbs.Resolve nouns.Remote h = absurd cc
object_found verbs.Resolve nouns.Channel h = (refl, refl)
object_found verbs.Resolve nouns.Process h = absurd cc
object_found verbs.Resolve nouns.Manager h = absurd cc
object_found verbs.Resolve nouns.Queue h = absurd cc
object_found verbs.Resolve nouns.Status h = absurd cc

pub returns-clause-verbs : goal.returns-clause-verbs
returns-clause-verbs c = verb_found

pub returns-clause-objects : goal.returns-clause-objects
returns-clause-objects c = object_found
