-- Objects that are set one after another stand in that order, where no two have one name.
use Rattle.std.proofs.Common.{◌≡◌, Bool, true, false, cond, List, [], ◌∷◌, ◌++◌, refl, ap, sym, ◌∙◌, append_assoc, append-nil}
use Rattle.std.specs.List.{AllByRecursion}
use Rattle.mq_objects.specs.declared.object.Object.{Object}
use Rattle.mq_objects.specs.declared.object.ManagerAttributes.{ManagerAttributes}
use Rattle.mq_objects.specs.declared.object.Definitions.{Definitions}
use Rattle.std.specs.Prelude.{◌&&◌}
use Rattle.std.specs.Str.{bytes_eq}
use Rattle.std.specs.Cmp.Lexicographic.{bytes_decides}
use Rattle.mq_objects.specs.Names.{Space, same_space, is_object, space_of, name_of}
use Rattle.mq_objects.specs.Names.Space.{Queues, Channels, Processes}
use Rattle.mq_objects.specs.Changed.{set_in, set_attributes}
use Rattle.mq_objects.specs.Defaults.{nothing_defined}
use Rattle.mq_rebuild.specs.Rebuilt.{objects_set, AreOnce}
use Rattle.mq_rebuild.proofs.FrontLaws.{Fronts, fronts}

-- two objects of which the second has not the name of the first
abbrev pub Differ : Object → Object → Type 0
Differ a b = is_object (space_of a) (name_of a) b ≡ false

set_last : (new : Object) (done : List Object) → AllByRecursion (λ (a : Object). is_object (space_of new) (name_of new) a ≡ false) done → set_in new done ≡ done ++ new ∷ []
set_last new [] h = refl
set_last new (o ∷ os) h = ap (λ (b : Bool). cond b (new ∷ os) (o ∷ set_in new os)) h.0 ∙ ap (λ (rest : List Object). o ∷ rest) (set_last new os h.1)

same_way : (a b : Space) → same_space a b ≡ true → same_space b a ≡ true
same_way Queues Queues e = refl
same_way Queues Channels e = absurd cc
same_way Queues Processes e = absurd cc
same_way Channels Queues e = absurd cc
same_way Channels Channels e = refl
same_way Channels Processes e = absurd cc
same_way Processes Queues e = absurd cc
same_way Processes Channels e = absurd cc
same_way Processes Processes e = refl

both : (a b : Bool) → (a && b) ≡ true → (a ≡ true) × (b ≡ true)
both true true e = (refl, refl)
both true false e = absurd cc
both false b e = absurd cc

-- seen from the other one
pub other_way : (a b : Object) → Differ a b → Differ b a
other_way a b e = by (is_object (space_of b) (name_of b) a) refl
  where
    by : (t : Bool) → is_object (space_of b) (name_of b) a ≡ t → t ≡ false
    by true t =
        let h = both (same_space (space_of b) (space_of a)) (bytes_eq (name_of b) (name_of a)) t in
        let n : name_of a ≡ name_of b = sym ((bytes_decides (name_of b) (name_of a)).0 h.1) in
        let back : is_object (space_of a) (name_of a) b ≡ true =
        rw (same_way (space_of b) (space_of a) h.0) ((bytes_decides (name_of a) (name_of b)).1 n) in
        sym back ∙ e
    by false t = refl

others : (new : Object) (done : List Object) → AllByRecursion (λ (a : Object). Differ a new) done → AllByRecursion (λ (a : Object). Differ new a) done
others new [] h = tt
others new (o ∷ os) h = (other_way o new h.0, others new os h.1)

set_each : (m : ManagerAttributes) (done objects : List Object) → Fronts Differ done objects → objects_set objects (record { objects = done; manager = m }) ≡ record { objects = done ++ objects; manager = m }
set_each m done [] h = ap (λ (os : List Object). let d : Definitions = record { objects = os; manager = m } in d) (sym (append-nil done))
set_each m done (o ∷ os) h =
    ap (λ (ps : List Object). objects_set os (record { objects = ps; manager = m })) (set_last o done (others o done h.0))
    ∙ set_each m (done ++ o ∷ []) os h.1
    ∙ ap (λ (ps : List Object). let d : Definitions = record { objects = ps; manager = m } in d) (append_assoc done (o ∷ []) os)

-- the objects of definitions, set on none, with the manager's attributes, are the definitions
pub all_set : (d : Definitions) → AreOnce d.objects → set_attributes d.manager (objects_set d.objects nothing_defined) ≡ d
all_set d h = ap (set_attributes d.manager) (set_each nothing_defined.manager [] d.objects (fronts Differ d.objects h))
