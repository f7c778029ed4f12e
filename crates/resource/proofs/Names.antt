-- A resource is known by its size and its index.
use mathlib.Core.Path.{◌≡◌, refl, sym, ◌∙◌, ap₂}
use Rattle.resource.specs.declared.Size.TheVariants.{S26, S52, S106, S242, S484, S996, S2x996}
use Rattle.resource.specs.declared.Pairing.TheVariants.{P106And26, P484And242, P996And484, P3x996, P2x996And484, P3x996And484}
use Rattle.resource.specs.declared.Resource.{Resource}
use Rattle.resource.specs.declared.Resource.TheVariants.{Single, Joined}
use Rattle.resource.specs.Names.{name_of, number_of}
use Rattle.resource.specs.Engine.{resource_named}

pub named_back : (r : Resource) → resource_named (name_of r) (number_of r) ≡ r
unfolding resource_named
named_back (Single S26 i) = refl
named_back (Single S52 i) = refl
named_back (Single S106 i) = refl
named_back (Single S242 i) = refl
named_back (Single S484 i) = refl
named_back (Single S996 i) = refl
named_back (Single S2x996 i) = refl
named_back (Joined P106And26 i) = refl
named_back (Joined P484And242 i) = refl
named_back (Joined P996And484 i) = refl
named_back (Joined P3x996 i) = refl
named_back (Joined P2x996And484 i) = refl
named_back (Joined P3x996And484 i) = refl

pub same_named : (r s : Resource) → name_of r ≡ name_of s → number_of r ≡ number_of s → r ≡ s
same_named r s e f = sym (named_back r) ∙ ap₂ resource_named e f ∙ named_back s
