-- What is laid beside some bytes has one proof at most that all of it is accepted: a ghost field of `Ground` keeps that proof.
use Rattle.std.specs.Prelude.{List, [], ◌∷◌, ℕ, refl}
use Rattle.std.specs.Coded.{codes}
use Rattle.exact.specs.Share.{CableNumbers, Neighbour, InTrench, AllInTrench, none, more}
use Rattle.sheet_rules.specs.Sheet.{Laid}
use Rattle.sheet_rules.specs.declared.Trench.{Trench}
use denote.Struct.Props.{props}

in_trench_prop : (c : CableNumbers) (n : Neighbour) → IsProp (InTrench c n)
in_trench_prop c n = Prim.hlevel props

all_in_trench_prop : (c : CableNumbers) (ns : List Neighbour) → IsProp (AllInTrench c ns)
all_in_trench_prop c [] none none = refl
all_in_trench_prop c (n ∷ ns) (more a x) (more b y) = λ i. more (in_trench_prop c n a b i) (all_in_trench_prop c ns x y i)

pub laid_prop : (s : List ℕ) (t : Trench) → IsProp (Laid s t)
laid_prop s t = Prim.hlevel (codes, props, all_in_trench_prop)
