-- What is taken apart can be put together: the refusal of a refusal's parts is that refusal.
use mathlib.Core.Path.{◌≡◌, refl, ap}
use Rattle.refusals.specs.Stated.{stated_refusal, place_kind, place_number, kind_number}
use Rattle.refusals.specs.Apart.{parts_of, place_of, refusal_in}
use Rattle.refusals.specs.declared.Place.{Place}
use Rattle.refusals.specs.declared.Place.TheVariants.{None, Field, Record, Hour, Input}
use Rattle.refusals.specs.declared.Refusal.{Refusal}

place_back : (p : Place) → place_of (kind_number (place_kind p)) (place_number p) ≡ p
place_back None = refl
place_back (Field n) = refl
place_back (Record n) = refl
place_back (Hour n) = refl
place_back (Input n) = refl

pub refusal_back : (f : Refusal) → refusal_in (parts_of (stated_refusal f)) ≡ f
refusal_back f = ap (λ (p : Place). record { number = f.number; place = p }) (place_back f.place)
