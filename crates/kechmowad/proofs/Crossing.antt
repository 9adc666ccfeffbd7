-- What crosses is copied from an answer that is taken apart.
use mathlib.Core.Path.{◌≡◌, refl, ap, ◌∙◌}
use mathlib.Core.List.{List}
use lib.IntN.{ℤ}
use Rattle.refusals.specs.Stated.{Stated}
use Rattle.refusals.specs.Apart.{parts_of}
use Rattle.refusals.specs.declared.Parts.{Parts}
use Rattle.kechmowad.specs.Crossing.{crossing, five_of, Crosses}

five_of_parts : (s : Stated) → five_of (parts_of s) ≡ crossing s
five_of_parts s = refl

module _ {Answer : Type 0} {Said : Answer → Type 0} {stated : Answer → Stated} {parts : Parts} {numbers : List ℤ} where
  pub crosses : (a : Answer) → Said a → parts ≡ parts_of (stated a) → numbers ≡ five_of parts → Crosses Said stated numbers
  crosses a said apart copied = record { answer = a; said = said; crossed = copied ∙ ap five_of apart ∙ five_of_parts (stated a) }
