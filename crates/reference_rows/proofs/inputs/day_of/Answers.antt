-- An hour is put in its place.
use Rattle.std.proofs.Common.{◌≡◌, ◌∙◌, ◌+◌, ◌<◌, ap, sym, arith, ℕ, List, Some, Ok, Err}
use Rattle.std.specs.Prelude.{Result, OkIff}
use Rattle.std.specs.Result.{result_ok}
use Rattle.std.proofs.Math.ListN.{set, length-set}
use Rattle.numbers.proofs.Filling.{one_more}
use Rattle.cycle_rules.specs.Day.{day_hours}
use Rattle.reference_rows.specs.Cells.{part_at, number_from}
use Rattle.reference_rows.specs.Inputs.{comma, HoursTo}
use Rattle.reference_rows.proofs.inputs.day_of.Goals as goal

-- a number that fits is the same in the narrower type
narrowed : {E : Type 0} (P : Type 0) (r : Result ℕ E) {x v : ℕ} → OkIff r P v → Some x ≡ result_ok r → x ≡ v
narrowed P (Ok y) h e = let same = h.1 in cc
narrowed P (Err y) h e = cc e

hour_more : (list hours : List ℕ) (k x : ℕ) → k < day_hours → Some x ≡ number_from (part_at comma k list) → HoursTo k list hours → HoursTo (k + 1) list (set hours k x)
hour_more list hours k x below e so_far =
    record {
      many = length-set hours k x ∙ so_far.many;
      each = one_more (λ j y. Some y ≡ number_from (part_at comma j list)) 0 hours k x (omega (arith, below, so_far.many)) e so_far.each;
    }

pub loop-k-preserved : goal.loop-k-preserved
loop-k-preserved c =
    let l = c.loop-k in
    let read : Some c.in_ok-amperes.amperes ≡ number_from (part_at comma l.k c.args.list.now) = sym c.in_ok-amperes.was ∙ c.whole.ensures ∙ ap number_from c.part-in-loop-k.ensures in
    hour_more _ _ l.k _ (omega arith) (ap Some (narrowed _ _ c.try_from.ensures c.in_ok-hours.ensures.value) ∙ read) l.invariant
