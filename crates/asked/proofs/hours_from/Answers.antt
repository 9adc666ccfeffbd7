-- Each hour is what the closure gives at its number.
use Rattle.std.proofs.Common.{◌≡◌, ◌+◌, min, get_or, rules, arith}
use Rattle.asked.specs.Hours.{most_hour}
use Rattle.asked.proofs.EachCall.{each_call}
use Rattle.asked.proofs.hours_from.Goals as goal

pub returns : goal.returns
returns c =
    record {
      many = c.from_fn.ensures.items.long;
      each = λ k below.
          each_call _ (λ j hour. hour ≡ min (get_or c.args.values (c.args.from + j) 0) most_hour) _ (λ j y q called. search rules) c.from_fn.result 0 24 c.from_fn.ensures.items.each k 0 (omega arith) (omega (arith, below));
    }
