-- Nothing but 0 stands in the array at first, nor past it.
use Rattle.std.proofs.Common.{ℕ, ◌≡◌, ⊎_elim, arith, get_or, replicate}
use Rattle.std.proofs.lemmas.Bool.{cases_lt}
use Rattle.std.proofs.lemmas.List.{get_or-replicate, get_or_past}
use Rattle.words.proofs.read.Goals as goal

pub loop-k-init : goal.loop-k-init
loop-k-init c = (omega arith, λ k _. none_read k)
  where
    none_read : (k : ℕ) → ◌≡◌ {A = ℕ} (get_or (replicate 32 0) k 0) 0
    none_read k = ⊎_elim (get_or-replicate 32 k 0 0) (get_or_past (replicate 32 0) k 0) (cases_lt k 32)
