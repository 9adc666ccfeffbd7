-- The measure is how many words are left. No count is above how many words were looked at.
use Prim.Native.Nat.{◌-◌, ◌≤◌, ◌<◌}
use Rattle.rise_files.specs.Words.{most_words}
use Rattle.rise_files.proofs.main.Given as goal

abbrev pub invariant-loop-k : goal.invariant-loop-k
invariant-loop-k l = (l.words ≤ most_words) × (0 < l.k) × (l.counts.sheets < l.k) × (l.counts.alike < l.k)

abbrev pub decreases-loop-k : goal.decreases-loop-k
decreases-loop-k l = l.words - l.k
