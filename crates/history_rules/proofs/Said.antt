-- What is promised of an answer follows from the answer: a rise that is given is the distance of document 01, 'What the distances say', from the exact rise.
use mathlib.Core.Path.{◌≡◌, refl, sym, ap, subst, ◌∙◌}
use mathlib.Core.List.{List, [], ◌∷◌}
use Prim.Native.Nat.{ℕ, ◌≤◌}
use native.Mathlib.Omega.{arith}
use lib.Dec.{T}
use lib.IntN.{ℤ}
use Rattle.bounds.specs.declared.Bounds.{Bounds}
use Rattle.exact.specs.Value.{from_one}
use Rattle.cable_rules.specs.Group.{Group}
use Rattle.cable_rules.specs.InRange.{Acceptable}
use Rattle.refusals.specs.Stated.{stated_values}
use Rattle.refusals.proofs.Stated.{no_values}
use Rattle.share_rules.specs.Pair.{share_pair}
use Rattle.share_rules.specs.Promises.{width_of, exact_share}
use Rattle.share_rules.proofs.Promises.{stated_pair}
use Rattle.distance.proofs.Enclosed.{Enclosed}
use Rattle.share_rules.proofs.Rising.{accepted_at, share_enclosed, exact_share_bounds}
use Rattle.sheet_rules.specs.Header.{starting_current}
use Rattle.sheet_rules.specs.Records.{most_minutes}
use Rattle.sheet_rules.specs.Chain.{Chain, steps, refused, chain_of}
use Rattle.sheet_rules.proofs.SheetChecks.{sheet_sound}
use Rattle.history_rules.specs.Rise.{rise_of}
use Rattle.history_rules.specs.Exact.{exact_rise, RiseDistance}
use Rattle.history_rules.specs.Answer.{rise_from, rise_of_given, history_of, rise_answer, steps_of, stated_rise, RiseSaid}
use Rattle.history_rules.specs.declared.RiseAnswer.{RiseAnswer}
use Rattle.history_rules.specs.declared.RiseAnswer.TheVariants.{Rise, Refused}
use Rattle.history_rules.proofs.Steps.{AtSteps, chain_minutes}
use Rattle.history_rules.proofs.Distance.{rise_distance, rise_bounds}

-- a rise is given only where the chain is accepted
record Reported (g : Group) (start : ℕ) (chain : Chain) (b : Bounds) : Type 0 where
  chained : chain ≡ steps (steps_of chain)
  rise_is : rise_of (share_pair g) start g.cable.rated (steps_of chain) ≡ b

by_chain : (g : Group) (start : ℕ) (chain : Chain) {b : Bounds} → rise_from g start chain ≡ Rise b → Reported g start chain b
by_chain g start (steps ss) e = record { chained = refl; rise_is = cc }
by_chain g start (refused f) e = let z : ◌≡◌ {A = ℕ} 0 1 = cc in absurd (omega arith)

-- of the chain of a sheet, whose every step is 1 to 2,880 minutes old
module _ (g : Group) (a : Acceptable g) (s : List ℕ) {b : Bounds} (e : rise_from g (starting_current s) (chain_of s) ≡ Rise b) where
  abbrev start : ℕ
  start = starting_current s

  report : Reported g start (chain_of s) b
  report = by_chain g start (chain_of s) e

  at_steps : (P : ℕ → Type 0) → ((m : ℕ) → 1 ≤ m → m ≤ most_minutes → P m) → AtSteps P (steps_of (chain_of s))
  at_steps P within = chain_minutes P within s

  reported_distance : RiseDistance (width_of g) (exact_share g) start g.cable.rated (steps_of (chain_of s)) b
  reported_distance =
      subst (λ (q : Bounds). RiseDistance (width_of g) (exact_share g) start g.cable.rated (steps_of (chain_of s)) q) report.rise_is
      (rise_distance (width_of g) (exact_share g) (share_pair g) start g.cable.rated (omega (arith, a.rated_from))
      (at_steps (λ m. Enclosed (width_of g) (exact_share g m) (share_pair g m)) (λ m from to. share_enclosed g m (accepted_at g a m from to))))

  -- the steps of the exact rise that an answer is held against are those of an accepted chain
  pub rise_steps : chain_of s ≡ steps (steps_of (chain_of s))
  rise_steps = report.chained

  -- .. and every order from 1 gives bounds of it
  pub exact_rise_bounds : (n : ℕ) → T (from_one n) → T ((exact_rise (exact_share g) start g.cable.rated (steps_of (chain_of s))).ok n)
  exact_rise_bounds n t =
      rise_bounds (exact_share g) n start g.cable.rated (omega (arith, a.rated_from))
      (at_steps (λ m. T ((exact_share g m).ok n)) (λ m from to. exact_share_bounds g m (accepted_at g a m from to) n t))

-- two values are stated of a rise alone
reported : (r : RiseAnswer) {low high : ℤ} → stated_rise r ≡ stated_values (low ∷ high ∷ []) → r ≡ Rise (record { low = low; high = high })
reported (Rise b) e = ap Rise (stated_pair e)
reported (Refused f) e = absurd (no_values f e)

pub said : (s : List ℕ) {r : RiseAnswer} → r ≡ rise_answer (history_of s) → RiseSaid (history_of s) r
unfolding rise_answer
said s {r} e = record {
  answer = e;
  distance = λ g is low high q.
      reported_distance g (sheet_sound s g is) s (sym (ap (λ x. rise_of_given x (starting_current s) (chain_of s)) is) ∙ sym e ∙ reported r q);
}
