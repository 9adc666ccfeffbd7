-- Document 01, 'The load sheet' and 'When the desk is told no': the answer for the bytes of a sheet. Order: "1, 2, 3, 4, then for each record in turn
-- 5 for the link that leads to it, 6, 7, 8"; document 02, note 2: "After all checks of the load chain come, for each neighbour in turn, 14 [..], 15 [..] and 16".
use Rattle.std.specs.Prelude.{◌≡◌, List, [], ◌∷◌, ℕ, ℤ}
use Rattle.bounds.specs.declared.Bounds.{Bounds}
use Rattle.refusals.specs.Stated.{Stated, stated_values, stated_refusal}
use Rattle.cable_rules.specs.Group as G
use Rattle.cable_rules.specs.Group.{Group, Given, accepted}
use Rattle.share_rules.specs.Pair.{share_pair}
use Rattle.share_rules.specs.Promises.{width_of, exact_share}
use Rattle.sheet_rules.specs.Header.{starting_current}
use Rattle.sheet_rules.specs.Sheet.{given_sheet}
use Rattle.sheet_rules.specs.Chain.{Step, Chain, steps, refused, chain_of}
use Rattle.history_rules.specs.Rise.{rise_of}
use Rattle.history_rules.specs.Exact.{RiseDistance}
use Rattle.history_rules.specs.declared.RiseAnswer.{RiseAnswer}
use Rattle.history_rules.specs.declared.RiseAnswer.TheVariants.{Rise, Refused}

abbrev pub after_chain : Chain → (List Step → Bounds) → RiseAnswer
after_chain (steps ss) rise = Rise (rise ss)
after_chain (refused f) rise = Refused f

-- of an accepted group, from its starting current and its chain
abbrev pub rise_from : Group → ℕ → Chain → RiseAnswer
rise_from g start chain = after_chain chain (rise_of (share_pair g) start g.cable.rated)

-- the refusal of what was handed in comes first
abbrev pub rise_of_given : Given → ℕ → Chain → RiseAnswer
rise_of_given (accepted g) start chain = rise_from g start chain
rise_of_given (G.refused f) start chain = Refused f

-- What a rise is asked of.
pub record LoadHistory : Type 0 where
  pub given : Given
  pub start : ℕ
  pub chain : Chain

-- as the bytes of a sheet hold it
abbrev pub history_of : List ℕ → LoadHistory
history_of s = record { given = given_sheet s; start = starting_current s; chain = chain_of s }

unfoldable pub rise_answer : LoadHistory → RiseAnswer
rise_answer h = rise_of_given h.given h.start h.chain

-- the paper's number, place and values of each answer
abbrev pub stated_rise : RiseAnswer → Stated
stated_rise (Rise b) = stated_values (b.low ∷ b.high ∷ [])
stated_rise (Refused f) = stated_refusal f

-- the chain's steps; a refused chain has no rise
abbrev pub steps_of : Chain → List Step
steps_of (steps ss) = ss
steps_of (refused f) = []

-- the answer, and how far a rise may be from the exact one of the group, starting current and steps: 'What the distances say'
pub record RiseSaid (h : LoadHistory) (r : RiseAnswer) : Type 0 where
  pub answer : r ≡ rise_answer h
  pub distance : (g : Group) → h.given ≡ accepted g → (low high : ℤ) → stated_rise r ≡ stated_values (low ∷ high ∷ [])
      → RiseDistance (width_of g) (exact_share g) h.start g.cable.rated (steps_of h.chain) (record { low = low; high = high })
