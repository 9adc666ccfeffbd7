-- A prover for orders and equalities of fractions, from hypotheses with multipliers. An expression over fraction variables becomes two
-- polynomials, its numerator and its denominator; each test is computed, and its proof is `tt`.
use Prim.Native.Nat.{ℕ, zero, suc, ◌+◌, ◌*◌, ◌≤◌, ◌<◌}
use mathlib.Core.Path.{◌≡◌, refl, ap₂, subst₂}
use mathlib.Core.List.{List, [], ◌∷◌}
use mathlib.Core.Bool.{Bool}
use lib.Dec.{T}
use Rattle.numbers.proofs.Polynomial.{Ex, var, num, ◌:+◌, ◌:*◌, at, eval, norm, below, poly_le}
use Rattle.numbers.specs.Fraction.{Frac, ◌≼◌, ◌≈◌, ◌per◌, ◌⊕◌, ◌⊗◌, whole, 0F, 1F}
use Rattle.numbers.proofs.Fractions.{refl≼, trans≼, add≼, mul≼, cancel⊕, cancel⊗}

pub data QEx : Type 0 where
  qv : ℕ → QEx
  qn : ℕ → QEx
  qf : ℕ → ℕ → QEx
  ◌+'◌ : QEx → QEx → QEx
  ◌*'◌ : QEx → QEx → QEx

infixl 6 ◌+'◌
infixl 7 ◌*'◌
abbrev pub at_q : List Frac → ℕ → Frac
at_q [] i = 1F
at_q (x ∷ ρ) zero = x
at_q (x ∷ ρ) (suc i) = at_q ρ i

abbrev pub eval_q : List Frac → QEx → Frac
eval_q ρ (qv i) = at_q ρ i
eval_q ρ (qn k) = whole k
eval_q ρ (qf n d) = n per d
eval_q ρ (a +' b) = eval_q ρ a ⊕ eval_q ρ b
eval_q ρ (a *' b) = eval_q ρ a ⊗ eval_q ρ b

abbrev pub dbl : ℕ → ℕ
dbl zero = zero
dbl (suc i) = suc (suc (dbl i))

abbrev pub de : QEx → Ex
de (qv i) = var (suc (dbl i))
de (qn k) = num 1
de (qf n d) = num (n per d).den
de (a +' b) = de a :* de b
de (a *' b) = de a :* de b

abbrev pub nu : QEx → Ex
nu (qv i) = var (dbl i)
nu (qn k) = num k
nu (qf n d) = num (n per d).num
nu (a +' b) = nu a :* de b :+ nu b :* de a
nu (a *' b) = nu a :* nu b

abbrev pub flat : List Frac → List ℕ
flat [] = []
flat (x ∷ ρ) = x.num ∷ x.den ∷ flat ρ

at_num : (ρ : List Frac) (i : ℕ) → at (flat ρ) (dbl i) ≡ (at_q ρ i).num
at_num [] zero = refl
at_num [] (suc i) = refl
at_num (x ∷ ρ) zero = refl
at_num (x ∷ ρ) (suc i) = at_num ρ i

at_den : (ρ : List Frac) (i : ℕ) → at (flat ρ) (suc (dbl i)) ≡ (at_q ρ i).den
at_den [] zero = refl
at_den [] (suc i) = refl
at_den (x ∷ ρ) zero = refl
at_den (x ∷ ρ) (suc i) = at_den ρ i

de_sound : (ρ : List Frac) (e : QEx) → eval (flat ρ) (de e) ≡ (eval_q ρ e).den
de_sound ρ (qv i) = at_den ρ i
de_sound ρ (qn k) = refl
de_sound ρ (qf n d) = refl
de_sound ρ (a +' b) = ap₂ ◌*◌ (de_sound ρ a) (de_sound ρ b)
de_sound ρ (a *' b) = ap₂ ◌*◌ (de_sound ρ a) (de_sound ρ b)

nu_sound : (ρ : List Frac) (e : QEx) → eval (flat ρ) (nu e) ≡ (eval_q ρ e).num
nu_sound ρ (qv i) = at_num ρ i
nu_sound ρ (qn k) = refl
nu_sound ρ (qf n d) = refl
nu_sound ρ (a +' b) = ap₂ ◌+◌ (ap₂ ◌*◌ (nu_sound ρ a) (de_sound ρ b)) (ap₂ ◌*◌ (nu_sound ρ b) (de_sound ρ a))
nu_sound ρ (a *' b) = ap₂ ◌*◌ (nu_sound ρ a) (nu_sound ρ b)

abbrev pub under_q : QEx → QEx → Bool
under_q p q = below (norm (nu p :* de q)) (norm (nu q :* de p))

pub q_le : (ρ : List Frac) (p q : QEx) → T (under_q p q) → eval_q ρ p ≼ eval_q ρ q
q_le ρ p q t = record { cross = subst₂ (λ (x y : ℕ). x ≤ y) (ap₂ ◌*◌ (nu_sound ρ p) (de_sound ρ q)) (ap₂ ◌*◌ (nu_sound ρ q) (de_sound ρ p)) (poly_le (flat ρ) (nu p :* de q) (nu q :* de p) t) }

pub q_eq : (ρ : List Frac) (p q : QEx) → T (under_q p q) → T (under_q q p) → eval_q ρ p ≈ eval_q ρ q
q_eq ρ p q t u = record { to = q_le ρ p q t; from = q_le ρ q p u }

-- ---- from hypotheses, each with a multiplier
pub data QHyp : Type 0 where
  le : QEx → QEx → QEx → QHyp
  eq : QEx → QEx → QEx → QEx → QHyp

abbrev pub MeansQ : List Frac → QHyp → Type 0
MeansQ ρ (le m a b) = eval_q ρ a ≼ eval_q ρ b
MeansQ ρ (eq m n a b) = eval_q ρ a ≈ eval_q ρ b

abbrev pub low_q : QHyp → QEx
low_q (le m a b) = m *' a
low_q (eq m n a b) = m *' a +' n *' b

abbrev pub high_q : QHyp → QEx
high_q (le m a b) = m *' b
high_q (eq m n a b) = m *' b +' n *' a

abbrev pub lows_q : List QHyp → QEx
lows_q [] = qn 0
lows_q (h ∷ hs) = low_q h +' lows_q hs

abbrev pub highs_q : List QHyp → QEx
highs_q [] = qn 0
highs_q (h ∷ hs) = high_q h +' highs_q hs

abbrev pub GivenQ : List Frac → List QHyp → Type 0 → Type 0
GivenQ ρ [] G = G
GivenQ ρ (h ∷ hs) G = MeansQ ρ h → GivenQ ρ hs G

weigh : (ρ : List Frac) (h : QHyp) → MeansQ ρ h → eval_q ρ (low_q h) ≼ eval_q ρ (high_q h)
weigh ρ (le m a b) p = mul≼ (refl≼ (eval_q ρ m)) p
weigh ρ (eq m n a b) p = add≼ (mul≼ (refl≼ (eval_q ρ m)) p.to) (mul≼ (refl≼ (eval_q ρ n)) p.from)

given : (ρ : List Frac) (hs : List QHyp) (G : Type 0) → (eval_q ρ (lows_q hs) ≼ eval_q ρ (highs_q hs) → G) → GivenQ ρ hs G
given ρ [] G k = k (refl≼ 0F)
given ρ (h ∷ hs) G k = λ p. given ρ hs G (λ r. k (add≼ (weigh ρ h p) r))

finish : (a b l h : Frac) → a ⊕ h ≼ b ⊕ l → l ≼ h → a ≼ b
finish a b l h p r = cancel⊕ l (trans≼ (add≼ (refl≼ a) r) p)

pub q_from : (ρ : List Frac) (hs : List QHyp) (p q : QEx) → T (under_q (p +' highs_q hs) (q +' lows_q hs)) → GivenQ ρ hs (eval_q ρ p ≼ eval_q ρ q)
q_from ρ hs p q t = given ρ hs (eval_q ρ p ≼ eval_q ρ q) (λ r. finish (eval_q ρ p) (eval_q ρ q) (eval_q ρ (lows_q hs)) (eval_q ρ (highs_q hs)) (q_le ρ (p +' highs_q hs) (q +' lows_q hs) t) r)

pub q_cancel : (ρ : List Frac) (hs : List QHyp) (c p q : QEx) → T (under_q (p *' c +' highs_q hs) (q *' c +' lows_q hs)) → 0 < (eval_q ρ c).num → GivenQ ρ hs (eval_q ρ p ≼ eval_q ρ q)
q_cancel ρ hs c p q t z = given ρ hs (eval_q ρ p ≼ eval_q ρ q) (λ r. cancel⊗ (eval_q ρ c) z (finish (eval_q ρ p ⊗ eval_q ρ c) (eval_q ρ q ⊗ eval_q ρ c) (eval_q ρ (lows_q hs)) (eval_q ρ (highs_q hs)) (q_le ρ (p *' c +' highs_q hs) (q *' c +' lows_q hs) t) r))

-- an equality from equalities: the multipliers change places for the other way
abbrev pub turn : QHyp → QHyp
turn (le m a b) = le (qn 0) a b
turn (eq m n a b) = eq n m a b

abbrev pub turns : List QHyp → List QHyp
turns [] = []
turns (h ∷ hs) = turn h ∷ turns hs

weigh_turned : (ρ : List Frac) (h : QHyp) → MeansQ ρ h → eval_q ρ (low_q (turn h)) ≼ eval_q ρ (high_q (turn h))
weigh_turned ρ (le m a b) p = weigh ρ (le (qn 0) a b) p
weigh_turned ρ (eq m n a b) p = weigh ρ (eq n m a b) p

given_both : (ρ : List Frac) (hs : List QHyp) (G : Type 0) → (eval_q ρ (lows_q hs) ≼ eval_q ρ (highs_q hs) → eval_q ρ (lows_q (turns hs)) ≼ eval_q ρ (highs_q (turns hs)) → G) → GivenQ ρ hs G
given_both ρ [] G k = k (refl≼ 0F) (refl≼ 0F)
given_both ρ (h ∷ hs) G k = λ p. given_both ρ hs G (λ r s. k (add≼ (weigh ρ h p) r) (add≼ (weigh_turned ρ h p) s))

pub q_eqfrom : (ρ : List Frac) (hs : List QHyp) (p q : QEx) → T (under_q (p +' highs_q hs) (q +' lows_q hs)) → T (under_q (q +' highs_q (turns hs)) (p +' lows_q (turns hs))) → GivenQ ρ hs (eval_q ρ p ≈ eval_q ρ q)
q_eqfrom ρ hs p q t u = given_both ρ hs (eval_q ρ p ≈ eval_q ρ q) (λ r s. record {
  to = finish (eval_q ρ p) (eval_q ρ q) (eval_q ρ (lows_q hs)) (eval_q ρ (highs_q hs)) (q_le ρ (p +' highs_q hs) (q +' lows_q hs) t) r;
  from = finish (eval_q ρ q) (eval_q ρ p) (eval_q ρ (lows_q (turns hs))) (eval_q ρ (highs_q (turns hs))) (q_le ρ (q +' highs_q (turns hs)) (p +' lows_q (turns hs)) u) s;
})
