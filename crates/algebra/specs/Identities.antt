-- Identities stated with names. `ident (num ∷ num ∷ []) (λ a b. (a :+ b) :* (a :- b) := a :* a :- b :* b) tt` proves the equation of every
-- two numbers. `follows ks (λ .. . (goal := zero) ⇐ (hyp c e f ∷ ..)) tt` proves an equation from others, each given with its factor c:
-- goal - zero is the sum of c·(e - f) as polynomials. A variable is a number or a pair of numbers; over expressions a pair has `ex` and `ey`.
use Rattle.std.specs.Prelude.{◌≡◌, List, [], ◌∷◌, ℕ, suc, T, ℤ}
use Rattle.algebra.specs.Polynomials.{E, var, ◌:-◌, ⟦◌⟧, env, solve, null, norm, Hyp, lin, comb, Imp}

-- two numbers
pub record Pair : Type 0 where
  pub x : ℤ
  pub y : ℤ

-- the same, over expressions
pub record PairE : Type 0 where
  pub ex : E
  pub ey : E

infix 4 ◌:=◌
pub data Eqn : Type 0 where
  ◌:=◌ : E → E → Eqn

-- an equation, and equations that it follows from, each with its factor
infix 3 ◌⇐◌
pub data Rule : Type 0 where
  ◌⇐◌ : Eqn → List Hyp → Rule

-- what a variable ranges over
pub data Kind : Type 0 where
  num : Kind
  pair : Kind

abbrev pub Val : Kind → Type 0
Val num = ℤ
Val pair = Pair

abbrev pub Arg : Kind → Type 0
Arg num = E
Arg pair = PairE

-- how many numbers the variables hold
abbrev pub size : List Kind → ℕ
size [] = 0
size (num ∷ ks) = suc (size ks)
size (pair ∷ ks) = suc (suc (size ks))

abbrev pub arg : (k : Kind) → ℕ → Arg k
arg num i = var i
arg pair i = record { ex = var i; ey = var (suc i) }

abbrev pub push : (k : Kind) → Val k → List ℤ → List ℤ
push num x l = x ∷ l
push pair p l = p.x ∷ p.y ∷ l

abbrev pub Fun : List Kind → Type 0 → Type 0
Fun [] R = R
Fun (k ∷ ks) R = Arg k → Fun ks R

abbrev pub fill : (ks : List Kind) (R : Type 0) → Fun ks R → R
fill [] R r = r
fill (k ∷ ks) R f = fill ks R (f (arg k (size ks)))

abbrev pub All : List Kind → (List ℤ → Type 0) → List ℤ → Type 0
All [] G l = G l
All (k ∷ ks) G l = (v : Val k) → All ks G (push k v l)

all : (ks : List Kind) (G : List ℤ → Type 0) → ((l : List ℤ) → G l) → (l : List ℤ) → All ks G l
all [] G f l = f l
all (k ∷ ks) G f l = λ v. all ks G f (push k v l)

abbrev pub Zero : Eqn → Type 0
Zero (e := f) = T (null (norm (e :- f)))

abbrev pub Holds : Eqn → List ℤ → Type 0
Holds (e := f) l = ⟦ e ⟧ (env l) ≡ ⟦ f ⟧ (env l)

holds : (q : Eqn) → Zero q → (l : List ℤ) → Holds q l
holds (e := f) t l = solve e f l t

-- an identity that normalizes to zero holds of all values
pub ident : (ks : List Kind) (f : Fun ks Eqn) → Zero (fill ks Eqn f) → All ks (Holds (fill ks Eqn f)) []
ident ks f t = all ks (Holds (fill ks Eqn f)) (holds (fill ks Eqn f) t) []

abbrev pub ZeroR : Rule → Type 0
ZeroR ((e := f) ⇐ hs) = T (null (norm (e :- f :- comb hs)))

abbrev pub HoldsR : Rule → List ℤ → Type 0
HoldsR ((e := f) ⇐ hs) l = Imp (env l) hs (⟦ e ⟧ (env l) ≡ ⟦ f ⟧ (env l))

holds_rule : (r : Rule) → ZeroR r → (l : List ℤ) → HoldsR r l
holds_rule ((e := f) ⇐ hs) t l = lin e f l hs t

-- an equation holds of all values for which the listed ones do
pub follows : (ks : List Kind) (f : Fun ks Rule) → ZeroR (fill ks Rule f) → All ks (HoldsR (fill ks Rule f)) []
follows ks f t = all ks (HoldsR (fill ks Rule f)) (holds_rule (fill ks Rule f) t) []
