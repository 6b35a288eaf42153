-- With which outcomes a run can be refused, from the parts that it is made of; what one that went to its end says of its parts.
use mathlib.Core.Path.{◌≡◌, refl, ap}
use Rattle.std.specs.Prelude.{Result, Ok, Err, IsErrAnd}
use mathlib.Core.Bool.{Bool, true, false, cond}
use Prim.Native.Nat.{ℕ}
use native.Mathlib.Omega.{arith}
use Rattle.outcome.specs.declared.Refusal.{Refusal}
use Rattle.outcome.specs.Run.{Run, refused, done, and_then}

-- where it is refused, P holds of the outcome. It is a record so that a search goes by the parts of the run and computes none of them
abbrev OnRun : (Refusal → Type 0) → {A : Type 0} → Run A → Type 0
OnRun P (refused o) = P o
OnRun P (done a) = Unit

pub record Refuses (P : Refusal → Type 0) {A : Type 0} (r : Run A) : Type 0 where
  pub where_refused : OnRun P r

module _ (P : Refusal → Type 0) where
  pub refuses_done : {A : Type 0} (a : A) → Refuses P (done a)
  refuses_done a = record { where_refused = tt }

  pub refuses_with : {A : Type 0} (o : Refusal) → P o → Refuses P {A = A} (refused o)
  refuses_with o h = record { where_refused = h }

  pub refuses_cond : {A : Type 0} (b : Bool) (q r : Run A) → Refuses P q → Refuses P r → Refuses P (cond b q r)
  refuses_cond true q r h k = h
  refuses_cond false q r h k = k

  pub refuses_then : {A B : Type 0} (r : Run A) (f : A → Run B) → Refuses P r → ((a : A) → Refuses P (f a)) → Refuses P (and_then r f)
  unfolding and_then
  refuses_then (refused o) f h k = refuses_with o h.where_refused
  refuses_then (done a) f h k = k a

-- a run that stopped did not go to its end
pub never : {A B : Type 0} {o : Refusal} {b : B} → refused o ≡ done b → A
never e = let z : ◌≡◌ {A = ℕ} 0 1 = cc in absurd (omega arith)

pub done_same : {A : Type 0} {a b : A} → done a ≡ done b → a ≡ b
done_same e = cc

pub refused_same : {A : Type 0} {o p : Refusal} → ◌≡◌ {A = Run A} (refused o) (refused p) → o ≡ p
refused_same e = cc

pub not_refused : {A B : Type 0} {a : A} {o : Refusal} → done a ≡ refused o → B
not_refused e = let z : ◌≡◌ {A = ℕ} 0 1 = cc in absurd (omega arith)

pub record Joined {A B : Type 0} (r : Run A) (f : A → Run B) (b : B) : Type 0 where
  pub mid : A
  pub first : r ≡ done mid
  pub rest : f mid ≡ done b

pub joined : {A B : Type 0} (r : Run A) (f : A → Run B) (b : B) → and_then r f ≡ done b → Joined r f b
unfolding and_then
joined (refused o) f b e = never e
joined (done a) f b e = record { mid = a; first = refl; rest = e }

-- a refusal that `?` hands on stays the same one
pub carried : {A : Type 0} (r : Result A Refusal) (o : Refusal) → IsErrAnd r (λ p. p ≡ o) → r ≡ Err o
carried (Ok a) o h = absurd h
carried (Err p) o h = ap Err h
