-- Every operation on a state that the operations made: such a state again, and what it would be if nothing were kept.
use mathlib.Core.Path.{◌≡◌, sym}
use mathlib.Core.List.{List, [], ◌∷◌}
use lib.IntN.{ℤ}
use Rattle.outcome.specs.Run.{Run, refused, done, and_then, written, ended}
use Rattle.half_rows.specs.State.{empty}
use Rattle.half_rows.specs.Operations.{Operation, load, half_pass, narrowing, run, operate, after}
use Rattle.half_rows_afresh.specs.Afresh.{Held, held_in, afresh}
use Rattle.half_rows_afresh.specs.Claim.{SumsFresh, AsAfresh}
use Rattle.half_rows_afresh.proofs.Loaded.{Good, good_long, good_fresh}
use Rattle.half_rows_afresh.proofs.Does.{Does, empty_good, load_does}
use Rattle.half_rows_afresh.proofs.Passes.{pass_does}
use Rattle.half_rows_afresh.proofs.Narrowing.{narrowing_does}

pub run_does : (o : Operation) (t : List ℤ) → Good t → Does (run o t) (afresh o (held_in t))
unfolding run afresh
run_does (load s X) t g = load_does s X t (good_long g)
run_does (half_pass back) t g = pass_does back t g
run_does (narrowing vat w) t g = narrowing_does vat w t g

-- ---- what is left, after a refusal too
operate_good : (o : Operation) (t : List ℤ) → Good t → Good (operate o t).left
unfolding operate ended
operate_good o t g = go (run o t) (afresh o (held_in t)) (run_does o t g)
  where
    go : (r : Run (List ℤ)) (q : Run Held) → Does r q → Good (ended written t r).left
    go (refused p) q d = g
    go (done u) q d = d.1

pub after_good : (os : List Operation) (t : List ℤ) → Good t → Good (after os t)
unfolding after
after_good [] t g = g
after_good (o ∷ os) t g = after_good os (operate o t).left (operate_good o t g)

-- ---- the two claims
pub sums_fresh : SumsFresh
sums_fresh os = good_fresh (after_good os empty empty_good)

pub as_afresh : AsAfresh
unfolding and_then
as_afresh os o = go (run o t) (afresh o (held_in t)) (run_does o t (after_good os empty empty_good))
  where
    t : List ℤ
    t = after os empty

    go : (r : Run (List ℤ)) (q : Run Held) → Does r q → and_then r (λ u. done (held_in u)) ≡ q
    go (refused p) q d = sym d
    go (done u) q d = sym d.0
