-- Tests 1 and 2 of a list, a right side and a box.
use mathlib.Core.Path.{◌≡◌, sym}
use Prim.Native.Nat.{ℕ, ◌*◌, ◌≤◌, ◌<◌}
use borrow.Author.Tests.{lt-leb, leb-true, eqb-true}
use lib.ListN.{length}
use Rattle.outcome.specs.declared.Refusal.{Refusal}
use Rattle.outcome.specs.declared.Refusal.TheVariants as refusal
use Rattle.std.specs.Prelude.{Ok, Err}
use Rattle.inputs.specs.Tests.{both, need, sized, lengths}
use Rattle.inputs.proofs.Tests.{both_pass, need_pass, sized_pass}
use Rattle.transfers.specs.Listing.{Listing, sizes}

module _ (s : Listing) (l : ℕ) where
  pub sizes_overlong : {o : Refusal} → Err o ≡ both (sized s.size) (Err (refusal.Length 1)) → 1024 < length s.transfers → sizes s l ≡ Err o
  unfolding sizes both need
  sizes_overlong e h = rw (lt-leb (length s.transfers) 1024 h) (sym e)

  -- what they say when they pass
  pub record Fitting : Type 0 where
    pub some : 1 ≤ s.size
    pub few : s.size ≤ 32
    pub short : length s.transfers ≤ 1024
    pub right : length s.right ≡ 2 * s.size
    pub box : l ≡ 2 * s.size

  pub fitting : sizes s l ≡ Ok tt → Fitting
  unfolding sizes lengths
  fitting e =
      let f = both_pass _ _ e in
      let g = both_pass _ _ f.1 in
      let h = both_pass _ _ g.1 in
      let k = both_pass _ _ h.1 in
      let n = sized_pass s.size f.0 in
      record {
        some = n.0;
        few = n.1;
        short = leb-true (length s.transfers) 1024 (need_pass _ (refusal.Length 1) g.0);
        right = eqb-true _ _ (need_pass _ (refusal.Length 2) h.0);
        box = eqb-true _ _ (need_pass _ (refusal.Length 3) k.0);
      }
