use Rattle.transfers.proofs.Terms.{term_small, two_fit}
use Rattle.transfers.proofs.internal.terms.two.Goals as goal

pub sum-requires : goal.sum-requires
sum-requires c =
    let p = c.requires.k_in_bounds.1 in
    let s = c.requires.x_len.1 in
    rw (c.term.ensures, c.term-2.ensures) (two_fit (term_small p.0 s) (term_small p.1 s))
