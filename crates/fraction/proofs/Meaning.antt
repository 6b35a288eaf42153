-- The claim of specs/Meaning.antt.
use Rattle.fraction.specs.Meaning.{Meaning}
use Rattle.fraction.proofs.Sum.{sum_hull, difference_hull}
use Rattle.fraction.proofs.Product.{product_hull}
use Rattle.fraction.proofs.Quotient.{quotient_hull}

pub meaning : Meaning
meaning s = record { sum = sum_hull; difference = difference_hull; product = product_hull s; quotient = quotient_hull s }
