-- The definitions give document 01's starred samples and the program's sample, by computation.
use mathlib.Core.Path.{refl}
use mathlib.Core.Option.{bind}
use Rattle.integer.specs.Rounding.{floor_div, ceil_div}
use Rattle.integer.specs.Extremes.{minimum, maximum}
use Rattle.outcome.specs.Run.{and_then, ended}
use Rattle.interval.specs.Interval.{scale, lowest, highest, within, in_range, acceptable, contains_zero, exact_sum, exact_difference, intersection, is_empty, exact_product, rounded, product_at, quotient_at}
use Rattle.interval.specs.Answer.{tested, ranged, divided}
use Rattle.inputs.specs.Place.{at, put}
use Rattle.inputs.specs.Tests as tests
use Rattle.rows.specs.Sum.{exactly, once}
use Rattle.forward.specs.Run.{in_range_then}
use Rattle.forward.specs.Pivot.{lowest_from, lowest_row, in_place, exchanged, swapped_columns, swapped}
use Rattle.forward.specs.Forward.{taking, columns, right_side, rows, pivots, forward}
use Rattle.inputs.specs.System as inputs
use Rattle.elimination.specs.Back.{numerator, back}
use Rattle.forward.specs.Formed.{identity, formed_row, formed_rows}
use Rattle.elimination.specs.Call as elimination
use Rattle.sweep.specs.Pass as pass
use Rattle.sweep.specs.Call as swept
use Rattle.sweep.specs.Calls.{run_by, returned_by}
use Rattle.text.specs.Bytes.{bytes}
use Rattle.text.specs.Parts.{longer, parts}
use Rattle.text.specs.Number.{is_digit, digits, plain, magnitude, below, number, both_ends, value, then, values}
use Rattle.text.specs.Names.{name_byte, all_bytes, is_name, same, among, each_name, are_names}
use Rattle.text.specs.Text as text
use Rattle.report.specs.Decimal.{digits_within, natural, decimal}
use Rattle.report.specs.Sheet.{bound, further, bounds, settled, counted, calculated}
use Rattle.report.specs.Call as report
use Rattle.samples.specs.Table.{Agrees}
use Rattle.samples.specs.Sheet.{Prints}

all : Agrees × Prints
unfolding bind floor_div ceil_div minimum maximum and_then ended scale lowest highest within in_range acceptable contains_zero exact_sum exact_difference intersection is_empty exact_product rounded product_at quotient_at tested ranged divided at put tests.both tests.need tests.sized tests.lengths tests.sizes tests.proper tests.all_proper tests.tested exactly once in_range_then lowest_from lowest_row in_place exchanged swapped_columns swapped taking columns right_side rows pivots forward numerator back identity formed_row formed_rows elimination.copied elimination.box elimination.solved inputs.tests elimination.run_A elimination.run_B pass.component pass.along pass.up pass.sweep pass.differs pass.differ swept.sweeps swept.allowance swept.tests run_by returned_by bytes longer parts is_digit digits plain magnitude below number both_ends value then values name_byte all_bytes is_name same among each_name are_names text.first_line text.head text.on_line text.before text.at_end text.rows_from text.reading digits_within natural decimal bound further bounds settled counted calculated report.onward report.calculation report.solved report.reached report.sheet report.sheet_or_refusal report.printed
all = ((refl, (refl, (refl, (refl, (refl, (refl, (refl, (refl, (refl, (refl, (refl, (refl, (refl, (refl, (refl, (refl, (refl, (refl, tt)))))))))))))))))), refl)

pub agree : Agrees
agree = all.0

pub prints : Prints
prints = all.1
