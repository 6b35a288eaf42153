use native.Mathlib.Omega.{arith}
use Rattle.text.proofs.Head.{stops}
use Rattle.text.proofs.Spans.{name_none, name_outside, name_span_lem, empty_part, named_part}
use Rattle.text.proofs.name.Goals as goal

pub returns-in_default : goal.returns-in_default
returns-in_default c =
    let q = empty_part _ _ c.args.text.ref_ptr (name_none _ _ c.in_default.ensures) in record { start = q.0; size = q.1.0; bytes = q.1.1 }

pub returns-then-component-lt1 : goal.returns-then-component-lt1
returns-then-component-lt1 c =
    let q = empty_part _ _ c.args.text.ref_ptr (name_outside _ _ c.in-Ok.ensures c.then-component-lt1.either) in record { start = q.0; size = q.1.0; bytes = q.1.1 }

pub returns : goal.returns
returns c =
    let w = c.in-Ok.ensures in
    let q = named_part _ _ c.args.text.ref_ptr _ _ (omega (arith, c.stop_from-end.ensures.1, stops w, w.inside))
    (name_span_lem _ _ w c.if-component-lt1.false c.if-component-h.false _ _ c.start_of-start.ensures.value.0 c.start_of-start.ensures.line_value c.stop_from-end.ensures.0) in record { start = q.0; size = q.1.0; bytes = q.1.1 }
