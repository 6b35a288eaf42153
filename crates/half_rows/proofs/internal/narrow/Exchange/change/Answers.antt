use Rattle.half_rows.proofs.Renewed.{lo_safe, hi_safe, change_is}
use Rattle.half_rows.proofs.internal.narrow.Exchange.change.Goals as goal

pub overflow_sub-result : goal.overflow_sub-result
overflow_sub-result c = let s = c.args.self in lo_safe _ _ _ c.requires (s.old_sound, s.new_sound) c.exact_product-p.ensures c.exact_product-q.ensures

pub overflow_sub-result-2 : goal.overflow_sub-result-2
overflow_sub-result-2 c = let s = c.args.self in hi_safe _ _ _ c.requires (s.old_sound, s.new_sound) c.exact_product-p.ensures c.exact_product-q.ensures

pub returns : goal.returns
returns c = let s = c.args.self in change_is _ _ _ c.requires (s.old_sound, s.new_sound) c.exact_product-p.ensures c.exact_product-q.ensures
